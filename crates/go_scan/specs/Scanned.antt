-- What a scan answers.
use Rattle.std.specs.Prelude.{◌≡◌, ℕ, List, ◌++◌, map, ⊤}
use Rattle.std.specs.Str.{IsValidUpTo}
use Rattle.go_tree.specs.declared.tokens.Token.{Token}
use Rattle.go_tree.specs.declared.tokens.Comment.{Comment}
use Rattle.go_tree.specs.GoWords.Codes.{terminal_at}
use Rattle.go_tree.specs.GoWords.Tokens.{TokensOf, StopsAt, tokens_at, due_after, comments_at}
use Rattle.go_tree.specs.GoWords.Tokens.Pieces.{PieceKind}
use Rattle.go_scan.specs.declared.scanner.ScanError.{ScanError}
use Rattle.go_scan.specs.declared.scanner.ScanError.TheVariants.{NotUtf8, BadToken, NoMemory}
use Rattle.go_scan.specs.declared.lists.Lists.{Lists}

-- Why a text has no tokens: the first bytes before this one are UTF-8 and no more of them are, or the text is UTF-8 and
-- no piece is next at this byte. Want of memory says nothing of the text.
abbrev pub Refuses : List ℕ → ScanError → Type 0
Refuses text (NotUtf8 place) = IsValidUpTo text place
Refuses text (BadToken place) = StopsAt text place
Refuses text NoMemory = ⊤

-- no tokens are those of the text
abbrev pub HasNoTokens : List ℕ → Type 0
HasNoTokens text = (tokens : List Token) (comments : List Comment) → TokensOf text tokens comments → ⊥

-- the piece's tokens, their terminals and its comments are added
pub record Adds (old new : Lists) (at : ℕ) (kind : PieceKind) (word : List ℕ) : Type 0 where
  pub tokens : new.tokens.items ≡ old.tokens.items ++ tokens_at at old.due kind word
  pub terminals : new.terminals.items ≡ old.terminals.items ++ map terminal_at (tokens_at at old.due kind word)
  pub due : new.due ≡ due_after at old.due kind word
  pub comments : new.comments.items ≡ old.comments.items ++ comments_at at kind word
