-- A layout whose pieces are those of its text, in front of what follows.
use Rattle.std.specs.Prelude.{◌≡◌, ℕ, ◌==◌, Bool, true, ◌||◌, List, [], ◌∷◌, ◌++◌}
use Rattle.std.specs.Prelude.{encode_utf8_all}
use Rattle.std.specs.Str.{all_scalars}
use Rattle.go_tree.specs.declared.tokens.TokenKind.{TokenKind}
use Rattle.go_tree.specs.GoWords.Tokens.Characters.{each}
use Rattle.go_tree.specs.GoWords.Tokens.Pieces.{blanks, token, IsNext}
use Rattle.go_layout.specs.Layouts.{Layout, no_text, a_token, gap, line, ◌⊕◌}
use Rattle.go_layout.specs.LayoutLaws.LayoutPieces.{word_of, letters_of, due_of}

-- the token is the next piece
pub record IsLaid (kind : TokenKind) (spelling more : List ℕ) : Type 0 where
  pub next : IsNext (word_of kind spelling ++ more) (token kind) (word_of kind spelling) more
  pub scalars : all_scalars (word_of kind spelling) ≡ true
  pub encoded : encode_utf8_all (word_of kind spelling) ≡ spelling

-- spaces and tabs
abbrev pub is_indent : List ℕ → Bool
is_indent indent = each (λ c. c == 32 || c == 9) indent

-- the newline and its indent are the next piece
pub record IsLineLaid (indent more : List ℕ) : Type 0 where
  pub next : IsNext (10 ∷ indent ++ more) blanks (10 ∷ indent) more
  pub spaces : is_indent indent ≡ true

-- Each piece is the next one where it stands, and a newline gives a semicolon exactly where it stands for one.
abbrev pub Laid : Layout → Bool → List ℕ → Type 0
Laid no_text due more = Unit {0}
Laid (a_token kind spelling) due more = IsLaid kind spelling more
Laid gap due more = IsNext (32 ∷ more) blanks (32 ∷ []) more
Laid (line ends indent) due more = (ends ≡ due) × IsLineLaid indent more
Laid (a ⊕ b) due more = Laid a due (letters_of b more) × Laid b (due_of a due) more
