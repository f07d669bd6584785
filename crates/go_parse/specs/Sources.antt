-- Why a text reads as no file (Go specification, Source file organization).
use Rattle.std.specs.Prelude.{ℕ, List, length, Some, None}
use Rattle.std.specs.Str.{IsValidUpTo}
use Rattle.go_tree.specs.declared.tokens.Token.{Token}
use Rattle.go_tree.specs.declared.tokens.Comment.{Comment}
use Rattle.go_tree.specs.GoWords.Terminals.{lexemes}
use Rattle.go_tree.specs.GoWords.Tokens.{TokensOf, StopsAt}
use Rattle.go_scan.specs.Scanned.{HasNoTokens}
use Rattle.go_nesting.specs.declared.counts.TheConstants.{MAX_LIMIT}
use Rattle.go_nesting.specs.Over.{IsFirstOver}
use Rattle.go_nesting.specs.Sources.{IsSupported, IsUnsupportedAt}
use Rattle.go_read.specs.Fronts.{IsRefusedAt}
use Rattle.go_parse.specs.declared.source.ReadError.{ReadError}
use Rattle.go_parse.specs.declared.source.ReadError.TheVariants.{NotUtf8, BadToken, Unsupported, TooDeep, NotRead}
use Rattle.go_parse.specs.declared.source.ReadError.TheVariants.{NoMemory}

-- why the tokens of a text have no tree
abbrev pub RefusesTokens : List ℕ → List Token → List Comment → ReadError → Type 0
RefusesTokens text tokens comments (Unsupported place) = IsUnsupportedAt text tokens comments place
RefusesTokens text tokens comments (TooDeep place) = IsSupported text tokens comments
    × IsFirstOver MAX_LIMIT tokens (Some place)
RefusesTokens text tokens comments (NotRead place) = IsSupported text tokens comments
    × IsFirstOver MAX_LIMIT tokens None × IsRefusedAt (length text) (lexemes tokens) place
RefusesTokens text tokens comments _ = ⊥

-- the text has tokens, and this is why they have no tree
pub record HasTokens (text : List ℕ) (error : ReadError) : Type 0 where
  pub tokens : List Token
  pub comments : List Comment
  pub words : TokensOf text tokens comments
  pub refused : RefusesTokens text tokens comments error

-- why a text isn't read
abbrev pub RefusesText : List ℕ → ReadError → Type 0
RefusesText text (NotUtf8 place) = IsValidUpTo text place × HasNoTokens text
RefusesText text (BadToken place) = StopsAt text place × HasNoTokens text
RefusesText text (Unsupported place) = HasTokens text (Unsupported place)
RefusesText text (TooDeep place) = HasTokens text (TooDeep place)
RefusesText text (NotRead place) = HasTokens text (NotRead place)
RefusesText text NoMemory = ⊥
