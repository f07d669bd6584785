-- What a text reads as (Go specification, Source file organization).
use Rattle.std.specs.Prelude.{◌≡◌, ℕ, List, Some, None}
use Rattle.go_tree.specs.declared.spans.Span.{Span}
use Rattle.go_tree.specs.declared.tokens.Token.{Token}
use Rattle.go_tree.specs.declared.tokens.Comment.{Comment}
use Rattle.go_tree.specs.File.{File}
use Rattle.go_tree.specs.GoWords.Tokens.{TokensOf}
use Rattle.go_scan.specs.Unsupported.{IsFirst, unsupported_spans}
use Rattle.go_nesting.specs.declared.counts.TheConstants.{MAX_LIMIT}
use Rattle.go_nesting.specs.Over.{IsFirstOver}
use Rattle.go_read.specs.SpellsFiles.{SpellsFile}

-- each word is supported
abbrev pub IsSupported : List ℕ → List Token → List Comment → Type 0
IsSupported text tokens comments = IsFirst (unsupported_spans text tokens comments) None

-- the first word that isn't supported starts here
abbrev pub IsUnsupportedAt : List ℕ → List Token → List Comment → ℕ → Type 0
IsUnsupportedAt text tokens comments place = (span : Span)
    × IsFirst (unsupported_spans text tokens comments) (Some span) × (place ≡ span.start)

-- each word is supported, no token nests too deeply, and the tokens spell this tree
abbrev pub IsTree : List ℕ → List Token → List Comment → File Span → Type 0
IsTree text tokens comments tree = IsSupported text tokens comments × IsFirstOver MAX_LIMIT tokens None
    × SpellsFile tokens tree

-- these are the tokens and comments of the text, and this is its tree
abbrev pub IsSource : List ℕ → List Token → List Comment → File Span → Type 0
IsSource text tokens comments tree = TokensOf text tokens comments × IsTree text tokens comments tree
