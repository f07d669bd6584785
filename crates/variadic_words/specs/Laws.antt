-- The law of files without variadic syntax. It is the contract of a function of this crate (Go specification, Passing
-- arguments to ... parameters).
use Rattle.std.specs.Prelude.{◌≡◌, false, List}
use Rattle.std.specs.List.{list_any}
use Rattle.go_tree.specs.declared.spans.Span.{Span}
use Rattle.go_tree.specs.declared.tokens.Token.{Token}
use Rattle.go_tree.specs.File.{File}
use Rattle.go_read.specs.SpellsFiles.{SpellsFile}
use Rattle.splice_laws.specs.ImportSplices.TypedDots.Unspread.{UnspreadFile}
use Rattle.variadic_words.specs.Dots.{is_dots}

-- No call of a file without `...` hands on a slice for its last arguments.
abbrev pub FilesWithoutDots : Type 0
FilesWithoutDots =
    (tokens : List Token) (tree : File Span) → SpellsFile tokens tree → list_any is_dots tokens ≡ false
    → UnspreadFile tree
