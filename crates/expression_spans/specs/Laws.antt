-- The laws of the spans of expressions. Each is the contract of a function of this crate.
use Rattle.std.specs.Prelude.{◌≡◌, ℕ, true, List}
use Rattle.std.specs.List.{list_all}
use Rattle.go_tree.specs.declared.spans.Span.{Span}
use Rattle.go_tree.specs.declared.tokens.Token.{Token}
use Rattle.go_tree.specs.declared.tokens.Comment.{Comment}
use Rattle.go_tree.specs.File.{File}
use Rattle.go_tree.specs.GoWords.Tokens.{TokensOf}
use Rattle.go_read.specs.SpellsFiles.{SpellsFile}
use Rattle.expression_spans.specs.Spans.{decls_spans}
use Rattle.expression_spans.specs.Order.{ascends, holds_its_own, decls_stand_apart}

-- where the tokens of a text spell a file, the spans of its expressions ascend, so no two are the same
abbrev pub ExpressionsAscend : Type 0
ExpressionsAscend =
    (text : List ℕ) (tokens : List Token) (comments : List Comment) (f : File Span) → TokensOf text tokens comments →
    SpellsFile tokens f → ascends (decls_spans f.decls) ≡ true

-- and each has a byte, and lies in its declaration
abbrev pub ExpressionsLieInDeclarations : Type 0
ExpressionsLieInDeclarations =
    (text : List ℕ) (tokens : List Token) (comments : List Comment) (f : File Span) → TokensOf text tokens comments →
    SpellsFile tokens f → list_all holds_its_own f.decls ≡ true

-- and the declarations stand one behind the other
abbrev pub DeclarationsStandApart : Type 0
DeclarationsStandApart =
    (text : List ℕ) (tokens : List Token) (comments : List Comment) (f : File Span) → TokensOf text tokens comments →
    SpellsFile tokens f → decls_stand_apart f.decls ≡ true
