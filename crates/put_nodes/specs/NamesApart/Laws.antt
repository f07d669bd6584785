-- The law of what stands behind what is called. It is the contract of a function of this crate (Go specification,
-- Tokens; Calls).
use Rattle.std.specs.Prelude.{◌≡◌, ℕ, Bool, false, List, drop}
use Rattle.go_tree.specs.declared.spans.Span.{Span}
use Rattle.go_tree.specs.declared.tokens.Token.{Token}
use Rattle.go_tree.specs.declared.tokens.Comment.{Comment}
use Rattle.go_tree.specs.Tree.{Expr}
use Rattle.go_tree.specs.File.{File}
use Rattle.go_tree.specs.FileBare.{bare_file}
use Rattle.go_tree.specs.GoWords.Tokens.{TokensOf}
use Rattle.go_read.specs.SpellsFiles.{SpellsFile}
use Rattle.splice_laws.specs.Dots.{UndottedFile}
use Rattle.splice_laws.specs.Fits.{expr_mark}
use Rattle.splice_laws.specs.Joints.{begins_with_dot}
use Rattle.splice_laws.specs.Swaps.{a_callee, FileIn}

-- In a text of a file in which no selector stands on an integer literal, no dot stands directly behind what is called.
abbrev pub CallsStandBeforeNoDot : Type 0
CallsStandBeforeNoDot =
    (text : List ℕ) (tokens : List Token) (comments : List Comment) (file new : File Span) (header : Bool)
    (e f : Expr Span) → TokensOf text tokens comments → SpellsFile tokens file → UndottedFile (bare_file file)
    → FileIn (a_callee header e f) file new → begins_with_dot (drop (expr_mark e).end text) ≡ false
