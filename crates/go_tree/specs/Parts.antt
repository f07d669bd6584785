-- Parts of statements (Go specification, Expression statements).
use Rattle.std.specs.Prelude.{Option, Some, None}
use Rattle.go_tree.specs.declared.spans.Span.{Span}
use Rattle.go_tree.specs.Tree.{Expr, Stmt, eval}

-- the expression of a statement that is one alone
abbrev pub evaluated : Stmt Span → Option (Expr Span)
evaluated (eval s e) = Some e
evaluated _ = None
