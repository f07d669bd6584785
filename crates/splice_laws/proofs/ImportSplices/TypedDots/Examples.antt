-- Dots behind the arguments of a call, by examples (Go specification, Passing arguments to ... parameters).
use Rattle.std.proofs.Common.{codes, refl}
use Rattle.go_tree.specs.declared.exprs.Rest.{Rest}
use Rattle.go_tree.specs.declared.exprs.Rest.TheVariants.{Plain, Whole}
use Rattle.go_tree.specs.Tree.{Expr, ident, int_lit, call, expr_and, no_exprs}
use Rattle.splice_laws.specs.Dots.{UndottedExpr}
use Rattle.splice_laws.specs.ImportSplices.TypedDots.Unspread.{UnspreadExpr}

-- `f(x)`, with dots or without
abbrev f_of : Expr (Unit {0}) → Rest → Expr (Unit {0})
f_of x rest = call tt (ident tt (codes "f")) (expr_and x no_exprs) rest

-- `f(1)` hands on no slice
plain_call : UnspreadExpr (f_of (int_lit tt (codes "1")) Plain)
plain_call = (tt, (tt, tt), tt)

-- `f(xs...)` does, and is undotted all the same
whole_call : UnspreadExpr (f_of (ident tt (codes "xs")) Whole) → ⊥
whole_call u = u.2

whole_undotted : UndottedExpr (f_of (ident tt (codes "xs")) Whole)
whole_undotted = (tt, (tt, tt), refl)

-- `f(1 ...)` isn't
number_handed_on : UndottedExpr (f_of (int_lit tt (codes "1")) Whole) → ⊥
number_handed_on u = let x = u.2 in cc
