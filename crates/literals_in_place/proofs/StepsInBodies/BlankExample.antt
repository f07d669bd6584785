-- A literal of a function that is typed, and yet uses `_`: a member of a group of constants without values isn't looked at for its type. The grammar has no such member, and no file reads as one.
--   func() { const (A = 1; B _) }
use Rattle.std.specs.Prelude.{◌≡◌, refl, true, [], ◌∷◌, Some, None, codes}
use Rattle.go_tree.specs.declared.spans.Span.{Span}
use Rattle.go_tree.specs.Tree.{NameAt, Expr, named, int_lit, func_lit, no_exprs, expr_and, const_decl, no_stmts, stmt_and, no_specs, spec}
use Rattle.go_tree.specs.GoTypes.Answers.{is_among}
use Rattle.go_tree.specs.GoTypes.Entities.{Env}
use Rattle.go_tree.specs.GoTypes.Operands.{a_function}
use Rattle.go_tree.specs.GoTypes.Typing.{parts, used}
use Rattle.literals_in_place.specs.StepsInBodies.NoConstants.{NoneInExpr}
use Rattle.literals_in_place.proofs.Example.{at}

repeating : Expr Span
repeating =
    func_lit (at 1) (record { params = []; results = [] }) (at 2)
    (stmt_and
    (const_decl (at 3) true
    (spec (at 4) (record { span = at 4; name = codes "A" } ∷ []) None (expr_and (int_lit (at 5) (codes "1")) no_exprs)
    (spec (at 6) (record { span = at 6; name = codes "B" } ∷ []) (Some (named (at 7) None (record { span = at 7; name = codes "_" }))) no_exprs no_specs)))
    no_stmts)

is_typed : (a : Env) → parts a repeating ≡ Some (a_function (record { params = []; results = [] }))
unfolding repeating
is_typed a = refl

uses_blank : (a : Env) → is_among (codes "_") (used a repeating) ≡ true
unfolding repeating
uses_blank a = refl

-- so the law asks that no constants are declared
declares_some : NoneInExpr repeating → ⊥
unfolding repeating
declares_some c = c.0
