-- A use in a member of a group of constants that a later member repeats stays; and what the definitions leave out.
--   package main: const D = 7; const C = D; func main() { const ( E = C; F ) }
use Rattle.std.specs.Prelude.{◌≡◌, refl, ℕ, true, [], ◌∷◌, Some, None, codes, nat_eq}
use Rattle.std.proofs.Common.{arith}
use mathlib.Core.Path.{sym, ◌∙◌}
use Rattle.go_tree.specs.Tree.{Expr, ident, int_lit, func_lit, no_exprs, expr_and, const_decl, ValueSpecs, no_specs, spec, Stmts, no_stmts, stmt_and, struct_type, no_fields, field}
use Rattle.go_tree.specs.Tree as tree
use Rattle.run_rules.specs.Obstacles.{Repeated}
use Rattle.run_rules.specs.Reduced.{kept, reduced}
use Rattle.constant_steps.specs.PlainUse.{PlainUse}
use Rattle.constants_anywhere.specs.Groups.{RepeatsBodiless}
use Rattle.constants_anywhere.specs.Literals.{ExportedFields}
use Rattle.constants_anywhere.proofs.ExampleParts.{named, marks, no_comments, program, use_of_c}

abbrev body_with : Expr ℕ → Stmts ℕ
body_with e =
    stmt_and (const_decl 40 true (spec 41 (named 41 (codes "E") ∷ []) None (expr_and e no_exprs)
    (spec 42 (named 42 (codes "F") ∷ []) None no_exprs no_specs))) no_stmts

stays : reduced nat_eq no_comments (program body_with []) marks (use_of_c body_with []) ≡ Some (kept Repeated)
stays = refl

not_plain : PlainUse nat_eq no_comments (program body_with []) marks (use_of_c body_with []) → ⊥
not_plain u = grind (arith, sym stays ∙ u.reduces)

-- ---- what the definitions leave out

-- a group in which a function literal is repeated
abbrev with_body : ValueSpecs ℕ
with_body =
    spec 1 (named 1 (codes "E") ∷ []) None (expr_and (func_lit 2 (record { params = []; results = [] }) 3 no_stmts) no_exprs)
    (spec 4 (named 4 (codes "F") ∷ []) None no_exprs no_specs)

not_bodiless : RepeatsBodiless with_body → ⊥
not_bodiless h = grind (arith, h.0 refl)

-- a struct type with a field that isn't exported, and one with an exported field
not_exported : ExportedFields {S = ℕ} (struct_type 1 (field 2 (named 2 (codes "c")) (tree.named 3 None (named 3 (codes "int"))) no_fields)) → ⊥
not_exported h = grind (arith, h.0)

all_exported : ExportedFields {S = ℕ} (struct_type 1 (field 2 (named 2 (codes "C")) (tree.named 3 None (named 3 (codes "int"))) no_fields))
all_exported = (refl, (tt, tt))
