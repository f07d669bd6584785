-- Where a spec has two names, the number of a constant isn't that of its spec: no type is written for B, but for the spec
-- with B's number one is. So the type is told by names.
--   const ( A, B = D, D; C int = D )
use Rattle.std.proofs.Common.{◌≡◌, refl, ℕ, true, [], ◌∷◌, None, Some, codes}
use Rattle.go_tree.specs.Tree.{NameAt, TypeExpr, named, Expr, ident, no_exprs, expr_and, const_decl, no_specs, spec}
use Rattle.go_tree.specs.File.{Decl, values}
use Rattle.constant_steps.specs.Alone.{type_in}
use Rattle.constant_modules.specs.ConstantsOfGroups.Groups.{written_type}

abbrev name : ℕ → NameAt ℕ
name n = record { span = n; name = codes "X" }

abbrev value : Expr ℕ
value = ident 5 (codes "D")

abbrev int : TypeExpr ℕ
int = named 8 None (record { span = 8; name = codes "int" })

abbrev group : Decl ℕ
group = values (const_decl 0 true (spec 1 (name 1 ∷ name 2 ∷ []) None (expr_and value (expr_and value no_exprs)) (spec 7 (name 7 ∷ []) (Some int) (expr_and value no_exprs) no_specs)))

none_is_written : written_type group 1 ≡ None
none_is_written = refl

one_is_found : type_in group 1 ≡ Some int
one_is_found = refl
