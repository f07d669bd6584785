-- What a literal looks up, as its type is at the top of the file: a key of a struct names a field, and one of a map is an
-- expression. Where the type's name is declared around, the key counts.
--   T{true: ""}
use Rattle.std.proofs.Common.{◌≡◌, refl, ℕ, [], ◌∷◌, None, codes}
use Rattle.go_tree.specs.declared.const_eval.kinds.Kind.TheVariants as kind
use Rattle.go_tree.specs.Tree.{named, Expr, ident, str_lit, composite, no_elems, elem, plain, some_value}
use Rattle.go_tree.specs.GoTypes.Entities.{type_name, Env}
use Rattle.go_tree.specs.GoTypes.Types.{GoType, basic, map_of, struct_of, no_go_fields, go_field}
use Rattle.field_keys.specs.Looked.{looked_expr}

abbrev literal : Expr ℕ
literal = composite 1 (named 1 None (record { span = 1; name = codes "T" })) (elem 2 (some_value (plain (ident 2 (codes "true")))) (plain (str_lit 3 (codes "\"\""))) no_elems)

-- the top of a file in which `T` is this type
abbrev top_with : GoType → Env
top_with t = record { names = (codes "T", type_name t) ∷ []; here = []; iota = None; home = 0; world = record { defined = []; blocks = [] } }

abbrev a_struct : GoType
a_struct = struct_of (go_field (codes "true") None (basic kind.Str) no_go_fields)

of_struct : looked_expr (top_with a_struct) [] literal ≡ codes "T" ∷ []
of_struct = refl

of_map : looked_expr (top_with (map_of (basic kind.Str) (basic kind.Str))) [] literal ≡ codes "T" ∷ codes "true" ∷ []
of_map = refl

declared_around : looked_expr (top_with a_struct) (codes "T" ∷ []) literal ≡ codes "true" ∷ []
declared_around = refl
