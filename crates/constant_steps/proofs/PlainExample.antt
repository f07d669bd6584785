-- Plain declarations: a group of constants with a type, which repeats an expression, a variable with a type, a type, and
-- a function.
--   const (
--       Red Number = iota
--       Green
--   )
--   var total int = 1
--   type Number int
--   func main() { }
use Rattle.std.specs.Prelude.{true, false, List, [], ◌∷◌, Some, None}
use Rattle.go_tree.specs.Tree.{NameAt, TypeExpr, Expr, no_exprs, expr_and, const_decl, var_decl, no_specs, spec}
use Rattle.go_tree.specs.File.{TypeSpec, Func, Decl, values, types, func}
use Rattle.constant_steps.specs.Alone.{no_constants, and_typed, and_repeated, no_variables, and_variable, constants_alone, variables_alone, some_types, a_function, PlainDecls, no_decls, and_decl}

module _ {S : Type 0} (s : S) (red green total : NameAt S) (t number : TypeExpr S) (e v : Expr S) (numbers : TypeSpec S) (main : Func S) where
  decls : List (Decl S)
  decls =
      values (const_decl s true (spec s (red ∷ []) (Some number) (expr_and e no_exprs) (spec s (green ∷ []) None no_exprs no_specs)))
      ∷ values (var_decl s false (spec s (total ∷ []) (Some t) (expr_and v no_exprs) no_specs))
      ∷ types s false (numbers ∷ [])
      ∷ func main ∷ []

  plain : PlainDecls decls
  unfolding decls
  plain = and_decl (constants_alone (and_typed (and_repeated no_constants))) (and_decl (variables_alone (and_variable no_variables)) (and_decl some_types (and_decl a_function no_decls)))
