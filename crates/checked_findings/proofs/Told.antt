-- How the examples are told: types and constants without places, at the place of the examples of typing.
use Rattle.std.specs.Prelude.{ℕ, List, map, Option, codes}
use Rattle.go_tree.specs.declared.const_eval.kinds.Kind.TheVariants as kind
use Rattle.go_tree.specs.declared.const_eval.consts.Const.{Const}
use Rattle.go_tree.specs.Tree.{Stmts}
use Rattle.go_tree.specs.GoTypes.Types.{GoType, basic, named_type}
use Rattle.go_tree.proofs.GoTypes.Setting.{here}
use Rattle.checked_findings.specs.Laws.{nowhere}
use Rattle.checked_findings.specs.Found.{found_stmts}

-- the types and constants that are found in statements of a body with these results
abbrev pub told : List GoType → Stmts ℕ → List (GoType × Option Const)
told rs b = map (λ f. (f.type, f.constant)) (found_stmts nowhere rs here b)

abbrev pub int_type : GoType
int_type = basic kind.Int

abbrev pub type_T : GoType
type_T = named_type 0 (codes "T")
