-- How deep an entry of a list of trees is.
use Rattle.std.specs.Prelude.{ℕ, ◌+◌, max, map}
use Rattle.std.specs.Option.{option_map}
use Rattle.go_tree.specs.View.{param_of, name_at_of, type_of, expr_of, exprs_of, stmt_of, stmts_of, value_of}
use Rattle.go_tree.specs.View.{held_value_option_of, boxed_stmt_option_of}
use Rattle.go_depth.specs.Depth.{depth_param, depth_names, depth_type, depth_type_option, depth_expr, depth_exprs}
use Rattle.go_depth.specs.Depth.{depth_stmt, depth_stmts, depth_value, depth_value_option, depth_stmt_option}
use Rattle.go_tree.specs.declared.types.Param.{Param}
use Rattle.go_tree.specs.declared.types.FieldSpec.{FieldSpec}
use Rattle.go_tree.specs.declared.exprs.Expr.{Expr}
use Rattle.go_tree.specs.declared.stmts.Stmt.{Stmt}
use Rattle.go_tree.specs.declared.exprs.Elem.{Elem}
use Rattle.go_tree.specs.declared.stmts.Arm.{Arm}
use Rattle.go_tree.specs.declared.stmts.Case.{Case}
use Rattle.go_tree.specs.declared.stmts.ConstSpec.{ConstSpec}
use Rattle.go_tree.specs.declared.stmts.VarSpec.{VarSpec}

-- how deep a field is, of a name and a type
abbrev pub field_deep : FieldSpec → ℕ
field_deep f = max 1 (depth_type (type_of f.of)) + 1

-- how deep an expression of a list is
abbrev pub expr_deep : Expr → ℕ
expr_deep e = depth_expr (expr_of e)

-- how deep a statement of a list is
abbrev pub stmt_deep : Stmt → ℕ
stmt_deep s = depth_stmt (stmt_of s)

-- how deep an element of a composite literal is, its key and its value
abbrev pub elem_deep : Elem → ℕ
elem_deep e = max (depth_value_option (held_value_option_of e.key)) (depth_value (value_of e.value)) + 1

-- how deep an arm of an `if` is: its first statement, its test, and its block
abbrev pub arm_deep : Arm → ℕ
arm_deep a =
    max (depth_stmt_option (boxed_stmt_option_of a.first))
    (max (depth_expr (expr_of a.test)) (depth_stmts (stmts_of a.body.stmts) + 1)) + 1

-- how deep a clause of a switch is: its expressions and its statements
abbrev pub case_deep : Case → ℕ
case_deep c = max (depth_exprs (exprs_of c.values)) (depth_stmts (stmts_of c.body)) + 1

-- how deep a constant spec is: its names, its type and its values
abbrev pub const_spec_deep : ConstSpec → ℕ
const_spec_deep c =
    max (depth_names (map name_at_of c.names))
    (max (depth_type_option (option_map type_of c.of)) (depth_exprs (exprs_of c.values))) + 1

-- how deep a variable spec is: its names, its type and its values
abbrev pub var_spec_deep : VarSpec → ℕ
var_spec_deep c =
    max (depth_names (map name_at_of c.names))
    (max (depth_type_option (option_map type_of c.of)) (depth_exprs (exprs_of c.values))) + 1

-- how deep a parameter or result is
abbrev pub param_deep : Param → ℕ
param_deep p = depth_param (param_of p)
