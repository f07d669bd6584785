use Rattle.std.proofs.Common.{◌≡◌, take}
use Rattle.go_depth.specs.Depth.{capped, greatest}
use Rattle.go_depth.specs.Deep.{expr_deep, stmt_deep, elem_deep, arm_deep, case_deep, const_spec_deep, var_spec_deep}
use Rattle.go_depth.proofs.+tree_depth.Given as goal

abbrev pub invariant-depth_exprs::exprs_depth-loop-expr : goal.invariant-depth_exprs::exprs_depth-loop-expr
invariant-depth_exprs::exprs_depth-loop-expr l = l.deepest ≡ capped (greatest expr_deep (take l.expr-index l.expr-items))

abbrev pub invariant-depth_stmts::stmts_depth-loop-stmt : goal.invariant-depth_stmts::stmts_depth-loop-stmt
invariant-depth_stmts::stmts_depth-loop-stmt l = l.deepest ≡ capped (greatest stmt_deep (take l.stmt-index l.stmt-items))

abbrev pub invariant-depth_exprs::elems_depth-loop-elem : goal.invariant-depth_exprs::elems_depth-loop-elem
invariant-depth_exprs::elems_depth-loop-elem l = l.deepest ≡ capped (greatest elem_deep (take l.elem-index l.elem-items))

abbrev pub invariant-depth_stmts::arms_depth-loop-arm : goal.invariant-depth_stmts::arms_depth-loop-arm
invariant-depth_stmts::arms_depth-loop-arm l = l.deepest ≡ capped (greatest arm_deep (take l.arm-index l.arm-items))

abbrev pub invariant-depth_stmts::cases_depth-loop-case : goal.invariant-depth_stmts::cases_depth-loop-case
invariant-depth_stmts::cases_depth-loop-case l = l.deepest ≡ capped (greatest case_deep (take l.case-index l.case-items))

abbrev pub invariant-depth_stmts::const_specs_depth-loop-spec : goal.invariant-depth_stmts::const_specs_depth-loop-spec
invariant-depth_stmts::const_specs_depth-loop-spec l = l.deepest ≡ capped (greatest const_spec_deep (take l.spec-index l.spec-items))

abbrev pub invariant-depth_stmts::var_specs_depth-loop-spec : goal.invariant-depth_stmts::var_specs_depth-loop-spec
invariant-depth_stmts::var_specs_depth-loop-spec l = l.deepest ≡ capped (greatest var_spec_deep (take l.spec-index l.spec-items))
