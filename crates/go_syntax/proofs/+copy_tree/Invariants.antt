use Rattle.std.proofs.Common.{◌≡◌, take, map}
use Rattle.go_tree.specs.View.{expr_of, stmt_of, elem_of, arm_of, case_of, const_spec_of, var_spec_of}
use Rattle.go_syntax.proofs.+copy_tree.Given as goal

abbrev pub invariant-copy_exprs::copy_exprs-loop-expr : goal.invariant-copy_exprs::copy_exprs-loop-expr
invariant-copy_exprs::copy_exprs-loop-expr l = map expr_of l.copies.items ≡ map expr_of (take l.expr-index l.expr-items)

abbrev pub invariant-copy_stmts::copy_stmts-loop-stmt : goal.invariant-copy_stmts::copy_stmts-loop-stmt
invariant-copy_stmts::copy_stmts-loop-stmt l = map stmt_of l.copies.items ≡ map stmt_of (take l.stmt-index l.stmt-items)

abbrev pub invariant-copy_exprs::copy_elems-loop-elem : goal.invariant-copy_exprs::copy_elems-loop-elem
invariant-copy_exprs::copy_elems-loop-elem l = map elem_of l.copies.items ≡ map elem_of (take l.elem-index l.elem-items)

abbrev pub invariant-copy_stmts::copy_arms-loop-arm : goal.invariant-copy_stmts::copy_arms-loop-arm
invariant-copy_stmts::copy_arms-loop-arm l = map arm_of l.copies.items ≡ map arm_of (take l.arm-index l.arm-items)

abbrev pub invariant-copy_stmts::copy_cases-loop-case : goal.invariant-copy_stmts::copy_cases-loop-case
invariant-copy_stmts::copy_cases-loop-case l = map case_of l.copies.items ≡ map case_of (take l.case-index l.case-items)

abbrev pub invariant-copy_stmts::copy_const_specs-loop-spec : goal.invariant-copy_stmts::copy_const_specs-loop-spec
invariant-copy_stmts::copy_const_specs-loop-spec l = map const_spec_of l.copies.items ≡ map const_spec_of (take l.spec-index l.spec-items)

abbrev pub invariant-copy_stmts::copy_var_specs-loop-spec : goal.invariant-copy_stmts::copy_var_specs-loop-spec
invariant-copy_stmts::copy_var_specs-loop-spec l = map var_spec_of l.copies.items ≡ map var_spec_of (take l.spec-index l.spec-items)
