use Rattle.std.proofs.Common.{◌≡◌, take, map}
use Rattle.go_tree.specs.View.{expr_of, stmt_of, elem_of, arm_of, case_of, const_spec_of, var_spec_of}
use Rattle.call_forms.specs.Written.{written_expr, written_elem, written_stmt, written_arm, written_case, written_spec}
use Rattle.call_forms.proofs.+written_tree.Given as goal

abbrev pub invariant-exprs::written_exprs-loop-expr : goal.invariant-exprs::written_exprs-loop-expr
invariant-exprs::written_exprs-loop-expr l = map expr_of l.copies.items ≡ map (λ x. written_expr l.there (expr_of x))
    (take l.expr-index l.expr-items)

abbrev pub invariant-stmts::written_stmts-loop-stmt : goal.invariant-stmts::written_stmts-loop-stmt
invariant-stmts::written_stmts-loop-stmt l = map stmt_of l.copies.items ≡ map (λ x. written_stmt l.there (stmt_of x))
    (take l.stmt-index l.stmt-items)

abbrev pub invariant-exprs::written_elems-loop-elem : goal.invariant-exprs::written_elems-loop-elem
invariant-exprs::written_elems-loop-elem l = map elem_of l.copies.items ≡ map (λ x. written_elem l.there (elem_of x))
    (take l.elem-index l.elem-items)

abbrev pub invariant-stmts::written_arms-loop-arm : goal.invariant-stmts::written_arms-loop-arm
invariant-stmts::written_arms-loop-arm l = map arm_of l.copies.items ≡ map (λ x. written_arm l.there (arm_of x)) (take
    l.arm-index l.arm-items)

abbrev pub invariant-stmts::written_cases-loop-case : goal.invariant-stmts::written_cases-loop-case
invariant-stmts::written_cases-loop-case l = map case_of l.copies.items ≡ map (λ x. written_case l.there (case_of x))
    (take l.case-index l.case-items)

abbrev pub invariant-stmts::written_const_specs-loop-spec : goal.invariant-stmts::written_const_specs-loop-spec
invariant-stmts::written_const_specs-loop-spec l = map const_spec_of l.copies.items ≡ map (λ x. written_spec l.there
    (const_spec_of x)) (take l.spec-index l.spec-items)

abbrev pub invariant-stmts::written_var_specs-loop-spec : goal.invariant-stmts::written_var_specs-loop-spec
invariant-stmts::written_var_specs-loop-spec l = map var_spec_of l.copies.items ≡ map (λ x. written_spec l.there
    (var_spec_of x)) (take l.spec-index l.spec-items)
