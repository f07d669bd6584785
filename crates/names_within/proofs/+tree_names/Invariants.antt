use Rattle.std.proofs.Common.{◌≡◌, drop, map}
use Rattle.go_tree.specs.View.{expr_of, elem_of, stmt_of, arm_of, case_of, const_spec_of, var_spec_of}
use Rattle.go_tree.specs.Lists.{exprs_from, elems_from, stmts_from, arms_from, cases_from, specs_from}
use Rattle.names_within.specs.TreeWalk.{after_exprs, after_elems, after_stmts, after_arms, after_cases, after_specs}
use Rattle.name_walks.specs.Walk.{walk_of}
use Rattle.names_within.proofs.+tree_names.Given as goal

abbrev pub invariant-exprs::exprs_names-loop-expr : goal.invariant-exprs::exprs_names-loop-expr
invariant-exprs::exprs_names-loop-expr l =
    after_exprs (exprs_from (map expr_of (drop l.expr-index l.expr-items))) (walk_of l.names)
    ≡ after_exprs (exprs_from (map expr_of l.expr-items)) (walk_of l.initial.names)

abbrev pub invariant-exprs::elems_names-loop-elem : goal.invariant-exprs::elems_names-loop-elem
invariant-exprs::elems_names-loop-elem l =
    after_elems (elems_from (map elem_of (drop l.elem-index l.elem-items))) (walk_of l.names)
    ≡ after_elems (elems_from (map elem_of l.elem-items)) (walk_of l.initial.names)

abbrev pub invariant-stmts::stmts_names-loop-stmt : goal.invariant-stmts::stmts_names-loop-stmt
invariant-stmts::stmts_names-loop-stmt l =
    after_stmts (stmts_from (map stmt_of (drop l.stmt-index l.stmt-items))) (walk_of l.names)
    ≡ after_stmts (stmts_from (map stmt_of l.stmt-items)) (walk_of l.initial.names)

abbrev pub invariant-stmts::arms_names-loop-arm : goal.invariant-stmts::arms_names-loop-arm
invariant-stmts::arms_names-loop-arm l =
    after_arms l.to (arms_from (map arm_of (drop l.arm-index l.arm-items))) (walk_of l.names)
    ≡ after_arms l.to (arms_from (map arm_of l.arm-items)) (walk_of l.initial.names)

abbrev pub invariant-stmts::cases_names-loop-case : goal.invariant-stmts::cases_names-loop-case
invariant-stmts::cases_names-loop-case l =
    after_cases (cases_from (map case_of (drop l.case-index l.case-items))) (walk_of l.names)
    ≡ after_cases (cases_from (map case_of l.case-items)) (walk_of l.initial.names)

abbrev pub invariant-stmts::const_specs_names-loop-spec : goal.invariant-stmts::const_specs_names-loop-spec
invariant-stmts::const_specs_names-loop-spec l =
    after_specs (specs_from (map const_spec_of (drop l.spec-index l.spec-items))) (walk_of l.names)
    ≡ after_specs (specs_from (map const_spec_of l.spec-items)) (walk_of l.initial.names)

abbrev pub invariant-stmts::var_specs_names-loop-spec : goal.invariant-stmts::var_specs_names-loop-spec
invariant-stmts::var_specs_names-loop-spec l =
    after_specs (specs_from (map var_spec_of (drop l.spec-index l.spec-items))) (walk_of l.names)
    ≡ after_specs (specs_from (map var_spec_of l.spec-items)) (walk_of l.initial.names)
