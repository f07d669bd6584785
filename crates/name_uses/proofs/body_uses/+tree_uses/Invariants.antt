use Rattle.std.proofs.Common.{◌≡◌, drop, map}
use Rattle.go_tree.specs.View.{expr_of, elem_of, stmt_of, arm_of, case_of, const_spec_of, var_spec_of}
use Rattle.go_tree.specs.Lists.{exprs_from, elems_from, stmts_from, arms_from, cases_from, specs_from}
use Rattle.used_names.specs.Walks.{after_exprs, after_lefts, after_elems, after_stmts, after_arms, after_cases, after_specs}
use Rattle.name_uses.specs.Walk.{walk_of, walked}
use Rattle.name_uses.proofs.body_uses.+tree_uses.Given as goal

abbrev pub invariant-exprs::exprs_uses-loop-expr : goal.invariant-exprs::exprs_uses-loop-expr
invariant-exprs::exprs_uses-loop-expr l =
    walked (after_exprs (exprs_from (map expr_of (drop l.expr-index l.expr-items)))) (walk_of l.uses)
    ≡ walked (after_exprs (exprs_from (map expr_of l.expr-items))) (walk_of l.initial.uses)

abbrev pub invariant-exprs::lefts_uses-loop-expr : goal.invariant-exprs::lefts_uses-loop-expr
invariant-exprs::lefts_uses-loop-expr l =
    walked (after_lefts (exprs_from (map expr_of (drop l.expr-index l.expr-items)))) (walk_of l.uses)
    ≡ walked (after_lefts (exprs_from (map expr_of l.expr-items))) (walk_of l.initial.uses)

abbrev pub invariant-exprs::elems_uses-loop-elem : goal.invariant-exprs::elems_uses-loop-elem
invariant-exprs::elems_uses-loop-elem l =
    walked (after_elems (elems_from (map elem_of (drop l.elem-index l.elem-items)))) (walk_of l.uses)
    ≡ walked (after_elems (elems_from (map elem_of l.elem-items))) (walk_of l.initial.uses)

abbrev pub invariant-stmts::stmts_uses-loop-stmt : goal.invariant-stmts::stmts_uses-loop-stmt
invariant-stmts::stmts_uses-loop-stmt l =
    walked (after_stmts (stmts_from (map stmt_of (drop l.stmt-index l.stmt-items)))) (walk_of l.uses)
    ≡ walked (after_stmts (stmts_from (map stmt_of l.stmt-items))) (walk_of l.initial.uses)

abbrev pub invariant-stmts::arms_uses-loop-arm : goal.invariant-stmts::arms_uses-loop-arm
invariant-stmts::arms_uses-loop-arm l =
    walked (after_arms (arms_from (map arm_of (drop l.arm-index l.arm-items)))) (walk_of l.uses)
    ≡ walked (after_arms (arms_from (map arm_of l.arm-items))) (walk_of l.initial.uses)

abbrev pub invariant-stmts::cases_uses-loop-case : goal.invariant-stmts::cases_uses-loop-case
invariant-stmts::cases_uses-loop-case l =
    walked (after_cases (cases_from (map case_of (drop l.case-index l.case-items)))) (walk_of l.uses)
    ≡ walked (after_cases (cases_from (map case_of l.case-items))) (walk_of l.initial.uses)

abbrev pub invariant-stmts::const_specs_uses-loop-spec : goal.invariant-stmts::const_specs_uses-loop-spec
invariant-stmts::const_specs_uses-loop-spec l =
    walked (after_specs (specs_from (map const_spec_of (drop l.spec-index l.spec-items)))) (walk_of l.uses)
    ≡ walked (after_specs (specs_from (map const_spec_of l.spec-items))) (walk_of l.initial.uses)

abbrev pub invariant-stmts::var_specs_uses-loop-spec : goal.invariant-stmts::var_specs_uses-loop-spec
invariant-stmts::var_specs_uses-loop-spec l =
    walked (after_specs (specs_from (map var_spec_of (drop l.spec-index l.spec-items)))) (walk_of l.uses)
    ≡ walked (after_specs (specs_from (map var_spec_of l.spec-items))) (walk_of l.initial.uses)
