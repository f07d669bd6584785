use Rattle.std.proofs.Common.{◌≡◌, drop, map}
use Rattle.go_tree.specs.View.{expr_of, elem_of, stmt_of, arm_of, case_of, const_spec_of, var_spec_of}
use Rattle.go_tree.specs.Lists.{exprs_from, elems_from, stmts_from, arms_from, cases_from, specs_from}
use Rattle.member_uses.specs.PossibleUses.Parts.{after_exprs, after_elems, after_stmts, after_arms, after_cases, after_specs}
use Rattle.member_uses.specs.PossibleUses.Views.{part_of, written_of}
use Rattle.member_uses.proofs.possible_uses.+tree_parts.Given as goal

abbrev pub invariant-exprs::exprs_parts-loop-expr : goal.invariant-exprs::exprs_parts-loop-expr
invariant-exprs::exprs_parts-loop-expr l =
    after_exprs (exprs_from (map expr_of (drop l.expr-index l.expr-items))) (map part_of l.list.items)
    ≡ after_exprs (exprs_from (map expr_of l.expr-items)) (map part_of l.initial.list.items)

abbrev pub invariant-exprs::elems_parts-loop-elem : goal.invariant-exprs::elems_parts-loop-elem
invariant-exprs::elems_parts-loop-elem l =
    after_elems (written_of l.of) (elems_from (map elem_of (drop l.elem-index l.elem-items))) (map part_of l.list.items)
    ≡ after_elems (written_of l.of) (elems_from (map elem_of l.elem-items)) (map part_of l.initial.list.items)

abbrev pub invariant-stmts::stmts_parts-loop-stmt : goal.invariant-stmts::stmts_parts-loop-stmt
invariant-stmts::stmts_parts-loop-stmt l =
    after_stmts (stmts_from (map stmt_of (drop l.stmt-index l.stmt-items))) (map part_of l.list.items)
    ≡ after_stmts (stmts_from (map stmt_of l.stmt-items)) (map part_of l.initial.list.items)

abbrev pub invariant-stmts::arms_parts-loop-arm : goal.invariant-stmts::arms_parts-loop-arm
invariant-stmts::arms_parts-loop-arm l =
    after_arms (arms_from (map arm_of (drop l.arm-index l.arm-items))) (map part_of l.list.items)
    ≡ after_arms (arms_from (map arm_of l.arm-items)) (map part_of l.initial.list.items)

abbrev pub invariant-stmts::cases_parts-loop-case : goal.invariant-stmts::cases_parts-loop-case
invariant-stmts::cases_parts-loop-case l =
    after_cases (cases_from (map case_of (drop l.case-index l.case-items))) (map part_of l.list.items)
    ≡ after_cases (cases_from (map case_of l.case-items)) (map part_of l.initial.list.items)

abbrev pub invariant-stmts::const_specs_parts-loop-spec : goal.invariant-stmts::const_specs_parts-loop-spec
invariant-stmts::const_specs_parts-loop-spec l =
    after_specs (specs_from (map const_spec_of (drop l.spec-index l.spec-items))) (map part_of l.list.items)
    ≡ after_specs (specs_from (map const_spec_of l.spec-items)) (map part_of l.initial.list.items)

abbrev pub invariant-stmts::var_specs_parts-loop-spec : goal.invariant-stmts::var_specs_parts-loop-spec
invariant-stmts::var_specs_parts-loop-spec l =
    after_specs (specs_from (map var_spec_of (drop l.spec-index l.spec-items))) (map part_of l.list.items)
    ≡ after_specs (specs_from (map var_spec_of l.spec-items)) (map part_of l.initial.list.items)
