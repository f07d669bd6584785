use Rattle.std.proofs.Common.{◌≡◌, drop, map}
use Rattle.go_tree.specs.View.{expr_of, elem_of, stmt_of, arm_of, case_of, const_spec_of, var_spec_of}
use Rattle.go_tree.specs.Lists.{exprs_from, elems_from, stmts_from, arms_from, cases_from, specs_from}
use Rattle.repeated_parts.specs.Flags.{flags_exprs, flags_elems, flags_stmts, flags_arms, flags_cases, flags_group, flags_specs}
use Rattle.repeated_parts.specs.LiteralTypes.Views.{known_of, numbers_of}
use Rattle.repeated_parts.proofs.+tree_flags.Given as goal

abbrev pub invariant-exprs::exprs_flags-loop-expr : goal.invariant-exprs::exprs_flags-loop-expr
invariant-exprs::exprs_flags-loop-expr l =
    flags_exprs (numbers_of l.scopes) l.repeated (exprs_from (map expr_of (drop l.expr-index l.expr-items))) l.flags.items
    ≡ flags_exprs (numbers_of l.scopes) l.repeated (exprs_from (map expr_of l.expr-items)) l.initial.flags.items

abbrev pub invariant-exprs::elems_flags-loop-elem : goal.invariant-exprs::elems_flags-loop-elem
invariant-exprs::elems_flags-loop-elem l =
    flags_elems (numbers_of l.scopes) (known_of l.of) l.repeated (elems_from (map elem_of (drop l.elem-index l.elem-items))) l.flags.items
    ≡ flags_elems (numbers_of l.scopes) (known_of l.of) l.repeated (elems_from (map elem_of l.elem-items)) l.initial.flags.items

abbrev pub invariant-stmts::stmts_flags-loop-stmt : goal.invariant-stmts::stmts_flags-loop-stmt
invariant-stmts::stmts_flags-loop-stmt l =
    flags_stmts (numbers_of l.scopes) l.repeated (stmts_from (map stmt_of (drop l.stmt-index l.stmt-items))) l.flags.items
    ≡ flags_stmts (numbers_of l.scopes) l.repeated (stmts_from (map stmt_of l.stmt-items)) l.initial.flags.items

abbrev pub invariant-stmts::arms_flags-loop-arm : goal.invariant-stmts::arms_flags-loop-arm
invariant-stmts::arms_flags-loop-arm l =
    flags_arms (numbers_of l.scopes) l.repeated (arms_from (map arm_of (drop l.arm-index l.arm-items))) l.flags.items
    ≡ flags_arms (numbers_of l.scopes) l.repeated (arms_from (map arm_of l.arm-items)) l.initial.flags.items

abbrev pub invariant-stmts::cases_flags-loop-case : goal.invariant-stmts::cases_flags-loop-case
invariant-stmts::cases_flags-loop-case l =
    flags_cases (numbers_of l.scopes) l.repeated (cases_from (map case_of (drop l.case-index l.case-items))) l.flags.items
    ≡ flags_cases (numbers_of l.scopes) l.repeated (cases_from (map case_of l.case-items)) l.initial.flags.items

abbrev pub invariant-stmts::group_flags-loop-at : goal.invariant-stmts::group_flags-loop-at
invariant-stmts::group_flags-loop-at l =
    flags_group (numbers_of l.scopes) (specs_from (map const_spec_of (drop l.at l.specs))) l.flags.items
    ≡ flags_group (numbers_of l.scopes) (specs_from (map const_spec_of l.specs)) l.initial.flags.items

abbrev pub invariant-stmts::var_specs_flags-loop-spec : goal.invariant-stmts::var_specs_flags-loop-spec
invariant-stmts::var_specs_flags-loop-spec l =
    flags_specs (numbers_of l.scopes) l.repeated (specs_from (map var_spec_of (drop l.spec-index l.spec-items))) l.flags.items
    ≡ flags_specs (numbers_of l.scopes) l.repeated (specs_from (map var_spec_of l.spec-items)) l.initial.flags.items
