use Rattle.std.proofs.Common.{◌≡◌, ◌++◌, drop, map}
use Rattle.go_tree.specs.View.{expr_of, elem_of, stmt_of, arm_of, case_of, const_spec_of, var_spec_of}
use Rattle.go_print.proofs.Steps.{all}
use Rattle.go_print.proofs.Lists.{expr_part, elem_part, stmt_part, arm_part, clause_part, spec_part}
use Rattle.go_print.proofs.+tree_text.Given as goal

abbrev pub invariant-exprs::write_exprs-loop-i : goal.invariant-exprs::write_exprs-loop-i
invariant-exprs::write_exprs-loop-i l =
    let part = expr_part l.indent l.header l.closed in
    l.out.items ++ all part (map expr_of (drop l.i l.items)) ≡ l.initial.out.items ++ all part (map expr_of l.items)

abbrev pub invariant-exprs::write_elems-loop-i : goal.invariant-exprs::write_elems-loop-i
invariant-exprs::write_elems-loop-i l =
    let part = elem_part l.indent in
    l.out.items ++ all part (map elem_of (drop l.i l.items)) ≡ l.initial.out.items ++ all part (map elem_of l.items)

abbrev pub invariant-stmts::write_stmts-loop-i : goal.invariant-stmts::write_stmts-loop-i
invariant-stmts::write_stmts-loop-i l =
    let part = stmt_part l.indent in
    l.out.items ++ all part (map stmt_of (drop l.i l.items)) ≡ l.initial.out.items ++ all part (map stmt_of l.items)

abbrev pub invariant-stmts::write_arms-loop-i : goal.invariant-stmts::write_arms-loop-i
invariant-stmts::write_arms-loop-i l =
    let part = arm_part l.indent in
    l.out.items ++ all part (map arm_of (drop l.i l.items)) ≡ l.initial.out.items ++ all part (map arm_of l.items)

abbrev pub invariant-stmts::write_cases-loop-case : goal.invariant-stmts::write_cases-loop-case
invariant-stmts::write_cases-loop-case l =
    let part = clause_part l.indent in
    l.out.items ++ all part (map case_of (drop l.case-index l.case-items)) ≡ l.initial.out.items ++ all part (map case_of l.case-items)

abbrev pub invariant-decls::write_const_specs-loop-i : goal.invariant-decls::write_const_specs-loop-i
invariant-decls::write_const_specs-loop-i l =
    let part = spec_part l.indent in
    l.out.items ++ all part (map const_spec_of (drop l.i l.items)) ≡ l.initial.out.items ++ all part (map const_spec_of l.items)

abbrev pub invariant-decls::write_var_specs-loop-i : goal.invariant-decls::write_var_specs-loop-i
invariant-decls::write_var_specs-loop-i l =
    let part = spec_part l.indent in
    l.out.items ++ all part (map var_spec_of (drop l.i l.items)) ≡ l.initial.out.items ++ all part (map var_spec_of l.items)
