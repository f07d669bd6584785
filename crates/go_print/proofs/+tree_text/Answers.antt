use Rattle.std.proofs.Common.{◌++◌, true, false, None, codes, map, refl, sym, ap, ◌∙◌}
use Rattle.std.proofs.lemmas.Result.{on_ok_weaker}
use Rattle.go_tree.specs.View.{boxed_stmt_option_of, case_of, cases_of, const_spec_of, const_specs_of, elem_of, elems_of, expr_of, arm_of, plain_expr_option_of, range_left_of, stmt_of, stmts_of, var_spec_of, var_specs_of}
use Rattle.go_tree.specs.declared.stmts.ConstDecl.{out-ConstDecl}
use Rattle.go_tree.specs.declared.stmts.VarDecl.{out-VarDecl}
use Rattle.go_layout.specs.Layouts.{text_of}
use Rattle.go_layout.specs.TreeLayout.{exprs_layout, elems_layout, stmts_layout, arms_layout, cases_layout, specs_layout, stmt_layout}
use Rattle.go_print.proofs.Steps.{done, step}
use Rattle.go_print.proofs.Lists.{expr_part, exprs_all, elem_part, elems_all, stmt_part, stmts_all, arm_part, arms_all, clause_part, cases_all, spec_part, specs_all}
use Rattle.go_print.proofs.Chains.{both, three, block_written, clause_written, group_written, plain_for_written, clause_for_written, range_written, switch_written}
use Rattle.go_print.proofs.DeclParts.{const_text, var_text}
use Rattle.go_print.proofs.+tree_text.Goals as goal

pub exprs::write_exprs-loop-i-preserved : goal.exprs::write_exprs-loop-i-preserved
exprs::write_exprs-loop-i-preserved t c = step expr_of (expr_part c.args.indent.now c.args.header c.args.closed) _ _ _ _ _ _ _ _ _ c.loop-i-test.true c.index-items-i.is c.loop-i.invariant c.in_ok-write_operand.ensures c.in_ok-write_if.ensures refl

pub exprs::write_exprs-returns : goal.exprs::write_exprs-returns
exprs::write_exprs-returns t c =
    done expr_of (expr_part c.args.indent.now c.args.header c.args.closed) _ _ _ _ c.loop-i-test.false c.loop-i.invariant
    ∙ ap (λ ys. c.args.out.now.items ++ ys) (exprs_all c.args.indent.now c.args.header c.args.closed (map expr_of c.items-items.result.now) ∙ ap (λ l. text_of (exprs_layout c.args.indent.now c.args.header c.args.closed l)) (sym c.items-items.ensures.seen))

pub stmts::write_stmts-loop-i-preserved : goal.stmts::write_stmts-loop-i-preserved
stmts::write_stmts-loop-i-preserved t c = step stmt_of (stmt_part c.args.indent.now) _ _ _ _ _ _ _ _ _ c.loop-i-test.true c.index-items-i.is c.loop-i.invariant c.in_ok-write_stmt.ensures c.in_ok-write_line_if.ensures refl

pub stmts::write_stmts-returns : goal.stmts::write_stmts-returns
stmts::write_stmts-returns t c =
    done stmt_of (stmt_part c.args.indent.now) _ _ _ _ c.loop-i-test.false c.loop-i.invariant
    ∙ ap (λ ys. c.args.out.now.items ++ ys) (stmts_all c.args.indent.now (map stmt_of c.items-items.result.now) ∙ ap (λ l. text_of (stmts_layout c.args.indent.now None l)) (sym c.items-items.ensures.seen))

pub stmts::write_arms-loop-i-preserved : goal.stmts::write_arms-loop-i-preserved
stmts::write_arms-loop-i-preserved t c = step arm_of (arm_part c.args.indent.now) _ _ _ _ _ _ _ _ _ c.loop-i-test.true c.index-items-i.is c.loop-i.invariant c.in_ok-write_arm.ensures c.in_ok-write_if.ensures refl

pub stmts::write_arms-returns : goal.stmts::write_arms-returns
stmts::write_arms-returns t c =
    done arm_of (arm_part c.args.indent.now) _ _ _ _ c.loop-i-test.false c.loop-i.invariant
    ∙ ap (λ ys. c.args.out.now.items ++ ys) (arms_all c.args.indent.now _ ∙ ap (λ l. text_of (arms_layout c.args.indent.now l)) (sym c.items-items.ensures.seen))

pub decls::write_const_specs-loop-i-preserved : goal.decls::write_const_specs-loop-i-preserved
decls::write_const_specs-loop-i-preserved t c = step const_spec_of (spec_part c.args.indent.now) _ _ _ _ _ _ _ _ _ c.loop-i-test.true c.index-items-i.is c.loop-i.invariant c.in_ok-write_const_spec.ensures c.in_ok-write_line_if.ensures refl

pub decls::write_const_specs-returns : goal.decls::write_const_specs-returns
decls::write_const_specs-returns t c =
    done const_spec_of (spec_part c.args.indent.now) _ _ _ _ c.loop-i-test.false c.loop-i.invariant
    ∙ ap (λ ys. c.args.out.now.items ++ ys) (specs_all c.args.indent.now _ ∙ ap (λ l. text_of (specs_layout c.args.indent.now None l)) (sym c.items-items.ensures.seen))

pub decls::write_var_specs-loop-i-preserved : goal.decls::write_var_specs-loop-i-preserved
decls::write_var_specs-loop-i-preserved t c = step var_spec_of (spec_part c.args.indent.now) _ _ _ _ _ _ _ _ _ c.loop-i-test.true c.index-items-i.is c.loop-i.invariant c.in_ok-write_var_spec.ensures c.in_ok-write_line_if.ensures refl

pub decls::write_var_specs-returns : goal.decls::write_var_specs-returns
decls::write_var_specs-returns t c =
    done var_spec_of (spec_part c.args.indent.now) _ _ _ _ c.loop-i-test.false c.loop-i.invariant
    ∙ ap (λ ys. c.args.out.now.items ++ ys) (specs_all c.args.indent.now _ ∙ ap (λ l. text_of (specs_layout c.args.indent.now None l)) (sym c.items-items.ensures.seen))

pub exprs::write_elems-loop-i-preserved : goal.exprs::write_elems-loop-i-preserved
exprs::write_elems-loop-i-preserved t c = step elem_of (elem_part c.args.indent.now) _ _ _ _ _ _ _ _ _ c.loop-i-test.true c.index-items-i.is c.loop-i.invariant c.in_ok-write_elem.ensures c.in_ok-write_if.ensures refl

pub decls::write_const_decl-returns-else-decl : goal.decls::write_const_decl-returns-else-decl
decls::write_const_decl-returns-else-decl t c =
    λ header. on_ok_weaker c.write_const_specs-else-decl.result (λ e.
    both _ _ _ (codes "const ") _ c.in_ok-write_text.ensures e ∙ ap (λ ys. c.args.out.now.items ++ ys) (const_text c.args.indent.now header false c.args.decl.now c.if-decl.false)) c.write_const_specs-else-decl.ensures

pub decls::write_const_decl-returns-in_ok-write_line_if-2 : goal.decls::write_const_decl-returns-in_ok-write_line_if-2
decls::write_const_decl-returns-in_ok-write_line_if-2 t c =
    λ header. on_ok_weaker c.write_text-then-decl-2.result (λ e.
    group_written c.args.indent.now c.as_slice-inner.result.now (codes "const ") c.has_const_specs-lines.result (const_specs_of (out-ConstDecl c.args.decl.now).specs) _ _ _ _ _ _ _
    (c.as_slice-inner.ensures.value ∙ c.in_ok-tabs.ensures) c.has_const_specs-lines.ensures c.in_ok-write_text.ensures c.in_ok-write_text-2.ensures c.in_ok-write_line_if.ensures c.in_ok-write_const_specs.ensures c.in_ok-write_line_if-2.ensures e
    ∙ ap (λ ys. c.args.out.now.items ++ ys) (const_text c.args.indent.now header true c.args.decl.now c.if-decl.true)) c.write_text-then-decl-2.ensures

pub decls::write_var_decl-returns-else-decl : goal.decls::write_var_decl-returns-else-decl
decls::write_var_decl-returns-else-decl t c =
    λ header. on_ok_weaker c.write_var_specs-else-decl.result (λ e.
    both _ _ _ (codes "var ") _ c.in_ok-write_text.ensures e ∙ ap (λ ys. c.args.out.now.items ++ ys) (var_text c.args.indent.now header false c.args.decl.now c.if-decl.false)) c.write_var_specs-else-decl.ensures

pub decls::write_var_decl-returns-in_ok-write_line_if-2 : goal.decls::write_var_decl-returns-in_ok-write_line_if-2
decls::write_var_decl-returns-in_ok-write_line_if-2 t c =
    λ header. on_ok_weaker c.write_text-then-decl-2.result (λ e.
    group_written c.args.indent.now c.as_slice-inner.result.now (codes "var ") c.has_var_specs-lines.result (var_specs_of (out-VarDecl c.args.decl.now).specs) _ _ _ _ _ _ _
    (c.as_slice-inner.ensures.value ∙ c.in_ok-tabs.ensures) c.has_var_specs-lines.ensures c.in_ok-write_text.ensures c.in_ok-write_text-2.ensures c.in_ok-write_line_if.ensures c.in_ok-write_var_specs.ensures c.in_ok-write_line_if-2.ensures e
    ∙ ap (λ ys. c.args.out.now.items ++ ys) (var_text c.args.indent.now header true c.args.decl.now c.if-decl.true)) c.write_text-then-decl-2.ensures

pub exprs::write_elems-returns : goal.exprs::write_elems-returns
exprs::write_elems-returns t c =
    on_ok_weaker c.write_text-2.result (λ e.
    three _ _ _ _ (codes "{") (text_of (elems_layout c.args.indent.now (elems_of c.args.elems.now))) (codes "}") c.in_ok-write_text.ensures
    (done elem_of (elem_part c.args.indent.now) _ _ _ _ c.loop-i-test.false c.loop-i.invariant
    ∙ ap (λ ys. c.write_text.new.out.items ++ ys) (elems_all c.args.indent.now (map elem_of c.items-items.result.now) ∙ ap (λ l. text_of (elems_layout c.args.indent.now l)) (sym c.items-items.ensures.seen)))
    e) c.write_text-2.ensures

pub stmts::write_block-returns : goal.stmts::write_block-returns
stmts::write_block-returns t c =
    on_ok_weaker c.write_text-2.result (λ e.
    block_written c.args.indent.now c.as_slice-inner.result.now c.has_stmts-lines.result (stmts_of c.args.block.now.stmts) _ _ _ _ _ _
    (c.as_slice-inner.ensures.value ∙ c.in_ok-tabs.ensures) c.has_stmts-lines.ensures c.in_ok-write_text.ensures c.in_ok-write_line_if.ensures c.in_ok-write_stmts.ensures c.in_ok-write_line_if-2.ensures e) c.write_text-2.ensures

pub stmts::write_case-returns : goal.stmts::write_case-returns
stmts::write_case-returns t c =
    on_ok_weaker c.write_line.result (λ e.
    clause_written c.args.indent.now c.as_slice-inner.result.now c.has_stmts-lines.result (case_of c.args.case.now) _ _ _ _ _ _ _
    (c.as_slice-inner.ensures.value ∙ c.in_ok-tabs.ensures) c.has_stmts-lines.ensures c.in_ok-write_case_word.ensures c.in_ok-write_exprs.ensures c.in_ok-write_text.ensures c.in_ok-write_line_if.ensures c.in_ok-write_stmts.ensures e) c.write_line.ensures

pub stmts::write_cases-returns : goal.stmts::write_cases-returns
stmts::write_cases-returns t c =
    done case_of (clause_part c.args.indent.now) _ _ _ _ c.loop-case-test.false c.loop-case.invariant
    ∙ ap (λ ys. c.args.out.now.items ++ ys) (cases_all c.args.indent.now (map case_of c.items-case-items.result.now) ∙ ap (λ l. text_of (cases_layout c.args.indent.now l)) (sym c.items-case-items.ensures.seen))

pub stmts::write_stmt-returns-in_ok-write_text-in-Range-3 : goal.stmts::write_stmt-returns-in_ok-write_text-in-Range-3
stmts::write_stmt-returns-in_ok-write_text-in-Range-3 t c =
    on_ok_weaker c.write_block-in-Range.result (λ e.
    range_written c.args.indent.now c.args.header c.in-Range.span (range_left_of c.in-Range.left) (expr_of c.in-Range.over) c.in-Range.body.span (stmts_of c.in-Range.body.stmts) _ _ _ _ _ _ _
    c.in_ok-write_text-in-Range.ensures c.in_ok-write_left-in-Range.ensures c.in_ok-write_text-in-Range-2.ensures c.in_ok-write_operand-in-Range.ensures c.in_ok-write_text-in-Range-3.ensures e
    ∙ ap (λ s. c.args.out.now.items ++ text_of (stmt_layout c.args.indent.now c.args.header (stmt_of s))) (sym c.in-Range.is)) c.write_block-in-Range.ensures

pub stmts::write_stmt-returns-in_ok-write_cases-in-Switch : goal.stmts::write_stmt-returns-in_ok-write_cases-in-Switch
stmts::write_stmt-returns-in_ok-write_cases-in-Switch t c =
    on_ok_weaker c.write_text-in-Switch-3.result (λ e.
    switch_written c.args.indent.now c.args.header c.in-Switch.span (boxed_stmt_option_of c.in-Switch.first) (plain_expr_option_of c.in-Switch.tag) (cases_of c.in-Switch.cases) _ _ _ _ _ _ _ _
    c.in_ok-write_text-in-Switch.ensures c.in_ok-write_first-in-Switch.ensures c.in_ok-write_test-in-Switch.ensures c.in_ok-write_text-in-Switch-2.ensures c.in_ok-write_clauses_start-in-Switch.ensures c.in_ok-write_cases-in-Switch.ensures e
    ∙ ap (λ s. c.args.out.now.items ++ text_of (stmt_layout c.args.indent.now c.args.header (stmt_of s))) (sym c.in-Switch.is)) c.write_text-in-Switch-3.ensures

pub stmts::write_stmt-returns-in_ok-write_post-in-For : goal.stmts::write_stmt-returns-in_ok-write_post-in-For
stmts::write_stmt-returns-in_ok-write_post-in-For t c =
    on_ok_weaker c.write_block-then-has_clause.result (λ e.
    clause_for_written c.args.indent.now c.args.header c.in-For.span (boxed_stmt_option_of c.in-For.first) (boxed_stmt_option_of c.in-For.post) (plain_expr_option_of c.in-For.test) c.in-For.body.span (stmts_of c.in-For.body.stmts) c.has_clause.result _ _ _ _ _ _ _ _ c.has_clause.ensures c.if-has_clause.true
    c.in_ok-write_text-in-For.ensures c.in_ok-write_part-in-For.ensures c.in_ok-write_text-in-For-2.ensures c.in_ok-write_condition-in-For.ensures c.in_ok-write_text-in-For-3.ensures c.in_ok-write_post-in-For.ensures e
    ∙ ap (λ s. c.args.out.now.items ++ text_of (stmt_layout c.args.indent.now c.args.header (stmt_of s))) (sym c.in-For.is)) c.write_block-then-has_clause.ensures

pub stmts::write_stmt-returns-in_ok-write_test-in-For : goal.stmts::write_stmt-returns-in_ok-write_test-in-For
stmts::write_stmt-returns-in_ok-write_test-in-For t c =
    on_ok_weaker c.write_block-else-has_clause.result (λ e.
    plain_for_written c.args.indent.now c.args.header c.in-For.span (boxed_stmt_option_of c.in-For.first) (boxed_stmt_option_of c.in-For.post) (plain_expr_option_of c.in-For.test) c.in-For.body.span (stmts_of c.in-For.body.stmts) c.has_clause.result _ _ _ _ c.has_clause.ensures c.if-has_clause.false
    c.in_ok-write_text-in-For.ensures c.in_ok-write_test-in-For.ensures e
    ∙ ap (λ s. c.args.out.now.items ++ text_of (stmt_layout c.args.indent.now c.args.header (stmt_of s))) (sym c.in-For.is)) c.write_block-else-has_clause.ensures
