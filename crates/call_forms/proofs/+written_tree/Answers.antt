use Rattle.std.proofs.Common.{map, sym, ap, ◌∙◌}
use Rattle.go_tree.specs.Tree.{int_lit, rune_lit, str_lit, composite, index, slice, call, func_lit, type_operand, unary}
use Rattle.go_tree.specs.Tree.{binary, star, eval, step, assign, define, return_, break_, continue_, inner, if_, for_}
use Rattle.go_tree.specs.Tree.{range_, switch, defer, label}
use Rattle.go_tree.specs.View.{expr_of, elem_of, stmt_of, arm_of, case_of, const_spec_of, var_spec_of}
use Rattle.call_forms.proofs.Lists.{map_written, exprs_written, elems_written, stmts_written, arms_written}
use Rattle.call_forms.proofs.Lists.{cases_written, const_specs_written, var_specs_written}
use Rattle.call_forms.specs.Written.{written_expr, written_elem, written_stmt, written_arm, written_case, written_spec}
use Rattle.call_forms.proofs.+written_tree.Goals as goal

pub exprs::written_expr-returns-in_ok-copied_text-in-IntLit :
    goal.exprs::written_expr-returns-in_ok-copied_text-in-IntLit
exprs::written_expr-returns-in_ok-copied_text-in-IntLit t c =
    c.int_lit_expr.ensures ∙ (λ j. int_lit c.args.there.now.span (c.in_ok-copied_text-in-IntLit.ensures j)) ∙ ap (λ e.
    written_expr c.args.there.now (expr_of e)) (sym c.in-IntLit.is)

pub exprs::written_expr-returns-in_ok-copied_text-in-RuneLit :
    goal.exprs::written_expr-returns-in_ok-copied_text-in-RuneLit
exprs::written_expr-returns-in_ok-copied_text-in-RuneLit t c =
    c.rune_lit_expr.ensures ∙ (λ j. rune_lit c.args.there.now.span (c.in_ok-copied_text-in-RuneLit.ensures j)) ∙ ap (λ
    e. written_expr c.args.there.now (expr_of e)) (sym c.in-RuneLit.is)

pub exprs::written_expr-returns-in_ok-copied_text-in-StrLit :
    goal.exprs::written_expr-returns-in_ok-copied_text-in-StrLit
exprs::written_expr-returns-in_ok-copied_text-in-StrLit t c =
    c.str_lit_expr.ensures ∙ (λ j. str_lit c.args.there.now.span (c.in_ok-copied_text-in-StrLit.ensures j)) ∙ ap (λ e.
    written_expr c.args.there.now (expr_of e)) (sym c.in-StrLit.is)

pub exprs::written_expr-returns-in_ok-written_type-in-Composite :
    goal.exprs::written_expr-returns-in_ok-written_type-in-Composite
exprs::written_expr-returns-in_ok-written_type-in-Composite t c =
    c.composite_expr.ensures ∙ (λ j. composite c.args.there.now.span (c.in_ok-written_type-in-Composite.ensures j)
    (c.in_ok-elems-in-Composite.ensures j)) ∙ ap (λ e. written_expr c.args.there.now (expr_of e)) (sym
    c.in-Composite.is)

pub exprs::written_expr-returns-in_ok-boxed_expr-in-Index : goal.exprs::written_expr-returns-in_ok-boxed_expr-in-Index
exprs::written_expr-returns-in_ok-boxed_expr-in-Index t c =
    c.index_expr.ensures ∙ (λ j. index c.args.there.now.span (c.in_ok-base-in-Index.ensures j)
    (c.in_ok-boxed_expr-in-Index.ensures j)) ∙ ap (λ e. written_expr c.args.there.now (expr_of e)) (sym
    c.in-Index.is)

pub exprs::written_expr-returns-in_ok-boxed_option-in-Slice :
    goal.exprs::written_expr-returns-in_ok-boxed_option-in-Slice
exprs::written_expr-returns-in_ok-boxed_option-in-Slice t c =
    c.slice_expr.ensures ∙ (λ j. slice c.args.there.now.span (c.in_ok-base-in-Slice.ensures j)
    (c.in_ok-from-in-Slice.ensures j) (c.in_ok-boxed_option-in-Slice.ensures j)) ∙ ap (λ e. written_expr
    c.args.there.now (expr_of e)) (sym c.in-Slice.is)

pub exprs::written_expr-returns-in_ok-written_exprs-in-Call :
    goal.exprs::written_expr-returns-in_ok-written_exprs-in-Call
exprs::written_expr-returns-in_ok-written_exprs-in-Call t c =
    c.call_expr.ensures ∙ (λ j. call c.args.there.now.span (c.in_ok-callee-in-Call.ensures j)
    (c.in_ok-written_exprs-in-Call.ensures j) c.in-Call.rest) ∙ ap (λ e. written_expr c.args.there.now (expr_of e))
    (sym c.in-Call.is)

pub exprs::written_expr-returns-in_ok-written_type-in-TypeOperand :
    goal.exprs::written_expr-returns-in_ok-written_type-in-TypeOperand
exprs::written_expr-returns-in_ok-written_type-in-TypeOperand t c =
    c.type_operand_expr.ensures ∙ (λ j. type_operand c.args.there.now.span (c.in_ok-written_type-in-TypeOperand.ensures
    j)) ∙ ap (λ e. written_expr c.args.there.now (expr_of e)) (sym c.in-TypeOperand.is)

pub exprs::written_expr-returns-in_ok-boxed_expr-in-Unary : goal.exprs::written_expr-returns-in_ok-boxed_expr-in-Unary
exprs::written_expr-returns-in_ok-boxed_expr-in-Unary t c =
    c.unary_expr.ensures ∙ (λ j. unary c.args.there.now.span c.in-Unary.op (c.in_ok-boxed_expr-in-Unary.ensures j)) ∙ ap
    (λ e. written_expr c.args.there.now (expr_of e)) (sym c.in-Unary.is)

pub exprs::written_expr-returns-in_ok-boxed_expr-in-Binary : goal.exprs::written_expr-returns-in_ok-boxed_expr-in-Binary
exprs::written_expr-returns-in_ok-boxed_expr-in-Binary t c =
    c.binary_expr.ensures ∙ (λ j. binary c.args.there.now.span c.in-Binary.op (c.in_ok-left-in-Binary.ensures j)
    (c.in_ok-boxed_expr-in-Binary.ensures j)) ∙ ap (λ e. written_expr c.args.there.now (expr_of e)) (sym
    c.in-Binary.is)

pub exprs::written_expr-returns-in_ok-boxed_expr-in-Star : goal.exprs::written_expr-returns-in_ok-boxed_expr-in-Star
exprs::written_expr-returns-in_ok-boxed_expr-in-Star t c =
    c.star_expr.ensures ∙ (λ j. star c.args.there.now.span (c.in_ok-boxed_expr-in-Star.ensures j)) ∙ ap (λ e.
    written_expr c.args.there.now (expr_of e)) (sym c.in-Star.is)

pub exprs::written_expr-returns-in_ok-written_sig-in-FuncLit :
    goal.exprs::written_expr-returns-in_ok-written_sig-in-FuncLit
exprs::written_expr-returns-in_ok-written_sig-in-FuncLit t c =
    c.func_lit_expr.ensures ∙ (λ j. func_lit c.args.there.now.span (c.in_ok-written_sig-in-FuncLit.ensures j)
    (c.in_ok-body-in-FuncLit.ensures j).0 (c.in_ok-body-in-FuncLit.ensures j).1) ∙ ap (λ e. written_expr
    c.args.there.now (expr_of e)) (sym c.in-FuncLit.is)

pub stmts::written_stmt-returns-in_ok-written_expr-in-Eval : goal.stmts::written_stmt-returns-in_ok-written_expr-in-Eval
stmts::written_stmt-returns-in_ok-written_expr-in-Eval t c =
    c.eval_stmt.ensures ∙ (λ j. eval c.args.there.now.span (c.in_ok-written_expr-in-Eval.ensures j)) ∙ ap (λ e.
    written_stmt c.args.there.now (stmt_of e)) (sym c.in-Eval.is)

pub stmts::written_stmt-returns-in_ok-written_expr-in-Step : goal.stmts::written_stmt-returns-in_ok-written_expr-in-Step
stmts::written_stmt-returns-in_ok-written_expr-in-Step t c =
    c.step_stmt.ensures ∙ (λ j. step c.args.there.now.span (c.in_ok-written_expr-in-Step.ensures j) c.in-Step.up) ∙ ap
    (λ e. written_stmt c.args.there.now (stmt_of e)) (sym c.in-Step.is)

pub stmts::written_stmt-returns-in_ok-written_exprs-in-Assign :
    goal.stmts::written_stmt-returns-in_ok-written_exprs-in-Assign
stmts::written_stmt-returns-in_ok-written_exprs-in-Assign t c =
    c.assign_stmt.ensures ∙ (λ j. assign c.args.there.now.span (c.in_ok-left-in-Assign.ensures j) c.in-Assign.op
    (c.in_ok-written_exprs-in-Assign.ensures j)) ∙ ap (λ e. written_stmt c.args.there.now (stmt_of e)) (sym
    c.in-Assign.is)

pub stmts::written_stmt-returns-in_ok-written_exprs-in-Define :
    goal.stmts::written_stmt-returns-in_ok-written_exprs-in-Define
stmts::written_stmt-returns-in_ok-written_exprs-in-Define t c =
    c.define_stmt.ensures ∙ (λ j. define c.args.there.now.span (c.in_ok-names-in-Define.ensures j)
    (c.in_ok-written_exprs-in-Define.ensures j)) ∙ ap (λ e. written_stmt c.args.there.now (stmt_of e)) (sym
    c.in-Define.is)

pub stmts::written_stmt-returns-in_ok-written_exprs-in-Return :
    goal.stmts::written_stmt-returns-in_ok-written_exprs-in-Return
stmts::written_stmt-returns-in_ok-written_exprs-in-Return t c =
    c.return_stmt.ensures ∙ (λ j. return_ c.args.there.now.span (c.in_ok-written_exprs-in-Return.ensures j)) ∙ ap (λ e.
    written_stmt c.args.there.now (stmt_of e)) (sym c.in-Return.is)

pub stmts::written_stmt-returns-in_ok-written_label-in-Break :
    goal.stmts::written_stmt-returns-in_ok-written_label-in-Break
stmts::written_stmt-returns-in_ok-written_label-in-Break t c =
    c.break_stmt.ensures ∙ (λ j. break_ c.args.there.now.span (c.in_ok-written_label-in-Break.ensures j)) ∙ ap (λ e.
    written_stmt c.args.there.now (stmt_of e)) (sym c.in-Break.is)

pub stmts::written_stmt-returns-in_ok-written_label-in-Continue :
    goal.stmts::written_stmt-returns-in_ok-written_label-in-Continue
stmts::written_stmt-returns-in_ok-written_label-in-Continue t c =
    c.continue_stmt.ensures ∙ (λ j. continue_ c.args.there.now.span (c.in_ok-written_label-in-Continue.ensures j)) ∙ ap
    (λ e. written_stmt c.args.there.now (stmt_of e)) (sym c.in-Continue.is)

pub stmts::written_stmt-returns-in_ok-written_block-in-Inner :
    goal.stmts::written_stmt-returns-in_ok-written_block-in-Inner
stmts::written_stmt-returns-in_ok-written_block-in-Inner t c =
    c.inner_stmt.ensures ∙ (λ j. inner (c.in_ok-written_block-in-Inner.ensures j).0
    (c.in_ok-written_block-in-Inner.ensures j).1) ∙ ap (λ e. written_stmt c.args.there.now (stmt_of e)) (sym
    c.in-Inner.is)

pub stmts::written_stmt-returns-in_ok-written_block_option-in-If :
    goal.stmts::written_stmt-returns-in_ok-written_block_option-in-If
stmts::written_stmt-returns-in_ok-written_block_option-in-If t c =
    c.if_stmt.ensures ∙ (λ j. if_ c.args.there.now.span (c.in_ok-arms-in-If.ensures j)
    (c.in_ok-written_block_option-in-If.ensures j)) ∙ ap (λ e. written_stmt c.args.there.now (stmt_of e)) (sym
    c.in-If.is)

pub stmts::written_stmt-returns-in_ok-test-in-For : goal.stmts::written_stmt-returns-in_ok-test-in-For
stmts::written_stmt-returns-in_ok-test-in-For t c =
    c.for_stmt.ensures ∙ (λ j. for_ c.args.there.now.span (c.in_ok-first-in-For.ensures j) (c.in_ok-test-in-For.ensures
    j) (c.in_ok-post-in-For.ensures j) (c.in_ok-body-in-For.ensures j).0 (c.in_ok-body-in-For.ensures j).1) ∙ ap (λ
    e. written_stmt c.args.there.now (stmt_of e)) (sym c.in-For.is)

pub stmts::written_stmt-returns-in_ok-written_expr-in-Range :
    goal.stmts::written_stmt-returns-in_ok-written_expr-in-Range
stmts::written_stmt-returns-in_ok-written_expr-in-Range t c =
    c.range_stmt.ensures ∙ (λ j. range_ c.args.there.now.span (c.in_ok-left-in-Range.ensures j)
    (c.in_ok-written_expr-in-Range.ensures j) (c.in_ok-body-in-Range.ensures j).0 (c.in_ok-body-in-Range.ensures
    j).1) ∙ ap (λ e. written_stmt c.args.there.now (stmt_of e)) (sym c.in-Range.is)

pub stmts::written_stmt-returns-in_ok-tag-in-Switch : goal.stmts::written_stmt-returns-in_ok-tag-in-Switch
stmts::written_stmt-returns-in_ok-tag-in-Switch t c =
    c.switch_stmt.ensures ∙ (λ j. switch c.args.there.now.span (c.in_ok-first-in-Switch.ensures j)
    (c.in_ok-tag-in-Switch.ensures j) (c.in_ok-cases-in-Switch.ensures j)) ∙ ap (λ e. written_stmt c.args.there.now
    (stmt_of e)) (sym c.in-Switch.is)

pub stmts::written_stmt-returns-in_ok-written_expr-in-Defer :
    goal.stmts::written_stmt-returns-in_ok-written_expr-in-Defer
stmts::written_stmt-returns-in_ok-written_expr-in-Defer t c =
    c.defer_stmt.ensures ∙ (λ j. defer c.args.there.now.span (c.in_ok-written_expr-in-Defer.ensures j)) ∙ ap (λ e.
    written_stmt c.args.there.now (stmt_of e)) (sym c.in-Defer.is)

pub stmts::written_stmt-returns-in_ok-boxed_stmt-in-Label : goal.stmts::written_stmt-returns-in_ok-boxed_stmt-in-Label
stmts::written_stmt-returns-in_ok-boxed_stmt-in-Label t c =
    c.label_stmt.ensures ∙ (λ j. label c.args.there.now.span (c.in_ok-name-in-Label.ensures j)
    (c.in_ok-boxed_stmt-in-Label.ensures j)) ∙ ap (λ e. written_stmt c.args.there.now (stmt_of e)) (sym
    c.in-Label.is)

pub exprs::written_exprs-loop-expr-preserved : goal.exprs::written_exprs-loop-expr-preserved
exprs::written_exprs-loop-expr-preserved t c =
    ap (map expr_of) c.in_ok-push.ensures.items ∙ map_written expr_of (λ x. written_expr c.args.there.now (expr_of x)) _
    _ _ _ _ c.loop-expr-test.true c.loop-expr.invariant (c.in_ok-written_expr.ensures ∙ ap (λ x. written_expr
    c.args.there.now (expr_of x)) c.expr-item.is)

pub exprs::written_exprs-returns : goal.exprs::written_exprs-returns
exprs::written_exprs-returns t c =
    exprs_written c.args.there.now _ _ _ _ _ c.of.ensures.made c.items-expr-items.ensures.seen c.loop-expr.invariant
    c.loop-expr-test.false

pub exprs::written_elems-loop-elem-preserved : goal.exprs::written_elems-loop-elem-preserved
exprs::written_elems-loop-elem-preserved t c =
    ap (map elem_of) c.in_ok-push.ensures.items ∙ map_written elem_of (λ x. written_elem c.args.there.now (elem_of x)) _
    _ _ _ _ c.loop-elem-test.true c.loop-elem.invariant (c.in_ok-written_elem.ensures ∙ ap (λ x. written_elem
    c.args.there.now (elem_of x)) c.elem-item.is)

pub exprs::written_elems-returns : goal.exprs::written_elems-returns
exprs::written_elems-returns t c =
    elems_written c.args.there.now _ _ _ _ _ c.of.ensures.made c.items-elem-items.ensures.seen c.loop-elem.invariant
    c.loop-elem-test.false

pub stmts::written_stmts-loop-stmt-preserved : goal.stmts::written_stmts-loop-stmt-preserved
stmts::written_stmts-loop-stmt-preserved t c =
    ap (map stmt_of) c.in_ok-push.ensures.items ∙ map_written stmt_of (λ x. written_stmt c.args.there.now (stmt_of x)) _
    _ _ _ _ c.loop-stmt-test.true c.loop-stmt.invariant (c.in_ok-written_stmt.ensures ∙ ap (λ x. written_stmt
    c.args.there.now (stmt_of x)) c.stmt-item.is)

pub stmts::written_stmts-returns : goal.stmts::written_stmts-returns
stmts::written_stmts-returns t c =
    stmts_written c.args.there.now _ _ _ _ _ c.of.ensures.made c.items-stmt-items.ensures.seen c.loop-stmt.invariant
    c.loop-stmt-test.false

pub stmts::written_arms-loop-arm-preserved : goal.stmts::written_arms-loop-arm-preserved
stmts::written_arms-loop-arm-preserved t c =
    ap (map arm_of) c.in_ok-push.ensures.items ∙ map_written arm_of (λ x. written_arm c.args.there.now (arm_of x)) _ _ _
    _ _ c.loop-arm-test.true c.loop-arm.invariant (c.in_ok-written_arm.ensures ∙ ap (λ x. written_arm
    c.args.there.now (arm_of x)) c.arm-item.is)

pub stmts::written_arms-returns : goal.stmts::written_arms-returns
stmts::written_arms-returns t c =
    arms_written c.args.there.now _ _ _ _ _ c.of.ensures.made c.items-arm-items.ensures.seen c.loop-arm.invariant
    c.loop-arm-test.false

pub stmts::written_cases-loop-case-preserved : goal.stmts::written_cases-loop-case-preserved
stmts::written_cases-loop-case-preserved t c =
    ap (map case_of) c.in_ok-push.ensures.items ∙ map_written case_of (λ x. written_case c.args.there.now (case_of x)) _
    _ _ _ _ c.loop-case-test.true c.loop-case.invariant (c.in_ok-written_case.ensures ∙ ap (λ x. written_case
    c.args.there.now (case_of x)) c.case-item.is)

pub stmts::written_cases-returns : goal.stmts::written_cases-returns
stmts::written_cases-returns t c =
    cases_written c.args.there.now _ _ _ _ _ c.of.ensures.made c.items-case-items.ensures.seen c.loop-case.invariant
    c.loop-case-test.false

pub stmts::written_const_specs-loop-spec-preserved : goal.stmts::written_const_specs-loop-spec-preserved
stmts::written_const_specs-loop-spec-preserved t c =
    ap (map const_spec_of) c.in_ok-push.ensures.items ∙ map_written const_spec_of (λ x. written_spec c.args.there.now
    (const_spec_of x)) _ _ _ _ _ c.loop-spec-test.true c.loop-spec.invariant (c.in_ok-written_const_spec.ensures ∙
    ap (λ x. written_spec c.args.there.now (const_spec_of x)) c.spec-item.is)

pub stmts::written_const_specs-returns : goal.stmts::written_const_specs-returns
stmts::written_const_specs-returns t c =
    const_specs_written c.args.there.now _ _ _ _ _ c.of.ensures.made c.items-spec-items.ensures.seen
    c.loop-spec.invariant c.loop-spec-test.false

pub stmts::written_const_spec-returns : goal.stmts::written_const_spec-returns
stmts::written_const_spec-returns t c =
    c.new.ensures ∙ (λ j. (
      c.args.there.now.span,
      c.in_ok-names.ensures j,
      c.in_ok-of.ensures j,
      c.in_ok-values.ensures
          j,
    ))

pub stmts::written_var_specs-loop-spec-preserved : goal.stmts::written_var_specs-loop-spec-preserved
stmts::written_var_specs-loop-spec-preserved t c =
    ap (map var_spec_of) c.in_ok-push.ensures.items ∙ map_written var_spec_of (λ x. written_spec c.args.there.now
    (var_spec_of x)) _ _ _ _ _ c.loop-spec-test.true c.loop-spec.invariant (c.in_ok-written_var_spec.ensures ∙ ap (λ
    x. written_spec c.args.there.now (var_spec_of x)) c.spec-item.is)

pub stmts::written_var_specs-returns : goal.stmts::written_var_specs-returns
stmts::written_var_specs-returns t c =
    var_specs_written c.args.there.now _ _ _ _ _ c.of.ensures.made c.items-spec-items.ensures.seen c.loop-spec.invariant
    c.loop-spec-test.false

pub stmts::written_var_spec-returns : goal.stmts::written_var_spec-returns
stmts::written_var_spec-returns t c =
    c.new.ensures ∙ (λ j. (
      c.args.there.now.span,
      c.in_ok-names.ensures j,
      c.in_ok-of.ensures j,
      c.in_ok-values.ensures
          j,
    ))

pub stmts::written_arm-returns : goal.stmts::written_arm-returns
stmts::written_arm-returns t c =
    c.new.ensures ∙ (λ j. (
      c.args.there.now.span,
      c.in_ok-first.ensures j,
      c.in_ok-written_expr.ensures j,
      c.in_ok-body.ensures j,
    ))

pub stmts::written_case-returns : goal.stmts::written_case-returns
stmts::written_case-returns t c =
    c.new.ensures ∙ (λ j. (c.args.there.now.span, c.in_ok-values.ensures j, c.in_ok-written_stmts.ensures j))
