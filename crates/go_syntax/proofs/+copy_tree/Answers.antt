use Rattle.std.proofs.Common.{map, sym, ap, ◌∙◌}
use Rattle.std.specs.Option.{option_map}
use Rattle.go_tree.specs.Tree.{ident, int_lit, rune_lit, str_lit, composite, selector, index, slice, call, func_lit, type_operand, unary, binary, star, eval, step, assign, define, return_, break_, continue_, inner, if_, for_, range_, switch, defer, label}
use Rattle.go_tree.specs.View.{name_at_of, expr_of, elem_of, stmt_of, arm_of, case_of, const_spec_of, var_spec_of}
use Rattle.go_syntax.proofs.CopyLemmas.{map_copied, exprs_copied, elems_copied, stmts_copied, arms_copied, cases_copied, const_specs_copied, var_specs_copied}
use Rattle.go_syntax.proofs.+copy_tree.Goals as goal

pub copy_exprs::copy_expr-returns-in_ok-copy_name-in-Ident : goal.copy_exprs::copy_expr-returns-in_ok-copy_name-in-Ident
copy_exprs::copy_expr-returns-in_ok-copy_name-in-Ident t c =
    c.ident_expr.ensures ∙ (λ j. ident c.in-Ident.span (c.in_ok-copy_name-in-Ident.ensures j)) ∙ ap expr_of (sym c.in-Ident.is)

pub copy_exprs::copy_expr-returns-in_ok-copy_text-in-IntLit : goal.copy_exprs::copy_expr-returns-in_ok-copy_text-in-IntLit
copy_exprs::copy_expr-returns-in_ok-copy_text-in-IntLit t c =
    c.int_lit_expr.ensures ∙ (λ j. int_lit c.in-IntLit.span (c.in_ok-copy_text-in-IntLit.ensures j)) ∙ ap expr_of (sym c.in-IntLit.is)

pub copy_exprs::copy_expr-returns-in_ok-copy_text-in-RuneLit : goal.copy_exprs::copy_expr-returns-in_ok-copy_text-in-RuneLit
copy_exprs::copy_expr-returns-in_ok-copy_text-in-RuneLit t c =
    c.rune_lit_expr.ensures ∙ (λ j. rune_lit c.in-RuneLit.span (c.in_ok-copy_text-in-RuneLit.ensures j)) ∙ ap expr_of (sym c.in-RuneLit.is)

pub copy_exprs::copy_expr-returns-in_ok-copy_text-in-StrLit : goal.copy_exprs::copy_expr-returns-in_ok-copy_text-in-StrLit
copy_exprs::copy_expr-returns-in_ok-copy_text-in-StrLit t c =
    c.str_lit_expr.ensures ∙ (λ j. str_lit c.in-StrLit.span (c.in_ok-copy_text-in-StrLit.ensures j)) ∙ ap expr_of (sym c.in-StrLit.is)

pub copy_exprs::copy_expr-returns-in_ok-copy_type-in-Composite : goal.copy_exprs::copy_expr-returns-in_ok-copy_type-in-Composite
copy_exprs::copy_expr-returns-in_ok-copy_type-in-Composite t c =
    c.composite_expr.ensures ∙ (λ j. composite c.in-Composite.span (c.in_ok-copy_type-in-Composite.ensures j) (c.in_ok-elems-in-Composite.ensures j)) ∙ ap expr_of (sym c.in-Composite.is)

pub copy_exprs::copy_expr-returns-in_ok-copy_name_at-in-Selector : goal.copy_exprs::copy_expr-returns-in_ok-copy_name_at-in-Selector
copy_exprs::copy_expr-returns-in_ok-copy_name_at-in-Selector t c =
    c.selector_expr.ensures ∙ (λ j. selector c.in-Selector.span (c.in_ok-base-in-Selector.ensures j) (name_at_of (c.in_ok-copy_name_at-in-Selector.ensures j))) ∙ ap expr_of (sym c.in-Selector.is)

pub copy_exprs::copy_expr-returns-in_ok-copy_boxed_expr-in-Index : goal.copy_exprs::copy_expr-returns-in_ok-copy_boxed_expr-in-Index
copy_exprs::copy_expr-returns-in_ok-copy_boxed_expr-in-Index t c =
    c.index_expr.ensures ∙ (λ j. index c.in-Index.span (c.in_ok-base-in-Index.ensures j) (c.in_ok-copy_boxed_expr-in-Index.ensures j)) ∙ ap expr_of (sym c.in-Index.is)

pub copy_exprs::copy_expr-returns-in_ok-copy_boxed_expr_option-in-Slice : goal.copy_exprs::copy_expr-returns-in_ok-copy_boxed_expr_option-in-Slice
copy_exprs::copy_expr-returns-in_ok-copy_boxed_expr_option-in-Slice t c =
    c.slice_expr.ensures ∙ (λ j. slice c.in-Slice.span (c.in_ok-base-in-Slice.ensures j) (c.in_ok-from-in-Slice.ensures j) (c.in_ok-copy_boxed_expr_option-in-Slice.ensures j)) ∙ ap expr_of (sym c.in-Slice.is)

pub copy_exprs::copy_expr-returns-in_ok-copy_exprs-in-Call : goal.copy_exprs::copy_expr-returns-in_ok-copy_exprs-in-Call
copy_exprs::copy_expr-returns-in_ok-copy_exprs-in-Call t c =
    c.call_expr.ensures ∙ (λ j. call c.in-Call.span (c.in_ok-callee-in-Call.ensures j) (c.in_ok-copy_exprs-in-Call.ensures j) c.in-Call.rest) ∙ ap expr_of (sym c.in-Call.is)

pub copy_exprs::copy_expr-returns-in_ok-copy_type-in-TypeOperand : goal.copy_exprs::copy_expr-returns-in_ok-copy_type-in-TypeOperand
copy_exprs::copy_expr-returns-in_ok-copy_type-in-TypeOperand t c =
    c.type_operand_expr.ensures ∙ (λ j. type_operand c.in-TypeOperand.span (c.in_ok-copy_type-in-TypeOperand.ensures j)) ∙ ap expr_of (sym c.in-TypeOperand.is)

pub copy_exprs::copy_expr-returns-in_ok-copy_boxed_expr-in-Unary : goal.copy_exprs::copy_expr-returns-in_ok-copy_boxed_expr-in-Unary
copy_exprs::copy_expr-returns-in_ok-copy_boxed_expr-in-Unary t c =
    c.unary_expr.ensures ∙ (λ j. unary c.in-Unary.span c.in-Unary.op (c.in_ok-copy_boxed_expr-in-Unary.ensures j)) ∙ ap expr_of (sym c.in-Unary.is)

pub copy_exprs::copy_expr-returns-in_ok-copy_boxed_expr-in-Binary : goal.copy_exprs::copy_expr-returns-in_ok-copy_boxed_expr-in-Binary
copy_exprs::copy_expr-returns-in_ok-copy_boxed_expr-in-Binary t c =
    c.binary_expr.ensures ∙ (λ j. binary c.in-Binary.span c.in-Binary.op (c.in_ok-left-in-Binary.ensures j) (c.in_ok-copy_boxed_expr-in-Binary.ensures j)) ∙ ap expr_of (sym c.in-Binary.is)

pub copy_exprs::copy_expr-returns-in_ok-copy_boxed_expr-in-Star : goal.copy_exprs::copy_expr-returns-in_ok-copy_boxed_expr-in-Star
copy_exprs::copy_expr-returns-in_ok-copy_boxed_expr-in-Star t c =
    c.star_expr.ensures ∙ (λ j. star c.in-Star.span (c.in_ok-copy_boxed_expr-in-Star.ensures j)) ∙ ap expr_of (sym c.in-Star.is)

pub copy_exprs::copy_expr-returns-in_ok-copy_sig-in-FuncLit : goal.copy_exprs::copy_expr-returns-in_ok-copy_sig-in-FuncLit
copy_exprs::copy_expr-returns-in_ok-copy_sig-in-FuncLit t c =
    c.func_lit_expr.ensures ∙ (λ j. func_lit c.in-FuncLit.span (c.in_ok-copy_sig-in-FuncLit.ensures j) (c.in_ok-body-in-FuncLit.ensures j).0 (c.in_ok-body-in-FuncLit.ensures j).1) ∙ ap expr_of (sym c.in-FuncLit.is)

pub copy_stmts::copy_stmt-returns-in_ok-copy_expr-in-Eval : goal.copy_stmts::copy_stmt-returns-in_ok-copy_expr-in-Eval
copy_stmts::copy_stmt-returns-in_ok-copy_expr-in-Eval t c =
    c.eval_stmt.ensures ∙ (λ j. eval c.in-Eval.span (c.in_ok-copy_expr-in-Eval.ensures j)) ∙ ap stmt_of (sym c.in-Eval.is)

pub copy_stmts::copy_stmt-returns-in_ok-copy_expr-in-Step : goal.copy_stmts::copy_stmt-returns-in_ok-copy_expr-in-Step
copy_stmts::copy_stmt-returns-in_ok-copy_expr-in-Step t c =
    c.step_stmt.ensures ∙ (λ j. step c.in-Step.span (c.in_ok-copy_expr-in-Step.ensures j) c.in-Step.up) ∙ ap stmt_of (sym c.in-Step.is)

pub copy_stmts::copy_stmt-returns-in_ok-copy_exprs-in-Assign : goal.copy_stmts::copy_stmt-returns-in_ok-copy_exprs-in-Assign
copy_stmts::copy_stmt-returns-in_ok-copy_exprs-in-Assign t c =
    c.assign_stmt.ensures ∙ (λ j. assign c.in-Assign.span (c.in_ok-left-in-Assign.ensures j) c.in-Assign.op (c.in_ok-copy_exprs-in-Assign.ensures j)) ∙ ap stmt_of (sym c.in-Assign.is)

pub copy_stmts::copy_stmt-returns-in_ok-copy_exprs-in-Define : goal.copy_stmts::copy_stmt-returns-in_ok-copy_exprs-in-Define
copy_stmts::copy_stmt-returns-in_ok-copy_exprs-in-Define t c =
    c.define_stmt.ensures ∙ (λ j. define c.in-Define.span (map name_at_of (c.in_ok-names-in-Define.ensures j)) (c.in_ok-copy_exprs-in-Define.ensures j)) ∙ ap stmt_of (sym c.in-Define.is)

pub copy_stmts::copy_stmt-returns-in_ok-copy_exprs-in-Return : goal.copy_stmts::copy_stmt-returns-in_ok-copy_exprs-in-Return
copy_stmts::copy_stmt-returns-in_ok-copy_exprs-in-Return t c =
    c.return_stmt.ensures ∙ (λ j. return_ c.in-Return.span (c.in_ok-copy_exprs-in-Return.ensures j)) ∙ ap stmt_of (sym c.in-Return.is)

pub copy_stmts::copy_stmt-returns-in_ok-copy_name_at_option-in-Break : goal.copy_stmts::copy_stmt-returns-in_ok-copy_name_at_option-in-Break
copy_stmts::copy_stmt-returns-in_ok-copy_name_at_option-in-Break t c =
    c.break_stmt.ensures ∙ (λ j. break_ c.in-Break.span (option_map name_at_of (c.in_ok-copy_name_at_option-in-Break.ensures j))) ∙ ap stmt_of (sym c.in-Break.is)

pub copy_stmts::copy_stmt-returns-in_ok-copy_name_at_option-in-Continue : goal.copy_stmts::copy_stmt-returns-in_ok-copy_name_at_option-in-Continue
copy_stmts::copy_stmt-returns-in_ok-copy_name_at_option-in-Continue t c =
    c.continue_stmt.ensures ∙ (λ j. continue_ c.in-Continue.span (option_map name_at_of (c.in_ok-copy_name_at_option-in-Continue.ensures j))) ∙ ap stmt_of (sym c.in-Continue.is)

pub copy_stmts::copy_stmt-returns-in_ok-copy_block-in-Inner : goal.copy_stmts::copy_stmt-returns-in_ok-copy_block-in-Inner
copy_stmts::copy_stmt-returns-in_ok-copy_block-in-Inner t c =
    c.inner_stmt.ensures ∙ (λ j. inner (c.in_ok-copy_block-in-Inner.ensures j).0 (c.in_ok-copy_block-in-Inner.ensures j).1) ∙ ap stmt_of (sym c.in-Inner.is)

pub copy_stmts::copy_stmt-returns-in_ok-copy_block_option-in-If : goal.copy_stmts::copy_stmt-returns-in_ok-copy_block_option-in-If
copy_stmts::copy_stmt-returns-in_ok-copy_block_option-in-If t c =
    c.if_stmt.ensures ∙ (λ j. if_ c.in-If.span (c.in_ok-arms-in-If.ensures j) (c.in_ok-copy_block_option-in-If.ensures j)) ∙ ap stmt_of (sym c.in-If.is)

pub copy_stmts::copy_stmt-returns-in_ok-test-in-For : goal.copy_stmts::copy_stmt-returns-in_ok-test-in-For
copy_stmts::copy_stmt-returns-in_ok-test-in-For t c =
    c.for_stmt.ensures ∙ (λ j. for_ c.in-For.span (c.in_ok-first-in-For.ensures j) (c.in_ok-test-in-For.ensures j) (c.in_ok-post-in-For.ensures j) (c.in_ok-body-in-For.ensures j).0 (c.in_ok-body-in-For.ensures j).1) ∙ ap stmt_of (sym c.in-For.is)

pub copy_stmts::copy_stmt-returns-in_ok-copy_expr-in-Range : goal.copy_stmts::copy_stmt-returns-in_ok-copy_expr-in-Range
copy_stmts::copy_stmt-returns-in_ok-copy_expr-in-Range t c =
    c.range_stmt.ensures ∙ (λ j. range_ c.in-Range.span (c.in_ok-left-in-Range.ensures j) (c.in_ok-copy_expr-in-Range.ensures j) (c.in_ok-body-in-Range.ensures j).0 (c.in_ok-body-in-Range.ensures j).1) ∙ ap stmt_of (sym c.in-Range.is)

pub copy_stmts::copy_stmt-returns-in_ok-tag-in-Switch : goal.copy_stmts::copy_stmt-returns-in_ok-tag-in-Switch
copy_stmts::copy_stmt-returns-in_ok-tag-in-Switch t c =
    c.switch_stmt.ensures ∙ (λ j. switch c.in-Switch.span (c.in_ok-first-in-Switch.ensures j) (c.in_ok-tag-in-Switch.ensures j) (c.in_ok-cases-in-Switch.ensures j)) ∙ ap stmt_of (sym c.in-Switch.is)

pub copy_stmts::copy_stmt-returns-in_ok-copy_expr-in-Defer : goal.copy_stmts::copy_stmt-returns-in_ok-copy_expr-in-Defer
copy_stmts::copy_stmt-returns-in_ok-copy_expr-in-Defer t c =
    c.defer_stmt.ensures ∙ (λ j. defer c.in-Defer.span (c.in_ok-copy_expr-in-Defer.ensures j)) ∙ ap stmt_of (sym c.in-Defer.is)

pub copy_stmts::copy_stmt-returns-in_ok-copy_boxed_stmt-in-Label : goal.copy_stmts::copy_stmt-returns-in_ok-copy_boxed_stmt-in-Label
copy_stmts::copy_stmt-returns-in_ok-copy_boxed_stmt-in-Label t c =
    c.label_stmt.ensures ∙ (λ j. label c.in-Label.span (name_at_of (c.in_ok-name-in-Label.ensures j)) (c.in_ok-copy_boxed_stmt-in-Label.ensures j)) ∙ ap stmt_of (sym c.in-Label.is)

pub copy_exprs::copy_exprs-loop-expr-preserved : goal.copy_exprs::copy_exprs-loop-expr-preserved
copy_exprs::copy_exprs-loop-expr-preserved t c =
    ap (map expr_of) c.in_ok-push.ensures.items ∙ map_copied expr_of _ _ _ _ _ c.loop-expr-test.true c.loop-expr.invariant (c.in_ok-copy_expr.ensures ∙ ap expr_of c.expr-item.is)

pub copy_exprs::copy_exprs-returns : goal.copy_exprs::copy_exprs-returns
copy_exprs::copy_exprs-returns t c =
    exprs_copied _ _ _ _ _ c.of.ensures.made c.items-expr-items.ensures.seen c.loop-expr.invariant c.loop-expr-test.false

pub copy_exprs::copy_elems-loop-elem-preserved : goal.copy_exprs::copy_elems-loop-elem-preserved
copy_exprs::copy_elems-loop-elem-preserved t c =
    ap (map elem_of) c.in_ok-push.ensures.items ∙ map_copied elem_of _ _ _ _ _ c.loop-elem-test.true c.loop-elem.invariant (c.in_ok-copy_elem.ensures ∙ ap elem_of c.elem-item.is)

pub copy_exprs::copy_elems-returns : goal.copy_exprs::copy_elems-returns
copy_exprs::copy_elems-returns t c =
    elems_copied _ _ _ _ _ c.of.ensures.made c.items-elem-items.ensures.seen c.loop-elem.invariant c.loop-elem-test.false

pub copy_stmts::copy_stmts-loop-stmt-preserved : goal.copy_stmts::copy_stmts-loop-stmt-preserved
copy_stmts::copy_stmts-loop-stmt-preserved t c =
    ap (map stmt_of) c.in_ok-push.ensures.items ∙ map_copied stmt_of _ _ _ _ _ c.loop-stmt-test.true c.loop-stmt.invariant (c.in_ok-copy_stmt.ensures ∙ ap stmt_of c.stmt-item.is)

pub copy_stmts::copy_stmts-returns : goal.copy_stmts::copy_stmts-returns
copy_stmts::copy_stmts-returns t c =
    stmts_copied _ _ _ _ _ c.of.ensures.made c.items-stmt-items.ensures.seen c.loop-stmt.invariant c.loop-stmt-test.false

pub copy_stmts::copy_arms-loop-arm-preserved : goal.copy_stmts::copy_arms-loop-arm-preserved
copy_stmts::copy_arms-loop-arm-preserved t c =
    ap (map arm_of) c.in_ok-push.ensures.items ∙ map_copied arm_of _ _ _ _ _ c.loop-arm-test.true c.loop-arm.invariant (c.in_ok-copy_arm.ensures ∙ ap arm_of c.arm-item.is)

pub copy_stmts::copy_arms-returns : goal.copy_stmts::copy_arms-returns
copy_stmts::copy_arms-returns t c =
    arms_copied _ _ _ _ _ c.of.ensures.made c.items-arm-items.ensures.seen c.loop-arm.invariant c.loop-arm-test.false

pub copy_stmts::copy_cases-loop-case-preserved : goal.copy_stmts::copy_cases-loop-case-preserved
copy_stmts::copy_cases-loop-case-preserved t c =
    ap (map case_of) c.in_ok-push.ensures.items ∙ map_copied case_of _ _ _ _ _ c.loop-case-test.true c.loop-case.invariant (c.in_ok-copy_case.ensures ∙ ap case_of c.case-item.is)

pub copy_stmts::copy_cases-returns : goal.copy_stmts::copy_cases-returns
copy_stmts::copy_cases-returns t c =
    cases_copied _ _ _ _ _ c.of.ensures.made c.items-case-items.ensures.seen c.loop-case.invariant c.loop-case-test.false

pub copy_stmts::copy_const_specs-loop-spec-preserved : goal.copy_stmts::copy_const_specs-loop-spec-preserved
copy_stmts::copy_const_specs-loop-spec-preserved t c =
    ap (map const_spec_of) c.in_ok-push.ensures.items ∙ map_copied const_spec_of _ _ _ _ _ c.loop-spec-test.true c.loop-spec.invariant (c.in_ok-copy_const_spec.ensures ∙ ap const_spec_of c.spec-item.is)

pub copy_stmts::copy_const_specs-returns : goal.copy_stmts::copy_const_specs-returns
copy_stmts::copy_const_specs-returns t c =
    const_specs_copied _ _ _ _ _ c.of.ensures.made c.items-spec-items.ensures.seen c.loop-spec.invariant c.loop-spec-test.false

pub copy_stmts::copy_const_spec-returns : goal.copy_stmts::copy_const_spec-returns
copy_stmts::copy_const_spec-returns t c =
    c.new.ensures ∙ (λ j. (c.args.spec.now.span, map name_at_of (c.in_ok-names.ensures j), c.in_ok-of.ensures j, c.in_ok-values.ensures j))

pub copy_stmts::copy_var_specs-loop-spec-preserved : goal.copy_stmts::copy_var_specs-loop-spec-preserved
copy_stmts::copy_var_specs-loop-spec-preserved t c =
    ap (map var_spec_of) c.in_ok-push.ensures.items ∙ map_copied var_spec_of _ _ _ _ _ c.loop-spec-test.true c.loop-spec.invariant (c.in_ok-copy_var_spec.ensures ∙ ap var_spec_of c.spec-item.is)

pub copy_stmts::copy_var_specs-returns : goal.copy_stmts::copy_var_specs-returns
copy_stmts::copy_var_specs-returns t c =
    var_specs_copied _ _ _ _ _ c.of.ensures.made c.items-spec-items.ensures.seen c.loop-spec.invariant c.loop-spec-test.false

pub copy_stmts::copy_var_spec-returns : goal.copy_stmts::copy_var_spec-returns
copy_stmts::copy_var_spec-returns t c =
    c.new.ensures ∙ (λ j. (c.args.spec.now.span, map name_at_of (c.in_ok-names.ensures j), c.in_ok-of.ensures j, c.in_ok-values.ensures j))

pub copy_stmts::copy_arm-returns : goal.copy_stmts::copy_arm-returns
copy_stmts::copy_arm-returns t c =
    c.new.ensures ∙ (λ j. (c.args.arm.now.span, c.in_ok-first.ensures j, c.in_ok-copy_expr.ensures j, c.in_ok-body.ensures j))

pub copy_stmts::copy_case-returns : goal.copy_stmts::copy_case-returns
copy_stmts::copy_case-returns t c =
    c.new.ensures ∙ (λ j. (c.args.case.now.span, c.in_ok-values.ensures j, c.in_ok-copy_stmts.ensures j))
