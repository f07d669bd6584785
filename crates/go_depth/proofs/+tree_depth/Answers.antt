use Rattle.std.proofs.Common.{refl, sym, ap, ◌∙◌}
use Rattle.go_tree.specs.View.{expr_of, boxed_expr_option_of, plain_expr_option_of, value_of, held_value_option_of, stmt_of, boxed_stmt_option_of, held_block_option_of, range_left_of}
use Rattle.go_depth.specs.Depth.{capped, depth_expr, depth_expr_option, depth_value, depth_value_option, depth_stmt, depth_stmt_option, depth_block_option, depth_range_left}
use Rattle.go_depth.specs.Deep.{expr_deep, stmt_deep, elem_deep, arm_deep, case_deep, const_spec_deep, var_spec_deep}
use Rattle.go_depth.proofs.DepthLemmas.{walk_more, exprs_walked, elems_walked, stmts_walked, arms_walked, cases_walked, const_specs_walked, var_specs_walked}
use Rattle.go_depth.proofs.+tree_depth.Goals as goal

pub depth_exprs::depth-returns-in-Composite : goal.depth_exprs::depth-returns-in-Composite
depth_exprs::depth-returns-in-Composite t c = c.above.ensures _ (c.deeper.ensures _ _ c.type_depth.ensures c.elems_depth.ensures)
    ∙ ap (λ e. capped (depth_expr (expr_of e))) (sym c.in-Composite.is)

pub depth_exprs::depth-returns-in-Selector : goal.depth_exprs::depth-returns-in-Selector
depth_exprs::depth-returns-in-Selector t c = c.above-in-Selector.ensures _ (c.deeper-in-Selector.ensures _ 1 (c.depth.ensures ∙ ap (λ e. capped (depth_expr (expr_of e))) c.deref.ensures) refl)
    ∙ ap (λ e. capped (depth_expr (expr_of e))) (sym c.in-Selector.is)

pub depth_exprs::depth-returns-in-Index : goal.depth_exprs::depth-returns-in-Index
depth_exprs::depth-returns-in-Index t c = c.above-in-Index.ensures _ (c.deeper-in-Index.ensures _ _ (c.depth-in-Index.ensures ∙ ap (λ e. capped (depth_expr (expr_of e))) c.deref-in-Index.ensures) (c.depth-in-Index-2.ensures ∙ ap (λ e. capped (depth_expr (expr_of e))) c.deref-in-Index-2.ensures))
    ∙ ap (λ e. capped (depth_expr (expr_of e))) (sym c.in-Index.is)

pub depth_exprs::depth-returns-in-Slice : goal.depth_exprs::depth-returns-in-Slice
depth_exprs::depth-returns-in-Slice t c = c.above-in-Slice.ensures _ (c.deeper-in-Slice-2.ensures _ _ (c.depth-in-Slice.ensures ∙ ap (λ e. capped (depth_expr (expr_of e))) c.deref-in-Slice.ensures) (c.deeper-in-Slice.ensures _ _ c.boxed_option_depth.ensures c.boxed_option_depth-in-Slice.ensures))
    ∙ ap (λ e. capped (depth_expr (expr_of e))) (sym c.in-Slice.is)

pub depth_exprs::depth-returns-in-Call : goal.depth_exprs::depth-returns-in-Call
depth_exprs::depth-returns-in-Call t c = c.above-in-Call.ensures _ (c.deeper-in-Call.ensures _ _ (c.depth-in-Call.ensures ∙ ap (λ e. capped (depth_expr (expr_of e))) c.deref-in-Call.ensures) c.exprs_depth.ensures)
    ∙ ap (λ e. capped (depth_expr (expr_of e))) (sym c.in-Call.is)

pub depth_exprs::depth-returns-in-FuncLit : goal.depth_exprs::depth-returns-in-FuncLit
depth_exprs::depth-returns-in-FuncLit t c = c.above-in-FuncLit.ensures _ (c.deeper-in-FuncLit.ensures _ _ c.sig_depth.ensures c.block_depth.ensures)
    ∙ ap (λ e. capped (depth_expr (expr_of e))) (sym c.in-FuncLit.is)

pub depth_exprs::depth-returns-in-TypeOperand : goal.depth_exprs::depth-returns-in-TypeOperand
depth_exprs::depth-returns-in-TypeOperand t c = c.above-in-TypeOperand.ensures _ c.type_depth-in-TypeOperand.ensures
    ∙ ap (λ e. capped (depth_expr (expr_of e))) (sym c.in-TypeOperand.is)

pub depth_exprs::depth-returns-in-Unary : goal.depth_exprs::depth-returns-in-Unary
depth_exprs::depth-returns-in-Unary t c = c.above-in-Unary.ensures _ (c.depth-in-Unary.ensures ∙ ap (λ e. capped (depth_expr (expr_of e))) c.deref-in-Unary.ensures)
    ∙ ap (λ e. capped (depth_expr (expr_of e))) (sym c.in-Unary.is)

pub depth_exprs::depth-returns-in-Binary : goal.depth_exprs::depth-returns-in-Binary
depth_exprs::depth-returns-in-Binary t c = c.above-in-Binary.ensures _ (c.deeper-in-Binary.ensures _ _ (c.depth-in-Binary.ensures ∙ ap (λ e. capped (depth_expr (expr_of e))) c.deref-in-Binary.ensures) (c.depth-in-Binary-2.ensures ∙ ap (λ e. capped (depth_expr (expr_of e))) c.deref-in-Binary-2.ensures))
    ∙ ap (λ e. capped (depth_expr (expr_of e))) (sym c.in-Binary.is)

pub depth_exprs::depth-returns-in-Star : goal.depth_exprs::depth-returns-in-Star
depth_exprs::depth-returns-in-Star t c = c.above-in-Star.ensures _ (c.depth-in-Star.ensures ∙ ap (λ e. capped (depth_expr (expr_of e))) c.deref-in-Star.ensures)
    ∙ ap (λ e. capped (depth_expr (expr_of e))) (sym c.in-Star.is)

pub depth_exprs::boxed_option_depth-returns-in-Some : goal.depth_exprs::boxed_option_depth-returns-in-Some
depth_exprs::boxed_option_depth-returns-in-Some t c = c.depth.ensures ∙ ap (λ e. capped (depth_expr (expr_of e))) c.deref.ensures
    ∙ ap (λ o. capped (depth_expr_option (boxed_expr_option_of o))) (sym c.in-Some.is)

pub depth_exprs::option_depth-returns-in-Some : goal.depth_exprs::option_depth-returns-in-Some
depth_exprs::option_depth-returns-in-Some t c = c.depth.ensures
    ∙ ap (λ o. capped (depth_expr_option (plain_expr_option_of o))) (sym c.in-Some.is)

pub depth_exprs::value_option_depth-returns-in-Some : goal.depth_exprs::value_option_depth-returns-in-Some
depth_exprs::value_option_depth-returns-in-Some t c = c.value_depth.ensures
    ∙ ap (λ o. capped (depth_value_option (held_value_option_of o))) (sym c.in-Some.is)

pub depth_exprs::value_depth-returns-in-Plain : goal.depth_exprs::value_depth-returns-in-Plain
depth_exprs::value_depth-returns-in-Plain t c = c.depth.ensures
    ∙ ap (λ v. capped (depth_value (value_of v))) (sym c.in-Plain.is)

pub depth_exprs::value_depth-returns-in-Braced : goal.depth_exprs::value_depth-returns-in-Braced
depth_exprs::value_depth-returns-in-Braced t c = c.above.ensures _ c.elems_depth.ensures
    ∙ ap (λ v. capped (depth_value (value_of v))) (sym c.in-Braced.is)

pub depth_exprs::elem_depth-returns : goal.depth_exprs::elem_depth-returns
depth_exprs::elem_depth-returns t c = c.above.ensures _ (c.deeper.ensures _ _ c.value_option_depth.ensures c.value_depth.ensures)

pub depth_exprs::exprs_depth-loop-expr-preserved : goal.depth_exprs::exprs_depth-loop-expr-preserved
depth_exprs::exprs_depth-loop-expr-preserved t c = walk_more expr_deep _ _ _ _ _ _ c.loop-expr-test.true c.expr-item.is c.loop-expr.invariant c.depth.ensures c.deeper-deepest.ensures

pub depth_exprs::exprs_depth-returns : goal.depth_exprs::exprs_depth-returns
depth_exprs::exprs_depth-returns t c = exprs_walked _ _ _ _ c.items-expr-items.ensures.seen c.loop-expr.invariant c.loop-expr-test.false

pub depth_exprs::elems_depth-loop-elem-preserved : goal.depth_exprs::elems_depth-loop-elem-preserved
depth_exprs::elems_depth-loop-elem-preserved t c = walk_more elem_deep _ _ _ _ _ _ c.loop-elem-test.true c.elem-item.is c.loop-elem.invariant c.elem_depth.ensures c.deeper-deepest.ensures

pub depth_exprs::elems_depth-returns : goal.depth_exprs::elems_depth-returns
depth_exprs::elems_depth-returns t c = elems_walked _ _ _ _ c.items-elem-items.ensures.seen c.loop-elem.invariant c.loop-elem-test.false

pub depth_stmts::stmt_depth-returns-in-Const : goal.depth_stmts::stmt_depth-returns-in-Const
depth_stmts::stmt_depth-returns-in-Const t c = c.const_decl_depth.ensures
    ∙ ap (λ s. capped (depth_stmt (stmt_of s))) (sym c.in-Const.is)

pub depth_stmts::stmt_depth-returns-in-Var : goal.depth_stmts::stmt_depth-returns-in-Var
depth_stmts::stmt_depth-returns-in-Var t c = c.var_decl_depth.ensures
    ∙ ap (λ s. capped (depth_stmt (stmt_of s))) (sym c.in-Var.is)

pub depth_stmts::stmt_depth-returns-in-Assign : goal.depth_stmts::stmt_depth-returns-in-Assign
depth_stmts::stmt_depth-returns-in-Assign t c = c.above.ensures _ (c.deeper.ensures _ _ c.exprs_depth.ensures c.exprs_depth-in-Assign.ensures)
    ∙ ap (λ s. capped (depth_stmt (stmt_of s))) (sym c.in-Assign.is)

pub depth_stmts::stmt_depth-returns-in-Define : goal.depth_stmts::stmt_depth-returns-in-Define
depth_stmts::stmt_depth-returns-in-Define t c = c.above-in-Define.ensures _ (c.deeper-in-Define.ensures _ _ c.names_depth.ensures c.exprs_depth-in-Define.ensures)
    ∙ ap (λ s. capped (depth_stmt (stmt_of s))) (sym c.in-Define.is)

pub depth_stmts::stmt_depth-returns-in-Return : goal.depth_stmts::stmt_depth-returns-in-Return
depth_stmts::stmt_depth-returns-in-Return t c = c.above-in-Return.ensures _ c.exprs_depth-in-Return.ensures
    ∙ ap (λ s. capped (depth_stmt (stmt_of s))) (sym c.in-Return.is)

pub depth_stmts::stmt_depth-returns-in-Inner : goal.depth_stmts::stmt_depth-returns-in-Inner
depth_stmts::stmt_depth-returns-in-Inner t c = c.block_depth.ensures
    ∙ ap (λ s. capped (depth_stmt (stmt_of s))) (sym c.in-Inner.is)

pub depth_stmts::stmt_depth-returns-in-If : goal.depth_stmts::stmt_depth-returns-in-If
depth_stmts::stmt_depth-returns-in-If t c = c.above-in-If.ensures _ (c.deeper-in-If.ensures _ _ c.arms_depth.ensures c.block_option_depth.ensures)
    ∙ ap (λ s. capped (depth_stmt (stmt_of s))) (sym c.in-If.is)

pub depth_stmts::stmt_depth-returns-in-For : goal.depth_stmts::stmt_depth-returns-in-For
depth_stmts::stmt_depth-returns-in-For t c = c.above-in-For.ensures _ (c.deeper-in-For-3.ensures _ _ c.stmt_option_depth.ensures (c.deeper-in-For-2.ensures _ _ c.option_depth.ensures (c.deeper-in-For.ensures _ _ c.stmt_option_depth-in-For.ensures c.block_depth-in-For.ensures)))
    ∙ ap (λ s. capped (depth_stmt (stmt_of s))) (sym c.in-For.is)

pub depth_stmts::stmt_depth-returns-in-Range : goal.depth_stmts::stmt_depth-returns-in-Range
depth_stmts::stmt_depth-returns-in-Range t c = c.above-in-Range.ensures _ (c.deeper-in-Range-2.ensures _ _ c.left_depth.ensures (c.deeper-in-Range.ensures _ _ c.depth.ensures c.block_depth-in-Range.ensures))
    ∙ ap (λ s. capped (depth_stmt (stmt_of s))) (sym c.in-Range.is)

pub depth_stmts::stmt_depth-returns-in-Switch : goal.depth_stmts::stmt_depth-returns-in-Switch
depth_stmts::stmt_depth-returns-in-Switch t c = c.above-in-Switch.ensures _ (c.deeper-in-Switch-2.ensures _ _ c.stmt_option_depth-in-Switch.ensures (c.deeper-in-Switch.ensures _ _ c.option_depth-in-Switch.ensures c.cases_depth.ensures))
    ∙ ap (λ s. capped (depth_stmt (stmt_of s))) (sym c.in-Switch.is)

pub depth_stmts::stmt_depth-returns-in-Label : goal.depth_stmts::stmt_depth-returns-in-Label
depth_stmts::stmt_depth-returns-in-Label t c = c.above-in-Label.ensures _ (c.deeper-in-Label.ensures 1 _ refl (c.stmt_depth.ensures ∙ ap (λ s. capped (depth_stmt (stmt_of s))) c.deref.ensures))
    ∙ ap (λ s. capped (depth_stmt (stmt_of s))) (sym c.in-Label.is)

pub depth_stmts::block_depth-returns : goal.depth_stmts::block_depth-returns
depth_stmts::block_depth-returns t c = c.above.ensures _ c.stmts_depth.ensures

pub depth_stmts::block_option_depth-returns-in-Some : goal.depth_stmts::block_option_depth-returns-in-Some
depth_stmts::block_option_depth-returns-in-Some t c = c.block_depth.ensures
    ∙ ap (λ o. capped (depth_block_option (held_block_option_of o))) (sym c.in-Some.is)

pub depth_stmts::stmt_option_depth-returns-in-Some : goal.depth_stmts::stmt_option_depth-returns-in-Some
depth_stmts::stmt_option_depth-returns-in-Some t c = c.stmt_depth.ensures ∙ ap (λ s. capped (depth_stmt (stmt_of s))) c.deref.ensures
    ∙ ap (λ o. capped (depth_stmt_option (boxed_stmt_option_of o))) (sym c.in-Some.is)

pub depth_stmts::left_depth-returns-in-Assigns : goal.depth_stmts::left_depth-returns-in-Assigns
depth_stmts::left_depth-returns-in-Assigns t c = c.exprs_depth.ensures
    ∙ ap (λ l. capped (depth_range_left (range_left_of l))) (sym c.in-Assigns.is)

pub depth_stmts::left_depth-returns-in-Defines : goal.depth_stmts::left_depth-returns-in-Defines
depth_stmts::left_depth-returns-in-Defines t c = c.names_depth.ensures
    ∙ ap (λ l. capped (depth_range_left (range_left_of l))) (sym c.in-Defines.is)

pub depth_stmts::arm_depth-returns : goal.depth_stmts::arm_depth-returns
depth_stmts::arm_depth-returns t c = c.above.ensures _ (c.deeper-2.ensures _ _ c.stmt_option_depth.ensures (c.deeper.ensures _ _ c.depth.ensures c.block_depth.ensures))

pub depth_stmts::case_depth-returns : goal.depth_stmts::case_depth-returns
depth_stmts::case_depth-returns t c = c.above.ensures _ (c.deeper.ensures _ _ c.exprs_depth.ensures c.stmts_depth.ensures)

pub depth_stmts::const_spec_depth-returns : goal.depth_stmts::const_spec_depth-returns
depth_stmts::const_spec_depth-returns t c = c.above.ensures _ (c.deeper-2.ensures _ _ c.names_depth.ensures (c.deeper.ensures _ _ c.type_option_depth.ensures c.exprs_depth.ensures))

pub depth_stmts::const_specs_depth-loop-spec-preserved : goal.depth_stmts::const_specs_depth-loop-spec-preserved
depth_stmts::const_specs_depth-loop-spec-preserved t c = walk_more const_spec_deep _ _ _ _ _ _ c.loop-spec-test.true c.spec-item.is c.loop-spec.invariant c.const_spec_depth.ensures c.deeper-deepest.ensures

pub depth_stmts::const_specs_depth-returns : goal.depth_stmts::const_specs_depth-returns
depth_stmts::const_specs_depth-returns t c = const_specs_walked _ _ _ _ c.items-spec-items.ensures.seen c.loop-spec.invariant c.loop-spec-test.false

pub depth_stmts::var_spec_depth-returns : goal.depth_stmts::var_spec_depth-returns
depth_stmts::var_spec_depth-returns t c = c.above.ensures _ (c.deeper-2.ensures _ _ c.names_depth.ensures (c.deeper.ensures _ _ c.type_option_depth.ensures c.exprs_depth.ensures))

pub depth_stmts::var_specs_depth-loop-spec-preserved : goal.depth_stmts::var_specs_depth-loop-spec-preserved
depth_stmts::var_specs_depth-loop-spec-preserved t c = walk_more var_spec_deep _ _ _ _ _ _ c.loop-spec-test.true c.spec-item.is c.loop-spec.invariant c.var_spec_depth.ensures c.deeper-deepest.ensures

pub depth_stmts::var_specs_depth-returns : goal.depth_stmts::var_specs_depth-returns
depth_stmts::var_specs_depth-returns t c = var_specs_walked _ _ _ _ c.items-spec-items.ensures.seen c.loop-spec.invariant c.loop-spec-test.false

pub depth_stmts::stmts_depth-loop-stmt-preserved : goal.depth_stmts::stmts_depth-loop-stmt-preserved
depth_stmts::stmts_depth-loop-stmt-preserved t c = walk_more stmt_deep _ _ _ _ _ _ c.loop-stmt-test.true c.stmt-item.is c.loop-stmt.invariant c.stmt_depth.ensures c.deeper-deepest.ensures

pub depth_stmts::stmts_depth-returns : goal.depth_stmts::stmts_depth-returns
depth_stmts::stmts_depth-returns t c = stmts_walked _ _ _ _ c.items-stmt-items.ensures.seen c.loop-stmt.invariant c.loop-stmt-test.false

pub depth_stmts::arms_depth-loop-arm-preserved : goal.depth_stmts::arms_depth-loop-arm-preserved
depth_stmts::arms_depth-loop-arm-preserved t c = walk_more arm_deep _ _ _ _ _ _ c.loop-arm-test.true c.arm-item.is c.loop-arm.invariant c.arm_depth.ensures c.deeper-deepest.ensures

pub depth_stmts::arms_depth-returns : goal.depth_stmts::arms_depth-returns
depth_stmts::arms_depth-returns t c = arms_walked _ _ _ _ c.items-arm-items.ensures.seen c.loop-arm.invariant c.loop-arm-test.false

pub depth_stmts::cases_depth-loop-case-preserved : goal.depth_stmts::cases_depth-loop-case-preserved
depth_stmts::cases_depth-loop-case-preserved t c = walk_more case_deep _ _ _ _ _ _ c.loop-case-test.true c.case-item.is c.loop-case.invariant c.case_depth.ensures c.deeper-deepest.ensures

pub depth_stmts::cases_depth-returns : goal.depth_stmts::cases_depth-returns
depth_stmts::cases_depth-returns t c = cases_walked _ _ _ _ c.items-case-items.ensures.seen c.loop-case.invariant c.loop-case-test.false
