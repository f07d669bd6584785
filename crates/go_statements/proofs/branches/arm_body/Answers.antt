use Rattle.std.proofs.Common.{◌≡◌, Some, None, sym, ap, ◌∙◌, rules}
use Rattle.go_tree.specs.declared.spans.Span.{Span}
use Rattle.go_tree.specs.Tree.{Expr, Stmts, StmtOption}
use Rattle.go_tree.specs.View.{boxed_stmt_option_of, block_of, expr_of, arm_of}
use Rattle.go_productions.specs.Cursors.{ahead}
use Rattle.go_read.specs.SpellsSpans.{span_to}
use Rattle.go_read.specs.Goals.{read_block}
use Rattle.go_read.specs.Reading.{at}
use Rattle.go_statements.proofs.BranchArms.{arm_bodiless, arm_some}
use Rattle.go_statements.proofs.branches.arm_body.Goals as goal

pub returns-in_default : goal.returns-in_default
returns-in_default g c = record {
  gives =
      let ts = ahead c.args.place.at in
      let read : at span_to read_block ts ≡ None = search rules in
      arm_bodiless (ahead c.args.whole) ts (boxed_stmt_option_of c.args.first_stmt) (expr_of c.args.test.value) read;
  shorter = tt;
}

pub returns-clause-gives : goal.returns-clause-gives
returns-clause-gives g c =
    let w = ahead c.args.whole in
    let ts = ahead c.args.place.at in
    let i = boxed_stmt_option_of c.args.first_stmt in
    let r = ahead c.in-Some.left in
    let e = expr_of c.args.test.value in
    let b = block_of c.in-Some.body in
    let read : at span_to read_block ts ≡ Some (b, r) = search rules in
    let same : expr_of c.into_inner.result ≡ e = search rules in
    let built : arm_of c.new.result ≡ (span_to w r, i, e, b) =
    c.new.ensures
    ∙ ap (λ (s : Span). (s, i, expr_of c.into_inner.result, b)) c.span_to-span.ensures
    ∙ ap (λ (x : Expr Span). (span_to w r, i, x, b)) same in
    arm_some w ts r i e b read ∙ ap (λ (x : Span × StmtOption Span × Expr Span × (Span × Stmts Span)). Some (x, r)) (sym built)
