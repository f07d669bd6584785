use Rattle.std.proofs.Common.{◌≡◌, Some, None, sym, ap, ◌∙◌, rules}
use Rattle.go_tree.specs.declared.spans.Span.{Span}
use Rattle.go_tree.specs.Tree.{ExprOption, Stmt, for_}
use Rattle.go_tree.specs.View.{boxed_expr_option_of, boxed_stmt_option_of, block_of, plain_expr_option_of, stmt_of}
use Rattle.go_productions.specs.Cursors.{ahead}
use Rattle.go_read.specs.SpellsSpans.{span_to}
use Rattle.go_read.specs.Goals.{read_block}
use Rattle.go_read.specs.Reading.{at}
use Rattle.go_statements.proofs.ForArms.{body_none, body_some}
use Rattle.go_statements.proofs.for_stmts.for_body.Goals as goal

pub returns-in_default : goal.returns-in_default
returns-in_default g c = record {
  gives =
      let ts = ahead c.args.place.at in
      let read : at span_to read_block ts ≡ None = search rules in
      body_none (ahead c.args.whole) ts (boxed_stmt_option_of c.args.first_stmt) (boxed_expr_option_of c.args.test) (boxed_stmt_option_of c.args.post) read;
  shorter = tt;
}

pub returns-clause-gives : goal.returns-clause-gives
returns-clause-gives g c =
    let w = ahead c.args.whole in
    let ts = ahead c.args.place.at in
    let i = boxed_stmt_option_of c.args.first_stmt in
    let t = boxed_expr_option_of c.args.test in
    let p = boxed_stmt_option_of c.args.post in
    let r = ahead c.in-Some.left in
    let b = block_of c.in-Some.body in
    let read : at span_to read_block ts ≡ Some (b, r) = search rules in
    let built : stmt_of c.for_stmt.result ≡ for_ (span_to w r) i t p b.0 b.1 =
    c.for_stmt.ensures
    ∙ ap (λ (s : Span). for_ s i (plain_expr_option_of c.unboxed.result) p b.0 b.1) c.span_to-span.ensures
    ∙ ap (λ (e : ExprOption Span). for_ (span_to w r) i e p b.0 b.1) c.unboxed.ensures in
    body_some w ts r i t p b.0 b.1 read ∙ ap (λ (x : Stmt Span). Some (x, r)) (sym built)
