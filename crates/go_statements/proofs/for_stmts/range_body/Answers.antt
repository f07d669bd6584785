use Rattle.std.proofs.Common.{◌≡◌, true, Some, None, sym, ap, ◌∙◌, rules}
use Rattle.go_tree.specs.declared.spans.Span.{Span}
use Rattle.go_tree.specs.Tree.{Expr, Stmt, RangeLeft, range_}
use Rattle.go_tree.specs.View.{block_of, expr_of, range_left_of, stmt_of}
use Rattle.go_productions.specs.Cursors.{ahead}
use Rattle.go_read.specs.SpellsSpans.{span_to}
use Rattle.go_read.specs.Goals.{read_block, read_operand}
use Rattle.go_read.specs.Reading.{at}
use Rattle.go_statements.proofs.ForArms.{range_none, range_open, range_some}
use Rattle.go_statements.proofs.for_stmts.range_body.Goals as goal

pub returns-in_default : goal.returns-in_default
returns-in_default g c = record {
  gives =
      let ts = ahead c.args.place.at in
      let read : at span_to (read_operand true) ts ≡ None = search rules in
      range_none (ahead c.args.whole) ts (range_left_of c.args.left_side) read;
  shorter = tt;
}

pub returns-in_default-2 : goal.returns-in_default-2
returns-in_default-2 g c = record {
  gives =
      let ts = ahead c.args.place.at in
      let r = ahead c.in-Some.left in
      let e = expr_of c.in-Some.over in
      let read : at span_to (read_operand true) ts ≡ Some (e, r) = search rules in
      let bare : at span_to read_block r ≡ None = search rules in
      range_open (ahead c.args.whole) ts r (range_left_of c.args.left_side) e read bare;
  shorter = tt;
}

pub returns-clause-gives : goal.returns-clause-gives
returns-clause-gives g c =
    let w = ahead c.args.whole in
    let ts = ahead c.args.place.at in
    let r = ahead c.in-Some.left in
    let l = range_left_of c.args.left_side in
    let e = expr_of c.in-Some.over in
    let q = ahead c.in-Some-2.left in
    let b = block_of c.in-Some-2.body in
    let read : at span_to (read_operand true) ts ≡ Some (e, r) = search rules in
    let last : at span_to read_block r ≡ Some (b, q) = search rules in
    let sided : range_left_of c.into_inner.result ≡ l = search rules in
    let same : expr_of c.into_inner-2.result ≡ e = search rules in
    let built : stmt_of c.range_stmt.result ≡ range_ (span_to w q) l e b.0 b.1 =
    c.range_stmt.ensures
    ∙ ap (λ (s : Span). range_ s (range_left_of c.into_inner.result) (expr_of c.into_inner-2.result) b.0 b.1) c.span_to-span.ensures
    ∙ ap (λ (x : RangeLeft Span). range_ (span_to w q) x (expr_of c.into_inner-2.result) b.0 b.1) sided
    ∙ ap (λ (x : Expr Span). range_ (span_to w q) l x b.0 b.1) same in
    range_some w ts r q l e b.0 b.1 read last ∙ ap (λ (x : Stmt Span). Some (x, q)) (sym built)
