use Rattle.std.proofs.Common.{◌≡◌, map, Some, None, sym, ap, ◌∙◌, rules}
use Rattle.go_tree.specs.declared.spans.Span.{Span}
use Rattle.go_tree.specs.Lists.{exprs_from}
use Rattle.go_tree.specs.Tree.{Exprs, Stmt, define}
use Rattle.go_tree.specs.View.{expr_of, exprs_of, name_at_of, stmt_of}
use Rattle.go_productions.specs.Cursors.{ahead}
use Rattle.go_read.specs.SpellsSpans.{span_to}
use Rattle.go_read.specs.Goals.{read_exprs, read_names}
use Rattle.go_read.specs.Reading.{at}
use Rattle.go_statements.proofs.SimpleArms.{define_lost, define_none, define_some}
use Rattle.go_statements.proofs.simple_stmts.define.Goals as goal

pub returns-in_default : goal.returns-in_default
returns-in_default g c = record {
  gives =
      let ts = ahead c.args.place.at in
      let read : at span_to read_names ts ≡ None = search rules in
      define_lost c.args.place.header ts read;
  shorter = tt;
}

pub returns-in_default-2 : goal.returns-in_default-2
returns-in_default-2 g c = record {
  gives =
      let ts = ahead c.args.place.at in
      let r = ahead c.in-Some.left in
      let us = ahead c.rest.result in
      let ns = map name_at_of c.in-Some.names in
      let named : at span_to read_names ts ≡ Some (ns, r) = search rules in
      let read : at span_to (read_exprs c.args.place.header) us ≡ None = search rules in
      define_none c.args.place.header ts r us ns named c.rest.ensures.is read;
  shorter = tt;
}

pub returns-clause-gives : goal.returns-clause-gives
returns-clause-gives g c =
    let ts = ahead c.args.place.at in
    let r = ahead c.in-Some.left in
    let us = ahead c.rest.result in
    let q = ahead c.in-Some-2.left in
    let ns = map name_at_of c.in-Some.names in
    let ys = exprs_from (map expr_of c.in-Some-2.right.items) in
    let named : at span_to read_names ts ≡ Some (ns, r) = search rules in
    let valued : at span_to (read_exprs c.args.place.header) us ≡ Some (ys, q) = search rules in
    let built : stmt_of c.define_stmt.result ≡ define (span_to ts q) ns ys =
    c.define_stmt.ensures
    ∙ ap (λ (s : Span). define s ns (exprs_of c.of.result)) c.span_to-span.ensures
    ∙ ap (λ (xs : Exprs Span). define (span_to ts q) ns xs) c.of.ensures.made in
    define_some c.args.place.header ts r us q ns ys named c.rest.ensures.is valued ∙ ap (λ (x : Stmt Span). Some (x, q)) (sym built)
