use Rattle.std.proofs.Common.{◌≡◌, ◌<◌, length, map, true, Some, None, sym, ap, ◌∙◌, arith, rules}
use Rattle.go_tree.specs.declared.spans.Span.{Span}
use Rattle.go_tree.specs.Lists.{exprs_from}
use Rattle.go_tree.specs.Tree.{Exprs, Stmt, define}
use Rattle.go_tree.specs.View.{expr_of, name_at_of}
use Rattle.go_productions.specs.Cursors.{ahead}
use Rattle.go_read.specs.SpellsSpans.{span_to}
use Rattle.go_read.specs.Goals.{read_exprs, read_names}
use Rattle.go_read.specs.Reading.{at}
use Rattle.go_expressions.proofs.Passing.{passed_on, rest_within, shorter_on}
use Rattle.go_statements.proofs.ForArms.{clause_lost, clause_valueless, clause_defines}
use Rattle.go_statements.specs.StmtParts.{for_plain_at}
use Rattle.go_statements.proofs.for_stmts.for_defined.Goals as goal

pub returns : goal.returns
returns g c = record {
  gives =
      let ts = ahead c.args.place.at in
      let r = ahead c.in-Some.left in
      let us = ahead c.rest-left.result in
      let q = ahead c.in-Some-2.left in
      let ns = map name_at_of c.in-Some.names in
      let ys = exprs_from (map expr_of c.in-Some-2.right.items) in
      let named : at span_to read_names ts ≡ Some (ns, r) = search rules in
      let valued : at span_to (read_exprs true) us ≡ Some (ys, q) = search rules in
      passed_on _ c.for_plain.result _ _
      (clause_defines (ahead c.args.whole) ts r us q ns ys c.first.result c.requires.begins c.requires.defines named c.rest-left.ensures.is c.first.ensures.is c.in_default-first.not-Range valued
      ∙ ap (λ (x : Stmt Span). for_plain_at (ahead c.args.whole) x q) (ap (λ (s : Span). define s ns ys) (sym c.span_to-span.ensures) ∙ ap (λ (xs : Exprs Span). define c.span_to-span.result ns xs) (sym c.of.ensures.made) ∙ sym c.define_stmt-first_stmt.ensures))
      c.for_plain.ensures.gives;
  shorter =
      let first : length (ahead c.in-Some.left) < length (ahead c.args.place.at) = search rules in
      let second = rest_within (ahead c.in-Some.left) (ahead c.rest-left.result) c.rest-left.ensures.is in
      let third : length (ahead c.in-Some-2.left) < length (ahead c.rest-left.result) = search rules in
      shorter_on c.for_plain.result c.args.place.at c.in-Some-2.left (omega arith) c.for_plain.ensures.shorter;
}

pub returns-in_default : goal.returns-in_default
returns-in_default g c = record {
  gives =
      let ts = ahead c.args.place.at in
      let read : at span_to read_names ts ≡ None = search rules in
      clause_lost (ahead c.args.whole) ts read c.requires.defines;
  shorter = tt;
}

pub returns-in_default-2 : goal.returns-in_default-2
returns-in_default-2 g c = record {
  gives =
      let ts = ahead c.args.place.at in
      let r = ahead c.in-Some.left in
      let us = ahead c.rest-left.result in
      let ns = map name_at_of c.in-Some.names in
      let named : at span_to read_names ts ≡ Some (ns, r) = search rules in
      let read : at span_to (read_exprs true) us ≡ None = search rules in
      clause_valueless (ahead c.args.whole) ts r us ns c.first.result c.requires.begins c.requires.defines named c.rest-left.ensures.is c.first.ensures.is c.in_default-first.not-Range read;
  shorter = tt;
}
