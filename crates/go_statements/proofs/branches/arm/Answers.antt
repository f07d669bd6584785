use Rattle.std.proofs.Common.{◌≡◌, ◌≤◌, length, true, Some, None, sym, ap, ◌∙◌, rules}
use Rattle.go_tree.specs.declared.spans.Span.{Span}
use Rattle.go_tree.specs.Tree.{Expr, no_stmt}
use Rattle.go_tree.specs.View.{expr_of, stmt_of}
use Rattle.go_productions.specs.Cursors.{ahead}
use Rattle.go_read.specs.SpellsSpans.{span_to}
use Rattle.go_read.specs.Goals.{read_simple}
use Rattle.go_read.specs.Reading.{at}
use Rattle.go_expressions.proofs.Passing.{passed_on, shorter_on}
use Rattle.go_statements.proofs.BranchArms.{arm_open, arm_lost, arm_stop, arm_evaluated}
use Rattle.go_statements.specs.StmtParts.{arm_body_at}
use Rattle.go_statements.proofs.branches.arm.Goals as goal

pub returns-in_default-evaluated : goal.returns-in_default-evaluated
returns-in_default-evaluated g c = record {
  gives =
      let us = ahead c.rest-left.result in
      let r = ahead c.in-Some.left in
      let read : at span_to (read_simple true) us ≡ Some (stmt_of c.in-Some.first_stmt, r) = search rules in
      arm_stop (ahead c.args.place.at) us r (stmt_of c.in-Some.first_stmt) c.first-2.result c.first-3.result
      c.in-If.ensures.is c.rest-left.ensures.is c.first-2.ensures.is c.in_default-first.not-Semicolon read c.first-3.ensures.is c.in_default-first-2.not-Semicolon c.in_default-evaluated.ensures;
  shorter = tt;
}

pub returns : goal.returns
returns g c = record {
  gives =
      let us = ahead c.rest-left.result in
      let r = ahead c.in-Some.left in
      let read : at span_to (read_simple true) us ≡ Some (stmt_of c.in-Some.first_stmt, r) = search rules in
      let boxed : expr_of c.in_ok-test.test.value ≡ expr_of c.in-Some-evaluated.test = search rules in
      passed_on _ c.arm_body.result _ _
      (arm_evaluated (ahead c.args.place.at) us r (stmt_of c.in-Some.first_stmt) (expr_of c.in-Some-evaluated.test) c.first-2.result c.first-3.result
      c.in-If.ensures.is c.rest-left.ensures.is c.first-2.ensures.is c.in_default-first.not-Semicolon read c.first-3.ensures.is c.in_default-first-2.not-Semicolon c.in-Some-evaluated.ensures
      ∙ ap (λ (e : Expr Span). arm_body_at (ahead c.args.place.at) no_stmt e r) (sym boxed))
      c.arm_body.ensures.gives;
  shorter =
      let fewer : length (ahead c.in-Some.left) ≤ length (ahead c.args.place.at) = search rules in
      shorter_on c.arm_body.result c.args.place.at c.in-Some.left fewer c.arm_body.ensures.shorter;
}

pub returns-in_default : goal.returns-in_default
returns-in_default g c = record {
  gives =
      arm_open (ahead c.args.place.at) c.first.result c.first.ensures.is c.in_default.not-If;
  shorter = tt;
}

pub returns-in_default-2 : goal.returns-in_default-2
returns-in_default-2 g c = record {
  gives =
      let ts = ahead c.args.place.at in
      let us = ahead c.rest-left.result in
      let read : at span_to (read_simple true) us ≡ None = search rules in
      arm_lost ts us c.first-2.result c.in-If.ensures.is c.rest-left.ensures.is c.first-2.ensures.is c.in_default-first.not-Semicolon read;
  shorter = tt;
}
