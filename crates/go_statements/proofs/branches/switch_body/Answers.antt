use Rattle.std.proofs.Common.{◌≡◌, Some, None, sym, ap, ◌∙◌, rules}
use Rattle.go_tree.specs.declared.spans.Span.{Span}
use Rattle.go_tree.specs.Tree.{ExprOption, Stmt, switch}
use Rattle.go_tree.specs.View.{boxed_expr_option_of, boxed_stmt_option_of, cases_of, plain_expr_option_of, stmt_of}
use Rattle.go_productions.specs.Cursors.{ahead}
use Rattle.go_read.specs.SpellsSpans.{span_to}
use Rattle.go_read.specs.Goals.{read_cases}
use Rattle.go_read.specs.Reading.{at}
use Rattle.go_statements.proofs.BranchArms.{switch_none, switch_end, switch_some}
use Rattle.go_statements.proofs.branches.switch_body.Goals as goal

pub returns-in_default : goal.returns-in_default
returns-in_default g c = record {
  gives =
      let ts = ahead c.args.place.at in
      let read : at span_to read_cases ts ≡ None = search rules in
      switch_none (ahead c.args.whole) ts (boxed_stmt_option_of c.args.first_stmt) (boxed_expr_option_of c.args.tag) read;
  shorter = tt;
}

pub returns-in_default-first : goal.returns-in_default-first
returns-in_default-first g c = record {
  gives =
      let ts = ahead c.args.place.at in
      let r = ahead c.in-Some.left in
      let cs = cases_of c.in-Some.cases in
      let read : at span_to read_cases ts ≡ Some (cs, r) = search rules in
      switch_end (ahead c.args.whole) ts r (boxed_stmt_option_of c.args.first_stmt) (boxed_expr_option_of c.args.tag) cs c.first.result read c.first.ensures.is c.in_default-first.not-EndBrace;
  shorter = tt;
}

pub returns-clause-gives : goal.returns-clause-gives
returns-clause-gives g c =
    let w = ahead c.args.whole in
    let ts = ahead c.args.place.at in
    let i = boxed_stmt_option_of c.args.first_stmt in
    let t = boxed_expr_option_of c.args.tag in
    let r = ahead c.in-Some.left in
    let us = ahead c.rest-left.result in
    let cs = cases_of c.in-Some.cases in
    let read : at span_to read_cases ts ≡ Some (cs, r) = search rules in
    let built : stmt_of c.switch_stmt.result ≡ switch (span_to w us) i t cs =
    c.switch_stmt.ensures
    ∙ ap (λ (s : Span). switch s i (plain_expr_option_of c.unboxed.result) cs) c.span_to-span.ensures
    ∙ ap (λ (e : ExprOption Span). switch (span_to w us) i e cs) c.unboxed.ensures in
    switch_some w ts r us i t cs read c.in-EndBrace.ensures.is c.rest-left.ensures.is ∙ ap (λ (x : Stmt Span). Some (x, us)) (sym built)
