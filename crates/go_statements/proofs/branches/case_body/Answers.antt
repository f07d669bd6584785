use Rattle.std.proofs.Common.{◌≡◌, map, Some, None, sym, ap, ◌∙◌, rules}
use Rattle.go_tree.specs.declared.spans.Span.{Span}
use Rattle.go_tree.specs.Lists.{exprs_from}
use Rattle.go_tree.specs.Tree.{Exprs, Stmts}
use Rattle.go_tree.specs.View.{case_of, expr_of, exprs_of, stmts_of}
use Rattle.go_productions.specs.Cursors.{ahead}
use Rattle.go_read.specs.SpellsSpans.{span_to}
use Rattle.go_read.specs.Goals.{read_stmts}
use Rattle.go_read.specs.Reading.{at}
use Rattle.go_statements.proofs.CaseArms.{case_body_none, case_body_some}
use Rattle.go_statements.proofs.branches.case_body.Goals as goal

pub returns-in_default : goal.returns-in_default
returns-in_default g c = record {
  gives =
      let ts = ahead c.args.place.at in
      let read : at span_to read_stmts ts ≡ None = search rules in
      case_body_none (ahead c.args.whole) ts (exprs_from (map expr_of c.args.values.items)) read;
  within = tt;
}

pub returns-clause-gives : goal.returns-clause-gives
returns-clause-gives g c =
    let w = ahead c.args.whole in
    let ts = ahead c.args.place.at in
    let r = ahead c.in-Some.left in
    let xs = exprs_from (map expr_of c.args.values.items) in
    let b = stmts_of c.in-Some.body in
    let read : at span_to read_stmts ts ≡ Some (b, r) = search rules in
    let built : case_of c.new.result ≡ (span_to w r, xs, b) =
    c.new.ensures
    ∙ ap (λ (s : Span). (s, exprs_of c.of.result, b)) c.span_to-span.ensures
    ∙ ap (λ (ys : Exprs Span). (span_to w r, ys, b)) c.of.ensures.made in
    case_body_some w ts r xs b read ∙ ap (λ (x : Span × Exprs Span × Stmts Span). Some (x, r)) (sym built)
