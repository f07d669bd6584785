use Rattle.std.proofs.Common.{Some, map, sym, ap, ◌∙◌, rules}
use Rattle.go_tree.specs.declared.spans.Span.{Span}
use Rattle.go_tree.specs.Lists.{exprs_from}
use Rattle.go_tree.specs.Tree.{eval}
use Rattle.go_tree.specs.View.{expr_of}
use Rattle.go_productions.specs.Cursors.{ahead}
use Rattle.go_statements.proofs.SimpleArms.{after_other}
use Rattle.go_statements.proofs.simple_stmts.simple_after.Goals as goal

pub returns-in_default-first : goal.returns-in_default-first
returns-in_default-first g c = record {
  gives =
      let ts = ahead c.args.place.at in
      after_other c.args.place.header (ahead c.args.whole) ts (exprs_from (map expr_of c.args.exprs.items)) (expr_of c.in-Some-only.e) c.first-2.result
      c.first-2.ensures.is (search rules) c.in_default-first.not-Increment c.in_default-first.not-Decrement c.in-Some-only.ensures
      ∙ ap (λ (s : Span). Some (eval s (expr_of c.in-Some-only.e), ts)) (sym c.span_to-span-in_default-first.ensures);
  within = search rules;
}
