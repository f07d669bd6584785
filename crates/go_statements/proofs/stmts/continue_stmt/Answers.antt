use Rattle.std.proofs.Common.{Some, None, refl, sym, ap, ◌∙◌, arith}
use Rattle.go_tree.specs.declared.spans.Span.{Span}
use Rattle.go_tree.specs.Tree.{continue_}
use Rattle.go_productions.specs.Cursors.{ahead}
use Rattle.go_expressions.proofs.Passing.{begun}
use Rattle.go_statements.proofs.StmtArms.{continue_alone}
use Rattle.go_statements.proofs.stmts.continue_stmt.Goals as goal

pub returns-in_default : goal.returns-in_default
returns-in_default c = record {
  gives =
      let us = ahead c.rest-after.result in
      continue_alone (ahead c.args.tokens) us c.first.result c.requires.begins c.rest-after.ensures.is c.first.ensures.is c.in_default.not-Ident
      ∙ ap (λ (s : Span). Some (continue_ s None, us)) (sym c.span_to-span.ensures);
  shorter = let one = c.rest-after.ensures.shorter (begun (ahead c.args.tokens) _ c.requires.begins refl) in omega arith;
}
