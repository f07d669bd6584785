use Rattle.std.proofs.Common.{◌≡◌, List, map, sym, ap, ◌∙◌, arith}
use Rattle.go_tree.specs.declared.exprs.Expr as source
use Rattle.go_tree.specs.Lists.{exprs_from}
use Rattle.go_tree.specs.View.{expr_of}
use Rattle.go_productions.specs.Cursors.{ahead}
use Rattle.go_productions.specs.Terminals.{rest_of}
use Rattle.go_expressions.proofs.Passing.{passed_on, rest_within, shorter_within}
use Rattle.go_statements.specs.StmtParts.{case_body_at}
use Rattle.go_statements.proofs.CaseArms.{case_begun, default_on}
use Rattle.go_statements.proofs.branches.case_clause.Goals as goal

pub returns-in_default : goal.returns-in_default
returns-in_default g c = record {
  gives =
      let ts = ahead c.args.place.at in
      let us = ahead c.rest-in_default.result in
      let behind : us ≡ rest_of (rest_of ts) = c.rest-in_default.ensures.is ∙ ap rest_of c.rest.ensures.is in
      passed_on _ c.case_body.result _ _
      (default_on ts us c.first.result c.requires.begins c.first.ensures.is c.in_default.not-Case behind ∙ ap (λ (xs : List source.Expr). case_body_at ts (exprs_from (map expr_of xs)) us) (sym c.new.ensures.items))
      c.case_body.ensures.gives;
  shorter =
      let some = case_begun (ahead c.args.place.at) c.requires.begins in
      let first = c.rest.ensures.shorter some in
      let second = rest_within (ahead c.rest.result) (ahead c.rest-in_default.result) c.rest-in_default.ensures.is in
      shorter_within c.case_body.result c.args.place.at c.rest-in_default.result (omega arith) c.case_body.ensures.within;
}
