use Rattle.std.proofs.Common.{refl, arith}
use Rattle.go_productions.specs.Cursors.{ahead}
use Rattle.go_expressions.proofs.Passing.{begun, passed_on, shorter_on}
use Rattle.go_statements.proofs.BranchArms.{switch_no_first}
use Rattle.go_statements.proofs.branches.switch_stmt.Goals as goal

pub returns-in-Semicolon : goal.returns-in-Semicolon
returns-in-Semicolon g c = record {
  gives =
      passed_on _ c.switch_tag.result _ _
      (switch_no_first (ahead c.args.place.at) (ahead c.rest-left.result) (ahead c.rest-in-Semicolon.result) c.requires.begins c.rest-left.ensures.is c.in-Semicolon.ensures.is c.rest-in-Semicolon.ensures.is)
      c.switch_tag.ensures.gives;
  shorter =
      let first = c.rest-left.ensures.shorter (begun (ahead c.args.place.at) _ c.requires.begins refl) in
      let second = c.rest-in-Semicolon.ensures.shorter (begun (ahead c.rest-left.result) _ c.in-Semicolon.ensures.is refl) in
      shorter_on c.switch_tag.result c.args.place.at c.rest-in-Semicolon.result (omega arith) c.switch_tag.ensures.shorter;
}
