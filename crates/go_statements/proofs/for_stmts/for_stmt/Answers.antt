use Rattle.std.proofs.Common.{refl, arith}
use Rattle.go_productions.specs.Cursors.{ahead}
use Rattle.go_expressions.proofs.Passing.{begun, passed_on, shorter_on}
use Rattle.go_statements.proofs.ForArms.{for_clause}
use Rattle.go_statements.proofs.for_stmts.for_stmt.Goals as goal

pub returns-in_default : goal.returns-in_default
returns-in_default g c = record {
  gives =
      passed_on _ c.for_clause.result _ _
      (for_clause (ahead c.args.place.at) (ahead c.rest-left.result) c.first.result c.requires.begins c.rest-left.ensures.is c.first.ensures.is c.in_default.not-Brace c.in_default.not-Semicolon)
      c.for_clause.ensures.gives;
  shorter =
      let some = begun (ahead c.args.place.at) _ c.requires.begins refl in
      let fewer = c.rest-left.ensures.shorter some in
      shorter_on c.for_clause.result c.args.place.at c.rest-left.result (omega arith) c.for_clause.ensures.shorter;
}
