use Rattle.go_tree.specs.View.{stmt_of}
use Rattle.go_productions.specs.Cursors.{ahead}
use Rattle.go_statements.proofs.ForArms.{plain_stop}
use Rattle.go_statements.proofs.for_stmts.for_plain.Goals as goal

pub returns-in_default-evaluated : goal.returns-in_default-evaluated
returns-in_default-evaluated g c = record {
  gives =
      plain_stop (ahead c.args.whole) (ahead c.args.place.at) (stmt_of c.args.first_stmt) c.first.result c.first.ensures.is c.in_default.not-Semicolon c.in_default-evaluated.ensures;
  shorter = tt;
}
