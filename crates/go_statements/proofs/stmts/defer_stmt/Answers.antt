use Rattle.std.proofs.Common.{◌≡◌, false, None, rules}
use Rattle.go_productions.specs.Cursors.{ahead}
use Rattle.go_read.specs.SpellsSpans.{span_to}
use Rattle.go_read.specs.Goals.{read_expr}
use Rattle.go_read.specs.Reading.{at}
use Rattle.go_statements.proofs.StmtArms.{defer_none}
use Rattle.go_statements.proofs.stmts.defer_stmt.Goals as goal

pub returns-in_default : goal.returns-in_default
returns-in_default g c = record {
  gives =
      let ts = ahead c.args.place.at in
      let us = ahead c.rest.result in
      let read : at span_to (read_expr 1 false) us ≡ None = search rules in
      defer_none ts us c.requires.begins c.rest.ensures.is read;
  shorter = tt;
}
