use Rattle.std.proofs.Common.{◌≡◌, false, None, rules}
use Rattle.go_productions.specs.Cursors.{ahead}
use Rattle.go_read.specs.SpellsSpans.{span_to}
use Rattle.go_read.specs.Goals.{read_exprs}
use Rattle.go_read.specs.Reading.{at}
use Rattle.go_productions.specs.Terminals.{first_of}
use Rattle.go_statements.specs.StmtParts.{closes}
use Rattle.go_statements.proofs.StmtArms.{return_none}
use Rattle.go_statements.proofs.stmts.return_stmt.Goals as goal

pub returns-in_default : goal.returns-in_default
returns-in_default g c = record {
  gives =
      let ts = ahead c.args.place.at in
      let us = ahead c.rest-after.result in
      let more : closes (first_of us) ≡ false = search rules in
      let read : at span_to (read_exprs false) us ≡ None = search rules in
      return_none ts us c.requires.begins c.rest-after.ensures.is more read;
  shorter = tt;
}
