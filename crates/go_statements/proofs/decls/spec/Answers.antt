use Rattle.std.proofs.Common.{◌≡◌, None, rules}
use Rattle.go_productions.specs.Cursors.{ahead}
use Rattle.go_read.specs.SpellsSpans.{span_to}
use Rattle.go_read.specs.Goals.{read_names}
use Rattle.go_read.specs.Reading.{at}
use Rattle.go_statements.proofs.DeclArms.{spec_nameless}
use Rattle.go_statements.proofs.decls.spec.Goals as goal

pub returns-in_default : goal.returns-in_default
returns-in_default g c = record {
  gives =
      let ts = ahead c.args.place.at in
      let read : at span_to read_names ts ≡ None = search rules in
      spec_nameless c.args.constant ts read;
  shorter = tt;
}
