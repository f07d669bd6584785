use Rattle.std.proofs.Common.{◌≡◌, map, None, rules}
use Rattle.go_tree.specs.View.{name_at_of}
use Rattle.go_productions.specs.Cursors.{ahead}
use Rattle.go_read.specs.SpellsSpans.{span_to}
use Rattle.go_read.specs.Goals.{read_type}
use Rattle.go_read.specs.Reading.{at}
use Rattle.go_statements.proofs.DeclArms.{spec_typeless}
use Rattle.go_statements.proofs.decls.typed_spec.Goals as goal

pub returns-in_default : goal.returns-in_default
returns-in_default g c = record {
  gives =
      let r = ahead c.args.place.at in
      let read : at span_to read_type r ≡ None = search rules in
      spec_typeless c.args.constant (ahead c.args.whole) r (map name_at_of c.args.names) c.requires.named c.requires.goes_on c.requires.typed read;
  shorter = tt;
}
