use Rattle.std.proofs.Common.{◌≡◌, ◌≤◌, length, map}
use Rattle.go_tree.specs.FileView.{type_spec_of}
use Rattle.go_productions.specs.Cursors.{ahead}
use Rattle.go_read.specs.SpellsSpans.{span_to}
use Rattle.go_read.specs.Goals.{read_type_specs}
use Rattle.go_read.specs.Reading.{at}
use Rattle.go_parse.specs.Parts.{with_front}
use Rattle.go_parse.proofs.types.type_group.Given as goal

abbrev pub invariant-specs : goal.invariant-specs
invariant-specs l = record {
  read : with_front (map type_spec_of l.specs.items) (at span_to read_type_specs (ahead l.left)) ≡ at span_to read_type_specs (ahead l.fn.tokens);
  within : length (ahead l.left) ≤ length (ahead l.fn.tokens);
}

abbrev pub decreases-specs : goal.decreases-specs
decreases-specs l = length (ahead l.left)
