use Rattle.std.proofs.Common.{◌≡◌, ◌≤◌, length, map}
use Rattle.go_tree.specs.FileView.{import_spec_of}
use Rattle.go_productions.specs.Cursors.{ahead}
use Rattle.go_read.specs.SpellsSpans.{span_to}
use Rattle.go_read.specs.Goals.{read_import_specs}
use Rattle.go_read.specs.Reading.{at}
use Rattle.go_parse.specs.Parts.{with_front}
use Rattle.go_parse.specs.Texts.{HasTexts}
use Rattle.go_parse.proofs.imports.import_group.Given as goal

abbrev pub invariant-specs : goal.invariant-specs
invariant-specs l = record {
  read : with_front (map import_spec_of l.specs.items) (at span_to read_import_specs (ahead l.left)) ≡ at span_to read_import_specs (ahead l.fn.tokens);
  within : length (ahead l.left) ≤ length (ahead l.fn.tokens);
  texts : HasTexts (ahead l.left);
}

abbrev pub decreases-specs : goal.decreases-specs
decreases-specs l = length (ahead l.left)
