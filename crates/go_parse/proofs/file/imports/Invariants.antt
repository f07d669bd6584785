use Rattle.std.proofs.Common.{◌≡◌, ◌≤◌, length, map}
use Rattle.go_tree.specs.FileView.{import_decl_of}
use Rattle.go_productions.specs.Cursors.{ahead}
use Rattle.go_read.specs.SpellsSpans.{span_to}
use Rattle.go_read.specs.Goals.{read_imports}
use Rattle.go_read.specs.Reading.{at}
use Rattle.go_parse.specs.Parts.{with_front}
use Rattle.go_parse.specs.Texts.{HasTexts}
use Rattle.go_parse.proofs.file.imports.Given as goal

abbrev pub invariant-decls : goal.invariant-decls
invariant-decls l = record {
  read : with_front (map import_decl_of l.list.items) (at span_to read_imports (ahead l.left)) ≡ at span_to read_imports (ahead l.fn.tokens);
  within : length (ahead l.left) ≤ length (ahead l.fn.tokens);
  texts : HasTexts (ahead l.left);
}

abbrev pub decreases-decls : goal.decreases-decls
decreases-decls l = length (ahead l.left)
