use Rattle.std.proofs.Common.{◌≡◌}
use Rattle.folder_reading.specs.Causes.{IsQuiet}
use Rattle.folder_reading.proofs.ReadLemmas.{AreFirst}
use Rattle.folder_reading.proofs.reading.read_files.Given as goal

abbrev pub invariant-loop-number : goal.invariant-loop-number
invariant-loop-number g l = record {
  first : AreFirst (g.T.Tree.held l.initial.tree) (g.T.Tree.listed l.initial.tree) l.numbers l.sources.items l.number-index l.total;
  held : g.T.Tree.held l.tree ≡ g.T.Tree.held l.initial.tree;
  paths : g.T.Tree.listed l.tree ≡ g.T.Tree.listed l.initial.tree;
  quiet : IsQuiet (g.T.Tree.faults l.initial.tree) (g.T.Tree.faults l.tree) (g.T.Tree.failed l.initial.tree) (g.T.Tree.failed l.tree);
}
