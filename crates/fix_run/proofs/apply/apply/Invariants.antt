use Rattle.std.proofs.Common.{◌≡◌, take}
use Rattle.std.specs.Option.{option_map}
use Rattle.fix_io.specs.Writes.{written}
use Rattle.fix_run.specs.Causes.{IsQuiet}
use Rattle.fix_run.specs.Files.{writes_of}
use Rattle.fix_run.proofs.apply.apply.Given as goal

-- The files so far are replaced, the paths stay, and no fault was counted.
abbrev pub invariant-loop-file : goal.invariant-loop-file
invariant-loop-file g l = record {
  held : g.T.Tree.held l.tree ≡ option_map (written (take l.file-index (writes_of l.files))) (g.T.Tree.held l.initial.tree);
  paths : g.T.Tree.listed l.tree ≡ g.T.Tree.listed l.initial.tree;
  quiet : IsQuiet (g.T.Tree.faults l.initial.tree) (g.T.Tree.faults l.tree) (g.T.Tree.failed l.initial.tree) (g.T.Tree.failed l.tree);
}
