use Rattle.std.proofs.Common.{◌≡◌, All, length, take}
use Rattle.folder_reading.specs.Sources.{AreOctets}
use Rattle.folder_reading.proofs.folder.listed_paths.Given as goal

abbrev pub invariant-loop-i : goal.invariant-loop-i
invariant-loop-i g l = record {
  paths : l.paths.items ≡ take l.i (g.T.Tree.listed l.tree);
  octets : All AreOctets (take l.i (g.T.Tree.listed l.tree));
  end : l.i-end ≡ length (g.T.Tree.listed l.tree);
}
