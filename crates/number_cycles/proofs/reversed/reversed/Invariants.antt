use Rattle.std.proofs.Common.{◌≡◌, length}
use Rattle.number_cycles.specs.Owners.{AreBack}
use Rattle.number_cycles.proofs.reversed.reversed.Given as goal

abbrev pub invariant-loop-k : goal.invariant-loop-k
invariant-loop-k l = record {
  size : length l.rows ≡ length l.links;
  back : AreBack l.links l.rows;
}
