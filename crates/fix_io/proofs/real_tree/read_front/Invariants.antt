use Rattle.std.proofs.Common.{◌≤◌, vec_len}
use Rattle.fix_io.proofs.real_tree.read_front.Given as goal

abbrev pub invariant-loop : goal.invariant-loop
invariant-loop g l = vec_len l.bytes ≤ l.max
