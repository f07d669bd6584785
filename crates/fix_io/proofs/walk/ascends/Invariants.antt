use Rattle.std.proofs.Common.{◌≡◌, ℕ, ◌<◌, ◌+◌, get_or, [], Less, nat_cmp}
use Rattle.std.specs.Cmp.Lexicographic.{slice_cmp}
use Rattle.fix_io.specs.Entries.{entry_paths}
use Rattle.fix_io.proofs.walk.ascends.Given as goal

abbrev pub invariant-loop-i : goal.invariant-loop-i
invariant-loop-i l =
    (k : ℕ) → k + 1 < l.i → slice_cmp nat_cmp (get_or (entry_paths l.entries) k []) (get_or (entry_paths l.entries) (k + 1) []) ≡ Less
