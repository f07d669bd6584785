use Rattle.std.proofs.Common.{◌≡◌, ◌+◌, ℕ, drop}
use Rattle.header_order.specs.Files.{first_mark}
use Rattle.header_order.proofs.files.first_marked.Given as goal

abbrev pub invariant-loop-i : goal.invariant-loop-i
invariant-loop-i l =
    (k j : ℕ) → l.end ≡ l.start + k → l.end ≡ l.i + j →
    first_mark l.start k (drop l.start l.marks) ≡ first_mark l.i j (drop l.i l.marks)
