use Rattle.std.proofs.Common.{◌≡◌, ◌+◌, drop, map}
use Rattle.member_uses.specs.PossibleUses.Views.{part_of}
use Rattle.stepped_programs.specs.SwappedOrigins.{parts_before}
use Rattle.stepped_programs.proofs.swapped.parts_before.Given as goal

abbrev pub invariant-loop-number : goal.invariant-loop-number
invariant-loop-number l = l.number + parts_before l.at (map part_of (drop l.number l.parts)) ≡ parts_before l.at (map part_of l.parts)
