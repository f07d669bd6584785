use Rattle.std.proofs.Common.{◌≡◌, ◌++◌, drop, map}
use Rattle.member_uses.specs.Views.{names_in}
use Rattle.member_uses.specs.PossibleUses.Views.{part_of}
use Rattle.repeated_parts.specs.UsesRepeated.Uses.{flagged_uses}
use Rattle.repeated_parts.specs.UsesRepeated.Views.{flagged_of}
use Rattle.repeated_parts.proofs.uses_repeated.uses.repeated_uses.Given as goal

abbrev pub invariant-loop-at : goal.invariant-loop-at
invariant-loop-at l =
    map flagged_of l.uses.items ++ flagged_uses (λ s. s) (names_in l.file) (map part_of (drop l.at l.parts)) (drop l.at l.flags)
    ≡ flagged_uses (λ s. s) (names_in l.file) (map part_of l.parts) l.flags
