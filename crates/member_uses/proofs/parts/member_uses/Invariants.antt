use Rattle.std.proofs.Common.{◌≡◌, ◌++◌, drop, map}
use Rattle.member_uses.specs.PossibleUses.Views.{part_of}
use Rattle.member_uses.specs.Uses.{member_uses}
use Rattle.member_uses.specs.Views.{names_in, used_of}
use Rattle.member_uses.proofs.parts.member_uses.Given as goal

abbrev pub invariant-loop-part : goal.invariant-loop-part
invariant-loop-part l =
    map used_of l.uses.items ++ member_uses (λ s. s) (names_in l.file) (map part_of (drop l.part-index l.parts))
    ≡ member_uses (λ s. s) (names_in l.file) (map part_of l.parts)
