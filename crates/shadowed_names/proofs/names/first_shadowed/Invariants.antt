use Rattle.std.proofs.Common.{◌≡◌, drop, map}
use Rattle.member_uses.specs.PossibleUses.Views.{part_of}
use Rattle.member_uses.specs.Views.{names_in}
use Rattle.shadowed_names.specs.Told.{first_told, shadowed_part}
use Rattle.shadowed_names.proofs.names.first_shadowed.Given as goal

abbrev pub invariant-loop-at : goal.invariant-loop-at
invariant-loop-at l =
    first_told (shadowed_part (λ s. s) (names_in l.home) (names_in l.there.file) l.there.at) (map part_of (drop l.at l.parts)) (drop l.at l.flags)
    ≡ first_told (shadowed_part (λ s. s) (names_in l.home) (names_in l.there.file) l.there.at) (map part_of l.parts) l.flags
