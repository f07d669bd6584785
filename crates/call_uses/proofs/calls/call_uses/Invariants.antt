use Rattle.std.proofs.Common.{◌≡◌, ◌++◌, drop, map}
use Rattle.member_uses.specs.PossibleUses.Views.{part_of}
use Rattle.member_uses.specs.Views.{names_in, used_of}
use Rattle.call_uses.specs.Calls.{call_uses}
use Rattle.call_uses.proofs.calls.call_uses.Given as goal

abbrev pub invariant-loop-part : goal.invariant-loop-part
invariant-loop-part l =
    map used_of l.calls.items ++ call_uses (λ s. s) (names_in l.file) (map part_of (drop l.part-index l.parts))
    ≡ call_uses (λ s. s) (names_in l.file) (map part_of l.parts)
