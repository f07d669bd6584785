use Rattle.std.proofs.Common.{◌≡◌, ◌++◌, drop, map}
use Rattle.member_uses.specs.Views.{used_of}
use Rattle.repeated_parts.specs.UsesRepeated.Uses.{with_flag}
use Rattle.repeated_parts.specs.UsesRepeated.Views.{flagged_of}
use Rattle.repeated_parts.proofs.uses_repeated.uses.add_uses.Given as goal

abbrev pub invariant-loop-of : goal.invariant-loop-of
invariant-loop-of l =
    map flagged_of l.uses.items ++ with_flag l.repeated (map used_of (drop l.of-index l.found))
    ≡ map flagged_of l.initial.uses.items ++ with_flag l.repeated (map used_of l.found)
