use Rattle.std.proofs.Common.{◌≡◌, ◌≤◌, ◌-◌, ◌++◌, length, drop}
use Rattle.go_tree.specs.GoWords.Texts.{interpreted_value}
use Rattle.go_tree.specs.GoLiterals.Units.{IsUnits}
use Rattle.go_tree.proofs.go_literals.strings.interpreted.Given as goal

-- the value so far, and then that of the units from here on
abbrev pub invariant-loop-at : goal.invariant-loop-at
invariant-loop-at l =
    (l.at ≤ length l.inside) × IsUnits (drop l.at l.inside)
    × (l.value.items ++ interpreted_value (length l.inside) (drop l.at l.inside) ≡ interpreted_value (length l.inside) l.inside)

abbrev pub decreases-loop-at : goal.decreases-loop-at
decreases-loop-at l = length l.inside - l.at
