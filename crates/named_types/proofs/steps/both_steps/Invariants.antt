use Rattle.std.proofs.Common.{◌≡◌, map, take}
use Rattle.named_types.specs.Steps.{number_at}
use Rattle.named_types.proofs.steps.both_steps.Given as goal

abbrev pub invariant-loop-number : goal.invariant-loop-number
invariant-loop-number l = l.numbers.items ≡ map (number_at l.second) (take l.number-index l.first)
