use Rattle.std.proofs.Common.{All, take}
use Rattle.module_texts.specs.Refusals.{IsShallow}
use Rattle.module_reading.proofs.checks.first_too_deep.Given as goal

abbrev pub invariant-loop-number : goal.invariant-loop-number
invariant-loop-number l = All IsShallow (take l.number l.files)
