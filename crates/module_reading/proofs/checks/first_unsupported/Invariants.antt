use Rattle.std.proofs.Common.{All, take}
use Rattle.module_texts.specs.Refusals.{HasWords}
use Rattle.module_reading.proofs.checks.first_unsupported.Given as goal

abbrev pub invariant-loop-number : goal.invariant-loop-number
invariant-loop-number l = All HasWords (take l.number l.files)
