use Rattle.std.proofs.Common.{drop}
use Rattle.collected.specs.Declarations.{refusal_of}
use Rattle.checked_modules.proofs.FirstLemmas.{Left}
use Rattle.checked_modules.proofs.firsts.first_of_packages.Given as goal

abbrev pub invariant-loop-number : goal.invariant-loop-number
invariant-loop-number l =
    Left l.packages l.order l.blocks l.bodies (refusal_of l.declaration) (drop l.number-index l.order) l.rest
