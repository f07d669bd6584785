use Rattle.declared_types.specs.Steps.{StillFound}
use Rattle.declared_types.proofs.aliases.find_aliases.Given as goal

abbrev pub invariant-loop : goal.invariant-loop
invariant-loop l = StillFound l.files l.headers l.initial.types l.initial.blocks l.types l.blocks
