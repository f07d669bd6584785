use Rattle.finite_types.specs.RefusedTypes.Steps.{StillTested, StillTyped}
use Rattle.finite_types.proofs.refused_types.refuse.refuse_types.Given as goal

abbrev pub invariant-loop : goal.invariant-loop
invariant-loop l = record {
  still : StillTyped l.files l.headers l.initial.tests.declared.items l.initial.types l.initial.blocks l.types l.blocks;
  tested : StillTested l.initial.tests l.types l.tests;
}
