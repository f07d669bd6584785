use Rattle.std.proofs.Common.{drop}
use Rattle.finite_types.specs.RefusedTypes.Steps.{HeadersPassed, StillTested}
use Rattle.finite_types.proofs.refused_types.refuse.refuse_more.Given as goal

abbrev pub invariant-loop-header : goal.invariant-loop-header
invariant-loop-header l = record {
  passed : HeadersPassed l.files l.headers (drop l.header-index l.headers) l.initial.tests.declared.items l.initial.types l.initial.blocks l.types l.blocks l.changed;
  tested : StillTested l.initial.tests l.types l.tests;
}
