use Rattle.std.proofs.Common.{◌≡◌, drop}
use Rattle.refused_headers.specs.Refusals.{AreTested}
use Rattle.header_order.specs.Types.{TypesPassed}
use Rattle.header_order.proofs.types.refused_types.Given as goal

abbrev pub invariant-loop-number : goal.invariant-loop-number
invariant-loop-number l = record {
  passed : TypesPassed l.initial.types l.types l.initial.tests.declared.items l.blocks l.files l.headers (drop l.number l.headers) l.number l.refused.items;
  tested : AreTested l.types l.tests;
  declared : l.tests.declared ≡ l.initial.tests.declared;
}
