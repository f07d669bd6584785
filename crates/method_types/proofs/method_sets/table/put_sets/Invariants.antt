use Rattle.std.proofs.Common.{◌≡◌, ◌+◌, length}
use Rattle.std.specs.Vec.Iter.{into_iter_items}
use Rattle.method_types.specs.MethodSets.Methods.{OnlyMethods}
use Rattle.method_types.specs.MethodSets.Steps.{AllWithin, put_sets}
use Rattle.method_types.proofs.method_sets.table.put_sets.Given as goal

abbrev pub invariant-loop-number : goal.invariant-loop-number
invariant-loop-number l = record {
  only : OnlyMethods l.fn.types l.types;
  within : AllWithin l.types.rows (into_iter_items l.rest);
  count : length (into_iter_items l.rest) + l.number ≡ length l.fn.types.rows;
  put : put_sets l.number (into_iter_items l.rest) l.types ≡ put_sets 0 l.fn.sets.items l.fn.types;
}
