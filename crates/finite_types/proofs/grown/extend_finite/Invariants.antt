use Rattle.std.proofs.Common.{◌≡◌, List, length}
use Rattle.defined_types.specs.declared.declared.DeclaredType.{DeclaredType}
use Rattle.finite_types.specs.Flags.{FiniteSoFar}
use Rattle.finite_types.proofs.grown.extend_finite.Given as goal

abbrev pub invariant-loop-t : goal.invariant-loop-t
invariant-loop-t l = record {
  count : length l.flags.items ≡ l.t;
  so_far : (ds : List DeclaredType) → FiniteSoFar l.types ds l.initial.flags.items → FiniteSoFar l.types ds l.flags.items;
}
