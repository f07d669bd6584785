use Rattle.type_flags.specs.Comparable.{is_comparable}
use Rattle.type_flags.specs.Grown.{DefinedBelow}
use Rattle.std.proofs.Common.{length}
use Rattle.type_flags.proofs.GrownFlags.{Below}
use Rattle.type_flags.proofs.grown.extend_comparable.Given as goal

abbrev pub invariant-loop-t : goal.invariant-loop-t
invariant-loop-t l = record {
  below : Below (is_comparable l.env) l.flags.items l.t;
  defined : DefinedBelow (length l.flags.items) l.env.defined;
}
