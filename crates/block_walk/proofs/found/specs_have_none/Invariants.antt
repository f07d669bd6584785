use Rattle.std.proofs.Common.{◌≡◌, drop}
use Rattle.block_walk.proofs.ConstantLiterals.{have_none}
use Rattle.block_walk.proofs.found.specs_have_none.Given as goal

abbrev pub invariant-loop-spec : goal.invariant-loop-spec
invariant-loop-spec l = have_none (drop l.spec-index l.spec-items) ≡ have_none l.spec-items
