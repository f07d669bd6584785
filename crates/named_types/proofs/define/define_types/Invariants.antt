use Rattle.std.proofs.Common.{drop}
use Rattle.named_types.specs.Defining.{TypesDefined}
use Rattle.named_types.proofs.define.define_types.Given as goal

abbrev pub invariant-loop-link : goal.invariant-loop-link
invariant-loop-link l = TypesDefined l.initial.types l.types l.declared (drop l.link-index l.declared)
