use Rattle.std.proofs.Common.{◌≡◌, drop}
use Rattle.typed_names.proofs.locals.Locals.truncate.Given as goal

abbrev pub invariant-loop-removed : goal.invariant-loop-removed
invariant-loop-removed l = l.self ≡ drop l._removed l.initial.self
