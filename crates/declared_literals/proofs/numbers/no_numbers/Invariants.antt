use Rattle.std.proofs.Common.{◌≡◌, ℕ, [], length}
use Rattle.declared_literals.specs.Numbers.{numbers_of}
use Rattle.declared_literals.proofs.numbers.no_numbers.Given as goal

abbrev pub invariant-loop-package : goal.invariant-loop-package
invariant-loop-package l = (length l.names.items ≡ l._package) × ((k : ℕ) → numbers_of l.names.items k ≡ [])
