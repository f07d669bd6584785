use Rattle.std.proofs.Common.{◌≡◌, ◌++◌, drop}
use Rattle.collected.specs.PackageValues.Passes.{left_numbers}
use Rattle.collected.proofs.package_values.declared.left_numbers.Given as goal

abbrev pub invariant-loop-number : goal.invariant-loop-number
invariant-loop-number l =
    left_numbers 0 l.headers l.marks
    ≡ l.left.items ++ left_numbers l.number (drop l.number l.headers) (drop l.number l.marks)
