use Rattle.std.proofs.Common.{◌≡◌, drop}
use Rattle.collected.specs.PackageValues.Passes.{all_marked}
use Rattle.collected.proofs.package_values.refusing.all_found.Given as goal

abbrev pub invariant-loop-number : goal.invariant-loop-number
invariant-loop-number l =
    all_marked l.singles l.found ≡ all_marked (drop l.number l.singles) (drop l.number l.found)
