use Rattle.collected.specs.PackageValues.Passes.{NamesLooked}
use Rattle.collected.proofs.package_values.passes.look_on.Given as goal

abbrev pub invariant-loop : goal.invariant-loop
invariant-loop l =
    NamesLooked l.files l.singles l.initial.tables l.initial.blocks l.initial.found.items l.tables l.blocks l.found.items
