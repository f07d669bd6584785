use Rattle.collected.specs.PackageValues.Passes.{NamesLooked}
use Rattle.collected.proofs.package_values.passes.look_in_order.Given as goal

abbrev pub invariant-loop-number : goal.invariant-loop-number
invariant-loop-number l =
    NamesLooked l.files l.singles l.initial.tables l.initial.blocks l.initial.found.items l.tables l.blocks l.found.items
