use Rattle.std.proofs.Common.{map, true}
use Rattle.value_rounds.specs.NameRounds.Passes.{NameLeft, named_headers}
use Rattle.collected.specs.SingleHeaders.Singles.{listed_single}
use Rattle.collected.specs.PackageValues.Passes.{AreFound, FirstLooked}
use Rattle.collected.proofs.package_values.passes.look_at_all.Given as goal

abbrev pub invariant-loop-number : goal.invariant-loop-number
invariant-loop-number l =
    FirstLooked named_headers AreFound NameLeft true l.files (map listed_single l.singles) l.number l.initial.tables
    l.initial.blocks l.initial.found.items l.tables l.blocks l.found.items l.changed
