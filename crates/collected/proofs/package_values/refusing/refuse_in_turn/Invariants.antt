use Rattle.collected.specs.PackageValues.Passes.{HeadersLooked}
use Rattle.collected.proofs.package_values.refusing.refuse_in_turn.Given as goal

abbrev pub invariant-loop-number : goal.invariant-loop-number
invariant-loop-number l =
    HeadersLooked l.files l.headers l.initial.tables l.initial.blocks l.initial.kept.items l.tables l.blocks l.kept.items
