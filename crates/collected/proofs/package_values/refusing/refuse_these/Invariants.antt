use Rattle.collected.specs.PackageValues.Passes.{HeadersLooked}
use Rattle.collected.proofs.package_values.refusing.refuse_these.Given as goal

abbrev pub invariant-loop : goal.invariant-loop
invariant-loop l =
    HeadersLooked l.files l.headers l.initial.tables l.initial.blocks l.initial.kept.items l.tables l.blocks l.kept.items
