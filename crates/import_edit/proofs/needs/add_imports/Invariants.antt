use Rattle.std.proofs.Common.{◌≡◌, ◌++◌, drop, map}
use Rattle.import_edit.proofs.needs.add_imports.Given as goal

abbrev pub invariant-loop-import : goal.invariant-loop-import
invariant-loop-import l = l.list.items ++ map (λ i. i.name) (drop l.import-index l.imports) ≡ l.initial.list.items ++ map (λ i. i.name) l.imports
