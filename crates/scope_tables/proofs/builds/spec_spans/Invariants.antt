use Rattle.std.proofs.Common.{◌≡◌, ◌++◌, drop, map}
use Rattle.scope_tables.proofs.builds.spec_spans.Given as goal

abbrev pub invariant-loop-import : goal.invariant-loop-import
invariant-loop-import l = (l.spans.items ++ map (λ i. i.spec) (drop l.import-index l.imports)) ≡ map (λ i. i.spec) l.imports
