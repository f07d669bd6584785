use Rattle.std.proofs.Common.{◌≡◌, drop, ◌||◌}
use Rattle.std.specs.List.{list_any}
use Rattle.go_tree.specs.declared.spans.Span.{Span}
use Rattle.run_rules.specs.ImportRules.Removed.{same_span}
use Rattle.import_edit.proofs.span_set.SpanSet.of.Given as goal

abbrev pub invariant-loop-span : goal.invariant-loop-span
invariant-loop-span l =
    (q : Span) → (list_any (same_span q) (drop l.span-index l.spans) || list_any (same_span q) l.set) ≡ list_any (same_span q) l.spans
