use Rattle.std.proofs.Common.{◌≡◌, drop, map}
use Rattle.go_tree.specs.declared.spans.Span.{Span}
use Rattle.call_forms.specs.Qualifiers.{at_span}
use Rattle.call_qualifiers.specs.Numbers.{numbers_put, there_of}
use Rattle.call_qualifiers.proofs.names.put_uses.Given as goal

abbrev pub invariant-loop-use_ : goal.invariant-loop-use_
invariant-loop-use_ l =
    (l.qualifiers.packages ≡ l.initial.qualifiers.packages)
    × ((q : Span)
    → numbers_put l.home l.there (map there_of (drop l.use_-index l.uses)) q (at_span q l.qualifiers.before)
    ≡ numbers_put l.home l.there (map there_of l.uses) q (at_span q l.initial.qualifiers.before))
