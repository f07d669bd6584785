use Rattle.std.proofs.Common.{◌≡◌, ◌++◌, drop, map}
use Rattle.run_rules.specs.Sites.{part_span}
use Rattle.member_uses.specs.PossibleUses.Views.{part_of}
use Rattle.programs.proofs.part_origins.spans.decl_spans.Given as goal

abbrev pub invariant-loop-part : goal.invariant-loop-part
invariant-loop-part l =
    l.spans.items ++ map (λ p. part_span (part_of p).part) (drop l.part-index l.part-items)
    ≡ map (λ p. part_span (part_of p).part) l.part-items
