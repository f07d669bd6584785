use Rattle.std.proofs.Common.{◌∙◌, List, ap, map, arith}
use Rattle.go_tree.specs.declared.spans.Span.{Span}
use Rattle.run_rules.specs.Sites.{part_span}
use Rattle.member_uses.specs.PossibleUses.Candidates.{Candidate}
use Rattle.member_uses.specs.PossibleUses.Views.{part_of}
use Rattle.member_uses.specs.declared.possible_uses.parts.PartRef.{PartRef}
use Rattle.programs.proofs.PartOrigins.Gathered.{all_gathered, mapped_twice}
use Rattle.programs.proofs.part_origins.spans.decl_spans.Goals as goal

pub returns : goal.returns
returns c =
    let parts = c.deref-part-items.result.now in
    all_gathered (λ (p : PartRef). part_span (part_of p).part) parts c.loop-part.part-index c.loop-part.spans.items (omega (arith, c.loop-part-test.false)) c.loop-part.invariant
    ∙ mapped_twice (λ (x : Candidate Span). part_span x.part) part_of parts
    ∙ ap (λ (ps : List PartRef). map (λ (x : Candidate Span). part_span x.part) (map part_of ps)) c.deref-part-items.ensures.value
    ∙ ap (map (λ (x : Candidate Span). part_span x.part)) c.in_ok-parts.ensures
