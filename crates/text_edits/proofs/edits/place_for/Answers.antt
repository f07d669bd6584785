use Rattle.std.proofs.Common.{◌≡◌, ◌<◌, ◌≤◌, ◌∙◌, false, length, map, sym, subst, arith}
use Rattle.std.proofs.lemmas.Bool.{iff_false}
use Rattle.std.proofs.lemmas.List.{get_or_default, get_or-map, length-map}
use Rattle.text_edits.specs.declared.edit.Edit.{Edit}
use Rattle.text_edits.specs.Spans.{IsSpan, Precedes}
use Rattle.text_edits.proofs.Ordered.{is_place, overlap_of, span_at}
use Rattle.text_edits.proofs.edits.place_for.Goals as goal

pub returns-then-precedes-clause-place : goal.returns-then-precedes-clause-place
returns-then-precedes-clause-place c =
    let kept = c.args.kept.now in
    let i = c.loop-i.i in
    let edit = c.index-kept-i.result in
    let p : Precedes c.args.span edit.span = c.precedes-then-not-precedes.ensures.0 c.if-precedes.true in
    is_place kept i c.args.span c.requires.ordered (omega arith) c.requires.span c.loop-i.invariant
    (λ d lt. subst (λ (e : Edit). Precedes c.args.span e.span) (c.index-kept-i.is ∙ get_or_default kept i edit d lt) p)

pub returns-else-precedes-clause-overlap : goal.returns-else-precedes-clause-overlap
returns-else-precedes-clause-overlap c =
    let kept = c.args.kept.now in
    let i = c.loop-i.i in
    let edit = c.index-kept-i.result in
    let lt : i < length kept = omega arith in
    let not_before : c.precedes.result ≡ false = grind arith in
    let fits : IsSpan edit.span = subst (λ (e : Edit). IsSpan e.span) (sym c.index-kept-i.is) (span_at kept i edit c.requires.ordered lt) in
    let n : length (map (λ (e : Edit). e.span) kept) ≡ length kept = length-map kept (λ (e : Edit). e.span) in (
      overlap_of edit.span c.args.span fits c.requires.span (iff_false c.precedes.ensures not_before) (iff_false c.precedes-then-not-precedes.ensures c.if-precedes.false),
      (i, omega (arith, n, lt), get_or-map (λ (e : Edit). e.span) kept i edit edit.span lt ∙ (λ j. (sym c.index-kept-i.is j).span)),
    )

pub returns-clause-place : goal.returns-clause-place
returns-clause-place c =
    let kept = c.args.kept.now in
    let all : length kept ≤ c.loop-i.i = omega arith in
    is_place kept (length kept) c.args.span c.requires.ordered (omega arith) c.requires.span (λ k d lt. c.loop-i.invariant k d (omega (arith, lt, all))) (λ d lt. absurd (omega (arith, lt)))
