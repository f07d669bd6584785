use Rattle.std.proofs.Common.{◌≡◌, ◌∙◌, ◌<◌, ◌+◌, ◌++◌, [], ◌∷◌, List, ℕ, length, drop, get_or, map, sym, ap, subst, append_assoc, arith}
use Rattle.std.proofs.lemmas.List.{drop_more}
use Rattle.go_tree.specs.declared.spans.Span.{Span}
use Rattle.text_edits.specs.declared.edit.Edit.{Edit}
use Rattle.text_edits.specs.Order.{InOrder}
use Rattle.run_rules.specs.ImportRules.Settled.{removal}
use Rattle.import_edit.proofs.SettleLaws.{order_front}
use Rattle.import_edit.proofs.added.push_removals.Goals as goal

pub push-requires : goal.push-requires
push-requires c =
    let items = c.args.ranges.now in
    let i = c.loop-range.range-index in
    let edits = c.loop-range.edits in
    let none : Span = record { start = 0; end = 0 } in
    let r = get_or items i none in
    let rest = map removal (drop (i + 1) items) in
    let lt : i < length items = omega arith in
    let empty : c.of.result ≡ [] = c.of.ensures ∙ c.new.ensures.items in
    let whole : c.args.edits.now ++ map removal items ≡ (edits ++ removal r ∷ []) ++ rest =
    sym c.loop-range.invariant ∙ ap (λ l. edits ++ map removal l) (drop_more items i none lt) ∙ sym (append_assoc edits (removal r ∷ []) rest) in
    subst (λ (t : List ℕ). InOrder (edits ++ record { span = r; text = t } ∷ [])) (sym empty)
    (order_front (edits ++ removal r ∷ []) rest (subst (λ (es : List Edit). InOrder es) whole c.requires))
