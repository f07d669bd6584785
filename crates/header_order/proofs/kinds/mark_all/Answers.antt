use Rattle.std.proofs.Common.{◌∙◌, ◌+◌, ap, drop, get_or, sym}
use Rattle.typed_names.proofs.TypeExprs.NewNames.{drop_all, drop_item}
use Rattle.package_blocks.proofs.CollectedLemmas.{item_either}
use Rattle.header_order.specs.Kinds.{mark_all}
use Rattle.header_order.proofs.kinds.mark_all.Goals as goal

pub loop-number-preserved : goal.loop-number-preserved
loop-number-preserved c =
    let numbers = c.args.numbers.now in
    let i = c.loop-number.number-index in
    ap (mark_all (drop (i + 1) numbers)) c.mark.ensures
    ∙ sym (ap (λ ns. mark_all ns c.loop-number.marks.items) (drop_item numbers i (get_or numbers i 0) c.loop-number-test.true (item_either numbers i 0 (get_or numbers i 0) c.loop-number-test.true)))
    ∙ c.loop-number.invariant

pub returns : goal.returns
returns c =
    sym
    (ap (λ ns. mark_all ns c.loop-number.marks.items)
    (drop_all c.args.numbers.now c.loop-number.number-index c.loop-number-test.false))
    ∙ c.loop-number.invariant
