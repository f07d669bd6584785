use Rattle.std.proofs.Common.{rules}
use Rattle.std.proofs.lemmas.List.Sorted.{answers_always, IsNonDecreasingBy-from_sort}
use Rattle.report_order.proofs.Sorted.{in_order-from_sort}
use Rattle.report_order.proofs.order.sort_items.Goals as goal

pub returns : goal.returns
returns c =
    let keys = answers_always _ _ _ (λ f a r g h. search rules) in
    in_order-from_sort _ _ (IsNonDecreasingBy-from_sort (λ i. i.offset) _ (c.in_ok-sort_by_key.ensures.sorted (λ i. i.offset) keys))
    (c.sort_by_key.ensures.stable (λ i. i.offset) keys)
