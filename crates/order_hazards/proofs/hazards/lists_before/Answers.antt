use Rattle.std.proofs.Common.{◌∙◌, sym, ap, unwrap_or, length}
use Rattle.std.specs.List.{list_any}
use Rattle.std.proofs.lemmas.List.{take_rest}
use Rattle.order_hazards.specs.Items.{is_use}
use Rattle.order_hazards.proofs.Ahead.{UsesAhead-decides, unwrap_or-position}
use Rattle.order_hazards.proofs.hazards.lists_before.Goals as goal

pub returns-then-count_uses-uses : goal.returns-then-count_uses-uses
returns-then-count_uses-uses c test is =
    let items = c.args.items.now in
    let end = c.unwrap_or-end.result in
    UsesAhead-decides items c.args.i c.args.uses test end c.has_use.result
    (c.unwrap_or-end.ensures ∙ ap (λ o. unwrap_or o (length items)) is ∙ unwrap_or-position test items)
    (sym c.count_uses.ensures ∙ c.if-count_uses-uses.true)
    (c.has_use.ensures ∙ ap (list_any (is_use c.args.i)) (take_rest items end))
