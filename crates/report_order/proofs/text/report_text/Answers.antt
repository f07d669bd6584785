use Rattle.std.proofs.Common.{◌∙◌, length, arith}
use Rattle.report_order.specs.Rows.{items_in, row}
use Rattle.report_order.proofs.Tables.{same_told}
use Rattle.report_order.proofs.text.report_text.Goals as goal

pub returns : goal.returns
returns c =
    c.in_ok-text.ensures
    ∙ same_told (row c.in_ok-table.table) (λ k. items_in k c.args.rows.items) c.args.files.now 0 (length c.args.files.now) (omega arith)
    (λ j h. c.in_ok-table.ensures.told j h)
