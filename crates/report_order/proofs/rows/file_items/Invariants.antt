use Rattle.report_order.specs.Rows.{AreItems}
use Rattle.report_order.proofs.rows.file_items.Given as goal

abbrev pub invariant-loop-told : goal.invariant-loop-told
invariant-loop-told l = AreItems l.fn.count l.yielded l.table
