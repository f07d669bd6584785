use Rattle.std.proofs.Common.{◌∷◌, ◌++◌, [], refl}
use Rattle.report_order.proofs.Tables.{one_put}
use Rattle.report_order.proofs.rows.file_items.Goals as goal

pub loop-told-preserved : goal.loop-told-preserved
loop-told-preserved c =
    one_put c.args.count c.loop-told.yielded (c.loop-told.yielded ++ c.in-Some.told ∷ []) c.in-Some.told c.loop-told.table c.put.new.self refl c.loop-told.invariant
    c.in_ok-put.ensures
