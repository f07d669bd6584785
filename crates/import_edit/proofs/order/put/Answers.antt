use Rattle.std.proofs.Common.{◌∙◌, ap}
use Rattle.std.specs.List.{insert}
use Rattle.import_edit.specs.Order.{imports_of, place_of}
use Rattle.import_edit.proofs.OrderLaws.{put_at, insert_view}
use Rattle.import_edit.proofs.order.put.Goals as goal

pub returns : goal.returns
returns c =
    let list = imports_of c.args.list.now.items in
    ap imports_of c.in_ok-insert.ensures.items ∙ insert_view c.args.list.now.items c.place_of-place.result c.args.import
    ∙ ap (λ k. insert list k c.args.import.now) (c.place_of-place.ensures.place ∙ ap (λ l. place_of c.args.import.now (imports_of l)) c.deref.ensures.value) ∙ put_at c.args.import.now list
