use Rattle.std.proofs.Common.{◌∙◌, ◌<◌, ap, map, sym, ◌++◌, ◌∷◌, [], length, slice_set}
use Rattle.std.proofs.lemmas.List.{map-set, get_or-map, length-map}
use Rattle.pkg_graph.proofs.import_order.rows.Rows.add.Goals as goal

pub returns : goal.returns
returns c =
    let rows = c.self.inside.rows.items in
    let h : c.args.k < length rows = rw (← c.self.view_is, length-map) at c.requires in
    let was = ap (λ v. v.items) c.index_mut.ensures.value ∙ sym (get_or-map (λ v. v.items) rows c.args.k c.index_mut.result.now [] h) in
    rw (← c.self.view_is) (map-set (λ v. v.items) rows c.args.k c.push.new.self ∙ ap (slice_set (map (λ v. v.items) rows) c.args.k) (c.in_ok-push.ensures.items ∙ ap (λ ns. ns ++ c.args.number ∷ []) was))
