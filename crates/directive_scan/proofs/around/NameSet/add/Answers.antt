use Rattle.std.proofs.Common.{◌∙◌, ap, map, sym}
use Rattle.directive_scan.specs.Around.{has_name}
use Rattle.directive_scan.proofs.AroundLaws.{inserted_view, added_is}
use Rattle.directive_scan.proofs.around.NameSet.add.Goals as goal

pub returns : goal.returns
returns c = λ n.
    let old = c.self.inside.keys.keys in
    let key = c.in_ok-to_vec.field-0 in
    rw (← c.self.view_is) (
    ap (λ ks. has_name (map (λ k. k.items) ks) n) c.in_ok-insert_full.ensures.keys
    ∙ inserted_view (λ k. k.items) old key n
    ∙ added_is key.items c.args.name.now n (has_name (map (λ k. k.items) old) n) (c.in_ok-to_vec.ensures.items_if_clones_equal (λ x y e. e)) (sym c.is_blank.ensures ∙ c.if-is_blank.false))
