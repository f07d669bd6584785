use Rattle.std.proofs.Common.{◌≡◌, ◌<◌, ◌∙◌, ◌+◌, ◌++◌, ap₂, arith, drop, length, map, subst, sym}
use Rattle.std.specs.Option.{option_map}
use Rattle.go_tree.specs.View.{exprs_of, name_at_of, type_of}
use Rattle.typed_names.proofs.TypeExprs.NewNames.{drop_all, drop_item}
use Rattle.package_blocks.specs.Headers.{listed_of}
use Rattle.collected.specs.SingleHeaders.Singles.{each_of, in_place, listed_single}
use Rattle.collected.proofs.SingleHeaders.Added.{each_added, one_added, rest_of, value_within}
use Rattle.collected.proofs.single_headers.add_each.Goals as goal

pub offset_bounds-list-place : goal.offset_bounds-list-place
offset_bounds-list-place c =
    let h : c.loop-place.place < length c.items-list.result.now =
    value_within c.args.names.now c.items-name-items.result.now (exprs_of c.args.values.now) c.items-list.result.now
    c.loop-place.place c.requires c.items-list.ensures.seen c.items-name-items.ensures c.loop-place-test.true in
    omega (arith, h)

pub bounds-list-place : goal.bounds-list-place
bounds-list-place c =
    value_within c.args.names.now c.items-name-items.result.now (exprs_of c.args.values.now) c.items-list.result.now
    c.loop-place.place c.requires c.items-list.ensures.seen c.items-name-items.ensures c.loop-place-test.true

pub loop-place-preserved : goal.loop-place-preserved
loop-place-preserved c =
    let l = listed_of c.args.header.now in
    let t = option_map type_of c.args.of.now in
    let names = c.items-name-items.result.now in
    let xs = c.items-list.result.now in
    let i = c.loop-place.place in
    let acc = c.loop-place.singles.items in
    let all = map listed_single c.args.singles.now.items ++ rest_of l t c.args.number names xs in
    subst (λ ys. map listed_single ys ++ rest_of l t c.args.number (drop (i + 1) names) (drop (i + 1) xs) ≡ all)
    (sym c.in_ok-push.ensures.items)
    (one_added l t c.args.number acc c.in_place.result all c.name-item.result c.index-list-place.result (drop i names)
    (drop (i + 1) names) (drop i xs) (drop (i + 1) xs)
    (drop_item names i c.name-item.result c.loop-place-test.true c.name-item.is)
    (drop_item xs i c.index-list-place.result
    (value_within c.args.names.now names (exprs_of c.args.values.now) xs i c.requires c.items-list.ensures.seen
    c.items-name-items.ensures c.loop-place-test.true)
    c.index-list-place.is) c.in_place.ensures
    c.loop-place.invariant)

pub returns : goal.returns
returns c =
    let l = listed_of c.args.header.now in
    let t = option_map type_of c.args.of.now in
    let names = c.items-name-items.result.now in
    let xs = c.items-list.result.now in
    let i = c.loop-place.place in
    let old = map listed_single c.args.singles.now.items in
    each_added l t c.args.number c.loop-place.singles.items (old ++ rest_of l t c.args.number names xs) (drop i names)
    (drop i xs) (drop_all names i c.loop-place-test.false) c.loop-place.invariant
    ∙ ap₂ (λ ns es. old ++ map (in_place l) (each_of (map name_at_of ns) t es c.args.number)) c.items-name-items.ensures
    (sym c.items-list.ensures.seen)
