use Rattle.std.proofs.Common.{◌∙◌, ◌+◌, drop, get_or, subst}
use Rattle.typed_names.proofs.TypeExprs.NewNames.{drop_all, drop_item}
use Rattle.package_blocks.proofs.CollectedLemmas.{item_either}
use Rattle.collected.specs.Declarations.{refusal_of}
use Rattle.checked_modules.proofs.FirstLemmas.{IsLeft, front_is, left_all, left_found, left_more, left_none}
use Rattle.checked_modules.proofs.firsts.first_of_packages.Goals as goal

pub loop-number-init : goal.loop-number-init
loop-number-init c =
    left_all c.args.packages.now c.args.order.now c.args.blocks.now c.args.bodies.now (refusal_of c.args.declaration)

pub returns-in-Some : goal.returns-in-Some
returns-in-Some c =
    λ w e cs same are.
    let packages = c.args.packages.now in
    let order = c.args.order.now in
    let bs = c.args.blocks.now in
    let bodies = c.args.bodies.now in
    let o = refusal_of c.args.declaration in
    let i = c.loop-number.number-index in
    let k = get_or order i 0 in
    let rest = c.loop-number.rest.now in
    let count = c.file_count-count.result in
    let l = subst (λ ks. IsLeft packages order bs bodies o w ks rest)
    (drop_item order i k c.loop-number-test.true (item_either order i 0 k c.loop-number-test.true))
    (c.loop-number.invariant w e cs same are) in
    left_found packages order bs bodies o k (drop (i + 1) order) rest count c.file_count-count.ensures w l
    (record { home = c.in-Some.place.«package»; file = c.in-Some.place.file; at = c.in-Some.place.at })
    (c.in-Some.ensures w e cs same
    (c.front-here.ensures ∙ front_is packages order bs bodies o k (drop (i + 1) order) rest count c.file_count-count.ensures w l))

pub loop-number-preserved : goal.loop-number-preserved
loop-number-preserved c =
    λ w e cs same are.
    let packages = c.args.packages.now in
    let order = c.args.order.now in
    let bs = c.args.blocks.now in
    let bodies = c.args.bodies.now in
    let o = refusal_of c.args.declaration in
    let i = c.loop-number.number-index in
    let k = get_or order i 0 in
    let rest = c.loop-number.rest.now in
    let count = c.file_count-count.result in
    let l = subst (λ ks. IsLeft packages order bs bodies o w ks rest)
    (drop_item order i k c.loop-number-test.true (item_either order i 0 k c.loop-number-test.true))
    (c.loop-number.invariant w e cs same are) in
    left_more packages order bs bodies o k (drop (i + 1) order) rest count c.file_count-count.ensures w l
    c.behind-rest.result.now c.behind-rest.ensures
    (c.in-None.ensures w e cs same
    (c.front-here.ensures ∙ front_is packages order bs bodies o k (drop (i + 1) order) rest count c.file_count-count.ensures w l))

pub returns : goal.returns
returns c =
    λ w e cs same are.
    let packages = c.args.packages.now in
    let order = c.args.order.now in
    let bs = c.args.blocks.now in
    let bodies = c.args.bodies.now in
    let o = refusal_of c.args.declaration in
    left_none packages order bs bodies o w c.loop-number.rest.now
    (subst (λ ks. IsLeft packages order bs bodies o w ks c.loop-number.rest.now)
    (drop_all order c.loop-number.number-index c.loop-number-test.false) (c.loop-number.invariant w e cs same are))
