use Rattle.std.proofs.Common.{◌+◌, drop, subst, sym}
use Rattle.typed_names.proofs.TypeExprs.NewNames.{drop_all, drop_item}
use Rattle.jump_rules.specs.DistinctNames.Seen.{AddsName, AreSeen}
use Rattle.jump_rules.proofs.DistinctNames.SeenLemmas.{name_again, name_seen, seen_end, seen_start}
use Rattle.jump_rules.proofs.distinct_names.names.are_distinct.Goals as goal

pub loop-name-init : goal.loop-name-init
loop-name-init c =
    subst (AreSeen c.args.names.now c.args.names.now) (sym c.new-seen.ensures) (seen_start c.args.names.now)

pub returns-then-not-branch : goal.returns-then-not-branch
returns-then-not-branch c =
    let ns = c.args.names.now in
    let item = c.name-item.result in
    let seen = c.loop-name.seen in
    let new = c.add_name.new.seen in
    name_again ns (drop (c.loop-name.name-index + 1) ns) item seen new
    (subst (λ rest. AreSeen ns rest seen) (drop_item ns c.loop-name.name-index item c.loop-name-test.true c.name-item.is)
    c.loop-name.invariant)
    (subst (AddsName item seen new) c.if-not-branch.true c.in_ok-add_name.ensures)

pub loop-name-preserved : goal.loop-name-preserved
loop-name-preserved c =
    let ns = c.args.names.now in
    let item = c.name-item.result in
    let seen = c.loop-name.seen in
    let new = c.add_name.new.seen in
    name_seen ns (drop (c.loop-name.name-index + 1) ns) item seen new
    (subst (λ rest. AreSeen ns rest seen) (drop_item ns c.loop-name.name-index item c.loop-name-test.true c.name-item.is)
    c.loop-name.invariant)
    (subst (AddsName item seen new) c.if-not-branch.false c.in_ok-add_name.ensures)

pub returns : goal.returns
returns c =
    let ns = c.args.names.now in
    seen_end ns c.loop-name.seen
    (subst (λ rest. AreSeen ns rest c.loop-name.seen) (drop_all ns c.loop-name.name-index c.loop-name-test.false)
    c.loop-name.invariant)
