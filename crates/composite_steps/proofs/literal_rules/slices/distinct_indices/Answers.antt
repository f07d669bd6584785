use Rattle.std.specs.Prelude.{◌≡◌, ◌+◌, nat_eq}
use Rattle.std.specs.List.{list_any}
use Rattle.std.proofs.Common.{drop}
use mathlib.Core.Path.{sym, subst, ◌∙◌}
use Rattle.type_table.specs.TypeRelations.Environment.{defined_types}
use Rattle.composite_steps.specs.LiteralRules.Elements.{elements_at}
use Rattle.composite_steps.specs.LiteralRules.Indices.{IndicesRead}
use Rattle.composite_steps.proofs.LiteralRules.DistinctLemmas.{not_seen}
use Rattle.composite_steps.proofs.LiteralRules.ElementLemmas.{element_item, no_such}
use Rattle.composite_steps.proofs.LiteralRules.SliceLemmas.{indices_none, indices_step}
use Rattle.composite_steps.proofs.literal_rules.slices.distinct_indices.Goals as goal

pub loop-x-init : goal.loop-x-init
loop-x-init c =
    let ds = defined_types c.args.env.now in
    let xs = elements_at c.args.env.now c.args.consts.now c.args.elements.now in
    subst (IndicesRead ds xs xs 0) (sym c.new-seen.ensures) (indices_none ds xs)

pub index_or-requires : goal.index_or-requires
index_or-requires c =
    element_item c.args.env.now c.args.consts.now c.args.elements.now c.loop-x.x-index no_such c.requires c.loop-x-test.true

pub loop-x-preserved : goal.loop-x-preserved
loop-x-preserved c =
    let e = c.args.env.now in
    let cs = c.args.consts.now in
    let xs = c.args.elements.now in
    let ds = defined_types e in
    let next : c.in-Some-checked_add.more ≡ c.in-Some.index + 1 = c.in-Some-checked_add.ensures.1 in
    subst
    (λ n. IndicesRead ds (elements_at e cs xs) (elements_at e cs (drop (c.loop-x.x-index + 1) xs)) n c.add.new.self)
    (sym next)
    (indices_step ds e cs xs c.loop-x.x-index c.loop-x.next c.in-Some.index c.loop-x.seen c.add.new.self c.loop-x-test.true
    (sym c.index_or.ensures ∙ c.in-Some.is)
    (not_seen (list_any (nat_eq c.in-Some.index) c.loop-x.seen)
    (sym c.in_ok-is_new.ensures.is_new ∙ c.if-not-is_new.false))
    c.in_ok-is_new.ensures.added c.loop-x.invariant)
