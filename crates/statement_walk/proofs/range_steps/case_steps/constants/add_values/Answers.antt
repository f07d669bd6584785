use Rattle.std.proofs.Common.{◌∙◌, sym}
use Rattle.statement_walk.proofs.RangeSteps.CaseSteps.CaseLemmas.{all_added, all_constants, all_new, item_kept, seen_again, seen_more, seen_start}
use Rattle.statement_walk.proofs.range_steps.case_steps.constants.add_values.Goals as goal

pub loop-x-init : goal.loop-x-init
loop-x-init c =
    let k = c.args.tables.now in seen_start (all_constants k.env k.consts c.args.xs.now) c.args.seen.now

pub add_content-requires : goal.add_content-requires
add_content-requires c =
    let k = c.args.tables.now in
    item_kept k.env k.consts c.args.xs.now c.loop-x.x-index _ c.loop-x-test.true c.requires

pub loop-x-preserved : goal.loop-x-preserved
loop-x-preserved c =
    let k = c.args.tables.now in
    seen_more k.env k.consts c.args.xs.now c.loop-x.x-index _ c.loop-x-test.true c.args.seen.now c.loop-x.seen
    c.add_content.new.seen c.loop-x.invariant c.in_ok-is_new.ensures.added
    (sym c.if-not-is_new.false ∙ c.in_ok-is_new.ensures.is_new)

pub returns-then-not-is_new-clause-is_new : goal.returns-then-not-is_new-clause-is_new
returns-then-not-is_new-clause-is_new c =
    let k = c.args.tables.now in
    seen_again k.env k.consts c.args.xs.now c.loop-x.x-index _ c.loop-x-test.true c.args.seen.now c.loop-x.seen
    c.add_content.new.seen c.loop-x.invariant c.in_ok-is_new.ensures.added
    (sym c.if-not-is_new.true ∙ c.in_ok-is_new.ensures.is_new)

pub returns-then-not-is_new-clause-added : goal.returns-then-not-is_new-clause-added
returns-then-not-is_new-clause-added c = λ h. absurd (cc)

pub returns-clause-is_new : goal.returns-clause-is_new
returns-clause-is_new c =
    let k = c.args.tables.now in
    all_new k.env k.consts c.args.xs.now c.loop-x.x-index c.args.seen.now c.loop-x.seen c.loop-x-test.false
    c.loop-x.invariant

pub returns-clause-added : goal.returns-clause-added
returns-clause-added c =
    λ h.
    let k = c.args.tables.now in
    all_added k.env k.consts c.args.xs.now c.loop-x.x-index c.args.seen.now c.loop-x.seen c.loop-x-test.false
    c.loop-x.invariant
