use Rattle.std.proofs.Common.{◌∙◌, refl, sym, ap}
use Rattle.block_walk.specs.Literals.{specs_have_none}
use Rattle.block_walk.proofs.ConstantLiterals.{none_end, none_more, one_there}
use Rattle.block_walk.proofs.found.specs_have_none.Goals as goal

pub loop-spec-preserved : goal.loop-spec-preserved
loop-spec-preserved c =
    none_more c.items-spec-items.result.now c.loop-spec.spec-index c.loop-spec.invariant c.spec-item.result
    c.loop-spec-test.true c.spec-item.is c.in_ok-none.none c.in_ok-none.ensures c.if-not-none.false

pub returns-then-not-none : goal.returns-then-not-none
returns-then-not-none c =
    one_there c.items-spec-items.result.now c.loop-spec.spec-index c.loop-spec.invariant c.spec-item.result
    c.loop-spec-test.true c.spec-item.is c.in_ok-none.none c.in_ok-none.ensures c.if-not-none.true
    ∙ sym (ap specs_have_none c.items-spec-items.ensures.seen)

pub returns : goal.returns
returns c =
    none_end c.items-spec-items.result.now c.loop-spec.spec-index c.loop-spec.invariant c.loop-spec-test.false
    ∙ sym (ap specs_have_none c.items-spec-items.ensures.seen)
