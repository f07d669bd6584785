use Rattle.std.proofs.Common.{refl, sym}
use Rattle.call_obstacles.specs.Told.{refused_path}
use Rattle.call_obstacles.proofs.Refused.{none_here, one_here, none_at_all}
use Rattle.call_obstacles.proofs.obstacles.first_refused.Goals as goal

pub loop-number-preserved : goal.loop-number-preserved
loop-number-preserved c =
    none_here (refused_path c.args.use_.now) c.args.use_.now.needed.now c.loop-number.number-index 0 _ _
    c.loop-number-test.true refl (sym c.in-None.ensures) c.loop-number.invariant

pub returns-in-Some : goal.returns-in-Some
returns-in-Some c =
    one_here (refused_path c.args.use_.now) c.args.use_.now.needed.now c.loop-number.number-index 0 _
    c.in-Some.path.now _ c.loop-number-test.true refl (sym c.in-Some.ensures) c.loop-number.invariant

pub returns : goal.returns
returns c =
    none_at_all (refused_path c.args.use_.now) c.args.use_.now.needed.now c.loop-number.number-index _
    c.loop-number-test.false c.loop-number.invariant
