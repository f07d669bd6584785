use Rattle.std.proofs.Common.{◌≡◌, arith, subst}
use Rattle.package_blocks.specs.Collected.{IsEmpty}
use Rattle.package_blocks.proofs.CollectedLemmas.{empty_more, empty_none}
use Rattle.package_blocks.proofs.collected.empty_blocks.Goals as goal

pub loop-init : goal.loop-init
loop-init c = empty_none c.new-blocks.result c.new-blocks.ensures

pub loop-preserved : goal.loop-preserved
loop-preserved c =
    empty_more c.loop.counter c.loop.blocks c.new.result c.push.new.self c.loop.invariant c.new.ensures
    c.in_ok-push.ensures.added

pub returns : goal.returns
returns c =
    let same : c.loop.counter ≡ c.args.count = omega arith in
    subst (λ n. IsEmpty n c.loop.blocks) same c.loop.invariant
