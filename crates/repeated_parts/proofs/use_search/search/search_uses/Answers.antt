use Rattle.repeated_parts.proofs.UseSearch.Searching.{begins, looked_on, looked_last, ends}
use Rattle.repeated_parts.proofs.use_search.search.search_uses.Goals as goal

pub loop-use_-init : goal.loop-use_-init
loop-use_-init c = begins c.args.program.now c.args.file.now c.args.uses.now c.new-kept.result.items c.new-kept.ensures.items

pub loop-use_-preserved : goal.loop-use_-preserved
loop-use_-preserved c =
    looked_on c.args.program.now c.args.file.now c.args.uses.now c.loop-use_.use_-index _ c.loop-use_.kept.items c.look.new.kept.items c.in_ok-free.field-0
    c.loop-use_-test.true c.in_ok-free.ensures c.in_default.is c.loop-use_.invariant

pub returns-in-Some : goal.returns-in-Some
returns-in-Some c =
    looked_last c.args.program.now c.args.file.now c.args.uses.now c.loop-use_.use_-index _ c.loop-use_.kept.items c.look.new.kept.items c.in_ok-free.field-0 c.in-Some.free
    c.loop-use_-test.true c.in_ok-free.ensures c.in-Some.is c.loop-use_.invariant

pub returns : goal.returns
returns c = ends c.args.program.now c.args.file.now c.args.uses.now c.loop-use_.use_-index c.loop-use_.kept.items c.loop-use_-test.false c.loop-use_.invariant
