use Rattle.scope_tables.proofs.NamedLaws.{reach_entry, within_entry}
use Rattle.scope_tables.proofs.named.reach.Goals as goal

pub loop-count-preserved : goal.loop-count-preserved
loop-count-preserved c = record {
  within = within_entry c.args.held.now c.loop-count.count c.requires c.loop-count-test.true c.loop-count.invariant.within;
  ended = reach_entry c.args.to c.args.held.now c.loop-count.count c.requires c.loop-count-test.true c.loop-count.invariant.within c.if-held-count.true c.loop-count.invariant.ended;
}
