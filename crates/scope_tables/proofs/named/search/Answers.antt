use Rattle.scope_tables.proofs.NamedLaws.{found_entry, within_entry, ended_entry, begun_entry, far_entry, far_within_entry, none_left, one_less}
use Rattle.scope_tables.proofs.named.search.Goals as goal

pub loop-count-preserved-then-last-at : goal.loop-count-preserved-then-last-at
loop-count-preserved-then-last-at c = record {
  within = far_within_entry c.args.held.now c.loop-count.count c.requires.linked c.loop-count-test.true c.loop-count.invariant.within;
  behind = far_entry c.args.at c.args.held.now c.loop-count.count c.requires.linked c.loop-count-test.true c.loop-count.invariant.within c.if-last-at.true c.loop-count.invariant.behind;
}

pub loop-count-preserved-then-last-at-2 : goal.loop-count-preserved-then-last-at-2
loop-count-preserved-then-last-at-2 c = record {
  within = within_entry c.args.held.now c.loop-count.count c.requires.linked c.loop-count-test.true c.loop-count.invariant.within;
  behind = ended_entry c.args.at c.args.held.now c.loop-count.count c.requires.linked c.loop-count-test.true c.loop-count.invariant.within c.if-last-at-2.true c.loop-count.invariant.behind;
}

pub returns-then-last-at-3 : goal.returns-then-last-at-3
returns-then-last-at-3 c =
    found_entry c.args.at c.args.held.now c.loop-count.count c.loop-count-test.true c.loop-count.invariant.within c.if-last-at-3.true c.if-last-at-2.false c.loop-count.invariant.behind

pub loop-count-preserved : goal.loop-count-preserved
loop-count-preserved c = record {
  within = one_less c.loop-count.count c.args.held.now c.loop-count.invariant.within;
  behind = begun_entry c.args.at c.args.held.now c.loop-count.count c.loop-count-test.true c.loop-count.invariant.within c.if-last-at-3.false c.loop-count.invariant.behind;
}

pub returns : goal.returns
returns c = none_left c.args.at c.args.held.now c.loop-count.count c.loop-count-test.false c.loop-count.invariant.behind
