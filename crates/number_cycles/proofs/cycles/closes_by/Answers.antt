use Rattle.number_cycles.proofs.Closed.{closed, closed_here}
use Rattle.number_cycles.proofs.cycles.closes_by.Goals as goal

pub returns-then-m-k : goal.returns-then-m-k
returns-then-m-k c = closed_here c.args.links.now c.args.k c.args.m c.requires.link c.if-m-k.true

pub returns-then-meets : goal.returns-then-meets
returns-then-meets c =
    closed c.args.links.now c.args.k c.args.m c.args.backs.now c.args.fronts.now c.requires.link c.requires.backs
    c.requires.fronts c.if-meets.ensures
