use Rattle.number_cycles.proofs.Owned.{from_within, last_from}
use Rattle.number_cycles.proofs.owners.spread.Goals as goal

pub take_row-requires-clause-number : goal.take_row-requires-clause-number
take_row-requires-clause-number c =
    from_within c.args.links.now c.args.root c.in-Some.k c.requires.links c.requires.root
    (last_from c.args.links.now c.args.root c.in-Some.k c.loop-round.walk.items c.pop.new.self.items
    c.in-Some.ensures.items c.loop-round.invariant.walk)
