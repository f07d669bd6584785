use Rattle.std.proofs.Common.{sym}
use Rattle.universe_block.specs.Meanings.{entity_of}
use Rattle.universe_block.proofs.NumberedLaws.{place_some, place_none}
use Rattle.universe_block.proofs.block.entry.Goals as goal

pub returns-in-Some : goal.returns-in-Some
returns-in-Some c =
    sym (place_some entity_of c.args.entities.now c.args.number c.in-Some.entity.now c.in-Some.entity.now
    c.in-Some.ensures.lookup.0 c.in-Some.ensures.lookup.1)

pub returns-in-None : goal.returns-in-None
returns-in-None c = sym (place_none entity_of c.args.entities.now c.args.number c.in-None.ensures.lookup.0)
