use Rattle.name_uses.specs.Inside.{seen}
use Rattle.name_uses.proofs.StateSteps.{closed}
use Rattle.name_uses.proofs.uses.NameUses.close_literal.Goals as goal

pub returns : goal.returns
returns c = rw (← c.self.view_is) (closed (seen c.self.inside) c.pop.new.self c.pop.ensures)
