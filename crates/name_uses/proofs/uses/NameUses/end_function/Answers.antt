use Rattle.name_uses.specs.Inside.{seen}
use Rattle.name_uses.proofs.StateSteps.{ended}
use Rattle.name_uses.proofs.uses.NameUses.end_function.Goals as goal

pub returns : goal.returns
returns c = rw (← c.self.view_is) (ended (seen c.self.inside) c.new.result c.truncate.new.self c.new.ensures c.truncate.ensures)
