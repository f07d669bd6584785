use Rattle.name_uses.specs.Inside.{seen}
use Rattle.name_uses.proofs.StateSteps.{left}
use Rattle.name_uses.proofs.uses.NameUses.leave.Goals as goal

pub returns : goal.returns
returns c = rw (← c.self.view_is) (left (seen c.self.inside) c.args.count c.truncate.new.self c.truncate.ensures)
