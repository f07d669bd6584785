use Rattle.name_uses.specs.Inside.{seen}
use Rattle.name_uses.proofs.StateSteps.{known_of, walk_on, walk_same}
use Rattle.name_uses.proofs.uses.NameUses.has_meaning.Goals as goal

pub invariant_of-self : goal.invariant_of-self
invariant_of-self c = walk_on c.self.inside c.has_meaning.new.tables c.has_meaning.ensures.keeps c.has_meaning.ensures.ready c.self.invariant

pub returns-clause-same : goal.returns-clause-same
returns-clause-same c =
    rw (← c.self.view_is)
    (walk_same (seen c.self.inside) c.has_meaning.new.tables.env c.has_meaning.ensures.keeps.types (known_of c.self.inside c.self.invariant))
