use Rattle.go_tree.specs.View.{type_of}
use Rattle.name_uses.specs.Inside.{seen}
use Rattle.name_uses.proofs.StateSteps.{known_of, on_ok, opened, walk_on, walk_pushed}
use Rattle.name_uses.proofs.uses.NameUses.open_literal.Goals as goal

pub invariant_of-self : goal.invariant_of-self
invariant_of-self c = walk_on c.self.inside c.written.new.tables c.written.ensures.keeps c.written.ensures.ready c.self.invariant

pub invariant_of-self-2 : goal.invariant_of-self-2
invariant_of-self-2 c =
    walk_pushed c.push.result (record c.self.inside { tables = c.written.new.tables }) c.in_ok-of.of c.push.new.self c.push.ensures.added c.push.ensures.same c.in_ok-of.ensures.good
    (walk_on c.self.inside c.written.new.tables c.written.ensures.keeps c.written.ensures.ready c.self.invariant)

pub returns : goal.returns
returns c =
    rw (← c.self.view_is)
    (on_ok c.push.result
    (λ p. opened (seen c.self.inside) c.written.new.tables.env c.in_ok-of.of c.push.new.self (type_of c.args.of.now) c.written.ensures.keeps.types (known_of c.self.inside c.self.invariant) c.in_ok-of.ensures.is p)
    c.push.ensures.added)
