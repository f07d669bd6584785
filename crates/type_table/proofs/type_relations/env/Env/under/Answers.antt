use Rattle.std.proofs.Common.{Some, None, subst}
use Rattle.type_table.specs.TypeRelations.Environment.{IsEnvironment}
use Rattle.type_table.proofs.TypeRelations.UnderLaws.{looked_up, number_within, number_is}
use Rattle.type_table.proofs.type_relations.env.Env.under.Goals as goal

pub returns-in-Some-clause-number : goal.returns-in-Some-clause-number
returns-in-Some-clause-number c =
    rw (← c.self.view_is) (looked_up c.self.inside.unders.entries c.args.t.0 (Some c.in-Some.under.now) c.in-Some.ensures.value)

pub returns-in-Some-clause-within : goal.returns-in-Some-clause-within
returns-in-Some-clause-within c =
    number_within c.args.self.now (subst IsEnvironment c.self.view_is c.self.invariant) c.args.t.0 c.in-Some.under.now.0
    c.requires (returns-in-Some-clause-number c)

pub returns-in-Some-clause-is : goal.returns-in-Some-clause-is
returns-in-Some-clause-is c =
    number_is c.args.self.now (subst IsEnvironment c.self.view_is c.self.invariant) c.args.t.0 c.in-Some.under.now.0
    c.requires (returns-in-Some-clause-number c)

pub returns-in-None-clause-number : goal.returns-in-None-clause-number
returns-in-None-clause-number c =
    rw (← c.self.view_is) (looked_up c.self.inside.unders.entries c.args.t.0 None c.in-None.ensures.value)

pub returns-in-None-clause-is : goal.returns-in-None-clause-is
returns-in-None-clause-is c =
    number_is c.args.self.now (subst IsEnvironment c.self.view_is c.self.invariant) c.args.t.0 c.args.t.0 c.requires
    (returns-in-None-clause-number c)
