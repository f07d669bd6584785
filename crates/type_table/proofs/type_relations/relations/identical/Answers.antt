use Rattle.std.proofs.Common.{◌∙◌, sym, subst}
use Rattle.type_table.proofs.TypesAtLaws.{identical_at}
use Rattle.type_table.specs.TypeRelations.Environment.{IsEnvironment}
use Rattle.type_table.proofs.type_relations.relations.identical.Goals as goal

pub returns-clause-is : goal.returns-clause-is
returns-clause-is c =
    let good : IsEnvironment c.args.env.now = subst IsEnvironment c.env.view_is c.env.invariant in
    c.eq.ensures ∙ sym (identical_at c.args.env.now.rows good.table c.args.a.0 c.args.b.0 c.requires.first c.requires.second)
