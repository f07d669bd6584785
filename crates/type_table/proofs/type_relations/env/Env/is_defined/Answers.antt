use Rattle.std.proofs.Common.{◌∙◌}
use Rattle.type_table.proofs.TypeRelations.GrownLaws.{entry_there}
use Rattle.type_table.proofs.type_relations.env.Env.is_defined.Goals as goal

pub returns : goal.returns
returns c = rw (← c.self.view_is) (c.contains_key.ensures ∙ entry_there c.self.inside.unders.entries c.args.t.0)
