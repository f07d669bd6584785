use Rattle.std.proofs.Common.{◌∙◌}
use Rattle.type_table.proofs.TypeRelations.GrownLaws.{set_there}
use Rattle.type_table.proofs.type_relations.env.Env.has_methods.Goals as goal

pub returns : goal.returns
returns c = rw (← c.self.view_is) (c.contains_key.ensures ∙ set_there c.self.inside.methods.entries c.args.t.0)
