use Rattle.type_table.proofs.TypeRelations.MethodLaws.{found_method}
use Rattle.type_table.proofs.type_relations.methods.MethodSet.find.Goals as goal

pub returns : goal.returns
returns c =
    rw (← c.self.view_is)
    (found_method (λ k. k.items) c.args.name.now c.self.inside.entries.entries c.get.result c.get.ensures.value)
