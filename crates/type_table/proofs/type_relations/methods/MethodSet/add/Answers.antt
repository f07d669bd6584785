use Rattle.std.proofs.Common.{◌∙◌, ap}
use Rattle.type_table.specs.TypeRelations.Methods.{found_row}
use Rattle.type_table.proofs.TypeRelations.MethodLaws.{rows_of, added_method}
use Rattle.type_table.proofs.type_relations.methods.MethodSet.add.Goals as goal

pub returns-clause-added : goal.returns-clause-added
returns-clause-added c =
    rw (← c.self.view_is)
    (ap (rows_of (λ k. k.items)) c.in_ok-insert.ensures.entries
    ∙ added_method (λ k. k.items) c.args.name c.args.method c.self.inside.entries.entries
    (ap (found_row c.args.name.items) c.self.view_is ∙ c.requires))
