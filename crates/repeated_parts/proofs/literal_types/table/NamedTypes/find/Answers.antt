use Rattle.std.proofs.Common.{◌∙◌}
use Rattle.repeated_parts.proofs.LiteralTypes.Names.{name_found}
use Rattle.repeated_parts.proofs.literal_types.table.NamedTypes.find.Goals as goal

pub returns : goal.returns
returns c =
    rw (← c.self.view_is)
    (c.copied.ensures ∙ c.get.ensures.value ∙ name_found (λ k. k.items) c.args.name.now c.self.inside.entries.entries)
