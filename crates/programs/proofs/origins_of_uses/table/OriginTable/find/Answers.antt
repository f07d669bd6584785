use Rattle.std.proofs.Common.{◌∙◌}
use Rattle.programs.proofs.OriginsOfUses.Tables.{span_found}
use Rattle.programs.proofs.origins_of_uses.table.OriginTable.find.Goals as goal

pub returns : goal.returns
returns c = rw (← c.self.view_is) (c.copied.ensures ∙ c.get.ensures.value ∙ span_found c.args.span c.self.inside.entries.entries)
