use Rattle.std.proofs.Common.{◌∙◌, ap}
use Rattle.type_table.specs.TypeRelations.Environment.{defined_types}
use Rattle.used_names.specs.Uses.{inner_under}
use Rattle.name_uses.specs.Inside.{seen}
use Rattle.name_uses.specs.Views.{literal_under}
use Rattle.name_uses.proofs.StateSteps.{on_ok, opened_inside}
use Rattle.name_uses.proofs.uses.NameUses.open_inside.Goals as goal

pub returns : goal.returns
returns c =
    rw (← c.self.view_is)
    (on_ok c.push.result
    (λ p.
    opened_inside (seen c.self.inside) c.args.is_key c.inside-of.result c.push.new.self
    (c.inside-of.ensures.is ∙ ap (λ o. inner_under (defined_types c.self.inside.tables.env) c.args.is_key (literal_under c.self.inside.tables.env o)) c.top.ensures) p)
    c.push.ensures.added)
