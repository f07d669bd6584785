use Rattle.std.proofs.Common.{◌∙◌, ap, is_some}
use Rattle.name_walks.proofs.FreshLaws.{predeclared_alone}
use Rattle.name_walks.proofs.new_names.is_predeclared.Goals as goal

pub returns : goal.returns
returns c =
    c.is_some.ensures ∙ ap is_some c.meaning_outside.ensures
    ∙ predeclared_alone (record { imports = c.of.result; «package» = c.of-2.result }) c.args.name.now (c.of.ensures ∙ c.new.ensures.items) (c.of-2.ensures ∙ c.new-2.ensures.items)
