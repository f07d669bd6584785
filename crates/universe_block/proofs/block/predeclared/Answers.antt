use Rattle.std.proofs.Common.{◌∙◌, Some, ap, sym}
use Rattle.universe_block.proofs.NumberedLaws.{value_at, by_number}
use Rattle.universe_block.proofs.block.predeclared.Goals as goal

pub returns-in-Some-Universe : goal.returns-in-Some-Universe
returns-in-Some-Universe c =
    c.numbered.ensures ∙ sym (ap value_at (c.in-Some-Universe.is ∙ ap Some c.in-Some-Universe.field-0-is))
    ∙ by_number c.args.name.now c.predeclared.result c.predeclared.ensures

pub returns-in-Some-Local : goal.returns-in-Some-Local
returns-in-Some-Local c =
    sym (ap value_at (c.in-Some-Local.is ∙ ap Some c.in-Some-Local.field-0-is)) ∙ by_number c.args.name.now c.predeclared.result c.predeclared.ensures

pub returns-in-Some-Import : goal.returns-in-Some-Import
returns-in-Some-Import c =
    sym (ap value_at (c.in-Some-Import.is ∙ ap Some c.in-Some-Import.field-0-is)) ∙ by_number c.args.name.now c.predeclared.result c.predeclared.ensures

pub returns-in-Some-Package : goal.returns-in-Some-Package
returns-in-Some-Package c =
    sym (ap value_at (c.in-Some-Package.is ∙ ap Some c.in-Some-Package.field-0-is)) ∙ by_number c.args.name.now c.predeclared.result c.predeclared.ensures

pub returns-in-None : goal.returns-in-None
returns-in-None c =
    sym (ap value_at c.in-None.is) ∙ by_number c.args.name.now c.predeclared.result c.predeclared.ensures
