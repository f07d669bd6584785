use Rattle.std.proofs.Common.{◌∙◌, ap, sym}
use Rattle.typed_names.specs.Locals.{flat}
use Rattle.typed_names.proofs.NameLaws.{name_found}
use Rattle.typed_names.proofs.locals.Tops.of.Goals as goal

pub returns-in-Some : goal.returns-in-Some
returns-in-Some c =
    rw (← c.self.view_is)
    (ap flat
    (sym c.in-Some.is ∙ c.copied.ensures ∙ c.get.ensures.value
    ∙ name_found (λ k. k.items) c.args.name.now c.self.inside.entries.entries))

pub returns-in-None : goal.returns-in-None
returns-in-None c =
    rw (← c.self.view_is)
    (ap flat
    (sym c.in-None.is ∙ c.copied.ensures ∙ c.get.ensures.value
    ∙ name_found (λ k. k.items) c.args.name.now c.self.inside.entries.entries))
