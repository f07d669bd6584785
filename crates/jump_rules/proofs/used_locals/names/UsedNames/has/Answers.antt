use Rattle.std.proofs.Common.{◌∙◌, sym}
use Rattle.typed_names.proofs.NameLaws.{name_found}
use Rattle.jump_rules.proofs.UsedLocals.UsedLemmas.{found_used, not_found}
use Rattle.jump_rules.proofs.used_locals.names.UsedNames.has.Goals as goal

pub returns-in-Some : goal.returns-in-Some
returns-in-Some c =
    rw (← c.self.view_is)
    (found_used _ c.in-Some.used
    (sym (name_found (λ k. k.items) c.args.name.now c.self.inside.entries.entries) ∙ sym c.get.ensures.value
    ∙ sym c.copied.ensures ∙ c.in-Some.is))

pub returns-in-None : goal.returns-in-None
returns-in-None c =
    rw (← c.self.view_is)
    (not_found _
    (sym (name_found (λ k. k.items) c.args.name.now c.self.inside.entries.entries) ∙ sym c.get.ensures.value
    ∙ sym c.copied.ensures ∙ c.in-None.is))
