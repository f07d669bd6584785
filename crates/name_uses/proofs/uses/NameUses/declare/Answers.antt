use Rattle.std.proofs.Common.{◌∙◌, ◌∷◌, ap, sym}
use Rattle.typed_names.specs.declared.entities.Entity.TheVariants.{Refused}
use Rattle.name_uses.specs.Inside.{seen}
use Rattle.name_uses.proofs.StateSteps.{declared_blank, declared_local}
use Rattle.name_uses.proofs.uses.NameUses.declare.Goals as goal

pub returns-then-is_blank : goal.returns-then-is_blank
returns-then-is_blank c = declared_blank c.args.self.now c.args.name.now (sym c.is_blank.ensures ∙ c.if-is_blank.true)

pub returns : goal.returns
returns c =
    rw (← c.self.view_is)
    (declared_local (seen c.self.inside) c.args.name.now Refused c.push.new.self (sym c.is_blank.ensures ∙ c.if-is_blank.false)
    (c.in_ok-push.ensures.added ∙ ap (λ m. (m, Refused) ∷ c.self.inside.locals) c.items.ensures))
