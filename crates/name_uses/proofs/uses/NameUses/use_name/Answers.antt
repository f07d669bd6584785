use Rattle.std.proofs.Common.{◌∙◌, ap, sym}
use Rattle.used_names.specs.Uses.{and_name, hides}
use Rattle.name_uses.specs.Inside.{seen}
use Rattle.name_uses.specs.Walk.{walk_of}
use Rattle.name_uses.proofs.StateSteps.{used_found, used_hidden}
use Rattle.name_uses.proofs.uses.NameUses.use_name.Goals as goal

pub returns-then-hides : goal.returns-then-hides
returns-then-hides c = used_hidden c.args.self.now c.args.name.now (sym c.hides.ensures ∙ c.if-hides.true)

pub returns : goal.returns
returns c =
    rw (← c.self.view_is)
    (used_found (seen c.self.inside) c.args.name.now c.add.new.self
    (ap (λ s. hides (walk_of s).uses c.args.name.now) c.self.view_is ∙ sym c.hides.ensures ∙ c.if-hides.false)
    (c.in_ok-add.ensures.added ∙ ap (λ m. and_name m c.self.inside.found) c.in_ok-copy.ensures))
