use Rattle.std.proofs.Common.{◌∙◌, ap}
use Rattle.used_names.specs.Uses.{and_name}
use Rattle.name_uses.specs.Inside.{seen}
use Rattle.name_uses.proofs.StateSteps.{hushed}
use Rattle.name_uses.proofs.uses.NameUses.hush.Goals as goal

pub returns : goal.returns
returns c =
    rw (← c.self.view_is)
    (hushed (seen c.self.inside) c.args.name.now c.add.new.self (c.in_ok-add.ensures.added ∙ ap (λ m. and_name m c.self.inside.quiet) c.in_ok-copy.ensures))
