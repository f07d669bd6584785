use Rattle.std.proofs.Common.{◌∙◌}
use Rattle.typed_names.proofs.locals.Locals.find.Goals as goal

pub returns : goal.returns
returns c = rw (← c.self.view_is) (c.of.ensures ∙ c.self.invariant.tops c.args.name.now)
