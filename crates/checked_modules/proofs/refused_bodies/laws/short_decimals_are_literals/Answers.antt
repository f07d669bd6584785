use Rattle.checked_modules.proofs.RefusedBodies.DecimalLemmas.{short_decimals}
use Rattle.checked_modules.proofs.refused_bodies.laws.short_decimals_are_literals.Goals as goal

pub returns : goal.returns
returns c = short_decimals
