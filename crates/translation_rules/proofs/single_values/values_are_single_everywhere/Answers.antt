use Rattle.translation_rules.proofs.SingleValues.PackagesGive.{packages_give}
use Rattle.translation_rules.proofs.single_values.values_are_single_everywhere.Goals as goal

pub returns : goal.returns
returns c = record { packages = packages_give }
