use Rattle.literal_steps.proofs.ServedPackages.FormNames.{needed}
use Rattle.literal_steps.proofs.served_packages.laws.named_packages_are_needed.Goals as goal

pub returns : goal.returns
returns c = record {
  needed = λ same commented rs marks x u v ms l a k e. needed same commented rs marks x u v ms l a k
      e;
}
