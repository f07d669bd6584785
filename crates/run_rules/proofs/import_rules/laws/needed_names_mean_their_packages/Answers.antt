use Rattle.run_rules.proofs.ImportRules.NeededNames.{needed_names_mean, needed_names_mean_at}
use Rattle.run_rules.proofs.import_rules.laws.needed_names_mean_their_packages.Goals as goal

pub returns-clause-in_environments : goal.returns-clause-in_environments
returns-clause-in_environments c = needed_names_mean

pub returns-clause-at_places : goal.returns-clause-at_places
returns-clause-at_places c = needed_names_mean_at
