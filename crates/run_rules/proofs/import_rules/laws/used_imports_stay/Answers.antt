use Rattle.run_rules.proofs.ImportRules.UnusedLaws.{used_imports_stay, used_names_mean_at, standing_names_are_used}
use Rattle.run_rules.proofs.import_rules.laws.used_imports_stay.Goals as goal

pub returns-clause-standing : goal.returns-clause-standing
returns-clause-standing c = standing_names_are_used

pub returns-clause-stay : goal.returns-clause-stay
returns-clause-stay c = used_imports_stay

pub returns-clause-mean : goal.returns-clause-mean
returns-clause-mean c = used_names_mean_at
