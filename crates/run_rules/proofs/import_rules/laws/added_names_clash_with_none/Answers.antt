use Rattle.run_rules.proofs.ImportRules.NeededNames.{added_names_are_distinct, added_names_are_new}
use Rattle.run_rules.proofs.import_rules.laws.added_names_clash_with_none.Goals as goal

pub returns-clause-distinct : goal.returns-clause-distinct
returns-clause-distinct c = added_names_are_distinct

pub returns-clause-new : goal.returns-clause-new
returns-clause-new c = added_names_are_new
