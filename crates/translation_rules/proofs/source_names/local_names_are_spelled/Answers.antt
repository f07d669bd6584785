use Rattle.translation_rules.proofs.SourceNames.FirstLetters.{name_spelled}
use Rattle.translation_rules.proofs.SourceNames.ReadNames.{packages_spelled, packages_kept}
use Rattle.translation_rules.proofs.source_names.local_names_are_spelled.Goals as goal

pub returns-clause-identifiers : goal.returns-clause-identifiers
returns-clause-identifiers c = name_spelled

pub returns-clause-packages : goal.returns-clause-packages
returns-clause-packages c = packages_spelled

pub returns-clause-frames : goal.returns-clause-frames
returns-clause-frames c = packages_kept
