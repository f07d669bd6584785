use Rattle.go_translation.proofs.PackagesBare.{codes-bare, shown-bare}
use Rattle.go_translation.proofs.laws.packages_need_no_spans.Goals as goal

pub returns-clause-programs : goal.returns-clause-programs
returns-clause-programs c = codes-bare

pub returns-clause-runs : goal.returns-clause-runs
returns-clause-runs c = shown-bare
