use Rattle.order_runs.proofs.ImportRuns.MembersMoved.{members-moved}
use Rattle.order_runs.proofs.import_runs.run_packages_are_moved.Goals as goal

pub returns : goal.returns
returns c = λ ps qs h n. members-moved ps qs h n
