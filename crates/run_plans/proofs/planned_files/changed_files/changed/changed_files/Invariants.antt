use Rattle.std.proofs.Common.{◌≡◌}
use Rattle.run_plans.specs.PlannedFiles.ChangedFiles.Changed.{changes}
use Rattle.run_plans.proofs.planned_files.changed_files.changed.changed_files.Given as goal

abbrev pub invariant-loop-last : goal.invariant-loop-last
invariant-loop-last l = l.list.items ≡ changes l.files l.yielded
