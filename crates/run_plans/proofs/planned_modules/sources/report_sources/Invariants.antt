use Rattle.std.proofs.Common.{◌≡◌, ◌++◌, drop, map}
use Rattle.run_plans.specs.PlannedModules.Runs.{told_source}
use Rattle.run_plans.proofs.PlannedModules.GoSources.{go_rows}
use Rattle.run_plans.proofs.planned_modules.sources.report_sources.Given as goal

abbrev pub invariant-loop-file : goal.invariant-loop-file
invariant-loop-file l = map told_source l.sources.items ++ go_rows (drop l.file-index l.files) ≡ go_rows l.files
