use Rattle.std.proofs.Common.{◌≡◌, ◌+◌, drop}
use Rattle.run_plans.specs.PlannedModules.Folders.{size_of}
use Rattle.run_plans.proofs.planned_modules.sizes.total_bytes.Given as goal

abbrev pub invariant-loop-file : goal.invariant-loop-file
invariant-loop-file l = l.sum + size_of (drop l.file-index l.files) ≡ size_of l.files
