use Rattle.std.proofs.Common.{◌≡◌, drop}
use Rattle.module_marks.specs.Views.{texts_of}
use Rattle.run_plans.specs.PlannedModules.Modules.{without_dots}
use Rattle.run_plans.proofs.planned_modules.dots.without_dots.Given as goal

abbrev pub invariant-loop-file : goal.invariant-loop-file
invariant-loop-file l = without_dots (texts_of (drop l.file-index l.files)) ≡ without_dots (texts_of l.files)
