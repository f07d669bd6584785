use Rattle.std.proofs.Common.{◌≡◌, ◌++◌, drop}
use Rattle.run_plans.specs.PlannedFiles.Referred.{referred}
use Rattle.run_plans.specs.PlannedFiles.Texts.{kept_texts}
use Rattle.run_plans.proofs.planned_files.texts.program_texts.Given as goal

abbrev pub invariant-loop-kept : goal.invariant-loop-kept
invariant-loop-kept l =
    referred l.texts.items ++ kept_texts (drop l.kept-index l.files) ≡ kept_texts l.files
