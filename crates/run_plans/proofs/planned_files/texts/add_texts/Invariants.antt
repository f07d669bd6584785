use Rattle.std.proofs.Common.{◌≡◌, ◌++◌, drop}
use Rattle.run_plans.specs.PlannedFiles.Referred.{referred}
use Rattle.run_plans.proofs.planned_files.texts.add_texts.Given as goal

abbrev pub invariant-loop-text : goal.invariant-loop-text
invariant-loop-text l =
    referred l.texts.items ++ drop l.text-index l.kept ≡ referred l.initial.texts.items ++ l.kept
