use Rattle.std.proofs.Common.{◌≡◌, ◌++◌, drop}
use Rattle.run_plans.specs.PlannedFiles.Texts.{last_texts, text_rows, texts_by_path}
use Rattle.run_plans.proofs.planned_files.texts.last_texts.Given as goal

abbrev pub invariant-loop-file : goal.invariant-loop-file
invariant-loop-file l =
    l.last.items ++ text_rows (texts_by_path l.program) l.file (drop l.file l.files) ≡ last_texts l.program l.files
