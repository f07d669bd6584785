use Rattle.std.proofs.Common.{◌≡◌, drop}
use Rattle.std.specs.List.{slice_get}
use Rattle.module_texts.specs.Files.{go_files}
use Rattle.module_refusals.proofs.files.go_file.Given as goal

abbrev pub invariant-loop-file : goal.invariant-loop-file
invariant-loop-file l = slice_get (go_files (drop l.file-index l.files)) l.left ≡ slice_get (go_files l.files) l.number
