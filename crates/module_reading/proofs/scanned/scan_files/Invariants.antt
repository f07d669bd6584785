use Rattle.std.proofs.Common.{take}
use Rattle.module_texts.specs.Files.{AreScanned, go_files}
use Rattle.module_reading.proofs.scanned.scan_files.Given as goal

abbrev pub invariant-loop-file : goal.invariant-loop-file
invariant-loop-file l = AreScanned (go_files (take l.file-index l.files)) l.list.items
