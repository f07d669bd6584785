use Rattle.std.proofs.Common.{take}
use Rattle.module_texts.specs.Files.{AreTreesOf}
use Rattle.module_reading.proofs.trees.parse_files.Given as goal

abbrev pub invariant-loop-number : goal.invariant-loop-number
invariant-loop-number l = AreTreesOf (take l.number l.files) l.trees.items
