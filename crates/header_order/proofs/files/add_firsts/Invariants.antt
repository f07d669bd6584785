use Rattle.std.proofs.Common.{drop}
use Rattle.header_order.specs.Files.{FilesPassed, header_counts}
use Rattle.header_order.proofs.files.add_firsts.Given as goal

abbrev pub invariant-loop-file : goal.invariant-loop-file
invariant-loop-file l =
    FilesPassed l.marks l.start (header_counts l.files) (header_counts (drop l.file-index l.files)) l.initial.firsts.items
    l.end l.firsts.items
