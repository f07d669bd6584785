use Rattle.std.proofs.Common.{[], drop}
use Rattle.header_order.specs.Files.{FilesPassed, counts_of}
use Rattle.header_order.proofs.files.first_refused_headers.Given as goal

abbrev pub invariant-loop-number : goal.invariant-loop-number
invariant-loop-number l =
    FilesPassed l.marks 0 (counts_of l.packages l.order) (counts_of l.packages (drop l.number-index l.order)) [] l.start
    l.firsts.items
