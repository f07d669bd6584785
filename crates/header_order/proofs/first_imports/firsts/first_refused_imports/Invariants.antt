use Rattle.std.proofs.Common.{drop}
use Rattle.header_order.specs.FirstImports.Firsts.{Passed, trees_of}
use Rattle.header_order.proofs.first_imports.firsts.first_refused_imports.Given as goal

abbrev pub invariant-loop-number : goal.invariant-loop-number
invariant-loop-number l =
    Passed l.packages l.blocks l.used (trees_of l.packages l.order)
    (trees_of l.packages (drop l.number-index l.order)) l.firsts.items
