use Rattle.std.proofs.Common.{◌≡◌, ◌++◌, drop, map}
use Rattle.pkg_graph.specs.Views.{package_view}
use Rattle.module_marks.specs.Tables.{blocks_from, blocks_of}
use Rattle.module_marks.proofs.table.package_blocks.Given as goal

abbrev pub invariant-loop-number : goal.invariant-loop-number
invariant-loop-number l =
    l.blocks.items ++ blocks_from l.number (map package_view (drop l.number l.packages))
    ≡ blocks_of (map package_view l.packages)
