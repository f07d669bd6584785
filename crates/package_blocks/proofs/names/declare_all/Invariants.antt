use Rattle.std.proofs.Common.{drop}
use Rattle.package_blocks.specs.Names.{NamesPassed, plain_names}
use Rattle.package_blocks.proofs.names.declare_all.Given as goal

abbrev pub invariant-loop-name : goal.invariant-loop-name
invariant-loop-name l =
    NamesPassed l.home l.initial.blocks (plain_names l.name-items) (plain_names (drop l.name-index l.name-items)) l.blocks
    l.sound
