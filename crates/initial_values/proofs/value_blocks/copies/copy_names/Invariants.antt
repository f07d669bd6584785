use Rattle.std.proofs.Common.{drop}
use Rattle.package_blocks.specs.Names.{plain_names}
use Rattle.initial_values.specs.ValueBlocks.Copies.{NamesCopied}
use Rattle.initial_values.proofs.value_blocks.copies.copy_names.Given as goal

abbrev pub invariant-loop-name : goal.invariant-loop-name
invariant-loop-name l =
    NamesCopied l.blocks l.home (plain_names l.name-items) (plain_names (drop l.name-index l.name-items)) l.initial.copies
    l.copies
