use Rattle.std.proofs.Common.{◌-◌, length}
use Rattle.initial_values.specs.ValueBlocks.Values.{NamesSet}
use Rattle.initial_values.proofs.value_blocks.values.set_values.Given as goal

abbrev pub invariant-loop-count : goal.invariant-loop-count
invariant-loop-count l =
    NamesSet l.home (length l.entities - l.count) l.listed l.entities l.initial.blocks l.blocks
