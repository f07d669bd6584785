use Rattle.initial_values.specs.ValueBlocks.Copies.{FirstCopied}
use Rattle.initial_values.proofs.value_blocks.copies.copied_blocks.Given as goal

abbrev pub invariant-loop-header : goal.invariant-loop-header
invariant-loop-header l = FirstCopied l.files l.blocks l.headers l.header-index l.copies
