use Rattle.std.proofs.Common.{◌∙◌, sym}
use Rattle.stepped_programs.proofs.held_blocks.taken_block.Goals as goal

pub returns-then-of-number-clause-block : goal.returns-then-of-number-clause-block
returns-then-of-number-clause-block c = c.requires c.in-Some.last (sym c.take.ensures.value ∙ c.in-Some.is) c.if-of-number.true
