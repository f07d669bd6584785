use Rattle.package_blocks.specs.Collected.{IsEmpty}
use Rattle.package_blocks.proofs.collected.empty_blocks.Given as goal

abbrev pub invariant-loop : goal.invariant-loop
invariant-loop l = IsEmpty l.counter l.blocks
