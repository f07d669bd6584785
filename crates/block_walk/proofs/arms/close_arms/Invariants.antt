use Rattle.std.proofs.Common.{Bool, Option, length}
use Rattle.jump_rules.specs.UsedLocals.Used.{Used, used_of}
use Rattle.block_walk.specs.Arms.{GivesOpen, innermost_first}
use Rattle.block_walk.proofs.arms.close_arms.Given as goal

abbrev pub invariant-loop-arm : goal.invariant-loop-arm
invariant-loop-arm l =
    (whole : Option Bool) (total : Used) →
    GivesOpen whole total (innermost_first l.initial.stack.items) (used_of l.initial.used) l.initial.ends →
    GivesOpen whole total (innermost_first l.stack.items) (used_of l.used) l.ends

abbrev pub decreases-loop-arm : goal.decreases-loop-arm
decreases-loop-arm l = length l.stack.items
