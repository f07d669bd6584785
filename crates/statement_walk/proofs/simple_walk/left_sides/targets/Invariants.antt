use Rattle.std.proofs.Common.{drop, map}
use Rattle.go_tree.specs.Lists.{exprs_from}
use Rattle.go_tree.specs.View.{expr_of}
use Rattle.statement_walk.specs.SimpleWalk.Targets.{AreTargetsWalked}
use Rattle.statement_walk.proofs.simple_walk.left_sides.targets.Given as goal

abbrev pub invariant-loop-e : goal.invariant-loop-e
invariant-loop-e l =
    AreTargetsWalked l.initial.tables l.tables l.blocks l.scope (exprs_from (map expr_of l.e-items))
    (exprs_from (map expr_of (drop l.e-index l.e-items))) l.items.items
