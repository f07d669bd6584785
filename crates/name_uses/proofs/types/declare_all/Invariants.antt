use Rattle.std.proofs.Common.{◌≡◌, drop, map}
use Rattle.go_tree.specs.View.{name_at_of}
use Rattle.used_names.specs.Walks.{declare_all}
use Rattle.name_uses.specs.Walk.{walk_of, walked}
use Rattle.name_uses.proofs.types.declare_all.Given as goal

abbrev pub invariant-loop-name : goal.invariant-loop-name
invariant-loop-name l =
    walked (declare_all (map name_at_of (drop l.name-index l.name-items))) (walk_of l.uses)
    ≡ walked (declare_all (map name_at_of l.name-items)) (walk_of l.initial.uses)
