use Rattle.std.proofs.Common.{◌≡◌, drop, map}
use Rattle.go_tree.specs.View.{name_at_of}
use Rattle.names_within.specs.TreeWalk.{bind_all}
use Rattle.name_walks.specs.Walk.{walk_of}
use Rattle.names_within.proofs.types.bind_all.Given as goal

abbrev pub invariant-loop-name : goal.invariant-loop-name
invariant-loop-name l =
    bind_all (map name_at_of (drop l.name-index l.name-items)) (walk_of l.names)
    ≡ bind_all (map name_at_of l.name-items) (walk_of l.initial.names)
