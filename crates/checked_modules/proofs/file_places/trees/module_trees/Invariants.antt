use Rattle.std.proofs.Common.{◌≡◌, ◌++◌, drop}
use Rattle.checked_modules.specs.FilePlaces.Trees.{shown, trees_of}
use Rattle.checked_modules.proofs.file_places.trees.module_trees.Given as goal

abbrev pub invariant-loop-number : goal.invariant-loop-number
invariant-loop-number l =
    shown l.trees.items ++ trees_of l.packages (drop l.number-index l.order) ≡ trees_of l.packages l.order
