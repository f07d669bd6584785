use Rattle.std.proofs.Common.{◌≡◌, ◌++◌, drop}
use Rattle.checked_modules.specs.FilePlaces.Trees.{shown, trees_in}
use Rattle.checked_modules.proofs.file_places.trees.add_trees.Given as goal

abbrev pub invariant-loop-file : goal.invariant-loop-file
invariant-loop-file l =
    shown l.trees.items ++ trees_in (drop l.file-index l.files) ≡ shown l.initial.trees.items ++ trees_in l.files
