use Rattle.std.proofs.Common.{◌≡◌, ◌++◌, drop, map}
use Rattle.go_tree.specs.FileView.{file_of}
use Rattle.run_rules.specs.Marks.{marks_by_number}
use Rattle.module_marks.specs.Views.{mark_ref_of}
use Rattle.module_marks.proofs.file_marks.add_good.Given as goal

abbrev pub invariant-loop-mark : goal.invariant-loop-mark
invariant-loop-mark l =
    map mark_ref_of l.good.items ++ marks_by_number l.home l.file (file_of l.tree) (drop l.mark-index l.found)
    ≡ map mark_ref_of l.initial.good.items ++ marks_by_number l.home l.file (file_of l.tree) l.found
