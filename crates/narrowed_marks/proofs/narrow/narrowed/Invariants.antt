use Rattle.std.proofs.Common.{◌≡◌, ◌++◌, drop, filter, map}
use Rattle.pkg_graph.specs.Views.{package_view}
use Rattle.module_marks.specs.Views.{mark_ref_of}
use Rattle.narrowed_marks.specs.Narrowed.{begins_with}
use Rattle.narrowed_marks.proofs.narrow.narrowed.Given as goal

abbrev pub invariant-loop-mark : goal.invariant-loop-mark
invariant-loop-mark l =
    map mark_ref_of l.kept.items
    ++ filter (begins_with (map package_view l.packages) l.only) (map mark_ref_of (drop l.mark-index l.marks))
    ≡ filter (begins_with (map package_view l.packages) l.only) (map mark_ref_of l.marks)
