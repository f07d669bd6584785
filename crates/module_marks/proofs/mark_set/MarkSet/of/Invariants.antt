use Rattle.std.proofs.Common.{◌≡◌, ◌||◌, drop, map}
use Rattle.run_rules.specs.Sites.{MarkRef, is_among_marks}
use Rattle.module_marks.specs.Views.{mark_ref_of}
use Rattle.module_marks.proofs.mark_set.MarkSet.of.Given as goal

abbrev pub invariant-loop-mark : goal.invariant-loop-mark
invariant-loop-mark l = (q : MarkRef)
    → (is_among_marks (map mark_ref_of (drop l.mark-index l.marks)) q || is_among_marks l.set q)
    ≡ is_among_marks (map mark_ref_of l.marks) q
