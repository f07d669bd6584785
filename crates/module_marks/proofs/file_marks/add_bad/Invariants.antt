use Rattle.std.proofs.Common.{◌≡◌, ◌++◌, drop, map}
use Rattle.module_marks.specs.Views.{bad_at_of}
use Rattle.module_marks.proofs.file_marks.add_bad.Given as goal

abbrev pub invariant-loop-mark : goal.invariant-loop-mark
invariant-loop-mark l =
    map bad_at_of l.bad.items ++ map (λ b. (l.path, b)) (drop l.mark-index l.found)
    ≡ map bad_at_of l.initial.bad.items ++ map (λ b. (l.path, b)) l.found
