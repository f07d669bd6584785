use Rattle.std.proofs.Common.{map, take}
use Rattle.file_names.specs.Places.{Finds}
use Rattle.module_marks.proofs.table.MemberTable.of.Given as goal

abbrev pub invariant-loop-place : goal.invariant-loop-place
invariant-loop-place l = Finds l.places (map (λ m. m.name) (take l.place l.member-items))
