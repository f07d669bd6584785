use Rattle.std.proofs.Common.{◌≡◌, map, take}
use Rattle.file_names.proofs.members.member_names.Given as goal

abbrev pub invariant-loop-member : goal.invariant-loop-member
invariant-loop-member l = l.names.items ≡ map (λ m. m.name) (take l.member-index l.fn.members)
