use Rattle.std.proofs.Common.{◌≡◌, drop, map}
use Rattle.member_uses.specs.PossibleUses.Views.{part_of}
use Rattle.stepped_programs.specs.PackageSearch.FileSteps.Used.{first_at}
use Rattle.stepped_programs.proofs.package_search.file_steps.used.used_expr.Given as goal

abbrev pub invariant-loop-part : goal.invariant-loop-part
invariant-loop-part l = first_at l.at (map part_of (drop l.part-index l.parts)) ≡ first_at l.at (map part_of l.parts)
