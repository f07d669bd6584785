use Rattle.std.proofs.Common.{take}
use Rattle.programs.specs.Users.{AreItsUses}
use Rattle.stepped_programs.specs.PackageSearch.SearchedPrograms.Search.{Keeps}
use Rattle.stepped_programs.proofs.package_search.searched_programs.files.add_users.Given as goal

abbrev pub invariant-loop-found : goal.invariant-loop-found
invariant-loop-found l = record {
  used : AreItsUses l.users l.file (take l.found-index l.kept);
  keeps : Keeps l.initial.users l.users;
}
