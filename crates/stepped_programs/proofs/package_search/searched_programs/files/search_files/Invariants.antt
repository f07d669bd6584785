use Rattle.std.proofs.Common.{◌≡◌}
use Rattle.file_tables.specs.Blocks.{HasOwnTable}
use Rattle.stepped_programs.specs.PackageSearch.Search.{block_of}
use Rattle.stepped_programs.proofs.PackageSearch.Settled.{before}
use Rattle.stepped_programs.specs.PackageSearch.SearchedPrograms.Search.{Keeps, AreSettledFor}
use Rattle.stepped_programs.proofs.package_search.searched_programs.files.search_files.Given as goal

abbrev pub invariant-loop-file : goal.invariant-loop-file
invariant-loop-file l = record {
  block : l.block.names ≡ block_of l.program l.number l.home l.tokens;
  table : HasOwnTable l.block;
  settled : AreSettledFor l.program l.number l.home l.tokens l.users l.initial.settled l.settled;
  keeps : Keeps l.initial.users l.users;
  before : before l.settled l.file;
}
