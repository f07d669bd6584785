-- The laws of programs that are searched. Each is the contract of a function of this crate (Go specification, Packages;
-- Source file organization).
use Rattle.std.specs.Prelude.{ℕ, ◌<◌, List, Option, length}
use Rattle.pkg_graph.specs.Reads.{Source}
use Rattle.run_rules.specs.Sites.{MarkRef}
use Rattle.run_rules.specs.Run.{Standing}
use Rattle.stepped_programs.specs.declared.package_search.search.FoundInPackage.{FoundInPackage}
use Rattle.programs.specs.declared.state.Program.{Program}
use Rattle.programs.specs.Programs.{IsProgramOf}
use Rattle.stepped_programs.specs.PackageSearch.SearchedPrograms.Programs.{IsOpenProgram, IsProgramSearch}

-- A package of a program may be searched.
abbrev pub ProgramsAreOpen : Type 0
ProgramsAreOpen =
    (files : List Source) (marks : List MarkRef) (st : Standing) (p : Program) (k : ℕ) → IsProgramOf files marks st p
    → k < length st.packages → IsOpenProgram p k

-- After a search all that is kept is that of the same program.
abbrev pub SearchedProgramsStay : Type 0
SearchedProgramsStay =
    (files : List Source) (marks : List MarkRef) (st : Standing) (old new : Program) (k : ℕ) (r : Option FoundInPackage)
    → IsProgramOf files marks st old → IsProgramSearch old new k r → IsProgramOf files marks st new
