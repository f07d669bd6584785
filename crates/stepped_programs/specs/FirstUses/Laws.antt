-- The laws of first free uses. Each is the contract of a function of this crate (Go specification, Packages; Constant
-- declarations; golang.org/x/tools, internal/refactor/inline, for what a run takes).
use Rattle.std.specs.Prelude.{List, Option}
use Rattle.std.specs.Option.{option_map}
use Rattle.pkg_graph.specs.Reads.{Source}
use Rattle.run_rules.specs.Run.{Standing}
use Rattle.run_rules.specs.Sites.{MarkRef}
use Rattle.stepped_programs.specs.declared.package_search.looks.ProgramSources.{ProgramSources}
use Rattle.programs.specs.declared.state.Program.{Program}
use Rattle.programs.specs.Programs.{IsProgramOf}
use Rattle.stepped_programs.specs.SearchedSites.OrderedSearches.Found.{IsStepFound}
use Rattle.stepped_programs.specs.SearchedSites.OrderedSearches.Held.{AreAllSettled}
use Rattle.stepped_programs.specs.SteppedValues.Flags.{IsKeptProgram}
use Rattle.stepped_programs.specs.Laws.{flags_of, users_of}
use Rattle.stepped_programs.specs.declared.first_uses.first.FirstUse.{FirstUse}
use Rattle.stepped_programs.specs.FirstUses.First.{IsFirstUse, IsOpenInOrder, found_in}

-- The first use of a program may be looked for.
abbrev pub ProgramsAreOpenInOrder : Type 0
ProgramsAreOpenInOrder =
    (files : List Source) (marks : List MarkRef) (st : Standing) (p : Program) → IsProgramOf files marks st p
    → IsOpenInOrder p

-- After that all that is kept is that of the same program, as searches look at it.
abbrev pub FirstUsesKeepPrograms : Type 0
FirstUsesKeepPrograms =
    (files : List Source) (marks : List MarkRef) (st : Standing) (old new : Program) (r : Option FirstUse)
    → IsFirstUse old new r
    → (IsProgramOf files marks st old → IsProgramOf files marks st new)
    × ((s : ProgramSources) → IsKeptProgram files marks st old s → IsKeptProgram files marks st new s)

-- What is found is the use that the run takes next, with all that was told of it; where nothing is found, no use is
-- free. Files whose flags are set have no free use.
abbrev pub FirstUsesAreSteps : Type 0
FirstUsesAreSteps =
    (files : List Source) (marks : List MarkRef) (st : Standing) (old new : Program) (s : ProgramSources)
    (r : Option FirstUse) → IsKeptProgram files marks st old s
    → AreAllSettled marks st (users_of old) (flags_of old) → IsFirstUse old new r
    → IsStepFound marks st s (option_map found_in r)

-- And no file whose flag is set then has one.
abbrev pub FirstUsesSettleFiles : Type 0
FirstUsesSettleFiles =
    (files : List Source) (marks : List MarkRef) (st : Standing) (old new : Program) (s : ProgramSources)
    (r : Option FirstUse) → IsKeptProgram files marks st old s
    → AreAllSettled marks st (users_of old) (flags_of old) → IsFirstUse old new r
    → AreAllSettled marks st (users_of new) (flags_of new)
