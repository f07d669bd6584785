-- The first free use of a program, with what is learned of its files (Go specification, Constant declarations;
-- Packages; Program initialization).
use Rattle.std.specs.Prelude.{◌≡◌, ℕ, true, All, length, Option, Some, slice_get}
use Rattle.std.specs.Option.{option_map}
use Rattle.file_tables.specs.Blocks.{HasOwnTable, block_in}
use Rattle.stepped_programs.specs.declared.package_search.looks.ProgramSources.{ProgramSources}
use Rattle.stepped_programs.specs.declared.package_search.search.FoundInPackage.{FoundInPackage}
use Rattle.stepped_programs.specs.PackageSearch.Search.{is_settled}
use Rattle.stepped_programs.specs.PackageSearch.SearchedPrograms.Programs.{IsOpenProgram}
use Rattle.stepped_programs.specs.PackageSearch.SearchedPrograms.Search.{Keeps}
use Rattle.programs.specs.declared.state.PackageFiles.{PackageFiles}
use Rattle.programs.specs.declared.state.Program.{Program}
use Rattle.stepped_programs.specs.SearchedSites.OrderedSearches.Search.{ComeSettled, IsFirstFree}
use Rattle.stepped_programs.specs.SteppedValues.Held.{AreSourcesOf, tokens_in}
use Rattle.stepped_programs.specs.Laws.{flags_of, users_of}
use Rattle.stepped_programs.specs.declared.first_uses.first.FirstUse.{FirstUse}

-- the number of its package, with what is found there
abbrev pub found_in : FirstUse → ℕ × FoundInPackage
found_in u = (u.home, u.found)

-- Each package that the order names may be searched.
abbrev pub IsOpenInOrder : Program → Type 0
IsOpenInOrder p = All (IsOpenProgram p) p.order.items

-- The tables of the use that is found have the table of its package's block.
abbrev pub HasBlock : Option FirstUse → Type 0
HasBlock found = (u : FirstUse) → found ≡ Some u → HasOwnTable (block_in u.found.tables)

-- Of what is kept of the files of a package the flags alone change, and those that are set stay set.
pub record AreFlagged (old new : PackageFiles) : Type 0 where
  pub only_flags : new ≡ record old { settled = new.settled }
  pub size : length new.settled.items ≡ length old.settled.items
  pub stay : (i : ℕ) → is_settled old.settled.items i ≡ true → is_settled new.settled.items i ≡ true

-- So it is in each package, and files that used the constants of a declaration still do; of the program nothing else
-- changes.
pub record IsFlagged (old new : Program) : Type 0 where
  pub rest : new ≡ record old { files = new.files; users = new.users }
  pub size : length new.files.items ≡ length old.files.items
  pub files :
      (k : ℕ) (was now : PackageFiles) → slice_get old.files.items k ≡ Some was
      → slice_get new.files.items k ≡ Some now → AreFlagged was now
  pub keeps : Keeps old.users new.users

-- This is the first free use of the program, in the order of its packages, or all its files are settled. Those that
-- come to the settled ones have no free use, and are known to use the constants of which they keep uses.
pub record IsFirstUse (old new : Program) (r : Option FirstUse) : Type 0 where
  pub changes : IsFlagged old new
  pub come :
      (s : ProgramSources) → AreSourcesOf old s
      → ComeSettled s (tokens_in old) (users_of new) (flags_of old) (flags_of new)
  pub first :
      (s : ProgramSources) → AreSourcesOf old s
      → IsFirstFree s (tokens_in old) (flags_of new) old.order.items (option_map found_in r)
