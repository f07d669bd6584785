-- The laws of searches over packages. Each is the contract of a function of this crate (Go specification, Constant
-- declarations; Packages; golang.org/x/tools, internal/refactor/inline, for what a run takes).
use Rattle.std.specs.Prelude.{◌≡◌, ℕ, Bool, List, Option, Some, None, slice_get}
use Rattle.go_scan.specs.TokenLists.{TokenLists}
use Rattle.pkg_graph.specs.declared.packages.Package.{Package}
use Rattle.run_rules.specs.Programs.{dependency_order}
use Rattle.run_rules.specs.Sites.{MarkRef, Where}
use Rattle.run_rules.specs.Run.{Standing}
use Rattle.run_rules.specs.Steps.{At}
use Rattle.stepped_programs.specs.declared.package_search.looks.FileLook.{FileLook}
use Rattle.stepped_programs.specs.declared.package_search.looks.ProgramSources.{ProgramSources}
use Rattle.stepped_programs.specs.declared.package_search.search.FoundInPackage.{FoundInPackage}
use Rattle.stepped_programs.specs.PackageSearch.Search.{LookAt}
use Rattle.stepped_programs.specs.SearchedSites.Searched.{AreSearched, sites_in_file, files_in_order, FilesSearched}
use Rattle.stepped_programs.specs.SearchedSites.Told.{IsFile}
use Rattle.repeated_parts.specs.declared.use_search.search.FoundForm.{FoundForm}
use Rattle.stepped_programs.specs.SearchedSites.OrderedSearches.Held.{IsThere, IsHeld, Users, KeepUsers, AreAllSettled}
use Rattle.stepped_programs.specs.SearchedSites.OrderedSearches.Search.{ComeSettled, IsFirstFree}
use Rattle.stepped_programs.specs.SearchedSites.OrderedSearches.Found.{IsStepFound}

-- A look at a file of a program that the code has tells of it what searches ask, and finds its sites.
pub record LooksRight (marks : List MarkRef) (st : Standing) (s : ProgramSources) (w : Where At) (home : Package)
    (tokens : List TokenLists) (l : FileLook) (a : LookAt s w.number home tokens w.file_number l) : Type 0 where
  pub is_file : IsFile marks st w a.look.view
  pub searched : AreSearched marks st (sites_in_file marks st w) l.kept.items l.free

-- So does each.
abbrev pub LooksFindSites : Type 0
LooksFindSites =
    (marks : List MarkRef) (st : Standing) (s : ProgramSources) (tokens : ℕ → List TokenLists) (w : Where At)
    (home : Package) (l : FileLook) → IsHeld marks st s tokens → IsThere st.packages w
    → slice_get s.packages.now w.number ≡ Some home
    → (a : LookAt s w.number home (tokens w.number) w.file_number l)
    → LooksRight marks st s w home (tokens w.number) l a

-- Files that come to those that are settled by searches are settled, as long as who is known to use a constant stays
-- so.
abbrev pub SearchesSettleFiles : Type 0
SearchesSettleFiles =
    (marks : List MarkRef) (st : Standing) (s : ProgramSources) (tokens : ℕ → List TokenLists) (were users : Users)
    (old new : ℕ → List Bool) → IsHeld marks st s tokens → KeepUsers were users → AreAllSettled marks st were old
    → ComeSettled s tokens users old new → AreAllSettled marks st users new

-- The first free use in dependency order is the one that the run takes; where all files are settled, there is none.
abbrev pub SearchesFindSteps : Type 0
SearchesFindSteps =
    (marks : List MarkRef) (st : Standing) (s : ProgramSources) (tokens : ℕ → List TokenLists) (users : Users)
    (flags : ℕ → List Bool) (order : List ℕ) (r : Option (ℕ × FoundInPackage)) → IsHeld marks st s tokens
    → AreAllSettled marks st users flags → order ≡ dependency_order st.packages → IsFirstFree s tokens flags order r
    → IsStepFound marks st s r

-- the form that is found
abbrev pub form_in : Option (ℕ × FoundInPackage) → Option FoundForm
form_in None = None
form_in (Some q) = Some q.1.found

-- So the files of the program are searched, as searched_sites has it.
abbrev pub FilesAreSearched : Type 0
FilesAreSearched =
    (marks : List MarkRef) (st : Standing) (s : ProgramSources) (tokens : ℕ → List TokenLists) (users : Users)
    (flags : ℕ → List Bool) (order : List ℕ) (r : Option (ℕ × FoundInPackage)) → IsHeld marks st s tokens
    → AreAllSettled marks st users flags → order ≡ dependency_order st.packages → IsFirstFree s tokens flags order r
    → FilesSearched marks st (files_in_order st.packages) (form_in r)
