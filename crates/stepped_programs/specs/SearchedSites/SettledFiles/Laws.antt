-- The laws of files that a step leaves as they are. Each is the contract of a function of this crate (Go specification,
-- Blocks; Constant declarations; Declarations and scope).
use Rattle.std.specs.Prelude.{◌≡◌, ℕ, Bool, true, List, Option, Some, None, slice_get}
use Rattle.go_scan.specs.TokenLists.{TokenLists}
use Rattle.pkg_graph.specs.Package.{Package}
use Rattle.pkg_graph.specs.Members.{package_block}
use Rattle.constant_steps.specs.FormImports.ImportLaws.Steps.{names_standing}
use Rattle.repeated_parts.specs.declared.use_search.mark_values.values.DeclaredValue.{DeclaredValue}
use Rattle.repeated_parts.specs.UseSearch.MarkValues.Tables.{Known, DeclKey, same_key, IsPut}
use Rattle.member_uses.specs.Uses.{Names}
use Rattle.member_uses.specs.Laws.{Knows}
use Rattle.module_marks.specs.declared.table.MarkTable.{MarkTable}
use Rattle.module_marks.specs.Tables.{IsTableOf}
use Rattle.stepped_programs.specs.declared.package_search.looks.ProgramSources.{ProgramSources}
use Rattle.splice_laws.specs.RunLaws.Reading.{OnePathEach}
use Rattle.run_rules.specs.Respanned.{file_with, packages_with}
use Rattle.run_rules.specs.Run.{Standing, Logged, Next, here_of}
use Rattle.run_rules.specs.Sites.{MarkRef, Where, Site}
use Rattle.run_rules.specs.Steps.{At}
use Rattle.stepped_programs.specs.SearchedSites.Searched.{AreSearched, sites_in_file}
use Rattle.stepped_programs.specs.SearchedSites.Told.{IsProgram, IsFile}
use Rattle.repeated_parts.specs.declared.use_search.search.FoundObstacle.{FoundObstacle}
use Rattle.repeated_parts.specs.declared.use_search.views.FileView.{FileView}
use Rattle.repeated_parts.specs.declared.use_search.views.ProgramView.{ProgramView}
use Rattle.stepped_programs.specs.SearchedSites.OrderedSearches.Held.{IsThere, IsSearchable, IsHeld, Users, flag_of}
use Rattle.stepped_programs.specs.SearchedSites.OrderedSearches.Held.{AreAllSettled}
use Rattle.stepped_programs.specs.SearchedSites.SettledFiles.Left.{IsLeft, TellTheSame, AreSameBut, TellOthersTheSame}
use Rattle.stepped_programs.specs.SearchedSites.SettledFiles.Left.{UseNoneOf, FoundNoneOf, KeepOthers, MayStaySet}

-- A step leaves the block of each package.
abbrev pub BlocksStay : Type 0
BlocksStay =
    (marks : List MarkRef) (st : Standing) (l : Logged) (after : Standing) (n : Next marks st l after) (k j : ℕ)
    (p q : Package At) → slice_get st.packages k ≡ Some p → slice_get after.packages k ≡ Some q
    → package_block j q ≡ package_block j p

-- So a table of the marks of the packages before the step is one of those after it.
abbrev pub TablesStay : Type 0
TablesStay =
    (marks : List MarkRef) (st : Standing) (l : Logged) (after : Standing) (n : Next marks st l after) (t : MarkTable)
    → IsTableOf (packages_with here_of st.packages) marks t → IsTableOf (packages_with here_of after.packages) marks t

-- In a file that the step leaves, all names mean what they meant.
abbrev pub NamesStay : Type 0
NamesStay =
    (marks : List MarkRef) (st : Standing) (l : Logged) (after : Standing) (n : Next marks st l after) (w v : Where At)
    → IsLeft n.found st.packages after.packages w v
    → (v.source ≡ w.source) × (names_standing after.packages v ≡ names_standing st.packages w)
    × ((f : Names) → Knows here_of (file_with here_of) st.packages w f
    → Knows here_of (file_with here_of) after.packages v f)

-- ---- uses that are kept

-- Where no use in such a file is free, and the same is told of the constants that it uses, none is after the step, and
-- each is kept as it was. The paths of files are apart.
abbrev pub KeptFilesStay : Type 0
KeptFilesStay =
    (marks : List MarkRef) (st : Standing) (l : Logged) (after : Standing) (n : Next marks st l after)
    (p q : ProgramView) (w v : Where At) (view : FileView) (kept : List FoundObstacle) → OnePathEach st.packages
    → IsProgram marks st p → IsProgram marks after q → q.types.now ≡ p.types.now
    → IsLeft n.found st.packages after.packages w v
    → IsSearchable marks after v → IsFile marks st w view → AreSearched marks st (sites_in_file marks st w) kept None
    → TellTheSame p.values.now q.values.now (sites_in_file marks st w)
    → IsFile marks after v view × AreSearched marks after (sites_in_file marks after v) kept None

-- So the flags of such files may stay set, where something else is told of marked constants of some declarations alone.
abbrev pub FlagsMayStay : Type 0
FlagsMayStay =
    (marks : List MarkRef) (st : Standing) (l : Logged) (after : Standing) (n : Next marks st l after)
    (s t : ProgramSources) (tokens more : ℕ → List TokenLists) (changed : DeclKey → Bool) (were users : Users)
    (old new : ℕ → List Bool) → OnePathEach st.packages → IsHeld marks st s tokens → IsHeld marks after t more
    → t.types.now ≡ s.types.now
    → TellOthersTheSame marks changed s.values.now t.values.now → KeepOthers changed were users
    → AreAllSettled marks st were old
    → ((w : Where At) → IsThere st.packages w → flag_of new w ≡ true → MayStaySet n.found changed were old w)
    → AreAllSettled marks after users new

-- Where a table has other constants for some declarations alone, it tells the same of sites that use none of theirs.
abbrev pub OtherValuesStay : Type 0
OtherValuesStay =
    (changed : DeclKey → Bool) (old new : Known) (xs : List (Site At)) → AreSameBut changed old new
    → UseNoneOf changed xs → TellTheSame old new xs

-- And of all marked constants of other declarations.
abbrev pub OtherMarksStay : Type 0
OtherMarksStay =
    (marks : List MarkRef) (changed : DeclKey → Bool) (old new : Known) → AreSameBut changed old new
    → TellOthersTheSame marks changed old new

-- So it is with one declaration that is looked at again.
abbrev pub PutsChangeOne : Type 0
PutsChangeOne =
    (k : DeclKey) (vs : List (Option DeclaredValue)) (old new : Known) → IsPut k vs old new
    → AreSameBut (same_key k) old new

-- Which constants the sites of a file use is told by the uses that a search found, where none is free.
abbrev pub FoundUsesTell : Type 0
FoundUsesTell =
    (marks : List MarkRef) (st : Standing) (changed : DeclKey → Bool) (xs : List (Site At)) (ks : List FoundObstacle)
    → AreSearched marks st xs ks None → FoundNoneOf changed ks → UseNoneOf changed xs
