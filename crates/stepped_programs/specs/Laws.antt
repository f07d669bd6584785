-- The laws of programs after steps. Each is the contract of a function of this crate (Go specification, Packages;
-- Source file organization; Constant declarations; Declarations and scope; Qualified identifiers).
use Rattle.std.specs.Prelude.{◌≡◌, ℕ, ◌+◌, ◌<◌, ◌≤◌, ◌^◌, Bool, true, is_some, List, map}
use Rattle.std.specs.Prelude.{length, Option, Some, slice_get}
use Rattle.go_tree.specs.Tree.{NameAt, Expr}
use Rattle.go_tree.specs.File.{Decl}
use Rattle.go_tree.specs.FileView.{file_of}
use Rattle.go_tree.specs.declared.limits.TheConstants.{MAX_FILE_BYTES}
use Rattle.go_tree.specs.declared.spans.Span.{Span}
use Rattle.pkg_graph.specs.Members.{package_block}
use Rattle.pkg_graph.specs.Reads.{Source}
use Rattle.pkg_graph.specs.Views.{package_view}
use Rattle.constant_steps.specs.PlaceMeanings.Parts.{AllScoped}
use Rattle.member_uses.specs.PossibleUses.Among.{Keyed}
use Rattle.member_uses.specs.PossibleUses.Parts.{parts_of}
use Rattle.constant_forms.specs.Views.{name_expr}
use Rattle.order_runs.specs.CycleRuns.Linked.{Linked}
use Rattle.constant_modules.specs.KeyedImports.Steps.{IsOverNameKeyed}
use Rattle.repeated_parts.specs.UseSearch.MarkValues.Tables.{DeclKey, same_key}
use Rattle.step_files.specs.declared.file.NewFile.{NewFile}
use Rattle.step_files.specs.Files.{text_of}
use Rattle.stepped_programs.specs.declared.package_search.looks.ProgramSources.{ProgramSources}
use Rattle.stepped_programs.specs.declared.package_search.search.FoundInPackage.{FoundInPackage}
use Rattle.programs.specs.PartOrigins.Laws.{decls_origins}
use Rattle.programs.specs.PartOrigins.Spans.{part_spans}
use Rattle.programs.specs.Programs.{IsProgramOf}
use Rattle.programs.specs.TextsOfPackages.Given.{kept_at}
use Rattle.programs.specs.Users.{is_user}
use Rattle.programs.specs.declared.state.Program.{Program}
use Rattle.run_by_steps.specs.NextPrograms.Made.{NextWith}
use Rattle.run_by_steps.specs.RunProgress.Laws.{are_paths_apart}
use Rattle.splice_laws.specs.RunLaws.Reading.{ProgramReads}
use Rattle.run_rules.specs.FormTrees.{as_expr}
use Rattle.run_rules.specs.Programs.{decl_seen}
use Rattle.run_rules.specs.Respanned.{decl_with, file_with, packages_with}
use Rattle.run_rules.specs.Run.{Standing, Logged, Next, here_of, origin_of}
use Rattle.run_rules.specs.Sites.{MarkRef, Where, an_expr, a_constant, inlinable, part_span}
use Rattle.run_rules.specs.Steps.{At}
use Rattle.run_rules.specs.Texts.{FileText}
use Rattle.stepped_programs.specs.SearchedSites.FoundSteps.Laws.{step_of}
use Rattle.stepped_programs.specs.SearchedSites.OrderedSearches.Found.{IsFoundFirst}
use Rattle.stepped_programs.specs.SearchedSites.OrderedSearches.Held.{IsThere, AreAllSettled, flag_of}
use Rattle.stepped_programs.specs.SearchedSites.SettledFiles.Left.{MayStaySet}
use Rattle.stepped_programs.specs.SteppedValues.Filled.{IsFilledAnew}
use Rattle.stepped_programs.specs.SteppedValues.Flags.{IsKeptProgram}
use Rattle.stepped_programs.specs.declared.place.StepPlace.{StepPlace}
use Rattle.stepped_programs.specs.SwappedOrigins.{swapped}
use Rattle.stepped_programs.specs.Steps.{key_at, AreSwapped, MayBePut, IsStepPut}

-- The place is that of the step's declaration.
pub record IsPlaceOf {marks : List MarkRef} {st : Standing} {l : Logged} {after : Standing} (n : Next marks st l after)
    (at : StepPlace) : Type 0 where
  pub home : at.home ≡ n.found.site.at.number
  pub file : at.file ≡ n.found.site.at.file_number
  pub decl : at.decl ≡ n.found.site.decl

-- The file is that which the step makes, no larger than a file may be; the names are those of its package's block, and
-- the origins those of its declaration.
pub record IsOfStep {marks : List MarkRef} {st : Standing} {l : Logged} {after : Standing} (n : Next marks st l after)
    (at : StepPlace) (os : List Span) (block : List (List ℕ)) (f : NewFile) : Type 0 where
  pub place : IsPlaceOf n at
  pub text_is : n.new ≡ text_of f
  pub tree_is : file_of f.tree ≡ file_with here_of n.tree
  pub small : length f.text ≤ MAX_FILE_BYTES
  pub block_is : block ≡ map (λ m. m.0) (package_block 0 n.found.site.at.of)
  pub origins_are : slice_get (decls_origins n.tree.decls) at.decl ≡ Some os

-- After a step all that is kept is that of the next program, in which the same declarations are marked. No two texts
-- have one path.
abbrev pub StepsKeepPrograms : Type 0
StepsKeepPrograms =
    (files : List Source) (marks : List MarkRef) (st : Standing) (l : Logged) (after : Standing)
    (n : Next marks st l after) (at : StepPlace) (os : List Span) (block : List (List ℕ)) (f : NewFile)
    (old new : Program) → IsProgramOf files marks st old → are_paths_apart st.texts ≡ true → IsOfStep n at os block f
    → IsStepPut at os block f old new → IsProgramOf files marks after new

-- The table has what the constants of the step's file are declared as among the packages after the step, and of other
-- files what it had.
abbrev pub StepsFillValues : Type 0
StepsFillValues =
    (files : List Source) (marks : List MarkRef) (st : Standing) (l : Logged) (after : Standing)
    (n : Next marks st l after) (at : StepPlace) (os : List Span) (block : List (List ℕ)) (f : NewFile)
    (old new : Program) → IsProgramOf files marks st old → IsOfStep n at os block f → IsStepPut at os block f old new
    → (map package_view new.packages.items ≡ packages_with here_of after.packages)
    × IsFilledAnew new.packages.items n.found old.values new.values

-- ---- files that stay settled

-- the flags of a program's files, by the numbers of packages
abbrev pub flags_of : Program → ℕ → List Bool
flags_of p k = kept_at (λ f. f.settled.items) p.files.items k

-- the files that use the constants of a declaration
abbrev pub users_of : Program → DeclKey → ℕ → ℕ → Bool
users_of p d k i = is_user p.users d (k, i)

-- Flags that are set after a step may stay set, where nothing but the declaration of the step is told anew.
abbrev pub StepsLeaveFlags : Type 0
StepsLeaveFlags =
    (marks : List MarkRef) (st : Standing) (l : Logged) (after : Standing) (n : Next marks st l after) (at : StepPlace)
    (os : List Span) (block : List (List ℕ)) (f : NewFile) (old new : Program) → IsPlaceOf n at
    → IsStepPut at os block f old new → (w : Where At) → IsThere st.packages w → flag_of (flags_of new) w ≡ true
    → MayStaySet n.found (same_key (key_at at)) (users_of old) (flags_of old) w

-- So files that are settled are so after a step over a name, but that of the step and those that use a constant of the
-- declaration of the use.
abbrev pub StepsKeepSettled : Type 0
StepsKeepSettled =
    (files : List Source) (marks : List MarkRef) (st : Standing) (l : Logged) (after : Standing)
    (n : Next marks st l after) (at : StepPlace) (os : List Span) (block : List (List ℕ)) (f : NewFile)
    (old new : Program) (s t : ProgramSources) → IsKeptProgram files marks st old s
    → IsKeptProgram files marks after new t → IsOverNameKeyed n → IsOfStep n at os block f → IsStepPut at os block f old new
    → AreAllSettled marks st (users_of old) (flags_of old) → AreAllSettled marks after (users_of new) (flags_of new)

-- ---- origins

-- The use is an expression in a declaration as typing asks and uses a constant; it becomes this name, behind that of a
-- package or not. A dot may stand behind it.
pub record PutsName {marks : List MarkRef} {st : Standing} {l : Logged} {after : Standing} (n : Next marks st l after)
    (d : Decl At) (q : Option (List ℕ)) : Type 0 where
  pub old : Expr At
  pub part : n.found.site.part ≡ an_expr old
  pub name : NameAt At
  pub value : Expr At
  pub declared : inlinable st.packages n.found.site.mark ≡ Some (a_constant name value)
  pub decl_is : slice_get n.found.site.at.source.tree.decls n.found.site.decl ≡ Some d
  pub scoped :
      AllScoped (decl_seen st.packages n.found.site.at.number n.found.site.at.of n.found.site.at.source.tree d)
  pub keyed : Keyed (decl_seen st.packages n.found.site.at.number n.found.site.at.of n.found.site.at.source.tree d)
  pub word : List ℕ
  pub form_is : n.found.form ≡ as_expr (name_expr (part_span n.found.site.part) q word)

-- So the parts of the declaration come from where they did, but that those of the new name come from the use.
abbrev pub OriginsAreSwapped : Type 0
OriginsAreSwapped =
    (marks : List MarkRef) (st : Standing) (l : Logged) (after : Standing) (n : Next marks st l after) (d : Decl At)
    (q : Option (List ℕ)) → ProgramReads st → PutsName n d q
    → slice_get (decls_origins n.tree.decls) n.found.site.decl
    ≡ Some
    (swapped (is_some q) (here_of (part_span n.found.site.part)) (parts_of (decl_with here_of d))
    (map origin_of (part_spans d)))

-- So what `step_origins` answers of the declaration is what the step makes of its origins.
abbrev pub OriginsAreOfSteps : Type 0
OriginsAreOfSteps =
    (files : List Source) (marks : List MarkRef) (st : Standing) (l : Logged) (after : Standing)
    (n : Next marks st l after) (at : StepPlace) (d : Decl At) (q : Option (List ℕ)) (p : Program) (os : List Span)
    → IsProgramOf files marks st p → IsPlaceOf n at → PutsName n d q
    → AreSwapped p at (is_some q) (here_of (part_span n.found.site.part)) os
    → slice_get (decls_origins n.tree.decls) at.decl ≡ Some os

-- ---- the use that a search finds

-- where it stands
abbrev pub place_of : ℕ → FoundInPackage → StepPlace
place_of k r = record { home = k; file = r.file; decl = r.found.use_.decl }

-- What `put_step` is told of the first use that is found is what the step makes: the file with which the next program
-- was reached, the names of the search's tables, and the origins that `step_origins` answers.
abbrev pub FoundUsesArePut : Type 0
FoundUsesArePut =
    (files : List Source) (marks : List MarkRef) (st : Standing) (s : ProgramSources) (k : ℕ) (r : FoundInPackage)
    (a : IsFoundFirst marks st s k r) (old : FileText) (f : NewFile)
    (m : NextWith marks st (step_of a) old (text_of f) (file_of f.tree)) (p : Program) (os : List Span) (e : Expr At)
    → IsProgramOf files marks st p → a.site.part ≡ an_expr e → length f.text ≤ MAX_FILE_BYTES
    → AreSwapped p (place_of k r) (is_some r.found.form.«package») r.found.form.span os
    → IsOfStep m.next (place_of k r) os r.tables.names.«package» f

-- ---- what is asked of calls

-- A step's file may be put into a program, if its packages are linked after the step.
abbrev pub StepsMayBePut : Type 0
StepsMayBePut =
    (files : List Source) (marks : List MarkRef) (st : Standing) (l : Logged) (after : Standing)
    (n : Next marks st l after) (at : StepPlace) (f : NewFile) (p : Program) → IsProgramOf files marks st p
    → IsPlaceOf n at → file_of f.tree ≡ file_with here_of n.tree → Linked after.packages
    → p.bytes + length f.text < 2 ^ 32 → MayBePut p at f
