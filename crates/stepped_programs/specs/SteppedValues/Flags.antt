-- Files that are settled, of a program that is kept, after a step (Go specification, Packages; Source file
-- organization; Constant declarations; Declarations and scope).
use Rattle.std.specs.Prelude.{◌≡◌, ℕ, Bool, true, false, List, []}
use Rattle.go_translation.specs.SameMeaning.{WellTyped}
use Rattle.order_runs.specs.RunSteps.RunPackages.{packages_of}
use Rattle.pkg_graph.specs.Reads.{Source}
use Rattle.run_rules.specs.Run.{Standing, Logged, Next}
use Rattle.run_rules.specs.Sites.{MarkRef, Where}
use Rattle.run_rules.specs.Steps.{At}
use Rattle.repeated_parts.specs.UseSearch.MarkValues.Tables.{DeclKey, same_key, values_at}
use Rattle.constant_modules.specs.KeyedImports.Steps.{IsOverNameKeyed}
use Rattle.printed_constants.specs.TypedParts.MarkedRuns.NamedMarks.Named.{AllNamed}
use Rattle.printed_constants.specs.TypedParts.MarkedRuns.SettledConstants.Programs.{IsReady}
use Rattle.stepped_programs.specs.declared.package_search.looks.ProgramSources.{ProgramSources}
use Rattle.programs.specs.declared.state.Program.{Program}
use Rattle.programs.specs.Programs.{IsProgramOf}
use Rattle.stepped_programs.specs.SearchedSites.Fields.{TellsFields}
use Rattle.stepped_programs.specs.SearchedSites.OrderedSearches.Held.{IsThere, IsSearchable, Users, flag_of}
use Rattle.stepped_programs.specs.SearchedSites.OrderedSearches.Held.{AreAllSettled}
use Rattle.stepped_programs.specs.SearchedSites.SettledFiles.Left.{KeepOthers, MayStaySet}
use Rattle.stepped_programs.specs.SteppedValues.OfSteps.{is_of_step, decl_of_step}
use Rattle.stepped_programs.specs.SteppedValues.Held.{AreSourcesOf}

-- All that is kept is that of this program, and searches look at it. The program is ready and well typed, its marks are
-- those of constants that are declared as names, the table of its types tells which keys of composite literals name
-- fields, and each of its files may be searched.
pub record IsKeptProgram (files : List Source) (marks : List MarkRef) (st : Standing) (p : Program) (s : ProgramSources)
    : Type 0 where
  pub is_program : IsProgramOf files marks st p
  pub sources : AreSourcesOf p s
  pub ready : IsReady st
  pub typed : WellTyped (packages_of st.packages [])
  pub named : AllNamed st.packages marks
  pub fields : TellsFields st.packages p.types
  pub searchable : (w : Where At) → IsThere st.packages w → IsSearchable marks st w

-- Where two such programs are those before a step and after it, and have the same types and the same values of other
-- files, files that are
-- settled before it are so after it, but that of the step and those that use a constant of the declaration of the use.
abbrev pub SettledFlagsStay : Type 0
SettledFlagsStay =
    (files : List Source) (marks : List MarkRef) (st : Standing) (l : Logged) (after : Standing)
    (n : Next marks st l after) (p q : Program) (s t : ProgramSources) (were users : Users) (old new : ℕ → List Bool)
    → IsKeptProgram files marks st p s → IsKeptProgram files marks after q t → q.types ≡ p.types → IsOverNameKeyed n
    → ((k : DeclKey) → is_of_step n.found k ≡ false → values_at k q.values ≡ values_at k p.values)
    → KeepOthers (same_key (decl_of_step n.found)) were users → AreAllSettled marks st were old
    → ((w : Where At) → IsThere st.packages w → flag_of new w ≡ true
    → MayStaySet n.found (same_key (decl_of_step n.found)) were old w)
    → AreAllSettled marks after users new
