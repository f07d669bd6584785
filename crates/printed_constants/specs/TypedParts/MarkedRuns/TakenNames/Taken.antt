-- Steps of a run over constants that are declared as names, with the imports that their forms need, at the place that
-- the use has once these are added (Go specification, Constant declarations; Qualified identifiers; Import
-- declarations).
use Rattle.std.specs.Prelude.{◌≡◌, List}
use Rattle.go_kernel.specs.Kernel.{FuncName}
use Rattle.go_translation.specs.Packages.{Package}
use Rattle.go_translation.specs.SameMeaning.{WellTyped, with_further}
use Rattle.run_rules.specs.Surroundings.{Place}
use Rattle.run_rules.specs.Sites.{MarkRef, Site}
use Rattle.run_rules.specs.FormTrees.{as_expr}
use Rattle.run_rules.specs.Steps.{At, Found, same_here}
use Rattle.run_rules.specs.Run.{Standing, Logged, Next, Run, ends, goes_on, is_commented}
use Rattle.order_runs.specs.CycleRuns.ImportCycles.ImportSteps.{packages_added, where_added}
use Rattle.order_runs.specs.CycleRuns.OrderCycles.Steps.{KeepsImportLookUps}
use Rattle.constant_steps.specs.QualifiedSteps.NamedUse.{NamedUse, NamedUseStands}
use Rattle.order_runs.specs.RunSteps.RunPackages.{members_of, packages_of}
use Rattle.order_runs.specs.ImportCodes.PackagesMoved.{ImportsStand}
use Rattle.order_runs.specs.ImportSteps.ImportingSteps.{MayBeDeclared}
use Rattle.printed_constants.specs.TypedParts.MarkedRuns.SettledConstants.Programs.{IsOverConstant, PutsOtherName}

-- the use with the imports of its form added to its file, at a place there: what names mean at a place is told with it
abbrev pub site_there : Found At → Place At → Site At
site_there f p = record f.site { at = where_added f; place = p }

-- With the imports of the form added, the use stands at this place. It is a name of a constant that is declared as
-- another's name, and becomes that name, for which the file has all imports then. These have new names, and each name
-- that is looked up is last that of the same import, or of none; the imports of the packages are right at last.
pub record TakesName {marks : List MarkRef} {st : Standing} {l : Logged} {after : Standing} (n : Next marks st l after)
    : Type 0 where
  pub place : Place At
  pub use_ : NamedUse same_here (is_commented st) (packages_added st.packages n.found) marks (site_there n.found place)
  pub stands :
      NamedUseStands same_here (is_commented st) (packages_added st.packages n.found) marks
      (site_there n.found place) use_
  pub form : n.found.form ≡ as_expr use_.new
  pub names : KeepsImportLookUps n
  pub file_sound : MayBeDeclared (packages_added st.packages n.found) (site_there n.found place).at
  pub home_sound : MayBeDeclared (packages_added st.packages n.found) use_.home
  pub imports :
      (marked : List FuncName) (Q : List (Package At)) → WellTyped (with_further (packages_of st.packages marked) Q)
      → ImportsStand Q (members_of after.packages)

-- so does each step of a run
abbrev pub EachTakes : {marks : List MarkRef} {st last : Standing} {log : List Logged} → Run marks st log last → Type 0
EachTakes (ends st over) = Unit {0}
EachTakes (goes_on st next last l log n run) = TakesName n × EachTakes run

-- Each step of a run is over a constant that is declared as a name, puts another name of it, and takes that name.
abbrev pub AllTake : {marks : List MarkRef} {st last : Standing} {log : List Logged} → Run marks st log last → Type 0
AllTake (ends st over) = Unit {0}
AllTake (goes_on st next last l log n run) = IsOverConstant n × (PutsOtherName n × (TakesName n × AllTake run))
