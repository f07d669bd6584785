-- Steps of a run over constants that are declared as names, in declarations of any form, at the place that the use has
-- once the imports of its form are added (Go specification, Constant declarations; Qualified identifiers; Composite
-- literals; Function literals; Import declarations).
use Rattle.std.specs.Prelude.{◌≡◌, ℕ, List, []}
use Rattle.go_kernel.specs.Kernel.{FuncName}
use Rattle.go_translation.specs.Packages.{Package, sources}
use Rattle.go_translation.specs.SameMeaning.{WellTyped, with_further}
use Rattle.run_rules.specs.FormTrees.{as_expr}
use Rattle.run_rules.specs.Programs.{linked}
use Rattle.run_rules.specs.Sites.{MarkRef, Site}
use Rattle.run_rules.specs.Steps.{At, Found, same_here}
use Rattle.run_rules.specs.Surroundings.{Place}
use Rattle.run_rules.specs.Run.{Standing, Logged, Next, Run, ends, goes_on, is_commented}
use Rattle.constant_steps.specs.Alone.{PackageAt}
use Rattle.constant_steps.specs.PlainUse.{linked_at}
use Rattle.order_runs.specs.CycleRuns.ImportCycles.ImportSteps.{packages_added, where_added}
use Rattle.order_runs.specs.ImportCodes.PackagesMoved.{ImportsStand}
use Rattle.order_runs.specs.ImportSteps.ImportingSteps.{MayBeDeclared}
use Rattle.order_runs.specs.RunSteps.RunPackages.{members_of, packages_of}
use Rattle.constant_modules.specs.KeyedImports.Steps.{KeepsImportUses}
use Rattle.constant_modules.specs.NamedAnywhere.Use.{NamedUseAnywhere, PartsStand, ConstantUse}

-- the use with the imports of its form added to its file, at a place there: what names mean at a place is told with it
abbrev pub site_there : Found At → Place At → Site At
site_there f p = record f.site { at = where_added f; place = p }

-- What is asked of the name that such a step takes, before its imports are settled: what taken_names asks of the step
-- (`TakesName`), but that the imports are right at last, and that the parts of the declaration of the use, with the
-- imports of the form added to its file, are known in place of simple: beside all further packages with which those
-- before are well typed, wherever the use's package stands among the linked ones.
pub record TakesNameThere {marks : List MarkRef} {st : Standing} {l : Logged} {after : Standing}
    (n : Next marks st l after) : Type 0 where
  pub place : Place At
  pub use_ :
      ConstantUse same_here (is_commented st) (packages_added st.packages n.found) marks (site_there n.found place)
  pub stands :
      NamedUseAnywhere same_here (is_commented st) (packages_added st.packages n.found) marks
      (site_there n.found place) use_
  pub parts :
      (Q : List (Package At)) → WellTyped (with_further (packages_of st.packages []) Q) → (s : At) (k : ℕ)
      → PackageAt (linked_at (packages_added st.packages n.found) (where_added n.found) s) k
      (linked (packages_added st.packages n.found))
      → PartsStand same_here (packages_added st.packages n.found) (site_there n.found place) use_.new stands.decl k
      (linked (packages_added st.packages n.found)) (sources Q)
  pub form : n.found.form ≡ as_expr use_.new
  pub names : KeepsImportUses n
  pub file_sound : MayBeDeclared (packages_added st.packages n.found) (site_there n.found place).at
  pub home_sound : MayBeDeclared (packages_added st.packages n.found) use_.home

-- And the imports are right at last.
pub record TakesNameAnywhere {marks : List MarkRef} {st : Standing} {l : Logged} {after : Standing}
    (n : Next marks st l after) : Type 0 where
  pub there : TakesNameThere n
  pub imports :
      (marked : List FuncName) (Q : List (Package At)) → WellTyped (with_further (packages_of st.packages marked) Q)
      → ImportsStand Q (members_of after.packages)

-- so does each step of a run
abbrev pub EachTakesAnywhere : {marks : List MarkRef} {st last : Standing} {log : List Logged}
    → Run marks st log last → Type 0
EachTakesAnywhere (ends st over) = Unit {0}
EachTakesAnywhere (goes_on st next last l log n run) = TakesNameAnywhere n × EachTakesAnywhere run
