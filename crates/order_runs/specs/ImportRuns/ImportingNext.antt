-- Steps of a run over constants that are declared as names, with the imports that their forms need (Go specification,
-- Constant declarations; Qualified identifiers; Import declarations; Program initialization).
use Rattle.std.specs.Prelude.{◌≡◌, List}
use Rattle.go_kernel.specs.Kernel.{FuncName}
use Rattle.go_translation.specs.Packages.{Package}
use Rattle.go_translation.specs.SameMeaning.{WellTyped, with_further}
use Rattle.run_rules.specs.Programs.{dependency_order}
use Rattle.run_rules.specs.Sites.{MarkRef}
use Rattle.run_rules.specs.FormTrees.{as_expr}
use Rattle.run_rules.specs.Steps.{At, same_here}
use Rattle.run_rules.specs.Run.{Standing, Logged, Next, is_commented}
use Rattle.order_runs.specs.CycleRuns.ImportCycles.ImportSteps.{packages_added}
use Rattle.order_runs.specs.CycleRuns.OrderCycles.Steps.{site_added, KeepsImportLookUps}
use Rattle.constant_steps.specs.QualifiedSteps.NamedUse.{NamedUse, NamedUseStands}
use Rattle.order_runs.specs.RunSteps.RunPackages.{members_of, packages_of}
use Rattle.order_runs.specs.ImportCodes.PackagesMoved.{ImportsStand}
use Rattle.order_runs.specs.ImportSteps.ImportingSteps.{MayBeDeclared}

-- The use is a name of a constant that is declared as another's name, and becomes that name, for which the file has all
-- imports once those of the form are added. These have new names, and each name that is looked up is last that of the
-- same import, or of none; the imports of the packages are right at last.
pub record IsImporting {marks : List MarkRef} {st : Standing} {l : Logged} {after : Standing} (n : Next marks st l after)
    : Type 0 where
  pub use_ : NamedUse same_here (is_commented st) (packages_added st.packages n.found) marks (site_added n.found)
  pub stands :
      NamedUseStands same_here (is_commented st) (packages_added st.packages n.found) marks (site_added n.found) use_
  pub form : n.found.form ≡ as_expr use_.new
  pub names : KeepsImportLookUps n
  pub file_sound : MayBeDeclared (packages_added st.packages n.found) (site_added n.found).at
  pub home_sound : MayBeDeclared (packages_added st.packages n.found) use_.home
  pub imports :
      (marked : List FuncName) (Q : List (Package At)) → WellTyped (with_further (packages_of st.packages marked) Q)
      → ImportsStand Q (members_of after.packages)

-- The packages stand in the same dependency order, with the imports added and after the step.
pub record KeepsOrder {marks : List MarkRef} {st : Standing} {l : Logged} {after : Standing} (n : Next marks st l after)
    : Type 0 where
  pub order_added : dependency_order (packages_added st.packages n.found) ≡ dependency_order st.packages
  pub order_after : dependency_order after.packages ≡ dependency_order (packages_added st.packages n.found)
