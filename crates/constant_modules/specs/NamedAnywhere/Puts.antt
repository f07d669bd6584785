-- What is asked of a step over a constant before its imports are settled: the name that it puts, with the imports of
-- its form added to the file of the use (Go specification, Constant declarations; Qualified identifiers; Import
-- declarations).
use Rattle.std.specs.Prelude.{◌≡◌, ℕ, List, []}
use Rattle.go_translation.specs.Packages.{Package, sources}
use Rattle.go_translation.specs.SameMeaning.{WellTyped, with_further}
use Rattle.run_rules.specs.FormTrees.{as_expr}
use Rattle.run_rules.specs.Programs.{linked}
use Rattle.run_rules.specs.Sites.{MarkRef}
use Rattle.run_rules.specs.Steps.{At, same_here}
use Rattle.run_rules.specs.Surroundings.{Place}
use Rattle.run_rules.specs.Run.{Standing, Logged, Next, is_commented}
use Rattle.constant_steps.specs.Alone.{PackageAt}
use Rattle.constant_steps.specs.PlainUse.{linked_at}
use Rattle.order_runs.specs.CycleRuns.ImportCycles.ImportSteps.{AddsNewNames, packages_added, where_added}
use Rattle.order_runs.specs.CycleRuns.OrderCycles.Orders.{AllOrdered}
use Rattle.order_runs.specs.ImportSteps.ImportingSteps.{MayBeDeclared}
use Rattle.order_runs.specs.RunSteps.RunPackages.{packages_of}
use Rattle.constant_modules.specs.NamedAnywhere.Taken.{site_there}
use Rattle.constant_modules.specs.NamedAnywhere.Use.{NamedUseAnywhere, PartsStand, ConstantUse}

-- The imports that the step adds have new names, and no imports lead to a cycle of packages, before and with these
-- added. Of those that go nothing is asked.
pub record AddsImports {marks : List MarkRef} {st : Standing} {l : Logged} {after : Standing}
    (n : Next marks st l after) : Type 0 where
  pub new_names : AddsNewNames st.packages n.found
  pub ordered : AllOrdered st.packages
  pub ordered_added : AllOrdered (packages_added st.packages n.found)

-- What is asked of the name that such a step takes (`TakesNameThere`), but for the imports that go.
pub record PutsNameThere {marks : List MarkRef} {st : Standing} {l : Logged} {after : Standing}
    (n : Next marks st l after) : Type 0 where
  pub place : Place At
  pub use_ :
      ConstantUse same_here (is_commented st) (packages_added st.packages n.found) marks (site_there n.found place)
  pub stands :
      NamedUseAnywhere same_here (is_commented st) (packages_added st.packages n.found) marks
      (site_there n.found place) use_
  pub parts :
      (Q : List (Package At)) → WellTyped (with_further (packages_of st.packages []) Q) → (s : At) (k : ℕ)
      → PackageAt (linked_at (packages_added st.packages n.found) (where_added n.found) s) k
      (linked (packages_added st.packages n.found))
      → PartsStand same_here (packages_added st.packages n.found) (site_there n.found place) use_.new stands.decl k
      (linked (packages_added st.packages n.found)) (sources Q)
  pub form : n.found.form ≡ as_expr use_.new
  pub names : AddsImports n
  pub file_sound : MayBeDeclared (packages_added st.packages n.found) (site_there n.found place).at
  pub home_sound : MayBeDeclared (packages_added st.packages n.found) use_.home
