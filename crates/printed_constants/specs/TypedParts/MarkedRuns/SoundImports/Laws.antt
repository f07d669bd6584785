-- The laws of the imports of files around a step. Each is the contract of a function of this crate (Go specification,
-- Import declarations; Declarations and scope).
use Rattle.std.specs.Prelude.{◌≡◌, List, [], Some, slice_get}
use Rattle.go_translation.specs.SameMeaning.{WellTyped}
use Rattle.run_rules.specs.Sites.{MarkRef, Where}
use Rattle.run_rules.specs.Steps.{At}
use Rattle.run_rules.specs.Run.{Standing, Logged, Next}
use Rattle.order_runs.specs.RunSteps.RunPackages.{packages_of}
use Rattle.order_runs.specs.CycleRuns.ImportCycles.ImportSteps.{packages_added, DeclaresAlike}
use Rattle.order_runs.specs.CycleRuns.KeptImports.Files.{IsSettled}
use Rattle.order_runs.specs.ImportSteps.ImportingSteps.{MayBeDeclared}
use Rattle.order_runs.specs.CycleRuns.OrderCycles.Orders.{AllOrdered}
use Rattle.order_runs.specs.CycleRuns.OrderCycles.NewNames.{NamesByPath, AvoidsFew}

-- In well-typed packages that stand in dependency order each import of each file may be declared, also once those are
-- added that a step adds, if the names to avoid are fewer than 2^64.
abbrev pub AddedImportsMayBeDeclared : Type 0
AddedImportsMayBeDeclared =
    (marks : List MarkRef) (st : Standing) (l : Logged) (after : Standing) (n : Next marks st l after)
    → AllOrdered st.packages → NamesByPath st.packages → WellTyped (packages_of st.packages [])
    → AvoidsFew st.packages n.found → (w : Where At)
    → slice_get (packages_added st.packages n.found) w.number ≡ Some w.of
    → slice_get w.of.files w.file_number ≡ Some w.source → MayBeDeclared (packages_added st.packages n.found) w

-- So may each after the step, if its file is settled as its text says, and the declaration of the use declares what it
-- did with the form in the use's place.
abbrev pub SettledImportsMayBeDeclared : Type 0
SettledImportsMayBeDeclared =
    (marks : List MarkRef) (st : Standing) (l : Logged) (after : Standing) (n : Next marks st l after)
    → AllOrdered st.packages → NamesByPath st.packages → WellTyped (packages_of st.packages [])
    → AvoidsFew st.packages n.found → IsSettled n → DeclaresAlike n → (w : Where At)
    → slice_get after.packages w.number ≡ Some w.of → slice_get w.of.files w.file_number ≡ Some w.source
    → MayBeDeclared after.packages w
