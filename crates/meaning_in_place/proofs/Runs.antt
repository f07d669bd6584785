-- Steps after which packages show the same, and runs of them.
use Rattle.std.specs.Prelude.{refl, ℕ, Bool, IsTrue, List, ◌++◌, length}
use mathlib.Core.Path.{◌∙◌}
use Rattle.go_kernel.specs.Kernel.{FuncName}
use Rattle.go_translation.specs.Packages.{Package, are_well_typed}
use Rattle.go_translation.specs.SameMeaning.{SameMeaning}
use Rattle.go_translation.proofs.PackageBudgets.{freely_alike}
use Rattle.meaning_in_place.specs.Runs.{ShowTheSame, ShowingRun, no_step, a_step, StandBeside}
use Rattle.meaning_in_place.proofs.Packages.{packages_same}

module _ {S : Type 0} (free : FuncName → Bool) (A : ℕ) where
  pub step_same : (ps qs : List (Package S)) → ((Q : List (Package S)) → IsTrue (are_well_typed (ps ++ Q)) → IsTrue (are_well_typed (qs ++ Q))) → ((Q : List (Package S)) → IsTrue (are_well_typed (ps ++ Q)) → StandBeside free A ps qs Q) → ShowTheSame free A ps qs
  step_same ps qs t s =
      record {
        typed = t;
        shows = λ Q y main choices n. let b : StandBeside free A ps qs Q = s Q y in packages_same free A b.rank b.bounded b.below (ps ++ Q) (qs ++ Q) b.each b.parts main choices n;
      }

  -- a run is a step
  pub run_same : {ps qs : List (Package S)} → ShowingRun free A ps qs → ShowTheSame free A ps qs
  run_same no_step = record { typed = λ Q y. y; shows = λ Q y main choices n. refl }
  run_same (a_step x r) =
      let z = run_same r in
      record {
        typed = λ Q y. z.typed Q (x.typed Q y);
        shows = λ Q y main choices n. x.shows Q y main choices n ∙ z.shows Q (x.typed Q y) main choices n;
      }

pub run_means : {S : Type 0} (free : FuncName → Bool) (marked : List FuncName) (ps qs : List (Package S)) → ShowingRun free (length marked) ps qs → SameMeaning (record { members = ps; marked = marked }) (record { members = qs; marked = marked })
run_means free marked ps qs r =
    let z = run_same free (length marked) r in
    freely_alike (record { members = ps; marked = marked }) (record { members = qs; marked = marked }) free z.typed (λ Q y main h choices n. z.shows Q y main choices n)
