-- Packages that are alike but for names of constants, also together with any further packages, have the same meaning.
use Rattle.std.specs.Prelude.{◌≡◌, ℕ, ◌+◌, ◌*◌, Bool, false, List, ◌++◌, length}
use mathlib.Core.Path.{ap}
use Rattle.go_kernel.specs.Kernel.{ImportPath, FuncName, Covers, free_shows}
use Rattle.go_kernel.proofs.SameShows.{both_ways}
use Rattle.go_translation.specs.Packages.{Package, codes_of, program_of, initial_of, main_of, shown_by}
use Rattle.go_translation.specs.SameMeaning.{Packages, WellTyped, with_further, SameMeaning}
use Rattle.go_translation.specs.SwappedPackages.{SwappedPackages}
use Rattle.go_translation.proofs.SwappedProgram.{codes-swap}

none_free : FuncName → Bool
none_free f = false

module _ {S : Type 0} where
  both : (A : ℕ) (ps ps' : List (Package S)) → codes_of ps ≡ codes_of ps' → (main : ImportPath) (choices : List ℕ) (n : ℕ)
      → Covers (shown_by ps main choices n) (shown_by ps' main choices ((A + 1) * (n + 1))) × Covers (shown_by ps' main choices n) (shown_by ps main choices ((A + 1) * (n + 1)))
  both A ps ps' e main choices n =
      both_ways none_free A (main_of main) choices n (program_of (codes_of ps)) (program_of (codes_of ps')) (initial_of (codes_of ps)) (initial_of (codes_of ps'))
      (ap (λ cs. free_shows (program_of cs) none_free A (initial_of cs) (main_of main) choices n) e)

  pub swapped_meaning : (P P' : Packages S) → ((Q : List (Package S)) → WellTyped (with_further P Q) → WellTyped (with_further P' Q)) → ((Q : List (Package S)) → WellTyped (with_further P Q) → SwappedPackages (P.members ++ Q) (P'.members ++ Q)) → SameMeaning P P'
  swapped_meaning P P' t f =
      record {
        typed = t;
        covered = λ Q w main m choices n. (both (length P.marked) (P.members ++ Q) (P'.members ++ Q) (codes-swap (P.members ++ Q) (P'.members ++ Q) (f Q w)) main choices n).0;
        covers = λ Q w main m choices n. (both (length P.marked) (P.members ++ Q) (P'.members ++ Q) (codes-swap (P.members ++ Q) (P'.members ++ Q) (f Q w)) main choices n).1;
      }
