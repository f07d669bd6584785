-- Budgets and free prices of packages, and the meaning of packages that show the same under free prices.
use Rattle.std.specs.Prelude.{◌≡◌, ℕ, ◌+◌, ◌*◌, ◌≤◌, Bool, List, ◌++◌, length}
use Rattle.go_kernel.specs.Kernel.{ImportPath, FuncName, Covers}
use Rattle.go_kernel.proofs.Growth.{shows_grow, free_shows_more, free_shows_less}
use Rattle.go_kernel.proofs.SameShows.{both_ways}
use Rattle.go_translation.specs.Packages.{Package, codes_of, program_of, initial_of, main_of, shown_by, freely_shown_by}
use Rattle.go_translation.specs.SameMeaning.{Packages, WellTyped, with_further, HasMain, SameMeaning}

module _ {S : Type 0} where
  pub budgets_grow : (ps : List (Package S)) (main : ImportPath) (choices : List ℕ) (n m : ℕ) → n ≤ m → Covers (shown_by ps main choices n) (shown_by ps main choices m)
  budgets_grow ps main choices n m l = shows_grow (program_of (codes_of ps)) (initial_of (codes_of ps)) (main_of main) choices n m l

  pub freely_more : (ps : List (Package S)) (free : FuncName → Bool) (A : ℕ) (main : ImportPath) (choices : List ℕ) (n : ℕ) → Covers (shown_by ps main choices n) (freely_shown_by ps free A main choices n)
  freely_more ps free A main choices n = free_shows_more (program_of (codes_of ps)) free A (initial_of (codes_of ps)) (main_of main) choices n

  pub freely_less : (ps : List (Package S)) (free : FuncName → Bool) (A : ℕ) (main : ImportPath) (choices : List ℕ) (n : ℕ) → Covers (freely_shown_by ps free A main choices n) (shown_by ps main choices ((A + 1) * (n + 1)))
  freely_less ps free A main choices n = free_shows_less (program_of (codes_of ps)) free A (initial_of (codes_of ps)) (main_of main) choices n

  both : (free : FuncName → Bool) (A : ℕ) (ps ps' : List (Package S)) (main : ImportPath) (choices : List ℕ) (n : ℕ) → freely_shown_by ps free A main choices n ≡ freely_shown_by ps' free A main choices n
      → Covers (shown_by ps main choices n) (shown_by ps' main choices ((A + 1) * (n + 1))) × Covers (shown_by ps' main choices n) (shown_by ps main choices ((A + 1) * (n + 1)))
  both free A ps ps' main choices n e = both_ways free A (main_of main) choices n (program_of (codes_of ps)) (program_of (codes_of ps')) (initial_of (codes_of ps)) (initial_of (codes_of ps')) e

  pub freely_alike : (P P' : Packages S) (free : FuncName → Bool) → ((Q : List (Package S)) → WellTyped (with_further P Q) → WellTyped (with_further P' Q))
      → ((Q : List (Package S)) → WellTyped (with_further P Q) → (main : ImportPath) → HasMain main (with_further P Q) → (choices : List ℕ) (n : ℕ) → freely_shown_by (P.members ++ Q) free (length P.marked) main choices n ≡ freely_shown_by (P'.members ++ Q) free (length P.marked) main choices n)
      → SameMeaning P P'
  freely_alike P P' free t e =
      record {
        typed = t;
        covered = λ Q w main m choices n. (both free (length P.marked) (P.members ++ Q) (P'.members ++ Q) main choices n (e Q w main m choices n)).0;
        covers = λ Q w main m choices n. (both free (length P.marked) (P.members ++ Q) (P'.members ++ Q) main choices n (e Q w main m choices n)).1;
      }
