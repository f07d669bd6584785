-- Steps after which packages show the same under free prices, beside all further packages, and runs of such steps (Go
-- specification, Packages; Program execution).
use Rattle.std.specs.Prelude.{◌≡◌, ◌<◌, ◌≤◌, ℕ, Bool, true, IsTrue, List, ◌++◌}
use Rattle.go_kernel.specs.Kernel.{ImportPath, FuncName}
use Rattle.go_translation.specs.Packages.{Package, are_well_typed, freely_shown_by, codes_of, program_of}
use Rattle.meaning_in_place.specs.InPackages.{EachBelow, PackagesStand}

module _ {S : Type 0} (free : FuncName → Bool) (A : ℕ) where
  -- Beside all further packages with which the first are well typed the second are, and show the same under free
  -- prices, where chains of A calls of free functions cost nothing.
  pub record ShowTheSame (ps qs : List (Package S)) : Type 0 where
    pub typed : (Q : List (Package S)) → IsTrue (are_well_typed (ps ++ Q)) → IsTrue (are_well_typed (qs ++ Q))
    pub shows :
        (Q : List (Package S)) → IsTrue (are_well_typed (ps ++ Q)) →
        (main : ImportPath) (choices : List ℕ) (n : ℕ) →
        freely_shown_by (ps ++ Q) free A main choices n ≡ freely_shown_by (qs ++ Q) free A main choices n

  -- any number of such steps, one after the other
  pub data ShowingRun : List (Package S) → List (Package S) → Type 0 where
    no_step : {ps : List (Package S)} → ShowingRun ps ps
    a_step : {ps qs rs : List (Package S)} → ShowTheSame ps qs → ShowingRun qs rs → ShowingRun ps rs

  -- Packages in whose bodies parts stand for others, beside these further packages: each function has a rank, by which
  -- it calls free functions of lower rank alone.
  pub record StandBeside (ps qs Q : List (Package S)) : Type 0 where
    pub rank : FuncName → ℕ
    pub bounded : (f : FuncName) → rank f ≤ A
    pub below : (f : FuncName) → free f ≡ true → rank f < A
    pub each : EachBelow (program_of (codes_of (ps ++ Q))) free rank
    pub parts : PackagesStand free A rank (ps ++ Q) (qs ++ Q)
