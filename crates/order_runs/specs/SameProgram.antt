-- Packages that are one program beside all further packages, in whatever order they stand (Go specification, Packages;
-- Program initialization; Program execution).
use Rattle.std.specs.Prelude.{◌≡◌, List, ◌++◌}
use Rattle.go_translation.specs.Packages.{Package, codes_of, program_of, initial_of}
use Rattle.go_translation.specs.SameMeaning.{Packages, WellTyped, with_further}

-- Further packages that type-check with the first ones do so with the second, and both make the same kernel program
-- with them, which sets their variables alike.
pub record SameProgram {S : Type 0} (P P' : Packages S) : Type 0 where
  pub typed : (Q : List (Package S)) → WellTyped (with_further P Q) → WellTyped (with_further P' Q)
  pub program :
      (Q : List (Package S)) → WellTyped (with_further P Q)
      → program_of (codes_of (P.members ++ Q)) ≡ program_of (codes_of (P'.members ++ Q))
  pub initial :
      (Q : List (Package S)) → WellTyped (with_further P Q)
      → initial_of (codes_of (P.members ++ Q)) ≡ initial_of (codes_of (P'.members ++ Q))
