-- Packages that keep their kernel program beside all further packages (Go specification, Packages; Program execution).
use Rattle.std.specs.Prelude.{◌≡◌, List, ◌++◌}
use Rattle.go_translation.specs.Packages.{Package, codes_of}
use Rattle.go_translation.specs.SameMeaning.{Packages, WellTyped, with_further}

-- Further packages that type-check with the first ones do so with the second, and make the same kernel program with
-- both.
pub record SameCode {S : Type 0} (P P' : Packages S) : Type 0 where
  pub typed : (Q : List (Package S)) → WellTyped (with_further P Q) → WellTyped (with_further P' Q)
  pub codes :
      (Q : List (Package S)) → WellTyped (with_further P Q) → codes_of (P.members ++ Q) ≡ codes_of (P'.members ++ Q)
