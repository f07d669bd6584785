-- Packages in another order (Go specification, Packages; Program initialization; Program execution).
use Rattle.std.specs.Prelude.{◌≡◌, false, List, [], ◌∷◌, nat_eq}
use Rattle.go_kernel.specs.Kernel.{same_text}
use Rattle.go_translation.specs.Packages.{Package}

-- Neighbours with different numbers and import paths change places, any number of times.
pub data PackagesReordered {S : Type 0} : List (Package S) → List (Package S) → Type 0 where
  no_packages : PackagesReordered [] []
  same_first : (p : Package S) {ps qs : List (Package S)} → PackagesReordered ps qs → PackagesReordered (p ∷ ps) (p ∷ qs)
  swapped : (p q : Package S) (ps : List (Package S)) → nat_eq p.source.number q.source.number ≡ false
      → same_text p.path q.path ≡ false → PackagesReordered (p ∷ q ∷ ps) (q ∷ p ∷ ps)
  one_after_another : {ps qs rs : List (Package S)} → PackagesReordered ps qs → PackagesReordered qs rs
      → PackagesReordered ps rs
