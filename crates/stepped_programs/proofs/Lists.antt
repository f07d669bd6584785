-- Lists with an entry changed.
use Rattle.std.proofs.Common.{◌≡◌, refl, ap, ℕ, zero, suc, Bool, true, false, ◌&&◌, nat_eq, List, [], ◌∷◌, map, length, Some, slice_set}
use Rattle.std.specs.Prelude.{slice_get}
use Rattle.std.proofs.lemmas.Bool.{eqb-true}
use Rattle.std.proofs.lemmas.Option.{same_Some}
use Rattle.run_rules.specs.Steps.{change_nth}

-- the images of a list with an entry changed
pub with_images : {A B : Type 0} (g : A → B) (f : A → A) (h : B → B) → ((x : A) → g (f x) ≡ h (g x)) → (k : ℕ) (xs : List A) → map g (change_nth k f xs) ≡ change_nth k h (map g xs)
with_images {B = B} g f h e k [] = refl
with_images {B = B} g f h e zero (x ∷ xs) = ap (λ (y : B). y ∷ map g xs) (e x)
with_images {B = B} g f h e (suc k) (x ∷ xs) = ap (λ (ys : List B). g x ∷ ys) (with_images g f h e k xs)

pub as_many : {A : Type 0} (f : A → A) (k : ℕ) (xs : List A) → length (change_nth k f xs) ≡ length xs
as_many f k [] = refl
as_many f zero (x ∷ xs) = refl
as_many f (suc k) (x ∷ xs) = ap suc (as_many f k xs)

-- what stands at the place
pub change_here : {A : Type 0} (g : A → A) (xs : List A) (k : ℕ) (a : A) → slice_get xs k ≡ Some a → slice_get (change_nth k g xs) k ≡ Some (g a)
change_here g [] k a h = absurd cc
change_here {A = A} g (x ∷ xs) zero a h = ap (λ (y : A). Some (g y)) (same_Some x a h)
change_here g (x ∷ xs) (suc k) a h = change_here g xs k a h

-- images of which the one at the place is known
pub put_image : {A B : Type 0} (g : A → B) (f : A → A) (xs : List A) (k : ℕ) (y : B) → slice_get (map g (change_nth k f xs)) k ≡ Some y → map g (change_nth k f xs) ≡ slice_set (map g xs) k y
put_image g f [] k y h = absurd cc
put_image {B = B} g f (x ∷ xs) zero y h = ap (λ (z : B). z ∷ map g xs) (same_Some (g (f x)) y h)
put_image {B = B} g f (x ∷ xs) (suc k) y h = ap (λ (zs : List B). g x ∷ zs) (put_image g f xs k y h)

-- two tests of numbers don't pass together
pub not_both : (a b i j : ℕ) → ((a ≡ b) × (i ≡ j) → ⊥) → (nat_eq a b && nat_eq i j) ≡ false
not_both a b i j n = by (nat_eq a b) (nat_eq i j) refl refl
  where
    by : (x y : Bool) → nat_eq a b ≡ x → nat_eq i j ≡ y → (x && y) ≡ false
    by true true e f = absurd (n (eqb-true a b e, eqb-true i j f))
    by true false e f = refl
    by false y e f = refl
