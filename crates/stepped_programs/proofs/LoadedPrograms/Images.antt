-- What stands at a place of a list of images, and what holds of it.
use Rattle.std.proofs.Common.{◌≡◌, ◌∙◌, ℕ, zero, suc, Bool, true, false, ◌&&◌, List, [], ◌∷◌, map, Some, refl, ap}
use Rattle.std.specs.Prelude.{slice_get, All}
use Rattle.std.specs.Option.{option_map}
use Rattle.std.proofs.Common.{subst}
use Rattle.std.proofs.lemmas.Option.{same_Some, slice_get-map, slice_get_within, get_or_from_slice_get}

-- it is the image of what stands there
pub image_at : {A B : Type 0} (g : A → B) (xs : List A) (i : ℕ) (y : B) → slice_get (map g xs) i ≡ Some y → (x : A) × (slice_get xs i ≡ Some x) × (g x ≡ y)
image_at g [] i y h = absurd cc
image_at g (x ∷ xs) zero y h = (x, refl, same_Some (g x) y h)
image_at g (x ∷ xs) (suc i) y h = image_at g xs i y h

-- and the image stands there
pub at_image : {A B : Type 0} (g : A → B) (xs : List A) (i : ℕ) (x : A) → slice_get xs i ≡ Some x → slice_get (map g xs) i ≡ Some (g x)
at_image g xs i x h = slice_get-map g xs i ∙ ap (option_map g) h

-- two lists of the same images have them at the same places
pub same_images : {A B C : Type 0} (f : A → C) (g : B → C) (xs : List A) (ys : List B) (i : ℕ) (y : B) → map f xs ≡ map g ys → slice_get ys i ≡ Some y → (x : A) × (slice_get xs i ≡ Some x) × (f x ≡ g y)
same_images f g xs ys i y e h = image_at f xs i (g y) (ap (λ l. slice_get l i) e ∙ at_image g ys i y h)

-- what holds of all holds of what stands at a place
pub of_all : {A : Type 0} (P : A → Type 0) (xs : List A) (i : ℕ) (x : A) → All P xs → slice_get xs i ≡ Some x → P x
of_all P xs i x all h = subst P (get_or_from_slice_get xs i x x h) (all i x (slice_get_within xs i x h))

-- where two tests pass together, each does
pub both : (a b : Bool) → (a && b) ≡ true → (a ≡ true) × (b ≡ true)
both true b h = (refl, h)
both false b h = absurd cc
