-- Small things about truth values and lists.
use Rattle.std.proofs.Common.{◌≡◌, ◌∙◌, refl, ap, Bool, true, false, ◌&&◌, ◌||◌, if◌then◌else◌, List, ◌++◌, Some, None, is_some, arith}
use Rattle.std.proofs.lemmas.Bool.{or_left, or_right}
use Rattle.std.specs.List.{list_any}
use Rattle.std.proofs.lemmas.List.Folds.{list_any-append}

pub never : {A : Type 0} → false ≡ true → A
never e = absurd (grind (arith, e))

-- of two tests one holds
pub of_or : {P : Type 0} (a b : Bool) → (a || b) ≡ true → (a ≡ true → P) → (b ≡ true → P) → P
of_or true b e f g = f refl
of_or false b e f g = g e

pub of_one : (b : Bool) → (b || false) ≡ true → b ≡ true
of_one true e = refl
of_one false e = e

-- what is found in a part of a list
pub any_left : {A : Type 0} (f : A → Bool) (xs ys : List A) → list_any f xs ≡ true → list_any f (xs ++ ys) ≡ true
any_left f xs ys e = list_any-append f xs ys ∙ or_left (list_any f xs) (list_any f ys) e

pub any_right : {A : Type 0} (f : A → Bool) (xs ys : List A) → list_any f ys ≡ true → list_any f (xs ++ ys) ≡ true
any_right f xs ys e = list_any-append f xs ys ∙ or_right (list_any f xs) (list_any f ys) e

-- what may be there
pub nothing : {A B : Type 0} (b : B) → None ≡ Some b → A
nothing b e = absurd (grind (arith, ap is_some e))

pub not_put : {A : Type 0} (b c : Bool) (x : A) → (if b then Some x else None) ≡ None → (b && c) ≡ false
not_put true c x e = absurd (grind (arith, ap is_some e))
not_put false c x e = refl
