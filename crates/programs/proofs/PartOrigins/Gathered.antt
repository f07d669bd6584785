-- What a loop gathers of a list.
use Rattle.std.proofs.Common.{◌≡◌, ◌∙◌, refl, sym, ap, ℕ, ◌≤◌, List, [], ◌∷◌, ◌++◌, map, drop, length, append-nil}
use Rattle.std.proofs.lemmas.List.{drop_all}

pub all_gathered : {A B : Type 0} (g : A → B) (xs : List A) (i : ℕ) (ys : List B) → length xs ≤ i → ys ++ map g (drop i xs) ≡ map g xs → ys ≡ map g xs
all_gathered {A = A} g xs i ys h e = sym (append-nil ys) ∙ ap (λ (zs : List A). ys ++ map g zs) (sym (drop_all i xs h)) ∙ e

pub mapped_twice : {A B C : Type 0} (g : B → C) (f : A → B) (xs : List A) → map (λ x. g (f x)) xs ≡ map g (map f xs)
mapped_twice g f [] = refl
mapped_twice g f (x ∷ xs) = λ w. g (f x) ∷ mapped_twice g f xs w
