-- What is among two lists is among one of them.
use Rattle.std.proofs.Common.{◌≡◌, ◌⊎◌, inl, inr, refl, List, [], ◌∷◌, ◌++◌}
use Rattle.name_places.specs.NamesThere.{Among, first, later}

pub among_front : {A : Type 0} (x : A) (xs ys : List A) → Among x xs → Among x (xs ++ ys)
among_front x (y ∷ xs) ys first = first
among_front x (y ∷ xs) ys (later m) = later (among_front x xs ys m)
among_front x [] ys m = elim m [ ]

pub among_back : {A : Type 0} (x : A) (xs ys : List A) → Among x ys → Among x (xs ++ ys)
among_back x [] ys m = m
among_back x (y ∷ xs) ys m = later (among_back x xs ys m)

pub among_either : {A : Type 0} (x : A) (xs ys : List A) → Among x (xs ++ ys) → Among x xs ⊎ Among x ys
among_either x [] ys m = inr m
among_either x (y ∷ xs) ys first = inl first
among_either {A} x (y ∷ xs) ys (later m) = on (among_either x xs ys m)
  where
    on : Among x xs ⊎ Among x ys → Among x (y ∷ xs) ⊎ Among x ys
    on (inl a) = inl (later a)
    on (inr b) = inr b

pub none_of : {A C : Type 0} {x : A} → Among x [] → C
none_of m = elim m [ ]

-- the first, or a later one
pub among_case : {A : Type 0} {x y : A} {xs : List A} → Among x (y ∷ xs) → (x ≡ y) ⊎ Among x xs
among_case first = inl refl
among_case (later m) = inr m
