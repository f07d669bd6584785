-- Lists whose items stand one by one in a relation.
use Rattle.std.specs.Prelude.{◌≡◌, refl, List, [], ◌∷◌, ◌++◌}
use Rattle.typed_in_place.specs.ProgramsAlike.{OneByOne, no_more, and_more}

pub one_by_one : {A B : Type 0} {R Q : A → B → Type 0} {xs : List A} {ys : List B} → ((a : A) (b : B) → R a b → Q a b) → OneByOne R xs ys → OneByOne Q xs ys
one_by_one f no_more = no_more
one_by_one f (and_more r rs) = and_more (f _ _ r) (one_by_one f rs)

pub each_one : {A : Type 0} {R : A → A → Type 0} → ((a : A) → R a a) → (xs : List A) → OneByOne R xs xs
each_one f [] = no_more
each_one f (x ∷ xs) = and_more (f x) (each_one f xs)

pub append_one : {A B : Type 0} {R : A → B → Type 0} {xs us : List A} {ys vs : List B} → OneByOne R xs ys → OneByOne R us vs → OneByOne R (xs ++ us) (ys ++ vs)
append_one no_more q = q
append_one (and_more r rs) q = and_more r (append_one rs q)

pub then_each : {A B C : Type 0} {R : A → B → Type 0} {Q : B → C → Type 0} {P : A → C → Type 0} {xs : List A} {ys : List B} {zs : List C} → ((a : A) (b : B) (c : C) → R a b → Q b c → P a c) → OneByOne R xs ys → OneByOne Q ys zs → OneByOne P xs zs
then_each f no_more no_more = no_more
then_each f (and_more r rs) (and_more q qs) = and_more (f _ _ _ r q) (then_each f rs qs)

pub back_each : {A B : Type 0} {R : A → B → Type 0} {Q : B → A → Type 0} {xs : List A} {ys : List B} → ((a : A) (b : B) → R a b → Q b a) → OneByOne R xs ys → OneByOne Q ys xs
back_each f no_more = no_more
back_each f (and_more r rs) = and_more (f _ _ r) (back_each f rs)
