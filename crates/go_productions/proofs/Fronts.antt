-- What is read behind entries that were read before.
use Rattle.std.proofs.Common.{◌≡◌, List, [], ◌∷◌, ◌++◌, map, Option, Some, None, refl, sym, ap, ◌∙◌}
use Rattle.std.specs.Prelude.{option_and_then}
use Rattle.std.proofs.lemmas.List.{map_push}
use Rattle.go_read.specs.SpellsTypes.{Lexemes}
use Rattle.go_productions.specs.Parts.{onto, in_front}

pub onto_append : {A L : Type 0} (cons : A → L → L) (xs ys : List A) (l : L) → onto cons (xs ++ ys) l ≡ onto cons xs (onto cons ys l)
onto_append cons [] ys l = refl
onto_append cons (x ∷ xs) ys l = ap (cons x) (onto_append cons xs ys l)

pub onto_list : {A : Type 0} (xs : List A) → onto (λ x xs. x ∷ xs) xs [] ≡ xs
onto_list [] = refl
onto_list (x ∷ xs) = ap (λ ys. x ∷ ys) (onto_list xs)

pub front_append : {A L : Type 0} (cons : A → L → L) (xs ys : List A) (o : Option (L × Lexemes)) → in_front cons (xs ++ ys) o ≡ in_front cons xs (in_front cons ys o)
front_append cons xs ys None = refl
front_append cons xs ys (Some y) = ap (λ l. Some (l, y.1)) (onto_append cons xs ys y.0)

pub front_none : {A L : Type 0} (cons : A → L → L) (xs : List A) (o g : Option (L × Lexemes)) → in_front cons xs o ≡ g → o ≡ None → g ≡ None
front_none cons xs o g h e = sym h ∙ ap (in_front cons xs) e

pub front_some : {A L : Type 0} (cons : A → L → L) (xs : List A) (o g : Option (L × Lexemes)) (l : L) (r : Lexemes) → in_front cons xs o ≡ g → o ≡ Some (l, r) → g ≡ Some (onto cons xs l, r)
front_some cons xs o g l r h e = sym h ∙ ap (in_front cons xs) e

-- one entry more
pub front_push : {A L V : Type 0} (cons : A → L → L) (view : V → A) (xs ys : List V) (x : V) (o p g : Option (L × Lexemes)) → ys ≡ xs ++ x ∷ [] → in_front cons (map view xs) o ≡ g → o ≡ in_front cons (view x ∷ []) p → in_front cons (map view ys) p ≡ g
front_push cons view xs ys x o p g e h f =
    ap (λ (zs : List _). in_front cons zs p) (ap (map view) e ∙ map_push view xs x) ∙ front_append cons (map view xs) (view x ∷ []) p ∙ ap (in_front cons (map view xs)) (sym f) ∙ h

-- the last entry
pub front_last : {A L V : Type 0} (cons : A → L → L) (view : V → A) (xs ys : List V) (x : V) (nil : L) (r : Lexemes) (o g : Option (L × Lexemes)) → ys ≡ xs ++ x ∷ [] → in_front cons (map view xs) o ≡ g → o ≡ Some (cons (view x) nil, r) → g ≡ Some (onto cons (map view ys) nil, r)
front_last cons view xs ys x nil r o g e h f = sym (front_push cons view xs ys x o (Some (nil, r)) g e h f)

-- an answer that goes on with a part
pub then_some : {A B : Type 0} (f : A → B) (o : Option A) (y : B) → option_and_then (λ x. Some (f x)) o ≡ Some y → (x : A) × (o ≡ Some x) × (f x ≡ y)
then_some f (Some x) y e = (x, refl, cc)
then_some f None y e = absurd cc

pub then_none : {A B : Type 0} (f : A → B) (o : Option A) → option_and_then (λ x. Some (f x)) o ≡ None → o ≡ None
then_none f (Some x) e = absurd cc
then_none f None e = refl
