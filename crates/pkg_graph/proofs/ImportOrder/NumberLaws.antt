-- Lists and rows of numbers.
use Rattle.std.proofs.Common.{◌&&◌, subst, ◌≡◌, ◌∙◌, ◌<◌, ◌+◌, ◌==◌, ℕ, zero, suc, Bool, true, false, ◌||◌, if◌then◌else◌, List, [], ◌∷◌, ◌++◌, length, refl, sym, ap, Option, Some, None, arith, bytes_eq, slice_index_or, slice_set, take}
use Rattle.std.specs.List.{list_all}
use Rattle.std.specs.Option.{option_map}
use Rattle.std.proofs.lemmas.Bool.{true≢false}
use Rattle.std.proofs.lemmas.List.{get_or-set_same}
use Rattle.std.proofs.lemmas.List.Folds.{list_any_at, list_any_more}
use Rattle.pkg_graph.proofs.ModuleFiles.PathLaws.{are_same}
use Rattle.pkg_graph.specs.ModuleFiles.PathLists.{number_of, path_at}
use Rattle.pkg_graph.specs.ImportOrder.Numbers.{is_among, row}

pub self_same : (n : ℕ) → (n == n) ≡ true
self_same n = grind arith

pub among_at : (xs : List ℕ) (i d : ℕ) → i < length xs → is_among xs (slice_index_or xs i d) ≡ true
among_at xs i d h = list_any_at (λ j. j == slice_index_or xs i d) xs i d h (self_same (slice_index_or xs i d))

behind_by : (p q : List ℕ) (ps : List (List ℕ)) (k : ℕ) (o : Option ℕ) → number_of ps q ≡ o → option_map suc o ≡ Some k
    → ((j : ℕ) → number_of ps q ≡ Some j → (j < length ps) × (path_at ps j ≡ q)) → (k < length (p ∷ ps)) × (path_at (p ∷ ps) k ≡ q)
behind_by p q ps k None e h f = absurd (cc)
behind_by p q ps zero (Some j) e h f = absurd (cc)
behind_by p q ps (suc k) (Some j) e h f = let same : j ≡ k = cc in let g : (k < length ps) × (path_at ps k ≡ q) = f k (e ∙ ap Some same) in let b : k < length ps = g.0 in (omega arith, g.1)

same_bytes : (q : List ℕ) → bytes_eq q q ≡ true
same_bytes [] = refl
same_bytes (b ∷ bs) = grind (arith, same_bytes bs)

-- a path that is added is there
pub added_here : (p q : List ℕ) (there : Bool) → p ≡ q → (bytes_eq q p || there) ≡ true
added_here p q there e = ap (λ (p : List ℕ). bytes_eq q p || there) e ∙ ap (λ (t : Bool). t || there) (same_bytes q)

number_at_by : (p q : List ℕ) (ps : List (List ℕ)) (k : ℕ) (t : Bool) → bytes_eq q p ≡ t → (if t then Some 0 else option_map suc (number_of ps q)) ≡ Some k
    → ((j : ℕ) → number_of ps q ≡ Some j → (j < length ps) × (path_at ps j ≡ q)) → (k < length (p ∷ ps)) × (path_at (p ∷ ps) k ≡ q)
number_at_by p q ps zero true e h f = (omega arith, sym (are_same q p e))
number_at_by p q ps (suc k) true e h f = absurd (cc)
number_at_by p q ps k false e h f = behind_by p q ps k (number_of ps q) refl h f

-- the number of a path is its place
pub number_at : (ps : List (List ℕ)) (q : List ℕ) (k : ℕ) → number_of ps q ≡ Some k → (k < length ps) × (path_at ps k ≡ q)
number_at [] q k e = absurd (cc)
number_at (p ∷ ps) q k e = number_at_by p q ps k (bytes_eq q p) refl e (number_at ps q)

pub among_same : (j k : ℕ) → (j == k) ≡ true → j ≡ k
among_same j k e = grind (arith, e)

pub among_push : (xs : List ℕ) (k j : ℕ) → is_among (xs ++ k ∷ []) j ≡ (is_among xs j || (k == j))
among_push [] k j = grind arith
among_push (x ∷ xs) k j = grind (arith, among_push xs k j)

pub among_last : (xs : List ℕ) (k : ℕ) → is_among (xs ++ k ∷ []) k ≡ true
among_last xs k = grind (arith, among_push xs k k, self_same k)

pub among_kept : (xs : List ℕ) (k j : ℕ) → is_among xs j ≡ true → is_among (xs ++ k ∷ []) j ≡ true
among_kept xs k j e = grind (arith, among_push xs k j, e)

-- two packages have two paths
pub same_number : (ps : List (List ℕ)) (j k : ℕ) → ((i : ℕ) → i < length ps → number_of ps (path_at ps i) ≡ Some i) → j < length ps → (q : List ℕ) → path_at ps j ≡ q → number_of ps q ≡ Some k → j ≡ k
same_number ps j k d h q e f = let a : number_of ps (path_at ps j) ≡ Some j = d j h in let b : number_of ps q ≡ Some j = rw e at a in cc

-- a row after one more number
pub last_at : (rows : List (List ℕ)) (m k : ℕ) (new : List (List ℕ)) → m < length rows → new ≡ slice_set rows m (row rows m ++ k ∷ []) → is_among (row new m) k ≡ true
last_at rows m k new h e = rw (e, get_or-set_same rows m (row rows m ++ k ∷ []) [] h) (among_last (row rows m) k)

next_by : (P : ℕ → Type 0) (j n : ℕ) (s t : Bool) → (n == j) ≡ t → (s || t) ≡ true → (s ≡ true → P j) → P n → P j
next_by P j n true t e h f g = f refl
next_by P j n false true e h f g = subst P (among_same n j e) g
next_by P j n false false e h f g = absurd (true≢false (sym h))

-- what holds of the numbers before a place, and of the one at it
pub each_next : (xs : List ℕ) (i : ℕ) → i < length xs → (P : ℕ → Type 0) → ((j : ℕ) → is_among (take i xs) j ≡ true → P j) → P (slice_index_or xs i 0) → (j : ℕ) → is_among (take (i + 1) xs) j ≡ true → P j
each_next xs i h P f g j e = next_by P j (slice_index_or xs i 0) (is_among (take i xs) j) (slice_index_or xs i 0 == j) refl (sym (list_any_more (λ k. k == j) xs i 0 h) ∙ e) (f j) g

all_each_by : (p : ℕ → Bool) (x : ℕ) (xs : List ℕ) (j : ℕ) (s t : Bool) → p x ≡ s → (x == j) ≡ t → (s && list_all p xs) ≡ true → (t || is_among xs j) ≡ true → (list_all p xs ≡ true → is_among xs j ≡ true → p j ≡ true) → p j ≡ true
all_each_by p x xs j true true e f h g k = subst (λ n. p n ≡ true) (among_same x j f) e
all_each_by p x xs j true false e f h g k = k h g
all_each_by p x xs j false t e f h g k = absurd (true≢false (sym h))

-- what all pass, each passes
pub all_each : (p : ℕ → Bool) (xs : List ℕ) → list_all p xs ≡ true → (j : ℕ) → is_among xs j ≡ true → p j ≡ true
all_each p [] h j e = absurd (true≢false (sym e))
all_each p (x ∷ xs) h j e = all_each_by p x xs j (p x) (x == j) refl refl h e (λ a b. all_each p xs a j b)

pub all_alike : (p q : ℕ → Bool) → ((k : ℕ) → p k ≡ q k) → (xs : List ℕ) → list_all p xs ≡ list_all q xs
all_alike p q f [] = refl
all_alike p q f (x ∷ xs) = rw (f x, all_alike p q f xs) refl
