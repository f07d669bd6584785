-- Links the other way round.
use Rattle.std.proofs.Common.{◌≡◌, ◌∙◌, ◌<◌, ◌+◌, ◌==◌, ◌⊎◌, inl, inr, ℕ, zero, suc, Bool, true, false, List, [], ◌∷◌, ◌++◌, length, refl, sym, ap, subst, slice_set, replicate}
use Rattle.std.proofs.lemmas.Bool.{true≢false}
use Rattle.std.proofs.lemmas.List.{get_or-set_same, get_or-set_other}
use Rattle.pkg_graph.specs.ImportOrder.Numbers.{AreLinks, is_among, row, straight}
use Rattle.pkg_graph.proofs.ImportOrder.NumberLaws.{among_same, among_push}
use Rattle.pkg_graph.proofs.ImportOrder.OpenLaws.{differ}
use Rattle.pkg_graph.proofs.ImportOrder.WalkLaws.{reaches_within, split_or}
use Rattle.number_cycles.specs.Owners.{AddsBack, AreBack}

-- nothing is added at first
pub none_added : (these : List ℕ) (k : ℕ) (rows : List (List ℕ)) → AddsBack these k rows rows
none_added these k rows = λ j i e. inl e

-- one row gets the number
pub one_added : (these : List ℕ) (k m : ℕ) (first old new : List (List ℕ)) → m < length old → is_among these m ≡ true
    → new ≡ slice_set old m (row old m ++ k ∷ []) → AddsBack these k first old → AddsBack these k first new
one_added these k m first old new h t e a =
    subst (AddsBack these k first) (sym e) (λ j i. by j i (m == j) refl)
  where
    here : (i : ℕ) → (is_among (row old m) i ≡ true) ⊎ ((k == i) ≡ true) → (is_among (row first m) i ≡ true) ⊎ ((is_among these m ≡ true) × (k ≡ i))
    here i (inl f) = a m i f
    here i (inr f) = inr (t, among_same k i f)

    by : (j i : ℕ) (b : Bool) → (m == j) ≡ b → is_among (row (slice_set old m (row old m ++ k ∷ [])) j) i ≡ true
        → (is_among (row first j) i ≡ true) ⊎ ((is_among these j ≡ true) × (k ≡ i))
    by j i true f g =
        subst (λ (j : ℕ). (is_among (row first j) i ≡ true) ⊎ ((is_among these j ≡ true) × (k ≡ i))) (among_same m j f)
        (here i (split_or (is_among (row old m) i) (k == i)
        (sym (ap (λ (xs : List ℕ). is_among xs i) (get_or-set_same old m (row old m ++ k ∷ []) [] h) ∙ among_push (row old m) k i)
        ∙ subst (λ (j : ℕ). is_among (row (slice_set old m (row old m ++ k ∷ [])) j) i ≡ true) (sym (among_same m j f)) g)))
    by j i false f g =
        a j i (sym (ap (λ (xs : List ℕ). is_among xs i) (get_or-set_other old m j (row old m ++ k ∷ []) [] (differ m j f))) ∙ g)

-- rows that are empty have no links
none_in : (n j i : ℕ) → is_among (row (replicate n []) j) i ≡ true → ⊥
none_in zero zero i e = true≢false (sym e)
none_in zero (suc j) i e = true≢false (sym e)
none_in (suc n) zero i e = true≢false (sym e)
none_in (suc n) (suc j) i e = none_in n j i e

pub none_back : (links : List (List ℕ)) (n : ℕ) (rows : List (List ℕ)) → rows ≡ replicate n [] → AreBack links rows
none_back links n rows e = subst (AreBack links) (sym e) (λ j k f. absurd (none_in n j k f))

-- the links of one more number
pub one_back : (links : List (List ℕ)) (k : ℕ) (old new : List (List ℕ)) → AddsBack (row links k) k old new → AreBack links old → AreBack links new
one_back links k old new a b = λ j i e. by j i (a j i e)
  where
    by : (j i : ℕ) → (is_among (row old j) i ≡ true) ⊎ ((is_among (row links k) j ≡ true) × (k ≡ i)) → is_among (row links i) j ≡ true
    by j i (inl f) = b j i f
    by j i (inr f) = subst (λ (i : ℕ). is_among (row links i) j ≡ true) f.1 f.0

-- those that link are numbers
pub back_links : (links rows : List (List ℕ)) → length rows ≡ length links → AreBack links rows → AreLinks rows
back_links links rows size b =
    λ k m e. subst (λ (n : ℕ). m < n) (sym size) (reaches_within links m k (straight m k (b k m e)))
