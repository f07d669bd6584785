-- Numbers that are given to owners.
use Rattle.std.proofs.Common.{◌≡◌, ◌∙◌, ◌<◌, ◌==◌, ◌⊎◌, inl, inr, ℕ, zero, suc, true, false, List, [], ◌∷◌, ◌++◌, length, Option, Some, None, refl, sym, ap, subst, slice_set, replicate}
use Rattle.std.proofs.lemmas.Bool.{true≢false}
use Rattle.std.proofs.lemmas.Option.{same_Some}
use Rattle.pkg_graph.specs.ImportOrder.Numbers.{AreLinks, is_among, row, straight}
use Rattle.pkg_graph.proofs.ImportOrder.NumberLaws.{among_same, among_push, among_last, among_kept}
use Rattle.pkg_graph.proofs.ImportOrder.WalkLaws.{reaches_more, reaches_all, split_or}
use Rattle.number_cycles.specs.Owners.{owner_of, IsFrom, AllFrom, AreOwned}

-- an owner that is put, or one that was there
get_set : (owners : List (Option ℕ)) (m : ℕ) (o : Option ℕ) (j root : ℕ) → owner_of (slice_set owners m o) j ≡ Some root → ((m ≡ j) × (o ≡ Some root)) ⊎ (owner_of owners j ≡ Some root)
get_set [] m o j root e = absurd cc
get_set (x ∷ xs) zero o zero root e = inl (refl, e)
get_set (x ∷ xs) zero o (suc j) root e = inr e
get_set (x ∷ xs) (suc m) o zero root e = inr e
get_set (x ∷ xs) (suc m) o (suc j) root e = by (get_set xs m o j root e)
  where
    by : ((m ≡ j) × (o ≡ Some root)) ⊎ (owner_of xs j ≡ Some root) → ((suc m ≡ suc j) × (o ≡ Some root)) ⊎ (owner_of xs j ≡ Some root)
    by (inl h) = inl (ap suc h.0, h.1)
    by (inr h) = inr h

no_owner : (n m root : ℕ) → owner_of (replicate n None) m ≡ Some root → ⊥
no_owner zero m root e = cc
no_owner (suc n) zero root e = cc
no_owner (suc n) (suc m) root e = no_owner n m root e

module _ (links : List (List ℕ)) where
  pub none_owned : (n : ℕ) (owners : List (Option ℕ)) → owners ≡ replicate n None → AreOwned links owners
  none_owned n owners e = subst (AreOwned links) (sym e) (λ m root f. absurd (no_owner n m root f))

  -- one more number is given
  pub one_owned : (owners : List (Option ℕ)) (m root : ℕ) → IsFrom links root m → AreOwned links owners → AreOwned links (slice_set owners m (Some root))
  one_owned owners m root h a = λ j r e. by j r (get_set owners m (Some root) j r e)
    where
      by : (j r : ℕ) → ((m ≡ j) × (Some root ≡ Some r)) ⊎ (owner_of owners j ≡ Some r) → IsFrom links r j
      by j r (inl e) = subst (λ (q : ℕ × ℕ). IsFrom links q.0 q.1) (λ v. (same_Some root r e.1 v, e.0 v)) h
      by j r (inr e) = a j r e

  -- one more is to be walked from
  pub one_walked : (root m : ℕ) (walk new : List ℕ) → new ≡ walk ++ m ∷ [] → IsFrom links root m → AllFrom links root walk → AllFrom links root new
  one_walked root m walk new e h a = subst (AllFrom links root) (sym e) (λ j f. by j (split_or (is_among walk j) (m == j) (sym (among_push walk m j) ∙ f)))
    where
      by : (j : ℕ) → (is_among walk j ≡ true) ⊎ ((m == j) ≡ true) → IsFrom links root j
      by j (inl f) = a j f
      by j (inr f) = subst (λ (i : ℕ). IsFrom links root i) (among_same m j f) h

  pub none_walked : (root : ℕ) (walk : List ℕ) → walk ≡ [] → AllFrom links root walk
  none_walked root walk e = subst (AllFrom links root) (sym e) (λ m f. absurd (true≢false (sym f)))

  -- the last of those that are to be walked from
  pub last_from : (root k : ℕ) (walk rest : List ℕ) → walk ≡ rest ++ k ∷ [] → AllFrom links root walk → IsFrom links root k
  last_from root k walk rest e a = a k (subst (λ (xs : List ℕ). is_among xs k ≡ true) (sym e) (among_last rest k))

  pub rest_from : (root k : ℕ) (walk rest : List ℕ) → walk ≡ rest ++ k ∷ [] → AllFrom links root walk → AllFrom links root rest
  rest_from root k walk rest e a = λ m f. a m (subst (λ (xs : List ℕ). is_among xs m ≡ true) (sym e) (among_kept rest k m f))

  -- a link further
  pub from_more : (root k m : ℕ) → IsFrom links root k → is_among (row links k) m ≡ true → IsFrom links root m
  from_more root k m (inl e) f = inr (straight root m (subst (λ (i : ℕ). is_among (row links i) m ≡ true) (sym e) f))
  from_more root k m (inr r) f = inr (reaches_more links root k m r f)

  -- what links lead to is a number
  pub from_within : (root k : ℕ) → AreLinks links → root < length links → IsFrom links root k → k < length links
  from_within root k a h (inl e) = subst (λ (i : ℕ). i < length links) e h
  from_within root k a h (inr r) = reaches_all links (λ (i : ℕ). i < length links) (λ i j g f. a i j f) root k h r
