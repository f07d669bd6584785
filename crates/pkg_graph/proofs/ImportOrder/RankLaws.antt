-- What ranks say of cycles.
use Rattle.std.proofs.Common.{◌≡◌, ◌∙◌, ◌<◌, ◌≤◌, ◌+◌, ◌==◌, ◌&&◌, ℕ, zero, suc, Bool, true, false, List, [], ◌∷◌, length, take, refl, sym, ap, subst, arith, nat_le, nat_lt, slice_index_or}
use Rattle.std.specs.List.{list_all}
use Rattle.std.proofs.lemmas.List.Folds.{list_all_more}
use Rattle.pkg_graph.specs.ImportOrder.Numbers.{is_among, row, Reaches, straight, over}
use Rattle.pkg_graph.specs.ImportOrder.Ranks.{rank_at, is_from, is_above, NoneDescends}
use Rattle.pkg_graph.proofs.ImportOrder.NumberLaws.{all_each, among_same}

from_le : (m n : ℕ) → nat_le m n ≡ true → m ≤ n
from_le m n e = grind (arith, e)

from_lt : (m n : ℕ) → nat_lt m n ≡ true → m < n
from_lt m n e = grind (arith, e)

-- an element, whatever stands for what is missing
pub at_any : (xs : List ℕ) (k x : ℕ) → k < length xs → x ≡ slice_index_or xs k x → slice_index_or xs k 0 ≡ x
at_any [] k x h e = absurd (omega (arith, h))
at_any (y ∷ ys) zero x h e = sym e
at_any (y ∷ ys) (suc k) x h e = let l : k < length ys = omega (arith, h) in at_any ys k x l e

-- one more passes
pub all_more : (p : ℕ → Bool) (xs : List ℕ) (i : ℕ) → i < length xs → list_all p (take i xs) ≡ true → p (slice_index_or xs i 0) ≡ true → list_all p (take (i + 1) xs) ≡ true
all_more p xs i h e f = list_all_more p xs i 0 h ∙ ap (λ b. b && p (slice_index_or xs i 0)) e ∙ f

pub le_from : (m n : ℕ) → m ≤ n → nat_le m n ≡ true
le_from m n e = grind (arith, e)

pub lt_from : (m n : ℕ) → m < n → nat_lt m n ≡ true
lt_from m n e = grind (arith, e)

-- one package more
pub descends_more : (links : List (List ℕ)) (ranks : List ℕ) (k : ℕ)
    → ((j m : ℕ) → j < k → is_among (row links j) m ≡ true → is_from ranks (rank_at ranks j) m ≡ true)
    → list_all (is_from ranks (rank_at ranks k)) (row links k) ≡ true
    → (j m : ℕ) → j < k + 1 → is_among (row links j) m ≡ true → is_from ranks (rank_at ranks j) m ≡ true
descends_more links ranks k f h j m l e = go (j == k) refl
  where
    go : (t : Bool) → (j == k) ≡ t → is_from ranks (rank_at ranks j) m ≡ true
    go true g = let same = among_same j k g in subst (λ i. is_among (row links i) m ≡ true → is_from ranks (rank_at ranks i) m ≡ true) (sym same) (all_each (is_from ranks (rank_at ranks k)) (row links k) h m) e
    go false g = let less : j < k = grind (arith, l, g) in f j m less e

module _ (links : List (List ℕ)) (ranks : List ℕ) (none : NoneDescends links ranks) where
  never_lower : (i j : ℕ) → Reaches links i j → rank_at ranks i ≤ rank_at ranks j
  never_lower _ _ (straight i j e) = from_le (rank_at ranks i) (rank_at ranks j) (none i j e)
  never_lower _ _ (over i k j e r) =
      let a = from_le (rank_at ranks i) (rank_at ranks k) (none i k e) in
      let b = never_lower k j r in
      omega (arith, a, b)

  higher : (i j : ℕ) → list_all (is_above ranks (rank_at ranks i)) (row links i) ≡ true → Reaches links i j → rank_at ranks i < rank_at ranks j
  higher _ _ h (straight i j e) = from_lt (rank_at ranks i) (rank_at ranks j) (all_each (is_above ranks (rank_at ranks i)) (row links i) h j e)
  higher _ _ h (over i k j e r) =
      let a = from_lt (rank_at ranks i) (rank_at ranks k) (all_each (is_above ranks (rank_at ranks i)) (row links i) h k e) in
      let b = never_lower k j r in
      omega (arith, a, b)

  -- all that it imports stands higher, so imports never lead back to it
  pub never_back : (k : ℕ) → list_all (is_above ranks (rank_at ranks k)) (row links k) ≡ true → Reaches links k k → ⊥
  never_back k h r = let a = higher k k h r in absurd (omega (arith, a))
