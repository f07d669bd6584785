-- Each use stands before each item of a kind exactly where none stands from the first such item on.
use Rattle.std.proofs.Common.{◌≡◌, ◌↔◌, IsTrue, ℕ, ◌+◌, ◌-◌, ◌<◌, ◌≤◌, Bool, true, false, true≢false, not, nat_lt, List, length, drop, get_or, Some, unwrap_or, refl, sym, ap, ◌∙◌, subst, arith, length-drop, position}
use Rattle.std.specs.List.{slice_get, list_any, position_or_len}
use Rattle.std.proofs.lemmas.Bool.{eqb-true, ltb-true, ltb-false}
use Rattle.std.proofs.lemmas.List.{get_or-drop}
use Rattle.std.proofs.lemmas.List.Folds.{list_any_at, Any-from_list_any}
use Rattle.std.proofs.lemmas.List.Sums.{fails_before_first, passes_at_first, prefix_len-le-length}
use Rattle.std.proofs.lemmas.Option.{slice_get-get_or, slice_get_within, get_or_from_slice_get}
use Rattle.order_hazards.specs.Items.{is_use, ListsUses, UsesAhead}
use Rattle.order_hazards.specs.declared.facts.Item.{Item}
use Rattle.order_hazards.specs.declared.facts.Item.TheVariants.{Param, Read, Fail, Write, Stop}

-- only the use of a parameter passes its test
is_use_only : (i : ℕ) (x : Item) → is_use i x ≡ true → x ≡ Param i
is_use_only i (Param j) h = ap Param (eqb-true j i h)
is_use_only i Read h = absurd (true≢false (sym h))
is_use_only i Fail h = absurd (true≢false (sym h))
is_use_only i Write h = absurd (true≢false (sym h))
is_use_only i Stop h = absurd (true≢false (sym h))

is_use_here : (i : ℕ) → is_use i (Param i) ≡ true
is_use_here i = grind arith

-- the first place or the length, in two words
pub unwrap_or-position : {X : Type 0} (p : X → Bool) (xs : List X) → unwrap_or (position p xs) (length xs) ≡ position_or_len p xs
unwrap_or-position p xs = grind (arith, prefix_len-le-length (λ x. not (p x)) xs)

not_true : (b : Bool) → not b ≡ true → b ≡ false
not_true true h = absurd (true≢false (sym h))
not_true false h = refl

module _ (items : List Item) (i : ℕ) (test : Item → Bool) where
  abbrev first : ℕ
  first = position_or_len test items

  -- no use from the first such item on
  pub UsesAhead-from_none : list_any (is_use i) (drop first items) ≡ false → UsesAhead items i test
  UsesAhead-from_none none k m x at_k at_m passes = go (nat_lt k first) refl (nat_lt m first) refl
    where
      here : k < length items
      here = slice_get_within items k (Param i) at_k

      go : (b : Bool) → nat_lt k first ≡ b → (d : Bool) → nat_lt m first ≡ d → k < m
      go true e true f =
          let fails : test (get_or items m x) ≡ false = fails_before_first test items m x (ltb-true m first f) in
          absurd (true≢false (sym passes ∙ ap test (sym (get_or_from_slice_get items m x x at_m)) ∙ fails))
      go true e false f = let lt : k < first = ltb-true k first e in let le : first ≤ m = ltb-false m first f in omega arith
      go false e d f =
          let le : first ≤ k = ltb-false k first e in
          let same : first + (k - first) ≡ k = omega arith in
          let within : k - first < length (drop first items) = rw length-drop (omega (arith, here)) in
          let it : get_or (drop first items) (k - first) (Param i) ≡ Param i =
          get_or-drop first items (k - first) (Param i) ∙ ap (λ n. get_or items n (Param i)) same ∙ get_or_from_slice_get items k (Param i) (Param i) at_k in
          absurd (true≢false (sym (list_any_at (is_use i) (drop first items) (k - first) (Param i) within (ap (is_use i) it ∙ is_use_here i)) ∙ none))

  pub none_from_UsesAhead : UsesAhead items i test → list_any (is_use i) (drop first items) ≡ false
  none_from_UsesAhead ahead = go (list_any (is_use i) (drop first items)) refl
    where
      never : list_any (is_use i) (drop first items) ≡ true → ⊥
      never some =
          let at = Any-from_list_any (is_use i) (drop first items) some in
          let k : ℕ = at.0 in
          let x : Item = at.1 in
          let use_k : x ≡ Param i = is_use_only i x at.4 in
          let short : k < length items - first = subst (λ n. k < n) (length-drop first items) at.2 in
          let read : get_or items (first + k) x ≡ x = sym (get_or-drop first items k x) ∙ at.3 in
          let at_k : slice_get items (first + k) ≡ Some (Param i) =
          slice_get-get_or items (first + k) x (omega arith) ∙ ap (λ z. Some z) (read ∙ use_k) in
          let at_m : slice_get items first ≡ Some (get_or items first x) = slice_get-get_or items first x (omega arith) in
          let over : first + k < first = ahead (first + k) first (get_or items first x) at_k at_m (passes_at_first test items x (omega arith)) in
          omega arith

      go : (b : Bool) → list_any (is_use i) (drop first items) ≡ b → list_any (is_use i) (drop first items) ≡ false
      go true e = absurd (never e)
      go false e = e

-- with as many uses as are wanted, the test of the rest decides
pub UsesAhead-decides : (items : List Item) (i uses : ℕ) (test : Item → Bool) (end : ℕ) (found : Bool)
    → end ≡ position_or_len test items → ListsUses items i uses → found ≡ list_any (is_use i) (drop end items)
    → IsTrue (not found) ↔ (ListsUses items i uses × UsesAhead items i test)
UsesAhead-decides items i uses test end found at_first listed is_found =
    let same : found ≡ list_any (is_use i) (drop (position_or_len test items) items) = is_found ∙ ap (λ n. list_any (is_use i) (drop n items)) at_first in
    ((λ h. (listed, UsesAhead-from_none items i test (sym same ∙ not_true found h))), (λ q. ap not (same ∙ none_from_UsesAhead items i test q.1)))
