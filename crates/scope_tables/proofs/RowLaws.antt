-- Names with a row each: rows that are added, and rows that are replaced.
use Rattle.std.proofs.Common.{◌≡◌, ◌∙◌, ◌≤◌, ◌<◌, ◌+◌, ◌⊎◌, inl, inr, ℕ, zero, suc, Bool, true, false, not, ◌||◌, nat_le, List, [], ◌∷◌, ◌++◌, Option, Some, None, refl, sym, ap, cond, length, get_or, bytes_eq, arith, slice_set, nat_lt, slice_get, position, option_and_then}
use Rattle.std.specs.List.{list_any, position_or_len}
use Rattle.std.proofs.lemmas.Option.{slice_get_past}
use Rattle.std.proofs.lemmas.Bool.{true≢false, lt-ltb, le-ltb}
use Rattle.std.proofs.lemmas.Bool.Decides.{leb_tells}
use Rattle.std.proofs.lemmas.Slice.Eq.{bytes_eq-Decides}
use Rattle.go_tree.specs.GoWords.Tokens.Pieces.{is_among}
use Rattle.name_walks.specs.EachOnce.{with_name}
use Rattle.scope_tables.specs.declared.rows.Row.{Row}
use Rattle.scope_tables.specs.Table.{found_in, part_of}
use Rattle.scope_tables.specs.Building.{position_of}

pub same_name : (a b : List ℕ) → bytes_eq a b ≡ true → a ≡ b
same_name a b e = (bytes_eq-Decides a b).0 e

pub itself : (a : List ℕ) → bytes_eq a a ≡ true
itself a = (bytes_eq-Decides a a).1 refl

pub other_name : (q n m : List ℕ) → bytes_eq n m ≡ false → bytes_eq q m ≡ true → bytes_eq q n ≡ false
other_name q n m e f = by (bytes_eq q n) refl
  where
    by : (t : Bool) → bytes_eq q n ≡ t → t ≡ false
    by false g = refl
    by true g = absurd (true≢false (sym (ap (λ x. bytes_eq x m) (sym (same_name q n g)) ∙ f) ∙ e))

-- ---- places

pub place_bound : (p : List ℕ → Bool) (names : List (List ℕ)) → position_or_len p names ≤ length names
place_bound p [] = omega arith
place_bound p (n ∷ ns) = by (p n) (place_bound p ns)
  where
    by : (t : Bool) → position_or_len p ns ≤ length ns → cond (not t) (1 + position_or_len p ns) 0 ≤ suc (length ns)
    by true h = omega arith
    by false h = omega (arith, h)

among_by : (p : List ℕ → Bool) (names : List (List ℕ)) → ((list_any p names ≡ true) × (position_or_len p names < length names)) ⊎ ((list_any p names ≡ false) × (position_or_len p names ≡ length names))
among_by p [] = inr (refl, refl)
among_by p (n ∷ ns) = by (p n) (among_by p ns)
  where
    by : (t : Bool) → ((list_any p ns ≡ true) × (position_or_len p ns < length ns)) ⊎ ((list_any p ns ≡ false) × (position_or_len p ns ≡ length ns))
        → (((t || list_any p ns) ≡ true) × (cond (not t) (1 + position_or_len p ns) 0 < suc (length ns))) ⊎ (((t || list_any p ns) ≡ false) × (cond (not t) (1 + position_or_len p ns) 0 ≡ suc (length ns)))
    by true h = inl (refl, omega arith)
    by false (inl h) =
        let below = h.1 in
        inl (h.0, omega (arith, below))
    by false (inr h) =
        let whole = h.1 in
        inr (h.0, omega (arith, whole))

place_after : (p : List ℕ → Bool) (names : List (List ℕ)) (n : List ℕ) → position_or_len p names ≡ length names → p n ≡ true → position_or_len p (names ++ n ∷ []) ≡ length names
place_after p [] n e t = ap (λ b. cond (not b) (1 + 0) 0) t
place_after p (m ∷ ms) n e t = by (p m) e (place_after p ms n)
  where
    by : (b : Bool) → cond (not b) (1 + position_or_len p ms) 0 ≡ suc (length ms) → (position_or_len p ms ≡ length ms → p n ≡ true → position_or_len p (ms ++ n ∷ []) ≡ length ms)
        → cond (not b) (1 + position_or_len p (ms ++ n ∷ [])) 0 ≡ suc (length ms)
    by true e f = absurd (omega (arith, e))
    by false e f =
        let here : position_or_len p ms ≡ length ms = omega (arith, e) in
        let there = f here t in
        omega (arith, there)

-- a name that has a row
pub placed_old : (names : List (List ℕ)) (n : List ℕ) (k : ℕ) → k ≡ position_of n names → k < length names → with_name names n ≡ names
placed_old names n k e h = by (among_by (bytes_eq n) names)
  where
    by : ((is_among names n ≡ true) × (position_of n names < length names)) ⊎ ((is_among names n ≡ false) × (position_of n names ≡ length names)) → with_name names n ≡ names
    by (inl p) = ap (λ t. cond t names (names ++ n ∷ [])) p.0
    by (inr p) =
        let whole = p.1 in
        absurd (omega (arith, e, h, whole))

-- a name that has none
pub placed_new : (names : List (List ℕ)) (n : List ℕ) (k : ℕ) → k ≡ position_of n names → length names ≤ k → (with_name names n ≡ names ++ n ∷ []) × (k ≡ length names)
placed_new names n k e h = by (among_by (bytes_eq n) names)
  where
    by : ((is_among names n ≡ true) × (position_of n names < length names)) ⊎ ((is_among names n ≡ false) × (position_of n names ≡ length names)) → (with_name names n ≡ names ++ n ∷ []) × (k ≡ length names)
    by (inl p) =
        let below = p.1 in
        absurd (omega (arith, e, h, below))
    by (inr p) = (ap (λ t. cond t names (names ++ n ∷ [])) p.0, e ∙ p.1)

pub place_of_new : (names : List (List ℕ)) (n : List ℕ) → position_of n names ≡ length names → position_of n (names ++ n ∷ []) ≡ length names
place_of_new names n e = place_after (bytes_eq n) names n e (itself n)

-- ---- what rows have

module _ {X : Type 0} (part : Row → X) (none : X) where
  pub found_grown : (names : List (List ℕ)) (rows : List Row) (n : List ℕ) (r : Row) (q : List ℕ) → length rows ≡ length names → part r ≡ none
      → found_in part none (names ++ n ∷ []) (rows ++ r ∷ []) q ≡ found_in part none names rows q
  found_grown [] [] n r q e f = by (bytes_eq q n)
    where
      by : (t : Bool) → cond t (part r) none ≡ none
      by true = f
      by false = refl
  found_grown [] (x ∷ rs) n r q e f = absurd (omega (arith, e))
  found_grown (m ∷ ms) [] n r q e f = absurd (omega (arith, e))
  found_grown (m ∷ ms) (x ∷ rs) n r q e f = ap (λ t. cond (bytes_eq q m) (part x) t) (found_grown ms rs n r q (omega (arith, e)) f)

  pub found_replaced : (names : List (List ℕ)) (rows : List Row) (n : List ℕ) (k : ℕ) (r : Row) (q : List ℕ) → length rows ≡ length names → k ≡ position_of n names → k < length rows
      → found_in part none names (slice_set rows k r) q ≡ cond (bytes_eq q n) (part r) (found_in part none names rows q)
  found_replaced [] [] n k r q e f h = absurd (omega (arith, h))
  found_replaced [] (x ∷ rs) n k r q e f h = absurd (omega (arith, e))
  found_replaced (m ∷ ms) [] n k r q e f h = absurd (omega (arith, e))
  found_replaced (m ∷ ms) (x ∷ rs) n k r q e f h = by (λ j f h. found_replaced ms rs n j r q (omega (arith, e)) f h) (bytes_eq n m) refl k f h
    where
      first : (t b : Bool) → bytes_eq q m ≡ t → bytes_eq q n ≡ b → t ≡ b → cond t (part r) (found_in part none ms rs q) ≡ cond b (part r) (cond t (part x) (found_in part none ms rs q))
      first true true g i j = refl
      first true false g i j = absurd (true≢false j)
      first false true g i j = absurd (true≢false (sym j))
      first false false g i j = refl

      later : (t : Bool) (j : ℕ) → bytes_eq q m ≡ t → bytes_eq n m ≡ false → found_in part none ms (slice_set rs j r) q ≡ cond (bytes_eq q n) (part r) (found_in part none ms rs q)
          → cond t (part x) (found_in part none ms (slice_set rs j r) q) ≡ cond (bytes_eq q n) (part r) (cond t (part x) (found_in part none ms rs q))
      later true j g d i = ap (λ b. cond b (part r) (part x)) (sym (other_name q n m d g))
      later false j g d i = i

      by : ((j : ℕ) → j ≡ position_of n ms → j < length rs → found_in part none ms (slice_set rs j r) q ≡ cond (bytes_eq q n) (part r) (found_in part none ms rs q))
          → (t : Bool) → bytes_eq n m ≡ t → (k : ℕ) → k ≡ cond (not t) (1 + position_of n ms) 0 → k < suc (length rs)
          → found_in part none (m ∷ ms) (slice_set (x ∷ rs) k r) q ≡ cond (bytes_eq q n) (part r) (found_in part none (m ∷ ms) (x ∷ rs) q)
      by rec true d zero f h = first (bytes_eq q m) (bytes_eq q n) refl refl (ap (bytes_eq q) (sym (same_name n m d)))
      by rec true d (suc j) f h = absurd (omega (arith, f))
      by rec false d zero f h = absurd (omega (arith, f))
      by rec false d (suc j) f h = later (bytes_eq q m) j refl d (rec j (omega (arith, f)) (omega (arith, h)))

  pub found_here : (names : List (List ℕ)) (rows : List Row) (n : List ℕ) (k : ℕ) (d : Row) → length rows ≡ length names → k ≡ position_of n names → k < length rows
      → found_in part none names rows n ≡ part (get_or rows k d)
  found_here [] [] n k d e f h = absurd (omega (arith, h))
  found_here [] (x ∷ rs) n k d e f h = absurd (omega (arith, e))
  found_here (m ∷ ms) [] n k d e f h = absurd (omega (arith, e))
  found_here (m ∷ ms) (x ∷ rs) n k d e f h = by (λ j f h. found_here ms rs n j d (omega (arith, e)) f h) (bytes_eq n m) k f h
    where
      by : ((j : ℕ) → j ≡ position_of n ms → j < length rs → found_in part none ms rs n ≡ part (get_or rs j d)) → (t : Bool) (k : ℕ) → k ≡ cond (not t) (1 + position_of n ms) 0 → k < suc (length rs) → cond t (part x) (found_in part none ms rs n) ≡ part (get_or (x ∷ rs) k d)
      by rec true zero f h = refl
      by rec true (suc j) f h = absurd (omega (arith, f))
      by rec false zero f h = absurd (omega (arith, f))
      by rec false (suc j) f h = rec j (omega (arith, f)) (omega (arith, h))

-- ---- by the number of a name

same_test : (a b : ℕ) → nat_lt (suc a) (suc b) ≡ nat_lt a b
same_test a b = by (leb_tells (suc a) b)
  where
    by : ((nat_le (suc a) b ≡ true) × (suc a ≤ b)) ⊎ ((nat_le (suc a) b ≡ false) × (b < suc a)) → nat_lt (suc a) (suc b) ≡ nat_lt a b
    by (inl p) =
        let h = p.1 in
        lt-ltb (suc a) (suc b) (omega (arith, h)) ∙ sym (lt-ltb a b (omega (arith, h)))
    by (inr p) =
        let h = p.1 in
        le-ltb (suc a) (suc b) (omega (arith, h)) ∙ sym (le-ltb a b (omega (arith, h)))

numbered_row : {X : Type 0} (part : Row → X) (none : X) (names : List (List ℕ)) (rows : List Row) (q : List ℕ)
    → found_in part none names rows q ≡ cond (nat_lt (position_of q names) (length names)) (part_of part none (slice_get rows (position_of q names))) none
numbered_row part none [] rows q = refl
numbered_row part none (n ∷ ns) [] q = by (nat_lt (position_of q (n ∷ ns)) (length (n ∷ ns))) (slice_get_past [] (position_of q (n ∷ ns)) (omega arith))
  where
    by : (t : Bool) → slice_get {X = Row} [] (position_of q (n ∷ ns)) ≡ None → none ≡ cond t (part_of part none (slice_get [] (position_of q (n ∷ ns)))) none
    by true e = ap (part_of part none) (sym e)
    by false e = refl
numbered_row part none (n ∷ ns) (r ∷ rs) q = by (bytes_eq q n) (numbered_row part none ns rs q)
  where
    suc_of : (k : ℕ) → 1 + k ≡ suc k
    suc_of k = omega arith

    by : (t : Bool) → found_in part none ns rs q ≡ cond (nat_lt (position_of q ns) (length ns)) (part_of part none (slice_get rs (position_of q ns))) none
        → cond t (part r) (found_in part none ns rs q)
        ≡ cond (nat_lt (cond (not t) (1 + position_of q ns) 0) (suc (length ns))) (part_of part none (slice_get (r ∷ rs) (cond (not t) (1 + position_of q ns) 0))) none
    by true e = ap (λ t. cond t (part_of part none (slice_get (r ∷ rs) 0)) none) (sym (lt-ltb 0 (suc (length ns)) (omega arith)))
    by false e =
        e ∙ ap (λ t. cond t (part_of part none (slice_get rs (position_of q ns))) none) (sym (same_test (position_of q ns) (length ns)))
        ∙ ap (λ k. cond (nat_lt k (suc (length ns))) (part_of part none (slice_get (r ∷ rs) k)) none) (sym (suc_of (position_of q ns)))

pub found_by : {X : Type 0} (part : Row → X) (none : X) (names : List (List ℕ)) (rows : List Row) (q : List ℕ)
    → found_in part none names rows q ≡ part_of part none (option_and_then (slice_get rows) (position (bytes_eq q) names))
found_by part none names rows q = numbered_row part none names rows q ∙ by (nat_lt (position_of q names) (length names))
  where
    by : (t : Bool) → cond t (part_of part none (slice_get rows (position_of q names))) none ≡ part_of part none (option_and_then (slice_get rows) (cond t (Some (position_of q names)) None))
    by true = refl
    by false = refl

pub by_number : {X : Type 0} (part : Row → X) (none : X) (names : List (List ℕ)) (rows : List Row) (q : List ℕ) (o : Option ℕ) → o ≡ position (bytes_eq q) names
    → part_of part none (option_and_then (slice_get rows) o) ≡ found_in part none names rows q
by_number part none names rows q o e = ap (λ p. part_of part none (option_and_then (slice_get rows) p)) e ∙ sym (found_by part none names rows q)
