-- The set that striking out leaves is the greatest safe one.
use Rattle.std.proofs.Common.{◌≡◌, ◌⊎◌, inl, inr, ℕ, zero, suc, ◌+◌, ◌<◌, ◌≤◌, Bool, true, false, true≢false, not, ◌&&◌, ◌||◌, nat_eq, nat_lt, List, [], ◌∷◌, length, map, Some, slice_get, if◌then◌else◌, refl, sym, ap, subst, ◌∙◌, arith}
use Rattle.std.specs.Prelude.{Contains}
use Rattle.std.specs.List.{list_all}
use Rattle.std.proofs.lemmas.Option.{same_Some}
use Rattle.std.proofs.lemmas.Bool.{eqb-true}
use Rattle.order_hazards.specs.Items.{IsBefore}
use Rattle.order_hazards.specs.Clash.{Clash}
use Rattle.order_hazards.specs.Solo.{IsSolo}
use Rattle.order_hazards.specs.declared.facts.ParamRow.{ParamRow}
use Rattle.param_choice.specs.Chosen.{has}
use Rattle.param_choice.specs.Safe.{IsSafe}
use Rattle.param_choice.specs.Greatest.{IsWithin, IsGreatest}
use Rattle.param_choice.specs.Strikes.{ClashNeeds, NameNeeds, Lacks, Fits, IsOpen}
use Rattle.param_choice.specs.declared.table.CallTable.{CallTable}
use Rattle.param_choice.proofs.Striking.{has_within, needs_safe, greatest_open, open_fits}
use Rattle.run_rules.specs.Choice.{holds_if, solo, clash, before, rows_from, clashes_with, may_be_chosen, needs_met, first_kept, struck, all_met, strikes, best}
use Rattle.run_rules.proofs.Says.{says_same, says_not, says_below}
use Rattle.run_rules.proofs.Chosen.{clash_says, before_says, solo_says}

-- ---- truth values

left_true : (a b : Bool) → (a && b) ≡ true → a ≡ true
left_true true b h = refl
left_true false b h = cc

right_true : (a b : Bool) → (a && b) ≡ true → b ≡ true
right_true true b h = h
right_true false b h = cc

and_true : (a b : Bool) → a ≡ true → b ≡ true → (a && b) ≡ true
and_true true b h k = k
and_true false b h k = cc

then_true : (a b : Bool) → holds_if a b ≡ true → a ≡ true → b ≡ true
then_true true b h k = h
then_true false b h k = cc

if_true : (a b : Bool) → (a ≡ true → b ≡ true) → holds_if a b ≡ true
if_true true b f = f refl
if_true false b f = refl

wanted_of : (a b : Bool) → (a || not b) ≡ true → a ≡ false → b ≡ false
wanted_of true b h k = cc
wanted_of false true h k = cc
wanted_of false false h k = refl

wanted_to : (a b : Bool) → (a ≡ false → b ≡ false) → (a || not b) ≡ true
wanted_to true b f = refl
wanted_to false b f = ap not (f refl)

-- ---- lists

module _ {A : Type 0} (f : A → Bool) where
  passes_all : (xs : List A) (x : A) → list_all f xs ≡ true → Contains xs x → f x ≡ true
  passes_all [] x h c = let lt : c.0 < 0 = c.1 in absurd (omega arith)
  passes_all (y ∷ ys) x h (zero, lt, e) = ap f (sym e) ∙ left_true (f y) (list_all f ys) h
  passes_all (y ∷ ys) x h (suc k, lt, e) = passes_all ys x (right_true (f y) (list_all f ys) h) (k, omega arith, e)

  all_pass : (xs : List A) → ((x : A) → Contains xs x → f x ≡ true) → list_all f xs ≡ true
  all_pass [] h = refl
  all_pass (y ∷ ys) h = and_true (f y) (list_all f ys) (h y (0, omega arith, refl)) (all_pass ys (λ x c. h x (suc c.0, (let lt : c.0 < length ys = c.1 in omega arith), c.2)))

row_at : (rows : List ParamRow) (i : ℕ) → i < length rows → (r : ParamRow) × (slice_get rows i ≡ Some r)
row_at [] i lt = absurd (omega arith)
row_at (r ∷ rs) zero lt = (r, refl)
row_at (r ∷ rs) (suc i) lt = row_at rs i (omega arith)

row_within : (rows : List ParamRow) (i : ℕ) (r : ParamRow) → slice_get rows i ≡ Some r → i < length rows
row_within [] i r e = cc
row_within (x ∷ xs) zero r e = omega arith
row_within (x ∷ xs) (suc i) r e = let lt : i < length xs = row_within xs i r e in omega arith

at_zero : (n : ℕ) → n ≡ 0 + n
at_zero n = omega arith

module _ (f : ℕ × ParamRow → Bool) where
  passes_at : (k : ℕ) (rows : List ParamRow) (i n : ℕ) (r : ParamRow) → list_all f (rows_from k rows) ≡ true → slice_get rows i ≡ Some r → n ≡ k + i → f (n, r) ≡ true
  passes_at k [] i n r h e m = cc
  passes_at k (x ∷ xs) zero n r h e m = (λ w. f (same w, sym (same_Some x r e) w)) ∙ left_true (f (k, x)) (list_all f (rows_from (suc k) xs)) h
    where
      same : n ≡ k
      same = omega (arith, m)
  passes_at k (x ∷ xs) (suc i) n r h e m = passes_at (suc k) xs i n r (right_true (f (k, x)) (list_all f (rows_from (suc k) xs)) h) e (omega (arith, m))

  all_rows : (k : ℕ) (rows : List ParamRow) → ((i : ℕ) (r : ParamRow) → slice_get rows i ≡ Some r → f (k + i, r) ≡ true) → list_all f (rows_from k rows) ≡ true
  all_rows k [] h = refl
  all_rows k (x ∷ xs) h =
      and_true (f (k, x)) (list_all f (rows_from (suc k) xs)) (subst (λ (z : ℕ). f (z, x) ≡ true) (omega arith) (h 0 x refl))
      (all_rows (suc k) xs (λ i r e. subst (λ (z : ℕ). f (z, r) ≡ true) (omega arith) (h (suc i) r e)))

  every_row : (rows : List ParamRow) → ((i : ℕ) (r : ParamRow) → slice_get rows i ≡ Some r → f (i, r) ≡ true) → list_all f (rows_from 0 rows) ≡ true
  every_row rows h = all_rows 0 rows (λ i r e. subst (λ (z : ℕ). f (z, r) ≡ true) (at_zero i) (h i r e))

  has_mapped : (k : ℕ) (rows : List ParamRow) (i n : ℕ) (r : ParamRow) → slice_get rows i ≡ Some r → n ≡ k + i → has (map f (rows_from k rows)) i ≡ f (n, r)
  has_mapped k [] i n r e m = cc
  has_mapped k (x ∷ xs) zero n r e m = λ w. f (same w, same_Some x r e w)
    where
      same : k ≡ n
      same = omega (arith, m)
  has_mapped k (x ∷ xs) (suc i) n r e m = has_mapped (suc k) xs i n r e (omega (arith, m))

  length_mapped : (k : ℕ) (rows : List ParamRow) → length (map f (rows_from k rows)) ≡ length rows
  length_mapped k [] = refl
  length_mapped k (x ∷ xs) = ap suc (length_mapped (suc k) xs)

module _ (t : CallTable) (constants : Bool) where
  -- ---- the first set

  clashes_so : (i j : ℕ) (r q : ParamRow) → i < j → Clash r.class q.class → clashes_with t (i, r) (j, q) ≡ true
  clashes_so i j r q lt c = and_true (nat_lt i j) (clash r.class q.class) ((says_below i j).1 lt) ((clash_says r.class q.class).1 c)

  abbrev comes_before_all : ℕ × ParamRow → ℕ × ParamRow → Bool
  comes_before_all q x = holds_if (clashes_with t q x) (before t.items q.0 q.1.uses x.0)

  fits_from : (i : ℕ) (r : ParamRow) → slice_get t.rows i ≡ Some r → may_be_chosen t constants (i, r) ≡ true → Fits t constants i
  fits_from i r at h = record {
    wanted = λ q e off. subst (λ (z : ParamRow). z.constant ≡ false) (same_Some r q (sym at ∙ e)) (wanted_of constants r.constant wanted_here off);
    alone = λ q e. subst (λ (z : ParamRow). IsSolo z i t.items t.body_writes) (same_Some r q (sym at ∙ e)) ((solo_says r i t.items t.body_writes).0 solo_here);
    precedes = λ j n. precedes_here j n (same_Some r n.mine (sym at ∙ n.at_mine));
  }
    where
      wanted_here : (constants || not r.constant) ≡ true
      wanted_here = left_true (constants || not r.constant) (solo r i t.items t.body_writes && list_all (comes_before_all (i, r)) (rows_from 0 t.rows)) h

      rest : (solo r i t.items t.body_writes && list_all (comes_before_all (i, r)) (rows_from 0 t.rows)) ≡ true
      rest = right_true (constants || not r.constant) (solo r i t.items t.body_writes && list_all (comes_before_all (i, r)) (rows_from 0 t.rows)) h

      solo_here : solo r i t.items t.body_writes ≡ true
      solo_here = left_true (solo r i t.items t.body_writes) (list_all (comes_before_all (i, r)) (rows_from 0 t.rows)) rest

      precedes_here : (j : ℕ) (n : ClashNeeds t i j) → r ≡ n.mine → IsBefore t.items i n.mine.uses j
      precedes_here j n same =
          subst (λ (z : ParamRow). IsBefore t.items i z.uses j) same
          ((before_says t.items i r.uses j).0
          (then_true (clashes_with t (i, r) (j, n.other)) (before t.items i r.uses j)
          (passes_at (comes_before_all (i, r)) 0 t.rows j j n.other (right_true (solo r i t.items t.body_writes) (list_all (comes_before_all (i, r)) (rows_from 0 t.rows)) rest) n.at_other (at_zero j))
          (clashes_so i j r n.other n.later (subst (λ (z : ParamRow). Clash z.class n.other.class) (sym same) n.clashes))))

  abbrev clash_of : (i j : ℕ) (r q : ParamRow) → slice_get t.rows i ≡ Some r → slice_get t.rows j ≡ Some q → clashes_with t (i, r) (j, q) ≡ true → ClashNeeds t i j
  clash_of i j r q at_i at_j h = record {
    later = (says_below i j).0 (left_true (nat_lt i j) (clash r.class q.class) h);
    mine = r;
    other = q;
    at_mine = at_i;
    at_other = at_j;
    clashes = (clash_says r.class q.class).0 (right_true (nat_lt i j) (clash r.class q.class) h);
  }

  fits_to : (i : ℕ) (r : ParamRow) → slice_get t.rows i ≡ Some r → Fits t constants i → may_be_chosen t constants (i, r) ≡ true
  fits_to i r at f =
      and_true (constants || not r.constant) (solo r i t.items t.body_writes && list_all (comes_before_all (i, r)) (rows_from 0 t.rows)) (wanted_to constants r.constant (f.wanted r at))
      (and_true (solo r i t.items t.body_writes) (list_all (comes_before_all (i, r)) (rows_from 0 t.rows)) ((solo_says r i t.items t.body_writes).1 (f.alone r at))
      (every_row (comes_before_all (i, r)) t.rows
      (λ j q e. if_true (clashes_with t (i, r) (j, q)) (before t.items i r.uses j) (λ c. (before_says t.items i r.uses j).1 (f.precedes j (clash_of i j r q at e c))))))

  first_open : IsOpen t constants (first_kept t constants)
  first_open = open_fits t constants (first_kept t constants) (length_mapped (may_be_chosen t constants) 0 t.rows) here
    where
      by_row : (i : ℕ) → (r : ParamRow) × (slice_get t.rows i ≡ Some r) → (has (first_kept t constants) i ≡ true → Fits t constants i) × (Fits t constants i → has (first_kept t constants) i ≡ true)
      by_row i (r, e) =
          let same : has (first_kept t constants) i ≡ may_be_chosen t constants (i, r) = has_mapped (may_be_chosen t constants) 0 t.rows i i r e (at_zero i) in
          (λ h. fits_from i r e (sym same ∙ h), λ f. same ∙ fits_to i r e f)

      here : (i : ℕ) → i < length t.rows → (has (first_kept t constants) i ≡ true → Fits t constants i) × (Fits t constants i → has (first_kept t constants) i ≡ true)
      here i lt = by_row i (row_at t.rows i lt)

  -- ---- one strike

  module _ (kept : List Bool) where
    has_struck : (k : ℕ) (rows : List ParamRow) (bs : List Bool) (i n : ℕ) (r : ParamRow) → length bs ≡ length rows → slice_get rows i ≡ Some r → n ≡ k + i
        → has (struck t kept (rows_from k rows) bs) i ≡ (has bs i && needs_met t kept (n, r))
    has_struck k [] bs i n r l e m = cc
    has_struck k (x ∷ xs) [] i n r l e m = absurd (omega (arith, l))
    has_struck k (x ∷ xs) (b ∷ bs) zero n r l e m = λ w. b && needs_met t kept (same w, same_Some x r e w)
      where
        same : k ≡ n
        same = omega (arith, m)
    has_struck k (x ∷ xs) (b ∷ bs) (suc i) n r l e m = has_struck (suc k) xs bs i n r (omega (arith, l)) e (omega (arith, m))

    length_struck : (k : ℕ) (rows : List ParamRow) (bs : List Bool) → length bs ≡ length rows → length (struck t kept (rows_from k rows) bs) ≡ length rows
    length_struck k [] bs l = refl
    length_struck k (x ∷ xs) [] l = absurd (omega (arith, l))
    length_struck k (x ∷ xs) (b ∷ bs) l = ap suc (length_struck (suc k) xs bs (omega (arith, l)))

    met_at : (k : ℕ) (rows : List ParamRow) (bs : List Bool) (i n : ℕ) (r : ParamRow) → length bs ≡ length rows → all_met t kept (rows_from k rows) bs ≡ true → slice_get rows i ≡ Some r → n ≡ k + i
        → has bs i ≡ true → needs_met t kept (n, r) ≡ true
    met_at k [] bs i n r l h e m c = cc
    met_at k (x ∷ xs) [] i n r l h e m c = absurd (omega (arith, l))
    met_at k (x ∷ xs) (b ∷ bs) zero n r l h e m c =
        (λ w. needs_met t kept (same w, sym (same_Some x r e) w)) ∙ then_true b (needs_met t kept (k, x)) (left_true (holds_if b (needs_met t kept (k, x))) (all_met t kept (rows_from (suc k) xs) bs) h) c
      where
        same : n ≡ k
        same = omega (arith, m)
    met_at k (x ∷ xs) (b ∷ bs) (suc i) n r l h e m c = met_at (suc k) xs bs i n r (omega (arith, l)) (right_true (holds_if b (needs_met t kept (k, x))) (all_met t kept (rows_from (suc k) xs) bs) h) e (omega (arith, m)) c

    abbrev clashes_met : ℕ × ParamRow → ℕ × ParamRow → Bool
    clashes_met q x = holds_if (clashes_with t q x) (has kept x.0)

    abbrev name_met : ℕ → ℕ × ℕ → Bool
    name_met i n = holds_if (nat_eq n.0 i && not (nat_eq n.1 i)) (has kept n.1)

    -- what is needed is kept, where the needs are met
    needed_kept : (i j : ℕ) (r : ParamRow) → slice_get t.rows i ≡ Some r → needs_met t kept (i, r) ≡ true → ClashNeeds t i j ⊎ NameNeeds t i j → has kept j ≡ true
    needed_kept i j r at h (inl n) =
        let same : r ≡ n.mine = same_Some r n.mine (sym at ∙ n.at_mine) in
        then_true (clashes_with t (i, r) (j, n.other)) (has kept j)
        (passes_at (clashes_met (i, r)) 0 t.rows j j n.other (left_true (list_all (clashes_met (i, r)) (rows_from 0 t.rows)) (list_all (name_met i) t.names) h) n.at_other (at_zero j))
        (clashes_so i j r n.other n.later (subst (λ (z : ParamRow). Clash z.class n.other.class) (sym same) n.clashes))
    needed_kept i j r at h (inr n) =
        then_true (nat_eq i i && not (nat_eq j i)) (has kept j)
        (passes_all (name_met i) t.names (i, j) (right_true (list_all (clashes_met (i, r)) (rows_from 0 t.rows)) (list_all (name_met i) t.names) h) n.names)
        (and_true (nat_eq i i) (not (nat_eq j i)) ((says_same i i).1 refl) ((says_not (nat_eq j i) (says_same j i)).1 n.others))

    -- the needs of a member of a safe set that is kept whole are met
    safe_met : (s : ℕ → Bool) (i : ℕ) (r : ParamRow) → IsSafe t s → s i ≡ true → slice_get t.rows i ≡ Some r → ((k : ℕ) → s k ≡ true → has kept k ≡ true) → needs_met t kept (i, r) ≡ true
    safe_met s i r safe h at all =
        and_true (list_all (clashes_met (i, r)) (rows_from 0 t.rows)) (list_all (name_met i) t.names)
        (every_row (clashes_met (i, r)) t.rows (λ j q e. if_true (clashes_with t (i, r) (j, q)) (has kept j) (λ c. all j (needs_safe t s i j safe h (inl (clash_of i j r q at e c))))))
        (all_pass (name_met i) t.names (λ n c. if_true (nat_eq n.0 i && not (nat_eq n.1 i)) (has kept n.1) (λ d. all n.1 (needs_safe t s i n.1 safe h (inr (named n c d))))))
      where
        named : (n : ℕ × ℕ) → Contains t.names n → (nat_eq n.0 i && not (nat_eq n.1 i)) ≡ true → NameNeeds t i n.1
        named n c d = record {
          names = subst (λ (z : ℕ). Contains t.names (z, n.1)) (eqb-true n.0 i (left_true (nat_eq n.0 i) (not (nat_eq n.1 i)) d)) c;
          others = (says_not (nat_eq n.1 i) (says_same n.1 i)).0 (right_true (nat_eq n.0 i) (not (nat_eq n.1 i)) d);
        }

    open_after : IsOpen t constants kept → IsOpen t constants (struck t kept (rows_from 0 t.rows) kept)
    open_after o = record {
      len = length_struck 0 t.rows kept o.len;
      fits = λ i h. o.fits i (was i h (row_at t.rows i (subst (λ n. i < n) (length_struck 0 t.rows kept o.len) (has_within (struck t kept (rows_from 0 t.rows) kept) i h))));
      covers = λ s safe within i h. still s i safe within h (row_at t.rows i (safe.params i h));
    }
      where
        was : (i : ℕ) → has (struck t kept (rows_from 0 t.rows) kept) i ≡ true → (r : ParamRow) × (slice_get t.rows i ≡ Some r) → has kept i ≡ true
        was i h (r, e) = left_true (has kept i) (needs_met t kept (i, r)) (sym (has_struck 0 t.rows kept i i r o.len e (at_zero i)) ∙ h)

        still : (s : ℕ → Bool) (i : ℕ) → IsSafe t s → IsWithin t constants s → s i ≡ true → (r : ParamRow) × (slice_get t.rows i ≡ Some r) → has (struck t kept (rows_from 0 t.rows) kept) i ≡ true
        still s i safe within h (r, e) =
            has_struck 0 t.rows kept i i r o.len e (at_zero i)
            ∙ and_true (has kept i) (needs_met t kept (i, r)) (o.covers s safe within i h) (safe_met s i r safe h e (o.covers s safe within))

    none_lacks : IsOpen t constants kept → all_met t kept (rows_from 0 t.rows) kept ≡ true → (i j : ℕ) → ¬ Lacks t kept i j
    none_lacks o h i j l = go (row_at t.rows i (subst (λ n. i < n) o.len (has_within kept i l.keeps)))
      where
        go : (r : ParamRow) × (slice_get t.rows i ≡ Some r) → ⊥
        go (r, e) = true≢false (sym (needed_kept i j r e (met_at 0 t.rows kept i i r o.len h e (at_zero i) l.keeps) l.needs) ∙ l.out)

    -- ---- each strike strikes something out

    abbrev ones : List Bool → ℕ
    ones [] = 0
    ones (b ∷ bs) = if b then suc (ones bs) else ones bs

    one_more_fewer : (b m : Bool) (x y : ℕ) → x ≤ y → (if b && m then suc x else x) ≤ (if b then suc y else y)
    one_more_fewer true true x y h = omega (arith, h)
    one_more_fewer true false x y h = omega (arith, h)
    one_more_fewer false m x y h = h

    no_more : (k : ℕ) (rows : List ParamRow) (bs : List Bool) → ones (struck t kept (rows_from k rows) bs) ≤ ones bs
    no_more k [] bs = omega arith
    no_more k (x ∷ xs) [] = omega arith
    no_more k (x ∷ xs) (b ∷ bs) = one_more_fewer b (needs_met t kept (k, x)) (ones (struck t kept (rows_from (suc k) xs) bs)) (ones bs) (no_more (suc k) xs bs)

    one_fewer : (b m a : Bool) (x y : ℕ) → x ≤ y → (a ≡ false → x < y) → (holds_if b m && a) ≡ false → (if b && m then suc x else x) < (if b then suc y else y)
    one_fewer true true a x y h f e = let lt : x < y = f e in omega arith
    one_fewer true false a x y h f e = omega (arith, h)
    one_fewer false m a x y h f e = f e

    fewer : (k : ℕ) (rows : List ParamRow) (bs : List Bool) → all_met t kept (rows_from k rows) bs ≡ false → ones (struck t kept (rows_from k rows) bs) < ones bs
    fewer k [] bs h = cc
    fewer k (x ∷ xs) [] h = cc
    fewer k (x ∷ xs) (b ∷ bs) h =
        one_fewer b (needs_met t kept (k, x)) (all_met t kept (rows_from (suc k) xs) bs) (ones (struck t kept (rows_from (suc k) xs) bs)) (ones bs) (no_more (suc k) xs bs) (fewer (suc k) xs bs) h

  ones_within : (kept bs : List Bool) → ones kept bs ≤ length bs
  ones_within kept [] = omega arith
  ones_within kept (true ∷ bs) = let le : ones kept bs ≤ length bs = ones_within kept bs in omega arith
  ones_within kept (false ∷ bs) = let le : ones kept bs ≤ length bs = ones_within kept bs in omega arith

  none_of_none : (kept bs : List Bool) (i : ℕ) → ones kept bs ≤ 0 → has bs i ≡ true → ⊥
  none_of_none kept [] i h e = true≢false (sym e)
  none_of_none kept (true ∷ bs) i h e = omega (arith, h)
  none_of_none kept (false ∷ bs) zero h e = true≢false (sym e)
  none_of_none kept (false ∷ bs) (suc i) h e = none_of_none kept bs i h e

  -- ---- the last set

  by_needs : (n : ℕ) (kept : List Bool) (b : Bool) → all_met t kept (rows_from 0 t.rows) kept ≡ b → (all_met t kept (rows_from 0 t.rows) kept ≡ true → IsGreatest t constants (has kept))
      → (all_met t kept (rows_from 0 t.rows) kept ≡ false → IsGreatest t constants (has (strikes t n (struck t kept (rows_from 0 t.rows) kept))))
      → IsGreatest t constants (has (if b then kept else strikes t n (struck t kept (rows_from 0 t.rows) kept)))
  by_needs n kept true e f g = f e
  by_needs n kept false e f g = g e

  strikes_greatest : (n : ℕ) (kept : List Bool) → IsOpen t constants kept → ones kept kept ≤ n → IsGreatest t constants (has (strikes t n kept))
  strikes_greatest zero kept o h = greatest_open t constants kept o (λ i j l. none_of_none kept kept i h l.keeps)
  strikes_greatest (suc n) kept o h =
      by_needs n kept (all_met t kept (rows_from 0 t.rows) kept) refl (λ e. greatest_open t constants kept o (none_lacks kept o e))
      (λ e. strikes_greatest n (struck t kept (rows_from 0 t.rows) kept) (open_after kept o) (let lt : ones kept (struck t kept (rows_from 0 t.rows) kept) < ones kept kept = fewer kept 0 t.rows kept e in omega (arith, lt, h)))

  pub best_is_greatest : IsGreatest t constants (has (best t constants))
  best_is_greatest =
      strikes_greatest (length t.rows) (first_kept t constants) first_open
      (subst (λ n. ones (first_kept t constants) (first_kept t constants) ≤ n) (length_mapped (may_be_chosen t constants) 0 t.rows) (ones_within (first_kept t constants) (first_kept t constants)))
