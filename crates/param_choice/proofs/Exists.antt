-- Each table has a greatest safe set: striking out ends, since each condition holds or fails.
use Rattle.std.proofs.Common.{◌≡◌, ◌≢◌, ◌↔◌, ◌⊎◌, inl, inr, ℕ, zero, suc, ◌+◌, ◌<◌, ◌≤◌, Bool, true, false, true≢false, cond, IsTrue, List, [], ◌∷◌, ◌++◌, length, get_or, set, Option, Some, None, slice_get, refl, sym, ap, ◌∙◌, subst, length-append, arith}
use Rattle.std.specs.List.{count_by}
use Rattle.std.proofs.lemmas.List.Sums.{sum_by-set}
use Rattle.std.proofs.lemmas.Option.{slice_get_within, same_Some}
use Rattle.std.proofs.lemmas.List.{get_or_default}
use Rattle.order_hazards.specs.Items.{IsBefore}
use Rattle.order_hazards.specs.Clash.{Clash}
use Rattle.order_hazards.specs.declared.facts.ParamRow.{ParamRow}
use Rattle.order_hazards.proofs.Decided.{Decided, decided_both, decided_where, decided_not, decided_by, true_decided, false_decided, same_decided, below_decided, Clash-decided, IsBefore-decided, IsSolo-decided}
use Rattle.param_choice.specs.Chosen.{has}
use Rattle.param_choice.specs.Greatest.{IsGreatest}
use Rattle.param_choice.specs.Strikes.{ClashNeeds, NameNeeds, Lacks, Precedes, Fits, IsOpen}
use Rattle.param_choice.specs.declared.table.CallTable.{CallTable}
use Rattle.param_choice.proofs.Striking.{has_within, has_pushed, open_struck, greatest_open, open_fits, Fits-by}

-- a number below n has the property, or none has
some_below : (P : ℕ → Type 0) → ((i : ℕ) → Decided (P i)) → (n : ℕ) → ((i : ℕ) × (i < n) × P i) ⊎ ((i : ℕ) → i < n → P i → ⊥)
some_below P d zero = inr (λ i h p. omega arith)
some_below P d (suc n) = go (d n) (some_below P d n)
  where
    go : Decided (P n) → ((i : ℕ) × (i < n) × P i) ⊎ ((i : ℕ) → i < n → P i → ⊥) → ((i : ℕ) × (i < suc n) × P i) ⊎ ((i : ℕ) → i < suc n → P i → ⊥)
    go (inl p) s = inl (n, omega arith, p)
    go (inr fails) (inl s) = inl (s.0, (let lt : s.0 < n = s.1 in omega arith), s.2)
    go (inr fails) (inr none) = inr (λ i h p. last i h p (below_decided i n))
      where
        last : (i : ℕ) → i < suc n → P i → Decided (i < n) → ⊥
        last i h p (inl lt) = none i lt p
        last i h p (inr ge) = fails (subst P (let ge' : i < n → ⊥ = ge in omega arith) p)

-- the property of every number, where it holds from n on
all_decided : (P : ℕ → Type 0) → ((i : ℕ) → Decided (P i)) → (n : ℕ) → ((i : ℕ) → (i < n → ⊥) → P i) → Decided ((i : ℕ) → P i)
all_decided P d n past = go (some_below (λ i. P i → ⊥) (λ i. decided_not (d i)) n)
  where
    go : ((i : ℕ) × (i < n) × (P i → ⊥)) ⊎ ((i : ℕ) → i < n → (P i → ⊥) → ⊥) → Decided ((i : ℕ) → P i)
    go (inl s) = inr (λ f. s.2 (f s.0))
    go (inr none) = inl (λ i. at i (d i))
      where
        at : (i : ℕ) → Decided (P i) → P i
        at i (inl p) = p
        at i (inr fails) = past i (λ lt. none i lt fails)

-- some element of a list that has one
element : {X : Type 0} (xs : List X) (i : ℕ) → i < length xs → X
element [] i h = absurd (omega arith)
element (x ∷ xs) i h = x

module _ (t : CallTable) where
  ClashNeeds-decided : (i j : ℕ) → Decided (ClashNeeds t i j)
  ClashNeeds-decided i j = go (slice_get t.rows i) refl (slice_get t.rows j) refl
    where
      go : (a : Option ParamRow) → slice_get t.rows i ≡ a → (b : Option ParamRow) → slice_get t.rows j ≡ b → Decided (ClashNeeds t i j)
      go None e b f = inr (λ n. let fails : None ≡ Some n.mine = sym e ∙ n.at_mine in cc)
      go (Some r) e None f = inr (λ n. let fails : None ≡ Some n.other = sym f ∙ n.at_other in cc)
      go (Some r) e (Some q) f =
          decided_by (λ h. record { later = h.0; mine = r; other = q; at_mine = e; at_other = f; clashes = h.1 })
          (λ (n : ClashNeeds t i j). (n.later, subst (λ (z : ParamRow). Clash r.class z.class) (same_Some n.other q (sym n.at_other ∙ f)) (subst (λ (z : ParamRow). Clash z.class n.other.class) (same_Some n.mine r (sym n.at_mine ∙ e)) n.clashes)))
          (decided_both (below_decided i j) (Clash-decided r.class q.class))

  Precedes-decided : (i j : ℕ) → Decided (Precedes t i j)
  Precedes-decided i j = go (ClashNeeds-decided i j)
    where
      go : Decided (ClashNeeds t i j) → Decided (Precedes t i j)
      go (inr fails) = inl (λ n. absurd (fails n))
      go (inl n) =
          decided_by (λ h m. subst (λ (z : ParamRow). IsBefore t.items i z.uses j) (same_Some n.mine m.mine (sym n.at_mine ∙ m.at_mine)) h) (λ (p : Precedes t i j). p n)
          (IsBefore-decided t.items i n.mine.uses j)

  Fits-decided : (constants : Bool) (i : ℕ) → i < length t.rows → ParamRow → Decided (Fits t constants i)
  Fits-decided constants i inside d =
      let r = get_or t.rows i d in
      let f = Fits-by t t.rows d constants i refl inside in
      decided_by (λ h. f.0 (h.0, h.1)) (λ (q : Fits t constants i). let g = f.1 q in (g.0, g.1))
      (decided_both (decided_both (decided_where (false_decided constants) (false_decided r.constant)) (IsSolo-decided r i t.items t.body_writes))
      (all_decided (Precedes t i) (Precedes-decided i) (length t.rows) (λ j past n. absurd (past (slice_get_within t.rows j n.other n.at_other)))))

  -- a kept parameter lacks one that it needs, or none does
  module _ (kept : List Bool) where
    abbrev Missing : ℕ → ℕ → Type 0
    Missing i j = (has kept j ≡ false) × (ClashNeeds t i j)

    -- the pair at this place of the names is one of i with another parameter that is out
    abbrev MissingAt : ℕ → ℕ → Type 0
    MissingAt i k = let p = get_or t.names k (0, 0) in ((p.0 ≡ i) × (p.1 ≢ i)) × (has kept p.1 ≡ false)

    MissingAt-decided : (i k : ℕ) → Decided (MissingAt i k)
    MissingAt-decided i k =
        let p = get_or t.names k (0, 0) in
        decided_both (decided_both (same_decided p.0 i) (decided_not (same_decided p.1 i))) (false_decided (has kept p.1))

    named : (i k : ℕ) → k < length t.names → MissingAt i k → (j : ℕ) × (has kept j ≡ false) × NameNeeds t i j
    named i k lt m =
        let p = get_or t.names k (0, 0) in
        let same : get_or t.names k (i, p.1) ≡ (i, p.1) =
        get_or_default t.names k (i, p.1) (0, 0) lt ∙ ap (λ n. (n, p.1)) m.0.0 in
        (p.1, m.1, record { names = (k, lt, same); others = m.0.1 })

    unnamed : (i j : ℕ) → ((k : ℕ) → k < length t.names → MissingAt i k → ⊥) → has kept j ≡ false → NameNeeds t i j → ⊥
    unnamed i j none out n =
        let k = n.names.0 in
        let same : get_or t.names k (0, 0) ≡ (i, j) = get_or_default t.names k (0, 0) (i, j) n.names.1 ∙ n.names.2 in
        let Out : ℕ × ℕ → Type 0 = λ p. ((p.0 ≡ i) × (p.1 ≢ i)) × (has kept p.1 ≡ false) in
        none k n.names.1 (subst Out (sym same) ((refl, n.others), out))

    abbrev LacksSome : ℕ → Type 0
    LacksSome i = (j : ℕ) × Lacks t kept i j

    clash_out : (i j : ℕ) → ((j : ℕ) → j < length t.rows → Missing i j → ⊥) → has kept j ≡ false → ClashNeeds t i j → ⊥
    clash_out i j none out n = none j (slice_get_within t.rows j n.other n.at_other) (out, n)

    LacksSome-decided : (i : ℕ) → Decided (LacksSome i)
    LacksSome-decided i =
        go (true_decided (has kept i)) (some_below (Missing i) (λ j. decided_both (false_decided (has kept j)) (ClashNeeds-decided i j)) (length t.rows))
        (some_below (MissingAt i) (MissingAt-decided i) (length t.names))
      where
        go : Decided (has kept i ≡ true) → ((j : ℕ) × (j < length t.rows) × Missing i j) ⊎ ((j : ℕ) → j < length t.rows → Missing i j → ⊥)
            → ((k : ℕ) × (k < length t.names) × MissingAt i k) ⊎ ((k : ℕ) → k < length t.names → MissingAt i k → ⊥) → Decided (LacksSome i)
        go (inr out) c n = inr (λ l. out l.1.keeps)
        go (inl in_it) (inl c) n = inl (c.0, record { keeps = in_it; out = c.2.0; needs = inl c.2.1 })
        go (inl in_it) (inr c) (inl n) = let m = named i n.0 n.1 n.2 in inl (m.0, record { keeps = in_it; out = m.1; needs = inr m.2 })
        go (inl in_it) (inr c) (inr n) = inr (λ l. neither l.0 l.1.out l.1.needs)
          where
            neither : (j : ℕ) → has kept j ≡ false → ClashNeeds t i j ⊎ NameNeeds t i j → ⊥
            neither j out (inl a) = clash_out i j c out a
            neither j out (inr b) = unnamed i j n out b

    some_lacks : ((i : ℕ) × LacksSome i) ⊎ ((i j : ℕ) → ¬ Lacks t kept i j)
    some_lacks = go (some_below LacksSome LacksSome-decided (length kept))
      where
        go : ((i : ℕ) × (i < length kept) × LacksSome i) ⊎ ((i : ℕ) → i < length kept → LacksSome i → ⊥) → ((i : ℕ) × LacksSome i) ⊎ ((i j : ℕ) → ¬ Lacks t kept i j)
        go (inl s) = inl (s.0, s.2)
        go (inr none) = inr (λ i j l. none i (has_within kept i l.keeps) (j, l))

  module _ (constants : Bool) where
    -- how many are kept
    abbrev left : List Bool → ℕ
    left kept = count_by (λ b. b) kept

    weight : Bool → ℕ
    weight b = cond b 1 0

    one_less : (kept : List Bool) (i : ℕ) → has kept i ≡ true → left (set kept i false) + 1 ≡ left kept
    unfolding weight
    one_less kept i h =
        let one : weight (has kept i) ≡ 1 = ap weight h in
        omega (arith, sum_by-set weight kept i false false (has_within kept i h), one)

    abbrev Found : Type 0
    Found = (s : ℕ → Bool) × IsGreatest t constants s

    -- with nothing lacking the set is found, else one fewer is left
    struck_or_done : (kept : List Bool) → IsOpen t constants kept → ((i j : ℕ) → Lacks t kept i j → left (set kept i false) + 1 ≡ left kept → IsOpen t constants (set kept i false) → Found) → Found
    struck_or_done kept is_open more = go (some_lacks kept)
      where
        go : ((i : ℕ) × LacksSome kept i) ⊎ ((i j : ℕ) → ¬ Lacks t kept i j) → Found
        go (inl s) = more s.0 s.1.0 s.1.1 (one_less kept s.0 s.1.1.keeps) (open_struck t constants kept s.0 s.1.0 is_open s.1.1)
        go (inr none) = (has kept, greatest_open t constants kept is_open none)

    ends : (n : ℕ) (kept : List Bool) → left kept ≤ n → IsOpen t constants kept → Found
    ends zero kept few is_open = struck_or_done kept is_open (λ i j lacks less o. absurd (omega arith))
    ends (suc n) kept few is_open = struck_or_done kept is_open (λ i j lacks less o. ends n (set kept i false) (omega arith) o)

    test_of : {P : Type 0} → Decided P → (b : Bool) × (IsTrue b ↔ P)
    test_of (inl p) = (true, ((λ e. p), (λ q. refl)))
    test_of (inr fails) = (false, ((λ e. absurd (true≢false (sym e))), (λ q. absurd (fails q))))

    first_open : (n : ℕ) → n ≤ length t.rows → (kept : List Bool) × (length kept ≡ n) × ((i : ℕ) → i < n → IsTrue (has kept i) ↔ Fits t constants i)
    first_open zero h = ([], refl, λ i lt. absurd (omega arith))
    first_open (suc n) h =
        let k = first_open n (omega arith) in
        let lt : n < length t.rows = omega arith in
        let r = element t.rows n lt in
        let b = test_of (Fits-decided constants n lt r) in (
          k.0 ++ b.0 ∷ [],
          omega (arith, length-append k.0 (b.0 ∷ []), k.1),
          λ i lt. has_pushed k.0 b.0 n (Fits t constants) k.1 k.2 b.1 i (omega arith),
        )

    pub IsGreatest-exists : (s : ℕ → Bool) × IsGreatest t constants s
    IsGreatest-exists =
        let k = first_open (length t.rows) (omega arith) in
        ends (left k.0) k.0 (omega arith) (open_fits t constants k.0 k.1 k.2)
