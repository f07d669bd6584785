-- Striking out: what a set that is open keeps, and what it is in the end.
use Rattle.std.proofs.Common.{◌≡◌, ◌≢◌, ◌↔◌, IsTrue, ℕ, ◌+◌, ◌<◌, Bool, true, false, true≢false, nat_eq, nat_lt, List, length, take, drop, get_or, Some, slice_get, set, refl, sym, ap, ◌∙◌, subst, inl, inr, ◌⊎◌, arith, eq-eqb, length-set, below_more, [], ◌∷◌, ◌++◌, Option, None, MatchOption, MatchBool}
use Rattle.std.proofs.lemmas.Bool.{eqb-true, ltb-true, ltb-false}
use Rattle.std.proofs.lemmas.List.{get_or-set_same, get_or-set_other, get_or_past, get_or_append_left}
use Rattle.std.proofs.Math.Seq.{get_or-append_seam, take-append_seam}
use Rattle.std.proofs.lemmas.Option.{slice_get-get_or, same_Some}
use Rattle.order_hazards.specs.Items.{IsBefore}
use Rattle.order_hazards.specs.Solo.{IsSolo}
use Rattle.order_hazards.specs.declared.facts.Item.{Item}
use Rattle.order_hazards.specs.declared.facts.ParamRow.{ParamRow}
use Rattle.param_choice.specs.Chosen.{has}
use Rattle.param_choice.specs.Safe.{IsSafe}
use Rattle.param_choice.specs.Greatest.{IsWithin, IsGreatest}
use Rattle.param_choice.specs.Strikes.{MovesAlone, LacksOne, NoneLacks, ClashNeeds, NameNeeds, Lacks, Precedes, Fits, IsOpen}
use Rattle.param_choice.specs.declared.table.CallTable.{CallTable}

-- a member stands in the list
pub has_within : (kept : List Bool) (i : ℕ) → has kept i ≡ true → i < length kept
has_within kept i h = go (nat_lt i (length kept)) refl
  where
    go : (b : Bool) → nat_lt i (length kept) ≡ b → i < length kept
    go true e = ltb-true i (length kept) e
    go false e = absurd (true≢false (sym h ∙ get_or_past kept i false (ltb-false i (length kept) e)))

-- a place that is written to is as it was, or is the place
other_or_same : (i k : ℕ) → (k ≡ i) ⊎ (k ≢ i)
other_or_same i k = go (nat_eq k i) refl
  where
    go : (b : Bool) → nat_eq k i ≡ b → (k ≡ i) ⊎ (k ≢ i)
    go true e = inl (eqb-true k i e)
    go false e = inr (λ q. absurd (true≢false (sym (eq-eqb k i q) ∙ e)))

pub match_false : (P : Type 0) {Q : Type 0} (b : Bool) → b ≡ false → MatchBool b P Q → Q
match_false P true e m = absurd (true≢false e)
match_false P false e m = m

-- a list written over the front of one that is as long
pub take-refill : (n : ℕ) (ws xs : List Bool) → n ≡ length ws → take n (ws ++ drop (length ws) xs) ≡ ws
take-refill n ws xs e = ap (λ k. take k (ws ++ drop (length ws) xs)) e ∙ take-append_seam ws (drop (length ws) xs)

-- one more truth value
pub has_pushed : (kept : List Bool) (b : Bool) (i : ℕ) (P : ℕ → Type 0) → length kept ≡ i → ((k : ℕ) → k < i → IsTrue (has kept k) ↔ P k) → IsTrue b ↔ P i
    → (k : ℕ) → k < i + 1 → IsTrue (has (kept ++ b ∷ []) k) ↔ P k
has_pushed kept b i P len old new = below_more (λ k. IsTrue (has (kept ++ b ∷ []) k) ↔ P k) i below here
  where
    below : (k : ℕ) → k < i → IsTrue (has (kept ++ b ∷ []) k) ↔ P k
    below k h = subst (λ (z : Bool). IsTrue z ↔ P k) (sym (get_or_append_left kept (b ∷ []) false k (omega arith))) (old k h)

    here : IsTrue (has (kept ++ b ∷ []) i) ↔ P i
    here = subst (λ (z : Bool). IsTrue z ↔ P i) (sym (ap (has (kept ++ b ∷ [])) (sym len) ∙ get_or-append_seam kept b [] false)) new

module _ (t : CallTable) where
  -- the uses of i's row before those of j, which i clashes with
  pub Precedes-by : (rows : List ParamRow) (items : List Item) (d : ParamRow) (i j : ℕ) (b : Bool) → rows ≡ t.rows → items ≡ t.items → i < length t.rows
      → ClashNeeds t i j → IsTrue b ↔ IsBefore items i (get_or rows i d).uses j → IsTrue b ↔ Precedes t i j
  Precedes-by rows items d i j b same_rows same_items inside n h = (there, back)
    where
      at : slice_get t.rows i ≡ Some (get_or rows i d)
      at = slice_get-get_or t.rows i d inside ∙ ap (λ rs. Some (get_or rs i d)) (sym same_rows)

      mine : (m : ClashNeeds t i j) → get_or rows i d ≡ m.mine
      mine m = same_Some (get_or rows i d) m.mine (sym at ∙ m.at_mine)

      there : IsTrue b → Precedes t i j
      there e m = subst (λ (z : ParamRow). IsBefore t.items i z.uses j) (mine m) (subst (λ xs. IsBefore xs i (get_or rows i d).uses j) same_items (h.0 e))

      back : Precedes t i j → IsTrue b
      back p = h.1 (subst (λ xs. IsBefore xs i (get_or rows i d).uses j) (sym same_items) (subst (λ (z : ParamRow). IsBefore t.items i z.uses j) (sym (mine n)) (p n)))

  -- no clash lacks, and what the names lack
  pub lacks_by_name : (kept : List Bool) (r : Option ℕ) → NoneLacks (ClashNeeds t) kept
      → MatchOption r (NoneLacks (NameNeeds t) kept) (LacksOne (NameNeeds t) kept)
      → MatchOption r ((i j : ℕ) → ¬ Lacks t kept i j) (λ i. (j : ℕ) × Lacks t kept i j)
  lacks_by_name kept None clash name = λ i j l. go i j l l.needs
    where
      go : (i j : ℕ) → Lacks t kept i j → ClashNeeds t i j ⊎ NameNeeds t i j → ⊥
      go i j l (inl n) = true≢false (sym (clash i j l.keeps n) ∙ l.out)
      go i j l (inr n) = true≢false (sym (name i j l.keeps n) ∙ l.out)
  lacks_by_name kept (Some i) clash h = (h.1, record { keeps = h.0; out = h.2; needs = inr h.3 })

  -- a parameter that is needed is in each safe set with the one that needs it
  pub needs_safe : (s : ℕ → Bool) (i j : ℕ) → IsSafe t s → IsTrue (s i) → ClashNeeds t i j ⊎ NameNeeds t i j → IsTrue (s j)
  needs_safe s i j safe h (inl n) = (safe.ordered i j n.mine n.other h n.later n.at_mine n.at_other n.clashes).0
  needs_safe s i j safe h (inr n) = safe.named i j h n.names n.others

  -- what is in a safe set fits
  pub fits_safe : (constants : Bool) (s : ℕ → Bool) (i : ℕ) → IsSafe t s → IsWithin t constants s → IsTrue (s i) → Fits t constants i
  fits_safe constants s i safe within h = record {
    wanted = λ r at off. within off i r h at;
    alone = λ r at. safe.alone i r h at;
    precedes = λ j n. (safe.ordered i j n.mine n.other h n.later n.at_mine n.at_other n.clashes).1;
  }

  -- a parameter fits where its row moves alone and its uses come before those that it clashes with
  pub Fits-by : (rows : List ParamRow) (d : ParamRow) (constants : Bool) (i : ℕ) → rows ≡ t.rows → i < length t.rows
      → MovesAlone t constants i (get_or rows i d) × ((j : ℕ) → Precedes t i j) ↔ Fits t constants i
  Fits-by rows d constants i same_rows inside = (there, back)
    where
      at : slice_get t.rows i ≡ Some (get_or rows i d)
      at = slice_get-get_or t.rows i d inside ∙ ap (λ rs. Some (get_or rs i d)) (sym same_rows)

      mine : (q : ParamRow) → slice_get t.rows i ≡ Some q → get_or rows i d ≡ q
      mine q e = same_Some (get_or rows i d) q (sym at ∙ e)

      there : MovesAlone t constants i (get_or rows i d) × ((j : ℕ) → Precedes t i j) → Fits t constants i
      there h = record {
        wanted = λ q e off. subst (λ (z : ParamRow). z.constant ≡ false) (mine q e) (h.0.0 off);
        alone = λ q e. subst (λ (z : ParamRow). IsSolo z i t.items t.body_writes) (mine q e) h.0.1;
        precedes = h.1;
      }

      back : Fits t constants i → MovesAlone t constants i (get_or rows i d) × ((j : ℕ) → Precedes t i j)
      back f = (((λ off. f.wanted (get_or rows i d) at off), f.alone (get_or rows i d) at), f.precedes)

  -- both tests pass where the parameter fits
  pub both_pass : (rows : List ParamRow) (d : ParamRow) (constants : Bool) (i : ℕ) (m b : Bool) → rows ≡ t.rows → i < length t.rows
      → IsTrue m ↔ MovesAlone t constants i (get_or rows i d) → m ≡ true → IsTrue b ↔ ((j : ℕ) → Precedes t i j) → IsTrue b ↔ Fits t constants i
  both_pass rows d constants i m b same_rows inside alone e h =
      let f = Fits-by rows d constants i same_rows inside in ((λ p. f.0 (alone.0 e, h.0 p)), (λ q. h.1 (f.1 q).1))

  -- the first test fails where the parameter does not fit
  pub first_fails : (rows : List ParamRow) (d : ParamRow) (constants : Bool) (i : ℕ) (m : Bool) → rows ≡ t.rows → i < length t.rows
      → IsTrue m ↔ MovesAlone t constants i (get_or rows i d) → m ≡ false → IsTrue m ↔ Fits t constants i
  first_fails rows d constants i m same_rows inside alone e =
      ((λ p. absurd (true≢false (sym p ∙ e))), (λ q. alone.1 ((Fits-by rows d constants i same_rows inside).1 q).0))

  -- a parameter that a kept one needs is kept, where nothing lacks
  kept_needed : (kept : List Bool) → ((i j : ℕ) → ¬ Lacks t kept i j) → (i j : ℕ) → has kept i ≡ true → ClashNeeds t i j ⊎ NameNeeds t i j → has kept j ≡ true
  kept_needed kept none i j h n = go (has kept j) refl
    where
      go : (b : Bool) → has kept j ≡ b → has kept j ≡ true
      go true e = e
      go false e = absurd (none i j (record { keeps = h; out = e; needs = n }))

  -- with nothing lacking, an open set is the greatest
  pub greatest_open : (constants : Bool) (kept : List Bool) → IsOpen t constants kept → ((i j : ℕ) → ¬ Lacks t kept i j) → IsGreatest t constants (has kept)
  greatest_open constants kept open' none = record {
    safe = record {
      params = λ i h. subst (λ n. i < n) open'.len (has_within kept i h);
      alone = λ i r h at. (open'.fits i h).alone r at;
      ordered = λ i j r q h lt at_i at_j clash.
          let n : ClashNeeds t i j = record { later = lt; mine = r; other = q; at_mine = at_i; at_other = at_j; clashes = clash } in
          (kept_needed kept none i j h (inl n), (open'.fits i h).precedes j n);
      named = λ i j h names others. kept_needed kept none i j h (inr (record { names = names; others = others }));
    };
    within = λ off i r h at. (open'.fits i h).wanted r at off;
    greatest = λ u safe within i h. open'.covers u safe within i h;
  }

  -- what lacks a parameter is in no safe set
  pub open_struck : (constants : Bool) (kept : List Bool) (i j : ℕ) → IsOpen t constants kept → Lacks t kept i j → IsOpen t constants (set kept i false)
  open_struck constants kept i j open' lacks = record {
    len = length-set kept i false ∙ open'.len;
    fits = λ k h. open'.fits k (was k h);
    covers = λ s safe within k h. still s safe within k h (other_or_same i k);
  }
    where
      was : (k : ℕ) → has (set kept i false) k ≡ true → has kept k ≡ true
      was k h = go (other_or_same i k)
        where
          go : (k ≡ i) ⊎ (k ≢ i) → has kept k ≡ true
          go (inl e) = absurd (true≢false (sym h ∙ ap (has (set kept i false)) e ∙ get_or-set_same kept i false false (has_within kept i lacks.keeps)))
          go (inr ne) = sym (get_or-set_other kept i k false false ne) ∙ h

      still : (s : ℕ → Bool) → IsSafe t s → IsWithin t constants s → (k : ℕ) → s k ≡ true → (k ≡ i) ⊎ (k ≢ i) → has (set kept i false) k ≡ true
      still s safe within k h (inl e) =
          let needed : s j ≡ true = needs_safe s i j safe (sym (ap s e) ∙ h) lacks.needs in
          absurd (true≢false (sym (open'.covers s safe within j needed) ∙ lacks.out))
      still s safe within k h (inr ne) = get_or-set_other kept i k false false ne ∙ open'.covers s safe within k h

  -- the parameters that fit are the first open set
  pub open_fits : (constants : Bool) (kept : List Bool) → length kept ≡ length t.rows → ((i : ℕ) → i < length t.rows → IsTrue (has kept i) ↔ Fits t constants i) → IsOpen t constants kept
  open_fits constants kept len fits = record {
    len = len;
    fits = λ i h. (fits i (subst (λ n. i < n) len (has_within kept i h))).0 h;
    covers = λ s safe within i h. (fits i (safe.params i h)).1 (fits_safe constants s i safe within h);
  }
