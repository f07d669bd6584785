-- A walk along imports.
use Rattle.std.proofs.Common.{◌≡◌, ◌∙◌, ◌<◌, ◌+◌, ◌==◌, ◌⊎◌, inl, inr, ℕ, zero, suc, Bool, true, false, ◌||◌, ◌&&◌, not, List, [], ◌∷◌, ◌++◌, length, refl, sym, ap, subst, arith, slice_index_or, slice_set, take, replicate}
use Rattle.std.proofs.Common.{rules}
use Rattle.std.specs.Bool.{OnFalse}
use Rattle.std.proofs.lemmas.Bool.{true≢false}
use Rattle.std.proofs.lemmas.List.{get_or-set_same, get_or-set_other}
use Rattle.std.proofs.lemmas.List.Folds.{list_any_more}
use Rattle.pkg_graph.specs.ImportOrder.Numbers.{is_among, row, is_marked, unmarked, Reaches, straight, over, IsWalk}
use Rattle.pkg_graph.proofs.ImportOrder.NumberLaws.{among_same, among_push, among_last, among_kept, self_same}
use Rattle.pkg_graph.proofs.ImportOrder.OpenLaws.{or_true, or_false, differ}

-- ---- marks

pub one_fewer : (bs : List Bool) (k : ℕ) → k < length bs → is_marked bs k ≡ false → unmarked (slice_set bs k true) + 1 ≡ unmarked bs
one_fewer [] k h e = absurd (omega (arith, h))
one_fewer (false ∷ bs) zero h e = omega arith
one_fewer (true ∷ bs) zero h e = absurd (true≢false e)
one_fewer (true ∷ bs) (suc k) h e = let l : k < length bs = omega (arith, h) in one_fewer bs k l e
one_fewer (false ∷ bs) (suc k) h e = let l : k < length bs = omega (arith, h) in let f = one_fewer bs k l e in omega (arith, f)

marked_by : (marks : List Bool) (k m : ℕ) (t : Bool) → (k == m) ≡ t → k < length marks → is_marked (slice_set marks k true) m ≡ (is_marked marks m || t)
marked_by marks k m true e h = subst (λ i. is_marked (slice_set marks k true) i ≡ (is_marked marks i || true)) (among_same k m e) (get_or-set_same marks k true false h ∙ sym (or_true (is_marked marks k)))
marked_by marks k m false e h = get_or-set_other marks k m true false (differ k m e) ∙ sym (or_false (is_marked marks m))

pub marked_one : (marks : List Bool) (k : ℕ) → k < length marks → (m : ℕ) → is_marked (slice_set marks k true) m ≡ (is_marked marks m || (k == m))
marked_one marks k h m = marked_by marks k m (k == m) refl h

walked_by : (marks : List Bool) (walk : List ℕ) (k m : ℕ) (t : Bool) → (k == m) ≡ t → is_marked marks k ≡ false → (is_among walk m || t) ≡ (is_among walk m || (t && not (is_marked marks m)))
walked_by marks walk k m true e h = ap (λ b. is_among walk m || not b) (sym (ap (is_marked marks) (sym (among_same k m e)) ∙ h))
walked_by marks walk k m false e h = refl

pub walked_one : (marks : List Bool) (walk : List ℕ) (k : ℕ) → is_marked marks k ≡ false → (m : ℕ) → is_among (walk ++ k ∷ []) m ≡ (is_among walk m || (k == m && not (is_marked marks m)))
walked_one marks walk k h m = among_push walk k m ∙ walked_by marks walk k m (k == m) refl h

-- nothing changes where the number is marked
stays_by : (marks : List Bool) (k m : ℕ) (t : Bool) → (k == m) ≡ t → is_marked marks k ≡ true → is_marked marks m ≡ (is_marked marks m || t)
stays_by marks k m true e h = ap (is_marked marks) (sym (among_same k m e)) ∙ h ∙ sym (or_true (is_marked marks m))
stays_by marks k m false e h = sym (or_false (is_marked marks m))

pub stays_marked : (marks : List Bool) (k : ℕ) → is_marked marks k ≡ true → (m : ℕ) → is_marked marks m ≡ (is_marked marks m || (k == m))
stays_marked marks k h m = stays_by marks k m (k == m) refl h

unwalked_by : (marks : List Bool) (walk : List ℕ) (k m : ℕ) (t : Bool) → (k == m) ≡ t → is_marked marks k ≡ true → is_among walk m ≡ (is_among walk m || (t && not (is_marked marks m)))
unwalked_by marks walk k m true e h = sym (ap (λ b. is_among walk m || not b) (ap (is_marked marks) (sym (among_same k m e)) ∙ h) ∙ or_false (is_among walk m))
unwalked_by marks walk k m false e h = sym (or_false (is_among walk m))

pub stays_walked : (marks : List Bool) (walk : List ℕ) (k : ℕ) → is_marked marks k ≡ true → (m : ℕ) → is_among walk m ≡ (is_among walk m || (k == m && not (is_marked marks m)))
stays_walked marks walk k h m = unwalked_by marks walk k m (k == m) refl h

-- ---- one number after another

or_assoc : (a b c : Bool) → (a || b) || c ≡ a || (b || c)
or_assoc true b c = refl
or_assoc false b c = refl

among_more : (xs : List ℕ) (i m : ℕ) → i < length xs → is_among (take (i + 1) xs) m ≡ (is_among (take i xs) m || (slice_index_or xs i 0 == m))
among_more xs i m h = list_any_more (λ k. k == m) xs i 0 h

pub marked_more : (xs : List ℕ) (i : ℕ) → i < length xs → (first now after : List Bool)
    → ((m : ℕ) → is_marked now m ≡ (is_marked first m || is_among (take i xs) m)) → ((m : ℕ) → is_marked after m ≡ (is_marked now m || (slice_index_or xs i 0 == m)))
    → (m : ℕ) → is_marked after m ≡ (is_marked first m || is_among (take (i + 1) xs) m)
marked_more xs i h first now after f g m = g m ∙ ap (λ b. b || (slice_index_or xs i 0 == m)) (f m) ∙ or_assoc (is_marked first m) (is_among (take i xs) m) (slice_index_or xs i 0 == m) ∙ ap (λ b. is_marked first m || b) (sym (among_more xs i m h))

mixed_by : (w t e f : Bool) → (w || (t && not f)) || (e && not (f || t)) ≡ w || ((t || e) && not f)
mixed_by true t e f = refl
mixed_by false true true true = refl
mixed_by false true true false = refl
mixed_by false true false true = refl
mixed_by false true false false = refl
mixed_by false false true true = refl
mixed_by false false true false = refl
mixed_by false false false true = refl
mixed_by false false false false = refl

pub walked_more : (xs : List ℕ) (i : ℕ) → i < length xs → (first now : List Bool) (begun walk next : List ℕ)
    → ((m : ℕ) → is_marked now m ≡ (is_marked first m || is_among (take i xs) m))
    → ((m : ℕ) → is_among walk m ≡ (is_among begun m || (is_among (take i xs) m && not (is_marked first m))))
    → ((m : ℕ) → is_among next m ≡ (is_among walk m || (slice_index_or xs i 0 == m && not (is_marked now m))))
    → (m : ℕ) → is_among next m ≡ (is_among begun m || (is_among (take (i + 1) xs) m && not (is_marked first m)))
walked_more xs i h first now begun walk next f g k m =
    let x = slice_index_or xs i 0 == m in
    let t = is_among (take i xs) m in
    k m ∙ ap (λ b. b || (x && not (is_marked now m))) (g m) ∙ ap (λ b. (is_among begun m || (t && not (is_marked first m))) || (x && not b)) (f m)
    ∙ mixed_by (is_among begun m) t x (is_marked first m) ∙ ap (λ b. is_among begun m || (b && not (is_marked first m))) (sym (among_more xs i m h))

-- ---- what imports lead to

row_by : (links : List (List ℕ)) (i j : ℕ) → is_among (row links i) j ≡ true → i < length links
row_by [] i j e = absurd (true≢false (sym e))
row_by (r ∷ rs) zero j e = omega arith
row_by (r ∷ rs) (suc i) j e = let h : i < length rs = row_by rs i j e in omega (arith, h)

module _ (links : List (List ℕ)) where
  pub reaches_within : (i j : ℕ) → Reaches links i j → i < length links
  reaches_within _ _ (straight i j e) = row_by links i j e
  reaches_within _ _ (over i k j e r) = row_by links i k e

  -- one import further
  pub reaches_more : (i k j : ℕ) → Reaches links i k → is_among (row links k) j ≡ true → Reaches links i j
  reaches_more _ _ j (straight i k e) f = over i k j e (straight k j f)
  reaches_more _ _ j (over i m k e r) f = over i m j e (reaches_more m k j r f)

  -- what holds of all that is imported holds of all that imports lead to
  pub reaches_all : (from : ℕ → Type 0) → ((k m : ℕ) → from k → is_among (row links k) m ≡ true → from m) → (i j : ℕ) → from i → Reaches links i j → from j
  reaches_all from f _ _ h (straight i j e) = f i j h e
  reaches_all from f _ _ h (over i k j e r) = reaches_all from f k j (f i k h e) r

  -- imports that lead somewhere end in one
  pub reaches_last : (i j : ℕ) → Reaches links i j → (P : Type 0) → (is_among (row links i) j ≡ true → P) → ((k : ℕ) → Reaches links i k → is_among (row links k) j ≡ true → P) → P
  reaches_last _ _ (straight i j e) P f g = f e
  reaches_last _ _ (over i k j e r) P f g = reaches_last k j r P (λ h. g k (straight i k e) h) (λ m s h. g m (over i k m e s) h)

-- ---- the walk from one package

pub split_or : (a b : Bool) → (a || b) ≡ true → (a ≡ true) ⊎ (b ≡ true)
split_or true b e = inl e
split_or false b e = inr e

both_left : (a b : Bool) → (a && b) ≡ true → a ≡ true
both_left true b e = refl
both_left false b e = absurd (true≢false (sym e))

pub never_marked : (count m : ℕ) → is_marked (replicate count false) m ≡ false
never_marked zero m = refl
never_marked (suc n) zero = refl
never_marked (suc n) (suc m) = never_marked n m

module _ (links : List (List ℕ)) (start : ℕ) where
  abbrev IsSeen : List Bool → ℕ → Type 0
  IsSeen marks m = (m ≡ start) ⊎ (is_marked marks m ≡ true)

  seen_more : (old new : List Bool) (rest : List ℕ) → ((m : ℕ) → is_marked new m ≡ (is_marked old m || is_among rest m)) → (m : ℕ) → IsSeen old m → IsSeen new m
  seen_more old new rest f m (inl e) = inl e
  seen_more old new rest f m (inr e) = inr (f m ∙ ap (λ b. b || is_among rest m) e)

  pub start_walk : (count : ℕ) → IsWalk links start (replicate count false) (start ∷ [])
  start_walk count = record {
    marked = λ m e. absurd (true≢false (sym e ∙ never_marked count m));
    walked = λ m e. inl (sym (among_same start m (sym (or_false (start == m)) ∙ e)));
    onward = λ k m h e. only k m h;
  }
    where
      only : (k m : ℕ) → IsSeen (replicate count false) k → (is_among (start ∷ []) k ≡ true) ⊎ (is_marked (replicate count false) m ≡ true)
      only k m (inl e) = inl (or_false (start == k) ∙ subst (λ i. (start == i) ≡ true) (sym e) (self_same start))
      only k m (inr e) = absurd (true≢false (sym e ∙ never_marked count k))

  -- one package more is walked
  module _ (old new : List Bool) (walk rest next : List ℕ) (k : ℕ) (w : IsWalk links start old walk) (is : walk ≡ rest ++ k ∷ [])
      (marked : (m : ℕ) → is_marked new m ≡ (is_marked old m || is_among (row links k) m))
      (walked : (m : ℕ) → is_among next m ≡ (is_among rest m || (is_among (row links k) m && not (is_marked old m)))) where
    last_seen : IsSeen old k
    last_seen = w.walked k (rw is (among_last rest k))

    newly : (m : ℕ) → IsSeen old k → is_among (row links k) m ≡ true → Reaches links start m
    newly m (inl e) h = straight start m (subst (λ i. is_among (row links i) m ≡ true) e h)
    newly m (inr e) h = reaches_more links start k m (w.marked k e) h

    marked_from : (m : ℕ) → (is_marked old m ≡ true) ⊎ (is_among (row links k) m ≡ true) → Reaches links start m
    marked_from m (inl e) = w.marked m e
    marked_from m (inr e) = newly m last_seen e

    rest_seen : (m : ℕ) → is_among rest m ≡ true → IsSeen old m
    rest_seen m e = w.walked m (rw is (among_kept rest k m e))

    walked_from : (m : ℕ) → (is_among rest m ≡ true) ⊎ ((is_among (row links k) m && not (is_marked old m)) ≡ true) → IsSeen new m
    walked_from m (inl e) = seen_more old new (row links k) marked m (rest_seen m e)
    walked_from m (inr e) = inr (marked m ∙ ap (λ b. is_marked old m || b) (both_left (is_among (row links k) m) (not (is_marked old m)) e) ∙ or_true (is_marked old m))

    -- what stood in the walk but isn't this package stands there yet
    in_rest : (q : ℕ) → is_among walk q ≡ true → (k == q) ≡ false → is_among rest q ≡ true
    in_rest q e f = sym (among_push rest k q ∙ ap (λ b. is_among rest q || b) f ∙ or_false (is_among rest q)) ∙ ap (λ ns. is_among ns q) (sym is) ∙ e

    kept_in : (q : ℕ) → is_among rest q ≡ true → is_among next q ≡ true
    kept_in q e = walked q ∙ ap (λ b. b || (is_among (row links k) q && not (is_marked old q))) e

    stays : (m : ℕ) → is_marked old m ≡ true → is_marked new m ≡ true
    stays m e = marked m ∙ ap (λ b. b || is_among (row links k) m) e

    row_marked : (m : ℕ) → is_among (row links k) m ≡ true → is_marked new m ≡ true
    row_marked m e = marked m ∙ ap (λ b. is_marked old m || b) e ∙ or_true (is_marked old m)

    was_onward : (q m : ℕ) → (is_among walk q ≡ true) ⊎ (is_marked old m ≡ true) → is_among (row links q) m ≡ true → (t : Bool) → (k == q) ≡ t → (is_among next q ≡ true) ⊎ (is_marked new m ≡ true)
    was_onward q m h e true f = inr (row_marked m (subst (λ i. is_among (row links i) m ≡ true) (sym (among_same k q f)) e))
    was_onward q m (inl h) e false f = inl (kept_in q (in_rest q h f))
    was_onward q m (inr h) e false f = inr (stays m h)

    onward_by : (q m : ℕ) → (s : Bool) → is_marked old q ≡ s → IsSeen new q → is_among (row links q) m ≡ true → (is_among next q ≡ true) ⊎ (is_marked new m ≡ true)
    onward_by q m true s h e = was_onward q m (w.onward q m (inr s) e) e (k == q) refl
    onward_by q m false s (inl h) e = was_onward q m (w.onward q m (inl h) e) e (k == q) refl
    onward_by q m false s (inr h) e = inl (walked q ∙ ap (λ b. is_among rest q || (b && not (is_marked old q))) (sym (marked q ∙ ap (λ b. b || is_among (row links k) q) s) ∙ h) ∙ ap (λ b. is_among rest q || not b) s ∙ or_true (is_among rest q))

    pub walk_more : IsWalk links start new next
    walk_more = record {
      marked = λ m e. marked_from m (split_or (is_marked old m) (is_among (row links k) m) (sym (marked m) ∙ e));
      walked = λ m e. walked_from m (split_or (is_among rest m) (is_among (row links k) m && not (is_marked old m)) (sym (walked m) ∙ e));
      onward = λ q m h e. onward_by q m (is_marked old q) refl h e;
    }

  pub walk_done : (marks : List Bool) → IsWalk links start marks [] → Reaches links start start → is_marked marks start ≡ true
  walk_done marks w r = reaches_last links start start r (is_marked marks start ≡ true) (λ e. ends start (inl refl) e) (λ k s e. ends k (reaches_all links (IsSeen marks) (λ q m h f. inr (ends_at q m h f)) start k (inl refl) s) e)
    where
      ends_at : (k m : ℕ) → IsSeen marks k → is_among (row links k) m ≡ true → is_marked marks m ≡ true
      ends_at k m h e = go (w.onward k m h e)
        where
          go : (is_among [] k ≡ true) ⊎ (is_marked marks m ≡ true) → is_marked marks m ≡ true
          go (inl f) = absurd (true≢false (sym f))
          go (inr f) = f

      ends : (k : ℕ) → IsSeen marks k → is_among (row links k) start ≡ true → is_marked marks start ≡ true
      ends k h e = ends_at k start h e

marked_within : (marks : List Bool) (k : ℕ) → is_marked marks k ≡ true → k < length marks
marked_within [] k e = absurd (true≢false (sym e))
marked_within (b ∷ bs) zero e = omega arith
marked_within (b ∷ bs) (suc k) e = let h : k < length bs = marked_within bs k e in omega (arith, h)

seen_by : (n start : ℕ) (marks : List Bool) (k : ℕ) → start < n → length marks ≡ n → (k ≡ start) ⊎ (is_marked marks k ≡ true) → k < n
seen_by n start marks k h e (inl f) = rw f h
seen_by n start marks k h e (inr f) = rw (← e) (marked_within marks k f)

pub walked_within : (links : List (List ℕ)) (start : ℕ) (marks : List Bool) (walk rest : List ℕ) (k : ℕ) → start < length links → length marks ≡ length links → IsWalk links start marks walk → walk ≡ rest ++ k ∷ [] → k < length links
walked_within links start marks walk rest k h e w is = seen_by (length links) start marks k h e (w.walked k (rw is (among_last rest k)))

pub off_cycle : (links : List (List ℕ)) (start : ℕ) (marks : List Bool) (walk : List ℕ) → walk ≡ [] → IsWalk links start marks walk → (b : Bool) → is_marked marks start ≡ b → OnFalse b (Reaches links start start → ⊥)
off_cycle links start marks walk e w true f = search rules
off_cycle links start marks walk e w false f = λ r. true≢false (sym (walk_done links start marks (subst (IsWalk links start marks) e w) r) ∙ f)
