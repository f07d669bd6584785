-- The step of an argument that acts: its one use stands before all that a part of the program could see.
use Rattle.std.proofs.Common.{◌≡◌, ℕ, zero, suc, ◌+◌, ◌≤◌, ◌<◌, List, [], ◌∷◌, ◌++◌, Bool, true, false, true≢false, if◌then◌else◌, None, refl, sym, ap, ◌∙◌, subst, arith, append_assoc}
use Rattle.std.specs.Prelude.{bytes_eq}
use Rattle.go_kernel.specs.Kernel.{Name, FuncName, Effect, effect, Term, Vals, Local, Set, Both, Prim as Prim', If, Let, Loop, Leave, Catch, Within, Alone, Recover, Call, Defer, DeferLit, Program}
use Rattle.go_kernel.specs.Scope.{names, has, has_all}
use Rattle.go_kernel.specs.Substitution.{name_of, names_at, sub}
use Rattle.go_kernel.specs.Arguments.{Arg, arg, names_of, args_of, rest, choose}
use Rattle.go_kernel.proofs.FreshNames.{height, name_true}
use Rattle.go_kernel.proofs.FrameFacts.{by_has, has_left, has_none, has_one}
use Rattle.go_kernel.proofs.TermConditions as Fits
use Rattle.go_kernel.proofs.TermConditions.{Fit, fit_map, fit_both}
use Rattle.go_kernel.proofs.Inserted
use Rattle.go_kernel.proofs.Inserted.{way, fixed}
use Rattle.go_kernel.proofs.WithinProgram.{Way, Moves, All}
use Rattle.go_kernel.proofs.PlacedAlike as Place
use Rattle.go_kernel.proofs.Means.{Mean}
use Rattle.go_kernel.proofs.Parameters.{Every, Low, Unbound, NotChosen, below_neq, Cases, hit, miss, choose_cases, choose_none, rest_clear, every_rest, every_map, Own, put_in, put_hit, put_miss, arg_keeps, names_low, BodyUse, BodySet, Body}
use Rattle.go_kernel.proofs.PlacingStep.{OnUse, MayUse, MaySet, all_move, part_moves}
use Rattle.go_kernel.proofs.Movability.{no_act, no_act_stop, Still, NoFreeSet, OnUse', OwnStill, still_rest, no_clash_act}
use Rattle.go_kernel.specs.Classes.{steady}
use Rattle.go_kernel.specs.Items.{Item, Param, Read, Fail, Write, Stop, join, effect_items, uses}
use Rattle.go_kernel.proofs.DeepItems as Listing
use Rattle.go_kernel.proofs.DeepItems.{deep, seen, seen_le, clean, split, Split, goes_on, ends, alone, both_true}
use Rattle.go_kernel.proofs.ItemConditions.{unused_fit}
use Rattle.go_kernel.proofs.Table.{pure_is}
use Rattle.go_kernel.proofs.Inserted.{anything}
use Rattle.go_kernel.proofs.Acts

-- one of two numbers is 1, the other 0
data One (m n : ℕ) : Type 0 where
  left : m ≡ 1 → n ≡ 0 → One m n
  right : m ≡ 0 → n ≡ 1 → One m n

one_of : (m n : ℕ) → m + n ≡ 1 → One m n
one_of zero n h = right refl (omega (arith, h))
one_of (suc m) n h = left (omega (arith, h)) (omega (arith, h))

-- the step: parameter x, renamed to y, has the chosen argument a, and the later arguments os; σ says what stands for the other names
module _ (P : Program) (N0 : ℕ) (free : FuncName → Bool) (A : ℕ) (all : List Name) (b : Term) (y : Name) (y_high : N0 ≤ height y) (σ : Name → Term) (x : Name) (a : Term) (fr : List Name) (os : List Arg) (own_x : Own P N0 (arg x a fr true)) (own : Every (Own P N0) os)
    (x_other : has x (names_of os) ≡ false) (unbound : Every (Unbound fr) os) (at_y : σ x ≡ Local y)
    (stands : (z : Name) → has z all ≡ true → bytes_eq z x ≡ false → (w : Name) × (σ z ≡ Local w) × (bytes_eq w y ≡ false) × (bytes_eq y w ≡ false) × (Every (NotChosen z) os → has w fr ≡ false)) (body : Body P N0 all (arg x a fr true ∷ os) b) where
  y_rest : has y (names_of (rest os)) ≡ false
  y_rest = names_low P N0 (rest os) y (every_rest (Own P N0) os own) y_high

  abbrev Fits' : List Name → Term → Type 0
  Fits' g t = Fit (BodyUse P N0 all (arg x a fr true ∷ os)) (BodySet P N0 all (arg x a fr true ∷ os)) (λ o. Unit {0}) (Unit {0}) true g t

  set_of' : (g : List Name) (z : Name) → BodySet P N0 all (arg x a fr true ∷ os) g z → MaySet P N0 all x y a fr y_high σ os x_other unbound y_rest at_y stands g z
  set_of' g z u = (u.0, u.1.0 refl, u.1.1)

  owned' : (z : Name) (o : Arg) → Own P N0 o → OnUse P N0 all x y a fr y_high σ os x_other unbound y_rest at_y stands (Own P N0) z o
  owned' z (arg z' c f d) q = λ i e. q

  apart : (w : Name) → height w < N0 → bytes_eq w y ≡ false
  apart w l = below_neq w y (omega arith)

  -- an acting argument
  abbrev Keep' : List Name → Type 0
  Keep' g = (w : Name) → has w fr ≡ true → has w g ≡ false

  abbrev D : Way
  D = way (anything (y ∷ []))

  abbrev hard' : Item → Bool
  hard' = no_act os

  abbrev seen'' : List Item → ℕ
  seen'' = seen hard' (no_act_stop os) x

  abbrev Clean' : List Item → Type 0
  Clean' I = clean hard' (no_act_stop os) x I ≡ true

  abbrev Sil : List Name → Term → Type 0
  Sil = Acts.Silent y a Keep'

  silent_arg : (r0 : Bool) (c : Term) (f : List Name) (g : List Name) → steady c ≡ true → Fit (λ h w. has w f ≡ true) (λ h w. ⊥) (λ o. Unit {0}) (Unit {0}) r0 [] c → Low N0 f → Sil g c
  silent_arg r0 (Vals v) f g s l low = tt
  silent_arg r0 (Local w) f g s l low = λ e. apart w (low w (l refl))
  silent_arg r0 (Both c d) f g s l low = let q = both_true _ _ s in (silent_arg r0 c f g q.0 l.0 low, silent_arg r0 d f g q.1 l.1 low)
  silent_arg r0 (Prim' o c) f g s l low = let q = both_true _ _ s in let p = Listing.pure_op (effect o) q.0 in (pure_is o p.1 p.0, silent_arg r0 c f g q.1 l.1 low)
  silent_arg r0 (If c d e) f g s l low = let q = both_true _ _ s in let p = both_true _ _ q.1 in (silent_arg r0 c f g q.0 l.0 low, silent_arg r0 d f g p.0 l.1 low, silent_arg r0 e f g p.1 l.2 low)
  silent_arg r0 _ f g s l low = absurd (true≢false (sym s))

  silent_args : (os : List Arg) (g : List Name) → Every (OwnStill P N0) os → Sil g (args_of os)
  silent_args [] g o = tt
  silent_args (arg z c f d ∷ os) g o = (silent_arg (if d then false else true) c f g o.0.1 o.0.0.1 o.0.0.2, silent_args os g o.1)

  -- the conditions on a body that assigns none but variables of its own
  abbrev FitsA : List Name → Term → Type 0
  FitsA g t = Fit ((BodyUse P N0) all (arg x a fr true ∷ os)) (λ g z. ⊥) (λ o. Unit {0}) (Unit {0}) true g t

  loosen : (t : Term) (g : List Name) → FitsA g t → Fits' g t
  loosen t g f = fit_map (λ g z u. u) (λ g z s. absurd s) (λ o u. u) (λ u. u) t true g f

  later : (t : Term) (g : List Name) → uses x g t ≡ 0 → FitsA g t → Moves D None None true (g ++ (names_of (rest os) ++ [])) (sub (choose os σ) g t) (sub ((put_in P N0) x a (choose os σ)) g t)
  later t g n f =
      (part_moves P N0) all x y a fr y_high σ os x_other unbound y_rest at_y stands D (λ g w h. Inserted.bound h) (λ g w h. Inserted.bound h) (λ g w h n. Inserted.other h (has_one w y n)) (λ g w h n m l. Inserted.other h (has_one w y n) tt)
      (λ o. Unit {0}) (Unit {0}) (λ o u. tt) (λ u. tt) ⊥ (λ v r g h k. absurd v) (Own P N0)
      (λ z c f o r g. (arg_keeps P N0) D (λ g w h. Inserted.bound h) (λ g w h. Inserted.bound h) (λ o. tt) tt (λ w. bytes_eq w y ≡ false) (λ g w h n. Inserted.other h (has_one w y n)) false r (λ e. absurd (true≢false (sym e))) g c f o.1 (λ w m. apart w (o.2 w m)))
      t true g (fit_map (λ g z u. (u.0.0, (λ e. absurd (true≢false (sym e ∙ u.1))), every_map os (owned' z) own)) set_of' (λ o u. u) (λ u. u) t true g (unused_fit ((BodyUse P N0) all (arg x a fr true ∷ os)) ((BodySet P N0) all (arg x a fr true ∷ os)) (λ o. Unit {0}) (Unit {0}) x t true g n (loosen t g f)))

  unmoved : (t : Term) (g : List Name) → uses x g t ≡ 0 → FitsA g t → sub (choose os σ) g t ≡ sub ((put_in P N0) x a (choose os σ)) g t
  unmoved t g n f =
      Fits.sub_same x (choose os σ) ((put_in P N0) x a (choose os σ)) (λ z e. sym ((put_miss P N0) x a (choose os σ) z e)) t true g
      (fit_map (λ g z u. u.1) (λ g z u. u.1.0 refl) (λ o u. u) (λ u. u) t true g (unused_fit ((BodyUse P N0) all (arg x a fr true ∷ os)) ((BodySet P N0) all (arg x a fr true ∷ os)) (λ o. Unit {0}) (Unit {0}) x t true g n (loosen t g f)))

  un : List Name
  un = names_of (rest os) ++ []

  pure_items : (e : Effect) → Clean' (effect_items e) → (e.reads ≡ false) × (e.may_panic ≡ false)
  pure_items e h = go e.may_panic e.writes e.reads h
    where
      go : (c w r : Bool) → Clean' (if c then Fail ∷ (if w then Write ∷ [] else if r then Read ∷ [] else []) else if w then Write ∷ [] else if r then Read ∷ [] else []) → (r ≡ false) × (c ≡ false)
      go true w r h = absurd (true≢false (sym h))
      go false true r h = absurd (true≢false (sym h))
      go false false true h = absurd (true≢false (sym h))
      go false false false h = (refl, refl)

  names_bound : (g xs : List Name) → Fits.Sets ((BodyUse P N0) all (arg x a fr true ∷ os)) (λ g z. ⊥) (λ o. Unit {0}) (Unit {0}) g xs → has_all (names_at (choose os σ) g xs) (g ++ (names_of (rest os) ++ []))
  names_bound g [] h = tt
  names_bound g (z ∷ xs) h =
      let q : has z g ≡ true = by_has (has z g) (λ e. e) (λ e. absurd (h.0 e)) in
      (subst (λ c. has (name_of (if c then Local z else choose os σ z) z) (g ++ (names_of (rest os) ++ [])) ≡ true) (sym q) (has_left z g (names_of (rest os) ++ []) q), names_bound g xs h.1)

  pieces : (I J : List Item) → Clean' (join I J) → Clean' I × Clean' J
  pieces I J h = Listing.clean_join hard' (no_act_stop os) x I J h

  silent_local : (g : List Name) (z : Name) → Clean' (deep g (Local z)) → uses x g (Local z) ≡ 0 → FitsA g (Local z) → Sil (g ++ (names_of (rest os) ++ [])) (sub (choose os σ) g (Local z))
  silent_local g z c n f = go (has z g) refl c n f
    where
      other' : has z g ≡ false → hard' (Param z) ≡ false → bytes_eq z x ≡ false → Sil (g ++ (names_of (rest os) ++ [])) (choose os σ z)
      other' h s e = two (choose_cases ((OnUse' P N0) (OwnStill P N0) z) os ((no_clash_act P N0) os z own s) z) (stands z (f h).0.0 e)
        where
          two : Cases ((OnUse' P N0) (OwnStill P N0) z) os z → (w : Name) × (σ z ≡ Local w) × (bytes_eq w y ≡ false) × (bytes_eq y w ≡ false) × (Every (NotChosen z) os → has w fr ≡ false) → Sil (g ++ (names_of (rest os) ++ [])) (choose os σ z)
          two (hit z' c f q d p) s = subst (λ t. Sil (g ++ (names_of (rest os) ++ [])) t) (sym (p σ)) (let o = q refl d in silent_arg false c f (g ++ (names_of (rest os) ++ [])) o.1 o.0.1 o.0.2)
          two (miss p) s = subst (λ t. Sil (g ++ (names_of (rest os) ++ [])) t) (sym (p σ ∙ s.1)) (λ e. s.2)

      go : (b : Bool) → has z g ≡ b → Clean' (if b then [] else Param z ∷ []) → ◌≡◌ {A = ℕ} (if b then 0 else if bytes_eq z x then 1 else 0) 0 → (has z g ≡ false → (BodyUse P N0) all (arg x a fr true ∷ os) g z) → Sil (g ++ (names_of (rest os) ++ [])) (if b then Local z else choose os σ z)
      go true h c n f = λ e. absurd (true≢false (sym (has_left z g (names_of (rest os) ++ []) h) ∙ e))
      go false h c n f = other' h (soft (hard' (Param z)) c) (off (bytes_eq z x) n)
        where
          soft : (d : Bool) → (if d then false else true) ≡ true → d ≡ false
          soft true h = absurd (true≢false (sym h))
          soft false h = refl

          off : (d : Bool) → ◌≡◌ {A = ℕ} (if d then 1 else 0) 0 → d ≡ false
          off true h = let no : ⊥ = omega (arith, h) in absurd no
          off false h = refl

  nil : (m n : ℕ) → m + n ≡ 0 → (m ≡ 0) × (n ≡ 0)
  nil m n h = (omega (arith, h), omega (arith, h))

  silent_of : (t : Term) (g : List Name) → Clean' (deep g t) → uses x g t ≡ 0 → FitsA g t → Sil (g ++ (names_of (rest os) ++ [])) (sub (choose os σ) g t)
  silent_of (Vals v) g c n f = tt
  silent_of (Local z) g c n f = silent_local g z c n f
  silent_of (Set xs d) g c n f = (names_bound g xs f.0, silent_of d g c n f.1)
  silent_of (Both d e) g c n f = let p = pieces (deep g d) (deep g e) c in let m = nil (uses x g d) (uses x g e) n in (silent_of d g p.0 m.0 f.0, silent_of e g p.1 m.1 f.1)
  silent_of (Prim' o d) g c n f = let p = pieces (deep g d) (effect_items (effect o)) c in let e = pure_items (effect o) p.1 in (pure_is o e.1 e.0, silent_of d g p.0 n f.1)
  silent_of (Let xs d e) g c n f =
      let p = pieces (deep g d) (deep (xs ++ g) e) c in let m = nil (uses x g d) (uses x (xs ++ g) e) n in
      (silent_of d g p.0 m.0 f.0, subst (λ k. Sil k (sub (choose os σ) (xs ++ g) e)) (append_assoc xs g (names_of (rest os) ++ [])) (silent_of e (xs ++ g) p.1 m.1 f.1))
  silent_of (If d e h) g c n f = absurd (true≢false (sym (pieces (deep g d) (Stop ∷ []) c).1))
  silent_of (Loop d e) g c n f = absurd (true≢false (sym c))
  silent_of (Leave l) g c n f = absurd (true≢false (sym c))
  silent_of (Catch l d) g c n f = absurd (true≢false (sym (pieces (deep g d) (Stop ∷ []) c).1))
  silent_of (Within d rs) g c n f = absurd (true≢false (sym (pieces (deep g d) (Stop ∷ []) c).1))
  silent_of (Alone d) g c n f = absurd (true≢false (sym (pieces (deep g d) (Stop ∷ []) c).1))
  silent_of Recover g c n f = absurd (true≢false (sym c))
  silent_of (Call h d) g c n f = absurd (true≢false (sym (pieces (deep g d) (Write ∷ []) c).1))
  silent_of (Defer h d) g c n f = absurd (true≢false (sym c))
  silent_of (DeferLit xs d e) g c n f = absurd (true≢false (sym c))

  abbrev Earlies : List Name → Term → Type 0
  Earlies g t = Acts.Early y a Keep' (g ++ (names_of (rest os) ++ [])) (sub (choose os σ) g t) (sub ((put_in P N0) x a (choose os σ)) g t)

  early_local : (g : List Name) (z : Name) → uses x g (Local z) ≡ 1 → FitsA g (Local z) → Earlies g (Local z)
  early_local g z n f = go (has z g) refl (bytes_eq z x) refl n
    where
      here : has z g ≡ false → bytes_eq z x ≡ true → Acts.Early y a Keep' (g ++ (names_of (rest os) ++ [])) (choose os σ z) ((put_in P N0) x a (choose os σ) z)
      here h e =
          let left = choose_none os z σ (subst (λ w. has w (names_of os) ≡ false) (sym (name_true z x e)) x_other) ∙ ap σ (name_true z x e) ∙ at_y in
          let right = (put_hit P N0) x a (choose os σ) z e in
          let none : has y (names_of (rest os) ++ []) ≡ false = has_none y (names_of (rest os)) [] y_rest refl in
          let u = f h in
          subst (λ t. Acts.Early y a Keep' (g ++ (names_of (rest os) ++ [])) t ((put_in P N0) x a (choose os σ) z)) (sym left)
          (subst (λ t. Acts.Early y a Keep' (g ++ (names_of (rest os) ++ [])) (Local y) t) (sym right)
          (Acts.use_x (has_none y g (names_of (rest os) ++ []) (u.0.1 y y_high) none) (λ w m. has_none w g (names_of (rest os) ++ []) (u.1.0 refl e w m) (has_none w (names_of (rest os)) [] (rest_clear fr os unbound w m) refl))))

      go : (c : Bool) → has z g ≡ c → (d : Bool) → bytes_eq z x ≡ d → ◌≡◌ {A = ℕ} (if c then 0 else if d then 1 else 0) 1 → Acts.Early y a Keep' (g ++ (names_of (rest os) ++ [])) (if c then Local z else choose os σ z) (if c then Local z else (put_in P N0) x a (choose os σ) z)
      go true h d e n = let no : ⊥ = omega (arith, n) in absurd no
      go false h true e n = here h e
      go false h false e n = let no : ⊥ = omega (arith, n) in absurd no

  none_used : (t : Term) (g : List Name) → ◌≡◌ {A = ℕ} 0 1 → Earlies g t
  none_used t g n = let no : ⊥ = omega (arith, n) in absurd no

  le' : (t : Term) (g : List Name) → seen'' (deep g t) ≤ uses x g t
  le' = seen_le hard' (no_act_stop os) x

  abbrev Halves' : List Item → List Item → ℕ → ℕ → Type 0
  Halves' = Split hard' (no_act_stop os) x

  halves' : (I J : List Item) (m n : ℕ) → seen'' I ≤ m → seen'' J ≤ n → seen'' (join I J) ≡ m + n → (seen'' I ≡ m) × Halves' I J m n
  halves' = split hard' (no_act_stop os) x

  only' : (I J : List Item) (m : ℕ) → seen'' I ≤ m → seen'' J ≡ 0 → seen'' (join I J) ≡ m → seen'' I ≡ m
  only' = alone hard' (no_act_stop os) x

  no_stop' : seen'' (Stop ∷ []) ≡ 0
  no_stop' = Listing.seen_stop' hard' (no_act_stop os) x

  sets_early : (g xs : List Name) → Fits.Sets ((BodyUse P N0) all (arg x a fr true ∷ os)) (λ g z. ⊥) (λ o. Unit {0}) (Unit {0}) g xs → All D None None (g ++ (names_of (rest os) ++ [])) (names_at (choose os σ) g xs) (names_at ((put_in P N0) x a (choose os σ)) g xs)
  sets_early g xs f =
      (all_move P N0) all x y a fr y_high σ os x_other unbound y_rest at_y stands D (λ g w h. Inserted.bound h) (λ g w h. Inserted.bound h) (λ g w h n. Inserted.other h (has_one w y n)) (λ g w h n m l. Inserted.other h (has_one w y n) tt)
      (λ o. Unit {0}) (Unit {0}) (λ o u. tt) (λ u. tt) ⊥ (λ v r g h k. absurd v) (λ o. ⊥) (λ z c f o r g. absurd o) g xs (sets_on g xs f)
    where
      sets_on : (g xs : List Name) → Fits.Sets ((BodyUse P N0) all (arg x a fr true ∷ os)) (λ g z. ⊥) (λ o. Unit {0}) (Unit {0}) g xs → Fits.Sets ((MayUse P N0) all x y a fr y_high σ os x_other unbound y_rest at_y stands (λ o. ⊥) ⊥) ((MaySet P N0) all x y a fr y_high σ os x_other unbound y_rest at_y stands) (λ o. Unit {0}) (Unit {0}) g xs
      sets_on g [] f = tt
      sets_on g (z ∷ xs) f = ((λ e. absurd (f.0 e)), sets_on g xs f.1)

  -- silent work in front of the use
  behind : (g g' : List Name) (c d : Term) (K : Term → Term → Term) → ((w t t' : Term) → Sil (g ++ (names_of (rest os) ++ [])) w → Acts.Early y a Keep' g' t t' → Acts.Early y a Keep' (g ++ (names_of (rest os) ++ [])) (K w t) (K w t')) → Clean' (deep g c) → uses x g c ≡ 0 → FitsA g c → (t t' : Term) → Acts.Early y a Keep' g' t t'
      → Acts.Early y a Keep' (g ++ (names_of (rest os) ++ [])) (K (sub (choose os σ) g c) t) (K (sub ((put_in P N0) x a (choose os σ)) g c) t')
  behind g g' c d K k l n f t t' e = subst (λ w. Acts.Early y a Keep' (g ++ (names_of (rest os) ++ [])) (K (sub (choose os σ) g c) t) (K w t')) (unmoved c g n f) (k _ _ _ (silent_of c g l n f) e)

  both_early : (g : List Name) (c d : Term) → seen'' (deep g c) ≡ uses x g c → Halves' (deep g c) (deep g d) (uses x g c) (uses x g d) → uses x g c + uses x g d ≡ 1 → FitsA g (Both c d)
      → (uses x g c ≡ 1 → Earlies g c) → (seen'' (deep g d) ≡ uses x g d → uses x g d ≡ 1 → Earlies g d) → Earlies g (Both c d)
  both_early g c d m (ends k) n f i j = Acts.first (i (omega (arith, n, k))) (later d g k f.1)
  both_early g c d m (goes_on l k) n f i j = go (one_of (uses x g c) (uses x g d) n)
    where
      go : One (uses x g c) (uses x g d) → Earlies g (Both c d)
      go (left p r) = Acts.first (i p) (later d g r f.1)
      go (right p r) = behind g (g ++ (names_of (rest os) ++ [])) c d Both (λ w t t' s e. Acts.second s e) l p f.0 _ _ (j k r)

  let_early : (g xs : List Name) (c d : Term) → seen'' (deep g c) ≡ uses x g c → Halves' (deep g c) (deep (xs ++ g) d) (uses x g c) (uses x (xs ++ g) d) → uses x g c + uses x (xs ++ g) d ≡ 1 → FitsA g (Let xs c d)
      → (uses x g c ≡ 1 → Earlies g c) → (seen'' (deep (xs ++ g) d) ≡ uses x (xs ++ g) d → uses x (xs ++ g) d ≡ 1 → Earlies (xs ++ g) d) → Earlies g (Let xs c d)
  let_early g xs c d m h n f i j = go h
    where
      after' : uses x (xs ++ g) d ≡ 0 → Moves D None None true (xs ++ (g ++ (names_of (rest os) ++ []))) (sub (choose os σ) (xs ++ g) d) (sub ((put_in P N0) x a (choose os σ)) (xs ++ g) d)
      after' k = subst (λ z. Moves D None None true z (sub (choose os σ) (xs ++ g) d) (sub ((put_in P N0) x a (choose os σ)) (xs ++ g) d)) (append_assoc xs g (names_of (rest os) ++ [])) (later d (xs ++ g) k f.1)

      inner : Earlies (xs ++ g) d → Acts.Early y a Keep' (xs ++ (g ++ (names_of (rest os) ++ []))) (sub (choose os σ) (xs ++ g) d) (sub ((put_in P N0) x a (choose os σ)) (xs ++ g) d)
      inner e = subst (λ z. Acts.Early y a Keep' z (sub (choose os σ) (xs ++ g) d) (sub ((put_in P N0) x a (choose os σ)) (xs ++ g) d)) (append_assoc xs g (names_of (rest os) ++ [])) e

      pick : Clean' (deep g c) → seen'' (deep (xs ++ g) d) ≡ uses x (xs ++ g) d → One (uses x g c) (uses x (xs ++ g) d) → Earlies g (Let xs c d)
      pick l k (left p r) = Acts.bound (i p) (after' r)
      pick l k (right p r) = behind g (xs ++ (g ++ (names_of (rest os) ++ []))) c d (Let xs) (λ w t t' s e. Acts.under s e) l p f.0 _ _ (inner (j k r))

      go : Halves' (deep g c) (deep (xs ++ g) d) (uses x g c) (uses x (xs ++ g) d) → Earlies g (Let xs c d)
      go (ends k) = Acts.bound (i (omega (arith, n, k))) (after' k)
      go (goes_on l k) = pick l k (one_of (uses x g c) (uses x (xs ++ g) d) n)

  stop_half : (I : List Item) (m n : ℕ) → Halves' I (Stop ∷ []) m n → n ≡ 0
  stop_half I m n (goes_on l k) = sym k ∙ no_stop'
  stop_half I m n (ends k) = k

  early_of : (t : Term) (g : List Name) → seen'' (deep g t) ≡ uses x g t → uses x g t ≡ 1 → FitsA g t → Earlies g t
  early_of (Vals v) g n m f = none_used (Vals v) g m
  early_of (Local z) g n m f = early_local g z m f
  early_of (Set xs c) g n m f = Acts.in_set (sets_early g xs f.0) (early_of c g n m f.1)
  early_of (Both c d) g n m f = let h = halves' (deep g c) (deep g d) (uses x g c) (uses x g d) (le' c g) (le' d g) n in both_early g c d h.0 h.1 m f (λ p. early_of c g h.0 p f.0) (λ k p. early_of d g k p f.1)
  early_of (Prim' o c) g n m f = Acts.in_prim (early_of c g (only' (deep g c) (effect_items (effect o)) (uses x g c) (le' c g) (Listing.seen_effect hard' (no_act_stop os) x (effect o)) n) m f.1)
  early_of (If c d e) g n m f =
      let h = halves' (deep g c) (Stop ∷ []) (uses x g c) (uses x g d + uses x g e) (le' c g) (let z = no_stop' in omega (arith, z)) n in
      let k = stop_half (deep g c) (uses x g c) (uses x g d + uses x g e) h.1 in
      Acts.in_if (early_of c g h.0 (omega (arith, m, k)) f.0) (later d g (omega (arith, k)) f.1) (later e g (omega (arith, k)) f.2)
  early_of (Let xs c d) g n m f = let h = halves' (deep g c) (deep (xs ++ g) d) (uses x g c) (uses x (xs ++ g) d) (le' c g) (le' d (xs ++ g)) n in let_early g xs c d h.0 h.1 m f (λ p. early_of c g h.0 p f.0) (λ k p. early_of d (xs ++ g) k p f.1)
  early_of (Loop c d) g n m f = none_used (Loop c d) g (sym no_stop' ∙ n ∙ m)
  early_of (Leave l) g n m f = none_used (Leave l) g m
  early_of (Catch l c) g n m f = Acts.in_catch (early_of c g (only' (deep g c) (Stop ∷ []) (uses x g c) (le' c g) no_stop' n) m f)
  early_of (Within c rs) g n m f = Acts.in_within (Fits.slots_fit D None None (λ g w h. Inserted.bound h) (λ g w h. Inserted.bound h) rs (g ++ (names_of (rest os) ++ [])) (Fits.slots_in rs g (names_of (rest os) ++ []) f.0)) (early_of c g (only' (deep g c) (Stop ∷ []) (uses x g c) (le' c g) no_stop' n) m f.1)
  early_of (Alone c) g n m f = Acts.in_alone (early_of c g (only' (deep g c) (Stop ∷ []) (uses x g c) (le' c g) no_stop' n) m f)
  early_of Recover g n m f = none_used Recover g m
  early_of (Call h c) g n m f = Acts.in_call (early_of c g (only' (deep g c) (Write ∷ []) (uses x g c) (le' c g) (Listing.seen_write' hard' (no_act_stop os) x) n) m f.1)
  early_of (Defer h c) g n m f = none_used (Defer h c) g (sym no_stop' ∙ n ∙ m)
  early_of (DeferLit xs c d) g n m f = none_used (DeferLit xs c d) g (sym no_stop' ∙ n ∙ m)

  pub acts_step : Every Still os → seen (no_act os) (no_act_stop os) x (deep [] b) ≡ 1 → uses x [] b ≡ 1 → NoFreeSet b → Mean P free A zero (Let (y ∷ []) a (Let (names_of (rest os)) (args_of (rest os)) (sub (choose os σ) [] b))) (Let (names_of (rest os)) (args_of (rest os)) (sub ((put_in P N0) x a (choose os σ)) [] b))
  acts_step c n m free_of_sets =
      Place.acts_in_place P free A a own_x.0 Keep'
      (λ F ys p k. (arg_keeps P N0) (way (fixed ys F)) (λ g w h. Inserted.bound h) (λ g w h. Inserted.bound h) (λ o. tt) tt (λ w. has w (names ys) ≡ false) (λ g w h n. Inserted.other h n) false false (λ e. e) [] a fr own_x.1 k)
      y _ _ (λ w h. refl) (Acts.under (silent_args (rest os) [] ((still_rest P N0) os own c)) (early_of b [] (n ∙ sym m) m fits_all))
    where
      fits_all : FitsA [] b
      fits_all =
          fit_map (λ g z u. u.0) (λ g z u. u.1) (λ o u. u.0) (λ u. u.0) b true []
          (fit_both ((BodyUse P N0) all (arg x a fr true ∷ os)) ((BodySet P N0) all (arg x a fr true ∷ os)) (λ g z. Unit {0}) (λ g z. ⊥) (λ o. Unit {0}) (λ o. Unit {0}) (Unit {0}) (Unit {0}) b true [] body free_of_sets)
