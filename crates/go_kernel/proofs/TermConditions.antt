-- Conditions on terms under the names that they bind, and moves between two substitutions.
use Rattle.std.proofs.Common.{◌≡◌, List, [], ◌∷◌, ◌++◌, Bool, true, false, true≢false, if◌then◌else◌, Option, refl, sym, ap, ◌∙◌, subst, append_assoc}
use Rattle.std.specs.Prelude.{bytes_eq}
use Rattle.go_kernel.specs.Kernel.{Name, Op, Term, Vals, Local, Set, Both, Prim as Prim', If, Let, Loop, Leave, Catch, Within, Alone, Recover, Call, Defer, DeferLit, Slot, InFrame, InCell, Reason}
use Rattle.go_kernel.proofs.WithinProgram as Sim
use Rattle.go_kernel.proofs.WithinProgram.{Way, Moves, All, Slots}
use Rattle.go_kernel.specs.Scope.{has, has_slots, slot_name}
use Rattle.go_kernel.specs.Substitution.{at, name_of, names_at, sub}
use Rattle.go_kernel.proofs.FrameFacts.{by_has, has_left, has_right, has_none}

module _ (U S : List Name → Name → Type 0) (O : Op → Type 0) (K : Type 0) where
  abbrev pub Sets : List Name → List Name → Type 0
  Sets g [] = Unit {0}
  Sets g (x ∷ xs) = (has x g ≡ false → S g x) × Sets g xs

  -- U of each free use of a name, S of each assignment to a free name, O of each primitive, K where something is called or deferred; 'recover' only where r says so, and result slots bound
  abbrev pub Fit : Bool → List Name → Term → Type 0
  Fit r g (Vals v) = Unit {0}
  Fit r g (Local x) = has x g ≡ false → U g x
  Fit r g (Set xs a) = Sets g xs × Fit r g a
  Fit r g (Both a b) = Fit r g a × Fit r g b
  Fit r g (Prim' o a) = O o × Fit r g a
  Fit r g (If a b c) = Fit r g a × Fit r g b × Fit r g c
  Fit r g (Let xs a b) = Fit r g a × Fit r (xs ++ g) b
  Fit r g (Loop a b) = Fit r g a × Fit r g b
  Fit r g (Leave l) = Unit {0}
  Fit r g (Catch l a) = Fit r g a
  Fit r g (Within a rs) = has_slots rs g × Fit r g a
  Fit r g (Alone a) = Fit true g a
  Fit r g Recover = r ≡ true
  Fit r g (Call f a) = K × Fit r g a
  Fit r g (Defer f a) = K × Fit r g a
  Fit r g (DeferLit xs a b) = K × Fit r g a × Fit true (xs ++ g) b

pub slots_in : (rs : List Slot) (h g : List Name) → has_slots rs h → has_slots rs (h ++ g)
slots_in [] h g q = tt
slots_in (r ∷ rs) h g q = (has_left (slot_name r) h g q.0, slots_in rs h g q.1)

-- nothing put in the place of a name is that name
pub names_self : (g xs : List Name) → names_at (λ x. Local x) g xs ≡ xs
names_self g [] = refl
names_self g (x ∷ xs) = cc (go (has x g), names_self g xs)
  where
    go : (b : Bool) → name_of (if b then Local x else Local x) x ≡ x
    go true = refl
    go false = refl

pub sub_self : (t : Term) (g : List Name) → sub (λ x. Local x) g t ≡ t
sub_self (Vals v) g = refl
sub_self (Local x) g = go (has x g)
  where
    go : (b : Bool) → (if b then Local x else Local x) ≡ Local x
    go true = refl
    go false = refl
sub_self (Set xs a) g = cc (names_self g xs, sub_self a g)
sub_self (Both a b) g = cc (sub_self a g, sub_self b g)
sub_self (Prim' o a) g = cc (sub_self a g)
sub_self (If a b c) g = cc (sub_self a g, sub_self b g, sub_self c g)
sub_self (Let xs a b) g = cc (sub_self a g, sub_self b (xs ++ g))
sub_self (Loop a b) g = cc (sub_self a g, sub_self b g)
sub_self (Leave l) g = refl
sub_self (Catch l a) g = cc (sub_self a g)
sub_self (Within a rs) g = cc (sub_self a g)
sub_self (Alone a) g = cc (sub_self a g)
sub_self Recover g = refl
sub_self (Call f a) g = cc (sub_self a g)
sub_self (Defer f a) g = cc (sub_self a g)
sub_self (DeferLit xs a b) g = cc (sub_self a g, sub_self b (xs ++ g))

module _ (W : Way) (p0 p0' : Option Reason) (bound_read : (g : List Name) (x : Name) → has x g ≡ true → W.Reads g x) (bound_set : (g : List Name) (x : Name) → has x g ≡ true → W.Sets g x) where
  pub slots_fit : (rs : List Slot) (g : List Name) → has_slots rs g → Slots W p0 p0' g rs
  slots_fit [] g h = Sim.no_slots
  slots_fit (InFrame x ∷ rs) g h = Sim.in_frame (bound_read g x h.0) (slots_fit rs g h.1)
  slots_fit (InCell x ∷ rs) g h = Sim.in_cell (bound_read g x h.0) (slots_fit rs g h.1)

  recovers : (r : Bool) (g : List Name) → r ≡ true → Moves W p0 p0' r g Recover Recover
  recovers true g e = Sim.recover
  recovers false g e = absurd (true≢false (sym e))

  module _ (U S : List Name → Name → Type 0) (O : Op → Type 0) (K : Type 0) (does : (o : Op) → O o → W.Does o) (writes : K → W.Writes) where
    -- two substitutions in one term, under k
    module _ (k : List Name) (τ τ' : Name → Term) (uses : (r : Bool) (g : List Name) (x : Name) → has x g ≡ false → U g x → Moves W p0 p0' r (g ++ k) (τ x) (τ' x))
        (assign : (g : List Name) (x : Name) (xs ys : List Name) → has x g ≡ false → S g x → All W p0 p0' (g ++ k) xs ys → All W p0 p0' (g ++ k) (name_of (τ x) x ∷ xs) (name_of (τ' x) x ∷ ys)) where
      used : (r : Bool) (g : List Name) (x : Name) (b : Bool) → has x g ≡ b → (has x g ≡ false → U g x) → Moves W p0 p0' r (g ++ k) (if b then Local x else τ x) (if b then Local x else τ' x)
      used r g x true e h = Sim.local (bound_read (g ++ k) x (has_left x g k e))
      used r g x false e h = uses r g x e (h e)

      pub assigned : (g xs : List Name) → Sets U S O K g xs → All W p0 p0' (g ++ k) (names_at τ g xs) (names_at τ' g xs)
      assigned g [] h = Sim.no_sets
      assigned g (x ∷ xs) h = go (has x g) refl (h.0) (assigned g xs h.1)
        where
          go : (b : Bool) → has x g ≡ b → (has x g ≡ false → S g x) → All W p0 p0' (g ++ k) (names_at τ g xs) (names_at τ' g xs)
              → All W p0 p0' (g ++ k) (name_of (if b then Local x else τ x) x ∷ names_at τ g xs) (name_of (if b then Local x else τ' x) x ∷ names_at τ' g xs)
          go true e h r = Sim.and_set (bound_set (g ++ k) x (has_left x g k e)) r
          go false e h r = assign g x _ _ e (h e) r

      beneath : (xs g : List Name) (r : Bool) (b b' : Term) → Moves W p0 p0' r ((xs ++ g) ++ k) b b' → Moves W p0 p0' r (xs ++ (g ++ k)) b b'
      beneath xs g r b b' m = subst (λ z. Moves W p0 p0' r z b b') (append_assoc xs g k) m

      pub lift : (t : Term) (r : Bool) (g : List Name) → Fit U S O K r g t → Moves W p0 p0' r (g ++ k) (sub τ g t) (sub τ' g t)
      lift (Vals v) r g h = Sim.vals
      lift (Local x) r g h = used r g x (has x g) refl h
      lift (Set xs a) r g h = Sim.set (assigned g xs h.0) (lift a r g h.1)
      lift (Both a b) r g h = Sim.both (lift a r g h.0) (lift b r g h.1)
      lift (Prim' o a) r g h = Sim.prim' (does o h.0) (lift a r g h.1)
      lift (If a b c) r g h = Sim.if' (lift a r g h.0) (lift b r g h.1) (lift c r g h.2)
      lift (Let xs a b) r g h = Sim.let' (lift a r g h.0) (beneath xs g r _ _ (lift b r (xs ++ g) h.1))
      lift (Loop a b) r g h = Sim.loop (lift a r g h.0) (lift b r g h.1)
      lift (Leave l) r g h = Sim.leave
      lift (Catch l a) r g h = Sim.catch (lift a r g h)
      lift (Within a rs) r g h = Sim.within (slots_fit rs (g ++ k) (slots_in rs g k h.0)) (lift a r g h.1)
      lift (Alone a) r g h = Sim.alone (lift a true g h)
      lift Recover r g h = recovers r (g ++ k) h
      lift (Call f a) r g h = Sim.call (writes h.0) (lift a r g h.1)
      lift (Defer f a) r g h = Sim.defer (writes h.0) (lift a r g h.1)
      lift (DeferLit xs a b) r g h = Sim.defer_lit (writes h.0) (lift a r g h.1) (beneath xs g true _ _ (lift b true (xs ++ g) h.2))

    -- one term, placed under g
    module _ (g : List Name) (uses : (h : List Name) (x : Name) → has x h ≡ false → U h x → W.Reads (h ++ g) x) (assign : (h : List Name) (x : Name) → has x h ≡ false → S h x → W.Sets (h ++ g) x) where
      set_in : (h xs : List Name) → Sets U S O K h xs → All W p0 p0' (h ++ g) xs xs
      set_in h [] q = Sim.no_sets
      set_in h (x ∷ xs) q = Sim.and_set (by_has (has x h) (λ e. bound_set (h ++ g) x (has_left x h g e)) (λ e. assign h x e (q.0 e))) (set_in h xs q.1)

      under : (xs h : List Name) (r : Bool) (b : Term) → Moves W p0 p0' r ((xs ++ h) ++ g) b b → Moves W p0 p0' r (xs ++ (h ++ g)) b b
      under xs h r b m = subst (λ z. Moves W p0 p0' r z b b) (append_assoc xs h g) m

      pub keep : (t : Term) (r z : Bool) (i : r ≡ true → z ≡ true) (h : List Name) → Fit U S O K r h t → Moves W p0 p0' z (h ++ g) t t
      keep (Vals v) r z i h q = Sim.vals
      keep (Local x) r z i h q = Sim.local (by_has (has x h) (λ e. bound_read (h ++ g) x (has_left x h g e)) (λ e. uses h x e (q e)))
      keep (Set xs a) r z i h q = Sim.set (set_in h xs q.0) (keep a r z i h q.1)
      keep (Both a b) r z i h q = Sim.both (keep a r z i h q.0) (keep b r z i h q.1)
      keep (Prim' o a) r z i h q = Sim.prim' (does o q.0) (keep a r z i h q.1)
      keep (If a b c) r z i h q = Sim.if' (keep a r z i h q.0) (keep b r z i h q.1) (keep c r z i h q.2)
      keep (Let xs a b) r z i h q = Sim.let' (keep a r z i h q.0) (under xs h z b (keep b r z i (xs ++ h) q.1))
      keep (Loop a b) r z i h q = Sim.loop (keep a r z i h q.0) (keep b r z i h q.1)
      keep (Leave l) r z i h q = Sim.leave
      keep (Catch l a) r z i h q = Sim.catch (keep a r z i h q)
      keep (Within a rs) r z i h q = Sim.within (slots_fit rs (h ++ g) (slots_in rs h g q.0)) (keep a r z i h q.1)
      keep (Alone a) r z i h q = Sim.alone (keep a true true (λ e. e) h q)
      keep Recover r z i h q = recovers z (h ++ g) (i q)
      keep (Call f a) r z i h q = Sim.call (writes q.0) (keep a r z i h q.1)
      keep (Defer f a) r z i h q = Sim.defer (writes q.0) (keep a r z i h q.1)
      keep (DeferLit xs a b) r z i h q = Sim.defer_lit (writes q.0) (keep a r z i h q.1) (under xs h true b (keep b true true (λ e. e) (xs ++ h) q.2))

-- weaker conditions
module _ {U S U' S' : List Name → Name → Type 0} {O O' : Op → Type 0} {K K' : Type 0} (u : (g : List Name) (x : Name) → U g x → U' g x) (s : (g : List Name) (x : Name) → S g x → S' g x) (o : (p : Op) → O p → O' p) (k : K → K') where
  pub sets_map : (g xs : List Name) → Sets U S O K g xs → Sets U' S' O' K' g xs
  sets_map g [] h = tt
  sets_map g (x ∷ xs) h = (λ e. s g x (h.0 e), sets_map g xs h.1)

  pub fit_map : (t : Term) (r : Bool) (g : List Name) → Fit U S O K r g t → Fit U' S' O' K' r g t
  fit_map (Vals v) r g h = tt
  fit_map (Local x) r g h = λ e. u g x (h e)
  fit_map (Set xs a) r g h = (sets_map g xs h.0, fit_map a r g h.1)
  fit_map (Both a b) r g h = (fit_map a r g h.0, fit_map b r g h.1)
  fit_map (Prim' p a) r g h = (o p h.0, fit_map a r g h.1)
  fit_map (If a b c) r g h = (fit_map a r g h.0, fit_map b r g h.1, fit_map c r g h.2)
  fit_map (Let xs a b) r g h = (fit_map a r g h.0, fit_map b r (xs ++ g) h.1)
  fit_map (Loop a b) r g h = (fit_map a r g h.0, fit_map b r g h.1)
  fit_map (Leave l) r g h = tt
  fit_map (Catch l a) r g h = fit_map a r g h
  fit_map (Within a rs) r g h = (h.0, fit_map a r g h.1)
  fit_map (Alone a) r g h = fit_map a true g h
  fit_map Recover r g h = h
  fit_map (Call f a) r g h = (k h.0, fit_map a r g h.1)
  fit_map (Defer f a) r g h = (k h.0, fit_map a r g h.1)
  fit_map (DeferLit xs a b) r g h = (k h.0, fit_map a r g h.1, fit_map b true (xs ++ g) h.2)

-- two conditions at once
module _ (U S U' S' : List Name → Name → Type 0) (O O' : Op → Type 0) (K K' : Type 0) where
  sets_both : (g xs : List Name) → Sets U S O K g xs → Sets U' S' O' K' g xs → Sets (λ g x. U g x × U' g x) (λ g x. S g x × S' g x) (λ o. O o × O' o) (K × K') g xs
  sets_both g [] h i = tt
  sets_both g (x ∷ xs) h i = ((λ e. (h.0 e, i.0 e)), sets_both g xs h.1 i.1)

  pub fit_both : (t : Term) (r : Bool) (g : List Name) → Fit U S O K r g t → Fit U' S' O' K' r g t → Fit (λ g x. U g x × U' g x) (λ g x. S g x × S' g x) (λ o. O o × O' o) (K × K') r g t
  fit_both (Vals v) r g h i = tt
  fit_both (Local x) r g h i = λ e. (h e, i e)
  fit_both (Set xs a) r g h i = (sets_both g xs h.0 i.0, fit_both a r g h.1 i.1)
  fit_both (Both a b) r g h i = (fit_both a r g h.0 i.0, fit_both b r g h.1 i.1)
  fit_both (Prim' p a) r g h i = ((h.0, i.0), fit_both a r g h.1 i.1)
  fit_both (If a b c) r g h i = (fit_both a r g h.0 i.0, fit_both b r g h.1 i.1, fit_both c r g h.2 i.2)
  fit_both (Let xs a b) r g h i = (fit_both a r g h.0 i.0, fit_both b r (xs ++ g) h.1 i.1)
  fit_both (Loop a b) r g h i = (fit_both a r g h.0 i.0, fit_both b r g h.1 i.1)
  fit_both (Leave l) r g h i = tt
  fit_both (Catch l a) r g h i = fit_both a r g h i
  fit_both (Within a rs) r g h i = (h.0, fit_both a r g h.1 i.1)
  fit_both (Alone a) r g h i = fit_both a true g h i
  fit_both Recover r g h i = h
  fit_both (Call f a) r g h i = ((h.0, i.0), fit_both a r g h.1 i.1)
  fit_both (Defer f a) r g h i = ((h.0, i.0), fit_both a r g h.1 i.1)
  fit_both (DeferLit xs a b) r g h i = ((h.0, i.0), fit_both a r g h.1 i.1, fit_both b true (xs ++ g) h.2 i.2)

-- two substitutions that agree on all names but one, in a term that does not name it
module _ (x : Name) (τ τ' : Name → Term) (same : (z : Name) → bytes_eq z x ≡ false → τ z ≡ τ' z) where
  abbrev pub Not : List Name → Name → Type 0
  Not g z = bytes_eq z x ≡ false

  at_same : (g : List Name) (z : Name) → (has z g ≡ false → bytes_eq z x ≡ false) → at τ g z ≡ at τ' g z
  at_same g z h = go (has z g) refl
    where
      go : (c : Bool) → has z g ≡ c → (if c then Local z else τ z) ≡ (if c then Local z else τ' z)
      go true e = refl
      go false e = same z (h e)

  names_same : (g xs : List Name) → Sets Not Not (λ o. Unit {0}) (Unit {0}) g xs → names_at τ g xs ≡ names_at τ' g xs
  names_same g [] h = refl
  names_same g (z ∷ xs) h = cc (ap (λ t. name_of t z) (at_same g z h.0), names_same g xs h.1)

  pub sub_same : (t : Term) (r : Bool) (g : List Name) → Fit Not Not (λ o. Unit {0}) (Unit {0}) r g t → sub τ g t ≡ sub τ' g t
  sub_same (Vals v) r g h = refl
  sub_same (Local z) r g h = at_same g z h
  sub_same (Set xs a) r g h = cc (names_same g xs h.0, sub_same a r g h.1)
  sub_same (Both a b) r g h = cc (sub_same a r g h.0, sub_same b r g h.1)
  sub_same (Prim' p a) r g h = cc (sub_same a r g h.1)
  sub_same (If a b c) r g h = cc (sub_same a r g h.0, sub_same b r g h.1, sub_same c r g h.2)
  sub_same (Let xs a b) r g h = cc (sub_same a r g h.0, sub_same b r (xs ++ g) h.1)
  sub_same (Loop a b) r g h = cc (sub_same a r g h.0, sub_same b r g h.1)
  sub_same (Leave l) r g h = refl
  sub_same (Catch l a) r g h = cc (sub_same a r g h)
  sub_same (Within a rs) r g h = cc (sub_same a r g h.1)
  sub_same (Alone a) r g h = cc (sub_same a true g h)
  sub_same Recover r g h = refl
  sub_same (Call f a) r g h = cc (sub_same a r g h.1)
  sub_same (Defer f a) r g h = cc (sub_same a r g h.1)
  sub_same (DeferLit xs a b) r g h = cc (sub_same a r g h.1, sub_same b true (xs ++ g) h.2)

-- names that stand for themselves may count as bound or not
module _ (k : List Name) (τ : Name → Term) (self : (z : Name) → has z k ≡ true → τ z ≡ Local z) where
  at_under : (g : List Name) (z : Name) → at τ (g ++ k) z ≡ at τ g z
  at_under g z = go (has z g) refl (has z k) refl
    where
      go : (c : Bool) → has z g ≡ c → (d : Bool) → has z k ≡ d → at τ (g ++ k) z ≡ (if c then Local z else τ z)
      go true e d h = ap (λ b. if b then Local z else τ z) (has_left z g k e)
      go false e true h = ap (λ b. if b then Local z else τ z) (has_right z g k h) ∙ sym (self z h)
      go false e false h = ap (λ b. if b then Local z else τ z) (has_none z g k e h)

  names_under : (g xs : List Name) → names_at τ (g ++ k) xs ≡ names_at τ g xs
  names_under g [] = refl
  names_under g (z ∷ xs) = cc (ap (λ t. name_of t z) (at_under g z), names_under g xs)

  under_under : (xs g : List Name) (b : Term) → sub τ ((xs ++ g) ++ k) b ≡ sub τ (xs ++ g) b → sub τ (xs ++ (g ++ k)) b ≡ sub τ (xs ++ g) b
  under_under xs g b e = subst (λ z. sub τ z b ≡ sub τ (xs ++ g) b) (append_assoc xs g k) e

  pub sub_under : (t : Term) (g : List Name) → sub τ (g ++ k) t ≡ sub τ g t
  sub_under (Vals v) g = refl
  sub_under (Local x) g = at_under g x
  sub_under (Set xs a) g = cc (names_under g xs, sub_under a g)
  sub_under (Both a b) g = cc (sub_under a g, sub_under b g)
  sub_under (Prim' o a) g = cc (sub_under a g)
  sub_under (If a b c) g = cc (sub_under a g, sub_under b g, sub_under c g)
  sub_under (Let xs a b) g = cc (sub_under a g, under_under xs g b (sub_under b (xs ++ g)))
  sub_under (Loop a b) g = cc (sub_under a g, sub_under b g)
  sub_under (Leave l) g = refl
  sub_under (Catch l a) g = cc (sub_under a g)
  sub_under (Within a rs) g = cc (sub_under a g)
  sub_under (Alone a) g = cc (sub_under a g)
  sub_under Recover g = refl
  sub_under (Call f a) g = cc (sub_under a g)
  sub_under (Defer f a) g = cc (sub_under a g)
  sub_under (DeferLit xs a b) g = cc (sub_under a g, under_under xs g b (sub_under b (xs ++ g)))
