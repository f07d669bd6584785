-- An argument that acts may take the place of its parameter's one use, where only steady work stands before.
use Rattle.std.proofs.Common.{◌≡◌, ℕ, List, [], ◌∷◌, ◌++◌, Bool, true, false, Option, None, refl, sym, ap, ◌∙◌, subst}
use Rattle.std.specs.Prelude.{bytes_eq}
use Rattle.go_kernel.specs.Kernel.{Truth, on_truth, IsPure, values_of, empty_store, Name, Label, FuncName, Value, Op, Term, Vals, Local, Set, Both, Prim as Prim', If, Let, Loop, Leave, Catch, Within, Alone, Recover, Call, Defer, DeferLit, Slot, Frame, Deferred, Store, State, Panic, Result, Gives, Leaves, Cuts, Level, after, lookup, put_all, push, pop, prim, answered, popped, caught_by, resumed, unwound, with_slots, with_pending, Program, picks, chain, free_level, Event, Reason}
use Rattle.go_kernel.specs.Scope.{names, has, has_all}
use Rattle.go_kernel.proofs.FrameFacts.{names_put_all, put_all_front, names_push, push_front, pop_front, lookup_front, lookup_behind, lookup_skip, lookup_here}
use Rattle.go_kernel.proofs.Inserted.{inserted, way, anything}
use Rattle.go_kernel.proofs.WithinProgram as Sim
use Rattle.go_kernel.proofs.WithinProgram.{Way, Moves, Follows, All, Slots, Upon, Fits, fits, Acts, equal, level_follows, chain_follows, after_acts, go_on, caught_acts, on_put, on_push, primed, on_truth_acts, popped_acts, call_acts, unwound_acts, resumed_acts, with_pending_acts, slotted}

-- how an argument ends
pub data Out : Type 0 where
  Value' : Value → Store → List Event → Out
  Panics : Reason → Store → List Event → Out
  Stops : List Event → Out

abbrev pub of_out : Out → State → Result
of_out (Value' v c o) s = Gives (v ∷ []) (record s { store = c; out = o })
of_out (Panics e c o) s = Leaves (Panic e) (record s { store = c; out = o })
of_out (Stops o) s = Cuts o

-- 'Clear g' says that none of the names g captures one of a's
module _ (x : Name) (a : Term) (Clear : List Name → Type 0) where
  abbrev pub D : Way
  D = way (anything (x ∷ []))

  -- work that comes after the argument, and does not name x
  abbrev pub Rest : List Name → Term → Term → Type 0
  Rest g u u' = Moves D None None true g u u'

  -- work that ends with values, keeps all but variables bound since, and does not name x
  abbrev pub Silent : List Name → Term → Type 0
  Silent g (Vals v) = Unit {0}
  Silent g (Local z) = has z g ≡ false → bytes_eq z x ≡ false
  Silent g (Set xs a) = has_all xs g × Silent g a
  Silent g (Both a b) = Silent g a × Silent g b
  Silent g (Prim' o a) = IsPure o × Silent g a
  Silent g (If c a b) = Silent g c × Silent g a × Silent g b
  Silent g (Let xs a b) = Silent g a × Silent (xs ++ g) b
  Silent g _ = ⊥

  -- a term in which x is used once, after steady work alone, and the term with a in its place
  pub data Early : List Name → Term → Term → Type 0 where
    use_x : {g : List Name} → has x g ≡ false → Clear g → Early g (Local x) a
    first : {g : List Name} {t t' u u' : Term} → Early g t t' → Rest g u u' → Early g (Both t u) (Both t' u')
    second : {g : List Name} {w t t' : Term} → Silent g w → Early g t t' → Early g (Both w t) (Both w t')
    in_set : {g : List Name} {xs xs' : List Name} {t t' : Term} → All D None None g xs xs' → Early g t t' → Early g (Set xs t) (Set xs' t')
    in_prim : {g : List Name} {o : Op} {t t' : Term} → Early g t t' → Early g (Prim' o t) (Prim' o t')
    in_if : {g : List Name} {t t' u u' w w' : Term} → Early g t t' → Rest g u u' → Rest g w w' → Early g (If t u w) (If t' u' w')
    bound : {g : List Name} {xs : List Name} {t t' u u' : Term} → Early g t t' → Rest (xs ++ g) u u' → Early g (Let xs t u) (Let xs t' u')
    under : {g : List Name} {xs : List Name} {w t t' : Term} → Silent g w → Early (xs ++ g) t t' → Early g (Let xs w t) (Let xs w t')
    in_catch : {g : List Name} {l : Label} {t t' : Term} → Early g t t' → Early g (Catch l t) (Catch l t')
    in_within : {g : List Name} {rs : List Slot} {t t' : Term} → Slots D None None g rs → Early g t t' → Early g (Within t rs) (Within t' rs)
    in_alone : {g : List Name} {t t' : Term} → Early g t t' → Early g (Alone t) (Alone t')
    in_call : {g : List Name} {f : FuncName} {t t' : Term} → Early g t t' → Early g (Call f t) (Call f t')

  module _ (P : Program) (free : FuncName → Bool) (A n j : ℕ) (F : Frame) (c : Store) (o : List Event) (out : Out)
      (placed : (ys : Frame) → Clear (names ys) → (p : Option Reason) (ds : List Deferred)
      → let s : State = record { frame = ys ++ F; store = c; pending = p; defers = ds; out = o } in chain P free (free_level P free A n) j a s ≡ of_out out s) where
    b : Level
    b = free_level P free A n

    abbrev pub L : Level
    L = chain P free (free_level P free A n) j

    abbrev pub At : Frame → Option Reason → List Deferred → State
    At ys p ds = record { frame = ys ++ F; store = c; pending = p; defers = ds; out = o }

    -- where the argument panics or is cut, so does the whole
    abbrev pub Through : List Name → Out → Option Reason → List Deferred → Result → Type 0
    Through g (Value' v c o) p ds r = Unit {0}
    Through g (Panics e c o) p ds r = (zs : Frame) × (names zs ≡ g) × (r ≡ Leaves (Panic e) (record { frame = zs ++ F; store = c; pending = p; defers = ds; out = o }))
    Through g (Stops o) p ds r = r ≡ Cuts o

    -- silent work, in a frame and in the same frame with x bound in it
    data Ran (g : List Name) (w : Term) (ys : Frame) : Type 0 where
      ran : (v : List Value) (zs : Frame) → names zs ≡ g
          → ((c : Store) (p : Option Reason) (ds : List Deferred) (o : List Event) → L w (record { frame = ys ++ F; store = c; pending = p; defers = ds; out = o }) ≡ Gives v (record { frame = zs ++ F; store = c; pending = p; defers = ds; out = o }))
          → ((u : Value) (c : Store) (p : Option Reason) (ds : List Deferred) (o : List Event) → L w (record { frame = ys ++ (x, u) ∷ F; store = c; pending = p; defers = ds; out = o }) ≡ Gives v (record { frame = zs ++ (x, u) ∷ F; store = c; pending = p; defers = ds; out = o }))
          → Ran g w ys

    same_read : (g : List Name) (z : Name) (ys : Frame) → names ys ≡ g → (has z g ≡ false → bytes_eq z x ≡ false) → (u : Value) → lookup z (ys ++ (x, u) ∷ F) ≡ lookup z (ys ++ F)
    same_read g z ys e h u = go (has z g) refl h
      where
        go : (c : Bool) → has z g ≡ c → (has z g ≡ false → bytes_eq z x ≡ false) → lookup z (ys ++ (x, u) ∷ F) ≡ lookup z (ys ++ F)
        go true k h = let m = subst (λ l. has z l ≡ true) (sym e) k in lookup_front z ys ((x, u) ∷ F) m ∙ sym (lookup_front z ys F m)
        go false k h = lookup_skip z x u ys F (h k)

    pures : (o' : Op) (v : List Value) → IsPure o' → (s : State) → answered (prim o' v s.store) s ≡ Gives (values_of (prim o' v (empty_store []))) s
    unfolding IsPure
    pures o' v q s = ap (λ r. answered r s) (q v s.store)

    ran_both : (g : List Name) (a b : Term) (ys : Frame) → Ran g a ys → ((ys : Frame) → names ys ≡ g → Ran g b ys) → Ran g (Both a b) ys
    ran_both g a b ys (ran v zs k l r) f = two (f zs k)
      where
        two : Ran g b zs → Ran g (Both a b) ys
        two (ran w bs m i j) =
            ran (v ++ w) bs m
            (λ c p ds o. ap (λ r. after r (λ v s. after (L b s) (λ w s. Gives (v ++ w) s) Leaves) Leaves) (l c p ds o) ∙ ap (λ r. after r (λ w s. Gives (v ++ w) s) Leaves) (i c p ds o))
            (λ u c p ds o. ap (λ r. after r (λ v s. after (L b s) (λ w s. Gives (v ++ w) s) Leaves) Leaves) (r u c p ds o) ∙ ap (λ r. after r (λ w s. Gives (v ++ w) s) Leaves) (j u c p ds o))

    ran_if : (g : List Name) (d a b : Term) (ys : Frame) → Ran g d ys → ((ys : Frame) → names ys ≡ g → Ran g a ys) → ((ys : Frame) → names ys ≡ g → Ran g b ys) → Ran g (If d a b) ys
    ran_if g d a b ys (ran u zs k l r) f h = pick u l r
      where
        here : (u : List Value) (t : Term) → ((s : State) → after (Gives u s) (λ v s. on_truth v (L a s) (L b s)) Leaves ≡ L t s)
            → ((c : Store) (p : Option Reason) (ds : List Deferred) (o : List Event) → L d (record { frame = ys ++ F; store = c; pending = p; defers = ds; out = o }) ≡ Gives u (record { frame = zs ++ F; store = c; pending = p; defers = ds; out = o }))
            → ((w : Value) (c : Store) (p : Option Reason) (ds : List Deferred) (o : List Event) → L d (record { frame = ys ++ (x, w) ∷ F; store = c; pending = p; defers = ds; out = o }) ≡ Gives u (record { frame = zs ++ (x, w) ∷ F; store = c; pending = p; defers = ds; out = o }))
            → Ran g t zs → Ran g (If d a b) ys
        here u t e l r (ran v bs m i j) =
            ran v bs m (λ c p ds o. ap (λ y. after y (λ v s. on_truth v (L a s) (L b s)) Leaves) (l c p ds o) ∙ e _ ∙ i c p ds o) (λ w c p ds o. ap (λ y. after y (λ v s. on_truth v (L a s) (L b s)) Leaves) (r w c p ds o) ∙ e _ ∙ j w c p ds o)

        pick : (u : List Value)
            → ((c : Store) (p : Option Reason) (ds : List Deferred) (o : List Event) → L d (record { frame = ys ++ F; store = c; pending = p; defers = ds; out = o }) ≡ Gives u (record { frame = zs ++ F; store = c; pending = p; defers = ds; out = o }))
            → ((w : Value) (c : Store) (p : Option Reason) (ds : List Deferred) (o : List Event) → L d (record { frame = ys ++ (x, w) ∷ F; store = c; pending = p; defers = ds; out = o }) ≡ Gives u (record { frame = zs ++ (x, w) ∷ F; store = c; pending = p; defers = ds; out = o }))
            → Ran g (If d a b) ys
        pick (Truth true ∷ []) l r = here (Truth true ∷ []) a (λ s. refl) l r (f zs k)
        pick u l r = here u b (λ s. refl) l r (h zs k)

    ran_let : (g xs : List Name) (a b : Term) (ys : Frame) → Ran g a ys → ((ys : Frame) → names ys ≡ xs ++ g → Ran (xs ++ g) b ys) → Ran g (Let xs a b) ys
    ran_let g xs a b ys (ran v zs k l r) f = two (f (push xs v zs) (names_push xs v zs ∙ ap (λ z. xs ++ z) k))
      where
        two : Ran (xs ++ g) b (push xs v zs) → Ran g (Let xs a b) ys
        two (ran w bs m i j) =
            ran w (pop xs bs) (pop_front xs g bs F m).0
            (λ c p ds o. ap (λ r. after r (λ v s. popped xs (L b (record s { frame = push xs v s.frame }))) Leaves) (l c p ds o)
            ∙ ap (λ f. popped xs (L b (record { frame = f; store = c; pending = p; defers = ds; out = o }))) (push_front xs v zs F) ∙ ap (popped xs) (i c p ds o)
            ∙ ap (λ f. Gives w (record { frame = f; store = c; pending = p; defers = ds; out = o })) (pop_front xs g bs F m).1)
            (λ u c p ds o. ap (λ r. after r (λ v s. popped xs (L b (record s { frame = push xs v s.frame }))) Leaves) (r u c p ds o)
            ∙ ap (λ f. popped xs (L b (record { frame = f; store = c; pending = p; defers = ds; out = o }))) (push_front xs v zs ((x, u) ∷ F)) ∙ ap (popped xs) (j u c p ds o)
            ∙ ap (λ f. Gives w (record { frame = f; store = c; pending = p; defers = ds; out = o })) (pop_front xs g bs ((x, u) ∷ F) m).1)

    runs : (w : Term) (g : List Name) → Silent g w → (ys : Frame) → names ys ≡ g → Ran g w ys
    runs (Vals v) g h ys e = ran v ys e (λ c p ds o. refl) (λ u c p ds o. refl)
    runs (Local z) g h ys e = ran (lookup z (ys ++ F) ∷ []) ys e (λ c p ds o. refl) (λ u c p ds o. ap (λ l. Gives (l ∷ []) (record { frame = ys ++ (x, u) ∷ F; store = c; pending = p; defers = ds; out = o })) (same_read g z ys e h u))
    runs (Set xs a) g h ys e = go (runs a g h.1 ys e)
      where
        go : Ran g a ys → Ran g (Set xs a) ys
        go (ran v zs k l r) =
            let m = subst (has_all xs) (sym k) h.0 in
            ran [] (put_all xs v zs) (names_put_all xs v zs ∙ k)
            (λ c p ds o. ap (λ r. after r (λ v s. Gives [] (record s { frame = put_all xs v s.frame })) Leaves) (l c p ds o) ∙ ap (λ f. Gives [] (record { frame = f; store = c; pending = p; defers = ds; out = o })) (put_all_front xs v zs F m))
            (λ u c p ds o. ap (λ r. after r (λ v s. Gives [] (record s { frame = put_all xs v s.frame })) Leaves) (r u c p ds o) ∙ ap (λ f. Gives [] (record { frame = f; store = c; pending = p; defers = ds; out = o })) (put_all_front xs v zs ((x, u) ∷ F) m))
    runs (Both a b) g h ys e = ran_both g a b ys (runs a g h.0 ys e) (runs b g h.1)
    runs (Prim' o' a) g h ys e = go (runs a g h.1 ys e)
      where
        go : Ran g a ys → Ran g (Prim' o' a) ys
        go (ran v zs k l r) =
            ran (values_of (prim o' v (empty_store []))) zs k
            (λ c p ds o. ap (λ r. after r (λ v s. answered (prim o' v s.store) s) Leaves) (l c p ds o) ∙ pures o' v h.0 (record { frame = zs ++ F; store = c; pending = p; defers = ds; out = o }))
            (λ u c p ds o. ap (λ r. after r (λ v s. answered (prim o' v s.store) s) Leaves) (r u c p ds o) ∙ pures o' v h.0 (record { frame = zs ++ (x, u) ∷ F; store = c; pending = p; defers = ds; out = o }))
    runs (Let xs a b) g h ys e = ran_let g xs a b ys (runs a g h.0 ys e) (runs b (xs ++ g) h.1)
    runs (If d a b) g h ys e = ran_if g d a b ys (runs d g h.0 ys e) (runs a g h.1) (runs b g h.2)
    runs (Loop a b) g h ys e = absurd h
    runs (Leave l) g h ys e = absurd h
    runs (Catch l a) g h ys e = absurd h
    runs (Within a rs) g h ys e = absurd h
    runs (Alone a) g h ys e = absurd h
    runs Recover g h ys e = absurd h
    runs (Call f a) g h ys e = absurd h
    runs (Defer f a) g h ys e = absurd h
    runs (DeferLit xs a b) g h ys e = absurd h

    through_after : (g : List Name) (z : Out) (p : Option Reason) (ds : List Deferred) (r : Result) (k : List Value → State → Result) → Through g z p ds r → Through g z p ds (after r k Leaves)
    through_after g (Value' v c o) p ds r k h = tt
    through_after g (Panics e c o) p ds r k h = (h.0, h.1, ap (λ r. after r k Leaves) h.2)
    through_after g (Stops o) p ds r k h = ap (λ r. after r k Leaves) h

    through_catch : (g : List Name) (z : Out) (p : Option Reason) (ds : List Deferred) (r : Result) (l : Label) → Through g z p ds r → Through g z p ds (after r Gives (caught_by l))
    through_catch g (Value' v c o) p ds r l h = tt
    through_catch g (Panics e c o) p ds r l h = (h.0, h.1, ap (λ r. after r Gives (caught_by l)) h.2)
    through_catch g (Stops o) p ds r l h = ap (λ r. after r Gives (caught_by l)) h

    through_same : (g : List Name) (z : Out) (p : Option Reason) (ds : List Deferred) (r r' : Result) → r ≡ r' → Through g z p ds r' → Through g z p ds r
    through_same g z p ds r r' e h = subst (λ y. Through g z p ds y) (sym e) h

    through_pop : (g : List Name) (z : Out) (xs : List Name) (p : Option Reason) (ds : List Deferred) (r : Result) → Through (xs ++ g) z p ds r → Through g z p ds (popped xs r)
    through_pop g (Value' v c o) xs p ds r h = tt
    through_pop g (Panics e c o) xs p ds r h =
        let q = pop_front xs g h.0 F h.1 in
        (pop xs h.0, q.0, ap (popped xs) h.2 ∙ ap (λ f. Leaves (Panic e) (record { frame = f; store = c; pending = p; defers = ds; out = o })) q.1)
    through_pop g (Stops o) xs p ds r h = ap (popped xs) h

    through_within : (g : List Name) (z : Out) (rs : List Slot) (p : Option Reason) (ds : List Deferred) (r : Result) → Through g z p [] r → Through g z p ds (with_slots rs (resumed ds (unwound (free_level P free A n) r)))
    through_within g (Value' v c o) rs p ds r h = tt
    through_within g (Panics e c o) rs p ds r h = (h.0, h.1, ap (λ r. with_slots rs (resumed ds (unwound (free_level P free A n) r))) h.2)
    through_within g (Stops o) rs p ds r h = ap (λ r. with_slots rs (resumed ds (unwound (free_level P free A n) r))) h

    through_alone : (g : List Name) (z : Out) (p : Option Reason) (ds : List Deferred) (r : Result) → Through g z None ds r → Through g z p ds (with_pending p r)
    through_alone g (Value' v c o) p ds r h = tt
    through_alone g (Panics e c o) p ds r h = (h.0, h.1, ap (with_pending p) h.2)
    through_alone g (Stops o) p ds r h = ap (with_pending p) h

    out_through : (g : List Name) (z : Out) (ys : Frame) (p : Option Reason) (ds : List Deferred) (r : Result) → names ys ≡ g → r ≡ of_out z (At ys p ds) → Through g z p ds r
    out_through g (Value' v c o) ys p ds r e h = tt
    out_through g (Panics x c o) ys p ds r e h = (ys, e, h)
    out_through g (Stops o) ys p ds r e h = h

    silent_through : (g h : List Name) (w : Term) (ys : Frame) (p : Option Reason) (ds : List Deferred) (k : List Value → State → Result) → Ran h w ys → ((v : List Value) (zs : Frame) → names zs ≡ h → Through g out p ds (k v (At zs p ds))) → Through g out p ds (after (L w (At ys p ds)) k Leaves)
    silent_through g h w ys p ds k (ran v zs e l r) K = through_same g out p ds _ _ (ap (λ r. after r k Leaves) (l c p ds o)) (K v zs e)

    through_at : (g : List Name) (t : Term) (xs : List Name) (v : List Value) (zs : Frame) (p : Option Reason) (ds : List Deferred) → Through g out p ds (L t (At (push xs v zs) p ds)) → Through g out p ds (L t (record (At zs p ds) { frame = push xs v (zs ++ F) }))
    through_at g t xs v zs p ds h = subst (λ f. Through g out p ds (L t (record (At zs p ds) { frame = f }))) (sym (push_front xs v zs F)) h

    pub through : {g : List Name} {t t' : Term} → Early g t t' → (ys : Frame) → names ys ≡ g → (p : Option Reason) (ds : List Deferred) → Through g out p ds (L t' (At ys p ds))
    through {g} (use_x h k) ys e p ds = out_through g out ys p ds _ e (placed ys (subst Clear (sym e) k) p ds)
    through {g} (first q r) ys e p ds = through_after g out p ds _ _ (through q ys e p ds)
    through {g} (second {w = w} {t' = t'} s q) ys e p ds = silent_through g g w ys p ds _ (runs w g s ys e) (λ v zs d. through_after g out p ds (L t' (At zs p ds)) _ (through q zs d p ds))
    through {g} (in_set h q) ys e p ds = through_after g out p ds _ _ (through q ys e p ds)
    through {g} (in_prim q) ys e p ds = through_after g out p ds _ _ (through q ys e p ds)
    through {g} (in_if q r u) ys e p ds = through_after g out p ds _ _ (through q ys e p ds)
    through {g} (bound q r) ys e p ds = through_after g out p ds _ _ (through q ys e p ds)
    through {g} (under {xs = xs} {w = w} {t' = t'} s q) ys e p ds =
        silent_through g g w ys p ds (λ v s. popped xs (L t' (record s { frame = push xs v s.frame }))) (runs w g s ys e)
        (λ v zs d. through_pop g out xs p ds _ (through_at (xs ++ g) t' xs v zs p ds (through q (push xs v zs) (names_push xs v zs ∙ ap (λ z. xs ++ z) d) p ds)))
    through {g} (in_catch {l = l} q) ys e p ds = through_catch g out p ds _ l (through q ys e p ds)
    through {g} (in_within {rs = rs} h q) ys e p ds = through_within g out rs p ds _ (through q ys e p [])
    through {g} (in_alone q) ys e p ds = through_alone g out p ds _ (through q ys e None ds)
    through {g} (in_call q) ys e p ds = through_after g out p ds _ _ (through q ys e p ds)

    module _ (v : Value) (c1 : Store) (o1 : List Event) (ends : out ≡ Value' v c1 o1) where
      abbrev pub Left : Frame → Option Reason → List Deferred → State
      Left ys p ds = record { frame = ys ++ (x, v) ∷ F; store = c1; pending = p; defers = ds; out = o1 }

      abbrev pub Same' : List Deferred → List Name → Result → Result → Type 0
      Same' ds g = Acts D None None ds ds true g

      follow : Follows D None None (free_level P free A n)
      follow = level_follows D None None P free A (λ below pick B B' r g t t' e. absurd e) n

      rest : {B B' : List Deferred} {g : List Name} {u u' : Term} → Rest g u u' → (s s' : State) → Fits D None None B B' true g s s' → Acts D None None B B' true g (L u s) (L u' s')
      rest {B} {B'} {g} {u} {u'} r s s' m = chain_follows D None None P free A (λ below pick B B' r g t t' e. absurd e) n j B B' true g u u' r s s' m

      -- silent work that stands in front of both
      fronts : {B : List Deferred} {g h : List Name} (w : Term) (ys : Frame) (p : Option Reason) (ds : List Deferred) (k k' : List Value → State → Result) → Ran h w ys
          → ((u : List Value) (zs : Frame) → names zs ≡ h → Same' B g (k u (Left zs p ds)) (k' u (At zs p ds))) → Same' B g (after (L w (Left ys p ds)) k Leaves) (after (L w (At ys p ds)) k' Leaves)
      fronts {B} {g} w ys p ds k k' (ran u zs e l r) m =
          subst (λ z. Same' B g z (after (L w (At ys p ds)) k' Leaves)) (sym (ap (λ r. after r k Leaves) (r v c1 p ds o1)))
          (subst (λ z. Same' B g (k u (Left zs p ds)) z) (sym (ap (λ r. after r k' Leaves) (l c p ds o))) (m u zs e))

      hit : {g : List Name} (ys : Frame) → names ys ≡ g → has x g ≡ false → Clear g → (p : Option Reason) (ds : List Deferred) → Same' ds g (L (Local x) (Left ys p ds)) (L a (At ys p ds))
      hit {g} ys e h k p ds =
          let s : State = Left ys p ds in
          let s' : State = record (At ys p ds) { store = c1; out = o1 } in
          let here : lookup x ((x, v) ∷ F) ≡ v = lookup_here x v F in
          let left : lookup x (ys ++ (x, v) ∷ F) ≡ v = lookup_behind x ys ((x, v) ∷ F) (subst (λ z. has x z ≡ false) (sym e) h) ∙ here in
          let right : L a (At ys p ds) ≡ Gives (v ∷ []) s' = placed ys (subst Clear (sym e) k) p ds ∙ ap (λ z. of_out z (At ys p ds)) ends in
          subst (λ r. Same' ds g (Gives (lookup x (ys ++ (x, v) ∷ F) ∷ []) s) r) (sym right)
          (subst (λ w. Same' ds g (Gives (w ∷ []) s) (Gives (v ∷ []) s')) (sym left) (Sim.gives (fits (inserted ys ((x, v) ∷ []) F e refl tt) equal Upon.base)))

      pub hits : {g : List Name} {t t' : Term} → Early g t t' → (ys : Frame) → names ys ≡ g → (p : Option Reason) (ds : List Deferred) → Same' ds g (L t (Left ys p ds)) (L t' (At ys p ds))
      hits (use_x h k) ys e p ds = hit ys e h k p ds
      hits (first q r) ys e p ds = after_acts _ _ _ (hits q ys e p ds) (λ v s s' m. after_acts _ _ _ (rest r s s' m) (λ w s s' m. Sim.gives m) (go_on _ _ _)) (go_on _ _ _)
      hits {g} (second {w = w} s q) ys e p ds = fronts w ys p ds _ _ (runs w g s ys e) (λ u zs d. after_acts _ _ _ (hits q zs d p ds) (λ w s s' m. Sim.gives m) (go_on _ _ _))
      hits (in_catch {l = l} q) ys e p ds = after_acts _ _ _ (hits q ys e p ds) (λ v s s' m. Sim.gives m) (caught_acts _ _ _ l)
      hits (in_set h q) ys e p ds = after_acts _ _ _ (hits q ys e p ds) (λ w s s' m. Sim.gives (on_put _ _ _ w h m)) (go_on _ _ _)
      hits (in_prim {o = op} q) ys e p ds = after_acts _ _ _ (hits q ys e p ds) (λ w s s' m. primed _ _ _ op w tt m) (go_on _ _ _)
      hits (in_if q r u) ys e p ds = after_acts _ _ _ (hits q ys e p ds) (λ w s s' m. on_truth_acts _ _ _ w (rest r s s' m) (rest u s s' m)) (go_on _ _ _)
      hits (bound {xs = xs} q r) ys e p ds = after_acts _ _ _ (hits q ys e p ds) (λ w s s' m. popped_acts _ _ _ xs (rest r _ _ (on_push _ _ _ xs w m))) (go_on _ _ _)
      hits (in_within {rs = rs} h q) ys e p ds =
          after_acts _ _ _ (resumed_acts _ _ _ _ (follow) Upon.base (unwound_acts _ _ _ _ (follow) (hits q ys e p []))) (λ w s s' m. slotted _ _ _ rs h m) (go_on _ _ _)
      hits (in_alone q) ys e p ds = with_pending_acts _ _ _ _ (follow) (fits {c = c1} {p = p} {p' = p} {o = o1} (inserted ys ((x, v) ∷ []) F e refl tt) equal Upon.base) (hits q ys e None ds)
      hits (in_call {f = f} q) ys e p ds = after_acts _ _ _ (hits q ys e p ds) (λ w s s' m. call_acts _ _ _ (picks P free (free_level P free A n) j f) _ _ tt m) (go_on _ _ _)
      hits {g} (under {xs = xs} {w = w} {t = t} {t' = t'} s q) ys e p ds =
          fronts w ys p ds (λ v s. popped xs (L t (record s { frame = push xs v s.frame }))) (λ v s. popped xs (L t' (record s { frame = push xs v s.frame }))) (runs w g s ys e)
          (λ u zs d. popped_acts _ _ _ xs (subst (λ f. Same' ds (xs ++ g) (L t (record (Left zs p ds) { frame = f })) (L t' (record (At zs p ds) { frame = push xs u (zs ++ F) }))) (sym (push_front xs u zs ((x, v) ∷ F)))
          (subst (λ f. Same' ds (xs ++ g) (L t (Left (push xs u zs) p ds)) (L t' (record (At zs p ds) { frame = f }))) (sym (push_front xs u zs F)) (hits q (push xs u zs) (names_push xs u zs ∙ ap (λ z. xs ++ z) d) p ds))))
