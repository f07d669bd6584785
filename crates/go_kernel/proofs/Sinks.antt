-- The ways in which a caller's return sets its result slots: in the frame, or in variables that pointers lead to too.
use Rattle.std.proofs.Common.{◌≡◌, ℕ, List, [], ◌∷◌, ◌++◌, length, Bool, true, false, true≢false, if◌then◌else◌, refl, sym, ap, ◌∙◌, subst, arith}
use Rattle.std.specs.Prelude.{bytes_eq}
use Rattle.std.proofs.lemmas.List.{append-nil}
use Rattle.go_kernel.specs.Kernel.{Name, FuncName, Value, Save, Unchecked, Slot, InFrame, InCell, Set, Let, Frame, Store, State, Result, Gives, Leaves, Cuts, Level, after, popped, lookup, put, put_all, push, answered, Ok, prim, Program, eval, picks, free_level}
use Rattle.go_kernel.specs.Store.{written}
use Rattle.go_kernel.specs.Scope.{has, names, slot_name}
use Rattle.go_kernel.specs.Forms.{give_slots}
use Rattle.go_kernel.proofs.FreshNames.{name_self, name_true, true_name}
use Rattle.go_kernel.proofs.FrameFacts.{lookup_front, lookup_behind, lookup_here, put_behind, push_front, names_push, pop_all}
use Rattle.go_kernel.proofs.PlacedAlike as Place
use Rattle.go_kernel.proofs.PlacedAlike.{Good, expr_at}
use Rattle.go_kernel.proofs.Means.{Lev}
use Rattle.go_kernel.proofs.Tail.{Apart, put_all_behind, DistinctNames, Sink}

pub apart_none : (rs : List Name) → Apart rs []
apart_none [] = tt
apart_none (r ∷ rs) = (refl, apart_none rs)

module _ (P : Program) (free : FuncName → Bool) (A : ℕ) (ps : List Name) where
  -- results that stand in the frame
  abbrev pub frame_sink : (width : ℕ) (rs : List Name) → Apart rs ps → Sink P free A width ps
  frame_sink width rs rs_ps = record {
    sink = λ e. Set rs e;
    ran = λ v F c. (put_all rs v F, c);
    Clear = λ g. Apart rs g;
    clear = apart_none rs;
    sinks = λ n j e s k. refl;
    behind = λ zs bs F v c l k q. ap (λ f. (f, c)) (put_all_behind rs v zs (bs ++ F) k ∙ ap (λ f. zs ++ f) (put_all_behind rs v bs F (subst (Apart rs) (sym q) rs_ps)));
  }

  -- the store after a store through a pointer
  abbrev pub stored : Value → Value → Store → Store
  stored p w c = record c { memory = written p w c.memory }

  -- what setting slots does
  abbrev pub given : List Slot → List Value → Frame → Store → Frame × Store
  given (InFrame r ∷ rs) (w ∷ v) F c = given rs v (put r w F) c
  given (InCell r ∷ rs) (w ∷ v) F c = given rs v F (stored (lookup r F) w c)
  given [] v F c = (F, c)
  given rs [] F c = (F, c)

  abbrev pub ApartSlots : List Slot → List Name → Type 0
  ApartSlots [] g = Unit {0}
  ApartSlots (r ∷ rs) g = (has (slot_name r) g ≡ false) × ApartSlots rs g

  -- these variables hold these values
  abbrev Hold : Frame → List Name → List Value → Type 0
  Hold T [] [] = Unit {0}
  Hold T (t ∷ ts) (w ∷ v) = (has t (names T) ≡ true) × (lookup t T ≡ w) × Hold T ts v
  Hold T _ _ = ⊥

  saves : (p w : Value) (c : Store) → prim (Save Unchecked) (p ∷ w ∷ []) c ≡ Ok [] (stored p w c) []
  unfolding prim
  saves p w c = refl

  gives_all : (pick : FuncName → Level) (below : Level) (rs : List Slot) (ts : List Name) (v : List Value) (T F : Frame) (s : State) → length rs ≡ length ts → Hold T ts v → ApartSlots rs (names T)
      → eval P pick below (give_slots rs ts) (record s { frame = T ++ F }) ≡ Gives [] (record s { frame = T ++ (given rs v F s.store).0; store = (given rs v F s.store).1 })
  gives_all pick below [] [] [] T F s l h a = refl
  gives_all pick below [] [] (w ∷ v) T F s l h a = absurd h
  gives_all pick below [] (t ∷ ts) v T F s l h a = absurd (grind (arith, l))
  gives_all pick below (r ∷ rs) [] v T F s l h a = absurd (grind (arith, l))
  gives_all pick below (r ∷ rs) (t ∷ ts) [] T F s l h a = absurd h
  gives_all pick below (InFrame r ∷ rs) (t ∷ ts) (w ∷ v) T F s l h a =
      let held : lookup t (T ++ F) ≡ w = lookup_front t T F h.0 ∙ h.1 in
      let here : put r (lookup t (T ++ F)) (T ++ F) ≡ T ++ put r w F = ap (λ z. put r z (T ++ F)) held ∙ put_behind r w T F a.0 in
      ap (λ f. after (eval P pick below (give_slots rs ts) (record s { frame = f })) (λ u s. Gives u s) Leaves) here
      ∙ ap (λ y. after y (λ u s. Gives u s) Leaves) (gives_all pick below rs ts v T (put r w F) s (grind (arith, l)) h.2 a.1)
  gives_all pick below (InCell r ∷ rs) (t ∷ ts) (w ∷ v) T F s l h a =
      let held : lookup t (T ++ F) ≡ w = lookup_front t T F h.0 ∙ h.1 in
      let point : lookup r (T ++ F) ≡ lookup r F = lookup_behind r T F a.0 in
      let c1 = stored (lookup r F) w s.store in
      let one : prim (Save Unchecked) (lookup r (T ++ F) ∷ lookup t (T ++ F) ∷ []) s.store ≡ Ok [] c1 [] = ap (λ z. prim (Save Unchecked) (z ∷ lookup t (T ++ F) ∷ []) s.store) point ∙ ap (λ z. prim (Save Unchecked) (lookup r F ∷ z ∷ []) s.store) held ∙ saves (lookup r F) w s.store in
      ap (λ y. after (answered y (record s { frame = T ++ F })) (λ u s. after (eval P pick below (give_slots rs ts) s) (λ w s. Gives (u ++ w) s) Leaves) Leaves) one
      ∙ ap (λ y. after y (λ u s. Gives u s) Leaves) (gives_all pick below rs ts v T F (record s { store = c1 }) (grind (arith, l)) h.2 a.1)

  hold_more : (x : Name) (w : Value) (T : Frame) (ts : List Name) (v : List Value) → has x ts ≡ false → Hold T ts v → Hold ((x, w) ∷ T) ts v
  hold_more x w T [] [] n h = tt
  hold_more x w T [] (u ∷ v) n h = absurd h
  hold_more x w T (t ∷ ts) [] n h = absurd h
  hold_more x w T (t ∷ ts) (u ∷ v) n h = go (bytes_eq x t) refl n (hold_more x w T ts v)
    where
      turned : (b : Bool) → bytes_eq x t ≡ false → bytes_eq t x ≡ b → b ≡ false
      turned true e k = absurd (true≢false (sym (true_name x t (sym (name_true t x k))) ∙ e))
      turned false e k = refl

      go : (b : Bool) → bytes_eq x t ≡ b → (if b then true else has x ts) ≡ false → (has x ts ≡ false → Hold T ts v → Hold ((x, w) ∷ T) ts v) → Hold ((x, w) ∷ T) (t ∷ ts) (u ∷ v)
      go true e n r = absurd (true≢false n)
      go false e n r = let k = turned (bytes_eq t x) e refl in (ap (λ b. if b then true else has t (names T)) k ∙ h.0, ap (λ b. if b then w else lookup t T) k ∙ h.1, r n h.2)

  hold_pushed : (ts : List Name) (v : List Value) → DistinctNames ts → length v ≡ length ts → Hold (push ts v []) ts v
  hold_pushed [] [] d l = tt
  hold_pushed [] (w ∷ v) d l = absurd (grind (arith, l))
  hold_pushed (t ∷ ts) [] d l = absurd (grind (arith, l))
  hold_pushed (t ∷ ts) (w ∷ v) d l = (ap (λ b. if b then true else has t (names (push ts v []))) (name_self t), lookup_here t w (push ts v []), hold_more t w (push ts v []) ts v d.0 (hold_pushed ts v d.1 (grind (arith, l))))

  given_behind : (rs : List Slot) (v : List Value) (f F : Frame) (c : Store) → ApartSlots rs (names f) → given rs v (f ++ F) c ≡ (f ++ (given rs v F c).0, (given rs v F c).1)
  given_behind [] v f F c a = refl
  given_behind (InFrame r ∷ rs) [] f F c a = refl
  given_behind (InCell r ∷ rs) [] f F c a = refl
  given_behind (InFrame r ∷ rs) (w ∷ v) f F c a = ap (λ z. given rs v z c) (put_behind r w f F a.0) ∙ given_behind rs v f (put r w F) c a.1
  given_behind (InCell r ∷ rs) (w ∷ v) f F c a = ap (λ z. given rs v (f ++ F) (stored z w c)) (lookup_behind r f F a.0) ∙ given_behind rs v f F (stored (lookup r F) w c) a.1

  module _ (width : ℕ) (rs : List Slot) (ts : List Name) (rs_width : length rs ≡ width) (ts_width : length ts ≡ width) (distinct : DistinctNames ts) (rs_ts : ApartSlots rs ts) (rs_ps : ApartSlots rs ps) where
    of_length : (n j : ℕ) (s : State) (v : List Value) (s1 : State) → length v ≡ width → popped ts (Lev P free A n j (give_slots rs ts) (record s1 { frame = push ts v s1.frame })) ≡ Gives [] (record s1 { frame = (given rs v s1.frame s1.store).0; store = (given rs v s1.frame s1.store).1 })
    of_length n j s v s1 l =
        let T = push ts v [] in
        let named : names T ≡ ts = names_push ts v [] ∙ append-nil ts in
        let split : push ts v s1.frame ≡ T ++ s1.frame = push_front ts v [] s1.frame in
        let held = hold_pushed ts v distinct (l ∙ sym ts_width) in
        ap (λ f. popped ts (Lev P free A n j (give_slots rs ts) (record s1 { frame = f }))) split
        ∙ ap (popped ts) (gives_all (picks P free (free_level P free A n) j) (free_level P free A n) rs ts v T s1.frame s1 (rs_width ∙ sym ts_width) held (subst (ApartSlots rs) (sym named) rs_ts))
        ∙ ap (λ f. Gives [] (record s1 { frame = f; store = (given rs v s1.frame s1.store).1 })) (pop_all ts T (given rs v s1.frame s1.store).0 named)

    pub sinks : (n j : ℕ) (s : State) (r : Result) → Good P width s.defers r → after r (λ v s. popped ts (Lev P free A n j (give_slots rs ts) (record s { frame = push ts v s.frame }))) Leaves ≡ after r (λ v s. Gives [] (record s { frame = (given rs v s.frame s.store).0; store = (given rs v s.frame s.store).1 })) Leaves
    sinks n j s (Gives v s1) (Place.gives l d) = of_length n j s v s1 l
    sinks n j s (Leaves x s1) g = refl
    sinks n j s (Cuts o) g = refl

    pub behind : (zs bs F : Frame) (v : List Value) (c : Store) → ApartSlots rs (names zs) → names bs ≡ ps → given rs v (zs ++ (bs ++ F)) c ≡ (zs ++ (bs ++ (given rs v F c).0), (given rs v F c).1)
    behind zs bs F v c k q = given_behind rs v zs (bs ++ F) c k ∙ ap (λ z. (zs ++ z.0, z.1)) (given_behind rs v bs F c (subst (ApartSlots rs) (sym q) rs_ps))

    pub none_apart : (rs : List Slot) → ApartSlots rs []
    none_apart [] = tt
    none_apart (r ∷ rs) = (refl, none_apart rs)

    -- results of which some live in cells
    abbrev pub slot_sink : Sink P free A width ps
    slot_sink = record {
      sink = λ e. Let ts e (give_slots rs ts);
      ran = λ v F c. given rs v F c;
      Clear = λ g. ApartSlots rs g;
      clear = none_apart rs;
      sinks = λ n j e s k. sinks n j s (Lev P free A n j e s) (expr_at P free A width n j e k s);
      behind = λ zs bs F v c l k q. behind zs bs F v c k q;
    }
