-- An argument that looks may take the place of its uses, where only work that keeps the store stands before the last of them.
use Rattle.std.proofs.Common.{inl, ◌≡◌, ℕ, zero, List, [], ◌∷◌, ◌++◌, Bool, true, None, refl, sym, ap, ◌∙◌, subst}
use Rattle.go_kernel.specs.Kernel.{KeepsMemory, Name, Label, FuncName, Value, Op, Term, Set, Both, Prim as Prim', If, Let, Catch, Within, Alone, Call, Slot, Frame, Deferred, Store, State, Result, Leaves, Level, after, push, pop, popped, Program, eval, picks, chain, free_level}
use Rattle.go_kernel.specs.Alike.{MeanSame}
use Rattle.go_kernel.proofs.Inserted.{Insertion, Longer, inserted, way, anything, unbound}
use Rattle.go_kernel.proofs.Means
use Rattle.go_kernel.proofs.Means.{reframed_self, ends_alike}
use Rattle.go_kernel.proofs.Looks.{Looks, Use, standing, stands, valued, value_in, looks_value}
use Rattle.go_kernel.proofs.WithinProgram as Sim
use Rattle.go_kernel.proofs.WithinProgram.{Way, Moves, Follows, All, Slots, inner, outer, Upon, Fits, fits, Acts, equal, level_follows, chain_follows, after_acts, go_on, caught_acts, on_put, on_push, primed, on_truth_acts, popped_acts, call_acts, unwound_acts, resumed_acts, with_pending_acts, slotted, each}

module _ (x : Name) where
  abbrev pub Gone' : Insertion
  Gone' = anything (x ∷ [])

  -- x is bound, to whatever value
  abbrev pub dropped : Way
  dropped = way Gone'

  abbrev pub Rest : List Name → Term → Term → Type 0
  Rest g u u' = Moves dropped None None true g u u'

  module _ (a : Term) (looks : Looks a) where
    -- the work in front: x has the value of a, and the store is kept
    abbrev pub kept : Insertion
    kept = standing x a looks KeepsMemory ⊥ (λ o k. inl k) (λ k. absurd k)

    abbrev pub Q : Way
    Q = way kept

    abbrev pub Quiet : List Name → Term → Term → Type 0
    Quiet g t t' = Moves Q None None true g t t'

    -- a term whose uses of x all stand before the first work that may write the store
    pub data Front : List Name → Term → Term → Type 0 where
      first : {g : List Name} {t t' u u' : Term} → Front g t t' → Rest g u u' → Front g (Both t u) (Both t' u')
      second : {g : List Name} {w w' t t' : Term} → Quiet g w w' → Front g t t' → Front g (Both w t) (Both w' t')
      in_set : {g xs xs' : List Name} {t t' : Term} → All dropped None None g xs xs' → Front g t t' → Front g (Set xs t) (Set xs' t')
      in_prim : {g : List Name} {o : Op} {t t' : Term} → Front g t t' → Front g (Prim' o t) (Prim' o t')
      in_if : {g : List Name} {t t' u u' w w' : Term} → Front g t t' → Rest g u u' → Rest g w w' → Front g (If t u w) (If t' u' w')
      bound : {g xs : List Name} {t t' u u' : Term} → Front g t t' → Rest (xs ++ g) u u' → Front g (Let xs t u) (Let xs t' u')
      under : {g xs : List Name} {w w' t t' : Term} → Quiet g w w' → Front (xs ++ g) t t' → Front g (Let xs w t) (Let xs w' t')
      in_catch : {g : List Name} {l : Label} {t t' : Term} → Front g t t' → Front g (Catch l t) (Catch l t')
      in_within : {g : List Name} {rs : List Slot} {t t' : Term} → Slots dropped None None g rs → Front g t t' → Front g (Within t rs) (Within t' rs)
      in_alone : {g : List Name} {t t' : Term} → Front g t t' → Front g (Alone t) (Alone t')
      in_call : {g : List Name} {f : FuncName} {t t' : Term} → Front g t t' → Front g (Call f t) (Call f t')
      quiet : {g : List Name} {t t' : Term} → Quiet g t t' → Front g t t'
      unused : {g : List Name} {t t' : Term} → Rest g t t' → Front g t t'

    pub used : (P : Program) (below : Level) (pick : FuncName → Level) (B B' : List Deferred) (r : Bool) (g : List Name) (t t' : Term) → Use x a looks g t t' → (s s' : State) → Fits Q None None B B' r g s s'
        → Acts Q None None B B' r g (eval P pick below t s) (eval P pick below t' s')
    used = stands x a looks KeepsMemory ⊥ (λ o k. inl k) (λ k. absurd k) None None

    module _ (P : Program) (free : FuncName → Bool) (A n j : ℕ) where
      abbrev L : Level
      L = chain P free (free_level P free A n) j

      quietly : {B B' : List Deferred} {g : List Name} {t t' : Term} → Quiet g t t' → (s s' : State) → Fits Q None None B B' true g s s' → Acts Q None None B B' true g (L t s) (L t' s')
      quietly {B} {B'} {g} {t} {t'} q s s' m = chain_follows Q None None P free A (used P) n j B B' true g t t' q s s' m

      rest : {B B' : List Deferred} {g : List Name} {u u' : Term} → Rest g u u' → (s s' : State) → Fits dropped None None B B' true g s s' → Acts dropped None None B B' true g (L u s) (L u' s')
      rest {B} {B'} {g} {u} {u'} r s s' m = chain_follows dropped None None P free A (λ below pick B B' r g t t' e. absurd e) n j B B' true g u u' r s s' m

      follow : Follows dropped None None (free_level P free A n)
      follow = level_follows dropped None None P free A (λ below pick B B' r g t t' e. absurd e) n

      loosen : {g : List Name} {c : Store} {f f' : Frame} → Longer kept g c f f' → Longer Gone' g c f f'
      loosen (inserted zs ys F e i q) = inserted zs ys F e i tt

      listed : {B B' ds ds' : List Deferred} → Upon Q None None B B' ds ds' → Upon dropped None None B B' ds ds'
      listed Upon.base = Upon.base
      listed (Upon.more (inner w y q) u) = absurd w
      listed (Upon.more (outer w) u) = absurd w

      loose : {B B' : List Deferred} {g : List Name} {s s' : State} → Fits Q None None B B' true g s s' → Fits dropped None None B B' true g s s'
      loose (fits y equal u) = fits (loosen y) equal (listed u)

      loose_acts : {B B' : List Deferred} {g : List Name} {r r' : Result} → Acts Q None None B B' true g r r' → Acts dropped None None B B' true g r r'
      loose_acts (Sim.gives m) = Sim.gives (loose m)
      loose_acts (Sim.leaves m) = Sim.leaves (loose m)
      loose_acts Sim.cuts = Sim.cuts

      -- quiet work in front, after which the way is still the first
      after_quiet : {B B' : List Deferred} {g : List Name} {r r' : Result} {k k' : List Value → State → Result} → Acts Q None None B B' true g r r'
          → ((v : List Value) (s s' : State) → Fits Q None None B B' true g s s' → Acts dropped None None B B' true g (k v s) (k' v s')) → Acts dropped None None B B' true g (after r k Leaves) (after r' k' Leaves)
      after_quiet (Sim.gives m) K = K _ _ _ m
      after_quiet (Sim.leaves m) K = Sim.leaves (loose m)
      after_quiet Sim.cuts K = Sim.cuts

      unlisted : {B B' : List Deferred} {g : List Name} {s s' : State} → Fits Q None None B B' true g s s' → Fits Q None None [] [] true g (record s { defers = [] }) (record s' { defers = [] })
      unlisted (fits y equal u) = fits y equal Upon.base

      aloned : {B B' : List Deferred} {g : List Name} {s s' : State} → Fits Q None None B B' true g s s' → Fits Q None None B B' true g (record s { pending = None }) (record s' { pending = None })
      aloned (fits y equal u) = fits y equal u

      pushed : {B B' : List Deferred} {g : List Name} {s s' : State} (xs : List Name) (v : List Value) → Fits Q None None B B' true g s s' → Fits Q None None B B' true (xs ++ g) (record s { frame = push xs v s.frame }) (record s' { frame = push xs v s'.frame })
      pushed xs v m = on_push Q None None xs v m

      pub fronts : {B B' : List Deferred} {g : List Name} {t t' : Term} → Front g t t' → (s s' : State) → Fits Q None None B B' true g s s' → Acts dropped None None B B' true g (L t s) (L t' s')
      fronts (quiet q) s s' m = loose_acts (quietly q s s' m)
      fronts (unused q) s s' m = rest q s s' (loose m)
      fronts (in_catch {l = l} q) s s' m = after_acts _ _ _ (fronts q s s' m) (λ v s s' m. Sim.gives m) (caught_acts _ _ _ l)
      fronts (first q r) s s' m = after_acts _ _ _ (fronts q s s' m) (λ v s s' m. after_acts _ _ _ (rest r s s' m) (λ w s s' m. Sim.gives m) (go_on _ _ _)) (go_on _ _ _)
      fronts (second w q) s s' m = after_quiet (quietly w s s' m) (λ v s s' m. after_acts _ _ _ (fronts q s s' m) (λ w s s' m. Sim.gives m) (go_on _ _ _))
      fronts (in_set h q) s s' m = after_acts _ _ _ (fronts q s s' m) (λ w s s' m. Sim.gives (on_put _ _ _ w h m)) (go_on _ _ _)
      fronts (in_prim {o = op} q) s s' m = after_acts _ _ _ (fronts q s s' m) (λ w s s' m. primed _ _ _ op w tt m) (go_on _ _ _)
      fronts (in_if q r u) s s' m = after_acts _ _ _ (fronts q s s' m) (λ w s s' m. on_truth_acts _ _ _ w (rest r s s' m) (rest u s s' m)) (go_on _ _ _)
      fronts (bound {xs = xs} q r) s s' m = after_acts _ _ _ (fronts q s s' m) (λ w s s' m. popped_acts _ _ _ xs (rest r _ _ (on_push _ _ _ xs w m))) (go_on _ _ _)
      fronts (under {xs = xs} w q) s s' m = after_quiet (quietly w s s' m) (λ v s s' m. popped_acts _ _ _ xs (fronts q _ _ (pushed xs v m)))
      fronts (in_within {rs = rs} h q) s s' m =
          after_acts _ _ _ (resumed_acts _ _ _ _ follow (each _ _ _ (loose m)) (unwound_acts _ _ _ _ follow (fronts q _ _ (unlisted m)))) (λ w s s' m. slotted _ _ _ rs h m) (go_on _ _ _)
      fronts (in_alone q) s s' m = with_pending_acts _ _ _ _ follow (loose m) (fronts q _ _ (aloned m))
      fronts (in_call {f = f} q) s s' m = after_acts _ _ _ (fronts q s s' m) (λ w s s' m. call_acts _ _ _ (picks P free (free_level P free A n) j f) _ _ tt m) (go_on _ _ _)

    -- the law of a Looks argument whose uses stand in front
    module _ (P : Program) (free : FuncName → Bool) (A : ℕ) where
      pub front_moves : (t t' : Term) → Front [] t t' → ((F : Frame) (c : Store) → (v : Value) × (value_in a F c ≡ v ∷ [])) → MeanSame P free A zero (Let (x ∷ []) a t) t'
      front_moves t t' q single n j h s =
          let L' = chain P free (free_level P free A n) j in
          let w = single s.frame s.store in
          let left : State = record s { frame = (x, w.0) ∷ s.frame } in
          let one : L' (Let (x ∷ []) a t) s ≡ popped (x ∷ []) (L' t left) =
          ap (λ r. after r (λ v s. popped (x ∷ []) (L' t (record s { frame = push (x ∷ []) v s.frame }))) Leaves) (looks_value P (picks P free (free_level P free A n) j) (free_level P free A n) a looks s)
          ∙ ap (λ v. popped (x ∷ []) (L' t (record s { frame = push (x ∷ []) v s.frame }))) w.1 in
          let acts = fronts P free A n j q left s (fits (inserted [] ((x, w.0) ∷ []) s.frame refl refl (valued w.0 s.frame w.1)) equal Upon.base) in
          let ends = ends_alike P free A dropped (λ below pick B B' r g t t' e. absurd e) [] (pop (x ∷ [])) (λ f. f) (unbound (x ∷ [])) acts (Means.grows P free A n j t left) in
          subst (λ r. Means.Cover P free A s.out r (L' t' s)) (sym one) (subst (λ r. Means.Cover P free A s.out (popped (x ∷ []) (L' t left)) r) (reframed_self (L' t' s)) ends)
