-- The first of several bound arguments may be bound before the others, under a name of its own.
use Rattle.std.proofs.Common.{◌≡◌, ℕ, zero, List, [], ◌∷◌, ◌++◌, length, Bool, true, false, if◌then◌else◌, Option, None, refl, sym, ap, ◌∙◌, subst, arith}
use Rattle.std.specs.Prelude.{bytes_eq}
use Rattle.std.proofs.lemmas.List.{append-nil}
use Rattle.go_kernel.specs.Kernel.{Name, FuncName, Value, Term, Local, Both, Let, Frame, Deferred, Store, State, Result, Gives, Leaves, Cuts, Level, after, lookup, put, push, pop, popped, Program, eval, chain, free_level, Ext, Event, Reason}
use Rattle.go_kernel.specs.Alike.{out_of, Covered, cuts}
use Rattle.go_kernel.proofs.AcrossPrograms.{weaken}
use Rattle.go_kernel.specs.Alike.{RunAlike, MeanSame}
use Rattle.go_kernel.proofs.PlacedAlike as Place
use Rattle.go_kernel.proofs.PlacedAlike.{Expr, Good, expr_at}
use Rattle.go_kernel.proofs.WithinProgram as Sim
use Rattle.go_kernel.proofs.WithinProgram.{Way, Moves, Upon, Fits, fits, Acts, equal, chain_follows}
use Rattle.go_kernel.proofs.Means
use Rattle.go_kernel.proofs.Means.{reframed_twice, ends_alike}
use Rattle.go_kernel.proofs.FreshNames.{name_self}
use Rattle.go_kernel.proofs.FrameFacts.{by_has, empty_names, lookup_behind, lookup_front, lookup_skip, names_push, names_put, pop_front, push_front, put_behind, put_front, pop_all}
use Rattle.go_kernel.specs.Scope.{has, names}
use Rattle.go_kernel.proofs.Inserted.{inserted, way, fixed}

module _ (x y : Name) (xs : List Name) (x_new : has x xs ≡ false) (y_new : has y xs ≡ false) where
  -- one frame has x bound after xs, the other y before them, to the same value
  pub data Peel (g : List Name) : Frame → Frame → Type 0 where
    peel : (zs ws F : Frame) (v : Value) → names zs ≡ g → names ws ≡ xs → Peel g (zs ++ (x, v) ∷ (ws ++ F)) (zs ++ (ws ++ (y, v) ∷ F))

  pub data Names (g : List Name) (w : Name) : Type 0 where
    bound : has w g ≡ true → Names g w
    other : has w g ≡ false → bytes_eq w x ≡ false → bytes_eq w y ≡ false → Names g w

  pub data Both' (g : List Name) : Name → Name → Type 0 where
    both : has x g ≡ false → has y g ≡ false → Both' g x y

  pub data Use (g : List Name) : Term → Term → Type 0 where
    use_x : has x g ≡ false → has y g ≡ false → Use g (Local x) (Local y)

  skip_put : (w z : Name) (v u : Value) (F : Frame) → bytes_eq w z ≡ false → put w u ((z, v) ∷ F) ≡ (z, v) ∷ put w u F
  skip_put w z v u F h = ap (λ c. if c then (z, u) ∷ F else (z, v) ∷ put w u F) h

  hit_put : (z : Name) (v u : Value) (F : Frame) → put z u ((z, v) ∷ F) ≡ (z, u) ∷ F
  hit_put z v u F = ap (λ c. if c then (z, u) ∷ F else (z, v) ∷ put z u F) (name_self z)

  pub p_read : (g : List Name) (f f' : Frame) (w : Name) → Peel g f f' → Names g w → lookup w f ≡ lookup w f'
  p_read g _ _ w (peel zs ws F v e q) (bound h) = let k = subst (λ z. has w z ≡ true) (sym e) h in lookup_front w zs ((x, v) ∷ (ws ++ F)) k ∙ sym (lookup_front w zs (ws ++ (y, v) ∷ F) k)
  p_read g _ _ w (peel zs ws F v e q) (other h n m) =
      let k = subst (λ z. has w z ≡ false) (sym e) h in
      let skip : lookup w ((x, v) ∷ (ws ++ F)) ≡ lookup w (ws ++ F) = ap (λ c. if c then v else lookup w (ws ++ F)) n in
      lookup_behind w zs ((x, v) ∷ (ws ++ F)) k ∙ skip ∙ sym (lookup_behind w zs (ws ++ (y, v) ∷ F) k ∙ lookup_skip w y v ws F m)

  pub p_set : (g : List Name) (f f' : Frame) (w : Name) (u : Value) → Peel g f f' → Names g w → Peel g (put w u f) (put w u f')
  p_set g _ _ w u (peel zs ws F v e q) (bound h) =
      let k = subst (λ z. has w z ≡ true) (sym e) h in
      subst (λ z. Peel g z (put w u (zs ++ (ws ++ (y, v) ∷ F)))) (sym (put_front w u zs ((x, v) ∷ (ws ++ F)) k)) (subst (λ z. Peel g (put w u zs ++ (x, v) ∷ (ws ++ F)) z) (sym (put_front w u zs (ws ++ (y, v) ∷ F) k)) (peel (put w u zs) ws F v (names_put w u zs ∙ e) q))
  p_set g _ _ w u (peel zs ws F v e q) (other h n m) = by_has (has w (names ws)) early late
    where
      k : has w (names zs) ≡ false
      k = subst (λ z. has w z ≡ false) (sym e) h

      left : put w u (zs ++ (x, v) ∷ (ws ++ F)) ≡ zs ++ (x, v) ∷ put w u (ws ++ F)
      left = put_behind w u zs ((x, v) ∷ (ws ++ F)) k ∙ ap (λ z. zs ++ z) (skip_put w x v u (ws ++ F) n)

      right : put w u (zs ++ (ws ++ (y, v) ∷ F)) ≡ zs ++ put w u (ws ++ (y, v) ∷ F)
      right = put_behind w u zs (ws ++ (y, v) ∷ F) k

      put_in : (r r' : Frame) → put w u (ws ++ F) ≡ r → put w u (ws ++ (y, v) ∷ F) ≡ r' → Peel g (zs ++ (x, v) ∷ r) (zs ++ r') → Peel g (put w u (zs ++ (x, v) ∷ (ws ++ F))) (put w u (zs ++ (ws ++ (y, v) ∷ F)))
      put_in r r' a b p =
          subst (λ z. Peel g z (put w u (zs ++ (ws ++ (y, v) ∷ F)))) (sym (left ∙ ap (λ z. zs ++ (x, v) ∷ z) a))
          (subst (λ z. Peel g (zs ++ (x, v) ∷ r) z) (sym (right ∙ ap (λ z. zs ++ z) b)) p)

      early : has w (names ws) ≡ true → Peel g (put w u (zs ++ (x, v) ∷ (ws ++ F))) (put w u (zs ++ (ws ++ (y, v) ∷ F)))
      early c = put_in (put w u ws ++ F) (put w u ws ++ (y, v) ∷ F) (put_front w u ws F c) (put_front w u ws ((y, v) ∷ F) c) (peel zs (put w u ws) F v e (names_put w u ws ∙ q))

      late : has w (names ws) ≡ false → Peel g (put w u (zs ++ (x, v) ∷ (ws ++ F))) (put w u (zs ++ (ws ++ (y, v) ∷ F)))
      late c = put_in (ws ++ put w u F) (ws ++ (y, v) ∷ put w u F) (put_behind w u ws F c) (put_behind w u ws ((y, v) ∷ F) c ∙ ap (λ z. ws ++ z) (skip_put w y v u F m)) (peel zs ws (put w u F) v e q)

  pub p_pair : (g : List Name) (f f' : Frame) (w w' : Name) (u : Value) → Peel g f f' → Both' g w w' → Peel g (put w u f) (put w' u f')
  p_pair g _ _ _ _ u (peel zs ws F v e q) (both h m) =
      let k = subst (λ z. has x z ≡ false) (sym e) h in
      let l = subst (λ z. has y z ≡ false) (sym e) m in
      let n = subst (λ z. has y z ≡ false) (sym q) y_new in
      let left : put x u (zs ++ (x, v) ∷ (ws ++ F)) ≡ zs ++ (x, u) ∷ (ws ++ F) = put_behind x u zs ((x, v) ∷ (ws ++ F)) k ∙ ap (λ z. zs ++ z) (hit_put x v u (ws ++ F)) in
      let right : put y u (zs ++ (ws ++ (y, v) ∷ F)) ≡ zs ++ (ws ++ (y, u) ∷ F) = put_behind y u zs (ws ++ (y, v) ∷ F) l ∙ ap (λ z. zs ++ z) (put_behind y u ws ((y, v) ∷ F) n ∙ ap (λ z. ws ++ z) (hit_put y v u F)) in
      subst (λ z. Peel g z (put y u (zs ++ (ws ++ (y, v) ∷ F)))) (sym left) (subst (λ z. Peel g (zs ++ (x, u) ∷ (ws ++ F)) z) (sym right) (peel zs ws F u e q))

  pub p_push : (g : List Name) (f f' : Frame) (bs : List Name) (w : List Value) → Peel g f f' → Peel (bs ++ g) (push bs w f) (push bs w f')
  p_push g _ _ bs w (peel zs ws F v e q) =
      subst (λ z. Peel (bs ++ g) z (push bs w (zs ++ (ws ++ (y, v) ∷ F)))) (sym (push_front bs w zs ((x, v) ∷ (ws ++ F)))) (subst (λ z. Peel (bs ++ g) (push bs w zs ++ (x, v) ∷ (ws ++ F)) z) (sym (push_front bs w zs (ws ++ (y, v) ∷ F))) (peel (push bs w zs) ws F v (names_push bs w zs ∙ ap (λ z. bs ++ z) e) q))

  pub p_pop : (g : List Name) (f f' : Frame) (bs : List Name) → Peel (bs ++ g) f f' → Peel g (pop bs f) (pop bs f')
  p_pop g _ _ bs (peel zs ws F v e q) =
      let one = pop_front bs g zs ((x, v) ∷ (ws ++ F)) e in
      let two = pop_front bs g zs (ws ++ (y, v) ∷ F) e in
      subst (λ z. Peel g z (pop bs (zs ++ (ws ++ (y, v) ∷ F)))) (sym one.1) (subst (λ z. Peel g (pop bs zs ++ (x, v) ∷ (ws ++ F)) z) (sym two.1) (peel (pop bs zs) ws F v one.0 q))

  abbrev pub peeled : Way
  peeled = record {
    R = λ g f c f'. Peel g f f';
    Reads = Names;
    Sets = Names;
    Pairs = Both';
    Does = λ o. Unit;
    Writes = Unit;
    Base = Use;
    on_read = λ g f c f' w r h. p_read g f f' w r h;
    on_set = λ g f c f' w u r h. p_set g f f' w u r h;
    on_pair = λ g f c f' w w' u r h. p_pair g f f' w w' u r h;
    on_push = λ g f c f' bs w r. p_push g f f' bs w r;
    on_pop = λ g f c f' bs r. p_pop g f f' bs r;
    on_ok = λ g f c f' o v w c' e r h z. r;
    on_writes = λ g f c c' f' r h. r;
  }

  pub base_acts : (P : Program) (below : Level) (pick : FuncName → Level) (B B' : List Deferred) (r : Bool) (g : List Name) (t t' : Term) → Use g t t' → (s s' : State) → Fits peeled None None B B' r g s s'
      → Acts peeled None None B B' r g (eval P pick below t s) (eval P pick below t' s')
  base_acts P below pick B B' r g _ _ (use_x h m) _ _ (fits {c = c} {p = p} {p' = p'} {o = o} {ds = ds} {ds' = ds'} (peel zs ws F v e q) z d) =
      let s : State = record { frame = zs ++ (x, v) ∷ (ws ++ F); store = c; pending = p; defers = ds; out = o } in
      let s' : State = record { frame = zs ++ (ws ++ (y, v) ∷ F); store = c; pending = p'; defers = ds'; out = o } in
      let k = subst (λ z. has x z ≡ false) (sym e) h in
      let l = subst (λ z. has y z ≡ false) (sym e) m in
      let n = subst (λ z. has y z ≡ false) (sym q) y_new in
      let here : lookup x ((x, v) ∷ (ws ++ F)) ≡ v = ap (λ c. if c then v else lookup x (ws ++ F)) (name_self x) in
      let there : lookup y ((y, v) ∷ F) ≡ v = ap (λ c. if c then v else lookup y F) (name_self y) in
      let left : lookup x s.frame ≡ v = lookup_behind x zs ((x, v) ∷ (ws ++ F)) k ∙ here in
      let right : lookup y s'.frame ≡ v = lookup_behind y zs (ws ++ (y, v) ∷ F) l ∙ lookup_behind y ws ((y, v) ∷ F) n ∙ there in
      subst (λ w. Acts peeled None None B B' r g (Gives (lookup x s.frame ∷ []) s) (Gives (w ∷ []) s')) (left ∙ sym right) (Sim.gives (fits (peel zs ws F v e q) z d))

  joins : (f f' : Frame) (c : Store) → Peel [] f f' → pop (x ∷ xs) f ≡ pop (y ∷ []) (pop xs f')
  joins _ _ c (peel zs ws F v e q) =
      let none = empty_names zs e in
      ap (λ z. pop (x ∷ xs) (z ++ (x, v) ∷ (ws ++ F))) none ∙ pop_all xs ws F q ∙ sym (ap (λ z. pop (y ∷ []) (pop xs (z ++ (ws ++ (y, v) ∷ F)))) none ∙ ap (pop (y ∷ [])) (pop_all xs ws ((y, v) ∷ F) q))

  module _ (P : Program) (free : FuncName → Bool) (A : ℕ) (t t' : Term) (m : Moves peeled None None true [] t t') where
    abbrev L : ℕ → ℕ → Level
    L n j = chain P free (free_level P free A n) j

    abbrev Cover : List Event → Result → Result → Type 0
    Cover o r r' = Covered ⊥ (RunAlike P free A) o r r'

    start : (xs : List Name) (w : List Value) (F : Frame) → push xs w F ≡ push xs w [] ++ F
    start xs w F = push_front xs w [] F

    bodies : (n j : ℕ) (v : Value) (w : List Value) (F : Frame) (c : Store) (p : Option Reason) (ds : List Deferred) (o : List Event)
        → Cover o (popped (x ∷ xs) (L n j t (record { frame = (x, v) ∷ push xs w F; store = c; pending = p; defers = ds; out = o })))
        (popped (y ∷ []) (popped xs (L n j t' (record { frame = push xs w ((y, v) ∷ F); store = c; pending = p; defers = ds; out = o }))))
    bodies n j v w F c p ds o =
        let s : State = record { frame = (x, v) ∷ push xs w F; store = c; pending = p; defers = ds; out = o } in
        let s' : State = record { frame = push xs w ((y, v) ∷ F); store = c; pending = p; defers = ds; out = o } in
        let rel0 : Peel [] ((x, v) ∷ (push xs w [] ++ F)) (push xs w [] ++ (y, v) ∷ F) = peel [] (push xs w []) F v refl (names_push xs w [] ∙ append-nil xs) in
        let rel : Peel [] s.frame s'.frame = subst (λ z. Peel [] ((x, v) ∷ z) (push xs w ((y, v) ∷ F))) (sym (start xs w F)) (subst (λ z. Peel [] ((x, v) ∷ (push xs w [] ++ F)) z) (sym (start xs w ((y, v) ∷ F))) rel0) in
        let acts = chain_follows peeled None None P free A (base_acts P) n j ds ds true [] t t' m s s' (fits rel equal Upon.base) in
        subst (λ r. Cover o (popped (x ∷ xs) (L n j t s)) r) (sym (reframed_twice (pop (y ∷ [])) (pop xs) (L n j t' s')))
        (ends_alike P free A peeled (base_acts P) [] (pop (x ∷ xs)) (λ f. pop (y ∷ []) (pop xs f)) joins acts (Means.grows P free A n j t s))

    module _ (a os : Term) (one : Expr P 1 a) (k : ℕ) (some : Expr P k os) (aside : (F : Frame) (v : Value) (p : Option Reason) → Moves (way (fixed ((y, v) ∷ []) F)) p p true [] os os) where
      -- the two ways to go on from the values of the other arguments
      left_on : ℕ → ℕ → Value → List Value → State → Result
      left_on n j v w s = popped (x ∷ xs) (L n j t (record s { frame = (x, v) ∷ push xs w s.frame }))

      right_on : ℕ → ℕ → List Value → State → Result
      right_on n j w s = popped xs (L n j t' (record s { frame = push xs w s.frame }))

      pick_up : (n j : ℕ) (v : Value) (w : List Value) (F f f' : Frame) (c : Store) (p : Option Reason) (ds d d' : List Deferred) (o : List Event) → F ≡ f → (y, v) ∷ F ≡ f' → ds ≡ d → ds ≡ d'
          → Cover o (left_on n j v w (record { frame = f; store = c; pending = p; defers = d; out = o })) (popped (y ∷ []) (right_on n j w (record { frame = f'; store = c; pending = p; defers = d'; out = o })))
      unfolding left_on right_on
      pick_up n j v w F f f' c p ds d d' o e e' q q' =
          subst (λ z. Cover o (left_on n j v w (record { frame = z; store = c; pending = p; defers = d; out = o })) (popped (y ∷ []) (right_on n j w (record { frame = f'; store = c; pending = p; defers = d'; out = o })))) e
          (subst (λ z. Cover o (left_on n j v w (record { frame = F; store = c; pending = p; defers = d; out = o })) (popped (y ∷ []) (right_on n j w (record { frame = z; store = c; pending = p; defers = d'; out = o })))) e'
          (subst (λ z. Cover o (left_on n j v w (record { frame = F; store = c; pending = p; defers = z; out = o })) (popped (y ∷ []) (right_on n j w (record { frame = (y, v) ∷ F; store = c; pending = p; defers = d'; out = o })))) q
          (subst (λ z. Cover o (left_on n j v w (record { frame = F; store = c; pending = p; defers = ds; out = o })) (popped (y ∷ []) (right_on n j w (record { frame = (y, v) ∷ F; store = c; pending = p; defers = z; out = o })))) q' (bodies n j v w F c p ds o))))

      rest : (n j : ℕ) (v : Value) (F : Frame) (p : Option Reason) (ds : List Deferred) (o : List Event) (r' r : Result) → Acts (way (fixed ((y, v) ∷ []) F)) p p ds ds true [] r' r → Good P k ds r → Good P k ds r' → Ext o (out_of r)
          → Cover o (after (after r (λ w s. Gives (v ∷ w) s) Leaves) (λ w s. popped (x ∷ xs) (L n j t (record s { frame = push (x ∷ xs) w s.frame }))) Leaves) (popped (y ∷ []) (after r' (right_on n j) Leaves))
      unfolding left_on right_on
      rest n j v F p ds o _ _ (Sim.gives {v = w} (fits {c = c} {p = p1} {o = o1} {ds = d'} {ds' = d} (inserted zs ys G e i h) equal u)) (Place.gives l q) (Place.gives l' q') g =
          let none = empty_names zs e in
          let there : zs ++ (ys ++ G) ≡ (y, v) ∷ F = cc (ap (λ z. z ++ (ys ++ G)) none, ap (λ z. z ++ G) h.0, ap (λ z. (y, v) ∷ z) h.1) in
          weaken ⊥ (RunAlike P free A) g (pick_up n j v w F (zs ++ G) (zs ++ (ys ++ G)) c p1 ds d d' o1 (sym (ap (λ z. z ++ G) none ∙ h.1)) (sym there) (sym q) (sym q'))
      rest n j v F p ds o _ _ (Sim.leaves {e = x'} (fits {c = c} {p = p1} {o = o1} {ds = d'} {ds' = d} (inserted zs ys G e i h) equal u)) (Place.panics q) (Place.panics q') g =
          let none = empty_names zs e in
          let frames : zs ++ G ≡ pop (y ∷ []) (zs ++ (ys ++ G)) = ap (λ z. z ++ G) none ∙ sym (ap (λ z. pop (y ∷ []) (z ++ (ys ++ G))) none ∙ ap (λ z. pop (y ∷ []) (z ++ G)) h.0) in
          subst (λ z. Cover o (Leaves x' (record { frame = zs ++ G; store = c; pending = p1; defers = d; out = o1 })) (Leaves x' (record { frame = z; store = c; pending = p1; defers = d'; out = o1 }))) frames
          (subst (λ z. Cover o (Leaves x' (record { frame = zs ++ G; store = c; pending = p1; defers = d; out = o1 })) (Leaves x' (record { frame = zs ++ G; store = c; pending = p1; defers = z; out = o1 }))) (q ∙ sym q') (Means.cov_self P free A (Leaves x' (record { frame = zs ++ G; store = c; pending = p1; defers = d; out = o1 })) g))
      rest n j v F p ds o _ _ Sim.cuts q q' g = cuts g

      then' : (n j : ℕ) (v : List Value) (s : State) → length v ≡ 1
          → Cover s.out (after (after (L n j os s) (λ w s. Gives (v ++ w) s) Leaves) (λ w s. popped (x ∷ xs) (L n j t (record s { frame = push (x ∷ xs) w s.frame }))) Leaves)
          (popped (y ∷ []) (after (L n j os (record s { frame = push (y ∷ []) v s.frame })) (right_on n j) Leaves))
      then' n j [] s l = absurd (grind (arith, l))
      then' n j (v ∷ []) s l =
          let s1 : State = record s { frame = (y, v) ∷ s.frame } in
          let acts = chain_follows (way (fixed ((y, v) ∷ []) s.frame)) s.pending s.pending P free A (λ below pick B B' r g t t' e. absurd e) n j s.defers s.defers true [] os os (aside s.frame v s.pending) s1 s (fits (inserted [] ((y, v) ∷ []) s.frame refl refl (refl, refl)) equal Upon.base) in
          rest n j v s.frame s.pending s.defers s.out (L n j os s1) (L n j os s) acts (expr_at P free A k n j os some s) (expr_at P free A k n j os some s1) (Means.grows P free A n j os s)
      then' n j (v ∷ (w ∷ u)) s l = absurd (grind (arith, l))

      -- the law
      pub peels : MeanSame P free A zero (Let (x ∷ xs) (Both a os) t) (Let (y ∷ []) a (Let xs os t'))
      unfolding right_on
      peels n j h s = go (L n j a s) (expr_at P free A 1 n j a one s) (Means.grows P free A n j a s)
        where
          go : (r : Result) → Good P 1 s.defers r → Ext s.out (out_of r)
              → Cover s.out (after (after r (λ v s. after (L n j os s) (λ w s. Gives (v ++ w) s) Leaves) Leaves) (λ w s. popped (x ∷ xs) (L n j t (record s { frame = push (x ∷ xs) w s.frame }))) Leaves)
              (after r (λ v s. popped (y ∷ []) (after (L n j os (record s { frame = push (y ∷ []) v s.frame })) (λ w s. popped xs (L n j t' (record s { frame = push xs w s.frame }))) Leaves)) Leaves)
          go (Gives v s1) (Place.gives l q) e = weaken ⊥ (RunAlike P free A) e (then' n j v s1 l)
          go (Leaves x s1) q e = Means.cov_self P free A (Leaves x s1) e
          go (Cuts o) q e = cuts e
