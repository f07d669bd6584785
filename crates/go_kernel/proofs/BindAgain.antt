-- Variables that are bound may be bound again to their values.
use Rattle.std.proofs.Common.{◌≡◌, ℕ, zero, List, [], ◌∷◌, ◌++◌, Bool, true, false, true≢false, if◌then◌else◌, None, refl, sym, ap, ◌∙◌, subst}
use Rattle.std.specs.Prelude.{bytes_eq}
use Rattle.std.proofs.lemmas.List.{append-nil}
use Rattle.go_kernel.proofs.FreshNames.{name_true}
use Rattle.go_kernel.specs.Kernel.{Name, FuncName, Value, Term, Vals, Local, Both, Let, Frame, Deferred, Store, State, Result, Gives, Leaves, Cuts, Level, after, lookup, put, push, pop, popped, Program, eval, Ext}
use Rattle.go_kernel.specs.Alike.{out_of}
use Rattle.go_kernel.proofs.AcrossPrograms.{weaken}
use Rattle.go_kernel.specs.Alike.{RunAlike}
use Rattle.go_kernel.proofs.WithinProgram.{Way, Moves, Upon, Fits, fits, Acts, equal, chain_follows}
use Rattle.go_kernel.proofs.Means
use Rattle.go_kernel.proofs.Means.{Mean, Lev, Cover, reframed_twice, ends_alike, cov_self}
use Rattle.go_kernel.proofs.FrameFacts.{by_has, empty_names, lookup_behind, lookup_front, lookup_put_other, names_push, names_put, pop_all, pop_front, push_front, put_behind, put_front, lookup_put_same}
use Rattle.go_kernel.specs.Scope.{has, names}

abbrev pub locals_of : List Name → Term
locals_of [] = Vals []
locals_of (x ∷ xs) = Both (Local x) (locals_of xs)

abbrev pub locals_in : List Name → Frame → List Value
locals_in [] G = []
locals_in (x ∷ xs) G = lookup x G ∷ locals_in xs G

push_values : (xs : List Name) (G : Frame) (z : Name) → has z xs ≡ true → lookup z (push xs (locals_in xs G) []) ≡ lookup z G
push_values [] G z h = absurd (true≢false (sym h))
push_values (x ∷ xs) G z h = go (bytes_eq z x) refl h (push_values xs G z)
  where
    go : (b : Bool) → bytes_eq z x ≡ b → (if b then true else has z xs) ≡ true → (has z xs ≡ true → lookup z (push xs (locals_in xs G) []) ≡ lookup z G) → (if b then lookup x G else lookup z (push xs (locals_in xs G) [])) ≡ lookup z G
    go true e h r = ap (λ w. lookup w G) (sym (name_true z x e))
    go false e h r = r h

module _ (all xr : List Name) (within : (z : Name) → has z xr ≡ true → has z all ≡ true) where
  pub data Re (g : List Name) : Frame → Frame → Type 0 where
    re : (zs ws us ws0 F : Frame) → names zs ≡ g → names ws ≡ all → names ws0 ≡ all → names us ≡ xr → ((z : Name) → has z xr ≡ true → lookup z ws ≡ lookup z us) → ((z : Name) → has z xr ≡ false → lookup z (ws ++ F) ≡ lookup z (ws0 ++ F))
        → Re g (zs ++ (ws ++ F)) (zs ++ (us ++ (ws0 ++ F)))

  pub data Sets' (g : List Name) (z : Name) : Type 0 where
    bound : has z g ≡ true → Sets' g z
    again : has z g ≡ false → has z xr ≡ true → Sets' g z

  pub r_read : (g : List Name) (f f' : Frame) (z : Name) → Re g f f' → lookup z f ≡ lookup z f'
  r_read g _ _ z (re zs ws us ws0 F e a a0 u i o) = by_has (has z (names zs)) (λ h. lookup_front z zs (ws ++ F) h ∙ sym (lookup_front z zs (us ++ (ws0 ++ F)) h)) (λ h. lookup_behind z zs (ws ++ F) h ∙ inner ∙ sym (lookup_behind z zs (us ++ (ws0 ++ F)) h))
    where
      inner : lookup z (ws ++ F) ≡ lookup z (us ++ (ws0 ++ F))
      inner = by_has (has z xr) (λ h. lookup_front z ws F (subst (λ g. has z g ≡ true) (sym a) (within z h)) ∙ i z h ∙ sym (lookup_front z us (ws0 ++ F) (subst (λ g. has z g ≡ true) (sym u) h))) (λ h. o z h ∙ sym (lookup_behind z us (ws0 ++ F) (subst (λ g. has z g ≡ false) (sym u) h)))

  pub r_set : (g : List Name) (f f' : Frame) (z : Name) (v : Value) → Re g f f' → Sets' g z → Re g (put z v f) (put z v f')
  r_set g _ _ z v (re zs ws us ws0 F e a a0 u i o) (bound h) =
      let k = subst (λ g. has z g ≡ true) (sym e) h in
      subst (λ y. Re g y (put z v (zs ++ (us ++ (ws0 ++ F))))) (sym (put_front z v zs (ws ++ F) k)) (subst (λ y. Re g (put z v zs ++ (ws ++ F)) y) (sym (put_front z v zs (us ++ (ws0 ++ F)) k)) (re (put z v zs) ws us ws0 F (names_put z v zs ∙ e) a a0 u i o))
  r_set g _ _ z v (re zs ws us ws0 F e a a0 u i o) (again n h) =
      subst (λ y. Re g y (put z v (zs ++ (us ++ (ws0 ++ F))))) (sym left) (subst (λ y. Re g (zs ++ (put z v ws ++ F)) y) (sym right) (re zs (put z v ws) (put z v us) ws0 F e (names_put z v ws ∙ a) a0 (names_put z v us ∙ u) here there))
    where
      k : has z (names zs) ≡ false
      k = subst (λ g. has z g ≡ false) (sym e) n

      in_ws : has z (names ws) ≡ true
      in_ws = subst (λ g. has z g ≡ true) (sym a) (within z h)

      in_us : has z (names us) ≡ true
      in_us = subst (λ g. has z g ≡ true) (sym u) h

      left : put z v (zs ++ (ws ++ F)) ≡ zs ++ (put z v ws ++ F)
      left = put_behind z v zs (ws ++ F) k ∙ ap (λ y. zs ++ y) (put_front z v ws F in_ws)

      right : put z v (zs ++ (us ++ (ws0 ++ F))) ≡ zs ++ (put z v us ++ (ws0 ++ F))
      right = put_behind z v zs (us ++ (ws0 ++ F)) k ∙ ap (λ y. zs ++ y) (put_front z v us (ws0 ++ F) in_us)

      here : (w : Name) → has w xr ≡ true → lookup w (put z v ws) ≡ lookup w (put z v us)
      here w m = go (bytes_eq w z) refl
        where
          go : (c : Bool) → bytes_eq w z ≡ c → lookup w (put z v ws) ≡ lookup w (put z v us)
          go true q = let y = name_true w z q in ap (λ w. lookup w (put z v ws)) y ∙ lookup_put_same z v ws in_ws ∙ sym (ap (λ w. lookup w (put z v us)) y ∙ lookup_put_same z v us in_us)
          go false q = lookup_put_other w z v ws q ∙ i w m ∙ sym (lookup_put_other w z v us q)

      apart' : (w : Name) → has w xr ≡ false → bytes_eq w z ≡ false
      apart' w m = go (bytes_eq w z) refl
        where
          go : (c : Bool) → bytes_eq w z ≡ c → c ≡ false
          go true q = absurd (true≢false (sym h ∙ subst (λ y. has y xr ≡ false) (name_true w z q) m))
          go false q = refl

      there : (w : Name) → has w xr ≡ false → lookup w (put z v ws ++ F) ≡ lookup w (ws0 ++ F)
      there w m = ap (lookup w) (sym (put_front z v ws F in_ws)) ∙ lookup_put_other w z v (ws ++ F) (apart' w m) ∙ o w m

  pub r_push : (g : List Name) (f f' : Frame) (bs : List Name) (w : List Value) → Re g f f' → Re (bs ++ g) (push bs w f) (push bs w f')
  r_push g _ _ bs w (re zs ws us ws0 F e a a0 u i o) =
      subst (λ y. Re (bs ++ g) y (push bs w (zs ++ (us ++ (ws0 ++ F))))) (sym (push_front bs w zs (ws ++ F))) (subst (λ y. Re (bs ++ g) (push bs w zs ++ (ws ++ F)) y) (sym (push_front bs w zs (us ++ (ws0 ++ F)))) (re (push bs w zs) ws us ws0 F (names_push bs w zs ∙ ap (λ y. bs ++ y) e) a a0 u i o))

  pub r_pop : (g : List Name) (f f' : Frame) (bs : List Name) → Re (bs ++ g) f f' → Re g (pop bs f) (pop bs f')
  r_pop g _ _ bs (re zs ws us ws0 F e a a0 u i o) =
      let one = pop_front bs g zs (ws ++ F) e in
      let two = pop_front bs g zs (us ++ (ws0 ++ F)) e in
      subst (λ y. Re g y (pop bs (zs ++ (us ++ (ws0 ++ F))))) (sym one.1) (subst (λ y. Re g (pop bs zs ++ (ws ++ F)) y) (sym two.1) (re (pop bs zs) ws us ws0 F one.0 a a0 u i o))

  abbrev pub rebound : Way
  rebound = record {
    R = λ g f c f'. Re g f f';
    Reads = λ g x. Unit {0};
    Sets = Sets';
    Pairs = λ g x x'. ⊥;
    Does = λ o. Unit {0};
    Writes = Unit {0};
    Base = λ g t t'. ⊥;
    on_read = λ g f c f' x r h. r_read g f f' x r;
    on_set = λ g f c f' x v r h. r_set g f f' x v r h;
    on_pair = λ g f c f' x x' v r h. absurd h;
    on_push = λ g f c f' bs v r. r_push g f f' bs v r;
    on_pop = λ g f c f' bs r. r_pop g f f' bs r;
    on_ok = λ g f c f' o v w c' e r h z. r;
    on_writes = λ g f c c' f' r h. r;
  }

  joins : (f f' : Frame) (c : Store) → Re [] f f' → pop all f ≡ pop all (pop xr f')
  joins _ _ c (re zs ws us ws0 F e a a0 u i o) =
      let none = empty_names zs e in
      ap (λ z. pop all (z ++ (ws ++ F))) none ∙ pop_all all ws F a ∙ sym (ap (λ z. pop all (pop xr (z ++ (us ++ (ws0 ++ F))))) none ∙ ap (pop all) (pop_all xr us (ws0 ++ F) u) ∙ pop_all all ws0 F a0)

  module _ (P : Program) (free : FuncName → Bool) (A : ℕ) where
    pub locals_run : (n j : ℕ) (xs : List Name) (s : State) → Lev P free A n j (locals_of xs) s ≡ Gives (locals_in xs s.frame) s
    locals_run n j [] s = refl
    locals_run n j (x ∷ xs) s = ap (λ r. after r (λ w s1. Gives (lookup x s.frame ∷ w) s1) Leaves) (locals_run n j xs s)

    pub no_base : (below : Level) (pick : FuncName → Level) (B B' : List Deferred) (r : Bool) (g : List Name) (t t' : Term) → ⊥ → (s s' : State) → Fits rebound None None B B' r g s s' → Acts rebound None None B B' r g (eval P pick below t s) (eval P pick below t' s')
    no_base below pick B B' r g t t' e = absurd e

    pub start_rel : (v : List Value) (F : Frame) → Re [] (push all v F) (push xr (locals_in xr (push all v F)) (push all v F))
    start_rel v F =
        let ws = push all v [] in
        let split : push all v F ≡ ws ++ F = push_front all v [] F in
        let u = push xr (locals_in xr (push all v F)) [] in
        let a1 : names ws ≡ all = names_push all v [] ∙ append-nil all in
        let agree : (z : Name) → has z xr ≡ true → lookup z ws ≡ lookup z u = λ z k. sym (push_values xr (push all v F) z k ∙ ap (lookup z) split ∙ lookup_front z ws F (subst (λ g. has z g ≡ true) (sym a1) (within z k))) in
        let rel0 : Re [] (ws ++ F) (u ++ (ws ++ F)) = re [] ws u ws F refl a1 a1 (names_push xr (locals_in xr (push all v F)) [] ∙ append-nil xr) agree (λ z k. refl) in
        let back : push xr (locals_in xr (push all v F)) (push all v F) ≡ u ++ (ws ++ F) = push_front xr (locals_in xr (push all v F)) [] (push all v F) ∙ ap (λ z. u ++ z) split in
        subst (λ z. Re [] z (push xr (locals_in xr (push all v F)) (push all v F))) (sym split) (subst (λ z. Re [] (ws ++ F) z) (sym back) rel0)

    pub rebinds : (a t : Term) → Moves rebound None None true [] t t → Mean P free A zero (Let all a t) (Let all a (Let xr (locals_of xr) t))
    rebinds a t m n j h s = go (Lev P free A n j a s) (Means.grows P free A n j a s)
      where
        L' : Level
        L' = Lev P free A n j

        bodies : (v : List Value) (s1 : State) → Cover P free A s1.out (popped all (Lev P free A n j t (record s1 { frame = push all v s1.frame }))) (popped all (Lev P free A n j (Let xr (locals_of xr) t) (record s1 { frame = push all v s1.frame })))
        bodies v s1 =
            let F = s1.frame in
            let l : State = record s1 { frame = push all v F } in
            let r : State = record s1 { frame = push xr (locals_in xr (push all v F)) (push all v F) } in
            let rel = start_rel v F in
            let acts = chain_follows rebound None None P free A no_base n j s1.defers s1.defers true [] t t m l r (fits rel equal Upon.base) in
            let ends = ends_alike P free A rebound no_base [] (pop all) (λ f. pop all (pop xr f)) joins acts (Means.grows P free A n j t l) in
            let one = ap (λ r. popped all (after r (λ v s. popped xr (Lev P free A n j t (record s { frame = push xr v s.frame }))) Leaves)) (locals_run n j xr l) in
            subst (λ r. Cover P free A s1.out (popped all (Lev P free A n j t l)) r) (sym (one ∙ reframed_twice (pop all) (pop xr) (Lev P free A n j t r))) ends

        go : (r : Result) → Ext s.out (out_of r) → Cover P free A s.out (after r (λ v s. popped all (Lev P free A n j t (record s { frame = push all v s.frame }))) Leaves) (after r (λ v s. popped all (Lev P free A n j (Let xr (locals_of xr) t) (record s { frame = push all v s.frame }))) Leaves)
        go (Gives v s1) e = weaken ⊥ (RunAlike P free A) e (bodies v s1)
        go (Leaves x s1) e = cov_self P free A (Leaves x s1) e
        go (Cuts o) e = cov_self P free A (Cuts o) e
