-- One frame has variables that the other lacks: behind the names bound since, in front of the rest.
use Rattle.std.proofs.Common.{◌≡◌, List, [], ◌++◌, true, false, sym, ap, ◌∙◌, subst}
use Rattle.go_kernel.specs.Kernel.{Name, Value, Op, Term, Frame, Store, lookup, put, push, pop, Ok, prim, Event}
use Rattle.go_kernel.specs.Scope.{names, has}
use Rattle.go_kernel.proofs.FrameFacts.{empty_names, pop_all, lookup_front, put_front, lookup_behind, put_behind, names_put, names_push, push_front, pop_front}
use Rattle.go_kernel.proofs.WithinProgram.{Way}

-- which variables are inserted, what is known of them and of the rest, and what may be done while that stays known
pub record Insertion : Type 1 where
  pub inserts : List Name
  pub Stays : Store → Frame → Frame → Type 0
  pub May : Name → Type 0
  pub Does : Op → Type 0
  pub Writes : Type 0
  pub Base : List Name → Term → Term → Type 0
  pub on_put : (c : Store) (ys F : Frame) (z : Name) (v : Value) → May z → Stays c ys F → Stays c ys (put z v F)
  pub on_ok : (c : Store) (ys F : Frame) (o : Op) (v w : List Value) (c' : Store) (e : List Event) → Does o → prim o v c ≡ Ok w c' e → Stays c ys F → Stays c' ys F
  pub on_writes : (c c' : Store) (ys F : Frame) → Writes → Stays c ys F → Stays c' ys F

module _ (I : Insertion) where
  pub data Longer (g : List Name) (c : Store) : Frame → Frame → Type 0 where
    inserted : (zs ys F : Frame) → names zs ≡ g → names ys ≡ I.inserts → I.Stays c ys F → Longer g c (zs ++ (ys ++ F)) (zs ++ F)

  pub data Reads (g : List Name) (z : Name) : Type 0 where
    bound : has z g ≡ true → Reads g z
    other : has z g ≡ false → has z I.inserts ≡ false → Reads g z

  pub data Sets (g : List Name) (z : Name) : Type 0 where
    bound : has z g ≡ true → Sets g z
    other : has z g ≡ false → has z I.inserts ≡ false → I.May z → Sets g z

  pub in_read : (g : List Name) (f : Frame) (c : Store) (f' : Frame) (z : Name) → Longer g c f f' → Reads g z → lookup z f ≡ lookup z f'
  in_read g _ c _ z (inserted zs ys F e i q) (bound h) = let k = subst (λ g. has z g ≡ true) (sym e) h in lookup_front z zs (ys ++ F) k ∙ sym (lookup_front z zs F k)
  in_read g _ c _ z (inserted zs ys F e i q) (other h n) =
      let k = subst (λ g. has z g ≡ false) (sym e) h in
      lookup_behind z zs (ys ++ F) k ∙ lookup_behind z ys F (subst (λ g. has z g ≡ false) (sym i) n) ∙ sym (lookup_behind z zs F k)

  -- two frames under other names
  pub renamed : {g : List Name} {c : Store} {f f' h h' : Frame} → f ≡ h → f' ≡ h' → Longer g c h h' → Longer g c f f'
  renamed {g} {c} {f} {f'} {h} {h'} a b q = subst (λ z. Longer g c z f') (sym a) (subst (λ z. Longer g c h z) (sym b) q)

  pub in_set : (g : List Name) (f : Frame) (c : Store) (f' : Frame) (z : Name) (v : Value) → Longer g c f f' → Sets g z → Longer g c (put z v f) (put z v f')
  in_set g _ c _ z v (inserted zs ys F e i q) (bound h) =
      let k = subst (λ g. has z g ≡ true) (sym e) h in
      renamed (put_front z v zs (ys ++ F) k) (put_front z v zs F k) (inserted (put z v zs) ys F (names_put z v zs ∙ e) i q)
  in_set g _ c _ z v (inserted zs ys F e i q) (other h n m) =
      let k = subst (λ g. has z g ≡ false) (sym e) h in
      let l = subst (λ g. has z g ≡ false) (sym i) n in
      renamed (put_behind z v zs (ys ++ F) k ∙ ap (λ f. zs ++ f) (put_behind z v ys F l)) (put_behind z v zs F k) (inserted zs ys (put z v F) e i (I.on_put c ys F z v m q))

  pub in_push : (g : List Name) (f : Frame) (c : Store) (f' : Frame) (xs : List Name) (v : List Value) → Longer g c f f' → Longer (xs ++ g) c (push xs v f) (push xs v f')
  in_push g _ c _ xs v (inserted zs ys F e i q) = renamed (push_front xs v zs (ys ++ F)) (push_front xs v zs F) (inserted (push xs v zs) ys F (names_push xs v zs ∙ ap (λ g. xs ++ g) e) i q)

  pub in_pop : (g : List Name) (f : Frame) (c : Store) (f' : Frame) (xs : List Name) → Longer (xs ++ g) c f f' → Longer g c (pop xs f) (pop xs f')
  in_pop g _ c _ xs (inserted zs ys F e i q) =
      let one = pop_front xs g zs (ys ++ F) e in
      let two = pop_front xs g zs F e in
      renamed one.1 two.1 (inserted (pop xs zs) ys F one.0 i q)

  pub in_store : {g : List Name} {c c' : Store} {f f' : Frame} → ((ys F : Frame) → I.Stays c ys F → I.Stays c' ys F) → Longer g c f f' → Longer g c' f f'
  in_store k (inserted zs ys F e i q) = inserted zs ys F e i (k ys F q)

  abbrev pub way : Way
  way = record {
    R = λ g f c f'. Longer g c f f';
    Reads = Reads;
    Sets = Sets;
    Pairs = λ g y y'. ⊥;
    Does = I.Does;
    Writes = I.Writes;
    Base = I.Base;
    on_read = λ g f c f' x r h. in_read g f c f' x r h;
    on_set = λ g f c f' x v r h. in_set g f c f' x v r h;
    on_pair = λ g f c f' y y' w r h. absurd h;
    on_push = λ g f c f' xs v r. in_push g f c f' xs v r;
    on_pop = λ g f c f' xs r. in_pop g f c f' xs r;
    on_ok = λ g f c f' o v w c' e r h z. in_store (λ ys F. I.on_ok c ys F o v w c' e h z) r;
    on_writes = λ g f c c' f' r h. in_store (λ ys F. I.on_writes c c' ys F h) r;
  }

-- variables of which nothing is known, and any rest
abbrev pub anything : List Name → Insertion
anything xs = record {
  inserts = xs;
  Stays = λ c ys F. Unit {0};
  May = λ z. Unit {0};
  Does = λ o. Unit {0};
  Writes = Unit {0};
  Base = λ g t t'. ⊥;
  on_put = λ c ys F z v m q. q;
  on_ok = λ c ys F o v w c' e d z q. q;
  on_writes = λ c c' ys F w q. q;
}

-- these variables with these values, and a rest of which something is known that the allowed assignments keep
abbrev pub exactly : Frame → (Rest : Frame → Type 0) → (May : Name → Type 0) → ((F : Frame) (z : Name) (v : Value) → May z → Rest F → Rest (put z v F)) → Insertion
exactly ys0 Rest May keep = record {
  inserts = names ys0;
  Stays = λ c ys F. (ys ≡ ys0) × Rest F;
  May = May;
  Does = λ o. Unit {0};
  Writes = Unit {0};
  Base = λ g t t'. ⊥;
  on_put = λ c ys F z v m q. (q.0, keep F z v m q.1);
  on_ok = λ c ys F o v w c' e d z q. q;
  on_writes = λ c c' ys F w q. q;
}

-- these variables with these values in front of this rest
abbrev pub fixed : Frame → Frame → Insertion
fixed ys0 F0 = exactly ys0 (λ F. F ≡ F0) (λ z. ⊥) (λ F z v m q. absurd m)

-- and in front of any rest
abbrev pub in_front : Frame → Insertion
in_front ys0 = exactly ys0 (λ F. Unit {0}) (λ z. Unit {0}) (λ F z v m q. q)

pub unbound : (xs : List Name) (f f' : Frame) (c : Store) → Longer (anything xs) [] c f f' → pop xs f ≡ f'
unbound xs _ _ c (inserted zs ys F e i q) = let none = empty_names zs e in ap (λ z. pop xs (z ++ (ys ++ F))) none ∙ pop_all xs ys F i ∙ sym (ap (λ z. z ++ F) none)
