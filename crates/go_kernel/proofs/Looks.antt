-- An argument that looks at the store may be substituted where the body keeps the store; one that doesn't look, anywhere.
use Rattle.std.proofs.Common.{◌⊎◌, ⊎_elim, ◌≡◌, ℕ, zero, List, [], ◌∷◌, ◌++◌, Bool, true, false, Option, None, refl, sym, ap, ◌∙◌, subst}
use Rattle.go_kernel.specs.Kernel.{Truth, on_truth, IsLook, IsPure, KeepsMemory, SeesMemory, values_of, FuncName, Name, Value, Op, Term, Vals, Local, Both, Prim as Prim', If, Let, Frame, Deferred, Store, State, Gives, Leaves, Level, after, lookup, put, push, pop, Ok, prim, answered, popped, Program, eval, picks, chain, free_level, Event, Reason}
use Rattle.go_kernel.specs.Scope.{has}
use Rattle.go_kernel.proofs.FrameFacts.{has_self, has_left, has_right, lookup_behind, lookup_put_other, lookup_here, apart_of, empty_names}
use Rattle.go_kernel.specs.Alike.{MeanSame}
use Rattle.go_kernel.proofs.Means
use Rattle.go_kernel.proofs.Means.{ends_alike, reframed_self}
use Rattle.go_kernel.proofs.WithinProgram as Sim
use Rattle.go_kernel.proofs.WithinProgram.{Moves, Upon, Fits, fits, Acts, equal, chain_follows}
use Rattle.go_kernel.proofs.Inserted.{Insertion, Longer, inserted, way}

abbrev pub Looks : Term → Type 0
Looks (Vals v) = Unit {0}
Looks (Local y) = Unit {0}
Looks (Both a b) = Looks a × Looks b
Looks (Prim' o a) = IsLook o × SeesMemory o × Looks a
Looks (If c a b) = Looks c × Looks a × Looks b
Looks _ = ⊥

-- of a term that looks: it doesn't
abbrev pub Steady : Term → Type 0
Steady (Both a b) = Steady a × Steady b
Steady (Prim' o a) = IsPure o × Steady a
Steady (If c a b) = Steady c × Steady a × Steady b
Steady _ = Unit

abbrev pub picked : List Value → List Value → List Value → List Value
picked (Truth true ∷ []) v w = v
picked _ v w = w

abbrev pub value_in : Term → Frame → Store → List Value
value_in (Vals v) F c = v
value_in (Local y) F c = lookup y F ∷ []
value_in (Both a b) F c = value_in a F c ++ value_in b F c
value_in (Prim' o a) F c = values_of (prim o (value_in a F c) c)
value_in (If d a b) F c = picked (value_in d F c) (value_in a F c) (value_in b F c)
value_in _ F c = []

-- the locals that such a term names
abbrev pub locals : Term → List Name
locals (Vals v) = []
locals (Local y) = y ∷ []
locals (Both a b) = locals a ++ locals b
locals (Prim' o a) = locals a
locals (If c a b) = locals c ++ (locals a ++ locals b)
locals _ = []

on_picked : (u v w : List Value) (s : State) → on_truth u (Gives v s) (Gives w s) ≡ Gives (picked u v w) s
on_picked (Truth true ∷ []) v w s = refl
on_picked _ v w s = refl

pub looks_value : (P : Program) (pick : FuncName → Level) (below : Level) (a : Term) → Looks a → (s : State) → eval P pick below a s ≡ Gives (value_in a s.frame s.store) s
unfolding IsLook
looks_value P pick below (Vals v) q s = refl
looks_value P pick below (Local y) q s = refl
looks_value P pick below (Both a b) q s =
    ap (λ r. after r (λ v s. after (eval P pick below b s) (λ w s. Gives (v ++ w) s) Leaves) Leaves) (looks_value P pick below a q.0 s) ∙ ap (λ r. after r (λ w s1. Gives (value_in a s.frame s.store ++ w) s1) Leaves) (looks_value P pick below b q.1 s)
looks_value P pick below (Prim' o a) q s =
    ap (λ r. after r (λ v s. answered (prim o v s.store) s) Leaves) (looks_value P pick below a q.2 s) ∙ ap (λ r. answered r s) (q.0 (value_in a s.frame s.store) s.store)
looks_value P pick below (If c a b) q s =
    ap (λ r. after r (λ v s. on_truth v (eval P pick below a s) (eval P pick below b s)) Leaves) (looks_value P pick below c q.0 s)
    ∙ ap (λ r. on_truth (value_in c s.frame s.store) r (eval P pick below b s)) (looks_value P pick below a q.1 s) ∙ ap (λ r. on_truth (value_in c s.frame s.store) (Gives (value_in a s.frame s.store) s) r) (looks_value P pick below b q.2 s)
    ∙ on_picked (value_in c s.frame s.store) (value_in a s.frame s.store) (value_in b s.frame s.store) s
looks_value P pick below _ q s = absurd q

kept_memory : (o : Op) (v w : List Value) (c c' : Store) (e : List Event) → KeepsMemory o → prim o v c ≡ Ok w c' e → c'.memory ≡ c.memory
unfolding KeepsMemory
kept_memory o v w c c' e k z = (k v w c c' e z).0

sees : (o : Op) → SeesMemory o → (v : List Value) (c c' : Store) → c.memory ≡ c'.memory → values_of (prim o v c) ≡ values_of (prim o v c')
unfolding SeesMemory
sees o q v c c' m = q v c c' m

-- a term that looks has the same values over each store with the same memory
memory_any : (a : Term) → Looks a → (F : Frame) (c c' : Store) → c.memory ≡ c'.memory → value_in a F c ≡ value_in a F c'
memory_any (Vals v) l F c c' m = refl
memory_any (Local y) l F c c' m = refl
memory_any (Both a b) l F c c' m = cc (memory_any a l.0 F c c' m, memory_any b l.1 F c c' m)
memory_any (Prim' o a) l F c c' m = ap (λ v. values_of (prim o v c)) (memory_any a l.2 F c c' m) ∙ sees o l.1 (value_in a F c') c c' m
memory_any (If d a b) l F c c' m = cc (memory_any d l.0 F c c' m, memory_any a l.1 F c c' m, memory_any b l.2 F c c' m)
memory_any _ l F c c' m = absurd l

pure_any : (o : Op) → IsPure o → (v : List Value) (c c' : Store) → values_of (prim o v c) ≡ values_of (prim o v c')
unfolding IsPure
pure_any o q v c c' = ap values_of (q v c) ∙ sym (ap values_of (q v c'))

pub steady_any : (a : Term) → Looks a → Steady a → (F : Frame) (c c' : Store) → value_in a F c ≡ value_in a F c'
steady_any (Vals v) l q F c c' = refl
steady_any (Local y) l q F c c' = refl
steady_any (Both a b) l q F c c' = cc (steady_any a l.0 q.0 F c c', steady_any b l.1 q.1 F c c')
steady_any (Prim' o a) l q F c c' = ap (λ v. values_of (prim o v c)) (steady_any a l.2 q.1 F c c') ∙ pure_any o q.0 (value_in a F c') c c'
steady_any (If d a b) l q F c c' = cc (steady_any d l.0 q.0 F c c', steady_any a l.1 q.1 F c c', steady_any b l.2 q.2 F c c')
steady_any _ l q F c c' = absurd l

-- frames that agree on the locals of a
pub value_agrees : (a : Term) → Looks a → (F G : Frame) (c : Store) → ((y : Name) → has y (locals a) ≡ true → lookup y F ≡ lookup y G) → value_in a F c ≡ value_in a G c
value_agrees (Vals v) q F G c h = refl
value_agrees (Local y) q F G c h = ap (λ z. z ∷ []) (h y (has_self y))
value_agrees (Both a b) q F G c h = cc (value_agrees a q.0 F G c (λ y z. h y (has_left y (locals a) (locals b) z)), value_agrees b q.1 F G c (λ y z. h y (has_right y (locals a) (locals b) z)))
value_agrees (Prim' o a) q F G c h = ap (λ v. values_of (prim o v c)) (value_agrees a q.2 F G c h)
value_agrees (If d a b) q F G c h =
    cc (
      value_agrees d q.0 F G c (λ y z. h y (has_left y (locals d) (locals a ++ locals b) z)),
      value_agrees a q.1 F G c (λ y z. h y (has_right y (locals d) (locals a ++ locals b) (has_left y (locals a) (locals b) z))),
      value_agrees b q.2 F G c (λ y z. h y (has_right y (locals d) (locals a ++ locals b) (has_right y (locals a) (locals b) z))),
    )
value_agrees _ q F G c h = absurd q

module _ (x : Name) (a : Term) (looks : Looks a) where
  -- x is bound to the value that a has in the rest
  pub data Valued (c : Store) : Frame → Frame → Type 0 where
    valued : (v : Value) (F : Frame) → value_in a F c ≡ v ∷ [] → Valued c ((x, v) ∷ []) F

  -- a use of x, where nothing bound since captures a local of a
  pub data Use (g : List Name) : Term → Term → Type 0 where
    use_x : has x g ≡ false → ((y : Name) → has y (locals a) ≡ true → has y g ≡ false) → Use g (Local x) a

  module _ (Does : Op → Type 0) (Writes : Type 0) (keeps : (o : Op) → Does o → KeepsMemory o ⊎ Steady a) (steady : Writes → Steady a) where
    pub on_put : (c : Store) (ys F : Frame) (z : Name) (v : Value) → has z (locals a) ≡ false → Valued c ys F → Valued c ys (put z v F)
    on_put c _ _ z w m (valued v F q) = valued v (put z w F) (value_agrees a looks (put z w F) F c (λ y r. lookup_put_other y z w F (apart_of y z (locals a) r m)) ∙ q)

    any_store : (c c' : Store) (ys F : Frame) → Steady a → Valued c ys F → Valued c' ys F
    any_store c c' _ _ k (valued v F q) = valued v F (sym (steady_any a looks k F c c') ∙ q)

    same_memory : (c c' : Store) (ys F : Frame) → c'.memory ≡ c.memory → Valued c ys F → Valued c' ys F
    same_memory c c' _ _ e (valued v F q) = valued v F (memory_any a looks F c' c e ∙ q)

    pub on_ok : (c : Store) (ys F : Frame) (o : Op) (v w : List Value) (c' : Store) (e : List Event) → Does o → prim o v c ≡ Ok w c' e → Valued c ys F → Valued c' ys F
    on_ok c ys F o v w c' e d z q = ⊎_elim (λ k. same_memory c c' ys F (kept_memory o v w c c' e k z) q) (λ k. any_store c c' ys F k q) (keeps o d)

    pub on_writes : (c c' : Store) (ys F : Frame) → Writes → Valued c ys F → Valued c' ys F
    on_writes c c' ys F w q = any_store c c' ys F (steady w) q

    abbrev pub standing : Insertion
    standing = record {
      inserts = x ∷ [];
      Stays = Valued;
      May = λ z. has z (locals a) ≡ false;
      Does = Does;
      Writes = Writes;
      Base = Use;
      on_put = λ c ys F z v m q. on_put c ys F z v m q;
      on_ok = λ c ys F o v w c' e d z q. on_ok c ys F o v w c' e d z q;
      on_writes = λ c c' ys F w q. on_writes c c' ys F w q;
    }

    pub stands : (p0 p0' : Option Reason) (P : Program) (below : Level) (pick : FuncName → Level) (B B' : List Deferred) (r : Bool) (g : List Name) (t t' : Term) → Use g t t' → (s s' : State) → Fits (way standing) p0 p0' B B' r g s s'
        → Acts (way standing) p0 p0' B B' r g (eval P pick below t s) (eval P pick below t' s')
    stands p0 p0' P below pick B B' r g _ _ (use_x h k) _ _ (fits {c = c} {p = p} {p' = p'} {o = o} {ds = ds} {ds' = ds'} (inserted zs _ _ e i (valued v F q)) z d) =
        let W = way standing in
        let s : State = record { frame = zs ++ (x, v) ∷ F; store = c; pending = p; defers = ds; out = o } in
        let s' : State = record { frame = zs ++ F; store = c; pending = p'; defers = ds'; out = o } in
        let left : lookup x (zs ++ (x, v) ∷ F) ≡ v = lookup_behind x zs ((x, v) ∷ F) (subst (λ z. has x z ≡ false) (sym e) h) ∙ lookup_here x v F in
        let right : value_in a (zs ++ F) c ≡ v ∷ [] = value_agrees a looks (zs ++ F) F c (λ y m. lookup_behind y zs F (subst (λ z. has y z ≡ false) (sym e) (k y m))) ∙ q in
        let both = ap (λ w. w ∷ []) left ∙ sym right in
        subst (λ y. Acts W p0 p0' B B' r g (Gives (lookup x (zs ++ (x, v) ∷ F) ∷ []) s) y) (sym (looks_value P pick below a looks s'))
        (subst (λ w. Acts W p0 p0' B B' r g (Gives (lookup x (zs ++ (x, v) ∷ F) ∷ []) s) (Gives w s')) both (Sim.gives (fits (inserted zs ((x, v) ∷ []) F e i (valued v F q)) z d)))

    pub unbound : (f f' : Frame) (c : Store) → Longer standing [] c f f' → pop (x ∷ []) f ≡ f'
    unbound _ _ c (inserted zs _ _ e i (valued v F q)) = subst (λ z. pop (x ∷ []) (z ++ (x, v) ∷ F) ≡ z ++ F) (sym (empty_names zs e)) refl

  -- what the argument allows by its class
  abbrev pub looking : Insertion
  looking = standing (λ o. KeepsMemory o ⊎ Steady a) (Steady a) (λ o k. k) (λ k. k)

  module _ (P : Program) (free : FuncName → Bool) (A : ℕ) where
    -- the law of an argument that looks or is steady: it may take its parameter's place
    pub looks_moves : (b b' : Term) → Moves (way looking) None None true [] b b' → ((F : Frame) (c : Store) → (v : Value) × (value_in a F c ≡ v ∷ [])) → MeanSame P free A zero (Let (x ∷ []) a b) b'
    looks_moves b b' m single n j h s =
        let L = chain P free (free_level P free A n) j in
        let w = single s.frame s.store in
        let left : State = record s { frame = (x, w.0) ∷ s.frame } in
        let one : L (Let (x ∷ []) a b) s ≡ popped (x ∷ []) (L b left) =
        ap (λ r. after r (λ v s. popped (x ∷ []) (L b (record s { frame = push (x ∷ []) v s.frame }))) Leaves) (looks_value P (picks P free (free_level P free A n) j) (free_level P free A n) a looks s)
        ∙ ap (λ v. popped (x ∷ []) (L b (record s { frame = push (x ∷ []) v s.frame }))) w.1 in
        let base = stands (λ o. KeepsMemory o ⊎ Steady a) (Steady a) (λ o k. k) (λ k. k) None None P in
        let acts = chain_follows (way looking) None None P free A base n j s.defers s.defers true [] b b' m left s (fits (inserted [] ((x, w.0) ∷ []) s.frame refl refl (valued w.0 s.frame w.1)) equal Upon.base) in
        let ends = ends_alike P free A (way looking) base [] (pop (x ∷ [])) (λ f. f) (unbound (λ o. KeepsMemory o ⊎ Steady a) (Steady a) (λ o k. k) (λ k. k)) acts (Means.grows P free A n j b left) in
        subst (λ r. Means.Cover P free A s.out r (L b' s)) (sym one) (subst (λ r. Means.Cover P free A s.out (popped (x ∷ []) (L b left)) r) (reframed_self (L b' s)) ends)
