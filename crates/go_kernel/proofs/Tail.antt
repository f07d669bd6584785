-- A called literal that is all that a return returns: its body's returns become the caller's.
use Rattle.std.proofs.Common.{◌≡◌, ℕ, zero, suc, List, [], ◌∷◌, ◌++◌, length, Bool, true, false, true≢false, if◌then◌else◌, Option, None, refl, sym, ap, ◌∙◌, subst, arith, append_assoc, ◌≤◌}
use Rattle.std.specs.Prelude.{bytes_eq}
use Rattle.std.proofs.lemmas.List.{append-nil}
use Rattle.go_kernel.specs.Kernel.{return_label, Name, Label, FuncName, Value, Truth, Event, Reason, Term, Vals, Set, Both, If, Let, Loop, Leave, Catch, Within, Alone, Frame, Deferred, Store, State, Gone, Panic, Result, Gives, Leaves, Cuts, Level, after, lookup, put, put_all, push, pop, on_truth, popped, caught_by, unwound, resumed, with_slots, with_pending, read_slots, Program, free_level}
use Rattle.go_kernel.specs.Scope.{has, has_all, names}
use Rattle.go_kernel.specs.Forms.{in_frames}
use Rattle.go_kernel.proofs.FreshNames.{name_true, true_name, name_self}
use Rattle.go_kernel.proofs.FrameFacts.{empty_names, lookup_front, lookup_put_other, lookup_put_same, names_push, names_put, names_put_all, pop_all, pop_front, push_front, put_front, put_behind, put_all_front}
use Rattle.go_kernel.proofs.Inserted
use Rattle.go_kernel.proofs.Inserted.{Insertion, Longer, inserted, way, exactly}
use Rattle.go_kernel.proofs.PlacedAlike as Place
use Rattle.go_kernel.proofs.PlacedAlike.{Expr, Good, expr_at}
use Rattle.go_kernel.proofs.Block
use Rattle.go_kernel.proofs.Block.{Tidy, Tame, chain_tame}
use Rattle.go_kernel.proofs.WithinProgram as Sim
use Rattle.go_kernel.proofs.WithinProgram.{Way, Moves, Upon, fits, Acts, apart, chain_follows}
use Rattle.go_kernel.proofs.Means.{Mean, mean_equal, Lev}

-- none of these names is among those
abbrev pub Apart : List Name → List Name → Type 0
Apart [] g = Unit {0}
Apart (x ∷ xs) g = (has x g ≡ false) × Apart xs g

pub put_all_behind : (xs : List Name) (v : List Value) (f F : Frame) → Apart xs (names f) → put_all xs v (f ++ F) ≡ f ++ put_all xs v F
put_all_behind [] v f F h = refl
put_all_behind (x ∷ xs) [] f F h = refl
put_all_behind (x ∷ xs) (w ∷ v) f F h = ap (put_all xs v) (put_behind x w f F h.0) ∙ put_all_behind xs v f (put x w F) h.1

abbrev pub DistinctNames : List Name → Type 0
DistinctNames [] = Unit {0}
DistinctNames (x ∷ xs) = (has x xs ≡ false) × DistinctNames xs

has_more : (x : Name) (pre xs : List Name) → has x (pre ++ x ∷ xs) ≡ true
has_more x [] xs = ap (λ b. if b then true else has x xs) (name_self x)
has_more x (y ∷ pre) xs = go (bytes_eq x y) (has_more x pre xs)
  where
    go : (b : Bool) → has x (pre ++ x ∷ xs) ≡ true → (if b then true else has x (pre ++ x ∷ xs)) ≡ true
    go true h = refl
    go false h = h

all_after : (xs pre : List Name) → has_all xs (pre ++ xs)
all_after [] pre = tt
all_after (x ∷ xs) pre = (has_more x pre xs, subst (λ z. has_all xs z) (append_assoc pre (x ∷ []) xs) (all_after xs (pre ++ x ∷ [])))

pub all_self : (xs : List Name) → has_all xs xs
all_self xs = all_after xs []

lookup_put_all_other : (x : Name) (xs : List Name) (v : List Value) (f : Frame) → has x xs ≡ false → lookup x (put_all xs v f) ≡ lookup x f
lookup_put_all_other x [] v f h = refl
lookup_put_all_other x (y ∷ xs) [] f h = refl
lookup_put_all_other x (y ∷ xs) (w ∷ v) f h = go (bytes_eq x y) refl h (λ k. lookup_put_all_other x xs v (put y w f) k)
  where
    go : (b : Bool) → bytes_eq x y ≡ b → (if b then true else has x xs) ≡ false → (has x xs ≡ false → lookup x (put_all xs v (put y w f)) ≡ lookup x (put y w f)) → lookup x (put_all xs v (put y w f)) ≡ lookup x f
    go true e h r = absurd (true≢false h)
    go false e h r = r h ∙ lookup_put_other x y w f e

pub read_all : (xs : List Name) (v : List Value) (f G : Frame) (c : Store) → DistinctNames xs → has_all xs (names f) → length v ≡ length xs → read_slots (in_frames xs) (put_all xs v f ++ G) c ≡ v
read_all [] [] f G c d h l = refl
read_all [] (w ∷ v) f G c d h l = absurd (grind (arith, l))
read_all (x ∷ xs) [] f G c d h l = absurd (grind (arith, l))
read_all (x ∷ xs) (w ∷ v) f G c d h l =
    cc (
      lookup_front x (put_all xs v (put x w f)) G (subst (λ z. has x z ≡ true) (sym (names_put_all xs v (put x w f) ∙ names_put x w f)) h.0) ∙ lookup_put_all_other x xs v (put x w f) d.0 ∙ lookup_put_same x w f h.0,
      read_all xs v (put x w f) G c d.1 (subst (has_all xs) (sym (names_put x w f)) h.1) (grind (arith, l)),
    )

-- how the caller's return sets its result slots once its operands are evaluated: 'sink e' is the term, 'ran' what it does to frame and store
pub record Sink (P : Program) (free : FuncName → Bool) (A width : ℕ) (ps : List Name) : Type 1 where
  pub sink : Term → Term
  pub ran : List Value → Frame → Store → Frame × Store
  -- names bound since that leave it alone
  pub Clear : List Name → Type 0
  pub clear : Clear []
  pub sinks : (n j : ℕ) (e : Term) (s : State) → Expr P width e → Lev P free A n j (sink e) s ≡ after (Lev P free A n j e s) (λ v s. Gives [] (record s { frame = (ran v s.frame s.store).0; store = (ran v s.frame s.store).1 })) Leaves
  pub behind : (zs bs F : Frame) (v : List Value) (c : Store) → length v ≡ width → Clear (names zs) → names bs ≡ ps → ran v (zs ++ (bs ++ F)) c ≡ (zs ++ (bs ++ (ran v F c).0), (ran v F c).1)

module _ (P : Program) (free : FuncName → Bool) (A : ℕ) (ps ss : List Name) (K : Sink P free A (length ss) ps) (ws F : Frame) (ws_names : names ws ≡ ss) (p : Option Reason) (ds : List Deferred) where
  -- the parameters, in front of the caller's frame
  pub data Rest : Frame → Type 0 where
    rest : (bs : Frame) → names bs ≡ ps → Rest (bs ++ F)

  pub rest_put : (f : Frame) (z : Name) (v : Value) → has z ps ≡ true → Rest f → Rest (put z v f)
  rest_put _ z v m (rest bs q) = subst Rest (sym (put_front z v bs F (subst (λ g. has z g ≡ true) (sym q) m))) (rest (put z v bs) (names_put z v bs ∙ q))

  -- one frame has the callee's result slots, with their zero values
  abbrev pub slots : Insertion
  slots = exactly ws Rest (λ z. has z ps ≡ true) (λ f z v m r. rest_put f z v m r)

  abbrev pub slots_apart : Way
  slots_apart = way slots

  -- after a return
  pub data Rt (g : List Name) : Frame → Store → Frame → Store → Type 0 where
    rt : (zs bs : Frame) (v : List Value) (c : Store) → names zs ≡ g → names bs ≡ ps → length v ≡ length ss → Rt g (zs ++ (put_all ss v ws ++ (bs ++ F))) c (zs ++ (bs ++ (K.ran v F c).0)) (K.ran v F c).1

  abbrev At0 : Frame → Store → List Event → State
  At0 f c o = record { frame = f; store = c; pending = None; defers = []; out = o }

  abbrev At1 : Frame → Store → List Event → State
  At1 f c o = record { frame = f; store = c; pending = p; defers = ds; out = o }

  pub data Ends (ls : List Label) (g : List Name) : Result → Result → Type 0 where
    gives : {v : List Value} {f f' : Frame} {c : Store} {o : List Event} → Longer slots g c f f' → Ends ls g (Gives v (record { frame = f; store = c; pending = None; defers = []; out = o })) (Gives v (record { frame = f'; store = c; pending = p; defers = ds; out = o }))
    panics : {e : Reason} {f f' : Frame} {c : Store} {o : List Event} → Longer slots g c f f' → Ends ls g (Leaves (Panic e) (record { frame = f; store = c; pending = None; defers = []; out = o })) (Leaves (Panic e) (record { frame = f'; store = c; pending = p; defers = ds; out = o }))
    goes : {l : Label} {f f' : Frame} {c : Store} {o : List Event} → has l ls ≡ true → Longer slots g c f f' → Ends ls g (Leaves (Gone l) (record { frame = f; store = c; pending = None; defers = []; out = o })) (Leaves (Gone l) (record { frame = f'; store = c; pending = p; defers = ds; out = o }))
    returns : {f f' : Frame} {c c' : Store} {o : List Event} → Rt g f c f' c' → Ends ls g (Leaves (Gone return_label) (record { frame = f; store = c; pending = None; defers = []; out = o })) (Leaves (Gone return_label) (record { frame = f'; store = c'; pending = p; defers = ds; out = o }))
    cuts : {o : List Event} → Ends ls g (Cuts o) (Cuts o)

  -- bodies that are alike but for their returns
  pub data Tail : List Label → List Name → Term → Term → Type 0 where
    ret : {ls : List Label} {g : List Name} {e : Term} → Moves slots_apart None p false g e e → Expr P (length ss) e → Apart ss g → K.Clear g → Tail ls g (Let [] (Set ss e) (Leave return_label)) (Let [] (K.sink e) (Leave return_label))
    work : {ls : List Label} {g : List Name} {u : Term} → Moves slots_apart None p false g u u → Tidy ls u → Tail ls g u u
    let' : {ls : List Label} {g xs : List Name} {a a' b b' : Term} → Tail ls g a a' → Tail ls (xs ++ g) b b' → Tail ls g (Let xs a b) (Let xs a' b')
    both : {ls : List Label} {g : List Name} {a a' b b' : Term} → Tail ls g a a' → Tail ls g b b' → Tail ls g (Both a b) (Both a' b')
    if' : {ls : List Label} {g : List Name} {c a a' b b' : Term} → Moves slots_apart None p false g c c → Tidy ls c → Tail ls g a a' → Tail ls g b b' → Tail ls g (If c a b) (If c a' b')
    loop : {ls : List Label} {g : List Name} {c b b' : Term} → Moves slots_apart None p false g c c → Tidy ls c → Tail ls g b b' → Tail ls g (Loop c b) (Loop c b')
    catch : {ls : List Label} {g : List Name} {l : Label} {a a' : Term} → bytes_eq l return_label ≡ false → Tail (l ∷ ls) g a a' → Tail ls g (Catch l a) (Catch l a')

  of_work : (ls : List Label) (g : List Name) (r r' : Result) → Acts slots_apart None p [] ds false g r r' → Tame ls [] r → Tame ls ds r' → Ends ls g r r'
  of_work ls g _ _ (Sim.gives {v = v} (fits {f = f} {f' = f'} {c = c} {o = o} {ds = x} {ds' = x'} m apart u)) (Block.gives d) (Block.gives d') =
      subst (λ z. Ends ls g (Gives v (record { frame = f; store = c; pending = None; defers = z; out = o })) (Gives v (record { frame = f'; store = c; pending = p; defers = x'; out = o }))) (sym d)
      (subst (λ z. Ends ls g (Gives v (At0 f c o)) (Gives v (record { frame = f'; store = c; pending = p; defers = z; out = o }))) (sym d') (gives m))
  of_work ls g _ _ (Sim.leaves (fits {f = f} {f' = f'} {c = c} {o = o} {ds = x} {ds' = x'} m apart u)) (Block.panics {e = e} d) (Block.panics d') =
      subst (λ z. Ends ls g (Leaves (Panic e) (record { frame = f; store = c; pending = None; defers = z; out = o })) (Leaves (Panic e) (record { frame = f'; store = c; pending = p; defers = x'; out = o }))) (sym d)
      (subst (λ z. Ends ls g (Leaves (Panic e) (At0 f c o)) (Leaves (Panic e) (record { frame = f'; store = c; pending = p; defers = z; out = o }))) (sym d') (panics m))
  of_work ls g _ _ (Sim.leaves (fits {f = f} {f' = f'} {c = c} {o = o} {ds = x} {ds' = x'} m apart u)) (Block.goes {l = l} h d) (Block.goes h' d') =
      subst (λ z. Ends ls g (Leaves (Gone l) (record { frame = f; store = c; pending = None; defers = z; out = o })) (Leaves (Gone l) (record { frame = f'; store = c; pending = p; defers = x'; out = o }))) (sym d)
      (subst (λ z. Ends ls g (Leaves (Gone l) (At0 f c o)) (Leaves (Gone l) (record { frame = f'; store = c; pending = p; defers = z; out = o }))) (sym d') (goes h m))
  of_work ls g _ _ Sim.cuts d d' = cuts

  data Rel (g : List Name) : State → State → Type 0 where
    rel : {f f' : Frame} {c : Store} {o : List Event} → Longer slots g c f f' → Rel g (At0 f c o) (At1 f' c o)

  rel_push : {g : List Name} {s s' : State} (xs : List Name) (v : List Value) → Rel g s s' → Rel (xs ++ g) (record s { frame = push xs v s.frame }) (record s' { frame = push xs v s'.frame })
  rel_push xs v (rel m) = rel (Inserted.in_push slots _ _ _ _ xs v m)

  rel_gives : {ls : List Label} {g : List Name} {v : List Value} {s s' : State} → Rel g s s' → Ends ls g (Gives v s) (Gives v s')
  rel_gives (rel m) = gives m

  after_ends : {ls : List Label} {g : List Name} {r r' : Result} {k k' : List Value → State → Result} → Ends ls g r r' → ((v : List Value) (s s' : State) → Rel g s s' → Ends ls g (k v s) (k' v s')) → Ends ls g (after r k Leaves) (after r' k' Leaves)
  after_ends (gives m) K' = K' _ _ _ (rel m)
  after_ends (panics m) K' = panics m
  after_ends (goes h m) K' = goes h m
  after_ends (returns m) K' = returns m
  after_ends cuts K' = cuts

  rt_pop : (g : List Name) (f : Frame) (c : Store) (f' : Frame) (c' : Store) (xs : List Name) → Rt (xs ++ g) f c f' c' → Rt g (pop xs f) c (pop xs f') c'
  rt_pop g _ _ _ _ xs (rt zs bs v c e q l) =
      let one = pop_front xs g zs (put_all ss v ws ++ (bs ++ F)) e in
      let two = pop_front xs g zs (bs ++ (K.ran v F c).0) e in
      subst (λ z. Rt g z c (pop xs (zs ++ (bs ++ (K.ran v F c).0))) (K.ran v F c).1) (sym one.1) (subst (λ z. Rt g (pop xs zs ++ (put_all ss v ws ++ (bs ++ F))) c z (K.ran v F c).1) (sym two.1) (rt (pop xs zs) bs v c one.0 q l))

  popped_ends : {ls : List Label} {g : List Name} {r r' : Result} (xs : List Name) → Ends ls (xs ++ g) r r' → Ends ls g (popped xs r) (popped xs r')
  popped_ends xs (gives m) = gives (Inserted.in_pop slots _ _ _ _ xs m)
  popped_ends xs (panics m) = panics (Inserted.in_pop slots _ _ _ _ xs m)
  popped_ends xs (goes h m) = goes h (Inserted.in_pop slots _ _ _ _ xs m)
  popped_ends xs (returns m) = returns (rt_pop _ _ _ _ _ xs m)
  popped_ends xs cuts = cuts

  truth_ends : {ls : List Label} {g : List Name} (v : List Value) {a a' b b' : Result} → Ends ls g a a' → Ends ls g b b' → Ends ls g (on_truth v a b) (on_truth v a' b')
  truth_ends (Truth true ∷ []) X Y = X
  truth_ends _ X Y = Y

  caught_ends : {ls : List Label} {g : List Name} {r r' : Result} (l : Label) → bytes_eq l return_label ≡ false → Ends (l ∷ ls) g r r' → Ends ls g (after r Gives (caught_by l)) (after r' Gives (caught_by l))
  caught_ends l n (gives m) = gives m
  caught_ends l n (panics m) = panics m
  caught_ends l n cuts = cuts
  caught_ends {ls} {g} l n (returns {f = f} {f' = f'} {c = c} {c' = c'} {o = o} m) =
      subst (λ b. Ends ls g (if b then Gives [] (At0 f c o) else Leaves (Gone return_label) (At0 f c o)) (if b then Gives [] (At1 f' c' o) else Leaves (Gone return_label) (At1 f' c' o))) (sym n) (returns m)
  caught_ends {ls} {g} l n (goes {l = m} {f = f} {f' = f'} {c = c} {o = o} h q) = go (bytes_eq l m) refl
    where
      turned : bytes_eq l m ≡ false → (b : Bool) → bytes_eq m l ≡ b → b ≡ false
      turned e true k = absurd (true≢false (sym (true_name l m (sym (name_true m l k))) ∙ e))
      turned e false k = refl

      go : (b : Bool) → bytes_eq l m ≡ b → Ends ls g (if b then Gives [] (At0 f c o) else Leaves (Gone m) (At0 f c o)) (if b then Gives [] (At1 f' c o) else Leaves (Gone m) (At1 f' c o))
      go true e = gives q
      go false e = goes (sym (ap (λ c. if c then true else has m ls) (turned e (bytes_eq m l) refl)) ∙ h) q

  abbrev leaving : Result → Result
  leaving r = after r (λ v s. popped [] (Leaves (Gone return_label) (record s { frame = push [] v s.frame }))) Leaves

  returned_ends : (ls : List Label) (g : List Name) (r r' : Result) → Apart ss g → K.Clear g → Acts slots_apart None p [] ds false g r r' → Good P (length ss) [] r → Good P (length ss) ds r'
      → Ends ls g (leaving (after r (λ v s. Gives [] (record s { frame = put_all ss v s.frame })) Leaves)) (leaving (after r' (λ v s. Gives [] (record s { frame = (K.ran v s.frame s.store).0; store = (K.ran v s.frame s.store).1 })) Leaves))
  returned_ends ls g _ _ i j (Sim.gives {v = v} (fits {c = c} {o = o} {ds = x} {ds' = x'} (inserted zs ys G e k h) apart u)) (Place.gives l d) (Place.gives l' d') = at G h.1
    where
      at : (G : Frame) → Rest G → Ends ls g (Leaves (Gone return_label) (record { frame = put_all ss v (zs ++ (ys ++ G)); store = c; pending = None; defers = x; out = o })) (Leaves (Gone return_label) (record { frame = (K.ran v (zs ++ G) c).0; store = (K.ran v (zs ++ G) c).1; pending = p; defers = x'; out = o }))
      at _ (rest bs q) =
          let in_ws = subst (λ z. has_all ss z) (sym ws_names) (all_self ss) in
          let left : put_all ss v (zs ++ (ys ++ (bs ++ F))) ≡ zs ++ (put_all ss v ws ++ (bs ++ F)) = ap (λ y. put_all ss v (zs ++ (y ++ (bs ++ F)))) h.0 ∙ put_all_behind ss v zs (ws ++ (bs ++ F)) (subst (Apart ss) (sym e) i) ∙ ap (λ z. zs ++ z) (put_all_front ss v ws (bs ++ F) in_ws) in
          let right = K.behind zs bs F v c l (subst K.Clear (sym e) j) q in
          subst (λ z. Ends ls g (Leaves (Gone return_label) (record { frame = put_all ss v (zs ++ (ys ++ (bs ++ F))); store = c; pending = None; defers = z; out = o })) (Leaves (Gone return_label) (record { frame = (K.ran v (zs ++ (bs ++ F)) c).0; store = (K.ran v (zs ++ (bs ++ F)) c).1; pending = p; defers = x'; out = o }))) (sym d)
          (subst (λ z. Ends ls g (Leaves (Gone return_label) (At0 (put_all ss v (zs ++ (ys ++ (bs ++ F)))) c o)) (Leaves (Gone return_label) (record { frame = (K.ran v (zs ++ (bs ++ F)) c).0; store = (K.ran v (zs ++ (bs ++ F)) c).1; pending = p; defers = z; out = o }))) (sym d')
          (returns (subst (λ z. Rt g z c (K.ran v (zs ++ (bs ++ F)) c).0 (K.ran v (zs ++ (bs ++ F)) c).1) (sym left) (subst (λ z. Rt g (zs ++ (put_all ss v ws ++ (bs ++ F))) c z.0 z.1) (sym right) (rt zs bs v c e q l)))))
  returned_ends ls g _ _ i j (Sim.leaves (fits {f = f} {f' = f'} {c = c} {o = o} {ds = x} {ds' = x'} m apart u)) (Place.panics {e = e} d) (Place.panics d') =
      subst (λ z. Ends ls g (Leaves (Panic e) (record { frame = f; store = c; pending = None; defers = z; out = o })) (Leaves (Panic e) (record { frame = f'; store = c; pending = p; defers = x'; out = o }))) (sym d)
      (subst (λ z. Ends ls g (Leaves (Panic e) (At0 f c o)) (Leaves (Panic e) (record { frame = f'; store = c; pending = p; defers = z; out = o }))) (sym d') (panics m))
  returned_ends ls g _ _ i j Sim.cuts d d' = cuts

  abbrev Follow : Level → Type 0
  Follow l = (ls : List Label) (g : List Name) (u u' : Term) → Tail ls g u u' → (s s' : State) → Rel g s s' → Ends ls g (l u s) (l u' s')

  module _ (n : ℕ) (below : Follow (free_level P free A n)) (j : ℕ) where
    working : (ls : List Label) (g : List Name) (u : Term) → Moves slots_apart None p false g u u → Tidy ls u → (s s' : State) → Rel g s s' → Ends ls g (Lev P free A n j u s) (Lev P free A n j u s')
    working ls g u m q _ _ (rel {f = f} {f' = f'} {c = c} {o = o} r) =
        of_work ls g _ _ (chain_follows slots_apart None p P free A (λ below pick B B' r g t t' e. absurd e) n j [] ds false g u u m (At0 f c o) (At1 f' c o) (fits r apart Upon.base))
        (chain_tame P free A n j ls u q (At0 f c o) [] refl) (chain_tame P free A n j ls u q (At1 f' c o) ds refl)

    returning : (ls : List Label) (g : List Name) (e : Term) → Moves slots_apart None p false g e e → Expr P (length ss) e → Apart ss g → K.Clear g → (s s' : State) → Rel g s s' → Ends ls g (Lev P free A n j (Let [] (Set ss e) (Leave return_label)) s) (Lev P free A n j (Let [] (K.sink e) (Leave return_label)) s')
    returning ls g e m k x y _ _ (rel {f = f} {f' = f'} {c = c} {o = o} r) =
        subst (λ z. Ends ls g (Lev P free A n j (Let [] (Set ss e) (Leave return_label)) (At0 f c o)) (leaving z)) (sym (K.sinks n j e (At1 f' c o) k))
        (returned_ends ls g _ _ x y (chain_follows slots_apart None p P free A (λ below pick B B' r g t t' e. absurd e) n j [] ds false g e e m (At0 f c o) (At1 f' c o) (fits r apart Upon.base))
        (expr_at P free A (length ss) n j e k (At0 f c o)) (expr_at P free A (length ss) n j e k (At1 f' c o)))

    tails : {ls : List Label} {g : List Name} {u u' : Term} → Tail ls g u u' → (s s' : State) → Rel g s s' → Ends ls g (Lev P free A n j u s) (Lev P free A n j u' s')
    tails {ls} {g} (ret {e = e} m k x y) s s' r = returning ls g e m k x y s s' r
    tails {ls} {g} (work {u = u} m q) s s' r = working ls g u m q s s' r
    tails {ls} {g} (let' {xs = xs} a b) s s' r = after_ends (tails a s s' r) (λ v s s' r. popped_ends xs (tails b _ _ (rel_push xs v r)))
    tails {ls} {g} (both a b) s s' r = after_ends (tails a s s' r) (λ v s s' r. after_ends (tails b s s' r) (λ w s s' r. rel_gives r))
    tails {ls} {g} (if' {c = d} m q a b) s s' r = after_ends (working ls g d m q s s' r) (λ v s s' r. truth_ends v (tails a s s' r) (tails b s s' r))
    tails {ls} {g} (loop {c = d} {b = b} {b' = b'} m q h) s s' r =
        after_ends (working ls g d m q s s' r) (λ v s s' r. truth_ends v (below ls g (Let [] b (Loop d b)) (Let [] b' (Loop d b')) (let' h (loop m q h)) s s' r) (rel_gives r))
    tails {ls} {g} (catch {l = l} z a) s s' r = caught_ends l z (tails a s s' r)

  cut_ends : (ls : List Label) (g : List Name) {s s' : State} → Rel g s s' → Ends ls g (Cuts s.out) (Cuts s'.out)
  cut_ends ls g (rel m) = cuts

  follow : (n : ℕ) → Follow (free_level P free A n)
  follow zero ls g u u' q s s' r = cut_ends ls g r
  follow (suc n) ls g u u' q s s' r = tails n (follow n) A q s s' r

  pub all_tails : (n j : ℕ) (ls : List Label) (g : List Name) (u u' : Term) → Tail ls g u u' → (f f' : Frame) (c : Store) (o : List Event) → Longer slots g c f f' → Ends ls g (Lev P free A n j u (record { frame = f; store = c; pending = None; defers = []; out = o })) (Lev P free A n j u' (record { frame = f'; store = c; pending = p; defers = ds; out = o }))
  all_tails n j ls g u u' q f f' c o r = tails n (follow n) j q _ _ (rel r)

module _ (P : Program) (free : FuncName → Bool) (A : ℕ) (ps ss : List Name) (K : Sink P free A (length ss) ps) (distinct : DistinctNames ss) (zs : List Value) (zs_length : length zs ≡ length ss) where
  abbrev pub ws : Frame
  ws = push ss zs []

  pub ws_names : names ws ≡ ss
  ws_names = names_push ss zs [] ∙ append-nil ss

  module _ (body body' : Term) (alike : (F : Frame) (p : Option Reason) (ds : List Deferred) → Tail P free A ps ss K ws F ws_names p ds [] [] body body') (zeros : (F : Frame) (c : Store) → read_slots (in_frames ss) (ws ++ F) c ≡ zs) where
    -- the caller's return of these values
    abbrev settled : Result → Result
    settled r = after r (λ v s. Gives [] (record s { frame = (K.ran v s.frame s.store).0; store = (K.ran v s.frame s.store).1 })) Leaves

    abbrev leaves' : Result → Result
    leaves' r = after r (λ v s. popped [] (Leaves (Gone return_label) (record s { frame = push [] v s.frame }))) Leaves

    abbrev left_end : Level → Option Reason → List Deferred → Result → Result
    left_end b p ds x = after (settled (popped ps (with_pending p (popped ss (with_slots (in_frames ss) (resumed ds (unwound b x))))))) (λ v s. popped [] (Leaves (Gone return_label) (record s { frame = push [] v s.frame }))) Leaves

    abbrev right_end : Result → Result
    right_end x = after (popped ps x) (λ v s. popped [] (after (settled (Gives zs s)) (λ v s. popped [] (Leaves (Gone return_label) (record s { frame = push [] v s.frame }))) Leaves)) Leaves

    ends_same : (b : Level) (F : Frame) (p : Option Reason) (ds : List Deferred) (r r' : Result) → Ends P free A ps ss K ws F ws_names p ds [] [] r r' → left_end b p ds r ≡ right_end r'
    ends_same b F p ds _ _ (gives {v = u} {c = c} {o = o} (inserted zs' ys G e i h)) = at G h.1
      where
        at : (G : Frame) → Rest P free A ps ss K ws F ws_names p ds G → left_end b p ds (Gives u (record { frame = zs' ++ (ys ++ G); store = c; pending = None; defers = []; out = o })) ≡ right_end (Gives u (record { frame = zs' ++ G; store = c; pending = p; defers = ds; out = o }))
        at _ (rest bs q) =
            let none = empty_names zs' e in
            let whole : zs' ++ (ys ++ (bs ++ F)) ≡ ws ++ (bs ++ F) = ap (λ z. z ++ (ys ++ (bs ++ F))) none ∙ ap (λ y. y ++ (bs ++ F)) h.0 in
            let reads = ap (λ z. read_slots (in_frames ss) z c) whole ∙ zeros (bs ++ F) c in
            let left = ap (λ z. pop ps (pop ss z)) whole ∙ ap (pop ps) (pop_all ss ws (bs ++ F) ws_names) ∙ pop_all ps bs F q in
            let right = ap (λ z. pop ps (z ++ (bs ++ F))) none ∙ pop_all ps bs F q in
            let same : K.ran (read_slots (in_frames ss) (zs' ++ (ys ++ (bs ++ F))) c) (pop ps (pop ss (zs' ++ (ys ++ (bs ++ F))))) c ≡ K.ran zs (pop ps (zs' ++ (bs ++ F))) c = cc (reads, left, right) in
            ap (λ z. Leaves (Gone return_label) (record { frame = z.0; store = z.1; pending = p; defers = ds; out = o })) same
    ends_same b F p ds _ _ (panics {e = x} {c = c} {o = o} (inserted zs' ys G e i h)) = at G h.1
      where
        at : (G : Frame) → Rest P free A ps ss K ws F ws_names p ds G → left_end b p ds (Leaves (Panic x) (record { frame = zs' ++ (ys ++ G); store = c; pending = None; defers = []; out = o })) ≡ right_end (Leaves (Panic x) (record { frame = zs' ++ G; store = c; pending = p; defers = ds; out = o }))
        at _ (rest bs q) =
            let none = empty_names zs' e in
            let whole : zs' ++ (ys ++ (bs ++ F)) ≡ ws ++ (bs ++ F) = ap (λ z. z ++ (ys ++ (bs ++ F))) none ∙ ap (λ y. y ++ (bs ++ F)) h.0 in
            let left = ap (λ z. pop ps (pop ss z)) whole ∙ ap (pop ps) (pop_all ss ws (bs ++ F) ws_names) ∙ pop_all ps bs F q in
            let right = ap (λ z. pop ps (z ++ (bs ++ F))) none ∙ pop_all ps bs F q in
            ap (λ z. Leaves (Panic x) (record { frame = z; store = c; pending = p; defers = ds; out = o })) (left ∙ sym right)
    ends_same b F p ds _ _ (goes h m) = absurd (true≢false (sym h))
    ends_same b F p ds _ _ (returns {o = o} (rt zs' bs v c e q l)) =
        let none = empty_names zs' e in
        let in_ws = subst (has_all ss) (sym ws_names) (all_self ss) in
        let reads = ap (λ z. read_slots (in_frames ss) (z ++ (put_all ss v ws ++ (bs ++ F))) c) none ∙ read_all ss v ws (bs ++ F) c distinct in_ws l in
        let left = ap (λ z. pop ps (pop ss (z ++ (put_all ss v ws ++ (bs ++ F))))) none ∙ ap (pop ps) (pop_all ss (put_all ss v ws) (bs ++ F) (names_put_all ss v ws ∙ ws_names)) ∙ pop_all ps bs F q in
        let right = ap (λ z. pop ps (z ++ (bs ++ (K.ran v F c).0))) none ∙ pop_all ps bs (K.ran v F c).0 q in
        let same : K.ran (read_slots (in_frames ss) (zs' ++ (put_all ss v ws ++ (bs ++ F))) c) (pop ps (pop ss (zs' ++ (put_all ss v ws ++ (bs ++ F))))) c ≡ K.ran v F c = cc (reads, left) in
        ap (λ z. Leaves (Gone return_label) (record { frame = z.0; store = z.1; pending = p; defers = ds; out = o })) same ∙ ap (λ z. Leaves (Gone return_label) (record { frame = z; store = (K.ran v F c).1; pending = p; defers = ds; out = o })) (sym right)
    ends_same b F p ds _ _ cuts = refl

    inside : (n j : ℕ) (v : List Value) (s : State)
        → left_end (free_level P free A n) s.pending s.defers (Lev P free A n j body (record { frame = push ss zs (push ps v s.frame); store = s.store; pending = None; defers = []; out = s.out })) ≡ right_end (Lev P free A n j body' (record s { frame = push ps v s.frame }))
    inside n j v s =
        let F = s.frame in
        let bs = push ps v [] in
        let split : push ps v F ≡ bs ++ F = push_front ps v [] F in
        let left : push ss zs (push ps v F) ≡ ws ++ (bs ++ F) = push_front ss zs [] (push ps v F) ∙ ap (λ z. ws ++ z) split in
        let I = slots P free A ps ss K ws F ws_names s.pending s.defers in
        let rel0 : Longer I [] s.store (ws ++ (bs ++ F)) (bs ++ F) = inserted [] ws (bs ++ F) refl refl (refl, rest bs (names_push ps v [] ∙ append-nil ps)) in
        let rel = Inserted.renamed I left split rel0 in
        ends_same (free_level P free A n) F s.pending s.defers _ _ (all_tails P free A ps ss K ws F ws_names s.pending s.defers n j [] [] body body' (alike F s.pending s.defers) (push ss zs (push ps v F)) (push ps v F) s.store s.out rel)

    module _ (a : Term) (literal : Expr P (length ss) (Let ps a (Alone (Let ss (Vals zs) (Within body (in_frames ss)))))) where
      pub tail_is_return : Mean P free A zero (Let [] (K.sink (Let ps a (Alone (Let ss (Vals zs) (Within body (in_frames ss)))))) (Leave return_label)) (Let [] (Let ps a body') (Let [] (K.sink (Vals zs)) (Leave return_label)))
      tail_is_return = mean_equal P free A zero (Let [] (K.sink (Let ps a (Alone (Let ss (Vals zs) (Within body (in_frames ss)))))) (Leave return_label)) (Let [] (Let ps a body') (Let [] (K.sink (Vals zs)) (Leave return_label))) same
        where
          go : (n j : ℕ) (r : Result)
              → after (settled (after r (λ v s. popped ps (with_pending s.pending (popped ss (with_slots (in_frames ss) (resumed s.defers (unwound (free_level P free A n) (Lev P free A n j body (record { frame = push ss zs (push ps v s.frame); store = s.store; pending = None; defers = []; out = s.out })))))))) Leaves)) (λ v s. popped [] (Leaves (Gone return_label) (record s { frame = push [] v s.frame }))) Leaves
              ≡ after (after r (λ v s. popped ps (Lev P free A n j body' (record s { frame = push ps v s.frame }))) Leaves) (λ v s. popped [] (after (settled (Gives zs s)) (λ v s. popped [] (Leaves (Gone return_label) (record s { frame = push [] v s.frame }))) Leaves)) Leaves
          go n j (Gives v s) = inside n j v s
          go n j (Leaves x s) = refl
          go n j (Cuts o) = refl

          zero_sinks : (n j : ℕ) (r : Result) → after r (λ v s. popped [] (leaves' (Lev P free A n j (K.sink (Vals zs)) (record s { frame = push [] v s.frame })))) Leaves ≡ after r (λ v s. popped [] (leaves' (settled (Gives zs s)))) Leaves
          zero_sinks n j (Gives v s) = ap (λ r. popped [] (leaves' r)) (K.sinks n j (Vals zs) s zs_length)
          zero_sinks n j (Leaves x s) = refl
          zero_sinks n j (Cuts o) = refl

          same : (n j : ℕ) → zero ≤ j → (s : State) → Lev P free A n j (Let [] (K.sink (Let ps a (Alone (Let ss (Vals zs) (Within body (in_frames ss)))))) (Leave return_label)) s ≡ Lev P free A n j (Let [] (Let ps a body') (Let [] (K.sink (Vals zs)) (Leave return_label))) s
          same n j h s = ap leaves' (K.sinks n j (Let ps a (Alone (Let ss (Vals zs) (Within body (in_frames ss))))) s literal) ∙ go n j (Lev P free A n j a s) ∙ sym (zero_sinks n j (Lev P free A n j (Let ps a body') s))
