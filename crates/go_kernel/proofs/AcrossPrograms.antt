-- The relation of two runs, and the one theorem across programs and levels from which laws come: parts that are alike, run by levels that are alike, end alike.
use Rattle.std.proofs.Common.{◌≡◌, List, [], ◌∷◌, ◌++◌, Bool, true, false, if◌then◌else◌, Option, Some, None, refl, sym, ap, ◌∙◌, subst, append_assoc}
use Rattle.std.specs.Prelude.{bytes_eq}
use Rattle.go_kernel.specs.Kernel.{Name, Label, FuncName, Value, Truth, Op, Term, Vals, Local, Set, Both, Prim as Prim', If, Let, Loop, Leave, Catch, Within, Alone, Recover, Slot, Store, code, read_slots, with_slots, with_pending, is_pending, Call, Defer, DeferLit, Frame, Deferred, State, Exit, Gone, Panic, Result, Gives, Leaves, Cuts, Level, after, lookup, put_all, push, pop, Answer, Ok, Fails, prim, answered, on_truth, popped, caught_by, entered, back, called, ending, panic_of, run_one, unwind, resumed, unwound, Program, eval, Ext, Event, Reason}
use Rattle.go_kernel.specs.Alike.{out_of, Each, none, more, Near, near, Covered, gives, leaves, cuts, outrun, Same, Calls, vals, local, set, both, prim', if', let', loop, leave, catch, within, alone, recover, call, defer, defer_lit, swap}

pub ext_refl : {a : List Event} → Ext a a
ext_refl = ([], refl)

pub ext_trans : {a b c : List Event} → Ext a b → Ext b c → Ext a c
ext_trans {a} e f = (f.0 ++ e.0, f.1 ∙ ap (λ x. f.0 ++ x) e.1 ∙ sym (append_assoc f.0 e.0 a))

pub same_self : {E : Term → Term → Type 0} {C : FuncName → Type 0} (t : Term) → Calls C t → Same E C t t
same_self (Vals v) c = vals
same_self (Local x) c = local
same_self (Set xs a) c = set (same_self a c)
same_self (Both a b) c = both (same_self a c.0) (same_self b c.1)
same_self (Prim' o a) c = prim' (same_self a c)
same_self (If a b d) c = if' (same_self a c.0) (same_self b c.1) (same_self d c.2)
same_self (Let xs a b) c = let' (same_self a c.0) (same_self b c.1)
same_self (Loop a b) c = loop (same_self a c.0) (same_self b c.1)
same_self (Leave l) c = leave
same_self (Catch l a) c = catch (same_self a c)
same_self (Within a rs) c = within (same_self a c)
same_self (Alone a) c = alone (same_self a c)
same_self Recover c = recover
same_self (Call f a) c = call c.0 (same_self a c.1)
same_self (Defer f a) c = defer (same_self a c)
same_self (DeferLit xs a b) c = defer_lit (same_self a c.0) (same_self b c.1)

pub same_under : {E E' : Term → Term → Type 0} {C C' : FuncName → Type 0} {t t' : Term} → ((a b : Term) → E a b → E' a b) → ((f : FuncName) → C f → C' f) → Same E C t t' → Same E' C' t t'
same_under e c vals = vals
same_under e c local = local
same_under e c (set a) = set (same_under e c a)
same_under e c (both a b) = both (same_under e c a) (same_under e c b)
same_under e c (prim' a) = prim' (same_under e c a)
same_under e c (if' a b d) = if' (same_under e c a) (same_under e c b) (same_under e c d)
same_under e c (let' a b) = let' (same_under e c a) (same_under e c b)
same_under e c (loop a b) = loop (same_under e c a) (same_under e c b)
same_under e c leave = leave
same_under e c (catch a) = catch (same_under e c a)
same_under e c (within a) = within (same_under e c a)
same_under e c (alone a) = alone (same_under e c a)
same_under e c recover = recover
same_under e c (call q a) = call (c _ q) (same_under e c a)
same_under e c (defer a) = defer (same_under e c a)
same_under e c (defer_lit a b) = defer_lit (same_under e c a) (same_under e c b)
same_under e c (swap a q) = swap (same_under e c a) (e _ _ q)

pub each_refl : {D : Deferred → Deferred → Type 0} → ((d : Deferred) → D d d) → (ds : List Deferred) → Each D ds ds
each_refl r [] = none
each_refl r (d ∷ ds) = more (r d) (each_refl r ds)

pub near_refl : {D : Deferred → Deferred → Type 0} → ((d : Deferred) → D d d) → (s : State) → Near D s s
near_refl r s = near (each_refl r s.defers)

module _ (covers : Type 0) (D : Deferred → Deferred → Type 0) where
  pub near_out : {o : List Event} {s s' : State} → Near D s s' → Ext o s.out → Ext o s'.out
  near_out (near d) e = e

  pub cov_out : {o : List Event} {r r' : Result} → Covered covers D o r r' → Ext o (out_of r')
  cov_out (gives n e) = near_out n e
  cov_out (leaves n e) = near_out n e
  cov_out (cuts e) = e
  cov_out (outrun c e f) = ext_trans e f

  pub weaken : {o o1 : List Event} {r r' : Result} → Ext o o1 → Covered covers D o1 r r' → Covered covers D o r r'
  weaken g (gives n e) = gives n (ext_trans g e)
  weaken g (leaves n e) = leaves n (ext_trans g e)
  weaken g (cuts e) = cuts (ext_trans g e)
  weaken g (outrun c e f) = outrun c (ext_trans g e) f

  -- two ways to go on from values, or from exits
  abbrev pub OnV : (List Value → State → Result) → (List Value → State → Result) → Type 0
  OnV k k' = (v : List Value) (s s' : State) → Near D s s' → Covered covers D s.out (k v s) (k' v s')

  abbrev pub OnE : (Exit → State → Result) → (Exit → State → Result) → Type 0
  OnE h h' = (e : Exit) (s s' : State) → Near D s s' → Covered covers D s.out (h e s) (h' e s')

  pub stay : OnV Gives Gives
  stay v s s' n = gives n ext_refl

  pub leave_on : OnE Leaves Leaves
  leave_on e s s' n = leaves n ext_refl

  pub each_of : {s s' : State} → Near D s s' → Each D s.defers s'.defers
  each_of (near d) = d

  pub on_frame : (g : Frame → Frame) {s s' : State} → Near D s s' → Near D (record s { frame = g s.frame }) (record s' { frame = g s'.frame })
  on_frame g (near d) = near d

  pub on_back : {s s' s1 s1' : State} → Near D s s' → Near D s1 s1' → Near D (back s s1) (back s' s1')
  on_back (near d) (near e) = near d

  pub on_entered : (f : Frame) (p : Option Reason) {s s' : State} → Near D s s' → Near D (entered f p s) (entered f p s')
  on_entered f p (near d) = near none

  pub on_pending : (p : Option Reason) {s s' : State} → Near D s s' → Near D (record s { pending = p }) (record s' { pending = p })
  on_pending p (near d) = near d

  pub on_defers : {ds ds' : List Deferred} {s s' : State} → Each D ds ds' → Near D s s' → Near D (record s { defers = ds }) (record s' { defers = ds' })
  on_defers e (near d) = near e

  pub of_state : (g : Frame → Store → List Value) {s s' : State} → Near D s s' → Covered covers D s.out (Gives (g s.frame s.store) s) (Gives (g s'.frame s'.store) s')
  of_state g (near d) = gives (near d) ext_refl

  pub of_frame : (g : Frame → List Value) {s s' : State} → Near D s s' → Covered covers D s.out (Gives (g s.frame) s) (Gives (g s'.frame) s')
  of_frame g (near d) = gives (near d) ext_refl

  module _ (D_refl : (d : Deferred) → D d d) where
    pub after_out : {o : List Event} {k k' : List Value → State → Result} {h h' : Exit → State → Result} (r : Result) → OnV k k' → OnE h h' → Ext o (out_of r) → Ext o (out_of (after r k' h'))
    after_out (Gives v s) K H e = ext_trans e (cov_out (K v s s (near_refl D_refl s)))
    after_out (Leaves x s) K H e = ext_trans e (cov_out (H x s s (near_refl D_refl s)))
    after_out (Cuts o) K H e = e

    pub after_cov : {o : List Event} {r r' : Result} {k k' : List Value → State → Result} {h h' : Exit → State → Result} → Covered covers D o r r' → OnV k k' → OnE h h' → Covered covers D o (after r k h) (after r' k' h')
    after_cov (gives n e) K H = weaken e (K _ _ _ n)
    after_cov (leaves n e) K H = weaken e (H _ _ _ n)
    after_cov (cuts e) K H = cuts e
    after_cov (outrun {r = r} c e f) K H = outrun c e (after_out r K H f)

    -- the parts of a step
    pub on_truth_cov : {o : List Event} {a a' b b' : Result} (v : List Value) → Covered covers D o a a' → Covered covers D o b b' → Covered covers D o (on_truth v a b) (on_truth v a' b')
    on_truth_cov (Truth true ∷ []) A B = A
    on_truth_cov _ A B = B

    pub answered_cov : (a : Answer) {s s' : State} → Near D s s' → Covered covers D s.out (answered a s) (answered a s')
    answered_cov (Ok v c e) (near d) = gives (near d) (e, refl)
    answered_cov (Fails p) (near d) = leaves (near d) ext_refl

    pub popped_cov : {o : List Event} {r r' : Result} (xs : List Name) → Covered covers D o r r' → Covered covers D o (popped xs r) (popped xs r')
    popped_cov xs C = after_cov C (λ v s s' n. gives (on_frame (pop xs) n) ext_refl) (λ e s s' n. leaves (on_frame (pop xs) n) ext_refl)

    pub caught_cov : (l : Label) → OnE (caught_by l) (caught_by l)
    caught_cov l (Panic p) s s' n = leaves n ext_refl
    caught_cov l (Gone m) s s' n = pick (bytes_eq l m)
      where
        pick : (b : Bool) → Covered covers D s.out (if b then Gives [] s else Leaves (Gone m) s) (if b then Gives [] s' else Leaves (Gone m) s')
        pick true = gives n ext_refl
        pick false = leaves n ext_refl

    pub called_cov : {o : List Event} {s s' : State} {r r' : Result} → Near D s s' → Covered covers D o r r' → Covered covers D o (called s r) (called s' r')
    called_cov n C = after_cov C (λ v s s' m. gives (on_back n m) ext_refl) (λ e s s' m. leaves (on_back n m) ext_refl)

    pub resumed_cov : {o : List Event} {ds ds' : List Deferred} {r r' : Result} → Each D ds ds' → Covered covers D o r r' → Covered covers D o (resumed ds r) (resumed ds' r')
    resumed_cov d C = after_cov C (λ v s s' n. gives (on_defers d n) ext_refl) (λ e s s' n. leaves (on_defers d n) ext_refl)

    with_slots_cov : {o : List Event} {r r' : Result} (rs : List Slot) → Covered covers D o r r' → Covered covers D o (with_slots rs r) (with_slots rs r')
    with_slots_cov rs C = after_cov C (λ v s s' n. of_state (read_slots rs) n) leave_on

    with_pending_cov : {o : List Event} {r r' : Result} {s s' : State} → Near D s s' → Covered covers D o r r' → Covered covers D o (with_pending s.pending r) (with_pending s'.pending r')
    with_pending_cov (near {p = p} d) C = after_cov C (λ v s s' n. gives (on_pending p n) ext_refl) (λ e s s' n. leaves (on_pending p n) ext_refl)

    recovered : {s s' : State} → Near D s s' → Covered covers D s.out (Gives (is_pending s.pending ∷ []) (record s { pending = None })) (Gives (is_pending s'.pending ∷ []) (record s' { pending = None }))
    recovered (near d) = gives (near d) ext_refl

    -- what a deferred call leaves
    left : {s s' t t' : State} (e : Option Reason → Option Reason) → Near D s s' → Near D t t' → Covered covers D t.out (Gives [] (record (back s t) { pending = e t.pending })) (Gives [] (record (back s' t') { pending = e t'.pending }))
    left e (near x) (near y) = gives (near x) ext_refl

    pub run_one_cov : (l l' : Level) (f : Frame) (b b' : Term) (e : Option Reason) {s s' : State} → Near D s s'
        → Covered covers D s.out (l b (entered f e s)) (l' b' (entered f e s')) → Covered covers D s.out (run_one l (record { frame = f; body = b }) e s) (run_one l' (record { frame = f; body = b' }) e s')
    run_one_cov l l' f b b' e n C = after_cov C (λ v s s' m. left (λ p. p) n m) (λ x s s' m. left (λ p. panic_of p x) n m)

    module _ (below below' : Level) (runs : (d d' : Deferred) → D d d' → (e : Option Reason) (s s' : State) → Near D s s' → Covered covers D s.out (run_one below d e s) (run_one below' d' e s')) where
      pub ending_cov : (e : Option Reason) {s s' : State} → Near D s s' → Covered covers D s.out (ending e s) (ending e s')
      ending_cov None n = gives n ext_refl
      ending_cov (Some p) n = leaves n ext_refl

      mutual_step : (ds ds' : List Deferred) {p p' : Option Reason} {s s' : State}
          → ((e : Option Reason) (s s' : State) → Near D s s' → Covered covers D s.out (unwind below ds e s) (unwind below' ds' e s')) → p ≡ p' → Near D s s'
          → Covered covers D s.out (unwind below ds s.pending (record s { pending = p })) (unwind below' ds' s'.pending (record s' { pending = p' }))
      mutual_step ds ds' {p = p} U q (near {f = f} {c = c} {p = e} {o = o} {ds = x} {ds' = x'} d) =
          subst (λ z. Covered covers D o (unwind below ds e (record { frame = f; store = c; pending = p; defers = x; out = o })) (unwind below' ds' e (record { frame = f; store = c; pending = z; defers = x'; out = o }))) q (U e _ _ (near {p = p} d))

      pending_near : {s s' : State} → Near D s s' → s.pending ≡ s'.pending
      pending_near (near d) = refl

      pub unwind_cov : {ds ds' : List Deferred} → Each D ds ds' → (e : Option Reason) (s s' : State) → Near D s s' → Covered covers D s.out (unwind below ds e s) (unwind below' ds' e s')
      unwind_cov none e s s' n = ending_cov e n
      unwind_cov (more {d = d} {d' = d'} {ds = ds} {ds' = ds'} q w) e s s' n =
          after_cov (runs d d' q e s s' n) (λ v t t' m. mutual_step ds ds' (unwind_cov w) (pending_near n) m) leave_on

      pub unwound_cov : {o : List Event} {r r' : Result} → Covered covers D o r r' → Covered covers D o (unwound below r) (unwound below' r')
      unwound_cov C = after_cov C (λ v s s' n. unwind_cov (each_of n) None s s' n) (λ e s s' n. unwind_cov (each_of n) (panic_of None e) s s' n)

      -- the one theorem: parts that are alike, run by levels that are alike, give results that are alike
      module _ (E : Term → Term → Type 0) (C : FuncName → Type 0) (P P' : Program) (pick pick' : FuncName → Level)
          (lit : (f : Frame) (b b' : Term) → Same E C b b' → D (record { frame = f; body = b }) (record { frame = f; body = b' }))
          (params : (f : FuncName) → (P f).params ≡ (P' f).params)
          (funs : (f : FuncName) (x : Frame) → D (record { frame = x; body = code (P f) }) (record { frame = x; body = code (P' f) }))
          (below_cov : (t t' : Term) → Same E C t t' → (s s' : State) → Near D s s' → Covered covers D s.out (below t s) (below' t' s'))
          (pick_cov : (f : FuncName) → C f → (s s' : State) → Near D s s' → Covered covers D s.out (pick f (code (P f)) s) (pick' f (code (P' f)) s'))
          (sound : (t t' : Term) → E t t' → (o : List Event) (r : Result) (s : State) → Covered covers D o r (eval P' pick' below' t s) → Covered covers D o r (eval P' pick' below' t' s)) where
        primed : (o : Op) (v : List Value) {s s' : State} → Near D s s' → Covered covers D s.out (answered (prim o v s.store) s) (answered (prim o v s'.store) s')
        primed o v (near {c = c} d) = answered_cov (prim o v c) (near d)

        call_in : (f : FuncName) (v : List Value) → C f → {s s' : State} → Near D s s' → Covered covers D s.out (pick f (code (P f)) (entered (push (P f).params v []) None s)) (pick' f (code (P' f)) (entered (push (P' f).params v []) None s'))
        call_in f v q {s} {s'} n = subst (λ xs. Covered covers D s.out (pick f (code (P f)) (entered (push (P f).params v []) None s)) (pick' f (code (P' f)) (entered (push xs v []) None s'))) (params f) (pick_cov f q _ _ (on_entered (push (P f).params v []) None n))

        deferred_in : (f : FuncName) (v : List Value) {s s' : State} → Near D s s' → Covered covers D s.out (Gives [] (record s { defers = (record { frame = push (P f).params v []; body = code (P f) }) ∷ s.defers })) (Gives [] (record s' { defers = (record { frame = push (P' f).params v []; body = code (P' f) }) ∷ s'.defers }))
        deferred_in f v {s} {s'} n = subst (λ xs. Covered covers D s.out (Gives [] (record s { defers = (record { frame = push (P f).params v []; body = code (P f) }) ∷ s.defers })) (Gives [] (record s' { defers = (record { frame = push xs v []; body = code (P' f) }) ∷ s'.defers }))) (params f) (gives (on_defers (more (funs f _) (each_of n)) n) ext_refl)

        lit_in : (xs : List Name) (v : List Value) {b b' : Term} → Same E C b b' → {s s' : State} → Near D s s' → Covered covers D s.out (Gives [] (record s { defers = (record { frame = push xs v s.frame; body = b }) ∷ s.defers })) (Gives [] (record s' { defers = (record { frame = push xs v s'.frame; body = b' }) ∷ s'.defers }))
        lit_in xs v q (near d) = gives (near (more (lit _ _ _ q) d)) ext_refl

        pub eval_cov : {t t' : Term} → Same E C t t' → (s s' : State) → Near D s s' → Covered covers D s.out (eval P pick below t s) (eval P' pick' below' t' s')
        eval_cov (vals {v = v}) s s' n = gives n ext_refl
        eval_cov (local {x = x}) s s' n = of_frame (λ f. lookup x f ∷ []) n
        eval_cov (set {xs = xs} a) s s' n =
            after_cov (eval_cov a s s' n) (λ v s s' n. gives (on_frame (put_all xs v) n) ext_refl) leave_on
        eval_cov (both a b) s s' n =
            after_cov (eval_cov a s s' n) (λ v s s' n. after_cov (eval_cov b s s' n) (λ w s s' n. gives n ext_refl) leave_on) leave_on
        eval_cov (prim' {o = o} a) s s' n = after_cov (eval_cov a s s' n) (λ v s s' n. primed o v n) leave_on
        eval_cov (if' c a b) s s' n =
            after_cov (eval_cov c s s' n) (λ v s s' n. on_truth_cov v (eval_cov a s s' n) (eval_cov b s s' n)) leave_on
        eval_cov (let' {xs = xs} a b) s s' n =
            after_cov (eval_cov a s s' n) (λ v s s' n. popped_cov xs (eval_cov b _ _ (on_frame (push xs v) n))) leave_on
        eval_cov (loop c b) s s' n =
            after_cov (eval_cov c s s' n) (λ v s s' n. on_truth_cov v (below_cov _ _ (let' b (loop c b)) s s' n) (gives n ext_refl)) leave_on
        eval_cov leave s s' n = leaves n ext_refl
        eval_cov (catch {l = l} a) s s' n = after_cov (eval_cov a s s' n) stay (caught_cov l)
        eval_cov (within {rs = rs} a) s s' n = with_slots_cov rs (resumed_cov (each_of n) (unwound_cov (eval_cov a _ _ (on_defers none n))))
        eval_cov (alone a) s s' n = with_pending_cov n (eval_cov a _ _ (on_pending None n))
        eval_cov recover s s' n = recovered n
        eval_cov (call {f = f} q a) s s' n =
            after_cov (eval_cov a s s' n) (λ v s s' n. called_cov n (call_in f v q n)) leave_on
        eval_cov (defer {f = f} a) s s' n = after_cov (eval_cov a s s' n) (λ v s s' n. deferred_in f v n) leave_on
        eval_cov (defer_lit {xs = xs} a b) s s' n = after_cov (eval_cov a s s' n) (λ v s s' n. lit_in xs v b n) leave_on
        eval_cov (swap a e) s s' n = sound _ _ e _ _ s' (eval_cov a s s' n)
