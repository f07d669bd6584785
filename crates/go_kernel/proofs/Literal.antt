-- A call under free prices is the called literal with all parameters bound.
use Rattle.std.proofs.Common.{◌≡◌, ℕ, zero, suc, ◌≤◌, ◌<◌, List, [], ◌++◌, Bool, true, false, true≢false, if◌then◌else◌, None, refl, sym, ap, ◌∙◌, arith}
use Rattle.go_kernel.specs.Kernel.{Name, FuncName, Value, Term, Vals, Local, Set, Both, Prim as Prim', If, Let, Loop, Leave, Catch, Within, Alone, Recover, Call, Defer, DeferLit, Slot, Deferred, State, Exit, Result, Gives, Leaves, Cuts, Level, after, push, pop, popped, caught_by, entered, called, resumed, unwound, with_slots, with_pending, code, Program, eval, picks, chain, free_level}
use Rattle.go_kernel.specs.Alike.{MeanSame, Below, Calls}
use Rattle.std.proofs.lemmas.List.{append-nil}
use Rattle.go_kernel.specs.Scope.{Scoped}
use Rattle.go_kernel.proofs.FrameFacts.{names_push, push_front, pop_all}
use Rattle.go_kernel.proofs.FrameLaw.{scoped_moves}
use Rattle.go_kernel.proofs.Inserted.{Longer, inserted, renamed, way, fixed}
use Rattle.go_kernel.proofs.Means
use Rattle.go_kernel.proofs.WithinProgram as Sim
use Rattle.go_kernel.proofs.WithinProgram.{Upon, fits, equal, Acts, chain_follows}

pub after_eq : (r r' : Result) {k k' : List Value → State → Result} (h : Exit → State → Result) → r ≡ r' → ((v : List Value) (s : State) → k v s ≡ k' v s) → after r k h ≡ after r' k' h
after_eq r r' {k} {k'} h e K = ap (λ r. after r k h) e ∙ go r'
  where
    go : (r : Result) → after r k h ≡ after r k' h
    go (Gives v s) = K v s
    go (Leaves x s) = refl
    go (Cuts o) = refl

-- two ways to run called functions that agree on those that a term calls
module _ (P : Program) (b : Level) (pick pick' : FuncName → Level) where
  abbrev Agree : FuncName → Type 0
  Agree f = (s : State) → pick f (code (P f)) s ≡ pick' f (code (P f)) s

  pick_same : (t : Term) → Calls Agree t → (s : State) → eval P pick b t s ≡ eval P pick' b t s
  pick_same (Vals v) c s = refl
  pick_same (Local x) c s = refl
  pick_same (Set xs a) c s = after_eq _ _ Leaves (pick_same a c s) (λ v s. refl)
  pick_same (Both x y) c s = after_eq _ _ Leaves (pick_same x c.0 s) (λ v s. after_eq _ _ Leaves (pick_same y c.1 s) (λ w s. refl))
  pick_same (Prim' o a) c s = after_eq _ _ Leaves (pick_same a c s) (λ v s. refl)
  pick_same (If a x y) c s = after_eq _ _ Leaves (pick_same a c.0 s) (λ v s. cc (pick_same x c.1 s, pick_same y c.2 s))
  pick_same (Let xs a x) c s = after_eq _ _ Leaves (pick_same a c.0 s) (λ v s. ap (popped xs) (pick_same x c.1 _))
  pick_same (Loop a x) c s = after_eq _ _ Leaves (pick_same a c.0 s) (λ v s. refl)
  pick_same (Leave l) c s = refl
  pick_same (Catch l a) c s = ap (λ r. after r Gives (caught_by l)) (pick_same a c s)
  pick_same (Within a rs) c s = ap (λ r. with_slots rs (resumed s.defers (unwound b r))) (pick_same a c _)
  pick_same (Alone a) c s = ap (with_pending s.pending) (pick_same a c _)
  pick_same Recover c s = refl
  pick_same (Call f a) c s = after_eq _ _ Leaves (pick_same a c.1 s) (λ v s. ap (called s) (c.0 _))
  pick_same (Defer f a) c s = after_eq _ _ Leaves (pick_same a c s) (λ v s. refl)
  pick_same (DeferLit xs a x) c s = after_eq _ _ Leaves (pick_same a c.0 s) (λ v s. refl)

calls_map : {C C' : FuncName → Type 0} → ((f : FuncName) → C f → C' f) → (t : Term) → Calls C t → Calls C' t
calls_map h (Vals v) c = tt
calls_map h (Local x) c = tt
calls_map h (Set xs a) c = calls_map h a c
calls_map h (Both a b) c = (calls_map h a c.0, calls_map h b c.1)
calls_map h (Prim' o a) c = calls_map h a c
calls_map h (If a b d) c = (calls_map h a c.0, calls_map h b c.1, calls_map h d c.2)
calls_map h (Let xs a b) c = (calls_map h a c.0, calls_map h b c.1)
calls_map h (Loop a b) c = (calls_map h a c.0, calls_map h b c.1)
calls_map h (Leave l) c = tt
calls_map h (Catch l a) c = calls_map h a c
calls_map h (Within a rs) c = calls_map h a c
calls_map h (Alone a) c = calls_map h a c
calls_map h Recover c = tt
calls_map h (Call f a) c = (h f c.0, calls_map h a c.1)
calls_map h (Defer f a) c = calls_map h a c
calls_map h (DeferLit xs a b) c = (calls_map h a c.0, calls_map h b c.1)

KeptBy : List Deferred → Result → Type 0
KeptBy ds (Gives v s) = s.defers ≡ ds
KeptBy ds (Leaves e s) = s.defers ≡ ds
KeptBy ds (Cuts o) = Unit {0}

kept : (ds : List Deferred) (xs : List Name) (rs : List Slot) (r : Result) → KeptBy ds (popped xs (with_slots rs (resumed ds r)))
unfolding KeptBy
kept ds xs rs (Gives v s) = refl
kept ds xs rs (Leaves e s) = refl
kept ds xs rs (Cuts o) = tt

-- a called body and the same body in the caller's frame
back_same : (ps : List Name) (s : State) (r' r : Result) → Acts (way (fixed s.frame [])) None None s.defers [] true ps r' r → KeptBy s.defers r' → called s r ≡ popped ps (with_pending s.pending r')
unfolding KeptBy
back_same ps s _ _ (Sim.gives {v = v} (fits {c = c} {o = o} (inserted zs ys F e i q) p d)) k =
    let z : pop ps (zs ++ (ys ++ F)) ≡ s.frame = pop_all ps zs (ys ++ F) e ∙ ap (λ y. y ++ F) q.0 ∙ ap (λ y. s.frame ++ y) q.1 ∙ append-nil s.frame in
    cc (z, k)
back_same ps s _ _ (Sim.leaves {e = x} (fits {c = c} {o = o} (inserted zs ys F e i q) p d)) k =
    let z : pop ps (zs ++ (ys ++ F)) ≡ s.frame = pop_all ps zs (ys ++ F) e ∙ ap (λ y. y ++ F) q.0 ∙ ap (λ y. s.frame ++ y) q.1 ∙ append-nil s.frame in
    cc (z, k)
back_same ps s _ _ Sim.cuts k = refl

module _ (P : Program) (free : FuncName → Bool) (A : ℕ) (rank : FuncName → ℕ)
    (ranked : (f : FuncName) → free f ≡ true → Calls (Below free rank (rank f)) (code (P f)))
    (scoped : (f : FuncName) → Scoped (P f).params (code (P f))) where
  abbrev Lev : ℕ → ℕ → Level
  Lev n k = chain P free (free_level P free A n) k

  -- a chain long enough might as well be longer
  agree : (n k : ℕ) (f : FuncName) → Below free rank k f → (s : State) → picks P free (free_level P free A n) k f (code (P f)) s ≡ picks P free (free_level P free A n) (suc k) f (code (P f)) s
  agree n zero f b s = go (free f) b
    where
      go : (c : Bool) → (c ≡ true → rank f < zero) → free_level P free A n (code (P f)) s ≡ (if c then Lev n zero else free_level P free A n) (code (P f)) s
      go true b = let no : rank f < zero = b refl in let no' : ⊥ = omega arith in absurd no'
      go false b = refl
  agree n (suc k) f b s = go (free f) refl b (agree n k)
    where
      go : (c : Bool) → free f ≡ c → (c ≡ true → rank f < suc k) → ((g : FuncName) → Below free rank k g → (s : State) → picks P free (free_level P free A n) k g (code (P g)) s ≡ picks P free (free_level P free A n) (suc k) g (code (P g)) s)
          → (if c then Lev n k else free_level P free A n) (code (P f)) s ≡ (if c then Lev n (suc k) else free_level P free A n) (code (P f)) s
      go true e b ih = pick_same P (free_level P free A n) (picks P free (free_level P free A n) k) (picks P free (free_level P free A n) (suc k)) (code (P f)) (calls_map (λ g c. ih g (λ y. let z : rank g < rank f = c y in let w : rank f < suc k = b refl in omega arith)) (code (P f)) (ranked f e)) s
      go false e b ih = refl

  longer : (n k : ℕ) (t : Term) → Calls (Below free rank k) t → (s : State) → Lev n k t s ≡ Lev n (suc k) t s
  longer n k t c s = pick_same P (free_level P free A n) (picks P free (free_level P free A n) k) (picks P free (free_level P free A n) (suc k)) t (calls_map (agree n k) t c) s

  module _ (f : FuncName) (is_free : free f ≡ true) where
    -- the body in a frame of its own, and in the caller's
    body_same : (n j : ℕ) → rank f ≤ j → (v : List Value) (s : State)
        → called s (Lev n j (code (P f)) (entered (push (P f).params v []) None s)) ≡ popped (P f).params (with_pending s.pending (Lev n (suc j) (code (P f)) (record s { frame = push (P f).params v s.frame; pending = None })))
    body_same n j h v s =
        let ps = (P f).params in
        let inner : State = record s { frame = push ps v [] ++ s.frame; pending = None } in
        let own : State = entered (push ps v []) None s in
        let rel0 : Longer (fixed s.frame []) ps s.store (push ps v [] ++ (s.frame ++ [])) (push ps v [] ++ []) = inserted (push ps v []) s.frame [] (names_push ps v [] ∙ append-nil ps) refl (refl, refl) in
        let rel : Longer (fixed s.frame []) ps s.store inner.frame own.frame = renamed (fixed s.frame []) (ap (λ z. push ps v [] ++ z) (sym (append-nil s.frame))) (sym (append-nil (push ps v []))) rel0 in
        let acts = chain_follows (way (fixed s.frame [])) None None P free A (λ below pick B B' r g t t' e. absurd e) n j s.defers [] true ps (code (P f)) (code (P f)) (scoped_moves s.frame (code (P f)) ps (scoped f)) inner own (fits rel equal Upon.base) in
        let one = back_same ps s _ _ acts (kept s.defers (P f).slots (P f).results _) in
        let two = longer n j (code (P f)) (calls_map (λ g c y. let z : rank g < rank f = c y in omega arith) (code (P f)) (ranked f is_free)) inner in
        one ∙ ap (λ r. popped ps (with_pending s.pending r)) two ∙ ap (λ x. popped ps (with_pending s.pending (Lev n (suc j) (code (P f)) (record s { frame = x; pending = None })))) (sym (push_front ps v [] s.frame))

    call_same : (a : Term) (n j : ℕ) → suc (rank f) ≤ j → (s : State) → Lev n j (Call f a) s ≡ Lev n j (Let (P f).params a (Alone (code (P f)))) s
    call_same a n zero h s = let no : ⊥ = omega arith in absurd no
    call_same a n (suc j) h s = after_eq _ _ Leaves refl (λ v s. go (free f) is_free v s)
      where
        go : (c : Bool) → c ≡ true → (v : List Value) (s : State)
            → called s ((if c then Lev n j else free_level P free A n) (code (P f)) (entered (push (P f).params v []) None s)) ≡ popped (P f).params (with_pending s.pending (Lev n (suc j) (code (P f)) (record s { frame = push (P f).params v s.frame; pending = None })))
        go true e v s = body_same n j (omega arith) v s
        go false e v s = absurd (true≢false (sym e))

    -- under free prices the called literal with all parameters bound means what the call means
    pub call_is_literal : (a : Term) → MeanSame P free A (suc (rank f)) (Call f a) (Let (P f).params a (Alone (code (P f))))
    call_is_literal a = Means.mean_equal P free A (suc (rank f)) (Call f a) (Let (P f).params a (Alone (code (P f)))) (λ n j h s. call_same a n j h s)
