-- An argument ends alike wherever it is placed.
use Rattle.std.proofs.Common.{◌≡◌, ℕ, zero, suc, ◌+◌, List, [], ◌∷◌, ◌++◌, Bool, true, false, if◌then◌else◌, Option, Some, None, refl, sym, ap, ◌∙◌, subst, arith, length, length-append}
use Rattle.go_kernel.specs.Kernel.{Name, FuncName, Value, Truth, Op, Term, Vals, Local, Set, Both, Prim as Prim', If, Let, Loop, Leave, Catch, Within, Alone, Recover, Call, Defer, DeferLit, Slot, Frame, Deferred, Store, State, Gone, Panic, Result, Gives, Leaves, Cuts, Level, after, push, Answer, Ok, Fails, prim, answered, on_truth, popped, entered, back, called, panic_of, unwind, resumed, unwound, read_slots, with_slots, with_pending, code, Program, eval, picks, chain, free_level, Event, Reason, Makes}
use Rattle.go_kernel.specs.Scope.{names}
use Rattle.go_kernel.proofs.FrameFacts.{empty_names}
use Rattle.go_kernel.proofs.Inserted.{inserted, way, fixed}
use Rattle.go_kernel.proofs.Acts.{Out, Value', Panics, Stops, of_out, Early}
use Rattle.go_kernel.proofs.ActsMoves.{Places, acts_moves}
use Rattle.go_kernel.specs.Alike.{MeanSame}
use Rattle.go_kernel.proofs.WithinProgram as Sim
use Rattle.go_kernel.proofs.WithinProgram.{Moves, Upon, fits, Acts, apart, chain_follows}

made : (o : Op) (k : ℕ) → Makes o k → (v w : List Value) (c c' : Store) (e : List Event) → prim o v c ≡ Ok w c' e → length w ≡ k
unfolding Makes
made o k m v w c c' e z = m v w c c' e z

module _ (P : Program) where
  -- a term that gives k values, leaves by a panic alone and defers nothing
  abbrev pub Expr : ℕ → Term → Type 0
  Expr k (Vals v) = length v ≡ k
  Expr k (Local x) = 1 ≡ k
  Expr k (Set xs a) = ⊥
  Expr k (Both a b) = (i : ℕ) × (j : ℕ) × (i + j ≡ k) × Expr i a × Expr j b
  Expr k (Prim' o a) = Makes o k × ((i : ℕ) × Expr i a)
  Expr k (If c a b) = ((i : ℕ) × Expr i c) × Expr k a × Expr k b
  Expr k (Let xs a b) = ((i : ℕ) × Expr i a) × Expr k b
  Expr k (Loop c b) = ⊥
  Expr k (Leave l) = ⊥
  Expr k (Catch l a) = ⊥
  Expr k (Within a rs) = length rs ≡ k
  Expr k (Alone a) = Expr k a
  Expr k Recover = 1 ≡ k
  Expr k (Call f a) = (length (P f).results ≡ k) × ((i : ℕ) × Expr i a)
  Expr k (Defer f a) = ⊥
  Expr k (DeferLit xs a b) = ⊥

  pub data Good (k : ℕ) (ds : List Deferred) : Result → Type 0 where
    gives : {v : List Value} {s : State} → length v ≡ k → s.defers ≡ ds → Good k ds (Gives v s)
    panics : {e : Reason} {s : State} → s.defers ≡ ds → Good k ds (Leaves (Panic e) s)
    cuts : {o : List Event} → Good k ds (Cuts o)

  after_good : {i k : ℕ} {ds : List Deferred} {r : Result} {n : List Value → State → Result} → Good i ds r → ((v : List Value) (s : State) → length v ≡ i → s.defers ≡ ds → Good k ds (n v s)) → Good k ds (after r n Leaves)
  after_good (gives l d) K = K _ _ l d
  after_good (panics d) K = panics d
  after_good cuts K = cuts

  good_at : {k : ℕ} {ds ds' : List Deferred} {r : Result} → ds ≡ ds' → Good k ds r → Good k ds' r
  good_at {k} {r = r} e g = subst (λ d. Good k d r) e g

  popped_good : {k : ℕ} {ds : List Deferred} {r : Result} (xs : List Name) → Good k ds r → Good k ds (popped xs r)
  popped_good xs (gives l d) = gives l d
  popped_good xs (panics d) = panics d
  popped_good xs cuts = cuts

  pending_good : {k : ℕ} {ds : List Deferred} {r : Result} (p : Option Reason) → Good k ds r → Good k ds (with_pending p r)
  pending_good p (gives l d) = gives l d
  pending_good p (panics d) = panics d
  pending_good p cuts = cuts

  answered_good : {k : ℕ} {ds : List Deferred} (a : Answer) (s : State) → ((w : List Value) (c' : Store) (e : List Event) → a ≡ Ok w c' e → length w ≡ k) → s.defers ≡ ds → Good k ds (answered a s)
  answered_good (Ok w c e) s h d = gives (h w c e refl) d
  answered_good (Fails p) s h d = panics d

  truth_good : {k : ℕ} {ds : List Deferred} (v : List Value) {a b : Result} → Good k ds a → Good k ds b → Good k ds (on_truth v a b)
  truth_good (Truth true ∷ []) A B = A
  truth_good _ A B = B

  length_slots : (rs : List Slot) (f : Frame) (c : Store) → length (read_slots rs f c) ≡ length rs
  length_slots [] f c = refl
  length_slots (r ∷ rs) f c = ap suc (length_slots rs f c)

  length_both : (v w : List Value) → length (v ++ w) ≡ length v + length w
  length_both v w = length-append v w

  -- a body's end is a value or a panic
  pub data Ends : Result → Type 0 where
    by_value : {v : List Value} {s : State} → Ends (Gives v s)
    by_panic : {e : Reason} {s : State} → Ends (Leaves (Panic e) s)
    by_cut : {o : List Event} → Ends (Cuts o)

  run_ends : (r : Result) (s : State) {n : List Value → State → Result} → ((v : List Value) (s : State) → Ends (n v s)) → Ends (after (after r (λ v s1. Gives [] (record (back s s1) { pending = s1.pending })) (λ x s1. Gives [] (record (back s s1) { pending = panic_of s1.pending x }))) n Leaves)
  run_ends (Gives v t) s K = K _ _
  run_ends (Leaves x t) s K = K _ _
  run_ends (Cuts o) s K = by_cut

  unwind_ends : (below : Level) (ds : List Deferred) (e : Option Reason) (s : State) → Ends (unwind below ds e s)
  unwind_ends below [] None s = by_value
  unwind_ends below [] (Some p) s = by_panic
  unwind_ends below (d ∷ ds) e s = run_ends (below d.body (entered d.frame e s)) s (λ v s1. unwind_ends below ds s1.pending _)

  pub unwound_ends : (below : Level) (r : Result) → Ends (unwound below r)
  unwound_ends below (Gives v s) = unwind_ends below s.defers None s
  unwound_ends below (Leaves x s) = unwind_ends below s.defers (panic_of None x) s
  unwound_ends below (Cuts o) = by_cut

  pub within_good : (ds : List Deferred) (rs : List Slot) {r : Result} → Ends r → Good (length rs) ds (with_slots rs (resumed ds r))
  within_good ds rs (by_value {s = s}) = gives (length_slots rs s.frame s.store) refl
  within_good ds rs by_panic = panics refl
  within_good ds rs by_cut = cuts

  pub called_good : {k : ℕ} {ds : List Deferred} {r : Result} (s : State) → Good k ds r → Good k s.defers (called s r)
  called_good s (gives l d) = gives l refl
  called_good s (panics d) = panics refl
  called_good s cuts = cuts

  module _ (pick : FuncName → Level) (below : Level) (picks_good : (f : FuncName) (s : State) → Good (length (P f).results) s.defers (pick f (code (P f)) s)) where
    expr_good : (k : ℕ) (t : Term) → Expr k t → (s : State) (ds : List Deferred) → s.defers ≡ ds → Good k ds (eval P pick below t s)
    expr_good k (Vals v) q s ds d = gives q d
    expr_good k (Local x) q s ds d = gives q d
    expr_good k (Both a b) q s ds d =
        after_good (expr_good q.0 a q.3 s ds d) (λ v s l d. after_good (expr_good q.1 b q.4 s ds d) (λ w s m d. gives (let n = length_both v w in omega (arith, n, l, m, q.2)) d))
    expr_good k (Prim' o a) q s ds d = after_good (expr_good q.1.0 a q.1.1 s ds d) (λ v s l d. answered_good (prim o v s.store) s (λ w c e z. made o k q.0 v w s.store c e z) d)
    expr_good k (If c a b) q s ds d = after_good (expr_good q.0.0 c q.0.1 s ds d) (λ v s l d. truth_good v (expr_good k a q.1 s ds d) (expr_good k b q.2 s ds d))
    expr_good k (Let xs a b) q s ds d = after_good (expr_good q.0.0 a q.0.1 s ds d) (λ v s l d. popped_good xs (expr_good k b q.1 _ ds d))
    expr_good k (Within a rs) q s ds d = subst (λ n. Good n ds (eval P pick below (Within a rs) s)) q (good_at d (within_good s.defers rs (unwound_ends below (eval P pick below a (record s { defers = [] })))))
    expr_good k (Alone a) q s ds d = pending_good s.pending (expr_good k a q _ ds d)
    expr_good k Recover q s ds d = gives q d
    expr_good k (Call f a) q s ds d = after_good (expr_good q.1.0 a q.1.1 s ds d) (λ v s l d. subst (λ n. Good n ds (called s (pick f (code (P f)) (entered (push (P f).params v []) None s)))) q.0 (good_at d (called_good s (picks_good f _))))
    expr_good k (Set xs a) q s ds d = absurd q
    expr_good k (Loop a b) q s ds d = absurd q
    expr_good k (Leave l) q s ds d = absurd q
    expr_good k (Catch l a) q s ds d = absurd q
    expr_good k (Defer f a) q s ds d = absurd q
    expr_good k (DeferLit xs a b) q s ds d = absurd q

  pub code_good : (pick : FuncName → Level) (below : Level) (f : FuncName) (s : State) → Good (length (P f).results) s.defers (eval P pick below (code (P f)) s)
  code_good pick below f s = popped_good (P f).slots (within_good s.defers (P f).results (unwound_ends below (eval P pick below (P f).body (record s { frame = push (P f).slots (P f).zeros s.frame; defers = [] }))))

  module _ (free : FuncName → Bool) (A : ℕ) where
    pub level_good : (n : ℕ) (f : FuncName) (s : State) → Good (length (P f).results) s.defers (free_level P free A n (code (P f)) s)
    level_good zero f s = cuts
    level_good (suc n) f s = code_good (picks P free (free_level P free A n) A) (free_level P free A n) f s

    pub picks_good : (n j : ℕ) (f : FuncName) (s : State) → Good (length (P f).results) s.defers (picks P free (free_level P free A n) j f (code (P f)) s)
    picks_good n zero f s = level_good n f s
    picks_good n (suc j) f s = go (free f)
      where
        go : (c : Bool) → Good (length (P f).results) s.defers ((if c then eval P (picks P free (free_level P free A n) j) (free_level P free A n) else free_level P free A n) (code (P f)) s)
        go true = code_good (picks P free (free_level P free A n) j) (free_level P free A n) f s
        go false = level_good n f s

    pub expr_at : (k n j : ℕ) (t : Term) → Expr k t → (s : State) → Good k s.defers (chain P free (free_level P free A n) j t s)
    expr_at k n j t q s = expr_good (picks P free (free_level P free A n) j) (free_level P free A n) (picks_good n j) k t q s s.defers refl

pub one_value : (v : List Value) → length v ≡ 1 → (w : Value) × (v ≡ w ∷ [])
one_value [] e = absurd (grind (arith, e))
one_value (w ∷ []) e = (w, refl)
one_value (w ∷ (x ∷ v)) e = absurd (grind (arith, e))

module _ (P : Program) (free : FuncName → Bool) (A : ℕ) (a : Term) (is_expr : Expr P 1 a) (Clear : List Name → Type 0)
    (apart_from : (F ys : Frame) (p : Option Reason) → Clear (names ys) → Moves (way (fixed ys F)) p None false [] a a) where
  abbrev pub out_here : Frame → Result → Out
  out_here F (Gives [] s) = Stops []
  out_here F (Gives (v ∷ vs) s) = Value' v s.store s.out
  out_here F (Leaves (Gone l) s) = Stops []
  out_here F (Leaves (Panic e) s) = Panics e s.store s.out
  out_here F (Cuts o) = Stops o

  given : (F ys : Frame) (v : List Value) → length v ≡ 1 → (s1 s2 s : State) → s2.frame ≡ s.frame → s2.store ≡ s1.store → s2.pending ≡ s.pending → s2.defers ≡ s.defers → s2.out ≡ s1.out → Gives v s2 ≡ of_out (out_here F (Gives v s1)) s
  given F ys [] l s1 s2 s f c p d o = absurd (grind (arith, l))
  given F ys (w ∷ []) l s1 s2 s f c p d o = λ i. Gives (w ∷ []) (record { frame = f i; store = c i; pending = p i; defers = d i; out = o i })
  given F ys (w ∷ (x ∷ v)) l s1 s2 s f c p d o = absurd (grind (arith, l))

  no_more : {p : Option Reason} (F ys : Frame) {ds x x' : List Deferred} → Upon (way (fixed ys F)) p None ds [] x x' → x' ≡ [] → x ≡ ds
  no_more F ys Upon.base e = refl
  no_more F ys (Upon.more q u) e = absurd (grind (arith, e))

  alike : (F ys : Frame) (p : Option Reason) (ds : List Deferred) (r' r : Result) → Acts (way (fixed ys F)) p None ds [] false [] r' r → Good P 1 [] r
      → (s : State) → s.frame ≡ ys ++ F → s.pending ≡ p → s.defers ≡ ds → r' ≡ of_out (out_here F r) s
  alike F ys p ds _ _ (Sim.gives {v = v} (fits {c = c} {o = o} {ds = x'} {ds' = x} (inserted zs ys' F' e i q) apart u)) (gives l d) s f g h =
      given F ys v l (record { frame = zs ++ F'; store = c; pending = None; defers = x; out = o }) (record { frame = zs ++ (ys' ++ F'); store = c; pending = p; defers = x'; out = o }) s
      (placed zs ys' F' e q ∙ sym f) refl (sym g) (no_more F ys u d ∙ sym h) refl
    where
      placed : (zs ys' F' : Frame) → names zs ≡ [] → (ys' ≡ ys) × (F' ≡ F) → zs ++ (ys' ++ F') ≡ ys ++ F
      placed zs ys' F' e q = cc (ap (λ z. z ++ (ys' ++ F')) (empty_names zs e), q.0, q.1)
  alike F ys p ds _ _ (Sim.leaves (fits (inserted zs ys' F' e i q) apart u)) (panics d) s f g h =
      let a1 : zs ++ (ys' ++ F') ≡ s.frame = cc (ap (λ z. z ++ (ys' ++ F')) (empty_names zs e), q.0, q.1, f) in
      let a2 = no_more F ys u d ∙ sym h in
      cc (a1, a2, sym g)
  alike F ys p ds _ _ Sim.cuts g s f h k = refl

  -- the argument's end, wherever it is placed
  pub places : (n j : ℕ) (F : Frame) (c : Store) (o : List Event) → (z : Out) × Places P free A Clear n j a F c o z
  places n j F c o =
      let base : State = record { frame = F; store = c; pending = None; defers = []; out = o } in
      let r = chain P free (free_level P free A n) j a base in (
        out_here F r,
        λ ys q p ds.
            let acts = chain_follows (way (fixed ys F)) p None P free A (λ below pick B B' r g t t' e. absurd e) n j ds [] false [] a a (apart_from F ys p q) (record { frame = ys ++ F; store = c; pending = p; defers = ds; out = o }) base (fits (inserted [] ys F refl refl (refl, refl)) apart Upon.base) in
            alike F ys p ds _ _ acts (expr_at P free A 1 n j a is_expr base) _ refl refl refl,
      )

  -- the law of an argument that acts, from what can be read off the terms
  pub acts_in_place : (x : Name) (t t' : Term) → Clear [] → Early x a Clear [] t t' → MeanSame P free A zero (Let (x ∷ []) a t) t'
  acts_in_place x t t' clear early = acts_moves P free A x a t t' Clear clear early places
