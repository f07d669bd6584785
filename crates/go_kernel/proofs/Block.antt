-- A body without return, defer and label is a block.
use Rattle.std.proofs.Common.{◌≡◌, ℕ, zero, suc, ◌≤◌, List, [], ◌∷◌, ◌++◌, length, Bool, true, false, true≢false, if◌then◌else◌, Option, Some, None, refl, sym, ap, ◌∙◌}
use Rattle.std.specs.Prelude.{bytes_eq}
use Rattle.go_kernel.proofs.FreshNames.{name_true, true_name}
use Rattle.go_kernel.specs.Kernel.{Name, Label, FuncName, Value, Truth, Term, Vals, Local, Set, Both, Prim as Prim', If, Let, Loop, Leave, Catch, Within, Alone, Recover, Call, Defer, DeferLit, Deferred, State, Gone, Panic, Result, Gives, Leaves, Cuts, Level, after, push, Answer, Ok, Fails, prim, answered, on_truth, popped, caught_by, unwind, unwound, resumed, with_slots, with_pending, code, Program, eval, picks, free_level, Event, Reason}
use Rattle.go_kernel.proofs.PlacedAlike as Place
use Rattle.go_kernel.proofs.PlacedAlike.{Good, within_good, unwound_ends, called_good, picks_good}
use Rattle.go_kernel.proofs.WithinProgram as Sim
use Rattle.go_kernel.proofs.WithinProgram.{Way, Upon, fits, Acts, apart, chain_follows}
use Rattle.go_kernel.proofs.Means.{Mean, mean_equal, Lev}
use Rattle.go_kernel.specs.Scope.{has}
use Rattle.go_kernel.proofs.TermConditions.{Fit, keep}
use Rattle.go_kernel.proofs.Inserted
use Rattle.go_kernel.proofs.Inserted.{inserted, way, anything, unbound}
use Rattle.go_kernel.proofs.FrameFacts.{by_has}

-- a term whose exits are panics and these labels, and that defers nothing
abbrev pub Tidy : List Name → Term → Type 0
Tidy ls (Vals v) = Unit {0}
Tidy ls (Local x) = Unit {0}
Tidy ls (Set xs a) = Tidy ls a
Tidy ls (Both a b) = Tidy ls a × Tidy ls b
Tidy ls (Prim' o a) = Tidy ls a
Tidy ls (If a b c) = Tidy ls a × Tidy ls b × Tidy ls c
Tidy ls (Let xs a b) = Tidy ls a × Tidy ls b
Tidy ls (Loop a b) = Tidy ls a × Tidy ls b
Tidy ls (Leave l) = has l ls ≡ true
Tidy ls (Catch l a) = Tidy (l ∷ ls) a
Tidy ls (Within a rs) = Unit {0}
Tidy ls (Alone a) = Tidy ls a
Tidy ls Recover = Unit {0}
Tidy ls (Call f a) = Tidy ls a
Tidy ls (Defer f a) = ⊥
Tidy ls (DeferLit xs a b) = ⊥

pub data Tame (ls : List Name) (ds : List Deferred) : Result → Type 0 where
  gives : {v : List Value} {s : State} → s.defers ≡ ds → Tame ls ds (Gives v s)
  goes : {l : Label} {s : State} → has l ls ≡ true → s.defers ≡ ds → Tame ls ds (Leaves (Gone l) s)
  panics : {e : Reason} {s : State} → s.defers ≡ ds → Tame ls ds (Leaves (Panic e) s)
  cuts : {o : List Event} → Tame ls ds (Cuts o)

after_tame : {ls : List Name} {ds : List Deferred} {r : Result} {k : List Value → State → Result} → Tame ls ds r → ((v : List Value) (s : State) → s.defers ≡ ds → Tame ls ds (k v s)) → Tame ls ds (after r k Leaves)
after_tame (gives d) K = K _ _ d
after_tame (goes h d) K = goes h d
after_tame (panics d) K = panics d
after_tame cuts K = cuts

popped_tame : {ls : List Name} {ds : List Deferred} {r : Result} (xs : List Name) → Tame ls ds r → Tame ls ds (popped xs r)
popped_tame xs (gives d) = gives d
popped_tame xs (goes h d) = goes h d
popped_tame xs (panics d) = panics d
popped_tame xs cuts = cuts

pending_tame : {ls : List Name} {ds : List Deferred} {r : Result} (p : Option Reason) → Tame ls ds r → Tame ls ds (with_pending p r)
pending_tame p (gives d) = gives d
pending_tame p (goes h d) = goes h d
pending_tame p (panics d) = panics d
pending_tame p cuts = cuts

answered_tame : {ls : List Name} {ds : List Deferred} (a : Answer) (s : State) → s.defers ≡ ds → Tame ls ds (answered a s)
answered_tame (Ok w c e) s d = gives d
answered_tame (Fails p) s d = panics d

truth_tame : {ls : List Name} {ds : List Deferred} (v : List Value) {a b : Result} → Tame ls ds a → Tame ls ds b → Tame ls ds (on_truth v a b)
truth_tame (Truth true ∷ []) A B = A
truth_tame _ A B = B

caught_tame : {ls : List Name} {ds : List Deferred} {r : Result} (l : Label) → Tame (l ∷ ls) ds r → Tame ls ds (after r Gives (caught_by l))
caught_tame l (gives d) = gives d
caught_tame l (panics d) = panics d
caught_tame l cuts = cuts
caught_tame {ls} {ds} l (goes {l = m} {s = s} h d) = go (bytes_eq l m) refl
  where
    turned : bytes_eq l m ≡ false → (b : Bool) → bytes_eq m l ≡ b → b ≡ false
    turned e true k = absurd (true≢false (sym (true_name l m (sym (name_true m l k))) ∙ e))
    turned e false k = refl

    go : (b : Bool) → bytes_eq l m ≡ b → Tame ls ds (if b then Gives [] s else Leaves (Gone m) s)
    go true e = gives d
    go false e = goes (sym (ap (λ c. if c then true else has m ls) (turned e (bytes_eq m l) refl)) ∙ h) d

good_tame : {P : Program} {k : ℕ} {ls : List Name} {ds ds' : List Deferred} {r : Result} → ds ≡ ds' → Good P k ds r → Tame ls ds' r
good_tame e (Place.gives l d) = gives (d ∙ e)
good_tame e (Place.panics d) = panics (d ∙ e)
good_tame e Place.cuts = cuts

module _ (P : Program) where
  module _ (pick : FuncName → Level) (below : Level) (good : (f : FuncName) (s : State) → Good P (length (P f).results) s.defers (pick f (code (P f)) s))
      (follows : (ls : List Name) (t : Term) → Tidy ls t → (s : State) (ds : List Deferred) → s.defers ≡ ds → Tame ls ds (below t s)) where
    eval_tame : (t : Term) (ls : List Name) → Tidy ls t → (s : State) (ds : List Deferred) → s.defers ≡ ds → Tame ls ds (eval P pick below t s)
    eval_tame (Vals v) ls q s ds d = gives d
    eval_tame (Local x) ls q s ds d = gives d
    eval_tame (Set xs a) ls q s ds d = after_tame (eval_tame a ls q s ds d) (λ v s d. gives d)
    eval_tame (Both a b) ls q s ds d = after_tame (eval_tame a ls q.0 s ds d) (λ v s d. after_tame (eval_tame b ls q.1 s ds d) (λ w s d. gives d))
    eval_tame (Prim' o a) ls q s ds d = after_tame (eval_tame a ls q s ds d) (λ v s d. answered_tame (prim o v s.store) s d)
    eval_tame (If c a b) ls q s ds d = after_tame (eval_tame c ls q.0 s ds d) (λ v s d. truth_tame v (eval_tame a ls q.1 s ds d) (eval_tame b ls q.2 s ds d))
    eval_tame (Let xs a b) ls q s ds d = after_tame (eval_tame a ls q.0 s ds d) (λ v s d. popped_tame xs (eval_tame b ls q.1 _ ds d))
    eval_tame (Loop c b) ls q s ds d = after_tame (eval_tame c ls q.0 s ds d) (λ v s d. truth_tame v (follows ls (Let [] b (Loop c b)) (q.1, q) s ds d) (gives d))
    eval_tame (Leave l) ls q s ds d = goes q d
    eval_tame (Catch l a) ls q s ds d = caught_tame l (eval_tame a (l ∷ ls) q s ds d)
    eval_tame (Within a rs) ls q s ds d = good_tame d (within_good P s.defers rs (unwound_ends P below (eval P pick below a (record s { defers = [] }))))
    eval_tame (Alone a) ls q s ds d = pending_tame s.pending (eval_tame a ls q _ ds d)
    eval_tame Recover ls q s ds d = gives d
    eval_tame (Call f a) ls q s ds d = after_tame (eval_tame a ls q s ds d) (λ v s d. good_tame d (called_good P s (good f _)))
    eval_tame (Defer f a) ls q s ds d = absurd q
    eval_tame (DeferLit xs a b) ls q s ds d = absurd q

  module _ (free : FuncName → Bool) (A : ℕ) where
    level_tame : (n : ℕ) (ls : List Name) (t : Term) → Tidy ls t → (s : State) (ds : List Deferred) → s.defers ≡ ds → Tame ls ds (free_level P free A n t s)
    level_tame zero ls t q s ds d = cuts
    level_tame (suc n) ls t q s ds d = eval_tame (picks P free (free_level P free A n) A) (free_level P free A n) (picks_good P free A n A) (level_tame n) t ls q s ds d

    pub chain_tame : (n j : ℕ) (ls : List Name) (t : Term) → Tidy ls t → (s : State) (ds : List Deferred) → s.defers ≡ ds → Tame ls ds (Lev P free A n j t s)
    chain_tame n j ls t q s ds d = eval_tame (picks P free (free_level P free A n) j) (free_level P free A n) (picks_good P free A n j) (level_tame n) t ls q s ds d

    -- the same frame
    abbrev pub alike : Way
    alike = way (anything [])

    -- 'recover' stands in literals alone, and the result slots of literals are theirs
    abbrev pub Calm' : Term → Type 0
    Calm' t = Fit (λ h w. Unit {0}) (λ h w. Unit {0}) (λ o. Unit {0}) (Unit {0}) false [] t

    module _ (t : Term) (tidy : Tidy [] t) (calm : Calm' t) where
      ended : (below : Level) (p : Option Reason) (ds : List Deferred) (r r' : Result) → Acts alike None p [] ds false [] r r' → Tame [] [] r → Tame [] ds r'
          → with_pending p (popped [] (with_slots [] (resumed ds (unwound below r)))) ≡ after r' (λ v s. popped [] (Gives [] (record s { frame = push [] v s.frame }))) Leaves
      ended below p ds _ _ (Sim.gives (fits {f = f} {f' = f'} {c = c} {o = o} {ds = x} {ds' = x'} m apart u)) (gives d) (gives d') =
          let e = unbound [] f f' c m in
          ap (λ z. with_pending p (popped [] (with_slots [] (resumed ds (unwind below z None (record { frame = f; store = c; pending = None; defers = z; out = o })))))) d
          ∙ (λ i. Gives [] (record { frame = e i; store = c; pending = p; defers = (sym d') i; out = o }))
      ended below p ds _ _ (Sim.leaves (fits {f = f} {f' = f'} {c = c} {o = o} {ds = x} {ds' = x'} m apart u)) (panics {e = q} d) (panics d') =
          let e = unbound [] f f' c m in
          ap (λ z. with_pending p (popped [] (with_slots [] (resumed ds (unwind below z (Some q) (record { frame = f; store = c; pending = None; defers = z; out = o })))))) d
          ∙ (λ i. Leaves (Panic q) (record { frame = e i; store = c; pending = p; defers = (sym d') i; out = o }))
      ended below p ds _ _ (Sim.leaves m) (goes h d) w = absurd (true≢false (sym h))
      ended below p ds _ _ Sim.cuts d w = refl

      pub body_is_block : Mean P free A zero (Alone (Let [] (Vals []) (Within t []))) (Let [] t (Vals []))
      body_is_block = mean_equal P free A zero (Alone (Let [] (Vals []) (Within t []))) (Let [] t (Vals [])) same
        where
          same : (n j : ℕ) → zero ≤ j → (s : State) → Lev P free A n j (Alone (Let [] (Vals []) (Within t []))) s ≡ Lev P free A n j (Let [] t (Vals [])) s
          same n j h s =
              let s0 : State = record s { pending = None; defers = [] } in
              let moves = keep alike None s.pending (λ g x h. Inserted.bound h) (λ g x h. Inserted.bound h) (λ h w. Unit {0}) (λ h w. Unit {0}) (λ o. Unit {0}) (Unit {0}) (λ o u. tt) (λ u. tt) [] (λ k x m u. by_has (has x (k ++ [])) (λ h. Inserted.bound h) (λ h. Inserted.other h refl)) (λ k x m u. by_has (has x (k ++ [])) (λ h. Inserted.bound h) (λ h. Inserted.other h refl tt)) t false false (λ z. z) [] calm in
              let acts = chain_follows alike None s.pending P free A (λ below pick B B' r g t t' e. absurd e) n j [] s.defers false [] t t moves s0 s (fits (inserted [] [] s.frame refl refl tt) apart Upon.base) in
              ended (free_level P free A n) s.pending s.defers _ _ acts (chain_tame n j [] t tidy s0 [] refl) (chain_tame n j [] t tidy s s.defers refl)
