-- The laws of budgets.
use Rattle.std.proofs.Common.{◌≡◌, ℕ, zero, suc, ◌+◌, ◌*◌, ◌≤◌, List, [], Bool, true, false, if◌then◌else◌, Option, refl, ap, subst, arith}
use Rattle.go_kernel.specs.Kernel.{FuncName, Term, Vals, Local, Set, Both, Prim as Prim', If, Let, Loop, Leave, Catch, Within, Alone, Recover, Call, Defer, DeferLit, Frame, Deferred, State, Gone, Panic, Result, Gives, Leaves, Cuts, Level, run_one, code, Program, eval, cut, level, free_pick, chain, free_level, shown, start, shows, free_shows, Ext, Covers, same, ended, panicked, running, Event, Reason}
use Rattle.go_kernel.specs.Alike.{out_of, Same, Calls, none, Near, near, Covered, gives, leaves, cuts, outrun}
use Rattle.go_kernel.proofs.AcrossPrograms.{ext_refl, same_self, same_under, near_refl, cov_out, on_entered, run_one_cov, eval_cov}

-- deferred calls whose bodies are alike, up to deferred calls that Q holds to be equal
pub data Like (E : Term → Term → Type 0) (C : FuncName → Type 0) (Q : Deferred → Deferred → Type 0) : Deferred → Deferred → Type 0 where
  like : {f : Frame} {b b' : Term} {d : Deferred} → Same E C b b' → Q (record { frame = f; body = b' }) d → Like E C Q (record { frame = f; body = b }) d

-- what holds of a level's part in the one theorem
module _ (covers : Type 0) (D : Deferred → Deferred → Type 0) where
  abbrev pub Alike : (Term → Term → Type 0) → (FuncName → Type 0) → Level → Level → Type 0
  Alike E C l l' = (t t' : Term) → Same E C t t' → (s s' : State) → Near D s s' → Covered covers D s.out (l t s) (l' t' s')

  abbrev pub AlikeAt : Level → Level → Term → Term → Type 0
  AlikeAt l l' t t' = (s s' : State) → Near D s s' → Covered covers D s.out (l t s) (l' t' s')

abbrev pub Runs : (Deferred → Deferred → Type 0) → Level → Type 0
Runs Q l = (d d' : Deferred) → Q d d' → (e : Option Reason) (s : State) → run_one l d e s ≡ run_one l d' e s

module _ (covers : Type 0) (E : Term → Term → Type 0) (C : FuncName → Type 0) (Q : Deferred → Deferred → Type 0) (Q_refl : (d : Deferred) → Q d d) (like_self : (d : Deferred) → Like E C Q d d) where
  pub runs_alike : (l l' : Level) → Alike covers (Like E C Q) E C l l' → Runs Q l' → (d d' : Deferred) → Like E C Q d d' → (e : Option Reason) (s s' : State) → Near (Like E C Q) s s' → Covered covers (Like E C Q) s.out (run_one l d e s) (run_one l' d' e s')
  runs_alike l l' A R _ d' (like {f = f} {b = b} {b' = b'} q r) e s s' n =
      subst (λ x. Covered covers (Like E C Q) s.out (run_one l (record { frame = f; body = b }) e s) x) (R _ d' r e s') (run_one_cov covers (Like E C Q) like_self l l' f b b' e n (A _ _ q _ _ (on_entered covers (Like E C Q) f e n)))

  pub cut_cut : Alike covers (Like E C Q) E C cut cut
  cut_cut t t' q s s' n = go n
    where
      go : {s s' : State} → Near (Like E C Q) s s' → Covered covers (Like E C Q) s.out (Cuts s.out) (Cuts s'.out)
      go (near d) = cuts ext_refl

  module _ (E1 : Term → Term → Type 0) (C1 : FuncName → Type 0) (E_top : (t t' : Term) → E1 t t' → E t t') (C_top : (f : FuncName) → C1 f → C f) where
    -- a level that has cut is outrun by any that keeps the events
    pub cut_any : covers → (l : Level) → ((t : Term) → AlikeAt covers (Like E C Q) l l t t) → Alike covers (Like E C Q) E1 C1 cut l
    cut_any c l A t t' q s s' n = go n (cov_out covers (Like E C Q) (A t' s' s' (near_refl like_self s')))
      where
        go : {s s' : State} {r : Result} → Near (Like E C Q) s s' → Ext s'.out (out_of r) → Covered covers (Like E C Q) s.out (Cuts s.out) r
        go (near d) e = outrun c ext_refl e

    module _ (P P' : Program) (params : (f : FuncName) → (P f).params ≡ (P' f).params) (funs : (f : FuncName) → Same E C (code (P f)) (code (P' f))) where
      pub eval_alike : (l l' : Level) (pick pick' : FuncName → Level) → Alike covers (Like E C Q) E C l l' → Runs Q l'
          → ((f : FuncName) → C1 f → AlikeAt covers (Like E C Q) (pick f) (pick' f) (code (P f)) (code (P' f)))
          → ((t t' : Term) → E1 t t' → (o : List Event) (r : Result) (s : State) → Covered covers (Like E C Q) o r (eval P' pick' l' t s) → Covered covers (Like E C Q) o r (eval P' pick' l' t' s))
          → Alike covers (Like E C Q) E1 C1 (eval P pick l) (eval P' pick' l')
      eval_alike l l' pick pick' A R B sound t t' q s s' n =
          eval_cov covers (Like E C Q) like_self l l' (runs_alike l l' A R) E1 C1 P P' pick pick' (λ f b b' q. like (same_under E_top C_top q) (Q_refl _)) params (λ f x. like (funs f) (Q_refl _))
          (λ t t' q. A t t' (same_under E_top C_top q)) B sound q s s' n

-- no parts are replaced, and any function may be called
abbrev pub Never : Term → Term → Type 0
Never t t' = ⊥

abbrev pub Any : FuncName → Type 0
Any f = Unit {0}

abbrev pub Equal : Deferred → Deferred → Type 0
Equal d d' = d ≡ d'

pub all_calls : {C : FuncName → Type 0} → ((f : FuncName) → C f) → (t : Term) → Calls C t
all_calls c (Vals v) = tt
all_calls c (Local x) = tt
all_calls c (Set xs a) = all_calls c a
all_calls c (Both a b) = (all_calls c a, all_calls c b)
all_calls c (Prim' o a) = all_calls c a
all_calls c (If a b d) = (all_calls c a, all_calls c b, all_calls c d)
all_calls c (Let xs a b) = (all_calls c a, all_calls c b)
all_calls c (Loop a b) = (all_calls c a, all_calls c b)
all_calls c (Leave l) = tt
all_calls c (Catch l a) = all_calls c a
all_calls c (Within a rs) = all_calls c a
all_calls c (Alone a) = all_calls c a
all_calls c Recover = tt
all_calls c (Call f a) = (c f, all_calls c a)
all_calls c (Defer f a) = all_calls c a
all_calls c (DeferLit xs a b) = (all_calls c a, all_calls c b)

pub self_same : (t : Term) → Same Never Any t t
self_same t = same_self t (all_calls (λ f. tt) t)

pub self_like : (d : Deferred) → Like Never Any Equal d d
self_like d = like (self_same d.body) refl

-- levels of one program, of which the second shows no less
abbrev pub Up : Level → Level → Type 0
Up = Alike Unit (Like Never Any Equal) Never Any

cuts_up : Up cut cut
cuts_up = cut_cut Unit Never Any Equal (λ d. refl) self_like

cut_up : (l : Level) → Up l l → Up cut l
cut_up l u = cut_any Unit Never Any Equal (λ d. refl) self_like Never Any (λ t t' e. e) (λ f c. c) tt l (λ t. u t t (self_same t))

pub step : (P : Program) (l l' : Level) (pick pick' : FuncName → Level) → Up l l' → ((f : FuncName) → Up (pick f) (pick' f)) → Up (eval P pick l) (eval P pick' l')
step P l l' pick pick' a b =
    eval_alike Unit Never Any Equal (λ d. refl) self_like Never Any (λ t t' e. e) (λ f c. c) P P (λ f. refl) (λ f. self_same _) l l' pick pick' a (λ d d' e x s. ap (λ d. run_one l' d x s) e) (λ f c. b f _ _ (self_same _)) (λ t t' e. absurd e)

module _ (P : Program) where
  self : (n : ℕ) → Up (level P n) (level P n)
  self zero = cuts_up
  self (suc n) = step P _ _ _ _ (self n) (λ f. self n)

  -- a larger budget shows no less
  raised : (n m : ℕ) → n ≤ m → Up (level P n) (level P m)
  raised zero m h = cut_up (level P m) (self m)
  raised (suc n) zero h = let no : ⊥ = omega arith in absurd no
  raised (suc n) (suc m) h = step P _ _ _ _ (raised n m (omega arith)) (λ f. raised n m (omega arith))

-- what is shown of two runs that are alike
cov_shown : {D : Deferred → Deferred → Type 0} {o : List Event} {r r' : Result} → Covered Unit D o r r' → Covers (shown r) (shown r')
cov_shown (gives (near d) e) = same
cov_shown (leaves {e = Gone l} (near d) e) = same
cov_shown (leaves {e = Panic p} (near d) e) = same
cov_shown (cuts e) = same
cov_shown (outrun {r = Gives v s} c e f) = ended f
cov_shown (outrun {r = Leaves (Gone l) s} c e f) = ended f
cov_shown (outrun {r = Leaves (Panic p) s} c e f) = panicked f
cov_shown (outrun {r = Cuts o} c e f) = running f

abbrev whole : Program → Term → FuncName → Term
whole P init main = Let [] init (code (P main))

-- a larger budget covers
pub shows_grow : (P : Program) (init : Term) (main : FuncName) (cs : List ℕ) (n m : ℕ) → n ≤ m → Covers (shows P init main cs n) (shows P init main cs m)
shows_grow P init main cs n m h = cov_shown (raised P (suc n) (suc m) (omega arith) (whole P init main) (whole P init main) (self_same (whole P init main)) (start cs) (start cs) (near none))

module _ (P : Program) (free : FuncName → Bool) (A : ℕ) where
  picked : (i b l : Level) → Up i l → Up b l → (f : FuncName) → Up (free_pick free i b f) l
  picked i b l x y f = go (free f)
    where
      go : (c : Bool) → Up (if c then i else b) l
      go true = x
      go false = y

  picked_by : (i b l : Level) → Up l i → Up l b → (f : FuncName) → Up l (free_pick free i b f)
  picked_by i b l x y f = go (free f)
    where
      go : (c : Bool) → Up l (if c then i else b)
      go true = x
      go false = y

  picked_self : (i b : Level) → Up i i → Up b b → (f : FuncName) → Up (free_pick free i b f) (free_pick free i b f)
  picked_self i b x y f = go (free f)
    where
      go : (c : Bool) → Up (if c then i else b) (if c then i else b)
      go true = x
      go false = y

  pub chain_self : (b : Level) → Up b b → (k : ℕ) → Up (chain P free b k) (chain P free b k)
  chain_self b u zero = step P b b _ _ u (λ f. u)
  chain_self b u (suc k) = step P b b _ _ u (picked_self _ _ (chain_self b u k) u)

  pub free_self : (n : ℕ) → Up (free_level P free A n) (free_level P free A n)
  free_self zero = cuts_up
  free_self (suc n) = chain_self _ (free_self n) A

  -- free calls show no less
  down : (n m k : ℕ) → n ≤ suc m → Up (level P n) (chain P free (free_level P free A m) k)
  down zero m k h = cut_up _ (chain_self _ (free_self m) k)
  down (suc n) m zero h = let u = at n m (omega arith) (down n) in step P _ _ _ _ u (λ f. u)
    where
      at : (n m : ℕ) → n ≤ m → ((m k : ℕ) → n ≤ suc m → Up (level P n) (chain P free (free_level P free A m) k)) → Up (level P n) (free_level P free A m)
      at zero zero h d = cuts_up
      at (suc n) zero h d = let no : ⊥ = omega arith in absurd no
      at n (suc m) h d = d m A h
  down (suc n) m (suc k) h = let u = at n m (omega arith) (down n) in step P _ _ _ _ u (picked_by _ _ _ (down n m k (omega arith)) u)
    where
      at : (n m : ℕ) → n ≤ m → ((m k : ℕ) → n ≤ suc m → Up (level P n) (chain P free (free_level P free A m) k)) → Up (level P n) (free_level P free A m)
      at zero zero h d = cuts_up
      at (suc n) zero h d = let no : ⊥ = omega arith in absurd no
      at n (suc m) h d = d m A h

  -- and no more than a budget A + 1 times as large
  chain_up : (b : Level) (m0 : ℕ) → ((m : ℕ) → m0 ≤ m → Up b (level P m)) → (k m : ℕ) → suc (k + m0) ≤ m → Up (chain P free b k) (level P m)
  chain_up b m0 u k zero h = let no : ⊥ = omega arith in absurd no
  chain_up b m0 u zero (suc m) h = step P b _ _ _ (u m (omega arith)) (λ f. u m (omega arith))
  chain_up b m0 u (suc k) (suc m) h = step P b _ _ _ (u m (omega arith)) (picked _ _ _ (chain_up b m0 u k m (omega arith)) (u m (omega arith)))

  up : (n m : ℕ) → (A + 1) * n ≤ m → Up (free_level P free A n) (level P m)
  up zero m h = cut_up (level P m) (self P m)
  up (suc n) m h = chain_up _ ((A + 1) * n) (up n) A m (omega arith)

  -- free prices cover, and are covered
  pub free_shows_more : (init : Term) (main : FuncName) (cs : List ℕ) (n : ℕ) → Covers (shows P init main cs n) (free_shows P free A init main cs n)
  free_shows_more init main cs n = cov_shown (down (suc n) n A (omega arith) (whole P init main) (whole P init main) (self_same (whole P init main)) (start cs) (start cs) (near none))

  pub free_shows_less : (init : Term) (main : FuncName) (cs : List ℕ) (n : ℕ) → Covers (free_shows P free A init main cs n) (shows P init main cs ((A + 1) * (n + 1)))
  free_shows_less init main cs n = cov_shown (up (suc n) (suc ((A + 1) * (n + 1))) (omega arith) (whole P init main) (whole P init main) (self_same (whole P init main)) (start cs) (start cs) (near none))
