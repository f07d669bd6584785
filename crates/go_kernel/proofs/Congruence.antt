-- Replacing parts by parts that mean the same.
use Rattle.std.proofs.Common.{◌≡◌, ℕ, zero, suc, ◌≤◌, ◌<◌, List, [], Bool, true, false, if◌then◌else◌, refl, ◌∙◌, arith}
use Rattle.go_kernel.specs.Kernel.{FuncName, Term, Let, Deferred, State, Gone, Panic, Result, Level, code, Program, free_pick, chain, free_level, shown, start, free_shows, Event}
use Rattle.go_kernel.specs.Alike
use Rattle.go_kernel.specs.Alike.{Same, let', Each, none, more, Near, near, Covered, gives, leaves, cuts, outrun}
use Rattle.go_kernel.proofs.AcrossPrograms.{same_self, same_under}
use Rattle.go_kernel.proofs.Means.{mean_up}
use Rattle.go_kernel.proofs.Growth.{all_calls, Like, like, Alike, AlikeAt, cut_cut, eval_alike}

le_self : (n : ℕ) → n ≤ n
le_self n = omega arith

module _ (P' : Program) (free : FuncName → Bool) (A : ℕ) (rank : FuncName → ℕ) where
  abbrev pub MeanSame : ℕ → Term → Term → Type 0
  MeanSame = Alike.MeanSame P' free A

  abbrev pub RunAlike : Deferred → Deferred → Type 0
  RunAlike = Alike.RunAlike P' free A

  abbrev pub Below : ℕ → FuncName → Type 0
  Below = Alike.Below free rank

  abbrev With' : Deferred → Deferred → Type 0
  With' = Like (MeanSame A) (Below A) RunAlike

  pub runs_refl : (d : Deferred) → RunAlike d d
  runs_refl d n e s = refl

  each_then : {a b c : List Deferred} → Each With' a b → Each RunAlike b c → Each With' a c
  each_then none none = none
  each_then (more (like q e) x) (more f y) = more (like q (λ n x s. e n x s ∙ f n x s)) (each_then x y)

  near_then : {a b c : State} → Near With' a b → Near RunAlike b c → Near With' a c
  near_then (near x) (near y) = near (each_then x y)

  cov_then : {o o' : List Event} {a b c : Result} → Covered ⊥ With' o a b → Covered ⊥ RunAlike o' b c → Covered ⊥ With' o a c
  cov_then (gives n e) (gives m f) = gives (near_then n m) e
  cov_then (leaves n e) (leaves m f) = leaves (near_then n m) e
  cov_then (cuts e) (cuts f) = cuts e
  cov_then (cuts e) (outrun c f g) = absurd c
  cov_then (outrun c e f) y = absurd c

  below_up : (k m : ℕ) → k ≤ m → (f : FuncName) → Below k f → Below m f
  below_up k m h f b y = let c : rank f < k = b y in omega arith

  module _ (P : Program) (ranks : (f : FuncName) → rank f ≤ A) (marked : (f : FuncName) → free f ≡ true → rank f < A) (params : (f : FuncName) → (P f).params ≡ (P' f).params)
      (funs : (f : FuncName) → Same (MeanSame (rank f)) (Below (rank f)) (code (P f)) (code (P' f))) where
    like_self : (d : Deferred) → With' d d
    like_self d = like (same_self d.body (all_calls marked d.body)) (runs_refl d)

    Here : ℕ → Level → Level → Type 0
    Here k = Alike ⊥ With' (MeanSame k) (Below k)

    funs_at : (k : ℕ) (f : FuncName) → rank f ≤ k → Same (MeanSame k) (Below k) (code (P f)) (code (P' f))
    funs_at k f h = same_under (mean_up P' free A _ _ h) (below_up _ _ h) (funs f)

    picked : (k : ℕ) (i i' b b' : Level) → Here k i i' → Here A b b' → (f : FuncName) → Below (suc k) f → AlikeAt ⊥ With' (free_pick free i b f) (free_pick free i' b' f) (code (P f)) (code (P' f))
    unfolding Here
    picked k i i' b b' x y f h = go (free f) h
      where
        go : (c : Bool) → (c ≡ true → rank f < suc k) → AlikeAt ⊥ With' (if c then i else b) (if c then i' else b') (code (P f)) (code (P' f))
        go true h = x _ _ (funs_at k f (let z : rank f < suc k = h refl in omega arith))
        go false h = y _ _ (funs_at A f (ranks f))

    chain_cong : (n : ℕ) → Here A (free_level P free A n) (free_level P' free A n) → (k : ℕ) → k ≤ A → Here k (chain P free (free_level P free A n) k) (chain P' free (free_level P' free A n) k)
    unfolding Here
    chain_cong n h zero z =
        eval_alike ⊥ (MeanSame A) (Below A) RunAlike runs_refl like_self (MeanSame zero) (Below zero) (mean_up P' free A _ _ z) (below_up _ _ z) P P' params (λ f. funs_at A f (ranks f)) _ _ (λ f. free_level P free A n) (λ f. free_level P' free A n) h
        (λ d d' q e s. q n e s) (λ f b. h _ _ (funs_at A f (ranks f))) (λ t t' e o r s c. cov_then c (e n zero (le_self zero) s))
    chain_cong n h (suc k) z =
        eval_alike ⊥ (MeanSame A) (Below A) RunAlike runs_refl like_self (MeanSame (suc k)) (Below (suc k)) (mean_up P' free A _ _ z) (below_up _ _ z) P P' params (λ f. funs_at A f (ranks f)) _ _ (free_pick free (chain P free (free_level P free A n) k) (free_level P free A n)) (free_pick free (chain P' free (free_level P' free A n) k) (free_level P' free A n)) h
        (λ d d' q e s. q n e s) (picked k _ _ _ _ (chain_cong n h k (omega arith)) h) (λ t t' e o r s c. cov_then c (e n (suc k) (le_self (suc k)) s))

    level_cong : (n : ℕ) → Here A (free_level P free A n) (free_level P' free A n)
    unfolding Here
    level_cong zero = cut_cut ⊥ (MeanSame A) (Below A) RunAlike runs_refl like_self
    level_cong (suc n) = chain_cong n (level_cong n) A (omega arith)

    exact_shown : {o : List Event} {r r' : Result} → Covered ⊥ With' o r r' → shown r ≡ shown r'
    exact_shown (gives (near d) e) = refl
    exact_shown (leaves {e = Gone l} (near d) e) = refl
    exact_shown (leaves {e = Panic p} (near d) e) = refl
    exact_shown (cuts e) = refl
    exact_shown (outrun c e f) = absurd c

    -- a program in which parts are replaced by parts that mean the same shows the same
    pub shows_same : (init init' : Term) → Same (MeanSame A) (Below A) init init' → (main : FuncName) (cs : List ℕ) (n : ℕ) → free_shows P free A init main cs n ≡ free_shows P' free A init' main cs n
    unfolding Here
    shows_same init init' q main cs n = exact_shown (level_cong (suc n) (Let [] init (code (P main))) (Let [] init' (code (P' main))) (let' q (funs_at A main (ranks main))) (start cs) (start cs) (near none))
