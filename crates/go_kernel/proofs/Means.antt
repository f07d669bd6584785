-- Terms that mean the same: an equivalence, kept by binding; and what a simulation within a program says of it.
use Rattle.std.proofs.Common.{◌≡◌, ℕ, ◌≤◌, List, [], Bool, true, Option, None, refl, sym, ◌∙◌, subst, arith}
use Rattle.go_kernel.specs.Kernel.{Name, FuncName, Term, Vals, Let, Frame, Deferred, Store, State, Result, Gives, Leaves, Cuts, Level, after, push, popped, back, panic_of, Program, eval, chain, free_level, Ext, Event, Reason}
use Rattle.go_kernel.specs.Alike.{reframed, out_of, Each, none, more, Near, near, Covered, gives, leaves, cuts, outrun}
use Rattle.go_kernel.proofs.AcrossPrograms.{each_refl, near_refl, cov_out, weaken, popped_cov}
use Rattle.go_kernel.proofs.Growth.{Never, Any, Equal, Like, self_same, self_like, chain_self, free_self}
use Rattle.go_kernel.specs.Alike.{RunAlike, MeanSame}
use Rattle.go_kernel.proofs.WithinProgram as Sim
use Rattle.go_kernel.proofs.WithinProgram.{Way, Behind, inner, outer, Upon, Fits, fits, Acts, equal, level_follows}

pub reframed_twice : (q w : Frame → Frame) (r : Result) → reframed q (reframed w r) ≡ reframed (λ f. q (w f)) r
reframed_twice q w (Gives v s) = refl
reframed_twice q w (Leaves e s) = refl
reframed_twice q w (Cuts o) = refl

pub reframed_self : (r : Result) → reframed (λ f. f) r ≡ r
reframed_self (Gives v s) = refl
reframed_self (Leaves e s) = refl
reframed_self (Cuts o) = refl

pub reframed_out : (q : Frame → Frame) (r : Result) → out_of (reframed q r) ≡ out_of r
reframed_out q (Gives v s) = refl
reframed_out q (Leaves e s) = refl
reframed_out q (Cuts o) = refl

module _ (P : Program) (free : FuncName → Bool) (A : ℕ) where
  pub runs_refl : (d : Deferred) → RunAlike P free A d d
  runs_refl d n e s = refl

  abbrev pub Lev : ℕ → ℕ → Level
  Lev n j = chain P free (free_level P free A n) j

  abbrev pub Cover : List Event → Result → Result → Type 0
  Cover o r r' = Covered ⊥ (RunAlike P free A) o r r'

  pub grows : (n j : ℕ) (t : Term) (s : State) → Ext s.out (out_of (Lev n j t s))
  grows n j t s = cov_out Unit (Like Never Any Equal) (chain_self P free A (free_level P free A n) (free_self P free A n) j t t (self_same t) s s (near_refl self_like s))

  pub cov_self : {o : List Event} (r : Result) → Ext o (out_of r) → Cover o r r
  cov_self (Gives v s) e = gives (near_refl (runs_refl) s) e
  cov_self (Leaves x s) e = leaves (near_refl (runs_refl) s) e
  cov_self (Cuts o) e = cuts e

  -- equal results
  pub cov_same : {o : List Event} (r r' : Result) → r ≡ r' → Ext o (out_of r) → Cover o r r'
  cov_same {o} r r' e g = subst (λ y. Cover o r y) e (cov_self r g)

  each_sym : {a b : List Deferred} → Each (RunAlike P free A) a b → Each (RunAlike P free A) b a
  each_sym none = none
  each_sym (more q x) = more (λ n e s. sym (q n e s)) (each_sym x)

  pub each_trans : {a b c : List Deferred} → Each (RunAlike P free A) a b → Each (RunAlike P free A) b c → Each (RunAlike P free A) a c
  each_trans none none = none
  each_trans (more q x) (more w y) = more (λ n e s. q n e s ∙ w n e s) (each_trans x y)

  near_sym : {s s' : State} → Near (RunAlike P free A) s s' → Near (RunAlike P free A) s' s
  near_sym (near d) = near (each_sym d)

  near_trans : {a b c : State} → Near (RunAlike P free A) a b → Near (RunAlike P free A) b c → Near (RunAlike P free A) a c
  near_trans (near d) (near e) = near (each_trans d e)

  near_ext : {o : List Event} {s s' : State} → Near (RunAlike P free A) s s' → Ext o s.out → Ext o s'.out
  near_ext (near d) e = e

  cov_sym : {o : List Event} {r r' : Result} → Cover o r r' → Cover o r' r
  cov_sym (gives n e) = gives (near_sym n) (near_ext n e)
  cov_sym (leaves n e) = leaves (near_sym n) (near_ext n e)
  cov_sym (cuts e) = cuts e
  cov_sym (outrun c e f) = absurd c

  pub cov_trans : {o : List Event} {a b c : Result} → Cover o a b → Cover o b c → Cover o a c
  cov_trans (gives n e) (gives m f) = gives (near_trans n m) e
  cov_trans (leaves n e) (leaves m f) = leaves (near_trans n m) e
  cov_trans (cuts e) (cuts f) = cuts e
  cov_trans (cuts e) (outrun c f g) = absurd c
  cov_trans (outrun c e f) y = absurd c

  abbrev pub Mean : ℕ → Term → Term → Type 0
  Mean = MeanSame P free A

  pub mean_refl : (k : ℕ) (t : Term) → Mean k t t
  mean_refl k t n j h s = cov_self _ (grows n j t s)

  pub mean_sym : (k : ℕ) (t t' : Term) → Mean k t t' → Mean k t' t
  mean_sym k t t' m n j h s = cov_sym (m n j h s)

  pub mean_trans : (k : ℕ) (a b c : Term) → Mean k a b → Mean k b c → Mean k a c
  mean_trans k a b c x y n j h s = cov_trans (x n j h s) (y n j h s)

  -- terms whose results are equal
  pub mean_equal : (k : ℕ) (t t' : Term) → ((n j : ℕ) → k ≤ j → (s : State) → Lev n j t s ≡ Lev n j t' s) → Mean k t t'
  mean_equal k t t' e n j h s = subst (λ r. Cover s.out (Lev n j t s) r) (e n j h s) (cov_self _ (grows n j t s))

  -- wherever a longer chain is left
  pub mean_up : (k m : ℕ) → k ≤ m → (t t' : Term) → Mean k t t' → Mean m t t'
  mean_up k m h t t' e n j g s = e n j (omega (arith, h, g)) s

  -- binding nothing
  pub mean_no_let : (k : ℕ) (t : Term) → Mean k (Let [] (Vals []) t) t
  mean_no_let k t = mean_equal k (Let [] (Vals []) t) t (λ n j h s. reframed_self _)

  pub mean_let : (k : ℕ) (xs : List Name) (a t t' : Term) → Mean k t t' → Mean k (Let xs a t) (Let xs a t')
  mean_let k xs a t t' m n j h s = go (Lev n j a s) (grows n j a s)
    where
      go : (r : Result) → Ext s.out (out_of r) → Cover s.out (after r (λ v s. popped xs (Lev n j t (record s { frame = push xs v s.frame }))) Leaves) (after r (λ v s. popped xs (Lev n j t' (record s { frame = push xs v s.frame }))) Leaves)
      go (Gives v s1) e = weaken ⊥ (RunAlike P free A) e (popped_cov ⊥ (RunAlike P free A) (runs_refl) xs (m n j h (record s1 { frame = push xs v s1.frame })))
      go (Leaves x s1) e = cov_self (Leaves x s1) e
      go (Cuts o) e = cov_self (Cuts o) e

  -- a simulation that begins with the same deferred calls and, once its frames are made equal, ends with the same frames
  module _ (W : Way) (base_acts : (below : Level) (pick : FuncName → Level) (B B' : List Deferred) (r : Bool) (g : List Name) (t t' : Term) → W.Base g t t' → (s s' : State) → Fits W None None B B' r g s s' → Acts W None None B B' r g (eval P pick below t s) (eval P pick below t' s')) where
    pub left_same : (S : State) {h : List Name} {r r' : Result} → Acts W None None [] [] true h r r'
        → after r (λ v s1. Gives [] (record (back S s1) { pending = s1.pending })) (λ x s1. Gives [] (record (back S s1) { pending = panic_of s1.pending x }))
        ≡ after r' (λ v s1. Gives [] (record (back S s1) { pending = s1.pending })) (λ x s1. Gives [] (record (back S s1) { pending = panic_of s1.pending x }))
    left_same S (Sim.gives (fits y equal d)) = refl
    left_same S (Sim.leaves (fits y equal d)) = refl
    left_same S Sim.cuts = refl

    pub pair_runs : (d d' : Deferred) → Behind W None None d d' → RunAlike P free A d d'
    pair_runs _ _ (outer w) n e s = refl
    pair_runs _ _ (inner {g = g} {b = b} {b' = b'} w y q) n e s =
        left_same s (level_follows W None None P free A base_acts n [] [] true g b b' q _ _ (fits (y s.store) equal Upon.base))

    pub each_run : {B ds ds' : List Deferred} → Upon W None None B B ds ds' → Each (RunAlike P free A) ds ds'
    each_run Upon.base = each_refl (runs_refl) _
    each_run (Upon.more q u) = more (pair_runs _ _ q) (each_run u)

    module _ (g : List Name) (q q' : Frame → Frame) (joins : (f f' : Frame) (c : Store) → W.R g f c f' → q f ≡ q' f') where
      near_of : {f f' : Frame} {c : Store} {p : Option Reason} {out : List Event} {ds ds' : List Deferred} → W.R g f c f' → Each (RunAlike P free A) ds ds'
          → Near (RunAlike P free A) (record { frame = q f; store = c; pending = p; defers = ds; out = out }) (record { frame = q' f'; store = c; pending = p; defers = ds'; out = out })
      near_of {f = f} {f' = f'} {c = c} {p = p} {out = out} {ds = ds} {ds' = ds'} y d =
          subst (λ z. Near (RunAlike P free A) (record { frame = q f; store = c; pending = p; defers = ds; out = out }) (record { frame = z; store = c; pending = p; defers = ds'; out = out })) (joins f f' c y) (near d)

      pub ends_alike : {o : List Event} {B : List Deferred} {l r : Result} → Acts W None None B B true g l r → Ext o (out_of l) → Cover o (reframed q l) (reframed q' r)
      ends_alike {o = o} (Sim.gives (fits y equal d)) e = gives (near_of y (each_run d)) e
      ends_alike {o = o} (Sim.leaves (fits y equal d)) e = leaves (near_of y (each_run d)) e
      ends_alike Sim.cuts e = cuts e
