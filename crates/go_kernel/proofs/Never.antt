-- Terms that never end with values: what follows them never runs.
use Rattle.std.proofs.Common.{◌≡◌, ℕ, zero, suc, List, [], ◌∷◌, ◌++◌, Bool, true, false, true≢false, if◌then◌else◌, refl, sym, ap, ◌∙◌, subst}
use Rattle.std.specs.Prelude.{bytes_eq}
use Rattle.go_kernel.specs.Kernel.{return_label, Name, Label, FuncName, Value, Truth, Event, PanicType, Fail, prim, answered, Term, Vals, Local, Set, Both, Prim as Prim', If, Let, Loop, Leave, Catch, Within, Alone, Recover, Call, Defer, DeferLit, Deferred, State, Exit, Gone, Result, Gives, Leaves, Cuts, Level, after, push, on_truth, popped, caught_by, Program, free_level}
use Rattle.go_kernel.specs.Scope.{has}
use Rattle.go_kernel.specs.Forms.{tidy, never}
use Rattle.go_kernel.proofs.FreshNames.{name_true}
use Rattle.go_kernel.proofs.DeepItems.{both_true, not_true}
use Rattle.go_kernel.proofs.Block
use Rattle.go_kernel.proofs.Block.{Tidy, Tame, chain_tame}
use Rattle.go_kernel.proofs.Means.{Mean, mean_equal, Lev}

pub tidy_is : (t : Term) (ls : List Label) → tidy ls t ≡ true → Tidy ls t
tidy_is (Vals v) ls h = tt
tidy_is (Local x) ls h = tt
tidy_is (Set xs a) ls h = tidy_is a ls h
tidy_is (Both a b) ls h = let q = both_true _ _ h in (tidy_is a ls q.0, tidy_is b ls q.1)
tidy_is (Prim' o a) ls h = tidy_is a ls h
tidy_is (If a b c) ls h = let q = both_true _ _ h in let p = both_true _ _ q.1 in (tidy_is a ls q.0, tidy_is b ls p.0, tidy_is c ls p.1)
tidy_is (Let xs a b) ls h = let q = both_true _ _ h in (tidy_is a ls q.0, tidy_is b ls q.1)
tidy_is (Loop a b) ls h = let q = both_true _ _ h in (tidy_is a ls q.0, tidy_is b ls q.1)
tidy_is (Leave l) ls h = h
tidy_is (Catch l a) ls h = tidy_is a (l ∷ ls) h
tidy_is (Within a rs) ls h = tt
tidy_is (Alone a) ls h = tidy_is a ls h
tidy_is Recover ls h = tt
tidy_is (Call f a) ls h = tidy_is a ls h
tidy_is (Defer f a) ls h = absurd (true≢false (sym h))
tidy_is (DeferLit xs a b) ls h = absurd (true≢false (sym h))

pub data Exits : Result → Type 0 where
  leaves : {e : Exit} {s : State} → Exits (Leaves e s)
  cuts : {o : List Event} → Exits (Cuts o)

after_exits : {r : Result} (k : List Value → State → Result) → Exits r → Exits (after r k Leaves)
after_exits k leaves = leaves
after_exits k cuts = cuts

on_exits : (r : Result) {k : List Value → State → Result} → ((v : List Value) (s : State) → Exits (k v s)) → Exits (after r k Leaves)
on_exits (Gives v s) K = K v s
on_exits (Leaves e s) K = leaves
on_exits (Cuts o) K = cuts

popped_exits : {r : Result} (xs : List Name) → Exits r → Exits (popped xs r)
popped_exits xs leaves = leaves
popped_exits xs cuts = cuts

truth_exits : (v : List Value) {a b : Result} → Exits a → Exits b → Exits (on_truth v a b)
truth_exits (Truth true ∷ []) A B = A
truth_exits _ A B = B

fails : (t : PanicType) (v : List Value) (s : State) → Exits (answered (prim (Fail t) v s.store) s)
unfolding prim
fails t v s = leaves

caught_exits : (l : Label) (ls : List Label) (ds : List Deferred) {r : Result} → has l ls ≡ false → Exits r → Tame ls ds r → Exits (after r Gives (caught_by l))
caught_exits l ls ds h cuts t = cuts
caught_exits l ls ds h leaves (Block.panics d) = leaves
caught_exits l ls ds h leaves (Block.goes {l = m} {s = s} k d) = go (bytes_eq l m) refl
  where
    go : (b : Bool) → bytes_eq l m ≡ b → Exits (if b then Gives [] s else Leaves (Gone m) s)
    go true e = absurd (true≢false (sym k ∙ subst (λ z. has z ls ≡ false) (name_true l m e) h))
    go false e = leaves

either : {T : Type 0} (a b : Bool) → (if a then true else b) ≡ true → (a ≡ true → T) → (b ≡ true → T) → T
either true b h f g = f refl
either false b h f g = g h

module _ (P : Program) (free : FuncName → Bool) (A : ℕ) where
  abbrev Always : Level → Type 0
  Always l = (t : Term) → never t ≡ true → (s : State) → Exits (l t s)

  module _ (n : ℕ) (below : Always (free_level P free A n)) (j : ℕ) where
    ends_never : (t : Term) → never t ≡ true → (s : State) → Exits (Lev P free A n j t s)
    ends_never (Leave l) q s = leaves
    ends_never (Prim' (Fail t) a) q s = on_exits (Lev P free A n j a s) (λ v s. fails t v s)
    ends_never (Both a b) q s = either _ _ q (λ h. after_exits (λ v s. after (Lev P free A n j b s) (λ w s. Gives (v ++ w) s) Leaves) (ends_never a h s)) (λ h. on_exits (Lev P free A n j a s) (λ v s. after_exits (λ w s. Gives (v ++ w) s) (ends_never b h s)))
    ends_never (Let xs a b) q s = either _ _ q (λ h. after_exits (λ v s. popped xs (Lev P free A n j b (record s { frame = push xs v s.frame }))) (ends_never a h s)) (λ h. on_exits (Lev P free A n j a s) (λ v s. popped_exits xs (ends_never b h _)))
    ends_never (If c a b) q s = let h = both_true _ _ q in on_exits (Lev P free A n j c s) (λ v s. truth_exits v (ends_never a h.0 s) (ends_never b h.1 s))
    ends_never (Loop (Vals (Truth true ∷ [])) b) q s = below (Let [] b (Loop (Vals (Truth true ∷ [])) b)) (again (never b)) s
      where
        again : (c : Bool) → (if c then true else true) ≡ true
        again true = refl
        again false = refl
    ends_never (Catch l a) q s =
        let h = not_true _ _ q in let k = both_true _ _ h.1 in
        caught_exits l (return_label ∷ []) s.defers (ap (λ b. if b then true else false) h.0) (ends_never a k.0 s) (chain_tame P free A n j (return_label ∷ []) a (tidy_is a (return_label ∷ []) k.1) s s.defers refl)
    ends_never _ q s = absurd (true≢false (sym q))

  always : (n : ℕ) → Always (free_level P free A n)
  always zero t q s = cuts
  always (suc n) t q s = ends_never n (always n) A t q s

  same : (r : Result) (k : List Value → State → Result) → Exits r → after r k Leaves ≡ r
  same _ k leaves = refl
  same _ k cuts = refl

  -- what follows such a term
  pub nothing_follows : (t u : Term) → never t ≡ true → Mean P free A zero (Let [] t u) t
  nothing_follows t u q = mean_equal P free A zero (Let [] t u) t (λ n j h s. same (Lev P free A n j t s) (λ v s. popped [] (Lev P free A n j u (record s { frame = push [] v s.frame }))) (ends_never n (always n) j t q s))
