-- A program whose functions pass the computed test is ranked, as the kernel's law of calls asks.
use Rattle.std.specs.Prelude.{◌≡◌, refl, ℕ, Bool, true, false, ◌&&◌, List, [], ◌∷◌, ◌++◌, Option, Some, None, nat_lt, if◌then◌else◌}
use Rattle.std.specs.List.{list_all}
use Rattle.std.proofs.Common.{arith}
use Rattle.std.proofs.lemmas.Slice.Eq.{bytes_eq-Decides}
use Rattle.std.proofs.lemmas.Bool.{ltb-true}
use mathlib.Core.Path.{ap, subst, sym, ◌∙◌}
use Rattle.go_kernel.specs.Kernel.{Text, Name, FuncName, same_text, same_receiver, same_func, Func, code, declared, Term, Vals, Local, Set, Both, Prim, If, Let, Loop, Leave, Catch, Within, Alone, Recover, Call, Defer, DeferLit}
use Rattle.go_kernel.specs.Alike.{Below, Calls}
use Rattle.go_kernel.specs.Laws.{Ranked}
use Rattle.go_translation.specs.Packages.{Package, codes_of, functions_of, program_of}
use Rattle.go_translation.specs.Asked.{called, is_below, is_ranked}

-- ---- tests

both_hold : (a b : Bool) → a && b ≡ true → (a ≡ true) × (b ≡ true)
both_hold true true e = (refl, refl)
both_hold true false e = absurd (grind (arith, e))
both_hold false b e = absurd (grind (arith, e))

text_same : (a b : Text) → same_text a b ≡ true → a ≡ b
text_same a b e = (bytes_eq-Decides a b).0 e

receiver_same : (a b : Option Name) → same_receiver a b ≡ true → a ≡ b
receiver_same None None e = refl
receiver_same (Some a) (Some b) e = ap Some (text_same a b e)
receiver_same None (Some b) e = absurd (grind (arith, e))
receiver_same (Some a) None e = absurd (grind (arith, e))

func_same : (f g : FuncName) → same_func f g ≡ true → f ≡ g
func_same f g e =
    let p : ((same_text f.home g.home ≡ true) × (same_receiver f.receiver g.receiver && same_text f.name g.name ≡ true)) = both_hold (same_text f.home g.home) (same_receiver f.receiver g.receiver && same_text f.name g.name) e in
    let q : ((same_receiver f.receiver g.receiver ≡ true) × (same_text f.name g.name ≡ true)) = both_hold (same_receiver f.receiver g.receiver) (same_text f.name g.name) p.1 in
    λ i. record { home = text_same f.home g.home p.0 i; receiver = receiver_same f.receiver g.receiver q.0 i; name = text_same f.name g.name q.1 i }

-- ---- called functions

module _ (C : FuncName → Type 0) where
  abbrev All : List FuncName → Type 0
  All [] = Unit {0}
  All (f ∷ fs) = C f × All fs

  all_split : (fs gs : List FuncName) → All (fs ++ gs) → All fs × All gs
  all_split [] gs a = (tt, a)
  all_split (f ∷ fs) gs a = let r : (All fs × All gs) = all_split fs gs a.1 in ((a.0, r.0), r.1)

  calls_by : (t : Term) → All (called t) → Calls C t
  calls_by (Vals vs) a = tt
  calls_by (Local x) a = tt
  calls_by (Set xs t) a = calls_by t a
  calls_by (Both s t) a = (calls_by s (all_split (called s) (called t) a).0, calls_by t (all_split (called s) (called t) a).1)
  calls_by (Prim o t) a = calls_by t a
  calls_by (If r s t) a =
      let p : (All (called r) × All (called s ++ called t)) = all_split (called r) (called s ++ called t) a in let q : (All (called s) × All (called t)) = all_split (called s) (called t) p.1 in
      (calls_by r p.0, calls_by s q.0, calls_by t q.1)
  calls_by (Let xs s t) a = (calls_by s (all_split (called s) (called t) a).0, calls_by t (all_split (called s) (called t) a).1)
  calls_by (Loop s t) a = (calls_by s (all_split (called s) (called t) a).0, calls_by t (all_split (called s) (called t) a).1)
  calls_by (Leave l) a = tt
  calls_by (Catch l t) a = calls_by t a
  calls_by (Within t rs) a = calls_by t a
  calls_by (Alone t) a = calls_by t a
  calls_by Recover a = tt
  calls_by (Call f t) a = (a.0, calls_by t a.1)
  calls_by (Defer f t) a = calls_by t a
  calls_by (DeferLit xs s t) a = (calls_by s (all_split (called s) (called t) a).0, calls_by t (all_split (called s) (called t) a).1)

below : (free : FuncName → Bool) (rank : FuncName → ℕ) (k : ℕ) (f : FuncName) → is_below free rank k f ≡ true → Below free rank k f
below free rank k f e q = ltb-true (rank f) k (sym (ap (λ b. if b then nat_lt (rank f) k else true) q) ∙ e)

all_below : (free : FuncName → Bool) (rank : FuncName → ℕ) (k : ℕ) (fs : List FuncName) → list_all (is_below free rank k) fs ≡ true → All (Below free rank k) fs
all_below free rank k [] e = tt
all_below free rank k (f ∷ fs) e =
    let p : ((is_below free rank k f ≡ true) × (list_all (is_below free rank k) fs ≡ true)) = both_hold (is_below free rank k f) (list_all (is_below free rank k) fs) e in
    (below free rank k f p.0, all_below free rank k fs p.1)

-- ---- programs

abbrev passes : (FuncName → Bool) → (FuncName → ℕ) → FuncName × Func → Bool
passes free rank d = if free d.0 then list_all (is_below free rank (rank d.0)) (called (code d.1)) else true

own_ranked : (d : FuncName × Func) (free : FuncName → Bool) (rank : FuncName → ℕ) → passes free rank d ≡ true → (f : FuncName) → free f ≡ true → f ≡ d.0 → Calls (Below free rank (rank f)) (code d.1)
own_ranked d free rank e f q p =
    subst (λ g. Calls (Below free rank (rank g)) (code d.1)) (sym p)
    (calls_by (Below free rank (rank d.0)) (code d.1) (all_below free rank (rank d.0) (called (code d.1))
    (sym (ap (λ b. if b then list_all (is_below free rank (rank d.0)) (called (code d.1)) else true) (ap free (sym p) ∙ q)) ∙ e)))

ranked_by : (ds : List (FuncName × Func)) (free : FuncName → Bool) (rank : FuncName → ℕ) → is_ranked ds free rank ≡ true → Ranked (declared ds) free rank
ranked_by [] free rank e f q = (tt, tt)
ranked_by (d ∷ ds) free rank e f q =
    let p : ((passes free rank d ≡ true) × (is_ranked ds free rank ≡ true)) = both_hold (passes free rank d) (is_ranked ds free rank) e in
    go (same_func f d.0) refl (own_ranked d free rank p.0 f q) (ranked_by ds free rank p.1 f q)
  where
    go : (b : Bool) → same_func f d.0 ≡ b → (f ≡ d.0 → Calls (Below free rank (rank f)) (code d.1)) → Calls (Below free rank (rank f)) (code (declared ds f)) → Calls (Below free rank (rank f)) (code (if b then d.1 else declared ds f))
    go true r x y = x (func_same f d.0 r)
    go false r x y = y

module _ {S : Type 0} where
  pub program_ranked : (ps : List (Package S)) (free : FuncName → Bool) (rank : FuncName → ℕ) → is_ranked (functions_of (codes_of ps)) free rank ≡ true → Ranked (program_of (codes_of ps)) free rank
  program_ranked ps free rank e = ranked_by (functions_of (codes_of ps)) free rank e
