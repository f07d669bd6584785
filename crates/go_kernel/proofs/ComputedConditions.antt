-- The conditions of the law of the chosen set as computed tests.
use Rattle.std.proofs.Common.{◌∙◌, ◌≡◌, ℕ, zero, ◌≤◌, ◌<◌, List, [], ◌∷◌, ◌++◌, length, Bool, true, false, true≢false, nat_eq, if◌then◌else◌, Option, Some, None, refl, sym, ap, subst, arith}
use Rattle.std.specs.Prelude.{bytes_eq}
use Rattle.std.proofs.lemmas.Bool.{eqb-true}
use Rattle.go_kernel.proofs.FreshNames.{height, name_true}
use Rattle.go_kernel.specs.Kernel.{Name, FuncName, Op, Term, Vals, Local, Set, Both, Prim as Prim', If, Let, Loop, Leave, Catch, Within, Alone, Recover, Call, Defer, DeferLit, Slot, Program, gives}
use Rattle.go_kernel.proofs.PlacedAlike.{Expr}
use Rattle.go_kernel.proofs.FrameFacts.{by_has}
use Rattle.go_kernel.specs.Scope.{has, has_slots}
use Rattle.go_kernel.proofs.Parameters.{Low}
use Rattle.go_kernel.proofs.DeepItems.{both_true, not_true}
use Rattle.go_kernel.specs.Conditions.{plus, then', equal', width, each_set, own_slots, each_free, is_spare, no_spares, none_in}
use Rattle.go_kernel.proofs.TermConditions.{Fit, Sets}
use Rattle.go_kernel.proofs.Table.{makes}

module _ (P : Program) where
  abbrev Wide : Term → Option ℕ → Type 0
  Wide t None = Unit {0}
  Wide t (Some k) = Expr P k t

  wide_both : (a b : Term) (w w' : Option ℕ) → Wide a w → Wide b w' → Wide (Both a b) (plus w w')
  wide_both a b (Some i) (Some j) h k = (i, j, refl, h, k)
  wide_both a b (Some i) None h k = tt
  wide_both a b None w h k = tt

  wide_prim : (o : Op) (a : Term) (w : Option ℕ) → Wide a w → Wide (Prim' o a) (then' w (Some (gives o)))
  wide_prim o a (Some i) h = (makes o, (i, h))
  wide_prim o a None h = tt

  wide_if : (c a b : Term) (u w w' : Option ℕ) → Wide c u → Wide a w → Wide b w' → Wide (If c a b) (then' u (equal' w w'))
  wide_if c a b (Some n) (Some i) (Some j) g h k = go (nat_eq i j) refl
    where
      go : (e : Bool) → nat_eq i j ≡ e → Wide (If c a b) (if e then Some i else None)
      go true e = ((n, g), h, subst (λ z. Expr P z b) (sym (eqb-true i j e)) k)
      go false e = tt
  wide_if c a b (Some n) (Some i) None g h k = tt
  wide_if c a b (Some n) None w g h k = tt
  wide_if c a b None w w' g h k = tt

  wide_let : (xs : List Name) (a b : Term) (w w' : Option ℕ) → Wide a w → Wide b w' → Wide (Let xs a b) (then' w w')
  wide_let xs a b (Some i) (Some j) h k = ((i, h), k)
  wide_let xs a b (Some i) None h k = tt
  wide_let xs a b None w h k = tt

  wide_alone : (a : Term) (w : Option ℕ) → Wide a w → Wide (Alone a) w
  wide_alone a (Some i) h = h
  wide_alone a None h = tt

  wide_call : (f : FuncName) (a : Term) (w : Option ℕ) → Wide a w → Wide (Call f a) (then' w (Some (length (P f).results)))
  wide_call f a (Some i) h = (refl, (i, h))
  wide_call f a None h = tt

  wide : (t : Term) → Wide t (width P t)
  wide (Vals v) = refl
  wide (Local x) = refl
  wide (Set xs a) = tt
  wide (Both a b) = wide_both a b (width P a) (width P b) (wide a) (wide b)
  wide (Prim' o a) = wide_prim o a (width P a) (wide a)
  wide (If c a b) = wide_if c a b (width P c) (width P a) (width P b) (wide c) (wide a) (wide b)
  wide (Let xs a b) = wide_let xs a b (width P a) (width P b) (wide a) (wide b)
  wide (Loop a b) = tt
  wide (Leave l) = tt
  wide (Catch l a) = tt
  wide (Within a rs) = refl
  wide (Alone a) = wide_alone a (width P a) (wide a)
  wide Recover = refl
  wide (Call f a) = wide_call f a (width P a) (wide a)
  wide (Defer f a) = tt
  wide (DeferLit xs a b) = tt

  pub width_is : (k : ℕ) (t : Term) → width P t ≡ Some k → Expr P k t
  width_is k t e = subst (Wide t) e (wide t)

-- conditions on a term by tests of its uses and assignments
module _ (u s : List Name → Name → Bool) where
  abbrev pub sets_test : List Name → List Name → Bool
  sets_test = each_set u s

  abbrev pub slots_test : List Slot → List Name → Bool
  slots_test = own_slots u s

  abbrev pub fit_test : Bool → List Name → Term → Bool
  fit_test = each_free u s

  module _ (U S : List Name → Name → Type 0) (use_is : (g : List Name) (x : Name) → u g x ≡ true → U g x) (set_is : (g : List Name) (x : Name) → s g x ≡ true → S g x) where
    free_test : (g : List Name) (x : Name) (b v : Bool) → (if b then true else v) ≡ true → b ≡ false → v ≡ true
    free_test g x true v h e = absurd (true≢false e)
    free_test g x false v h e = h

    sets_fit : (g xs : List Name) → sets_test g xs ≡ true → Sets U S (λ o. Unit {0}) (Unit {0}) g xs
    sets_fit g [] h = tt
    sets_fit g (x ∷ xs) h = let q = both_true _ _ h in ((λ e. set_is g x (free_test g x (has x g) (s g x) q.0 e)), sets_fit g xs q.1)

    slots_fit' : (rs : List Slot) (g : List Name) → slots_test rs g ≡ true → has_slots rs g
    slots_fit' [] g h = tt
    slots_fit' (r ∷ rs) g h = let q = both_true _ _ h in (q.0, slots_fit' rs g q.1)

    pub test_fit : (t : Term) (r : Bool) (g : List Name) → fit_test r g t ≡ true → Fit U S (λ o. Unit {0}) (Unit {0}) r g t
    test_fit (Vals v) r g h = tt
    test_fit (Local x) r g h = λ e. use_is g x (free_test g x (has x g) (u g x) h e)
    test_fit (Set xs a) r g h = let q = both_true _ _ h in (sets_fit g xs q.0, test_fit a r g q.1)
    test_fit (Both a b) r g h = let q = both_true _ _ h in (test_fit a r g q.0, test_fit b r g q.1)
    test_fit (Prim' o a) r g h = (tt, test_fit a r g h)
    test_fit (If a b c) r g h = let q = both_true _ _ h in let p = both_true _ _ q.1 in (test_fit a r g q.0, test_fit b r g p.0, test_fit c r g p.1)
    test_fit (Let xs a b) r g h = let q = both_true _ _ h in (test_fit a r g q.0, test_fit b r (xs ++ g) q.1)
    test_fit (Loop a b) r g h = let q = both_true _ _ h in (test_fit a r g q.0, test_fit b r g q.1)
    test_fit (Leave l) r g h = tt
    test_fit (Catch l a) r g h = test_fit a r g h
    test_fit (Within a rs) r g h = let q = both_true _ _ h in (slots_fit' rs g q.0, test_fit a r g q.1)
    test_fit (Alone a) r g h = test_fit a true g h
    test_fit Recover r g h = h
    test_fit (Call f a) r g h = (tt, test_fit a r g h)
    test_fit (Defer f a) r g h = (tt, test_fit a r g h)
    test_fit (DeferLit xs a b) r g h = let q = both_true _ _ h in (tt, test_fit a r g q.0, test_fit b true (xs ++ g) q.1)

-- where 'recover' may stand, it needn't
module _ (u s : List Name → Name → Bool) where
  both_loose : (a b c d : Bool) → (if a then b else false) ≡ true → (a ≡ true → c ≡ true) → (b ≡ true → d ≡ true) → (if c then d else false) ≡ true
  both_loose a b c d h f k = let q = both_true a b h in ap (λ z. if z then d else false) (f q.0) ∙ k q.1

  pub loosened : (t : Term) (g : List Name) → each_free u s false g t ≡ true → each_free u s true g t ≡ true
  loosened (Vals v) g h = refl
  loosened (Local x) g h = h
  loosened (Set xs a) g h = both_loose _ _ _ _ h (λ e. e) (loosened a g)
  loosened (Both a b) g h = both_loose _ _ _ _ h (loosened a g) (loosened b g)
  loosened (Prim' o a) g h = loosened a g h
  loosened (If a b c) g h = both_loose _ _ _ _ h (loosened a g) (λ k. both_loose _ _ _ _ k (loosened b g) (loosened c g))
  loosened (Let xs a b) g h = both_loose _ _ _ _ h (loosened a g) (loosened b (xs ++ g))
  loosened (Loop a b) g h = both_loose _ _ _ _ h (loosened a g) (loosened b g)
  loosened (Leave l) g h = refl
  loosened (Catch l a) g h = loosened a g h
  loosened (Within a rs) g h = both_loose _ _ _ _ h (λ e. e) (loosened a g)
  loosened (Alone a) g h = h
  loosened Recover g h = refl
  loosened (Call f a) g h = loosened a g h
  loosened (Defer f a) g h = loosened a g h
  loosened (DeferLit xs a b) g h = both_loose _ _ _ _ h (loosened a g) (λ e. e)

pub spare_height : (x : Name) → is_spare x ≡ false → height x < 1
spare_height (zero ∷ k ∷ []) h = absurd (true≢false h)
spare_height _ h = omega arith

-- none of these names is spare
pub low_is : (g : List Name) → no_spares g ≡ true → Low 1 g
low_is [] h w m = absurd (true≢false (sym m))
low_is (x ∷ g) h w m = let q = not_true _ _ h in go (bytes_eq w x) refl m (spare_height x q.0) (low_is g q.1 w)
  where
    go : (b : Bool) → bytes_eq w x ≡ b → (if b then true else has w g) ≡ true → height x < 1 → (has w g ≡ true → height w < 1) → height w < 1
    go true e m l r = subst (λ z. height z < 1) (sym (name_true w x e)) l
    go false e m l r = r m

pub none_above : (g : List Name) → no_spares g ≡ true → (w : Name) → 1 ≤ height w → has w g ≡ false
none_above g h w l = by_has (has w g) (λ e. let k : height w < 1 = low_is g h w e in let no : ⊥ = omega arith in absurd no) (λ e. e)

-- none of these names is among those
pub none_is : (fr g : List Name) → none_in fr g ≡ true → (w : Name) → has w fr ≡ true → has w g ≡ false
none_is [] g h w m = absurd (true≢false (sym m))
none_is (x ∷ fr) g h w m = go (has x g) refl h (bytes_eq w x) refl m (λ k. none_is fr g k w)
  where
    go : (b : Bool) → has x g ≡ b → (if b then false else none_in fr g) ≡ true → (c : Bool) → bytes_eq w x ≡ c → (if c then true else has w fr) ≡ true → (none_in fr g ≡ true → has w fr ≡ true → has w g ≡ false) → has w g ≡ false
    go true e h c d m r = absurd (true≢false (sym h))
    go false e h true d m r = subst (λ z. has z g ≡ false) (sym (name_true w x d)) e
    go false e h false d m r = r h m
