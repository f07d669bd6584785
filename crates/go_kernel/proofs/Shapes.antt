-- A body as the term that runs once its parameters are bound, and a term under the names of bound parameters.
use Rattle.std.proofs.Common.{◌≡◌, List, [], ◌∷◌, ◌++◌, Bool, true, false, true≢false, refl, sym, ap, ◌∙◌, subst, append_assoc, arith}
use Rattle.std.proofs.lemmas.List.{append-nil}
use Rattle.go_kernel.specs.Kernel.{Name, Op, Func, code, Term, Vals, Local, Set, Both, Prim as Prim', If, Let, Loop, Leave, Catch, Within, Alone, Recover, Call, Defer, DeferLit, effect}
use Rattle.go_kernel.specs.Scope.{has, has_slots}
use Rattle.go_kernel.specs.Items.{Item, Stop, is_stop, join, uses, writes}
use Rattle.go_kernel.proofs.FrameFacts.{by_has, has_left}
use Rattle.go_kernel.proofs.TermConditions.{Fit, Sets, slots_in}
use Rattle.go_kernel.proofs.DeepItems.{deep, seen}
use Rattle.go_kernel.proofs.UsesBefore.{seen_stopped, neither}

-- what is known of a body t whose own names g are bound around it holds of the term b
pub record Shape (g : List Name) (t b : Term) : Type 1 where
  pub fits : (U S : List Name → Name → Type 0) (O : Op → Type 0) (K : Type 0) → Fit U S O K true g t → Fit U S O K true [] b
  pub sees : (hard : Item → Bool) (sh : (i : Item) → is_stop i ≡ true → hard i ≡ true) (x : Name) → seen hard sh x (deep [] b) ≡ seen hard sh x (deep g t)
  pub uses' : (x : Name) → uses x [] b ≡ uses x g t

abbrev pub plain : (t : Term) → Shape [] t t
plain t = record { fits = λ U S O K f. f; sees = λ hard sh x. refl; uses' = λ x. refl }

module _ (f : Func) (own : has_slots f.results f.slots) where
  code_fits : (U S : List Name → Name → Type 0) (O : Op → Type 0) (K : Type 0) → Fit U S O K true f.slots f.body → Fit U S O K true [] (Alone (code f))
  code_fits U S O K q = (tt, (subst (has_slots f.results) (sym (append-nil f.slots)) own, subst (λ g. Fit U S O K true g f.body) (sym (append-nil f.slots)) q))

  code_sees : (hard : Item → Bool) (sh : (i : Item) → is_stop i ≡ true → hard i ≡ true) (x : Name) → seen hard sh x (deep [] (Alone (code f))) ≡ seen hard sh x (deep f.slots f.body)
  code_sees hard sh x = seen_stopped hard sh x (join (deep (f.slots ++ []) f.body) (Stop ∷ [])) ∙ seen_stopped hard sh x (deep (f.slots ++ []) f.body) ∙ ap (λ g. seen hard sh x (deep g f.body)) (append-nil f.slots)

  code_uses : (x : Name) → uses x [] (Alone (code f)) ≡ uses x f.slots f.body
  code_uses x = let e = ap (λ g. uses x g f.body) (append-nil f.slots) in omega (arith, e)

  pub coded : Shape f.slots f.body (code f)
  coded = record { fits = λ U S O K q. (code_fits U S O K q); sees = λ hard sh x. seen_stopped hard sh x (deep (f.slots ++ []) f.body) ∙ ap (λ g. seen hard sh x (deep g f.body)) (append-nil f.slots); uses' = code_uses }

  pub called : Shape f.slots f.body (Alone (code f))
  called = record { fits = code_fits; sees = code_sees; uses' = code_uses }

not_left : (x : Name) (g k : List Name) → has x (g ++ k) ≡ false → has x g ≡ false
not_left x g k h = by_has (has x g) (λ e. absurd (true≢false (sym (has_left x g k e) ∙ h))) (λ e. e)

-- conditions under more bound names
module _ (U S U' S' : List Name → Name → Type 0) (O : Op → Type 0) (K : Type 0) (k : List Name) (u : (h : List Name) (z : Name) → has z (h ++ k) ≡ false → U h z → U' (h ++ k) z) (s : (h : List Name) (z : Name) → has z (h ++ k) ≡ false → S h z → S' (h ++ k) z) where
  sets_under : (g xs : List Name) → Sets U S O K g xs → Sets U' S' O K (g ++ k) xs
  sets_under g [] q = tt
  sets_under g (x ∷ xs) q = ((λ e. s g x e (q.0 (not_left x g k e))), sets_under g xs q.1)

  beneath : (xs g : List Name) (r : Bool) (b : Term) → Fit U' S' O K r ((xs ++ g) ++ k) b → Fit U' S' O K r (xs ++ (g ++ k)) b
  beneath xs g r b f = subst (λ z. Fit U' S' O K r z b) (append_assoc xs g k) f

  pub fit_under : (t : Term) (r : Bool) (g : List Name) → Fit U S O K r g t → Fit U' S' O K r (g ++ k) t
  fit_under (Vals v) r g q = tt
  fit_under (Local x) r g q = λ e. u g x e (q (not_left x g k e))
  fit_under (Set xs a) r g q = (sets_under g xs q.0, fit_under a r g q.1)
  fit_under (Both a b) r g q = (fit_under a r g q.0, fit_under b r g q.1)
  fit_under (Prim' o a) r g q = (q.0, fit_under a r g q.1)
  fit_under (If a b c) r g q = (fit_under a r g q.0, fit_under b r g q.1, fit_under c r g q.2)
  fit_under (Let xs a b) r g q = (fit_under a r g q.0, beneath xs g r b (fit_under b r (xs ++ g) q.1))
  fit_under (Loop a b) r g q = (fit_under a r g q.0, fit_under b r g q.1)
  fit_under (Leave l) r g q = tt
  fit_under (Catch l a) r g q = fit_under a r g q
  fit_under (Within a rs) r g q = (slots_in rs g k q.0, fit_under a r g q.1)
  fit_under (Alone a) r g q = fit_under a true g q
  fit_under Recover r g q = q
  fit_under (Call f a) r g q = (q.0, fit_under a r g q.1)
  fit_under (Defer f a) r g q = (q.0, fit_under a r g q.1)
  fit_under (DeferLit xs a b) r g q = (q.0, fit_under a r g q.1, beneath xs g true b (fit_under b true (xs ++ g) q.2))

-- a term without a write
sets_free : (U S : List Name → Name → Type 0) (O : Op → Type 0) (K : Type 0) (g xs : List Name) → Sets U S O K g xs → Sets U S (λ o. (effect o).writes ≡ false) ⊥ g xs
sets_free U S O K g [] q = tt
sets_free U S O K g (x ∷ xs) q = (q.0, sets_free U S O K g xs q.1)

pub no_write_is : (U S : List Name → Name → Type 0) (t : Term) (r : Bool) (g : List Name) → writes t ≡ false → Fit U S (λ o. Unit {0}) (Unit {0}) r g t → Fit U S (λ o. (effect o).writes ≡ false) ⊥ r g t
no_write_is U S (Vals v) r g h f = tt
no_write_is U S (Local x) r g h f = f
no_write_is U S (Set xs a) r g h f = (sets_free U S (λ o. Unit {0}) (Unit {0}) g xs f.0, no_write_is U S a r g h f.1)
no_write_is U S (Both a b) r g h f = let q = neither _ _ h in (no_write_is U S a r g q.0 f.0, no_write_is U S b r g q.1 f.1)
no_write_is U S (Prim' o a) r g h f = let q = neither _ _ h in (q.0, no_write_is U S a r g q.1 f.1)
no_write_is U S (If a b c) r g h f = let q = neither _ _ h in let p = neither _ _ q.1 in (no_write_is U S a r g q.0 f.0, no_write_is U S b r g p.0 f.1, no_write_is U S c r g p.1 f.2)
no_write_is U S (Let xs a b) r g h f = let q = neither _ _ h in (no_write_is U S a r g q.0 f.0, no_write_is U S b r (xs ++ g) q.1 f.1)
no_write_is U S (Loop a b) r g h f = let q = neither _ _ h in (no_write_is U S a r g q.0 f.0, no_write_is U S b r g q.1 f.1)
no_write_is U S (Leave l) r g h f = tt
no_write_is U S (Catch l a) r g h f = no_write_is U S a r g h f
no_write_is U S (Within a rs) r g h f = (f.0, no_write_is U S a r g h f.1)
no_write_is U S (Alone a) r g h f = no_write_is U S a true g h f
no_write_is U S _ r g h f = absurd (true≢false h)
