-- What a term calls or defers is offered, where all that it asks for is.
use Rattle.std.specs.Prelude.{◌≡◌, refl, ℕ, ◌⊎◌, true, ◌&&◌, List, [], ◌∷◌, ◌++◌, Option, Some, None}
use Rattle.std.specs.List.{list_any}
use mathlib.Core.Path.{ap, sym, ◌∙◌}
use Rattle.std.proofs.Common.{arith, inl, inr}
use Rattle.std.proofs.lemmas.List.Folds.{list_any-append}
use Rattle.std.proofs.lemmas.Slice.Eq.{bytes_eq-Decides}
use Rattle.go_kernel.specs.Kernel as k
use Rattle.go_kernel.specs.Kernel.{FuncName, same_text, same_receiver, same_func, Term, Vals, Local, Set, Both, Prim, If, Let, Loop, Leave, Catch, Within, Alone, Call, Defer, DeferLit}
use Rattle.go_kernel.specs.Alike.{Calls}
use Rattle.go_translation.specs.Asked.{called, deferred}
use Rattle.go_translation.proofs.Asking.{Offered, Found}
use Rattle.literal_steps.specs.RankedMarks.Calls.{IsAskedFor}
use Rattle.literal_steps.proofs.RankedMarks.Counting.{two, either}

-- ---- the calls of a term

module _ (d : Offered) (C : FuncName → Type 0) (each : (f : FuncName) → d.function f ≡ true → C f) where
  pub found_calls : (t : Term) → Found d t → Calls C t
  found_calls (Vals v) s = tt
  found_calls (Local x) s = tt
  found_calls (Set xs a) s = found_calls a s
  found_calls (Both a b) s = (found_calls a s.0, found_calls b s.1)
  found_calls (Prim (k.ReadGlobal p n) a) s = found_calls a s.1
  found_calls (Prim (k.GlobalAddress p n) a) s = found_calls a s.1
  found_calls (Prim o a) s = found_calls a s
  found_calls (If a b c) s = (found_calls a s.0, found_calls b s.1, found_calls c s.2)
  found_calls (Let xs a b) s = (found_calls a s.0, found_calls b s.1)
  found_calls (Loop a b) s = (found_calls a s.0, found_calls b s.1)
  found_calls (Leave l) s = tt
  found_calls (Catch l a) s = found_calls a s
  found_calls (Within a rs) s = found_calls a s
  found_calls (Alone a) s = found_calls a s
  found_calls k.Recover s = tt
  found_calls (Call f a) s = (each f s.0, found_calls a s.1)
  found_calls (Defer f a) s = found_calls a s.1
  found_calls (DeferLit xs a b) s = (found_calls a s.0, found_calls b s.1)

-- ---- what a term calls or defers

same_receivers : (a b : Option (List ℕ)) → same_receiver a b ≡ true → a ≡ b
same_receivers None None e = refl
same_receivers (Some a) (Some b) e = ap Some ((bytes_eq-Decides a b).0 e)
same_receivers None (Some b) e = absurd (grind (arith, e))
same_receivers (Some a) None e = absurd (grind (arith, e))

same_functions : (f g : FuncName) → same_func f g ≡ true → f ≡ g
same_functions f g e =
    let p = two (same_text f.home g.home) (same_receiver f.receiver g.receiver && same_text f.name g.name) e in
    let q = two (same_receiver f.receiver g.receiver) (same_text f.name g.name) p.1 in
    λ i. record { home = (bytes_eq-Decides f.home g.home).0 p.0 i; receiver = same_receivers f.receiver g.receiver q.0 i; name = (bytes_eq-Decides f.name g.name).0 q.1 i }

module _ (d : Offered) (c : FuncName) where
  abbrev Among : List FuncName → Type 0
  Among fs = list_any (same_func c) fs ≡ true

  parted : (fs gs : List FuncName) → Among (fs ++ gs) → Among fs ⊎ Among gs
  parted fs gs e = either (list_any (same_func c) fs) (list_any (same_func c) gs) (sym (list_any-append (same_func c) fs gs) ∙ e)

  one_of : {A B : Type 0} → A ⊎ B → (A → d.function c ≡ true) → (B → d.function c ≡ true) → d.function c ≡ true
  one_of (inl a) f g = f a
  one_of (inr b) f g = g b

  none_among : Among [] → d.function c ≡ true
  none_among e = absurd (grind (arith, e))

  first_among : (f : FuncName) (fs : List FuncName) → d.function f ≡ true → (Among fs → d.function c ≡ true) → Among (f ∷ fs) → d.function c ≡ true
  first_among f fs e k a = one_of (either (same_func c f) (list_any (same_func c) fs) a) (λ q. ap d.function (same_functions c f q) ∙ e) k

  found_called : (t : Term) → Found d t → Among (called t) → d.function c ≡ true
  found_called (Vals v) s e = none_among e
  found_called (Local x) s e = none_among e
  found_called (Set xs a) s e = found_called a s e
  found_called (Both a b) s e = one_of (parted (called a) (called b) e) (found_called a s.0) (found_called b s.1)
  found_called (Prim (k.ReadGlobal p n) a) s e = found_called a s.1 e
  found_called (Prim (k.GlobalAddress p n) a) s e = found_called a s.1 e
  found_called (Prim o a) s e = found_called a s e
  found_called (If x a b) s e = one_of (parted (called x) (called a ++ called b) e) (found_called x s.0) (λ z. one_of (parted (called a) (called b) z) (found_called a s.1) (found_called b s.2))
  found_called (Let xs a b) s e = one_of (parted (called a) (called b) e) (found_called a s.0) (found_called b s.1)
  found_called (Loop a b) s e = one_of (parted (called a) (called b) e) (found_called a s.0) (found_called b s.1)
  found_called (Leave l) s e = none_among e
  found_called (Catch l a) s e = found_called a s e
  found_called (Within a rs) s e = found_called a s e
  found_called (Alone a) s e = found_called a s e
  found_called k.Recover s e = none_among e
  found_called (Call f a) s e = first_among f (called a) s.0 (found_called a s.1) e
  found_called (Defer f a) s e = found_called a s.1 e
  found_called (DeferLit xs a b) s e = one_of (parted (called a) (called b) e) (found_called a s.0) (found_called b s.1)

  found_deferred : (t : Term) → Found d t → Among (deferred t) → d.function c ≡ true
  found_deferred (Vals v) s e = none_among e
  found_deferred (Local x) s e = none_among e
  found_deferred (Set xs a) s e = found_deferred a s e
  found_deferred (Both a b) s e = one_of (parted (deferred a) (deferred b) e) (found_deferred a s.0) (found_deferred b s.1)
  found_deferred (Prim (k.ReadGlobal p n) a) s e = found_deferred a s.1 e
  found_deferred (Prim (k.GlobalAddress p n) a) s e = found_deferred a s.1 e
  found_deferred (Prim o a) s e = found_deferred a s e
  found_deferred (If x a b) s e = one_of (parted (deferred x) (deferred a ++ deferred b) e) (found_deferred x s.0) (λ z. one_of (parted (deferred a) (deferred b) z) (found_deferred a s.1) (found_deferred b s.2))
  found_deferred (Let xs a b) s e = one_of (parted (deferred a) (deferred b) e) (found_deferred a s.0) (found_deferred b s.1)
  found_deferred (Loop a b) s e = one_of (parted (deferred a) (deferred b) e) (found_deferred a s.0) (found_deferred b s.1)
  found_deferred (Leave l) s e = none_among e
  found_deferred (Catch l a) s e = found_deferred a s e
  found_deferred (Within a rs) s e = found_deferred a s e
  found_deferred (Alone a) s e = found_deferred a s e
  found_deferred k.Recover s e = none_among e
  found_deferred (Call f a) s e = found_deferred a s.1 e
  found_deferred (Defer f a) s e = first_among f (deferred a) s.0 (found_deferred a s.1) e
  found_deferred (DeferLit xs a b) s e = one_of (parted (deferred a) (deferred b) e) (found_deferred a s.0) (found_deferred b s.1)

  pub found_asked : (t : Term) → Found d t → IsAskedFor c t → d.function c ≡ true
  found_asked t s e = one_of (parted (called t) (deferred t) e) (found_called t s) (found_deferred t s)
