-- Terms in which no local is both assigned and named by a deferred literal: each local has a mode, which its binder gives.
use Rattle.std.specs.Prelude.{◌≡◌, ◌⊎◌, refl, Bool, true, false, not, ◌&&◌, List, [], ◌∷◌, ◌++◌, if◌then◌else◌, bytes_eq}
use Rattle.std.proofs.Common.{arith, inl, inr}
use mathlib.Core.Path.{ap, ap₂, sym, ◌∙◌, subst}
use Rattle.std.proofs.lemmas.Slice.Eq.{bytes_eq-Decides}
use Rattle.go_kernel.specs.Kernel.{Name, Alloc, Term, Vals, Local, Set, Both, Prim, If, Let, Loop, Leave, Catch, Within, Alone, Recover, Call, Defer, DeferLit}
use Rattle.go_kernel.specs.Scope.{has}
use Rattle.go_translation.specs.Frames.{from_outside, slot_names, named, named_by_deferred, assigned, keeps, all_keep}

-- a local that may be assigned; one that deferred literals may name; one that stands outside a deferred literal
pub data Mode : Type 0 where
  Free Fixed Hidden : Mode

abbrev pub is_free : Mode → Bool
is_free Free = true
is_free m = false

abbrev pub is_fixed : Mode → Bool
is_fixed Fixed = true
is_fixed m = false

abbrev pub is_visible : Mode → Bool
is_visible Hidden = false
is_visible m = true

-- in a deferred literal
abbrev pub seal : Mode → Mode
seal Free = Hidden
seal m = m

abbrev pub Modes : Type 0
Modes = Name → Mode

abbrev pub sealed : Modes → Modes
sealed m x = seal (m x)

-- with these locals bound anew
abbrev pub over : List Name → Modes → Modes → Modes
over xs k m x = if has x xs then k x else m x

abbrev pub AllFree : Modes → List Name → Type 0
AllFree m [] = Unit {0}
AllFree m (x ∷ xs) = (is_free (m x) ≡ true) × AllFree m xs

abbrev pub AllVisible : Modes → List Name → Type 0
AllVisible m [] = Unit {0}
AllVisible m (x ∷ xs) = (is_visible (m x) ≡ true) × AllVisible m xs

abbrev pub Kept : Modes → Term → Type 0
Kept m (Vals vs) = Unit {0}
Kept m (Local x) = is_visible (m x) ≡ true
Kept m (Set xs (Prim Alloc a)) = AllVisible m xs × Kept m a
Kept m (Set xs a) = AllFree m xs × Kept m a
Kept m (Both a b) = Kept m a × Kept m b
Kept m (Prim o a) = Kept m a
Kept m (If a b c) = Kept m a × Kept m b × Kept m c
Kept m (Let xs a b) = (k : Modes) × Kept m a × Kept (over xs k m) b
Kept m (Loop a b) = Kept m a × Kept m b
Kept m (Leave l) = Unit {0}
Kept m (Catch l a) = Kept m a
Kept m (Within a rs) = AllVisible m (slot_names rs) × Kept m a
Kept m (Alone a) = Kept m a
Kept m Recover = Unit {0}
Kept m (Call f a) = Kept m a
Kept m (Defer f a) = Kept m a
Kept m (DeferLit xs a b) = (k : Modes) × Kept m a × Kept (over xs k (sealed m)) b

-- ---- modes

pub free_visible : (x : Mode) → is_free x ≡ true → is_visible x ≡ true
free_visible Free e = refl
free_visible Fixed e = grind (arith, e)
free_visible Hidden e = grind (arith, e)

pub fixed_visible : (x : Mode) → is_fixed x ≡ true → is_visible x ≡ true
fixed_visible Fixed e = refl
fixed_visible Free e = grind (arith, e)
fixed_visible Hidden e = grind (arith, e)

pub never_both : (x : Mode) → is_fixed x ≡ true → is_free x ≡ true → ⊥
never_both Free e f = grind (arith, e)
never_both Fixed e f = grind (arith, f)
never_both Hidden e f = grind (arith, e)

sealed_fixed : (x : Mode) → is_visible (seal x) ≡ true → is_fixed x ≡ true
sealed_fixed Free e = grind (arith, e)
sealed_fixed Fixed e = refl
sealed_fixed Hidden e = grind (arith, e)

sealed_free : (x : Mode) → is_free (seal x) ≡ true → ⊥
sealed_free Free e = grind (arith, e)
sealed_free Fixed e = grind (arith, e)
sealed_free Hidden e = grind (arith, e)

pub visible_all : (m : Modes) (xs : List Name) → AllFree m xs → AllVisible m xs
visible_all m [] a = tt
visible_all m (x ∷ xs) a = (free_visible (m x) a.0, visible_all m xs a.1)

pub set_kept : (m : Modes) (xs : List Name) (a : Term) → AllFree m xs → Kept m a → Kept m (Set xs a)
set_kept m xs (Prim Alloc a) f s = (visible_all m xs f, s)
set_kept m xs a f s = (f, s)

-- ---- names in lists

pub same_name : (x y : Name) → bytes_eq x y ≡ true → x ≡ y
same_name x y e = (bytes_eq-Decides x y).0 e

pub has_split : (x : Name) (xs ys : List Name) → has x (xs ++ ys) ≡ true → (has x xs ≡ true) ⊎ (has x ys ≡ true)
has_split x [] ys e = inr e
has_split x (y ∷ xs) ys e = go (bytes_eq x y) e (has_split x xs ys)
  where
    go : (b : Bool) → (if b then true else has x (xs ++ ys)) ≡ true → (has x (xs ++ ys) ≡ true → (has x xs ≡ true) ⊎ (has x ys ≡ true)) → ((if b then true else has x xs) ≡ true) ⊎ (has x ys ≡ true)
    go true e f = inl refl
    go false e f = f e

has_neither : (x : Name) (xs ys : List Name) → has x (xs ++ ys) ≡ false → (has x xs ≡ false) × (has x ys ≡ false)
has_neither x [] ys e = (refl, e)
has_neither x (y ∷ xs) ys e = go (bytes_eq x y) e (has_neither x xs ys)
  where
    go : (b : Bool) → (if b then true else has x (xs ++ ys)) ≡ false → (has x (xs ++ ys) ≡ false → (has x xs ≡ false) × (has x ys ≡ false)) → ((if b then true else has x xs) ≡ false) × (has x ys ≡ false)
    go true e f = absurd (grind (arith, e))
    go false e f = f e

outside_has : (x : Name) (g xs : List Name) → has x (from_outside g xs) ≡ true → (has x xs ≡ true) × (has x g ≡ false)
outside_has x g [] e = absurd (grind (arith, e))
outside_has x g (y ∷ xs) e = go (has y g) refl (bytes_eq x y) refl e (outside_has x g xs)
  where
    go : (b : Bool) → has y g ≡ b → (c : Bool) → bytes_eq x y ≡ c → has x (if b then from_outside g xs else y ∷ from_outside g xs) ≡ true → (has x (from_outside g xs) ≡ true → (has x xs ≡ true) × (has x g ≡ false)) → ((if c then true else has x xs) ≡ true) × (has x g ≡ false)
    go true p true q e f = (refl, (f e).1)
    go true p false q e f = f e
    go false p true q e f = (refl, subst (λ z. has z g ≡ false) (sym (same_name x y q)) p)
    go false p false q e f = f (sym (ap (λ c. if c then true else has x (from_outside g xs)) q) ∙ e)

free_at : (m : Modes) (x : Name) (xs : List Name) → AllFree m xs → has x xs ≡ true → is_free (m x) ≡ true
free_at m x [] a e = absurd (grind (arith, e))
free_at m x (y ∷ xs) a e = go (bytes_eq x y) refl e (free_at m x xs a.1)
  where
    go : (b : Bool) → bytes_eq x y ≡ b → (if b then true else has x xs) ≡ true → (has x xs ≡ true → is_free (m x) ≡ true) → is_free (m x) ≡ true
    go true q e f = subst (λ z. is_free (m z) ≡ true) (sym (same_name x y q)) a.0
    go false q e f = f e

visible_at : (m : Modes) (x : Name) (xs : List Name) → AllVisible m xs → has x xs ≡ true → is_visible (m x) ≡ true
visible_at m x [] a e = absurd (grind (arith, e))
visible_at m x (y ∷ xs) a e = go (bytes_eq x y) refl e (visible_at m x xs a.1)
  where
    go : (b : Bool) → bytes_eq x y ≡ b → (if b then true else has x xs) ≡ true → (has x xs ≡ true → is_visible (m x) ≡ true) → is_visible (m x) ≡ true
    go true q e f = subst (λ z. is_visible (m z) ≡ true) (sym (same_name x y q)) a.0
    go false q e f = f e

-- ---- what a term names and assigns, beyond what is bound within

module _ (x : Name) where
  abbrev Beyond : (Mode → Bool) → Modes → List Name → Type 0
  Beyond p m g = (has x g ≡ false) × (p (m x) ≡ true)

  beneath : (p : Mode → Bool) (xs g : List Name) (k m : Modes) → Beyond p (over xs k m) (xs ++ g) → Beyond p m g
  beneath p xs g k m b = let n : ((has x xs ≡ false) × (has x g ≡ false)) = has_neither x xs g b.0 in (n.1, sym (ap (λ c. p (if c then k x else m x)) n.0) ∙ b.1)

  either : (p : Mode → Bool) (m : Modes) (g ys zs : List Name) → (has x ys ≡ true → Beyond p m g) → (has x zs ≡ true → Beyond p m g) → has x (ys ++ zs) ≡ true → Beyond p m g
  either p m g ys zs f q e = go (has_split x ys zs e)
    where
      go : (has x ys ≡ true) ⊎ (has x zs ≡ true) → Beyond p m g
      go (inl a) = f a
      go (inr b) = q b

  set_free : (m : Modes) (g xs ys : List Name) → AllFree m xs → (has x ys ≡ true → Beyond is_free m g) → has x (from_outside g xs ++ ys) ≡ true → Beyond is_free m g
  set_free m g xs ys a f e = either is_free m g (from_outside g xs) ys (λ q. let o : ((has x xs ≡ true) × (has x g ≡ false)) = outside_has x g xs q in (o.1, free_at m x xs a o.0)) f e

  set_visible : (m : Modes) (g xs ys : List Name) → AllVisible m xs → (has x ys ≡ true → Beyond is_visible m g) → has x (from_outside g xs ++ ys) ≡ true → Beyond is_visible m g
  set_visible m g xs ys a f e = either is_visible m g (from_outside g xs) ys (λ q. let o : ((has x xs ≡ true) × (has x g ≡ false)) = outside_has x g xs q in (o.1, visible_at m x xs a o.0)) f e

  sealed_beyond : (m : Modes) (g : List Name) → Beyond is_visible (sealed m) g → Beyond is_visible m g
  sealed_beyond m g b = (b.0, fixed_visible (m x) (sealed_fixed (m x) b.1))

  pub assigned_free : (m : Modes) (g : List Name) (t : Term) → Kept m t → has x (assigned g t) ≡ true → Beyond is_free m g
  assigned_free m g (Vals vs) s e = absurd (grind (arith, e))
  assigned_free m g (Local y) s e = absurd (grind (arith, e))
  assigned_free m g (Set xs (Prim Alloc a)) s e = assigned_free m g a s.1 e
  assigned_free m g (Set xs a) s e = set_free m g xs (assigned g a) s.0 (λ q. assigned_free m g a s.1 q) e
  assigned_free m g (Both a b) s e = either is_free m g (assigned g a) (assigned g b) (λ q. assigned_free m g a s.0 q) (λ q. assigned_free m g b s.1 q) e
  assigned_free m g (Prim o a) s e = assigned_free m g a s e
  assigned_free m g (If a b c) s e = either is_free m g (assigned g a) (assigned g b ++ assigned g c) (λ q. assigned_free m g a s.0 q) (λ q. either is_free m g (assigned g b) (assigned g c) (λ q. assigned_free m g b s.1 q) (λ q. assigned_free m g c s.2 q) q) e
  assigned_free m g (Let xs a b) s e = either is_free m g (assigned g a) (assigned (xs ++ g) b) (λ q. assigned_free m g a s.1 q) (λ q. beneath is_free xs g s.0 m (assigned_free (over xs s.0 m) (xs ++ g) b s.2 q)) e
  assigned_free m g (Loop a b) s e = either is_free m g (assigned g a) (assigned g b) (λ q. assigned_free m g a s.0 q) (λ q. assigned_free m g b s.1 q) e
  assigned_free m g (Leave l) s e = absurd (grind (arith, e))
  assigned_free m g (Catch l a) s e = assigned_free m g a s e
  assigned_free m g (Within a rs) s e = assigned_free m g a s.1 e
  assigned_free m g (Alone a) s e = assigned_free m g a s e
  assigned_free m g Recover s e = absurd (grind (arith, e))
  assigned_free m g (Call f a) s e = assigned_free m g a s e
  assigned_free m g (Defer f a) s e = assigned_free m g a s e
  assigned_free m g (DeferLit xs a b) s e = either is_free m g (assigned g a) (assigned (xs ++ g) b) (λ q. assigned_free m g a s.1 q)
      (λ q. absurd (sealed_free (m x) (beneath is_free xs g s.0 (sealed m) (assigned_free (over xs s.0 (sealed m)) (xs ++ g) b s.2 q)).1)) e

  named_visible : (m : Modes) (g : List Name) (t : Term) → Kept m t → has x (named g t) ≡ true → Beyond is_visible m g
  named_visible m g (Vals vs) s e = absurd (grind (arith, e))
  named_visible m g (Local y) s e = let o : ((has x (y ∷ []) ≡ true) × (has x g ≡ false)) = outside_has x g (y ∷ []) e in (o.1, visible_at m x (y ∷ []) (s, tt) o.0)
  named_visible m g (Set xs (Prim Alloc a)) s e = set_visible m g xs (named g a) s.0 (λ q. named_visible m g a s.1 q) e
  named_visible m g (Set xs a) s e = set_visible m g xs (named g a) (visible_all m xs s.0) (λ q. named_visible m g a s.1 q) e
  named_visible m g (Both a b) s e = either is_visible m g (named g a) (named g b) (λ q. named_visible m g a s.0 q) (λ q. named_visible m g b s.1 q) e
  named_visible m g (Prim o a) s e = named_visible m g a s e
  named_visible m g (If a b c) s e = either is_visible m g (named g a) (named g b ++ named g c) (λ q. named_visible m g a s.0 q) (λ q. either is_visible m g (named g b) (named g c) (λ q. named_visible m g b s.1 q) (λ q. named_visible m g c s.2 q) q) e
  named_visible m g (Let xs a b) s e = either is_visible m g (named g a) (named (xs ++ g) b) (λ q. named_visible m g a s.1 q) (λ q. beneath is_visible xs g s.0 m (named_visible (over xs s.0 m) (xs ++ g) b s.2 q)) e
  named_visible m g (Loop a b) s e = either is_visible m g (named g a) (named g b) (λ q. named_visible m g a s.0 q) (λ q. named_visible m g b s.1 q) e
  named_visible m g (Leave l) s e = absurd (grind (arith, e))
  named_visible m g (Catch l a) s e = named_visible m g a s e
  named_visible m g (Within a rs) s e = set_visible m g (slot_names rs) (named g a) s.0 (λ q. named_visible m g a s.1 q) e
  named_visible m g (Alone a) s e = named_visible m g a s e
  named_visible m g Recover s e = absurd (grind (arith, e))
  named_visible m g (Call f a) s e = named_visible m g a s e
  named_visible m g (Defer f a) s e = named_visible m g a s e
  named_visible m g (DeferLit xs a b) s e = either is_visible m g (named g a) (named (xs ++ g) b) (λ q. named_visible m g a s.1 q)
      (λ q. sealed_beyond m g (beneath is_visible xs g s.0 (sealed m) (named_visible (over xs s.0 (sealed m)) (xs ++ g) b s.2 q))) e

  deferred_beyond : (m : Modes) (g : List Name) → Beyond is_visible (sealed m) g → Beyond is_fixed m g
  deferred_beyond m g b = (b.0, sealed_fixed (m x) b.1)

  pub deferred_fixed : (m : Modes) (g : List Name) (t : Term) → Kept m t → has x (named_by_deferred g t) ≡ true → Beyond is_fixed m g
  deferred_fixed m g (Vals vs) s e = absurd (grind (arith, e))
  deferred_fixed m g (Local y) s e = absurd (grind (arith, e))
  deferred_fixed m g (Set xs (Prim Alloc a)) s e = deferred_fixed m g a s.1 e
  deferred_fixed m g (Set xs a) s e = deferred_fixed m g a s.1 e
  deferred_fixed m g (Both a b) s e = either is_fixed m g (named_by_deferred g a) (named_by_deferred g b) (λ q. deferred_fixed m g a s.0 q) (λ q. deferred_fixed m g b s.1 q) e
  deferred_fixed m g (Prim o a) s e = deferred_fixed m g a s e
  deferred_fixed m g (If a b c) s e = either is_fixed m g (named_by_deferred g a) (named_by_deferred g b ++ named_by_deferred g c) (λ q. deferred_fixed m g a s.0 q) (λ q. either is_fixed m g (named_by_deferred g b) (named_by_deferred g c) (λ q. deferred_fixed m g b s.1 q) (λ q. deferred_fixed m g c s.2 q) q) e
  deferred_fixed m g (Let xs a b) s e = either is_fixed m g (named_by_deferred g a) (named_by_deferred (xs ++ g) b) (λ q. deferred_fixed m g a s.1 q) (λ q. beneath is_fixed xs g s.0 m (deferred_fixed (over xs s.0 m) (xs ++ g) b s.2 q)) e
  deferred_fixed m g (Loop a b) s e = either is_fixed m g (named_by_deferred g a) (named_by_deferred g b) (λ q. deferred_fixed m g a s.0 q) (λ q. deferred_fixed m g b s.1 q) e
  deferred_fixed m g (Leave l) s e = absurd (grind (arith, e))
  deferred_fixed m g (Catch l a) s e = deferred_fixed m g a s e
  deferred_fixed m g (Within a rs) s e = deferred_fixed m g a s.1 e
  deferred_fixed m g (Alone a) s e = deferred_fixed m g a s e
  deferred_fixed m g Recover s e = absurd (grind (arith, e))
  deferred_fixed m g (Call f a) s e = deferred_fixed m g a s e
  deferred_fixed m g (Defer f a) s e = deferred_fixed m g a s e
  deferred_fixed m g (DeferLit xs a b) s e = either is_fixed m g (named_by_deferred g a) (named (xs ++ g) b) (λ q. deferred_fixed m g a s.1 q)
      (λ q. deferred_beyond m g (beneath is_visible xs g s.0 (sealed m) (named_visible (over xs s.0 (sealed m)) (xs ++ g) b s.2 q))) e

-- ---- so frames are kept

pub kept_keeps : (m : Modes) (t : Term) (xs : List Name) → Kept m t → keeps xs t ≡ true
kept_keeps m t [] s = refl
kept_keeps m t (x ∷ xs) s = ap₂ (λ a b. a && b) (go (has x (named_by_deferred [] t)) refl (has x (assigned [] t)) refl) (kept_keeps m t xs s)
  where
    go : (a : Bool) → has x (named_by_deferred [] t) ≡ a → (b : Bool) → has x (assigned [] t) ≡ b → not (a && b) ≡ true
    go false p b q = refl
    go true p false q = refl
    go true p true q = absurd (never_both (m x) (deferred_fixed x m [] t s p).1 (assigned_free x m [] t s q).1)

pub kept_all : (m : Modes) (t : Term) → Kept m t → all_keep t ≡ true
kept_all m (Vals vs) s = refl
kept_all m (Local x) s = refl
kept_all m (Set xs (Prim Alloc a)) s = kept_all m a s.1
kept_all m (Set xs a) s = kept_all m a s.1
kept_all m (Both a b) s = ap₂ (λ a b. a && b) (kept_all m a s.0) (kept_all m b s.1)
kept_all m (Prim o a) s = kept_all m a s
kept_all m (If a b c) s = ap₂ (λ a b. a && b) (kept_all m a s.0) (ap₂ (λ a b. a && b) (kept_all m b s.1) (kept_all m c s.2))
kept_all m (Let xs a b) s = ap₂ (λ a b. a && b) (kept_keeps (over xs s.0 m) b xs s.2) (ap₂ (λ a b. a && b) (kept_all m a s.1) (kept_all (over xs s.0 m) b s.2))
kept_all m (Loop a b) s = ap₂ (λ a b. a && b) (kept_all m a s.0) (kept_all m b s.1)
kept_all m (Leave l) s = refl
kept_all m (Catch l a) s = kept_all m a s
kept_all m (Within a rs) s = kept_all m a s.1
kept_all m (Alone a) s = kept_all m a s
kept_all m Recover s = refl
kept_all m (Call f a) s = kept_all m a s
kept_all m (Defer f a) s = kept_all m a s
kept_all m (DeferLit xs a b) s = ap₂ (λ a b. a && b) (kept_keeps (over xs s.0 (sealed m)) b xs s.2) (ap₂ (λ a b. a && b) (kept_all m a s.1) (kept_all (over xs s.0 (sealed m)) b s.2))
