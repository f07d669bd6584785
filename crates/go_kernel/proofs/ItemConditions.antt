-- Conditions on terms, from their lists of items and from the number of uses.
use Rattle.std.proofs.Common.{◌≡◌, ℕ, ◌+◌, List, [], ◌∷◌, ◌++◌, Bool, true, false, true≢false, if◌then◌else◌, refl, sym, ap, ◌∙◌, arith}
use Rattle.std.specs.Prelude.{bytes_eq}
use Rattle.go_kernel.specs.Kernel.{Name, Op, effect, Term, Vals, Local, Set, Both, Prim as Prim', If, Let, Loop, Leave, Catch, Within, Alone, Recover, Call, Defer, DeferLit}
use Rattle.go_kernel.proofs.TermConditions.{Fit, Sets}
use Rattle.go_kernel.proofs.DeepItems.{deep, clean, clean_join, both_true, calm_op}
use Rattle.go_kernel.specs.Items.{Item, Param, Write, Stop, is_stop, join, effect_items, uses}
use Rattle.go_kernel.specs.Classes.{looks}
use Rattle.go_kernel.specs.Scope.{has}

module _ (U S : List Name → Name → Type 0) (O : Op → Type 0) (K : Type 0) (x : Name) where
  -- a term in which x is not used
  abbrev pub Other : List Name → Name → Type 0
  Other g z = U g z × (bytes_eq z x ≡ false)

  sets_self : (g xs : List Name) → Sets U S O K g xs → Sets Other S O K g xs
  sets_self g [] h = tt
  sets_self g (z ∷ xs) h = (h.0, sets_self g xs h.1)

  left_zero : (m n : ℕ) → m + n ≡ 0 → m ≡ 0
  left_zero m n h = omega (arith, h)

  right_zero : (m n : ℕ) → m + n ≡ 0 → n ≡ 0
  right_zero m n h = omega (arith, h)

  one_local : (g : List Name) (z : Name) (c d : Bool) → bytes_eq z x ≡ d → has z g ≡ c → ◌≡◌ {A = ℕ} (if c then 0 else if d then 1 else 0) 0 → c ≡ false → bytes_eq z x ≡ false
  one_local g z true d e k h n = absurd (true≢false n)
  one_local g z false true e k h n = let no : ⊥ = omega (arith, h) in absurd no
  one_local g z false false e k h n = e

  pub unused_fit : (t : Term) (r : Bool) (g : List Name) → uses x g t ≡ 0 → Fit U S O K r g t → Fit Other S O K r g t
  unused_fit (Vals v) r g n h = tt
  unused_fit (Local z) r g n h = λ e. (h e, one_local g z (has z g) (bytes_eq z x) refl refl n e)
  unused_fit (Set xs a) r g n h = (sets_self g xs h.0, unused_fit a r g n h.1)
  unused_fit (Both a b) r g n h = (unused_fit a r g (left_zero _ _ n) h.0, unused_fit b r g (right_zero _ _ n) h.1)
  unused_fit (Prim' o a) r g n h = (h.0, unused_fit a r g n h.1)
  unused_fit (If a b c) r g n h = (unused_fit a r g (left_zero _ _ n) h.0, unused_fit b r g (left_zero _ _ (right_zero _ _ n)) h.1, unused_fit c r g (right_zero _ _ (right_zero _ _ n)) h.2)
  unused_fit (Let xs a b) r g n h = (unused_fit a r g (left_zero _ _ n) h.0, unused_fit b r (xs ++ g) (right_zero _ _ n) h.1)
  unused_fit (Loop a b) r g n h = (unused_fit a r g (left_zero _ _ n) h.0, unused_fit b r g (right_zero _ _ n) h.1)
  unused_fit (Leave l) r g n h = tt
  unused_fit (Catch l a) r g n h = unused_fit a r g n h
  unused_fit (Within a rs) r g n h = (h.0, unused_fit a r g n h.1)
  unused_fit (Alone a) r g n h = unused_fit a true g n h
  unused_fit Recover r g n h = h
  unused_fit (Call f a) r g n h = (h.0, unused_fit a r g n h.1)
  unused_fit (Defer f a) r g n h = (h.0, unused_fit a r g n h.1)
  unused_fit (DeferLit xs a b) r g n h = (h.0, unused_fit a r g (left_zero _ _ n) h.1, unused_fit b true (xs ++ g) (right_zero _ _ n) h.2)

  -- a term all of whose items are soft
  module _ (hard : Item → Bool) (stop_hard : (i : Item) → is_stop i ≡ true → hard i ≡ true) (write_hard : hard Write ≡ true) where
    abbrev Clean : List Item → Type 0
    Clean I = clean hard stop_hard x I ≡ true

    abbrev pub Soft : List Name → Name → Type 0
    Soft g z = U g z × (hard (Param z) ≡ false)

    abbrev pub SoftOp : Op → Type 0
    SoftOp o = O o × (clean hard stop_hard x (effect_items (effect o)) ≡ true)

    sets_soft : (g xs : List Name) → Sets U S O K g xs → Sets Soft S SoftOp ⊥ g xs
    sets_soft g [] h = tt
    sets_soft g (z ∷ xs) h = (h.0, sets_soft g xs h.1)

    soft_local : (z : Name) (c d : Bool) → hard (Param z) ≡ d → Clean (if c then [] else Param z ∷ []) → c ≡ false → hard (Param z) ≡ false
    soft_local z true d e h n = absurd (true≢false n)
    soft_local z false true e h n = absurd (true≢false (sym h ∙ ap (λ c. if c then false else true) e))
    soft_local z false false e h n = e

    stopped : {A : Type 0} → Clean (Stop ∷ []) → A
    stopped h = absurd (true≢false (sym h ∙ ap (λ c. if c then false else true) (stop_hard Stop refl)))

    written : {A : Type 0} → Clean (Write ∷ []) → A
    written h = absurd (true≢false (sym h ∙ ap (λ c. if c then false else true) write_hard))

    parts : (I J : List Item) → Clean (join I J) → Clean I × Clean J
    parts I J h = clean_join hard stop_hard x I J h

    pub clean_fit : (t : Term) (r : Bool) (g : List Name) → Clean (deep g t) → Fit U S O K r g t → Fit Soft S SoftOp ⊥ r g t
    clean_fit (Vals v) r g n h = tt
    clean_fit (Local z) r g n h = λ e. (h e, soft_local z (has z g) (hard (Param z)) refl n e)
    clean_fit (Set xs a) r g n h = (sets_soft g xs h.0, clean_fit a r g n h.1)
    clean_fit (Both a b) r g n h = let p = parts (deep g a) (deep g b) n in (clean_fit a r g p.0 h.0, clean_fit b r g p.1 h.1)
    clean_fit (Prim' o a) r g n h = let p = parts (deep g a) (effect_items (effect o)) n in ((h.0, p.1), clean_fit a r g p.0 h.1)
    clean_fit (If a b c) r g n h = stopped (parts (deep g a) (Stop ∷ []) n).1
    clean_fit (Let xs a b) r g n h = let p = parts (deep g a) (deep (xs ++ g) b) n in (clean_fit a r g p.0 h.0, clean_fit b r (xs ++ g) p.1 h.1)
    clean_fit (Loop a b) r g n h = stopped n
    clean_fit (Leave l) r g n h = tt
    clean_fit (Catch l a) r g n h = stopped (parts (deep g a) (Stop ∷ []) n).1
    clean_fit (Within a rs) r g n h = stopped (parts (deep g a) (Stop ∷ []) n).1
    clean_fit (Alone a) r g n h = stopped (parts (deep g a) (Stop ∷ []) n).1
    clean_fit Recover r g n h = h
    clean_fit (Call f a) r g n h = written (parts (deep g a) (Write ∷ []) n).1
    clean_fit (Defer f a) r g n h = stopped n
    clean_fit (DeferLit xs a b) r g n h = stopped n

-- an argument that looks writes nothing
pub calm_fit : (U S : List Name → Name → Type 0) (a : Term) (r : Bool) → looks a ≡ true → Fit U S (λ o. Unit {0}) (Unit {0}) r [] a → Fit U S (λ o. (effect o).writes ≡ false) ⊥ r [] a
calm_fit U S (Vals v) r h f = tt
calm_fit U S (Local y) r h f = f
calm_fit U S (Both a b) r h f = let q = both_true _ _ h in (calm_fit U S a r q.0 f.0, calm_fit U S b r q.1 f.1)
calm_fit U S (Prim' o a) r h f = let q = both_true _ _ h in ((calm_op (effect o) q.0).1, calm_fit U S a r q.1 f.1)
calm_fit U S (If d a b) r h f = let q = both_true _ _ h in let p = both_true _ _ q.1 in (calm_fit U S d r q.0 f.0, calm_fit U S a r p.0 f.1, calm_fit U S b r p.1 f.2)
calm_fit U S _ r h f = absurd (true≢false (sym h))
