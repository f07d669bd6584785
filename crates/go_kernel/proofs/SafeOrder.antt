-- The order of a safe set: where an argument's uses are listed before the items and the later uses that it must not be moved past.
use Rattle.std.proofs.Common.{◌⊎◌, ⊎_elim, inl, inr, ◌≡◌, ◌≤◌, List, [], ◌∷◌, Bool, true, false, true≢false, if◌then◌else◌, refl, sym, ap, ◌∙◌}
use Rattle.std.specs.Prelude.{bytes_eq}
use Rattle.go_kernel.specs.Kernel.{Name, Term}
use Rattle.go_kernel.specs.Arguments.{Arg, arg}
use Rattle.go_kernel.specs.Classes.{Class, Steady, Looks, Acts, steady, looks, class_of, allows, clash}
use Rattle.go_kernel.specs.Items.{Item, Param, Read, Fail, Write, Stop, is_stop}
use Rattle.go_kernel.specs.Choosing.{Row, is_use, is_write, is_effect, uses_before, Later, AreRows}
use Rattle.go_kernel.proofs.DeepItems.{steady_looks}
use Rattle.go_kernel.proofs.Parameters.{Every}
use Rattle.go_kernel.proofs.Movability.{acting_at, unsteady_at, no_look, no_act, Calm, Still, OnlyLooks}
use Rattle.go_kernel.proofs.UsesBefore.{or, before_same, before_or, nothing}

-- ---- classes

acts_class : (a : Term) → looks a ≡ false → class_of a ≡ Acts
acts_class a l = go (steady a) refl
  where
    go : (c : Bool) → steady a ≡ c → (if c then Steady else if looks a then Looks else Acts) ≡ Acts
    go true s = absurd (true≢false (sym (steady_looks a s) ∙ l))
    go false s = ap (λ c. if c then Looks else Acts) l

-- the class in a row of an argument that isn't steady
pub row_acts : (c : Class) (a : Term) → allows c (class_of a) ≡ true → looks a ≡ false → c ≡ Acts
row_acts Steady a h l = absurd (true≢false (sym h ∙ ap (allows Steady) (acts_class a l)))
row_acts Looks a h l = absurd (true≢false (sym h ∙ ap (allows Looks) (acts_class a l)))
row_acts Acts a h l = refl

pub row_unsteady : (c : Class) (a : Term) → allows c (class_of a) ≡ true → steady a ≡ false → (c ≡ Looks) ⊎ (c ≡ Acts)
row_unsteady Steady a h s = absurd (true≢false (sym h ∙ ap (λ k. allows Steady (if k then Steady else if looks a then Looks else Acts)) s ∙ go (looks a)))
  where
    go : (k : Bool) → allows Steady (if k then Looks else Acts) ≡ false
    go true = refl
    go false = refl
row_unsteady Looks a h s = inl refl
row_unsteady Acts a h s = inr refl

-- what an acting argument clashes with
clash_unsteady : (c : Class) (a : Term) → allows c (class_of a) ≡ true → steady a ≡ false → clash Acts c ≡ true
clash_unsteady c a h s = ⊎_elim (λ e. ap (clash Acts) e) (λ e. ap (clash Acts) e) (row_unsteady c a h s)

-- ---- kinds of items, one later argument at a time

look_base : (i : Item) → is_stop i ≡ false → no_look [] i ≡ is_write i
look_base (Param z) s = refl
look_base Read s = refl
look_base Fail s = refl
look_base Write s = refl
look_base Stop s = absurd (true≢false s)

look_acts : (z : Name) (a : Term) (fr : List Name) (os : List Arg) → looks a ≡ false → (i : Item) → is_stop i ≡ false → no_look (arg z a fr true ∷ os) i ≡ or (is_use z i) (no_look os i)
look_acts z a fr os l (Param w) s = go (bytes_eq w z)
  where
    go : (c : Bool) → (if c then (if looks a then acting_at os w else true) else acting_at os w) ≡ or c (acting_at os w)
    go true = ap (λ c. if c then acting_at os w else true) l
    go false = refl
look_acts z a fr os l Read s = refl
look_acts z a fr os l Fail s = refl
look_acts z a fr os l Write s = refl
look_acts z a fr os l Stop s = absurd (true≢false s)

look_looks : (z : Name) (a : Term) (fr : List Name) (os : List Arg) → looks a ≡ true → (i : Item) → is_stop i ≡ false → no_look (arg z a fr true ∷ os) i ≡ no_look os i
look_looks z a fr os l (Param w) s = go (bytes_eq w z)
  where
    go : (c : Bool) → (if c then (if looks a then acting_at os w else true) else acting_at os w) ≡ acting_at os w
    go true = ap (λ c. if c then acting_at os w else true) l
    go false = refl
look_looks z a fr os l Read s = refl
look_looks z a fr os l Fail s = refl
look_looks z a fr os l Write s = refl
look_looks z a fr os l Stop s = absurd (true≢false s)

look_bound : (z : Name) (a : Term) (fr : List Name) (os : List Arg) (i : Item) → is_stop i ≡ false → no_look (arg z a fr false ∷ os) i ≡ no_look os i
look_bound z a fr os (Param w) s = refl
look_bound z a fr os Read s = refl
look_bound z a fr os Fail s = refl
look_bound z a fr os Write s = refl
look_bound z a fr os Stop s = absurd (true≢false s)

act_base : (i : Item) → is_stop i ≡ false → no_act [] i ≡ is_effect i
act_base (Param z) s = refl
act_base Read s = refl
act_base Fail s = refl
act_base Write s = refl
act_base Stop s = absurd (true≢false s)

act_unsteady : (z : Name) (a : Term) (fr : List Name) (os : List Arg) → steady a ≡ false → (i : Item) → is_stop i ≡ false → no_act (arg z a fr true ∷ os) i ≡ or (is_use z i) (no_act os i)
act_unsteady z a fr os l (Param w) s = go (bytes_eq w z)
  where
    go : (c : Bool) → (if c then (if steady a then unsteady_at os w else true) else unsteady_at os w) ≡ or c (unsteady_at os w)
    go true = ap (λ c. if c then unsteady_at os w else true) l
    go false = refl
act_unsteady z a fr os l Read s = refl
act_unsteady z a fr os l Fail s = refl
act_unsteady z a fr os l Write s = refl
act_unsteady z a fr os l Stop s = absurd (true≢false s)

act_steady : (z : Name) (a : Term) (fr : List Name) (os : List Arg) → steady a ≡ true → (i : Item) → is_stop i ≡ false → no_act (arg z a fr true ∷ os) i ≡ no_act os i
act_steady z a fr os l (Param w) s = go (bytes_eq w z)
  where
    go : (c : Bool) → (if c then (if steady a then unsteady_at os w else true) else unsteady_at os w) ≡ unsteady_at os w
    go true = ap (λ c. if c then unsteady_at os w else true) l
    go false = refl
act_steady z a fr os l Read s = refl
act_steady z a fr os l Fail s = refl
act_steady z a fr os l Write s = refl
act_steady z a fr os l Stop s = absurd (true≢false s)

act_bound : (z : Name) (a : Term) (fr : List Name) (os : List Arg) (i : Item) → is_stop i ≡ false → no_act (arg z a fr false ∷ os) i ≡ no_act os i
act_bound z a fr os (Param w) s = refl
act_bound z a fr os Read s = refl
act_bound z a fr os Fail s = refl
act_bound z a fr os Write s = refl
act_bound z a fr os Stop s = absurd (true≢false s)

-- ---- the uses of x among the items I, where the later arguments of its row r are os with their rows

module _ (all : List Arg) (g : List Name) (t : Term) (x : Name) (r : Row) (I : List Item) (total : uses_before nothing x I ≤ r.uses) where
  -- a looking argument
  module _ (class : r.class ≡ Looks) where
    pub calm : (os : List Arg) (rows : List Row) → AreRows all g t os rows → Later r x I rows os → Every Calm os
    calm [] rows q h = tt
    calm (o ∷ os) [] q h = absurd q
    calm (arg z a fr true ∷ os) (k ∷ rows) q h = ((λ e. absurd (true≢false e)), calm os rows q.1 h.1)
    calm (arg z a fr false ∷ os) (k ∷ rows) q h = ((λ e. by_looks (looks a) refl), calm os rows q.1 h.1)
      where
        by_looks : (c : Bool) → looks a ≡ c → looks a ≡ true
        by_looks true e = e
        by_looks false e = absurd (true≢false (sym (h.0 (ap (λ c. clash c k.class) class ∙ ap (clash Looks) (row_acts k.class a q.0.0 e))).0))

    -- either no later argument does more than look, or one does, and the uses of x are listed before its uses
    pub scan : (os : List Arg) (rows : List Row) → AreRows all g t os rows → Later r x I rows os → Every OnlyLooks os ⊎ ((z : Name) × (uses_before (is_use z) x I ≡ r.uses))
    scan [] rows q h = inl tt
    scan (o ∷ os) [] q h = absurd q
    scan (arg z a fr c ∷ os) (k ∷ rows) q h = go (looks a) refl (scan os rows q.1 h.1)
      where
        go : (l : Bool) → looks a ≡ l → Every OnlyLooks os ⊎ ((z : Name) × (uses_before (is_use z) x I ≡ r.uses)) → Every OnlyLooks (arg z a fr c ∷ os) ⊎ ((z : Name) × (uses_before (is_use z) x I ≡ r.uses))
        go true e s = ⊎_elim (λ y. inl (e, y)) (λ y. inr y) s
        go false e s = inr (z, (h.0 (ap (λ c. clash c k.class) class ∙ ap (clash Looks) (row_acts k.class a q.0.0 e))).1)

    pub before_looking : (os : List Arg) (rows : List Row) → AreRows all g t os rows → Later r x I rows os → uses_before is_write x I ≡ r.uses → uses_before (no_look os) x I ≡ r.uses
    before_looking [] rows q h w = before_same x (no_look []) is_write look_base I ∙ w
    before_looking (o ∷ os) [] q h w = absurd q
    before_looking (arg z a fr false ∷ os) (k ∷ rows) q h w = before_same x (no_look (arg z a fr false ∷ os)) (no_look os) (look_bound z a fr os) I ∙ before_looking os rows q.1 h.1 w
    before_looking (arg z a fr true ∷ os) (k ∷ rows) q h w = go (looks a) refl (before_looking os rows q.1 h.1 w)
      where
        go : (l : Bool) → looks a ≡ l → uses_before (no_look os) x I ≡ r.uses → uses_before (no_look (arg z a fr true ∷ os)) x I ≡ r.uses
        go true e s = before_same x (no_look (arg z a fr true ∷ os)) (no_look os) (look_looks z a fr os e) I ∙ s
        go false e s =
            before_same x (no_look (arg z a fr true ∷ os)) (λ i. or (is_use z i) (no_look os i)) (look_acts z a fr os e) I
            ∙ before_or x (is_use z) (no_look os) I r.uses (h.0 (ap (λ c. clash c k.class) class ∙ ap (clash Looks) (row_acts k.class a q.0.0 e))).1 s total

  -- an acting argument
  module _ (class : r.class ≡ Acts) where
    pub still : (os : List Arg) (rows : List Row) → AreRows all g t os rows → Later r x I rows os → Every Still os
    still [] rows q h = tt
    still (o ∷ os) [] q h = absurd q
    still (arg z a fr true ∷ os) (k ∷ rows) q h = ((λ e. absurd (true≢false e)), still os rows q.1 h.1)
    still (arg z a fr false ∷ os) (k ∷ rows) q h = ((λ e. by_steady (steady a) refl), still os rows q.1 h.1)
      where
        by_steady : (c : Bool) → steady a ≡ c → steady a ≡ true
        by_steady true e = e
        by_steady false e = absurd (true≢false (sym (h.0 (ap (λ c. clash c k.class) class ∙ clash_unsteady k.class a q.0.0 e)).0))

    pub before_acting : (os : List Arg) (rows : List Row) → AreRows all g t os rows → Later r x I rows os → uses_before is_effect x I ≡ r.uses → uses_before (no_act os) x I ≡ r.uses
    before_acting [] rows q h w = before_same x (no_act []) is_effect act_base I ∙ w
    before_acting (o ∷ os) [] q h w = absurd q
    before_acting (arg z a fr false ∷ os) (k ∷ rows) q h w = before_same x (no_act (arg z a fr false ∷ os)) (no_act os) (act_bound z a fr os) I ∙ before_acting os rows q.1 h.1 w
    before_acting (arg z a fr true ∷ os) (k ∷ rows) q h w = go (steady a) refl (before_acting os rows q.1 h.1 w)
      where
        go : (l : Bool) → steady a ≡ l → uses_before (no_act os) x I ≡ r.uses → uses_before (no_act (arg z a fr true ∷ os)) x I ≡ r.uses
        go true e s = before_same x (no_act (arg z a fr true ∷ os)) (no_act os) (act_steady z a fr os e) I ∙ s
        go false e s =
            before_same x (no_act (arg z a fr true ∷ os)) (λ i. or (is_use z i) (no_act os i)) (act_unsteady z a fr os e) I
            ∙ before_or x (is_use z) (no_act os) I r.uses (h.0 (ap (λ c. clash c k.class) class ∙ clash_unsteady k.class a q.0.0 e)).1 s total
