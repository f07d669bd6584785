-- What can be read off the list of what a term does: how often a name is used before the first item of a hard kind.
use Rattle.std.proofs.Common.{◌≡◌, ℕ, ◌+◌, ◌≤◌, List, [], ◌∷◌, ◌++◌, Bool, true, false, true≢false, if◌then◌else◌, refl, sym, ap, ◌∙◌, arith}
use Rattle.std.specs.Prelude.{bytes_eq}
use Rattle.go_kernel.specs.Kernel.{Name, Effect, effect, Term, Vals, Local, Set, Both, Prim as Prim', If, Let, Loop, Leave, Catch, Within, Alone, Recover, Call, Defer, DeferLit}
use Rattle.go_kernel.specs.Scope.{has}
use Rattle.go_kernel.specs.Classes.{looks, steady, only_looks, only_computes}
use Rattle.go_kernel.specs.Items.{Item, Param, Read, Fail, Write, Stop, is_stop, join, change_items, effect_items, items, uses}
use Rattle.go_kernel.proofs.Table.{look_is, pure_is, sees_memory}
use Rattle.go_kernel.proofs.Looks

pub both_true : (a b : Bool) → (if a then b else false) ≡ true → (a ≡ true) × (b ≡ true)
both_true true b h = (refl, h)
both_true false b h = absurd (true≢false (sym h))

pub not_true : (b c : Bool) → (if b then false else c) ≡ true → (b ≡ false) × (c ≡ true)
not_true true c h = absurd (true≢false (sym h))
not_true false c h = (refl, h)

pub calm_op : (e : Effect) → only_looks e ≡ true → (e.may_panic ≡ false) × (e.writes ≡ false) × (e.draws ≡ false)
calm_op e h = let q = not_true e.may_panic (if e.writes then false else if e.draws then false else true) h in let p = not_true e.writes (if e.draws then false else true) q.1 in (q.0, p.0, (not_true e.draws true p.1).0)

pub pure_op : (e : Effect) → only_computes e ≡ true → (e.reads ≡ false) × (e.may_panic ≡ false) × (e.writes ≡ false)
pure_op e h = let q = not_true e.reads (only_looks e) h in let p = calm_op e q.1 in (q.0, p.0, p.1)

pub steady_looks : (a : Term) → steady a ≡ true → looks a ≡ true
steady_looks (Vals v) h = refl
steady_looks (Local y) h = refl
steady_looks (Both a b) h = let q = both_true _ _ h in ap (λ c. if c then looks b else false) (steady_looks a q.0) ∙ steady_looks b q.1
steady_looks (Prim' o a) h = let q = both_true _ _ h in ap (λ c. if c then looks a else false) (not_true (effect o).reads (only_looks (effect o)) q.0).1 ∙ steady_looks a q.1
steady_looks (If d a b) h = let q = both_true _ _ h in let p = both_true _ _ q.1 in ap (λ c. if c then (if looks a then looks b else false) else false) (steady_looks d q.0) ∙ ap (λ c. if c then looks b else false) (steady_looks a p.0) ∙ steady_looks b p.1
steady_looks _ h = absurd (true≢false (sym h))

pub looks_is : (a : Term) → looks a ≡ true → Looks.Looks a
looks_is (Vals v) h = tt
looks_is (Local y) h = tt
looks_is (Both a b) h = let q = both_true _ _ h in (looks_is a q.0, looks_is b q.1)
looks_is (Prim' o a) h = let q = both_true _ _ h in let p = calm_op (effect o) q.0 in (look_is o p.0 p.1 p.2, sees_memory o p.2, looks_is a q.1)
looks_is (If d a b) h = let q = both_true _ _ h in let p = both_true _ _ q.1 in (looks_is d q.0, looks_is a p.0, looks_is b p.1)
looks_is _ h = absurd (true≢false (sym h))

pub steady_is : (a : Term) → steady a ≡ true → Looks.Steady a
steady_is (Both a b) h = let q = both_true _ _ h in (steady_is a q.0, steady_is b q.1)
steady_is (Prim' o a) h = let q = both_true _ _ h in let p = pure_op (effect o) q.0 in (pure_is o p.1 p.0, steady_is a q.1)
steady_is (If d a b) h = let q = both_true _ _ h in let p = both_true _ _ q.1 in (steady_is d q.0, steady_is a p.0, steady_is b p.1)
steady_is _ h = tt

-- the list that goes on within called literals
abbrev pub deep : List Name → Term → List Item
deep g (Vals v) = []
deep g (Local x) = if has x g then [] else Param x ∷ []
deep g (Set xs a) = deep g a
deep g (Both a b) = join (deep g a) (deep g b)
deep g (Prim' o a) = join (deep g a) (effect_items (effect o))
deep g (If c a b) = join (deep g c) (Stop ∷ [])
deep g (Let xs a b) = join (deep g a) (deep (xs ++ g) b)
deep g (Loop a b) = Stop ∷ []
deep g (Leave l) = Stop ∷ []
deep g (Catch l a) = join (deep g a) (Stop ∷ [])
deep g (Within a rs) = join (deep g a) (Stop ∷ [])
deep g (Alone a) = join (deep g a) (Stop ∷ [])
deep g Recover = Write ∷ []
deep g (Call f a) = join (deep g a) (Write ∷ [])
deep g (Defer f a) = Stop ∷ []
deep g (DeferLit xs a b) = Stop ∷ []

abbrev pub is_param : Name → Item → ℕ
is_param x (Param z) = if bytes_eq z x then 1 else 0
is_param x _ = 0

module _ (hard : Item → Bool) (stop_hard : (i : Item) → is_stop i ≡ true → hard i ≡ true) (x : Name) where
  -- the uses of x that are listed before the first hard item
  abbrev pub seen : List Item → ℕ
  seen [] = 0
  seen (i ∷ I) = if hard i then 0 else is_param x i + seen I

  abbrev pub clean : List Item → Bool
  clean [] = true
  clean (i ∷ I) = if hard i then false else clean I

  pub seen_join : (I J : List Item) → clean I ≡ true → seen (join I J) ≡ seen I + seen J
  seen_join [] J h = omega arith
  seen_join (i ∷ I) J h = go (hard i) refl (is_stop i) refl h (seen_join I J)
    where
      go : (c : Bool) → hard i ≡ c → (d : Bool) → is_stop i ≡ d → (if c then false else clean I) ≡ true → (clean I ≡ true → seen (join I J) ≡ seen I + seen J) → seen (if d then i ∷ [] else i ∷ join I J) ≡ (if c then 0 else is_param x i + seen I) + seen J
      go true e d k h r = absurd (true≢false (sym h))
      go false e true k h r = absurd (true≢false (sym (stop_hard i k) ∙ e))
      go false e false k h r = ap (λ c. if c then 0 else is_param x i + seen (join I J)) e ∙ (let q = r h in omega (arith, q))

  pub seen_cut : (I J : List Item) → clean I ≡ false → seen (join I J) ≡ seen I
  seen_cut [] J h = absurd (true≢false h)
  seen_cut (i ∷ I) J h = go (hard i) refl (is_stop i) refl h (seen_cut I J)
    where
      go : (c : Bool) → hard i ≡ c → (d : Bool) → is_stop i ≡ d → (if c then false else clean I) ≡ false → (clean I ≡ false → seen (join I J) ≡ seen I) → seen (if d then i ∷ [] else i ∷ join I J) ≡ (if c then 0 else is_param x i + seen I)
      go true e true k h r = ap (λ c. if c then 0 else is_param x i + 0) e
      go true e false k h r = ap (λ c. if c then 0 else is_param x i + seen (join I J)) e
      go false e true k h r = absurd (true≢false (sym (stop_hard i k) ∙ e))
      go false e false k h r = ap (λ c. if c then 0 else is_param x i + seen (join I J)) e ∙ ap (λ n. is_param x i + n) (r h)

  pub clean_join : (I J : List Item) → clean (join I J) ≡ true → (clean I ≡ true) × (clean J ≡ true)
  clean_join [] J h = (refl, h)
  clean_join (i ∷ I) J h = go (hard i) refl (is_stop i) refl h (clean_join I J)
    where
      go : (c : Bool) → hard i ≡ c → (d : Bool) → is_stop i ≡ d → clean (if d then i ∷ [] else i ∷ join I J) ≡ true → (clean (join I J) ≡ true → (clean I ≡ true) × (clean J ≡ true)) → ((if c then false else clean I) ≡ true) × (clean J ≡ true)
      go true e true k h r = absurd (true≢false (sym h ∙ ap (λ c. if c then false else true) e))
      go true e false k h r = absurd (true≢false (sym h ∙ ap (λ c. if c then false else clean (join I J)) e))
      go false e true k h r = absurd (true≢false (sym (stop_hard i k) ∙ e))
      go false e false k h r = r (sym (ap (λ c. if c then false else clean (join I J)) e) ∙ h)

  by_bool : {A : Type 0} (b : Bool) → (b ≡ true → A) → (b ≡ false → A) → A
  by_bool true y n = y refl
  by_bool false y n = n refl

  join_le : (I J : List Item) (m n : ℕ) → seen I ≤ m → seen J ≤ n → seen (join I J) ≤ m + n
  join_le I J m n h k = by_bool (clean I) (λ e. let q = seen_join I J e in omega (arith, q)) (λ e. let q = seen_cut I J e in omega (arith, q))

  seen_stop : seen (Stop ∷ []) ≡ 0
  seen_stop = ap (λ c. if c then 0 else 0) (stop_hard Stop refl)

  seen_one : (i : Item) → is_param x i ≡ 0 → seen (i ∷ []) ≡ 0
  seen_one i h = go (hard i)
    where
      go : (c : Bool) → (if c then 0 else is_param x i + 0) ≡ 0
      go true = refl
      go false = omega (arith, h)

  seen_changes : (w r : Bool) → seen (if w then Write ∷ [] else if r then Read ∷ [] else []) ≡ 0
  seen_changes true r = seen_one Write refl
  seen_changes false true = seen_one Read refl
  seen_changes false false = refl

  seen_fail : (c : Bool) (I : List Item) → seen I ≡ 0 → seen (if c then Fail ∷ I else I) ≡ 0
  seen_fail true I h = go (hard Fail)
    where
      go : (c : Bool) → (if c then 0 else 0 + seen I) ≡ 0
      go true = refl
      go false = omega (arith, h)
  seen_fail false I h = h

  pub seen_effect : (e : Effect) → seen (effect_items e) ≡ 0
  seen_effect e = seen_fail e.may_panic (change_items e) (seen_changes e.writes e.reads)

  pub seen_le : (t : Term) (g : List Name) → seen (deep g t) ≤ uses x g t
  seen_le (Vals v) g = omega arith
  seen_le (Local z) g = go (has z g)
    where
      go : (c : Bool) → seen (if c then [] else Param z ∷ []) ≤ (if c then 0 else if bytes_eq z x then 1 else 0)
      go true = omega arith
      go false = two (hard (Param z)) (bytes_eq z x)
        where
          two : (c d : Bool) → (if c then 0 else (if d then 1 else 0) + 0) ≤ (if d then 1 else 0)
          two true d = omega arith
          two false true = omega arith
          two false false = omega arith
  seen_le (Set xs a) g = seen_le a g
  seen_le (Both a b) g = join_le (deep g a) (deep g b) _ _ (seen_le a g) (seen_le b g)
  seen_le (Prim' o a) g = let p = join_le (deep g a) (effect_items (effect o)) (uses x g a) 0 (seen_le a g) (let q = seen_effect (effect o) in omega (arith, q)) in omega (arith, p)
  seen_le (If a b c) g = let p = join_le (deep g a) (Stop ∷ []) (uses x g a) 0 (seen_le a g) (let q = seen_stop in omega (arith, q)) in omega (arith, p)
  seen_le (Let xs a b) g = join_le (deep g a) (deep (xs ++ g) b) _ _ (seen_le a g) (seen_le b (xs ++ g))
  seen_le (Loop a b) g = let q = seen_stop in omega (arith, q)
  seen_le (Leave l) g = let q = seen_stop in omega (arith, q)
  seen_le (Catch l a) g = let p = join_le (deep g a) (Stop ∷ []) (uses x g a) 0 (seen_le a g) (let q = seen_stop in omega (arith, q)) in omega (arith, p)
  seen_le (Within a rs) g = let p = join_le (deep g a) (Stop ∷ []) (uses x g a) 0 (seen_le a g) (let q = seen_stop in omega (arith, q)) in omega (arith, p)
  seen_le (Alone a) g = let p = join_le (deep g a) (Stop ∷ []) (uses x g a) 0 (seen_le a g) (let q = seen_stop in omega (arith, q)) in omega (arith, p)
  seen_le Recover g = let q = seen_one Write refl in omega (arith, q)
  seen_le (Call f a) g = let p = join_le (deep g a) (Write ∷ []) (uses x g a) 0 (seen_le a g) (let q = seen_one Write refl in omega (arith, q)) in omega (arith, p)
  seen_le (Defer f a) g = let q = seen_stop in omega (arith, q)
  seen_le (DeferLit xs a b) g = let q = seen_stop in omega (arith, q)

  -- where all uses in two parts are listed in front, so are those of the first; the second part is listed too, or has none
  pub data Split (I J : List Item) (m n : ℕ) : Type 0 where
    goes_on : clean I ≡ true → seen J ≡ n → Split I J m n
    ends : n ≡ 0 → Split I J m n

  pub split : (I J : List Item) (m n : ℕ) → seen I ≤ m → seen J ≤ n → seen (join I J) ≡ m + n → (seen I ≡ m) × Split I J m n
  split I J m n h k e = by_bool (clean I) (λ c. let q = seen_join I J c in (omega (arith, q, e), goes_on c (omega (arith, q, e)))) (λ c. let q = seen_cut I J c in (omega (arith, q, e), ends (omega (arith, q, e))))

  -- the same with nothing in the second part
  pub alone : (I J : List Item) (m : ℕ) → seen I ≤ m → seen J ≡ 0 → seen (join I J) ≡ m → seen I ≡ m
  alone I J m h k e = by_bool (clean I) (λ c. let q = seen_join I J c in omega (arith, q, e, k)) (λ c. let q = seen_cut I J c in omega (arith, q, e))

  pub seen_stop' : seen (Stop ∷ []) ≡ 0
  seen_stop' = seen_stop

  pub seen_write' : seen (Write ∷ []) ≡ 0
  seen_write' = seen_one Write refl

-- a list of which each item is the other's, up to its end by Stop
pub data Prefix : List Item → List Item → Type 0 where
  ends : Prefix [] []
  stops : {J : List Item} → Prefix (Stop ∷ []) J
  next : {i : Item} {I J : List Item} → Prefix I J → Prefix (i ∷ I) (i ∷ J)

prefix_self : (I : List Item) → Prefix I I
prefix_self [] = ends
prefix_self (i ∷ I) = next (prefix_self I)

prefix_join : {I I' J J' : List Item} → Prefix I I' → Prefix J J' → Prefix (join I J) (join I' J')
prefix_join ends q = q
prefix_join stops q = stops
prefix_join (next {i = i} {I = I} {J = I'} p) q = go (is_stop i) (prefix_join p q)
  where
    go : {K K' : List Item} (c : Bool) → Prefix K K' → Prefix (if c then i ∷ [] else i ∷ K) (if c then i ∷ [] else i ∷ K')
    go true r = next ends
    go false r = next r

-- what is listed is a front of what is listed in literals too
pub items_deep : (t : Term) (g : List Name) → Prefix (items g t) (deep g t)
items_deep (Vals v) g = ends
items_deep (Local x) g = prefix_self _
items_deep (Set xs a) g = items_deep a g
items_deep (Both a b) g = prefix_join (items_deep a g) (items_deep b g)
items_deep (Prim' o a) g = prefix_join (items_deep a g) (prefix_self _)
items_deep (If c a b) g = prefix_join (items_deep c g) (prefix_self _)
items_deep (Let xs a b) g = prefix_join (items_deep a g) (items_deep b (xs ++ g))
items_deep (Loop a b) g = prefix_self _
items_deep (Leave l) g = prefix_self _
items_deep (Catch l a) g = prefix_join (items_deep a g) (prefix_self _)
items_deep (Within a rs) g = stops
items_deep (Alone a) g = stops
items_deep Recover g = prefix_self _
items_deep (Call f a) g = prefix_join (items_deep a g) (prefix_self _)
items_deep (Defer f a) g = prefix_self _
items_deep (DeferLit xs a b) g = prefix_self _

pub seen_prefix : (hard : Item → Bool) (stop_hard : (i : Item) → is_stop i ≡ true → hard i ≡ true) (x : Name) {I J : List Item} → Prefix I J → seen hard stop_hard x I ≤ seen hard stop_hard x J
seen_prefix hard sh x ends = omega arith
seen_prefix hard sh x (stops {J = J}) = let q = seen_stop' hard sh x in omega (arith, q)
seen_prefix hard sh x (next {i = i} {I = I} {J = J} p) = go (hard i) (seen_prefix hard sh x p)
  where
    go : (c : Bool) → seen hard sh x I ≤ seen hard sh x J → (if c then 0 else is_param x i + seen hard sh x I) ≤ (if c then 0 else is_param x i + seen hard sh x J)
    go true h = omega arith
    go false h = omega (arith, h)
