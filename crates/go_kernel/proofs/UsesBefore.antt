-- The uses of a name that are listed before the first item of a kind: by kinds, by longer lists, and under more bound names.
use Rattle.std.proofs.Common.{◌≡◌, ℕ, ◌+◌, ◌≤◌, List, [], ◌∷◌, ◌++◌, Bool, true, false, true≢false, if◌then◌else◌, refl, sym, ap, ◌∙◌, subst, arith, append_assoc}
use Rattle.std.specs.Prelude.{bytes_eq}
use Rattle.go_kernel.specs.Kernel.{Name, Effect, effect, Term, Vals, Local, Set, Both, Prim as Prim', If, Let, Loop, Leave, Catch, Within, Alone, Recover, Call, Defer, DeferLit}
use Rattle.go_kernel.specs.Scope.{has}
use Rattle.go_kernel.specs.Items.{Item, Param, Read, Fail, Write, Stop, is_stop, join, change_items, effect_items, items, uses, writes}
use Rattle.go_kernel.specs.Choosing.{use_of, is_write, is_effect, uses_before}
use Rattle.go_kernel.proofs.FrameFacts.{by_has, has_left, has_right, has_none}
use Rattle.go_kernel.proofs.FreshNames.{name_true}
use Rattle.go_kernel.proofs.DeepItems as Listing
use Rattle.go_kernel.proofs.DeepItems.{deep, seen, clean, seen_join, seen_cut, seen_le, items_deep, seen_prefix}

-- ---- kinds of items

abbrev pub or : Bool → Bool → Bool
or true b = true
or false b = b

pub seen_is : (hard : Item → Bool) (sh : (i : Item) → is_stop i ≡ true → hard i ≡ true) (x : Name) (kind : Item → Bool) → ((i : Item) → is_stop i ≡ false → hard i ≡ kind i) → (I : List Item) → seen hard sh x I ≡ uses_before kind x I
seen_is hard sh x kind e [] = refl
seen_is hard sh x kind e (i ∷ I) = go (is_stop i) refl (seen_is hard sh x kind e I)
  where
    same : (i : Item) → Listing.is_param x i ≡ use_of x i
    same (Param z) = refl
    same Read = refl
    same Fail = refl
    same Write = refl
    same Stop = refl

    go : (c : Bool) → is_stop i ≡ c → seen hard sh x I ≡ uses_before kind x I → (if hard i then 0 else Listing.is_param x i + seen hard sh x I) ≡ (if c then 0 else if kind i then 0 else use_of x i + uses_before kind x I)
    go true s h = ap (λ c. if c then 0 else Listing.is_param x i + seen hard sh x I) (sh i s)
    go false s h = ap (λ c. if c then 0 else Listing.is_param x i + seen hard sh x I) (e i s) ∙ ap (λ n. if kind i then 0 else n) (cc (same i, h))

pub before_same : (x : Name) (k k' : Item → Bool) → ((i : Item) → is_stop i ≡ false → k i ≡ k' i) → (I : List Item) → uses_before k x I ≡ uses_before k' x I
before_same x k k' e [] = refl
before_same x k k' e (i ∷ I) = go (is_stop i) refl (before_same x k k' e I)
  where
    go : (s : Bool) → is_stop i ≡ s → uses_before k x I ≡ uses_before k' x I → (if s then 0 else if k i then 0 else use_of x i + uses_before k x I) ≡ (if s then 0 else if k' i then 0 else use_of x i + uses_before k' x I)
    go true q h = refl
    go false q h = ap (λ c. if c then 0 else use_of x i + uses_before k x I) (e i q) ∙ ap (λ n. if k' i then 0 else use_of x i + n) h

-- all that are listed
abbrev pub nothing : Item → Bool
nothing i = false

pub before_total : (x : Name) (k : Item → Bool) (I : List Item) → uses_before k x I ≤ uses_before nothing x I
before_total x k [] = omega arith
before_total x k (i ∷ I) = go (is_stop i) (k i) (before_total x k I)
  where
    go : (s c : Bool) → uses_before k x I ≤ uses_before nothing x I → (if s then 0 else if c then 0 else use_of x i + uses_before k x I) ≤ (if s then 0 else use_of x i + uses_before nothing x I)
    go true c h = omega arith
    go false true h = omega arith
    go false false h = omega (arith, h)

-- fewer items of a kind, more uses before
pub before_fewer : (x : Name) (k k' : Item → Bool) → ((i : Item) → k i ≡ false → k' i ≡ false) → (I : List Item) → uses_before k x I ≤ uses_before k' x I
before_fewer x k k' f [] = omega arith
before_fewer x k k' f (i ∷ I) = go (is_stop i) (k i) refl (before_fewer x k k' f I)
  where
    go : (s c : Bool) → k i ≡ c → uses_before k x I ≤ uses_before k' x I → (if s then 0 else if c then 0 else use_of x i + uses_before k x I) ≤ (if s then 0 else if k' i then 0 else use_of x i + uses_before k' x I)
    go true c e h = omega arith
    go false true e h = omega arith
    go false false e h = subst (λ d. (use_of x i + uses_before k x I) ≤ (if d then 0 else use_of x i + uses_before k' x I)) (sym (f i e)) (omega (arith, h))

pub write_is_effect : (i : Item) → is_effect i ≡ false → is_write i ≡ false
write_is_effect (Param z) h = refl
write_is_effect Read h = refl
write_is_effect Fail h = refl
write_is_effect Write h = absurd (true≢false h)
write_is_effect Stop h = refl

-- all uses stand before the first item of either kind
pub before_or : (x : Name) (k k' : Item → Bool) (I : List Item) (n : ℕ) → uses_before k x I ≡ n → uses_before k' x I ≡ n → uses_before nothing x I ≤ n → uses_before (λ i. or (k i) (k' i)) x I ≡ n
before_or x k k' [] n a b t = a
before_or x k k' (i ∷ I) n a b t = go (is_stop i) (k i) (k' i) (λ m. before_or x k k' I m) a b t
  where
    go : (s c d : Bool) → ((m : ℕ) → uses_before k x I ≡ m → uses_before k' x I ≡ m → uses_before nothing x I ≤ m → uses_before (λ i. or (k i) (k' i)) x I ≡ m) → (if s then 0 else if c then 0 else use_of x i + uses_before k x I) ≡ n → (if s then 0 else if d then 0 else use_of x i + uses_before k' x I) ≡ n → (if s then 0 else use_of x i + uses_before nothing x I) ≤ n
        → (if s then 0 else if or c d then 0 else use_of x i + uses_before (λ i. or (k i) (k' i)) x I) ≡ n
    go true c d r a b t = a
    go false true d r a b t = a
    go false false true r a b t = b
    go false false false r a b t =
        let u = use_of x i in
        let p : uses_before k x I ≡ uses_before k x I = refl in
        let q = r (uses_before k x I) p (let z : u + uses_before k' x I ≡ u + uses_before k x I = b ∙ sym a in omega (arith, z)) (omega (arith, a, t)) in
        ap (λ m. u + m) q ∙ a

-- ---- a term without writes lists none

abbrev NoWrites : List Item → Type 0
NoWrites [] = Unit {0}
NoWrites (i ∷ I) = (is_write i ≡ false) × NoWrites I

nowrites_join : (I J : List Item) → NoWrites I → NoWrites J → NoWrites (join I J)
nowrites_join [] J p q = q
nowrites_join (i ∷ I) J p q = go (is_stop i) (nowrites_join I J p.1 q)
  where
    go : (c : Bool) → NoWrites (join I J) → NoWrites (if c then i ∷ [] else i ∷ join I J)
    go true r = (p.0, tt)
    go false r = (p.0, r)

pub neither : (a b : Bool) → (if a then true else b) ≡ false → (a ≡ false) × (b ≡ false)
neither true b h = absurd (true≢false h)
neither false b h = (refl, h)

nowrites_effect : (e : Effect) → e.writes ≡ false → NoWrites (effect_items e)
nowrites_effect e w = go e.may_panic
  where
    changes : NoWrites (change_items e)
    changes = subst (λ c. NoWrites (if c then Write ∷ [] else if e.reads then Read ∷ [] else [])) (sym w) (reading e.reads)
      where
        reading : (c : Bool) → NoWrites (if c then Read ∷ [] else [])
        reading true = (refl, tt)
        reading false = tt

    go : (c : Bool) → NoWrites (if c then Fail ∷ change_items e else change_items e)
    go true = (refl, changes)
    go false = changes

nowrites_items : (t : Term) (g : List Name) → writes t ≡ false → NoWrites (items g t)
nowrites_items (Vals v) g h = tt
nowrites_items (Local x) g h = go (has x g)
  where
    go : (c : Bool) → NoWrites (if c then [] else Param x ∷ [])
    go true = tt
    go false = (refl, tt)
nowrites_items (Set xs a) g h = nowrites_items a g h
nowrites_items (Both a b) g h = let q = neither _ _ h in nowrites_join _ _ (nowrites_items a g q.0) (nowrites_items b g q.1)
nowrites_items (Prim' o a) g h = let q = neither _ _ h in nowrites_join _ _ (nowrites_items a g q.1) (nowrites_effect (effect o) q.0)
nowrites_items (If c a b) g h = let q = neither _ _ h in nowrites_join _ _ (nowrites_items c g q.0) (refl, tt)
nowrites_items (Let xs a b) g h = let q = neither _ _ h in nowrites_join _ _ (nowrites_items a g q.0) (nowrites_items b (xs ++ g) q.1)
nowrites_items (Loop a b) g h = (refl, tt)
nowrites_items (Leave l) g h = (refl, tt)
nowrites_items (Catch l a) g h = nowrites_join _ _ (nowrites_items a g h) (refl, tt)
nowrites_items (Within a rs) g h = (refl, tt)
nowrites_items (Alone a) g h = (refl, tt)
nowrites_items _ g h = absurd (true≢false h)

before_nowrites : (x : Name) (I : List Item) → NoWrites I → uses_before is_write x I ≡ uses_before nothing x I
before_nowrites x [] h = refl
before_nowrites x (i ∷ I) h = ap (λ c. if is_stop i then 0 else if c then 0 else use_of x i + uses_before is_write x I) h.0 ∙ ap (λ n. if is_stop i then 0 else use_of x i + n) (before_nowrites x I h.1)

pub before_unwritten : (x : Name) (t : Term) (g : List Name) → writes t ≡ false → uses_before is_write x (items g t) ≡ uses_before nothing x (items g t)
before_unwritten x t g h = before_nowrites x (items g t) (nowrites_items t g h)

-- ---- the listed uses are among the uses

stop_only : (i : Item) → is_stop i ≡ true → is_stop i ≡ true
stop_only i h = h

pub total_le : (x : Name) (t : Term) (g : List Name) → uses_before nothing x (items g t) ≤ uses x g t
total_le x t g =
    let a = seen_prefix is_stop stop_only x (items_deep t g) in
    let b = seen_le is_stop stop_only x t g in
    let c = seen_is is_stop stop_only x nothing (λ i s. s) (items g t) in
    omega (arith, a, b, c)

-- where all uses are listed, they are listed within literals too
pub listed_deep : (hard : Item → Bool) (sh : (i : Item) → is_stop i ≡ true → hard i ≡ true) (x : Name) (t : Term) (g : List Name) → seen hard sh x (items g t) ≡ uses x g t → seen hard sh x (deep g t) ≡ uses x g t
listed_deep hard sh x t g e =
    let a = seen_prefix hard sh x (items_deep t g) in
    let b = seen_le hard sh x t g in
    omega (arith, a, b, e)

-- ---- more bound names

-- a list without the uses of these names
data Erased (k : List Name) : List Item → List Item → Type 0 where
  none : Erased k [] []
  same : {i : Item} {I J : List Item} → Erased k I J → Erased k (i ∷ I) (i ∷ J)
  drop : {z : Name} {I J : List Item} → has z k ≡ true → Erased k I J → Erased k (Param z ∷ I) J

erased_self : (k : List Name) (I : List Item) → Erased k I I
erased_self k [] = none
erased_self k (i ∷ I) = same (erased_self k I)

erased_join : {k : List Name} {I I' J J' : List Item} → Erased k I I' → Erased k J J' → Erased k (join I J) (join I' J')
erased_join none q = q
erased_join (drop h p) q = drop h (erased_join p q)
erased_join {k} (same {i = i} p) q = go (is_stop i) (erased_join p q)
  where
    go : {K K' : List Item} (c : Bool) → Erased k K K' → Erased k (if c then i ∷ [] else i ∷ K) (if c then i ∷ [] else i ∷ K')
    go true r = same none
    go false r = same r

deep_erased : (k : List Name) (t : Term) (g : List Name) → Erased k (deep g t) (deep (g ++ k) t)
deep_erased k (Vals v) g = none
deep_erased k (Local x) g = by_has (has x g) (λ e. both e (has_left x g k e)) (λ e. by_has (has x k) (λ d. gone e d (has_right x g k d)) (λ d. stays e (has_none x g k e d)))
  where
    both : has x g ≡ true → has x (g ++ k) ≡ true → Erased k (if has x g then [] else Param x ∷ []) (if has x (g ++ k) then [] else Param x ∷ [])
    both e d = subst (λ c. Erased k (if c then [] else Param x ∷ []) (if has x (g ++ k) then [] else Param x ∷ [])) (sym e) (subst (λ c. Erased k [] (if c then [] else Param x ∷ [])) (sym d) none)

    gone : has x g ≡ false → has x k ≡ true → has x (g ++ k) ≡ true → Erased k (if has x g then [] else Param x ∷ []) (if has x (g ++ k) then [] else Param x ∷ [])
    gone e h d = subst (λ c. Erased k (if c then [] else Param x ∷ []) (if has x (g ++ k) then [] else Param x ∷ [])) (sym e) (subst (λ c. Erased k (Param x ∷ []) (if c then [] else Param x ∷ [])) (sym d) (drop h none))

    stays : has x g ≡ false → has x (g ++ k) ≡ false → Erased k (if has x g then [] else Param x ∷ []) (if has x (g ++ k) then [] else Param x ∷ [])
    stays e d = subst (λ c. Erased k (if c then [] else Param x ∷ []) (if has x (g ++ k) then [] else Param x ∷ [])) (sym e) (subst (λ c. Erased k (Param x ∷ []) (if c then [] else Param x ∷ [])) (sym d) (same none))
deep_erased k (Set xs a) g = deep_erased k a g
deep_erased k (Both a b) g = erased_join (deep_erased k a g) (deep_erased k b g)
deep_erased k (Prim' o a) g = erased_join (deep_erased k a g) (erased_self k _)
deep_erased k (If c a b) g = erased_join (deep_erased k c g) (erased_self k _)
deep_erased k (Let xs a b) g = erased_join (deep_erased k a g) (subst (λ z. Erased k (deep (xs ++ g) b) (deep z b)) (append_assoc xs g k) (deep_erased k b (xs ++ g)))
deep_erased k (Loop a b) g = erased_self k _
deep_erased k (Leave l) g = erased_self k _
deep_erased k (Catch l a) g = erased_join (deep_erased k a g) (erased_self k _)
deep_erased k (Within a rs) g = erased_join (deep_erased k a g) (erased_self k _)
deep_erased k (Alone a) g = erased_join (deep_erased k a g) (erased_self k _)
deep_erased k Recover g = erased_self k _
deep_erased k (Call f a) g = erased_join (deep_erased k a g) (erased_self k _)
deep_erased k (Defer f a) g = erased_self k _
deep_erased k (DeferLit xs a b) g = erased_self k _

module _ (hard : Item → Bool) (sh : (i : Item) → is_stop i ≡ true → hard i ≡ true) (x : Name) where
  seen_erased : {k : List Name} {I J : List Item} → Erased k I J → ((z : Name) → has z k ≡ true → (hard (Param z) ≡ false) × (bytes_eq z x ≡ false)) → seen hard sh x I ≡ seen hard sh x J
  seen_erased none s = refl
  seen_erased (same {i = i} p) s = ap (λ n. if hard i then 0 else Listing.is_param x i + n) (seen_erased p s)
  seen_erased (drop {z = z} {I = I} h p) s = let q = s z h in ap (λ c. if c then 0 else Listing.is_param x (Param z) + seen hard sh x I) q.0 ∙ ap (λ c. (if c then 1 else 0) + seen hard sh x I) q.1 ∙ (let r = seen_erased p s in omega (arith, r))

  pub seen_under : (k : List Name) (t : Term) (g : List Name) → ((z : Name) → has z k ≡ true → (hard (Param z) ≡ false) × (bytes_eq z x ≡ false)) → seen hard sh x (deep (g ++ k) t) ≡ seen hard sh x (deep g t)
  seen_under k t g s = sym (seen_erased (deep_erased k t g) s)

  by_bool : {B : Type 0} (b : Bool) → (b ≡ true → B) → (b ≡ false → B) → B
  by_bool true y n = y refl
  by_bool false y n = n refl

  pub seen_stopped : (I : List Item) → seen hard sh x (join I (Stop ∷ [])) ≡ seen hard sh x I
  seen_stopped I = by_bool (clean hard sh x I) (λ c. let q = seen_join hard sh x I (Stop ∷ []) c in let z = Listing.seen_stop' hard sh x in omega (arith, q, z)) (λ c. seen_cut hard sh x I (Stop ∷ []) c)

-- a name that isn't among more bound names is used as often
pub uses_under : (k : List Name) (x : Name) → has x k ≡ false → (t : Term) (g : List Name) → uses x (g ++ k) t ≡ uses x g t
uses_under k x h (Vals v) g = refl
uses_under k x h (Local z) g = by_has (bytes_eq z x) (λ e. named e) (λ e. cc (other (has z g) e, other (has z (g ++ k)) e))
  where
    other : (c : Bool) → bytes_eq z x ≡ false → ◌≡◌ {A = ℕ} (if c then 0 else if bytes_eq z x then 1 else 0) 0
    other true e = refl
    other false e = ap (λ c. if c then 1 else 0) e

    named : bytes_eq z x ≡ true → ◌≡◌ {A = ℕ} (if has z (g ++ k) then 0 else if bytes_eq z x then 1 else 0) (if has z g then 0 else if bytes_eq z x then 1 else 0)
    named e = let n : has z k ≡ false = subst (λ w. has w k ≡ false) (sym (name_true z x e)) h in by_has (has z g) (λ d. ap (λ c. if c then 0 else if bytes_eq z x then 1 else 0) (has_left z g k d ∙ sym d)) (λ d. ap (λ c. if c then 0 else if bytes_eq z x then 1 else 0) (has_none z g k d n ∙ sym d))
uses_under k x h (Set xs a) g = uses_under k x h a g
uses_under k x h (Both a b) g = cc (uses_under k x h a g, uses_under k x h b g)
uses_under k x h (Prim' o a) g = uses_under k x h a g
uses_under k x h (If c a b) g = cc (uses_under k x h c g, uses_under k x h a g, uses_under k x h b g)
uses_under k x h (Let xs a b) g = cc (uses_under k x h a g, sym (ap (λ z. uses x z b) (append_assoc xs g k)) ∙ uses_under k x h b (xs ++ g))
uses_under k x h (Loop a b) g = cc (uses_under k x h a g, uses_under k x h b g)
uses_under k x h (Leave l) g = refl
uses_under k x h (Catch l a) g = uses_under k x h a g
uses_under k x h (Within a rs) g = uses_under k x h a g
uses_under k x h (Alone a) g = uses_under k x h a g
uses_under k x h Recover g = refl
uses_under k x h (Call f a) g = uses_under k x h a g
uses_under k x h (Defer f a) g = uses_under k x h a g
uses_under k x h (DeferLit xs a b) g = cc (uses_under k x h a g, sym (ap (λ z. uses x z b) (append_assoc xs g k)) ∙ uses_under k x h b (xs ++ g))
