-- What lists contain that are made by filters, maps and merges.
use Rattle.std.proofs.Common.{◌≡◌, zero, suc, Bool, true, false, ◌||◌, cond, if◌then◌else◌, List, [], ◌∷◌, map, filter, filter_map, Contains, Option, Some, None, ◌⊎◌, inl, inr, refl, nat_le, arith}
use Rattle.std.specs.List.{list_any, cons_option}
use Rattle.directive_scan.specs.declared.mark_types.BadMark.{BadMark}
use Rattle.directive_scan.specs.Marked.{merge_at, placed_in}

-- ---- membership by recursion

abbrev pub In : {X : Type 0} → List X → X → Type 0
In [] x = ⊥
In (y ∷ ys) x = (y ≡ x) ⊎ In ys x

pub in_of : {X : Type 0} (xs : List X) (x : X) → Contains xs x → In xs x
in_of [] x (k, l, e) = grind (arith, l)
in_of (y ∷ ys) x (zero, l, e) = inl e
in_of (y ∷ ys) x (suc k, l, e) = inr (in_of ys x (k, grind (arith, l), e))

next_one : {X : Type 0} (y : X) (ys : List X) (x : X) → Contains ys x → Contains (y ∷ ys) x
next_one y ys x (k, l, e) = (suc k, grind (arith, l), e)

pub in_at : {X : Type 0} (xs : List X) (x : X) → In xs x → Contains xs x
in_at [] x h = elim h [ ]
in_at (y ∷ ys) x (inl e) = (0, grind arith, e)
in_at (y ∷ ys) x (inr h) = next_one y ys x (in_at ys x h)

-- ---- tests

module _ {X : Type 0} (p : X → Bool) where
  -- an element that passes
  pub record Passing (xs : List X) : Type 0 where
    pub one : X
    pub within : In xs one
    pub passes : p one ≡ true

  any_by : (y : X) (ys : List X) (b : Bool) → p y ≡ b → (list_any p ys ≡ true → Passing ys) → (b || list_any p ys) ≡ true → Passing (y ∷ ys)
  any_by y ys true e f h = record { one = y; within = inl refl; passes = e }
  any_by y ys false e f h = let r = f h in record { one = r.one; within = inr r.within; passes = r.passes }

  pub any_found : (xs : List X) → list_any p xs ≡ true → Passing xs
  any_found [] h = grind (arith, h)
  any_found (y ∷ ys) h = any_by y ys (p y) refl (any_found ys) h

  pub any_shown : (xs : List X) (x : X) → In xs x → p x ≡ true → list_any p xs ≡ true
  any_shown [] x h e = elim h [ ]
  any_shown (y ∷ ys) x (inl i) e = grind (arith, i, e)
  any_shown (y ∷ ys) x (inr i) e = grind (arith, any_shown ys x i e)

-- ---- filters

module _ {X Y : Type 0} (f : X → Option Y) (p : X → Bool) where
  -- an element that passes and gives the value
  pub record Gives (xs : List X) (y : Y) : Type 0 where
    pub one : X
    pub within : In xs one
    pub passes : p one ≡ true
    pub gives : f one ≡ Some y

  later : (x : X) (xs : List X) (y : Y) → Gives xs y → Gives (x ∷ xs) y
  later x xs y g = record { one = g.one; within = inr g.within; passes = g.passes; gives = g.gives }

  value_by : (x : X) (xs : List X) (y : Y) → p x ≡ true → (o : Option Y) → f x ≡ o → (In (filter_map f (filter p xs)) y → Gives xs y) → In (cons_option o (filter_map f (filter p xs))) y → Gives (x ∷ xs) y
  value_by x xs y q None e g h = later x xs y (g h)
  value_by x xs y q (Some z) e g (inl i) = record { one = x; within = inl refl; passes = q; gives = grind (arith, e, i) }
  value_by x xs y q (Some z) e g (inr h) = later x xs y (g h)

  gives_by : (x : X) (xs : List X) (y : Y) (b : Bool) → p x ≡ b → (In (filter_map f (filter p xs)) y → Gives xs y) → In (filter_map f (cond b (x ∷ filter p xs) (filter p xs))) y → Gives (x ∷ xs) y
  gives_by x xs y true q g h = value_by x xs y q (f x) refl g h
  gives_by x xs y false q g h = later x xs y (g h)

  pub given_found : (xs : List X) (y : Y) → In (filter_map f (filter p xs)) y → Gives xs y
  given_found [] y h = elim h [ ]
  given_found (x ∷ xs) y h = gives_by x xs y (p x) refl (given_found xs y) h

  first_by : (x : X) (xs : List X) (y : Y) (o : Option Y) → o ≡ Some y → In (cons_option o (filter_map f (filter p xs))) y
  first_by x xs y None e = grind (arith, e)
  first_by x xs y (Some z) e = inl (grind (arith, e))

  here_by : (x : X) (xs : List X) (y : Y) (b : Bool) → b ≡ true → f x ≡ Some y → In (filter_map f (cond b (x ∷ filter p xs) (filter p xs))) y
  here_by x xs y true q e = first_by x xs y (f x) e
  here_by x xs y false q e = grind (arith, q)

  kept_by : (o : Option Y) (ys : List Y) (y : Y) → In ys y → In (cons_option o ys) y
  kept_by None ys y h = h
  kept_by (Some z) ys y h = inr h

  there_by : (x : X) (xs : List X) (y : Y) (b : Bool) → In (filter_map f (filter p xs)) y → In (filter_map f (cond b (x ∷ filter p xs) (filter p xs))) y
  there_by x xs y true h = kept_by (f x) (filter_map f (filter p xs)) y h
  there_by x xs y false h = h

  pub given_shown : (xs : List X) (y : Y) (x : X) → In xs x → p x ≡ true → f x ≡ Some y → In (filter_map f (filter p xs)) y
  given_shown [] y x i q e = elim i [ ]
  given_shown (z ∷ xs) y x (inl i) q e = here_by z xs y (p z) (grind (arith, i, q)) (grind (arith, i, e))
  given_shown (z ∷ xs) y x (inr i) q e = there_by z xs y (p z) (given_shown xs y x i q e)

-- ---- maps of filters

module _ {X Y : Type 0} (f : X → Y) (p : X → Bool) where
  -- an element that passes and is mapped to the value
  pub record Maps (xs : List X) (y : Y) : Type 0 where
    pub one : X
    pub within : In xs one
    pub passes : p one ≡ true
    pub maps : f one ≡ y

  further : (x : X) (xs : List X) (y : Y) → Maps xs y → Maps (x ∷ xs) y
  further x xs y g = record { one = g.one; within = inr g.within; passes = g.passes; maps = g.maps }

  maps_by : (x : X) (xs : List X) (y : Y) (b : Bool) → p x ≡ b → (In (map f (filter p xs)) y → Maps xs y) → In (map f (cond b (x ∷ filter p xs) (filter p xs))) y → Maps (x ∷ xs) y
  maps_by x xs y true q g (inl i) = record { one = x; within = inl refl; passes = q; maps = i }
  maps_by x xs y true q g (inr h) = further x xs y (g h)
  maps_by x xs y false q g h = further x xs y (g h)

  pub mapped_found : (xs : List X) (y : Y) → In (map f (filter p xs)) y → Maps xs y
  mapped_found [] y h = elim h [ ]
  mapped_found (x ∷ xs) y h = maps_by x xs y (p x) refl (mapped_found xs y) h

  map_here : (x : X) (xs : List X) (y : Y) (b : Bool) → b ≡ true → f x ≡ y → In (map f (cond b (x ∷ filter p xs) (filter p xs))) y
  map_here x xs y true q e = inl e
  map_here x xs y false q e = grind (arith, q)

  map_there : (x : X) (xs : List X) (y : Y) (b : Bool) → In (map f (filter p xs)) y → In (map f (cond b (x ∷ filter p xs) (filter p xs))) y
  map_there x xs y true h = inr h
  map_there x xs y false h = h

  pub mapped_shown : (xs : List X) (y : Y) (x : X) → In xs x → p x ≡ true → f x ≡ y → In (map f (filter p xs)) y
  mapped_shown [] y x i q e = elim i [ ]
  mapped_shown (z ∷ xs) y x (inl i) q e = map_here z xs y (p z) (grind (arith, i, q)) (grind (arith, i, e))
  mapped_shown (z ∷ xs) y x (inr i) q e = map_there z xs y (p z) (mapped_shown xs y x i q e)

-- ---- merges

module _ (x : BadMark) where
  pub at_found : (a : BadMark) (f : List BadMark → List BadMark) (first : Type 0) → ((cs : List BadMark) → In (f cs) x → first ⊎ In cs x) → (bs : List BadMark)
      → In (merge_at a f bs) x → ((a ≡ x) ⊎ first) ⊎ In bs x
  at_found a f first g [] (inl i) = inl (inl i)
  at_found a f first g [] (inr h) = nothing_by (g [] h) where
    nothing_by : first ⊎ ⊥ → ((a ≡ x) ⊎ first) ⊎ ⊥
    nothing_by (inl i) = inl (inr i)
    nothing_by (inr e) = inr e
  at_found a f first g (b ∷ bs) h = tested (nat_le a.at b.at) h (at_found a f first g bs) where
    passed : first ⊎ In (b ∷ bs) x → ((a ≡ x) ⊎ first) ⊎ In (b ∷ bs) x
    passed (inl i) = inl (inr i)
    passed (inr i) = inr i

    behind : ((a ≡ x) ⊎ first) ⊎ In bs x → ((a ≡ x) ⊎ first) ⊎ In (b ∷ bs) x
    behind (inl i) = inl i
    behind (inr i) = inr (inr i)

    tested : (t : Bool) → In (if t then a ∷ f (b ∷ bs) else b ∷ merge_at a f bs) x → (In (merge_at a f bs) x → ((a ≡ x) ⊎ first) ⊎ In bs x) → ((a ≡ x) ⊎ first) ⊎ In (b ∷ bs) x
    tested true (inl i) r = inl (inl i)
    tested true (inr i) r = passed (g (b ∷ bs) i)
    tested false (inl i) r = inr (inl i)
    tested false (inr i) r = behind (r i)

  pub merged_found : (firsts bs : List BadMark) → In (placed_in firsts bs) x → In firsts x ⊎ In bs x
  merged_found [] bs h = inr h
  merged_found (a ∷ firsts) bs h = at_found a (placed_in firsts) (In firsts x) (merged_found firsts) bs h

  pub at_shown : (a : BadMark) (f : List BadMark → List BadMark) (first : Type 0) → ((cs : List BadMark) → first ⊎ In cs x → In (f cs) x) → (bs : List BadMark)
      → ((a ≡ x) ⊎ first) ⊎ In bs x → In (merge_at a f bs) x
  at_shown a f first g [] (inl (inl i)) = inl i
  at_shown a f first g [] (inl (inr i)) = inr (g [] (inl i))
  at_shown a f first g [] (inr i) = elim i [ ]
  at_shown a f first g (b ∷ bs) h = tested (nat_le a.at b.at) h (at_shown a f first g bs) where
    tested : (t : Bool) → ((a ≡ x) ⊎ first) ⊎ In (b ∷ bs) x → (((a ≡ x) ⊎ first) ⊎ In bs x → In (merge_at a f bs) x) → In (if t then a ∷ f (b ∷ bs) else b ∷ merge_at a f bs) x
    tested true (inl (inl i)) r = inl i
    tested true (inl (inr i)) r = inr (g (b ∷ bs) (inl i))
    tested true (inr i) r = inr (g (b ∷ bs) (inr i))
    tested false (inl i) r = inr (r (inl i))
    tested false (inr (inl i)) r = inl i
    tested false (inr (inr i)) r = inr (r (inr i))

  pub merged_shown : (firsts bs : List BadMark) → In firsts x ⊎ In bs x → In (placed_in firsts bs) x
  merged_shown [] bs (inl h) = elim h [ ]
  merged_shown [] bs (inr h) = h
  merged_shown (a ∷ firsts) bs h = at_shown a (placed_in firsts) (In firsts x) (merged_shown firsts) bs h
