-- The computed order of packages is their dependency order.
use Rattle.std.proofs.Common.{◌≡◌, ℕ, zero, suc, ◌+◌, ◌<◌, ◌≤◌, ◌==◌, Bool, true, false, true≢false, not, ◌&&◌, ◌||◌, nat_eq, nat_lt, List, [], ◌∷◌, ◌++◌, length, Option, Some, None, slice_get, if◌then◌else◌, refl, sym, subst, ◌∙◌, arith}
use Rattle.std.specs.List.{list_any, list_all}
use Rattle.std.proofs.lemmas.Option.{same_Some}
use Rattle.std.proofs.lemmas.Bool.{eqb-true, eqb-false, ltb-true, ltb-false}
use Rattle.pkg_graph.specs.ModuleFiles.Pieces.{comes_before}
use Rattle.pkg_graph.specs.Package.{Package}
use Rattle.pkg_graph.specs.Graph.{imports_of}
use Rattle.pkg_graph.specs.Order.{is_placed, IsReady, Follows, none, next, IsDependencyOrder}
use Rattle.run_rules.specs.Programs.{numbered_from, numbered, is_ready, lesser, least_ready, ordered_after, numbers_of, dependency_order}

-- ---- paths

abbrev by_first : Bool → Bool → Bool → Bool
by_first same rest less = if same then rest else less

-- neither first byte is less, and the rests aren't either
bytes_between : (a z y : ℕ) (p q r : Bool) → (p ≡ false → q ≡ false → r ≡ false) → by_first (nat_eq a z) p (nat_lt a z) ≡ false → by_first (nat_eq z y) q (nat_lt z y) ≡ false → by_first (nat_eq a y) r (nat_lt a y) ≡ false
bytes_between a z y p q r f h k = go (nat_eq a z) refl (nat_eq z y) refl (nat_eq a y) refl (nat_lt a y) refl h k
  where
    go : (b : Bool) → nat_eq a z ≡ b → (c : Bool) → nat_eq z y ≡ c → (d : Bool) → nat_eq a y ≡ d → (l : Bool) → nat_lt a y ≡ l → by_first b p (nat_lt a z) ≡ false → by_first c q (nat_lt z y) ≡ false → by_first d r l ≡ false
    go true e true g true i l j h k = f h k
    go true e true g false i false j h k = refl
    go true e true g false i true j h k =
        let s : a ≡ z = eqb-true a z e in let t : z ≡ y = eqb-true z y g in let u : a < y = ltb-true a y j in absurd (omega arith)
    go true e false g true i l j h k =
        let s : a ≡ z = eqb-true a z e in let u : a ≡ y = eqb-true a y i in absurd (eqb-false z y g (omega arith))
    go true e false g false i false j h k = refl
    go true e false g false i true j h k =
        let s : a ≡ z = eqb-true a z e in let t : y ≤ z = ltb-false z y k in let u : a < y = ltb-true a y j in absurd (omega arith)
    go false e true g true i l j h k =
        let t : z ≡ y = eqb-true z y g in let u : a ≡ y = eqb-true a y i in absurd (eqb-false a z e (omega arith))
    go false e true g false i false j h k = refl
    go false e true g false i true j h k =
        let t : z ≡ y = eqb-true z y g in let v : z ≤ a = ltb-false a z h in let u : a < y = ltb-true a y j in absurd (omega arith)
    go false e false g true i l j h k =
        let v : z ≤ a = ltb-false a z h in let t : y ≤ z = ltb-false z y k in let u : a ≡ y = eqb-true a y i in absurd (eqb-false a z e (omega arith))
    go false e false g false i false j h k = refl
    go false e false g false i true j h k =
        let v : z ≤ a = ltb-false a z h in let t : y ≤ z = ltb-false z y k in let u : a < y = ltb-true a y j in absurd (omega arith)

-- what comes before neither of two in a row doesn't come before the last
not_before : (x r q : List ℕ) → comes_before x r ≡ false → comes_before r q ≡ false → comes_before x q ≡ false
not_before x r [] h k = refl
not_before [] [] (y ∷ ys) h k = cc
not_before [] (z ∷ zs) (y ∷ ys) h k = cc
not_before (a ∷ as_) [] (y ∷ ys) h k = cc
not_before (a ∷ as_) (z ∷ zs) (y ∷ ys) h k = bytes_between a z y (comes_before as_ zs) (comes_before zs ys) (comes_before as_ ys) (not_before as_ zs ys) h k

bytes_apart : (x y : ℕ) (p q : Bool) → (p ≡ true → q ≡ false) → by_first (nat_eq x y) p (nat_lt x y) ≡ true → by_first (nat_eq y x) q (nat_lt y x) ≡ false
bytes_apart x y p q f h = go (nat_eq x y) refl (nat_eq y x) refl (nat_lt y x) refl h
  where
    go : (b : Bool) → nat_eq x y ≡ b → (c : Bool) → nat_eq y x ≡ c → (l : Bool) → nat_lt y x ≡ l → by_first b p (nat_lt x y) ≡ true → by_first c q l ≡ false
    go true e true g l j h = f h
    go true e false g l j h = let s : x ≡ y = eqb-true x y e in absurd (eqb-false y x g (omega arith))
    go false e true g l j h = let s : y ≡ x = eqb-true y x g in absurd (eqb-false x y e (omega arith))
    go false e false g false j h = refl
    go false e false g true j h = let s : x < y = ltb-true x y h in let t : y < x = ltb-true y x j in absurd (omega arith)

before_once : (a b : List ℕ) → comes_before a b ≡ true → comes_before b a ≡ false
before_once a [] h = cc
before_once [] (y ∷ ys) h = refl
before_once (x ∷ xs) (y ∷ ys) h = bytes_apart x y (comes_before xs ys) (comes_before ys xs) (before_once xs ys) h

not_before_itself : (a : List ℕ) → comes_before a a ≡ false
not_before_itself a = go (comes_before a a) refl
  where
    go : (b : Bool) → comes_before a a ≡ b → comes_before a a ≡ false
    go true e = before_once a a e
    go false e = e

-- ---- the least package that is ready

module _ {S : Type 0} (ps : List (Package S)) (placed : List ℕ) where
  -- one of these packages, which are numbered from k on
  abbrev Member : ℕ → List (Package S) → ℕ × Package S → Type 0
  Member k xs q = (i : ℕ) × (slice_get xs i ≡ Some q.1) × (q.0 ≡ k + i)

  abbrev NoneBefore : ℕ → List (Package S) → ℕ × Package S → Type 0
  NoneBefore k xs q = (i n : ℕ) (p : Package S) → slice_get xs i ≡ Some p → n ≡ k + i → is_ready ps placed (n, p) ≡ true → comes_before p.path q.1.path ≡ false

  abbrev NoneReady : ℕ → List (Package S) → Type 0
  NoneReady k xs = (i n : ℕ) (p : Package S) → slice_get xs i ≡ Some p → n ≡ k + i → is_ready ps placed (n, p) ≡ false

  abbrev Least : ℕ → List (Package S) → Option (ℕ × Package S) → Type 0
  Least k xs None = NoneReady k xs
  Least k xs (Some q) = Member k xs q × (is_ready ps placed q ≡ true) × NoneBefore k xs q

  later_member : (k : ℕ) (x : Package S) (xs : List (Package S)) (q : ℕ × Package S) → Member (suc k) xs q → Member k (x ∷ xs) q
  later_member k x xs q (i, e, m) = (suc i, e, omega (arith, m))

  ready_same : (k n : ℕ) (x p : Package S) (b : Bool) → Some x ≡ Some p → n ≡ k + 0 → is_ready ps placed (k, x) ≡ b → is_ready ps placed (n, p) ≡ b
  ready_same k n x p b e m h = (λ w. is_ready ps placed (same w, same_Some p x (sym e) w)) ∙ h
    where
      same : n ≡ k
      same = omega (arith, m)

  not_ready : (k : ℕ) (x : Package S) (xs : List (Package S)) → is_ready ps placed (k, x) ≡ false → NoneReady (suc k) xs → NoneReady k (x ∷ xs)
  not_ready k x xs h f zero n p e m = ready_same k n x p false e m h
  not_ready k x xs h f (suc i) n p e m = f i n p e (omega (arith, m))

  none_before_later : (k : ℕ) (x : Package S) (xs : List (Package S)) (q : ℕ × Package S) → is_ready ps placed (k, x) ≡ false → NoneBefore (suc k) xs q → NoneBefore k (x ∷ xs) q
  none_before_later k x xs q h f zero n p e m r = absurd (true≢false (sym r ∙ ready_same k n x p false e m h))
  none_before_later k x xs q h f (suc i) n p e m r = f i n p e (omega (arith, m)) r

  -- the first is before all that aren't before one that it doesn't come behind
  none_before_first : (k : ℕ) (x : Package S) (xs : List (Package S)) → ((i n : ℕ) (p : Package S) → slice_get xs i ≡ Some p → n ≡ suc k + i → is_ready ps placed (n, p) ≡ true → comes_before p.path x.path ≡ false) → NoneBefore k (x ∷ xs) (k, x)
  none_before_first k x xs f zero n p e m r = (λ w. comes_before ((same_Some p x (sym e) w).path) x.path) ∙ not_before_itself x.path
  none_before_first k x xs f (suc i) n p e m r = f i n p e (omega (arith, m)) r

  none_before_other : (k : ℕ) (x : Package S) (xs : List (Package S)) (q : ℕ × Package S) → comes_before q.1.path x.path ≡ true → NoneBefore (suc k) xs q → NoneBefore k (x ∷ xs) q
  none_before_other k x xs q h f zero n p e m r = (λ w. comes_before ((same_Some p x (sym e) w).path) q.1.path) ∙ before_once q.1.path x.path h
  none_before_other k x xs q h f (suc i) n p e m r = f i n p e (omega (arith, m)) r

  of_two : (k : ℕ) (x : Package S) (xs : List (Package S)) (q : ℕ × Package S) (b : Bool) → comes_before q.1.path x.path ≡ b → is_ready ps placed (k, x) ≡ true → Least (suc k) xs (Some q) → Least k (x ∷ xs) (if b then Some q else Some (k, x))
  of_two k x xs q true e h l = (later_member k x xs q l.0, l.1, none_before_other k x xs q e l.2)
  of_two k x xs q false e h l = ((0, refl, omega arith), h, none_before_first k x xs (λ i n p s m r. not_before p.path q.1.path x.path (l.2 i n p s m r) e))

  least_step : (k : ℕ) (x : Package S) (xs : List (Package S)) (b : Bool) (o : Option (ℕ × Package S)) → is_ready ps placed (k, x) ≡ b → Least (suc k) xs o → Least k (x ∷ xs) (if b then lesser (k, x) o else o)
  least_step k x xs false None h l = not_ready k x xs h l
  least_step k x xs false (Some q) h l = (later_member k x xs q l.0, l.1, none_before_later k x xs q h l.2)
  least_step k x xs true None h l = ((0, refl, omega arith), h, none_before_first k x xs (λ i n p s m r. absurd (true≢false (sym r ∙ l i n p s m))))
  least_step k x xs true (Some q) h l = of_two k x xs q (comes_before q.1.path x.path) refl h l

  least_is : (k : ℕ) (xs : List (Package S)) → Least k xs (least_ready ps placed (numbered_from k xs))
  least_is k [] = λ i n p e m. cc
  least_is k (x ∷ xs) = least_step k x xs (is_ready ps placed (k, x)) (least_ready ps placed (numbered_from (suc k) xs)) refl (least_is (suc k) xs)

-- ---- how many aren't placed

abbrev is_open : List ℕ → ℕ → Bool
is_open placed k = not (list_any (λ j. j == k) placed)

fewer_by : (b c : Bool) (m n : ℕ) → (b ≡ true → c ≡ true) → m ≤ n → (if b then suc m else m) ≤ (if c then suc n else n)
fewer_by true true m n f h = omega (arith, h)
fewer_by true false m n f h = absurd (true≢false (sym (f refl)))
fewer_by false true m n f h = omega (arith, h)
fewer_by false false m n f h = h

still_open : (b c : Bool) → not (b || c) ≡ true → not c ≡ true
still_open true c h = cc
still_open false c h = h

closed_now : (q k : ℕ) (c : Bool) → q ≡ k → not ((q == k) || c) ≡ false
closed_now q k c e = go (nat_eq q k) refl
  where
    go : (b : Bool) → nat_eq q k ≡ b → not ((q == k) || c) ≡ false
    go true g = grind (arith, e)
    go false g = absurd (eqb-false q k g e)

module _ {S : Type 0} where
  abbrev open_from : List ℕ → ℕ → List (Package S) → ℕ
  open_from placed k [] = 0
  open_from placed k (x ∷ xs) = if is_open placed k then suc (open_from placed (suc k) xs) else open_from placed (suc k) xs

  open_at_most : (placed : List ℕ) (k : ℕ) (xs : List (Package S)) → open_from placed k xs ≤ length xs
  open_at_most placed k [] = omega arith
  open_at_most placed k (x ∷ xs) = go (is_open placed k) (open_from placed (suc k) xs) (open_at_most placed (suc k) xs)
    where
      go : (b : Bool) (n : ℕ) → n ≤ length xs → (if b then suc n else n) ≤ suc (length xs)
      go true n h = omega (arith, h)
      go false n h = omega (arith, h)

  no_more_open : (q : ℕ) (placed : List ℕ) (k : ℕ) (xs : List (Package S)) → open_from (q ∷ placed) k xs ≤ open_from placed k xs
  no_more_open q placed k [] = omega arith
  no_more_open q placed k (x ∷ xs) =
      fewer_by (is_open (q ∷ placed) k) (is_open placed k) (open_from (q ∷ placed) (suc k) xs) (open_from placed (suc k) xs) (still_open (q == k) (list_any (λ j. j == k) placed)) (no_more_open q placed (suc k) xs)

  one_fewer_open : (q : ℕ) (placed : List ℕ) (k : ℕ) (xs : List (Package S)) (i : ℕ) (p : Package S) → slice_get xs i ≡ Some p → q ≡ k + i → is_open placed q ≡ true → open_from (q ∷ placed) k xs < open_from placed k xs
  one_fewer_open q placed k [] i p e m o = cc
  one_fewer_open q placed k (x ∷ xs) zero p e m o =
      now (is_open (q ∷ placed) k) (is_open placed k) (closed_now q k (list_any (λ j. j == k) placed) (omega (arith, m))) (subst (λ (z : ℕ). is_open placed z ≡ true) (omega (arith, m)) o)
    where
      now : (b c : Bool) → b ≡ false → c ≡ true → (if b then suc (open_from (q ∷ placed) (suc k) xs) else open_from (q ∷ placed) (suc k) xs) < (if c then suc (open_from placed (suc k) xs) else open_from placed (suc k) xs)
      now true c h g = cc
      now false false h g = cc
      now false true h g = let le : open_from (q ∷ placed) (suc k) xs ≤ open_from placed (suc k) xs = no_more_open q placed (suc k) xs in omega arith
  one_fewer_open q placed k (x ∷ xs) (suc i) p e m o =
      fewer_than (is_open (q ∷ placed) k) (is_open placed k) (open_from (q ∷ placed) (suc k) xs) (open_from placed (suc k) xs) (still_open (q == k) (list_any (λ j. j == k) placed)) (one_fewer_open q placed (suc k) xs i p e (omega (arith, m)) o)
    where
      fewer_than : (b c : Bool) (m n : ℕ) → (b ≡ true → c ≡ true) → m < n → (if b then suc m else m) < (if c then suc n else n)
      fewer_than true true m n f h = omega (arith, h)
      fewer_than true false m n f h = absurd (true≢false (sym (f refl)))
      fewer_than false true m n f h = omega (arith, h)
      fewer_than false false m n f h = h

  of_open : (placed : List ℕ) (k : ℕ) (x : Package S) (xs : List (Package S)) (n : ℕ) (p : Package S) (b : Bool) → is_open placed k ≡ b → (if b then suc (open_from placed (suc k) xs) else open_from placed (suc k) xs) ≤ 0
      → (i : ℕ) → slice_get (x ∷ xs) i ≡ Some p → n ≡ k + i → ((j : ℕ) → open_from placed (suc k) xs ≤ 0 → slice_get xs j ≡ Some p → n ≡ suc k + j → is_open placed n ≡ false) → is_open placed n ≡ false
  of_open placed k x xs n p true g h i e m f = absurd (omega (arith, h))
  of_open placed k x xs n p false g h zero e m f = subst (λ (z : ℕ). is_open placed z ≡ false) (omega (arith, m)) g
  of_open placed k x xs n p false g h (suc i) e m f = f i h e (omega (arith, m))

  none_open : (placed : List ℕ) (k : ℕ) (xs : List (Package S)) (i n : ℕ) (p : Package S) → open_from placed k xs ≤ 0 → slice_get xs i ≡ Some p → n ≡ k + i → is_open placed n ≡ false
  none_open placed k [] i n p h e m = cc
  none_open placed k (x ∷ xs) i n p h e m =
      of_open placed k x xs n p (is_open placed k) refl h i e m (λ j l f g. none_open placed (suc k) xs j n p l f g)

-- ---- one more placed, behind the others

swapped : (a b c : Bool) → (a || (b || c)) ≡ (b || (a || c))
swapped true true c = refl
swapped true false c = refl
swapped false true c = refl
swapped false false c = refl

any_of_last : (k q : ℕ) (placed : List ℕ) → list_any (λ j. j == k) (placed ++ q ∷ []) ≡ list_any (λ j. j == k) (q ∷ placed)
any_of_last k q [] = refl
any_of_last k q (x ∷ xs) = (λ w. (x == k) || any_of_last k q xs w) ∙ swapped (x == k) (q == k) (list_any (λ j. j == k) xs)

module _ {S : Type 0} where
  open_behind : (q : ℕ) (placed : List ℕ) (k : ℕ) (xs : List (Package S)) → open_from (placed ++ q ∷ []) k xs ≡ open_from (q ∷ placed) k xs
  open_behind q placed k [] = refl
  open_behind q placed k (x ∷ xs) = λ w. if not (any_of_last k q placed w) then suc (open_behind q placed (suc k) xs w) else open_behind q placed (suc k) xs w

-- ---- the order

module _ {S : Type 0} (ps : List (Package S)) where
  at_zero : (n : ℕ) → n ≡ 0 + n
  at_zero n = omega arith

  is_true_both : (a b : Bool) → a ≡ true → b ≡ true → (a && b) ≡ true
  is_true_both true b h k = k
  is_true_both false b h k = cc

  first_of : (a b : Bool) → (a && b) ≡ true → a ≡ true
  first_of true b h = refl
  first_of false b h = cc

  second_of : (a b : Bool) → (a && b) ≡ true → b ≡ true
  second_of true b h = h
  second_of false b h = cc

  opened : (b : Bool) → not b ≡ true → b ≡ false
  opened true h = cc
  opened false h = refl

  closed : (b : Bool) → b ≡ false → not b ≡ true
  closed true h = cc
  closed false h = refl

  -- a package that is ready passes the test, and the other way round
  passes_ready : (placed : List ℕ) (k : ℕ) (p : Package S) → IsReady ps placed k p → is_ready ps placed (k, p) ≡ true
  passes_ready placed k p r = is_true_both (not (list_any (λ j. j == k) placed)) (list_all (is_placed ps placed) (imports_of p)) (closed (list_any (λ j. j == k) placed) r.open_) r.imports

  ready_passes : (placed : List ℕ) (k : ℕ) (p : Package S) → slice_get ps k ≡ Some p → is_ready ps placed (k, p) ≡ true → IsReady ps placed k p
  ready_passes placed k p e h = record {
    is = e;
    open_ = opened (list_any (λ j. j == k) placed) (first_of (not (list_any (λ j. j == k) placed)) (list_all (is_placed ps placed) (imports_of p)) h);
    imports = second_of (not (list_any (λ j. j == k) placed)) (list_all (is_placed ps placed) (imports_of p)) h;
  }

  follows_of : (n : ℕ) (placed : List ℕ) (o : Option (ℕ × Package S)) → Least ps placed 0 ps o → ((q : ℕ × Package S) → Member ps placed 0 ps q → is_ready ps placed q ≡ true → Follows ps (placed ++ q.0 ∷ []) (numbers_of (ordered_after ps n (placed ++ q.0 ∷ []))))
      → Follows ps placed (numbers_of (elim o [ None ↦ [] | Some q ↦ q ∷ ordered_after ps n (placed ++ q.0 ∷ []) ]))
  follows_of n placed None l f = none placed (λ k p r. true≢false (sym (passes_ready placed k p r) ∙ l k k p r.is (at_zero k)))
  follows_of n placed (Some q) l f =
      next placed q.0 (numbers_of (ordered_after ps n (placed ++ q.0 ∷ [])))
      (record { of = q.1; ready = ready_passes placed q.0 q.1 here l.1; least = λ j p r c. true≢false (sym c ∙ l.2 j j p r.is (at_zero j) (passes_ready placed j p r)) })
      (f q l.0 l.1)
    where
      here : slice_get ps q.0 ≡ Some q.1
      here = subst (λ (z : ℕ). slice_get ps z ≡ Some q.1) (let m : q.0 ≡ 0 + l.0.0 = l.0.2 in omega arith) l.0.1

  follows : (n : ℕ) (placed : List ℕ) → open_from placed 0 ps ≤ n → Follows ps placed (numbers_of (ordered_after ps n placed))
  follows zero placed h = none placed (λ k p r. true≢false (sym (closed (list_any (λ j. j == k) placed) r.open_) ∙ none_open placed 0 ps k k p h r.is (at_zero k)))
  follows (suc n) placed h =
      follows_of n placed (least_ready ps placed (numbered ps)) (least_is ps placed 0 ps)
      (λ q m r. follows n (placed ++ q.0 ∷ []) (let lt : open_from (placed ++ q.0 ∷ []) 0 ps < open_from placed 0 ps = subst (λ (z : ℕ). z < open_from placed 0 ps) (sym (open_behind q.0 placed 0 ps)) (one_fewer_open q.0 placed 0 ps m.0 q.1 m.1 m.2 (first_of (not (list_any (λ j. j == q.0) placed)) (list_all (is_placed ps placed) (imports_of q.1)) r)) in omega (arith, h)))

  pub order_is : IsDependencyOrder ps (dependency_order ps)
  order_is = follows (length ps) [] (open_at_most [] 0 ps)
