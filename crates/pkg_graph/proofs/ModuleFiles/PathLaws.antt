-- Lists of paths, and the sets that hold them.
use Rattle.std.proofs.Common.{◌≡◌, ◌∙◌, ◌+◌, ℕ, suc, Bool, true, false, ◌||◌, not, if◌then◌else◌, List, [], ◌∷◌, ◌++◌, length, map, refl, sym, ap, Some, arith, bytes_eq, All, slice_index_or}
use Rattle.std.proofs.lemmas.Bool.{true≢false}
use Rattle.std.proofs.lemmas.List.Elements.{All-map}
use Rattle.std.specs.List.{list_any, position, prefix_len}
use Rattle.std.specs.Ordering.{match_ordering, nat_cmp, is_eq, is_lt}
use Rattle.std.specs.declared.cmp.Ordering.{Ordering}
use Rattle.std.specs.declared.cmp.Ordering.TheVariants.{Less, Equal, Greater}
use Rattle.std.specs.Cmp.Lexicographic.{slice_cmp, bytes_decides, texts_ties}
use Rattle.std.specs.BTreeSet.{insert_key}
use Rattle.pkg_graph.specs.ModuleFiles.Pieces.{comes_before}
use Rattle.pkg_graph.specs.ModuleFiles.PathLists.{has_path, number_of, with_path}

module _ {V : Type 0} (items : V → List ℕ) where
  pub any_view : (p : List ℕ → Bool) (ks : List V) → list_any p (map items ks) ≡ list_any (λ k. p (items k)) ks
  any_view p [] = refl
  any_view p (k ∷ ks) = ap (λ b. p (items k) || b) (any_view p ks)

  pub prefix_view : (p : List ℕ → Bool) (ks : List V) → prefix_len p (map items ks) ≡ prefix_len (λ k. p (items k)) ks
  prefix_view p [] = refl
  prefix_view p (k ∷ ks) = ap (λ n. if p (items k) then 1 + n else 0) (prefix_view p ks)

  pub length_view : (ks : List V) → length (map items ks) ≡ length ks
  length_view [] = refl
  length_view (k ∷ ks) = ap suc (length_view ks)

  append_view : (ks : List V) (k : V) → map items (ks ++ k ∷ []) ≡ map items ks ++ items k ∷ []
  append_view [] k = refl
  append_view (x ∷ ks) k = ap (λ r. items x ∷ r) (append_view ks k)

  added_by : (ks : List V) (k : V) (b : Bool) → map items (if b then ks else ks ++ k ∷ []) ≡ (if b then map items ks else map items ks ++ items k ∷ [])
  added_by ks k true = refl
  added_by ks k false = append_view ks k

  -- a set of keys after one more
  pub added_view : (ks : List V) (k : V) → map items (if list_any (λ x. bytes_eq (items k) (items x)) ks then ks else ks ++ k ∷ []) ≡ with_path (map items ks) (items k)
  added_view ks k = added_by ks k (list_any (λ x. bytes_eq (items k) (items x)) ks) ∙ rw (any_view (bytes_eq (items k)) ks)

-- ---- numbers

place_by : (q x : List ℕ) (xs : List (List ℕ)) (t : Bool) → bytes_eq q x ≡ t → position (bytes_eq q) xs ≡ number_of xs q → position (bytes_eq q) (x ∷ xs) ≡ number_of (x ∷ xs) q
place_by q x xs true e h = grind (arith, e)
place_by q x xs false e h = grind (arith, e, h)

pub place_is : (q : List ℕ) (xs : List (List ℕ)) → position (bytes_eq q) xs ≡ number_of xs q
place_is q [] = refl
place_is q (x ∷ xs) = place_by q x xs (bytes_eq q x) refl (place_is q xs)

pub same_path : (q : List ℕ) → bytes_eq q q ≡ true
same_path [] = refl
same_path (x ∷ xs) = grind (arith, same_path xs)

pub are_same : (a b : List ℕ) → bytes_eq a b ≡ true → a ≡ b
are_same a b e = (bytes_decides a b).0 e

-- how many paths stand before the first that is this one
abbrev pub before : List ℕ → List (List ℕ) → ℕ
before q xs = prefix_len (λ y. not (bytes_eq q y)) xs

has_by : (q x : List ℕ) (xs : List (List ℕ)) (t : Bool) → bytes_eq q x ≡ t → (t || list_any (bytes_eq q) xs) ≡ true → (list_any (bytes_eq q) xs ≡ true → number_of xs q ≡ Some (before q xs)) → number_of (x ∷ xs) q ≡ Some (before q (x ∷ xs))
has_by q x xs true e h f = grind (arith, e)
has_by q x xs false e h f = let g : number_of xs q ≡ Some (before q xs) = f h in grind (arith, e, g)

pub has_number : (q : List ℕ) (xs : List (List ℕ)) → has_path xs q ≡ true → number_of xs q ≡ Some (before q xs)
has_number q [] h = absurd (true≢false (sym h))
has_number q (x ∷ xs) h = has_by q x xs (bytes_eq q x) refl h (has_number q xs)

new_by : (q x : List ℕ) (xs : List (List ℕ)) (t : Bool) → bytes_eq q x ≡ t → (t || list_any (bytes_eq q) xs) ≡ false → (list_any (bytes_eq q) xs ≡ false → number_of (xs ++ q ∷ []) q ≡ Some (before q xs)) → number_of (x ∷ (xs ++ q ∷ [])) q ≡ Some (before q (x ∷ xs))
new_by q x xs true e h f = absurd (true≢false h)
new_by q x xs false e h f = let g : number_of (xs ++ q ∷ []) q ≡ Some (before q xs) = f h in grind (arith, e, g)

pub new_number : (q : List ℕ) (xs : List (List ℕ)) → has_path xs q ≡ false → number_of (xs ++ q ∷ []) q ≡ Some (before q xs)
new_number q [] h = grind (arith, same_path q)
new_number q (x ∷ xs) h = new_by q x xs (bytes_eq q x) refl h (new_number q xs)

added_number_by : (q : List ℕ) (xs : List (List ℕ)) (t : Bool) → has_path xs q ≡ t → number_of (if t then xs else xs ++ q ∷ []) q ≡ Some (before q xs)
added_number_by q xs true h = has_number q xs h
added_number_by q xs false h = new_number q xs h

pub added_number : (q : List ℕ) (xs : List (List ℕ)) → number_of (with_path xs q) q ≡ Some (before q xs)
added_number q xs = added_number_by q xs (has_path xs q) refl

-- ---- the order of paths

pub equal_paths : (xs ys : List ℕ) → slice_cmp nat_cmp xs ys ≡ Equal → xs ≡ ys
equal_paths xs ys e = are_same xs ys (texts_ties xs ys ∙ ap is_eq e)

twice : (s t : Bool) → (s || t) ≡ (s || (s || t))
twice true t = refl
twice false t = refl

pub less_comes_before : (xs ys : List ℕ) → is_lt (slice_cmp nat_cmp xs ys) ≡ comes_before xs ys
less_comes_before [] [] = refl
less_comes_before [] (y ∷ ys) = refl
less_comes_before (x ∷ xs) [] = refl
less_comes_before (x ∷ xs) (y ∷ ys) = grind (arith, less_comes_before xs ys)

module _ {V : Type 0} (items : V → List ℕ) where
  abbrev pub order_of : V → V → Ordering
  order_of a b = slice_cmp nat_cmp (items a) (items b)

  insert_by : (q : List ℕ) (x k : V) (r : List V) (ks : List V) (o : Ordering) → order_of k x ≡ o → list_any (bytes_eq q) (map items r) ≡ (bytes_eq q (items k) || list_any (bytes_eq q) (map items ks)) → list_any (bytes_eq q) (map items (match_ordering o (k ∷ x ∷ ks) (x ∷ ks) (x ∷ r))) ≡ (bytes_eq q (items k) || list_any (bytes_eq q) (map items (x ∷ ks)))
  insert_by q x k r ks Less e h = refl
  insert_by q x k r ks Equal e h = rw (equal_paths (items k) (items x) e) (twice (bytes_eq q (items x)) (list_any (bytes_eq q) (map items ks)))
  insert_by q x k r ks Greater e h = grind (arith, h)

  pub inserted_view : (q : List ℕ) (ks : List V) (k : V) → list_any (bytes_eq q) (map items (insert_key order_of ks k)) ≡ (bytes_eq q (items k) || list_any (bytes_eq q) (map items ks))
  inserted_view q [] k = refl
  inserted_view q (x ∷ ks) k = insert_by q x k (insert_key order_of ks k) ks (order_of k x) refl (inserted_view q ks k)

  all_by : (k x : V) (t : Bool) → is_lt (order_of k x) ≡ t → order_of k x ≡ Less → comes_before (items k) (items x) ≡ true
  all_by k x t e h = sym (less_comes_before (items k) (items x)) ∙ ap is_lt h

  -- what comes after a key of a set comes after its path
  pub all_after_view : (k : V) (ks : List V) → All (λ x. order_of k x ≡ Less) ks → All (λ q. comes_before (items k) q ≡ true) (map items ks)
  all_after_view k ks h = All-map (λ q. comes_before (items k) q ≡ true) items ks (λ j d l. all_by k (slice_index_or ks j d) true (ap is_lt (h j d l)) (h j d l))

  pub first_view : (k : V) (ks new : List V) → ks ≡ k ∷ new → map items ks ≡ items k ∷ map items new
  first_view k ks new e = ap (map items) e

  pub number_view : (q : List ℕ) (ks : List V) → position (λ k. bytes_eq q (items k)) ks ≡ number_of (map items ks) q
  number_view q ks = let e : position (bytes_eq q) (map items ks) ≡ number_of (map items ks) q = place_is q (map items ks) in rw (prefix_view items (λ x. not (bytes_eq q x)) ks, length_view items ks) at e

  pub number_added : (ks : List V) (k : V) → number_of (map items (if list_any (λ x. bytes_eq (items k) (items x)) ks then ks else ks ++ k ∷ [])) (items k) ≡ Some (prefix_len (λ x. not (bytes_eq (items k) (items x))) ks)
  number_added ks k = rw (added_view items ks k) (added_number (items k) (map items ks) ∙ ap Some (prefix_view items (λ x. not (bytes_eq (items k) x)) ks))
