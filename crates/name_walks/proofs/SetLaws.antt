-- Sets of names, and lists without repetition.
use Rattle.std.proofs.Common.{◌≡◌, ◌∙◌, ◌<◌, ◌+◌, ℕ, suc, Bool, true, false, ◌||◌, ◌&&◌, not, if◌then◌else◌, List, [], ◌∷◌, ◌++◌, length, drop, get_or, map, filter, refl, sym, ap, arith, add-one, cond, nat_lt, position, Some, None, bytes_eq, append_assoc, append-nil}
use Rattle.std.proofs.Math.Seq.{drop-cons}
use Rattle.std.specs.List.{list_any, position_or_len}
use Rattle.std.proofs.lemmas.List.Folds.{list_any-append}
use Rattle.std.proofs.lemmas.Slice.Eq.{bytes_eq-Decides}
use Rattle.go_tree.specs.GoWords.Tokens.Pieces.{is_among}
use Rattle.name_walks.specs.EachOnce.{each_once, with_name}

module _ {V : Type 0} (items : V → List ℕ) where
  pub any_view : (p : List ℕ → Bool) (ks : List V) → list_any p (map items ks) ≡ list_any (λ k. p (items k)) ks
  any_view p [] = refl
  any_view p (k ∷ ks) = ap (λ b. p (items k) || b) (any_view p ks)

  pub place_view : (p : List ℕ → Bool) (ks : List V) → position_or_len p (map items ks) ≡ position_or_len (λ k. p (items k)) ks
  place_view p [] = refl
  place_view p (k ∷ ks) = by (p (items k)) (place_view p ks)
    where
      by : (b : Bool) → position_or_len p (map items ks) ≡ position_or_len (λ x. p (items x)) ks
          → cond (not b) (1 + position_or_len p (map items ks)) 0 ≡ cond (not b) (1 + position_or_len (λ x. p (items x)) ks) 0
      by true e = refl
      by false e = ap (λ n. 1 + n) e

  length_view : (ks : List V) → length (map items ks) ≡ length ks
  length_view [] = refl
  length_view (k ∷ ks) = ap suc (length_view ks)

  pub number_view : (p : List ℕ → Bool) (ks : List V) → position p (map items ks) ≡ position (λ k. p (items k)) ks
  number_view p ks = ap (λ n. cond (nat_lt n (length (map items ks))) (Some n) None) (place_view p ks) ∙ ap (λ m. cond (nat_lt (position_or_len (λ k. p (items k)) ks) m) (Some (position_or_len (λ k. p (items k)) ks)) None) (length_view ks)

  append_view : (ks : List V) (k : V) → map items (ks ++ k ∷ []) ≡ map items ks ++ items k ∷ []
  append_view [] k = refl
  append_view (x ∷ ks) k = ap (λ r. items x ∷ r) (append_view ks k)

  added_by : (ks : List V) (k : V) (b : Bool) → map items (if b then ks else ks ++ k ∷ []) ≡ (if b then map items ks else map items ks ++ items k ∷ [])
  added_by ks k true = refl
  added_by ks k false = append_view ks k

  -- a set of keys after one more
  pub added_view : (ks : List V) (k : V) → map items (if list_any (λ x. bytes_eq (items k) (items x)) ks then ks else ks ++ k ∷ []) ≡ with_name (map items ks) (items k)
  added_view ks k = added_by ks k (list_any (λ x. bytes_eq (items k) (items x)) ks) ∙ rw (any_view (bytes_eq (items k)) ks)

pub same_name : (a b : List ℕ) → bytes_eq a b ≡ true → a ≡ b
same_name a b e = (bytes_eq-Decides a b).0 e

or_twice : (a b : Bool) → (b || (a || false)) ≡ (a || b)
or_twice true true = refl
or_twice true false = refl
or_twice false true = refl
or_twice false false = refl

-- ---- one more name

pub among_with : (names : List (List ℕ)) (n q : List ℕ) → is_among (with_name names n) q ≡ (bytes_eq q n || is_among names q)
among_with names n q = by (is_among names n) refl (bytes_eq q n) refl
  where
    by : (b : Bool) → is_among names n ≡ b → (t : Bool) → bytes_eq q n ≡ t → is_among (if b then names else names ++ n ∷ []) q ≡ (t || is_among names q)
    by true e true f = ap (is_among names) (same_name q n f) ∙ e
    by true e false f = refl
    by false e t f = list_any-append (bytes_eq q) names (n ∷ []) ∙ ap (λ r. is_among names q || (r || false)) f ∙ or_twice t (is_among names q)

-- ---- each name once

filter_two : (p q r : List ℕ → Bool) → ((m : List ℕ) → r m ≡ (q m && p m)) → (xs : List (List ℕ)) → filter p (filter q xs) ≡ filter r xs
filter_two p q r h [] = refl
filter_two p q r h (x ∷ xs) = by (q x) (p x) refl refl (h x) (filter_two p q r h xs)
  where
    by : (b a : Bool) → q x ≡ b → p x ≡ a → r x ≡ (b && a) → filter p (filter q xs) ≡ filter r xs → filter p (filter q (x ∷ xs)) ≡ filter r (x ∷ xs)
    by true true e f g k = grind (arith, e, f, g, k)
    by true false e f g k = grind (arith, e, f, g, k)
    by false true e f g k = grind (arith, e, f, g, k)
    by false false e f g k = grind (arith, e, f, g, k)

-- the names that are gathered, and then those of the rest that aren't among them
abbrev pub once_after : List (List ℕ) → List (List ℕ) → List (List ℕ)
once_after names rest = names ++ filter (λ m. not (is_among names m)) (each_once rest)

known_by : (names : List (List ℕ)) (n m : List ℕ) → is_among names n ≡ true → (t : Bool) → bytes_eq m n ≡ t → not (is_among names m) ≡ (not t && not (is_among names m))
known_by names n m e true f = ap not (ap (is_among names) (same_name m n f) ∙ e)
known_by names n m e false f = refl

new_by : (names : List (List ℕ)) (n m : List ℕ) (t : Bool) → bytes_eq m n ≡ t → not (is_among (names ++ n ∷ []) m) ≡ (not t && not (is_among names m))
new_by names n m t f = ap not (list_any-append (bytes_eq m) names (n ∷ []) ∙ ap (λ r. is_among names m || (r || false)) f) ∙ by (is_among names m) t
  where
    by : (a b : Bool) → not (a || (b || false)) ≡ (not b && not a)
    by true true = refl
    by true false = refl
    by false true = refl
    by false false = refl

kept_first : (p : List ℕ → Bool) (x : List ℕ) (xs : List (List ℕ)) → p x ≡ true → filter p (x ∷ xs) ≡ x ∷ filter p xs
kept_first p x xs e = grind (arith, e)

dropped_first : (p : List ℕ → Bool) (x : List ℕ) (xs : List (List ℕ)) → p x ≡ false → filter p (x ∷ xs) ≡ filter p xs
dropped_first p x xs e = grind (arith, e)

pub once_step : (names : List (List ℕ)) (n : List ℕ) (rest : List (List ℕ)) → once_after (with_name names n) rest ≡ once_after names (n ∷ rest)
once_step names n rest = by (is_among names n) refl
  where
    by : (b : Bool) → is_among names n ≡ b → once_after (if b then names else names ++ n ∷ []) rest ≡ once_after names (n ∷ rest)
    by true e =
        ap (λ xs. names ++ xs)
        (sym (filter_two (λ m. not (is_among names m)) (λ m. not (bytes_eq m n)) (λ m. not (is_among names m)) (λ m. known_by names n m e (bytes_eq m n) refl) (each_once rest))
        ∙ sym (dropped_first (λ m. not (is_among names m)) n (filter (λ m. not (bytes_eq m n)) (each_once rest)) (ap not e)))
    by false e =
        append_assoc names (n ∷ []) (filter (λ m. not (is_among (names ++ n ∷ []) m)) (each_once rest))
        ∙ ap (λ xs. names ++ n ∷ xs) (sym (filter_two (λ m. not (is_among names m)) (λ m. not (bytes_eq m n)) (λ m. not (is_among (names ++ n ∷ []) m)) (λ m. new_by names n m (bytes_eq m n) refl) (each_once rest)))
        ∙ ap (λ xs. names ++ xs) (sym (kept_first (λ m. not (is_among names m)) n (filter (λ m. not (bytes_eq m n)) (each_once rest)) (ap not e)))

filter_all : (xs : List (List ℕ)) → filter (λ m. true) xs ≡ xs
filter_all [] = refl
filter_all (x ∷ xs) = ap (λ ys. x ∷ ys) (filter_all xs)

pub once_none : (rest : List (List ℕ)) → once_after [] rest ≡ each_once rest
once_none rest = filter_all (each_once rest)

pub once_whole : (names : List (List ℕ)) → once_after names [] ≡ names
once_whole names = append-nil names

-- ---- loops over names

or_moved : (a b c : Bool) → (a || (b || c)) ≡ ((b || a) || c)
or_moved true true c = refl
or_moved true false c = refl
or_moved false true c = refl
or_moved false false c = refl

here_and_rest : (names : List (List ℕ)) (i : ℕ) (x : List ℕ) → i < length names → x ≡ get_or names i x → drop i names ≡ x ∷ drop (i + 1) names
here_and_rest names i x h at = rw (add-one) (drop-cons names i x h ∙ ap (λ y. y ∷ drop (suc i) names) (sym at))

pub add_step : (names : List (List ℕ)) (i : ℕ) (x : List ℕ) (set more : List (List ℕ)) (q : List ℕ) (whole : Bool) → i < length names → x ≡ get_or names i x
    → (is_among (drop i names) q || is_among set q) ≡ whole → more ≡ with_name set x → (is_among (drop (i + 1) names) q || is_among more q) ≡ whole
add_step names i x set more q whole h at inv e =
    ap (λ r. is_among (drop (i + 1) names) q || r) (ap (λ ns. is_among ns q) e ∙ among_with set x q)
    ∙ or_moved (is_among (drop (i + 1) names) q) (bytes_eq q x) (is_among set q)
    ∙ ap (λ ns. is_among ns q || is_among set q) (sym (here_and_rest names i x h at)) ∙ inv

pub once_loop : (names : List (List ℕ)) (i : ℕ) (x : List ℕ) (seen more whole : List (List ℕ)) → i < length names → x ≡ get_or names i x
    → once_after seen (drop i names) ≡ whole → more ≡ with_name seen x → once_after more (drop (i + 1) names) ≡ whole
once_loop names i x seen more whole h at inv e =
    ap (λ ns. once_after ns (drop (i + 1) names)) e ∙ once_step seen x (drop (i + 1) names)
    ∙ ap (once_after seen) (sym (here_and_rest names i x h at)) ∙ inv

pub once_same : (seen list more : List (List ℕ)) (n : List ℕ) (b : Bool) → b ≡ not (is_among seen n) → list ≡ seen → more ≡ with_name seen n → (if b then list ++ n ∷ [] else list) ≡ more
once_same seen list more n b e same f =
    ap (λ t. if t then list ++ n ∷ [] else list) e ∙ ap (λ ns. if not (is_among seen n) then ns ++ n ∷ [] else ns) same ∙ by (is_among seen n) ∙ sym f
  where
    by : (k : Bool) → (if not k then seen ++ n ∷ [] else seen) ≡ (if k then seen else seen ++ n ∷ [])
    by true = refl
    by false = refl
