-- Names around a place are found by where they stand first.
use Rattle.std.proofs.Common.{◌≡◌, ◌∙◌, ◌≤◌, ◌<◌, ◌+◌, ℕ, zero, suc, Bool, true, false, ◌||◌, ◌&&◌, ◌⊎◌, inl, inr, nat_le, nat_lt, cond, List, [], ◌∷◌, ◌++◌, Option, Some, None, refl, sym, ap, subst, length, get_or, map, take, arith, bytes_eq}
use Rattle.std.specs.Map.{lookup}
use Rattle.std.proofs.Math.Seq.{get_or-append_seam}
use Rattle.std.proofs.lemmas.Bool.{true≢false, lt-ltb, ltb-true, and_parts, or_left, or_right}
use Rattle.std.proofs.lemmas.Bool.Decides.{leb_tells}
use Rattle.std.proofs.lemmas.List.{get_or_append_left, get_or-take, length-append}
use Rattle.std.proofs.lemmas.Slice.Eq.{bytes_eq-Decides}
use Rattle.indexmap.specs.IndexMap.{insert_entry}
use Rattle.go_tree.specs.GoWords.Tokens.Pieces.{is_among}
use Rattle.name_walks.specs.Around.{place_in, IsFirstPlace, KnowsPlaces}
use Rattle.name_walks.proofs.SetLaws.{same_name}

same_to_eq : (a b : List ℕ) → a ≡ b → bytes_eq a b ≡ true
same_to_eq a b e = (bytes_eq-Decides a b).1 e

-- ---- places by name

module _ {K : Type 0} (items : K → List ℕ) where
  abbrev pub places_of : List (K × ℕ) → List (List ℕ × ℕ)
  places_of es = map (λ e. (items e.0, e.1)) es

  pub place_found : (q : List ℕ) (es : List (K × ℕ)) → lookup (λ k. bytes_eq q (items k)) es ≡ place_in (places_of es) q
  place_found q [] = refl
  place_found q (e ∷ es) = ap (λ o. cond (bytes_eq q (items e.0)) (Some e.1) o) (place_found q es)

  pub place_set : (k : K) (p : ℕ) (q : List ℕ) (es : List (K × ℕ))
      → place_in (places_of (insert_entry (λ a b. bytes_eq (items a) (items b)) es k p)) q ≡ cond (bytes_eq q (items k)) (Some p) (place_in (places_of es) q)
  place_set k p q [] = refl
  place_set k p q (e ∷ es) = by (bytes_eq (items k) (items e.0)) refl (bytes_eq q (items k)) refl (bytes_eq q (items e.0)) refl (place_set k p q es)
    where
      by : (t : Bool) → bytes_eq (items k) (items e.0) ≡ t → (u : Bool) → bytes_eq q (items k) ≡ u → (v : Bool) → bytes_eq q (items e.0) ≡ v
          → place_in (places_of (insert_entry (λ a b. bytes_eq (items a) (items b)) es k p)) q ≡ cond (bytes_eq q (items k)) (Some p) (place_in (places_of es) q)
          → place_in (places_of (cond t ((e.0, p) ∷ es) (e ∷ insert_entry (λ a b. bytes_eq (items a) (items b)) es k p))) q ≡ cond u (Some p) (cond v (Some e.1) (place_in (places_of es) q))
      by true f true g v h r = ap (λ t. cond t (Some p) (place_in (places_of es) q)) (same_to_eq q (items e.0) (same_name q (items k) g ∙ same_name (items k) (items e.0) f))
      by true f false g true h r = absurd (true≢false (sym (same_to_eq q (items k) (same_name q (items e.0) h ∙ sym (same_name (items k) (items e.0) f))) ∙ g))
      by true f false g false h r = ap (λ t. cond t (Some p) (place_in (places_of es) q)) h
      by false f u g true h r = absurd_or u g h
        where
          absurd_or : (w : Bool) → bytes_eq q (items k) ≡ w → bytes_eq q (items e.0) ≡ true
              → cond (bytes_eq q (items e.0)) (Some e.1) (place_in (places_of (insert_entry (λ a b. bytes_eq (items a) (items b)) es k p)) q) ≡ cond w (Some p) (Some e.1)
          absurd_or true g' h' = absurd (true≢false (sym (same_to_eq (items k) (items e.0) (sym (same_name q (items k) g') ∙ same_name q (items e.0) h')) ∙ f))
          absurd_or false g' h' = ap (λ t. cond t (Some e.1) (place_in (places_of (insert_entry (λ a b. bytes_eq (items a) (items b)) es k p)) q)) h'
      by false f u g false h r =
          ap (λ t. cond t (Some e.1) (place_in (places_of (insert_entry (λ a b. bytes_eq (items a) (items b)) es k p)) q)) h
          ∙ r ∙ ap (λ t. cond t (Some p) (place_in (places_of es) q)) g

-- ---- names in a list

-- a name that is among them stands somewhere
record Somewhere (names : List (List ℕ)) (n : List ℕ) : Type 0 where
  pub at : ℕ
  pub within : at < length names
  pub there : get_or names at [] ≡ n

among_at : (names : List (List ℕ)) (n : List ℕ) → is_among names n ≡ true → Somewhere names n
among_at [] n e = absurd (true≢false (sym e))
among_at (x ∷ xs) n e = by (bytes_eq n x) refl e (among_at xs n)
  where
    by : (t : Bool) → bytes_eq n x ≡ t → (t || is_among xs n) ≡ true → (is_among xs n ≡ true → Somewhere xs n) → Somewhere (x ∷ xs) n
    by true f g further = record { at = 0; within = omega arith; there = sym (same_name n x f) }
    by false f g further =
        let w = further g in
        let inside = w.within in
        record { at = suc w.at; within = omega (arith, inside); there = w.there }

at_among : (names : List (List ℕ)) (n : List ℕ) (p : ℕ) → p < length names → get_or names p [] ≡ n → is_among names n ≡ true
at_among [] n p h e = absurd (omega (arith, h))
at_among (x ∷ xs) n zero h e = or_left (bytes_eq n x) (is_among xs n) (same_to_eq n x (sym e))
at_among (x ∷ xs) n (suc p) h e = or_right (bytes_eq n x) (is_among xs n) (at_among xs n p (omega (arith, h)) e)

-- ---- what is known of them

place_of : (names : List (List ℕ)) (places : List (List ℕ × ℕ)) (n : List ℕ) → KnowsPlaces names places → (w : Somewhere names n) → IsFirstPlace names w.at (place_in places n)
place_of names places n knows w = subst (λ m. IsFirstPlace names w.at (place_in places m)) w.there (knows.known w.at w.within)

some_none : {A : Type 0} (o : Option A) (x : A) → o ≡ Some x → o ≡ None → ⊥
some_none o x e f = absurd cc

pub none_known : (names : List (List ℕ)) (places : List (List ℕ × ℕ)) (n : List ℕ) → KnowsPlaces names places → place_in places n ≡ None → is_among names n ≡ false
none_known names places n knows none = by (is_among names n) refl
  where
    by : (t : Bool) → is_among names n ≡ t → t ≡ false
    by false e = refl
    by true e =
        let f = place_of names places n knows (among_at names n e) in
        absurd (some_none (place_in places n) f.place f.is none)

given : {A : Type 0} → A → Option A → A
given d None = d
given d (Some x) = x

some_eq : (x y : ℕ) → Some x ≡ Some y → x ≡ y
unfolding given
some_eq x y e = ap (given x) e

abbrev stands : List (List ℕ) → ℕ → List ℕ → Bool
stands names p n = nat_lt p (length names) && bytes_eq (get_or names p []) n

pub one_known : (names : List (List ℕ)) (places : List (List ℕ × ℕ)) (n : List ℕ) (p : ℕ) → KnowsPlaces names places → place_in places n ≡ Some p → stands names p n ≡ is_among names n
one_known names places n p knows one = by (is_among names n) refl
  where
    there : (w : Somewhere names n) → stands names p n ≡ true
    there w =
        let f = place_of names places n knows w in
        let same : f.place ≡ p = some_eq f.place p (sym f.is ∙ one) in
        let before = f.no_later in
        let inside = w.within in
        let here : get_or names p [] ≡ n = ap (λ k. get_or names k []) (sym same) ∙ f.same ∙ w.there in
        ap (λ t. t && bytes_eq (get_or names p []) n) (lt-ltb p (length names) (omega (arith, same, before, inside))) ∙ same_to_eq (get_or names p []) n here

    not_there : is_among names n ≡ false → (u : Bool) → stands names p n ≡ u → u ≡ false
    not_there e false s = refl
    not_there e true s =
        let parts = and_parts (nat_lt p (length names)) (bytes_eq (get_or names p []) n) s in
        absurd (true≢false (sym (at_among names n p (ltb-true p (length names) parts.0) (same_name (get_or names p []) n parts.1)) ∙ e))

    by : (t : Bool) → is_among names n ≡ t → stands names p n ≡ t
    by true e = there (among_at names n e)
    by false e = not_there e (stands names p n) refl

-- ---- names come and go

pub noted : (names : List (List ℕ)) (old new : List (List ℕ × ℕ)) (n : List ℕ) → KnowsPlaces names old → is_among names n ≡ false
    → ((q : List ℕ) → place_in new q ≡ cond (bytes_eq q n) (Some (length names)) (place_in old q)) → KnowsPlaces names new
noted names old new n knows unknown set = record {
  known = λ p h.
      let m = get_or names p [] in
      subst (IsFirstPlace names p) (sym (set m ∙ ap (λ t. cond t (Some (length names)) (place_in old m)) (other p h (bytes_eq m n) refl))) (knows.known p h);
}
  where
    other : (p : ℕ) → p < length names → (t : Bool) → bytes_eq (get_or names p []) n ≡ t → bytes_eq (get_or names p []) n ≡ false
    other p h false e = e
    other p h true e = absurd (true≢false (sym (at_among names n p h (same_name (get_or names p []) n e)) ∙ unknown))

-- one more name, of which a place is known
pushed : (names : List (List ℕ)) (places : List (List ℕ × ℕ)) (n : List ℕ) → KnowsPlaces names places → IsFirstPlace (names ++ n ∷ []) (length names) (place_in places n) → KnowsPlaces (names ++ n ∷ []) places
pushed names places n knows last = record { known = λ p h. by p (subst (λ k. p < k) (length-append names (n ∷ [])) h) (leb_tells (length names) p) }
  where
    by : (p : ℕ) → p < length names + 1 → ((nat_le (length names) p ≡ true) × (length names ≤ p)) ⊎ ((nat_le (length names) p ≡ false) × (p < length names))
        → IsFirstPlace (names ++ n ∷ []) p (place_in places (get_or (names ++ n ∷ []) p []))
    by p h (inl r) =
        let high = r.1 in
        let same : length names ≡ p = omega (arith, h, high) in
        subst (λ k. IsFirstPlace (names ++ n ∷ []) k (place_in places (get_or (names ++ n ∷ []) k []))) same
        (subst (λ m. IsFirstPlace (names ++ n ∷ []) (length names) (place_in places m)) (sym (get_or-append_seam names n [] [])) last)
    by p h (inr r) =
        let inside = r.1 in
        let f = knows.known p inside in
        let low = f.no_later in
        subst (λ m. IsFirstPlace (names ++ n ∷ []) p (place_in places m)) (sym (get_or_append_left names (n ∷ []) [] p inside))
        (record {
          place = f.place;
          is = f.is;
          no_later = f.no_later;
          same = get_or_append_left names (n ∷ []) [] f.place (omega (arith, low, inside)) ∙ f.same ∙ sym (get_or_append_left names (n ∷ []) [] p inside);
        })

pub pushed_old : (names : List (List ℕ)) (places : List (List ℕ × ℕ)) (n : List ℕ) → KnowsPlaces names places → is_among names n ≡ true → KnowsPlaces (names ++ n ∷ []) places
pushed_old names places n knows there =
    let w = among_at names n there in
    let f = place_of names places n knows w in
    let low = f.no_later in
    let inside = w.within in
    pushed names places n knows
    (record {
      place = f.place;
      is = f.is;
      no_later = omega (arith, low, inside);
      same = get_or_append_left names (n ∷ []) [] f.place (omega (arith, low, inside)) ∙ f.same ∙ w.there ∙ sym (get_or-append_seam names n [] []);
    })

pub pushed_new : (names : List (List ℕ)) (old new : List (List ℕ × ℕ)) (n : List ℕ) → KnowsPlaces names old → is_among names n ≡ false
    → ((q : List ℕ) → place_in new q ≡ cond (bytes_eq q n) (Some (length names)) (place_in old q)) → KnowsPlaces (names ++ n ∷ []) new
pushed_new names old new n knows unknown set =
    pushed names new n (noted names old new n knows unknown set)
    (record {
      place = length names;
      is = set n ∙ ap (λ t. cond t (Some (length names)) (place_in old n)) (same_to_eq n n refl);
      no_later = omega arith;
      same = refl;
    })

within_take : (count : ℕ) (xs : List (List ℕ)) (p : ℕ) → p < length (take count xs) → (p < count) × (p < length xs)
within_take zero [] p h = absurd (omega (arith, h))
within_take zero (x ∷ xs) p h = absurd (omega (arith, h))
within_take (suc count) [] p h = absurd (omega (arith, h))
within_take (suc count) (x ∷ xs) zero h = (omega arith, omega arith)
within_take (suc count) (x ∷ xs) (suc p) h =
    let r = within_take count xs p (omega (arith, h)) in
    let a = r.0 in
    let b = r.1 in
    (omega (arith, a), omega (arith, b))

pub cut : (names : List (List ℕ)) (places : List (List ℕ × ℕ)) (count : ℕ) → KnowsPlaces names places → KnowsPlaces (take count names) places
cut names places count knows = record { known = λ p h. by p (within_take count names p h) }
  where
    by : (p : ℕ) → (p < count) × (p < length names) → IsFirstPlace (take count names) p (place_in places (get_or (take count names) p []))
    by p w =
        let f = knows.known p w.1 in
        let low = f.no_later in
        let few = w.0 in
        let here = get_or-take count names p [] few in
        subst (λ m. IsFirstPlace (take count names) p (place_in places m)) (sym here)
        (record {
          place = f.place;
          is = f.is;
          no_later = f.no_later;
          same = get_or-take count names f.place [] (omega (arith, low, few)) ∙ f.same ∙ sym here;
        })

pub none_around : (places : List (List ℕ × ℕ)) → KnowsPlaces [] places
none_around places = record { known = λ p h. absurd (omega (arith, h)) }
