-- The number that is found at the span of a name.
use Rattle.std.proofs.Common.{◌≡◌, ◌∙◌, ℕ, Bool, true, false, ◌&&◌, List, [], ◌∷◌, ◌++◌, Option, Some, None, ◌⊎◌, inl, inr, refl, sym, ap, arith}
use Rattle.std.specs.Prelude.{if◌then◌else◌}
use Rattle.std.proofs.lemmas.Bool.{true≢false}
use Rattle.std.proofs.lemmas.Bool.Decides.{nat_tests}
use Rattle.go_tree.specs.declared.spans.Span.{Span}
use Rattle.go_tree.specs.GoTypes.Answers.{given}
use Rattle.run_rules.specs.ImportRules.Removed.{same_span}
use Rattle.member_uses.specs.Uses.{Names, package_at, import_at}
use Rattle.name_places.proofs.Lists.{among_case, none_of}
use Rattle.name_places.specs.NamesThere.{Spelling, by_itself, behind_dot, NameThere, Among, first, later}
use Rattle.call_qualifiers.specs.Numbers.{MemberThere, is_written, numbers_put}

is_same : (a b : Span) → same_span a b ≡ true → a ≡ b
is_same a b e = grind (arith, nat_tests, e)

itself : (a : Span) → same_span a a ≡ true
itself a = grind (arith, nat_tests)

-- ---- members that names name

-- one more, where there is a package
abbrev pub and_member : Span → Option ℕ → List MemberThere → List MemberThere
and_member s None rest = rest
and_member s (Some k) rest = (s, k) ∷ rest

pub and_both : (s : Span) (o : Option ℕ) (xs ys : List MemberThere) → and_member s o (xs ++ ys) ≡ and_member s o xs ++ ys
and_both s None xs ys = refl
and_both s (Some k) xs ys = refl

module _ (f : Names) where
  -- the number of the package whose member a name is, where it is written so at a byte
  abbrev pub number_of : Spelling → ℕ → Option ℕ
  number_of (by_itself n) at = package_at f n at
  number_of (behind_dot q) at = given q (λ n. import_at f n at)

  -- the members that names name, in their order
  abbrev pub members : List NameThere → List MemberThere
  members [] = []
  members (x ∷ xs) = and_member x.0 (number_of x.1 x.0.start) (members xs)

  pub members_both : (xs ys : List NameThere) → members (xs ++ ys) ≡ members xs ++ members ys
  members_both [] ys = refl
  members_both (x ∷ xs) ys =
      ap (and_member x.0 (number_of x.1 x.0.start)) (members_both xs ys)
      ∙ and_both x.0 (number_of x.1 x.0.start) (members xs) (members ys)

  -- ---- at a span

  module _ (home there : ℕ) where
    abbrev written : ℕ → Option ℕ
    written k = if is_written home there k then Some k else None

    -- the package whose name stands before the name that is written so at the span
    abbrev pub number_at : Spelling → Span → Option ℕ
    number_at v q = given (number_of v q.start) written

    abbrev next : Bool → Bool → ℕ → Option ℕ → Option ℕ
    next w t k old = if w && t then Some k else old

    -- another name
    skipped : (o : Option ℕ) (s q : Span) (us : List MemberThere) (old : Option ℕ) → same_span q s ≡ false → numbers_put home there (and_member s o us) q old ≡ numbers_put home there us q old
    skipped None s q us old e = refl
    skipped (Some k) s q us old e = ap (λ (x : Option ℕ). numbers_put home there us q x) (ap (λ (t : Bool). next (is_written home there k) t k old) e ∙ off (is_written home there k))
      where
        off : (w : Bool) → next w false k old ≡ old
        off true = refl
        off false = refl

    -- the name itself, where nothing or this was found
    taken : (o : Option ℕ) (s q : Span) (us : List MemberThere) (old : Option ℕ) → same_span q s ≡ true → (given o written ≡ None → old ≡ None) → numbers_put home there (and_member s o us) q old ≡ numbers_put home there us q (given o written)
    taken None s q us old e h = ap (λ (x : Option ℕ). numbers_put home there us q x) (h refl)
    taken (Some k) s q us old e h =
        ap (λ (x : Option ℕ). numbers_put home there us q x) (ap (λ (t : Bool). next (is_written home there k) t k old) e ∙ by (is_written home there k) h)
      where
        by : (w : Bool) → ((if w then Some k else None) ≡ None → old ≡ None) → next w true k old ≡ (if w then Some k else None)
        by true h = refl
        by false h = h refl

    -- no name stands at the span
    pub none_at : (q : Span) (xs : List NameThere) → ((x : NameThere) → Among x xs → x.0 ≡ q → ⊥) → (old : Option ℕ) → numbers_put home there (members xs) q old ≡ old
    none_at q [] h old = refl
    none_at q (x ∷ xs) h old = by (same_span q x.0) refl (none_at q xs (λ y a. h y (later a)) old)
      where
        by : (t : Bool) → same_span q x.0 ≡ t → numbers_put home there (members xs) q old ≡ old → numbers_put home there (members (x ∷ xs)) q old ≡ old
        by true e k = absurd (h x first (sym (is_same q x.0 e)))
        by false e k = skipped (number_of x.1 x.0.start) x.0 q (members xs) old e ∙ k

    -- what is so of all names at the span
    abbrev AreSo : Span → Spelling → List NameThere → Type 0
    AreSo q v xs = (x : NameThere) → Among x xs → x.0 ≡ q → x.1 ≡ v

    number_is : (q : Span) (v : Spelling) (x : NameThere) → q ≡ x.0 → x.1 ≡ v → given (number_of x.1 x.0.start) written ≡ number_at v q
    number_is q v x e w = λ i. given (number_of (w i) (sym e i).start) written

    no_less : (q : Span) (v : Spelling) (x : NameThere) (old : Option ℕ) → q ≡ x.0 → x.1 ≡ v → (number_at v q ≡ None → old ≡ None) → given (number_of x.1 x.0.start) written ≡ None → old ≡ None
    no_less q v x old e w h k = h (sym (number_is q v x e w) ∙ k)

    -- the number stays, once it is found
    kept_at : (q : Span) (v : Spelling) (xs : List NameThere) → AreSo q v xs → numbers_put home there (members xs) q (number_at v q) ≡ number_at v q
    kept_at q v [] h = refl
    kept_at q v (x ∷ xs) h = by (same_span q x.0) refl (kept_at q v xs (λ y a. h y (later a)))
      where
        by : (t : Bool) → same_span q x.0 ≡ t → numbers_put home there (members xs) q (number_at v q) ≡ number_at v q → numbers_put home there (members (x ∷ xs)) q (number_at v q) ≡ number_at v q
        by true e k =
            let s : q ≡ x.0 = is_same q x.0 e in
            let w : x.1 ≡ v = h x first (sym s) in
            taken (number_of x.1 x.0.start) x.0 q (members xs) (number_at v q) e (no_less q v x (number_at v q) s w (λ k. k))
            ∙ ap (λ (o : Option ℕ). numbers_put home there (members xs) q o) (number_is q v x s w)
            ∙ k
        by false e k = skipped (number_of x.1 x.0.start) x.0 q (members xs) (number_at v q) e ∙ k

    -- at a name its number is found
    pub found_at : (q : Span) (v : Spelling) (xs : List NameThere) → AreSo q v xs → (x : NameThere) → Among x xs → x.0 ≡ q → numbers_put home there (members xs) q None ≡ number_at v q
    found_at q v [] h x a e = none_of a
    found_at q v (y ∷ xs) h x a e = by (same_span q y.0) refl (among_case a) (λ m. found_at q v xs (λ z b. h z (later b)) x m e)
      where
        by : (t : Bool) → same_span q y.0 ≡ t → (x ≡ y) ⊎ Among x xs → (Among x xs → numbers_put home there (members xs) q None ≡ number_at v q) → numbers_put home there (members (y ∷ xs)) q None ≡ number_at v q
        by true k m on =
            let s : q ≡ y.0 = is_same q y.0 k in
            let w : y.1 ≡ v = h y first (sym s) in
            taken (number_of y.1 y.0.start) y.0 q (members xs) None k (λ z. refl)
            ∙ ap (λ (o : Option ℕ). numbers_put home there (members xs) q o) (number_is q v y s w)
            ∙ kept_at q v xs (λ z b. h z (later b))
        by false k (inl g) on = absurd (true≢false (sym (ap (same_span q) (ap (λ (n : NameThere). n.0) (sym g) ∙ e) ∙ itself q) ∙ k))
        by false k (inr m) on = skipped (number_of y.1 y.0.start) y.0 q (members xs) None k ∙ on m
