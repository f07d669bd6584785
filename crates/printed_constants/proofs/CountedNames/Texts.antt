-- The texts of files with paths of their own are among all texts; so these aren't less together.
use Rattle.std.proofs.Common.{◌≡◌, refl, sym, ◌∙◌, ℕ, suc, ◌+◌, ◌≤◌, Bool, true, false, List, [], ◌∷◌, length, Some, None, if◌then◌else◌, bytes_eq, arith}
use Rattle.std.specs.Prelude.{slice_get}
use Rattle.std.proofs.lemmas.Slice.Eq.{bytes_eq-Decides}
use Rattle.run_rules.specs.Marks.{text_at}
use Rattle.run_rules.specs.Run.{texts_size}
use Rattle.run_rules.specs.Texts.{FileText}

abbrev Texts : Type 0
Texts = List (List ℕ × FileText)

-- the bytes of the text with a path
abbrev pub size_at : List ℕ → Texts → ℕ
size_at path ts = elim (text_at path ts) [ None ↦ 0 | Some x ↦ length x.text ]

-- those of the texts with these paths
abbrev pub sizes_at : List (List ℕ) → Texts → ℕ
sizes_at [] ts = 0
sizes_at (p ∷ ps) ts = size_at p ts + sizes_at ps ts

-- each path stands once among these
abbrev Other : List ℕ → List (List ℕ) → Type 0
Other p [] = Unit {0}
Other p (q ∷ qs) = (bytes_eq q p ≡ false) × Other p qs

abbrev pub Once : List (List ℕ) → Type 0
Once [] = Unit {0}
Once (p ∷ ps) = Other p ps × Once ps

module _ (t : List ℕ × FileText) (ts : Texts) where
  abbrev with_first : Bool → List ℕ → ℕ
  with_first b p = elim (if b then Some t.1 else text_at p ts) [ None ↦ 0 | Some x ↦ length x.text ]

  one_other : (p : List ℕ) (b : Bool) → b ≡ false → with_first b p ≡ size_at p ts
  one_other p true e = absurd cc
  one_other p false e = refl

  all_other : (ps : List (List ℕ)) → Other t.0 ps → sizes_at ps (t ∷ ts) ≡ sizes_at ps ts
  all_other [] h = refl
  all_other (p ∷ ps) h =
      let a : size_at p (t ∷ ts) ≡ size_at p ts = one_other p (bytes_eq p t.0) h.0 in
      let b = all_other ps h.1 in omega (arith, a, b)

  first_more : (ps : List (List ℕ)) → Once ps → sizes_at ps (t ∷ ts) ≤ length t.1.text + sizes_at ps ts
  first_more [] h = omega arith
  first_more (p ∷ ps) h = by (bytes_eq p t.0) refl (first_more ps h.1)
    where
      others : p ≡ t.0 → (qs : List (List ℕ)) → Other p qs → Other t.0 qs
      others e [] o = tt
      others e (q ∷ qs) o = ((λ v. bytes_eq q (sym e v)) ∙ o.0, others e qs o.1)

      by : (b : Bool) → bytes_eq p t.0 ≡ b → sizes_at ps (t ∷ ts) ≤ length t.1.text + sizes_at ps ts → with_first b p + sizes_at ps (t ∷ ts) ≤ length t.1.text + (size_at p ts + sizes_at ps ts)
      by true e r = let same : sizes_at ps (t ∷ ts) ≡ sizes_at ps ts = all_other ps (others ((bytes_eq-Decides p t.0).0 e) ps h.0) in omega (arith, same)
      by false e r = omega (arith, r)

pub among_all : (ts : Texts) (ps : List (List ℕ)) → Once ps → sizes_at ps ts ≤ texts_size ts
among_all [] ps h = let e = none ps in omega (arith, e)
  where
    none : (ps : List (List ℕ)) → sizes_at ps [] ≡ 0
    none [] = refl
    none (p ∷ ps) = let e = none ps in omega (arith, e)
among_all (t ∷ ts) ps h = let a = first_more t ts ps h in let b = among_all ts ps h in omega (arith, a, b)

-- one text among all
pub one_among : (ts : Texts) (p : List ℕ) → size_at p ts ≤ texts_size ts
one_among ts p = let a = among_all ts (p ∷ []) (tt, tt) in omega (arith, a)

-- ---- paths by their numbers

pub once_of : (ps : List (List ℕ)) → ((i j : ℕ) (p q : List ℕ) → slice_get ps i ≡ Some p → slice_get ps j ≡ Some q → p ≡ q → i ≡ j) → Once ps
once_of [] h = tt
once_of (p ∷ ps) h = (others ps (λ j q e s. first j (h 0 (suc j) p q refl e s)), once_of ps (λ i j q r e f s. less i j (h (suc i) (suc j) q r e f s)))
  where
    first : (j : ℕ) → 0 ≡ suc j → ⊥
    first j e = absurd (omega (arith, e))

    less : (i j : ℕ) → suc i ≡ suc j → i ≡ j
    less i j e = omega (arith, e)

    others : (qs : List (List ℕ)) → ((j : ℕ) (q : List ℕ) → slice_get qs j ≡ Some q → p ≡ q → ⊥) → Other p qs
    others [] k = tt
    others (q ∷ qs) k = (by (bytes_eq q p) refl, others qs (λ j r e s. k (suc j) r e s))
      where
        by : (b : Bool) → bytes_eq q p ≡ b → bytes_eq q p ≡ false
        by true e = absurd (k 0 q refl (sym ((bytes_eq-Decides q p).0 e)))
        by false e = e
