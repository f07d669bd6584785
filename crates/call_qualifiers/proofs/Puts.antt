-- The packages of members that are named, one after another.
use Rattle.std.proofs.Common.{◌≡◌, ◌∙◌, ◌<◌, ◌≤◌, ◌+◌, ℕ, zero, suc, List, [], ◌∷◌, map, length, drop, get_or, Option, refl, sym, ap, drop-cons, arith}
use Rattle.go_tree.specs.declared.spans.Span.{Span}
use Rattle.repeated_parts.specs.declared.uses_repeated.uses.FlaggedUse.{FlaggedUse}
use Rattle.call_qualifiers.specs.Numbers.{there_of, number_put, numbers_put}

none_left : (us : List FlaggedUse) (i : ℕ) → length us ≤ i → drop i us ≡ []
none_left [] zero h = refl
none_left [] (suc i) h = refl
none_left (u ∷ us) zero h = absurd (omega (arith, h))
none_left (u ∷ us) (suc i) h = none_left us i (omega (arith, h))

module _ (home there : ℕ) (us : List FlaggedUse) where
  abbrev from : ℕ → Span → Option ℕ → Option ℕ
  from i q o = numbers_put home there (map there_of (drop i us)) q o

  -- one more member
  pub one_put : (i : ℕ) (u : FlaggedUse) (q : Span) (was now all : Option ℕ) → i < length us → u ≡ get_or us i u → now ≡ number_put home there (there_of u) q was → from i q was ≡ all → from (i + 1) q now ≡ all
  one_put i u q was now all h e n w =
      let on : i + 1 ≡ suc i = omega arith in
      ap (λ (j : ℕ). from j q now) on
      ∙ ap (from (suc i) q) n
      ∙ sym (ap (λ (vs : List FlaggedUse). numbers_put home there (map there_of vs) q was) (drop-cons us i u h ∙ ap (λ (z : FlaggedUse). z ∷ drop (suc i) us) (sym e)))
      ∙ w

  -- all of them
  pub all_put : (i : ℕ) (q : Span) (now all : Option ℕ) → length us ≤ i → from i q now ≡ all → now ≡ all
  all_put i q now all h w = sym (ap (λ (vs : List FlaggedUse). numbers_put home there (map there_of vs) q now) (none_left us i h)) ∙ w
