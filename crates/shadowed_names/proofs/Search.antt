-- The search for the first answer, part by part.
use Rattle.std.proofs.Common.{◌≡◌, ◌∙◌, ◌<◌, ◌≤◌, ◌+◌, ℕ, zero, suc, List, [], ◌∷◌, map, length, drop, get_or, Option, Some, None, refl, sym, ap, drop-cons, arith}
use Rattle.go_tree.specs.declared.spans.Span.{Span}
use Rattle.go_tree.specs.GoTypes.Answers.{given, one_of}
use Rattle.run_rules.specs.Sites.{Part}
use Rattle.member_uses.specs.PossibleUses.Views.{part_of}
use Rattle.member_uses.specs.declared.possible_uses.parts.PartRef.{PartRef}
use Rattle.repeated_parts.specs.Flags.{Flags}
use Rattle.repeated_parts.specs.UsesRepeated.Uses.{first_flag, later_flags}
use Rattle.shadowed_names.specs.Told.{first_told}

later_is : (ms : Flags) (i : ℕ) → later_flags (drop i ms) ≡ drop (suc i) ms
later_is [] zero = refl
later_is [] (suc i) = refl
later_is (m ∷ ms) zero = refl
later_is (m ∷ ms) (suc i) = later_is ms i

none_left : (ps : List PartRef) (i : ℕ) → length ps ≤ i → drop i ps ≡ []
none_left [] zero h = refl
none_left [] (suc i) h = refl
none_left (p ∷ ps) zero h = absurd (omega (arith, h))
none_left (p ∷ ps) (suc i) h = none_left ps i (omega (arith, h))

module _ {A : Type 0} (f : Part Span → Option A) (ps : List PartRef) (ms : Flags) where
  -- what is found from a number on
  abbrev from : ℕ → Option A
  from i = first_told f (map part_of (drop i ps)) (drop i ms)

  -- and of the part with that number
  abbrev here : ℕ → PartRef → Option A
  here i x = given (first_flag (drop i ms)) (λ m. f (part_of x).part)

  next : (i : ℕ) (x : PartRef) → i < length ps → x ≡ get_or ps i x → from i ≡ one_of (here i x) (from (suc i))
  next i x h e =
      ap (λ (qs : List PartRef). first_told f (map part_of qs) (drop i ms)) (drop-cons ps i x h ∙ ap (λ (z : PartRef). z ∷ drop (suc i) ps) (sym e))
      ∙ ap (λ (ns : Flags). one_of (here i x) (first_told f (map part_of (drop (suc i) ps)) ns)) (later_is ms i)

  -- there is none for this part
  pub none_here : (i : ℕ) (x : PartRef) (all : Option A) → i < length ps → x ≡ get_or ps i x → here i x ≡ None → from i ≡ all → from (i + 1) ≡ all
  none_here i x all h e n w =
      let on : i + 1 ≡ suc i = omega arith in
      ap from on ∙ sym (next i x h e ∙ ap (λ (o : Option A). one_of o (from (suc i))) n) ∙ w

  -- there is one for this part
  pub one_here : (i : ℕ) (x : PartRef) (y : A) (all : Option A) → i < length ps → x ≡ get_or ps i x → here i x ≡ Some y → from i ≡ all → Some y ≡ all
  one_here i x y all h e n w = sym (next i x h e ∙ ap (λ (o : Option A). one_of o (from (suc i))) n) ∙ w

  -- there is none for any
  pub none_at_all : (i : ℕ) (all : Option A) → length ps ≤ i → from i ≡ all → None ≡ all
  none_at_all i all h w = sym (ap (λ (qs : List PartRef). first_told f (map part_of qs) (drop i ms)) (none_left ps i h)) ∙ w
