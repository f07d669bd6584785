-- The uses that parts are, one part after another.
use Rattle.std.proofs.Common.{◌≡◌, ◌∙◌, ◌<◌, ◌+◌, ℕ, zero, suc, Bool, Option, List, [], ◌∷◌, ◌++◌, map, length, drop, get_or, refl, sym, ap, arith, append_assoc, drop-cons}
use Rattle.member_uses.specs.declared.possible_uses.parts.PartRef.{PartRef}
use Rattle.member_uses.specs.PossibleUses.Views.{part_of}
use Rattle.member_uses.specs.Uses.{Used, Names, part_uses}
use Rattle.repeated_parts.specs.Flags.{Flags}
use Rattle.repeated_parts.specs.UsesRepeated.Uses.{first_flag, later_flags, under_flag, flagged_uses}

later_is : (ms : Flags) (i : ℕ) → later_flags (drop i ms) ≡ drop (suc i) ms
later_is [] zero = refl
later_is [] (suc i) = refl
later_is (m ∷ ms) zero = refl
later_is (m ∷ ms) (suc i) = later_is ms i

module _ (f : Names) where
  abbrev one : Option Bool → PartRef → List (Used × Bool)
  one m x = under_flag m (part_uses (λ s. s) f (part_of x).key (part_of x).part)

  abbrev from : List PartRef → Flags → ℕ → List (Used × Bool)
  from ps ms i = flagged_uses (λ s. s) f (map part_of (drop i ps)) (drop i ms)

  next : (ps : List PartRef) (ms : Flags) (i : ℕ) (x : PartRef) → i < length ps → x ≡ get_or ps i x → from ps ms i ≡ one (first_flag (drop i ms)) x ++ from ps ms (suc i)
  next ps ms i x h e =
      ap (λ (qs : List PartRef). flagged_uses (λ s. s) f (map part_of qs) (drop i ms)) (drop-cons ps i x h ∙ ap (λ (z : PartRef). z ∷ drop (suc i) ps) (sym e))
      ∙ ap (λ (ns : Flags). one (first_flag (drop i ms)) x ++ flagged_uses (λ s. s) f (map part_of (drop (suc i) ps)) ns) (later_is ms i)

  -- one more part
  pub one_part : (ps : List PartRef) (ms : Flags) (i : ℕ) (x : PartRef) (m : Option Bool) (was now all : List (Used × Bool)) → i < length ps → x ≡ get_or ps i x → m ≡ first_flag (drop i ms)
      → now ≡ was ++ one m x → was ++ from ps ms i ≡ all → now ++ from ps ms (i + 1) ≡ all
  one_part ps ms i x m was now all h e r n w =
      let on : i + 1 ≡ suc i = omega arith in
      ap (λ (j : ℕ). now ++ from ps ms j) on
      ∙ ap (λ (us : List (Used × Bool)). us ++ from ps ms (suc i)) (n ∙ ap (λ (b : Option Bool). was ++ one b x) r)
      ∙ append_assoc was (one (first_flag (drop i ms)) x) (from ps ms (suc i))
      ∙ ap (λ (us : List (Used × Bool)). was ++ us) (sym (next ps ms i x h e))
      ∙ w
