-- Whether all single names are marked, one asked after the other.
use Rattle.std.proofs.Common.{◌≡◌, ◌∙◌, ◌&&◌, ◌+◌, ℕ, Bool, true, not, List, [], ◌∷◌, ap, ap₂, drop}
use Rattle.value_rounds.specs.Values.{is_value}
use Rattle.collected.specs.declared.single_headers.SingleHeader.{SingleHeader}
use Rattle.collected.specs.SingleHeaders.Singles.{single_of}
use Rattle.collected.specs.PackageValues.Passes.{all_marked}

module _ (singles : List SingleHeader) (marks : List Bool) where
  -- one more is asked
  pub marked_more :
      (i : ℕ) (c : SingleHeader) (b : Bool) → drop i singles ≡ c ∷ drop (i + 1) singles →
      drop i marks ≡ b ∷ drop (i + 1) marks →
      all_marked singles marks ≡ all_marked (drop i singles) (drop i marks) → (t : Bool) →
      (is_value (single_of c.kind) && not b) ≡ t →
      all_marked singles marks ≡ (not t && all_marked (drop (i + 1) singles) (drop (i + 1) marks))
  marked_more i c b here mark r t e =
      r ∙ ap₂ (λ cs bs. all_marked cs bs) here mark
      ∙ ap (λ t. not t && all_marked (drop (i + 1) singles) (drop (i + 1) marks)) e

  -- all are
  pub marked_all :
      (i : ℕ) → drop i singles ≡ [] → all_marked singles marks ≡ all_marked (drop i singles) (drop i marks) →
      all_marked singles marks ≡ true
  marked_all i end r = r ∙ ap (λ cs. all_marked cs (drop i marks)) end
