-- The second of two fields of a line.
use Rattle.std.proofs.Common.{◌≡◌, ◌∙◌, ℕ, Bool, true, false, not, if◌then◌else◌, bytes_eq, List, [], ◌∷◌, Option, None, Some, refl, sym, ap}
use Rattle.std.proofs.lemmas.Bool.{true≢false}
use Rattle.pkg_graph.specs.ModuleFiles.Pieces.{fields}
use Rattle.pkg_graph.specs.ModuleFiles.ModuleFile.{second_of, argument_in}

pub denied : (r b : Bool) → r ≡ not b → r ≡ true → b ≡ false
denied r true e h = absurd (true≢false (sym h ∙ e))
denied r false e h = refl

pub granted : (r b : Bool) → r ≡ not b → r ≡ false → b ≡ true
granted r true e h = refl
granted r false e h = absurd (true≢false (sym e ∙ h))

module _ (word line : List ℕ) (xs : List (List ℕ)) (are : xs ≡ fields line) where
  by : (r : Option (List ℕ)) (ys : List (List ℕ)) → xs ≡ ys → r ≡ second_of word ys → r ≡ argument_in word line
  unfolding argument_in
  by r ys e f = f ∙ ap (second_of word) (sym e ∙ are)

  pub no_field : xs ≡ [] → None ≡ argument_in word line
  no_field e = by None [] e refl

  pub one_field : (first : List ℕ) (ys : List (List ℕ)) → xs ≡ first ∷ ys → ys ≡ [] → None ≡ argument_in word line
  one_field first ys e f = by None (first ∷ []) (e ∙ ap (λ r. first ∷ r) f) refl

  module _ (first second : List ℕ) (ys zs : List (List ℕ)) (e : xs ≡ first ∷ ys) (f : ys ≡ second ∷ zs) where
    two_so_far : (ws : List (List ℕ)) → zs ≡ ws → xs ≡ first ∷ second ∷ ws
    two_so_far ws g = e ∙ ap (λ r. first ∷ r) (f ∙ ap (λ r. second ∷ r) g)

    pub two_fields : bytes_eq first word ≡ true → zs ≡ [] → Some second ≡ argument_in word line
    two_fields g h = by (Some second) (first ∷ second ∷ []) (two_so_far [] h) (ap (λ b. if b then Some second else None) (sym g))

    pub more_fields : (third : List ℕ) (ws : List (List ℕ)) → zs ≡ third ∷ ws → None ≡ argument_in word line
    more_fields third ws h = by None (first ∷ second ∷ third ∷ ws) (two_so_far (third ∷ ws) h) refl

    other_by : (ws : List (List ℕ)) → zs ≡ ws → bytes_eq first word ≡ false → None ≡ argument_in word line
    other_by [] h g = by None (first ∷ second ∷ []) (two_so_far [] h) (ap (λ b. if b then Some second else None) (sym g))
    other_by (w ∷ ws) h g = more_fields w ws h

    pub other_word : bytes_eq first word ≡ false → None ≡ argument_in word line
    other_word g = other_by zs refl g
