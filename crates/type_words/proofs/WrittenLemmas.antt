-- What is written of several results.
use Rattle.std.proofs.Common.{◌≡◌, ◌∙◌, ℕ, ◌≤◌, false, List, [], ◌∷◌, ◌++◌, length, map, refl, ap, arith, append_assoc}
use Rattle.std.specs.Prelude.{codes}
use Rattle.type_table.specs.declared.nodes.TypeId.{TypeId}
use Rattle.type_table.specs.TypesAt.{types_by}
use Rattle.type_table.specs.TypeRelations.Environment.{Environment, env_type}
use Rattle.type_words.specs.TypeText.{results_text}
use Rattle.type_words.specs.Written.{type_rows}

module _ (home : ℕ) (paths : List (List ℕ)) (e : Environment) where
  -- several results stand in parentheses
  pub results_several :
      (old now later_text : List ℕ) (ts : List TypeId) → 2 ≤ length ts → now ≡ old ++ codes " " →
      later_text ≡ now ++ codes "(" ++ type_rows home paths e false ts ++ codes ")" →
      later_text ≡ old ++ results_text home paths (types_by (env_type e) (map (λ t. t.0) ts))
  results_several old now later_text [] l q r = absurd (omega (arith, l))
  results_several old now later_text (t ∷ []) l q r = absurd (omega (arith, l))
  results_several old now later_text (t ∷ u ∷ ts) l q r =
      r ∙ ap (λ k. k ++ codes "(" ++ type_rows home paths e false (t ∷ u ∷ ts) ++ codes ")") q
      ∙ simp append_assoc refl
