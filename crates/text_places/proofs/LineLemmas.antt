-- Lines and columns with one more byte.
use Rattle.std.proofs.Common.{◌≡◌, ◌≢◌, ◌<◌, ◌+◌, ℕ, List, [], ◌∷◌, ◌++◌, length, take, get_or, refl, ap, ◌∙◌, arith, cond, ◌==◌}
use Rattle.std.proofs.lemmas.List.{take_more, reverse-append}
use Rattle.std.proofs.lemmas.List.Sums.{sum_by-append}
use Rattle.std.proofs.lemmas.Bool.Decides.{nat_tests}
use Rattle.text_places.specs.Lines.{lines_before, column_after}

lines_push : (xs : List ℕ) (b : ℕ) → lines_before (xs ++ b ∷ []) ≡ lines_before xs + lines_before (b ∷ [])
lines_push xs b = sum_by-append (λ x. cond (x == 10) 1 0) xs (b ∷ [])

lines_push_end : (xs : List ℕ) (b : ℕ) → b ≡ 10 → lines_before (xs ++ b ∷ []) ≡ lines_before xs + 1
lines_push_end xs b e = lines_push xs b ∙ ap (λ c. lines_before xs + lines_before (c ∷ [])) e

lines_push_same : (xs : List ℕ) (b : ℕ) → b ≢ 10 → lines_before (xs ++ b ∷ []) ≡ lines_before xs
lines_push_same xs b e = lines_push xs b ∙ (let none : lines_before (b ∷ []) ≡ 0 = grind (arith, nat_tests) in omega (arith, none))

column_push_end : (xs : List ℕ) (b : ℕ) → b ≡ 10 → column_after (xs ++ b ∷ []) ≡ 0
column_push_end xs b e = rw (reverse-append, e) refl

column_push_same : (xs : List ℕ) (b : ℕ) → b ≢ 10 → column_after (xs ++ b ∷ []) ≡ column_after xs + 1
column_push_same xs b e = rw reverse-append (grind (arith, nat_tests))

module _ (xs : List ℕ) (i : ℕ) (lt : i < length xs) where
  pub lines_end : get_or xs i 0 ≡ 10 → lines_before (take (i + 1) xs) ≡ lines_before (take i xs) + 1
  lines_end e = ap lines_before (take_more xs i 0 lt) ∙ lines_push_end (take i xs) (get_or xs i 0) e

  pub lines_same : get_or xs i 0 ≢ 10 → lines_before (take (i + 1) xs) ≡ lines_before (take i xs)
  lines_same e = ap lines_before (take_more xs i 0 lt) ∙ lines_push_same (take i xs) (get_or xs i 0) e

  pub column_end : get_or xs i 0 ≡ 10 → column_after (take (i + 1) xs) ≡ 0
  column_end e = ap column_after (take_more xs i 0 lt) ∙ column_push_end (take i xs) (get_or xs i 0) e

  pub column_same : get_or xs i 0 ≢ 10 → column_after (take (i + 1) xs) ≡ column_after (take i xs) + 1
  column_same e = ap column_after (take_more xs i 0 lt) ∙ column_push_same (take i xs) (get_or xs i 0) e

pub ruleset place_lemmas = (lines_end, lines_same, column_end, column_same)
