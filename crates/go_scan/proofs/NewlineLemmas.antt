-- Whether a word has a newline.
use Rattle.std.proofs.Common.{◌≡◌, ℕ, Bool, ◌||◌, nat_eq, List, [], ◌∷◌, refl, ap, ◌∙◌, arith}
use Rattle.std.proofs.lemmas.Bool.Decides.{nat_tests}
use Rattle.std.specs.List.{list_any}
use Rattle.go_tree.specs.GoWords.Tokens.Characters.{is_listed}

turned : (a b : ℕ) → nat_eq a b ≡ nat_eq b a
turned a b = grind (arith, nat_tests)

pub any_listed : (xs : List ℕ) (c : ℕ) → list_any (λ x. nat_eq x c) xs ≡ is_listed xs c
any_listed [] c = refl
any_listed (x ∷ xs) c = ap (λ (b : Bool). b || list_any (λ y. nat_eq y c) xs) (turned x c) ∙ ap (λ (b : Bool). nat_eq c x || b) (any_listed xs c)
