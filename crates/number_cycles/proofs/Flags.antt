-- Flags of numbers, one after another.
use Rattle.std.proofs.Common.{◌≡◌, ◌<◌, ℕ, zero, suc, Bool, true, false, List, [], ◌∷◌, ◌++◌, length, sym, arith}
use Rattle.std.proofs.lemmas.Bool.{true≢false}
use Rattle.pkg_graph.specs.ImportOrder.Numbers.{is_marked}

-- what is said of numbers whose flag is set
pub one_set : (xs : List Bool) (b : Bool) (P : ℕ → Type 0) → ((j : ℕ) → is_marked xs j ≡ true → P j) → (b ≡ true → P (length xs)) → (j : ℕ) → is_marked (xs ++ b ∷ []) j ≡ true → P j
one_set [] b P f g zero e = g e
one_set [] b P f g (suc j) e = absurd (true≢false (sym e))
one_set (x ∷ xs) b P f g zero e = f zero e
one_set (x ∷ xs) b P f g (suc j) e = one_set xs b (λ (i : ℕ). P (suc i)) (λ i. f (suc i)) g j e

-- and of those whose flag is there and isn't
pub one_unset : (xs : List Bool) (b : Bool) (P : ℕ → Type 0) → ((j : ℕ) → j < length xs → is_marked xs j ≡ false → P j) → (b ≡ false → P (length xs)) → (j : ℕ) → j < suc (length xs) → is_marked (xs ++ b ∷ []) j ≡ false → P j
one_unset [] b P f g zero h e = g e
one_unset [] b P f g (suc j) h e = absurd (omega (arith, h))
one_unset (x ∷ xs) b P f g zero h e = f zero (omega arith) e
one_unset (x ∷ xs) b P f g (suc j) h e =
    one_unset xs b (λ (i : ℕ). P (suc i)) (λ i l. f (suc i) (omega (arith, l))) g j (omega (arith, h)) e
