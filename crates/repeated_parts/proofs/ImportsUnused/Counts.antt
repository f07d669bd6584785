-- Numbers of uses, and what is used before a step and after it.
use Rattle.std.proofs.Common.{◌≡◌, refl, ℕ, ◌+◌, Bool, true, false, not, ◌&&◌, nat_eq, nat_lt, arith}
use Rattle.std.proofs.lemmas.Bool.{eq-eqb}
use Rattle.std.proofs.lemmas.Bool.Decides.{nat_tests}
use Rattle.repeated_parts.specs.ImportsUnused.Uses.{one_if}

-- what something else uses stays used
pub still_used : (u o : ℕ) → (nat_lt 0 u && not (nat_lt 0 (u + o))) ≡ false
still_used u o = grind (arith, nat_tests)

-- what the use alone used goes, where the form doesn't use it
pub goes_alone : (u : ℕ) (o : Bool) → (nat_lt 0 u && not (nat_lt 1 (u + one_if o))) ≡ (not o && nat_eq u 1)
goes_alone u true = grind (arith, nat_tests)
goes_alone u false = grind (arith, nat_tests)

pub same_number : (k : ℕ) → nat_eq k k ≡ true
same_number k = eq-eqb k k refl

pub other_number : (j k : ℕ) → (j ≡ k → ⊥) → nat_eq k j ≡ false
other_number j k h = by (nat_eq k j) refl
  where
    by : (b : Bool) → nat_eq k j ≡ b → b ≡ false
    by true e = absurd (h (grind (arith, nat_tests, e)))
    by false e = refl

-- ---- a count on the way

-- where one is counted already, and one more comes, there are two at least
pub two_used : (u rest : ℕ) → u ≡ 1 + (1 + rest) → nat_eq u 1 ≡ false
two_used u rest e = grind (arith, nat_tests, e)

pub once_used : (b : Bool) (u : ℕ) → u ≡ one_if b + 0 → b ≡ nat_eq u 1
once_used true u e = grind (arith, nat_tests, e)
once_used false u e = grind (arith, nat_tests, e)
