-- Laws of conditions on all numbers below a bound.
use Rattle.std.proofs.Common.{◌≡◌, ◌<◌, ℕ, zero, suc, Bool, true, false, ◌&&◌, refl, arith}
use Rattle.pkg_graph.specs.ModuleFiles.Internal.{all_below}

module _ (p : ℕ → Bool) where
  missed_by : (n k : ℕ) (b : Bool) → p n ≡ b → p k ≡ false → k < suc n → (k < n → all_below p n ≡ false) → (b && all_below p n) ≡ false
  missed_by n k false q e h f = refl
  missed_by n k true q e h f = f (grind (arith, q, e, h))

  pub below_missed : (n k : ℕ) → p k ≡ false → k < n → all_below p n ≡ false
  below_missed zero k e h = grind (arith, h)
  below_missed (suc n) k e h = missed_by n k (p n) refl e h (below_missed n k e)

  pub below_more : (n : ℕ) → all_below p n ≡ true → p n ≡ true → all_below p (suc n) ≡ true
  below_more n e f = grind (arith, e, f)

  both_left : (a b : Bool) → a && b ≡ true → a ≡ true
  both_left true b e = refl
  both_left false b e = grind (arith, e)

  both_right : (a b : Bool) → a && b ≡ true → b ≡ true
  both_right true b e = e
  both_right false b e = grind (arith, e)

  pub below_each : (n : ℕ) → all_below p n ≡ true → (k : ℕ) → k < n → p k ≡ true
  below_each zero e k h = grind (arith, h)
  below_each (suc n) e k h = grind (arith, both_left (p n) (all_below p n) e, below_each n (both_right (p n) (all_below p n) e) k)

  pub below_all : (n : ℕ) → ((k : ℕ) → k < n → p k ≡ true) → all_below p n ≡ true
  below_all zero f = refl
  below_all (suc n) f = below_more n (below_all n (λ k h. f k (grind (arith, h)))) (f n (grind arith))
