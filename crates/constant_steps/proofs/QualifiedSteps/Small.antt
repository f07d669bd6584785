-- Small laws of tests, and of lists of simple parts.
use Rattle.std.specs.Prelude.{◌≡◌, refl, Bool, true, false, ◌&&◌, ◌||◌, List, [], ◌∷◌, ◌++◌}
use Rattle.std.proofs.Common.{arith}
use Rattle.run_rules.specs.Surroundings.{Seen}
use Rattle.constant_steps.specs.PlainUse.{AllSimple}

pub or_left : (a b : Bool) → a ≡ true → (a || b) ≡ true
or_left true b e = refl
or_left false b e = absurd (grind (arith, e))

pub or_right : (a b : Bool) → b ≡ true → (a || b) ≡ true
or_right true b e = refl
or_right false b e = e

pub both_parts : (a b : Bool) → (a && b) ≡ true → (a ≡ true) × (b ≡ true)
both_parts true b e = (refl, e)
both_parts false b e = absurd (grind (arith, e))

module _ {S : Type 0} where
  pub simple_front : (xs ys : List (Seen S)) → AllSimple (xs ++ ys) → AllSimple xs
  simple_front [] ys a = tt
  simple_front (x ∷ xs) ys a = (a.0, simple_front xs ys a.1)

  pub simple_behind : (xs ys : List (Seen S)) → AllSimple (xs ++ ys) → AllSimple ys
  simple_behind [] ys a = a
  simple_behind (x ∷ xs) ys a = simple_behind xs ys a.1
