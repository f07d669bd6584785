-- A list of which one entry is changed.
use Rattle.std.proofs.Common.{◌≡◌, ◌∙◌, ap, ℕ, zero, suc, ◌<◌, List, [], ◌∷◌, length, map, get_or, arith}
use Rattle.std.proofs.Math.ListN.{set}
use Rattle.run_rules.specs.Steps.{change_nth}

-- the entry that is put in the place of another is the other changed
pub put_changed : {A B : Type 0} (g : A → B) (f : B → B) (xs : List A) (i : ℕ) (x y : A) → i < length xs → x ≡ get_or xs i x → g y ≡ f (g x)
    → map g (set xs i y) ≡ change_nth i f (map g xs)
put_changed {A = A} {B = B} g f [] i x y h e n = absurd (omega (arith, h))
put_changed {A = A} {B = B} g f (z ∷ xs) zero x y h e n = ap (λ (w : B). w ∷ map g xs) (n ∙ ap (λ (v : A). f (g v)) e)
put_changed {A = A} {B = B} g f (z ∷ xs) (suc i) x y h e n = ap (λ (ws : List B). g z ∷ ws) (put_changed g f xs i x y (omega (arith, h)) e n)
