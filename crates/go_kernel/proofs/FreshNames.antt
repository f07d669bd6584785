-- Names: equality of names decides, and the spare names that no source can spell.
use Rattle.std.proofs.Common.{◌≡◌, ℕ, zero, [], ◌∷◌, Bool, true, false, refl, subst}
use Rattle.std.specs.Prelude.{bytes_eq}
use Rattle.go_kernel.specs.Kernel.{Name}
use Rattle.go_kernel.proofs.Texts.{text_equal, text_itself}

pub name_self : (x : Name) → bytes_eq x x ≡ true
name_self x = text_itself x

pub true_name : (x y : Name) → x ≡ y → bytes_eq x y ≡ true
true_name x y e = subst (λ z. bytes_eq x z ≡ true) e (text_itself x)

pub name_true : (x y : Name) → bytes_eq x y ≡ true → x ≡ y
name_true x y h = text_equal x y h

-- the number of a spare name
abbrev pub height : Name → ℕ
height (zero ∷ k ∷ []) = k
height _ = 0

pub name_neq : (x y : Name) → (x ≡ y → ⊥) → bytes_eq x y ≡ false
name_neq x y h = go (bytes_eq x y) refl
  where
    go : (c : Bool) → bytes_eq x y ≡ c → c ≡ false
    go true e = absurd (h (name_true x y e))
    go false e = refl
