-- Which variables that a deferred literal names live in cells.
use Rattle.std.specs.Prelude.{◌≡◌, refl, ℕ, Bool, true, false, ◌&&◌, ◌||◌, List, [], ◌∷◌, ◌⊎◌, bytes_eq}
use Rattle.std.proofs.Common.{arith, inl, inr}
use Rattle.go_translation.specs.Mentions.{Mention, any_mention, is_addressed, is_stored, is_held, is_held_param}

pub deferred_is_held : (ms : List Mention) (n : List ℕ) → any_mention (λ m. m.deferred) n ms ≡ true → is_held ms n ≡ true
deferred_is_held [] n e = e
deferred_is_held (m ∷ ms) n e = go (bytes_eq n m.name) (is_addressed m.way) m.deferred e (deferred_is_held ms n)
  where
    go : (b a d : Bool) → (b && d) || any_mention (λ m. m.deferred) n ms ≡ true → (any_mention (λ m. m.deferred) n ms ≡ true → is_held ms n ≡ true) → (b && (a || d)) || is_held ms n ≡ true
    go false a d e f = f e
    go true true d e f = refl
    go true false true e f = refl
    go true false false e f = f e

pub param_kept : (ms : List Mention) (n : List ℕ) → any_mention (λ m. m.deferred) n ms ≡ true → (is_held_param ms n ≡ true) ⊎ (any_mention (λ m. is_stored m.way) n ms ≡ false)
param_kept ms n e = go (any_mention (λ m. is_addressed m.way) n ms) (any_mention (λ m. m.deferred) n ms) (any_mention (λ m. is_stored m.way) n ms) e
  where
    go : (a d s : Bool) → d ≡ true → (a || (d && s) ≡ true) ⊎ (s ≡ false)
    go true d s e = inl refl
    go false true true e = inl refl
    go false true false e = inr refl
    go false false s e = absurd (grind (arith, e))
