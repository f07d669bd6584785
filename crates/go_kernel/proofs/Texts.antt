-- Texts that are found equal are equal, and each is found equal to itself.
use Rattle.std.proofs.Common.{◌≡◌, ℕ, List, true, arith}
use Rattle.std.specs.Prelude.{bytes_eq}
use Rattle.std.proofs.lemmas.Slice.Eq.{bytes_eq-Decides}

pub text_equal : (a b : List ℕ) → bytes_eq a b ≡ true → a ≡ b
text_equal a b e = grind (arith, bytes_eq-Decides a b, e)

pub text_itself : (a : List ℕ) → bytes_eq a a ≡ true
text_itself a = grind (arith, bytes_eq-Decides a a)
