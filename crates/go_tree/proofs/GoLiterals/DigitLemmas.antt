-- Numbers by their digits, one digit after another.
use Rattle.std.proofs.Common.{◌≡◌, ℕ, suc, ◌+◌, ◌*◌, ◌<◌, ◌≤◌, List, [], ◌∷◌, length, drop, get_or, ap, ◌∙◌, arith}
use Rattle.std.proofs.Math.Seq.{drop-cons}
use Rattle.std.proofs.Math.Nat.{le-mul_of_pos_right}
use Rattle.go_tree.specs.GoWords.Texts.{digits_in, hex_digit}

pub digits_grow : (base n : ℕ) (cs : List ℕ) → 0 < base → n ≤ digits_in base n cs
digits_grow base n [] h = omega arith
digits_grow base n (c ∷ cs) h =
    let more : n * base + hex_digit c ≤ digits_in base (n * base + hex_digit c) cs = digits_grow base (n * base + hex_digit c) cs h in
    let grown : n ≤ n * base = le-mul_of_pos_right n h in
    omega (arith, more, grown)

pub next_digit : (base n : ℕ) (cs : List ℕ) (i : ℕ) → i < length cs
    → digits_in base n (drop i cs) ≡ digits_in base (n * base + hex_digit (get_or cs i 0)) (drop (i + 1) cs)
next_digit base n cs i h =
    let e : suc i ≡ i + 1 = omega arith in
    ap (digits_in base n) (drop-cons cs i 0 h) ∙ ap (λ k. digits_in base (n * base + hex_digit (get_or cs i 0)) (drop k cs)) e
