-- An identifier begins with a letter, so with neither of the two bytes that begin other names.
use Rattle.std.proofs.Common.{◌≡◌, ℕ, ◌+◌, ◌≤◌, ◌<◌, ◌/◌, ◌%◌, Bool, true, false, cond, ◌&&◌, nat_lt, nat_eq, List, [], ◌∷◌, ◌++◌, refl, sym, subst, ◌∙◌, arith, encode_utf8, encode_utf8_all}
use Rattle.std.proofs.lemmas.Bool.Decides.{nat_tests}
use Rattle.std.specs.Str.{chars}
use Rattle.std.proofs.lemmas.Str.{encodes-chars}
use Rattle.go_tree.specs.GoWords.Tokens.Characters.{is_letter, is_word, each}
use Rattle.go_tree.specs.GoWords.Tokens.Pieces.{is_identifier}
use Rattle.go_scan.proofs.LetterLemmas.{letter_ascii}
use Rattle.go_layout.specs.LayoutLaws.Formed.{IsName}
use Rattle.go_translation.specs.Spelled.{is_spelled}

both : (a b : Bool) → a && b ≡ true → (a ≡ true) × (b ≡ true)
both true true h = (refl, refl)
both true false h = absurd cc
both false b h = absurd cc

-- a byte past 46
big : (k : ℕ) (rest : List ℕ) → 47 ≤ k → is_spelled (k ∷ rest) ≡ true
big k rest h = rw (apart_from 46 (grind (arith, nat_tests, h)), apart_from 35 (grind (arith, nat_tests, h))) refl
  where
    apart_from : (n : ℕ) → nat_eq k n ≡ false → nat_eq k n ≡ false
    apart_from n e = e

-- a letter of ASCII
small : (c : ℕ) → c < 128 → is_letter c ≡ true → 47 ≤ c
small c s l = by (nat_lt c 47) refl
  where
    by : (b : Bool) → nat_lt c 47 ≡ b → 47 ≤ c
    by false e = grind (arith, nat_tests, e)
    by true e = absurd (grind (arith, nat_tests, e, sym (letter_ascii c s) ∙ l))

over : (n k : ℕ) → 47 ≤ n → 47 ≤ n + k
over n k h = omega (arith, h)

-- the bytes of a letter, with others behind them
letter_spelled : (c : ℕ) (rest : List ℕ) → is_letter c ≡ true → is_spelled (encode_utf8 c ++ rest) ≡ true
unfolding lib.Utf8.encode
letter_spelled c rest l = by (nat_lt c 128) (nat_lt c 2048) (nat_lt c 65536) refl
  where
    by : (x y z : Bool) → nat_lt c 128 ≡ x
        → is_spelled (cond x (c ∷ []) (cond y ((192 + c / 64) ∷ (128 + c % 64) ∷ []) (cond z ((224 + c / 4096) ∷ (128 + (c / 64) % 64) ∷ (128 + c % 64) ∷ []) ((240 + c / 262144) ∷ (128 + (c / 4096) % 64) ∷ (128 + (c / 64) % 64) ∷ (128 + c % 64) ∷ []))) ++ rest) ≡ true
    by true y z e = big c rest (small c (grind (arith, nat_tests, e)) l)
    by false true z e = big (192 + c / 64) ((128 + c % 64) ∷ rest) (over 192 (c / 64) (omega arith))
    by false false true e = big (224 + c / 4096) ((128 + (c / 64) % 64) ∷ (128 + c % 64) ∷ rest) (over 224 (c / 4096) (omega arith))
    by false false false e = big (240 + c / 262144) ((128 + (c / 4096) % 64) ∷ (128 + (c / 64) % 64) ∷ (128 + c % 64) ∷ rest) (over 240 (c / 262144) (omega arith))

word_spelled : (w : List ℕ) → is_identifier w ≡ true → is_spelled (encode_utf8_all w) ≡ true
word_spelled [] h = absurd cc
word_spelled (c ∷ cs) h = letter_spelled c (encode_utf8_all cs) (both (is_letter c) (each is_word cs) h).0

pub name_spelled : (n : List ℕ) → IsName n → is_spelled n ≡ true
name_spelled n q = subst (λ (x : List ℕ). is_spelled x ≡ true) (encodes-chars n q.0) (word_spelled (chars n) q.1.0)
