-- Letters and digits of ASCII.
use Rattle.std.proofs.Common.{◌≡◌, ℕ, ◌<◌, ◌≤◌, Bool, true, false, not, ◌&&◌, ◌||◌, nat_le, ◌==◌, refl, arith}
use Rattle.std.proofs.lemmas.Bool.Decides.{nat_tests}
use Rattle.ucd_category.specs.GeneralCategory.{general_category}
use Rattle.ucd_category.specs.GeneralCategoryRows.{general_category_rows}
use Rattle.ucd_table.specs.Rows.{value_in}
use Rattle.go_tree.specs.GoWords.Tokens.Characters.{is_letter, is_digit, is_letter_category, is_decimal_number}
use Rattle.go_scan.proofs.AutomatonLemmas.{below, below_at}

abbrev ascii_letter : ℕ → Bool
ascii_letter c = nat_le 97 c && nat_le c 122 || nat_le 65 c && nat_le c 90 || c == 95

abbrev ascii_digit : ℕ → Bool
ascii_digit c = nat_le 48 c && nat_le c 57

abbrev same : Bool → Bool → Bool
same true b = b
same false b = not b

same_is : (a b : Bool) → same a b ≡ true → a ≡ b
same_is true true h = refl
same_is true false h = absurd cc
same_is false true h = absurd cc
same_is false false h = refl

letters_checked : below 128 (λ c. same (is_letter c) (ascii_letter c)) ≡ true
unfolding below is_letter general_category general_category_rows value_in
letters_checked = refl

digits_checked : below 128 (λ c. same (is_digit c) (ascii_digit c)) ≡ true
unfolding below is_digit general_category general_category_rows value_in
digits_checked = refl

pub letter_ascii : (c : ℕ) → c < 128 → is_letter c ≡ ascii_letter c
letter_ascii c small = same_is (is_letter c) (ascii_letter c) (below_at 128 (λ c. same (is_letter c) (ascii_letter c)) c letters_checked small)

pub digit_ascii : (c : ℕ) → c < 128 → is_digit c ≡ ascii_digit c
digit_ascii c small = same_is (is_digit c) (ascii_digit c) (below_at 128 (λ c. same (is_digit c) (ascii_digit c)) c digits_checked small)

pub letter_past : (c : ℕ) → 128 ≤ c → is_letter c ≡ is_letter_category (general_category c)
unfolding is_letter
letter_past c far = rw (not_underscore c far) refl
  where
    not_underscore : (c : ℕ) → 128 ≤ c → c == 95 ≡ false
    not_underscore c far = grind (arith, nat_tests, far)

pub digit_past : (c : ℕ) → 128 ≤ c → is_digit c ≡ is_decimal_number (general_category c)
unfolding is_digit
digit_past c far = refl
