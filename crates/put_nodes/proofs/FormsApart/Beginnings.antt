-- How words begin, in bytes: names and numbers with a letter, a digit or `_`.
use Rattle.std.proofs.Common.{◌≡◌, ℕ, ◌+◌, ◌<◌, Bool, true, false, not, ◌&&◌, ◌||◌, nat_lt, nat_le, ◌==◌, List, [], ◌∷◌, ◌++◌, length, get_or, refl, sym, ap, subst, ◌∙◌, arith, length-append}
use Rattle.std.specs.Prelude.{encode_utf8, encode_utf8_all}
use Rattle.std.specs.List.{list_all}
use Rattle.std.proofs.lemmas.Bool.Decides.{nat_tests}
use Rattle.std.proofs.lemmas.Str.{byte_from_char, char_from_byte, length-encode, len_utf8_bounds}
use Rattle.ucd_category.specs.GeneralCategory.{general_category}
use Rattle.ucd_category.specs.GeneralCategoryRows.{general_category_rows}
use Rattle.ucd_table.specs.Rows.{value_in}
use Rattle.go_tree.specs.declared.tokens.TokenKind.TheVariants.{Integer}
use Rattle.go_tree.specs.GoWords.Tokens.Characters.{is_letter, is_digit, is_word, is_listed}
use Rattle.go_tree.specs.GoWords.Tokens.Forms.{Form, nothing, empty, one_of, other_than, both, either, many, HasForm, without, listed, unlisted, joined, the_one, the_other, no_more, once_more}
use Rattle.go_tree.specs.GoWords.Tokens.Literals.{int_lit}
use Rattle.go_tree.specs.GoWords.Tokens.Pieces.{token, IsPiece}
use Rattle.go_scan.proofs.Derivatives.{and_parts}
use Rattle.go_scan.proofs.AutomatonLemmas.{below, below_at}
use Rattle.run_rules.specs.Texts.{is_word_byte, begins_word}
use Rattle.put_nodes.specs.FormsApart.Begins.{first_signs}

clash : {X : Type 0} → (b : Bool) → b ≡ true → b ≡ false → X
clash b p q = absurd cc

lt_is : (a b : ℕ) → nat_lt a b ≡ true → a < b
lt_is a b e = grind (arith, nat_tests, e)

same_number : (a b : ℕ) → a == b ≡ true → a ≡ b
same_number a b e = grind (arith, nat_tests, e)

-- ---- the first byte

byte_first : (bs : List ℕ) → 0 < length bs → is_word_byte (get_or bs 0 0) ≡ true → begins_word bs ≡ true
byte_first [] h e = absurd (omega (arith, h))
byte_first (b ∷ bs) h e = e

some_bytes : (c : ℕ) (cs : List ℕ) → 0 < length (encode_utf8_all (c ∷ cs))
some_bytes c cs = omega (arith, length-append (encode_utf8 c) (encode_utf8_all cs), length-encode c, (len_utf8_bounds c).0)

is_high : (b : ℕ) → nat_lt b 128 ≡ false → nat_le 128 b ≡ true
is_high b e = grind (arith, nat_tests, e)

high_byte : (b : ℕ) → nat_lt b 128 ≡ false → is_word_byte b ≡ true
high_byte b e = rw (is_high b e) refl

-- a word begins so whose first character is one of other alphabets, or such a byte
pub word_first : (c : ℕ) (cs : List ℕ) → (nat_lt c 128 ≡ true → is_word_byte c ≡ true) → begins_word (encode_utf8_all (c ∷ cs)) ≡ true
word_first c cs h = byte_first (encode_utf8_all (c ∷ cs)) (some_bytes c cs) (by_ascii (nat_lt c 128) refl)
  where
    bytes : List ℕ
    bytes = encode_utf8_all (c ∷ cs)

    by_byte : (b : Bool) → nat_lt (get_or bytes 0 0) 128 ≡ b → nat_lt c 128 ≡ false → is_word_byte (get_or bytes 0 0) ≡ true
    by_byte true e far =
        clash (nat_lt c 128)
        (subst (λ (n : ℕ). nat_lt n 128 ≡ true) (sym (char_from_byte bytes (encode_utf8_all cs) c refl (lt_is (get_or bytes 0 0) 128 e) (some_bytes c cs))) e) far
    by_byte false e far = high_byte (get_or bytes 0 0) e

    by_ascii : (b : Bool) → nat_lt c 128 ≡ b → is_word_byte (get_or bytes 0 0) ≡ true
    by_ascii true e = subst (λ (n : ℕ). is_word_byte n ≡ true) (sym (byte_from_char bytes (encode_utf8_all cs) c refl (lt_is c 128 e))) (h e)
    by_ascii false e = by_byte (nat_lt (get_or bytes 0 0) 128) refl e

-- ---- letters

abbrev letter_is_word : ℕ → Bool
letter_is_word c = not (is_letter c) || is_word_byte c

letters_are_words : below 128 letter_is_word ≡ true
unfolding below is_letter general_category general_category_rows value_in
letters_are_words = refl

pub letter_first : (c : ℕ) (cs : List ℕ) → is_letter c ≡ true → begins_word (encode_utf8_all (c ∷ cs)) ≡ true
letter_first c cs l = word_first c cs (λ small. by_letter (is_letter c) l (below_at 128 letter_is_word c letters_are_words (lt_is c 128 small)))
  where
    by_letter : (b : Bool) → b ≡ true → not b || is_word_byte c ≡ true → is_word_byte c ≡ true
    by_letter true e h = h
    by_letter false e h = absurd cc

-- ---- numbers

-- every word of the form has a character
abbrev has_character : Form → Bool
has_character nothing = true
has_character empty = false
has_character (one_of _) = true
has_character (other_than _) = true
has_character (both f _) = has_character f
has_character (either f g) = has_character f && has_character g
has_character (many _) = false

-- every word of the form that has a character begins with such a byte
abbrev begins_so : Form → Bool
begins_so nothing = true
begins_so empty = true
begins_so (one_of cs) = list_all is_word_byte cs
begins_so (other_than cs) = false
begins_so (both f _) = begins_so f && has_character f
begins_so (either f g) = begins_so f && begins_so g
begins_so (many _) = false

pub listed_passes : (p : ℕ → Bool) (cs : List ℕ) (c : ℕ) → list_all p cs ≡ true → is_listed cs c ≡ true → p c ≡ true
listed_passes p [] c all h = absurd cc
listed_passes p (d ∷ ds) c all h = let x = and_parts (p d) (list_all p ds) all in by_first (c == d) refl x.0 (λ i. listed_passes p ds c x.1 i) h
  where
    by_first : (b : Bool) → c == d ≡ b → p d ≡ true → (is_listed ds c ≡ true → p c ≡ true) → b || is_listed ds c ≡ true → p c ≡ true
    by_first true e q later i = subst (λ (n : ℕ). p n ≡ true) (sym (same_number c d e)) q
    by_first false e q later i = later i

first_character : {f : Form} {w : List ℕ} → HasForm f w → has_character f ≡ true → (c : ℕ) × (cs : List ℕ) × (w ≡ c ∷ cs)
first_character without q = absurd cc
first_character (listed cs c e) q = (c, [], refl)
first_character (unlisted cs c e) q = (c, [], refl)
first_character (joined f g front back w e a b) q = let x = first_character a q in (x.0, x.1 ++ back, e ∙ ap (λ (v : List ℕ). v ++ back) x.2)
first_character (the_one f g w a) q = first_character a (and_parts (has_character f) (has_character g) q).0
first_character (the_other f g w a) q = first_character a (and_parts (has_character f) (has_character g) q).1
first_character (no_more f) q = absurd cc
first_character (once_more f front back w e a b) q = absurd cc

abbrev starts_so : List ℕ → Bool
starts_so [] = true
starts_so (c ∷ cs) = is_word_byte c

form_starts : {f : Form} {w : List ℕ} → HasForm f w → begins_so f ≡ true → starts_so w ≡ true
form_starts without q = refl
form_starts (listed cs c e) q = listed_passes is_word_byte cs c q e
form_starts (unlisted cs c e) q = absurd cc
form_starts (joined f g front back w e a b) q =
    let p = and_parts (begins_so f) (has_character f) q in
    let x = first_character a p.1 in
    ap starts_so (e ∙ ap (λ (v : List ℕ). v ++ back) x.2) ∙ sym (ap starts_so x.2) ∙ form_starts a p.0
form_starts (the_one f g w a) q = form_starts a (and_parts (begins_so f) (begins_so g) q).0
form_starts (the_other f g w a) q = form_starts a (and_parts (begins_so f) (begins_so g) q).1
form_starts (no_more f) q = absurd cc
form_starts (once_more f front back w e a b) q = absurd cc

integers_start : begins_so int_lit ≡ true
unfolding int_lit
integers_start = refl

pub number_first : (c : ℕ) (cs : List ℕ) → IsPiece (token Integer) (c ∷ cs) → begins_word (encode_utf8_all (c ∷ cs)) ≡ true
number_first c cs piece = word_first c cs (λ small. form_starts piece integers_start)

-- ---- signs

signs_no_words : list_all (λ c. not (is_word c)) first_signs ≡ true
unfolding is_letter is_digit general_category general_category_rows value_in
signs_no_words = refl

-- a sign is no letter and no digit
pub sign_no_word : (c : ℕ) → is_listed first_signs c ≡ true → not (is_word c) ≡ true
sign_no_word c h = listed_passes (λ c. not (is_word c)) first_signs c signs_no_words h

-- it is one byte
pub sign_small : (c : ℕ) → is_listed first_signs c ≡ true → c < 128
sign_small c h = lt_is c 128 (listed_passes (λ c. nat_lt c 128) first_signs c refl h)

-- it is no dot
pub sign_no_dot : (c : ℕ) → is_listed first_signs c ≡ true → c == 46 ≡ false
sign_no_dot c h = off (c == 46) (listed_passes (λ c. not (c == 46)) first_signs c refl h)
  where
    off : (b : Bool) → not b ≡ true → b ≡ false
    off true e = absurd cc
    off false e = refl
