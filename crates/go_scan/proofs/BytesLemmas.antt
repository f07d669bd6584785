-- A text's bytes say the same of words of ASCII as its characters.
use Rattle.std.proofs.Common.{◌≡◌, ℕ, ◌+◌, ◌≤◌, ◌/◌, ◌%◌, Bool, true, false, cond, ◌||◌, ◌&&◌, ◌==◌, nat_lt, List, [], ◌∷◌, ◌++◌, codes, Option, Some, None, refl, sym, ap, ◌∙◌, arith, encode_utf8, encode_utf8_all, IsUtf8, bytes_eq}
use Rattle.std.proofs.lemmas.Bool.Decides.{nat_tests}
use Rattle.std.proofs.lemmas.Slice.Eq.{bytes_eq-Decides}
use Rattle.std.specs.List.{list_all}
use Rattle.std.specs.Option.{is_some, option_map}
use Rattle.std.specs.Str.{chars}
use Rattle.std.proofs.lemmas.Str.{encodes-chars, encodes_same}
use Rattle.go_tree.specs.declared.tokens.TokenKind.{TokenKind}
use Rattle.go_tree.specs.declared.tokens.TokenKind.TheVariants.{Ident, Keyword, Operator, Integer, Float, Imaginary, Rune, Str, Inserted}
use Rattle.go_tree.specs.GoWords.Terminals.{Terminal, keywords, operators, spellings, found_in, ends_statement, fallthrough}
use Rattle.go_tree.specs.GoWords.Codes.{row_of}
use Rattle.go_tree.specs.GoWords.Tokens.{ends_line}
use Rattle.go_tree.specs.GoWords.Tokens.Characters.{is_listed}
use Rattle.go_tree.specs.GoWords.Tokens.Pieces.{keyword_spellings, is_among}

-- ---- words of ASCII

-- the word's bytes are its characters
abbrev plain : List ℕ → Bool
plain word = bytes_eq (encode_utf8_all word) word

same_words : (u w : List ℕ) → bytes_eq u w ≡ true → u ≡ w
same_words u w h = (bytes_eq-Decides u w).0 h

both : (a b : Bool) → a && b ≡ true → (a ≡ true) × (b ≡ true)
both true true h = (refl, refl)
both true false h = absurd cc
both false b h = absurd cc

bools : (a b : Bool) → (a ≡ true → b ≡ true) → (b ≡ true → a ≡ true) → a ≡ b
bools true b f g = sym (f refl)
bools false true f g = g refl
bools false false f g = refl

module _ (bytes : List ℕ) (utf8 : IsUtf8 bytes) where
  is_word : (word : List ℕ) → plain word ≡ true → bytes ≡ word → chars bytes ≡ word
  is_word word p e = encodes_same (chars bytes) word (encodes-chars bytes utf8 ∙ e ∙ sym (same_words (encode_utf8_all word) word p))

  is_bytes : (word : List ℕ) → plain word ≡ true → chars bytes ≡ word → bytes ≡ word
  is_bytes word p e = sym (encodes-chars bytes utf8) ∙ ap encode_utf8_all e ∙ same_words (encode_utf8_all word) word p

  pub word_after : (word : List ℕ) → plain word ≡ true → bytes_eq (chars bytes) word ≡ bytes_eq bytes word
  word_after word p = bools (bytes_eq (chars bytes) word) (bytes_eq bytes word)
      (λ h. (bytes_eq-Decides bytes word).1 (is_bytes word p (same_words (chars bytes) word h)))
      (λ h. (bytes_eq-Decides (chars bytes) word).1 (is_word word p (same_words bytes word h)))

  pub word_before : (word : List ℕ) → plain word ≡ true → bytes_eq word (chars bytes) ≡ bytes_eq word bytes
  word_before word p = bools (bytes_eq word (chars bytes)) (bytes_eq word bytes)
      (λ h. (bytes_eq-Decides word bytes).1 (sym (is_bytes word p (sym (same_words word (chars bytes) h)))))
      (λ h. (bytes_eq-Decides word (chars bytes)).1 (sym (is_word word p (sym (same_words word bytes h)))))

  found_same : (rows : List (List ℕ × Terminal)) → list_all plain (spellings rows) ≡ true → found_in rows (chars bytes) ≡ found_in rows bytes
  found_same [] h = refl
  found_same (row ∷ rows) h =
      let parts = both (plain row.0) (list_all plain (spellings rows)) h in
      ap (λ (b : Bool). cond b row.1 (found_in rows (chars bytes))) (word_before row.0 parts.0)
      ∙ ap (λ (t : Terminal). cond (bytes_eq row.0 bytes) row.1 t) (found_same rows parts.1)

  -- ---- a newline after the word

  pub line_same : (kind : TokenKind) → ends_line kind (chars bytes) ≡ ends_line kind bytes
  unfolding lib.Utf8.encode
  line_same Keyword =
      ap (λ (t : Terminal). ends_statement t || bytes_eq (chars bytes) fallthrough) (found_same keywords refl)
      ∙ ap (λ (b : Bool). ends_statement (found_in keywords bytes) || b) (word_after fallthrough refl)
  line_same Operator = ap ends_statement (found_same operators refl)
  line_same Ident = refl
  line_same Integer = refl
  line_same Float = refl
  line_same Imaginary = refl
  line_same Rune = refl
  line_same Str = refl
  line_same Inserted = refl

  -- ---- keywords

  turned : (u w : List ℕ) → bytes_eq u w ≡ bytes_eq w u
  turned u w = bools (bytes_eq u w) (bytes_eq w u)
      (λ h. (bytes_eq-Decides w u).1 (sym (same_words u w h)))
      (λ h. (bytes_eq-Decides u w).1 (sym (same_words w u h)))

  among_row : (rows : List (List ℕ × Terminal)) → list_all plain (spellings rows) ≡ true → is_among (spellings rows) (chars bytes) ≡ is_some (row_of rows bytes)
  among_row [] h = refl
  among_row (row ∷ rows) h =
      let parts = both (plain row.0) (list_all plain (spellings rows)) h in
      ap (λ (b : Bool). b || is_among (spellings rows) (chars bytes)) (word_after row.0 parts.0 ∙ turned bytes row.0)
      ∙ ap (λ (b : Bool). bytes_eq row.0 bytes || b) (among_row rows parts.1)
      ∙ by_test (bytes_eq row.0 bytes)
    where
      by_test : (b : Bool) → b || is_some (row_of rows bytes) ≡ is_some (cond b (Some row.1) (row_of rows bytes))
      by_test true = refl
      by_test false = refl

  pub keyword_same : (found : Option Terminal) → found ≡ row_of keywords bytes → is_among keyword_spellings (chars bytes) ≡ is_some found
  unfolding keyword_spellings lib.Utf8.encode
  keyword_same found e = among_row keywords refl ∙ ap is_some (sym e)

-- ---- newlines

not_ten : (c : ℕ) → 11 ≤ c → (10 == c) ≡ false
not_ten c h = grind (arith, nat_tests, h)

listed_append : (xs ys : List ℕ) (c : ℕ) → is_listed (xs ++ ys) c ≡ (is_listed xs c || is_listed ys c)
listed_append [] ys c = refl
listed_append (x ∷ xs) ys c = ap (λ (b : Bool). c == x || b) (listed_append xs ys c) ∙ by (c == x)
  where
    by : (b : Bool) → (b || (is_listed xs c || is_listed ys c)) ≡ ((b || is_listed xs c) || is_listed ys c)
    by true = refl
    by false = refl

over : (n k : ℕ) → 11 ≤ n → 11 ≤ n + k
over n k h = omega (arith, h)

encoded_newline : (c : ℕ) → is_listed (encode_utf8 c) 10 ≡ (10 == c)
unfolding lib.Utf8.encode
encoded_newline c = by (nat_lt c 128) (nat_lt c 2048) (nat_lt c 65536) refl
  where
    by_none : (xs : Bool) → xs ≡ false → 128 ≤ c → xs ≡ (10 == c)
    by_none xs e h = e ∙ sym (not_ten c (omega (arith, h)))

    two : is_listed ((192 + c / 64) ∷ (128 + c % 64) ∷ []) 10 ≡ false
    two = rw (not_ten (192 + c / 64) (over 192 (c / 64) (omega arith)), not_ten (128 + c % 64) (over 128 (c % 64) (omega arith))) refl

    three : is_listed ((224 + c / 4096) ∷ (128 + (c / 64) % 64) ∷ (128 + c % 64) ∷ []) 10 ≡ false
    three = rw (not_ten (224 + c / 4096) (over 224 (c / 4096) (omega arith)), not_ten (128 + (c / 64) % 64) (over 128 ((c / 64) % 64) (omega arith)), not_ten (128 + c % 64) (over 128 (c % 64) (omega arith))) refl

    four : is_listed ((240 + c / 262144) ∷ (128 + (c / 4096) % 64) ∷ (128 + (c / 64) % 64) ∷ (128 + c % 64) ∷ []) 10 ≡ false
    four = rw (not_ten (240 + c / 262144) (over 240 (c / 262144) (omega arith)), not_ten (128 + (c / 4096) % 64) (over 128 ((c / 4096) % 64) (omega arith)), not_ten (128 + (c / 64) % 64) (over 128 ((c / 64) % 64) (omega arith)), not_ten (128 + c % 64) (over 128 (c % 64) (omega arith))) refl

    far : nat_lt c 128 ≡ false → 128 ≤ c
    far h = grind (arith, nat_tests, h)

    by : (x y z : Bool) → nat_lt c 128 ≡ x
        → is_listed (cond x (c ∷ []) (cond y ((192 + c / 64) ∷ (128 + c % 64) ∷ []) (cond z ((224 + c / 4096) ∷ (128 + (c / 64) % 64) ∷ (128 + c % 64) ∷ []) ((240 + c / 262144) ∷ (128 + (c / 4096) % 64) ∷ (128 + (c / 64) % 64) ∷ (128 + c % 64) ∷ [])))) 10 ≡ (10 == c)
    by true y z e = or_false (10 == c)
      where
        or_false : (b : Bool) → (b || false) ≡ b
        or_false true = refl
        or_false false = refl
    by false true z e = two ∙ sym (not_ten c (omega (arith, far e)))
    by false false true e = three ∙ sym (not_ten c (omega (arith, far e)))
    by false false false e = four ∙ sym (not_ten c (omega (arith, far e)))

encoded_listed : (cs : List ℕ) → is_listed (encode_utf8_all cs) 10 ≡ is_listed cs 10
encoded_listed [] = refl
encoded_listed (c ∷ cs) =
    listed_append (encode_utf8 c) (encode_utf8_all cs) 10
    ∙ ap (λ (b : Bool). b || is_listed (encode_utf8_all cs) 10) (encoded_newline c)
    ∙ ap (λ (b : Bool). 10 == c || b) (encoded_listed cs)

pub newline_same : (bytes : List ℕ) → IsUtf8 bytes → is_listed bytes 10 ≡ is_listed (chars bytes) 10
newline_same bytes utf8 = ap (λ (bs : List ℕ). is_listed bs 10) (sym (encodes-chars bytes utf8)) ∙ encoded_listed (chars bytes)

pub slash_same : (bytes : List ℕ) → IsUtf8 bytes → bytes_eq (chars bytes) (codes "/") ≡ bytes_eq bytes (codes "/")
unfolding lib.Utf8.encode
slash_same bytes utf8 = word_after bytes utf8 (codes "/") refl

some_mapped : (A B : Type 0) (f : A → B) (o : Option A) → is_some (option_map f o) ≡ is_some o
some_mapped A B f None = refl
some_mapped A B f (Some x) = refl

pub keyword_test : (A : Type 0) (bytes known : List ℕ) → IsUtf8 bytes → known ≡ bytes → (f : A → Terminal) (o : Option A) (b : Bool) → b ≡ is_some o → option_map f o ≡ row_of keywords known
    → is_among keyword_spellings (chars bytes) ≡ b
keyword_test A bytes known utf8 same f o b e row =
    keyword_same bytes utf8 (option_map f o) (row ∙ ap (row_of keywords) same) ∙ some_mapped A Terminal f o ∙ sym e
