-- A path between double quotes is a string literal that stands for it (Go specification, String literals).
use Rattle.std.proofs.Common.{◌≡◌, ℕ, zero, suc, ◌+◌, ◌-◌, ◌/◌, ◌%◌, ◌≤◌, ◌<◌, Bool, true, false, not, ◌&&◌, nat_eq, nat_lt, List, [], ◌∷◌, ◌++◌, length, codes, refl, ap, ◌∙◌, arith, length-append}
use Rattle.std.specs.Prelude.{encode_utf8_all, if◌then◌else◌}
use Rattle.std.specs.Str.{all_scalars}
use Rattle.std.proofs.lemmas.Bool.Decides.{nat_tests}
use Rattle.std.proofs.lemmas.Str.{encode_ascii}
use Rattle.go_tree.specs.declared.tokens.TokenKind.TheVariants.{Str}
use Rattle.go_tree.specs.GoWords.Texts.{digits_in, escape_value, interpreted_value, text_value}
use Rattle.go_tree.specs.GoWords.Tokens.Characters.{byte_order_mark, each, is_listed}
use Rattle.go_tree.specs.GoWords.Tokens.Forms.{other_than, both, many, HasForm, listed, unlisted, joined, the_one, the_other, no_more, once_more}
use Rattle.go_tree.specs.GoWords.Tokens.Literals.{hex_digit as hex_form, unit_within, escape_within, string_lit}
use Rattle.go_tree.specs.GoWords.Tokens.Pieces.{token, IsPiece}
use Rattle.go_scan.proofs.AutomatonLemmas.{below, below_at}
use Rattle.go_scan.proofs.Derivatives.{and_parts, and_true}
use Rattle.run_rules.specs.ImportRules.SpecText.{hex_digit, is_plain, quoted_byte, quoted_bytes, quoted}
use Rattle.splice_laws.proofs.Splices.{scalars_on}
use Rattle.splice_laws.specs.ImportSplices.AddedFile.{is_byte}
use Rattle.splice_laws.proofs.ImportSplices.Bytes.{take_at}

-- ---- ASCII

abbrev is_low : ℕ → Bool
is_low c = nat_lt c 128

pub low_all : (w : List ℕ) → each is_low w ≡ true → encode_utf8_all w ≡ w
low_all [] h = refl
low_all (c ∷ w) h =
    let a = and_parts (is_low c) (each is_low w) h in
    ap (λ (bs : List ℕ). bs ++ encode_utf8_all w) (encode_ascii c (less c a.0)) ∙ ap (λ (bs : List ℕ). c ∷ bs) (low_all w a.1)
  where
    less : (c : ℕ) → nat_lt c 128 ≡ true → c < 128
    less c e = grind (arith, nat_tests, e)

-- ---- one byte

hexes : List ℕ
hexes = codes "0123456789ABCDEFabcdef"

abbrev escape_fits : ℕ → ℕ → ℕ → Bool
escape_fits a c b = nat_eq (digits_in 16 0 (a ∷ c ∷ [])) b && (is_listed hexes a && is_listed hexes c)

abbrev plain_fits : ℕ → Bool
plain_fits b = not (is_listed (0 ∷ byte_order_mark ∷ 10 ∷ 92 ∷ 34 ∷ []) b) && not (nat_eq b 92)

abbrev fits : ℕ → Bool
fits b = (if is_plain b then plain_fits b else escape_fits (hex_digit (b / 16)) (hex_digit (b % 16)) b) && (each is_low (quoted_byte b) && all_scalars (quoted_byte b))

all_fit : below 256 (λ b. fits b) ≡ true
unfolding below hexes
all_fit = refl

-- what stands for it between the quotes
record One (b : ℕ) (w : List ℕ) : Type 0 where
  unit : HasForm (unit_within (codes "\"")) w
  value : (s : ℕ) (rest : List ℕ) → interpreted_value (suc s) (w ++ rest) ≡ b ∷ interpreted_value s rest
  long : 1 ≤ length w

not_true : (b : Bool) → not b ≡ true → b ≡ false
not_true true e = absurd cc
not_true false e = refl

plain_one : (b : ℕ) → plain_fits b ≡ true → One b (b ∷ [])
plain_one b h =
    let q = and_parts (not (is_listed (0 ∷ byte_order_mark ∷ 10 ∷ 92 ∷ 34 ∷ []) b)) (not (nat_eq b 92)) h in
    record {
      unit = the_one (other_than (0 ∷ byte_order_mark ∷ 10 ∷ 92 ∷ 34 ∷ [])) (escape_within (codes "\"")) (b ∷ []) (unlisted (0 ∷ byte_order_mark ∷ 10 ∷ 92 ∷ 34 ∷ []) b (not_true _ q.0));
      value = λ s rest. by s rest (nat_eq b 92) (not_true _ q.1);
      long = omega arith;
    }
  where
    by : (s : ℕ) (rest : List ℕ) (c : Bool) → c ≡ false → (if c then escape_value (interpreted_value s) rest else b ∷ interpreted_value s rest) ≡ b ∷ interpreted_value s rest
    by s rest true e = absurd cc
    by s rest false e = refl

escape_one : (a c b : ℕ) → escape_fits a c b ≡ true → One b (92 ∷ 120 ∷ a ∷ c ∷ [])
unfolding hexes
escape_one a c b h =
    let q = and_parts (nat_eq (digits_in 16 0 (a ∷ c ∷ [])) b) (is_listed hexes a && is_listed hexes c) h in
    let r = and_parts (is_listed hexes a) (is_listed hexes c) q.1 in
    let two : HasForm (both hex_form hex_form) (a ∷ c ∷ []) = joined hex_form hex_form (a ∷ []) (c ∷ []) (a ∷ c ∷ []) refl (listed hexes a r.0) (listed hexes c r.1) in
    let n : digits_in 16 0 (a ∷ c ∷ []) ≡ b = same (digits_in 16 0 (a ∷ c ∷ [])) b q.0 in
    record {
      unit = the_other _ _ _ (joined _ _ (92 ∷ []) (120 ∷ a ∷ c ∷ []) _ refl (listed _ 92 refl) (the_other _ _ _ (the_other _ _ _ (the_one _ _ _ (joined _ _ (120 ∷ []) (a ∷ c ∷ []) _ refl (listed _ 120 refl) two)))));
      value = λ s rest. ap (λ (m : ℕ). m ∷ interpreted_value s rest) n;
      long = omega arith;
    }
  where
    same : (m n : ℕ) → nat_eq m n ≡ true → m ≡ n
    same m n e = grind (arith, nat_tests, e)

small : (b : ℕ) → is_byte b ≡ true → b < 256
small b e = grind (arith, nat_tests, e)

one_of_byte : (b : ℕ) → is_byte b ≡ true → One b (quoted_byte b) × (each is_low (quoted_byte b) ≡ true) × (all_scalars (quoted_byte b) ≡ true)
one_of_byte b h =
    let f : fits b ≡ true = below_at 256 (λ b. fits b) b all_fit (small b h) in
    let q = and_parts _ _ f in
    let r = and_parts (each is_low (quoted_byte b)) (all_scalars (quoted_byte b)) q.1 in
    (by (is_plain b) q.0, r.0, r.1)
  where
    by : (c : Bool) → (if c then plain_fits b else escape_fits (hex_digit (b / 16)) (hex_digit (b % 16)) b) ≡ true → One b (if c then b ∷ [] else codes "\\x" ++ hex_digit (b / 16) ∷ hex_digit (b % 16) ∷ [])
    by true e = plain_one b e
    by false e = escape_one (hex_digit (b / 16)) (hex_digit (b % 16)) b e

-- ---- all of them

record All (path : List ℕ) : Type 0 where
  units : HasForm (many (unit_within (codes "\""))) (quoted_bytes path)
  low : each is_low (quoted_bytes path) ≡ true
  scalars : all_scalars (quoted_bytes path) ≡ true
  value : (s : ℕ) → length (quoted_bytes path) ≤ s → interpreted_value s (quoted_bytes path) ≡ path

each_on : (xs ys : List ℕ) → each is_low xs ≡ true → each is_low ys ≡ true → each is_low (xs ++ ys) ≡ true
each_on [] ys x y = y
each_on (c ∷ xs) ys x y = let p = and_parts (is_low c) (each is_low xs) x in and_true (is_low c) (each is_low (xs ++ ys)) p.0 (each_on xs ys p.1 y)

all_of : (path : List ℕ) → each is_byte path ≡ true → All path
all_of [] h = record { units = no_more _; low = refl; scalars = refl; value = none }
  where
    none : (s : ℕ) → 0 ≤ s → interpreted_value s [] ≡ []
    none zero le = refl
    none (suc s) le = refl
all_of (b ∷ bs) h =
    let q = and_parts (is_byte b) (each is_byte bs) h in
    let o = one_of_byte b q.0 in
    let a = all_of bs q.1 in
    record {
      units = once_more _ (quoted_byte b) (quoted_bytes bs) _ refl o.0.unit a.units;
      low = each_on (quoted_byte b) (quoted_bytes bs) o.1 a.low;
      scalars = scalars_on (quoted_byte b) (quoted_bytes bs) o.2 a.scalars;
      value = λ s le. steps o.0 a s le;
    }
  where
    steps : One b (quoted_byte b) → All bs → (s : ℕ) → length (quoted_byte b ++ quoted_bytes bs) ≤ s → interpreted_value s (quoted_byte b ++ quoted_bytes bs) ≡ b ∷ bs
    steps o a zero le = absurd (none (length (quoted_byte b)) (length (quoted_bytes bs)) (length (quoted_byte b ++ quoted_bytes bs)) (length-append (quoted_byte b) (quoted_bytes bs)) o.long le)
      where
        none : (x y n : ℕ) → n ≡ x + y → 1 ≤ x → n ≤ 0 → ⊥
        none x y n e p q = omega (arith, e, p, q)
    steps o a (suc s) le = o.value s (quoted_bytes bs) ∙ ap (λ (v : List ℕ). b ∷ v) (a.value s (less (length (quoted_byte b)) (length (quoted_bytes bs)) (length (quoted_byte b ++ quoted_bytes bs)) (length-append (quoted_byte b) (quoted_bytes bs)) o.long le))
      where
        less : (x y n : ℕ) → n ≡ x + y → 1 ≤ x → n ≤ suc s → y ≤ s
        less x y n e p q = omega (arith, e, p, q)

-- ---- the literal

pub record Literal (path : List ℕ) : Type 0 where
  pub piece : IsPiece (token Str) (quoted path)
  pub scalars : all_scalars (quoted path) ≡ true
  pub bytes : encode_utf8_all (quoted path) ≡ quoted path
  pub value : text_value (quoted path) ≡ path

pub literal : (path : List ℕ) → each is_byte path ≡ true → Literal path
unfolding string_lit
literal path h =
    let a = all_of path h in
    let m : List ℕ = quoted_bytes path in
    record {
      piece = the_one _ _ _ (joined _ _ (34 ∷ []) (m ++ 34 ∷ []) _ refl (listed _ 34 refl) (joined _ _ m (34 ∷ []) _ refl a.units (listed _ 34 refl)));
      scalars = scalars_on (34 ∷ []) (m ++ 34 ∷ []) refl (scalars_on m (34 ∷ []) a.scalars refl);
      bytes = low_all (quoted path) (each_on m (34 ∷ []) a.low refl);
      value = ap (interpreted_value (length (m ++ 34 ∷ []))) (take_at (m ++ 34 ∷ []) m (34 ∷ []) (length (34 ∷ (m ++ 34 ∷ [])) - 2) refl (size (length m) (length (m ++ 34 ∷ [])) (length-append m (34 ∷ []))))
          ∙ a.value (length (m ++ 34 ∷ [])) (enough (length m) (length (m ++ 34 ∷ [])) (length-append m (34 ∷ [])));
    }
  where
    size : (k n : ℕ) → n ≡ k + 1 → k ≡ suc n - 2
    size k n e = omega (arith, e)

    enough : (k n : ℕ) → n ≡ k + 1 → k ≤ n
    enough k n e = omega (arith, e)
