-- The decimal digits of a number, of which 64 are written at most: where they are the same.
use Rattle.std.proofs.Common.{◌≡◌, refl, sym, ap, ◌∙◌, ℕ, zero, suc, ◌+◌, ◌-◌, ◌/◌, ◌%◌, ◌^◌, ◌<◌, ◌≤◌, ⊎_elim, Bool, true, false, ◌==◌, List, [], ◌∷◌, length, if◌then◌else◌, arith, pow-suc, lt-ltb, ne_eqb}
use Rattle.std.specs.Prelude.{decimal}
use Rattle.std.specs.Fmt.{digits, digits_onto, digit_glyph}
use Rattle.std.specs.Str.Parse.{digits_value}
use Rattle.std.proofs.lemmas.Fmt.{decimal_is_IsNumeral_wide, length-decimal-le_wide}
use Rattle.std.proofs.lemmas.Bool.{cases_lt}

-- the last so many digits, zeros at the front among them, before others
abbrev last_digits : ℕ → ℕ → List ℕ → List ℕ
last_digits zero n rest = rest
last_digits (suc k) n rest = last_digits k (n / 10) (digit_glyph false (n % 10) ∷ rest)

-- ---- one digit

glyph-is : (d : ℕ) → d < 10 → digit_glyph false d ≡ 48 + d
glyph-is d h = ap (λ (b : Bool). if b then 48 + d else 87 + d) (lt-ltb d 10 h)

one-digit : (d e : ℕ) → d < 10 → e < 10 → digit_glyph false d ≡ digit_glyph false e → d ≡ e
one-digit d e h k same = let s : 48 + d ≡ 48 + e = sym (glyph-is d h) ∙ same ∙ glyph-is e k in omega arith

-- ---- the last digits

so-many : (k n : ℕ) (rest : List ℕ) → length (last_digits k n rest) ≡ k + length rest
so-many zero n rest = omega arith
so-many (suc k) n rest = let e : length (last_digits k (n / 10) (digit_glyph false (n % 10) ∷ rest)) ≡ k + suc (length rest) = so-many k (n / 10) (digit_glyph false (n % 10) ∷ rest) in omega arith

-- they don't change by what is in front of them
round-on : (k n : ℕ) (rest : List ℕ) → last_digits k (n + 10 ^ k) rest ≡ last_digits k n rest
round-on zero n rest = refl
round-on (suc k) n rest =
    let tens : (n + 10 ^ suc k) / 10 ≡ n / 10 + 10 ^ k = omega (arith, pow-suc 10 k) in
    let ones : (n + 10 ^ suc k) % 10 ≡ n % 10 = omega (arith, pow-suc 10 k) in
    (λ v. last_digits k (tens v) (digit_glyph false (ones v) ∷ rest)) ∙ round-on k (n / 10) (digit_glyph false (n % 10) ∷ rest)

record Alike (n m : ℕ) (rest other : List ℕ) : Type 0 where
  number : n ≡ m
  behind : rest ≡ other

-- numbers that have no more digits than these are the same where the digits are
last-alike : (k n m : ℕ) (rest other : List ℕ) → n < 10 ^ k → m < 10 ^ k
    → last_digits k n rest ≡ last_digits k m other → Alike n m rest other
last-alike zero n m rest other h g e = record { number = omega arith; behind = e }
last-alike (suc k) n m rest other h g e =
    let a : Alike (n / 10) (m / 10) (digit_glyph false (n % 10) ∷ rest) (digit_glyph false (m % 10) ∷ other) =
    last-alike k (n / 10) (m / 10) (digit_glyph false (n % 10) ∷ rest) (digit_glyph false (m % 10) ∷ other) (omega (arith, pow-suc 10 k)) (omega (arith, pow-suc 10 k)) e in
    let tens : n / 10 ≡ m / 10 = a.number in
    let both : digit_glyph false (n % 10) ∷ rest ≡ digit_glyph false (m % 10) ∷ other = a.behind in
    let glyphs : digit_glyph false (n % 10) ≡ digit_glyph false (m % 10) = cc in
    let ones : n % 10 ≡ m % 10 = one-digit (n % 10) (m % 10) (omega arith) (omega arith) glyphs in
    record { number = omega arith; behind = cc }

-- ---- what is written

either : (b : Bool) (xs : List ℕ) → (if b then xs else xs) ≡ xs
either true xs = refl
either false xs = refl

some-power : (k : ℕ) → 1 ≤ 10 ^ k
some-power zero = omega arith
some-power (suc k) = omega (arith, pow-suc 10 k, some-power k)

-- of a number with as many digits or more the last are written
last-written : (k n : ℕ) (rest : List ℕ) → 10 ^ k ≤ n
    → digits_onto (suc k) 10 false n rest ≡ last_digits (suc k) n rest
last-written zero n rest h = either (n / 10 == 0) (digit_glyph false (n % 10) ∷ rest)
last-written (suc k) n rest h =
    let g : List ℕ = digit_glyph false (n % 10) ∷ rest in
    ap (λ (b : Bool). if b then g else digits_onto (suc k) 10 false (n / 10) g) (ne_eqb (n / 10) 0 (λ e. omega (arith, pow-suc 10 k, some-power k)))
    ∙ last-written k (n / 10) g (omega (arith, pow-suc 10 k))

pub long-decimal : (n : ℕ) → 10 ^ 63 ≤ n → decimal n ≡ last_digits 64 n []
unfolding digits
long-decimal n h = last-written 63 n [] h

-- ---- which numbers have the same digits

-- so many numbers have digits of their own
abbrev pub told_apart : ℕ
told_apart = 10 ^ 64 + 10 ^ 63

no-longer : (n m : ℕ) → n < 10 ^ 63 → 10 ^ 64 ≤ m → decimal n ≡ decimal m → ⊥
no-longer n m h g e =
    let short : length (decimal n) ≤ 63 = length-decimal-le_wide 63 n (omega arith) h (omega arith) in
    let long : length (decimal m) ≡ 64 = ap length (long-decimal m (omega arith)) ∙ so-many 64 m [] in
    let same : length (decimal n) ≡ length (decimal m) = ap length e in
    omega arith

wide-one : (n m : ℕ) → n < 10 ^ 64 → m < 10 ^ 64 → decimal n ≡ decimal m → n ≡ m
wide-one n m h g e = sym (decimal_is_IsNumeral_wide n h).1 ∙ ap (digits_value 10) e ∙ (decimal_is_IsNumeral_wide m g).1

-- the digits of a number past these are those of the number less the first digit
past : (m : ℕ) → 10 ^ 64 ≤ m → last_digits 64 m [] ≡ last_digits 64 (m - 10 ^ 64) []
past m h = let e : m ≡ m - 10 ^ 64 + 10 ^ 64 = omega arith in (λ v. last_digits 64 (e v) []) ∙ round-on 64 (m - 10 ^ 64) []

pub all-differ : (n m : ℕ) → n < m → m < told_apart → decimal n ≡ decimal m → ⊥
all-differ n m l h e = ⊎_elim (λ s. short s) (λ b. long b) (cases_lt n (10 ^ 63))
  where
    short : n < 10 ^ 63 → ⊥
    short s = ⊎_elim (λ t. let same : n ≡ m = wide-one n m (omega arith) t e in omega arith) (λ t. no-longer n m s t e) (cases_lt m (10 ^ 64))

    digits : 10 ^ 63 ≤ n → last_digits 64 n [] ≡ last_digits 64 m []
    digits b = sym (long-decimal n b) ∙ e ∙ long-decimal m (omega arith)

    long : 10 ^ 63 ≤ n → ⊥
    long b = ⊎_elim
        (λ t. let same : n ≡ m = wide-one n m (omega arith) t e in omega arith)
        (λ t. ⊎_elim
        (λ u. let same : n ≡ m - 10 ^ 64 = (last-alike 64 n (m - 10 ^ 64) [] [] u (omega arith) (digits b ∙ past m t)).number in omega arith)
        (λ u. let same : n - 10 ^ 64 ≡ m - 10 ^ 64 = (last-alike 64 (n - 10 ^ 64) (m - 10 ^ 64) [] [] (omega arith) (omega arith) (sym (past n u) ∙ digits b ∙ past m t)).number in omega arith)
        (cases_lt n (10 ^ 64)))
        (cases_lt m (10 ^ 64))

-- a number with the same digits that is one of these
pub record Told (n : ℕ) : Type 0 where
  pub number : ℕ
  pub few : number < told_apart
  pub same : decimal n ≡ decimal number

told-within : (most n : ℕ) → n ≤ most → Told n
told-within zero n h = record { number = n; few = omega arith; same = refl }
told-within (suc most) n h = ⊎_elim (λ l. record { number = n; few = l; same = refl }) (λ g. less g (told-within most (n - 10 ^ 64) (omega arith))) (cases_lt n told_apart)
  where
    less : told_apart ≤ n → Told (n - 10 ^ 64) → Told n
    less g t = record {
      number = t.number;
      few = t.few;
      same = long-decimal n (omega arith) ∙ past n (omega arith) ∙ sym (long-decimal (n - 10 ^ 64) (omega arith)) ∙ t.same;
    }

-- there is one
pub told : (n : ℕ) → Told n
told n = told-within n n (omega arith)

-- there is a digit at least
pub some-digit : (n : ℕ) → 0 < length (decimal n)
some-digit n = ⊎_elim (λ l. (decimal_is_IsNumeral_wide n l).0.0) (λ g. let e : length (decimal n) ≡ 64 = ap length (long-decimal n (omega arith)) ∙ so-many 64 n [] in omega arith) (cases_lt n (10 ^ 64))
