-- From the form of an escape to the byte or character that it names.
use Rattle.std.proofs.Common.{◌≡◌, ℕ, ◌<◌, ◌≤◌, Bool, true, false, not, ◌&&◌, ◌||◌, inl, inr, List, [], ◌∷◌, ◌++◌, length, refl, sym, ap, ap₂, subst, ◌∙◌, arith, cond}
use Rattle.std.specs.Prelude.{nat_eq, nat_lt, codes}
use Rattle.std.specs.Char.{IsScalar}
use Rattle.std.proofs.Math.Dec.{ltb, leb}
use Rattle.std.proofs.lemmas.Bool.{eqb-true, ltb-true, ltb-false, lt-ltb, le-leb, eqb-false}
use Rattle.go_tree.specs.GoWords.Tokens.Characters.{is_listed, each}
use Rattle.go_tree.specs.GoWords.Tokens.Forms.{Form, one_of, in_turn, HasForm}
use Rattle.go_tree.specs.GoWords.Tokens.Literals.{hex_digit as hex_form, octal_digit, four_digits, eight_digits, escape_within}
use Rattle.go_tree.specs.GoWords.Texts.{digits_in, hex_digit, is_octal}
use Rattle.go_tree.specs.GoLiterals.Units.{BeginsEscape, escape_code, escape_size, escape_size_by}
use Rattle.go_tree.proofs.GoLiterals.WordLemmas.{one_is, both_is, either_is, front_is, listed_is, and_is, passes, sole, is_low}

-- ---- escapes

-- the word is an escape without its backslash, whatever follows
pub record EscapeWord (e : List ℕ) : Type 0 where
  pub ascii : each is_low e ≡ true
  pub size : (bs : List ℕ) → escape_size (e ++ bs) ≡ length e
  pub begins : (bs : List ℕ) → BeginsEscape (e ++ bs)

pub letter_word : (c : ℕ) → is_low c ≡ true → escape_size_by c ≡ 1 → nat_eq c 117 || nat_eq c 85 ≡ false → ((bs : List ℕ) → escape_code (c ∷ bs) < 256) → EscapeWord (c ∷ [])
letter_word c l s n v = record {
  ascii = ap (λ (b : Bool). b && true) l;
  size = λ bs. s;
  begins = λ bs. record { whole = omega (arith, s); byte = λ h. v bs; character = λ h. absurd cc };
}

-- the value of hexadecimal digits
abbrev pub is_hex : ℕ → Bool
is_hex c = nat_lt c 128 && nat_lt (hex_digit c) 16

pub hex_is : (w : List ℕ) → HasForm hex_form w → (c : ℕ) × (w ≡ c ∷ []) × (is_low c ≡ true) × (hex_digit c < 16)
hex_is w h =
    let o = one_is (codes "0123456789ABCDEFabcdef") w h in
    let a = and_is (is_low o.0) (nat_lt (hex_digit o.0) 16) (passes is_hex (codes "0123456789ABCDEFabcdef") o.0 refl o.2) in
    (o.0, o.1, a.0, ltb-true (hex_digit o.0) 16 a.1)

-- the value of an octal digit
abbrev pub is_eight : ℕ → Bool
is_eight c = nat_lt c 128 && nat_lt (hex_digit c) 8

pub octal_is : (w : List ℕ) → HasForm octal_digit w → (c : ℕ) × (w ≡ c ∷ []) × (is_low c ≡ true) × (hex_digit c < 8)
octal_is w h =
    let o = one_is (codes "01234567") w h in
    let a = and_is (is_low o.0) (nat_lt (hex_digit o.0) 8) (passes is_eight (codes "01234567") o.0 refl o.2) in
    (o.0, o.1, a.0, ltb-true (hex_digit o.0) 8 a.1)

pub low_two : (a b : ℕ) → is_low a ≡ true → is_low b ≡ true → each is_low (a ∷ b ∷ []) ≡ true
low_two a b p q = ap₂ (λ (x y : Bool). x && (y && true)) p q

pub low_and : (a : ℕ) (w : List ℕ) → is_low a ≡ true → each is_low w ≡ true → each is_low (a ∷ w) ≡ true
low_and a w p q = ap₂ (λ (x y : Bool). x && y) p q

-- three octal digits from a first of 0 to 3
pub octal_word : (c a b : ℕ) → is_low c ≡ true → is_octal c ≡ true → hex_digit c < 4 → is_low a ≡ true → hex_digit a < 8 → is_low b ≡ true → hex_digit b < 8
    → ((bs : List ℕ) → escape_size (c ∷ bs) ≡ 3) → ((bs : List ℕ) → escape_code (c ∷ a ∷ b ∷ bs) ≡ digits_in 8 0 (c ∷ a ∷ b ∷ [])) → nat_eq c 117 || nat_eq c 85 ≡ false
    → EscapeWord (c ∷ a ∷ b ∷ [])
octal_word c a b l o f la fa lb fb s v n = record {
  ascii = low_and c (a ∷ b ∷ []) l (low_two a b la lb);
  size = λ bs. s (a ∷ b ∷ bs);
  begins = λ bs. record { whole = omega (arith, s (a ∷ b ∷ bs)); byte = λ h. omega (arith, v bs); character = λ h. absurd cc };
}

-- `x` and two hexadecimal digits
pub x_word : (a b : ℕ) → is_low a ≡ true → hex_digit a < 16 → is_low b ≡ true → hex_digit b < 16 → EscapeWord (120 ∷ a ∷ b ∷ [])
x_word a b la fa lb fb = record {
  ascii = low_two a b la lb;
  size = λ bs. refl;
  begins = λ bs. record { whole = omega arith; byte = λ h. omega arith; character = λ h. absurd cc };
}

-- ---- characters by their numbers

pub cond_true : (b : Bool) → cond b true true ≡ true
cond_true true = refl
cond_true false = refl

pub scalar_below : (n : ℕ) → n < 55296 → IsScalar n
scalar_below n h = ap (λ (b : Bool). cond b true (leb 57344 n && ltb n 1114112)) (lt-ltb n 55296 h)

pub scalar_above : (n : ℕ) → 57344 ≤ n → n < 1114112 → IsScalar n
scalar_above n h k = ap₂ (λ (x y : Bool). cond (ltb n 55296) true (x && y)) (le-leb 57344 n h) (lt-ltb n 1114112 k) ∙ cond_true (ltb n 55296)

-- four digits that name a character
pub record FourDigits (w : List ℕ) : Type 0 where
  pub a : ℕ
  pub b : ℕ
  pub c : ℕ
  pub d : ℕ
  pub are : w ≡ a ∷ b ∷ c ∷ d ∷ []
  pub ascii : each is_low (a ∷ b ∷ c ∷ d ∷ []) ≡ true
  pub bound : digits_in 16 0 (a ∷ b ∷ c ∷ d ∷ []) < 65536
  pub scalar : IsScalar (digits_in 16 0 (a ∷ b ∷ c ∷ d ∷ []))

abbrev pub is_no_surrogate : ℕ → Bool
is_no_surrogate c = nat_lt c 128 && (nat_lt (hex_digit c) 16 && not (nat_eq (hex_digit c) 13))

pub not_is : (b : Bool) → not b ≡ true → b ≡ false
not_is true h = absurd cc
not_is false h = refl

pub four_bound : (a b c d : ℕ) → hex_digit a < 16 → hex_digit b < 16 → hex_digit c < 16 → hex_digit d < 16 → digits_in 16 0 (a ∷ b ∷ c ∷ d ∷ []) < 65536
four_bound a b c d p q r s = omega arith

-- the first digit isn't D
pub apart_first : (a b c d : ℕ) → hex_digit a < 16 → (hex_digit a ≡ 13 → ⊥) → hex_digit b < 16 → hex_digit c < 16 → hex_digit d < 16 → IsScalar (digits_in 16 0 (a ∷ b ∷ c ∷ d ∷ []))
apart_first a b c d p n q r s = go (ltb (hex_digit a) 13) refl
  where
    go : (t : Bool) → ltb (hex_digit a) 13 ≡ t → IsScalar (digits_in 16 0 (a ∷ b ∷ c ∷ d ∷ []))
    go true e = let h : hex_digit a < 13 = ltb-true (hex_digit a) 13 e in scalar_below (digits_in 16 0 (a ∷ b ∷ c ∷ d ∷ [])) (omega arith)
    go false e =
        let h : 13 ≤ hex_digit a = ltb-false (hex_digit a) 13 e in
        let k : 14 ≤ hex_digit a = omega arith in
        scalar_above (digits_in 16 0 (a ∷ b ∷ c ∷ d ∷ [])) (omega arith) (omega arith)

-- the first digit is D, and the second at most 7
pub low_second : (a b c d : ℕ) → hex_digit a ≡ 13 → hex_digit b < 8 → hex_digit c < 16 → hex_digit d < 16 → IsScalar (digits_in 16 0 (a ∷ b ∷ c ∷ d ∷ []))
low_second a b c d p q r s = scalar_below (digits_in 16 0 (a ∷ b ∷ c ∷ d ∷ [])) (omega arith)

pub ascii_four : (a b c d : ℕ) → is_low a ≡ true → is_low b ≡ true → is_low c ≡ true → is_low d ≡ true → each is_low (a ∷ b ∷ c ∷ d ∷ []) ≡ true
ascii_four a b c d p q r s = low_and a (b ∷ c ∷ d ∷ []) p (low_and b (c ∷ d ∷ []) q (low_two c d r s))

abbrev pub is_d : ℕ → Bool
is_d c = nat_lt c 128 && nat_eq (hex_digit c) 13

-- a first digit, and three more words of one character
abbrev pub Four : Form → Form → Form → Form → Form
Four f g h k = in_turn (f ∷ g ∷ h ∷ k ∷ [])

pub four_with : (w : List ℕ) → HasForm (Four (one_of (codes "0123456789ABCEFabcef")) hex_form hex_form hex_form) w → FourDigits w
four_with w h =
    let f = front_is (codes "0123456789ABCEFabcef") (in_turn (hex_form ∷ hex_form ∷ hex_form ∷ [])) w h in
    let o = and_is (is_low f.0) (nat_lt (hex_digit f.0) 16 && not (nat_eq (hex_digit f.0) 13)) (passes is_no_surrogate (codes "0123456789ABCEFabcef") f.0 refl f.3) in
    let n = and_is (nat_lt (hex_digit f.0) 16) (not (nat_eq (hex_digit f.0) 13)) o.1 in
    let i = both_is hex_form (in_turn (hex_form ∷ hex_form ∷ [])) f.1 f.4 in
    let j = both_is hex_form hex_form i.1 i.4 in
    let b = hex_is i.0 i.3 in
    let c = hex_is j.0 j.3 in
    let d = hex_is j.1 j.4 in
    let below : hex_digit f.0 < 16 = ltb-true (hex_digit f.0) 16 n.0 in
    record {
      a = f.0;
      b = b.0;
      c = c.0;
      d = d.0;
      are = f.2 ∙ ap (λ u. f.0 ∷ u) (i.2 ∙ ap₂ (λ (x y : List ℕ). x ++ y) b.1 (j.2 ∙ ap₂ (λ (x y : List ℕ). x ++ y) c.1 d.1));
      ascii = ascii_four f.0 b.0 c.0 d.0 o.0 b.2 c.2 d.2;
      bound = four_bound f.0 b.0 c.0 d.0 below b.3 c.3 d.3;
      scalar = apart_first f.0 b.0 c.0 d.0 below (eqb-false (hex_digit f.0) 13 (not_is (nat_eq (hex_digit f.0) 13) n.1)) b.3 c.3 d.3;
    }

pub four_with_d : (w : List ℕ) → HasForm (Four (one_of (codes "Dd")) (one_of (codes "01234567")) hex_form hex_form) w → FourDigits w
four_with_d w h =
    let f = front_is (codes "Dd") (in_turn (one_of (codes "01234567") ∷ hex_form ∷ hex_form ∷ [])) w h in
    let o = and_is (is_low f.0) (nat_eq (hex_digit f.0) 13) (passes is_d (codes "Dd") f.0 refl f.3) in
    let i = front_is (codes "01234567") (in_turn (hex_form ∷ hex_form ∷ [])) f.1 f.4 in
    let n = and_is (is_low i.0) (nat_lt (hex_digit i.0) 8) (passes is_eight (codes "01234567") i.0 refl i.3) in
    let j = both_is hex_form hex_form i.1 i.4 in
    let c = hex_is j.0 j.3 in
    let d = hex_is j.1 j.4 in
    let first : hex_digit f.0 ≡ 13 = eqb-true (hex_digit f.0) 13 o.1 in
    let second : hex_digit i.0 < 8 = ltb-true (hex_digit i.0) 8 n.1 in
    record {
      a = f.0;
      b = i.0;
      c = c.0;
      d = d.0;
      are = f.2 ∙ ap (λ u. f.0 ∷ u) (i.2 ∙ ap (λ u. i.0 ∷ u) (j.2 ∙ ap₂ (λ (x y : List ℕ). x ++ y) c.1 d.1));
      ascii = ascii_four f.0 i.0 c.0 d.0 o.0 n.0 c.2 d.2;
      bound = four_bound f.0 i.0 c.0 d.0 (omega arith) (omega arith) c.3 d.3;
      scalar = low_second f.0 i.0 c.0 d.0 first second c.3 d.3;
    }

pub four_is : (w : List ℕ) → HasForm four_digits w → FourDigits w
four_is w h = elim (either_is _ _ w h) [ inl k ↦ four_with w k | inr k ↦ four_with_d w k ]

-- four digits of any worth
pub hex_four : (w : List ℕ) → HasForm (Four hex_form hex_form hex_form hex_form) w
    → (a : ℕ) × (b : ℕ) × (c : ℕ) × (d : ℕ) × (w ≡ a ∷ b ∷ c ∷ d ∷ []) × (each is_low (a ∷ b ∷ c ∷ d ∷ []) ≡ true) × (hex_digit a < 16) × (hex_digit b < 16) × (hex_digit c < 16) × (hex_digit d < 16)
hex_four w h =
    let i = both_is hex_form (in_turn (hex_form ∷ hex_form ∷ hex_form ∷ [])) w h in
    let j = both_is hex_form (in_turn (hex_form ∷ hex_form ∷ [])) i.1 i.4 in
    let k = both_is hex_form hex_form j.1 j.4 in
    let a = hex_is i.0 i.3 in
    let b = hex_is j.0 j.3 in
    let c = hex_is k.0 k.3 in
    let d = hex_is k.1 k.4 in (
      a.0,
      b.0,
      c.0,
      d.0,
      i.2 ∙ ap₂ (λ (x y : List ℕ). x ++ y) a.1 (j.2 ∙ ap₂ (λ (x y : List ℕ). x ++ y) b.1 (k.2 ∙ ap₂ (λ (x y : List ℕ). x ++ y) c.1 d.1)),
      ascii_four a.0 b.0 c.0 d.0 a.2 b.2 c.2 d.2,
      a.3,
      b.3,
      c.3,
      d.3,
    )

-- `u` and four digits
pub u_word : (w : List ℕ) → FourDigits w → EscapeWord (117 ∷ w)
u_word w f =
    subst (λ v. EscapeWord (117 ∷ v)) (sym f.are) (record {
      ascii = f.ascii;
      size = λ bs. refl;
      begins = λ bs. record { whole = omega arith; byte = λ h. absurd cc; character = λ h. f.scalar };
    })

-- `U` and eight digits, which name a character
pub eight_word : (a b c d e f g h : ℕ) → each is_low (a ∷ b ∷ c ∷ d ∷ e ∷ f ∷ g ∷ h ∷ []) ≡ true → IsScalar (digits_in 16 0 (a ∷ b ∷ c ∷ d ∷ e ∷ f ∷ g ∷ h ∷ []))
    → EscapeWord (85 ∷ a ∷ b ∷ c ∷ d ∷ e ∷ f ∷ g ∷ h ∷ [])
eight_word a b c d e f g h l s = record {
  ascii = l;
  size = λ bs. refl;
  begins = λ bs. record { whole = omega arith; byte = λ k. absurd cc; character = λ k. s };
}

-- four zeros, and four digits that name a character
pub zeros_word : (w : List ℕ) → FourDigits w → EscapeWord (85 ∷ 48 ∷ 48 ∷ 48 ∷ 48 ∷ w)
zeros_word w f = subst (λ v. EscapeWord (85 ∷ 48 ∷ 48 ∷ 48 ∷ 48 ∷ v)) (sym f.are) (eight_word 48 48 48 48 f.a f.b f.c f.d f.ascii f.scalar)

pub planes_scalar : (p a b c d : ℕ) → 0 < hex_digit p → hex_digit p < 16 → hex_digit a < 16 → hex_digit b < 16 → hex_digit c < 16 → hex_digit d < 16
    → IsScalar (digits_in 16 0 (48 ∷ 48 ∷ 48 ∷ p ∷ a ∷ b ∷ c ∷ d ∷ []))
planes_scalar p a b c d k l m n o q = scalar_above (digits_in 16 0 (48 ∷ 48 ∷ 48 ∷ p ∷ a ∷ b ∷ c ∷ d ∷ [])) (omega arith) (omega arith)

pub last_plane_scalar : (a b c d : ℕ) → hex_digit a < 16 → hex_digit b < 16 → hex_digit c < 16 → hex_digit d < 16 → IsScalar (digits_in 16 0 (48 ∷ 48 ∷ 49 ∷ 48 ∷ a ∷ b ∷ c ∷ d ∷ []))
last_plane_scalar a b c d m n o q = scalar_above (digits_in 16 0 (48 ∷ 48 ∷ 49 ∷ 48 ∷ a ∷ b ∷ c ∷ d ∷ [])) (omega arith) (omega arith)

-- ---- an escape by its form

abbrev pub nought : Form
nought = one_of (codes "0")

abbrev pub is_plane : ℕ → Bool
is_plane c = nat_lt c 128 && (nat_lt 0 (hex_digit c) && nat_lt (hex_digit c) 16)

pub zeros_form : (w : List ℕ) → HasForm (in_turn (nought ∷ nought ∷ nought ∷ nought ∷ four_digits ∷ [])) w → EscapeWord (85 ∷ w)
zeros_form w h =
    let i = front_is (codes "0") (in_turn (nought ∷ nought ∷ nought ∷ four_digits ∷ [])) w h in
    let j = front_is (codes "0") (in_turn (nought ∷ nought ∷ four_digits ∷ [])) i.1 i.4 in
    let k = front_is (codes "0") (in_turn (nought ∷ four_digits ∷ [])) j.1 j.4 in
    let l = front_is (codes "0") four_digits k.1 k.4 in
    let e : w ≡ 48 ∷ 48 ∷ 48 ∷ 48 ∷ l.1 =
    i.2 ∙ ap₂ (λ (x : ℕ) (y : List ℕ). x ∷ y) (sole 48 i.0 i.3) (j.2 ∙ ap₂ (λ (x : ℕ) (y : List ℕ). x ∷ y) (sole 48 j.0 j.3)
    (k.2 ∙ ap₂ (λ (x : ℕ) (y : List ℕ). x ∷ y) (sole 48 k.0 k.3) (l.2 ∙ ap (λ (x : ℕ). x ∷ l.1) (sole 48 l.0 l.3)))) in
    subst (λ v. EscapeWord (85 ∷ v)) (sym e) (zeros_word l.1 (four_is l.1 l.4))

pub planes_form : (w : List ℕ) → HasForm (in_turn (nought ∷ nought ∷ nought ∷ one_of (codes "123456789ABCDEFabcdef") ∷ in_turn (hex_form ∷ hex_form ∷ hex_form ∷ hex_form ∷ []) ∷ [])) w → EscapeWord (85 ∷ w)
planes_form w h =
    let four = in_turn (hex_form ∷ hex_form ∷ hex_form ∷ hex_form ∷ []) in
    let plane = one_of (codes "123456789ABCDEFabcdef") in
    let i = front_is (codes "0") (in_turn (nought ∷ nought ∷ plane ∷ four ∷ [])) w h in
    let j = front_is (codes "0") (in_turn (nought ∷ plane ∷ four ∷ [])) i.1 i.4 in
    let k = front_is (codes "0") (in_turn (plane ∷ four ∷ [])) j.1 j.4 in
    let l = front_is (codes "123456789ABCDEFabcdef") four k.1 k.4 in
    let o = and_is (is_low l.0) (nat_lt 0 (hex_digit l.0) && nat_lt (hex_digit l.0) 16) (passes is_plane (codes "123456789ABCDEFabcdef") l.0 refl l.3) in
    let r = and_is (nat_lt 0 (hex_digit l.0)) (nat_lt (hex_digit l.0) 16) o.1 in
    let q = hex_four l.1 l.4 in
    let e : w ≡ 48 ∷ 48 ∷ 48 ∷ l.0 ∷ q.0 ∷ q.1 ∷ q.2 ∷ q.3 ∷ [] =
    i.2 ∙ ap₂ (λ (x : ℕ) (y : List ℕ). x ∷ y) (sole 48 i.0 i.3) (j.2 ∙ ap₂ (λ (x : ℕ) (y : List ℕ). x ∷ y) (sole 48 j.0 j.3)
    (k.2 ∙ ap₂ (λ (x : ℕ) (y : List ℕ). x ∷ y) (sole 48 k.0 k.3) (l.2 ∙ ap (λ (y : List ℕ). l.0 ∷ y) q.4))) in
    subst (λ v. EscapeWord (85 ∷ v)) (sym e)
    (eight_word 48 48 48 l.0 q.0 q.1 q.2 q.3 (low_and l.0 (q.0 ∷ q.1 ∷ q.2 ∷ q.3 ∷ []) o.0 q.5)
    (planes_scalar l.0 q.0 q.1 q.2 q.3 (ltb-true 0 (hex_digit l.0) r.0) (ltb-true (hex_digit l.0) 16 r.1) q.6 q.7 q.8 q.9))

pub last_plane_form : (w : List ℕ) → HasForm (in_turn (nought ∷ nought ∷ one_of (codes "1") ∷ nought ∷ in_turn (hex_form ∷ hex_form ∷ hex_form ∷ hex_form ∷ []) ∷ [])) w → EscapeWord (85 ∷ w)
last_plane_form w h =
    let four = in_turn (hex_form ∷ hex_form ∷ hex_form ∷ hex_form ∷ []) in
    let i = front_is (codes "0") (in_turn (nought ∷ one_of (codes "1") ∷ nought ∷ four ∷ [])) w h in
    let j = front_is (codes "0") (in_turn (one_of (codes "1") ∷ nought ∷ four ∷ [])) i.1 i.4 in
    let k = front_is (codes "1") (in_turn (nought ∷ four ∷ [])) j.1 j.4 in
    let l = front_is (codes "0") four k.1 k.4 in
    let q = hex_four l.1 l.4 in
    let e : w ≡ 48 ∷ 48 ∷ 49 ∷ 48 ∷ q.0 ∷ q.1 ∷ q.2 ∷ q.3 ∷ [] =
    i.2 ∙ ap₂ (λ (x : ℕ) (y : List ℕ). x ∷ y) (sole 48 i.0 i.3) (j.2 ∙ ap₂ (λ (x : ℕ) (y : List ℕ). x ∷ y) (sole 48 j.0 j.3)
    (k.2 ∙ ap₂ (λ (x : ℕ) (y : List ℕ). x ∷ y) (sole 49 k.0 k.3) (l.2 ∙ ap₂ (λ (x : ℕ) (y : List ℕ). x ∷ y) (sole 48 l.0 l.3) q.4))) in
    subst (λ v. EscapeWord (85 ∷ v)) (sym e) (eight_word 48 48 49 48 q.0 q.1 q.2 q.3 q.5 (last_plane_scalar q.0 q.1 q.2 q.3 q.6 q.7 q.8 q.9))

pub eight_is : (w : List ℕ) → HasForm eight_digits w → EscapeWord (85 ∷ w)
eight_is w h = elim (either_is _ _ w h) [ inl k ↦ zeros_form w k | inr k ↦ elim (either_is _ _ w k) [ inl l ↦ planes_form w l | inr l ↦ last_plane_form w l ] ]

pub octal_form : (w : List ℕ) → HasForm (in_turn (one_of (codes "0123") ∷ octal_digit ∷ octal_digit ∷ [])) w → EscapeWord w
octal_form w h =
    let i = front_is (codes "0123") (in_turn (octal_digit ∷ octal_digit ∷ [])) w h in
    let j = both_is octal_digit octal_digit i.1 i.4 in
    let a = octal_is j.0 j.3 in
    let b = octal_is j.1 j.4 in
    let e : w ≡ i.0 ∷ a.0 ∷ b.0 ∷ [] = i.2 ∙ ap (λ (y : List ℕ). i.0 ∷ y) (j.2 ∙ ap₂ (λ (x y : List ℕ). x ++ y) a.1 b.1) in
    let word : (c : ℕ) → is_listed (codes "0123") c ≡ true → EscapeWord (c ∷ a.0 ∷ b.0 ∷ []) = λ c m. listed_is (λ d. EscapeWord (d ∷ a.0 ∷ b.0 ∷ [])) (codes "0123") c (
      octal_word 48 a.0 b.0 refl refl (omega arith) a.2 a.3 b.2 b.3 (λ bs. refl) (λ bs. refl) refl,
      (
        octal_word 49 a.0 b.0 refl refl (omega arith) a.2 a.3 b.2 b.3 (λ bs. refl) (λ bs. refl) refl,
        (
          octal_word 50 a.0 b.0 refl refl (omega arith) a.2 a.3 b.2 b.3 (λ bs. refl) (λ bs. refl) refl,
          (
            octal_word 51 a.0 b.0 refl refl (omega arith) a.2 a.3 b.2 b.3 (λ bs. refl) (λ bs. refl) refl,
            tt,
          ),
        ),
      ),
    ) m in
    subst EscapeWord (sym e) (word i.0 i.3)

pub x_form : (w : List ℕ) → HasForm (in_turn (one_of (codes "x") ∷ hex_form ∷ hex_form ∷ [])) w → EscapeWord w
x_form w h =
    let i = front_is (codes "x") (in_turn (hex_form ∷ hex_form ∷ [])) w h in
    let j = both_is hex_form hex_form i.1 i.4 in
    let a = hex_is j.0 j.3 in
    let b = hex_is j.1 j.4 in
    let e : w ≡ 120 ∷ a.0 ∷ b.0 ∷ [] = i.2 ∙ ap₂ (λ (x : ℕ) (y : List ℕ). x ∷ y) (sole 120 i.0 i.3) (j.2 ∙ ap₂ (λ (x y : List ℕ). x ++ y) a.1 b.1) in
    subst EscapeWord (sym e) (x_word a.0 b.0 a.2 a.3 b.2 b.3)

pub u_form : (w : List ℕ) → HasForm (in_turn (one_of (codes "u") ∷ four_digits ∷ [])) w → EscapeWord w
u_form w h =
    let i = front_is (codes "u") four_digits w h in
    let e : w ≡ 117 ∷ i.1 = i.2 ∙ ap (λ (x : ℕ). x ∷ i.1) (sole 117 i.0 i.3) in
    subst EscapeWord (sym e) (u_word i.1 (four_is i.1 i.4))

pub eight_form : (w : List ℕ) → HasForm (in_turn (one_of (codes "U") ∷ eight_digits ∷ [])) w → EscapeWord w
eight_form w h =
    let i = front_is (codes "U") eight_digits w h in
    let e : w ≡ 85 ∷ i.1 = i.2 ∙ ap (λ (x : ℕ). x ∷ i.1) (sole 85 i.0 i.3) in
    subst EscapeWord (sym e) (eight_is i.1 i.4)

-- a quote that an escape names by itself
abbrev pub IsQuote : ℕ → Type 0
IsQuote q = EscapeWord (q ∷ [])

pub double_quote : IsQuote 34
double_quote = letter_word 34 refl refl refl (λ bs. omega arith)

pub single_quote : IsQuote 39
single_quote = letter_word 39 refl refl refl (λ bs. omega arith)

pub letter_form : (q : ℕ) (w : List ℕ) → IsQuote q → HasForm (one_of (codes "abfnrtv\\" ++ q ∷ [])) w → EscapeWord w
letter_form q w is h =
    let o = one_is (codes "abfnrtv\\" ++ q ∷ []) w h in
    subst EscapeWord (sym o.1) (listed_is (λ d. EscapeWord (d ∷ [])) (codes "abfnrtv\\" ++ q ∷ []) o.0
    (letter_word 97 refl refl refl (λ bs. omega arith), (letter_word 98 refl refl refl (λ bs. omega arith), (letter_word 102 refl refl refl (λ bs. omega arith), (letter_word 110 refl refl refl (λ bs. omega arith), (letter_word 114 refl refl refl (λ bs. omega arith), (letter_word 116 refl refl refl (λ bs. omega arith), (letter_word 118 refl refl refl (λ bs. omega arith), (letter_word 92 refl refl refl (λ bs. omega arith), (is, tt))))))))) o.2)

-- an escape, with its backslash
pub escape_is : (q : ℕ) (w : List ℕ) → IsQuote q → HasForm (escape_within (q ∷ [])) w → (e : List ℕ) × (w ≡ 92 ∷ e) × EscapeWord e
escape_is q w is h =
    let i = front_is (codes "\\") _ w h in
    let e : w ≡ 92 ∷ i.1 = i.2 ∙ ap (λ (x : ℕ). x ∷ i.1) (sole 92 i.0 i.3) in (
      i.1,
      e,
      elim (either_is _ _ i.1 i.4) [
        | inl k ↦ letter_form q i.1 is k
        | inr k ↦ elim (either_is _ _ i.1 k) [
          | inl l ↦ octal_form i.1 l
          | inr l ↦ elim (either_is _ _ i.1 l) [
            | inl m ↦ x_form i.1 m
            | inr m ↦ elim (either_is _ _ i.1 m) [ inl n ↦ u_form i.1 n | inr n ↦ eight_form i.1 n ]
          ]
        ]
      ],
    )
