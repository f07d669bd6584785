-- From the form of a literal token to what stands between its quotes.
use Rattle.std.proofs.Common.{◌≡◌, ℕ, ◌+◌, ◌-◌, ◌/◌, ◌%◌, ◌<◌, ◌≤◌, Bool, true, false, ◌&&◌, ◌⊎◌, inl, inr, List, [], ◌∷◌, ◌++◌, length, take, drop, get_or, refl, sym, ap, ap₂, subst, ◌∙◌, arith, length-append, cond}
use Rattle.std.specs.Prelude.{nat_eq, nat_lt, nat_le, encode_utf8_all, codes}
use Rattle.std.specs.Str.{all_scalars}
use Rattle.std.specs.Char.{IsScalar, encode_utf8}
use Rattle.std.proofs.Math.Seq.{take-append_seam, drop-append_seam}
use Rattle.std.proofs.Math.Dec.{ltb, leb}
use Rattle.std.proofs.lemmas.Bool.{ne_eqb, leb-true, ltb-true, eqb-false}
use Rattle.std.proofs.lemmas.Str.{encodes-append, length-encode, len_utf8_bounds, char_from_byte}
use Rattle.std.proofs.lemmas.List.{append-nil}
use Rattle.go_tree.specs.GoWords.Tokens.Characters.{each, byte_order_mark}
use Rattle.go_tree.specs.GoWords.Tokens.Forms.{Form, one_of, both, many, in_turn, HasForm, no_more, once_more}
use Rattle.go_tree.specs.GoWords.Tokens.Literals.{int_lit, rune_lit, string_lit, unit_within, character_but, interpreted_string, raw_string}
use Rattle.go_tree.specs.GoWords.Texts.{between_quotes}
use Rattle.go_tree.specs.GoLiterals.Strings.{IsString}
use Rattle.go_tree.specs.GoLiterals.Literals.{IsLiteral, IsRune}
use Rattle.go_tree.specs.GoLiterals.Units.{BeginsEscape, IsText, IsUnit, IsUnits, no_units, plain, escaped, escape_size}
use Rattle.go_tree.proofs.GoLiterals.WordLemmas.{one_is, other_is, both_is, either_is, front_is, and_is, passes, sole, differs, low_front, low_all}
use Rattle.go_tree.proofs.GoLiterals.EscapeLemmas.{EscapeWord, IsQuote, double_quote, single_quote, escape_is}

-- ---- bytes that are units

high : (n : ℕ) → 128 ≤ n → nat_eq n 92 ≡ false
high n h =
    let apart : n ≡ 92 → ⊥ = λ e. absurd (omega arith) in
    ne_eqb n 92 apart

-- a character other than a backslash
character_units : (c : ℕ) (bs : List ℕ) → nat_eq c 92 ≡ false → IsUnits bs → IsUnits (encode_utf8 c ++ bs)
unfolding encode_utf8
character_units c bs e u = go (ltb c 128) (ltb c 2048) (ltb c 65536)
  where
    next : ℕ → ℕ
    next n = 128 + n % 64

    last : (n : ℕ) → IsUnits ((128 + n % 64) ∷ bs)
    last n = plain (128 + n % 64) bs (high (128 + n % 64) (omega arith)) u

    go : (p q r : Bool) → IsUnits (cond p (c ∷ []) (cond q ((192 + c / 64) ∷ (128 + c % 64) ∷ []) (cond r ((224 + c / 4096) ∷ (128 + c / 64 % 64) ∷ (128 + c % 64) ∷ []) ((240 + c / 262144) ∷ (128 + c / 4096 % 64) ∷ (128 + c / 64 % 64) ∷ (128 + c % 64) ∷ []))) ++ bs)
    go true q r = plain c bs e u
    go false true r = plain (192 + c / 64) ((128 + c % 64) ∷ bs) (high (192 + c / 64) (omega arith)) (last c)
    go false false true =
        plain (224 + c / 4096) ((128 + c / 64 % 64) ∷ (128 + c % 64) ∷ bs) (high (224 + c / 4096) (omega arith))
        (plain (128 + c / 64 % 64) ((128 + c % 64) ∷ bs) (high (128 + c / 64 % 64) (omega arith)) (last c))
    go false false false =
        plain (240 + c / 262144) ((128 + c / 4096 % 64) ∷ (128 + c / 64 % 64) ∷ (128 + c % 64) ∷ bs) (high (240 + c / 262144) (omega arith))
        (plain (128 + c / 4096 % 64) ((128 + c / 64 % 64) ∷ (128 + c % 64) ∷ bs) (high (128 + c / 4096 % 64) (omega arith))
        (plain (128 + c / 64 % 64) ((128 + c % 64) ∷ bs) (high (128 + c / 64 % 64) (omega arith)) (last c)))

-- an escape's bytes are its characters
escape_bytes : (e : List ℕ) → EscapeWord e → encode_utf8_all (92 ∷ e) ≡ 92 ∷ e
escape_bytes e w = low_all (92 ∷ e) w.ascii

escape_units : (e bs : List ℕ) → EscapeWord e → IsUnits bs → IsUnits ((92 ∷ e) ++ bs)
escape_units e bs w u =
    let d : drop (escape_size (e ++ bs)) (e ++ bs) ≡ bs = ap (λ k. drop k (e ++ bs)) (w.size bs) ∙ drop-append_seam e bs in
    escaped 92 (e ++ bs) refl (w.begins bs) (subst IsUnits (sym d) u)

-- one character other than these, or an escape
unit_units : (q : ℕ) (w bs : List ℕ) → IsQuote q → HasForm (unit_within (q ∷ [])) w → IsUnits bs → IsUnits (encode_utf8_all w ++ bs)
unit_units q w bs is h u = elim (either_is _ _ w h) [
  | inl k ↦ (
      let o = other_is (0 ∷ byte_order_mark ∷ codes "\n\\" ++ q ∷ []) w k in
      let e : encode_utf8_all w ≡ encode_utf8 o.0 = ap encode_utf8_all o.1 ∙ append-nil (encode_utf8 o.0) in
      subst (λ x. IsUnits (x ++ bs)) (sym e) (character_units o.0 bs (differs (0 ∷ byte_order_mark ∷ codes "\n\\" ++ q ∷ []) o.0 92 o.2 refl) u))
  | inr k ↦ (
      let i = escape_is q w is k in
      let e : encode_utf8_all w ≡ 92 ∷ i.0 = ap encode_utf8_all i.1 ∙ escape_bytes i.0 i.2 in
      subst (λ x. IsUnits (x ++ bs)) (sym e) (escape_units i.0 bs i.2 u))
]

units_all : (f : Form) (w : List ℕ) → ((v bs : List ℕ) → HasForm f v → IsUnits bs → IsUnits (encode_utf8_all v ++ bs)) → HasForm (many f) w → IsUnits (encode_utf8_all w)
units_all _ _ first (no_more f) = no_units
units_all _ _ first (once_more f u v w e h k) = subst IsUnits (sym (ap encode_utf8_all e ∙ encodes-append u v)) (first u (encode_utf8_all v) h (units_all f v first k))

-- ---- a literal by its form

-- a word in quotes
quoted : (a : ℕ) (m : List ℕ) (b : ℕ) → a < 128 → b < 128 → encode_utf8_all (a ∷ (m ++ b ∷ [])) ≡ a ∷ (encode_utf8_all m ++ b ∷ [])
quoted a m b p q = low_front a (m ++ b ∷ []) p ∙ ap (λ x. a ∷ x) (encodes-append m (b ∷ []) ∙ ap (λ x. encode_utf8_all m ++ x) (low_front b [] q))

inside_is : (a : ℕ) (x : List ℕ) (b : ℕ) → between_quotes (a ∷ (x ++ b ∷ [])) ≡ x
inside_is a x b =
    let l : length (a ∷ (x ++ b ∷ [])) - 2 ≡ length x = omega (arith, length-append x (b ∷ [])) in
    ap (λ k. take k (x ++ b ∷ [])) l ∙ take-append_seam x (b ∷ [])

long : (a : ℕ) (x : List ℕ) (b : ℕ) → 2 ≤ length (a ∷ (x ++ b ∷ []))
long a x b = omega (arith, length-append x (b ∷ []))

-- the two quotes of such a word, and what stands between them
quotes_are : (d : ℕ) (g : Form) (w : List ℕ) → HasForm (in_turn (one_of (d ∷ []) ∷ g ∷ one_of (d ∷ []) ∷ [])) w → (m : List ℕ) × (w ≡ d ∷ (m ++ d ∷ [])) × HasForm g m
quotes_are d g w h =
    let i = front_is (d ∷ []) (both g (one_of (d ∷ []))) w h in
    let j = both_is g (one_of (d ∷ [])) i.1 i.4 in
    let k = one_is (d ∷ []) j.1 j.4 in
    let e : w ≡ d ∷ (j.0 ++ d ∷ []) =
    i.2 ∙ ap₂ (λ (x : ℕ) (y : List ℕ). x ∷ y) (sole d i.0 i.3) (j.2 ∙ ap (λ y. j.0 ++ y) (k.1 ∙ ap (λ (x : ℕ). x ∷ []) (sole d k.0 k.2))) in
    (j.0, e, j.3)

-- the first byte of a string literal
abbrev FirstIsQuote : List ℕ → Type 0
FirstIsQuote s = (get_or s 0 0 ≡ 34) ⊎ (get_or s 0 0 ≡ 96)

interpreted_text : (w : List ℕ) → HasForm interpreted_string w → IsText (encode_utf8_all w) × FirstIsQuote (encode_utf8_all w)
interpreted_text w h =
    let i = quotes_are 34 (many (unit_within (34 ∷ []))) w h in
    let u : IsUnits (encode_utf8_all i.0) = units_all (unit_within (34 ∷ [])) i.0 (λ v bs k l. unit_units 34 v bs double_quote k l) i.2 in
    let e : encode_utf8_all w ≡ 34 ∷ (encode_utf8_all i.0 ++ 34 ∷ []) = ap encode_utf8_all i.1 ∙ quoted 34 i.0 34 (omega arith) (omega arith) in (
      subst IsText (sym e) (record { quotes = long 34 (encode_utf8_all i.0) 34; units = λ a. subst IsUnits (sym (inside_is 34 (encode_utf8_all i.0) 34)) u }),
      inl (ap (λ (s : List ℕ). get_or s 0 0) e),
    )

raw_text : (w : List ℕ) → HasForm raw_string w → IsText (encode_utf8_all w) × FirstIsQuote (encode_utf8_all w)
raw_text w h =
    let i = quotes_are 96 (many (character_but (codes "`"))) w h in
    let e : encode_utf8_all w ≡ 96 ∷ (encode_utf8_all i.0 ++ 96 ∷ []) = ap encode_utf8_all i.1 ∙ quoted 96 i.0 96 (omega arith) (omega arith) in (
      subst IsText (sym e) (record { quotes = long 96 (encode_utf8_all i.0) 96; units = λ a. absurd (a refl) }),
      inr (ap (λ (s : List ℕ). get_or s 0 0) e),
    )

word_text : (w : List ℕ) → HasForm string_lit w → IsText (encode_utf8_all w) × FirstIsQuote (encode_utf8_all w)
unfolding string_lit
word_text w h = elim (either_is _ _ w h) [ inl k ↦ interpreted_text w k | inr k ↦ raw_text w k ]

-- what stands between the quotes of a string
pub string_text : (s : List ℕ) → IsString s → IsText s
string_text s l = subst IsText l.2 (word_text l.0 l.1).0

-- ---- what stands between the quotes of a rune

first_high : (c : ℕ) → nat_eq c 92 ≡ false → get_or (encode_utf8 c) 0 0 ≡ 92 → ⊥
first_high c e h =
    let l : 0 < length (encode_utf8 c) = omega (arith, length-encode c, len_utf8_bounds c) in
    let b : c ≡ get_or (encode_utf8 c) 0 0 = char_from_byte (encode_utf8 c) [] c (sym (append-nil (encode_utf8 c))) (omega arith) l in
    eqb-false c 92 e (b ∙ h)

and_true : (b : Bool) → b && true ≡ true → b ≡ true
and_true true h = refl
and_true false h = h

character_unit : (c : ℕ) → IsScalar c → nat_eq c 92 ≡ false → IsUnit (encode_utf8 c)
character_unit c s e = record {
  some = omega (arith, length-encode c, len_utf8_bounds c);
  escape = λ h. absurd (first_high c e h);
  character = λ h. record { code = c; scalar = s; encoded = refl };
}

escape_unit : (e : List ℕ) → EscapeWord e → IsUnit (92 ∷ e)
escape_unit e w = record {
  some = omega arith;
  escape = λ h. subst BeginsEscape (append-nil e) (w.begins []);
  character = λ h. absurd (h refl);
}

unit_is : (w : List ℕ) → all_scalars w ≡ true → HasForm (unit_within (39 ∷ [])) w → IsUnit (encode_utf8_all w)
unit_is w s h = elim (either_is _ _ w h) [
  | inl k ↦ (
      let o = other_is (0 ∷ byte_order_mark ∷ codes "\n\\" ++ 39 ∷ []) w k in
      let e : encode_utf8_all w ≡ encode_utf8 o.0 = ap encode_utf8_all o.1 ∙ append-nil (encode_utf8 o.0) in
      let t : IsScalar o.0 = and_true _ (subst (λ x. all_scalars x ≡ true) o.1 s) in
      subst IsUnit (sym e) (character_unit o.0 t (differs (0 ∷ byte_order_mark ∷ codes "\n\\" ++ 39 ∷ []) o.0 92 o.2 refl)))
  | inr k ↦ (
      let i = escape_is 39 w single_quote k in
      subst IsUnit (sym (ap encode_utf8_all i.1 ∙ escape_bytes i.0 i.2)) (escape_unit i.0 i.2))
]

scalars_front : (u v : List ℕ) → all_scalars (u ++ v) ≡ true → all_scalars u ≡ true
scalars_front [] v h = refl
scalars_front (c ∷ u) v h = let a = and_is _ (all_scalars (u ++ v)) h in ap₂ (λ (x y : Bool). x && y) a.0 (scalars_front u v a.1)

word_rune : (w : List ℕ) → all_scalars w ≡ true → HasForm rune_lit w → (2 ≤ length (encode_utf8_all w)) × IsUnit (between_quotes (encode_utf8_all w)) × (get_or (encode_utf8_all w) 0 0 ≡ 39)
unfolding rune_lit
word_rune w s h =
    let i = quotes_are 39 (unit_within (39 ∷ [])) w h in
    let t : all_scalars i.0 ≡ true = scalars_front i.0 (39 ∷ []) (subst (λ x. all_scalars x ≡ true) i.1 s) in
    let e : encode_utf8_all w ≡ 39 ∷ (encode_utf8_all i.0 ++ 39 ∷ []) = ap encode_utf8_all i.1 ∙ quoted 39 i.0 39 (omega arith) (omega arith) in (
      subst (λ (x : List ℕ). 2 ≤ length x) (sym e) (long 39 (encode_utf8_all i.0) 39),
      subst (λ (x : List ℕ). IsUnit (between_quotes x)) (sym e) (subst IsUnit (sym (inside_is 39 (encode_utf8_all i.0) 39)) (unit_is i.0 t i.2)),
      ap (λ (x : List ℕ). get_or x 0 0) e,
    )

-- what stands between the quotes of a rune
pub rune_unit : (s : List ℕ) → IsRune s → (2 ≤ length s) × IsUnit (between_quotes s)
rune_unit s l = let r = word_rune l.word l.scalars l.form in subst (λ (x : List ℕ). (2 ≤ length x) × IsUnit (between_quotes x)) l.encoded (r.0, r.1)

-- ---- integers begin with a digit

abbrev is_ten : ℕ → Bool
is_ten c = nat_le 48 c && nat_lt c 58

abbrev BeginsDigit : List ℕ → Type 0
BeginsDigit w = (c : ℕ) × (v : List ℕ) × (w ≡ c ∷ v) × (is_ten c ≡ true)

begins_front : (cs : List ℕ) (g : Form) (w : List ℕ) → each is_ten cs ≡ true → HasForm (both (one_of cs) g) w → BeginsDigit w
begins_front cs g w all h = let i = front_is cs g w h in (i.0, i.1, i.2, passes is_ten cs i.0 all i.3)

begins_one : (cs w : List ℕ) → each is_ten cs ≡ true → HasForm (one_of cs) w → BeginsDigit w
begins_one cs w all h = let i = one_is cs w h in (i.0, [], i.1, passes is_ten cs i.0 all i.2)

integer_begins : (w : List ℕ) → HasForm int_lit w → BeginsDigit w
unfolding int_lit
integer_begins w h = elim (either_is _ _ w h) [
  | inl k ↦ elim (either_is _ _ w k) [ inl l ↦ begins_one (codes "0") w refl l | inr l ↦ begins_front (codes "123456789") _ w refl l ]
  | inr k ↦ elim (either_is _ _ w k) [
    | inl l ↦ begins_front (codes "0") _ w refl l
    | inr l ↦ elim (either_is _ _ w l) [ inl m ↦ begins_front (codes "0") _ w refl m | inr m ↦ begins_front (codes "0") _ w refl m ]
  ]
]

integer_first : (w : List ℕ) → HasForm int_lit w → (0 < length (encode_utf8_all w)) × (48 ≤ get_or (encode_utf8_all w) 0 0) × (get_or (encode_utf8_all w) 0 0 < 58)
integer_first w h =
    let i = integer_begins w h in
    let a = and_is (nat_le 48 i.0) (nat_lt i.0 58) i.3 in
    let lo : 48 ≤ i.0 = leb-true 48 i.0 a.0 in
    let hi : i.0 < 58 = ltb-true i.0 58 a.1 in
    let e : encode_utf8_all w ≡ i.0 ∷ encode_utf8_all i.1 = ap encode_utf8_all i.2 ∙ low_front i.0 i.1 (omega arith) in
    subst (λ (x : List ℕ). (0 < length x) × (48 ≤ get_or x 0 0) × (get_or x 0 0 < 58)) (sym e) (omega arith, lo, hi)

-- ---- a literal by its first byte

pub record LiteralParts (s : List ℕ) : Type 0 where
  pub some : 0 < length s
  pub rune : get_or s 0 0 ≡ 39 → IsRune s
  pub text : (get_or s 0 0 ≡ 34) ⊎ (get_or s 0 0 ≡ 96) → IsString s

pub literal_parts : (s : List ℕ) → IsLiteral s → LiteralParts s
literal_parts s l = subst LiteralParts l.encoded (elim l.form [
  | inl h ↦ (
      let i = integer_first l.word h in
      record { some = i.0; rune = λ k. absurd (omega (arith, i.1, i.2, k)); text = λ k. absurd (apart 48 58 (get_or (encode_utf8_all l.word) 0 0) i.1 i.2 (refl, refl) k) })
  | inr h ↦ elim h [
    | inl k ↦ (
        let r = word_rune l.word l.scalars k in
        record { some = omega (arith, r.0); rune = λ f. record { word = l.word; scalars = l.scalars; encoded = refl; form = k }; text = λ f. absurd (unlike (get_or (encode_utf8_all l.word) 0 0) r.2 f) })
    | inr k ↦ (
        let r = word_text l.word k in
        record { some = omega (arith, r.0.quotes); rune = λ f. absurd (unlike (get_or (encode_utf8_all l.word) 0 0) f r.1); text = λ f. (l.word, k, refl) })
  ]
])
  where
    unlike : (c : ℕ) → c ≡ 39 → (c ≡ 34) ⊎ (c ≡ 96) → ⊥
    unlike c e k = elim k [ inl a ↦ omega arith | inr a ↦ omega arith ]

    apart : (lo hi c : ℕ) → lo ≤ c → c < hi → (lo ≡ 48) × (hi ≡ 58) → (c ≡ 34) ⊎ (c ≡ 96) → ⊥
    apart lo hi c a b is k = elim k [ inl e ↦ omega arith | inr e ↦ omega arith ]
