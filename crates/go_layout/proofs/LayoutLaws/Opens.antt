-- The first character of the text of a tree.
use Rattle.std.proofs.Common.{◌≡◌, ℕ, ◌+◌, ◌≤◌, Bool, true, false, not, ◌||◌, nat_eq, ◌==◌, List, [], ◌∷◌, ◌++◌, Some, None, refl, subst, arith}
use Rattle.std.specs.Prelude.{codes}
use Rattle.std.specs.Str.{chars}
use Rattle.std.proofs.lemmas.Bool.Decides.{nat_tests}
use Rattle.ucd_category.specs.GeneralCategory.{general_category}
use Rattle.ucd_category.specs.GeneralCategoryRows.{general_category_rows}
use Rattle.ucd_table.specs.Rows.{value_in}
use Rattle.go_tree.specs.declared.tokens.TokenKind.TheVariants.{Ident, Operator, Integer, Rune, Str}
use Rattle.go_tree.specs.declared.operators.UnOp.TheVariants.{Plus, Minus, Not, Flip, Address}
use Rattle.go_tree.specs.declared.operators.BinOp.{BinOp}
use Rattle.go_tree.specs.declared.operators.BinOp.TheVariants.{Mul, Div, Rem, Shl, Shr, And, AndNot, Add, Sub, Or, Xor, Eq, Ne, Lt, Le, Gt, Ge, LogAnd, LogOr}
use Rattle.go_tree.specs.Tree.{NameAt, TypeExpr, Expr, named, pointer, slice_type, map_type, struct_type, ident, int_lit, rune_lit, str_lit, composite, selector, index, slice, call, func_lit, type_operand, unary, binary, star}
use Rattle.go_tree.specs.GoWords.Tokens.Characters.{is_letter, is_word, is_blank, each, is_listed}
use Rattle.go_tree.specs.GoWords.Tokens.Forms.{Form, HasForm}
use Rattle.go_tree.specs.GoWords.Tokens.Forms as form
use Rattle.go_tree.specs.GoWords.Tokens.Literals as lit
use Rattle.go_tree.specs.GoWords.Tokens.Pieces.{token, IsPiece}
use Rattle.go_scan.proofs.Derivatives.{after, along, nullable, form_matches, and_parts}
use Rattle.go_scan.proofs.PieceKinds.{never_empty}
use Rattle.go_tree.specs.GoWords.Terminals.{level_of}
use Rattle.go_layout.specs.Layouts.{Layout, a_token, gap, op, name_layout, within, ◌⊕◌}
use Rattle.go_tree.specs.GoWords.Operators.{binary_spelling}
use Rattle.go_layout.specs.TypeLayout.{type_layout, names_layout}
use Rattle.go_layout.specs.Parens.{needs_parens, is_integer, header_within, closed_within}
use Rattle.go_layout.specs.TreeLayout.{spaced, elems_layout, expr_layout}
use Rattle.go_layout.specs.LayoutLaws.Formed.{IsToken, IsName, HasNames, FormedNames, FormedType, FormedLiteralType, FormedTypeOperand, FormedExpr}
use Rattle.go_layout.specs.LayoutLaws.LayoutPieces.{letters_of}
use Rattle.go_layout.proofs.LayoutLaws.SpelledTypes.{U}
use Rattle.go_layout.proofs.LayoutLaws.Places.{or_false, needs_parts}
use Rattle.go_layout.proofs.LayoutLaws.NextTokens.{no_blank_first}
use Rattle.go_layout.proofs.LayoutLaws.LaidTokens.{avoids}

-- blanks and `=`; and `+`, `-`, `&`, `^` and `!`
abbrev pub banned : Bool → List ℕ
banned false = 32 ∷ 9 ∷ 13 ∷ 10 ∷ 61 ∷ []
banned true = 32 ∷ 9 ∷ 13 ∷ 10 ∷ 61 ∷ 43 ∷ 45 ∷ 38 ∷ 94 ∷ 33 ∷ []

-- another character comes first
abbrev pub opens : Bool → List ℕ → Bool
opens strict [] = false
opens strict (c ∷ cs) = not (is_listed (banned strict) c)

not_true : (b : Bool) → not b ≡ true → b ≡ false
not_true true h = absurd cc
not_true false h = refl

from_false : (b : Bool) → b ≡ false → not b ≡ true
from_false true h = absurd cc
from_false false h = refl

both_false : (a b : Bool) → a ≡ false → b ≡ false → a || b ≡ false
both_false false b p q = q
both_false true b p q = absurd cc

-- what it says of the character
record Apart (c : ℕ) : Type 0 where
  space : c == 32 ≡ false
  tab : c == 9 ≡ false
  carriage : c == 13 ≡ false
  newline : c == 10 ≡ false
  equals : c == 61 ≡ false

apart_of : (c : ℕ) (more : List ℕ) → is_listed (32 ∷ 9 ∷ 13 ∷ 10 ∷ 61 ∷ more) c ≡ false → Apart c
apart_of c more h =
    let a = or_false (c == 32) (is_listed (9 ∷ 13 ∷ 10 ∷ 61 ∷ more) c) h in
    let b = or_false (c == 9) (is_listed (13 ∷ 10 ∷ 61 ∷ more) c) a.1 in
    let d = or_false (c == 13) (is_listed (10 ∷ 61 ∷ more) c) b.1 in
    let e = or_false (c == 10) (is_listed (61 ∷ more) c) d.1 in
    let g = or_false (c == 61) (is_listed more c) e.1 in
    record { space = a.0; tab = b.0; carriage = d.0; newline = e.0; equals = g.0 }

apart_first : (b : Bool) (c : ℕ) (cs : List ℕ) → opens b (c ∷ cs) ≡ true → Apart c
apart_first true c cs h = apart_of c (43 ∷ 45 ∷ 38 ∷ 94 ∷ 33 ∷ []) (not_true (is_listed (banned true) c) h)
apart_first false c cs h = apart_of c [] (not_true (is_listed (banned false) c) h)

pub opens_no_blank : (b : Bool) (t : List ℕ) → opens b t ≡ true → no_blank_first t ≡ true
opens_no_blank b [] h = refl
opens_no_blank b (c ∷ cs) h =
    let a = apart_first b c cs h in
    from_false (is_blank c) (both_false (c == 32 || c == 9 || c == 13) (c == 10) (both_false (c == 32 || c == 9) (c == 13) (both_false (c == 32) (c == 9) a.space a.tab) a.carriage) a.newline)

pub opens_no_equals : (b : Bool) (t : List ℕ) → opens b t ≡ true → avoids (codes "=") t ≡ true
opens_no_equals b [] h = refl
opens_no_equals b (c ∷ cs) h = from_false (is_listed (codes "=") c) (both_false (c == 61) false (apart_first b c cs h).equals refl)

pub opens_weak : (b : Bool) (t : List ℕ) → opens b t ≡ true → opens false t ≡ true
opens_weak true [] h = absurd cc
opens_weak true (c ∷ cs) h =
    let a = apart_first true c cs h in
    from_false (is_listed (banned false) c) (both_false (c == 32) (is_listed (9 ∷ 13 ∷ 10 ∷ 61 ∷ []) c) a.space (both_false (c == 9) (is_listed (13 ∷ 10 ∷ 61 ∷ []) c) a.tab
    (both_false (c == 13) (is_listed (10 ∷ 61 ∷ []) c) a.carriage (both_false (c == 10) (is_listed (61 ∷ []) c) a.newline (both_false (c == 61) false a.equals refl)))))
opens_weak false t h = h

pub opens_any : (b : Bool) (t : List ℕ) → opens true t ≡ true → opens b t ≡ true
opens_any true t h = h
opens_any false t h = opens_weak true t h

-- ---- tokens

same_number : (a b : ℕ) → nat_eq a b ≡ true → a ≡ b
same_number a b e = grind (arith, nat_tests, e)

-- a character that passes is none of those that don't
unlisted : (p : ℕ → Bool) (cs : List ℕ) (c : ℕ) → each (λ b. not (p b)) cs ≡ true → p c ≡ true → is_listed cs c ≡ false
unlisted p [] c off on = refl
unlisted p (b ∷ bs) c off on = let h = and_parts (not (p b)) (each (λ x. not (p x)) bs) off in both_false (c == b) (is_listed bs c) (differs (c == b) refl h.0) (unlisted p bs c h.1 on)
  where
    clash : (x : Bool) → x ≡ true → not x ≡ true → ⊥
    clash true e f = cc
    clash false e f = cc

    differs : (x : Bool) → (c == b) ≡ x → not (p b) ≡ true → (c == b) ≡ false
    differs true e h = absurd (clash (p b) (subst (λ (n : ℕ). p n ≡ true) (same_number c b e) on) h)
    differs false e h = e

letters_apart : each (λ b. not (is_letter b)) (banned true) ≡ true
unfolding is_letter general_category general_category_rows value_in
letters_apart = refl

digits_apart : each (λ b. not (is_letter b)) (codes ".0123456789") ≡ true
unfolding is_letter general_category general_category_rows value_in
digits_apart = refl

word_opens : (w more : List ℕ) → IsPiece (token Ident) w → opens true (w ++ more) ≡ true
word_opens [] more is = absurd (never_empty (token Ident) is)
word_opens (c ∷ cs) more is = from_false (is_listed (banned true) c) (unlisted is_letter (banned true) c letters_apart (and_parts (is_letter c) (each is_word cs) is.0).0)

pub name_opens : (n more : List ℕ) → IsName n → opens true (chars n ++ more) ≡ true
name_opens n more is = word_opens (chars n) more is.1

word_after_dot : (w more : List ℕ) → IsPiece (token Ident) w → avoids (codes ".0123456789") (w ++ more) ≡ true
word_after_dot [] more is = absurd (never_empty (token Ident) is)
word_after_dot (c ∷ cs) more is = from_false (is_listed (codes ".0123456789") c) (unlisted is_letter (codes ".0123456789") c digits_apart (and_parts (is_letter c) (each is_word cs) is.0).0)

pub name_after_dot : (n more : List ℕ) → IsName n → avoids (codes ".0123456789") (chars n ++ more) ≡ true
name_after_dot n more is = word_after_dot (chars n) more is.1

abbrev is_something : Form → Bool
is_something form.nothing = false
is_something _ = true

-- whether a word of the form may begin with the character
abbrev begins : Form → ℕ → Bool
begins f c = is_something (after c f)

along_nothing : (w : List ℕ) → along w form.nothing ≡ form.nothing
along_nothing [] = refl
along_nothing (c ∷ w) = along_nothing w

form_begins : (f : Form) (c : ℕ) (cs : List ℕ) → HasForm f (c ∷ cs) → begins f c ≡ true
form_begins f c cs h = by_form (after c f) (form_matches f (c ∷ cs) h)
  where
    nope : nullable form.nothing ≡ true → ⊥
    nope e = cc

    by_form : (g : Form) → nullable (along cs g) ≡ true → is_something g ≡ true
    by_form form.nothing h = absurd (nope (subst (λ (x : Form). nullable x ≡ true) (along_nothing cs) h))
    by_form form.empty h = refl
    by_form (form.one_of _) h = refl
    by_form (form.other_than _) h = refl
    by_form (form.both _ _) h = refl
    by_form (form.either _ _) h = refl
    by_form (form.many _) h = refl

form_empty : (f : Form) → nullable f ≡ false → HasForm f [] → ⊥
form_empty f off h = clash (nullable f) (form_matches f [] h) off
  where
    clash : (x : Bool) → x ≡ true → x ≡ false → ⊥
    clash true e g = cc
    clash false e g = cc

form_opens : (f : Form) (w more : List ℕ) → nullable f ≡ false → each (λ b. not (begins f b)) (banned true) ≡ true → HasForm f w → opens true (w ++ more) ≡ true
form_opens f [] more some off h = absurd (form_empty f some h)
form_opens f (c ∷ cs) more some off h = from_false (is_listed (banned true) c) (unlisted (begins f) (banned true) c off (form_begins f c cs h))

pub integer_opens : (n more : List ℕ) → IsToken Integer n → opens true (chars n ++ more) ≡ true
unfolding lit.int_lit
integer_opens n more is = form_opens lit.int_lit (chars n) more refl refl is.1

pub rune_opens : (n more : List ℕ) → IsToken Rune n → opens true (chars n ++ more) ≡ true
unfolding lit.rune_lit
rune_opens n more is = form_opens lit.rune_lit (chars n) more refl refl is.1

pub string_opens : (n more : List ℕ) → IsToken Str n → opens true (chars n ++ more) ≡ true
unfolding lit.string_lit
string_opens n more is = form_opens lit.string_lit (chars n) more refl refl is.1

-- ---- types

pub type_opens : (t : TypeExpr U) (more : List ℕ) → FormedType t → opens true (letters_of (type_layout t) more) ≡ true
type_opens (named s None n) more f = name_opens n.name more f.1
type_opens (named s (Some p) n) more f = name_opens p.name (letters_of (a_token Operator (codes ".")) (letters_of (a_token Ident n.name) more)) f.0
type_opens (pointer s t) more f = refl
type_opens (slice_type s t) more f = refl
type_opens (map_type s k t) more f = refl
type_opens (struct_type s fs) more f = refl

pub literal_type : (t : TypeExpr U) → FormedLiteralType t → FormedType t
literal_type (named s p n) f = f
literal_type (pointer s t) f = absurd f
literal_type (slice_type s t) f = f
literal_type (map_type s k t) f = f
literal_type (struct_type s fs) f = f

pub operand_type : (t : TypeExpr U) → FormedTypeOperand t → FormedType t
operand_type (named s p n) f = absurd f
operand_type (pointer s t) f = absurd f
operand_type (slice_type s t) f = f
operand_type (map_type s k t) f = f
operand_type (struct_type s fs) f = f

pub names_open : (ns : List (NameAt U)) (more : List ℕ) → HasNames ns → FormedNames ns → opens true (letters_of (names_layout ns) more) ≡ true
names_open [] more some f = absurd some
names_open (n ∷ []) more some f = name_opens n.name more f.0
names_open (n ∷ m ∷ ns) more some f = name_opens n.name (letters_of (comma ⊕ names_layout (m ∷ ns)) more) f.0
  where
    comma : Layout
    comma = a_token Operator (codes ",") ⊕ gap

-- ---- expressions

-- no operator in front
abbrev pub is_led : Expr U → Bool
is_led (unary _ _ _) = false
is_led (binary _ _ _ _) = false
is_led _ = true

pub level_low : (o : BinOp) → level_of o ≤ 5
level_low Mul = omega arith
level_low Div = omega arith
level_low Rem = omega arith
level_low Shl = omega arith
level_low Shr = omega arith
level_low And = omega arith
level_low AndNot = omega arith
level_low Add = omega arith
level_low Sub = omega arith
level_low Or = omega arith
level_low Xor = omega arith
level_low Eq = omega arith
level_low Ne = omega arith
level_low Lt = omega arith
level_low Le = omega arith
level_low Gt = omega arith
level_low Ge = omega arith
level_low LogAnd = omega arith
level_low LogOr = omega arith

-- what stands bare before a dot, a bracket or a parenthesis
pub led_at : (e : Expr U) (h c : Bool) → needs_parens 7 h c e ≡ false → is_led e ≡ true
led_at (unary s o e) h c q = absurd cc
led_at (binary s o a b) h c q = let low = level_low o in let high = (needs_parts 7 h c (binary s o a b) q).0 in absurd (omega (arith, low, high))
led_at (ident _ _) h c q = refl
led_at (int_lit _ _) h c q = refl
led_at (rune_lit _ _) h c q = refl
led_at (str_lit _ _) h c q = refl
led_at (composite _ _ _) h c q = refl
led_at (selector _ _ _) h c q = refl
led_at (index _ _ _) h c q = refl
led_at (slice _ _ _ _) h c q = refl
led_at (call _ _ _ _) h c q = refl
led_at (func_lit _ _ _ _) h c q = refl
led_at (type_operand _ _) h c q = refl
led_at (star _ _) h c q = refl

pub within_opens : (p b : Bool) (a : Layout) (more : List ℕ) → (p ≡ false → opens b (letters_of a more) ≡ true) → opens b (letters_of (within p a) more) ≡ true
within_opens true true a more k = refl
within_opens true false a more k = refl
within_opens false b a more k = k refl

led : (e : Expr U) (t : List ℕ) → is_led e ≡ true → opens (is_led e) t ≡ true → opens true t ≡ true
led e t q h = subst (λ (b : Bool). opens b t ≡ true) q h

-- the operand of a dot, a bracket or a parenthesis
base_opens : (e : Expr U) (p : Bool) (i : List ℕ) (h c : Bool) (more : List ℕ) → (p ≡ false → needs_parens 7 h c e ≡ false) → ((i2 : List ℕ) (h2 c2 : Bool) (more2 : List ℕ) → opens (is_led e) (letters_of (expr_layout i2 h2 c2 e) more2) ≡ true)
    → opens true (letters_of (within p (expr_layout i (header_within p h) (closed_within p c) e)) more) ≡ true
base_opens e p i h c more q ih = within_opens p true (expr_layout i (header_within p h) (closed_within p c) e) more (λ x. led e (letters_of (expr_layout i (header_within p h) (closed_within p c) e) more) (led_at e h c (q x)) (ih i (header_within p h) (closed_within p c) more))

pub expr_opens : (e : Expr U) → FormedExpr e → (i : List ℕ) (h c : Bool) (more : List ℕ) → opens (is_led e) (letters_of (expr_layout i h c e) more) ≡ true
expr_opens (ident s n) f i h c more = name_opens n more f
expr_opens (int_lit s n) f i h c more = integer_opens n more f
expr_opens (rune_lit s n) f i h c more = rune_opens n more f
expr_opens (str_lit s n) f i h c more = string_opens n more f
expr_opens (composite s t es) f i h c more = type_opens t (letters_of (op (codes "{") ⊕ elems_layout i es ⊕ op (codes "}")) more) (literal_type t f.0)
expr_opens (selector s e n) f i h c more =
    base_opens e (needs_parens 7 h false e || is_integer e) i h false (letters_of (op (codes ".") ⊕ name_layout n) more) (λ x. (or_false (needs_parens 7 h false e) (is_integer e) x).0) (expr_opens e f.1)
expr_opens (index s e at) f i h c more = base_opens e (needs_parens 7 h false e) i h false _ (λ x. x) (expr_opens e f.1)
expr_opens (slice s e from to) f i h c more = base_opens e (needs_parens 7 h false e) i h false _ (λ x. x) (expr_opens e f.1)
expr_opens (call s e xs rest) f i h c more = base_opens e (needs_parens 7 h true e) i h true _ (λ x. x) (expr_opens e f.0)
expr_opens (func_lit s g sb body) f i h c more = refl
expr_opens (type_operand s t) f i h c more = type_opens t more (operand_type t f)
expr_opens (unary s Plus e) f i h c more = refl
expr_opens (unary s Minus e) f i h c more = refl
expr_opens (unary s Not e) f i h c more = refl
expr_opens (unary s Flip e) f i h c more = refl
expr_opens (unary s Address e) f i h c more = refl
expr_opens (binary s o a b) f i h c more =
    let p = needs_parens (level_of o) h false a in
    let x = expr_layout i (header_within p h) (closed_within p false) a in
    let rest = letters_of (spaced (binary_spelling o) ⊕ within (needs_parens (level_of o + 1) h c b) (expr_layout i (header_within (needs_parens (level_of o + 1) h c b) h) (closed_within (needs_parens (level_of o + 1) h c b) c) b)) more in
    within_opens p false x rest (λ q. opens_weak (is_led a) (letters_of x rest) (expr_opens a f.1 i (header_within p h) (closed_within p false) rest))
expr_opens (star s e) f i h c more = refl
