-- The text of a type and of a signature is cut into the pieces of its layout.
use Rattle.std.proofs.Common.{◌≡◌, ℕ, Bool, true, false, not, ◌&&◌, ◌||◌, nat_eq, ◌==◌, List, [], ◌∷◌, ◌++◌, Option, Some, None, inl, inr, refl, sym, subst, arith}
use Rattle.std.specs.Prelude.{codes}
use Rattle.std.specs.Str.{chars}
use Rattle.std.proofs.lemmas.Bool.Decides.{nat_tests}
use Rattle.ucd_category.specs.GeneralCategory.{general_category}
use Rattle.ucd_category.specs.GeneralCategoryRows.{general_category_rows}
use Rattle.ucd_table.specs.Rows.{value_in}
use Rattle.go_tree.specs.declared.operators.BinOp.{BinOp}
use Rattle.go_tree.specs.declared.operators.BinOp.TheVariants.{Mul, Div, Rem, Shl, Shr, And, AndNot, Add, Sub, Or, Xor, Eq, Ne, Lt, Le, Gt, Ge, LogAnd, LogOr}
use Rattle.go_tree.specs.declared.tokens.TokenKind.TheVariants.{Operator}
use Rattle.go_tree.specs.Tree.{NameAt, TypeExpr, Fields, Param, Sig, named, pointer, slice_type, map_type, struct_type, no_fields, field}
use Rattle.go_tree.specs.GoWords.Tokens.Characters.{is_letter, is_digit, is_word, each, is_listed}
use Rattle.go_tree.specs.GoWords.Tokens.Pieces.{token, no_word_first, may_precede}
use Rattle.go_scan.specs.Automaton.{next_of}
use Rattle.go_scan.proofs.Derivatives.{and_parts, and_true}
use Rattle.go_layout.specs.Layouts.{gap, ◌⊕◌}
use Rattle.go_tree.specs.GoWords.Operators.{binary_spelling, assign_spelling}
use Rattle.go_layout.specs.TypeLayout.{comma_before, names_layout, type_layout, fields_layout, field_end, dots_where, param_name_layout, param_list_layout, params_layout, results_layout, sig_layout}
use Rattle.go_layout.specs.TreeLayout.{spaced}
use Rattle.go_layout.specs.LayoutLaws.Formed.{is_assign, IsNamed, IsUnnamed, FormedName, FormedNames, FormedType, FormedFields, FormedNamed, FormedUnnamed, FormedParams, FormedSig}
use Rattle.go_layout.specs.LayoutLaws.LayoutPieces.{letters_of}
use Rattle.go_layout.specs.LayoutLaws.Laid.{Laid}
use Rattle.go_layout.proofs.LayoutLaws.SpelledTypes.{U}
use Rattle.go_layout.proofs.LayoutLaws.NextTokens.{no_blank_first}
use Rattle.go_layout.proofs.LayoutLaws.LaidTokens.{avoids, good_operator, good_keyword, good_before_gap, gap_after, name_laid, keyword_laid, gap_laid, paren_laid, end_paren_laid, bracket_laid, end_bracket_laid, brace_laid, end_brace_laid, comma_laid, semicolon_laid, ellipsis_laid, dot_laid, star_laid}
use Rattle.go_layout.proofs.LayoutLaws.Opens.{opens_no_blank, opens_no_equals, name_opens, name_after_dot, type_opens, names_open}
use Rattle.go_layout.proofs.LayoutLaws.TreeOpens.{param_opens}

-- ---- what may follow a word

-- no letter, digit or dot
abbrev pub follows_word : List ℕ
follows_word = codes " \n)]},:;([{+-"

same_number : (a b : ℕ) → nat_eq a b ≡ true → a ≡ b
same_number a b e = grind (arith, nat_tests, e)

listed_passes : (p : ℕ → Bool) (cs : List ℕ) (c : ℕ) → each p cs ≡ true → is_listed cs c ≡ true → p c ≡ true
listed_passes p [] c all h = absurd cc
listed_passes p (b ∷ bs) c all h = let q = and_parts (p b) (each p bs) all in by_first (c == b) refl q.0 h (λ k. listed_passes p bs c q.1 k)
  where
    by_first : (x : Bool) → (c == b) ≡ x → p b ≡ true → x || is_listed bs c ≡ true → (is_listed bs c ≡ true → p c ≡ true) → p c ≡ true
    by_first true e pb h k = subst (λ (n : ℕ). p n ≡ true) (sym (same_number c b e)) pb
    by_first false e pb h k = k h

abbrev no_word : ℕ → Bool
no_word c = not (is_word c) && not (c == 46)

follows_checked : each no_word follows_word ≡ true
unfolding is_letter is_digit general_category general_category_rows value_in
follows_checked = refl

dot_checked : not (is_word 46) ≡ true
unfolding is_letter is_digit general_category general_category_rows value_in
dot_checked = refl

-- What may follow the last token of an operand, which is a name, a literal or a closing bracket. A dot may follow where
-- the token is no integer.
abbrev pub ends_ok : Bool → List ℕ → Bool
ends_ok dotted [] = true
ends_ok dotted (c ∷ cs) = not (is_word c) && (dotted || not (c == 46))

pub ends_with : (dotted : Bool) (c : ℕ) (cs : List ℕ) → is_listed follows_word c ≡ true → ends_ok dotted (c ∷ cs) ≡ true
ends_with dotted c cs h =
    let p = and_parts (not (is_word c)) (not (c == 46)) (listed_passes no_word follows_word c follows_checked h) in
    and_true (not (is_word c)) (dotted || not (c == 46)) p.0 (either_way dotted (not (c == 46)) p.1)
  where
    either_way : (a b : Bool) → b ≡ true → a || b ≡ true
    either_way true b q = refl
    either_way false b q = q

pub ends_with_dot : (cs : List ℕ) → ends_ok true (46 ∷ cs) ≡ true
ends_with_dot cs = and_true (not (is_word 46)) true dot_checked refl

pub word_stop : (c : ℕ) (cs : List ℕ) → is_listed follows_word c ≡ true → no_word_first (c ∷ cs) ≡ true
word_stop c cs h = (and_parts (not (is_word c)) (not (c == 46)) (listed_passes no_word follows_word c follows_checked h)).0

pub ends_word : (dotted : Bool) (more : List ℕ) → ends_ok dotted more ≡ true → no_word_first more ≡ true
ends_word dotted [] h = refl
ends_word dotted (c ∷ cs) h = (and_parts (not (is_word c)) (dotted || not (c == 46)) h).0

pub ends_no_dot : (more : List ℕ) → ends_ok false more ≡ true → avoids (codes ".") more ≡ true
ends_no_dot [] h = refl
ends_no_dot (c ∷ cs) h = plain (c == 46) (and_parts (not (is_word c)) (not (c == 46)) h).1
  where
    plain : (b : Bool) → not b ≡ true → not (b || false) ≡ true
    plain true q = absurd cc
    plain false q = refl

pub ends_any : (dotted : Bool) (more : List ℕ) → ends_ok false more ≡ true → ends_ok dotted more ≡ true
ends_any true [] h = refl
ends_any true (c ∷ cs) h = and_true (not (is_word c)) true (and_parts (not (is_word c)) (not (c == 46)) h).0 refl
ends_any false more h = h

-- ---- keywords

pub key_map : good_keyword (codes "map") ≡ true
unfolding good_keyword
key_map = refl

pub key_struct : good_keyword (codes "struct") ≡ true
unfolding good_keyword
key_struct = refl

-- ---- operators between gaps

pub spaced_laid : (w rest : List ℕ) (d : Bool) → good_before_gap w ≡ true → may_precede (token Operator) w (32 ∷ rest) ≡ true → no_blank_first (w ++ 32 ∷ rest) ≡ true → no_blank_first rest ≡ true → Laid (spaced w) d rest
spaced_laid w rest d good follows first off = (gap_laid (w ++ 32 ∷ rest) first, (gap_after w rest good follows, gap_laid rest off))

pub binary_spaced : (o : BinOp) (rest : List ℕ) (d : Bool) → no_blank_first rest ≡ true → Laid (spaced (binary_spelling o)) d rest
unfolding good_operator next_of
binary_spaced Mul rest d off = spaced_laid (codes "*") rest d refl refl refl off
binary_spaced Div rest d off = spaced_laid (codes "/") rest d refl refl refl off
binary_spaced Rem rest d off = spaced_laid (codes "%") rest d refl refl refl off
binary_spaced Shl rest d off = spaced_laid (codes "<<") rest d refl refl refl off
binary_spaced Shr rest d off = spaced_laid (codes ">>") rest d refl refl refl off
binary_spaced And rest d off = spaced_laid (codes "&") rest d refl refl refl off
binary_spaced AndNot rest d off = spaced_laid (codes "&^") rest d refl refl refl off
binary_spaced Add rest d off = spaced_laid (codes "+") rest d refl refl refl off
binary_spaced Sub rest d off = spaced_laid (codes "-") rest d refl refl refl off
binary_spaced Or rest d off = spaced_laid (codes "|") rest d refl refl refl off
binary_spaced Xor rest d off = spaced_laid (codes "^") rest d refl refl refl off
binary_spaced Eq rest d off = spaced_laid (codes "==") rest d refl refl refl off
binary_spaced Ne rest d off = spaced_laid (codes "!=") rest d refl refl refl off
binary_spaced Lt rest d off = spaced_laid (codes "<") rest d refl refl refl off
binary_spaced Le rest d off = spaced_laid (codes "<=") rest d refl refl refl off
binary_spaced Gt rest d off = spaced_laid (codes ">") rest d refl refl refl off
binary_spaced Ge rest d off = spaced_laid (codes ">=") rest d refl refl refl off
binary_spaced LogAnd rest d off = spaced_laid (codes "&&") rest d refl refl refl off
binary_spaced LogOr rest d off = spaced_laid (codes "||") rest d refl refl refl off

pub assign_spaced : (o : Option BinOp) (rest : List ℕ) (d : Bool) → is_assign o ≡ true → no_blank_first rest ≡ true → Laid (spaced (assign_spelling o)) d rest
unfolding good_operator next_of
assign_spaced None rest d q off = spaced_laid (codes "=") rest d refl refl refl off
assign_spaced (Some Mul) rest d q off = spaced_laid (codes "*=") rest d refl refl refl off
assign_spaced (Some Div) rest d q off = spaced_laid (codes "/=") rest d refl refl refl off
assign_spaced (Some Rem) rest d q off = spaced_laid (codes "%=") rest d refl refl refl off
assign_spaced (Some Shl) rest d q off = spaced_laid (codes "<<=") rest d refl refl refl off
assign_spaced (Some Shr) rest d q off = spaced_laid (codes ">>=") rest d refl refl refl off
assign_spaced (Some And) rest d q off = spaced_laid (codes "&=") rest d refl refl refl off
assign_spaced (Some AndNot) rest d q off = spaced_laid (codes "&^=") rest d refl refl refl off
assign_spaced (Some Add) rest d q off = spaced_laid (codes "+=") rest d refl refl refl off
assign_spaced (Some Sub) rest d q off = spaced_laid (codes "-=") rest d refl refl refl off
assign_spaced (Some Or) rest d q off = spaced_laid (codes "|=") rest d refl refl refl off
assign_spaced (Some Xor) rest d q off = spaced_laid (codes "^=") rest d refl refl refl off
assign_spaced (Some Eq) rest d q off = absurd cc
assign_spaced (Some Ne) rest d q off = absurd cc
assign_spaced (Some Lt) rest d q off = absurd cc
assign_spaced (Some Le) rest d q off = absurd cc
assign_spaced (Some Gt) rest d q off = absurd cc
assign_spaced (Some Ge) rest d q off = absurd cc
assign_spaced (Some LogAnd) rest d q off = absurd cc
assign_spaced (Some LogOr) rest d q off = absurd cc

pub define_spaced : (rest : List ℕ) (d : Bool) → no_blank_first rest ≡ true → Laid (spaced (codes ":=")) d rest
unfolding good_operator next_of
define_spaced rest d off = spaced_laid (codes ":=") rest d refl refl refl off

-- ---- names

pub names_laid : (ns : List (NameAt U)) (more : List ℕ) (d : Bool) → FormedNames ns → no_word_first more ≡ true → Laid (names_layout ns) d more
names_laid [] more d f off = tt
names_laid (n ∷ []) more d f off = (name_laid n.name more f.0 off, (tt, tt))
names_laid (n ∷ m ∷ ns) more d f off =
    let rest = letters_of (names_layout (m ∷ ns)) more in (
      name_laid n.name (44 ∷ 32 ∷ rest) f.0 (word_stop 44 (32 ∷ rest) refl),
      ((comma_laid (32 ∷ rest), gap_laid rest (opens_no_blank true rest (names_open (m ∷ ns) more tt f.1))), names_laid (m ∷ ns) more false f.1 off),
    )

-- ---- types

mutual
  pub type_laid : (t : TypeExpr U) (more : List ℕ) (d : Bool) → FormedType t → no_word_first more ≡ true → Laid (type_layout t) d more
  type_laid (named s None n) more d f off = (tt, name_laid n.name more f.1 off)
  type_laid (named s (Some p) n) more d f off =
      let rest = chars n.name ++ more in
      ((name_laid p.name (46 ∷ rest) f.0 dot_checked, dot_laid rest (name_after_dot n.name more f.1)), name_laid n.name more f.1 off)
  type_laid (pointer s t) more d f off = (star_laid (letters_of (type_layout t) more) (opens_no_equals true (letters_of (type_layout t) more) (type_opens t more f)), type_laid t more false f off)
  type_laid (slice_type s t) more d f off = (bracket_laid (93 ∷ letters_of (type_layout t) more), (end_bracket_laid (letters_of (type_layout t) more), type_laid t more true f off))
  type_laid (map_type s k t) more d f off =
      let rest = letters_of (type_layout t) more in
      let inside = letters_of (type_layout k) (93 ∷ rest) in
      (keyword_laid (codes "map") (91 ∷ inside) key_map (word_stop 91 inside refl), (bracket_laid inside, (type_laid k (93 ∷ rest) false f.0 (word_stop 93 rest refl), (end_bracket_laid rest, type_laid t more true f.1 off))))
  type_laid (struct_type s fs) more d f off =
      let inside = letters_of (fields_layout fs) (125 ∷ more) in
      (keyword_laid (codes "struct") (123 ∷ inside) key_struct (word_stop 123 inside refl), (brace_laid inside, (fields_laid fs (125 ∷ more) false f (word_stop 125 more refl), end_brace_laid more)))

  fields_laid : (fs : Fields U) (more : List ℕ) (d : Bool) → FormedFields fs → no_word_first more ≡ true → Laid (fields_layout fs) d more
  fields_laid no_fields more d f off = tt
  fields_laid (field s n t no_fields) more d f off =
      let rest = letters_of (type_layout t) more in
      (name_laid n.name (32 ∷ rest) f.0 (word_stop 32 rest refl), (gap_laid rest (opens_no_blank true rest (type_opens t more f.1)), (type_laid t more true f.1 off, (tt, tt))))
  fields_laid (field s n t (field s2 n2 t2 fs)) more d f off =
      let others = letters_of (fields_layout (field s2 n2 t2 fs)) more in
      let rest = letters_of (type_layout t) (59 ∷ 32 ∷ others) in (
        name_laid n.name (32 ∷ rest) f.0 (word_stop 32 rest refl),
        (
          gap_laid rest (opens_no_blank true rest (type_opens t (59 ∷ 32 ∷ others) f.1)),
          (
            type_laid t (59 ∷ 32 ∷ others) true f.1 (word_stop 59 (32 ∷ others) refl),
            ((semicolon_laid (32 ∷ others), gap_laid others (opens_no_blank true others (name_opens n2.name (letters_of (gap ⊕ type_layout t2 ⊕ field_end fs ⊕ fields_layout fs) more) f.2.0))), fields_laid (field s2 n2 t2 fs) more false f.2 off),
          ),
        ),
      )

-- ---- signatures

abbrev FormedParam : Param U → Type 0
FormedParam p = FormedName p.name × FormedType p.of

abbrev EachParam : List (Param U) → Type 0
EachParam [] = Unit {0}
EachParam (p ∷ ps) = FormedParam p × EachParam ps

from_named : (o : Option (NameAt U)) → IsNamed o → FormedName o
from_named None n = tt
from_named (Some n) is = is

from_unnamed : (o : Option (NameAt U)) → IsUnnamed o → FormedName o
from_unnamed None n = tt
from_unnamed (Some n) is = absurd is

each_named : (v : Bool) (ps : List (Param U)) → FormedNamed v ps → EachParam ps
each_named v [] f = tt
each_named v (p ∷ ps) f = ((from_named p.name f.0, f.1), each_named v ps f.2)

each_unnamed : (v : Bool) (ps : List (Param U)) → FormedUnnamed v ps → EachParam ps
each_unnamed v [] f = tt
each_unnamed v (p ∷ ps) f = ((from_unnamed p.name f.0, f.1), each_unnamed v ps f.2)

each_param : (v : Bool) (ps : List (Param U)) → FormedParams v ps → EachParam ps
each_param v ps (inl f) = each_named v ps f
each_param v ps (inr f) = each_unnamed v ps f

param_name_laid : (o : Option (NameAt U)) (rest : List ℕ) (d : Bool) → FormedName o → no_blank_first rest ≡ true → Laid (param_name_layout o) d rest
param_name_laid None rest d n off = tt
param_name_laid (Some n) rest d is off = (name_laid n.name (32 ∷ rest) is (word_stop 32 rest refl), gap_laid rest off)

param_laid : (o : Option (NameAt U)) (b : Bool) (t : TypeExpr U) (more : List ℕ) (d : Bool) → FormedName o → FormedType t → no_word_first more ≡ true → Laid (param_name_layout o ⊕ dots_where b ⊕ type_layout t) d more
param_laid o true t more d n f off =
    let rest = letters_of (type_layout t) more in (param_name_laid o (46 ∷ 46 ∷ 46 ∷ rest) d n refl, (ellipsis_laid rest, type_laid t more _ f off))
param_laid o false t more d n f off =
    let rest = letters_of (type_layout t) more in (param_name_laid o rest d n (opens_no_blank true rest (type_opens t more f)), (tt, type_laid t more _ f off))

param_list_laid : (ps : List (Param U)) (more : List ℕ) (d : Bool) → EachParam ps → no_word_first more ≡ true → Laid (param_list_layout ps) d more
param_list_laid [] more d f off = tt
param_list_laid (p ∷ []) more d f off = (param_laid p.name p.rest p.of more d f.0.0 f.0.1 off, (tt, tt))
param_list_laid (p ∷ q ∷ ps) more d f off =
    let others = letters_of (param_list_layout (q ∷ ps)) more in (
      param_laid p.name p.rest p.of (44 ∷ 32 ∷ others) d f.0.0 f.0.1 (word_stop 44 (32 ∷ others) refl),
      (
        (comma_laid (32 ∷ others), gap_laid others (opens_no_blank true others (param_opens q.name q.rest q.of (letters_of (comma_before ps ⊕ param_list_layout ps) more) f.1.0.0 f.1.0.1))),
        param_list_laid (q ∷ ps) more false f.1 off,
      ),
    )

params_laid : (v : Bool) (ps : List (Param U)) (more : List ℕ) (d : Bool) → FormedParams v ps → Laid (params_layout ps) d more
params_laid v ps more d f =
    (paren_laid (letters_of (param_list_layout ps) (41 ∷ more)), (param_list_laid ps (41 ∷ more) false (each_param v ps f) (word_stop 41 more refl), end_paren_laid more))

one_result_laid : (o : Option (NameAt U)) (b : Bool) (t : TypeExpr U) (more : List ℕ) (d : Bool) → FormedParams false (record { span = tt; name = o; rest = b; of = t } ∷ []) → no_word_first more ≡ true → Laid (results_layout (record { span = tt; name = o; rest = b; of = t } ∷ [])) d more
one_result_laid None b t more d f off =
    let rest = letters_of (type_layout t) more in let is = (each_param false (record { span = tt; name = None; rest = b; of = t } ∷ []) f).0.1 in
    (gap_laid rest (opens_no_blank true rest (type_opens t more is)), type_laid t more d is off)
one_result_laid (Some n) b t more d f off =
    let ps : List (Param U) = record { span = tt; name = Some n; rest = b; of = t } ∷ [] in (gap_laid (letters_of (params_layout ps) more) refl, params_laid false ps more d f)

results_laid : (ps : List (Param U)) (more : List ℕ) (d : Bool) → FormedParams false ps → no_word_first more ≡ true → Laid (results_layout ps) d more
results_laid [] more d f off = tt
results_laid (p ∷ []) more d f off = one_result_laid p.name p.rest p.of more d f off
results_laid (p ∷ q ∷ ps) more d f off = (gap_laid (letters_of (params_layout (p ∷ q ∷ ps)) more) refl, params_laid false (p ∷ q ∷ ps) more d f)

pub sig_laid : (v : Bool) (g : Sig U) (more : List ℕ) (d : Bool) → FormedSig v g → no_word_first more ≡ true → Laid (sig_layout g) d more
sig_laid v g more d f off = (params_laid v g.params (letters_of (results_layout g.results) more) d f.0, results_laid g.results more true f.1 off)
