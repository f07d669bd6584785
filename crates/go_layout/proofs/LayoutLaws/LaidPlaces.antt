-- An operand in its place, an operator in front of its operand, and a body between braces.
use Rattle.std.proofs.Common.{◌≡◌, ℕ, Bool, true, false, not, ◌&&◌, ◌||◌, ◌==◌, List, [], ◌∷◌, ◌++◌, Option, Some, refl, arith}
use Rattle.std.specs.Prelude.{codes}
use Rattle.go_tree.specs.declared.operators.UnOp.{UnOp}
use Rattle.go_tree.specs.declared.operators.UnOp.TheVariants.{Plus, Minus, Not, Flip, Address}
use Rattle.go_tree.specs.declared.tokens.TokenKind.TheVariants.{Operator}
use Rattle.go_tree.specs.declared.exprs.Rest.{Rest}
use Rattle.go_tree.specs.declared.exprs.Rest.TheVariants.{Plain, Whole, Packed, Empty}
use Rattle.go_tree.specs.Tree.{Expr, Exprs, Stmts, ident, int_lit, rune_lit, str_lit, composite, selector, index, slice, call, func_lit, type_operand, unary, binary, star, no_stmts, stmt_and}
use Rattle.go_tree.specs.GoWords.Tokens.Characters.{each, is_listed}
use Rattle.go_scan.proofs.Derivatives.{and_parts, and_true}
use Rattle.go_layout.specs.Layouts.{Layout, within, op, deeper, ◌⊕◌}
use Rattle.go_tree.specs.GoWords.Operators.{unary_spelling}
use Rattle.go_layout.specs.Parens.{needs_parens, is_integer, runs_into, ends_in_integer, last_ends_in_integer, is_one_operator, header_within, closed_within}
use Rattle.go_layout.specs.TreeLayout.{gap_where, closes, rest_layout, exprs_layout, expr_layout, in_braces, stmts_layout, stmt_layout, stmt_end, gives_semicolon}
use Rattle.go_layout.specs.LayoutLaws.Formed.{FormedRest, FormedExpr, FormedStmts}
use Rattle.go_layout.specs.LayoutLaws.LayoutPieces.{letters_of}
use Rattle.go_layout.specs.LayoutLaws.Laid.{IsLaid, is_indent, Laid}
use Rattle.go_layout.proofs.LayoutLaws.SpelledTypes.{U}
use Rattle.go_layout.proofs.LayoutLaws.Places.{or_false, needs_parts}
use Rattle.go_layout.proofs.LayoutLaws.NextTokens.{no_blank_first}
use Rattle.go_layout.proofs.LayoutLaws.LaidTokens.{avoids, good_operator, leads_only, before_laid, paren_laid, end_paren_laid, brace_laid, end_brace_laid, gap_laid, ellipsis_laid, line_laid}
use Rattle.go_layout.proofs.LayoutLaws.Opens.{banned, opens, opens_no_blank, level_low, expr_opens}
use Rattle.go_layout.proofs.LayoutLaws.TreeOpens.{stmt_opens}
use Rattle.go_layout.proofs.LayoutLaws.LaidTypes.{ends_ok, ends_with, ends_with_dot}

-- the layout of an operand where nothing else asks for parentheses, and of a body
abbrev pub here : List ℕ → ℕ → Bool → Bool → Expr U → Layout
here i l h c e = within (needs_parens l h c e) (expr_layout i (header_within (needs_parens l h c e) h) (closed_within (needs_parens l h c e) c) e)

abbrev pub block : List ℕ → Stmts U → Layout
block i body = in_braces i body (stmts_layout (deeper i) (Some i) body)

-- what stands bare before a dot doesn't end in an integer
pub ends_apart : (e : Expr U) (h : Bool) → needs_parens 7 h false e || is_integer e ≡ false → ends_in_integer h false e ≡ false
ends_apart (int_lit s n) h q = absurd (nope (or_false (needs_parens 7 h false (int_lit s n)) true q).1)
  where
    nope : true ≡ false → ⊥
    nope e = cc
ends_apart (unary _ _ _) h q = absurd cc
ends_apart (binary s o a b) h q =
    let low = level_low o in let high = (needs_parts 7 h false (binary s o a b) (or_false (needs_parens 7 h false (binary s o a b)) false q).0).0 in absurd (omega (arith, low, high))
ends_apart (star _ _) h q = absurd cc
ends_apart (ident _ _) h q = refl
ends_apart (rune_lit _ _) h q = refl
ends_apart (str_lit _ _) h q = refl
ends_apart (composite _ _ _) h q = refl
ends_apart (selector _ _ _) h q = refl
ends_apart (index _ _ _) h q = refl
ends_apart (slice _ _ _ _) h q = refl
ends_apart (call _ _ _ _) h q = refl
ends_apart (func_lit _ _ _ _) h q = refl
ends_apart (type_operand _ _) h q = refl

-- nor does an operand that stands bare at the end of such an expression
pub bare_ends : (p b : Bool) → p ≡ false → not p && b ≡ false → b ≡ false
bare_ends true b q h = absurd cc
bare_ends false b q h = h

-- a dot may follow where the last token is no integer
abbrev pub LaidExpr : Expr U → Type 0
LaidExpr e = (i : List ℕ) → is_indent i ≡ true → (h c d dotted : Bool) (more : List ℕ) → (dotted ≡ true → ends_in_integer h c e ≡ false) → ends_ok dotted more ≡ true → Laid (expr_layout i h c e) d more

pub never : {X : Type 0} → false ≡ true → X
never e = absurd cc

pub placed_laid : (e : Expr U) (p : Bool) (i : List ℕ) (h c d dotted : Bool) (more : List ℕ) → is_indent i ≡ true → LaidExpr e → (p ≡ false → dotted ≡ true → ends_in_integer h c e ≡ false) → ends_ok dotted more ≡ true
    → Laid (within p (expr_layout i (header_within p h) (closed_within p c) e)) d more
placed_laid e true i h c d dotted more sp ih sel off =
    (paren_laid (letters_of (expr_layout i false true e) (41 ∷ more)), (ih i sp false true false false (41 ∷ more) (λ q. never q) (ends_with false 41 more refl), end_paren_laid more))
placed_laid e false i h c d dotted more sp ih sel off = ih i sp h c d dotted more (sel refl) off

-- no dot follows
pub here_laid : (e : Expr U) (p : Bool) (i : List ℕ) (h c d : Bool) (more : List ℕ) → is_indent i ≡ true → LaidExpr e → ends_ok false more ≡ true → Laid (within p (expr_layout i (header_within p h) (closed_within p c) e)) d more
here_laid e p i h c d more sp ih off = placed_laid e p i h c d false more sp ih (λ x q. never q) off

pub undotted : (dotted : Bool) (more : List ℕ) → (dotted ≡ true → true ≡ false) → ends_ok dotted more ≡ true → ends_ok false more ≡ true
undotted true more q h = absurd (nope (q refl))
  where
    nope : true ≡ false → ⊥
    nope e = cc
undotted false more q h = h

-- ---- the arguments of a call

whole_laid : (b : Bool) (a : Layout) (d : Bool) (more : List ℕ) → ((dotted : Bool) (m : List ℕ) → (dotted ≡ true → b ≡ false) → ends_ok dotted m ≡ true → Laid a d m) → Laid (a ⊕ (gap_where b ⊕ op (codes "...")) ⊕ op (codes ")")) d more
whole_laid true a d more k =
    let dots = letters_of (op (codes "...")) (41 ∷ more) in (k false (32 ∷ dots) (λ q. never q) (ends_with false 32 dots refl), ((gap_laid dots refl, ellipsis_laid (41 ∷ more)), end_paren_laid more))
whole_laid false a d more k = (k true (letters_of (op (codes "...")) (41 ∷ more)) (λ q. refl) (ends_with_dot (46 ∷ 46 ∷ 41 ∷ more)), ((tt, ellipsis_laid (41 ∷ more)), end_paren_laid more))

pub args_laid : (rest : Rest) (xs : Exprs U) (i : List ℕ) (d : Bool) (more : List ℕ) → FormedRest rest xs
    → ((dotted : Bool) (m : List ℕ) → (dotted ≡ true → last_ends_in_integer false (closes rest) xs ≡ false) → ends_ok dotted m ≡ true → Laid (exprs_layout i false (closes rest) xs) d m)
    → Laid (exprs_layout i false (closes rest) xs ⊕ rest_layout rest xs ⊕ op (codes ")")) d more
args_laid Plain xs i d more f k = (k false (41 ∷ more) (λ q. never q) (ends_with false 41 more refl), (tt, end_paren_laid more))
args_laid Whole xs i d more f k = whole_laid (last_ends_in_integer false false xs) (exprs_layout i false false xs) d more k
args_laid Packed xs i d more f k = absurd f
args_laid Empty xs i d more f k = absurd f

-- ---- an operator in front

abbrev unary_extends : UnOp → List ℕ
unary_extends Plus = codes "+="
unary_extends Minus = codes "-="
unary_extends Not = codes "="
unary_extends Flip = codes "="
unary_extends Address = codes "&^="

unary_laid : (o : UnOp) (more : List ℕ) → avoids (unary_extends o) more ≡ true → IsLaid Operator (unary_spelling o) more
unfolding good_operator leads_only
unary_laid Plus more off = before_laid (codes "+") (codes "+=") more refl refl refl off
unary_laid Minus more off = before_laid (codes "-") (codes "-=") more refl refl refl off
unary_laid Not more off = before_laid (codes "!") (codes "=") more refl refl refl off
unary_laid Flip more off = before_laid (codes "^") (codes "=") more refl refl refl off
unary_laid Address more off = before_laid (codes "&") (codes "&^=") more refl refl refl off

not_true : (b : Bool) → not b ≡ true → b ≡ false
not_true true h = absurd cc
not_true false h = refl

-- what begins with none of the signs extends no operator in front
opens_apart : (o : UnOp) (t : List ℕ) → opens true t ≡ true → avoids (unary_extends o) t ≡ true
opens_apart o [] h = absurd cc
opens_apart o (c ∷ cs) h =
    let a0 = or_false (c == 32) (is_listed (9 ∷ 13 ∷ 10 ∷ 61 ∷ 43 ∷ 45 ∷ 38 ∷ 94 ∷ 33 ∷ []) c) (not_true (is_listed (banned true) c) h) in
    let a1 = or_false (c == 9) (is_listed (13 ∷ 10 ∷ 61 ∷ 43 ∷ 45 ∷ 38 ∷ 94 ∷ 33 ∷ []) c) a0.1 in
    let a2 = or_false (c == 13) (is_listed (10 ∷ 61 ∷ 43 ∷ 45 ∷ 38 ∷ 94 ∷ 33 ∷ []) c) a1.1 in
    let a3 = or_false (c == 10) (is_listed (61 ∷ 43 ∷ 45 ∷ 38 ∷ 94 ∷ 33 ∷ []) c) a2.1 in
    let equals = or_false (c == 61) (is_listed (43 ∷ 45 ∷ 38 ∷ 94 ∷ 33 ∷ []) c) a3.1 in
    let plus = or_false (c == 43) (is_listed (45 ∷ 38 ∷ 94 ∷ 33 ∷ []) c) equals.1 in
    let minus = or_false (c == 45) (is_listed (38 ∷ 94 ∷ 33 ∷ []) c) plus.1 in
    let ampersand = or_false (c == 38) (is_listed (94 ∷ 33 ∷ []) c) minus.1 in
    let caret = or_false (c == 94) (is_listed (33 ∷ []) c) ampersand.1 in
    by_sign o equals.0 plus.0 minus.0 ampersand.0 caret.0
  where
    unequal : (x y : Bool) → x ≡ false → y ≡ false → not (x || (y || false)) ≡ true
    unequal false false p q = refl
    unequal false true p q = absurd cc
    unequal true y p q = absurd cc

    single : (x : Bool) → x ≡ false → not (x || false) ≡ true
    single false p = refl
    single true p = absurd cc

    three : (x y z : Bool) → x ≡ false → y ≡ false → z ≡ false → not (x || (y || (z || false))) ≡ true
    three false false false p q r = refl
    three false false true p q r = absurd cc
    three false true z p q r = absurd cc
    three true y z p q r = absurd cc

    by_sign : (o : UnOp) → c == 61 ≡ false → c == 43 ≡ false → c == 45 ≡ false → c == 38 ≡ false → c == 94 ≡ false → avoids (unary_extends o) (c ∷ cs) ≡ true
    by_sign Plus e p m a x = unequal (c == 43) (c == 61) p e
    by_sign Minus e p m a x = unequal (c == 45) (c == 61) m e
    by_sign Not e p m a x = single (c == 61) e
    by_sign Flip e p m a x = single (c == 61) e
    by_sign Address e p m a x = three (c == 38) (c == 94) (c == 61) a x e

-- two operators that aren't one
pair_apart : (o inner : UnOp) (t : List ℕ) → is_one_operator o inner ≡ false → avoids (unary_extends o) (unary_spelling inner ++ t) ≡ true
pair_apart Plus Plus t q = absurd cc
pair_apart Plus Minus t q = refl
pair_apart Plus Not t q = refl
pair_apart Plus Flip t q = refl
pair_apart Plus Address t q = refl
pair_apart Minus Plus t q = refl
pair_apart Minus Minus t q = absurd cc
pair_apart Minus Not t q = refl
pair_apart Minus Flip t q = refl
pair_apart Minus Address t q = refl
pair_apart Not Plus t q = refl
pair_apart Not Minus t q = refl
pair_apart Not Not t q = refl
pair_apart Not Flip t q = refl
pair_apart Not Address t q = refl
pair_apart Flip Plus t q = refl
pair_apart Flip Minus t q = refl
pair_apart Flip Not t q = refl
pair_apart Flip Flip t q = refl
pair_apart Flip Address t q = refl
pair_apart Address Plus t q = refl
pair_apart Address Minus t q = refl
pair_apart Address Not t q = refl
pair_apart Address Flip t q = absurd cc
pair_apart Address Address t q = absurd cc

-- an operand that stands bare after the operator
bare_apart : (o : UnOp) (e : Expr U) (i : List ℕ) (h c : Bool) (more : List ℕ) → FormedExpr e → needs_parens 6 h c e ≡ false → runs_into o e ≡ false → avoids (unary_extends o) (letters_of (expr_layout i h c e) more) ≡ true
bare_apart o (unary s inner e) i h c more f q r = pair_apart o inner (letters_of (within (needs_parens 6 h c e || runs_into inner e) (expr_layout i (header_within (needs_parens 6 h c e || runs_into inner e) h) (closed_within (needs_parens 6 h c e || runs_into inner e) c) e)) more) r
bare_apart o (binary s op a b) i h c more f q r = let low = level_low op in let high = (needs_parts 6 h c (binary s op a b) q).0 in absurd (omega (arith, low, high))
bare_apart o (ident s n) i h c more f q r = opens_apart o (letters_of (expr_layout i h c (ident s n)) more) (expr_opens (ident s n) f i h c more)
bare_apart o (int_lit s n) i h c more f q r = opens_apart o (letters_of (expr_layout i h c (int_lit s n)) more) (expr_opens (int_lit s n) f i h c more)
bare_apart o (rune_lit s n) i h c more f q r = opens_apart o (letters_of (expr_layout i h c (rune_lit s n)) more) (expr_opens (rune_lit s n) f i h c more)
bare_apart o (str_lit s n) i h c more f q r = opens_apart o (letters_of (expr_layout i h c (str_lit s n)) more) (expr_opens (str_lit s n) f i h c more)
bare_apart o (composite s t es) i h c more f q r = opens_apart o (letters_of (expr_layout i h c (composite s t es)) more) (expr_opens (composite s t es) f i h c more)
bare_apart o (selector s e n) i h c more f q r = opens_apart o (letters_of (expr_layout i h c (selector s e n)) more) (expr_opens (selector s e n) f i h c more)
bare_apart o (index s e at) i h c more f q r = opens_apart o (letters_of (expr_layout i h c (index s e at)) more) (expr_opens (index s e at) f i h c more)
bare_apart o (slice s e from to) i h c more f q r = opens_apart o (letters_of (expr_layout i h c (slice s e from to)) more) (expr_opens (slice s e from to) f i h c more)
bare_apart o (call s e xs rest) i h c more f q r = opens_apart o (letters_of (expr_layout i h c (call s e xs rest)) more) (expr_opens (call s e xs rest) f i h c more)
bare_apart o (func_lit s g sb body) i h c more f q r = opens_apart o (letters_of (expr_layout i h c (func_lit s g sb body)) more) (expr_opens (func_lit s g sb body) f i h c more)
bare_apart o (type_operand s t) i h c more f q r = opens_apart o (letters_of (expr_layout i h c (type_operand s t)) more) (expr_opens (type_operand s t) f i h c more)
bare_apart o (star s e) i h c more f q r = opens_apart o (letters_of (expr_layout i h c (star s e)) more) (expr_opens (star s e) f i h c more)

paren_apart : (o : UnOp) (t : List ℕ) → avoids (unary_extends o) (40 ∷ t) ≡ true
paren_apart Plus t = refl
paren_apart Minus t = refl
paren_apart Not t = refl
paren_apart Flip t = refl
paren_apart Address t = refl

placed_apart : (o : UnOp) (e : Expr U) (p : Bool) (i : List ℕ) (h c : Bool) (more : List ℕ) → FormedExpr e → (p ≡ false → needs_parens 6 h c e ≡ false) → (p ≡ false → runs_into o e ≡ false)
    → avoids (unary_extends o) (letters_of (within p (expr_layout i (header_within p h) (closed_within p c) e)) more) ≡ true
placed_apart o e true i h c more f q r = paren_apart o (letters_of (expr_layout i false true e) (41 ∷ more))
placed_apart o e false i h c more f q r = bare_apart o e i h c more f (q refl) (r refl)

pub sign_laid : (o : UnOp) (e : Expr U) (i : List ℕ) (h c : Bool) (more : List ℕ) → FormedExpr e
    → IsLaid Operator (unary_spelling o) (letters_of (within (needs_parens 6 h c e || runs_into o e) (expr_layout i (header_within (needs_parens 6 h c e || runs_into o e) h) (closed_within (needs_parens 6 h c e || runs_into o e) c) e)) more)
sign_laid o e i h c more f =
    let p = needs_parens 6 h c e || runs_into o e in
    unary_laid o (letters_of (within p (expr_layout i (header_within p h) (closed_within p c) e)) more)
    (placed_apart o e p i h c more f (λ x. (or_false (needs_parens 6 h c e) (runs_into o e) x).0) (λ x. (or_false (needs_parens 6 h c e) (runs_into o e) x).1))

-- ---- bodies

each_on : (p : ℕ → Bool) (cs ds : List ℕ) → each p cs ≡ true → each p ds ≡ true → each p (cs ++ ds) ≡ true
each_on p [] ds h k = k
each_on p (c ∷ cs) ds h k = let q = and_parts (p c) (each p cs) h in and_true (p c) (each p (cs ++ ds)) q.0 (each_on p cs ds q.1 k)

pub deeper_spaces : (i : List ℕ) → is_indent i ≡ true → is_indent (deeper i) ≡ true
deeper_spaces i sp = each_on (λ c. c == 32 || c == 9) i (9 ∷ []) sp refl

pub stmts_start : (x : _) (xs : Stmts U) (i : List ℕ) (end : Option (List ℕ)) (more : List ℕ) → FormedStmts (stmt_and x xs) → no_blank_first (letters_of (stmts_layout i end (stmt_and x xs)) more) ≡ true
stmts_start x xs i end more f =
    let rest = letters_of (stmt_end i end (gives_semicolon x) xs ⊕ stmts_layout i end xs) more in
    opens_no_blank false (letters_of (stmt_layout i false x) rest) (stmt_opens x i false rest f.0)

pub block_laid : (i : List ℕ) (body : Stmts U) (more : List ℕ) (d : Bool) → is_indent i ≡ true → FormedStmts body
    → ((i2 o : List ℕ) (d2 : Bool) (more2 : List ℕ) → is_indent i2 ≡ true → is_indent o ≡ true → no_blank_first more2 ≡ true → Laid (stmts_layout i2 (Some o) body) d2 more2)
    → Laid (in_braces i body (stmts_layout (deeper i) (Some i) body)) d more
block_laid i no_stmts more d sp f ih = (brace_laid (125 ∷ more), (tt, (tt, end_brace_laid more)))
block_laid i (stmt_and x xs) more d sp f ih =
    let inside = letters_of (stmts_layout (deeper i) (Some i) (stmt_and x xs)) (125 ∷ more) in (
      brace_laid (10 ∷ (deeper i ++ inside)),
      (
        (refl, line_laid (deeper i) inside (deeper_spaces i sp) (stmts_start x xs (deeper i) (Some i) (125 ∷ more) f)),
        (ih (deeper i) i false (125 ∷ more) (deeper_spaces i sp) sp refl, end_brace_laid more),
      ),
    )
