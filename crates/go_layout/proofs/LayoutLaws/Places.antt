-- An expression in its place: its parentheses, and what the tests on the tree say.
use Rattle.std.proofs.Common.{◌≡◌, ℕ, ◌≤◌, Bool, true, false, ◌||◌, ◌&&◌, not, nat_lt, List, refl, arith}
use Rattle.std.proofs.lemmas.Bool.Decides.{nat_tests}
use Rattle.go_tree.specs.declared.operators.BinOp.{BinOp}
use Rattle.go_tree.specs.declared.operators.BinOp.TheVariants.{Mul, Div, Rem, Shl, Shr, And, AndNot, Add, Sub, Or, Xor, Eq, Ne, Lt, Le, Gt, Ge, LogAnd, LogOr}
use Rattle.go_tree.specs.Tree.{named, pointer, slice_type, map_type, struct_type, Expr, ident, int_lit, rune_lit, str_lit, composite, selector, index, slice, call, func_lit, type_operand, unary, binary, star}
use Rattle.go_tree.specs.GoWords.Terminals.{level_of}
use Rattle.go_read.specs.SpellsTypes.{Lexemes}
use Rattle.go_read.specs.Spells.{follows_type, SpellsBare, SpellsExpr, bare_rule, parens_rule}
use Rattle.go_read.specs.Bareness.{nowhere}
use Rattle.go_layout.specs.Layouts.{within}
use Rattle.go_layout.specs.Parens.{precedence, is_named_literal, is_bracketed_type, needs_parens, header_within, closed_within}
use Rattle.go_layout.specs.TreeLayout.{expr_layout}
use Rattle.go_layout.specs.LayoutLaws.LayoutTokens.{HasTokens, of_token, of_both}
use Rattle.go_layout.proofs.LayoutLaws.SpelledTypes.{U}

-- `(`, `,` or `)` comes first, where that is said
abbrev pub Closes : Bool → Lexemes → Type 0
Closes false r = Unit {0}
Closes true r = follows_type r ≡ true

-- the tokens of its layout spell the expression, in each place that needs no parentheses
abbrev pub Spelled : Expr U → Type 0
Spelled e = (i : List ℕ) (l : ℕ) (h c : Bool) (ts r : Lexemes) → needs_parens l h c e ≡ false → HasTokens (expr_layout i h c e) ts r → Closes c r → SpellsBare nowhere l h e ts r

pub or_false : (a b : Bool) → a || b ≡ false → (a ≡ false) × (b ≡ false)
or_false true b e = absurd cc
or_false false b e = (refl, e)

pub at_most : (a b : ℕ) → nat_lt a b ≡ false → b ≤ a
at_most a b e = grind (arith, nat_tests, e)

level_positive : (o : BinOp) → nat_lt (level_of o) 1 ≡ false
level_positive Mul = refl
level_positive Div = refl
level_positive Rem = refl
level_positive Shl = refl
level_positive Shr = refl
level_positive And = refl
level_positive AndNot = refl
level_positive Add = refl
level_positive Sub = refl
level_positive Or = refl
level_positive Xor = refl
level_positive Eq = refl
level_positive Ne = refl
level_positive Lt = refl
level_positive Le = refl
level_positive Gt = refl
level_positive Ge = refl
level_positive LogAnd = refl
level_positive LogOr = refl

-- within parentheses an expression needs no more of them
pub needs_none : (e : Expr U) → needs_parens 1 false true e ≡ false
needs_none (ident _ _) = refl
needs_none (int_lit _ _) = refl
needs_none (rune_lit _ _) = refl
needs_none (str_lit _ _) = refl
needs_none (composite _ _ _) = refl
needs_none (selector _ _ _) = refl
needs_none (index _ _ _) = refl
needs_none (slice _ _ _ _) = refl
needs_none (call _ _ _ _) = refl
needs_none (func_lit _ _ _ _) = refl
needs_none (type_operand _ (named _ _ _)) = refl
needs_none (type_operand _ (pointer _ _)) = refl
needs_none (type_operand _ (slice_type _ _)) = refl
needs_none (type_operand _ (map_type _ _ _)) = refl
needs_none (type_operand _ (struct_type _ _)) = refl
needs_none (unary _ _ _) = refl
needs_none (binary _ o _ _) = rw (level_positive o) refl
needs_none (star _ _) = refl

-- where parentheses stand, and where they don't
pub placed : (e : Expr U) (p : Bool) (i : List ℕ) (l : ℕ) (h c : Bool) (ts r : Lexemes) → Spelled e → (p ≡ false → needs_parens l h c e ≡ false)
    → HasTokens (within p (expr_layout i (header_within p h) (closed_within p c) e)) ts r → Closes c r → SpellsExpr nowhere l h e ts r
placed e true i l h c ts r spelled bare (of_both of_token (of_both w of_token)) closes = parens_rule (bare_rule (spelled i 1 false true _ _ (needs_none e) w refl))
placed e false i l h c ts r spelled bare w closes = bare_rule (spelled i l h c ts r (bare refl) w closes)

-- what it says that no parentheses are needed
pub needs_parts : (l : ℕ) (h c : Bool) (e : Expr U) → needs_parens l h c e ≡ false → (l ≤ precedence e) × (h && is_named_literal e ≡ false) × (not c && is_bracketed_type e ≡ false)
needs_parts l h c e q =
    let x = or_false (nat_lt (precedence e) l || (h && is_named_literal e)) (not c && is_bracketed_type e) q in
    let y = or_false (nat_lt (precedence e) l) (h && is_named_literal e) x.0 in
    (at_most (precedence e) l y.0, y.1, x.1)
