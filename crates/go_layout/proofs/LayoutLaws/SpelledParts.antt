-- Parts of a tree that are spelled once their own parts are.
use Rattle.std.specs.Prelude.{codes}
use Rattle.std.proofs.Common.{◌≡◌, ℕ, ◌+◌, ◌≤◌, Bool, true, false, List, ◌∷◌, Option, Some, None, refl, subst}
use Rattle.go_tree.specs.declared.spans.Span.{Span}
use Rattle.go_tree.specs.declared.operators.UnOp.{UnOp}
use Rattle.go_tree.specs.declared.operators.UnOp.TheVariants.{Plus, Minus, Not, Flip, Address}
use Rattle.go_tree.specs.declared.operators.BinOp.{BinOp}
use Rattle.go_tree.specs.declared.operators.BinOp.TheVariants.{Mul, Div, Rem, Shl, Shr, And, AndNot, Add, Sub, Or, Xor, Eq, Ne, Lt, Le, Gt, Ge, LogAnd, LogOr}
use Rattle.go_tree.specs.declared.exprs.Rest.{Rest}
use Rattle.go_tree.specs.declared.exprs.Rest.TheVariants.{Plain, Whole, Packed, Empty}
use Rattle.go_tree.specs.Tree.{NameAt, TypeExpr, Expr, Exprs, Stmt, Stmts, BlockOption, named, pointer, slice_type, map_type, struct_type, ident, int_lit, rune_lit, str_lit, composite, selector, index, slice, call, func_lit, type_operand, unary, binary, star, no_exprs, expr_and, const_decl, var_decl, empty, eval, step, assign, define, return_, break_, continue_, inner, if_, for_, range_, switch, defer, label, no_stmts, stmt_and, no_block, some_block}
use Rattle.go_tree.specs.GoWords.Terminals as terminal
use Rattle.go_tree.specs.GoWords.Terminals.{Terminal, lex, binary_op, unary_sign, level_of, semicolon, colon, ellipsis, end_paren, key_defer, key_else}
use Rattle.go_read.specs.SpellsTypes.{Lexemes}
use Rattle.go_read.specs.Spells.{starts_type, SpellsLiteralType, SpellsBare, SpellsOperand, SpellsExprs, SpellsArgs, no_args_rule, args_rule, rest_args_rule, SpellsSimple, SpellsStmt, SpellsStmts, SpellsBlock, SpellsSpec, named_literal_rule, qualified_literal_rule, type_literal_rule, type_rule, unary_rule, binary_rule, assign_rule, simple_rule, defer_rule, label_rule, braces_rule, repeated_rule, typed_var_rule, values_rule, typed_values_rule}
use Rattle.go_read.specs.Bareness.{nowhere}
use Rattle.go_layout.specs.Layouts.{Layout, line, op, ◌⊕◌}
use Rattle.go_tree.specs.GoWords.Operators.{binary_spelling, unary_spelling, assign_spelling}
use Rattle.go_layout.specs.Parens.{needs_parens, last_ends_in_integer}
use Rattle.go_layout.specs.TypeLayout.{names_layout, type_layout}
use Rattle.go_layout.specs.TreeLayout.{gap_where, closes, rest_layout, exprs_layout, in_braces, equals_before, spec_type_layout, gives_semicolon}
use Rattle.go_layout.specs.LayoutLaws.Formed.{is_assign, is_call, is_simple, FormedLiteralType, FormedTypeOperand, FormedSpec, HasNames, HasExprs, FormedRest}
use Rattle.go_layout.specs.LayoutLaws.LayoutTokens.{HasTokens, of_nothing, of_token, of_gap, of_line, of_end, of_both}
use Rattle.go_layout.proofs.LayoutLaws.SpelledTypes.{U, type_spelled, names_spelled}
use Rattle.go_layout.proofs.LayoutLaws.Places.{Closes, needs_parts}

-- ---- operators

pub data OneToken (x : Terminal) : Lexemes → Lexemes → Type 0 where
  one_token : {s : Span} {r : Lexemes} → OneToken x (lex s x ∷ r) r

binary_token : (o : BinOp) (ts r : Lexemes) → HasTokens (op (binary_spelling o)) ts r → OneToken (binary_op o) ts r
binary_token Mul ts r of_token = one_token
binary_token Div ts r of_token = one_token
binary_token Rem ts r of_token = one_token
binary_token Shl ts r of_token = one_token
binary_token Shr ts r of_token = one_token
binary_token And ts r of_token = one_token
binary_token AndNot ts r of_token = one_token
binary_token Add ts r of_token = one_token
binary_token Sub ts r of_token = one_token
binary_token Or ts r of_token = one_token
binary_token Xor ts r of_token = one_token
binary_token Eq ts r of_token = one_token
binary_token Ne ts r of_token = one_token
binary_token Lt ts r of_token = one_token
binary_token Le ts r of_token = one_token
binary_token Gt ts r of_token = one_token
binary_token Ge ts r of_token = one_token
binary_token LogAnd ts r of_token = one_token
binary_token LogOr ts r of_token = one_token

unary_token : (o : UnOp) (ts r : Lexemes) → HasTokens (op (unary_spelling o)) ts r → OneToken (unary_sign o) ts r
unary_token Plus ts r of_token = one_token
unary_token Minus ts r of_token = one_token
unary_token Not ts r of_token = one_token
unary_token Flip ts r of_token = one_token
unary_token Address ts r of_token = one_token

assign_token : (o : Option BinOp) (ts r : Lexemes) → is_assign o ≡ true → HasTokens (op (assign_spelling o)) ts r → OneToken (terminal.assign o) ts r
assign_token None ts r q of_token = one_token
assign_token (Some Mul) ts r q of_token = one_token
assign_token (Some Div) ts r q of_token = one_token
assign_token (Some Rem) ts r q of_token = one_token
assign_token (Some Shl) ts r q of_token = one_token
assign_token (Some Shr) ts r q of_token = one_token
assign_token (Some And) ts r q of_token = one_token
assign_token (Some AndNot) ts r q of_token = one_token
assign_token (Some Add) ts r q of_token = one_token
assign_token (Some Sub) ts r q of_token = one_token
assign_token (Some Or) ts r q of_token = one_token
assign_token (Some Xor) ts r q of_token = one_token
assign_token (Some Eq) ts r q w = absurd cc
assign_token (Some Ne) ts r q w = absurd cc
assign_token (Some Lt) ts r q w = absurd cc
assign_token (Some Le) ts r q w = absurd cc
assign_token (Some Gt) ts r q w = absurd cc
assign_token (Some Ge) ts r q w = absurd cc
assign_token (Some LogAnd) ts r q w = absurd cc
assign_token (Some LogOr) ts r q w = absurd cc

binary_one : (o : BinOp) (l : ℕ) (h : Bool) (a b : Expr U) (ts mid mid2 r : Lexemes) → OneToken (binary_op o) mid mid2 → l ≤ level_of o
    → SpellsOperand nowhere (level_of o) h a ts mid → SpellsOperand nowhere (level_of o + 1) h b mid2 r → SpellsBare nowhere l h (binary tt o a b) ts r
binary_one o l h a b ts mid mid2 r one_token le x y = binary_rule le x y

pub binary_spelled : (o : BinOp) (l : ℕ) (h : Bool) (a b : Expr U) (ts mid mid2 r : Lexemes) → HasTokens (op (binary_spelling o)) mid mid2 → l ≤ level_of o
    → SpellsOperand nowhere (level_of o) h a ts mid → SpellsOperand nowhere (level_of o + 1) h b mid2 r → SpellsBare nowhere l h (binary tt o a b) ts r
binary_spelled o l h a b ts mid mid2 r w le x y = binary_one o l h a b ts mid mid2 r (binary_token o mid mid2 w) le x y

unary_one : (o : UnOp) (l : ℕ) (h : Bool) (e : Expr U) (ts mid r : Lexemes) → OneToken (unary_sign o) ts mid → l ≤ 6
    → SpellsOperand nowhere 6 h e mid r → SpellsBare nowhere l h (unary tt o e) ts r
unary_one o l h e ts mid r one_token le x = unary_rule le x

pub unary_spelled : (o : UnOp) (l : ℕ) (h : Bool) (e : Expr U) (ts mid r : Lexemes) → HasTokens (op (unary_spelling o)) ts mid → l ≤ 6
    → SpellsOperand nowhere 6 h e mid r → SpellsBare nowhere l h (unary tt o e) ts r
unary_spelled o l h e ts mid r w le x = unary_one o l h e ts mid r (unary_token o ts mid w) le x

assign_one : (o : Option BinOp) (h : Bool) (xs ys : Exprs U) (ts mid mid2 r : Lexemes) → OneToken (terminal.assign o) mid mid2
    → SpellsExprs nowhere h xs ts mid → SpellsExprs nowhere h ys mid2 r → SpellsSimple nowhere h (assign tt xs o ys) ts r
assign_one o h xs ys ts mid mid2 r one_token x y = assign_rule x y

pub assign_spelled : (o : Option BinOp) (h : Bool) (xs ys : Exprs U) (ts mid mid2 r : Lexemes) → is_assign o ≡ true → HasTokens (op (assign_spelling o)) mid mid2
    → SpellsExprs nowhere h xs ts mid → SpellsExprs nowhere h ys mid2 r → SpellsSimple nowhere h (assign tt xs o ys) ts r
assign_spelled o h xs ys ts mid mid2 r q w x y = assign_one o h xs ys ts mid mid2 r (assign_token o mid mid2 q w) x y

-- ---- the arguments of a call

dots_token : (b : Bool) (ts r : Lexemes) → HasTokens (gap_where b ⊕ op (codes "...")) ts r → OneToken ellipsis ts r
dots_token true ts r (of_both of_gap of_token) = one_token
dots_token false ts r (of_both of_nothing of_token) = one_token

whole_one : (xs : Exprs U) (ts mid r : Lexemes) (e : Span) → OneToken ellipsis mid (lex e end_paren ∷ r) → SpellsExprs nowhere false xs ts mid → SpellsArgs nowhere xs Whole ts r
whole_one xs ts mid r e one_token d = rest_args_rule d

pub args_spelled : (rest : Rest) (xs : Exprs U) (i : List ℕ) → FormedRest rest xs
    → (HasExprs xs → (ts r : Lexemes) → HasTokens (exprs_layout i false (closes rest) xs) ts r → Closes (closes rest) r → SpellsExprs nowhere false xs ts r)
    → (ts mid r : Lexemes) (e : Span) → HasTokens (exprs_layout i false (closes rest) xs) ts mid → HasTokens (rest_layout rest xs) mid (lex e end_paren ∷ r) → SpellsArgs nowhere xs rest ts r
args_spelled Plain no_exprs i f k ts mid r e of_nothing of_nothing = no_args_rule
args_spelled Plain (expr_and x es) i f k ts mid r e w of_nothing = args_rule (k tt ts _ w refl)
args_spelled Whole no_exprs i f k ts mid r e w d = absurd f
args_spelled Whole (expr_and x es) i f k ts mid r e w d =
    let xs = expr_and x es in whole_one xs ts mid r e (dots_token (last_ends_in_integer false false xs) mid (lex e end_paren ∷ r) d) (k tt ts mid w tt)
args_spelled Packed xs i f k ts mid r e w d = absurd f
args_spelled Empty xs i f k ts mid r e w d = absurd f

-- ---- types

pub literal_type_spelled : (t : TypeExpr U) (l : ℕ) (h c : Bool) (ts r : Lexemes) (es : _) → FormedLiteralType t → needs_parens l h c (composite tt t es) ≡ false
    → HasTokens (type_layout t) ts r → SpellsLiteralType nowhere h t ts r
literal_type_spelled (named s None n) l false c ts r es f q (of_both of_nothing of_token) = named_literal_rule
literal_type_spelled (named s (Some p) n) l false c ts r es f q (of_both (of_both of_token of_token) of_token) = qualified_literal_rule
literal_type_spelled (named s p n) l true c ts r es f q w = absurd (nope (needs_parts l true c (composite tt (named s p n) es) q).1)
  where
    nope : true ≡ false → ⊥
    nope e = cc
literal_type_spelled (pointer s t) l h c ts r es f q w = absurd f
literal_type_spelled (slice_type s t) l h c ts r es f q (of_both of_token (of_both of_token w)) = type_literal_rule refl (type_spelled (slice_type s t) _ r (of_both of_token (of_both of_token w)))
literal_type_spelled (map_type s k t) l h c ts r es f q (of_both of_token (of_both of_token (of_both w (of_both of_token v)))) =
    type_literal_rule refl (type_spelled (map_type s k t) _ r (of_both of_token (of_both of_token (of_both w (of_both of_token v)))))
literal_type_spelled (struct_type s fs) l h c ts r es f q (of_both of_token (of_both of_token (of_both w of_token))) =
    type_literal_rule refl (type_spelled (struct_type s fs) _ r (of_both of_token (of_both of_token (of_both w of_token))))

abbrev starts_bracketed : TypeExpr U → Bool
starts_bracketed (named _ _ _) = false
starts_bracketed (pointer _ _) = false
starts_bracketed _ = true

bracketed_starts : (t : TypeExpr U) (ts r : Lexemes) → starts_bracketed t ≡ true → HasTokens (type_layout t) ts r → starts_type ts ≡ true
bracketed_starts (named s p n) ts r q w = absurd cc
bracketed_starts (pointer s t) ts r q w = absurd cc
bracketed_starts (slice_type s t) ts r q (of_both of_token (of_both of_token w)) = refl
bracketed_starts (map_type s k t) ts r q (of_both of_token (of_both of_token w)) = refl
bracketed_starts (struct_type s fs) ts r q (of_both of_token (of_both of_token w)) = refl

-- a type that is an expression: without parentheses around it `(`, `,` or `)` follows
pub type_operand_spelled : (t : TypeExpr U) (l : ℕ) (h c : Bool) (ts r : Lexemes) → FormedTypeOperand t → needs_parens l h c (type_operand tt t) ≡ false
    → HasTokens (type_layout t) ts r → Closes c r → SpellsBare nowhere l h (type_operand tt t) ts r
type_operand_spelled (named s p n) l h c ts r f q w k = absurd f
type_operand_spelled (pointer s t) l h c ts r f q w k = absurd f
type_operand_spelled (slice_type s t) l h true ts r f q w k = type_rule (bracketed_starts (slice_type s t) ts r refl w) (type_spelled (slice_type s t) ts r w) k
type_operand_spelled (map_type s x t) l h true ts r f q w k = type_rule (bracketed_starts (map_type s x t) ts r refl w) (type_spelled (map_type s x t) ts r w) k
type_operand_spelled (struct_type s fs) l h true ts r f q w k = type_rule (bracketed_starts (struct_type s fs) ts r refl w) (type_spelled (struct_type s fs) ts r w) k
type_operand_spelled (slice_type s t) l h false ts r f q w k = absurd (nope (needs_parts l h false (type_operand tt (slice_type s t)) q).2)
  where
    nope : true ≡ false → ⊥
    nope e = cc
type_operand_spelled (map_type s x t) l h false ts r f q w k = absurd (nope (needs_parts l h false (type_operand tt (map_type s x t)) q).2)
  where
    nope : true ≡ false → ⊥
    nope e = cc
type_operand_spelled (struct_type s fs) l h false ts r f q w k = absurd (nope (needs_parts l h false (type_operand tt (struct_type s fs)) q).2)
  where
    nope : true ≡ false → ⊥
    nope e = cc

-- ---- statements

-- A simple statement in a header or outside; another statement; or one whose layout ends in its semicolon.
abbrev pub Says : Bool → Bool → Bool → Stmt U → Lexemes → Lexemes → Type 0
Says true gives h x ts r = SpellsSimple nowhere h x ts r
Says false true h x ts r = SpellsStmt nowhere x ts r
Says false false h x ts r = (s : Span) × SpellsStmt nowhere x ts (lex s semicolon ∷ r)

pub as_simple : (b gives h : Bool) (x : Stmt U) (ts r : Lexemes) → b ≡ true → Says b gives h x ts r → SpellsSimple nowhere h x ts r
as_simple true gives h x ts r q d = d
as_simple false gives h x ts r q d = absurd cc

-- a statement before the newline or the semicolon that ends it
pub ended : (b gives : Bool) (x : Stmt U) (i : List ℕ) (ts mid r : Lexemes) → (b ≡ true → gives ≡ true) → Says b gives false x ts mid → HasTokens (line gives i) mid r
    → (s : Span) × SpellsStmt nowhere x ts (lex s semicolon ∷ r)
ended true true x i ts mid r q d (of_end {s = s}) = (s, simple_rule d)
ended true false x i ts mid r q d w = absurd (nope (q refl))
  where
    nope : false ≡ true → ⊥
    nope e = cc
ended false true x i ts mid r q d (of_end {s = s}) = (s, d)
ended false false x i ts mid r q d of_line = d

pub simple_gives : (x : Stmt U) → is_simple x ≡ true → gives_semicolon x ≡ true
simple_gives (eval _ _) q = refl
simple_gives (step _ _ _) q = refl
simple_gives (assign _ _ _ _) q = refl
simple_gives (define _ _ _) q = refl
simple_gives (const_decl _ _ _) q = absurd cc
simple_gives (var_decl _ _ _) q = absurd cc
simple_gives (empty _) q = absurd cc
simple_gives (return_ _ _) q = absurd cc
simple_gives (break_ _ _) q = absurd cc
simple_gives (continue_ _ _) q = absurd cc
simple_gives (inner _ _) q = absurd cc
simple_gives (if_ _ _ _) q = absurd cc
simple_gives (for_ _ _ _ _ _ _) q = absurd cc
simple_gives (range_ _ _ _ _ _) q = absurd cc
simple_gives (switch _ _ _ _) q = absurd cc
simple_gives (defer _ _) q = absurd cc
simple_gives (label _ _ _) q = absurd cc

pub labelled : (b gives : Bool) (n : NameAt U) (x : Stmt U) (c s : Span) (ts r : Lexemes) → (b ≡ true → gives ≡ true) → Says b gives false x ts r
    → (h : Bool) → Says false gives h (label tt n x) (lex s (terminal.ident n.name) ∷ lex c colon ∷ ts) r
labelled true true n x c s ts r q d h = label_rule (simple_rule d)
labelled true false n x c s ts r q d h = absurd (nope (q refl))
  where
    nope : false ≡ true → ⊥
    nope e = cc
labelled false true n x c s ts r q d h = label_rule d
labelled false false n x c s ts r q d h = (d.0, label_rule d.1)

pub call_needs_none : (e : Expr U) → is_call e ≡ true → needs_parens 1 false false e ≡ false
call_needs_none (call _ _ _ _) q = refl
call_needs_none (ident _ _) q = absurd cc
call_needs_none (int_lit _ _) q = absurd cc
call_needs_none (rune_lit _ _) q = absurd cc
call_needs_none (str_lit _ _) q = absurd cc
call_needs_none (composite _ _ _) q = absurd cc
call_needs_none (selector _ _ _) q = absurd cc
call_needs_none (index _ _ _) q = absurd cc
call_needs_none (slice _ _ _ _) q = absurd cc
call_needs_none (func_lit _ _ _ _) q = absurd cc
call_needs_none (type_operand _ _) q = absurd cc
call_needs_none (unary _ _ _) q = absurd cc
call_needs_none (binary _ _ _ _) q = absurd cc
call_needs_none (star _ _) q = absurd cc

pub deferred : (e : Expr U) (ts r : Lexemes) (s : Span) → is_call e ≡ true → SpellsBare nowhere 1 false e ts r → SpellsStmt nowhere (defer tt e) (lex s key_defer ∷ ts) r
deferred (call _ _ _ _) ts r s q d = defer_rule d
deferred (ident _ _) ts r s q d = absurd cc
deferred (int_lit _ _) ts r s q d = absurd cc
deferred (rune_lit _ _) ts r s q d = absurd cc
deferred (str_lit _ _) ts r s q d = absurd cc
deferred (composite _ _ _) ts r s q d = absurd cc
deferred (selector _ _ _) ts r s q d = absurd cc
deferred (index _ _ _) ts r s q d = absurd cc
deferred (slice _ _ _ _) ts r s q d = absurd cc
deferred (func_lit _ _ _ _) ts r s q d = absurd cc
deferred (type_operand _ _) ts r s q d = absurd cc
deferred (unary _ _ _) ts r s q d = absurd cc
deferred (binary _ _ _ _) ts r s q d = absurd cc
deferred (star _ _) ts r s q d = absurd cc

pub braces_spelled : (i : List ℕ) (body : Stmts U) (stmts : Layout) (ts r : Lexemes) → ((ts2 r2 : Lexemes) → HasTokens stmts ts2 r2 → SpellsStmts nowhere body ts2 r2)
    → HasTokens (in_braces i body stmts) ts r → SpellsBlock nowhere tt body ts r
braces_spelled i no_stmts stmts ts r k (of_both of_token (of_both of_nothing (of_both w of_token))) = braces_rule (k _ _ w)
braces_spelled i (stmt_and x xs) stmts ts r k (of_both of_token (of_both of_line (of_both w of_token))) = braces_rule (k _ _ w)

-- what stands after the arms of an `if`
pub data LastSpelled : BlockOption U → Lexemes → Lexemes → Type 0 where
  without_last : {r : Lexemes} → LastSpelled no_block r r
  with_last : {c : Span} {body : Stmts U} {ts r : Lexemes} → SpellsBlock nowhere tt body ts r → LastSpelled (some_block tt body) (lex c key_else ∷ ts) r

-- ---- declarations

pub spec_spelled : (constant : Bool) (ns : List (NameAt U)) (t : Option (TypeExpr U)) (xs : Exprs U) (ts m1 m2 m3 r : Lexemes) → HasNames ns → FormedSpec constant t xs
    → HasTokens (names_layout ns) ts m1 → HasTokens (spec_type_layout t) m1 m2 → HasTokens (equals_before xs) m2 m3
    → (HasExprs xs → SpellsExprs nowhere false xs m3 r) → (xs ≡ no_exprs → m3 ≡ r) → SpellsSpec nowhere constant ns t xs ts r
spec_spelled constant ns None (expr_and e es) ts m1 m2 m3 r some f a of_nothing (of_both of_gap (of_both of_token of_gap)) k z = values_rule (names_spelled ns ts _ some a) (k tt)
spec_spelled constant ns (Some t) (expr_and e es) ts m1 m2 m3 r some f a (of_both of_gap b) (of_both of_gap (of_both of_token of_gap)) k z =
    typed_values_rule (names_spelled ns ts _ some a) (type_spelled t _ _ b) (k tt)
spec_spelled true ns None no_exprs ts m1 m2 m3 r some f a of_nothing of_nothing k z = subst (λ x. SpellsSpec nowhere true ns None no_exprs ts x) (z refl) (repeated_rule (names_spelled ns ts _ some a))
spec_spelled true ns (Some t) no_exprs ts m1 m2 m3 r some f a b c k z = absurd f
spec_spelled false ns None no_exprs ts m1 m2 m3 r some f a b c k z = absurd f
spec_spelled false ns (Some t) no_exprs ts m1 m2 m3 r some f a (of_both of_gap b) of_nothing k z =
    subst (λ x. SpellsSpec nowhere false ns (Some t) no_exprs ts x) (z refl) (typed_var_rule (names_spelled ns ts _ some a) (type_spelled t _ _ b))
