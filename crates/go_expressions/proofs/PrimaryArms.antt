-- What the reader gives for an operand with what may follow it.
use Rattle.std.proofs.Common.{◌≡◌, Bool, true, false, ◌∷◌, Option, Some, None, refl, sym, ap, ◌∙◌}
use Rattle.std.specs.Prelude.{option_and_then}
use Rattle.go_tree.specs.declared.exprs.Rest.{Rest}
use Rattle.go_tree.specs.declared.spans.Span.{Span}
use Rattle.go_tree.specs.declared.operators.BinOp.TheVariants.{Mul, Add, Sub, Xor, And}
use Rattle.go_tree.specs.Tree.{TypeExpr, named, Sig, Stmts, Expr, ExprOption, Exprs, Elems, composite, selector, index, slice, call, func_lit, type_operand, no_expr, some_expr}
use Rattle.go_tree.specs.GoWords.Terminals.{lex, ident, int_lit, rune_lit, str_lit, binary_op, not_, comma, colon, dot, paren, end_paren, bracket, end_bracket, brace, end_brace, key_func, key_map, key_struct}
use Rattle.go_read.specs.SpellsSpans.{span_to}
use Rattle.go_read.specs.SpellsTypes.{Lexemes, name_here}
use Rattle.go_read.specs.Spells.{is_func_lit}
use Rattle.go_read.specs.Goals.{read_type, read_sig, read_expr, read_unary, read_postfix, read_operand, read_args, read_elems, read_block}
use Rattle.go_read.specs.Programs.{give, unless, run, after_end_paren, after_end_brace, after_end_bracket}
use Rattle.go_read.specs.ReadTypes.{type_step}
use Rattle.go_read.specs.ReadExprs.{unary_step, postfix_step, then_postfix, type_after, bracket_step, bracket_after, bracket_high}
use Rattle.go_read.specs.Reading.{at}
use Rattle.go_read.proofs.Finds.{gives, tails_postfix, finish}
use Rattle.go_productions.specs.Terminals.{first_of}
use Rattle.go_expressions.specs.ExprParts.{prefix_of, typed_after, operand_at, continues, high_program, index_after, brackets_program, postfix_at}

-- what is read behind an operand
abbrev tail : Bool → Lexemes → (Expr Span × Bool) × Lexemes → Option ((Expr Span × Bool) × Lexemes)
tail h w y = at span_to (read_postfix h w y.0.0 y.0.1) y.1

same_answer : (o : Option ((Expr Span × Bool) × Lexemes)) → option_and_then (λ x. Some (x.0, x.1)) o ≡ o
same_answer (Some x) = refl
same_answer None = refl

tailed : (h : Bool) (w : Lexemes) (e : Expr Span) (b : Bool) (ts : Lexemes) → run (at span_to) (then_postfix span_to h w e b ts) ≡ tail h w ((e, b), ts)
tailed h w e b ts = same_answer (at span_to (read_postfix h w e b) ts)

parens_post : (h : Bool) (w : Lexemes) (o : Option ((Expr Span × Bool) × Lexemes))
    → option_and_then (λ x. run (at span_to) (after_end_paren x.1 (λ r. then_postfix span_to h w x.0.0 false r))) o ≡ option_and_then (tail h w) (option_and_then (λ x. run (at span_to) (after_end_paren {X = Expr Span × Bool} x.1 (λ r. give (x.0.0, false) r))) o)
parens_post h w None = refl
parens_post h w (Some (x, lex s end_paren ∷ r)) = tailed h w x.0 false r
parens_post h w (Some (x, r)) = refl

func_body : (h : Bool) (w : Lexemes) (g : Sig Span) (o : Option ((Span × Stmts Span) × Lexemes))
    → option_and_then (λ b. run (at span_to) (then_postfix span_to h w (func_lit (span_to w b.1) g b.0.0 b.0.1) true b.1)) o ≡ option_and_then (tail h w) (option_and_then (λ b. Some ((func_lit (span_to w b.1) g b.0.0 b.0.1, true), b.1)) o)
func_body h w g None = refl
func_body h w g (Some b) = tailed h w (func_lit (span_to w b.1) g b.0.0 b.0.1) true b.1

func_post : (h : Bool) (w : Lexemes) (o : Option (Sig Span × Lexemes))
    → option_and_then (λ g. option_and_then (λ b. run (at span_to) (then_postfix span_to h w (func_lit (span_to w b.1) g.0 b.0.0 b.0.1) true b.1)) (at span_to read_block g.1)) o
    ≡ option_and_then (tail h w) (option_and_then (λ g. option_and_then (λ b. Some ((func_lit (span_to w b.1) g.0 b.0.0 b.0.1, true), b.1)) (at span_to read_block g.1)) o)
func_post h w None = refl
func_post h w (Some g) = func_body h w g.0 (at span_to read_block g.1)

composite_post : (h : Bool) (w : Lexemes) (t : TypeExpr Span) (o : Option (Elems Span × Lexemes))
    → option_and_then (λ x. run (at span_to) (after_end_brace x.1 (λ r. then_postfix span_to h w (composite (span_to w r) t x.0) true r))) o
    ≡ option_and_then (tail h w) (option_and_then (λ x. run (at span_to) (after_end_brace {X = Expr Span × Bool} x.1 (λ r. give (composite (span_to w r) t x.0, true) r))) o)
composite_post h w t None = refl
composite_post h w t (Some (es, lex s end_brace ∷ r)) = tailed h w (composite (span_to w r) t es) true r
composite_post h w t (Some (es, r)) = refl

typed_post : (h : Bool) (w : Lexemes) (o : Option (TypeExpr Span × Lexemes))
    → option_and_then (λ x. run (at span_to) (type_after span_to h w x.0 x.1)) o ≡ option_and_then (tail h w) (option_and_then (λ x. run (at span_to) (typed_after w x.0 x.1)) o)
typed_post h w None = refl
typed_post h w (Some (t, lex s brace ∷ ts)) = composite_post h w t (at span_to read_elems ts)
typed_post h w (Some (t, lex s paren ∷ ts)) = tailed h w (type_operand (span_to w (lex s paren ∷ ts)) t) true (lex s paren ∷ ts)
typed_post h w (Some (t, lex s comma ∷ ts)) = tailed h w (type_operand (span_to w (lex s comma ∷ ts)) t) true (lex s comma ∷ ts)
typed_post h w (Some (t, lex s end_paren ∷ ts)) = tailed h w (type_operand (span_to w (lex s end_paren ∷ ts)) t) true (lex s end_paren ∷ ts)
typed_post h w (Some (t, ts)) = refl

-- an operand, and what may follow it
primary_is : (h : Bool) (ts : Lexemes) → prefix_of (first_of ts) ≡ None → at span_to (read_unary h) ts ≡ option_and_then (tail h ts) (operand_at h ts)
unfolding unary_step type_step operand_at
primary_is false (lex s (ident n) ∷ lex b brace ∷ ts) e =
    finish span_to (read_unary false) (lex s (ident n) ∷ lex b brace ∷ ts) (record { is = refl })
    ∙ composite_post false (lex s (ident n) ∷ lex b brace ∷ ts) (named (span_to (lex s (ident n) ∷ lex b brace ∷ ts) (lex b brace ∷ ts)) None (name_here span_to s n (lex b brace ∷ ts))) (at span_to read_elems ts)
    ∙ ap (λ (o : Option (TypeExpr Span × Lexemes)). option_and_then (tail false (lex s (ident n) ∷ lex b brace ∷ ts)) (option_and_then (λ x. run (at span_to) (typed_after (lex s (ident n) ∷ lex b brace ∷ ts) x.0 x.1)) o))
    (sym (finish span_to read_type (lex s (ident n) ∷ lex b brace ∷ ts) (gives span_to)))
primary_is false (lex s (ident p) ∷ lex d dot ∷ lex s2 (ident n) ∷ lex b brace ∷ ts) e =
    finish span_to (read_unary false) (lex s (ident p) ∷ lex d dot ∷ lex s2 (ident n) ∷ lex b brace ∷ ts) (record { is = refl })
    ∙ composite_post false (lex s (ident p) ∷ lex d dot ∷ lex s2 (ident n) ∷ lex b brace ∷ ts) (named (span_to (lex s (ident p) ∷ lex d dot ∷ lex s2 (ident n) ∷ lex b brace ∷ ts) (lex b brace ∷ ts)) (Some (name_here span_to s p (lex d dot ∷ lex s2 (ident n) ∷ lex b brace ∷ ts))) (name_here span_to s2 n (lex b brace ∷ ts))) (at span_to read_elems ts)
    ∙ ap (λ (o : Option (TypeExpr Span × Lexemes)). option_and_then (tail false (lex s (ident p) ∷ lex d dot ∷ lex s2 (ident n) ∷ lex b brace ∷ ts)) (option_and_then (λ x. run (at span_to) (typed_after (lex s (ident p) ∷ lex d dot ∷ lex s2 (ident n) ∷ lex b brace ∷ ts) x.0 x.1)) o))
    (sym (finish span_to read_type (lex s (ident p) ∷ lex d dot ∷ lex s2 (ident n) ∷ lex b brace ∷ ts) (gives span_to)))
primary_is false (lex s (ident n) ∷ ts) e = finish span_to (read_unary false) (lex s (ident n) ∷ ts) (tails_postfix span_to)
primary_is true (lex s (ident n) ∷ ts) e = finish span_to (read_unary true) (lex s (ident n) ∷ ts) (tails_postfix span_to)
primary_is h (lex s (int_lit n) ∷ ts) e = finish span_to (read_unary h) (lex s (int_lit n) ∷ ts) (tails_postfix span_to)
primary_is h (lex s (rune_lit n) ∷ ts) e = finish span_to (read_unary h) (lex s (rune_lit n) ∷ ts) (tails_postfix span_to)
primary_is h (lex s (str_lit n) ∷ ts) e = finish span_to (read_unary h) (lex s (str_lit n) ∷ ts) (tails_postfix span_to)
primary_is h (lex s paren ∷ ts) e = finish span_to (read_unary h) (lex s paren ∷ ts) (record { is = refl }) ∙ parens_post h (lex s paren ∷ ts) (at span_to (read_expr 1 false) ts)
primary_is h (lex s key_func ∷ ts) e = finish span_to (read_unary h) (lex s key_func ∷ ts) (record { is = refl }) ∙ func_post h (lex s key_func ∷ ts) (at span_to (read_sig false) ts)
primary_is h (lex s bracket ∷ ts) e = finish span_to (read_unary h) (lex s bracket ∷ ts) (record { is = refl }) ∙ typed_post h (lex s bracket ∷ ts) (at span_to read_type (lex s bracket ∷ ts))
primary_is h (lex s key_map ∷ ts) e = finish span_to (read_unary h) (lex s key_map ∷ ts) (record { is = refl }) ∙ typed_post h (lex s key_map ∷ ts) (at span_to read_type (lex s key_map ∷ ts))
primary_is h (lex s key_struct ∷ ts) e = finish span_to (read_unary h) (lex s key_struct ∷ ts) (record { is = refl }) ∙ typed_post h (lex s key_struct ∷ ts) (at span_to read_type (lex s key_struct ∷ ts))
primary_is h (lex s (binary_op Mul) ∷ ts) e = absurd cc
primary_is h (lex s (binary_op Add) ∷ ts) e = absurd cc
primary_is h (lex s (binary_op Sub) ∷ ts) e = absurd cc
primary_is h (lex s (binary_op Xor) ∷ ts) e = absurd cc
primary_is h (lex s (binary_op And) ∷ ts) e = absurd cc
primary_is h (lex s not_ ∷ ts) e = absurd cc
primary_is h ts e = finish span_to (read_unary h) ts (record { is = refl })

pub primary_none : (h : Bool) (ts : Lexemes) → prefix_of (first_of ts) ≡ None → operand_at h ts ≡ None → at span_to (read_unary h) ts ≡ None
primary_none h ts e a = primary_is h ts e ∙ ap (option_and_then (tail h ts)) a

pub primary_starts : (h : Bool) (ts r : Lexemes) (x : Expr Span) (b : Bool) → prefix_of (first_of ts) ≡ None → operand_at h ts ≡ Some ((x, b), r) → at span_to (read_postfix h ts x b) r ≡ at span_to (read_unary h) ts
primary_starts h ts r x b e a = sym (primary_is h ts e ∙ ap (option_and_then (tail h ts)) a)

-- ---- one part after another

abbrev next : Bool → Lexemes → Expr Span × Lexemes → Option ((Expr Span × Bool) × Lexemes)
next h w y = at span_to (read_postfix h w y.0 true) y.1

args_post : (h : Bool) (w : Lexemes) (x : Expr Span) (o : Option ((Exprs Span × Rest) × Lexemes))
    → option_and_then (λ xs. run (at span_to) (then_postfix span_to h w (call (span_to w xs.1) x xs.0.0 xs.0.1) true xs.1)) o ≡ option_and_then (next h w) (option_and_then (λ xs. Some (call (span_to w xs.1) x xs.0.0 xs.0.1, xs.1)) o)
args_post h w x None = refl
args_post h w x (Some xs) = tailed h w (call (span_to w xs.1) x xs.0.0 xs.0.1) true xs.1

select_post : (h : Bool) (w : Lexemes) (y : Expr Span) (r : Lexemes) (b : Bool) → run (at span_to) (unless b (then_postfix span_to h w y true r)) ≡ option_and_then (next h w) (run (at span_to) (unless {X = Expr Span} b (give y r)))
select_post h w y r true = refl
select_post h w y r false = tailed h w y true r

high_end_post : (h : Bool) (w : Lexemes) (x : Expr Span) (low : ExprOption Span) (o : Option (Expr Span × Lexemes))
    → option_and_then (λ z. run (at span_to) (after_end_bracket z.1 (λ r. then_postfix span_to h w (slice (span_to w r) x low (some_expr z.0)) true r))) o
    ≡ option_and_then (next h w) (option_and_then (λ z. run (at span_to) (after_end_bracket {X = Expr Span} z.1 (λ r. give (slice (span_to w r) x low (some_expr z.0)) r))) o)
high_end_post h w x low None = refl
high_end_post h w x low (Some (z, lex s end_bracket ∷ r)) = tailed h w (slice (span_to w r) x low (some_expr z)) true r
high_end_post h w x low (Some (z, r)) = refl

high_post : (h : Bool) (w : Lexemes) (x : Expr Span) (low : ExprOption Span) (ts : Lexemes) → run (at span_to) (bracket_high span_to h w x low ts) ≡ option_and_then (next h w) (run (at span_to) (high_program w x low ts))
high_post h w x low (lex s end_bracket ∷ ts) = tailed h w (slice (span_to w ts) x low no_expr) true ts
high_post h w x low ts = high_end_post h w x low (at span_to (read_operand false) ts)

index_post : (h : Bool) (w : Lexemes) (x i : Expr Span) (ts : Lexemes) → run (at span_to) (bracket_after span_to h w x i ts) ≡ option_and_then (next h w) (run (at span_to) (index_after w x i ts))
index_post h w x i (lex s end_bracket ∷ ts) = tailed h w (index (span_to w ts) x i) true ts
index_post h w x i (lex s colon ∷ ts) = high_post h w x (some_expr i) ts
index_post h w x i ts = refl

indexed_post : (h : Bool) (w : Lexemes) (x : Expr Span) (o : Option (Expr Span × Lexemes)) → option_and_then (λ i. run (at span_to) (bracket_after span_to h w x i.0 i.1)) o ≡ option_and_then (next h w) (option_and_then (λ i. run (at span_to) (index_after w x i.0 i.1)) o)
indexed_post h w x None = refl
indexed_post h w x (Some i) = index_post h w x i.0 i.1

brackets_post : (h : Bool) (w : Lexemes) (x : Expr Span) (ts : Lexemes) → run (at span_to) (bracket_step span_to h w x ts) ≡ option_and_then (next h w) (run (at span_to) (brackets_program w x ts))
brackets_post h w x (lex s colon ∷ ts) = high_post h w x no_expr ts
brackets_post h w x ts = indexed_post h w x (at span_to (read_operand false) ts)

guarded_post : (h : Bool) (w : Lexemes) (x : Expr Span) (ts : Lexemes) (b : Bool) → run (at span_to) (unless b (bracket_step span_to h w x ts)) ≡ option_and_then (next h w) (run (at span_to) (unless b (brackets_program w x ts)))
guarded_post h w x ts true = refl
guarded_post h w x ts false = brackets_post h w x ts

postfix_is : (h : Bool) (w : Lexemes) (x : Expr Span) (b : Bool) (ts : Lexemes) → continues ts ≡ true → at span_to (read_postfix h w x b) ts ≡ option_and_then (next h w) (postfix_at w x ts)
unfolding postfix_step postfix_at
postfix_is h w x b (lex s paren ∷ ts) e = finish span_to (read_postfix h w x b) (lex s paren ∷ ts) (record { is = refl }) ∙ args_post h w x (at span_to read_args ts)
postfix_is h w x b (lex d dot ∷ lex s (ident n) ∷ r) e =
    finish span_to (read_postfix h w x b) (lex d dot ∷ lex s (ident n) ∷ r) (record { is = refl }) ∙ select_post h w (selector (span_to w r) x (name_here span_to s n r)) r (is_func_lit x)
postfix_is h w x b (lex s bracket ∷ ts) e = finish span_to (read_postfix h w x b) (lex s bracket ∷ ts) (record { is = refl }) ∙ guarded_post h w x ts (is_func_lit x)
postfix_is h w x b _ e = absurd cc

pub postfix_done : (h : Bool) (w : Lexemes) (x : Expr Span) (b : Bool) (ts : Lexemes) → continues ts ≡ false → at span_to (read_postfix h w x b) ts ≡ Some ((x, b), ts)
unfolding postfix_step
postfix_done h w x b (lex s paren ∷ ts) e = absurd cc
postfix_done h w x b (lex d dot ∷ lex s (ident n) ∷ r) e = absurd cc
postfix_done h w x b (lex s bracket ∷ ts) e = absurd cc
postfix_done h w x b ts e = finish span_to (read_postfix h w x b) ts (gives span_to)

pub postfix_none : (h : Bool) (w : Lexemes) (x : Expr Span) (b : Bool) (ts : Lexemes) → continues ts ≡ true → postfix_at w x ts ≡ None → at span_to (read_postfix h w x b) ts ≡ None
postfix_none h w x b ts e a = postfix_is h w x b ts e ∙ ap (option_and_then (next h w)) a

pub postfix_some : (h : Bool) (w : Lexemes) (x y : Expr Span) (b : Bool) (ts r : Lexemes) → continues ts ≡ true → postfix_at w x ts ≡ Some (y, r) → at span_to (read_postfix h w y true) r ≡ at span_to (read_postfix h w x b) ts
postfix_some h w x y b ts r e a = sym (postfix_is h w x b ts e ∙ ap (option_and_then (next h w)) a)
