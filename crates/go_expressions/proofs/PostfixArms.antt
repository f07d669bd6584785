-- What may follow an operand, by its first tokens.
use Rattle.std.proofs.Common.{◌≡◌, ◌≢◌, true, false, ◌∷◌, Some, None, refl, sym, ap, ◌∙◌}
use Rattle.go_tree.specs.declared.exprs.Rest.{Rest}
use Rattle.go_tree.specs.declared.spans.Span.{Span}
use Rattle.go_tree.specs.Tree.{Expr, ExprOption, Exprs, selector, index, slice, call, no_expr, some_expr}
use Rattle.go_tree.specs.GoWords.Terminals.{lex, ident, colon, dot, paren, bracket, end_bracket}
use Rattle.go_read.specs.SpellsSpans.{span_to}
use Rattle.go_read.specs.SpellsTypes.{Lexemes}
use Rattle.go_read.specs.Spells.{is_func_lit}
use Rattle.go_read.specs.Goals.{read_operand, read_args}
use Rattle.go_read.specs.Programs.{give, run, after_end_bracket}
use Rattle.go_read.specs.Reading.{at}
use Rattle.go_read.proofs.Finds.{gives, asks, passes}
use Rattle.go_tree.specs.declared.go_words.terminals.Terminal.{Terminal}
use Rattle.go_tree.specs.declared.go_words.terminals.Terminal.TheVariants as code
use Rattle.go_productions.specs.Terminals.{first_of, rest_of, name_of}
use Rattle.go_expressions.specs.ExprParts.{continues, high_program, high_at, index_after, brackets_program, brackets_at, postfix_at}
use Rattle.go_productions.proofs.Steps.{lacks, refuses, no_end_bracket, on_end_bracket}

pub call_none : (w : Lexemes) (x : Expr Span) (ts us : Lexemes) → first_of ts ≡ code.Paren → us ≡ rest_of ts → at span_to read_args us ≡ None → postfix_at w x ts ≡ None
unfolding postfix_at
call_none w x (lex s paren ∷ ts) us h u e = (lacks {k = λ l r. give (call (span_to w r) x l.0 l.1) r} (ap (at span_to read_args) (sym u) ∙ e)).is
call_none w x _ us h u e = absurd cc

pub call_some : (w : Lexemes) (x : Expr Span) (xs : Exprs Span) (h : Rest) (ts us r : Lexemes) → first_of ts ≡ code.Paren → us ≡ rest_of ts → at span_to read_args us ≡ Some ((xs, h), r) → postfix_at w x ts ≡ Some (call (span_to w r) x xs h, r)
unfolding postfix_at
call_some w x xs d (lex s paren ∷ ts) us r h u e = (asks span_to {k = λ l r. give (call (span_to w r) x l.0 l.1) r} (ap (at span_to read_args) (sym u) ∙ e) (gives span_to)).is
call_some w x xs d _ us r h u e = absurd cc

pub func_none : (w : Lexemes) (x : Expr Span) (ts : Lexemes) (k : Terminal) → first_of ts ≡ k → k ≢ code.Paren → is_func_lit x ≡ true → postfix_at w x ts ≡ None
unfolding postfix_at
func_none w x (lex s paren ∷ ts) k h n f = absurd (n (sym h))
func_none w x (lex d dot ∷ lex s (ident m) ∷ r) k h n f = (refuses _ f).is
func_none w x (lex s bracket ∷ ts) k h n f = (refuses _ f).is
func_none w x _ k h n f = refl

pub dot_word : (ts us : Lexemes) → continues ts ≡ true → first_of ts ≡ code.Dot → us ≡ rest_of ts → first_of us ≡ code.Ident
dot_word (lex d dot ∷ lex s (ident n) ∷ r) us e h u = ap first_of u
dot_word (lex s paren ∷ r) us e h u = absurd cc
dot_word (lex s bracket ∷ r) us e h u = absurd cc
dot_word _ us e h u = absurd cc

pub select_some : (w : Lexemes) (x : Expr Span) (ts us vs : Lexemes) → continues ts ≡ true → first_of ts ≡ code.Dot → is_func_lit x ≡ false → us ≡ rest_of ts → vs ≡ rest_of us → postfix_at w x ts ≡ Some (selector (span_to w vs) x (name_of us), vs)
unfolding postfix_at
select_some w x (lex d dot ∷ lex s (ident n) ∷ r) us vs e h f u v =
    (passes span_to {p = give (selector (span_to w r) x (name_of (lex s (ident n) ∷ r))) r} f (gives span_to)).is
    ∙ ap (λ (ys : Lexemes). Some (selector (span_to w (rest_of ys)) x (name_of ys), rest_of ys)) (sym u) ∙ ap (λ (ys : Lexemes). Some (selector (span_to w ys) x (name_of us), ys)) (sym v)
select_some w x (lex s paren ∷ r) us vs e h f u v = absurd cc
select_some w x (lex s bracket ∷ r) us vs e h f u v = absurd cc
select_some w x _ us vs e h f u v = absurd cc

pub bracket_on : (w : Lexemes) (x : Expr Span) (ts us : Lexemes) (k : Terminal) → continues ts ≡ true → first_of ts ≡ k → k ≢ code.Paren → k ≢ code.Dot → is_func_lit x ≡ false → us ≡ rest_of ts → postfix_at w x ts ≡ brackets_at w x us
unfolding postfix_at brackets_at
bracket_on w x (lex s paren ∷ ts) us k e h n m f u = absurd (n (sym h))
bracket_on w x (lex d dot ∷ lex s (ident i) ∷ r) us k e h n m f u = absurd (m (sym h))
bracket_on w x (lex s bracket ∷ ts) us k e h n m f u =
    (passes span_to {p = brackets_program w x ts} f (record { is = refl })).is ∙ ap (λ (ys : Lexemes). run (at span_to) (brackets_program w x ys)) (sym u)
bracket_on w x _ us k e h n m f u = absurd cc

-- ---- indexes and bounds

pub colon_first : (w : Lexemes) (x : Expr Span) (ts us : Lexemes) → first_of ts ≡ code.Colon → us ≡ rest_of ts → brackets_at w x ts ≡ high_at w x no_expr us
unfolding brackets_at high_at
colon_first w x (lex s colon ∷ ts) us h u = ap (λ (ys : Lexemes). run (at span_to) (high_program w x no_expr ys)) (sym u)
colon_first w x _ us h u = absurd cc

pub index_none : (w : Lexemes) (x : Expr Span) (ts : Lexemes) (k : Terminal) → first_of ts ≡ k → k ≢ code.Colon → at span_to (read_operand false) ts ≡ None → brackets_at w x ts ≡ None
unfolding brackets_at
index_none w x (lex s colon ∷ ts) k h n e = absurd (n (sym h))
index_none w x ts k h n e = (lacks {k = λ i r. index_after w x i r} e).is

indexed : (w : Lexemes) (x i : Expr Span) (ts r : Lexemes) (k : Terminal) → first_of ts ≡ k → k ≢ code.Colon → at span_to (read_operand false) ts ≡ Some (i, r) → brackets_at w x ts ≡ run (at span_to) (index_after w x i r)
unfolding brackets_at
indexed w x i (lex s colon ∷ ts) r k h n e = absurd (n (sym h))
indexed w x i ts r k h n e = (asks span_to {k = λ i r. index_after w x i r} e (record { is = refl })).is

pub index_some : (w : Lexemes) (x i : Expr Span) (ts r us : Lexemes) (k : Terminal) → first_of ts ≡ k → k ≢ code.Colon → at span_to (read_operand false) ts ≡ Some (i, r) → first_of r ≡ code.EndBracket → us ≡ rest_of r → brackets_at w x ts ≡ Some (index (span_to w us) x i, us)
index_some w x i ts (lex s end_bracket ∷ r) us k h n e f u = indexed w x i ts (lex s end_bracket ∷ r) k h n e ∙ ap (λ (ys : Lexemes). Some (index (span_to w ys) x i, ys)) (sym u)
index_some w x i ts _ us k h n e f u = absurd cc

pub index_colon : (w : Lexemes) (x i : Expr Span) (ts r us : Lexemes) (k : Terminal) → first_of ts ≡ k → k ≢ code.Colon → at span_to (read_operand false) ts ≡ Some (i, r) → first_of r ≡ code.Colon → us ≡ rest_of r → brackets_at w x ts ≡ high_at w x (some_expr i) us
unfolding high_at
index_colon w x i ts (lex s colon ∷ r) us k h n e f u = indexed w x i ts (lex s colon ∷ r) k h n e ∙ ap (λ (ys : Lexemes). run (at span_to) (high_program w x (some_expr i) ys)) (sym u)
index_colon w x i ts _ us k h n e f u = absurd cc

pub index_stop : (w : Lexemes) (x i : Expr Span) (ts r : Lexemes) (k l : Terminal) → first_of ts ≡ k → k ≢ code.Colon → at span_to (read_operand false) ts ≡ Some (i, r) → first_of r ≡ l → l ≢ code.Colon → l ≢ code.EndBracket → brackets_at w x ts ≡ None
index_stop w x i ts (lex s end_bracket ∷ r) k l h n e f a b = absurd (b (sym f))
index_stop w x i ts (lex s colon ∷ r) k l h n e f a b = absurd (a (sym f))
index_stop w x i ts r k l h n e f a b = indexed w x i ts r k h n e

pub high_end : (w : Lexemes) (x : Expr Span) (low : ExprOption Span) (ts us : Lexemes) → first_of ts ≡ code.EndBracket → us ≡ rest_of ts → high_at w x low ts ≡ Some (slice (span_to w us) x low no_expr, us)
unfolding high_at
high_end w x low (lex s end_bracket ∷ ts) us h u = ap (λ (ys : Lexemes). Some (slice (span_to w ys) x low no_expr, ys)) (sym u)
high_end w x low _ us h u = absurd cc

pub high_none : (w : Lexemes) (x : Expr Span) (low : ExprOption Span) (ts : Lexemes) (k : Terminal) → first_of ts ≡ k → k ≢ code.EndBracket → at span_to (read_operand false) ts ≡ None → high_at w x low ts ≡ None
unfolding high_at
high_none w x low (lex s end_bracket ∷ ts) k h n e = absurd (n (sym h))
high_none w x low ts k h n e = (lacks {k = λ z r. after_end_bracket r (λ r. give (slice (span_to w r) x low (some_expr z)) r)} e).is

pub high_stop : (w : Lexemes) (x z : Expr Span) (low : ExprOption Span) (ts r : Lexemes) (k l : Terminal) → first_of ts ≡ k → k ≢ code.EndBracket → at span_to (read_operand false) ts ≡ Some (z, r) → first_of r ≡ l → l ≢ code.EndBracket → high_at w x low ts ≡ None
unfolding high_at
high_stop w x z low (lex s end_bracket ∷ ts) r k l h n e f m = absurd (n (sym h))
high_stop w x z low ts r k l h n e f m = (asks span_to {k = λ z r. after_end_bracket r (λ r. give (slice (span_to w r) x low (some_expr z)) r)} e (no_end_bracket r l (λ r. give (slice (span_to w r) x low (some_expr z)) r) f m)).is

pub high_some : (w : Lexemes) (x z : Expr Span) (low : ExprOption Span) (ts r us : Lexemes) (k : Terminal) → first_of ts ≡ k → k ≢ code.EndBracket → at span_to (read_operand false) ts ≡ Some (z, r) → first_of r ≡ code.EndBracket → us ≡ rest_of r → high_at w x low ts ≡ Some (slice (span_to w us) x low (some_expr z), us)
unfolding high_at
high_some w x z low (lex s end_bracket ∷ ts) r us k h n e f u = absurd (n (sym h))
high_some w x z low ts r us k h n e f u =
    (asks span_to {k = λ z r. after_end_bracket r (λ r. give (slice (span_to w r) x low (some_expr z)) r)} e (on_end_bracket r us (λ r. give (slice (span_to w r) x low (some_expr z)) r) f u (gives span_to))).is
