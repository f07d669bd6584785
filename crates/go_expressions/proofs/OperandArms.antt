-- What the reader gives for an operand, by its first tokens.
use Rattle.std.proofs.Common.{◌≡◌, ◌≢◌, ℕ, Bool, true, false, List, ◌∷◌, Some, None, refl, sym, ap, ◌∙◌}
use Rattle.go_tree.specs.declared.spans.Span.{Span}
use Rattle.go_tree.specs.Tree.{TypeExpr, Sig, Stmts, Expr, Elems, ident, composite, func_lit, type_operand}
use Rattle.go_tree.specs.GoWords.Terminals as terminal
use Rattle.go_tree.specs.GoWords.Terminals.{lex, int_lit, rune_lit, str_lit, comma, dot, paren, end_paren, bracket, brace, key_func, key_map, key_struct}
use Rattle.go_read.specs.SpellsSpans.{span_to}
use Rattle.go_read.specs.SpellsTypes.{Lexemes}
use Rattle.go_read.specs.Goals.{read_type, read_sig, read_expr, read_elems, read_block}
use Rattle.go_read.specs.Programs.{Program, give, ask, run, after_end_paren, after_end_brace}
use Rattle.go_read.specs.Reading.{at}
use Rattle.go_read.proofs.Finds.{gives, asks}
use Rattle.go_tree.specs.declared.go_words.terminals.Terminal.{Terminal}
use Rattle.go_tree.specs.declared.go_words.terminals.Terminal.TheVariants as code
use Rattle.go_productions.specs.Terminals.{first_of, rest_of, spelling_of, has_letters}
use Rattle.go_productions.specs.Parts.{is_qualified}
use Rattle.go_expressions.specs.ExprParts.{plain_of, literal_here, follows_type, composite_program, composite_at, typed_after, typed_at, word_program, operand_at}
use Rattle.go_productions.proofs.Steps.{lacks, no_end_paren, on_end_paren, no_end_brace, on_end_brace}

pub qualified_plain : (h : Bool) (ts us vs ws : Lexemes) (k : Terminal) → is_qualified ts ≡ true → us ≡ rest_of ts → vs ≡ rest_of us → ws ≡ rest_of vs → first_of ws ≡ k → k ≢ code.Brace → literal_here h ts ≡ false
qualified_plain true ts us vs ws k q u v w f n = refl
qualified_plain false (lex s (terminal.ident p) ∷ lex d dot ∷ lex s2 (terminal.ident n) ∷ lex b brace ∷ ts) us vs ws k q u v w f x = absurd (x (sym f ∙ ap first_of (w ∙ ap rest_of (v ∙ ap rest_of u))))
qualified_plain false (lex s (terminal.ident p) ∷ lex d dot ∷ lex s2 (terminal.ident n) ∷ ts) us vs ws k q u v w f x = refl
qualified_plain false _ us vs ws k q u v w f x = absurd cc

pub literal_typed : (h : Bool) (ts : Lexemes) → literal_here h ts ≡ true → operand_at h ts ≡ typed_at ts
unfolding operand_at typed_at
literal_typed false (lex s (terminal.ident n) ∷ lex b brace ∷ ts) e = refl
literal_typed false (lex s (terminal.ident p) ∷ lex d dot ∷ lex s2 (terminal.ident n) ∷ lex b brace ∷ ts) e = refl
literal_typed true ts e = absurd cc
literal_typed false _ e = absurd cc

pub bracket_typed : (h : Bool) (ts : Lexemes) → first_of ts ≡ code.Bracket → operand_at h ts ≡ typed_at ts
unfolding operand_at typed_at
bracket_typed h (lex s bracket ∷ ts) e = refl
bracket_typed h _ e = absurd cc

pub map_typed : (h : Bool) (ts : Lexemes) → first_of ts ≡ code.Map → operand_at h ts ≡ typed_at ts
unfolding operand_at typed_at
map_typed h (lex s key_map ∷ ts) e = refl
map_typed h _ e = absurd cc

pub struct_typed : (h : Bool) (ts : Lexemes) → first_of ts ≡ code.Struct → operand_at h ts ≡ typed_at ts
unfolding operand_at typed_at
struct_typed h (lex s key_struct ∷ ts) e = refl
struct_typed h _ e = absurd cc

pub no_operand : (h : Bool) (ts : Lexemes) (k : Terminal) → first_of ts ≡ k → k ≢ code.Ident → k ≢ code.IntLit → k ≢ code.RuneLit → k ≢ code.StrLit → k ≢ code.Paren → k ≢ code.Func → k ≢ code.Bracket → k ≢ code.Map → k ≢ code.Struct → operand_at h ts ≡ None
unfolding operand_at
no_operand h (lex s (terminal.ident n) ∷ ts) k e a b c d f g i j l = absurd (a (sym e))
no_operand h (lex s (int_lit n) ∷ ts) k e a b c d f g i j l = absurd (b (sym e))
no_operand h (lex s (rune_lit n) ∷ ts) k e a b c d f g i j l = absurd (c (sym e))
no_operand h (lex s (str_lit n) ∷ ts) k e a b c d f g i j l = absurd (d (sym e))
no_operand h (lex s paren ∷ ts) k e a b c d f g i j l = absurd (f (sym e))
no_operand h (lex s key_func ∷ ts) k e a b c d f g i j l = absurd (g (sym e))
no_operand h (lex s bracket ∷ ts) k e a b c d f g i j l = absurd (i (sym e))
no_operand h (lex s key_map ∷ ts) k e a b c d f g i j l = absurd (j (sym e))
no_operand h (lex s key_struct ∷ ts) k e a b c d f g i j l = absurd (l (sym e))
no_operand h ts k e a b c d f g i j l = refl

word_plain : (b : Bool) (w ts : Lexemes) (n : List ℕ) → b ≡ false → run (at span_to) (word_program b w ts n) ≡ Some ((ident (span_to w ts) n, true), ts)
word_plain false w ts n e = refl
word_plain true w ts n e = absurd cc

pub plain_some : (h : Bool) (ts us : Lexemes) (k : Terminal) → first_of ts ≡ k → has_letters k ≡ true → literal_here h ts ≡ false → us ≡ rest_of ts → operand_at h ts ≡ Some ((plain_of k (span_to ts us) (spelling_of ts), true), us)
unfolding operand_at
plain_some h (lex s (terminal.ident n) ∷ ts) us k e f l u =
    word_plain (literal_here h (lex s (terminal.ident n) ∷ ts)) (lex s (terminal.ident n) ∷ ts) ts n l
    ∙ ap (λ (z : Terminal). Some ((plain_of z (span_to (lex s (terminal.ident n) ∷ ts) ts) n, true), ts)) e ∙ ap (λ (ys : Lexemes). Some ((plain_of k (span_to (lex s (terminal.ident n) ∷ ts) ys) n, true), ys)) (sym u)
plain_some h (lex s (int_lit n) ∷ ts) us k e f l u =
    ap (λ (z : Terminal). Some ((plain_of z (span_to (lex s (int_lit n) ∷ ts) ts) n, true), ts)) e ∙ ap (λ (ys : Lexemes). Some ((plain_of k (span_to (lex s (int_lit n) ∷ ts) ys) n, true), ys)) (sym u)
plain_some h (lex s (rune_lit n) ∷ ts) us k e f l u =
    ap (λ (z : Terminal). Some ((plain_of z (span_to (lex s (rune_lit n) ∷ ts) ts) n, true), ts)) e ∙ ap (λ (ys : Lexemes). Some ((plain_of k (span_to (lex s (rune_lit n) ∷ ts) ys) n, true), ys)) (sym u)
plain_some h (lex s (str_lit n) ∷ ts) us k e f l u =
    ap (λ (z : Terminal). Some ((plain_of z (span_to (lex s (str_lit n) ∷ ts) ts) n, true), ts)) e ∙ ap (λ (ys : Lexemes). Some ((plain_of k (span_to (lex s (str_lit n) ∷ ts) ys) n, true), ys)) (sym u)
plain_some h _ us k e f l u = let z = ap has_letters e ∙ f in absurd cc

-- ---- parentheses

pub parens_none : (h : Bool) (ts us : Lexemes) → first_of ts ≡ code.Paren → us ≡ rest_of ts → at span_to (read_expr 1 false) us ≡ None → operand_at h ts ≡ None
unfolding operand_at
parens_none h (lex s paren ∷ ts) us e u a = (lacks {k = λ x r. after_end_paren {X = Expr Span × Bool} r (λ r. give (x.0, false) r)} (ap (at span_to (read_expr 1 false)) (sym u) ∙ a)).is
parens_none h _ us e u a = absurd cc

pub parens_end : (h : Bool) (ts us r : Lexemes) (x : Expr Span) (b : Bool) (k : Terminal) → first_of ts ≡ code.Paren → us ≡ rest_of ts → at span_to (read_expr 1 false) us ≡ Some ((x, b), r) → first_of r ≡ k → k ≢ code.EndParen → operand_at h ts ≡ None
unfolding operand_at
parens_end h (lex s paren ∷ ts) us r x b k e u a f n =
    (asks span_to {k = λ x r. after_end_paren {X = Expr Span × Bool} r (λ r. give (x.0, false) r)} (ap (at span_to (read_expr 1 false)) (sym u) ∙ a) (no_end_paren r k (λ r. give (x, false) r) f n)).is
parens_end h _ us r x b k e u a f n = absurd cc

pub parens_some : (h : Bool) (ts us r vs : Lexemes) (x : Expr Span) (b : Bool) → first_of ts ≡ code.Paren → us ≡ rest_of ts → at span_to (read_expr 1 false) us ≡ Some ((x, b), r) → first_of r ≡ code.EndParen → vs ≡ rest_of r → operand_at h ts ≡ Some ((x, false), vs)
unfolding operand_at
parens_some h (lex s paren ∷ ts) us r vs x b e u a f v =
    (asks span_to {k = λ x r. after_end_paren {X = Expr Span × Bool} r (λ r. give (x.0, false) r)} (ap (at span_to (read_expr 1 false)) (sym u) ∙ a) (on_end_paren r vs (λ r. give (x, false) r) f v (gives span_to))).is
parens_some h _ us r vs x b e u a f v = absurd cc

-- ---- literals of functions

func_program : Lexemes → Lexemes → Program Span (Expr Span × Bool)
func_program w ts = ask (read_sig false) ts (λ g mid. ask read_block mid (λ b r. give (func_lit (span_to w r) g b.0 b.1, true) r))

func_is : (h : Bool) (ts us : Lexemes) → first_of ts ≡ code.Func → us ≡ rest_of ts → operand_at h ts ≡ run (at span_to) (func_program ts us)
unfolding operand_at func_program
func_is h (lex s key_func ∷ ts) us e u = ap (λ (ys : Lexemes). run (at span_to) (func_program (lex s key_func ∷ ts) ys)) (sym u)
func_is h _ us e u = absurd cc

pub func_unsigned : (h : Bool) (ts us : Lexemes) → first_of ts ≡ code.Func → us ≡ rest_of ts → at span_to (read_sig false) us ≡ None → operand_at h ts ≡ None
unfolding func_program
func_unsigned h ts us e u a = func_is h ts us e u ∙ (lacks {X = Expr Span × Bool} {k = λ g mid. ask read_block mid (λ b r. give (func_lit (span_to ts r) g b.0 b.1, true) r)} a).is

pub func_open : (h : Bool) (ts us mid : Lexemes) (g : Sig Span) → first_of ts ≡ code.Func → us ≡ rest_of ts → at span_to (read_sig false) us ≡ Some (g, mid) → at span_to read_block mid ≡ None → operand_at h ts ≡ None
unfolding func_program
func_open h ts us mid g e u a b = func_is h ts us e u ∙ (asks span_to {X = Expr Span × Bool} {k = λ g mid. ask read_block mid (λ b r. give (func_lit (span_to ts r) g b.0 b.1, true) r)} a (lacks b)).is

pub func_some : (h : Bool) (ts us mid r : Lexemes) (g : Sig Span) (s : Span) (body : Stmts Span) → first_of ts ≡ code.Func → us ≡ rest_of ts → at span_to (read_sig false) us ≡ Some (g, mid) → at span_to read_block mid ≡ Some ((s, body), r) → operand_at h ts ≡ Some ((func_lit (span_to ts r) g s body, true), r)
unfolding func_program
func_some h ts us mid r g s body e u a b =
    func_is h ts us e u ∙ (asks span_to {X = Expr Span × Bool} {k = λ g mid. ask read_block mid (λ b r. give (func_lit (span_to ts r) g b.0 b.1, true) r)} a (asks span_to b (gives span_to))).is

-- ---- types

pub typeless : (ts : Lexemes) → at span_to read_type ts ≡ None → typed_at ts ≡ None
unfolding typed_at
typeless ts a = (lacks {k = λ t r. typed_after ts t r} a).is

typed_is : (ts r : Lexemes) (t : TypeExpr Span) → at span_to read_type ts ≡ Some (t, r) → typed_at ts ≡ run (at span_to) (typed_after ts t r)
unfolding typed_at
typed_is ts r t a = (asks span_to {k = λ t r. typed_after ts t r} a (record { is = refl })).is

pub typed_literal : (ts r us : Lexemes) (t : TypeExpr Span) → at span_to read_type ts ≡ Some (t, r) → first_of r ≡ code.Brace → us ≡ rest_of r → typed_at ts ≡ composite_at ts t us
unfolding composite_at
typed_literal ts (lex s brace ∷ r) us t a f u = typed_is ts (lex s brace ∷ r) t a ∙ ap (λ (ys : Lexemes). run (at span_to) (composite_program ts t ys)) (sym u)
typed_literal ts _ us t a f u = absurd cc

pub typed_stop : (ts r : Lexemes) (t : TypeExpr Span) (k : Terminal) → at span_to read_type ts ≡ Some (t, r) → first_of r ≡ k → k ≢ code.Brace → follows_type (first_of r) ≡ false → typed_at ts ≡ None
typed_stop ts (lex s brace ∷ r) t k a f n m = absurd (n (sym f))
typed_stop ts (lex s paren ∷ r) t k a f n m = absurd cc
typed_stop ts (lex s comma ∷ r) t k a f n m = absurd cc
typed_stop ts (lex s end_paren ∷ r) t k a f n m = absurd cc
typed_stop ts r t k a f n m = typed_is ts r t a

pub typed_operand : (ts r : Lexemes) (t : TypeExpr Span) → at span_to read_type ts ≡ Some (t, r) → follows_type (first_of r) ≡ true → typed_at ts ≡ Some ((type_operand (span_to ts r) t, true), r)
typed_operand ts (lex s paren ∷ r) t a m = typed_is ts (lex s paren ∷ r) t a
typed_operand ts (lex s comma ∷ r) t a m = typed_is ts (lex s comma ∷ r) t a
typed_operand ts (lex s end_paren ∷ r) t a m = typed_is ts (lex s end_paren ∷ r) t a
typed_operand ts _ t a m = absurd cc

pub composite_none : (w : Lexemes) (t : TypeExpr Span) (ts : Lexemes) → at span_to read_elems ts ≡ None → composite_at w t ts ≡ None
unfolding composite_at
composite_none w t ts a = (lacks {k = λ es r. after_end_brace {X = Expr Span × Bool} r (λ r. give (composite (span_to w r) t es, true) r)} a).is

pub composite_end : (w : Lexemes) (t : TypeExpr Span) (ts r : Lexemes) (es : Elems Span) (k : Terminal) → at span_to read_elems ts ≡ Some (es, r) → first_of r ≡ k → k ≢ code.EndBrace → composite_at w t ts ≡ None
unfolding composite_at
composite_end w t ts r es k a f n =
    (asks span_to {k = λ es r. after_end_brace {X = Expr Span × Bool} r (λ r. give (composite (span_to w r) t es, true) r)} a (no_end_brace r k (λ r. give (composite (span_to w r) t es, true) r) f n)).is

pub composite_some : (w : Lexemes) (t : TypeExpr Span) (ts r us : Lexemes) (es : Elems Span) → at span_to read_elems ts ≡ Some (es, r) → first_of r ≡ code.EndBrace → us ≡ rest_of r → composite_at w t ts ≡ Some ((composite (span_to w us) t es, true), us)
unfolding composite_at
composite_some w t ts r us es a f u =
    (asks span_to {k = λ es r. after_end_brace {X = Expr Span × Bool} r (λ r. give (composite (span_to w r) t es, true) r)} a (on_end_brace r us (λ r. give (composite (span_to w r) t es, true) r) f u (gives span_to))).is
