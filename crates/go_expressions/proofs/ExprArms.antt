-- What the reader gives for an expression.
use Rattle.std.proofs.Common.{◌≡◌, ◌≢◌, ℕ, ◌+◌, Bool, true, false, nat_le, if◌then◌else◌, List, [], ◌∷◌, ◌++◌, map, Option, Some, None, refl, sym, ap, ◌∙◌}
use Rattle.std.specs.Option.{option_map}
use Rattle.go_tree.specs.declared.spans.Span.{Span}
use Rattle.go_tree.specs.declared.operators.BinOp.{BinOp}
use Rattle.go_tree.specs.declared.operators.BinOp.TheVariants.{Mul, Add, Sub, Xor, And}
use Rattle.go_tree.specs.declared.operators.UnOp.TheVariants.{Plus, Minus, Not, Flip, Address}
use Rattle.go_tree.specs.declared.exprs.Expr as source
use Rattle.go_tree.specs.declared.exprs.Rest.{Rest}
use Rattle.go_tree.specs.declared.exprs.Rest.TheVariants.{Plain}
use Rattle.go_tree.specs.View.{expr_of}
use Rattle.go_tree.specs.Lists.{exprs_from}
use Rattle.go_tree.specs.Tree.{Expr, Exprs, no_exprs, expr_and, binary}
use Rattle.go_tree.specs.GoWords.Terminals.{lex, binary_op, not_, comma, ellipsis, end_paren, level_of}
use Rattle.go_read.specs.SpellsSpans.{span_to}
use Rattle.go_read.specs.SpellsTypes.{Lexemes}
use Rattle.go_read.specs.Spells.{is_func_lit}
use Rattle.go_read.specs.Goals.{read_expr, read_more, read_unary, read_operand, read_exprs, read_args}
use Rattle.go_read.specs.Programs.{Program, give, ask, unless, run}
use Rattle.go_read.specs.ReadExprs.{expr_step, more_step, unary_step, operand_step, exprs_step, args_step, args_after}
use Rattle.go_read.specs.Reading.{at}
use Rattle.go_read.proofs.Finds.{Runs, gives, asks, passes, tails_more, finish}
use Rattle.go_expressions.specs.declared.prefixes.Prefix.{Prefix}
use Rattle.go_expressions.specs.declared.prefixes.Prefix.TheVariants as prefix
use Rattle.go_tree.specs.declared.go_words.terminals.Terminal.{Terminal}
use Rattle.go_tree.specs.declared.go_words.terminals.Terminal.TheVariants as code
use Rattle.go_productions.specs.Terminals.{first_of, rest_of}
use Rattle.go_productions.specs.Parts.{onto, in_front, args_end}
use Rattle.go_expressions.specs.ExprParts.{arg_and, prefix_of, prefixed, binary_of}
use Rattle.go_productions.proofs.Fronts.{front_none, front_some, front_push, front_last}
use Rattle.go_productions.proofs.Steps.{lacks, refuses, goes_on, on_true, on_false}

-- ---- expressions that are no literal of a function

pub operand_none : (h : Bool) (ts : Lexemes) → at span_to (read_expr 1 h) ts ≡ None → at span_to (read_operand h) ts ≡ None
unfolding operand_step
operand_none h ts e = finish span_to (read_operand h) ts (lacks e)

pub operand_func : (h : Bool) (ts r : Lexemes) (x : Expr Span) (b : Bool) → at span_to (read_expr 1 h) ts ≡ Some ((x, b), r) → is_func_lit x ≡ true → at span_to (read_operand h) ts ≡ None
unfolding operand_step
operand_func h ts r x b e f = finish span_to (read_operand h) ts (asks span_to e (refuses (give x r) f))

pub operand_some : (h : Bool) (ts r : Lexemes) (x : Expr Span) (b : Bool) → at span_to (read_expr 1 h) ts ≡ Some ((x, b), r) → is_func_lit x ≡ false → at span_to (read_operand h) ts ≡ Some (x, r)
unfolding operand_step
operand_some h ts r x b e f = finish span_to (read_operand h) ts (asks span_to e (passes span_to {p = give x r} f (gives span_to)))

-- ---- binary operators

pub expr_none : (l : ℕ) (h : Bool) (ts : Lexemes) → at span_to (read_unary h) ts ≡ None → at span_to (read_expr l h) ts ≡ None
unfolding expr_step
expr_none l h ts e = finish span_to (read_expr l h) ts (lacks e)

pub expr_starts : (l : ℕ) (h : Bool) (ts r : Lexemes) (x : Expr Span) (b : Bool) → at span_to (read_unary h) ts ≡ Some ((x, b), r) → at span_to (read_more l h ts x b) r ≡ at span_to (read_expr l h) ts
unfolding expr_step
expr_starts l h ts r x b e = sym (finish span_to (read_expr l h) ts (asks span_to e (tails_more span_to)))

below : (b : Bool) (o : BinOp) → (if b then Some o else None) ≡ None → b ≡ false
below true o e = absurd cc
below false o e = refl

reached : (b : Bool) (o op : BinOp) → (if b then Some o else None) ≡ Some op → (b ≡ true) × (o ≡ op)
reached true o op e = (refl, cc)
reached false o op e = absurd cc

pub more_done : (l : ℕ) (h : Bool) (w : Lexemes) (x : Expr Span) (b : Bool) (ts : Lexemes) → binary_of l (first_of ts) ≡ None → at span_to (read_more l h w x b) ts ≡ Some ((x, b), ts)
unfolding more_step
more_done l h w x b (lex s (binary_op o) ∷ ts) e = finish span_to (read_more l h w x b) (lex s (binary_op o) ∷ ts) (on_false (nat_le l (level_of o)) _ _ (below (nat_le l (level_of o)) o e) (gives span_to))
more_done l h w x b ts e = finish span_to (read_more l h w x b) ts (gives span_to)

pub more_func_left : (l : ℕ) (h : Bool) (w : Lexemes) (x : Expr Span) (b : Bool) (ts : Lexemes) (op : BinOp) → binary_of l (first_of ts) ≡ Some op → is_func_lit x ≡ true → at span_to (read_more l h w x b) ts ≡ None
unfolding more_step
more_func_left l h w x b (lex s (binary_op o) ∷ ts) op e f =
    let q = reached (nat_le l (level_of o)) o op e in
    finish span_to (read_more l h w x b) (lex s (binary_op o) ∷ ts) (on_true (nat_le l (level_of o)) _ _ q.0 (refuses _ f))
more_func_left l h w x b _ op e f = absurd cc

pub more_none : (l : ℕ) (h : Bool) (w : Lexemes) (x : Expr Span) (b : Bool) (ts us : Lexemes) (op : BinOp) (up : ℕ) → binary_of l (first_of ts) ≡ Some op → is_func_lit x ≡ false → us ≡ rest_of ts → up ≡ level_of op → at span_to (read_expr (up + 1) h) us ≡ None → at span_to (read_more l h w x b) ts ≡ None
unfolding more_step
more_none l h w x b (lex s (binary_op o) ∷ ts) us op up e f u v a =
    let q = reached (nat_le l (level_of o)) o op e in
    let right : at span_to (read_expr (level_of o + 1) h) ts ≡ None = ap (λ (n : ℕ). at span_to (read_expr (n + 1) h) ts) (ap level_of q.1 ∙ sym v) ∙ ap (at span_to (read_expr (up + 1) h)) (sym u) ∙ a in
    finish span_to (read_more l h w x b) (lex s (binary_op o) ∷ ts) (on_true (nat_le l (level_of o)) _ _ q.0 (passes span_to f (lacks right)))
more_none l h w x b _ us op up e f u v a = absurd cc

pub more_func_right : (l : ℕ) (h : Bool) (w : Lexemes) (x y : Expr Span) (b c : Bool) (ts us r : Lexemes) (op : BinOp) (up : ℕ) → binary_of l (first_of ts) ≡ Some op → is_func_lit x ≡ false → us ≡ rest_of ts → up ≡ level_of op → at span_to (read_expr (up + 1) h) us ≡ Some ((y, c), r) → is_func_lit y ≡ true → at span_to (read_more l h w x b) ts ≡ None
unfolding more_step
more_func_right l h w x y b c (lex s (binary_op o) ∷ ts) us r op up e f u v a g =
    let q = reached (nat_le l (level_of o)) o op e in
    let right : at span_to (read_expr (level_of o + 1) h) ts ≡ Some ((y, c), r) = ap (λ (n : ℕ). at span_to (read_expr (n + 1) h) ts) (ap level_of q.1 ∙ sym v) ∙ ap (at span_to (read_expr (up + 1) h)) (sym u) ∙ a in
    finish span_to (read_more l h w x b) (lex s (binary_op o) ∷ ts) (on_true (nat_le l (level_of o)) _ _ q.0 (passes span_to f (asks span_to right (refuses _ g))))
more_func_right l h w x y b c _ us r op up e f u v a g = absurd cc

pub more_some : (l : ℕ) (h : Bool) (w : Lexemes) (x y : Expr Span) (b c : Bool) (ts us r : Lexemes) (op : BinOp) (up : ℕ) → binary_of l (first_of ts) ≡ Some op → is_func_lit x ≡ false → us ≡ rest_of ts → up ≡ level_of op → at span_to (read_expr (up + 1) h) us ≡ Some ((y, c), r) → is_func_lit y ≡ false
    → at span_to (read_more l h w (binary (span_to w r) op x y) true) r ≡ at span_to (read_more l h w x b) ts
unfolding more_step
more_some l h w x y b c (lex s (binary_op o) ∷ ts) us r op up e f u v a g =
    let q = reached (nat_le l (level_of o)) o op e in
    let right : at span_to (read_expr (level_of o + 1) h) ts ≡ Some ((y, c), r) = ap (λ (n : ℕ). at span_to (read_expr (n + 1) h) ts) (ap level_of q.1 ∙ sym v) ∙ ap (at span_to (read_expr (up + 1) h)) (sym u) ∙ a in
    ap (λ (p : BinOp). at span_to (read_more l h w (binary (span_to w r) p x y) true) r) (sym q.1)
    ∙ sym (finish span_to (read_more l h w x b) (lex s (binary_op o) ∷ ts) (on_true (nat_le l (level_of o)) _ _ q.0 (passes span_to f (asks span_to right (passes span_to g (tails_more span_to))))))
more_some l h w x y b c _ us r op up e f u v a g = absurd cc

-- ---- unary operators

prefix_program : Bool → Prefix → Lexemes → Program Span (Expr Span × Bool)
prefix_program h p ts = ask (read_unary h) (rest_of ts) (λ x r. unless (is_func_lit x.0) (give (prefixed p (span_to ts r) x.0, true) r))

unary_is : (h : Bool) (ts : Lexemes) (p : Prefix) → prefix_of (first_of ts) ≡ Some p → at span_to (read_unary h) ts ≡ run (at span_to) (prefix_program h p ts)
unfolding unary_step prefix_program
unary_is h (lex s not_ ∷ ts) p e = let q : prefix.Sign Not ≡ p = cc in finish span_to (read_unary h) (lex s not_ ∷ ts) (record { is = refl }) ∙ ap (λ (z : Prefix). run (at span_to) (prefix_program h z (lex s not_ ∷ ts))) q
unary_is h (lex s (binary_op Mul) ∷ ts) p e = let q : prefix.Star ≡ p = cc in finish span_to (read_unary h) (lex s (binary_op Mul) ∷ ts) (record { is = refl }) ∙ ap (λ (z : Prefix). run (at span_to) (prefix_program h z (lex s (binary_op Mul) ∷ ts))) q
unary_is h (lex s (binary_op Add) ∷ ts) p e = let q : prefix.Sign Plus ≡ p = cc in finish span_to (read_unary h) (lex s (binary_op Add) ∷ ts) (record { is = refl }) ∙ ap (λ (z : Prefix). run (at span_to) (prefix_program h z (lex s (binary_op Add) ∷ ts))) q
unary_is h (lex s (binary_op Sub) ∷ ts) p e = let q : prefix.Sign Minus ≡ p = cc in finish span_to (read_unary h) (lex s (binary_op Sub) ∷ ts) (record { is = refl }) ∙ ap (λ (z : Prefix). run (at span_to) (prefix_program h z (lex s (binary_op Sub) ∷ ts))) q
unary_is h (lex s (binary_op Xor) ∷ ts) p e = let q : prefix.Sign Flip ≡ p = cc in finish span_to (read_unary h) (lex s (binary_op Xor) ∷ ts) (record { is = refl }) ∙ ap (λ (z : Prefix). run (at span_to) (prefix_program h z (lex s (binary_op Xor) ∷ ts))) q
unary_is h (lex s (binary_op And) ∷ ts) p e = let q : prefix.Sign Address ≡ p = cc in finish span_to (read_unary h) (lex s (binary_op And) ∷ ts) (record { is = refl }) ∙ ap (λ (z : Prefix). run (at span_to) (prefix_program h z (lex s (binary_op And) ∷ ts))) q
unary_is h _ p e = absurd cc

pub unary_none : (h : Bool) (ts us : Lexemes) (p : Prefix) → prefix_of (first_of ts) ≡ Some p → us ≡ rest_of ts → at span_to (read_unary h) us ≡ None → at span_to (read_unary h) ts ≡ None
unfolding prefix_program
unary_none h ts us p e u a = unary_is h ts p e ∙ (lacks {k = λ x r. unless (is_func_lit x.0) (give (prefixed p (span_to ts r) x.0, true) r)} (ap (at span_to (read_unary h)) (sym u) ∙ a)).is

pub unary_func : (h b : Bool) (ts us r : Lexemes) (x : Expr Span) (p : Prefix) → prefix_of (first_of ts) ≡ Some p → us ≡ rest_of ts → at span_to (read_unary h) us ≡ Some ((x, b), r) → is_func_lit x ≡ true → at span_to (read_unary h) ts ≡ None
unfolding prefix_program
unary_func h b ts us r x p e u a f =
    unary_is h ts p e ∙ (asks span_to {k = λ x r. unless (is_func_lit x.0) (give (prefixed p (span_to ts r) x.0, true) r)} (ap (at span_to (read_unary h)) (sym u) ∙ a) (refuses _ f)).is

pub unary_some : (h b : Bool) (ts us r : Lexemes) (x : Expr Span) (p : Prefix) → prefix_of (first_of ts) ≡ Some p → us ≡ rest_of ts → at span_to (read_unary h) us ≡ Some ((x, b), r) → is_func_lit x ≡ false → at span_to (read_unary h) ts ≡ Some ((prefixed p (span_to ts r) x, true), r)
unfolding prefix_program
unary_some h b ts us r x p e u a f =
    unary_is h ts p e ∙ (asks span_to {k = λ x r. unless (is_func_lit x.0) (give (prefixed p (span_to ts r) x.0, true) r)} (ap (at span_to (read_unary h)) (sym u) ∙ a) (passes span_to f (gives span_to))).is

-- ---- lists of expressions

pub onto_exprs : (xs : List (Expr Span)) → onto expr_and xs no_exprs ≡ exprs_from xs
onto_exprs [] = refl
onto_exprs (x ∷ xs) = ap (expr_and x) (onto_exprs xs)

exprs_one : (h : Bool) (ts r : Lexemes) (x : Expr Span) (k : Terminal) → at span_to (read_operand h) ts ≡ Some (x, r) → first_of r ≡ k → k ≢ code.Comma → at span_to (read_exprs h) ts ≡ Some (expr_and x no_exprs, r)
unfolding exprs_step
exprs_one h ts (lex c comma ∷ r) x k e f n = absurd (n (sym f))
exprs_one h ts r x k e f n = finish span_to (read_exprs h) ts (asks span_to e (gives span_to))

exprs_and : (h : Bool) (ts r us : Lexemes) (x : Expr Span) → at span_to (read_operand h) ts ≡ Some (x, r) → first_of r ≡ code.Comma → us ≡ rest_of r → at span_to (read_exprs h) ts ≡ in_front expr_and (x ∷ []) (at span_to (read_exprs h) us)
unfolding exprs_step
exprs_and h ts (lex c comma ∷ r) us x e f u =
    finish span_to (read_exprs h) ts (asks span_to e (goes_on {g = read_exprs h} {ts = r} expr_and x)) ∙ ap (λ (vs : Lexemes). in_front expr_and (x ∷ []) (at span_to (read_exprs h) vs)) (sym u)
exprs_and h ts _ us x e f u = absurd cc

pub exprs_lost : (h : Bool) (front : List (Expr Span)) (ts : Lexemes) (ws : Lexemes) → in_front expr_and front (at span_to (read_exprs h) ts) ≡ at span_to (read_exprs h) ws → at span_to (read_operand h) ts ≡ None → at span_to (read_exprs h) ws ≡ None
unfolding exprs_step
exprs_lost h front ts ws i e = front_none expr_and front (at span_to (read_exprs h) ts) (at span_to (read_exprs h) ws) i (finish span_to (read_exprs h) ts (lacks e))

pub exprs_last : (h : Bool) (xs ys : List source.Expr) (x : source.Expr) (ts r : Lexemes) (k : Terminal) (ws : Lexemes) → in_front expr_and (map expr_of xs) (at span_to (read_exprs h) ts) ≡ at span_to (read_exprs h) ws → ys ≡ xs ++ x ∷ [] → at span_to (read_operand h) ts ≡ Some (expr_of x, r) → first_of r ≡ k → k ≢ code.Comma
    → at span_to (read_exprs h) ws ≡ Some (exprs_from (map expr_of ys), r)
exprs_last h xs ys x ts r k ws i p e f n =
    front_last expr_and expr_of xs ys x no_exprs r (at span_to (read_exprs h) ts) (at span_to (read_exprs h) ws) p i (exprs_one h ts r (expr_of x) k e f n) ∙ ap (λ (es : Exprs Span). Some (es, r)) (onto_exprs (map expr_of ys))

pub exprs_more : (h : Bool) (xs ys : List source.Expr) (x : source.Expr) (ts r us : Lexemes) (ws : Lexemes) → in_front expr_and (map expr_of xs) (at span_to (read_exprs h) ts) ≡ at span_to (read_exprs h) ws → ys ≡ xs ++ x ∷ [] → at span_to (read_operand h) ts ≡ Some (expr_of x, r) → first_of r ≡ code.Comma → us ≡ rest_of r
    → in_front expr_and (map expr_of ys) (at span_to (read_exprs h) us) ≡ at span_to (read_exprs h) ws
exprs_more h xs ys x ts r us ws i p e f u = front_push expr_and expr_of xs ys x (at span_to (read_exprs h) ts) (at span_to (read_exprs h) us) (at span_to (read_exprs h) ws) p i (exprs_and h ts r us (expr_of x) e f u)

-- ---- arguments

abbrev before : List (Expr Span) → Lexemes → Option ((Exprs Span × Rest) × Lexemes)
before front ts = in_front arg_and front (at span_to read_args ts)

onto_args : (xs : List (Expr Span)) (w : Rest) → onto arg_and xs (no_exprs, w) ≡ (exprs_from xs, w)
onto_args [] w = refl
onto_args (x ∷ xs) w = ap (arg_and x) (onto_args xs w)

open_args : (ts : Lexemes) (k : Terminal) → first_of ts ≡ k → k ≢ code.EndParen → at span_to read_args ts ≡ run (at span_to) (ask (read_operand false) ts (λ e r. args_after span_to e r))
unfolding args_step
open_args (lex c end_paren ∷ ts) k h n = absurd (n (sym h))
open_args ts k h n = finish span_to read_args ts (record { is = refl })

pub closed_args : (front : List (Expr Span)) (ts us : Lexemes) (ws : Lexemes) → before front ts ≡ at span_to read_args ws → first_of ts ≡ code.EndParen → us ≡ rest_of ts → at span_to read_args ws ≡ Some ((exprs_from front, Plain), us)
unfolding args_step
closed_args front (lex c end_paren ∷ ts) us ws i h u =
    front_some arg_and front (at span_to read_args (lex c end_paren ∷ ts)) (at span_to read_args ws) (no_exprs, Plain) ts i (finish span_to read_args (lex c end_paren ∷ ts) (gives span_to))
    ∙ ap (λ (x : Exprs Span × Rest). Some (x, ts)) (onto_args front Plain) ∙ ap (λ (vs : Lexemes). Some ((exprs_from front, Plain), vs)) (sym u)
closed_args front _ us ws i h u = absurd cc

pub args_lost : (front : List (Expr Span)) (ts : Lexemes) (k : Terminal) (ws : Lexemes) → before front ts ≡ at span_to read_args ws → first_of ts ≡ k → k ≢ code.EndParen → at span_to (read_operand false) ts ≡ None → at span_to read_args ws ≡ None
args_lost front ts k ws i h n e = front_none arg_and front (at span_to read_args ts) (at span_to read_args ws) i (open_args ts k h n ∙ (lacks {k = λ e r. args_after span_to e r} e).is)

args_and : (ts r us : Lexemes) (x : Expr Span) (k : Terminal) → first_of ts ≡ k → k ≢ code.EndParen → at span_to (read_operand false) ts ≡ Some (x, r) → first_of r ≡ code.Comma → us ≡ rest_of r → at span_to read_args ts ≡ before (x ∷ []) us
args_and ts (lex c comma ∷ r) us x k h n e f u =
    open_args ts k h n ∙ (asks span_to {k = λ e r. args_after span_to e r} e (goes_on {g = read_args} {ts = r} arg_and x)).is ∙ ap (before (x ∷ [])) (sym u)
args_and ts _ us x k h n e f u = absurd cc

-- arguments that end after this one
unfoldable ended : Expr Span → Option (Rest × Lexemes) → Option ((Exprs Span × Rest) × Lexemes)
ended x o = option_map (λ (y : Rest × Lexemes). ((expr_and x no_exprs, y.0), y.1)) o

closes : (x : Expr Span) (r : Lexemes) (l : Terminal) → first_of r ≡ l → l ≢ code.Comma → Runs span_to (args_after span_to x r) (ended x (args_end r))
unfolding ended
closes x (lex c comma ∷ r) l f n = absurd (n (sym f))
closes x (lex c end_paren ∷ r) l f n = record { is = refl }
closes x (lex d ellipsis ∷ lex c end_paren ∷ r) l f n = record { is = refl }
closes x (lex d ellipsis ∷ lex c comma ∷ lex b end_paren ∷ r) l f n = record { is = refl }
closes x _ l f n = record { is = refl }

args_ended : (ts r : Lexemes) (x : Expr Span) (k l : Terminal) → first_of ts ≡ k → k ≢ code.EndParen → at span_to (read_operand false) ts ≡ Some (x, r) → first_of r ≡ l → l ≢ code.Comma → at span_to read_args ts ≡ ended x (args_end r)
args_ended ts r x k l h n e f c = open_args ts k h n ∙ (asks span_to {k = λ e r. args_after span_to e r} e (closes x r l f c)).is

pub args_more : (xs ys : List source.Expr) (x : source.Expr) (ts r us : Lexemes) (k : Terminal) (ws : Lexemes) → before (map expr_of xs) ts ≡ at span_to read_args ws → ys ≡ xs ++ x ∷ [] → first_of ts ≡ k → k ≢ code.EndParen → at span_to (read_operand false) ts ≡ Some (expr_of x, r) → first_of r ≡ code.Comma → us ≡ rest_of r
    → before (map expr_of ys) us ≡ at span_to read_args ws
args_more xs ys x ts r us k ws i p h n e f u = front_push arg_and expr_of xs ys x (at span_to read_args ts) (at span_to read_args us) (at span_to read_args ws) p i (args_and ts r us (expr_of x) k h n e f u)

pub args_last : (xs ys : List source.Expr) (x : source.Expr) (ts r vs : Lexemes) (w : Rest) (k l : Terminal) (ws : Lexemes) → before (map expr_of xs) ts ≡ at span_to read_args ws → ys ≡ xs ++ x ∷ [] → first_of ts ≡ k → k ≢ code.EndParen → at span_to (read_operand false) ts ≡ Some (expr_of x, r) → first_of r ≡ l → l ≢ code.Comma → args_end r ≡ Some (w, vs)
    → at span_to read_args ws ≡ Some ((exprs_from (map expr_of ys), w), vs)
unfolding ended
args_last xs ys x ts r vs w k l ws i p h n e f c q =
    front_last arg_and expr_of xs ys x (no_exprs, w) vs (at span_to read_args ts) (at span_to read_args ws) p i (args_ended ts r (expr_of x) k l h n e f c ∙ ap (ended (expr_of x)) q)
    ∙ ap (λ (l : Exprs Span × Rest). Some (l, vs)) (onto_args (map expr_of ys) w)

pub args_stop : (front : List (Expr Span)) (ts r : Lexemes) (x : Expr Span) (k l : Terminal) (ws : Lexemes) → before front ts ≡ at span_to read_args ws → first_of ts ≡ k → k ≢ code.EndParen → at span_to (read_operand false) ts ≡ Some (x, r) → first_of r ≡ l → l ≢ code.Comma → args_end r ≡ None → at span_to read_args ws ≡ None
unfolding ended
args_stop front ts r x k l ws i h n e f c q = front_none arg_and front (at span_to read_args ts) (at span_to read_args ws) i (args_ended ts r x k l h n e f c ∙ ap (ended x) q)
