-- What the reader gives for a simple statement.
use Rattle.std.proofs.Common.{◌≡◌, ◌≢◌, ℕ, ◌+◌, Bool, true, false, List, [], ◌∷◌, ◌++◌, length, map, Option, Some, None, refl, sym, ap, ◌∙◌}
use Rattle.std.specs.Prelude.{MatchOption, option_and_then, option_to_list}
use Rattle.go_tree.specs.declared.spans.Span.{Span}
use Rattle.go_tree.specs.declared.operators.BinOp.{BinOp}
use Rattle.go_tree.specs.declared.exprs.Expr as source
use Rattle.go_tree.specs.Lists.{exprs_from}
use Rattle.go_tree.specs.View.{expr_of}
use Rattle.go_tree.specs.Tree.{NameAt, Expr, Exprs, Stmt, no_exprs, expr_and, eval, step, assign, define}
use Rattle.go_tree.specs.GoWords.Terminals as terminal
use Rattle.go_tree.specs.GoWords.Terminals.{lex, ident, comma, increment, decrement}
use Rattle.go_read.specs.SpellsSpans.{span_to}
use Rattle.go_read.specs.SpellsTypes.{Lexemes}
use Rattle.go_read.specs.Goals.{read_names, read_exprs, read_simple, read_simple_after}
use Rattle.go_read.specs.Programs.{give, ask, run}
use Rattle.go_read.specs.ReadTypes.{names_step}
use Rattle.go_read.specs.ReadStmts.{simple_step, simple_names, simple_exprs, simple_after_step, one_expr, one_after}
use Rattle.go_read.specs.Reading.{at}
use Rattle.go_read.proofs.Finds.{gives, asks, looks, finish}
use Rattle.go_tree.specs.declared.go_words.terminals.Terminal.{Terminal}
use Rattle.go_tree.specs.declared.go_words.terminals.Terminal.TheVariants as code
use Rattle.go_productions.specs.Terminals.{first_of, rest_of, name_of}
use Rattle.go_productions.specs.Parts.{skipped}
use Rattle.go_statements.specs.StmtParts.{is_short, short_after, defines_here, define_at, only}
use Rattle.go_productions.proofs.Steps.{fails, lacks}

-- ---- names that stand first

pub names_skipped : (ts : Lexemes) → skipped ts ≡ None → at span_to read_names ts ≡ None
unfolding names_step
names_skipped (lex s (ident n) ∷ lex c comma ∷ ts) h = finish span_to read_names (lex s (ident n) ∷ lex c comma ∷ ts) (lacks (names_skipped ts h))
names_skipped (lex s (ident n) ∷ ts) h = absurd cc
names_skipped ts h = finish span_to read_names ts fails

pub names_behind : (ts r : Lexemes) → skipped ts ≡ Some r → (ns : List (NameAt Span)) × (at span_to read_names ts ≡ Some (ns, r))
unfolding names_step
names_behind (lex s (ident n) ∷ lex c comma ∷ ts) r h =
    let q = names_behind ts r h in
    (name_of (lex s (ident n) ∷ lex c comma ∷ ts) ∷ q.0, finish span_to read_names (lex s (ident n) ∷ lex c comma ∷ ts) (asks span_to q.1 (gives span_to)))
names_behind (lex s (ident n) ∷ ts) r h =
    (name_of (lex s (ident n) ∷ ts) ∷ [], finish span_to read_names (lex s (ident n) ∷ ts) (gives span_to) ∙ ap (λ (vs : Lexemes). Some (name_of (lex s (ident n) ∷ ts) ∷ [], vs)) (let z : ts ≡ r = cc in z))
names_behind _ r h = absurd cc

-- ---- short variable declarations

after_short : (h : Bool) (w r : Lexemes) (ns : List (NameAt Span)) → is_short (first_of r) ≡ true
    → run (at span_to) (simple_names span_to h w (Some (ns, r))) ≡ option_and_then (λ ys. Some (define (span_to w ys.1) ns ys.0, ys.1)) (at span_to (read_exprs h) (rest_of r))
after_short h w (lex s terminal.define ∷ ts) ns e = refl
after_short h w _ ns e = absurd cc

not_short : (h : Bool) (w r : Lexemes) (ns : List (NameAt Span)) → is_short (first_of r) ≡ false → run (at span_to) (simple_names span_to h w (Some (ns, r))) ≡ run (at span_to) (simple_exprs span_to h w)
not_short h w (lex s terminal.define ∷ ts) ns e = absurd cc
not_short h w r ns e = refl

defined : (h : Bool) (ts : Lexemes) (o : Option Lexemes) → skipped ts ≡ o → short_after o ≡ true → at span_to (read_simple h) ts ≡ define_at h ts
unfolding simple_step define_at
defined h ts None e f = absurd cc
defined h ts (Some r) e f =
    let q = names_behind ts r e in
    finish span_to (read_simple h) ts (looks span_to q.1 (record { is = after_short h ts r q.0 f }))
    ∙ ap (option_and_then (λ ns. option_and_then (λ ys. Some (define (span_to ts ys.1) ns.0 ys.0, ys.1)) (at span_to (read_exprs h) (rest_of ns.1)))) (sym q.1)

pub simple_defines : (h : Bool) (ts : Lexemes) → defines_here ts ≡ true → at span_to (read_simple h) ts ≡ define_at h ts
simple_defines h ts f = defined h ts (skipped ts) refl f

plain : (h : Bool) (ts : Lexemes) (o : Option Lexemes) → skipped ts ≡ o → short_after o ≡ false → at span_to (read_simple h) ts ≡ run (at span_to) (simple_exprs span_to h ts)
unfolding simple_step
plain h ts None e f = finish span_to (read_simple h) ts (looks span_to (names_skipped ts e) (record { is = refl }))
plain h ts (Some r) e f =
    let q = names_behind ts r e in
    finish span_to (read_simple h) ts (looks span_to q.1 (record { is = not_short h ts r q.0 f }))

same_answer : (o : Option (Stmt Span × Lexemes)) → option_and_then (λ x. Some (x.0, x.1)) o ≡ o
same_answer (Some x) = refl
same_answer None = refl

pub simple_none : (h : Bool) (ts : Lexemes) → defines_here ts ≡ false → at span_to (read_exprs h) ts ≡ None → at span_to (read_simple h) ts ≡ None
simple_none h ts f e = plain h ts (skipped ts) refl f ∙ (lacks {k = λ xs r. ask (read_simple_after h ts xs) r (λ x r. give x r)} e).is

pub simple_goes : (h : Bool) (ts r : Lexemes) (xs : Exprs Span) → defines_here ts ≡ false → at span_to (read_exprs h) ts ≡ Some (xs, r) → at span_to (read_simple h) ts ≡ at span_to (read_simple_after h ts xs) r
simple_goes h ts r xs f e =
    plain h ts (skipped ts) refl f ∙ (asks span_to {k = λ xs r. ask (read_simple_after h ts xs) r (λ x r. give x r)} e (record { is = same_answer (at span_to (read_simple_after h ts xs) r) })).is

pub define_lost : (h : Bool) (ts : Lexemes) → at span_to read_names ts ≡ None → define_at h ts ≡ None
unfolding define_at
define_lost h ts e = ap (option_and_then (λ ns. option_and_then (λ ys. Some (define (span_to ts ys.1) ns.0 ys.0, ys.1)) (at span_to (read_exprs h) (rest_of ns.1)))) e

pub define_none : (h : Bool) (ts r us : Lexemes) (ns : List (NameAt Span)) → at span_to read_names ts ≡ Some (ns, r) → us ≡ rest_of r → at span_to (read_exprs h) us ≡ None → define_at h ts ≡ None
unfolding define_at
define_none h ts r us ns e u a =
    ap (option_and_then (λ ns. option_and_then (λ ys. Some (define (span_to ts ys.1) ns.0 ys.0, ys.1)) (at span_to (read_exprs h) (rest_of ns.1)))) e
    ∙ ap (option_and_then (λ ys. Some (define (span_to ts ys.1) ns ys.0, ys.1))) (ap (at span_to (read_exprs h)) (sym u) ∙ a)

pub define_some : (h : Bool) (ts r us q : Lexemes) (ns : List (NameAt Span)) (ys : Exprs Span) → at span_to read_names ts ≡ Some (ns, r) → us ≡ rest_of r → at span_to (read_exprs h) us ≡ Some (ys, q) → define_at h ts ≡ Some (define (span_to ts q) ns ys, q)
unfolding define_at
define_some h ts r us q ns ys e u a =
    ap (option_and_then (λ ns. option_and_then (λ ys. Some (define (span_to ts ys.1) ns.0 ys.0, ys.1)) (at span_to (read_exprs h) (rest_of ns.1)))) e
    ∙ ap (option_and_then (λ ys. Some (define (span_to ts ys.1) ns ys.0, ys.1))) (ap (at span_to (read_exprs h)) (sym u) ∙ a)

-- ---- after expressions

pub assign_none : (h : Bool) (w ts us : Lexemes) (xs : Exprs Span) (op : Option BinOp) → first_of ts ≡ code.Assign op → us ≡ rest_of ts → at span_to (read_exprs h) us ≡ None → at span_to (read_simple_after h w xs) ts ≡ None
unfolding simple_after_step
assign_none h w (lex s (terminal.assign o) ∷ ts) us xs op f u a = finish span_to (read_simple_after h w xs) (lex s (terminal.assign o) ∷ ts) (lacks (ap (at span_to (read_exprs h)) (sym u) ∙ a))
assign_none h w _ us xs op f u a = absurd cc

pub assign_some : (h : Bool) (w ts us r : Lexemes) (xs ys : Exprs Span) (op : Option BinOp) → first_of ts ≡ code.Assign op → us ≡ rest_of ts → at span_to (read_exprs h) us ≡ Some (ys, r) → at span_to (read_simple_after h w xs) ts ≡ Some (assign (span_to w r) xs op ys, r)
unfolding simple_after_step
assign_some h w (lex s (terminal.assign o) ∷ ts) us r xs ys op f u a =
    finish span_to (read_simple_after h w xs) (lex s (terminal.assign o) ∷ ts) (asks span_to (ap (at span_to (read_exprs h)) (sym u) ∙ a) (gives span_to))
    ∙ ap (λ (z : Option BinOp). Some (assign (span_to w r) xs z ys, r)) (let z : o ≡ op = cc in z)
assign_some h w _ us r xs ys op f u a = absurd cc

unassigned : (h : Bool) (w ts : Lexemes) (xs : Exprs Span) (k : Terminal) → first_of ts ≡ k → ((op : Option BinOp) → k ≢ code.Assign op) → at span_to (read_simple_after h w xs) ts ≡ run (at span_to) (one_expr span_to w xs ts)
unfolding simple_after_step
unassigned h w (lex s (terminal.assign o) ∷ ts) xs k f n = absurd (n o (sym f))
unassigned h w ts xs k f n = finish span_to (read_simple_after h w xs) ts (record { is = refl })

two : (x : source.Expr) (xs : List source.Expr) (y : source.Expr) → only (exprs_from (map expr_of (x ∷ (xs ++ y ∷ [])))) ≡ None
two x [] y = refl
two x (z ∷ xs) y = refl

pub only_several : (all front : List source.Expr) (y : source.Expr) → all ≡ front ++ y ∷ [] → front ≢ [] → only (exprs_from (map expr_of all)) ≡ None
only_several all [] y p n = absurd (n refl)
only_several all (x ∷ xs) y p n = ap (λ (us : List source.Expr). only (exprs_from (map expr_of us))) p ∙ two x xs y

pub only_popped : (all front : List source.Expr) (last : Option source.Expr) (size left : ℕ) → all ≡ front ++ option_to_list last → MatchOption last ((size ≡ 0) × (left ≡ 0)) (λ _. left + 1 ≡ size) → left ≡ length front → left ≢ 0 → only (exprs_from (map expr_of all)) ≡ None
only_popped all front (Some y) size left p m e n = only_several all front y p (λ q. n (e ∙ ap (λ (us : List source.Expr). length us) q))
only_popped all front None size left p m e n = absurd (n m.1)

several : (w ts : Lexemes) (xs : Exprs Span) → only xs ≡ None → run (at span_to) (one_expr span_to w xs ts) ≡ None
several w ts no_exprs e = refl
several w ts (expr_and x no_exprs) e = absurd cc
several w ts (expr_and x (expr_and y ys)) e = refl

single : (w ts : Lexemes) (xs : Exprs Span) (x : Expr Span) → only xs ≡ Some x → run (at span_to) (one_expr span_to w xs ts) ≡ run (at span_to) (one_after span_to w x ts)
single w ts no_exprs x e = absurd cc
single w ts (expr_and y no_exprs) x e = ap (λ (z : Expr Span). run (at span_to) (one_after span_to w z ts)) (let z : y ≡ x = cc in z)
single w ts (expr_and y (expr_and z zs)) x e = absurd cc

pub after_several : (h : Bool) (w ts : Lexemes) (xs : Exprs Span) (k : Terminal) → first_of ts ≡ k → ((op : Option BinOp) → k ≢ code.Assign op) → only xs ≡ None → at span_to (read_simple_after h w xs) ts ≡ None
after_several h w ts xs k f n e = unassigned h w ts xs k f n ∙ several w ts xs e

pub after_up : (h : Bool) (w ts us : Lexemes) (xs : Exprs Span) (x : Expr Span) → first_of ts ≡ code.Increment → us ≡ rest_of ts → only xs ≡ Some x → at span_to (read_simple_after h w xs) ts ≡ Some (step (span_to w us) x true, us)
unfolding simple_after_step
after_up h w (lex s increment ∷ ts) us xs x f u e =
    finish span_to (read_simple_after h w xs) (lex s increment ∷ ts) (record { is = refl }) ∙ single w (lex s increment ∷ ts) xs x e ∙ ap (λ (z : Lexemes). Some (step (span_to w z) x true, z)) (sym u)
after_up h w _ us xs x f u e = absurd cc

pub after_down : (h : Bool) (w ts us : Lexemes) (xs : Exprs Span) (x : Expr Span) → first_of ts ≡ code.Decrement → us ≡ rest_of ts → only xs ≡ Some x → at span_to (read_simple_after h w xs) ts ≡ Some (step (span_to w us) x false, us)
unfolding simple_after_step
after_down h w (lex s decrement ∷ ts) us xs x f u e =
    finish span_to (read_simple_after h w xs) (lex s decrement ∷ ts) (record { is = refl }) ∙ single w (lex s decrement ∷ ts) xs x e ∙ ap (λ (z : Lexemes). Some (step (span_to w z) x false, z)) (sym u)
after_down h w _ us xs x f u e = absurd cc

not_stepped : (w ts : Lexemes) (x : Expr Span) (k : Terminal) → first_of ts ≡ k → k ≢ code.Increment → k ≢ code.Decrement → run (at span_to) (one_after span_to w x ts) ≡ Some (eval (span_to w ts) x, ts)
not_stepped w (lex s increment ∷ ts) x k f a b = absurd (a (sym f))
not_stepped w (lex s decrement ∷ ts) x k f a b = absurd (b (sym f))
not_stepped w ts x k f a b = refl

pub after_other : (h : Bool) (w ts : Lexemes) (xs : Exprs Span) (x : Expr Span) (k : Terminal) → first_of ts ≡ k → ((op : Option BinOp) → k ≢ code.Assign op) → k ≢ code.Increment → k ≢ code.Decrement → only xs ≡ Some x → at span_to (read_simple_after h w xs) ts ≡ Some (eval (span_to w ts) x, ts)
after_other h w ts xs x k f n a b e = unassigned h w ts xs k f n ∙ single w ts xs x e ∙ not_stepped w ts x k f a b
