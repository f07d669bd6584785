-- What the reader gives for a `for` statement.
use Rattle.std.proofs.Common.{◌≡◌, ◌≢◌, true, false, List, ◌∷◌, Option, Some, None, refl, sym, ap, ◌∙◌}
use Rattle.std.specs.Prelude.{option_and_then}
use Rattle.go_tree.specs.declared.spans.Span.{Span}
use Rattle.go_tree.specs.Tree.{NameAt, Expr, Exprs, ExprOption, no_expr, some_expr, Stmt, Stmts, StmtOption, no_stmt, some_stmt, eval, define, for_, range_, RangeLeft, nothing, assigns, defines}
use Rattle.go_tree.specs.GoWords.Terminals as terminal
use Rattle.go_tree.specs.GoWords.Terminals.{lex, assign, semicolon, brace, key_for, key_range}
use Rattle.go_read.specs.SpellsSpans.{span_to}
use Rattle.go_read.specs.SpellsTypes.{Lexemes}
use Rattle.go_read.specs.Goals.{Clause, plain_clause, range_clause, read_names, read_operand, read_exprs, read_simple, read_simple_after, read_clause, read_stmt, read_block}
use Rattle.go_read.specs.Programs.{give, ask, run, after_semicolon}
use Rattle.go_read.specs.ReadStmts.{stmt_step, clause_step, clause_names, clause_exprs, clause_after, for_first, for_body, for_post, for_test, for_eval, for_after}
use Rattle.go_read.specs.Reading.{at}
use Rattle.go_read.proofs.Finds.{gives, asks, looks, finish}
use Rattle.go_read.proofs.Runs.{some_is}
use Rattle.go_tree.specs.declared.go_words.terminals.Terminal.{Terminal}
use Rattle.go_tree.specs.declared.go_words.terminals.Terminal.TheVariants as code
use Rattle.go_productions.specs.Terminals.{first_of, rest_of}
use Rattle.go_productions.specs.Parts.{skipped}
use Rattle.go_tree.specs.Parts.{evaluated}
use Rattle.go_statements.specs.StmtParts.{is_short, short_after, defines_here, range_here, for_body_at, for_post_at, for_test_at, for_plain_at, range_at, for_clause_at}
use Rattle.go_statements.proofs.SimpleArms.{names_skipped, names_behind}
use Rattle.go_productions.proofs.Steps.{lacks, no_semicolon, on_semicolon}

-- ---- the keyword

for_is : (ts us : Lexemes) → first_of ts ≡ code.For → us ≡ rest_of ts → at span_to read_stmt ts ≡ run (at span_to) (for_first span_to ts us)
unfolding stmt_step
for_is (lex s key_for ∷ ts) us h u = finish span_to read_stmt (lex s key_for ∷ ts) (record { is = refl }) ∙ ap (λ (vs : Lexemes). run (at span_to) (for_first span_to (lex s key_for ∷ ts) vs)) (sym u)
for_is _ us h u = absurd cc

pub for_endless : (ts us : Lexemes) → first_of ts ≡ code.For → us ≡ rest_of ts → first_of us ≡ code.Brace → at span_to read_stmt ts ≡ for_body_at ts no_stmt no_expr no_stmt us
unfolding for_body_at
for_endless ts (lex b brace ∷ us) h u f = for_is ts (lex b brace ∷ us) h u
for_endless ts _ h u f = absurd cc

pub for_no_first : (ts us vs : Lexemes) → first_of ts ≡ code.For → us ≡ rest_of ts → first_of us ≡ code.Semicolon → vs ≡ rest_of us → at span_to read_stmt ts ≡ for_test_at ts no_stmt vs
unfolding for_test_at
for_no_first ts (lex s semicolon ∷ us) vs h u f v = for_is ts (lex s semicolon ∷ us) h u ∙ ap (λ (ws : Lexemes). run (at span_to) (for_test span_to ts no_stmt ws)) (sym v)
for_no_first ts _ vs h u f v = absurd cc

pub for_range : (ts us vs : Lexemes) → first_of ts ≡ code.For → us ≡ rest_of ts → first_of us ≡ code.Range → vs ≡ rest_of us → at span_to read_stmt ts ≡ range_at ts nothing vs
unfolding range_at clause_step
for_range ts (lex s key_range ∷ us) vs h u f v =
    for_is ts (lex s key_range ∷ us) h u
    ∙ (asks span_to {k = λ c r. for_after span_to ts c r} (finish span_to read_clause (lex s key_range ∷ us) (gives span_to)) (record { is = refl })).is
    ∙ ap (λ (ws : Lexemes). run (at span_to) (for_after span_to ts (range_clause nothing) ws)) (sym v)
for_range ts _ vs h u f v = absurd cc

pub for_clause : (ts us : Lexemes) (k : Terminal) → first_of ts ≡ code.For → us ≡ rest_of ts → first_of us ≡ k → k ≢ code.Brace → k ≢ code.Semicolon → at span_to read_stmt ts ≡ for_clause_at ts us
unfolding for_clause_at
for_clause ts (lex b brace ∷ us) k h u f a c = absurd (a (sym f))
for_clause ts (lex b semicolon ∷ us) k h u f a c = absurd (c (sym f))
for_clause ts us k h u f a c = for_is ts us h u

-- ---- the clause

-- names and `:=` before `range`, or before values
after_short : (ts r us : Lexemes) (ns : List (NameAt Span)) → is_short (first_of r) ≡ true → us ≡ rest_of r → first_of us ≡ code.Range → run (at span_to) (clause_names span_to ts (Some (ns, r))) ≡ Some (range_clause (defines ns), rest_of us)
after_short ts (lex s terminal.define ∷ (lex c key_range ∷ r)) us ns e u f = ap (λ (vs : Lexemes). Some (range_clause (defines ns), rest_of vs)) (sym u)
after_short ts (lex s terminal.define ∷ r) us ns e u f = let z = sym f ∙ ap first_of u in absurd cc
after_short ts _ us ns e u f = absurd cc

after_value : (ts r us : Lexemes) (ns : List (NameAt Span)) (k : Terminal) → is_short (first_of r) ≡ true → us ≡ rest_of r → first_of us ≡ k → k ≢ code.Range
    → run (at span_to) (clause_names span_to ts (Some (ns, r))) ≡ option_and_then {U = Clause Span × Lexemes} (λ ys. Some (plain_clause (define (span_to ts ys.1) ns ys.0), ys.1)) (at span_to (read_exprs true) us)
after_value ts (lex s terminal.define ∷ (lex c key_range ∷ r)) us ns k e u f n = absurd (n (sym f ∙ ap first_of u))
after_value ts (lex s terminal.define ∷ r) us ns k e u f n = ap (λ (vs : Lexemes). option_and_then {U = Clause Span × Lexemes} (λ ys. Some (plain_clause (define (span_to ts ys.1) ns ys.0), ys.1)) (at span_to (read_exprs true) vs)) (sym u)
after_value ts _ us ns k e u f n = absurd cc

-- where `range` is not first, names are looked at
clause_is : (ts : Lexemes) (k : Terminal) (o : Option (List (NameAt Span) × Lexemes)) → first_of ts ≡ k → k ≢ code.Range → at span_to read_names ts ≡ o → at span_to read_clause ts ≡ run (at span_to) (clause_names span_to ts o)
unfolding clause_step
clause_is (lex s key_range ∷ ts) k o f n e = absurd (n (sym f))
clause_is ts k o f n e = finish span_to read_clause ts (looks span_to e (record { is = refl }))

short_follows : (ts r : Lexemes) (ns : List (NameAt Span)) (o : Option Lexemes) → skipped ts ≡ o → short_after o ≡ true → at span_to read_names ts ≡ Some (ns, r) → is_short (first_of r) ≡ true
short_follows ts r ns None e f a = absurd cc
short_follows ts r ns (Some q) e f a =
    let p = names_behind ts q e in
    let y = sym p.1 ∙ a in
    let z : q ≡ r = ap (λ (x : List (NameAt Span) × Lexemes). x.1) (some_is (p.0, q) (ns, r) y) in
    ap (λ (us : Lexemes). is_short (first_of us)) (sym z) ∙ f

-- where names and `:=` stand, the names are read
named : (ts : Lexemes) (o : Option Lexemes) → skipped ts ≡ o → short_after o ≡ true → at span_to read_names ts ≡ None → ⊥
named ts None e f a = absurd cc
named ts (Some q) e f a = let p = names_behind ts q e in absurd (let z = sym p.1 ∙ a in cc)

pub clause_lost : (w ts : Lexemes) → at span_to read_names ts ≡ None → defines_here ts ≡ true → for_clause_at w ts ≡ None
clause_lost w ts e f = absurd (named ts (skipped ts) refl f e)

pub clause_range : (w ts r us vs : Lexemes) (ns : List (NameAt Span)) → first_of ts ≢ code.Range → defines_here ts ≡ true → at span_to read_names ts ≡ Some (ns, r) → us ≡ rest_of r → first_of us ≡ code.Range → vs ≡ rest_of us → for_clause_at w ts ≡ range_at w (defines ns) vs
unfolding for_clause_at range_at
clause_range w ts r us vs ns n d e u f v =
    let read = clause_is ts (first_of ts) (Some (ns, r)) refl n e ∙ after_short ts r us ns (short_follows ts r ns (skipped ts) refl d e) u f in
    (asks span_to {k = λ c r. for_after span_to w c r} read (record { is = refl })).is ∙ ap (λ (ws : Lexemes). run (at span_to) (for_after span_to w (range_clause (defines ns)) ws)) (sym v)

pub clause_valueless : (w ts r us : Lexemes) (ns : List (NameAt Span)) (k : Terminal) → first_of ts ≢ code.Range → defines_here ts ≡ true → at span_to read_names ts ≡ Some (ns, r) → us ≡ rest_of r → first_of us ≡ k → k ≢ code.Range → at span_to (read_exprs true) us ≡ None → for_clause_at w ts ≡ None
unfolding for_clause_at
clause_valueless w ts r us ns k n d e u f m a =
    let read = clause_is ts (first_of ts) (Some (ns, r)) refl n e ∙ after_value ts r us ns k (short_follows ts r ns (skipped ts) refl d e) u f m in
    (lacks {k = λ c r. for_after span_to w c r} (read ∙ ap (option_and_then {U = Clause Span × Lexemes} (λ ys. Some (plain_clause (define (span_to ts ys.1) ns ys.0), ys.1))) a)).is

pub clause_defines : (w ts r us q : Lexemes) (ns : List (NameAt Span)) (ys : Exprs Span) (k : Terminal) → first_of ts ≢ code.Range → defines_here ts ≡ true → at span_to read_names ts ≡ Some (ns, r) → us ≡ rest_of r → first_of us ≡ k → k ≢ code.Range → at span_to (read_exprs true) us ≡ Some (ys, q)
    → for_clause_at w ts ≡ for_plain_at w (define (span_to ts q) ns ys) q
unfolding for_clause_at for_plain_at
clause_defines w ts r us q ns ys k n d e u f m a =
    let read = clause_is ts (first_of ts) (Some (ns, r)) refl n e ∙ after_value ts r us ns k (short_follows ts r ns (skipped ts) refl d e) u f m in
    (asks span_to {k = λ c r. for_after span_to w c r} (read ∙ ap (option_and_then {U = Clause Span × Lexemes} (λ ys. Some (plain_clause (define (span_to ts ys.1) ns ys.0), ys.1))) a) (record { is = refl })).is

not_short : (ts r : Lexemes) (ns : List (NameAt Span)) → is_short (first_of r) ≡ false → run (at span_to) (clause_names span_to ts (Some (ns, r))) ≡ run (at span_to) (clause_exprs span_to ts)
not_short ts (lex s terminal.define ∷ r) ns e = absurd cc
not_short ts r ns e = refl

plain : (ts : Lexemes) (o : Option Lexemes) → skipped ts ≡ o → short_after o ≡ false → first_of ts ≢ code.Range → at span_to read_clause ts ≡ run (at span_to) (clause_exprs span_to ts)
plain ts None e f n = clause_is ts (first_of ts) None refl n (names_skipped ts e)
plain ts (Some r) e f n = let q = names_behind ts r e in clause_is ts (first_of ts) (Some (q.0, r)) refl n q.1 ∙ not_short ts r q.0 f

pub clause_exprs_none : (w ts : Lexemes) → first_of ts ≢ code.Range → defines_here ts ≡ false → at span_to (read_exprs true) ts ≡ None → for_clause_at w ts ≡ None
unfolding for_clause_at
clause_exprs_none w ts n d a =
    (lacks {k = λ c r. for_after span_to w c r} (plain ts (skipped ts) refl d n ∙ (lacks {k = λ xs r. clause_after span_to ts xs r} a).is)).is

pub clause_assigns : (w ts r us vs : Lexemes) (xs : Exprs Span) → first_of ts ≢ code.Range → defines_here ts ≡ false → at span_to (read_exprs true) ts ≡ Some (xs, r) → range_here r ≡ true → us ≡ rest_of r → vs ≡ rest_of us → for_clause_at w ts ≡ range_at w (assigns xs) vs
unfolding for_clause_at range_at
clause_assigns w ts (lex s (assign None) ∷ lex c key_range ∷ r) us vs xs n d a f u v =
    let read = plain ts (skipped ts) refl d n ∙ (asks span_to {k = λ xs r. clause_after span_to ts xs r} a (gives span_to)).is in
    (asks span_to {k = λ c r. for_after span_to w c r} read (record { is = refl })).is ∙ ap (λ (ws : Lexemes). run (at span_to) (for_after span_to w (range_clause (assigns xs)) ws)) (sym (v ∙ ap rest_of u))
clause_assigns w ts _ us vs xs n d a f u v = absurd cc

no_range : (ts r : Lexemes) (xs : Exprs Span) → range_here r ≡ false → run (at span_to) (clause_after span_to ts xs r) ≡ option_and_then {U = Clause Span × Lexemes} (λ x. Some (plain_clause x.0, x.1)) (at span_to (read_simple_after true ts xs) r)
no_range ts (lex s (assign None) ∷ lex c key_range ∷ r) xs e = absurd cc
no_range ts r xs e = refl

pub clause_simple_none : (w ts r : Lexemes) (xs : Exprs Span) → first_of ts ≢ code.Range → defines_here ts ≡ false → at span_to (read_exprs true) ts ≡ Some (xs, r) → range_here r ≡ false → at span_to (read_simple_after true ts xs) r ≡ None → for_clause_at w ts ≡ None
unfolding for_clause_at
clause_simple_none w ts r xs n d a f b =
    let read = plain ts (skipped ts) refl d n ∙ (asks span_to {k = λ xs r. clause_after span_to ts xs r} a (record { is = no_range ts r xs f })).is in
    (lacks {k = λ c r. for_after span_to w c r} (read ∙ ap (option_and_then {U = Clause Span × Lexemes} (λ x. Some (plain_clause x.0, x.1))) b)).is

pub clause_simple : (w ts r q : Lexemes) (xs : Exprs Span) (x : Stmt Span) → first_of ts ≢ code.Range → defines_here ts ≡ false → at span_to (read_exprs true) ts ≡ Some (xs, r) → range_here r ≡ false → at span_to (read_simple_after true ts xs) r ≡ Some (x, q) → for_clause_at w ts ≡ for_plain_at w x q
unfolding for_clause_at for_plain_at
clause_simple w ts r q xs x n d a f b =
    let read = plain ts (skipped ts) refl d n ∙ (asks span_to {k = λ xs r. clause_after span_to ts xs r} a (record { is = no_range ts r xs f })).is in
    (asks span_to {k = λ c r. for_after span_to w c r} (read ∙ ap (option_and_then {U = Clause Span × Lexemes} (λ x. Some (plain_clause x.0, x.1))) b) (record { is = refl })).is

-- ---- after the first statement

pub plain_first : (w ts us : Lexemes) (x : Stmt Span) → first_of ts ≡ code.Semicolon → us ≡ rest_of ts → for_plain_at w x ts ≡ for_test_at w (some_stmt x) us
unfolding for_plain_at for_test_at
plain_first w (lex s semicolon ∷ ts) us x f u = ap (λ (vs : Lexemes). run (at span_to) (for_test span_to w (some_stmt x) vs)) (sym u)
plain_first w _ us x f u = absurd cc

not_first : (w ts : Lexemes) (x : Stmt Span) (k : Terminal) → first_of ts ≡ k → k ≢ code.Semicolon → for_plain_at w x ts ≡ run (at span_to) (for_eval span_to w x ts)
unfolding for_plain_at
not_first w (lex s semicolon ∷ ts) x k f n = absurd (n (sym f))
not_first w ts x k f n = refl

eval_on : (w ts : Lexemes) (x : Stmt Span) (e : Expr Span) → evaluated x ≡ Some e → run (at span_to) (for_eval span_to w x ts) ≡ run (at span_to) (for_body span_to w no_stmt (some_expr e) no_stmt ts)
eval_on w ts (eval s y) e h = ap (λ (z : Expr Span). run (at span_to) (for_body span_to w no_stmt (some_expr z) no_stmt ts)) (let z : y ≡ e = cc in z)
eval_on w ts _ e h = absurd cc

eval_off : (w ts : Lexemes) (x : Stmt Span) → evaluated x ≡ None → run (at span_to) (for_eval span_to w x ts) ≡ None
eval_off w ts (eval s y) h = absurd cc
eval_off w ts _ h = refl

pub plain_eval : (w ts : Lexemes) (x : Stmt Span) (e : Expr Span) (k : Terminal) → first_of ts ≡ k → k ≢ code.Semicolon → evaluated x ≡ Some e → for_plain_at w x ts ≡ for_body_at w no_stmt (some_expr e) no_stmt ts
unfolding for_body_at
plain_eval w ts x e k f n h = not_first w ts x k f n ∙ eval_on w ts x e h

pub plain_stop : (w ts : Lexemes) (x : Stmt Span) (k : Terminal) → first_of ts ≡ k → k ≢ code.Semicolon → evaluated x ≡ None → for_plain_at w x ts ≡ None
plain_stop w ts x k f n h = not_first w ts x k f n ∙ eval_off w ts x h

-- ---- the test

pub test_absent : (w ts us : Lexemes) (i : StmtOption Span) → first_of ts ≡ code.Semicolon → us ≡ rest_of ts → for_test_at w i ts ≡ for_post_at w i no_expr us
unfolding for_test_at for_post_at
test_absent w (lex s semicolon ∷ ts) us i f u = ap (λ (vs : Lexemes). run (at span_to) (for_post span_to w i no_expr vs)) (sym u)
test_absent w _ us i f u = absurd cc

tested : (w ts : Lexemes) (i : StmtOption Span) (k : Terminal) → first_of ts ≡ k → k ≢ code.Semicolon → for_test_at w i ts ≡ run (at span_to) (ask (read_operand true) ts (λ e r. after_semicolon r (λ r. for_post span_to w i (some_expr e) r)))
unfolding for_test_at
tested w (lex s semicolon ∷ ts) i k f n = absurd (n (sym f))
tested w ts i k f n = refl

pub test_none : (w ts : Lexemes) (i : StmtOption Span) (k : Terminal) → first_of ts ≡ k → k ≢ code.Semicolon → at span_to (read_operand true) ts ≡ None → for_test_at w i ts ≡ None
test_none w ts i k f n a = tested w ts i k f n ∙ (lacks {k = λ e r. after_semicolon r (λ r. for_post span_to w i (some_expr e) r)} a).is

pub test_stop : (w ts r : Lexemes) (i : StmtOption Span) (e : Expr Span) (k l : Terminal) → first_of ts ≡ k → k ≢ code.Semicolon → at span_to (read_operand true) ts ≡ Some (e, r) → first_of r ≡ l → l ≢ code.Semicolon → for_test_at w i ts ≡ None
test_stop w ts r i e k l f n a g m = tested w ts i k f n ∙ (asks span_to {k = λ e r. after_semicolon r (λ r. for_post span_to w i (some_expr e) r)} a (no_semicolon r l (λ r. for_post span_to w i (some_expr e) r) g m)).is

pub test_some : (w ts r us : Lexemes) (i : StmtOption Span) (e : Expr Span) (k : Terminal) → first_of ts ≡ k → k ≢ code.Semicolon → at span_to (read_operand true) ts ≡ Some (e, r) → first_of r ≡ code.Semicolon → us ≡ rest_of r → for_test_at w i ts ≡ for_post_at w i (some_expr e) us
unfolding for_post_at
test_some w ts r us i e k f n a g u =
    tested w ts i k f n ∙ (asks span_to {k = λ e r. after_semicolon r (λ r. for_post span_to w i (some_expr e) r)} a (on_semicolon r us (λ r. for_post span_to w i (some_expr e) r) g u (record { is = refl }))).is

-- ---- the last statement and the body

pub post_absent : (w ts : Lexemes) (i : StmtOption Span) (t : ExprOption Span) → first_of ts ≡ code.Brace → for_post_at w i t ts ≡ for_body_at w i t no_stmt ts
unfolding for_post_at for_body_at
post_absent w (lex s brace ∷ ts) i t f = refl
post_absent w _ i t f = absurd cc

pub post_none : (w ts : Lexemes) (i : StmtOption Span) (t : ExprOption Span) (k : Terminal) → first_of ts ≡ k → k ≢ code.Brace → at span_to (read_simple true) ts ≡ None → for_post_at w i t ts ≡ None
unfolding for_post_at
post_none w (lex s brace ∷ ts) i t k f n a = absurd (n (sym f))
post_none w ts i t k f n a = (lacks {k = λ x r. for_body span_to w i t (some_stmt x) r} a).is

pub post_some : (w ts r : Lexemes) (i : StmtOption Span) (t : ExprOption Span) (x : Stmt Span) (k : Terminal) → first_of ts ≡ k → k ≢ code.Brace → at span_to (read_simple true) ts ≡ Some (x, r) → for_post_at w i t ts ≡ for_body_at w i t (some_stmt x) r
unfolding for_post_at for_body_at
post_some w (lex s brace ∷ ts) r i t x k f n a = absurd (n (sym f))
post_some w ts r i t x k f n a = (asks span_to {k = λ x r. for_body span_to w i t (some_stmt x) r} a (record { is = refl })).is

pub body_none : (w ts : Lexemes) (i : StmtOption Span) (t : ExprOption Span) (p : StmtOption Span) → at span_to read_block ts ≡ None → for_body_at w i t p ts ≡ None
unfolding for_body_at
body_none w ts i t p a = (lacks {k = λ b r. give (for_ (span_to w r) i t p b.0 b.1) r} a).is

pub body_some : (w ts r : Lexemes) (i : StmtOption Span) (t : ExprOption Span) (p : StmtOption Span) (s : Span) (b : Stmts Span) → at span_to read_block ts ≡ Some ((s, b), r) → for_body_at w i t p ts ≡ Some (for_ (span_to w r) i t p s b, r)
unfolding for_body_at
body_some w ts r i t p s b a = (asks span_to {k = λ b r. give (for_ (span_to w r) i t p b.0 b.1) r} a (gives span_to)).is

-- ---- `range`

pub range_none : (w ts : Lexemes) (left : RangeLeft Span) → at span_to (read_operand true) ts ≡ None → range_at w left ts ≡ None
unfolding range_at
range_none w ts left a = (lacks {k = λ e r. ask read_block r (λ b r. give (range_ (span_to w r) left e b.0 b.1) r)} a).is

pub range_open : (w ts r : Lexemes) (left : RangeLeft Span) (e : Expr Span) → at span_to (read_operand true) ts ≡ Some (e, r) → at span_to read_block r ≡ None → range_at w left ts ≡ None
unfolding range_at
range_open w ts r left e a b = (asks span_to {k = λ e r. ask read_block r (λ b r. give (range_ (span_to w r) left e b.0 b.1) r)} a (lacks b)).is

pub range_some : (w ts r q : Lexemes) (left : RangeLeft Span) (e : Expr Span) (s : Span) (b : Stmts Span) → at span_to (read_operand true) ts ≡ Some (e, r) → at span_to read_block r ≡ Some ((s, b), q) → range_at w left ts ≡ Some (range_ (span_to w q) left e s b, q)
unfolding range_at
range_some w ts r q left e s b a c = (asks span_to {k = λ e r. ask read_block r (λ b r. give (range_ (span_to w r) left e b.0 b.1) r)} a (asks span_to c (gives span_to))).is
