-- What the reader gives for statements and blocks.
use Rattle.std.proofs.Common.{◌≡◌, ◌≢◌, ◌≤◌, ℕ, arith, Bool, true, false, List, [], ◌∷◌, ◌++◌, map, Option, Some, None, refl, sym, ap, ◌∙◌}
use Rattle.std.specs.Prelude.{option_and_then}
use Rattle.go_tree.specs.declared.spans.Span.{Span}
use Rattle.go_tree.specs.declared.stmts.Stmt as source
use Rattle.go_tree.specs.View.{stmt_of}
use Rattle.go_tree.specs.Lists.{stmts_from}
use Rattle.go_tree.specs.Tree.{Expr, Exprs, no_exprs, call, Stmt, Stmts, no_stmts, stmt_and, ValueSpecs, const_decl, var_decl, empty, return_, break_, continue_, inner, defer, label}
use Rattle.go_tree.specs.GoWords.Terminals.{lex, ident, colon, semicolon, brace, end_brace, key_break, key_case, key_const, key_continue, key_default, key_defer, key_for, key_if, key_return, key_switch, key_var}
use Rattle.go_read.specs.SpellsSpans.{span_to}
use Rattle.go_read.specs.SpellsTypes.{Lexemes}
use Rattle.go_read.specs.Spells.{is_empty, SpellsStmt, SpellsSimple, empty_rule, simple_rule, eval_rule, increment_rule, decrement_rule, assign_rule, define_rule}
use Rattle.go_read.specs.Goals.{read_decl, read_expr, read_exprs, read_simple, read_stmt, read_stmts, read_block}
use Rattle.go_read.specs.Programs.{give, ask, run}
use Rattle.go_read.specs.ReadStmts.{stmt_step, stmts_step, stmts_after, return_step, defer_after, word_stmt}
use Rattle.go_read.specs.Reading.{at}
use Rattle.go_read.proofs.Finds.{Runs, gives, asks, passes, finish}
use Rattle.go_read.proofs.Whole.{stmt_spelled}
use Rattle.go_tree.specs.declared.go_words.terminals.Terminal.{Terminal}
use Rattle.go_tree.specs.declared.go_words.terminals.Terminal.TheVariants as code
use Rattle.go_productions.specs.Terminals.{first_of, rest_of, name_of}
use Rattle.go_productions.specs.Parts.{onto, in_front, const_decl_at, var_decl_at}
use Rattle.go_statements.specs.StmtParts.{closes, ends_stmts, is_bare_call}
use Rattle.go_productions.proofs.Fronts.{front_none, front_some, front_push}
use Rattle.go_productions.proofs.Steps.{lacks, goes_on}
use Rattle.go_statements.proofs.DeclArms.{const_decl_none, const_decl_some, var_decl_none, var_decl_some}

-- ---- lists of statements

onto_stmts : (xs : List (Stmt Span)) → onto stmt_and xs no_stmts ≡ stmts_from xs
onto_stmts [] = refl
onto_stmts (x ∷ xs) = ap (stmt_and x) (onto_stmts xs)

no_stmt_here : (ts : Lexemes) → ends_stmts (first_of ts) ≡ true → at span_to read_stmts ts ≡ Some (no_stmts, ts)
unfolding stmts_step
no_stmt_here (lex s end_brace ∷ ts) h = finish span_to read_stmts (lex s end_brace ∷ ts) (gives span_to)
no_stmt_here (lex s key_case ∷ ts) h = finish span_to read_stmts (lex s key_case ∷ ts) (gives span_to)
no_stmt_here (lex s key_default ∷ ts) h = finish span_to read_stmts (lex s key_default ∷ ts) (gives span_to)
no_stmt_here _ h = absurd cc

open_stmts : (ts : Lexemes) → ends_stmts (first_of ts) ≡ false → at span_to read_stmts ts ≡ run (at span_to) (ask read_stmt ts (λ x r. stmts_after span_to x r))
unfolding stmts_step
open_stmts (lex s end_brace ∷ ts) h = absurd cc
open_stmts (lex s key_case ∷ ts) h = absurd cc
open_stmts (lex s key_default ∷ ts) h = absurd cc
open_stmts ts h = finish span_to read_stmts ts (record { is = refl })

pub stmts_end : (front : List (Stmt Span)) (ts : Lexemes) (ws : Lexemes) → in_front stmt_and front (at span_to read_stmts ts) ≡ at span_to read_stmts ws → ends_stmts (first_of ts) ≡ true → at span_to read_stmts ws ≡ Some (stmts_from front, ts)
stmts_end front ts ws i h = front_some stmt_and front (at span_to read_stmts ts) (at span_to read_stmts ws) no_stmts ts i (no_stmt_here ts h) ∙ ap (λ (xs : Stmts Span). Some (xs, ts)) (onto_stmts front)

pub stmts_lost : (front : List (Stmt Span)) (ts : Lexemes) (ws : Lexemes) → in_front stmt_and front (at span_to read_stmts ts) ≡ at span_to read_stmts ws → ends_stmts (first_of ts) ≡ false → at span_to read_stmt ts ≡ None → at span_to read_stmts ws ≡ None
stmts_lost front ts ws i h a = front_none stmt_and front (at span_to read_stmts ts) (at span_to read_stmts ws) i (open_stmts ts h ∙ (lacks {k = λ x r. stmts_after span_to x r} a).is)

stmts_and : (ts r us : Lexemes) (x : Stmt Span) → ends_stmts (first_of ts) ≡ false → at span_to read_stmt ts ≡ Some (x, r) → first_of r ≡ code.Semicolon → us ≡ rest_of r → at span_to read_stmts ts ≡ in_front stmt_and (x ∷ []) (at span_to read_stmts us)
stmts_and ts (lex c semicolon ∷ r) us x h a f u =
    open_stmts ts h ∙ (asks span_to {k = λ x r. stmts_after span_to x r} a (goes_on {g = read_stmts} {ts = r} stmt_and x)).is ∙ ap (λ (vs : Lexemes). in_front stmt_and (x ∷ []) (at span_to read_stmts vs)) (sym u)
stmts_and ts _ us x h a f u = absurd cc

pub stmts_more : (xs ys : List source.Stmt) (x : source.Stmt) (ts r us : Lexemes) (ws : Lexemes) → in_front stmt_and (map stmt_of xs) (at span_to read_stmts ts) ≡ at span_to read_stmts ws → ys ≡ xs ++ x ∷ [] → ends_stmts (first_of ts) ≡ false → at span_to read_stmt ts ≡ Some (stmt_of x, r) → first_of r ≡ code.Semicolon → us ≡ rest_of r
    → in_front stmt_and (map stmt_of ys) (at span_to read_stmts us) ≡ at span_to read_stmts ws
stmts_more xs ys x ts r us ws i p h a f u = front_push stmt_and stmt_of xs ys x (at span_to read_stmts ts) (at span_to read_stmts us) (at span_to read_stmts ws) p i (stmts_and ts r us (stmt_of x) h a f u)

-- a statement without tokens is the only empty one
simple_full : {b : Bool} {x : Stmt Span} {ts r : Lexemes} → SpellsSimple span_to b x ts r → is_empty x ≡ false
simple_full (eval_rule d) = refl
simple_full (increment_rule d) = refl
simple_full (decrement_rule d) = refl
simple_full (assign_rule d k) = refl
simple_full (define_rule d k) = refl

empty_same : {x : Stmt Span} {ts r : Lexemes} → SpellsStmt span_to x ts r → is_empty x ≡ true → ts ≡ r
empty_same empty_rule e = refl
empty_same (simple_rule d) e = let z = simple_full d in absurd cc
empty_same _ e = absurd cc

full : (ts r : Lexemes) (x : Stmt Span) (b : Bool) → is_empty x ≡ b → ends_stmts (first_of ts) ≡ false → at span_to read_stmt ts ≡ Some (x, r) → first_of r ≡ code.EndBrace → is_empty x ≡ false
full ts r x false e h a f = e
full ts r x true e h a f = let z = empty_same (stmt_spelled span_to x ts r a) e in let y = ap (λ (us : Lexemes). ends_stmts (first_of us)) z ∙ ap ends_stmts f in absurd cc

stmts_one : (ts r : Lexemes) (x : Stmt Span) → ends_stmts (first_of ts) ≡ false → at span_to read_stmt ts ≡ Some (x, r) → first_of r ≡ code.EndBrace → at span_to read_stmts ts ≡ in_front stmt_and (x ∷ []) (at span_to read_stmts r)
unfolding stmts_step
stmts_one ts (lex c end_brace ∷ r) x h a f =
    open_stmts ts h ∙ (asks span_to {k = λ x r. stmts_after span_to x r} a (passes span_to {p = give (stmt_and x no_stmts) (lex c end_brace ∷ r)} (full ts (lex c end_brace ∷ r) x (is_empty x) refl h a f) (gives span_to))).is
    ∙ ap (in_front stmt_and (x ∷ [])) (sym (finish span_to read_stmts (lex c end_brace ∷ r) (gives span_to)))
stmts_one ts _ x h a f = absurd cc

pub stmts_last : (xs ys : List source.Stmt) (x : source.Stmt) (ts r : Lexemes) (ws : Lexemes) → in_front stmt_and (map stmt_of xs) (at span_to read_stmts ts) ≡ at span_to read_stmts ws → ys ≡ xs ++ x ∷ [] → ends_stmts (first_of ts) ≡ false → at span_to read_stmt ts ≡ Some (stmt_of x, r) → first_of r ≡ code.EndBrace
    → in_front stmt_and (map stmt_of ys) (at span_to read_stmts r) ≡ at span_to read_stmts ws
stmts_last xs ys x ts r ws i p h a f = front_push stmt_and stmt_of xs ys x (at span_to read_stmts ts) (at span_to read_stmts r) (at span_to read_stmts ws) p i (stmts_one ts r (stmt_of x) h a f)

pub stmts_stop : (front : List (Stmt Span)) (ts r : Lexemes) (x : Stmt Span) (k : Terminal) (ws : Lexemes) → in_front stmt_and front (at span_to read_stmts ts) ≡ at span_to read_stmts ws → ends_stmts (first_of ts) ≡ false → at span_to read_stmt ts ≡ Some (x, r) → first_of r ≡ k → k ≢ code.Semicolon → k ≢ code.EndBrace → at span_to read_stmts ws ≡ None
stmts_stop front ts (lex c semicolon ∷ r) x k ws i h a f n m = absurd (n (sym f))
stmts_stop front ts (lex c end_brace ∷ r) x k ws i h a f n m = absurd (m (sym f))
stmts_stop front ts r x k ws i h a f n m = front_none stmt_and front (at span_to read_stmts ts) (at span_to read_stmts ws) i (open_stmts ts h ∙ (asks span_to {k = λ x r. stmts_after span_to x r} a (record { is = refl })).is)

-- ---- statements

const_is : (ts : Lexemes) (o : Option (Stmt Span × Lexemes)) → first_of ts ≡ code.Const → const_decl_at ts ≡ o → at span_to read_stmt ts ≡ o
unfolding stmt_step const_decl_at
const_is (lex s key_const ∷ ts) o f a = finish span_to read_stmt (lex s key_const ∷ ts) (record { is = a })
const_is _ o f a = absurd cc

pub const_none : (ts us : Lexemes) → first_of ts ≡ code.Const → us ≡ rest_of ts → at span_to (read_decl true) us ≡ None → at span_to read_stmt ts ≡ None
const_none ts us f u a = const_is ts None f (const_decl_none ts us u a)

pub const_some : (ts us r : Lexemes) (b : Bool) (ss : ValueSpecs Span) → first_of ts ≡ code.Const → us ≡ rest_of ts → at span_to (read_decl true) us ≡ Some ((b, ss), r) → at span_to read_stmt ts ≡ Some (const_decl (span_to ts r) b ss, r)
const_some ts us r b ss f u a = const_is ts (Some (const_decl (span_to ts r) b ss, r)) f (const_decl_some ts us r b ss u a)

var_is : (ts : Lexemes) (o : Option (Stmt Span × Lexemes)) → first_of ts ≡ code.Var → var_decl_at ts ≡ o → at span_to read_stmt ts ≡ o
unfolding stmt_step var_decl_at
var_is (lex s key_var ∷ ts) o f a = finish span_to read_stmt (lex s key_var ∷ ts) (record { is = a })
var_is _ o f a = absurd cc

pub var_none : (ts us : Lexemes) → first_of ts ≡ code.Var → us ≡ rest_of ts → at span_to (read_decl false) us ≡ None → at span_to read_stmt ts ≡ None
var_none ts us f u a = var_is ts None f (var_decl_none ts us u a)

pub var_some : (ts us r : Lexemes) (b : Bool) (ss : ValueSpecs Span) → first_of ts ≡ code.Var → us ≡ rest_of ts → at span_to (read_decl false) us ≡ Some ((b, ss), r) → at span_to read_stmt ts ≡ Some (var_decl (span_to ts r) b ss, r)
var_some ts us r b ss f u a = var_is ts (Some (var_decl (span_to ts r) b ss, r)) f (var_decl_some ts us r b ss u a)

pub inner_none : (ts : Lexemes) → first_of ts ≡ code.Brace → at span_to read_block ts ≡ None → at span_to read_stmt ts ≡ None
unfolding stmt_step
inner_none (lex s brace ∷ ts) f a = finish span_to read_stmt (lex s brace ∷ ts) (lacks a)
inner_none _ f a = absurd cc

pub inner_some : (ts r : Lexemes) (s : Span) (b : Stmts Span) → first_of ts ≡ code.Brace → at span_to read_block ts ≡ Some ((s, b), r) → at span_to read_stmt ts ≡ Some (inner s b, r)
unfolding stmt_step
inner_some (lex s brace ∷ ts) r t b f a = finish span_to read_stmt (lex s brace ∷ ts) (asks span_to a (gives span_to))
inner_some _ r t b f a = absurd cc

pub empty_semicolon : (ts : Lexemes) → first_of ts ≡ code.Semicolon → at span_to read_stmt ts ≡ Some (empty (span_to ts ts), ts)
unfolding stmt_step
empty_semicolon (lex s semicolon ∷ ts) f = finish span_to read_stmt (lex s semicolon ∷ ts) (gives span_to)
empty_semicolon _ f = absurd cc

pub empty_brace : (ts : Lexemes) → first_of ts ≡ code.EndBrace → at span_to read_stmt ts ≡ Some (empty (span_to ts ts), ts)
unfolding stmt_step
empty_brace (lex s end_brace ∷ ts) f = finish span_to read_stmt (lex s end_brace ∷ ts) (gives span_to)
empty_brace _ f = absurd cc

same_answer : (o : Option (Stmt Span × Lexemes)) → option_and_then (λ x. Some (x.0, x.1)) o ≡ o
same_answer (Some x) = refl
same_answer None = refl

simple_run : (ts : Lexemes) → Runs span_to (word_stmt span_to ts) (at span_to (read_simple false) ts)
simple_run ts = record { is = same_answer (at span_to (read_simple false) ts) }

pub plain_stmt : (ts : Lexemes) (k : Terminal) → first_of ts ≡ k → k ≢ code.Const → k ≢ code.Var → k ≢ code.Brace → k ≢ code.Semicolon → k ≢ code.EndBrace → k ≢ code.Return → k ≢ code.Break → k ≢ code.Continue → k ≢ code.If → k ≢ code.For → k ≢ code.Switch → k ≢ code.Defer → k ≢ code.Ident
    → at span_to read_stmt ts ≡ at span_to (read_simple false) ts
unfolding stmt_step
plain_stmt (lex s key_const ∷ ts) z f a b c d e g h i j k l m n = absurd (a (sym f))
plain_stmt (lex s key_var ∷ ts) z f a b c d e g h i j k l m n = absurd (b (sym f))
plain_stmt (lex s brace ∷ ts) z f a b c d e g h i j k l m n = absurd (c (sym f))
plain_stmt (lex s semicolon ∷ ts) z f a b c d e g h i j k l m n = absurd (d (sym f))
plain_stmt (lex s end_brace ∷ ts) z f a b c d e g h i j k l m n = absurd (e (sym f))
plain_stmt (lex s key_return ∷ ts) z f a b c d e g h i j k l m n = absurd (g (sym f))
plain_stmt (lex s key_break ∷ ts) z f a b c d e g h i j k l m n = absurd (h (sym f))
plain_stmt (lex s key_continue ∷ ts) z f a b c d e g h i j k l m n = absurd (i (sym f))
plain_stmt (lex s key_if ∷ ts) z f a b c d e g h i j k l m n = absurd (j (sym f))
plain_stmt (lex s key_for ∷ ts) z f a b c d e g h i j k l m n = absurd (k (sym f))
plain_stmt (lex s key_switch ∷ ts) z f a b c d e g h i j k l m n = absurd (l (sym f))
plain_stmt (lex s key_defer ∷ ts) z f a b c d e g h i j k l m n = absurd (m (sym f))
plain_stmt (lex s (ident w) ∷ ts) z f a b c d e g h i j k l m n = absurd (n (sym f))
plain_stmt ts z f a b c d e g h i j k l m n = finish span_to read_stmt ts (simple_run ts)

pub word_plain : (ts us : Lexemes) (k : Terminal) → first_of ts ≡ code.Ident → us ≡ rest_of ts → first_of us ≡ k → k ≢ code.Colon → at span_to read_stmt ts ≡ at span_to (read_simple false) ts
unfolding stmt_step
word_plain (lex s (ident w) ∷ lex c colon ∷ ts) us k f u g n = absurd (n (sym g ∙ ap first_of u))
word_plain (lex s (ident w) ∷ ts) us k f u g n = finish span_to read_stmt (lex s (ident w) ∷ ts) (simple_run (lex s (ident w) ∷ ts))
word_plain _ us k f u g n = absurd cc

pub label_none : (ts us vs : Lexemes) → first_of ts ≡ code.Ident → us ≡ rest_of ts → first_of us ≡ code.Colon → vs ≡ rest_of us → at span_to read_stmt vs ≡ None → at span_to read_stmt ts ≡ None
unfolding stmt_step
label_none (lex s (ident w) ∷ lex c colon ∷ ts) us vs f u g v a = finish span_to read_stmt (lex s (ident w) ∷ lex c colon ∷ ts) (lacks (ap (at span_to read_stmt) (sym (v ∙ ap rest_of u)) ∙ a))
label_none (lex s (ident w) ∷ ts) us vs f u g v a = let z = sym g ∙ ap first_of u in absurd cc
label_none _ us vs f u g v a = absurd cc

pub label_some : (ts us vs r : Lexemes) (x : Stmt Span) → first_of ts ≡ code.Ident → us ≡ rest_of ts → first_of us ≡ code.Colon → vs ≡ rest_of us → at span_to read_stmt vs ≡ Some (x, r) → at span_to read_stmt ts ≡ Some (label (span_to ts r) (name_of ts) x, r)
unfolding stmt_step
label_some (lex s (ident w) ∷ lex c colon ∷ ts) us vs r x f u g v a =
    finish span_to read_stmt (lex s (ident w) ∷ lex c colon ∷ ts) (asks span_to (ap (at span_to read_stmt) (sym (v ∙ ap rest_of u)) ∙ a) (gives span_to))
label_some (lex s (ident w) ∷ ts) us vs r x f u g v a = let z = sym g ∙ ap first_of u in absurd cc
label_some _ us vs r x f u g v a = absurd cc

-- ---- `return`, `break`, `continue`, `defer`

return_is : (ts us : Lexemes) → first_of ts ≡ code.Return → us ≡ rest_of ts → at span_to read_stmt ts ≡ run (at span_to) (return_step span_to ts us)
unfolding stmt_step
return_is (lex s key_return ∷ ts) us f u = finish span_to read_stmt (lex s key_return ∷ ts) (record { is = refl }) ∙ ap (λ (vs : Lexemes). run (at span_to) (return_step span_to (lex s key_return ∷ ts) vs)) (sym u)
return_is _ us f u = absurd cc

returned : (w us : Lexemes) → closes (first_of us) ≡ true → run (at span_to) (return_step span_to w us) ≡ Some (return_ (span_to w us) no_exprs, us)
returned w (lex c semicolon ∷ us) e = refl
returned w (lex c end_brace ∷ us) e = refl
returned w _ e = absurd cc

returning : (w us : Lexemes) → closes (first_of us) ≡ false → run (at span_to) (return_step span_to w us) ≡ run (at span_to) (ask (read_exprs false) us (λ xs r. give (return_ (span_to w r) xs) r))
returning w (lex c semicolon ∷ us) e = absurd cc
returning w (lex c end_brace ∷ us) e = absurd cc
returning w us e = refl

pub return_alone : (ts us : Lexemes) → first_of ts ≡ code.Return → us ≡ rest_of ts → closes (first_of us) ≡ true → at span_to read_stmt ts ≡ Some (return_ (span_to ts us) no_exprs, us)
return_alone ts us f u e = return_is ts us f u ∙ returned ts us e

pub return_none : (ts us : Lexemes) → first_of ts ≡ code.Return → us ≡ rest_of ts → closes (first_of us) ≡ false → at span_to (read_exprs false) us ≡ None → at span_to read_stmt ts ≡ None
return_none ts us f u e a = return_is ts us f u ∙ returning ts us e ∙ (lacks {k = λ xs r. give (return_ (span_to ts r) xs) r} a).is

pub return_some : (ts us r : Lexemes) (xs : Exprs Span) → first_of ts ≡ code.Return → us ≡ rest_of ts → closes (first_of us) ≡ false → at span_to (read_exprs false) us ≡ Some (xs, r) → at span_to read_stmt ts ≡ Some (return_ (span_to ts r) xs, r)
return_some ts us r xs f u e a = return_is ts us f u ∙ returning ts us e ∙ (asks span_to {k = λ xs r. give (return_ (span_to ts r) xs) r} a (gives span_to)).is

pub break_alone : (ts us : Lexemes) (k : Terminal) → first_of ts ≡ code.Break → us ≡ rest_of ts → first_of us ≡ k → k ≢ code.Ident → at span_to read_stmt ts ≡ Some (break_ (span_to ts us) None, us)
unfolding stmt_step
break_alone (lex s key_break ∷ (lex c (ident w) ∷ ts)) us k f u g n = absurd (n (sym g ∙ ap first_of u))
break_alone (lex s key_break ∷ ts) us k f u g n = finish span_to read_stmt (lex s key_break ∷ ts) (gives span_to) ∙ ap (λ (vs : Lexemes). Some (break_ (span_to (lex s key_break ∷ ts) vs) None, vs)) (sym u)
break_alone _ us k f u g n = absurd cc

pub break_label : (ts us vs : Lexemes) → first_of ts ≡ code.Break → us ≡ rest_of ts → first_of us ≡ code.Ident → vs ≡ rest_of us → at span_to read_stmt ts ≡ Some (break_ (span_to ts vs) (Some (name_of us)), vs)
unfolding stmt_step
break_label (lex s key_break ∷ (lex c (ident w) ∷ ts)) us vs f u g v =
    finish span_to read_stmt (lex s key_break ∷ (lex c (ident w) ∷ ts)) (gives span_to)
    ∙ ap (λ (ys : Lexemes). Some (break_ (span_to (lex s key_break ∷ (lex c (ident w) ∷ ts)) (rest_of ys)) (Some (name_of ys)), rest_of ys)) (sym u)
    ∙ ap (λ (ys : Lexemes). Some (break_ (span_to (lex s key_break ∷ (lex c (ident w) ∷ ts)) ys) (Some (name_of us)), ys)) (sym v)
break_label (lex s key_break ∷ ts) us vs f u g v = let z = sym g ∙ ap first_of u in absurd cc
break_label _ us vs f u g v = absurd cc

pub continue_alone : (ts us : Lexemes) (k : Terminal) → first_of ts ≡ code.Continue → us ≡ rest_of ts → first_of us ≡ k → k ≢ code.Ident → at span_to read_stmt ts ≡ Some (continue_ (span_to ts us) None, us)
unfolding stmt_step
continue_alone (lex s key_continue ∷ (lex c (ident w) ∷ ts)) us k f u g n = absurd (n (sym g ∙ ap first_of u))
continue_alone (lex s key_continue ∷ ts) us k f u g n = finish span_to read_stmt (lex s key_continue ∷ ts) (gives span_to) ∙ ap (λ (vs : Lexemes). Some (continue_ (span_to (lex s key_continue ∷ ts) vs) None, vs)) (sym u)
continue_alone _ us k f u g n = absurd cc

pub continue_label : (ts us vs : Lexemes) → first_of ts ≡ code.Continue → us ≡ rest_of ts → first_of us ≡ code.Ident → vs ≡ rest_of us → at span_to read_stmt ts ≡ Some (continue_ (span_to ts vs) (Some (name_of us)), vs)
unfolding stmt_step
continue_label (lex s key_continue ∷ (lex c (ident w) ∷ ts)) us vs f u g v =
    finish span_to read_stmt (lex s key_continue ∷ (lex c (ident w) ∷ ts)) (gives span_to)
    ∙ ap (λ (ys : Lexemes). Some (continue_ (span_to (lex s key_continue ∷ (lex c (ident w) ∷ ts)) (rest_of ys)) (Some (name_of ys)), rest_of ys)) (sym u)
    ∙ ap (λ (ys : Lexemes). Some (continue_ (span_to (lex s key_continue ∷ (lex c (ident w) ∷ ts)) ys) (Some (name_of us)), ys)) (sym v)
continue_label (lex s key_continue ∷ ts) us vs f u g v = let z = sym g ∙ ap first_of u in absurd cc
continue_label _ us vs f u g v = absurd cc

pub defer_none : (ts us : Lexemes) → first_of ts ≡ code.Defer → us ≡ rest_of ts → at span_to (read_expr 1 false) us ≡ None → at span_to read_stmt ts ≡ None
unfolding stmt_step
defer_none (lex s key_defer ∷ ts) us f u a = finish span_to read_stmt (lex s key_defer ∷ ts) (lacks (ap (at span_to (read_expr 1 false)) (sym u) ∙ a))
defer_none _ us f u a = absurd cc

not_deferred : (w r : Lexemes) (e : Expr Span) (b : Bool) → is_bare_call e b ≡ false → Runs span_to (defer_after span_to w (e, b) r) None
not_deferred w r (call s f xs rest) true h = absurd cc
not_deferred w r (call s f xs rest) false h = record { is = refl }
not_deferred w r e b h = record { is = refl }

deferred : (w r : Lexemes) (e : Expr Span) (b : Bool) → is_bare_call e b ≡ true → Runs span_to (defer_after span_to w (e, b) r) (Some (defer (span_to w r) e, r))
deferred w r (call s f xs rest) true h = gives span_to
deferred w r (call s f xs rest) false h = absurd cc
deferred w r _ b h = absurd cc

pub defer_stop : (ts us r : Lexemes) (e : Expr Span) (b : Bool) → first_of ts ≡ code.Defer → us ≡ rest_of ts → at span_to (read_expr 1 false) us ≡ Some ((e, b), r) → is_bare_call e b ≡ false → at span_to read_stmt ts ≡ None
unfolding stmt_step
defer_stop (lex s key_defer ∷ ts) us r e b f u a h = finish span_to read_stmt (lex s key_defer ∷ ts) (asks span_to (ap (at span_to (read_expr 1 false)) (sym u) ∙ a) (not_deferred (lex s key_defer ∷ ts) r e b h))
defer_stop _ us r e b f u a h = absurd cc

pub defer_some : (ts us r : Lexemes) (e : Expr Span) (b : Bool) → first_of ts ≡ code.Defer → us ≡ rest_of ts → at span_to (read_expr 1 false) us ≡ Some ((e, b), r) → is_bare_call e b ≡ true → at span_to read_stmt ts ≡ Some (defer (span_to ts r) e, r)
unfolding stmt_step
defer_some (lex s key_defer ∷ ts) us r e b f u a h = finish span_to read_stmt (lex s key_defer ∷ ts) (asks span_to (ap (at span_to (read_expr 1 false)) (sym u) ∙ a) (deferred (lex s key_defer ∷ ts) r e b h))
defer_some _ us r e b f u a h = absurd cc

-- ---- the loop ends: a closing brace may follow a statement without tokens

abbrev pub still : Terminal → ℕ
still code.EndBrace = 0
still _ = 1

pub still_most : (k : Terminal) → still k ≤ 1
still_most code.EndBrace = omega arith
still_most k = omega arith

pub still_goes_on : (k : Terminal) → ends_stmts k ≡ false → still k ≡ 1
still_goes_on code.EndBrace e = absurd cc
still_goes_on k e = refl
