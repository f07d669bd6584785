-- What the reader gives for `if` and `switch` statements.
use Rattle.std.proofs.Common.{◌≡◌, ◌≢◌, true, List, [], ◌∷◌, ◌++◌, map, Option, Some, None, refl, sym, ap, ◌∙◌}
use Rattle.std.specs.Prelude.{option_and_then}
use Rattle.go_tree.specs.declared.spans.Span.{Span}
use Rattle.go_tree.specs.declared.stmts.Arm as source_arm
use Rattle.go_tree.specs.View.{arm_of}
use Rattle.go_tree.specs.Lists.{arms_from}
use Rattle.go_tree.specs.Tree.{Expr, ExprOption, no_expr, some_expr, Stmt, Stmts, StmtOption, no_stmt, some_stmt, BlockOption, no_block, some_block, eval, if_, switch, Arms, no_arms, arm, Cases}
use Rattle.go_tree.specs.GoWords.Terminals.{lex, semicolon, brace, key_else, key_if, key_switch}
use Rattle.go_read.specs.SpellsSpans.{span_to}
use Rattle.go_read.specs.SpellsTypes.{Lexemes}
use Rattle.go_read.specs.Goals.{read_operand, read_simple, read_stmt, read_block, read_arm, read_if, read_cases}
use Rattle.go_read.specs.Programs.{give, ask, run, after_brace, after_end_brace}
use Rattle.go_read.specs.ReadStmts.{stmt_step, arm_step, arm_first, arm_after, arm_eval, arm_test, arm_body, if_step, if_after, switch_first, switch_after, switch_eval, switch_tag, switch_body}
use Rattle.go_read.specs.Reading.{at}
use Rattle.go_read.proofs.Finds.{gives, asks, finish}
use Rattle.go_tree.specs.declared.go_words.terminals.Terminal.{Terminal}
use Rattle.go_tree.specs.declared.go_words.terminals.Terminal.TheVariants as code
use Rattle.go_productions.specs.Terminals.{first_of, rest_of}
use Rattle.go_productions.specs.Parts.{onto, in_front}
use Rattle.go_tree.specs.Parts.{evaluated}
use Rattle.go_statements.specs.StmtParts.{arm_seen, arm_at, arm_body_at, arm_test_at, arm_and, switch_body_at, switch_tag_at, switch_after_at}
use Rattle.go_productions.proofs.Fronts.{front_none, front_push, front_last, then_some, then_none}
use Rattle.go_productions.proofs.Steps.{fails, lacks, no_brace, on_brace, no_end_brace, on_end_brace}

-- ---- an arm

arm_first_is : (ts us : Lexemes) → first_of ts ≡ code.If → us ≡ rest_of ts → arm_at ts ≡ option_and_then (λ a. Some (arm_seen ts a)) (run (at span_to) (arm_first span_to us))
unfolding arm_step arm_at
arm_first_is (lex s key_if ∷ ts) us h u =
    ap (option_and_then (λ a. Some (arm_seen (lex s key_if ∷ ts) a))) (finish span_to read_arm (lex s key_if ∷ ts) (record { is = refl }) ∙ ap (λ (vs : Lexemes). run (at span_to) (arm_first span_to vs)) (sym u))
arm_first_is _ us h u = absurd cc

pub arm_open : (ts : Lexemes) (k : Terminal) → first_of ts ≡ k → k ≢ code.If → arm_at ts ≡ None
unfolding arm_step arm_at
arm_open (lex s key_if ∷ ts) k f n = absurd (n (sym f))
arm_open ts k f n = ap (option_and_then (λ a. Some (arm_seen ts a))) (finish span_to read_arm ts fails)

pub arm_no_first : (ts us vs : Lexemes) → first_of ts ≡ code.If → us ≡ rest_of ts → first_of us ≡ code.Semicolon → vs ≡ rest_of us → arm_at ts ≡ arm_test_at ts no_stmt vs
unfolding arm_test_at
arm_no_first ts (lex s semicolon ∷ us) vs h u f v =
    arm_first_is ts (lex s semicolon ∷ us) h u ∙ ap (λ (ws : Lexemes). option_and_then (λ a. Some (arm_seen ts a)) (run (at span_to) (arm_test span_to no_stmt ws))) (sym v)
arm_no_first ts _ vs h u f v = absurd cc

armed : (us : Lexemes) (k : Terminal) → first_of us ≡ k → k ≢ code.Semicolon → run (at span_to) (arm_first span_to us) ≡ run (at span_to) (ask (read_simple true) us (λ x r. arm_after span_to x r))
armed (lex s semicolon ∷ us) k f n = absurd (n (sym f))
armed us k f n = refl

pub arm_lost : (ts us : Lexemes) (k : Terminal) → first_of ts ≡ code.If → us ≡ rest_of ts → first_of us ≡ k → k ≢ code.Semicolon → at span_to (read_simple true) us ≡ None → arm_at ts ≡ None
arm_lost ts us k h u f n a =
    arm_first_is ts us h u ∙ ap (option_and_then (λ a. Some (arm_seen ts a))) (armed us k f n ∙ (lacks {k = λ x r. arm_after span_to x r} a).is)

arm_next : (ts us r : Lexemes) (x : Stmt Span) (k : Terminal) → first_of ts ≡ code.If → us ≡ rest_of ts → first_of us ≡ k → k ≢ code.Semicolon → at span_to (read_simple true) us ≡ Some (x, r) → arm_at ts ≡ option_and_then (λ a. Some (arm_seen ts a)) (run (at span_to) (arm_after span_to x r))
arm_next ts us r x k h u f n a =
    arm_first_is ts us h u ∙ ap (option_and_then (λ a. Some (arm_seen ts a))) (armed us k f n ∙ (asks span_to {k = λ x r. arm_after span_to x r} a (record { is = refl })).is)

pub arm_first_stmt : (ts us r vs : Lexemes) (x : Stmt Span) (k : Terminal) → first_of ts ≡ code.If → us ≡ rest_of ts → first_of us ≡ k → k ≢ code.Semicolon → at span_to (read_simple true) us ≡ Some (x, r) → first_of r ≡ code.Semicolon → vs ≡ rest_of r → arm_at ts ≡ arm_test_at ts (some_stmt x) vs
unfolding arm_test_at
arm_first_stmt ts us (lex s semicolon ∷ r) vs x k h u f n a g v =
    arm_next ts us (lex s semicolon ∷ r) x k h u f n a ∙ ap (λ (ws : Lexemes). option_and_then (λ a. Some (arm_seen ts a)) (run (at span_to) (arm_test span_to (some_stmt x) ws))) (sym v)
arm_first_stmt ts us _ vs x k h u f n a g v = absurd cc

arm_eval_is : (x : Stmt Span) (r : Lexemes) (l : Terminal) → first_of r ≡ l → l ≢ code.Semicolon → run (at span_to) (arm_after span_to x r) ≡ run (at span_to) (arm_eval span_to x r)
arm_eval_is x (lex s semicolon ∷ r) l f n = absurd (n (sym f))
arm_eval_is x r l f n = refl

eval_on : (x : Stmt Span) (r : Lexemes) (e : Expr Span) → evaluated x ≡ Some e → run (at span_to) (arm_eval span_to x r) ≡ run (at span_to) (arm_body span_to no_stmt e r)
eval_on (eval s y) r e h = ap (λ (z : Expr Span). run (at span_to) (arm_body span_to no_stmt z r)) (let z : y ≡ e = cc in z)
eval_on _ r e h = absurd cc

eval_off : (x : Stmt Span) (r : Lexemes) → evaluated x ≡ None → run (at span_to) (arm_eval span_to x r) ≡ None
eval_off (eval s y) r h = absurd cc
eval_off _ r h = refl

pub arm_stop : (ts us r : Lexemes) (x : Stmt Span) (k l : Terminal) → first_of ts ≡ code.If → us ≡ rest_of ts → first_of us ≡ k → k ≢ code.Semicolon → at span_to (read_simple true) us ≡ Some (x, r) → first_of r ≡ l → l ≢ code.Semicolon → evaluated x ≡ None → arm_at ts ≡ None
arm_stop ts us r x k l h u f n a g m e = arm_next ts us r x k h u f n a ∙ ap (option_and_then (λ a. Some (arm_seen ts a))) (arm_eval_is x r l g m ∙ eval_off x r e)

pub arm_evaluated : (ts us r : Lexemes) (x : Stmt Span) (e : Expr Span) (k l : Terminal) → first_of ts ≡ code.If → us ≡ rest_of ts → first_of us ≡ k → k ≢ code.Semicolon → at span_to (read_simple true) us ≡ Some (x, r) → first_of r ≡ l → l ≢ code.Semicolon → evaluated x ≡ Some e → arm_at ts ≡ arm_body_at ts no_stmt e r
unfolding arm_body_at
arm_evaluated ts us r x e k l h u f n a g m v = arm_next ts us r x k h u f n a ∙ ap (option_and_then (λ a. Some (arm_seen ts a))) (arm_eval_is x r l g m ∙ eval_on x r e v)

pub arm_untested : (w ts : Lexemes) (i : StmtOption Span) → at span_to (read_operand true) ts ≡ None → arm_test_at w i ts ≡ None
unfolding arm_test_at
arm_untested w ts i a = ap (option_and_then (λ a. Some (arm_seen w a))) (lacks {k = λ e r. arm_body span_to i e r} a).is

pub arm_tested : (w ts r : Lexemes) (i : StmtOption Span) (e : Expr Span) → at span_to (read_operand true) ts ≡ Some (e, r) → arm_test_at w i ts ≡ arm_body_at w i e r
unfolding arm_test_at arm_body_at
arm_tested w ts r i e a = ap (option_and_then (λ a. Some (arm_seen w a))) (asks span_to {k = λ e r. arm_body span_to i e r} a (record { is = refl })).is

pub arm_bodiless : (w ts : Lexemes) (i : StmtOption Span) (e : Expr Span) → at span_to read_block ts ≡ None → arm_body_at w i e ts ≡ None
unfolding arm_body_at
arm_bodiless w ts i e a = ap (option_and_then (λ a. Some (arm_seen w a))) (lacks {k = λ b r. give (i, e, b.0, b.1) r} a).is

pub arm_some : (w ts r : Lexemes) (i : StmtOption Span) (e : Expr Span) (b : Span × Stmts Span) → at span_to read_block ts ≡ Some (b, r) → arm_body_at w i e ts ≡ Some ((span_to w r, i, e, b), r)
unfolding arm_body_at
arm_some w ts r i e b a = ap (option_and_then (λ a. Some (arm_seen w a))) (asks span_to {k = λ b r. give (i, e, b.0, b.1) r} a (gives span_to)).is

-- ---- arms

onto_arms : (xs : List (Span × StmtOption Span × Expr Span × (Span × Stmts Span))) (last : BlockOption Span) → onto arm_and xs (no_arms, last) ≡ (arms_from xs, last)
onto_arms [] last = refl
onto_arms (x ∷ xs) last = ap (arm_and x) (onto_arms xs last)

if_is : (ts r : Lexemes) (l : Arms Span × BlockOption Span) → first_of ts ≡ code.If → at span_to read_if ts ≡ Some (l, r) → at span_to read_stmt ts ≡ Some (if_ (span_to ts r) l.0 l.1, r)
unfolding stmt_step
if_is (lex s key_if ∷ ts) r l h a = finish span_to read_stmt (lex s key_if ∷ ts) (asks span_to a (gives span_to))
if_is _ r l h a = absurd cc

if_none : (ts : Lexemes) → first_of ts ≡ code.If → at span_to read_if ts ≡ None → at span_to read_stmt ts ≡ None
unfolding stmt_step
if_none (lex s key_if ∷ ts) h a = finish span_to read_stmt (lex s key_if ∷ ts) (lacks a)
if_none _ h a = absurd cc

pub if_lost : (front : List (Span × StmtOption Span × Expr Span × (Span × Stmts Span))) (ts us : Lexemes) → first_of ts ≡ code.If → in_front arm_and front (at span_to read_if us) ≡ at span_to read_if ts → arm_at us ≡ None → at span_to read_stmt ts ≡ None
unfolding if_step arm_at
if_lost front ts us h i a =
    if_none ts h (front_none arm_and front (at span_to read_if us) (at span_to read_if ts) i (finish span_to read_if us (lacks (then_none (arm_seen us) (at span_to read_arm us) a))))

-- what is read behind an arm
behind_is : (us r : Lexemes) (x : Span × StmtOption Span × Expr Span × (Span × Stmts Span)) → arm_at us ≡ Some (x, r)
    → (a : StmtOption Span × Expr Span × Span × Stmts Span) × (at span_to read_if us ≡ run (at span_to) (if_after span_to us a r)) × ((span_to us r, a.0, a.1, (a.2, a.3)) ≡ x)
unfolding if_step arm_at
behind_is us r x a =
    let q = then_some (arm_seen us) (at span_to read_arm us) (x, r) a in
    let z = ap (λ (y : (Span × StmtOption Span × Expr Span × (Span × Stmts Span)) × Lexemes). y.1) q.2 in (
      q.0.0,
      finish span_to read_if us (asks span_to {k = λ a r. if_after span_to us a r} q.1 (record { is = ap (λ (vs : Lexemes). run (at span_to) (if_after span_to us q.0.0 vs)) z })),
      ap (λ (vs : Lexemes). (span_to us vs, q.0.0.0, q.0.0.1, (q.0.0.2, q.0.0.3))) (sym z) ∙ ap (λ (y : (Span × StmtOption Span × Expr Span × (Span × Stmts Span)) × Lexemes). y.0) q.2,
    )

arm_alone : (us r : Lexemes) (x : Span × StmtOption Span × Expr Span × (Span × Stmts Span)) (k : Terminal) → arm_at us ≡ Some (x, r) → first_of r ≡ k → k ≢ code.Else → at span_to read_if us ≡ Some (arm_and x (no_arms, no_block), r)
arm_alone us (lex c key_else ∷ r) x k a f n = absurd (n (sym f))
arm_alone us r x k a f n = let q = behind_is us r x a in q.1 ∙ ap (λ (y : Span × StmtOption Span × Expr Span × (Span × Stmts Span)). Some (arm_and y (no_arms, no_block), r)) q.2

arm_else : (us r vs q : Lexemes) (x : Span × StmtOption Span × Expr Span × (Span × Stmts Span)) (k : Terminal) (b : Span × Stmts Span) → arm_at us ≡ Some (x, r) → first_of r ≡ code.Else → vs ≡ rest_of r → first_of vs ≡ k → k ≢ code.If → at span_to read_block vs ≡ Some (b, q)
    → at span_to read_if us ≡ Some (arm_and x (no_arms, some_block b.0 b.1), q)
arm_else us (lex c key_else ∷ (lex s key_if ∷ r)) vs q x k b a f v g n e = absurd (n (sym g ∙ ap first_of v))
arm_else us (lex c key_else ∷ r) vs q x k b a f v g n e =
    let p = behind_is us (lex c key_else ∷ r) x a in
    p.1 ∙ ap (option_and_then (λ b. Some ((arm (span_to us (lex c key_else ∷ r)) p.0.0 p.0.1 p.0.2 p.0.3 no_arms, some_block b.0.0 b.0.1), b.1))) (ap (at span_to read_block) (sym v) ∙ e)
    ∙ ap (λ (y : Span × StmtOption Span × Expr Span × (Span × Stmts Span)). Some (arm_and y (no_arms, some_block b.0 b.1), q)) p.2
arm_else us _ vs q x k b a f v g n e = absurd cc

arm_unblocked : (us r vs : Lexemes) (x : Span × StmtOption Span × Expr Span × (Span × Stmts Span)) (k : Terminal) → arm_at us ≡ Some (x, r) → first_of r ≡ code.Else → vs ≡ rest_of r → first_of vs ≡ k → k ≢ code.If → at span_to read_block vs ≡ None → at span_to read_if us ≡ None
arm_unblocked us (lex c key_else ∷ (lex s key_if ∷ r)) vs x k a f v g n e = absurd (n (sym g ∙ ap first_of v))
arm_unblocked us (lex c key_else ∷ r) vs x k a f v g n e =
    let p = behind_is us (lex c key_else ∷ r) x a in
    p.1 ∙ ap (option_and_then (λ b. Some ((arm (span_to us (lex c key_else ∷ r)) p.0.0 p.0.1 p.0.2 p.0.3 no_arms, some_block b.0.0 b.0.1), b.1))) (ap (at span_to read_block) (sym v) ∙ e)
arm_unblocked us _ vs x k a f v g n e = absurd cc

along : (x y : Span × StmtOption Span × Expr Span × (Span × Stmts Span)) (o : Option ((Arms Span × BlockOption Span) × Lexemes)) → x ≡ y → option_and_then {U = (Arms Span × BlockOption Span) × Lexemes} (λ l. Some ((arm x.0 x.1 x.2 x.3.0 x.3.1 l.0.0, l.0.1), l.1)) o ≡ in_front arm_and (y ∷ []) o
along x y None e = refl
along x y (Some l) e = ap (λ (z : Span × StmtOption Span × Expr Span × (Span × Stmts Span)). Some (arm_and z l.0, l.1)) e

arm_and_if : (us r vs : Lexemes) (x : Span × StmtOption Span × Expr Span × (Span × Stmts Span)) → arm_at us ≡ Some (x, r) → first_of r ≡ code.Else → vs ≡ rest_of r → first_of vs ≡ code.If → at span_to read_if us ≡ in_front arm_and (x ∷ []) (at span_to read_if vs)
arm_and_if us (lex c key_else ∷ (lex s key_if ∷ r)) vs x a f v g =
    let p = behind_is us (lex c key_else ∷ (lex s key_if ∷ r)) x a in
    p.1 ∙ along (span_to us (lex c key_else ∷ (lex s key_if ∷ r)), p.0.0, p.0.1, (p.0.2, p.0.3)) x (at span_to read_if (lex s key_if ∷ r)) p.2 ∙ ap (λ (ws : Lexemes). in_front arm_and (x ∷ []) (at span_to read_if ws)) (sym v)
arm_and_if us (lex c key_else ∷ r) vs x a f v g = let z = sym g ∙ ap first_of v in absurd cc
arm_and_if us _ vs x a f v g = absurd cc

pub if_alone : (xs ys : List source_arm.Arm) (x : source_arm.Arm) (ts us r : Lexemes) (k : Terminal) → first_of ts ≡ code.If → in_front arm_and (map arm_of xs) (at span_to read_if us) ≡ at span_to read_if ts → ys ≡ xs ++ x ∷ [] → arm_at us ≡ Some (arm_of x, r) → first_of r ≡ k → k ≢ code.Else
    → at span_to read_stmt ts ≡ Some (if_ (span_to ts r) (arms_from (map arm_of ys)) no_block, r)
if_alone xs ys x ts us r k h i p a f n =
    if_is ts r (arms_from (map arm_of ys), no_block) h
    (front_last arm_and arm_of xs ys x (no_arms, no_block) r (at span_to read_if us) (at span_to read_if ts) p i (arm_alone us r (arm_of x) k a f n) ∙ ap (λ (l : Arms Span × BlockOption Span). Some (l, r)) (onto_arms (map arm_of ys) no_block))

pub if_open : (front : List (Span × StmtOption Span × Expr Span × (Span × Stmts Span))) (x : Span × StmtOption Span × Expr Span × (Span × Stmts Span)) (ts us r vs : Lexemes) (k : Terminal) → first_of ts ≡ code.If → in_front arm_and front (at span_to read_if us) ≡ at span_to read_if ts → arm_at us ≡ Some (x, r) → first_of r ≡ code.Else → vs ≡ rest_of r → first_of vs ≡ k → k ≢ code.If → at span_to read_block vs ≡ None
    → at span_to read_stmt ts ≡ None
if_open front x ts us r vs k h i a f v g n e = if_none ts h (front_none arm_and front (at span_to read_if us) (at span_to read_if ts) i (arm_unblocked us r vs x k a f v g n e))

pub if_else : (xs ys : List source_arm.Arm) (x : source_arm.Arm) (ts us r vs q : Lexemes) (k : Terminal) (b : Span × Stmts Span) → first_of ts ≡ code.If → in_front arm_and (map arm_of xs) (at span_to read_if us) ≡ at span_to read_if ts → ys ≡ xs ++ x ∷ [] → arm_at us ≡ Some (arm_of x, r) → first_of r ≡ code.Else → vs ≡ rest_of r → first_of vs ≡ k → k ≢ code.If → at span_to read_block vs ≡ Some (b, q)
    → at span_to read_stmt ts ≡ Some (if_ (span_to ts q) (arms_from (map arm_of ys)) (some_block b.0 b.1), q)
if_else xs ys x ts us r vs q k b h i p a f v g n e =
    if_is ts q (arms_from (map arm_of ys), some_block b.0 b.1) h
    (front_last arm_and arm_of xs ys x (no_arms, some_block b.0 b.1) q (at span_to read_if us) (at span_to read_if ts) p i (arm_else us r vs q (arm_of x) k b a f v g n e) ∙ ap (λ (l : Arms Span × BlockOption Span). Some (l, q)) (onto_arms (map arm_of ys) (some_block b.0 b.1)))

pub if_more : (xs ys : List source_arm.Arm) (x : source_arm.Arm) (ts us r vs : Lexemes) → in_front arm_and (map arm_of xs) (at span_to read_if us) ≡ at span_to read_if ts → ys ≡ xs ++ x ∷ [] → arm_at us ≡ Some (arm_of x, r) → first_of r ≡ code.Else → vs ≡ rest_of r → first_of vs ≡ code.If
    → in_front arm_and (map arm_of ys) (at span_to read_if vs) ≡ at span_to read_if ts
if_more xs ys x ts us r vs i p a f v g = front_push arm_and arm_of xs ys x (at span_to read_if us) (at span_to read_if vs) (at span_to read_if ts) p i (arm_and_if us r vs (arm_of x) a f v g)

-- ---- `switch`

switch_is : (ts us : Lexemes) → first_of ts ≡ code.Switch → us ≡ rest_of ts → at span_to read_stmt ts ≡ run (at span_to) (switch_first span_to ts us)
unfolding stmt_step
switch_is (lex s key_switch ∷ ts) us h u = finish span_to read_stmt (lex s key_switch ∷ ts) (record { is = refl }) ∙ ap (λ (vs : Lexemes). run (at span_to) (switch_first span_to (lex s key_switch ∷ ts) vs)) (sym u)
switch_is _ us h u = absurd cc

pub switch_bare : (ts us vs : Lexemes) → first_of ts ≡ code.Switch → us ≡ rest_of ts → first_of us ≡ code.Brace → vs ≡ rest_of us → at span_to read_stmt ts ≡ switch_body_at ts no_stmt no_expr vs
unfolding switch_body_at
switch_bare ts (lex b brace ∷ us) vs h u f v = switch_is ts (lex b brace ∷ us) h u ∙ ap (λ (ws : Lexemes). run (at span_to) (switch_body span_to ts no_stmt no_expr ws)) (sym v)
switch_bare ts _ vs h u f v = absurd cc

pub switch_no_first : (ts us vs : Lexemes) → first_of ts ≡ code.Switch → us ≡ rest_of ts → first_of us ≡ code.Semicolon → vs ≡ rest_of us → at span_to read_stmt ts ≡ switch_tag_at ts no_stmt vs
unfolding switch_tag_at
switch_no_first ts (lex b semicolon ∷ us) vs h u f v = switch_is ts (lex b semicolon ∷ us) h u ∙ ap (λ (ws : Lexemes). run (at span_to) (switch_tag span_to ts no_stmt ws)) (sym v)
switch_no_first ts _ vs h u f v = absurd cc

switched : (ts us : Lexemes) (k : Terminal) → first_of us ≡ k → k ≢ code.Brace → k ≢ code.Semicolon → run (at span_to) (switch_first span_to ts us) ≡ run (at span_to) (ask (read_simple true) us (λ x r. switch_after span_to ts x r))
switched ts (lex b brace ∷ us) k f n m = absurd (n (sym f))
switched ts (lex b semicolon ∷ us) k f n m = absurd (m (sym f))
switched ts us k f n m = refl

pub switch_lost : (ts us : Lexemes) (k : Terminal) → first_of ts ≡ code.Switch → us ≡ rest_of ts → first_of us ≡ k → k ≢ code.Brace → k ≢ code.Semicolon → at span_to (read_simple true) us ≡ None → at span_to read_stmt ts ≡ None
switch_lost ts us k h u f n m a = switch_is ts us h u ∙ switched ts us k f n m ∙ (lacks {k = λ x r. switch_after span_to ts x r} a).is

pub switch_next : (ts us r : Lexemes) (x : Stmt Span) (k : Terminal) → first_of ts ≡ code.Switch → us ≡ rest_of ts → first_of us ≡ k → k ≢ code.Brace → k ≢ code.Semicolon → at span_to (read_simple true) us ≡ Some (x, r) → at span_to read_stmt ts ≡ switch_after_at ts x r
unfolding switch_after_at
switch_next ts us r x k h u f n m a = switch_is ts us h u ∙ switched ts us k f n m ∙ (asks span_to {k = λ x r. switch_after span_to ts x r} a (record { is = refl })).is

pub switch_first_stmt : (w r vs : Lexemes) (x : Stmt Span) → first_of r ≡ code.Semicolon → vs ≡ rest_of r → switch_after_at w x r ≡ switch_tag_at w (some_stmt x) vs
unfolding switch_after_at switch_tag_at
switch_first_stmt w (lex s semicolon ∷ r) vs x g v = ap (λ (ws : Lexemes). run (at span_to) (switch_tag span_to w (some_stmt x) ws)) (sym v)
switch_first_stmt w _ vs x g v = absurd cc

switch_eval_is : (w r : Lexemes) (x : Stmt Span) (l : Terminal) → first_of r ≡ l → l ≢ code.Semicolon → switch_after_at w x r ≡ run (at span_to) (switch_eval span_to w x r)
unfolding switch_after_at
switch_eval_is w (lex s semicolon ∷ r) x l f n = absurd (n (sym f))
switch_eval_is w r x l f n = refl

switch_on : (w r : Lexemes) (x : Stmt Span) (e : Expr Span) → evaluated x ≡ Some e → run (at span_to) (switch_eval span_to w x r) ≡ run (at span_to) (after_brace r (λ r. switch_body span_to w no_stmt (some_expr e) r))
switch_on w r (eval s y) e h = ap (λ (z : Expr Span). run (at span_to) (after_brace r (λ r. switch_body span_to w no_stmt (some_expr z) r))) (let z : y ≡ e = cc in z)
switch_on w r _ e h = absurd cc

switch_off : (w r : Lexemes) (x : Stmt Span) → evaluated x ≡ None → run (at span_to) (switch_eval span_to w x r) ≡ None
switch_off w r (eval s y) h = absurd cc
switch_off w r _ h = refl

pub switch_stop : (w r : Lexemes) (x : Stmt Span) (l : Terminal) → first_of r ≡ l → l ≢ code.Semicolon → evaluated x ≡ None → switch_after_at w x r ≡ None
switch_stop w r x l g o e = switch_eval_is w r x l g o ∙ switch_off w r x e

pub switch_open : (w r : Lexemes) (x : Stmt Span) (t : Expr Span) (l m : Terminal) → first_of r ≡ l → l ≢ code.Semicolon → evaluated x ≡ Some t → first_of r ≡ m → m ≢ code.Brace → switch_after_at w x r ≡ None
switch_open w r x t l m g o e f p = switch_eval_is w r x l g o ∙ switch_on w r x t e ∙ (no_brace r m (λ r. switch_body span_to w no_stmt (some_expr t) r) f p).is

pub switch_tagged : (w r vs : Lexemes) (x : Stmt Span) (t : Expr Span) (l : Terminal) → first_of r ≡ l → l ≢ code.Semicolon → evaluated x ≡ Some t → first_of r ≡ code.Brace → vs ≡ rest_of r → switch_after_at w x r ≡ switch_body_at w no_stmt (some_expr t) vs
unfolding switch_body_at
switch_tagged w r vs x t l g o e p v = switch_eval_is w r x l g o ∙ switch_on w r x t e ∙ (on_brace r vs (λ r. switch_body span_to w no_stmt (some_expr t) r) p v (record { is = refl })).is

pub tag_absent : (w ts us : Lexemes) (i : StmtOption Span) → first_of ts ≡ code.Brace → us ≡ rest_of ts → switch_tag_at w i ts ≡ switch_body_at w i no_expr us
unfolding switch_tag_at switch_body_at
tag_absent w (lex s brace ∷ ts) us i f u = ap (λ (vs : Lexemes). run (at span_to) (switch_body span_to w i no_expr vs)) (sym u)
tag_absent w _ us i f u = absurd cc

tagged : (w ts : Lexemes) (i : StmtOption Span) (k : Terminal) → first_of ts ≡ k → k ≢ code.Brace → switch_tag_at w i ts ≡ run (at span_to) (ask (read_operand true) ts (λ e r. after_brace r (λ r. switch_body span_to w i (some_expr e) r)))
unfolding switch_tag_at
tagged w (lex s brace ∷ ts) i k f n = absurd (n (sym f))
tagged w ts i k f n = refl

pub tag_none : (w ts : Lexemes) (i : StmtOption Span) (k : Terminal) → first_of ts ≡ k → k ≢ code.Brace → at span_to (read_operand true) ts ≡ None → switch_tag_at w i ts ≡ None
tag_none w ts i k f n a = tagged w ts i k f n ∙ (lacks {k = λ e r. after_brace r (λ r. switch_body span_to w i (some_expr e) r)} a).is

pub tag_open : (w ts r : Lexemes) (i : StmtOption Span) (e : Expr Span) (k l : Terminal) → first_of ts ≡ k → k ≢ code.Brace → at span_to (read_operand true) ts ≡ Some (e, r) → first_of r ≡ l → l ≢ code.Brace → switch_tag_at w i ts ≡ None
tag_open w ts r i e k l f n a g m = tagged w ts i k f n ∙ (asks span_to {k = λ e r. after_brace r (λ r. switch_body span_to w i (some_expr e) r)} a (no_brace r l (λ r. switch_body span_to w i (some_expr e) r) g m)).is

pub tag_some : (w ts r us : Lexemes) (i : StmtOption Span) (e : Expr Span) (k : Terminal) → first_of ts ≡ k → k ≢ code.Brace → at span_to (read_operand true) ts ≡ Some (e, r) → first_of r ≡ code.Brace → us ≡ rest_of r → switch_tag_at w i ts ≡ switch_body_at w i (some_expr e) us
unfolding switch_body_at
tag_some w ts r us i e k f n a g u =
    tagged w ts i k f n ∙ (asks span_to {k = λ e r. after_brace r (λ r. switch_body span_to w i (some_expr e) r)} a (on_brace r us (λ r. switch_body span_to w i (some_expr e) r) g u (record { is = refl }))).is

pub switch_none : (w ts : Lexemes) (i : StmtOption Span) (t : ExprOption Span) → at span_to read_cases ts ≡ None → switch_body_at w i t ts ≡ None
unfolding switch_body_at
switch_none w ts i t a = (lacks {k = λ cs r. after_end_brace r (λ r. give (switch (span_to w r) i t cs) r)} a).is

pub switch_end : (w ts r : Lexemes) (i : StmtOption Span) (t : ExprOption Span) (cs : Cases Span) (k : Terminal) → at span_to read_cases ts ≡ Some (cs, r) → first_of r ≡ k → k ≢ code.EndBrace → switch_body_at w i t ts ≡ None
unfolding switch_body_at
switch_end w ts r i t cs k a f n = (asks span_to {k = λ cs r. after_end_brace r (λ r. give (switch (span_to w r) i t cs) r)} a (no_end_brace r k (λ r. give (switch (span_to w r) i t cs) r) f n)).is

pub switch_some : (w ts r us : Lexemes) (i : StmtOption Span) (t : ExprOption Span) (cs : Cases Span) → at span_to read_cases ts ≡ Some (cs, r) → first_of r ≡ code.EndBrace → us ≡ rest_of r → switch_body_at w i t ts ≡ Some (switch (span_to w us) i t cs, us)
unfolding switch_body_at
switch_some w ts r us i t cs a f u = (asks span_to {k = λ cs r. after_end_brace r (λ r. give (switch (span_to w r) i t cs) r)} a (on_end_brace r us (λ r. give (switch (span_to w r) i t cs) r) f u (gives span_to))).is
