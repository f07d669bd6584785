-- What spells a statement is read as it, from what is known of its parts.
use Rattle.std.proofs.Common.{◌≡◌, ℕ, Bool, true, false, List, ◌∷◌, Option, Some, None, refl, subst}
use Rattle.go_tree.specs.declared.spans.Span.{Span}
use Rattle.go_tree.specs.declared.exprs.Rest.{Rest}
use Rattle.go_tree.specs.Tree.{Expr, Exprs, ExprOption, Stmt, Stmts, StmtOption, BlockOption, RangeLeft, Arms, Cases, ValueSpecs, call, no_exprs, some_expr, const_decl, var_decl, empty, return_, break_, continue_, inner, if_, for_, range_, switch, defer, label, no_stmts, stmt_and, no_stmt, some_stmt, no_block, some_block, no_arms, arm, no_cases, case}
use Rattle.go_tree.specs.GoWords.Terminals.{lex, ident, semicolon, colon, brace, end_brace, key_break, key_case, key_const, key_continue, key_default, key_defer, key_else, key_for, key_if, key_range, key_return, key_switch, key_var}
use Rattle.go_read.specs.SpellsTypes.{Lexemes, name_here}
use Rattle.go_read.specs.Spells.{is_empty, SpellsIf, arm_rule, only_arm_rule, else_rule, else_if_rule}
use Rattle.go_read.specs.Goals.{range_clause, read_operand, read_exprs, read_simple, read_clause, read_stmt, read_stmts, read_block, read_arm, read_if, read_cases, read_decl}
use Rattle.go_read.specs.Programs.{give, ask}
use Rattle.go_read.specs.ReadStmts.{arm_after, arm_first, arm_step, if_after, if_step, for_body, for_post, for_test, for_after, for_first, switch_body, switch_tag, switch_after, switch_first, cases_step, stmts_after, stmts_step, block_step, return_step, break_step, continue_step, stmt_step}
use Rattle.go_read.specs.Reading.{at}
use Rattle.go_read.specs.Follows.{closes_stmt, ends_expr, literal_follows}
use Rattle.go_read.proofs.Finds.{Runs, gives, asks, passes, finish, is_end_brace, ends_stmt, ends_spec, ends_block, begins_expr}
use Rattle.go_read.proofs.CompleteExprs.{Full, whole_expr, Operand, operand_reads, Maybe, absent, present, List_of}
use Rattle.go_read.proofs.CompleteSimple.{stmt_exprs, Simple, eval_simple, label_apart}

closes_ends : (r : Lexemes) → closes_stmt r ≡ true → ends_stmt r ≡ true
closes_ends (lex _ semicolon ∷ _) e = refl
closes_ends (lex _ end_brace ∷ _) e = refl
closes_ends _ e = absurd cc

closes_plain : (r : Lexemes) → closes_stmt r ≡ true → literal_follows r ≡ false
closes_plain (lex _ semicolon ∷ _) e = refl
closes_plain (lex _ end_brace ∷ _) e = refl
closes_plain _ e = absurd cc

closes_spec : (r : Lexemes) → closes_stmt r ≡ true → ends_spec r ≡ true
closes_spec (lex _ semicolon ∷ _) e = refl
closes_spec (lex _ end_brace ∷ _) e = refl
closes_spec _ e = absurd cc

closes_expr : (r : Lexemes) → closes_stmt r ≡ true → ends_expr r ≡ true
closes_expr (lex _ semicolon ∷ _) e = refl
closes_expr (lex _ end_brace ∷ _) e = refl
closes_expr _ e = absurd cc

abbrev pub is_else : Lexemes → Bool
is_else (lex _ key_else ∷ _) = true
is_else _ = false

closes_if : (r : Lexemes) → closes_stmt r ≡ true → is_else r ≡ false
closes_if (lex _ semicolon ∷ _) e = refl
closes_if (lex _ end_brace ∷ _) e = refl
closes_if _ e = absurd cc

-- whether a statement of a list begins here
abbrev pub goes_on : Lexemes → Bool
goes_on (lex _ end_brace ∷ _) = false
goes_on (lex _ key_case ∷ _) = false
goes_on (lex _ key_default ∷ _) = false
goes_on _ = true

expr_goes_on : (ts : Lexemes) → begins_expr ts ≡ true → goes_on ts ≡ true
expr_goes_on (lex _ end_brace ∷ _) e = absurd cc
expr_goes_on (lex _ key_case ∷ _) e = absurd cc
expr_goes_on (lex _ key_default ∷ _) e = absurd cc
expr_goes_on _ e = refl

module _ {S : Type 0} (mark : Lexemes → Lexemes → S) where
  -- ---- headers

  pub data Part : StmtOption S → Lexemes → Lexemes → Type 0 where
    no_part : {r : Lexemes} → Part no_stmt r r
    some_part : {x : Stmt S} {ts r : Lexemes} → Simple mark true x ts r → Part (some_stmt x) ts r

  pub data First : StmtOption S → Lexemes → Lexemes → Type 0 where
    no_first : {r : Lexemes} → First no_stmt r r
    some_first : {c : Span} {i : StmtOption S} {ts r : Lexemes} → Part i ts (lex c semicolon ∷ r) → First i ts r

  -- ---- blocks and lists of statements

  abbrev pub Stmts_of : Stmts S → Lexemes → Lexemes → Type 0
  Stmts_of body ts r = ends_block r ≡ true → at mark read_stmts ts ≡ Some (body, r)

  pub block_reads : (s e : Span) (body : Stmts S) (ts r : Lexemes) → Stmts_of body ts (lex e end_brace ∷ r) → at mark read_block (lex s brace ∷ ts) ≡ Some ((mark (lex s brace ∷ ts) r, body), r)
  unfolding block_step
  block_reads s e body ts r k = finish mark read_block (lex s brace ∷ ts) (asks mark (k refl) (gives mark))

  pub record Stmt_of (x : Stmt S) (ts r : Lexemes) : Type 0 where
    pub full : is_empty x ≡ false → goes_on ts ≡ true
    pub goes : goes_on r ≡ true → goes_on ts ≡ true
    pub reads : closes_stmt r ≡ true → at mark read_stmt ts ≡ Some (x, r)

  -- a statement that begins with a token of its own
  keyed : (x : Stmt S) (ts r : Lexemes) → goes_on ts ≡ true → (closes_stmt r ≡ true → Runs mark (stmt_step mark ts) (Some (x, r))) → Stmt_of x ts r
  keyed x ts r g k = record { full = λ e. g; goes = λ e. g; reads = λ q. finish mark read_stmt ts (k q) }

  stmts_none : (r : Lexemes) → ends_block r ≡ true → Runs mark (stmts_step mark r) (Some (no_stmts, r))
  unfolding stmts_step
  stmts_none (lex _ end_brace ∷ _) q = gives mark
  stmts_none (lex _ key_case ∷ _) q = gives mark
  stmts_none (lex _ key_default ∷ _) q = gives mark
  stmts_none _ q = absurd cc

  stmts_go : {o : Option (Stmts S × Lexemes)} (ts : Lexemes) → goes_on ts ≡ true → Runs mark (ask read_stmt ts (λ x r. stmts_after mark x r)) o → Runs mark (stmts_step mark ts) o
  unfolding stmts_step
  stmts_go (lex _ end_brace ∷ _) q k = absurd cc
  stmts_go (lex _ key_case ∷ _) q k = absurd cc
  stmts_go (lex _ key_default ∷ _) q k = absurd cc
  stmts_go _ q k = k

  pub no_stmts_reads : (r : Lexemes) → Stmts_of no_stmts r r
  no_stmts_reads r q = finish mark read_stmts r (stmts_none r q)

  pub last_stmt_reads : (e : Span) (x : Stmt S) (ts r : Lexemes) → is_empty x ≡ false → Stmt_of x ts (lex e end_brace ∷ r) → Stmts_of (stmt_and x no_stmts) ts (lex e end_brace ∷ r)
  last_stmt_reads e x ts r full f q = finish mark read_stmts ts (stmts_go ts (f.full full) (asks mark (f.reads refl) (passes mark full (gives mark))))

  pub more_stmts_reads : (c : Span) (x : Stmt S) (xs : Stmts S) (ts mid r : Lexemes) → Stmt_of x ts (lex c semicolon ∷ mid) → Stmts_of xs mid r → Stmts_of (stmt_and x xs) ts r
  more_stmts_reads c x xs ts mid r f k q = finish mark read_stmts ts (stmts_go ts (f.goes refl) (asks mark (f.reads refl) (asks mark (k q) (gives mark))))

  -- ---- simple statements

  empty_go : (r : Lexemes) → closes_stmt r ≡ true → Runs mark (stmt_step mark r) (Some (empty (mark r r), r))
  unfolding stmt_step
  empty_go (lex _ semicolon ∷ _) q = gives mark
  empty_go (lex _ end_brace ∷ _) q = gives mark
  empty_go _ q = absurd cc

  pub empty_reads : (r : Lexemes) → Stmt_of (empty (mark r r)) r r
  empty_reads r = record { full = λ e. absurd cc; goes = λ e. e; reads = λ q. finish mark read_stmt r (empty_go r q) }

  no_colon : (c : Span) (ts r : Lexemes) → r ≡ lex c colon ∷ ts → closes_stmt r ≡ true → ⊥
  no_colon c ts r e q = clash (subst (λ m. closes_stmt m ≡ true) e q)
    where
      clash : false ≡ true → ⊥
      clash p = cc

  simple_go : (ts : Lexemes) (x : Stmt S) (r : Lexemes) → begins_expr ts ≡ true → at mark (read_simple false) ts ≡ Some (x, r) → closes_stmt r ≡ true → Runs mark (stmt_step mark ts) (Some (x, r))
  unfolding stmt_step
  simple_go (lex s (ident n) ∷ lex c colon ∷ ts) x r b e q = absurd (no_colon c ts r (label_apart mark s c n ts x r e) q)
  simple_go (lex _ key_const ∷ _) x r b e q = absurd cc
  simple_go (lex _ key_var ∷ _) x r b e q = absurd cc
  simple_go (lex _ key_return ∷ _) x r b e q = absurd cc
  simple_go (lex _ key_break ∷ _) x r b e q = absurd cc
  simple_go (lex _ key_continue ∷ _) x r b e q = absurd cc
  simple_go (lex _ brace ∷ _) x r b e q = absurd cc
  simple_go (lex _ key_if ∷ _) x r b e q = absurd cc
  simple_go (lex _ key_for ∷ _) x r b e q = absurd cc
  simple_go (lex _ key_switch ∷ _) x r b e q = absurd cc
  simple_go (lex _ key_defer ∷ _) x r b e q = absurd cc
  simple_go (lex _ semicolon ∷ _) x r b e q = absurd cc
  simple_go (lex _ end_brace ∷ _) x r b e q = absurd cc
  simple_go _ x r b e q = asks mark e (gives mark)

  pub simple_reads : (x : Stmt S) (ts r : Lexemes) → Simple mark false x ts r → Stmt_of x ts r
  simple_reads x ts r f = keyed x ts r (expr_goes_on ts f.begins) (λ q. simple_go ts x r f.begins (f.reads (closes_plain r q) (closes_ends r q)) q)

  -- ---- statements of one part

  return_none : (whole r : Lexemes) → closes_stmt r ≡ true → Runs mark (return_step mark whole r) (Some (return_ (mark whole r) no_exprs, r))
  return_none whole (lex _ semicolon ∷ _) q = gives mark
  return_none whole (lex _ end_brace ∷ _) q = gives mark
  return_none whole _ q = absurd cc

  pub return_reads : (s : Span) (r : Lexemes) → Stmt_of (return_ (mark (lex s key_return ∷ r) r) no_exprs) (lex s key_return ∷ r) r
  unfolding stmt_step
  return_reads s r = keyed (return_ (mark (lex s key_return ∷ r) r) no_exprs) (lex s key_return ∷ r) r refl (λ q. return_none (lex s key_return ∷ r) r q)

  return_go : {o : Option (Stmt S × Lexemes)} (whole ts : Lexemes) → begins_expr ts ≡ true → Runs mark (ask (read_exprs false) ts (λ xs r. give (return_ (mark whole r) xs) r)) o → Runs mark (return_step mark whole ts) o
  return_go whole (lex _ semicolon ∷ _) b k = absurd cc
  return_go whole (lex _ end_brace ∷ _) b k = absurd cc
  return_go whole _ b k = k

  pub return_values_reads : (s : Span) (xs : Exprs S) (ts r : Lexemes) → List_of mark false xs ts r → Stmt_of (return_ (mark (lex s key_return ∷ ts) r) xs) (lex s key_return ∷ ts) r
  unfolding stmt_step
  return_values_reads s xs ts r l = keyed (return_ (mark (lex s key_return ∷ ts) r) xs) (lex s key_return ∷ ts) r refl (λ q.
      return_go (lex s key_return ∷ ts) ts l.begins (asks mark (l.reads (closes_plain r q) (stmt_exprs r (closes_ends r q))) (gives mark)))

  break_none : (whole r : Lexemes) → closes_stmt r ≡ true → Runs mark (break_step mark whole r) (Some (break_ (mark whole r) None, r))
  break_none whole (lex _ semicolon ∷ _) q = gives mark
  break_none whole (lex _ end_brace ∷ _) q = gives mark
  break_none whole _ q = absurd cc

  continue_none : (whole r : Lexemes) → closes_stmt r ≡ true → Runs mark (continue_step mark whole r) (Some (continue_ (mark whole r) None, r))
  continue_none whole (lex _ semicolon ∷ _) q = gives mark
  continue_none whole (lex _ end_brace ∷ _) q = gives mark
  continue_none whole _ q = absurd cc

  pub break_reads : (s : Span) (r : Lexemes) → Stmt_of (break_ (mark (lex s key_break ∷ r) r) None) (lex s key_break ∷ r) r
  unfolding stmt_step
  break_reads s r = keyed (break_ (mark (lex s key_break ∷ r) r) None) (lex s key_break ∷ r) r refl (λ q. break_none (lex s key_break ∷ r) r q)

  pub break_label_reads : (s c : Span) (n : List ℕ) (r : Lexemes) → Stmt_of (break_ (mark (lex s key_break ∷ lex c (ident n) ∷ r) r) (Some (name_here mark c n r))) (lex s key_break ∷ lex c (ident n) ∷ r) r
  unfolding stmt_step
  break_label_reads s c n r = keyed (break_ (mark (lex s key_break ∷ lex c (ident n) ∷ r) r) (Some (name_here mark c n r))) (lex s key_break ∷ lex c (ident n) ∷ r) r refl (λ q. gives mark)

  pub continue_reads : (s : Span) (r : Lexemes) → Stmt_of (continue_ (mark (lex s key_continue ∷ r) r) None) (lex s key_continue ∷ r) r
  unfolding stmt_step
  continue_reads s r = keyed (continue_ (mark (lex s key_continue ∷ r) r) None) (lex s key_continue ∷ r) r refl (λ q. continue_none (lex s key_continue ∷ r) r q)

  pub continue_label_reads : (s c : Span) (n : List ℕ) (r : Lexemes) → Stmt_of (continue_ (mark (lex s key_continue ∷ lex c (ident n) ∷ r) r) (Some (name_here mark c n r))) (lex s key_continue ∷ lex c (ident n) ∷ r) r
  unfolding stmt_step
  continue_label_reads s c n r = keyed (continue_ (mark (lex s key_continue ∷ lex c (ident n) ∷ r) r) (Some (name_here mark c n r))) (lex s key_continue ∷ lex c (ident n) ∷ r) r refl (λ q. gives mark)

  pub inner_reads : (s : Span) (sb : S) (body : Stmts S) (ts r : Lexemes) → at mark read_block (lex s brace ∷ ts) ≡ Some ((sb, body), r) → Stmt_of (inner sb body) (lex s brace ∷ ts) r
  unfolding stmt_step
  inner_reads s sb body ts r e = keyed (inner sb body) (lex s brace ∷ ts) r refl (λ q. asks mark e (gives mark))

  pub defer_reads : (s : Span) (c : S) (f : Expr S) (xs : Exprs S) (rest : Rest) (ts r : Lexemes) → Full mark 1 false (call c f xs rest) true ts r → Stmt_of (defer (mark (lex s key_defer ∷ ts) r) (call c f xs rest)) (lex s key_defer ∷ ts) r
  unfolding stmt_step
  defer_reads s c f xs rest ts r k = keyed (defer (mark (lex s key_defer ∷ ts) r) (call c f xs rest)) (lex s key_defer ∷ ts) r refl (λ q.
      asks mark (whole_expr mark 1 false (call c f xs rest) true ts r k (closes_plain r q) (closes_expr r q)) (gives mark))

  pub label_reads : (s c : Span) (n : List ℕ) (x : Stmt S) (ts r : Lexemes) → Stmt_of x ts r → Stmt_of (label (mark (lex s (ident n) ∷ lex c colon ∷ ts) r) (name_here mark s n (lex c colon ∷ ts)) x) (lex s (ident n) ∷ lex c colon ∷ ts) r
  unfolding stmt_step
  label_reads s c n x ts r f = keyed (label (mark (lex s (ident n) ∷ lex c colon ∷ ts) r) (name_here mark s n (lex c colon ∷ ts)) x) (lex s (ident n) ∷ lex c colon ∷ ts) r refl (λ q. asks mark (f.reads q) (gives mark))

  pub const_reads : (s : Span) (g : Bool) (ss : ValueSpecs S) (ts r : Lexemes) → (ends_spec r ≡ true → at mark (read_decl true) ts ≡ Some ((g, ss), r)) → Stmt_of (const_decl (mark (lex s key_const ∷ ts) r) g ss) (lex s key_const ∷ ts) r
  unfolding stmt_step
  const_reads s g ss ts r k = keyed (const_decl (mark (lex s key_const ∷ ts) r) g ss) (lex s key_const ∷ ts) r refl (λ q. asks mark (k (closes_spec r q)) (gives mark))

  pub var_reads : (s : Span) (g : Bool) (ss : ValueSpecs S) (ts r : Lexemes) → (ends_spec r ≡ true → at mark (read_decl false) ts ≡ Some ((g, ss), r)) → Stmt_of (var_decl (mark (lex s key_var ∷ ts) r) g ss) (lex s key_var ∷ ts) r
  unfolding stmt_step
  var_reads s g ss ts r k = keyed (var_decl (mark (lex s key_var ∷ ts) r) g ss) (lex s key_var ∷ ts) r refl (λ q. asks mark (k (closes_spec r q)) (gives mark))

  -- ---- if

  arm_first_go : {o : Option ((StmtOption S × Expr S × S × Stmts S) × Lexemes)} (ts : Lexemes) → begins_expr ts ≡ true → Runs mark (ask (read_simple true) ts (λ x r. arm_after mark x r)) o → Runs mark (arm_first mark ts) o
  arm_first_go (lex _ semicolon ∷ _) b k = absurd cc
  arm_first_go _ b k = k

  arm_runs : {i : StmtOption S} {ts ts2 : Lexemes} (t : Expr S) (b : Span) (ts3 : Lexemes) (sb : S) (body : Stmts S) (r : Lexemes) → First i ts ts2 → Operand mark 1 true t ts2 (lex b brace ∷ ts3)
      → at mark read_block (lex b brace ∷ ts3) ≡ Some ((sb, body), r) → Runs mark (arm_first mark ts) (Some ((i, t, sb, body), r))
  arm_runs {ts2 = ts2} t b ts3 sb body r no_first f e =
      let x = eval_simple mark true t ts2 (lex b brace ∷ ts3) f in
      arm_first_go ts2 x.begins (asks mark (x.reads tt refl) (asks mark e (gives mark)))
  arm_runs {ts2 = ts2} t b ts3 sb body r (some_first no_part) f e = asks mark (operand_reads mark true t ts2 (lex b brace ∷ ts3) f tt refl) (asks mark e (gives mark))
  arm_runs {ts = ts} {ts2 = ts2} t b ts3 sb body r (some_first (some_part x)) f e =
      arm_first_go ts x.begins (asks mark (x.reads tt refl) (asks mark (operand_reads mark true t ts2 (lex b brace ∷ ts3) f tt refl) (asks mark e (gives mark))))

  abbrev pub Arm_of : StmtOption S → Expr S → S → Stmts S → Lexemes → Lexemes → Type 0
  Arm_of i t sb body ts r = at mark read_arm ts ≡ Some ((i, t, sb, body), r)

  pub arm_reads : (s : Span) {i : StmtOption S} {ts ts2 : Lexemes} (t : Expr S) (b : Span) (ts3 : Lexemes) (sb : S) (body : Stmts S) (r : Lexemes) → First i ts ts2 → Operand mark 1 true t ts2 (lex b brace ∷ ts3)
      → at mark read_block (lex b brace ∷ ts3) ≡ Some ((sb, body), r) → Arm_of i t sb body (lex s key_if ∷ ts) r
  unfolding arm_step
  arm_reads s {ts = ts} t b ts3 sb body r i f e = finish mark read_arm (lex s key_if ∷ ts) (arm_runs t b ts3 sb body r i f e)

  abbrev pub If_of : Arms S → BlockOption S → Lexemes → Lexemes → Type 0
  If_of arms last ts r = is_else r ≡ false → at mark read_if ts ≡ Some ((arms, last), r)

  if_done : (whole : Lexemes) (a : StmtOption S × Expr S × S × Stmts S) (r : Lexemes) → is_else r ≡ false → Runs mark (if_after mark whole a r) (Some ((arm (mark whole r) a.0 a.1 a.2 a.3 no_arms, no_block), r))
  if_done whole a (lex _ key_else ∷ r) q = absurd cc
  if_done whole a _ q = gives mark

  pub only_arm_reads : (i : StmtOption S) (t : Expr S) (sb : S) (body : Stmts S) (ts r : Lexemes) → Arm_of i t sb body ts r → If_of (arm (mark ts r) i t sb body no_arms) no_block ts r
  unfolding if_step
  only_arm_reads i t sb body ts r a q = finish mark read_if ts (asks mark a (if_done ts (i, t, sb, body) r q))

  pub else_reads : (c b : Span) (i : StmtOption S) (t : Expr S) (sb sl : S) (body last : Stmts S) (ts mid r : Lexemes) → Arm_of i t sb body ts (lex c key_else ∷ lex b brace ∷ mid) → at mark read_block (lex b brace ∷ mid) ≡ Some ((sl, last), r)
      → If_of (arm (mark ts (lex c key_else ∷ lex b brace ∷ mid)) i t sb body no_arms) (some_block sl last) ts r
  unfolding if_step
  else_reads c b i t sb sl body last ts mid r a e q = finish mark read_if ts (asks mark a (asks mark e (gives mark)))

  if_go : {o : Option ((Arms S × BlockOption S) × Lexemes)} (whole : Lexemes) (a : StmtOption S × Expr S × S × Stmts S) (c : Span) {arms : Arms S} {last : BlockOption S} {mid r : Lexemes} → SpellsIf mark arms last mid r
      → Runs mark (ask read_if mid (λ x r. give (arm (mark whole (lex c key_else ∷ mid)) a.0 a.1 a.2 a.3 x.0, x.1) r)) o → Runs mark (if_after mark whole a (lex c key_else ∷ mid)) o
  if_go whole a c (only_arm_rule (arm_rule i t b)) k = k
  if_go whole a c (else_rule (arm_rule i t b) l) k = k
  if_go whole a c (else_if_rule (arm_rule i t b) l) k = k

  pub else_if_reads : (c : Span) (i : StmtOption S) (t : Expr S) (sb : S) (body : Stmts S) (arms : Arms S) (last : BlockOption S) (ts mid r : Lexemes) → SpellsIf mark arms last mid r → Arm_of i t sb body ts (lex c key_else ∷ mid) → If_of arms last mid r
      → If_of (arm (mark ts (lex c key_else ∷ mid)) i t sb body arms) last ts r
  unfolding if_step
  else_if_reads c i t sb body arms last ts mid r d a k q = finish mark read_if ts (asks mark a (if_go ts (i, t, sb, body) c d (asks mark (k q) (gives mark))))

  pub if_reads : {arms : Arms S} {last : BlockOption S} {ts r : Lexemes} → SpellsIf mark arms last ts r → If_of arms last ts r → Stmt_of (if_ (mark ts r) arms last) ts r
  unfolding stmt_step
  if_reads {arms} {last} {r = r} (only_arm_rule {ts = ts} (arm_rule i t b)) k = keyed (if_ (mark ts r) arms last) ts r refl (λ q. asks mark (k (closes_if r q)) (gives mark))
  if_reads {arms} {last} {r = r} (else_rule {ts = ts} (arm_rule i t b) l) k = keyed (if_ (mark ts r) arms last) ts r refl (λ q. asks mark (k (closes_if r q)) (gives mark))
  if_reads {arms} {last} {r = r} (else_if_rule {ts = ts} (arm_rule i t b) l) k = keyed (if_ (mark ts r) arms last) ts r refl (λ q. asks mark (k (closes_if r q)) (gives mark))

  -- ---- for

  for_first_go : {o : Option (Stmt S × Lexemes)} (whole ts : Lexemes) → begins_expr ts ≡ true → Runs mark (ask read_clause ts (λ c r. for_after mark whole c r)) o → Runs mark (for_first mark whole ts) o
  for_first_go whole (lex _ brace ∷ _) b k = absurd cc
  for_first_go whole (lex _ semicolon ∷ _) b k = absurd cc
  for_first_go whole _ b k = k

  while_runs : (whole : Lexemes) {t : ExprOption S} {ts : Lexemes} {b : Span} {mid : Lexemes} (sb : S) (body : Stmts S) (r : Lexemes) → Maybe mark true t ts (lex b brace ∷ mid) → at mark read_block (lex b brace ∷ mid) ≡ Some ((sb, body), r)
      → Runs mark (for_first mark whole ts) (Some (for_ (mark whole r) no_stmt t no_stmt sb body, r))
  while_runs whole sb body r absent e = asks mark e (gives mark)
  while_runs whole {b = b} {mid = mid} sb body r (present {e = t} {ts = ts} f) e =
      let x = eval_simple mark true t ts (lex b brace ∷ mid) f in
      for_first_go whole ts x.begins (asks mark (x.clause refl) (asks mark e (gives mark)))

  pub while_reads : (s b : Span) (t : ExprOption S) (sb : S) (body : Stmts S) (ts mid r : Lexemes) → Maybe mark true t ts (lex b brace ∷ mid) → at mark read_block (lex b brace ∷ mid) ≡ Some ((sb, body), r)
      → Stmt_of (for_ (mark (lex s key_for ∷ ts) r) no_stmt t no_stmt sb body) (lex s key_for ∷ ts) r
  unfolding stmt_step
  while_reads s b t sb body ts mid r m e = keyed (for_ (mark (lex s key_for ∷ ts) r) no_stmt t no_stmt sb body) (lex s key_for ∷ ts) r refl (λ q. while_runs (lex s key_for ∷ ts) sb body r m e)

  for_post_go : {o : Option (Stmt S × Lexemes)} (whole : Lexemes) (i : StmtOption S) (t : ExprOption S) (ts : Lexemes) → begins_expr ts ≡ true → Runs mark (ask (read_simple true) ts (λ x r. for_body mark whole i t (some_stmt x) r)) o
      → Runs mark (for_post mark whole i t ts) o
  for_post_go whole i t (lex _ brace ∷ _) b k = absurd cc
  for_post_go whole i t _ b k = k

  for_post_runs : (whole : Lexemes) (i : StmtOption S) (t : ExprOption S) {p : StmtOption S} {ts : Lexemes} {b : Span} {mid : Lexemes} (sb : S) (body : Stmts S) (r : Lexemes) → Part p ts (lex b brace ∷ mid)
      → at mark read_block (lex b brace ∷ mid) ≡ Some ((sb, body), r) → Runs mark (for_post mark whole i t ts) (Some (for_ (mark whole r) i t p sb body, r))
  for_post_runs whole i t sb body r no_part e = asks mark e (gives mark)
  for_post_runs whole i t {ts = ts} sb body r (some_part x) e = for_post_go whole i t ts x.begins (asks mark (x.reads tt refl) (asks mark e (gives mark)))

  for_test_go : {o : Option (Stmt S × Lexemes)} (whole : Lexemes) (i : StmtOption S) (e : Expr S) (c : Span) (ts r : Lexemes) → begins_expr ts ≡ true → at mark (read_operand true) ts ≡ Some (e, lex c semicolon ∷ r)
      → Runs mark (for_post mark whole i (some_expr e) r) o → Runs mark (for_test mark whole i ts) o
  for_test_go whole i e c (lex _ semicolon ∷ _) r b q k = absurd cc
  for_test_go whole i e c _ r b q k = asks mark q k

  for_test_runs : {o : Option (Stmt S × Lexemes)} (whole : Lexemes) (i : StmtOption S) {t : ExprOption S} {ts : Lexemes} {c : Span} {mid : Lexemes} → Maybe mark true t ts (lex c semicolon ∷ mid) → Runs mark (for_post mark whole i t mid) o
      → Runs mark (for_test mark whole i ts) o
  for_test_runs whole i absent k = k
  for_test_runs whole i {c = c} {mid = mid} (present {e = e} {ts = ts} f) k = for_test_go whole i e c ts mid f.full.begins (operand_reads mark true e ts (lex c semicolon ∷ mid) f tt refl) k

  for_runs : {o : Option (Stmt S × Lexemes)} (whole : Lexemes) {i : StmtOption S} {ts : Lexemes} {c : Span} {mid : Lexemes} → Part i ts (lex c semicolon ∷ mid) → Runs mark (for_test mark whole i mid) o → Runs mark (for_first mark whole ts) o
  for_runs whole no_part k = k
  for_runs whole {ts = ts} (some_part x) k = for_first_go whole ts x.begins (asks mark (x.clause refl) k)

  pub for_reads : (s c d b : Span) (i p : StmtOption S) (t : ExprOption S) (sb : S) (body : Stmts S) (ts ts2 ts3 ts4 r : Lexemes) → Part i ts (lex c semicolon ∷ ts2) → Maybe mark true t ts2 (lex d semicolon ∷ ts3) → Part p ts3 (lex b brace ∷ ts4)
      → at mark read_block (lex b brace ∷ ts4) ≡ Some ((sb, body), r) → Stmt_of (for_ (mark (lex s key_for ∷ ts) r) i t p sb body) (lex s key_for ∷ ts) r
  unfolding stmt_step
  for_reads s c d b i p t sb body ts ts2 ts3 ts4 r x m y e =
      keyed (for_ (mark (lex s key_for ∷ ts) r) i t p sb body) (lex s key_for ∷ ts) r refl (λ q.
      for_runs (lex s key_for ∷ ts) x (for_test_runs (lex s key_for ∷ ts) i m (for_post_runs (lex s key_for ∷ ts) i t sb body r y e)))

  range_runs : (whole : Lexemes) (left : RangeLeft S) (e : Expr S) (b : Span) (sb : S) (body : Stmts S) (ts mid r : Lexemes) → Operand mark 1 true e ts (lex b brace ∷ mid) → at mark read_block (lex b brace ∷ mid) ≡ Some ((sb, body), r)
      → Runs mark (for_after mark whole (range_clause left) ts) (Some (range_ (mark whole r) left e sb body, r))
  range_runs whole left e b sb body ts mid r f q = asks mark (operand_reads mark true e ts (lex b brace ∷ mid) f tt refl) (asks mark q (gives mark))

  -- the first token is `range`, or begins an expression
  pub range_alone_reads : (s c b : Span) (left : RangeLeft S) (e : Expr S) (sb : S) (body : Stmts S) (ts mid r : Lexemes) → at mark read_clause (lex c key_range ∷ ts) ≡ Some (range_clause left, ts) → Operand mark 1 true e ts (lex b brace ∷ mid)
      → at mark read_block (lex b brace ∷ mid) ≡ Some ((sb, body), r) → Stmt_of (range_ (mark (lex s key_for ∷ lex c key_range ∷ ts) r) left e sb body) (lex s key_for ∷ lex c key_range ∷ ts) r
  unfolding stmt_step
  range_alone_reads s c b left e sb body ts mid r k f q =
      keyed (range_ (mark (lex s key_for ∷ lex c key_range ∷ ts) r) left e sb body) (lex s key_for ∷ lex c key_range ∷ ts) r refl (λ z. asks mark k (range_runs (lex s key_for ∷ lex c key_range ∷ ts) left e b sb body ts mid r f q))

  pub range_left_reads : (s b : Span) (left : RangeLeft S) (e : Expr S) (sb : S) (body : Stmts S) (ts ts2 mid r : Lexemes) → begins_expr ts ≡ true → at mark read_clause ts ≡ Some (range_clause left, ts2) → Operand mark 1 true e ts2 (lex b brace ∷ mid)
      → at mark read_block (lex b brace ∷ mid) ≡ Some ((sb, body), r) → Stmt_of (range_ (mark (lex s key_for ∷ ts) r) left e sb body) (lex s key_for ∷ ts) r
  unfolding stmt_step
  range_left_reads s b left e sb body ts ts2 mid r g k f q =
      keyed (range_ (mark (lex s key_for ∷ ts) r) left e sb body) (lex s key_for ∷ ts) r refl (λ z. for_first_go (lex s key_for ∷ ts) ts g (asks mark k (range_runs (lex s key_for ∷ ts) left e b sb body ts2 mid r f q)))

  -- ---- switch

  pub record Cases_of (cs : Cases S) (ts r : Lexemes) : Type 0 where
    pub starts : is_end_brace r ≡ true → ends_block ts ≡ true
    pub reads : is_end_brace r ≡ true → at mark read_cases ts ≡ Some (cs, r)

  switch_tag_go : {o : Option (Stmt S × Lexemes)} (whole : Lexemes) (i : StmtOption S) (e : Expr S) (b : Span) (ts r : Lexemes) → begins_expr ts ≡ true → at mark (read_operand true) ts ≡ Some (e, lex b brace ∷ r)
      → Runs mark (switch_body mark whole i (some_expr e) r) o → Runs mark (switch_tag mark whole i ts) o
  switch_tag_go whole i e b (lex _ brace ∷ _) r g q k = absurd cc
  switch_tag_go whole i e b _ r g q k = asks mark q k

  switch_tag_runs : {o : Option (Stmt S × Lexemes)} (whole : Lexemes) (i : StmtOption S) {t : ExprOption S} {ts : Lexemes} {b : Span} {mid : Lexemes} → Maybe mark true t ts (lex b brace ∷ mid) → Runs mark (switch_body mark whole i t mid) o
      → Runs mark (switch_tag mark whole i ts) o
  switch_tag_runs whole i absent k = k
  switch_tag_runs whole i {b = b} {mid = mid} (present {e = e} {ts = ts} f) k = switch_tag_go whole i e b ts mid f.full.begins (operand_reads mark true e ts (lex b brace ∷ mid) f tt refl) k

  switch_first_go : {o : Option (Stmt S × Lexemes)} (whole ts : Lexemes) → begins_expr ts ≡ true → Runs mark (ask (read_simple true) ts (λ x r. switch_after mark whole x r)) o → Runs mark (switch_first mark whole ts) o
  switch_first_go whole (lex _ brace ∷ _) g k = absurd cc
  switch_first_go whole (lex _ semicolon ∷ _) g k = absurd cc
  switch_first_go whole _ g k = k

  switch_runs : {o : Option (Stmt S × Lexemes)} (whole : Lexemes) {i : StmtOption S} {t : ExprOption S} {ts ts2 : Lexemes} {b : Span} {mid : Lexemes} → First i ts ts2 → Maybe mark true t ts2 (lex b brace ∷ mid) → Runs mark (switch_body mark whole i t mid) o
      → Runs mark (switch_first mark whole ts) o
  switch_runs whole no_first absent k = k
  switch_runs whole {b = b} {mid = mid} no_first (present {e = e} {ts = ts} f) k =
      let x = eval_simple mark true e ts (lex b brace ∷ mid) f in
      switch_first_go whole ts x.begins (asks mark (x.reads tt refl) k)
  switch_runs whole (some_first no_part) m k = switch_tag_runs whole no_stmt m k
  switch_runs whole {i = i} {ts = ts} (some_first (some_part x)) m k = switch_first_go whole ts x.begins (asks mark (x.reads tt refl) (switch_tag_runs whole i m k))

  pub switch_reads : (s b e : Span) (i : StmtOption S) (t : ExprOption S) (cs : Cases S) (ts ts2 ts3 r : Lexemes) → First i ts ts2 → Maybe mark true t ts2 (lex b brace ∷ ts3) → Cases_of cs ts3 (lex e end_brace ∷ r)
      → Stmt_of (switch (mark (lex s key_switch ∷ ts) r) i t cs) (lex s key_switch ∷ ts) r
  unfolding stmt_step
  switch_reads s b e i t cs ts ts2 ts3 r x m k =
      keyed (switch (mark (lex s key_switch ∷ ts) r) i t cs) (lex s key_switch ∷ ts) r refl (λ q. switch_runs (lex s key_switch ∷ ts) x m (asks mark (k.reads refl) (gives mark)))

  brace_block : (r : Lexemes) → is_end_brace r ≡ true → ends_block r ≡ true
  brace_block (lex _ end_brace ∷ _) q = refl
  brace_block _ q = absurd cc

  cases_none : (r : Lexemes) → is_end_brace r ≡ true → Runs mark (cases_step mark r) (Some (no_cases, r))
  unfolding cases_step
  cases_none (lex _ end_brace ∷ _) q = gives mark
  cases_none _ q = absurd cc

  pub no_cases_reads : (r : Lexemes) → Cases_of no_cases r r
  no_cases_reads r = record { starts = λ q. brace_block r q; reads = λ q. finish mark read_cases r (cases_none r q) }

  pub case_reads : (s c : Span) (xs : Exprs S) (body : Stmts S) (cs : Cases S) (ts ts2 mid r : Lexemes) → List_of mark false xs ts (lex c colon ∷ ts2) → Stmts_of body ts2 mid → Cases_of cs mid r
      → Cases_of (case (mark (lex s key_case ∷ ts) mid) xs body cs) (lex s key_case ∷ ts) r
  unfolding cases_step
  case_reads s c xs body cs ts ts2 mid r l b k =
      record { starts = λ q. refl; reads = λ q. finish mark read_cases (lex s key_case ∷ ts) (asks mark (l.reads refl refl) (asks mark (b (k.starts q)) (asks mark (k.reads q) (gives mark)))) }

  pub default_reads : (s c : Span) (body : Stmts S) (cs : Cases S) (ts mid r : Lexemes) → Stmts_of body ts mid → Cases_of cs mid r → Cases_of (case (mark (lex s key_default ∷ lex c colon ∷ ts) mid) no_exprs body cs) (lex s key_default ∷ lex c colon ∷ ts) r
  unfolding cases_step
  default_reads s c body cs ts mid r b k =
      record { starts = λ q. refl; reads = λ q. finish mark read_cases (lex s key_default ∷ lex c colon ∷ ts) (asks mark (b (k.starts q)) (asks mark (k.reads q) (gives mark))) }
