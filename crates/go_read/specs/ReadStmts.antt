-- One step of reading a statement, and a declaration of constants or variables.
use Rattle.std.specs.Prelude.{Bool, true, false, List, ◌∷◌, Option, Some, None}
use Rattle.go_tree.specs.Tree.{NameAt, TypeExpr, Expr, Exprs, ExprOption, Stmt, Stmts, StmtOption, BlockOption, Arms}
use Rattle.go_tree.specs.Tree.{Cases, ValueSpecs, call, no_exprs, expr_and, no_expr, some_expr, const_decl, var_decl}
use Rattle.go_tree.specs.Tree.{empty, eval, step, assign, define, return_, break_, continue_, inner, if_, for_, range_}
use Rattle.go_tree.specs.Tree.{switch, defer, label, no_stmts, stmt_and, no_stmt, some_stmt, no_block, some_block}
use Rattle.go_tree.specs.Tree.{nothing, assigns, defines, no_arms, arm, no_cases, case, no_specs, spec}
use Rattle.go_tree.specs.GoWords.Terminals as terminal
use Rattle.go_tree.specs.GoWords.Terminals.{lex, ident, increment, decrement, semicolon, colon, paren, end_paren, brace}
use Rattle.go_tree.specs.GoWords.Terminals.{end_brace, key_break, key_case, key_const, key_continue, key_default}
use Rattle.go_tree.specs.GoWords.Terminals.{key_defer, key_else, key_for, key_if, key_range, key_return, key_switch}
use Rattle.go_tree.specs.GoWords.Terminals.{key_var}
use Rattle.go_read.specs.SpellsTypes.{Lexemes, name_here}
use Rattle.go_read.specs.Spells.{is_empty}
use Rattle.go_read.specs.Goals.{Clause, plain_clause, range_clause, read_type, read_names, read_expr, read_operand}
use Rattle.go_read.specs.Goals.{read_exprs, read_simple, read_simple_after, read_clause, read_stmt, read_stmts}
use Rattle.go_read.specs.Goals.{read_block, read_arm, read_if, read_cases, read_decl, read_specs, read_spec}
use Rattle.go_read.specs.Programs.{Program, give, fail, ask, look, unless, after_semicolon, after_colon, after_brace}
use Rattle.go_read.specs.Programs.{after_end_brace, after_end_paren}

module _ {S : Type 0} (mark : Lexemes → Lexemes → S) where
  -- after one expression
  abbrev pub one_after : Lexemes → Expr S → Lexemes → Program S (Stmt S)
  one_after whole e (lex _ increment ∷ r) = give (step (mark whole r) e true) r
  one_after whole e (lex _ decrement ∷ r) = give (step (mark whole r) e false) r
  one_after whole e r = give (eval (mark whole r) e) r

  -- where there is one expression alone: that as a statement, `++` or `--`
  abbrev pub one_expr : Lexemes → Exprs S → Lexemes → Program S (Stmt S)
  one_expr whole (expr_and e no_exprs) ts = one_after whole e ts
  one_expr whole _ ts = fail

  -- behind expressions: an assignment, or what may follow one alone
  unfoldable pub simple_after_step : Bool → Lexemes → Exprs S → Lexemes → Program S (Stmt S)
  simple_after_step header whole xs (lex _ (terminal.assign op) ∷ ts) =
      ask (read_exprs header) ts (λ ys r. give (assign (mark whole r) xs op ys) r)
  simple_after_step header whole xs ts = one_expr whole xs ts

  -- a simple statement that begins with expressions
  abbrev pub simple_exprs : Bool → Lexemes → Program S (Stmt S)
  simple_exprs header ts = ask (read_exprs header) ts (λ xs r. ask (read_simple_after header ts xs) r (λ x r. give x r))

  -- names and `:=` where they stand here, else expressions
  abbrev pub simple_names : Bool → Lexemes → Option (List (NameAt S) × Lexemes) → Program S (Stmt S)
  simple_names header whole (Some (ns, lex _ terminal.define ∷ ts)) =
      ask (read_exprs header) ts (λ ys r. give (define (mark whole r) ns ys) r)
  simple_names header whole _ = simple_exprs header whole

  -- a simple statement, in a header or not
  unfoldable pub simple_step : Bool → Lexemes → Program S (Stmt S)
  simple_step header ts = look read_names ts (λ o. simple_names header ts o)

  -- behind expressions in the header of a `for`: `= range`, or what else may follow them
  abbrev pub clause_after : Lexemes → Exprs S → Lexemes → Program S (Clause S)
  clause_after whole xs (lex _ (terminal.assign None) ∷ lex _ key_range ∷ ts) = give (range_clause (assigns xs)) ts
  clause_after whole xs r = ask (read_simple_after true whole xs) r (λ x r. give (plain_clause x) r)

  -- the first clause of a `for` that begins with expressions
  abbrev pub clause_exprs : Lexemes → Program S (Clause S)
  clause_exprs ts = ask (read_exprs true) ts (λ xs r. clause_after ts xs r)

  -- names and `:=`, and then `range` or values; else expressions
  abbrev pub clause_names : Lexemes → Option (List (NameAt S) × Lexemes) → Program S (Clause S)
  clause_names whole (Some (ns, lex _ terminal.define ∷ lex _ key_range ∷ ts)) = give (range_clause (defines ns)) ts
  clause_names whole (Some (ns, lex _ terminal.define ∷ ts)) =
      ask (read_exprs true) ts (λ ys r. give (plain_clause (define (mark whole r) ns ys)) r)
  clause_names whole _ = clause_exprs whole

  -- the first clause of a `for`: through `range`, or a simple statement
  unfoldable pub clause_step : Lexemes → Program S (Clause S)
  clause_step (lex _ key_range ∷ ts) = give (range_clause nothing) ts
  clause_step ts = look read_names ts (λ o. clause_names ts o)

  -- the block of an arm, and its test
  abbrev pub arm_body : StmtOption S → Expr S → Lexemes → Program S (StmtOption S × Expr S × S × Stmts S)
  arm_body i e ts = ask read_block ts (λ b r. give (i, e, b.0, b.1) r)

  -- the test of an arm, behind its first statement
  abbrev pub arm_test : StmtOption S → Lexemes → Program S (StmtOption S × Expr S × S × Stmts S)
  arm_test i ts = ask (read_operand true) ts (λ e r. arm_body i e r)

  -- the test of an arm that has no first statement, which was read as a statement
  abbrev pub arm_eval : Stmt S → Lexemes → Program S (StmtOption S × Expr S × S × Stmts S)
  arm_eval (eval _ e) ts = arm_body no_stmt e ts
  arm_eval _ ts = fail

  -- behind a simple statement: a semicolon and the test, or that statement is the test
  abbrev pub arm_after : Stmt S → Lexemes → Program S (StmtOption S × Expr S × S × Stmts S)
  arm_after x (lex _ semicolon ∷ ts) = arm_test (some_stmt x) ts
  arm_after x ts = arm_eval x ts

  -- the header of an arm, from behind `if` on
  abbrev pub arm_first : Lexemes → Program S (StmtOption S × Expr S × S × Stmts S)
  arm_first (lex _ semicolon ∷ ts) = arm_test no_stmt ts
  arm_first ts = ask (read_simple true) ts (λ x r. arm_after x r)

  -- an arm, from `if` on
  unfoldable pub arm_step : Lexemes → Program S (StmtOption S × Expr S × S × Stmts S)
  arm_step (lex _ key_if ∷ ts) = arm_first ts
  arm_step _ = fail

  -- behind an arm: `else` and a further arm, `else` and the last block, or the end
  abbrev pub if_after : Lexemes → StmtOption S × Expr S × S × Stmts S → Lexemes → Program S (Arms S × BlockOption S)
  if_after whole a (lex c key_else ∷ lex s key_if ∷ ts) =
      ask read_if (lex s key_if ∷ ts)
      (λ x r. give (arm (mark whole (lex c key_else ∷ lex s key_if ∷ ts)) a.0 a.1 a.2 a.3 x.0, x.1) r)
  if_after whole a (lex c key_else ∷ ts) =
      ask read_block ts
      (λ b r. give (arm (mark whole (lex c key_else ∷ ts)) a.0 a.1 a.2 a.3 no_arms, some_block b.0 b.1) r)
  if_after whole a ts = give (arm (mark whole ts) a.0 a.1 a.2 a.3 no_arms, no_block) ts

  -- the arms of an `if`, and its last block
  unfoldable pub if_step : Lexemes → Program S (Arms S × BlockOption S)
  if_step ts = ask read_arm ts (λ a r. if_after ts a r)

  -- the parts of a `for` statement, from its last to its first; `whole` begins with the keyword
  abbrev pub for_body : Lexemes → StmtOption S → ExprOption S → StmtOption S → Lexemes → Program S (Stmt S)
  for_body whole i t p ts = ask read_block ts (λ b r. give (for_ (mark whole r) i t p b.0 b.1) r)

  -- the last clause of a `for`, if any, and the block
  abbrev pub for_post : Lexemes → StmtOption S → ExprOption S → Lexemes → Program S (Stmt S)
  for_post whole i t (lex b brace ∷ ts) = for_body whole i t no_stmt (lex b brace ∷ ts)
  for_post whole i t ts = ask (read_simple true) ts (λ x r. for_body whole i t (some_stmt x) r)

  -- the condition, if any, behind the first semicolon
  abbrev pub for_test : Lexemes → StmtOption S → Lexemes → Program S (Stmt S)
  for_test whole i (lex _ semicolon ∷ ts) = for_post whole i no_expr ts
  for_test whole i ts = ask (read_operand true) ts (λ e r. after_semicolon r (λ r. for_post whole i (some_expr e) r))

  -- a `for` with its condition alone
  abbrev pub for_eval : Lexemes → Stmt S → Lexemes → Program S (Stmt S)
  for_eval whole (eval _ e) ts = for_body whole no_stmt (some_expr e) no_stmt ts
  for_eval whole _ ts = fail

  -- behind a simple statement: a semicolon and the condition, or that statement is the condition
  abbrev pub for_plain : Lexemes → Stmt S → Lexemes → Program S (Stmt S)
  for_plain whole x (lex _ semicolon ∷ ts) = for_test whole (some_stmt x) ts
  for_plain whole x ts = for_eval whole x ts

  -- behind the first clause: what is ranged over, or the rest of the header
  abbrev pub for_after : Lexemes → Clause S → Lexemes → Program S (Stmt S)
  for_after whole (range_clause left) ts =
      ask (read_operand true) ts (λ e r. ask read_block r (λ b r. give (range_ (mark whole r) left e b.0 b.1) r))
  for_after whole (plain_clause x) ts = for_plain whole x ts

  -- a `for` statement from behind the keyword on
  abbrev pub for_first : Lexemes → Lexemes → Program S (Stmt S)
  for_first whole (lex b brace ∷ ts) = for_body whole no_stmt no_expr no_stmt (lex b brace ∷ ts)
  for_first whole (lex _ semicolon ∷ ts) = for_test whole no_stmt ts
  for_first whole ts = ask read_clause ts (λ c r. for_after whole c r)

  -- the parts of a `switch` statement, likewise
  abbrev pub switch_body : Lexemes → StmtOption S → ExprOption S → Lexemes → Program S (Stmt S)
  switch_body whole i t ts = ask read_cases ts (λ cs r. after_end_brace r (λ r. give (switch (mark whole r) i t cs) r))

  -- the tag, if any, behind the first statement
  abbrev pub switch_tag : Lexemes → StmtOption S → Lexemes → Program S (Stmt S)
  switch_tag whole i (lex _ brace ∷ ts) = switch_body whole i no_expr ts
  switch_tag whole i ts = ask (read_operand true) ts (λ e r. after_brace r (λ r. switch_body whole i (some_expr e) r))

  -- a `switch` with its tag alone
  abbrev pub switch_eval : Lexemes → Stmt S → Lexemes → Program S (Stmt S)
  switch_eval whole (eval _ e) ts = after_brace ts (λ r. switch_body whole no_stmt (some_expr e) r)
  switch_eval whole _ ts = fail

  -- behind a simple statement: a semicolon and the tag, or that statement is the tag
  abbrev pub switch_after : Lexemes → Stmt S → Lexemes → Program S (Stmt S)
  switch_after whole x (lex _ semicolon ∷ ts) = switch_tag whole (some_stmt x) ts
  switch_after whole x ts = switch_eval whole x ts

  -- a `switch` statement from behind the keyword on
  abbrev pub switch_first : Lexemes → Lexemes → Program S (Stmt S)
  switch_first whole (lex _ brace ∷ ts) = switch_body whole no_stmt no_expr ts
  switch_first whole (lex _ semicolon ∷ ts) = switch_tag whole no_stmt ts
  switch_first whole ts = ask (read_simple true) ts (λ x r. switch_after whole x r)

  -- the statements of a clause behind its colon, and the clauses after it
  abbrev pub case_body : Lexemes → Exprs S → Lexemes → Program S (Cases S)
  case_body whole xs ts =
      ask read_stmts ts (λ body mid. ask read_cases mid (λ cs r. give (case (mark whole mid) xs body cs) r))

  -- the clauses of a switch, up to before its closing brace
  unfoldable pub cases_step : Lexemes → Program S (Cases S)
  cases_step (lex s key_case ∷ ts) =
      ask (read_exprs false) ts (λ xs r. after_colon r (λ r. case_body (lex s key_case ∷ ts) xs r))
  cases_step (lex s key_default ∷ lex c colon ∷ ts) = case_body (lex s key_default ∷ lex c colon ∷ ts) no_exprs ts
  cases_step ts = give no_cases ts

  -- behind a statement: a semicolon and further ones, or the end
  abbrev pub stmts_after : Stmt S → Lexemes → Program S (Stmts S)
  stmts_after x (lex _ semicolon ∷ ts) = ask read_stmts ts (λ xs r. give (stmt_and x xs) r)
  stmts_after x (lex c end_brace ∷ ts) = unless (is_empty x) (give (stmt_and x no_stmts) (lex c end_brace ∷ ts))
  stmts_after x _ = fail

  -- statements, up to before a closing brace, `case` or `default`
  unfoldable pub stmts_step : Lexemes → Program S (Stmts S)
  stmts_step (lex c end_brace ∷ ts) = give no_stmts (lex c end_brace ∷ ts)
  stmts_step (lex c key_case ∷ ts) = give no_stmts (lex c key_case ∷ ts)
  stmts_step (lex c key_default ∷ ts) = give no_stmts (lex c key_default ∷ ts)
  stmts_step ts = ask read_stmt ts (λ x r. stmts_after x r)

  -- a block
  unfoldable pub block_step : Lexemes → Program S (S × Stmts S)
  block_step (lex s brace ∷ ts) =
      ask read_stmts ts (λ body r. after_end_brace r (λ r. give (mark (lex s brace ∷ ts) r, body) r))
  block_step _ = fail

  -- a `return` with values or without
  abbrev pub return_step : Lexemes → Lexemes → Program S (Stmt S)
  return_step whole (lex c semicolon ∷ ts) =
      give (return_ (mark whole (lex c semicolon ∷ ts)) no_exprs) (lex c semicolon ∷ ts)
  return_step whole (lex c end_brace ∷ ts) =
      give (return_ (mark whole (lex c end_brace ∷ ts)) no_exprs) (lex c end_brace ∷ ts)
  return_step whole ts = ask (read_exprs false) ts (λ xs r. give (return_ (mark whole r) xs) r)

  -- a `break` with a label or without
  abbrev pub break_step : Lexemes → Lexemes → Program S (Stmt S)
  break_step whole (lex c (ident n) ∷ r) = give (break_ (mark whole r) (Some (name_here mark c n r))) r
  break_step whole r = give (break_ (mark whole r) None) r

  -- a `continue` with a label or without
  abbrev pub continue_step : Lexemes → Lexemes → Program S (Stmt S)
  continue_step whole (lex c (ident n) ∷ r) = give (continue_ (mark whole r) (Some (name_here mark c n r))) r
  continue_step whole r = give (continue_ (mark whole r) None) r

  -- a deferred call has no parentheses around it
  abbrev pub defer_after : Lexemes → Expr S × Bool → Lexemes → Program S (Stmt S)
  defer_after whole (call s f xs rest, true) r = give (defer (mark whole r) (call s f xs rest)) r
  defer_after whole _ r = fail

  -- a simple statement, which begins with no keyword
  abbrev pub word_stmt : Lexemes → Program S (Stmt S)
  word_stmt ts = ask (read_simple false) ts (λ x r. give x r)

  -- a statement, by its first tokens
  unfoldable pub stmt_step : Lexemes → Program S (Stmt S)
  stmt_step (lex s key_const ∷ ts) =
      ask (read_decl true) ts (λ x r. give (const_decl (mark (lex s key_const ∷ ts) r) x.0 x.1) r)
  stmt_step (lex s key_var ∷ ts) =
      ask (read_decl false) ts (λ x r. give (var_decl (mark (lex s key_var ∷ ts) r) x.0 x.1) r)
  stmt_step (lex s key_return ∷ ts) = return_step (lex s key_return ∷ ts) ts
  stmt_step (lex s key_break ∷ ts) = break_step (lex s key_break ∷ ts) ts
  stmt_step (lex s key_continue ∷ ts) = continue_step (lex s key_continue ∷ ts) ts
  stmt_step (lex s brace ∷ ts) = ask read_block (lex s brace ∷ ts) (λ b r. give (inner b.0 b.1) r)
  stmt_step (lex s key_if ∷ ts) =
      ask read_if (lex s key_if ∷ ts) (λ x r. give (if_ (mark (lex s key_if ∷ ts) r) x.0 x.1) r)
  stmt_step (lex s key_for ∷ ts) = for_first (lex s key_for ∷ ts) ts
  stmt_step (lex s key_switch ∷ ts) = switch_first (lex s key_switch ∷ ts) ts
  stmt_step (lex s key_defer ∷ ts) = ask (read_expr 1 false) ts (λ x r. defer_after (lex s key_defer ∷ ts) x r)
  stmt_step (lex s (ident n) ∷ lex c colon ∷ ts) =
      ask read_stmt ts
      (λ x r. give (label (mark (lex s (ident n) ∷ lex c colon ∷ ts) r) (name_here mark s n (lex c colon ∷ ts)) x) r)
  stmt_step (lex s semicolon ∷ ts) =
      give (empty (mark (lex s semicolon ∷ ts) (lex s semicolon ∷ ts))) (lex s semicolon ∷ ts)
  stmt_step (lex s end_brace ∷ ts) =
      give (empty (mark (lex s end_brace ∷ ts) (lex s end_brace ∷ ts))) (lex s end_brace ∷ ts)
  stmt_step ts = word_stmt ts

  -- what stands behind `const` or `var`: a group in parentheses, or one spec
  unfoldable pub decl_step : Bool → Lexemes → Program S (Bool × ValueSpecs S)
  decl_step constant (lex s paren ∷ ts) =
      ask (read_specs constant) ts (λ ss r. after_end_paren r (λ r. give (true, ss) r))
  decl_step constant ts = ask (read_spec constant) ts (λ x r. give (false, spec (mark ts r) x.0 x.1 x.2 no_specs) r)

  -- behind a spec of a group: a semicolon and further ones, or the end
  abbrev pub specs_after : Bool → Lexemes → List (NameAt S) × Option (TypeExpr S) × Exprs S → Lexemes →
      Program S (ValueSpecs S)
  specs_after constant whole x (lex c semicolon ∷ ts) =
      ask (read_specs constant) ts (λ ss r. give (spec (mark whole (lex c semicolon ∷ ts)) x.0 x.1 x.2 ss) r)
  specs_after constant whole x (lex c end_paren ∷ ts) =
      give (spec (mark whole (lex c end_paren ∷ ts)) x.0 x.1 x.2 no_specs) (lex c end_paren ∷ ts)
  specs_after constant whole x _ = fail

  -- the specs of a group, up to before its closing parenthesis
  unfoldable pub specs_step : Bool → Lexemes → Program S (ValueSpecs S)
  specs_step constant (lex c end_paren ∷ ts) = give no_specs (lex c end_paren ∷ ts)
  specs_step constant ts = ask (read_spec constant) ts (λ x r. specs_after constant ts x r)

  -- behind the type of a spec: `=` and values; a variable may have none
  abbrev pub typed_after : Bool → List (NameAt S) → TypeExpr S → Lexemes →
      Program S (List (NameAt S) × Option (TypeExpr S) × Exprs S)
  typed_after constant ns t (lex _ (terminal.assign None) ∷ ts) =
      ask (read_exprs false) ts (λ xs r. give (ns, Some t, xs) r)
  typed_after false ns t ts = give (ns, Some t, no_exprs) ts
  typed_after true ns t ts = fail

  -- the type of a spec, and its values
  abbrev pub typed_step : Bool → List (NameAt S) → Lexemes → Program S (List (NameAt S) × Option (TypeExpr S) × Exprs S)
  typed_step constant ns ts = ask read_type ts (λ t r. typed_after constant ns t r)

  -- behind the names of a spec: values without a type, nothing for a constant that repeats, or a type
  abbrev pub spec_after : Bool → List (NameAt S) → Lexemes → Program S (List (NameAt S) × Option (TypeExpr S) × Exprs S)
  spec_after constant ns (lex _ (terminal.assign None) ∷ ts) = ask (read_exprs false) ts (λ xs r. give (ns, None, xs) r)
  spec_after true ns (lex c semicolon ∷ ts) = give (ns, None, no_exprs) (lex c semicolon ∷ ts)
  spec_after true ns (lex c end_paren ∷ ts) = give (ns, None, no_exprs) (lex c end_paren ∷ ts)
  spec_after true ns (lex c end_brace ∷ ts) = give (ns, None, no_exprs) (lex c end_brace ∷ ts)
  spec_after constant ns ts = typed_step constant ns ts

  -- a constant or variable spec
  unfoldable pub spec_step : Bool → Lexemes → Program S (List (NameAt S) × Option (TypeExpr S) × Exprs S)
  spec_step constant ts = ask read_names ts (λ ns r. spec_after constant ns r)
