-- What is read as a statement, or as a declaration of constants or variables, is spelled so.
use Rattle.std.proofs.Common.{◌+◌, ◌*◌, ◌≤◌, Bool, true, false, List, [], ◌∷◌, length, Option, Some, None, arith}
use Rattle.go_tree.specs.declared.spans.Span.{Span}
use Rattle.go_tree.specs.Tree.{NameAt, TypeExpr, Expr, Exprs, ExprOption, Stmt, Stmts, StmtOption, Cases, call, no_exprs, expr_and, no_expr, some_expr, eval, no_stmt, some_stmt, some_block, no_arms, arm, case, define, for_}
use Rattle.go_tree.specs.GoWords.Terminals as terminal
use Rattle.go_tree.specs.GoWords.Terminals.{lex, ident, assign, increment, decrement, semicolon, colon, paren, end_paren, brace, end_brace, key_break, key_case, key_const, key_continue, key_default, key_defer, key_else, key_for, key_if, key_range, key_return, key_switch, key_var}
use Rattle.go_read.specs.SpellsTypes.{Lexemes}
use Rattle.go_read.specs.Spells.{is_empty, SpellsOperand, SpellsOption, SpellsExprs, SpellsSimple, SpellsPart, SpellsFirst, SpellsStmt, SpellsStmts, SpellsBlock, SpellsCases, no_expr_rule, some_expr_rule, last_expr_rule, more_exprs_rule, eval_rule, increment_rule, decrement_rule, assign_rule, define_rule, no_part_rule, part_rule, no_first_rule, first_rule, empty_rule, simple_rule, const_rule, var_rule, return_rule, return_values_rule, break_rule, break_label_rule, continue_rule, continue_label_rule, block_rule, if_rule, while_rule, for_rule, range_rule, switch_rule, defer_rule, label_rule, braces_rule, no_stmts_rule, last_stmt_rule, more_stmts_rule, only_arm_rule, else_rule, else_if_rule, arm_rule, no_left_rule, assigns_rule, defines_rule, no_cases_rule, case_rule, default_rule, single_rule, group_rule, no_specs_rule, last_spec_rule, more_specs_rule, repeated_rule, typed_var_rule, values_rule, typed_values_rule}
use Rattle.go_read.specs.Goals.{Clause, plain_clause, range_clause, read_type, read_names, read_expr, read_operand, read_exprs, read_simple, read_simple_after, read_clause, read_stmt, read_stmts, read_block, read_arm, read_if, read_cases, read_decl, read_specs, read_spec}
use Rattle.go_read.specs.Programs.{give, ask, look}
use Rattle.go_read.specs.ReadStmts.{one_after, one_expr, simple_after_step, simple_exprs, simple_names, simple_step, clause_after, clause_exprs, clause_names, clause_step, arm_body, arm_test, arm_eval, arm_after, arm_first, arm_step, if_after, if_step, for_body, for_post, for_test, for_eval, for_plain, for_after, for_first, switch_body, switch_tag, switch_eval, switch_after, switch_first, case_body, cases_step, stmts_after, stmts_step, block_step, return_step, break_step, continue_step, defer_after, word_stmt, stmt_step, decl_step, specs_after, specs_step, typed_after, typed_step, spec_after, spec_step}
use Rattle.go_read.proofs.Means.{Good, Fine, Step, fine_unless, fine_semicolon, fine_colon, fine_brace, fine_end_brace, fine_end_paren}

module _ {S : Type 0} (mark : Lexemes → Lexemes → S) where
  -- the expression of a single one, and of an expression statement
  pub single_expr : {h : Bool} {e : Expr S} {ts r : Lexemes} → SpellsExprs mark h (expr_and e no_exprs) ts r → SpellsOperand mark 1 h e ts r
  single_expr (last_expr_rule d) = d
  single_expr (more_exprs_rule d k) = absurd (none k)
    where
      none : {h : Bool} {ts r : Lexemes} → SpellsExprs mark h no_exprs ts r → ⊥
      none k = elim k [ ]

  pub eval_expr : {h : Bool} {s : S} {e : Expr S} {ts r : Lexemes} → SpellsSimple mark h (eval s e) ts r → SpellsOperand mark 1 h e ts r
  eval_expr (eval_rule d) = d

  one_after_fine : (h : Bool) (whole : Lexemes) (e : Expr S) (ts : Lexemes) → Fine mark (8 * length ts + 0) (Good mark (read_simple_after h whole (expr_and e no_exprs)) ts) (one_after mark whole e ts)
  one_after_fine h whole e (lex s increment ∷ r) = (omega arith, λ d. increment_rule (single_expr d))
  one_after_fine h whole e (lex s decrement ∷ r) = (omega arith, λ d. decrement_rule (single_expr d))
  one_after_fine h whole e _ = (omega arith, λ d. eval_rule (single_expr d))

  one_expr_fine : (h : Bool) (whole : Lexemes) (xs : Exprs S) (ts : Lexemes) → Fine mark (8 * length ts + 0) (Good mark (read_simple_after h whole xs) ts) (one_expr mark whole xs ts)
  one_expr_fine h whole (expr_and e no_exprs) ts = one_after_fine h whole e ts
  one_expr_fine h whole no_exprs ts = tt
  one_expr_fine h whole (expr_and e (expr_and e2 es)) ts = tt

  pub simple_after_fine : (h : Bool) (whole : Lexemes) (xs : Exprs S) (ts : Lexemes) → Step mark (read_simple_after h whole xs) ts (simple_after_step mark h whole xs ts)
  unfolding simple_after_step
  simple_after_fine h whole xs (lex s (assign op) ∷ ts) = (omega arith, λ ys r g. (omega (arith, g.0), λ d. assign_rule d g.1))
  simple_after_fine h whole xs [] = one_expr_fine h whole xs []
  simple_after_fine h whole xs (lex s t ∷ ts) = one_expr_fine h whole xs (lex s t ∷ ts)

  simple_exprs_fine : (h : Bool) (ts : Lexemes) → Fine mark (8 * length ts + 5) (Good mark (read_simple h) ts) (simple_exprs mark h ts)
  simple_exprs_fine h ts = (omega arith, λ xs r g. (omega (arith, g.0), λ x r2 k. (omega (arith, g.0, k.0), k.1 g.1)))

  simple_names_fine : (h : Bool) (ts : Lexemes) (ns : List (NameAt S)) (r : Lexemes) → Good mark read_names ts ns r → Fine mark (8 * length ts + 5) (Good mark (read_simple h) ts) (simple_names mark h ts (Some (ns, r)))
  simple_names_fine h ts ns (lex s terminal.define ∷ r) g = (omega (arith, g.0), λ ys r2 k. (omega (arith, g.0, k.0), define_rule g.1 k.1))
  simple_names_fine h ts ns [] g = simple_exprs_fine h ts
  simple_names_fine h ts ns (lex s t ∷ r) g = simple_exprs_fine h ts

  pub simple_fine : (h : Bool) (ts : Lexemes) → Step mark (read_simple h) ts (simple_step mark h ts)
  unfolding simple_step
  simple_fine h ts = (omega arith, simple_exprs_fine h ts, λ ns r g. simple_names_fine h ts ns r g)

  plain_after : (ts : Lexemes) (xs : Exprs S) (r : Lexemes) → Good mark (read_exprs true) ts xs r
      → Fine mark (8 * length ts + 5) (Good mark read_clause ts) (ask (read_simple_after true ts xs) r (λ x r. give (plain_clause x) r))
  plain_after ts xs r g = (omega (arith, g.0), λ x r2 k. (omega (arith, g.0, k.0), k.1 g.1))

  clause_after_fine : (ts : Lexemes) (xs : Exprs S) (r : Lexemes) → Good mark (read_exprs true) ts xs r → Fine mark (8 * length ts + 5) (Good mark read_clause ts) (clause_after mark ts xs r)
  clause_after_fine ts xs (lex s (assign None) ∷ lex c key_range ∷ r) g = (omega (arith, g.0), (c, assigns_rule g.1))
  clause_after_fine ts xs r g = plain_after ts xs r g

  clause_exprs_fine : (ts : Lexemes) → Fine mark (8 * length ts + 5) (Good mark read_clause ts) (clause_exprs mark ts)
  clause_exprs_fine ts = (omega arith, λ xs r g. clause_after_fine ts xs r g)

  clause_define : (ts : Lexemes) (ns : List (NameAt S)) (s : Span) (r : Lexemes) → Good mark read_names ts ns (lex s terminal.define ∷ r)
      → Fine mark (8 * length ts + 5) (Good mark read_clause ts) (ask (read_exprs true) r (λ ys r. give (plain_clause (define (mark ts r) ns ys)) r))
  clause_define ts ns s r g = (omega (arith, g.0), λ ys r2 k. (omega (arith, g.0, k.0), define_rule g.1 k.1))

  clause_names_fine : (ts : Lexemes) (ns : List (NameAt S)) (r : Lexemes) → Good mark read_names ts ns r → Fine mark (8 * length ts + 5) (Good mark read_clause ts) (clause_names mark ts (Some (ns, r)))
  clause_names_fine ts ns (lex s terminal.define ∷ lex c key_range ∷ r) g = (omega (arith, g.0), (c, defines_rule g.1))
  clause_names_fine ts ns (lex s terminal.define ∷ []) g = clause_define ts ns s [] g
  clause_names_fine ts ns (lex s terminal.define ∷ u ∷ r) g = clause_define ts ns s (u ∷ r) g
  clause_names_fine ts ns _ g = clause_exprs_fine ts

  clause_look : (ts : Lexemes) → Fine mark (8 * length ts + 5) (Good mark read_clause ts) (look read_names ts (λ o. clause_names mark ts o))
  clause_look ts = (omega arith, clause_exprs_fine ts, λ ns r g. clause_names_fine ts ns r g)

  pub clause_fine : (ts : Lexemes) → Step mark read_clause ts (clause_step mark ts)
  unfolding clause_step
  clause_fine (lex s key_range ∷ ts) = (omega arith, (s, no_left_rule))
  clause_fine [] = clause_look []
  clause_fine (lex s t ∷ ts) = clause_look (lex s t ∷ ts)

  arm_body_fine : (s : Span) (ts : Lexemes) (i : StmtOption S) (e : Expr S) (a b : Lexemes) → SpellsFirst mark i ts a → length a ≤ length ts → Good mark (read_operand true) a e b
      → Fine mark (8 * length (lex s key_if ∷ ts) + 0) (Good mark read_arm (lex s key_if ∷ ts)) (arm_body mark i e b)
  arm_body_fine s ts i e a b d le g = (omega (arith, le, g.0), λ x r k. (omega (arith, le, g.0, k.0), arm_rule d g.1 k.1))

  arm_test_fine : (s : Span) (ts : Lexemes) (i : StmtOption S) (a : Lexemes) → SpellsFirst mark i ts a → length a ≤ length ts
      → Fine mark (8 * length (lex s key_if ∷ ts) + 0) (Good mark read_arm (lex s key_if ∷ ts)) (arm_test mark i a)
  arm_test_fine s ts i a d le = (omega (arith, le), λ e r g. arm_body_fine s ts i e a r d le g)

  arm_eval_fine : (s : Span) (ts : Lexemes) (x : Stmt S) (r : Lexemes) → Good mark (read_simple true) ts x r → Fine mark (8 * length (lex s key_if ∷ ts) + 0) (Good mark read_arm (lex s key_if ∷ ts)) (arm_eval mark x r)
  arm_eval_fine s ts (eval m e) r g = arm_body_fine s ts no_stmt e ts r no_first_rule (omega arith) (g.0, eval_expr g.1)
  arm_eval_fine s ts _ r g = tt

  arm_after_fine : (s : Span) (ts : Lexemes) (x : Stmt S) (r : Lexemes) → Good mark (read_simple true) ts x r → Fine mark (8 * length (lex s key_if ∷ ts) + 0) (Good mark read_arm (lex s key_if ∷ ts)) (arm_after mark x r)
  arm_after_fine s ts x (lex c semicolon ∷ r) g = arm_test_fine s ts (some_stmt x) r (first_rule (part_rule g.1)) (omega (arith, g.0))
  arm_after_fine s ts x r g = arm_eval_fine s ts x r g

  arm_first_fine : (s : Span) (ts : Lexemes) → Fine mark (8 * length (lex s key_if ∷ ts) + 0) (Good mark read_arm (lex s key_if ∷ ts)) (arm_first mark ts)
  arm_first_fine s (lex c semicolon ∷ ts) = arm_test_fine s (lex c semicolon ∷ ts) no_stmt ts (first_rule no_part_rule) (omega arith)
  arm_first_fine s ts = (omega arith, λ x r g. arm_after_fine s ts x r g)

  pub arm_fine : (ts : Lexemes) → Step mark read_arm ts (arm_step mark ts)
  unfolding arm_step
  arm_fine (lex s key_if ∷ ts) = arm_first_fine s ts
  arm_fine _ = tt

  else_block : (ts : Lexemes) (a : StmtOption S × Expr S × S × Stmts S) (c : Span) (r : Lexemes) → Good mark read_arm ts a (lex c key_else ∷ r)
      → Fine mark (8 * length ts + 1) (Good mark read_if ts) (ask read_block r (λ b r2. give (arm (mark ts (lex c key_else ∷ r)) a.0 a.1 a.2 a.3 no_arms, some_block b.0 b.1) r2))
  else_block ts a c r g = (omega (arith, g.0), λ b r2 k. (omega (arith, g.0, k.0), else_rule g.1 k.1))

  if_after_fine : (ts : Lexemes) (a : StmtOption S × Expr S × S × Stmts S) (r : Lexemes) → Good mark read_arm ts a r → Fine mark (8 * length ts + 1) (Good mark read_if ts) (if_after mark ts a r)
  if_after_fine ts a (lex c key_else ∷ lex s key_if ∷ r) g = (omega (arith, g.0), λ x r2 k. (omega (arith, g.0, k.0), else_if_rule g.1 k.1))
  if_after_fine ts a (lex c key_else ∷ []) g = else_block ts a c [] g
  if_after_fine ts a (lex c key_else ∷ u ∷ r) g = else_block ts a c (u ∷ r) g
  if_after_fine ts a r g = (omega (arith, g.0), only_arm_rule g.1)

  pub if_fine : (ts : Lexemes) → Step mark read_if ts (if_step mark ts)
  unfolding if_step
  if_fine ts = (omega arith, λ a r g. if_after_fine ts a r g)

  -- the parts of a `for` statement: its header spells the three of them
  for_body_fine : (s : Span) (ts : Lexemes) (i : StmtOption S) (t : ExprOption S) (p : StmtOption S) (r : Lexemes) → length r ≤ length ts
      → ((sb : S) (body : Stmts S) (r2 : Lexemes) → SpellsBlock mark sb body r r2 → SpellsStmt mark (for_ (mark (lex s key_for ∷ ts) r2) i t p sb body) (lex s key_for ∷ ts) r2)
      → Fine mark (8 * length (lex s key_for ∷ ts) + 6) (Good mark read_stmt (lex s key_for ∷ ts)) (for_body mark (lex s key_for ∷ ts) i t p r)
  for_body_fine s ts i t p r le k = (omega (arith, le), λ b r2 g. (omega (arith, le, g.0), k b.0 b.1 r2 g.1))

  for_post_fine : (s c d : Span) (ts : Lexemes) (i : StmtOption S) (t : ExprOption S) (a r : Lexemes) → length r ≤ length ts → SpellsPart mark i ts (lex c semicolon ∷ a) → SpellsOption mark true t a (lex d semicolon ∷ r)
      → Fine mark (8 * length (lex s key_for ∷ ts) + 6) (Good mark read_stmt (lex s key_for ∷ ts)) (for_post mark (lex s key_for ∷ ts) i t r)
  for_post_fine s c d ts i t a (lex b brace ∷ r) le p q = for_body_fine s ts i t no_stmt (lex b brace ∷ r) le (λ sb body r2 k. for_rule p q no_part_rule k)
  for_post_fine s c d ts i t a r le p q = (omega (arith, le), λ x r2 g. for_body_fine s ts i t (some_stmt x) r2 (omega (arith, le, g.0)) (λ sb body r3 k. for_rule p q (part_rule g.1) k))

  for_test_fine : (s c : Span) (ts : Lexemes) (i : StmtOption S) (r : Lexemes) → length r ≤ length ts → SpellsPart mark i ts (lex c semicolon ∷ r)
      → Fine mark (8 * length (lex s key_for ∷ ts) + 6) (Good mark read_stmt (lex s key_for ∷ ts)) (for_test mark (lex s key_for ∷ ts) i r)
  for_test_fine s c ts i (lex d semicolon ∷ r) le p = for_post_fine s c d ts i no_expr (lex d semicolon ∷ r) r (omega (arith, le)) p no_expr_rule
  for_test_fine s c ts i r le p =
      (omega (arith, le), λ e r2 g. fine_semicolon mark _ _ (λ z. Good mark (read_operand true) r e z) r2 _ g (λ d r3 g. for_post_fine s c d ts i (some_expr e) r r3 (omega (arith, le, g.0)) p (some_expr_rule g.1)))

  for_eval_fine : (s : Span) (ts : Lexemes) (x : Stmt S) (r : Lexemes) → Good mark read_clause ts (plain_clause x) r
      → Fine mark (8 * length (lex s key_for ∷ ts) + 6) (Good mark read_stmt (lex s key_for ∷ ts)) (for_eval mark (lex s key_for ∷ ts) x r)
  for_eval_fine s ts (eval m e) r g = for_body_fine s ts no_stmt (some_expr e) no_stmt r (omega (arith, g.0)) (λ sb body r2 k. while_rule (some_expr_rule (eval_expr g.1)) k)
  for_eval_fine s ts _ r g = tt

  for_plain_fine : (s : Span) (ts : Lexemes) (x : Stmt S) (r : Lexemes) → Good mark read_clause ts (plain_clause x) r
      → Fine mark (8 * length (lex s key_for ∷ ts) + 6) (Good mark read_stmt (lex s key_for ∷ ts)) (for_plain mark (lex s key_for ∷ ts) x r)
  for_plain_fine s ts x (lex c semicolon ∷ r) g = for_test_fine s c ts (some_stmt x) r (omega (arith, g.0)) (part_rule g.1)
  for_plain_fine s ts x r g = for_eval_fine s ts x r g

  for_after_fine : (s : Span) (ts : Lexemes) (x : Clause S) (r : Lexemes) → Good mark read_clause ts x r
      → Fine mark (8 * length (lex s key_for ∷ ts) + 6) (Good mark read_stmt (lex s key_for ∷ ts)) (for_after mark (lex s key_for ∷ ts) x r)
  for_after_fine s ts (plain_clause x) r g = for_plain_fine s ts x r g
  for_after_fine s ts (range_clause left) r g =
      (omega (arith, g.0), λ e r2 k. (omega (arith, g.0, k.0), λ b r3 j. (omega (arith, g.0, k.0, j.0), range_rule g.1.1 k.1 j.1)))

  for_first_fine : (s : Span) (ts : Lexemes) → Fine mark (8 * length (lex s key_for ∷ ts) + 6) (Good mark read_stmt (lex s key_for ∷ ts)) (for_first mark (lex s key_for ∷ ts) ts)
  for_first_fine s (lex b brace ∷ ts) = for_body_fine s (lex b brace ∷ ts) no_stmt no_expr no_stmt (lex b brace ∷ ts) (omega arith) (λ sb body r k. while_rule no_expr_rule k)
  for_first_fine s (lex c semicolon ∷ ts) = for_test_fine s c (lex c semicolon ∷ ts) no_stmt ts (omega arith) no_part_rule
  for_first_fine s ts = (omega arith, λ x r g. for_after_fine s ts x r g)

  switch_body_fine : (s b : Span) (ts : Lexemes) (i : StmtOption S) (t : ExprOption S) (a r : Lexemes) → length r ≤ length ts → SpellsFirst mark i ts a → SpellsOption mark true t a (lex b brace ∷ r)
      → Fine mark (8 * length (lex s key_switch ∷ ts) + 6) (Good mark read_stmt (lex s key_switch ∷ ts)) (switch_body mark (lex s key_switch ∷ ts) i t r)
  switch_body_fine s b ts i t a r le p q =
      (omega (arith, le), λ cs r2 g. fine_end_brace mark _ _ (λ z. Good mark read_cases r cs z) r2 _ g (λ e r3 g. (omega (arith, le, g.0), switch_rule p q g.1)))

  switch_tag_fine : (s : Span) (ts : Lexemes) (i : StmtOption S) (r : Lexemes) → length r ≤ length ts → SpellsFirst mark i ts r
      → Fine mark (8 * length (lex s key_switch ∷ ts) + 6) (Good mark read_stmt (lex s key_switch ∷ ts)) (switch_tag mark (lex s key_switch ∷ ts) i r)
  switch_tag_fine s ts i (lex b brace ∷ r) le p = switch_body_fine s b ts i no_expr (lex b brace ∷ r) r (omega (arith, le)) p no_expr_rule
  switch_tag_fine s ts i r le p =
      (omega (arith, le), λ e r2 g. fine_brace mark _ _ (λ z. Good mark (read_operand true) r e z) r2 _ g (λ b r3 g. switch_body_fine s b ts i (some_expr e) r r3 (omega (arith, le, g.0)) p (some_expr_rule g.1)))

  switch_eval_fine : (s : Span) (ts : Lexemes) (x : Stmt S) (r : Lexemes) → Good mark (read_simple true) ts x r
      → Fine mark (8 * length (lex s key_switch ∷ ts) + 6) (Good mark read_stmt (lex s key_switch ∷ ts)) (switch_eval mark (lex s key_switch ∷ ts) x r)
  switch_eval_fine s ts (eval m e) r g =
      fine_brace mark _ _ (λ z. Good mark (read_simple true) ts (eval m e) z) r _ g (λ b r2 g. switch_body_fine s b ts no_stmt (some_expr e) ts r2 (omega (arith, g.0)) no_first_rule (some_expr_rule (eval_expr g.1)))
  switch_eval_fine s ts _ r g = tt

  switch_after_fine : (s : Span) (ts : Lexemes) (x : Stmt S) (r : Lexemes) → Good mark (read_simple true) ts x r
      → Fine mark (8 * length (lex s key_switch ∷ ts) + 6) (Good mark read_stmt (lex s key_switch ∷ ts)) (switch_after mark (lex s key_switch ∷ ts) x r)
  switch_after_fine s ts x (lex c semicolon ∷ r) g = switch_tag_fine s ts (some_stmt x) r (omega (arith, g.0)) (first_rule (part_rule g.1))
  switch_after_fine s ts x r g = switch_eval_fine s ts x r g

  switch_first_fine : (s : Span) (ts : Lexemes) → Fine mark (8 * length (lex s key_switch ∷ ts) + 6) (Good mark read_stmt (lex s key_switch ∷ ts)) (switch_first mark (lex s key_switch ∷ ts) ts)
  switch_first_fine s (lex b brace ∷ ts) = switch_body_fine s b (lex b brace ∷ ts) no_stmt no_expr (lex b brace ∷ ts) ts (omega arith) no_first_rule no_expr_rule
  switch_first_fine s (lex c semicolon ∷ ts) = switch_tag_fine s (lex c semicolon ∷ ts) no_stmt ts (omega arith) (first_rule no_part_rule)
  switch_first_fine s ts = (omega arith, λ x r g. switch_after_fine s ts x r g)

  -- a case whose front is spelled by what follows it
  case_body_fine : (ts : Lexemes) (xs : Exprs S) (r : Lexemes) → length r + 1 ≤ length ts
      → ((body : Stmts S) (cs : Cases S) (mid r2 : Lexemes) → SpellsStmts mark body r mid → SpellsCases mark cs mid r2 → SpellsCases mark (case (mark ts mid) xs body cs) ts r2)
      → Fine mark (8 * length ts + 0) (Good mark read_cases ts) (case_body mark ts xs r)
  case_body_fine ts xs r le k = (omega (arith, le), λ body mid g. (omega (arith, le, g.0), λ cs r2 j. (omega (arith, le, g.0, j.0), k body cs mid r2 g.1 j.1)))

  pub cases_fine : (ts : Lexemes) → Step mark read_cases ts (cases_step mark ts)
  unfolding cases_step
  cases_fine (lex s key_case ∷ ts) =
      (omega arith, λ xs r g. fine_colon mark _ _ (λ z. Good mark (read_exprs false) ts xs z) r _ g (λ c r g. case_body_fine (lex s key_case ∷ ts) xs r (omega (arith, g.0)) (λ body cs mid r2 d k. case_rule g.1 d k)))
  cases_fine (lex s key_default ∷ lex c colon ∷ ts) = case_body_fine (lex s key_default ∷ lex c colon ∷ ts) no_exprs ts (omega arith) (λ body cs mid r2 d k. default_rule d k)
  cases_fine _ = (omega arith, no_cases_rule)

  stmts_after_fine : (ts : Lexemes) (x : Stmt S) (r : Lexemes) → Good mark read_stmt ts x r → Fine mark (8 * length ts + 7) (Good mark read_stmts ts) (stmts_after mark x r)
  stmts_after_fine ts x (lex c semicolon ∷ r) g = (omega (arith, g.0), λ xs r2 k. (omega (arith, g.0, k.0), more_stmts_rule g.1 k.1))
  stmts_after_fine ts x (lex c end_brace ∷ r) g = fine_unless mark _ _ (is_empty x) _ (λ full. (g.0, last_stmt_rule full g.1))
  stmts_after_fine ts x _ g = tt

  pub stmts_fine : (ts : Lexemes) → Step mark read_stmts ts (stmts_step mark ts)
  unfolding stmts_step
  stmts_fine (lex c end_brace ∷ ts) = (omega arith, no_stmts_rule)
  stmts_fine (lex c key_case ∷ ts) = (omega arith, no_stmts_rule)
  stmts_fine (lex c key_default ∷ ts) = (omega arith, no_stmts_rule)
  stmts_fine ts = (omega arith, λ x r g. stmts_after_fine ts x r g)

  pub block_fine : (ts : Lexemes) → Step mark read_block ts (block_step mark ts)
  unfolding block_step
  block_fine (lex s brace ∷ ts) =
      (omega arith, λ body r g. fine_end_brace mark _ _ (λ z. Good mark read_stmts ts body z) r _ g (λ e r g. (omega (arith, g.0), braces_rule g.1)))
  block_fine _ = tt

  return_fine : (s : Span) (ts : Lexemes) → Fine mark (8 * length (lex s key_return ∷ ts) + 6) (Good mark read_stmt (lex s key_return ∷ ts)) (return_step mark (lex s key_return ∷ ts) ts)
  return_fine s (lex c semicolon ∷ ts) = (omega arith, return_rule)
  return_fine s (lex c end_brace ∷ ts) = (omega arith, return_rule)
  return_fine s ts = (omega arith, λ xs r g. (omega (arith, g.0), return_values_rule g.1))

  break_fine : (s : Span) (ts : Lexemes) → Fine mark (8 * length (lex s key_break ∷ ts) + 6) (Good mark read_stmt (lex s key_break ∷ ts)) (break_step mark (lex s key_break ∷ ts) ts)
  break_fine s (lex c (ident n) ∷ r) = (omega arith, break_label_rule)
  break_fine s _ = (omega arith, break_rule)

  continue_fine : (s : Span) (ts : Lexemes) → Fine mark (8 * length (lex s key_continue ∷ ts) + 6) (Good mark read_stmt (lex s key_continue ∷ ts)) (continue_step mark (lex s key_continue ∷ ts) ts)
  continue_fine s (lex c (ident n) ∷ r) = (omega arith, continue_label_rule)
  continue_fine s _ = (omega arith, continue_rule)

  defer_after_fine : (s : Span) (ts : Lexemes) (e : Expr S) (bare : Bool) (r : Lexemes) → Good mark (read_expr 1 false) ts (e, bare) r
      → Fine mark (8 * length (lex s key_defer ∷ ts) + 6) (Good mark read_stmt (lex s key_defer ∷ ts)) (defer_after mark (lex s key_defer ∷ ts) (e, bare) r)
  defer_after_fine s ts (call m f xs rest) true r g = (omega (arith, g.0), defer_rule (g.1 (omega arith)).0)
  defer_after_fine s ts (call m f xs rest) false r g = tt
  defer_after_fine s ts _ bare r g = tt

  word_fine : (ts : Lexemes) → Fine mark (8 * length ts + 6) (Good mark read_stmt ts) (word_stmt mark ts)
  word_fine ts = (omega arith, λ x r g. (omega (arith, g.0), simple_rule g.1))

  pub stmt_fine : (ts : Lexemes) → Step mark read_stmt ts (stmt_step mark ts)
  unfolding stmt_step
  stmt_fine (lex s key_const ∷ ts) = (omega arith, λ x r g. (omega (arith, g.0), const_rule g.1))
  stmt_fine (lex s key_var ∷ ts) = (omega arith, λ x r g. (omega (arith, g.0), var_rule g.1))
  stmt_fine (lex s key_return ∷ ts) = return_fine s ts
  stmt_fine (lex s key_break ∷ ts) = break_fine s ts
  stmt_fine (lex s key_continue ∷ ts) = continue_fine s ts
  stmt_fine (lex s brace ∷ ts) = (omega arith, λ b r g. (omega (arith, g.0), block_rule g.1))
  stmt_fine (lex s key_if ∷ ts) = (omega arith, λ x r g. (omega (arith, g.0), if_rule g.1))
  stmt_fine (lex s key_for ∷ ts) = for_first_fine s ts
  stmt_fine (lex s key_switch ∷ ts) = switch_first_fine s ts
  stmt_fine (lex s key_defer ∷ ts) = (omega arith, λ x r g. defer_after_fine s ts x.0 x.1 r g)
  stmt_fine (lex s (ident n) ∷ lex c colon ∷ ts) = (omega arith, λ x r g. (omega (arith, g.0), label_rule g.1))
  stmt_fine (lex s semicolon ∷ ts) = (omega arith, empty_rule)
  stmt_fine (lex s end_brace ∷ ts) = (omega arith, empty_rule)
  stmt_fine ts = word_fine ts

  pub decl_fine : (c : Bool) (ts : Lexemes) → Step mark (read_decl c) ts (decl_step mark c ts)
  unfolding decl_step
  decl_fine c (lex s paren ∷ ts) =
      (omega arith, λ ss r g. fine_end_paren mark _ _ (λ z. Good mark (read_specs c) ts ss z) r _ g (λ e r g. (omega (arith, g.0), group_rule g.1)))
  decl_fine c ts = (omega arith, λ x r g. (g.0, single_rule g.1))

  specs_after_fine : (c : Bool) (ts : Lexemes) (x : List (NameAt S) × Option (TypeExpr S) × Exprs S) (r : Lexemes) → Good mark (read_spec c) ts x r
      → Fine mark (8 * length ts + 2) (Good mark (read_specs c) ts) (specs_after mark c ts x r)
  specs_after_fine c ts x (lex d semicolon ∷ r) g = (omega (arith, g.0), λ ss r2 k. (omega (arith, g.0, k.0), more_specs_rule g.1 k.1))
  specs_after_fine c ts x (lex d end_paren ∷ r) g = (omega (arith, g.0), last_spec_rule g.1)
  specs_after_fine c ts x _ g = tt

  pub specs_fine : (c : Bool) (ts : Lexemes) → Step mark (read_specs c) ts (specs_step mark c ts)
  unfolding specs_step
  specs_fine c (lex d end_paren ∷ ts) = (omega arith, no_specs_rule)
  specs_fine c ts = (omega arith, λ x r g. specs_after_fine c ts x r g)

  typed_after_fine : (c : Bool) (ts : Lexemes) (ns : List (NameAt S)) (a : Lexemes) (t : TypeExpr S) (r : Lexemes) → Good mark read_names ts ns a → Good mark read_type a t r
      → Fine mark (8 * length ts + 1) (Good mark (read_spec c) ts) (typed_after mark c ns t r)
  typed_after_fine c ts ns a t (lex s (assign None) ∷ r) g k = (omega (arith, g.0, k.0), λ xs r2 j. (omega (arith, g.0, k.0, j.0), typed_values_rule g.1 k.1 j.1))
  typed_after_fine false ts ns a t r g k = (omega (arith, g.0, k.0), typed_var_rule g.1 k.1)
  typed_after_fine true ts ns a t r g k = tt

  typed_fine : (c : Bool) (ts : Lexemes) (ns : List (NameAt S)) (r : Lexemes) → Good mark read_names ts ns r → Fine mark (8 * length ts + 1) (Good mark (read_spec c) ts) (typed_step mark c ns r)
  typed_fine c ts ns r g = (omega (arith, g.0), λ t r2 k. typed_after_fine c ts ns r t r2 g k)

  spec_after_fine : (c : Bool) (ts : Lexemes) (ns : List (NameAt S)) (r : Lexemes) → Good mark read_names ts ns r → Fine mark (8 * length ts + 1) (Good mark (read_spec c) ts) (spec_after mark c ns r)
  spec_after_fine c ts ns (lex s (assign None) ∷ r) g = (omega (arith, g.0), λ xs r2 k. (omega (arith, g.0, k.0), values_rule g.1 k.1))
  spec_after_fine true ts ns (lex d semicolon ∷ r) g = (omega (arith, g.0), repeated_rule g.1)
  spec_after_fine true ts ns (lex d end_paren ∷ r) g = (omega (arith, g.0), repeated_rule g.1)
  spec_after_fine true ts ns (lex d end_brace ∷ r) g = (omega (arith, g.0), repeated_rule g.1)
  spec_after_fine c ts ns r g = typed_fine c ts ns r g

  pub spec_fine : (c : Bool) (ts : Lexemes) → Step mark (read_spec c) ts (spec_step mark c ts)
  unfolding spec_step
  spec_fine c ts = (omega arith, λ ns r g. spec_after_fine c ts ns r g)
