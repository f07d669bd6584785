-- The tokens of the layout of an expression and of a statement spell it.
use Rattle.std.proofs.Common.{◌≡◌, ℕ, ◌+◌, ◌≤◌, Bool, true, false, ◌||◌, List, Option, Some, None, refl}
use Rattle.go_tree.specs.declared.operators.UnOp.{UnOp}
use Rattle.go_tree.specs.declared.operators.BinOp.{BinOp}
use Rattle.go_tree.specs.Tree.{NameAt, TypeExpr, Expr, Exprs, ExprOption, Elems, Value, Stmt, Stmts, StmtOption, BlockOption, RangeLeft, Arms, Cases, ValueSpecs, ident, int_lit, rune_lit, str_lit, composite, selector, index, slice, call, func_lit, type_operand, unary, binary, star, no_exprs, expr_and, no_expr, some_expr, no_elems, elem, plain, braced, no_value, some_value, const_decl, var_decl, empty, eval, step, assign, define, return_, break_, continue_, inner, if_, for_, range_, switch, defer, label, no_stmts, stmt_and, no_stmt, some_stmt, no_block, some_block, nothing, assigns, defines, no_arms, arm, no_cases, case, no_specs, spec}
use Rattle.go_tree.specs.GoWords.Terminals.{level_of}
use Rattle.go_read.specs.SpellsTypes.{Lexemes}
use Rattle.go_read.specs.Spells.{SpellsBare, SpellsOption, SpellsExprs, SpellsElems, SpellsValue, SpellsPart, SpellsFirst, SpellsStmts, SpellsBlock, SpellsIf, SpellsLeft, SpellsCases, SpellsDecl, SpellsSpec, SpellsSpecs, SpellsOperand, SpellsSimple, ident_rule, int_rule, rune_rule, text_rule, operand_rule, no_expr_rule, some_expr_rule, no_elems_rule, plain_rule, eval_rule, no_part_rule, part_rule, no_first_rule, empty_rule, return_rule, block_rule, if_rule, no_stmts_rule, no_left_rule, no_cases_rule, no_specs_rule}
use Rattle.go_read.specs.Bareness.{nowhere}
use Rattle.go_layout.specs.Layouts.{Layout, within, deeper, ◌⊕◌, op}
use Rattle.go_tree.specs.GoWords.Operators.{binary_spelling, unary_spelling, assign_spelling}
use Rattle.go_layout.specs.TypeLayout.{names_layout, type_layout, sig_layout}
use Rattle.go_layout.specs.Parens.{needs_parens, is_integer, runs_into, header_within, closed_within}
use Rattle.go_layout.specs.TreeLayout.{closes, rest_layout, spaced, clause_indent, gives_semicolon, spec_type_layout, equals_before, in_group, in_braces, expr_layout, exprs_layout, option_layout, test_layout, elems_layout, key_layout, value_layout, stmt_layout, stmts_layout, part_layout, post_layout, first_layout, arms_layout, last_layout, left_layout, cases_layout, specs_layout}
use Rattle.go_layout.specs.LayoutLaws.Formed.{is_simple, is_assign, HasNames, FormedSpec, HasExprs, HasArms, FormedGroup, FormedExpr, FormedOption, FormedExprs, FormedElems, FormedValue, FormedStmt, FormedStmts, FormedPart, FormedArms, FormedBlock, FormedLeft, FormedCases, FormedSpecs, FormedOperand}
use Rattle.go_layout.specs.LayoutLaws.LayoutTokens.{HasTokens, of_nothing, of_token, of_both}
use Rattle.go_layout.proofs.LayoutLaws.SpelledTypes.{U, sig_spelled, names_spelled}
use Rattle.go_layout.proofs.LayoutLaws.Places.{Closes, Spelled, placed, needs_parts, or_false}
use Rattle.go_layout.proofs.LayoutLaws.SpelledParts.{Says, as_simple, simple_gives, call_needs_none, args_spelled, braces_spelled, LastSpelled, without_last, spec_spelled, binary_spelled, unary_spelled, assign_spelled, literal_type_spelled, type_operand_spelled}
use Rattle.go_layout.proofs.LayoutLaws.SpelledRules as rule

-- an operand in its place
abbrev Placed : Expr U → Bool → List ℕ → ℕ → Bool → Bool → Type 0
Placed e p i l h c = (ts r : Lexemes) → HasTokens (within p (expr_layout i (header_within p h) (closed_within p c) e)) ts r → Closes c r → SpellsOperand nowhere l h e ts r

operand : (e : Expr U) (p : Bool) (i : List ℕ) (l : ℕ) (h c : Bool) → FormedOperand e → Spelled e → (p ≡ false → needs_parens l h c e ≡ false) → Placed e p i l h c
operand e p i l h c f s q ts r w k = operand_rule f.0 (placed e p i l h c ts r s q w k)

-- the layout of an operand in a place where nothing else asks for parentheses
abbrev here : List ℕ → ℕ → Bool → Bool → Expr U → Layout
here i l h c e = within (needs_parens l h c e) (expr_layout i (header_within (needs_parens l h c e) h) (closed_within (needs_parens l h c e) c) e)

operand_here : (e : Expr U) (i : List ℕ) (l : ℕ) (h c : Bool) → FormedOperand e → Spelled e → (ts r : Lexemes) → HasTokens (here i l h c e) ts r → Closes c r → SpellsOperand nowhere l h e ts r
operand_here e i l h c f s ts r w k = operand_rule f.0 (placed e (needs_parens l h c e) i l h c ts r s (λ q. q) w k)

no_values : (xs : Exprs U) (i : List ℕ) (h c : Bool) (ts r : Lexemes) → HasTokens (exprs_layout i h c xs) ts r → xs ≡ no_exprs → ts ≡ r
no_values no_exprs i h c ts r of_nothing q = refl
no_values (expr_and _ _) i h c ts r w q = absurd cc

block : (i : List ℕ) (body : Stmts U) → ((i2 o : List ℕ) (ts r : Lexemes) → HasTokens (stmts_layout i2 (Some o) body) ts r → SpellsStmts nowhere body ts r)
    → (ts r : Lexemes) → HasTokens (in_braces i body (stmts_layout (deeper i) (Some i) body)) ts r → SpellsBlock nowhere tt body ts r
block i body s ts r w = braces_spelled i body (stmts_layout (deeper i) (Some i) body) ts r (s (deeper i) i) w

values : (xs : Exprs U) (i : List ℕ) (constant : Bool) (ns : List (NameAt U)) (t : Option (TypeExpr U)) → ((h c : Bool) → HasExprs xs → (ts r : Lexemes) → HasTokens (exprs_layout i h c xs) ts r → Closes c r → SpellsExprs nowhere h xs ts r) → (ts m1 m2 m3 r : Lexemes)
    → HasTokens (names_layout ns) ts m1 → HasTokens (spec_type_layout t) m1 m2 → HasTokens (equals_before xs) m2 m3 → HasTokens (exprs_layout i false false xs) m3 r → HasNames ns → FormedSpec constant t xs → SpellsSpec nowhere constant ns t xs ts r
values xs i constant ns t s ts m1 m2 m3 r a b d e some f = spec_spelled constant ns t xs ts m1 m2 m3 r some f a b d (λ has. s false false has m3 r e tt) (no_values xs i false false m3 r e)

around_assign : (i : List ℕ) (h : Bool) (xs ys : Exprs U) (o : Option BinOp) (ts r : Lexemes) → is_assign o ≡ true
    → ((ts2 r2 : Lexemes) → HasTokens (exprs_layout i h false xs) ts2 r2 → SpellsExprs nowhere h xs ts2 r2) → ((ts2 r2 : Lexemes) → HasTokens (exprs_layout i h false ys) ts2 r2 → SpellsExprs nowhere h ys ts2 r2)
    → HasTokens (exprs_layout i h false xs ⊕ spaced (assign_spelling o) ⊕ exprs_layout i h false ys) ts r → SpellsSimple nowhere h (assign tt xs o ys) ts r
around_assign i h xs ys o ts r q x y w =
    let p = rule.around (exprs_layout i h false xs) (exprs_layout i h false ys) (assign_spelling o) ts r w in
    assign_spelled o h xs ys ts p.before p.after r q p.sign (x ts p.before p.first) (y p.after r p.second)

around_binary : (i : List ℕ) (l : ℕ) (h c : Bool) (x y : Expr U) (o : BinOp) (ts r : Lexemes) → l ≤ level_of o → Closes c r
    → ((ts2 r2 : Lexemes) → HasTokens (here i (level_of o) h false x) ts2 r2 → Closes false r2 → SpellsOperand nowhere (level_of o) h x ts2 r2)
    → ((ts2 r2 : Lexemes) → HasTokens (here i (level_of o + 1) h c y) ts2 r2 → Closes c r2 → SpellsOperand nowhere (level_of o + 1) h y ts2 r2)
    → HasTokens (here i (level_of o) h false x ⊕ spaced (binary_spelling o) ⊕ here i (level_of o + 1) h c y) ts r → SpellsBare nowhere l h (binary tt o x y) ts r
around_binary i l h c x y o ts r le k s t w =
    let p = rule.around (here i (level_of o) h false x) (here i (level_of o + 1) h c y) (binary_spelling o) ts r w in
    binary_spelled o l h x y ts p.before p.after r p.sign le (s ts p.before p.first tt) (t p.after r p.second k)

before_unary : (a : Layout) (l : ℕ) (h c : Bool) (o : UnOp) (e : Expr U) (ts r : Lexemes) → l ≤ 6 → Closes c r → ((ts2 r2 : Lexemes) → HasTokens a ts2 r2 → Closes c r2 → SpellsOperand nowhere 6 h e ts2 r2)
    → HasTokens (op (unary_spelling o) ⊕ a) ts r → SpellsBare nowhere l h (unary tt o e) ts r
before_unary a l h c o e ts r le k s w = let p = rule.both (op (unary_spelling o)) a ts r w in unary_spelled o l h e ts p.between r p.first le (s p.between r p.second k)

mutual
  pub expr_spelled : (e : Expr U) → FormedExpr e → (i : List ℕ) (l : ℕ) (h c : Bool) (ts r : Lexemes) → needs_parens l h c e ≡ false → HasTokens (expr_layout i h c e) ts r → Closes c r → SpellsBare nowhere l h e ts r
  expr_spelled (ident s n) f i l h c ts r q of_token k = ident_rule
  expr_spelled (int_lit s n) f i l h c ts r q of_token k = int_rule
  expr_spelled (rune_lit s n) f i l h c ts r q of_token k = rune_rule
  expr_spelled (str_lit s n) f i l h c ts r q of_token k = text_rule
  expr_spelled (composite s t es) f i l h c ts r q w k =
      rule.composite_made (type_layout t) (elems_layout i es) l h t es ts r (λ ts2 r2. literal_type_spelled t l h c ts2 r2 es f.0 q) (elems_spelled es f.1 i) w
  expr_spelled (selector s e n) f i l h c ts r q w k =
      let p = needs_parens 7 h false e || is_integer e in
      rule.selector_made (within p (expr_layout i (header_within p h) (closed_within p false) e)) l h e n ts r
      (operand e p i 7 h false (f.0, f.1) (expr_spelled e f.1) (λ x. (or_false (needs_parens 7 h false e) (is_integer e) x).0)) w
  expr_spelled (index s e at) f i l h c ts r q w k =
      rule.index_made (here i 7 h false e) (here i 1 false false at) l h e at ts r (operand_here e i 7 h false (f.0, f.1) (expr_spelled e f.1)) (operand_here at i 1 false false (f.2, f.3) (expr_spelled at f.3)) w
  expr_spelled (slice s e from to) f i l h c ts r q w k =
      rule.slice_made (here i 7 h false e) (option_layout i false from) (option_layout i false to) l h e from to ts r (operand_here e i 7 h false (f.0, f.1) (expr_spelled e f.1))
      (option_spelled from f.2 i false) (option_spelled to f.3 i false) w
  expr_spelled (call s e xs rest) f i l h c ts r q w k =
      rule.call_made (here i 7 h true e) (exprs_layout i false (closes rest) xs) (rest_layout rest xs) l h e xs rest ts r (λ ts2 r2 u z. placed e (needs_parens 7 h true e) i 7 h true ts2 r2 (expr_spelled e f.0) (λ x. x) u z)
      (args_spelled rest xs i f.2 (exprs_spelled xs f.1 i false (closes rest))) w
  expr_spelled (func_lit s g sb body) f i l h c ts r q w k =
      rule.func_made (sig_layout g) (in_braces i body (stmts_layout (deeper i) (Some i) body)) l h g body ts r (λ ts2 r2. sig_spelled false g ts2 r2 f.0) (block i body (stmts_spelled body f.1)) w
  expr_spelled (type_operand s t) f i l h c ts r q w k = type_operand_spelled t l h c ts r f q w k
  expr_spelled (unary s o e) f i l h c ts r q w k =
      let p = needs_parens 6 h c e || runs_into o e in
      before_unary (within p (expr_layout i (header_within p h) (closed_within p c) e)) l h c o e ts r (needs_parts l h c (unary s o e) q).0 k
      (operand e p i 6 h c (f.0, f.1) (expr_spelled e f.1) (λ x. (or_false (needs_parens 6 h c e) (runs_into o e) x).0)) w
  expr_spelled (binary s o x y) f i l h c ts r q w k =
      around_binary i l h c x y o ts r (needs_parts l h c (binary s o x y) q).0 k (operand_here x i (level_of o) h false (f.0, f.1) (expr_spelled x f.1)) (operand_here y i (level_of o + 1) h c (f.2, f.3) (expr_spelled y f.3)) w
  expr_spelled (star s e) f i l h c ts r q w k = rule.star_made (here i 6 h c e) l h c e ts r (needs_parts l h c (star s e) q).0 (operand_here e i 6 h c (f.0, f.1) (expr_spelled e f.1)) k w

  pub exprs_spelled : (xs : Exprs U) → FormedExprs xs → (i : List ℕ) (h c : Bool) → HasExprs xs → (ts r : Lexemes) → HasTokens (exprs_layout i h c xs) ts r → Closes c r → SpellsExprs nowhere h xs ts r
  exprs_spelled no_exprs f i h c some ts r w k = absurd some
  exprs_spelled (expr_and e no_exprs) f i h c some ts r w k = rule.last_expr_made (here i 1 h c e) h c e ts r (operand_here e i 1 h c (f.0, f.1) (expr_spelled e f.1)) k w
  exprs_spelled (expr_and e (expr_and e2 es)) f i h c some ts r w k =
      rule.more_exprs_made (here i 1 h true e) (exprs_layout i h c (expr_and e2 es)) h c e (expr_and e2 es) ts r (operand_here e i 1 h true (f.0, f.1) (expr_spelled e f.1)) (exprs_spelled (expr_and e2 es) f.2 i h c tt) k w

  option_spelled : (o : ExprOption U) → FormedOption o → (i : List ℕ) (h : Bool) (ts r : Lexemes) → HasTokens (option_layout i h o) ts r → SpellsOption nowhere h o ts r
  option_spelled no_expr f i h ts r of_nothing = no_expr_rule
  option_spelled (some_expr e) f i h ts r w = some_expr_rule (operand_here e i 1 h false (f.0, f.1) (expr_spelled e f.1) ts r w tt)

  test_spelled : (o : ExprOption U) → FormedOption o → (i : List ℕ) (ts r : Lexemes) → HasTokens (test_layout i o) ts r → SpellsOption nowhere true o ts r
  test_spelled no_expr f i ts r of_nothing = no_expr_rule
  test_spelled (some_expr e) f i ts r w = some_expr_rule (rule.test_made (here i 1 true false e) e ts r (operand_here e i 1 true false (f.0, f.1) (expr_spelled e f.1)) w)

  elems_spelled : (es : Elems U) → FormedElems es → (i : List ℕ) (ts r : Lexemes) → HasTokens (elems_layout i es) ts r → SpellsElems nowhere es ts r
  elems_spelled no_elems f i ts r of_nothing = no_elems_rule
  elems_spelled (elem s no_value v no_elems) f i ts r w = rule.last_elem_made (key_layout {S = U} i no_value) (value_layout i false v) no_value v ts r (λ ts2 m r2. rule.value_made (value_layout i false v) false v ts2 r2 (value_spelled v f.1 i false) m) w
  elems_spelled (elem s no_value v (elem s2 k2 v2 es)) f i ts r w =
      rule.more_elems_made (key_layout {S = U} i no_value) (value_layout i true v) (elems_layout i (elem s2 k2 v2 es)) no_value v (elem s2 k2 v2 es) ts r (λ ts2 m r2. rule.value_made (value_layout i true v) true v ts2 r2 (value_spelled v f.1 i true) m) (elems_spelled (elem s2 k2 v2 es) f.2 i) w
  elems_spelled (elem s (some_value k) v no_elems) f i ts r w =
      rule.last_elem_made (key_layout i (some_value k)) (value_layout i false v) (some_value k) v ts r (λ ts2 m r2. rule.keyed_made (value_layout i false k) (value_layout i false v) false k v ts2 r2 (λ ts3 r3 u. value_spelled k f.0 i false ts3 r3 u tt) (value_spelled v f.1 i false) m) w
  elems_spelled (elem s (some_value k) v (elem s2 k2 v2 es)) f i ts r w =
      rule.more_elems_made (key_layout i (some_value k)) (value_layout i true v) (elems_layout i (elem s2 k2 v2 es)) (some_value k) v (elem s2 k2 v2 es) ts r
      (λ ts2 m r2. rule.keyed_made (value_layout i false k) (value_layout i true v) true k v ts2 r2 (λ ts3 r3 u. value_spelled k f.0 i false ts3 r3 u tt) (value_spelled v f.1 i true) m) (elems_spelled (elem s2 k2 v2 es) f.2 i) w

  value_spelled : (v : Value U) → FormedValue v → (i : List ℕ) (c : Bool) (ts r : Lexemes) → HasTokens (value_layout i c v) ts r → Closes c r → SpellsValue nowhere v ts r
  value_spelled (plain e) f i c ts r w k = plain_rule (operand_here e i 1 false c (f.0, f.1) (expr_spelled e f.1) ts r w k)
  value_spelled (braced s es) f i c ts r w k = rule.braced_made (elems_layout i es) es ts r (elems_spelled es f i) w

  pub stmt_spelled : (x : Stmt U) → FormedStmt x → (i : List ℕ) (h : Bool) (ts r : Lexemes) → HasTokens (stmt_layout i h x) ts r → Says (is_simple x) (gives_semicolon x) h x ts r
  stmt_spelled (const_decl s false ss) f i h ts r w = rule.const_made (specs_layout i None ss) false ss ts r (one_spec_spelled ss true f.1 f.0 i) w
  stmt_spelled (const_decl s true ss) f i h ts r w =
      rule.const_made (in_group i true ss (specs_layout (deeper i) (Some i) ss)) true ss ts r (λ ts2 r2. rule.group_made (specs_layout (deeper i) (Some i) ss) i true ss ts2 r2 (specs_spelled ss true f.1 (deeper i) i)) w
  stmt_spelled (var_decl s false ss) f i h ts r w = rule.var_made (specs_layout i None ss) false ss ts r (one_spec_spelled ss false f.1 f.0 i) w
  stmt_spelled (var_decl s true ss) f i h ts r w =
      rule.var_made (in_group i true ss (specs_layout (deeper i) (Some i) ss)) true ss ts r (λ ts2 r2. rule.group_made (specs_layout (deeper i) (Some i) ss) i false ss ts2 r2 (specs_spelled ss false f.1 (deeper i) i)) w
  stmt_spelled (empty s) f i h ts r (of_token {s = t}) = (t, empty_rule)
  stmt_spelled (eval s e) f i h ts r w = eval_rule (operand_here e i 1 h false (f.0, f.1) (expr_spelled e f.1) ts r w tt)
  stmt_spelled (step s e up) f i h ts r w = rule.step_made (here i 1 h false e) h e up ts r (operand_here e i 1 h false (f.0, f.1) (expr_spelled e f.1)) w
  stmt_spelled (assign s xs o ys) f i h ts r w = around_assign i h xs ys o ts r f.2 (λ ts2 r2 u. exprs_spelled xs f.1 i h false f.0 ts2 r2 u tt) (λ ts2 r2 u. exprs_spelled ys f.4 i h false f.3 ts2 r2 u tt) w
  stmt_spelled (define s ns ys) f i h ts r w = rule.define_made (names_layout ns) (exprs_layout i h false ys) h ns ys ts r (λ ts2 r2. names_spelled ns ts2 r2 f.0) (exprs_spelled ys f.3 i h false f.2) w
  stmt_spelled (return_ s no_exprs) f i h ts r (of_both of_token (of_both of_nothing of_nothing)) = return_rule
  stmt_spelled (return_ s (expr_and e es)) f i h ts r w = rule.return_made (exprs_layout i false false (expr_and e es)) (expr_and e es) ts r (exprs_spelled (expr_and e es) f i false false tt) w
  stmt_spelled (break_ s n) f i h ts r w = rule.break_made n ts r w
  stmt_spelled (continue_ s n) f i h ts r w = rule.continue_made n ts r w
  stmt_spelled (inner s body) f i h ts r w = block_rule (block i body (stmts_spelled body f) ts r w)
  stmt_spelled (if_ s arms last) f i h ts r w =
      let p = rule.both (arms_layout i arms) (last_layout i last) ts r w in
      if_rule (arms_spelled arms f.1 f.0 last i ts p.between r p.first (last_spelled last f.2 i p.between r p.second))
  stmt_spelled (for_ s no_stmt t no_stmt sb body) f i h ts r w =
      rule.while_made (test_layout i t) (in_braces i body (stmts_layout (deeper i) (Some i) body)) t body ts r (test_spelled t f.1 i) (block i body (stmts_spelled body f.3)) w
  stmt_spelled (for_ s (some_stmt x) t p sb body) f i h ts r w =
      rule.for_made (part_layout i (some_stmt x)) (option_layout i true t) (post_layout i p) (in_braces i body (stmts_layout (deeper i) (Some i) body)) (some_stmt x) t p body ts r
      (part_spelled (some_stmt x) f.0 i) (option_spelled t f.1 i true) (post_spelled p f.2 i) (block i body (stmts_spelled body f.3)) w
  stmt_spelled (for_ s no_stmt t (some_stmt p) sb body) f i h ts r w =
      rule.for_made (part_layout {S = U} i no_stmt) (option_layout i true t) (post_layout i (some_stmt p)) (in_braces i body (stmts_layout (deeper i) (Some i) body)) no_stmt t (some_stmt p) body ts r
      (part_spelled no_stmt f.0 i) (option_spelled t f.1 i true) (post_spelled (some_stmt p) f.2 i) (block i body (stmts_spelled body f.3)) w
  stmt_spelled (range_ s left e sb body) f i h ts r w =
      rule.range_made (left_layout i left) (here i 1 true false e) (in_braces i body (stmts_layout (deeper i) (Some i) body)) left e body ts r
      (left_spelled left f.0 i) (operand_here e i 1 true false (f.1, f.2) (expr_spelled e f.2)) (block i body (stmts_spelled body f.3)) w
  stmt_spelled (switch s first t cs) f i h ts r w =
      rule.switch_made (first_layout i first) (test_layout i t) (cases_layout i cs) first t cs i ts r (first_spelled first f.0 i) (test_spelled t f.1 i) (cases_spelled cs f.2 i) w
  stmt_spelled (defer s e) f i h ts r w = rule.defer_made (expr_layout i false false e) e ts r f.0 (λ ts2 r2 u. expr_spelled e f.1 i 1 false false ts2 r2 (call_needs_none e f.0) u tt) w
  stmt_spelled (label s n x) f i h ts r w = rule.label_made (stmt_layout i false x) n i x (is_simple x) (gives_semicolon x) h ts r (simple_gives x) (stmt_spelled x f.1 i false) w

  pub stmts_spelled : (xs : Stmts U) → FormedStmts xs → (i o : List ℕ) (ts r : Lexemes) → HasTokens (stmts_layout i (Some o) xs) ts r → SpellsStmts nowhere xs ts r
  stmts_spelled no_stmts f i o ts r of_nothing = no_stmts_rule
  stmts_spelled (stmt_and x no_stmts) f i o ts r w =
      rule.stmts_made (stmt_layout i false x) (stmts_layout {S = U} i (Some o) no_stmts) o x no_stmts (is_simple x) (gives_semicolon x) ts r (simple_gives x) (stmt_spelled x f.0 i false) (stmts_spelled no_stmts f.1 i o) w
  stmts_spelled (stmt_and x (stmt_and y xs)) f i o ts r w =
      rule.stmts_made (stmt_layout i false x) (stmts_layout i (Some o) (stmt_and y xs)) i x (stmt_and y xs) (is_simple x) (gives_semicolon x) ts r (simple_gives x) (stmt_spelled x f.0 i false) (stmts_spelled (stmt_and y xs) f.1 i o) w

  part_spelled : (o : StmtOption U) → FormedPart o → (i : List ℕ) (ts r : Lexemes) → HasTokens (part_layout i o) ts r → SpellsPart nowhere o ts r
  part_spelled no_stmt f i ts r of_nothing = no_part_rule
  part_spelled (some_stmt x) f i ts r w = part_rule (as_simple (is_simple x) (gives_semicolon x) true x ts r f.0 (stmt_spelled x f.1 i true ts r w))

  post_spelled : (o : StmtOption U) → FormedPart o → (i : List ℕ) (ts r : Lexemes) → HasTokens (post_layout i o) ts r → SpellsPart nowhere o ts r
  post_spelled no_stmt f i ts r of_nothing = no_part_rule
  post_spelled (some_stmt x) f i ts r w =
      rule.gapped (stmt_layout i true x) (SpellsPart nowhere (some_stmt x)) ts r (λ ts2 r2 u. part_rule (as_simple (is_simple x) (gives_semicolon x) true x ts2 r2 f.0 (stmt_spelled x f.1 i true ts2 r2 u))) w

  first_spelled : (o : StmtOption U) → FormedPart o → (i : List ℕ) (ts r : Lexemes) → HasTokens (first_layout i o) ts r → SpellsFirst nowhere o ts r
  first_spelled no_stmt f i ts r of_nothing = no_first_rule
  first_spelled (some_stmt x) f i ts r w =
      rule.first_made (stmt_layout i true x) (some_stmt x) ts r (λ ts2 r2 u. part_rule (as_simple (is_simple x) (gives_semicolon x) true x ts2 r2 f.0 (stmt_spelled x f.1 i true ts2 r2 u))) w

  last_spelled : (o : BlockOption U) → FormedBlock o → (i : List ℕ) (ts r : Lexemes) → HasTokens (last_layout i o) ts r → LastSpelled o ts r
  last_spelled no_block f i ts r of_nothing = without_last
  last_spelled (some_block sb body) f i ts r w = rule.last_made (in_braces i body (stmts_layout (deeper i) (Some i) body)) body ts r (block i body (stmts_spelled body f)) w

  arms_spelled : (arms : Arms U) → FormedArms arms → HasArms arms → (last : BlockOption U) (i : List ℕ) (ts mid r : Lexemes) → HasTokens (arms_layout i arms) ts mid → LastSpelled last mid r → SpellsIf nowhere arms last ts r
  arms_spelled no_arms f some last i ts mid r w k = absurd some
  arms_spelled (arm s first t sb body no_arms) f some last i ts mid r w k =
      rule.last_arm_made (first_layout i first) (here i 1 true false t) (in_braces i body (stmts_layout (deeper i) (Some i) body)) first t body last ts mid r
      (first_spelled first f.0 i) (operand_here t i 1 true false (f.1, f.2) (expr_spelled t f.2)) (block i body (stmts_spelled body f.3)) w k
  arms_spelled (arm s first t sb body (arm s2 first2 t2 sb2 body2 arms)) f some last i ts mid r w k =
      rule.more_arms_made (first_layout i first) (here i 1 true false t) (in_braces i body (stmts_layout (deeper i) (Some i) body)) (arms_layout i (arm s2 first2 t2 sb2 body2 arms)) first t body (arm s2 first2 t2 sb2 body2 arms) last ts mid r
      (first_spelled first f.0 i) (operand_here t i 1 true false (f.1, f.2) (expr_spelled t f.2)) (block i body (stmts_spelled body f.3))
      (λ ts2 u. arms_spelled (arm s2 first2 t2 sb2 body2 arms) f.4 tt last i ts2 mid r u k) w

  left_spelled : (left : RangeLeft U) → FormedLeft left → (i : List ℕ) (ts r : Lexemes) → HasTokens (left_layout i left) ts r → SpellsLeft nowhere left ts r
  left_spelled nothing f i ts r of_nothing = no_left_rule
  left_spelled (assigns xs) f i ts r w = rule.left_assigns_made (exprs_layout i true false xs) xs ts r (exprs_spelled xs f.1 i true false f.0) w
  left_spelled (defines ns) f i ts r w = rule.left_defines_made (names_layout ns) ns ts r (λ ts2 r2. names_spelled ns ts2 r2 f.0) w

  cases_spelled : (cs : Cases U) → FormedCases cs → (i : List ℕ) (ts r : Lexemes) → HasTokens (cases_layout i cs) ts r → SpellsCases nowhere cs ts r
  cases_spelled no_cases f i ts r of_nothing = no_cases_rule
  cases_spelled (case s no_exprs body cs) f i ts r w =
      rule.default_made (stmts_layout (deeper i) (Some i) body) (cases_layout i cs) (clause_indent i body) body cs ts r (stmts_spelled body f.1 (deeper i) i) (cases_spelled cs f.2 i) w
  cases_spelled (case s (expr_and e es) body cs) f i ts r w =
      rule.case_made (exprs_layout i false false (expr_and e es)) (stmts_layout (deeper i) (Some i) body) (cases_layout i cs) (clause_indent i body) (expr_and e es) body cs ts r
      (exprs_spelled (expr_and e es) f.0 i false false tt) (stmts_spelled body f.1 (deeper i) i) (cases_spelled cs f.2 i) w

  one_spec_spelled : (ss : ValueSpecs U) (constant : Bool) → FormedSpecs constant ss → FormedGroup false ss → (i : List ℕ) (ts r : Lexemes) → HasTokens (specs_layout i None ss) ts r → SpellsDecl nowhere constant false ss ts r
  one_spec_spelled no_specs constant f one i ts r w = absurd one
  one_spec_spelled (spec s ns t xs no_specs) constant f one i ts r w =
      rule.one_spec_made (names_layout ns) (spec_type_layout t) (equals_before xs) (exprs_layout i false false xs) constant ns t xs ts r
      (λ ts2 m1 m2 m3 r2 a b d e. values xs i constant ns t (exprs_spelled xs f.3 i) ts2 m1 m2 m3 r2 a b d e f.0 f.4) w
  one_spec_spelled (spec s ns t xs (spec _ _ _ _ _)) constant f one i ts r w = absurd one

  specs_spelled : (ss : ValueSpecs U) (constant : Bool) → FormedSpecs constant ss → (i o : List ℕ) (ts r : Lexemes) → HasTokens (specs_layout i (Some o) ss) ts r → SpellsSpecs nowhere constant ss ts r
  specs_spelled no_specs constant f i o ts r of_nothing = no_specs_rule
  specs_spelled (spec s ns t xs no_specs) constant f i o ts r w =
      rule.more_specs_made (names_layout ns) (spec_type_layout t) (equals_before xs) (exprs_layout i false false xs) (specs_layout {S = U} i (Some o) no_specs) o constant ns t xs no_specs ts r
      (λ ts2 m1 m2 m3 r2 a b d e. values xs i constant ns t (exprs_spelled xs f.3 i) ts2 m1 m2 m3 r2 a b d e f.0 f.4) (specs_spelled no_specs constant f.5 i o) w
  specs_spelled (spec s ns t xs (spec s2 ns2 t2 xs2 ss)) constant f i o ts r w =
      rule.more_specs_made (names_layout ns) (spec_type_layout t) (equals_before xs) (exprs_layout i false false xs) (specs_layout i (Some o) (spec s2 ns2 t2 xs2 ss)) i constant ns t xs (spec s2 ns2 t2 xs2 ss) ts r
      (λ ts2 m1 m2 m3 r2 a b d e. values xs i constant ns t (exprs_spelled xs f.3 i) ts2 m1 m2 m3 r2 a b d e f.0 f.4) (specs_spelled (spec s2 ns2 t2 xs2 ss) constant f.5 i o) w
