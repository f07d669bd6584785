-- Each name of a type in an expression or a statement that tokens spell may be swapped where a part of that may.
use Rattle.std.proofs.Common.{ℕ, Bool, true, false, List, [], ◌++◌, Option, ◌≡◌, refl}
use Rattle.go_tree.specs.Tree.{NameAt, TypeExpr, Expr, Exprs, ExprOption, Elems, Value, ValueOption, Stmt, Stmts, StmtOption, BlockOption, RangeLeft, Arms, Cases, ValueSpecs, call, no_elems, elem, if_, range_, defer, no_block, some_block, nothing, assigns, defines, no_arms, arm, no_specs, spec}
use Rattle.go_tree.specs.declared.exprs.Rest.{Rest}
use Rattle.go_read.specs.SpellsTypes.{Lexemes}
use Rattle.go_read.specs.Spells.{SpellsLiteralType, SpellsBare, SpellsExpr, SpellsOperand, SpellsOption, SpellsExprs, SpellsArgs, SpellsElems, SpellsElem, SpellsValue, SpellsSimple, SpellsPart, SpellsFirst, SpellsStmt, SpellsBlock, SpellsStmts, SpellsIf, SpellsArm, SpellsLeft, SpellsCases, SpellsDecl, SpellsSpecs, SpellsSpec, named_literal_rule, qualified_literal_rule, type_literal_rule, ident_rule, int_rule, rune_rule, text_rule, composite_rule, func_rule, type_rule, selector_rule, index_rule, slice_rule, call_rule, unary_rule, star_rule, binary_rule, bare_rule, parens_rule, operand_rule, no_expr_rule, some_expr_rule, last_expr_rule, more_exprs_rule, no_args_rule, args_rule, comma_args_rule, rest_args_rule, comma_rest_args_rule, no_elems_rule, last_elem_rule, more_elems_rule, value_rule, keyed_rule, plain_rule, braced_rule, eval_rule, increment_rule, decrement_rule, assign_rule, define_rule, no_part_rule, part_rule, no_first_rule, first_rule, empty_rule, simple_rule, const_rule, var_rule, return_rule, return_values_rule, break_rule, break_label_rule, continue_rule, continue_label_rule, block_rule, if_rule, while_rule, for_rule, range_rule, switch_rule, defer_rule, label_rule, braces_rule, no_stmts_rule, last_stmt_rule, more_stmts_rule, only_arm_rule, else_rule, else_if_rule, arm_rule, no_left_rule, assigns_rule, defines_rule, no_cases_rule, case_rule, default_rule, single_rule, group_rule, no_specs_rule, last_spec_rule, more_specs_rule, repeated_rule, typed_var_rule, values_rule, typed_values_rule}
use Rattle.splice_laws.specs.Swaps.{Swap, a_literal_type, LiteralTypeIn, this_literal_type, inside_operand, inside_callee, PartOfExpr, inside_literal_type, in_literal_type, in_elems, in_func_body, in_signature, in_type_operand, in_selected, in_indexed, in_index, in_sliced, in_low, in_high, in_called, in_args, in_unary, in_star, in_left, in_right, OptionIn, in_option, ExprsIn, in_first_expr, in_later_exprs, ElemsIn, in_key, in_value, in_later_elems, ValueIn, in_plain, in_braced, SimpleIn, in_eval, in_step, in_assigned, in_assign, in_define, PartIn, in_part, PartOfStmt, in_simple, in_const, in_var, in_return, in_block, in_arms, in_else, in_for_first, in_for_test, in_for_post, in_for_body, in_range_left, in_range, in_range_body, in_switch_first, in_tag, in_cases, in_deferred, in_deferred_args, in_label, StmtsIn, inside_stmt, in_later_stmts, ArmsIn, in_arm_first, in_arm_test, in_arm_body, in_later_arms, CasesIn, in_case, in_case_body, in_later_cases, SpecsIn, in_spec_type, in_spec_values, in_later_specs}
use Rattle.splice_laws.proofs.Apart.{Differ}
use Rattle.splice_laws.proofs.Grafts.{Within, drop}
use Rattle.splice_laws.proofs.Pasts.{names_past, sig_past, literal_past, expr_past, operand_past, option_past, exprs_past, elem_past, value_past, part_past, first_past, stmt_past, stmts_past, arm_past, left_past, spec_past, type_past}
use Rattle.put_nodes.specs.TypeNodes.Names.{Written, as_types, names_of_sig, names_of_option, names_of_literal, names_of_expr, names_of_bound, names_of_exprs, names_of_elems, names_of_key, names_of_value, names_of_stmt, names_of_part, names_of_stmts, names_of_else, names_of_left, names_of_arms, names_of_cases, names_of_specs}
use Rattle.run_rules.specs.Sites.{named_in}
use Rattle.put_nodes.proofs.TypeNodes.TypeWalk.{type-nodes, part-nodes, sig-nodes, Good, both, type-good, sig-good, literal-good, name-good}

module _ {S : Type 0} (mark : Lexemes → Lexemes → S) (whole : Lexemes) (differ : Differ mark whole) (W : Swap S → Type 0) where
  abbrev G : Written S → Type 0
  G ts = Good W ts

  -- what may be swapped of what may be left out
  abbrev ElseK : BlockOption S → Type 0
  ElseK no_block = Unit {0}
  ElseK (some_block b xs) = (w : Swap S) (ys : Stmts S) → StmtsIn w xs ys → W w

  abbrev LeftK : RangeLeft S → Type 0
  LeftK nothing = Unit {0}
  LeftK (assigns xs) = (w : Swap S) (ys : Exprs S) → ExprsIn w true xs ys → W w
  LeftK (defines ns) = Unit {0}

  else-k : (s : S) (ars : Arms S) (last : BlockOption S) → ((w : Swap S) (y : Stmt S) → PartOfStmt w (if_ s ars last) y → W w) → ElseK last
  else-k s ars no_block k = tt
  else-k s ars (some_block b xs) k = λ w ys x. k w (if_ s ars (some_block b ys)) (in_else x)

  left-k : (s : S) (left : RangeLeft S) (e : Expr S) (b : S) (xs : Stmts S) → ((w : Swap S) (y : Stmt S) → PartOfStmt w (range_ s left e b xs) y → W w) → LeftK left
  left-k s nothing e b xs k = tt
  left-k s (assigns ls) e b xs k = λ w ks x. k w (range_ s (assigns ks) e b xs) (in_range_left x)
  left-k s (defines ns) e b xs k = tt

  deferred : {w : Swap S} {s c : S} {e v : Expr S} {xs : Exprs S} {r : Rest} → PartOfExpr w false (call c e xs r) v → PartOfStmt w (defer s (call c e xs r)) (defer s v)
  deferred (in_called x) = in_deferred x
  deferred (in_args x) = in_deferred_args x

  this-literal : (h : Bool) → h ≡ false → (t u : TypeExpr S) → LiteralTypeIn (a_literal_type false t u) h t u
  this-literal false e t u = this_literal_type refl
  this-literal true e t u = absurd cc

  literal-names : {j : Bool} {t : TypeExpr S} {ts r : Lexemes} → SpellsLiteralType mark j t ts r → Within ts whole → (h : Bool) → ((w : Swap S) (u : TypeExpr S) → LiteralTypeIn w h t u → W w) → G (names_of_literal h t)
  literal-names (named_literal_rule) a h k = name-good W h _ _ _ (λ u e. k (a_literal_type false _ u) u (this-literal h e _ u))
  literal-names (qualified_literal_rule) a h k = name-good W h _ _ _ (λ u e. k (a_literal_type false _ u) u (this-literal h e _ u))
  literal-names (type_literal_rule {t = t} b d) a h k =
      literal-good W h t (λ u e. k (a_literal_type false t u) u (this-literal h e t u))
      (part-nodes mark whole differ W d b a (λ w u x. k w _ (inside_literal_type x)))

  mutual
    bare-names : {l : ℕ} {j : Bool} {e : Expr S} {ts r : Lexemes} → SpellsBare mark l j e ts r → Within ts whole → (h : Bool) → ((w : Swap S) (f : Expr S) → PartOfExpr w h e f → W w) → G (names_of_expr h e)
    bare-names ident_rule a h k = tt
    bare-names int_rule a h k = tt
    bare-names rune_rule a h k = tt
    bare-names text_rule a h k = tt
    bare-names (composite_rule {t = t} {es = es} d1 d2) a h k =
        both W (names_of_literal h t) (names_of_elems es) (literal-names d1 a h (λ w u x. k w _ (in_literal_type x))) (elems-names d2 (drop (literal_past mark whole d1 a)) (λ w fs x. k w _ (in_elems x)))
    bare-names (func_rule {g = g} {body = body} d1 d2) a h k =
        both W (names_of_sig g) (names_of_stmts body) (sig-good W g (sig-nodes mark whole differ W d1 (drop a) (λ w g2 x. k w _ (in_signature x)))) (block-names d2 (sig_past mark whole d1 (drop a)) (λ w ys x. k w _ (in_func_body x)))
    bare-names (type_rule {t = t} d1 d2 d3) a h k = type-good W t (part-nodes mark whole differ W d2 d1 a (λ w u x. k w _ (in_type_operand x)))
    bare-names (selector_rule d1) a h k = operand-names d1 a h (λ w f x. k w _ (in_selected (inside_operand x)))
    bare-names (index_rule {e = e} {i = i} d1 d2) a h k =
        both W (names_of_expr h e) (names_of_expr false i) (operand-names d1 a h (λ w f x. k w _ (in_indexed (inside_operand x)))) (operand-names d2 (drop (operand_past mark whole d1 a)) false (λ w f x. k w _ (in_index (inside_operand x))))
    bare-names (slice_rule {e = e} {i = i} {j = j} d1 d2 d3) a h k =
        both W (names_of_expr h e) (names_of_bound false i ++ names_of_bound false j) (operand-names d1 a h (λ w f x. k w _ (in_sliced (inside_operand x))))
        (both W (names_of_bound false i) (names_of_bound false j) (option-names d2 (drop (operand_past mark whole d1 a)) false (λ w f x. k w _ (in_low x)))
        (option-names d3 (drop (option_past mark whole d2 (drop (operand_past mark whole d1 a)))) false (λ w f x. k w _ (in_high x))))
    bare-names (call_rule {f = f} {xs = xs} d1 d2) a h k =
        both W (names_of_expr h f) (names_of_exprs false xs) (expr-names d1 a h (λ w g x. k w _ (in_called (inside_callee x)))) (args-names d2 (drop (expr_past mark whole d1 a)) (λ w ys x. k w _ (in_args x)))
    bare-names (unary_rule d1 d2) a h k = operand-names d2 (drop a) h (λ w f x. k w _ (in_unary (inside_operand x)))
    bare-names (star_rule d1 d2) a h k = operand-names d2 (drop a) h (λ w f x. k w _ (in_star (inside_operand x)))
    bare-names (binary_rule {a = l} {b = r} d1 d2 d3) a h k =
        both W (names_of_expr h l) (names_of_expr h r) (operand-names d2 a h (λ w f x. k w _ (in_left (inside_operand x)))) (operand-names d3 (drop (operand_past mark whole d2 a)) h (λ w f x. k w _ (in_right (inside_operand x))))

    expr-names : {l : ℕ} {j : Bool} {e : Expr S} {ts r : Lexemes} → SpellsExpr mark l j e ts r → Within ts whole → (h : Bool) → ((w : Swap S) (f : Expr S) → PartOfExpr w h e f → W w) → G (names_of_expr h e)
    expr-names (bare_rule d) a h k = bare-names d a h k
    expr-names (parens_rule d) a h k = expr-names d (drop a) h k

    operand-names : {l : ℕ} {j : Bool} {e : Expr S} {ts r : Lexemes} → SpellsOperand mark l j e ts r → Within ts whole → (h : Bool) → ((w : Swap S) (f : Expr S) → PartOfExpr w h e f → W w) → G (names_of_expr h e)
    operand-names (operand_rule d1 d2) a h k = expr-names d2 a h k

    option-names : {j : Bool} {e : ExprOption S} {ts r : Lexemes} → SpellsOption mark j e ts r → Within ts whole → (h : Bool) → ((w : Swap S) (f : ExprOption S) → OptionIn w h e f → W w) → G (names_of_bound h e)
    option-names no_expr_rule a h k = tt
    option-names (some_expr_rule d) a h k = operand-names d a h (λ w f x. k w _ (in_option (inside_operand x)))

    exprs-names : {j : Bool} {es : Exprs S} {ts r : Lexemes} → SpellsExprs mark j es ts r → Within ts whole → (h : Bool) → ((w : Swap S) (fs : Exprs S) → ExprsIn w h es fs → W w) → G (names_of_exprs h es)
    exprs-names (last_expr_rule {e = e} d) a h k = both W (names_of_expr h e) [] (operand-names d a h (λ w f x. k w _ (in_first_expr (inside_operand x)))) tt
    exprs-names (more_exprs_rule {e = e} {es = es} d1 d2) a h k =
        both W (names_of_expr h e) (names_of_exprs h es) (operand-names d1 a h (λ w f x. k w _ (in_first_expr (inside_operand x)))) (exprs-names d2 (drop (operand_past mark whole d1 a)) h (λ w fs x. k w _ (in_later_exprs x)))

    args-names : {xs : Exprs S} {rest : Rest} {ts r : Lexemes} → SpellsArgs mark xs rest ts r → Within ts whole → ((w : Swap S) (ys : Exprs S) → ExprsIn w false xs ys → W w) → G (names_of_exprs false xs)
    args-names no_args_rule a k = tt
    args-names (args_rule d) a k = exprs-names d a false k
    args-names (comma_args_rule d) a k = exprs-names d a false k
    args-names (rest_args_rule d) a k = exprs-names d a false k
    args-names (comma_rest_args_rule d) a k = exprs-names d a false k

    elems-names : {es : Elems S} {ts r : Lexemes} → SpellsElems mark es ts r → Within ts whole → ((w : Swap S) (fs : Elems S) → ElemsIn w es fs → W w) → G (names_of_elems es)
    elems-names no_elems_rule a k = tt
    elems-names (last_elem_rule {k = i} {v = v} d) a k =
        let h = elem-names _ no_elems d a k in
        both W (names_of_key i) (names_of_value v ++ []) h.0 (both W (names_of_value v) [] h.1 tt)
    elems-names (more_elems_rule {k = i} {v = v} {es = es} d1 d2) a k =
        let h = elem-names _ es d1 a k in
        both W (names_of_key i) (names_of_value v ++ names_of_elems es) h.0 (both W (names_of_value v) (names_of_elems es) h.1 (elems-names d2 (drop (elem_past mark whole d1 a)) (λ w fs x. k w _ (in_later_elems x))))

    elem-names : {i : ValueOption S} {v : Value S} {ts r : Lexemes} (s : S) (es : Elems S) → SpellsElem mark i v ts r → Within ts whole → ((w : Swap S) (fs : Elems S) → ElemsIn w (elem s i v es) fs → W w) → G (names_of_key i) × G (names_of_value v)
    elem-names s es (value_rule d) a k = (tt, value-names d a (λ w u x. k w _ (in_value x)))
    elem-names s es (keyed_rule d1 d2) a k = (value-names d1 a (λ w u x. k w _ (in_key x)), value-names d2 (drop (value_past mark whole d1 a)) (λ w u x. k w _ (in_value x)))

    value-names : {v : Value S} {ts r : Lexemes} → SpellsValue mark v ts r → Within ts whole → ((w : Swap S) (u : Value S) → ValueIn w v u → W w) → G (names_of_value v)
    value-names (plain_rule d) a k = operand-names d a false (λ w f x. k w _ (in_plain (inside_operand x)))
    value-names (braced_rule d) a k = elems-names d (drop a) (λ w fs x. k w _ (in_braced x))

    simple-names : {j : Bool} {s : Stmt S} {ts r : Lexemes} → SpellsSimple mark j s ts r → Within ts whole → (h : Bool) → ((w : Swap S) (y : Stmt S) → SimpleIn w h s y → W w) → G (names_of_stmt h s)
    simple-names (eval_rule d) a h k = operand-names d a h (λ w f x. k w _ (in_eval (inside_operand x)))
    simple-names (increment_rule d) a h k = operand-names d a h (λ w f x. k w _ (in_step (inside_operand x)))
    simple-names (decrement_rule d) a h k = operand-names d a h (λ w f x. k w _ (in_step (inside_operand x)))
    simple-names (assign_rule {xs = xs} {ys = ys} d1 d2) a h k =
        both W (names_of_exprs h xs) (names_of_exprs h ys) (exprs-names d1 a h (λ w fs x. k w _ (in_assigned x))) (exprs-names d2 (drop (exprs_past mark whole d1 a)) h (λ w fs x. k w _ (in_assign x)))
    simple-names (define_rule d1 d2) a h k = exprs-names d2 (drop (names_past mark whole d1 a)) h (λ w fs x. k w _ (in_define x))

    part-names : {i : StmtOption S} {ts r : Lexemes} → SpellsPart mark i ts r → Within ts whole → ((w : Swap S) (y : StmtOption S) → PartIn w i y → W w) → G (names_of_part i)
    part-names no_part_rule a k = tt
    part-names (part_rule d) a k = simple-names d a true (λ w y x. k w _ (in_part x))

    first-names : {i : StmtOption S} {ts r : Lexemes} → SpellsFirst mark i ts r → Within ts whole → ((w : Swap S) (y : StmtOption S) → PartIn w i y → W w) → G (names_of_part i)
    first-names no_first_rule a k = tt
    first-names (first_rule d) a k = part-names d a k

    pub stmt-names : {s : Stmt S} {ts r : Lexemes} → SpellsStmt mark s ts r → Within ts whole → ((w : Swap S) (y : Stmt S) → PartOfStmt w s y → W w) → G (names_of_stmt false s)
    stmt-names empty_rule a k = tt
    stmt-names (simple_rule d) a k = simple-names d a false (λ w y x. k w y (in_simple x))
    stmt-names (const_rule d) a k = decl-names d (drop a) (λ w us x. k w _ (in_const x))
    stmt-names (var_rule d) a k = decl-names d (drop a) (λ w us x. k w _ (in_var x))
    stmt-names return_rule a k = tt
    stmt-names (return_values_rule d) a k = exprs-names d (drop a) false (λ w fs x. k w _ (in_return x))
    stmt-names break_rule a k = tt
    stmt-names break_label_rule a k = tt
    stmt-names continue_rule a k = tt
    stmt-names continue_label_rule a k = tt
    stmt-names (block_rule d) a k = block-names d a (λ w ys x. k w _ (in_block x))
    stmt-names (if_rule {arms = ars} {last = last} d) a k =
        let h = if-names d a (λ w brs x. k w _ (in_arms x)) (else-k _ ars last k) in
        both W (names_of_arms ars) (names_of_else last) h.0 h.1
    stmt-names (while_rule {t = t} {body = body} d1 d2) a k =
        both W (names_of_bound true t) (names_of_stmts body) (option-names d1 (drop a) true (λ w f x. k w _ (in_for_test x))) (block-names d2 (option_past mark whole d1 (drop a)) (λ w ys x. k w _ (in_for_body x)))
    stmt-names (for_rule {i = i} {p = p} {t = t} {body = body} d1 d2 d3 d4) a k =
        let b = drop (part_past mark whole d1 (drop a)) in
        let c = drop (option_past mark whole d2 b) in
        both W (names_of_part i) (names_of_bound true t ++ (names_of_part p ++ names_of_stmts body)) (part-names d1 (drop a) (λ w y x. k w _ (in_for_first x)))
        (both W (names_of_bound true t) (names_of_part p ++ names_of_stmts body) (option-names d2 b true (λ w f x. k w _ (in_for_test x)))
        (both W (names_of_part p) (names_of_stmts body) (part-names d3 c (λ w y x. k w _ (in_for_post x))) (block-names d4 (part_past mark whole d3 c) (λ w ys x. k w _ (in_for_body x)))))
    stmt-names (range_rule {left = left} {e = e} {sb = sb} {body = body} d1 d2 d3) a k =
        let b = drop (left_past mark whole d1 (drop a)) in
        both W (names_of_left left) (names_of_expr true e ++ names_of_stmts body) (left-names d1 (drop a) (left-k _ left e sb body k))
        (both W (names_of_expr true e) (names_of_stmts body) (operand-names d2 b true (λ w f x. k w _ (in_range (inside_operand x)))) (block-names d3 (operand_past mark whole d2 b) (λ w ys x. k w _ (in_range_body x))))
    stmt-names (switch_rule {i = i} {t = t} {cs = cs} d1 d2 d3) a k =
        let b = first_past mark whole d1 (drop a) in
        both W (names_of_part i) (names_of_bound true t ++ names_of_cases cs) (first-names d1 (drop a) (λ w y x. k w _ (in_switch_first x)))
        (both W (names_of_bound true t) (names_of_cases cs) (option-names d2 b true (λ w f x. k w _ (in_tag x))) (cases-names d3 (drop (option_past mark whole d2 b)) (λ w ds x. k w _ (in_cases x))))
    stmt-names (defer_rule d) a k = bare-names d (drop a) false (λ w f x. k w _ (deferred x))
    stmt-names (label_rule d) a k = stmt-names d (drop (drop a)) (λ w y x. k w _ (in_label x))

    pub block-names : {b : S} {xs : Stmts S} {ts r : Lexemes} → SpellsBlock mark b xs ts r → Within ts whole → ((w : Swap S) (ys : Stmts S) → StmtsIn w xs ys → W w) → G (names_of_stmts xs)
    block-names (braces_rule d) a k = stmts-names d (drop a) k

    stmts-names : {xs : Stmts S} {ts r : Lexemes} → SpellsStmts mark xs ts r → Within ts whole → ((w : Swap S) (ys : Stmts S) → StmtsIn w xs ys → W w) → G (names_of_stmts xs)
    stmts-names no_stmts_rule a k = tt
    stmts-names (last_stmt_rule {x = s} d1 d2) a k = both W (names_of_stmt false s) [] (stmt-names d2 a (λ w y x. k w _ (inside_stmt x))) tt
    stmts-names (more_stmts_rule {x = s} {xs = xs} d1 d2) a k =
        both W (names_of_stmt false s) (names_of_stmts xs) (stmt-names d1 a (λ w y x. k w _ (inside_stmt x))) (stmts-names d2 (drop (stmt_past mark whole d1 a)) (λ w ys x. k w _ (in_later_stmts x)))

    if-names : {ars : Arms S} {last : BlockOption S} {ts r : Lexemes} → SpellsIf mark ars last ts r → Within ts whole → ((w : Swap S) (brs : Arms S) → ArmsIn w ars brs → W w) → ElseK last → G (names_of_arms ars) × G (names_of_else last)
    if-names (only_arm_rule d) a k e = (arm-names _ no_arms d a k tt, tt)
    if-names (else_rule d1 d2) a k e = (arm-names _ no_arms d1 a k tt, block-names d2 (drop (arm_past mark whole d1 a)) e)
    if-names (else_if_rule {arms = ars} d1 d2) a k e =
        let h = if-names d2 (drop (arm_past mark whole d1 a)) (λ w brs x. k w _ (in_later_arms x)) e in (arm-names _ ars d1 a k h.0, h.1)

    arm-names : {i : StmtOption S} {t : Expr S} {b : S} {xs : Stmts S} {ts r : Lexemes} (s : S) (ars : Arms S) → SpellsArm mark i t b xs ts r → Within ts whole → ((w : Swap S) (brs : Arms S) → ArmsIn w (arm s i t b xs ars) brs → W w) → G (names_of_arms ars) → G (names_of_part i ++ (names_of_expr true t ++ (names_of_stmts xs ++ names_of_arms ars)))
    arm-names s ars (arm_rule {i = i} {t = t} {body = xs} d1 d2 d3) a k m =
        let b = first_past mark whole d1 (drop a) in
        both W (names_of_part i) (names_of_expr true t ++ (names_of_stmts xs ++ names_of_arms ars)) (first-names d1 (drop a) (λ w y x. k w _ (in_arm_first x)))
        (both W (names_of_expr true t) (names_of_stmts xs ++ names_of_arms ars) (operand-names d2 b true (λ w f x. k w _ (in_arm_test (inside_operand x))))
        (both W (names_of_stmts xs) (names_of_arms ars) (block-names d3 (operand_past mark whole d2 b) (λ w ys x. k w _ (in_arm_body x))) m))

    left-names : {left : RangeLeft S} {ts r : Lexemes} → SpellsLeft mark left ts r → Within ts whole → LeftK left → G (names_of_left left)
    left-names no_left_rule a k = tt
    left-names (assigns_rule d) a k = exprs-names d a true k
    left-names (defines_rule d) a k = tt

    cases-names : {cs : Cases S} {ts r : Lexemes} → SpellsCases mark cs ts r → Within ts whole → ((w : Swap S) (ds : Cases S) → CasesIn w cs ds → W w) → G (names_of_cases cs)
    cases-names no_cases_rule a k = tt
    cases-names (case_rule {xs = es} {body = body} {cs = cs} d1 d2 d3) a k =
        let b = drop (exprs_past mark whole d1 (drop a)) in
        both W (names_of_exprs false es) (names_of_stmts body ++ names_of_cases cs) (exprs-names d1 (drop a) false (λ w fs x. k w _ (in_case x)))
        (both W (names_of_stmts body) (names_of_cases cs) (stmts-names d2 b (λ w ys x. k w _ (in_case_body x))) (cases-names d3 (stmts_past mark whole d2 b) (λ w ds x. k w _ (in_later_cases x))))
    cases-names (default_rule {body = body} {cs = cs} d1 d2) a k =
        both W (names_of_stmts body) (names_of_cases cs) (stmts-names d1 (drop (drop a)) (λ w ys x. k w _ (in_case_body x))) (cases-names d2 (stmts_past mark whole d1 (drop (drop a))) (λ w ds x. k w _ (in_later_cases x)))

    pub decl-names : {c g : Bool} {ss : ValueSpecs S} {ts r : Lexemes} → SpellsDecl mark c g ss ts r → Within ts whole → ((w : Swap S) (us : ValueSpecs S) → SpecsIn w ss us → W w) → G (names_of_specs ss)
    decl-names (single_rule d) a k = spec-names _ no_specs d a k tt
    decl-names (group_rule d) a k = specs-names d (drop a) k

    specs-names : {c : Bool} {ss : ValueSpecs S} {ts r : Lexemes} → SpellsSpecs mark c ss ts r → Within ts whole → ((w : Swap S) (us : ValueSpecs S) → SpecsIn w ss us → W w) → G (names_of_specs ss)
    specs-names no_specs_rule a k = tt
    specs-names (last_spec_rule d) a k = spec-names _ no_specs d a k tt
    specs-names (more_specs_rule {ss = ss} d1 d2) a k = spec-names _ ss d1 a k (specs-names d2 (drop (spec_past mark whole d1 a)) (λ w us x. k w _ (in_later_specs x)))

    spec-names : {c : Bool} {ns : List (NameAt S)} {t : Option (TypeExpr S)} {xs : Exprs S} {ts r : Lexemes} (s : S) (ss : ValueSpecs S) → SpellsSpec mark c ns t xs ts r → Within ts whole → ((w : Swap S) (us : ValueSpecs S) → SpecsIn w (spec s ns t xs ss) us → W w) → G (names_of_specs ss)
        → G (names_of_option t ++ (names_of_exprs false xs ++ names_of_specs ss))
    spec-names s ss (repeated_rule d) a k m = m
    spec-names s ss (typed_var_rule {ns = ns} {t = t} d1 d2) a k m =
        both W (as_types (named_in t)) (names_of_specs ss) (type-good W t (type-nodes mark whole differ W d2 (names_past mark whole d1 a) (λ w u x. k w _ (in_spec_type x)))) m
    spec-names s ss (values_rule {xs = xs} d1 d2) a k m = both W (names_of_exprs false xs) (names_of_specs ss) (exprs-names d2 (drop (names_past mark whole d1 a)) false (λ w fs x. k w _ (in_spec_values x))) m
    spec-names s ss (typed_values_rule {t = t} {xs = xs} d1 d2 d3) a k m =
        let b = names_past mark whole d1 a in
        both W (as_types (named_in t)) (names_of_exprs false xs ++ names_of_specs ss) (type-good W t (type-nodes mark whole differ W d2 b (λ w u x. k w _ (in_spec_type x))))
        (both W (names_of_exprs false xs) (names_of_specs ss) (exprs-names d3 (drop (type_past mark whole d2 b)) false (λ w fs x. k w _ (in_spec_values x))) m)
