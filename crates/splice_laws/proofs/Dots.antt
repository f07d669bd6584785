-- No production has two dots side by side; an integer stands directly before a dot only where a selector stands on it, and before
-- the dots of a call only where its last argument ends in it.
use Rattle.std.proofs.Common.{◌≡◌, ◌⊎◌, inl, inr, ℕ, ◌+◌, ◌≤◌, Bool, true, false, not, ◌&&◌, List, [], ◌∷◌, Option, refl, arith}
use Rattle.go_tree.specs.declared.spans.Span.{Span}
use Rattle.go_tree.specs.declared.operators.UnOp.{UnOp}
use Rattle.go_tree.specs.declared.operators.UnOp.TheVariants.{Plus, Minus, Not, Flip, Address}
use Rattle.go_tree.specs.declared.operators.BinOp.{BinOp}
use Rattle.go_tree.specs.declared.operators.BinOp.TheVariants.{Mul, Div, Rem, Shl, Shr, And, AndNot, Add, Sub, Or, Xor, Eq, Ne, Lt, Le, Gt, Ge, LogAnd, LogOr}
use Rattle.go_tree.specs.Tree.{NameAt, TypeExpr, Fields, Param, Sig, Expr, Exprs, ExprOption, Elems, Value, ValueOption, Stmt, Stmts, StmtOption, BlockOption, RangeLeft, Arms, Cases, ValueSpecs, int_lit, unary, binary, star, expr_and}
use Rattle.go_tree.specs.File.{ImportSpec, ImportDecl, TypeSpec, Receiver, Decl, File}
use Rattle.go_tree.specs.declared.exprs.Rest.{Rest}
use Rattle.go_tree.specs.GoWords.Terminals as terminal
use Rattle.go_tree.specs.GoWords.Terminals.{Terminal, lex, dot, ellipsis, foreign, level_of, unary_sign}
use Rattle.go_read.specs.SpellsTypes.{Lexemes, SpellsType, SpellsFields, SpellsEntries, SpellsRest, rest_rule, named_rest_rule, SpellsNamed, SpellsUnnamed, rest_named_rule, comma_rest_named_rule, rest_unnamed_rule, comma_rest_unnamed_rule, SpellsParams, SpellsResults, SpellsSig, SpellsNames, named_rule, qualified_rule, pointer_rule, slice_type_rule, map_type_rule, struct_type_rule, type_parens_rule, no_fields_rule, last_field_rule, more_fields_rule, last_entry_rule, more_entries_rule, last_named_rule, comma_named_rule, more_named_rule, last_unnamed_rule, comma_unnamed_rule, more_unnamed_rule, no_params_rule, named_params_rule, unnamed_params_rule, no_results_rule, params_results_rule, type_result_rule, sig_rule, last_name_rule, more_names_rule}
use Rattle.go_read.specs.Spells.{SpellsLiteralType, SpellsBare, SpellsExpr, SpellsOperand, SpellsOption, SpellsExprs, SpellsArgs, SpellsElems, SpellsElem, SpellsValue, SpellsSimple, SpellsPart, SpellsFirst, SpellsStmt, SpellsBlock, SpellsStmts, SpellsIf, SpellsArm, SpellsLeft, SpellsCases, SpellsDecl, SpellsSpecs, SpellsSpec, named_literal_rule, qualified_literal_rule, type_literal_rule, ident_rule, int_rule, rune_rule, text_rule, composite_rule, func_rule, type_rule, selector_rule, index_rule, slice_rule, call_rule, unary_rule, star_rule, binary_rule, bare_rule, parens_rule, operand_rule, no_expr_rule, some_expr_rule, last_expr_rule, more_exprs_rule, no_args_rule, args_rule, comma_args_rule, rest_args_rule, comma_rest_args_rule, no_elems_rule, last_elem_rule, more_elems_rule, value_rule, keyed_rule, plain_rule, braced_rule, eval_rule, increment_rule, decrement_rule, assign_rule, define_rule, no_part_rule, part_rule, no_first_rule, first_rule, empty_rule, simple_rule, const_rule, var_rule, return_rule, return_values_rule, break_rule, break_label_rule, continue_rule, continue_label_rule, block_rule, if_rule, while_rule, for_rule, range_rule, switch_rule, defer_rule, label_rule, braces_rule, no_stmts_rule, last_stmt_rule, more_stmts_rule, only_arm_rule, else_rule, else_if_rule, arm_rule, no_left_rule, assigns_rule, defines_rule, no_cases_rule, case_rule, default_rule, single_rule, group_rule, no_specs_rule, last_spec_rule, more_specs_rule, repeated_rule, typed_var_rule, values_rule, typed_values_rule}
use Rattle.go_read.specs.SpellsFiles.{SpellsImportSpec, SpellsImportSpecs, SpellsImport, SpellsTypeSpec, SpellsTypeSpecs, SpellsReceiver, SpellsTop, SpellsImports, SpellsTops, SpellsFront, path_rule, named_path_rule, no_import_specs_rule, last_import_spec_rule, more_import_specs_rule, import_rule, import_group_rule, type_spec_rule, alias_spec_rule, no_type_specs_rule, last_type_spec_rule, more_type_specs_rule, receiver_rule, pointer_receiver_rule, named_receiver_rule, named_pointer_receiver_rule, top_const_rule, top_var_rule, top_type_rule, top_type_group_rule, top_func_rule, top_method_rule, no_imports_rule, more_imports_rule, no_tops_rule, more_tops_rule, front_rule}
use Rattle.splice_laws.specs.Dots.{is_number, ends_in_number, last_in_number, UndottedRest, UndottedExpr, UndottedExprs, UndottedOption, UndottedElems, UndottedValue, UndottedKey, UndottedStmt, UndottedStmts, UndottedPart, UndottedBlock, UndottedLeft, UndottedArms, UndottedCases, UndottedSpecs, UndottedDecl, UndottedDecls, UndottedFile}

-- ---- terminals

-- its spelling begins with a dot
abbrev pub is_dot : Terminal → Bool
is_dot dot = true
is_dot ellipsis = true
is_dot _ = false

abbrev pub dot_first : Lexemes → Bool
dot_first [] = false
dot_first (lex _ x ∷ _) = is_dot x

-- the terminal is one of the grammar; an integer and a dot have no dot behind them
abbrev pub fits_before : Terminal → Lexemes → Bool
fits_before foreign r = false
fits_before (terminal.int_lit _) r = not (dot_first r)
fits_before dot r = not (dot_first r)
fits_before _ r = true

abbrev pub dots_fit : Lexemes → Bool
dots_fit [] = true
dots_fit (lex _ x ∷ r) = fits_before x r && dots_fit r

-- ---- what stands behind an expression

-- a dot stands only behind what is selected from, which is no integer, and dots behind what ends in none
record Behind {S : Type 0} (l : ℕ) (e : Expr S) (r : Lexemes) : Type 0 where
  selected : dot_first r ≡ true → ((l ≡ 7) × (is_number e ≡ false)) ⊎ (ends_in_number e ≡ false)

no_dot : {S : Type 0} {l : ℕ} {e : Expr S} {r : Lexemes} → dot_first r ≡ false → Behind l e r
no_dot q = record { selected = λ x. absurd cc }

lower : {S : Type 0} {l : ℕ} (m : ℕ) (e d : Expr S) {r : Lexemes} → l ≤ m → m ≤ 6 → (ends_in_number e ≡ false → ends_in_number d ≡ false) → Behind l e r → Behind m d r
lower {S} {l} m e d p q ends f = record { selected = λ x. by_either (f.selected x) }
  where
    too_low : l ≡ 7 → ⊥
    too_low e = omega (arith, p, q, e)

    by_either : ((l ≡ 7) × (is_number e ≡ false)) ⊎ (ends_in_number e ≡ false) → ((m ≡ 7) × (is_number d ≡ false)) ⊎ (ends_in_number d ≡ false)
    by_either (inl x) = absurd (too_low x.0)
    by_either (inr x) = inr (ends x)

level_low : (op : BinOp) → level_of op ≤ 5
level_low Mul = omega arith
level_low Div = omega arith
level_low Rem = omega arith
level_low Shl = omega arith
level_low Shr = omega arith
level_low And = omega arith
level_low AndNot = omega arith
level_low Add = omega arith
level_low Sub = omega arith
level_low Or = omega arith
level_low Xor = omega arith
level_low Eq = omega arith
level_low Ne = omega arith
level_low Lt = omega arith
level_low Le = omega arith
level_low Gt = omega arith
level_low Ge = omega arith
level_low LogAnd = omega arith
level_low LogOr = omega arith

level_step : (l m : ℕ) → l ≤ m → l ≤ m + 1
level_step l m p = omega (arith, p)

level_six : (m : ℕ) → m ≤ 5 → m + 1 ≤ 6
level_six m p = omega (arith, p)

number_fits : {S : Type 0} {l : ℕ} {s : S} {n : List ℕ} {r : Lexemes} → Behind l (int_lit s n) r → dots_fit r ≡ true → not (dot_first r) && dots_fit r ≡ true
number_fits {l = l} {r = r} f q = by_dot (dot_first r) refl
  where
    number : ((l ≡ 7) × (true ≡ false)) ⊎ (true ≡ false) → ⊥
    number (inl x) = let y = x.1 in cc
    number (inr x) = cc

    by_dot : (b : Bool) → dot_first r ≡ b → not b && dots_fit r ≡ true
    by_dot true e = absurd (number (f.selected e))
    by_dot false e = q

sign_fits : (op : UnOp) (s : Span) (ts : Lexemes) → dots_fit ts ≡ true → dots_fit (lex s (unary_sign op) ∷ ts) ≡ true
sign_fits Plus s ts q = q
sign_fits Minus s ts q = q
sign_fits Not s ts q = q
sign_fits Flip s ts q = q
sign_fits Address s ts q = q

-- ---- the productions

module _ {S : Type 0} (mark : Lexemes → Lexemes → S) where
  mutual
    type_dots : {t : TypeExpr S} {ts r : Lexemes} → SpellsType mark t ts r → dots_fit r ≡ true → dots_fit ts ≡ true
    type_dots named_rule q = q
    type_dots qualified_rule q = q
    type_dots (pointer_rule a) q = type_dots a q
    type_dots (slice_type_rule a) q = type_dots a q
    type_dots (map_type_rule a b) q = type_dots a (type_dots b q)
    type_dots (struct_type_rule a) q = fields_dots a q
    type_dots (type_parens_rule a) q = type_dots a q

    fields_dots : {fs : Fields S} {ts r : Lexemes} → SpellsFields mark fs ts r → dots_fit r ≡ true → dots_fit ts ≡ true
    fields_dots no_fields_rule q = q
    fields_dots (last_field_rule a) q = entries_dots a q
    fields_dots (more_fields_rule a b) q = entries_dots a (fields_dots b q)

    entries_dots : {t : TypeExpr S} {es : List (S × NameAt S)} {ts r : Lexemes} → SpellsEntries mark t es ts r → dots_fit r ≡ true → dots_fit ts ≡ true
    entries_dots (last_entry_rule a) q = type_dots a q
    entries_dots (more_entries_rule a) q = entries_dots a q

  rest_dots : {named : Bool} {p : Param S} {ts r : Lexemes} → SpellsRest mark named p ts r → dots_fit r ≡ true → dots_fit ts ≡ true
  rest_dots (rest_rule a) q = type_dots a q
  rest_dots (named_rest_rule a) q = type_dots a q

  named_dots : {v : Bool} {ps : List (Param S)} {ts r : Lexemes} → SpellsNamed mark v ps ts r → dots_fit r ≡ true → dots_fit ts ≡ true
  named_dots (last_named_rule a) q = entries_dots a q
  named_dots (comma_named_rule a) q = entries_dots a q
  named_dots (more_named_rule a b) q = entries_dots a (named_dots b q)
  named_dots (rest_named_rule a) q = rest_dots a q
  named_dots (comma_rest_named_rule a) q = rest_dots a q

  unnamed_dots : {v : Bool} {ps : List (Param S)} {ts r : Lexemes} → SpellsUnnamed mark v ps ts r → dots_fit r ≡ true → dots_fit ts ≡ true
  unnamed_dots (last_unnamed_rule a) q = type_dots a q
  unnamed_dots (comma_unnamed_rule a) q = type_dots a q
  unnamed_dots (more_unnamed_rule a b) q = type_dots a (unnamed_dots b q)
  unnamed_dots (rest_unnamed_rule a) q = rest_dots a q
  unnamed_dots (comma_rest_unnamed_rule a) q = rest_dots a q

  params_dots : {v : Bool} {ps : List (Param S)} {ts r : Lexemes} → SpellsParams mark v ps ts r → dots_fit r ≡ true → dots_fit ts ≡ true
  params_dots no_params_rule q = q
  params_dots (named_params_rule a) q = named_dots a q
  params_dots (unnamed_params_rule a) q = unnamed_dots a q

  results_dots : {ps : List (Param S)} {ts r : Lexemes} → SpellsResults mark ps ts r → dots_fit r ≡ true → dots_fit ts ≡ true
  results_dots no_results_rule q = q
  results_dots (params_results_rule a) q = params_dots a q
  results_dots (type_result_rule a) q = type_dots a q

  sig_dots : {v : Bool} {g : Sig S} {ts r : Lexemes} → SpellsSig mark v g ts r → dots_fit r ≡ true → dots_fit ts ≡ true
  sig_dots (sig_rule a b) q = params_dots a (results_dots b q)

  names_dots : {ns : List (NameAt S)} {ts r : Lexemes} → SpellsNames mark ns ts r → dots_fit r ≡ true → dots_fit ts ≡ true
  names_dots last_name_rule q = q
  names_dots (more_names_rule a) q = names_dots a q

  literal_dots : {h : Bool} {t : TypeExpr S} {ts r : Lexemes} → SpellsLiteralType mark h t ts r → dots_fit r ≡ true → dots_fit ts ≡ true
  literal_dots named_literal_rule q = q
  literal_dots qualified_literal_rule q = q
  literal_dots (type_literal_rule a b) q = type_dots b q

  block_first : {sb : S} {body : Stmts S} {ts r : Lexemes} → SpellsBlock mark sb body ts r → dot_first ts ≡ false
  block_first (braces_rule a) = refl

  last_behind : {h : Bool} {xs : Exprs S} {ts r : Lexemes} (e : Expr S) → SpellsExprs mark h xs ts r → last_in_number (expr_and e xs) ≡ false → last_in_number xs ≡ false
  last_behind e (last_expr_rule a) n = n
  last_behind e (more_exprs_rule a b) n = n

  mutual
    bare_dots : {l : ℕ} {h : Bool} {e : Expr S} {ts r : Lexemes} → SpellsBare mark l h e ts r → UndottedExpr e → Behind l e r → dots_fit r ≡ true → dots_fit ts ≡ true
    bare_dots ident_rule u f q = q
    bare_dots int_rule u f q = number_fits f q
    bare_dots rune_rule u f q = q
    bare_dots text_rule u f q = q
    bare_dots (composite_rule a b) u f q = literal_dots a (elems_dots b u refl q)
    bare_dots (func_rule a b) u f q = sig_dots a (block_dots b u q)
    bare_dots (type_rule a b c) u f q = type_dots b q
    bare_dots (selector_rule a) u f q = operand_dots a u.1 (record { selected = λ x. inl (refl, u.0) }) q
    bare_dots (index_rule a b) u f q = operand_dots a u.0 (no_dot refl) (operand_dots b u.1 (no_dot refl) q)
    bare_dots (slice_rule a b c) u f q = operand_dots a u.0 (no_dot refl) (option_dots b u.1 refl (option_dots c u.2 refl q))
    bare_dots (call_rule a b) u f q = expr_dots a u.0 (no_dot refl) (args_dots b u.1 u.2 q)
    bare_dots (unary_rule {s = s} {op = op} {e = e} {ts = ts} {r = r} a b) u f q = sign_fits op s ts (operand_dots b u (lower 6 (unary (mark (lex s (unary_sign op) ∷ ts) r) op e) e a (omega arith) (λ x. x) f) q)
    bare_dots (star_rule {s = s} {e = e} {ts = ts} {r = r} a b) u f q = operand_dots b u (lower 6 (star (mark (lex s (terminal.binary_op Mul) ∷ ts) r) e) e a (omega arith) (λ x. x) f) q
    bare_dots (binary_rule {l = l} {op = op} {a = x} {b = y} {ts = ts} {r = r} a b c) u f q = operand_dots b u.0 (no_dot refl) (operand_dots c u.1 (lower (level_of op + 1) (binary (mark ts r) op x y) y (level_step l (level_of op) a) (level_six (level_of op) (level_low op)) (λ x. x) f) q)

    expr_dots : {l : ℕ} {h : Bool} {e : Expr S} {ts r : Lexemes} → SpellsExpr mark l h e ts r → UndottedExpr e → Behind l e r → dots_fit r ≡ true → dots_fit ts ≡ true
    expr_dots (bare_rule a) u f q = bare_dots a u f q
    expr_dots (parens_rule a) u f q = expr_dots a u (no_dot refl) q

    operand_dots : {l : ℕ} {h : Bool} {e : Expr S} {ts r : Lexemes} → SpellsOperand mark l h e ts r → UndottedExpr e → Behind l e r → dots_fit r ≡ true → dots_fit ts ≡ true
    operand_dots (operand_rule a b) u f q = expr_dots b u f q

    option_dots : {h : Bool} {e : ExprOption S} {ts r : Lexemes} → SpellsOption mark h e ts r → UndottedOption e → dot_first r ≡ false → dots_fit r ≡ true → dots_fit ts ≡ true
    option_dots no_expr_rule u f q = q
    option_dots (some_expr_rule a) u f q = operand_dots a u (no_dot f) q

    exprs_dots : {h : Bool} {xs : Exprs S} {ts r : Lexemes} → SpellsExprs mark h xs ts r → UndottedExprs xs → dot_first r ≡ false → dots_fit r ≡ true → dots_fit ts ≡ true
    exprs_dots (last_expr_rule a) u f q = operand_dots a u.0 (no_dot f) q
    exprs_dots (more_exprs_rule a b) u f q = operand_dots a u.0 (no_dot refl) (exprs_dots b u.1 f q)

    last_dots : {h : Bool} {xs : Exprs S} {ts r : Lexemes} → SpellsExprs mark h xs ts r → UndottedExprs xs → last_in_number xs ≡ false → dots_fit r ≡ true → dots_fit ts ≡ true
    last_dots (last_expr_rule a) u n q = operand_dots a u.0 (record { selected = λ x. inr n }) q
    last_dots (more_exprs_rule {e = e} a b) u n q = operand_dots a u.0 (no_dot refl) (last_dots b u.1 (last_behind e b n) q)

    args_dots : {xs : Exprs S} {rest : Rest} {ts r : Lexemes} → SpellsArgs mark xs rest ts r → UndottedExprs xs → UndottedRest rest xs → dots_fit r ≡ true → dots_fit ts ≡ true
    args_dots no_args_rule u n q = q
    args_dots (args_rule a) u n q = exprs_dots a u refl q
    args_dots (comma_args_rule a) u n q = exprs_dots a u refl q
    args_dots (rest_args_rule a) u n q = last_dots a u n q
    args_dots (comma_rest_args_rule a) u n q = last_dots a u n q

    elems_dots : {es : Elems S} {ts r : Lexemes} → SpellsElems mark es ts r → UndottedElems es → dot_first r ≡ false → dots_fit r ≡ true → dots_fit ts ≡ true
    elems_dots no_elems_rule u f q = q
    elems_dots (last_elem_rule a) u f q = elem_dots a u.0 u.1 f q
    elems_dots (more_elems_rule a b) u f q = elem_dots a u.0 u.1 refl (elems_dots b u.2 f q)

    elem_dots : {k : ValueOption S} {v : Value S} {ts r : Lexemes} → SpellsElem mark k v ts r → UndottedKey k → UndottedValue v → dot_first r ≡ false → dots_fit r ≡ true → dots_fit ts ≡ true
    elem_dots (value_rule a) u v f q = value_dots a v f q
    elem_dots (keyed_rule a b) u v f q = value_dots a u refl (value_dots b v f q)

    value_dots : {v : Value S} {ts r : Lexemes} → SpellsValue mark v ts r → UndottedValue v → dot_first r ≡ false → dots_fit r ≡ true → dots_fit ts ≡ true
    value_dots (plain_rule a) u f q = operand_dots a u (no_dot f) q
    value_dots (braced_rule a) u f q = elems_dots a u refl q

    simple_dots : {h : Bool} {x : Stmt S} {ts r : Lexemes} → SpellsSimple mark h x ts r → UndottedStmt x → dot_first r ≡ false → dots_fit r ≡ true → dots_fit ts ≡ true
    simple_dots (eval_rule a) u f q = operand_dots a u (no_dot f) q
    simple_dots (increment_rule a) u f q = operand_dots a u (no_dot refl) q
    simple_dots (decrement_rule a) u f q = operand_dots a u (no_dot refl) q
    simple_dots (assign_rule a b) u f q = exprs_dots a u.0 refl (exprs_dots b u.1 f q)
    simple_dots (define_rule a b) u f q = names_dots a (exprs_dots b u f q)

    part_dots : {x : StmtOption S} {ts r : Lexemes} → SpellsPart mark x ts r → UndottedPart x → dot_first r ≡ false → dots_fit r ≡ true → dots_fit ts ≡ true
    part_dots no_part_rule u f q = q
    part_dots (part_rule a) u f q = simple_dots a u f q

    first_dots : {x : StmtOption S} {ts r : Lexemes} → SpellsFirst mark x ts r → UndottedPart x → dots_fit r ≡ true → dots_fit ts ≡ true
    first_dots no_first_rule u q = q
    first_dots (first_rule a) u q = part_dots a u refl q

    stmt_dots : {x : Stmt S} {ts r : Lexemes} → SpellsStmt mark x ts r → UndottedStmt x → dot_first r ≡ false → dots_fit r ≡ true → dots_fit ts ≡ true
    stmt_dots empty_rule u f q = q
    stmt_dots (simple_rule a) u f q = simple_dots a u f q
    stmt_dots (const_rule a) u f q = decl_dots a u f q
    stmt_dots (var_rule a) u f q = decl_dots a u f q
    stmt_dots return_rule u f q = q
    stmt_dots (return_values_rule a) u f q = exprs_dots a u f q
    stmt_dots break_rule u f q = q
    stmt_dots break_label_rule u f q = q
    stmt_dots continue_rule u f q = q
    stmt_dots continue_label_rule u f q = q
    stmt_dots (block_rule a) u f q = block_dots a u q
    stmt_dots (if_rule a) u f q = if_dots a u.0 u.1 q
    stmt_dots (while_rule a b) u f q = option_dots a u.1 (block_first b) (block_dots b u.3 q)
    stmt_dots (for_rule a b c d) u f q = part_dots a u.0 refl (option_dots b u.1 refl (part_dots c u.2 (block_first d) (block_dots d u.3 q)))
    stmt_dots (range_rule a b c) u f q = left_dots a u.0 (operand_dots b u.1 (no_dot (block_first c)) (block_dots c u.2 q))
    stmt_dots (switch_rule a b c) u f q = first_dots a u.0 (option_dots b u.1 refl (cases_dots c u.2 q))
    stmt_dots (defer_rule a) u f q = bare_dots a u (no_dot f) q
    stmt_dots (label_rule a) u f q = stmt_dots a u f q

    block_dots : {sb : S} {body : Stmts S} {ts r : Lexemes} → SpellsBlock mark sb body ts r → UndottedStmts body → dots_fit r ≡ true → dots_fit ts ≡ true
    block_dots (braces_rule a) u q = stmts_dots a u q

    stmts_dots : {xs : Stmts S} {ts r : Lexemes} → SpellsStmts mark xs ts r → UndottedStmts xs → dots_fit r ≡ true → dots_fit ts ≡ true
    stmts_dots no_stmts_rule u q = q
    stmts_dots (last_stmt_rule a b) u q = stmt_dots b u.0 refl q
    stmts_dots (more_stmts_rule a b) u q = stmt_dots a u.0 refl (stmts_dots b u.1 q)

    if_dots : {arms : Arms S} {last : BlockOption S} {ts r : Lexemes} → SpellsIf mark arms last ts r → UndottedArms arms → UndottedBlock last → dots_fit r ≡ true → dots_fit ts ≡ true
    if_dots (only_arm_rule a) u v q = arm_dots a u.0 u.1 u.2 q
    if_dots (else_rule a b) u v q = arm_dots a u.0 u.1 u.2 (block_dots b v q)
    if_dots (else_if_rule a b) u v q = arm_dots a u.0 u.1 u.2 (if_dots b u.3 v q)

    arm_dots : {i : StmtOption S} {t : Expr S} {sb : S} {body : Stmts S} {ts r : Lexemes} → SpellsArm mark i t sb body ts r → UndottedPart i → UndottedExpr t → UndottedStmts body → dots_fit r ≡ true → dots_fit ts ≡ true
    arm_dots (arm_rule a b c) u v w q = first_dots a u (operand_dots b v (no_dot (block_first c)) (block_dots c w q))

    left_dots : {x : RangeLeft S} {ts r : Lexemes} → SpellsLeft mark x ts r → UndottedLeft x → dots_fit r ≡ true → dots_fit ts ≡ true
    left_dots no_left_rule u q = q
    left_dots (assigns_rule a) u q = exprs_dots a u refl q
    left_dots (defines_rule a) u q = names_dots a q

    cases_dots : {cs : Cases S} {ts r : Lexemes} → SpellsCases mark cs ts r → UndottedCases cs → dots_fit r ≡ true → dots_fit ts ≡ true
    cases_dots no_cases_rule u q = q
    cases_dots (case_rule a b c) u q = exprs_dots a u.0 refl (stmts_dots b u.1 (cases_dots c u.2 q))
    cases_dots (default_rule a b) u q = stmts_dots a u.1 (cases_dots b u.2 q)

    decl_dots : {constant grouped : Bool} {ss : ValueSpecs S} {ts r : Lexemes} → SpellsDecl mark constant grouped ss ts r → UndottedSpecs ss → dot_first r ≡ false → dots_fit r ≡ true → dots_fit ts ≡ true
    decl_dots (single_rule a) u f q = spec_dots a u.0 f q
    decl_dots (group_rule a) u f q = specs_dots a u q

    specs_dots : {constant : Bool} {ss : ValueSpecs S} {ts r : Lexemes} → SpellsSpecs mark constant ss ts r → UndottedSpecs ss → dots_fit r ≡ true → dots_fit ts ≡ true
    specs_dots no_specs_rule u q = q
    specs_dots (last_spec_rule a) u q = spec_dots a u.0 refl q
    specs_dots (more_specs_rule a b) u q = spec_dots a u.0 refl (specs_dots b u.1 q)

    spec_dots : {constant : Bool} {ns : List (NameAt S)} {t : Option (TypeExpr S)} {xs : Exprs S} {ts r : Lexemes} → SpellsSpec mark constant ns t xs ts r → UndottedExprs xs → dot_first r ≡ false → dots_fit r ≡ true → dots_fit ts ≡ true
    spec_dots (repeated_rule a) u f q = names_dots a q
    spec_dots (typed_var_rule a b) u f q = names_dots a (type_dots b q)
    spec_dots (values_rule a b) u f q = names_dots a (exprs_dots b u f q)
    spec_dots (typed_values_rule a b c) u f q = names_dots a (type_dots b (exprs_dots c u f q))

  import_spec_dots : {x : ImportSpec S} {ts r : Lexemes} → SpellsImportSpec mark x ts r → dots_fit r ≡ true → dots_fit ts ≡ true
  import_spec_dots path_rule q = q
  import_spec_dots named_path_rule q = q

  import_specs_dots : {xs : List (ImportSpec S)} {ts r : Lexemes} → SpellsImportSpecs mark xs ts r → dots_fit r ≡ true → dots_fit ts ≡ true
  import_specs_dots no_import_specs_rule q = q
  import_specs_dots (last_import_spec_rule a) q = import_spec_dots a q
  import_specs_dots (more_import_specs_rule a b) q = import_spec_dots a (import_specs_dots b q)

  import_dots : {d : ImportDecl S} {ts r : Lexemes} → SpellsImport mark d ts r → dots_fit r ≡ true → dots_fit ts ≡ true
  import_dots (import_rule a) q = import_spec_dots a q
  import_dots (import_group_rule a) q = import_specs_dots a q

  type_spec_dots : {x : TypeSpec S} {ts r : Lexemes} → SpellsTypeSpec mark x ts r → dots_fit r ≡ true → dots_fit ts ≡ true
  type_spec_dots (type_spec_rule a) q = type_dots a q
  type_spec_dots (alias_spec_rule a) q = type_dots a q

  type_specs_dots : {xs : List (TypeSpec S)} {ts r : Lexemes} → SpellsTypeSpecs mark xs ts r → dots_fit r ≡ true → dots_fit ts ≡ true
  type_specs_dots no_type_specs_rule q = q
  type_specs_dots (last_type_spec_rule a) q = type_spec_dots a q
  type_specs_dots (more_type_specs_rule a b) q = type_spec_dots a (type_specs_dots b q)

  receiver_dots : {v : Receiver S} {ts r : Lexemes} → SpellsReceiver mark v ts r → dots_fit r ≡ true → dots_fit ts ≡ true
  receiver_dots receiver_rule q = q
  receiver_dots pointer_receiver_rule q = q
  receiver_dots named_receiver_rule q = q
  receiver_dots named_pointer_receiver_rule q = q

  top_dots : {d : Decl S} {ts r : Lexemes} → SpellsTop mark d ts r → UndottedDecl d → dot_first r ≡ false → dots_fit r ≡ true → dots_fit ts ≡ true
  top_dots (top_const_rule a) u f q = decl_dots a u f q
  top_dots (top_var_rule a) u f q = decl_dots a u f q
  top_dots (top_type_rule a) u f q = type_spec_dots a q
  top_dots (top_type_group_rule a) u f q = type_specs_dots a q
  top_dots (top_func_rule a b) u f q = sig_dots a (block_dots b u q)
  top_dots (top_method_rule a b c) u f q = receiver_dots a (sig_dots b (block_dots c u q))

  imports_dots : {ds : List (ImportDecl S)} {ts r : Lexemes} → SpellsImports mark ds ts r → dots_fit r ≡ true → dots_fit ts ≡ true
  imports_dots no_imports_rule q = q
  imports_dots (more_imports_rule a b) q = import_dots a (imports_dots b q)

  tops_dots : {ds : List (Decl S)} {ts r : Lexemes} → SpellsTops mark ds ts r → UndottedDecls ds → dots_fit r ≡ true → dots_fit ts ≡ true
  tops_dots no_tops_rule u q = q
  tops_dots (more_tops_rule a b) u q = top_dots a u.0 refl (tops_dots b u.1 q)

  -- the tokens of a file without such a selector
  pub file_dots : {f : File S} {ts r : Lexemes} → SpellsFront mark f ts r → UndottedFile f → dots_fit r ≡ true → dots_fit ts ≡ true
  file_dots (front_rule a b c) u q = imports_dots b (tops_dots c u q)
