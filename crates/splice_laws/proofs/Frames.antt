-- What stands behind a part may change, where what follows begins alike.
use Rattle.std.proofs.Common.{ℕ, Bool, List, [], ◌∷◌, Option, None, refl, ◌∙◌}
use Rattle.go_tree.specs.declared.operators.BinOp.TheVariants.{Mul}
use Rattle.go_tree.specs.Tree.{NameAt, TypeExpr, Fields, Param, Sig, Expr, Exprs, ExprOption, Elems, Value, ValueOption, Stmt, Stmts, StmtOption, BlockOption, RangeLeft, Arms, Cases, ValueSpecs, no_fields, stmt_and, no_stmts, spec, no_specs}
use Rattle.go_tree.specs.File.{ImportSpec, ImportDecl, TypeSpec, Receiver, Decl, File}
use Rattle.go_tree.specs.declared.exprs.Rest.{Rest}
use Rattle.go_tree.specs.GoWords.Terminals as terminal
use Rattle.go_tree.specs.GoWords.Terminals.{lex, binary_op, increment, decrement, comma, semicolon, colon, dot, ellipsis, paren, end_paren, bracket, end_bracket, brace, end_brace, key_break, key_case, key_const, key_continue, key_default, key_defer, key_else, key_for, key_func, key_if, key_import, key_map, key_package, key_range, key_return, key_struct, key_switch, key_type, key_var, unary_sign}
use Rattle.go_read.specs.SpellsTypes.{Lexemes, fields_of, SpellsType, SpellsFields, SpellsEntries, SpellsRest, SpellsNamed, SpellsUnnamed, SpellsParams, SpellsResults, SpellsSig, SpellsNames, named_rule, qualified_rule, pointer_rule, slice_type_rule, map_type_rule, struct_type_rule, type_parens_rule, no_fields_rule, last_field_rule, more_fields_rule, last_entry_rule, more_entries_rule, rest_rule, named_rest_rule, last_named_rule, comma_named_rule, more_named_rule, rest_named_rule, comma_rest_named_rule, last_unnamed_rule, comma_unnamed_rule, more_unnamed_rule, rest_unnamed_rule, comma_rest_unnamed_rule, no_params_rule, named_params_rule, unnamed_params_rule, no_results_rule, params_results_rule, type_result_rule, sig_rule, last_name_rule, more_names_rule}
use Rattle.go_read.specs.Spells.{SpellsLiteralType, SpellsBare, SpellsExpr, SpellsOperand, SpellsOption, SpellsExprs, SpellsArgs, SpellsElems, SpellsElem, SpellsValue, SpellsSimple, SpellsPart, SpellsFirst, SpellsStmt, SpellsBlock, SpellsStmts, SpellsIf, SpellsArm, SpellsLeft, SpellsCases, SpellsDecl, SpellsSpecs, SpellsSpec, named_literal_rule, qualified_literal_rule, type_literal_rule, ident_rule, int_rule, rune_rule, text_rule, composite_rule, func_rule, type_rule, selector_rule, index_rule, slice_rule, call_rule, unary_rule, star_rule, binary_rule, bare_rule, parens_rule, operand_rule, no_expr_rule, some_expr_rule, last_expr_rule, more_exprs_rule, no_args_rule, args_rule, comma_args_rule, rest_args_rule, comma_rest_args_rule, no_elems_rule, last_elem_rule, more_elems_rule, value_rule, keyed_rule, plain_rule, braced_rule, eval_rule, increment_rule, decrement_rule, assign_rule, define_rule, no_part_rule, part_rule, no_first_rule, first_rule, empty_rule, simple_rule, const_rule, var_rule, return_rule, return_values_rule, break_rule, break_label_rule, continue_rule, continue_label_rule, block_rule, if_rule, while_rule, for_rule, range_rule, switch_rule, defer_rule, label_rule, braces_rule, no_stmts_rule, last_stmt_rule, more_stmts_rule, only_arm_rule, else_rule, else_if_rule, arm_rule, no_left_rule, assigns_rule, defines_rule, no_cases_rule, case_rule, default_rule, single_rule, group_rule, no_specs_rule, last_spec_rule, more_specs_rule, repeated_rule, typed_var_rule, values_rule, typed_values_rule}
use Rattle.go_read.specs.SpellsFiles.{SpellsImportSpec, SpellsImportSpecs, SpellsImport, SpellsTypeSpec, SpellsTypeSpecs, SpellsReceiver, SpellsTop, SpellsImports, SpellsTops, SpellsFront, path_rule, named_path_rule, no_import_specs_rule, last_import_spec_rule, more_import_specs_rule, import_rule, import_group_rule, type_spec_rule, alias_spec_rule, no_type_specs_rule, last_type_spec_rule, more_type_specs_rule, receiver_rule, pointer_receiver_rule, named_receiver_rule, named_pointer_receiver_rule, top_const_rule, top_var_rule, top_type_rule, top_type_group_rule, top_func_rule, top_method_rule, no_imports_rule, more_imports_rule, no_tops_rule, more_tops_rule, front_rule}
use Rattle.go_read.specs.Bareness.{nowhere}
use Rattle.splice_laws.proofs.Grafts.{U, base, step, joined, alike, at_token, Framed, Free, starts_alike, follows_alike}

mutual
  pub type_frame : {a0 : TypeExpr U} {ts r : Lexemes} → SpellsType nowhere a0 ts r → Free (SpellsType nowhere a0) ts r
  type_frame (named_rule {s = s} {n = n}) r' = ((lex s (terminal.ident n) ∷ r'), (step base), named_rule)
  type_frame (qualified_rule {s = s} {d = d} {s2 = s2} {p = p} {n = n}) r' = ((lex s (terminal.ident p) ∷ lex d dot ∷ lex s2 (terminal.ident n) ∷ r'), (step (step (step base))), qualified_rule)
  type_frame (pointer_rule {s = s} d1) r' = let y0 = type_frame d1 r' in ((lex s (binary_op Mul) ∷ y0.0), (step y0.1), pointer_rule y0.2)
  type_frame (slice_type_rule {s = s} {e = e} d1) r' = let y0 = type_frame d1 r' in ((lex s bracket ∷ lex e end_bracket ∷ y0.0), (step (step y0.1)), slice_type_rule y0.2)
  type_frame (map_type_rule {s = s} {b = b} {e = e} d1 d2) r' = let y1 = type_frame d2 r' in let y0 = type_frame d1 (lex e end_bracket ∷ y1.0) in ((lex s key_map ∷ lex b bracket ∷ y0.0), (step (step (joined y0.1 (step y1.1)))), map_type_rule y0.2 y1.2)
  type_frame (struct_type_rule {s = s} {b = b} {e = e} d1) r' = let y0 = fields_frame d1 (lex e end_brace ∷ r') refl in ((lex s key_struct ∷ lex b brace ∷ y0.0), (step (step (joined y0.1 (step base)))), struct_type_rule y0.2)
  type_frame (type_parens_rule {s = s} {e = e} d1) r' = let y0 = type_frame d1 (lex e end_paren ∷ r') in ((lex s paren ∷ y0.0), (step (joined y0.1 (step base))), type_parens_rule y0.2)

  pub fields_frame : {a0 : Fields U} {ts r : Lexemes} → SpellsFields nowhere a0 ts r → Framed (SpellsFields nowhere a0) ts r
  fields_frame no_fields_rule r' k = (r', base, no_fields_rule)
  fields_frame (last_field_rule {e = e} {t = t} {es = es} {ts = ts} {r = r} d1) r' k = at_token (SpellsFields nowhere (fields_of es t no_fields)) e end_brace ts r r' k (λ s2x q. let y0 = entries_frame d1 (lex s2x end_brace ∷ q) in (y0.0, y0.1, last_field_rule y0.2))
  fields_frame (more_fields_rule {c = c} d1 d2) r' k = let y1 = fields_frame d2 r' k in let y0 = entries_frame d1 (lex c semicolon ∷ y1.0) in (y0.0, (joined y0.1 (step y1.1)), more_fields_rule y0.2 y1.2)

  pub entries_frame : {a0 : TypeExpr U} {a1 : List (U × NameAt U)} {ts r : Lexemes} → SpellsEntries nowhere a0 a1 ts r → Free (SpellsEntries nowhere a0 a1) ts r
  entries_frame (last_entry_rule {s = s} {n = n} d1) r' = let y0 = type_frame d1 r' in ((lex s (terminal.ident n) ∷ y0.0), (step y0.1), last_entry_rule y0.2)
  entries_frame (more_entries_rule {s = s} {c = c} {n = n} d1) r' = let y0 = entries_frame d1 r' in ((lex s (terminal.ident n) ∷ lex c comma ∷ y0.0), (step (step y0.1)), more_entries_rule y0.2)

pub rest_frame : {a0 : Bool} {a1 : Param U} {ts r : Lexemes} → SpellsRest nowhere a0 a1 ts r → Free (SpellsRest nowhere a0 a1) ts r
rest_frame (rest_rule {d = d} d1) r' = let y0 = type_frame d1 r' in ((lex d ellipsis ∷ y0.0), (step y0.1), rest_rule y0.2)
rest_frame (named_rest_rule {s = s} {d = d} {n = n} d1) r' = let y0 = type_frame d1 r' in ((lex s (terminal.ident n) ∷ lex d ellipsis ∷ y0.0), (step (step y0.1)), named_rest_rule y0.2)

pub named_frame : {a0 : Bool} {a1 : List (Param U)} {ts r : Lexemes} → SpellsNamed nowhere a0 a1 ts r → Free (SpellsNamed nowhere a0 a1) ts r
named_frame (last_named_rule {e = e} d1) r' = let y0 = entries_frame d1 (lex e end_paren ∷ r') in (y0.0, (joined y0.1 (step base)), last_named_rule y0.2)
named_frame (comma_named_rule {c = c} {e = e} d1) r' = let y0 = entries_frame d1 (lex c comma ∷ lex e end_paren ∷ r') in (y0.0, (joined y0.1 (step (step base))), comma_named_rule y0.2)
named_frame (more_named_rule {c = c} d1 d2) r' = let y1 = named_frame d2 r' in let y0 = entries_frame d1 (lex c comma ∷ y1.0) in (y0.0, (joined y0.1 (step y1.1)), more_named_rule y0.2 y1.2)
named_frame (rest_named_rule {e = e} d1) r' = let y0 = rest_frame d1 (lex e end_paren ∷ r') in (y0.0, (joined y0.1 (step base)), rest_named_rule y0.2)
named_frame (comma_rest_named_rule {c = c} {e = e} d1) r' = let y0 = rest_frame d1 (lex c comma ∷ lex e end_paren ∷ r') in (y0.0, (joined y0.1 (step (step base))), comma_rest_named_rule y0.2)

pub unnamed_frame : {a0 : Bool} {a1 : List (Param U)} {ts r : Lexemes} → SpellsUnnamed nowhere a0 a1 ts r → Free (SpellsUnnamed nowhere a0 a1) ts r
unnamed_frame (last_unnamed_rule {e = e} d1) r' = let y0 = type_frame d1 (lex e end_paren ∷ r') in (y0.0, (joined y0.1 (step base)), last_unnamed_rule y0.2)
unnamed_frame (comma_unnamed_rule {c = c} {e = e} d1) r' = let y0 = type_frame d1 (lex c comma ∷ lex e end_paren ∷ r') in (y0.0, (joined y0.1 (step (step base))), comma_unnamed_rule y0.2)
unnamed_frame (more_unnamed_rule {c = c} d1 d2) r' = let y1 = unnamed_frame d2 r' in let y0 = type_frame d1 (lex c comma ∷ y1.0) in (y0.0, (joined y0.1 (step y1.1)), more_unnamed_rule y0.2 y1.2)
unnamed_frame (rest_unnamed_rule {e = e} d1) r' = let y0 = rest_frame d1 (lex e end_paren ∷ r') in (y0.0, (joined y0.1 (step base)), rest_unnamed_rule y0.2)
unnamed_frame (comma_rest_unnamed_rule {c = c} {e = e} d1) r' = let y0 = rest_frame d1 (lex c comma ∷ lex e end_paren ∷ r') in (y0.0, (joined y0.1 (step (step base))), comma_rest_unnamed_rule y0.2)

pub params_frame : {a0 : Bool} {a1 : List (Param U)} {ts r : Lexemes} → SpellsParams nowhere a0 a1 ts r → Free (SpellsParams nowhere a0 a1) ts r
params_frame (no_params_rule {s = s} {e = e}) r' = ((lex s paren ∷ lex e end_paren ∷ r'), (step (step base)), no_params_rule)
params_frame (named_params_rule {s = s} d1) r' = let y0 = named_frame d1 r' in ((lex s paren ∷ y0.0), (step y0.1), named_params_rule y0.2)
params_frame (unnamed_params_rule {s = s} d1) r' = let y0 = unnamed_frame d1 r' in ((lex s paren ∷ y0.0), (step y0.1), unnamed_params_rule y0.2)

pub results_frame : {a0 : List (Param U)} {ts r : Lexemes} → SpellsResults nowhere a0 ts r → Free (SpellsResults nowhere a0) ts r
results_frame no_results_rule r' = (r', base, no_results_rule)
results_frame (params_results_rule d1) r' = let y0 = params_frame d1 r' in (y0.0, y0.1, params_results_rule y0.2)
results_frame (type_result_rule d1) r' = let y0 = type_frame d1 r' in (y0.0, y0.1, type_result_rule y0.2)

pub sig_frame : {a0 : Bool} {a1 : Sig U} {ts r : Lexemes} → SpellsSig nowhere a0 a1 ts r → Free (SpellsSig nowhere a0 a1) ts r
sig_frame (sig_rule d1 d2) r' = let y1 = results_frame d2 r' in let y0 = params_frame d1 y1.0 in (y0.0, (joined y0.1 y1.1), sig_rule y0.2 y1.2)

pub names_frame : {a0 : List (NameAt U)} {ts r : Lexemes} → SpellsNames nowhere a0 ts r → Free (SpellsNames nowhere a0) ts r
names_frame (last_name_rule {s = s} {n = n}) r' = ((lex s (terminal.ident n) ∷ r'), (step base), last_name_rule)
names_frame (more_names_rule {s = s} {c = c} {n = n} d1) r' = let y0 = names_frame d1 r' in ((lex s (terminal.ident n) ∷ lex c comma ∷ y0.0), (step (step y0.1)), more_names_rule y0.2)

pub literal_frame : {a0 : Bool} {a1 : TypeExpr U} {ts r : Lexemes} → SpellsLiteralType nowhere a0 a1 ts r → Framed (SpellsLiteralType nowhere a0 a1) ts r
literal_frame (named_literal_rule {s = s} {n = n}) r' k = ((lex s (terminal.ident n) ∷ r'), (step base), named_literal_rule)
literal_frame (qualified_literal_rule {s = s} {d = d} {s2 = s2} {p = p} {n = n}) r' k = ((lex s (terminal.ident p) ∷ lex d dot ∷ lex s2 (terminal.ident n) ∷ r'), (step (step (step base))), qualified_literal_rule)
literal_frame (type_literal_rule d1 d2) r' k = let y0 = type_frame d2 r' in (y0.0, y0.1, type_literal_rule (starts_alike _ _ (alike y0.1 k) ∙ d1) y0.2)

mutual
  pub bare_frame : {a0 : ℕ} {a1 : Bool} {a2 : Expr U} {ts r : Lexemes} → SpellsBare nowhere a0 a1 a2 ts r → Framed (SpellsBare nowhere a0 a1 a2) ts r
  bare_frame (ident_rule {s = s} {n = n}) r' k = ((lex s (terminal.ident n) ∷ r'), (step base), ident_rule)
  bare_frame (int_rule {s = s} {n = n}) r' k = ((lex s (terminal.int_lit n) ∷ r'), (step base), int_rule)
  bare_frame (rune_rule {s = s} {n = n}) r' k = ((lex s (terminal.rune_lit n) ∷ r'), (step base), rune_rule)
  bare_frame (text_rule {s = s} {n = n}) r' k = ((lex s (terminal.str_lit n) ∷ r'), (step base), text_rule)
  bare_frame (composite_rule {b = b} {e = e} d1 d2) r' k = let y1 = elems_frame d2 (lex e end_brace ∷ r') refl in let y0 = literal_frame d1 (lex b brace ∷ y1.0) refl in (y0.0, (joined y0.1 (step (joined y1.1 (step base)))), composite_rule y0.2 y1.2)
  bare_frame (func_rule {s = s} d1 d2) r' k = let y1 = block_frame d2 r' in let y0 = sig_frame d1 y1.0 in ((lex s key_func ∷ y0.0), (step (joined y0.1 y1.1)), func_rule y0.2 y1.2)
  bare_frame (type_rule d1 d2 d3) r' k = let y0 = type_frame d2 r' in (y0.0, y0.1, type_rule (starts_alike _ _ (alike y0.1 k) ∙ d1) y0.2 (follows_alike _ _ k ∙ d3))
  bare_frame (selector_rule {d = d} {s = s} {n = n} d1) r' k = let y0 = operand_frame d1 (lex d dot ∷ lex s (terminal.ident n) ∷ r') refl in (y0.0, (joined y0.1 (step (step base))), selector_rule y0.2)
  bare_frame (index_rule {b = b} {c = c} d1 d2) r' k = let y1 = operand_frame d2 (lex c end_bracket ∷ r') refl in let y0 = operand_frame d1 (lex b bracket ∷ y1.0) refl in (y0.0, (joined y0.1 (step (joined y1.1 (step base)))), index_rule y0.2 y1.2)
  bare_frame (slice_rule {b = b} {c = c} {d = d} d1 d2 d3) r' k = let y2 = option_frame d3 (lex d end_bracket ∷ r') refl in let y1 = option_frame d2 (lex c colon ∷ y2.0) refl in let y0 = operand_frame d1 (lex b bracket ∷ y1.0) refl in (y0.0, (joined y0.1 (step (joined y1.1 (step (joined y2.1 (step base)))))), slice_rule y0.2 y1.2 y2.2)
  bare_frame (call_rule {b = b} d1 d2) r' k = let y1 = args_frame d2 r' in let y0 = expr_frame d1 (lex b paren ∷ y1.0) refl in (y0.0, (joined y0.1 (step y1.1)), call_rule y0.2 y1.2)
  bare_frame (unary_rule {s = s} {op = op} d1 d2) r' k = let y0 = operand_frame d2 r' k in ((lex s (unary_sign op) ∷ y0.0), (step y0.1), unary_rule d1 y0.2)
  bare_frame (star_rule {s = s} d1 d2) r' k = let y0 = operand_frame d2 r' k in ((lex s (binary_op Mul) ∷ y0.0), (step y0.1), star_rule d1 y0.2)
  bare_frame (binary_rule {s = s} {op = op} d1 d2 d3) r' k = let y1 = operand_frame d3 r' k in let y0 = operand_frame d2 (lex s (binary_op op) ∷ y1.0) refl in (y0.0, (joined y0.1 (step y1.1)), binary_rule d1 y0.2 y1.2)

  pub expr_frame : {a0 : ℕ} {a1 : Bool} {a2 : Expr U} {ts r : Lexemes} → SpellsExpr nowhere a0 a1 a2 ts r → Framed (SpellsExpr nowhere a0 a1 a2) ts r
  expr_frame (bare_rule d1) r' k = let y0 = bare_frame d1 r' k in (y0.0, y0.1, bare_rule y0.2)
  expr_frame (parens_rule {s = s} {c = c} d1) r' k = let y0 = expr_frame d1 (lex c end_paren ∷ r') refl in ((lex s paren ∷ y0.0), (step (joined y0.1 (step base))), parens_rule y0.2)

  pub operand_frame : {a0 : ℕ} {a1 : Bool} {a2 : Expr U} {ts r : Lexemes} → SpellsOperand nowhere a0 a1 a2 ts r → Framed (SpellsOperand nowhere a0 a1 a2) ts r
  operand_frame (operand_rule d1 d2) r' k = let y0 = expr_frame d2 r' k in (y0.0, y0.1, operand_rule d1 y0.2)

  pub option_frame : {a0 : Bool} {a1 : ExprOption U} {ts r : Lexemes} → SpellsOption nowhere a0 a1 ts r → Framed (SpellsOption nowhere a0 a1) ts r
  option_frame no_expr_rule r' k = (r', base, no_expr_rule)
  option_frame (some_expr_rule d1) r' k = let y0 = operand_frame d1 r' k in (y0.0, y0.1, some_expr_rule y0.2)

  pub exprs_frame : {a0 : Bool} {a1 : Exprs U} {ts r : Lexemes} → SpellsExprs nowhere a0 a1 ts r → Framed (SpellsExprs nowhere a0 a1) ts r
  exprs_frame (last_expr_rule d1) r' k = let y0 = operand_frame d1 r' k in (y0.0, y0.1, last_expr_rule y0.2)
  exprs_frame (more_exprs_rule {c = c} d1 d2) r' k = let y1 = exprs_frame d2 r' k in let y0 = operand_frame d1 (lex c comma ∷ y1.0) refl in (y0.0, (joined y0.1 (step y1.1)), more_exprs_rule y0.2 y1.2)

  pub args_frame : {a0 : Exprs U} {a1 : Rest} {ts r : Lexemes} → SpellsArgs nowhere a0 a1 ts r → Free (SpellsArgs nowhere a0 a1) ts r
  args_frame (no_args_rule {e = e}) r' = ((lex e end_paren ∷ r'), (step base), no_args_rule)
  args_frame (args_rule {e = e} d1) r' = let y0 = exprs_frame d1 (lex e end_paren ∷ r') refl in (y0.0, (joined y0.1 (step base)), args_rule y0.2)
  args_frame (comma_args_rule {c = c} {e = e} d1) r' = let y0 = exprs_frame d1 (lex c comma ∷ lex e end_paren ∷ r') refl in (y0.0, (joined y0.1 (step (step base))), comma_args_rule y0.2)
  args_frame (rest_args_rule {d = d} {e = e} d1) r' = let y0 = exprs_frame d1 (lex d ellipsis ∷ lex e end_paren ∷ r') refl in (y0.0, (joined y0.1 (step (step base))), rest_args_rule y0.2)
  args_frame (comma_rest_args_rule {d = d} {c = c} {e = e} d1) r' = let y0 = exprs_frame d1 (lex d ellipsis ∷ lex c comma ∷ lex e end_paren ∷ r') refl in (y0.0, (joined y0.1 (step (step (step base)))), comma_rest_args_rule y0.2)

  pub elems_frame : {a0 : Elems U} {ts r : Lexemes} → SpellsElems nowhere a0 ts r → Framed (SpellsElems nowhere a0) ts r
  elems_frame no_elems_rule r' k = (r', base, no_elems_rule)
  elems_frame (last_elem_rule d1) r' k = let y0 = elem_frame d1 r' k in (y0.0, y0.1, last_elem_rule y0.2)
  elems_frame (more_elems_rule {c = c} d1 d2) r' k = let y1 = elems_frame d2 r' k in let y0 = elem_frame d1 (lex c comma ∷ y1.0) refl in (y0.0, (joined y0.1 (step y1.1)), more_elems_rule y0.2 y1.2)

  pub elem_frame : {a0 : ValueOption U} {a1 : Value U} {ts r : Lexemes} → SpellsElem nowhere a0 a1 ts r → Framed (SpellsElem nowhere a0 a1) ts r
  elem_frame (value_rule d1) r' k = let y0 = value_frame d1 r' k in (y0.0, y0.1, value_rule y0.2)
  elem_frame (keyed_rule {c = c} d1 d2) r' k = let y1 = value_frame d2 r' k in let y0 = value_frame d1 (lex c colon ∷ y1.0) refl in (y0.0, (joined y0.1 (step y1.1)), keyed_rule y0.2 y1.2)

  pub value_frame : {a0 : Value U} {ts r : Lexemes} → SpellsValue nowhere a0 ts r → Framed (SpellsValue nowhere a0) ts r
  value_frame (plain_rule d1) r' k = let y0 = operand_frame d1 r' k in (y0.0, y0.1, plain_rule y0.2)
  value_frame (braced_rule {s = s} {c = c} d1) r' k = let y0 = elems_frame d1 (lex c end_brace ∷ r') refl in ((lex s brace ∷ y0.0), (step (joined y0.1 (step base))), braced_rule y0.2)

  pub simple_frame : {a0 : Bool} {a1 : Stmt U} {ts r : Lexemes} → SpellsSimple nowhere a0 a1 ts r → Framed (SpellsSimple nowhere a0 a1) ts r
  simple_frame (eval_rule d1) r' k = let y0 = operand_frame d1 r' k in (y0.0, y0.1, eval_rule y0.2)
  simple_frame (increment_rule {s = s} d1) r' k = let y0 = operand_frame d1 (lex s increment ∷ r') refl in (y0.0, (joined y0.1 (step base)), increment_rule y0.2)
  simple_frame (decrement_rule {s = s} d1) r' k = let y0 = operand_frame d1 (lex s decrement ∷ r') refl in (y0.0, (joined y0.1 (step base)), decrement_rule y0.2)
  simple_frame (assign_rule {s = s} {op = op} d1 d2) r' k = let y1 = exprs_frame d2 r' k in let y0 = exprs_frame d1 (lex s (terminal.assign op) ∷ y1.0) refl in (y0.0, (joined y0.1 (step y1.1)), assign_rule y0.2 y1.2)
  simple_frame (define_rule {s = s} d1 d2) r' k = let y1 = exprs_frame d2 r' k in let y0 = names_frame d1 (lex s terminal.define ∷ y1.0) in (y0.0, (joined y0.1 (step y1.1)), define_rule y0.2 y1.2)

  pub part_frame : {a0 : StmtOption U} {ts r : Lexemes} → SpellsPart nowhere a0 ts r → Framed (SpellsPart nowhere a0) ts r
  part_frame no_part_rule r' k = (r', base, no_part_rule)
  part_frame (part_rule d1) r' k = let y0 = simple_frame d1 r' k in (y0.0, y0.1, part_rule y0.2)

  pub first_frame : {a0 : StmtOption U} {ts r : Lexemes} → SpellsFirst nowhere a0 ts r → Free (SpellsFirst nowhere a0) ts r
  first_frame no_first_rule r' = (r', base, no_first_rule)
  first_frame (first_rule {s = s} d1) r' = let y0 = part_frame d1 (lex s semicolon ∷ r') refl in (y0.0, (joined y0.1 (step base)), first_rule y0.2)

  pub stmt_frame : {a0 : Stmt U} {ts r : Lexemes} → SpellsStmt nowhere a0 ts r → Framed (SpellsStmt nowhere a0) ts r
  stmt_frame empty_rule r' k = (r', base, empty_rule)
  stmt_frame (simple_rule d1) r' k = let y0 = simple_frame d1 r' k in (y0.0, y0.1, simple_rule y0.2)
  stmt_frame (const_rule {s = s} d1) r' k = let y0 = decl_frame d1 r' k in ((lex s key_const ∷ y0.0), (step y0.1), const_rule y0.2)
  stmt_frame (var_rule {s = s} d1) r' k = let y0 = decl_frame d1 r' k in ((lex s key_var ∷ y0.0), (step y0.1), var_rule y0.2)
  stmt_frame (return_rule {s = s}) r' k = ((lex s key_return ∷ r'), (step base), return_rule)
  stmt_frame (return_values_rule {s = s} d1) r' k = let y0 = exprs_frame d1 r' k in ((lex s key_return ∷ y0.0), (step y0.1), return_values_rule y0.2)
  stmt_frame (break_rule {s = s}) r' k = ((lex s key_break ∷ r'), (step base), break_rule)
  stmt_frame (break_label_rule {s = s} {c = c} {n = n}) r' k = ((lex s key_break ∷ lex c (terminal.ident n) ∷ r'), (step (step base)), break_label_rule)
  stmt_frame (continue_rule {s = s}) r' k = ((lex s key_continue ∷ r'), (step base), continue_rule)
  stmt_frame (continue_label_rule {s = s} {c = c} {n = n}) r' k = ((lex s key_continue ∷ lex c (terminal.ident n) ∷ r'), (step (step base)), continue_label_rule)
  stmt_frame (block_rule d1) r' k = let y0 = block_frame d1 r' in (y0.0, y0.1, block_rule y0.2)
  stmt_frame (if_rule d1) r' k = let y0 = if_frame d1 r' k in (y0.0, y0.1, if_rule y0.2)
  stmt_frame (while_rule {s = s} d1 d2) r' k = let y1 = block_frame d2 r' in let y0 = option_frame d1 y1.0 (alike y1.1 k) in ((lex s key_for ∷ y0.0), (step (joined y0.1 y1.1)), while_rule y0.2 y1.2)
  stmt_frame (for_rule {s = s} {c = c} {d = d} d1 d2 d3 d4) r' k = let y3 = block_frame d4 r' in let y2 = part_frame d3 y3.0 (alike y3.1 k) in let y1 = option_frame d2 (lex d semicolon ∷ y2.0) refl in let y0 = part_frame d1 (lex c semicolon ∷ y1.0) refl in ((lex s key_for ∷ y0.0), (step (joined y0.1 (step (joined y1.1 (step (joined y2.1 y3.1)))))), for_rule y0.2 y1.2 y2.2 y3.2)
  stmt_frame (range_rule {s = s} {c = c} d1 d2 d3) r' k = let y2 = block_frame d3 r' in let y1 = operand_frame d2 y2.0 (alike y2.1 k) in let y0 = left_frame d1 (lex c key_range ∷ y1.0) refl in ((lex s key_for ∷ y0.0), (step (joined y0.1 (step (joined y1.1 y2.1)))), range_rule y0.2 y1.2 y2.2)
  stmt_frame (switch_rule {s = s} {b = b} {e = e} d1 d2 d3) r' k = let y2 = cases_frame d3 (lex e end_brace ∷ r') refl in let y1 = option_frame d2 (lex b brace ∷ y2.0) refl in let y0 = first_frame d1 y1.0 in ((lex s key_switch ∷ y0.0), (step (joined y0.1 (joined y1.1 (step (joined y2.1 (step base)))))), switch_rule y0.2 y1.2 y2.2)
  stmt_frame (defer_rule {s = s} d1) r' k = let y0 = bare_frame d1 r' k in ((lex s key_defer ∷ y0.0), (step y0.1), defer_rule y0.2)
  stmt_frame (label_rule {s = s} {c = c} {n = n} d1) r' k = let y0 = stmt_frame d1 r' k in ((lex s (terminal.ident n) ∷ lex c colon ∷ y0.0), (step (step y0.1)), label_rule y0.2)

  pub block_frame : {a0 : U} {a1 : Stmts U} {ts r : Lexemes} → SpellsBlock nowhere a0 a1 ts r → Free (SpellsBlock nowhere a0 a1) ts r
  block_frame (braces_rule {s = s} {e = e} d1) r' = let y0 = stmts_frame d1 (lex e end_brace ∷ r') refl in ((lex s brace ∷ y0.0), (step (joined y0.1 (step base))), braces_rule y0.2)

  pub stmts_frame : {a0 : Stmts U} {ts r : Lexemes} → SpellsStmts nowhere a0 ts r → Framed (SpellsStmts nowhere a0) ts r
  stmts_frame no_stmts_rule r' k = (r', base, no_stmts_rule)
  stmts_frame (last_stmt_rule {e = e} {x = x} {ts = ts} {r = r} d1 d2) r' k = at_token (SpellsStmts nowhere (stmt_and x no_stmts)) e end_brace ts r r' k (λ s2x q. let y0 = stmt_frame d2 (lex s2x end_brace ∷ q) refl in (y0.0, y0.1, last_stmt_rule d1 y0.2))
  stmts_frame (more_stmts_rule {c = c} d1 d2) r' k = let y1 = stmts_frame d2 r' k in let y0 = stmt_frame d1 (lex c semicolon ∷ y1.0) refl in (y0.0, (joined y0.1 (step y1.1)), more_stmts_rule y0.2 y1.2)

  pub if_frame : {a0 : Arms U} {a1 : BlockOption U} {ts r : Lexemes} → SpellsIf nowhere a0 a1 ts r → Framed (SpellsIf nowhere a0 a1) ts r
  if_frame (only_arm_rule d1) r' k = let y0 = arm_frame d1 r' k in (y0.0, y0.1, only_arm_rule y0.2)
  if_frame (else_rule {c = c} d1 d2) r' k = let y1 = block_frame d2 r' in let y0 = arm_frame d1 (lex c key_else ∷ y1.0) refl in (y0.0, (joined y0.1 (step y1.1)), else_rule y0.2 y1.2)
  if_frame (else_if_rule {c = c} d1 d2) r' k = let y1 = if_frame d2 r' k in let y0 = arm_frame d1 (lex c key_else ∷ y1.0) refl in (y0.0, (joined y0.1 (step y1.1)), else_if_rule y0.2 y1.2)

  pub arm_frame : {a0 : StmtOption U} {a1 : Expr U} {a2 : U} {a3 : Stmts U} {ts r : Lexemes} → SpellsArm nowhere a0 a1 a2 a3 ts r → Framed (SpellsArm nowhere a0 a1 a2 a3) ts r
  arm_frame (arm_rule {s = s} d1 d2 d3) r' k = let y2 = block_frame d3 r' in let y1 = operand_frame d2 y2.0 (alike y2.1 k) in let y0 = first_frame d1 y1.0 in ((lex s key_if ∷ y0.0), (step (joined y0.1 (joined y1.1 y2.1))), arm_rule y0.2 y1.2 y2.2)

  pub left_frame : {a0 : RangeLeft U} {ts r : Lexemes} → SpellsLeft nowhere a0 ts r → Framed (SpellsLeft nowhere a0) ts r
  left_frame no_left_rule r' k = (r', base, no_left_rule)
  left_frame (assigns_rule {s = s} d1) r' k = let y0 = exprs_frame d1 (lex s (terminal.assign None) ∷ r') refl in (y0.0, (joined y0.1 (step base)), assigns_rule y0.2)
  left_frame (defines_rule {s = s} d1) r' k = let y0 = names_frame d1 (lex s terminal.define ∷ r') in (y0.0, (joined y0.1 (step base)), defines_rule y0.2)

  pub cases_frame : {a0 : Cases U} {ts r : Lexemes} → SpellsCases nowhere a0 ts r → Framed (SpellsCases nowhere a0) ts r
  cases_frame no_cases_rule r' k = (r', base, no_cases_rule)
  cases_frame (case_rule {s = s} {c = c} d1 d2 d3) r' k = let y2 = cases_frame d3 r' k in let y1 = stmts_frame d2 y2.0 (alike y2.1 k) in let y0 = exprs_frame d1 (lex c colon ∷ y1.0) refl in ((lex s key_case ∷ y0.0), (step (joined y0.1 (step (joined y1.1 y2.1)))), case_rule y0.2 y1.2 y2.2)
  cases_frame (default_rule {s = s} {c = c} d1 d2) r' k = let y1 = cases_frame d2 r' k in let y0 = stmts_frame d1 y1.0 (alike y1.1 k) in ((lex s key_default ∷ lex c colon ∷ y0.0), (step (step (joined y0.1 y1.1))), default_rule y0.2 y1.2)

  pub decl_frame : {a0 : Bool} {a1 : Bool} {a2 : ValueSpecs U} {ts r : Lexemes} → SpellsDecl nowhere a0 a1 a2 ts r → Framed (SpellsDecl nowhere a0 a1 a2) ts r
  decl_frame (single_rule d1) r' k = let y0 = spec_frame d1 r' k in (y0.0, y0.1, single_rule y0.2)
  decl_frame (group_rule {s = s} {e = e} d1) r' k = let y0 = specs_frame d1 (lex e end_paren ∷ r') refl in ((lex s paren ∷ y0.0), (step (joined y0.1 (step base))), group_rule y0.2)

  pub specs_frame : {a0 : Bool} {a1 : ValueSpecs U} {ts r : Lexemes} → SpellsSpecs nowhere a0 a1 ts r → Framed (SpellsSpecs nowhere a0 a1) ts r
  specs_frame no_specs_rule r' k = (r', base, no_specs_rule)
  specs_frame (last_spec_rule {e = e} {constant = constant} {ns = ns} {t = t} {xs = xs} {ts = ts} {r = r} d1) r' k = at_token (SpellsSpecs nowhere constant (spec tt ns t xs no_specs)) e end_paren ts r r' k (λ s2x q. let y0 = spec_frame d1 (lex s2x end_paren ∷ q) refl in (y0.0, y0.1, last_spec_rule y0.2))
  specs_frame (more_specs_rule {c = c} d1 d2) r' k = let y1 = specs_frame d2 r' k in let y0 = spec_frame d1 (lex c semicolon ∷ y1.0) refl in (y0.0, (joined y0.1 (step y1.1)), more_specs_rule y0.2 y1.2)

  pub spec_frame : {a0 : Bool} {a1 : List (NameAt U)} {a2 : Option (TypeExpr U)} {a3 : Exprs U} {ts r : Lexemes} → SpellsSpec nowhere a0 a1 a2 a3 ts r → Framed (SpellsSpec nowhere a0 a1 a2 a3) ts r
  spec_frame (repeated_rule d1) r' k = let y0 = names_frame d1 r' in (y0.0, y0.1, repeated_rule y0.2)
  spec_frame (typed_var_rule d1 d2) r' k = let y1 = type_frame d2 r' in let y0 = names_frame d1 y1.0 in (y0.0, (joined y0.1 y1.1), typed_var_rule y0.2 y1.2)
  spec_frame (values_rule {s = s} d1 d2) r' k = let y1 = exprs_frame d2 r' k in let y0 = names_frame d1 (lex s (terminal.assign None) ∷ y1.0) in (y0.0, (joined y0.1 (step y1.1)), values_rule y0.2 y1.2)
  spec_frame (typed_values_rule {s = s} d1 d2 d3) r' k = let y2 = exprs_frame d3 r' k in let y1 = type_frame d2 (lex s (terminal.assign None) ∷ y2.0) in let y0 = names_frame d1 y1.0 in (y0.0, (joined y0.1 (joined y1.1 (step y2.1))), typed_values_rule y0.2 y1.2 y2.2)

pub import_spec_frame : {a0 : ImportSpec U} {ts r : Lexemes} → SpellsImportSpec nowhere a0 ts r → Free (SpellsImportSpec nowhere a0) ts r
import_spec_frame (path_rule {s = s} {p = p}) r' = ((lex s (terminal.str_lit p) ∷ r'), (step base), path_rule)
import_spec_frame (named_path_rule {s = s} {c = c} {n = n} {p = p}) r' = ((lex s (terminal.ident n) ∷ lex c (terminal.str_lit p) ∷ r'), (step (step base)), named_path_rule)

pub import_specs_frame : {a0 : List (ImportSpec U)} {ts r : Lexemes} → SpellsImportSpecs nowhere a0 ts r → Framed (SpellsImportSpecs nowhere a0) ts r
import_specs_frame no_import_specs_rule r' k = (r', base, no_import_specs_rule)
import_specs_frame (last_import_spec_rule {e = e} {x = x} {ts = ts} {r = r} d1) r' k = at_token (SpellsImportSpecs nowhere (x ∷ [])) e end_paren ts r r' k (λ s2x q. let y0 = import_spec_frame d1 (lex s2x end_paren ∷ q) in (y0.0, y0.1, last_import_spec_rule y0.2))
import_specs_frame (more_import_specs_rule {c = c} d1 d2) r' k = let y1 = import_specs_frame d2 r' k in let y0 = import_spec_frame d1 (lex c semicolon ∷ y1.0) in (y0.0, (joined y0.1 (step y1.1)), more_import_specs_rule y0.2 y1.2)

pub import_frame : {a0 : ImportDecl U} {ts r : Lexemes} → SpellsImport nowhere a0 ts r → Free (SpellsImport nowhere a0) ts r
import_frame (import_rule {s = s} d1) r' = let y0 = import_spec_frame d1 r' in ((lex s key_import ∷ y0.0), (step y0.1), import_rule y0.2)
import_frame (import_group_rule {s = s} {b = b} {e = e} d1) r' = let y0 = import_specs_frame d1 (lex e end_paren ∷ r') refl in ((lex s key_import ∷ lex b paren ∷ y0.0), (step (step (joined y0.1 (step base)))), import_group_rule y0.2)

pub type_spec_frame : {a0 : TypeSpec U} {ts r : Lexemes} → SpellsTypeSpec nowhere a0 ts r → Free (SpellsTypeSpec nowhere a0) ts r
type_spec_frame (type_spec_rule {s = s} {n = n} d1) r' = let y0 = type_frame d1 r' in ((lex s (terminal.ident n) ∷ y0.0), (step y0.1), type_spec_rule y0.2)
type_spec_frame (alias_spec_rule {s = s} {c = c} {n = n} d1) r' = let y0 = type_frame d1 r' in ((lex s (terminal.ident n) ∷ lex c (terminal.assign None) ∷ y0.0), (step (step y0.1)), alias_spec_rule y0.2)

pub type_specs_frame : {a0 : List (TypeSpec U)} {ts r : Lexemes} → SpellsTypeSpecs nowhere a0 ts r → Framed (SpellsTypeSpecs nowhere a0) ts r
type_specs_frame no_type_specs_rule r' k = (r', base, no_type_specs_rule)
type_specs_frame (last_type_spec_rule {e = e} {x = x} {ts = ts} {r = r} d1) r' k = at_token (SpellsTypeSpecs nowhere (x ∷ [])) e end_paren ts r r' k (λ s2x q. let y0 = type_spec_frame d1 (lex s2x end_paren ∷ q) in (y0.0, y0.1, last_type_spec_rule y0.2))
type_specs_frame (more_type_specs_rule {c = c} d1 d2) r' k = let y1 = type_specs_frame d2 r' k in let y0 = type_spec_frame d1 (lex c semicolon ∷ y1.0) in (y0.0, (joined y0.1 (step y1.1)), more_type_specs_rule y0.2 y1.2)

pub receiver_frame : {a0 : Receiver U} {ts r : Lexemes} → SpellsReceiver nowhere a0 ts r → Free (SpellsReceiver nowhere a0) ts r
receiver_frame (receiver_rule {s = s} {n = n}) r' = ((lex s (terminal.ident n) ∷ r'), (step base), receiver_rule)
receiver_frame (pointer_receiver_rule {p = p} {s = s} {n = n}) r' = ((lex p (binary_op Mul) ∷ lex s (terminal.ident n) ∷ r'), (step (step base)), pointer_receiver_rule)
receiver_frame (named_receiver_rule {c = c} {s = s} {x = x} {n = n}) r' = ((lex c (terminal.ident x) ∷ lex s (terminal.ident n) ∷ r'), (step (step base)), named_receiver_rule)
receiver_frame (named_pointer_receiver_rule {c = c} {p = p} {s = s} {x = x} {n = n}) r' = ((lex c (terminal.ident x) ∷ lex p (binary_op Mul) ∷ lex s (terminal.ident n) ∷ r'), (step (step (step base))), named_pointer_receiver_rule)

pub top_frame : {a0 : Decl U} {ts r : Lexemes} → SpellsTop nowhere a0 ts r → Framed (SpellsTop nowhere a0) ts r
top_frame (top_const_rule {s = s} d1) r' k = let y0 = decl_frame d1 r' k in ((lex s key_const ∷ y0.0), (step y0.1), top_const_rule y0.2)
top_frame (top_var_rule {s = s} d1) r' k = let y0 = decl_frame d1 r' k in ((lex s key_var ∷ y0.0), (step y0.1), top_var_rule y0.2)
top_frame (top_type_rule {s = s} d1) r' k = let y0 = type_spec_frame d1 r' in ((lex s key_type ∷ y0.0), (step y0.1), top_type_rule y0.2)
top_frame (top_type_group_rule {s = s} {b = b} {e = e} d1) r' k = let y0 = type_specs_frame d1 (lex e end_paren ∷ r') refl in ((lex s key_type ∷ lex b paren ∷ y0.0), (step (step (joined y0.1 (step base)))), top_type_group_rule y0.2)
top_frame (top_func_rule {s = s} {c = c} {n = n} d1 d2) r' k = let y1 = block_frame d2 r' in let y0 = sig_frame d1 y1.0 in ((lex s key_func ∷ lex c (terminal.ident n) ∷ y0.0), (step (step (joined y0.1 y1.1))), top_func_rule y0.2 y1.2)
top_frame (top_method_rule {s = s} {b = b} {e = e} {c = c} {n = n} d1 d2 d3) r' k = let y2 = block_frame d3 r' in let y1 = sig_frame d2 y2.0 in let y0 = receiver_frame d1 (lex e end_paren ∷ lex c (terminal.ident n) ∷ y1.0) in ((lex s key_func ∷ lex b paren ∷ y0.0), (step (step (joined y0.1 (step (step (joined y1.1 y2.1)))))), top_method_rule y0.2 y1.2 y2.2)

pub imports_frame : {a0 : List (ImportDecl U)} {ts r : Lexemes} → SpellsImports nowhere a0 ts r → Free (SpellsImports nowhere a0) ts r
imports_frame no_imports_rule r' = (r', base, no_imports_rule)
imports_frame (more_imports_rule {c = c} d1 d2) r' = let y1 = imports_frame d2 r' in let y0 = import_frame d1 (lex c semicolon ∷ y1.0) in (y0.0, (joined y0.1 (step y1.1)), more_imports_rule y0.2 y1.2)

pub tops_frame : {a0 : List (Decl U)} {ts r : Lexemes} → SpellsTops nowhere a0 ts r → Framed (SpellsTops nowhere a0) ts r
tops_frame no_tops_rule r' k = (r', base, no_tops_rule)
tops_frame (more_tops_rule {c = c} d1 d2) r' k = let y1 = tops_frame d2 r' k in let y0 = top_frame d1 (lex c semicolon ∷ y1.0) refl in (y0.0, (joined y0.1 (step y1.1)), more_tops_rule y0.2 y1.2)

pub front_frame : {a0 : File U} {ts r : Lexemes} → SpellsFront nowhere a0 ts r → Framed (SpellsFront nowhere a0) ts r
front_frame (front_rule {s = s} {c = c} {d = d} {n = n} d1 d2 d3) r' k = let y1 = tops_frame d3 r' k in let y0 = imports_frame d2 y1.0 in ((lex s key_package ∷ lex c (terminal.ident n) ∷ lex d semicolon ∷ y0.0), (step (step (step (joined y0.1 y1.1)))), front_rule d1 y0.2 y1.2)
