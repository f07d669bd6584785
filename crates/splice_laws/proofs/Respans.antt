-- Spans of tokens change no tree without spans.
use Rattle.std.proofs.Common.{ℕ, Bool, List, Option, ◌∙◌}
use Rattle.go_tree.specs.declared.spans.Span.{Span}
use Rattle.go_tree.specs.Tree.{NameAt, TypeExpr, Fields, Param, Sig, Expr, Exprs, ExprOption, Elems, Value, ValueOption, Stmt, Stmts, StmtOption, BlockOption, RangeLeft, Arms, Cases, ValueSpecs}
use Rattle.go_tree.specs.File.{ImportSpec, ImportDecl, TypeSpec, Receiver, Decl, File}
use Rattle.go_tree.specs.declared.exprs.Rest.{Rest}
use Rattle.go_read.specs.SpellsTypes.{Lexemes, SpellsType, SpellsFields, SpellsEntries, SpellsRest, SpellsNamed, SpellsUnnamed, SpellsParams, SpellsResults, SpellsSig, SpellsNames, named_rule, qualified_rule, pointer_rule, slice_type_rule, map_type_rule, struct_type_rule, type_parens_rule, no_fields_rule, last_field_rule, more_fields_rule, last_entry_rule, more_entries_rule, rest_rule, named_rest_rule, last_named_rule, comma_named_rule, more_named_rule, rest_named_rule, comma_rest_named_rule, last_unnamed_rule, comma_unnamed_rule, more_unnamed_rule, rest_unnamed_rule, comma_rest_unnamed_rule, no_params_rule, named_params_rule, unnamed_params_rule, no_results_rule, params_results_rule, type_result_rule, sig_rule, last_name_rule, more_names_rule}
use Rattle.go_read.specs.Spells.{SpellsLiteralType, SpellsBare, SpellsExpr, SpellsOperand, SpellsOption, SpellsExprs, SpellsArgs, SpellsElems, SpellsElem, SpellsValue, SpellsSimple, SpellsPart, SpellsFirst, SpellsStmt, SpellsBlock, SpellsStmts, SpellsIf, SpellsArm, SpellsLeft, SpellsCases, SpellsDecl, SpellsSpecs, SpellsSpec, named_literal_rule, qualified_literal_rule, type_literal_rule, ident_rule, int_rule, rune_rule, text_rule, composite_rule, func_rule, type_rule, selector_rule, index_rule, slice_rule, call_rule, unary_rule, star_rule, binary_rule, bare_rule, parens_rule, operand_rule, no_expr_rule, some_expr_rule, last_expr_rule, more_exprs_rule, no_args_rule, args_rule, comma_args_rule, rest_args_rule, comma_rest_args_rule, no_elems_rule, last_elem_rule, more_elems_rule, value_rule, keyed_rule, plain_rule, braced_rule, eval_rule, increment_rule, decrement_rule, assign_rule, define_rule, no_part_rule, part_rule, no_first_rule, first_rule, empty_rule, simple_rule, const_rule, var_rule, return_rule, return_values_rule, break_rule, break_label_rule, continue_rule, continue_label_rule, block_rule, if_rule, while_rule, for_rule, range_rule, switch_rule, defer_rule, label_rule, braces_rule, no_stmts_rule, last_stmt_rule, more_stmts_rule, only_arm_rule, else_rule, else_if_rule, arm_rule, no_left_rule, assigns_rule, defines_rule, no_cases_rule, case_rule, default_rule, single_rule, group_rule, no_specs_rule, last_spec_rule, more_specs_rule, repeated_rule, typed_var_rule, values_rule, typed_values_rule}
use Rattle.go_read.specs.SpellsFiles.{SpellsImportSpec, SpellsImportSpecs, SpellsImport, SpellsTypeSpec, SpellsTypeSpecs, SpellsReceiver, SpellsTop, SpellsImports, SpellsTops, SpellsFront, path_rule, named_path_rule, no_import_specs_rule, last_import_spec_rule, more_import_specs_rule, import_rule, import_group_rule, type_spec_rule, alias_spec_rule, no_type_specs_rule, last_type_spec_rule, more_type_specs_rule, receiver_rule, pointer_receiver_rule, named_receiver_rule, named_pointer_receiver_rule, top_const_rule, top_var_rule, top_type_rule, top_type_group_rule, top_func_rule, top_method_rule, no_imports_rule, more_imports_rule, no_tops_rule, more_tops_rule, front_rule}
use Rattle.go_read.specs.Bareness.{nowhere}
use Rattle.splice_laws.specs.Replaced.{respan}
use Rattle.splice_laws.proofs.Grafts.{U, starts_alike, follows_alike, respan_like}

module _ (at : ℕ → Span) where
  mutual
    pub type_respan : {a0 : TypeExpr U} {ts r : Lexemes} → SpellsType nowhere a0 ts r → SpellsType nowhere a0 (respan at ts) (respan at r)
    type_respan named_rule = named_rule
    type_respan qualified_rule = qualified_rule
    type_respan (pointer_rule d1) = pointer_rule (type_respan d1)
    type_respan (slice_type_rule d1) = slice_type_rule (type_respan d1)
    type_respan (map_type_rule d1 d2) = map_type_rule (type_respan d1) (type_respan d2)
    type_respan (struct_type_rule d1) = struct_type_rule (fields_respan d1)
    type_respan (type_parens_rule d1) = type_parens_rule (type_respan d1)

    pub fields_respan : {a0 : Fields U} {ts r : Lexemes} → SpellsFields nowhere a0 ts r → SpellsFields nowhere a0 (respan at ts) (respan at r)
    fields_respan no_fields_rule = no_fields_rule
    fields_respan (last_field_rule d1) = last_field_rule (entries_respan d1)
    fields_respan (more_fields_rule d1 d2) = more_fields_rule (entries_respan d1) (fields_respan d2)

    pub entries_respan : {a0 : TypeExpr U} {a1 : List (U × NameAt U)} {ts r : Lexemes} → SpellsEntries nowhere a0 a1 ts r → SpellsEntries nowhere a0 a1 (respan at ts) (respan at r)
    entries_respan (last_entry_rule d1) = last_entry_rule (type_respan d1)
    entries_respan (more_entries_rule d1) = more_entries_rule (entries_respan d1)

  pub rest_respan : {a0 : Bool} {a1 : Param U} {ts r : Lexemes} → SpellsRest nowhere a0 a1 ts r → SpellsRest nowhere a0 a1 (respan at ts) (respan at r)
  rest_respan (rest_rule d1) = rest_rule (type_respan d1)
  rest_respan (named_rest_rule d1) = named_rest_rule (type_respan d1)

  pub named_respan : {a0 : Bool} {a1 : List (Param U)} {ts r : Lexemes} → SpellsNamed nowhere a0 a1 ts r → SpellsNamed nowhere a0 a1 (respan at ts) (respan at r)
  named_respan (last_named_rule d1) = last_named_rule (entries_respan d1)
  named_respan (comma_named_rule d1) = comma_named_rule (entries_respan d1)
  named_respan (more_named_rule d1 d2) = more_named_rule (entries_respan d1) (named_respan d2)
  named_respan (rest_named_rule d1) = rest_named_rule (rest_respan d1)
  named_respan (comma_rest_named_rule d1) = comma_rest_named_rule (rest_respan d1)

  pub unnamed_respan : {a0 : Bool} {a1 : List (Param U)} {ts r : Lexemes} → SpellsUnnamed nowhere a0 a1 ts r → SpellsUnnamed nowhere a0 a1 (respan at ts) (respan at r)
  unnamed_respan (last_unnamed_rule d1) = last_unnamed_rule (type_respan d1)
  unnamed_respan (comma_unnamed_rule d1) = comma_unnamed_rule (type_respan d1)
  unnamed_respan (more_unnamed_rule d1 d2) = more_unnamed_rule (type_respan d1) (unnamed_respan d2)
  unnamed_respan (rest_unnamed_rule d1) = rest_unnamed_rule (rest_respan d1)
  unnamed_respan (comma_rest_unnamed_rule d1) = comma_rest_unnamed_rule (rest_respan d1)

  pub params_respan : {a0 : Bool} {a1 : List (Param U)} {ts r : Lexemes} → SpellsParams nowhere a0 a1 ts r → SpellsParams nowhere a0 a1 (respan at ts) (respan at r)
  params_respan no_params_rule = no_params_rule
  params_respan (named_params_rule d1) = named_params_rule (named_respan d1)
  params_respan (unnamed_params_rule d1) = unnamed_params_rule (unnamed_respan d1)

  pub results_respan : {a0 : List (Param U)} {ts r : Lexemes} → SpellsResults nowhere a0 ts r → SpellsResults nowhere a0 (respan at ts) (respan at r)
  results_respan no_results_rule = no_results_rule
  results_respan (params_results_rule d1) = params_results_rule (params_respan d1)
  results_respan (type_result_rule d1) = type_result_rule (type_respan d1)

  pub sig_respan : {a0 : Bool} {a1 : Sig U} {ts r : Lexemes} → SpellsSig nowhere a0 a1 ts r → SpellsSig nowhere a0 a1 (respan at ts) (respan at r)
  sig_respan (sig_rule d1 d2) = sig_rule (params_respan d1) (results_respan d2)

  pub names_respan : {a0 : List (NameAt U)} {ts r : Lexemes} → SpellsNames nowhere a0 ts r → SpellsNames nowhere a0 (respan at ts) (respan at r)
  names_respan last_name_rule = last_name_rule
  names_respan (more_names_rule d1) = more_names_rule (names_respan d1)

  pub literal_respan : {a0 : Bool} {a1 : TypeExpr U} {ts r : Lexemes} → SpellsLiteralType nowhere a0 a1 ts r → SpellsLiteralType nowhere a0 a1 (respan at ts) (respan at r)
  literal_respan named_literal_rule = named_literal_rule
  literal_respan qualified_literal_rule = qualified_literal_rule
  literal_respan (type_literal_rule {ts = ts} d1 d2) = type_literal_rule (starts_alike ts (respan at ts) (respan_like at ts) ∙ d1) (type_respan d2)

  mutual
    pub bare_respan : {a0 : ℕ} {a1 : Bool} {a2 : Expr U} {ts r : Lexemes} → SpellsBare nowhere a0 a1 a2 ts r → SpellsBare nowhere a0 a1 a2 (respan at ts) (respan at r)
    bare_respan ident_rule = ident_rule
    bare_respan int_rule = int_rule
    bare_respan rune_rule = rune_rule
    bare_respan text_rule = text_rule
    bare_respan (composite_rule d1 d2) = composite_rule (literal_respan d1) (elems_respan d2)
    bare_respan (func_rule d1 d2) = func_rule (sig_respan d1) (block_respan d2)
    bare_respan (type_rule {ts = ts} {r = r} d1 d2 d3) = type_rule (starts_alike ts (respan at ts) (respan_like at ts) ∙ d1) (type_respan d2) (follows_alike r (respan at r) (respan_like at r) ∙ d3)
    bare_respan (selector_rule d1) = selector_rule (operand_respan d1)
    bare_respan (index_rule d1 d2) = index_rule (operand_respan d1) (operand_respan d2)
    bare_respan (slice_rule d1 d2 d3) = slice_rule (operand_respan d1) (option_respan d2) (option_respan d3)
    bare_respan (call_rule d1 d2) = call_rule (expr_respan d1) (args_respan d2)
    bare_respan (unary_rule d1 d2) = unary_rule d1 (operand_respan d2)
    bare_respan (star_rule d1 d2) = star_rule d1 (operand_respan d2)
    bare_respan (binary_rule d1 d2 d3) = binary_rule d1 (operand_respan d2) (operand_respan d3)

    pub expr_respan : {a0 : ℕ} {a1 : Bool} {a2 : Expr U} {ts r : Lexemes} → SpellsExpr nowhere a0 a1 a2 ts r → SpellsExpr nowhere a0 a1 a2 (respan at ts) (respan at r)
    expr_respan (bare_rule d1) = bare_rule (bare_respan d1)
    expr_respan (parens_rule d1) = parens_rule (expr_respan d1)

    pub operand_respan : {a0 : ℕ} {a1 : Bool} {a2 : Expr U} {ts r : Lexemes} → SpellsOperand nowhere a0 a1 a2 ts r → SpellsOperand nowhere a0 a1 a2 (respan at ts) (respan at r)
    operand_respan (operand_rule d1 d2) = operand_rule d1 (expr_respan d2)

    pub option_respan : {a0 : Bool} {a1 : ExprOption U} {ts r : Lexemes} → SpellsOption nowhere a0 a1 ts r → SpellsOption nowhere a0 a1 (respan at ts) (respan at r)
    option_respan no_expr_rule = no_expr_rule
    option_respan (some_expr_rule d1) = some_expr_rule (operand_respan d1)

    pub exprs_respan : {a0 : Bool} {a1 : Exprs U} {ts r : Lexemes} → SpellsExprs nowhere a0 a1 ts r → SpellsExprs nowhere a0 a1 (respan at ts) (respan at r)
    exprs_respan (last_expr_rule d1) = last_expr_rule (operand_respan d1)
    exprs_respan (more_exprs_rule d1 d2) = more_exprs_rule (operand_respan d1) (exprs_respan d2)

    pub args_respan : {a0 : Exprs U} {a1 : Rest} {ts r : Lexemes} → SpellsArgs nowhere a0 a1 ts r → SpellsArgs nowhere a0 a1 (respan at ts) (respan at r)
    args_respan no_args_rule = no_args_rule
    args_respan (args_rule d1) = args_rule (exprs_respan d1)
    args_respan (comma_args_rule d1) = comma_args_rule (exprs_respan d1)
    args_respan (rest_args_rule d1) = rest_args_rule (exprs_respan d1)
    args_respan (comma_rest_args_rule d1) = comma_rest_args_rule (exprs_respan d1)

    pub elems_respan : {a0 : Elems U} {ts r : Lexemes} → SpellsElems nowhere a0 ts r → SpellsElems nowhere a0 (respan at ts) (respan at r)
    elems_respan no_elems_rule = no_elems_rule
    elems_respan (last_elem_rule d1) = last_elem_rule (elem_respan d1)
    elems_respan (more_elems_rule d1 d2) = more_elems_rule (elem_respan d1) (elems_respan d2)

    pub elem_respan : {a0 : ValueOption U} {a1 : Value U} {ts r : Lexemes} → SpellsElem nowhere a0 a1 ts r → SpellsElem nowhere a0 a1 (respan at ts) (respan at r)
    elem_respan (value_rule d1) = value_rule (value_respan d1)
    elem_respan (keyed_rule d1 d2) = keyed_rule (value_respan d1) (value_respan d2)

    pub value_respan : {a0 : Value U} {ts r : Lexemes} → SpellsValue nowhere a0 ts r → SpellsValue nowhere a0 (respan at ts) (respan at r)
    value_respan (plain_rule d1) = plain_rule (operand_respan d1)
    value_respan (braced_rule d1) = braced_rule (elems_respan d1)

    pub simple_respan : {a0 : Bool} {a1 : Stmt U} {ts r : Lexemes} → SpellsSimple nowhere a0 a1 ts r → SpellsSimple nowhere a0 a1 (respan at ts) (respan at r)
    simple_respan (eval_rule d1) = eval_rule (operand_respan d1)
    simple_respan (increment_rule d1) = increment_rule (operand_respan d1)
    simple_respan (decrement_rule d1) = decrement_rule (operand_respan d1)
    simple_respan (assign_rule d1 d2) = assign_rule (exprs_respan d1) (exprs_respan d2)
    simple_respan (define_rule d1 d2) = define_rule (names_respan d1) (exprs_respan d2)

    pub part_respan : {a0 : StmtOption U} {ts r : Lexemes} → SpellsPart nowhere a0 ts r → SpellsPart nowhere a0 (respan at ts) (respan at r)
    part_respan no_part_rule = no_part_rule
    part_respan (part_rule d1) = part_rule (simple_respan d1)

    pub first_respan : {a0 : StmtOption U} {ts r : Lexemes} → SpellsFirst nowhere a0 ts r → SpellsFirst nowhere a0 (respan at ts) (respan at r)
    first_respan no_first_rule = no_first_rule
    first_respan (first_rule d1) = first_rule (part_respan d1)

    pub stmt_respan : {a0 : Stmt U} {ts r : Lexemes} → SpellsStmt nowhere a0 ts r → SpellsStmt nowhere a0 (respan at ts) (respan at r)
    stmt_respan empty_rule = empty_rule
    stmt_respan (simple_rule d1) = simple_rule (simple_respan d1)
    stmt_respan (const_rule d1) = const_rule (decl_respan d1)
    stmt_respan (var_rule d1) = var_rule (decl_respan d1)
    stmt_respan return_rule = return_rule
    stmt_respan (return_values_rule d1) = return_values_rule (exprs_respan d1)
    stmt_respan break_rule = break_rule
    stmt_respan break_label_rule = break_label_rule
    stmt_respan continue_rule = continue_rule
    stmt_respan continue_label_rule = continue_label_rule
    stmt_respan (block_rule d1) = block_rule (block_respan d1)
    stmt_respan (if_rule d1) = if_rule (if_respan d1)
    stmt_respan (while_rule d1 d2) = while_rule (option_respan d1) (block_respan d2)
    stmt_respan (for_rule d1 d2 d3 d4) = for_rule (part_respan d1) (option_respan d2) (part_respan d3) (block_respan d4)
    stmt_respan (range_rule d1 d2 d3) = range_rule (left_respan d1) (operand_respan d2) (block_respan d3)
    stmt_respan (switch_rule d1 d2 d3) = switch_rule (first_respan d1) (option_respan d2) (cases_respan d3)
    stmt_respan (defer_rule d1) = defer_rule (bare_respan d1)
    stmt_respan (label_rule d1) = label_rule (stmt_respan d1)

    pub block_respan : {a0 : U} {a1 : Stmts U} {ts r : Lexemes} → SpellsBlock nowhere a0 a1 ts r → SpellsBlock nowhere a0 a1 (respan at ts) (respan at r)
    block_respan (braces_rule d1) = braces_rule (stmts_respan d1)

    pub stmts_respan : {a0 : Stmts U} {ts r : Lexemes} → SpellsStmts nowhere a0 ts r → SpellsStmts nowhere a0 (respan at ts) (respan at r)
    stmts_respan no_stmts_rule = no_stmts_rule
    stmts_respan (last_stmt_rule d1 d2) = last_stmt_rule d1 (stmt_respan d2)
    stmts_respan (more_stmts_rule d1 d2) = more_stmts_rule (stmt_respan d1) (stmts_respan d2)

    pub if_respan : {a0 : Arms U} {a1 : BlockOption U} {ts r : Lexemes} → SpellsIf nowhere a0 a1 ts r → SpellsIf nowhere a0 a1 (respan at ts) (respan at r)
    if_respan (only_arm_rule d1) = only_arm_rule (arm_respan d1)
    if_respan (else_rule d1 d2) = else_rule (arm_respan d1) (block_respan d2)
    if_respan (else_if_rule d1 d2) = else_if_rule (arm_respan d1) (if_respan d2)

    pub arm_respan : {a0 : StmtOption U} {a1 : Expr U} {a2 : U} {a3 : Stmts U} {ts r : Lexemes} → SpellsArm nowhere a0 a1 a2 a3 ts r → SpellsArm nowhere a0 a1 a2 a3 (respan at ts) (respan at r)
    arm_respan (arm_rule d1 d2 d3) = arm_rule (first_respan d1) (operand_respan d2) (block_respan d3)

    pub left_respan : {a0 : RangeLeft U} {ts r : Lexemes} → SpellsLeft nowhere a0 ts r → SpellsLeft nowhere a0 (respan at ts) (respan at r)
    left_respan no_left_rule = no_left_rule
    left_respan (assigns_rule d1) = assigns_rule (exprs_respan d1)
    left_respan (defines_rule d1) = defines_rule (names_respan d1)

    pub cases_respan : {a0 : Cases U} {ts r : Lexemes} → SpellsCases nowhere a0 ts r → SpellsCases nowhere a0 (respan at ts) (respan at r)
    cases_respan no_cases_rule = no_cases_rule
    cases_respan (case_rule d1 d2 d3) = case_rule (exprs_respan d1) (stmts_respan d2) (cases_respan d3)
    cases_respan (default_rule d1 d2) = default_rule (stmts_respan d1) (cases_respan d2)

    pub decl_respan : {a0 : Bool} {a1 : Bool} {a2 : ValueSpecs U} {ts r : Lexemes} → SpellsDecl nowhere a0 a1 a2 ts r → SpellsDecl nowhere a0 a1 a2 (respan at ts) (respan at r)
    decl_respan (single_rule d1) = single_rule (spec_respan d1)
    decl_respan (group_rule d1) = group_rule (specs_respan d1)

    pub specs_respan : {a0 : Bool} {a1 : ValueSpecs U} {ts r : Lexemes} → SpellsSpecs nowhere a0 a1 ts r → SpellsSpecs nowhere a0 a1 (respan at ts) (respan at r)
    specs_respan no_specs_rule = no_specs_rule
    specs_respan (last_spec_rule d1) = last_spec_rule (spec_respan d1)
    specs_respan (more_specs_rule d1 d2) = more_specs_rule (spec_respan d1) (specs_respan d2)

    pub spec_respan : {a0 : Bool} {a1 : List (NameAt U)} {a2 : Option (TypeExpr U)} {a3 : Exprs U} {ts r : Lexemes} → SpellsSpec nowhere a0 a1 a2 a3 ts r → SpellsSpec nowhere a0 a1 a2 a3 (respan at ts) (respan at r)
    spec_respan (repeated_rule d1) = repeated_rule (names_respan d1)
    spec_respan (typed_var_rule d1 d2) = typed_var_rule (names_respan d1) (type_respan d2)
    spec_respan (values_rule d1 d2) = values_rule (names_respan d1) (exprs_respan d2)
    spec_respan (typed_values_rule d1 d2 d3) = typed_values_rule (names_respan d1) (type_respan d2) (exprs_respan d3)

  pub import_spec_respan : {a0 : ImportSpec U} {ts r : Lexemes} → SpellsImportSpec nowhere a0 ts r → SpellsImportSpec nowhere a0 (respan at ts) (respan at r)
  import_spec_respan path_rule = path_rule
  import_spec_respan named_path_rule = named_path_rule

  pub import_specs_respan : {a0 : List (ImportSpec U)} {ts r : Lexemes} → SpellsImportSpecs nowhere a0 ts r → SpellsImportSpecs nowhere a0 (respan at ts) (respan at r)
  import_specs_respan no_import_specs_rule = no_import_specs_rule
  import_specs_respan (last_import_spec_rule d1) = last_import_spec_rule (import_spec_respan d1)
  import_specs_respan (more_import_specs_rule d1 d2) = more_import_specs_rule (import_spec_respan d1) (import_specs_respan d2)

  pub import_respan : {a0 : ImportDecl U} {ts r : Lexemes} → SpellsImport nowhere a0 ts r → SpellsImport nowhere a0 (respan at ts) (respan at r)
  import_respan (import_rule d1) = import_rule (import_spec_respan d1)
  import_respan (import_group_rule d1) = import_group_rule (import_specs_respan d1)

  pub type_spec_respan : {a0 : TypeSpec U} {ts r : Lexemes} → SpellsTypeSpec nowhere a0 ts r → SpellsTypeSpec nowhere a0 (respan at ts) (respan at r)
  type_spec_respan (type_spec_rule d1) = type_spec_rule (type_respan d1)
  type_spec_respan (alias_spec_rule d1) = alias_spec_rule (type_respan d1)

  pub type_specs_respan : {a0 : List (TypeSpec U)} {ts r : Lexemes} → SpellsTypeSpecs nowhere a0 ts r → SpellsTypeSpecs nowhere a0 (respan at ts) (respan at r)
  type_specs_respan no_type_specs_rule = no_type_specs_rule
  type_specs_respan (last_type_spec_rule d1) = last_type_spec_rule (type_spec_respan d1)
  type_specs_respan (more_type_specs_rule d1 d2) = more_type_specs_rule (type_spec_respan d1) (type_specs_respan d2)

  pub receiver_respan : {a0 : Receiver U} {ts r : Lexemes} → SpellsReceiver nowhere a0 ts r → SpellsReceiver nowhere a0 (respan at ts) (respan at r)
  receiver_respan receiver_rule = receiver_rule
  receiver_respan pointer_receiver_rule = pointer_receiver_rule
  receiver_respan named_receiver_rule = named_receiver_rule
  receiver_respan named_pointer_receiver_rule = named_pointer_receiver_rule

  pub top_respan : {a0 : Decl U} {ts r : Lexemes} → SpellsTop nowhere a0 ts r → SpellsTop nowhere a0 (respan at ts) (respan at r)
  top_respan (top_const_rule d1) = top_const_rule (decl_respan d1)
  top_respan (top_var_rule d1) = top_var_rule (decl_respan d1)
  top_respan (top_type_rule d1) = top_type_rule (type_spec_respan d1)
  top_respan (top_type_group_rule d1) = top_type_group_rule (type_specs_respan d1)
  top_respan (top_func_rule d1 d2) = top_func_rule (sig_respan d1) (block_respan d2)
  top_respan (top_method_rule d1 d2 d3) = top_method_rule (receiver_respan d1) (sig_respan d2) (block_respan d3)

  pub imports_respan : {a0 : List (ImportDecl U)} {ts r : Lexemes} → SpellsImports nowhere a0 ts r → SpellsImports nowhere a0 (respan at ts) (respan at r)
  imports_respan no_imports_rule = no_imports_rule
  imports_respan (more_imports_rule d1 d2) = more_imports_rule (import_respan d1) (imports_respan d2)

  pub tops_respan : {a0 : List (Decl U)} {ts r : Lexemes} → SpellsTops nowhere a0 ts r → SpellsTops nowhere a0 (respan at ts) (respan at r)
  tops_respan no_tops_rule = no_tops_rule
  tops_respan (more_tops_rule d1 d2) = more_tops_rule (top_respan d1) (tops_respan d2)

  pub front_respan : {a0 : File U} {ts r : Lexemes} → SpellsFront nowhere a0 ts r → SpellsFront nowhere a0 (respan at ts) (respan at r)
  front_respan (front_rule d1 d2 d3) = front_rule d1 (imports_respan d2) (tops_respan d3)
