-- The tokens behind a part stand at the end of those that it begins.
use Rattle.std.proofs.Common.{ℕ, Bool, List, Option}
use Rattle.go_tree.specs.Tree.{NameAt, TypeExpr, Fields, Param, Sig, Expr, Exprs, ExprOption, Elems, Value, ValueOption, Stmt, Stmts, StmtOption, BlockOption, RangeLeft, Arms, Cases, ValueSpecs}
use Rattle.go_tree.specs.File.{ImportSpec, ImportDecl, TypeSpec, Receiver, Decl, File}
use Rattle.go_tree.specs.declared.exprs.Rest.{Rest}
use Rattle.go_read.specs.SpellsTypes.{Lexemes, SpellsType, SpellsFields, SpellsEntries, SpellsRest, SpellsNamed, SpellsUnnamed, SpellsParams, SpellsResults, SpellsSig, SpellsNames, named_rule, qualified_rule, pointer_rule, slice_type_rule, map_type_rule, struct_type_rule, type_parens_rule, no_fields_rule, last_field_rule, more_fields_rule, last_entry_rule, more_entries_rule, rest_rule, named_rest_rule, last_named_rule, comma_named_rule, more_named_rule, rest_named_rule, comma_rest_named_rule, last_unnamed_rule, comma_unnamed_rule, more_unnamed_rule, rest_unnamed_rule, comma_rest_unnamed_rule, no_params_rule, named_params_rule, unnamed_params_rule, no_results_rule, params_results_rule, type_result_rule, sig_rule, last_name_rule, more_names_rule}
use Rattle.go_read.specs.Spells.{SpellsLiteralType, SpellsBare, SpellsExpr, SpellsOperand, SpellsOption, SpellsExprs, SpellsArgs, SpellsElems, SpellsElem, SpellsValue, SpellsSimple, SpellsPart, SpellsFirst, SpellsStmt, SpellsBlock, SpellsStmts, SpellsIf, SpellsArm, SpellsLeft, SpellsCases, SpellsDecl, SpellsSpecs, SpellsSpec, named_literal_rule, qualified_literal_rule, type_literal_rule, ident_rule, int_rule, rune_rule, text_rule, composite_rule, func_rule, type_rule, selector_rule, index_rule, slice_rule, call_rule, unary_rule, star_rule, binary_rule, bare_rule, parens_rule, operand_rule, no_expr_rule, some_expr_rule, last_expr_rule, more_exprs_rule, no_args_rule, args_rule, comma_args_rule, rest_args_rule, comma_rest_args_rule, no_elems_rule, last_elem_rule, more_elems_rule, value_rule, keyed_rule, plain_rule, braced_rule, eval_rule, increment_rule, decrement_rule, assign_rule, define_rule, no_part_rule, part_rule, no_first_rule, first_rule, empty_rule, simple_rule, const_rule, var_rule, return_rule, return_values_rule, break_rule, break_label_rule, continue_rule, continue_label_rule, block_rule, if_rule, while_rule, for_rule, range_rule, switch_rule, defer_rule, label_rule, braces_rule, no_stmts_rule, last_stmt_rule, more_stmts_rule, only_arm_rule, else_rule, else_if_rule, arm_rule, no_left_rule, assigns_rule, defines_rule, no_cases_rule, case_rule, default_rule, single_rule, group_rule, no_specs_rule, last_spec_rule, more_specs_rule, repeated_rule, typed_var_rule, values_rule, typed_values_rule}
use Rattle.go_read.specs.SpellsFiles.{SpellsImportSpec, SpellsImportSpecs, SpellsImport, SpellsTypeSpec, SpellsTypeSpecs, SpellsReceiver, SpellsTop, SpellsImports, SpellsTops, SpellsFront, path_rule, named_path_rule, no_import_specs_rule, last_import_spec_rule, more_import_specs_rule, import_rule, import_group_rule, type_spec_rule, alias_spec_rule, no_type_specs_rule, last_type_spec_rule, more_type_specs_rule, receiver_rule, pointer_receiver_rule, named_receiver_rule, named_pointer_receiver_rule, top_const_rule, top_var_rule, top_type_rule, top_type_group_rule, top_func_rule, top_method_rule, no_imports_rule, more_imports_rule, no_tops_rule, more_tops_rule, front_rule}
use Rattle.splice_laws.proofs.Grafts.{Within, drop}

module _ {S : Type 0} (mark : Lexemes → Lexemes → S) (whole : Lexemes) where
  mutual
    pub type_past : {a0 : TypeExpr S} {ts r : Lexemes} → SpellsType mark a0 ts r → Within ts whole → Within r whole
    type_past named_rule a = drop a
    type_past qualified_rule a = drop (drop (drop a))
    type_past (pointer_rule d1) a = type_past d1 (drop a)
    type_past (slice_type_rule d1) a = type_past d1 (drop (drop a))
    type_past (map_type_rule d1 d2) a = type_past d2 (drop (type_past d1 (drop (drop a))))
    type_past (struct_type_rule d1) a = drop (fields_past d1 (drop (drop a)))
    type_past (type_parens_rule d1) a = drop (type_past d1 (drop a))

    pub fields_past : {a0 : Fields S} {ts r : Lexemes} → SpellsFields mark a0 ts r → Within ts whole → Within r whole
    fields_past no_fields_rule a = a
    fields_past (last_field_rule d1) a = entries_past d1 a
    fields_past (more_fields_rule d1 d2) a = fields_past d2 (drop (entries_past d1 a))

    pub entries_past : {a0 : TypeExpr S} {a1 : List (S × NameAt S)} {ts r : Lexemes} → SpellsEntries mark a0 a1 ts r → Within ts whole → Within r whole
    entries_past (last_entry_rule d1) a = type_past d1 (drop a)
    entries_past (more_entries_rule d1) a = entries_past d1 (drop (drop a))

  pub rest_past : {a0 : Bool} {a1 : Param S} {ts r : Lexemes} → SpellsRest mark a0 a1 ts r → Within ts whole → Within r whole
  rest_past (rest_rule d1) a = type_past d1 (drop a)
  rest_past (named_rest_rule d1) a = type_past d1 (drop (drop a))

  pub named_past : {a0 : Bool} {a1 : List (Param S)} {ts r : Lexemes} → SpellsNamed mark a0 a1 ts r → Within ts whole → Within r whole
  named_past (last_named_rule d1) a = drop (entries_past d1 a)
  named_past (comma_named_rule d1) a = drop (drop (entries_past d1 a))
  named_past (more_named_rule d1 d2) a = named_past d2 (drop (entries_past d1 a))
  named_past (rest_named_rule d1) a = drop (rest_past d1 a)
  named_past (comma_rest_named_rule d1) a = drop (drop (rest_past d1 a))

  pub unnamed_past : {a0 : Bool} {a1 : List (Param S)} {ts r : Lexemes} → SpellsUnnamed mark a0 a1 ts r → Within ts whole → Within r whole
  unnamed_past (last_unnamed_rule d1) a = drop (type_past d1 a)
  unnamed_past (comma_unnamed_rule d1) a = drop (drop (type_past d1 a))
  unnamed_past (more_unnamed_rule d1 d2) a = unnamed_past d2 (drop (type_past d1 a))
  unnamed_past (rest_unnamed_rule d1) a = drop (rest_past d1 a)
  unnamed_past (comma_rest_unnamed_rule d1) a = drop (drop (rest_past d1 a))

  pub params_past : {a0 : Bool} {a1 : List (Param S)} {ts r : Lexemes} → SpellsParams mark a0 a1 ts r → Within ts whole → Within r whole
  params_past no_params_rule a = drop (drop a)
  params_past (named_params_rule d1) a = named_past d1 (drop a)
  params_past (unnamed_params_rule d1) a = unnamed_past d1 (drop a)

  pub results_past : {a0 : List (Param S)} {ts r : Lexemes} → SpellsResults mark a0 ts r → Within ts whole → Within r whole
  results_past no_results_rule a = a
  results_past (params_results_rule d1) a = params_past d1 a
  results_past (type_result_rule d1) a = type_past d1 a

  pub sig_past : {a0 : Bool} {a1 : Sig S} {ts r : Lexemes} → SpellsSig mark a0 a1 ts r → Within ts whole → Within r whole
  sig_past (sig_rule d1 d2) a = results_past d2 (params_past d1 a)

  pub names_past : {a0 : List (NameAt S)} {ts r : Lexemes} → SpellsNames mark a0 ts r → Within ts whole → Within r whole
  names_past last_name_rule a = drop a
  names_past (more_names_rule d1) a = names_past d1 (drop (drop a))

  pub literal_past : {a0 : Bool} {a1 : TypeExpr S} {ts r : Lexemes} → SpellsLiteralType mark a0 a1 ts r → Within ts whole → Within r whole
  literal_past named_literal_rule a = drop a
  literal_past qualified_literal_rule a = drop (drop (drop a))
  literal_past (type_literal_rule d1 d2) a = type_past d2 a

  mutual
    pub bare_past : {a0 : ℕ} {a1 : Bool} {a2 : Expr S} {ts r : Lexemes} → SpellsBare mark a0 a1 a2 ts r → Within ts whole → Within r whole
    bare_past ident_rule a = drop a
    bare_past int_rule a = drop a
    bare_past rune_rule a = drop a
    bare_past text_rule a = drop a
    bare_past (composite_rule d1 d2) a = drop (elems_past d2 (drop (literal_past d1 a)))
    bare_past (func_rule d1 d2) a = block_past d2 (sig_past d1 (drop a))
    bare_past (type_rule d1 d2 d3) a = type_past d2 a
    bare_past (selector_rule d1) a = drop (drop (operand_past d1 a))
    bare_past (index_rule d1 d2) a = drop (operand_past d2 (drop (operand_past d1 a)))
    bare_past (slice_rule d1 d2 d3) a = drop (option_past d3 (drop (option_past d2 (drop (operand_past d1 a)))))
    bare_past (call_rule d1 d2) a = args_past d2 (drop (expr_past d1 a))
    bare_past (unary_rule d1 d2) a = operand_past d2 (drop a)
    bare_past (star_rule d1 d2) a = operand_past d2 (drop a)
    bare_past (binary_rule d1 d2 d3) a = operand_past d3 (drop (operand_past d2 a))

    pub expr_past : {a0 : ℕ} {a1 : Bool} {a2 : Expr S} {ts r : Lexemes} → SpellsExpr mark a0 a1 a2 ts r → Within ts whole → Within r whole
    expr_past (bare_rule d1) a = bare_past d1 a
    expr_past (parens_rule d1) a = drop (expr_past d1 (drop a))

    pub operand_past : {a0 : ℕ} {a1 : Bool} {a2 : Expr S} {ts r : Lexemes} → SpellsOperand mark a0 a1 a2 ts r → Within ts whole → Within r whole
    operand_past (operand_rule d1 d2) a = expr_past d2 a

    pub option_past : {a0 : Bool} {a1 : ExprOption S} {ts r : Lexemes} → SpellsOption mark a0 a1 ts r → Within ts whole → Within r whole
    option_past no_expr_rule a = a
    option_past (some_expr_rule d1) a = operand_past d1 a

    pub exprs_past : {a0 : Bool} {a1 : Exprs S} {ts r : Lexemes} → SpellsExprs mark a0 a1 ts r → Within ts whole → Within r whole
    exprs_past (last_expr_rule d1) a = operand_past d1 a
    exprs_past (more_exprs_rule d1 d2) a = exprs_past d2 (drop (operand_past d1 a))

    pub args_past : {a0 : Exprs S} {a1 : Rest} {ts r : Lexemes} → SpellsArgs mark a0 a1 ts r → Within ts whole → Within r whole
    args_past no_args_rule a = drop a
    args_past (args_rule d1) a = drop (exprs_past d1 a)
    args_past (comma_args_rule d1) a = drop (drop (exprs_past d1 a))
    args_past (rest_args_rule d1) a = drop (drop (exprs_past d1 a))
    args_past (comma_rest_args_rule d1) a = drop (drop (drop (exprs_past d1 a)))

    pub elems_past : {a0 : Elems S} {ts r : Lexemes} → SpellsElems mark a0 ts r → Within ts whole → Within r whole
    elems_past no_elems_rule a = a
    elems_past (last_elem_rule d1) a = elem_past d1 a
    elems_past (more_elems_rule d1 d2) a = elems_past d2 (drop (elem_past d1 a))

    pub elem_past : {a0 : ValueOption S} {a1 : Value S} {ts r : Lexemes} → SpellsElem mark a0 a1 ts r → Within ts whole → Within r whole
    elem_past (value_rule d1) a = value_past d1 a
    elem_past (keyed_rule d1 d2) a = value_past d2 (drop (value_past d1 a))

    pub value_past : {a0 : Value S} {ts r : Lexemes} → SpellsValue mark a0 ts r → Within ts whole → Within r whole
    value_past (plain_rule d1) a = operand_past d1 a
    value_past (braced_rule d1) a = drop (elems_past d1 (drop a))

    pub simple_past : {a0 : Bool} {a1 : Stmt S} {ts r : Lexemes} → SpellsSimple mark a0 a1 ts r → Within ts whole → Within r whole
    simple_past (eval_rule d1) a = operand_past d1 a
    simple_past (increment_rule d1) a = drop (operand_past d1 a)
    simple_past (decrement_rule d1) a = drop (operand_past d1 a)
    simple_past (assign_rule d1 d2) a = exprs_past d2 (drop (exprs_past d1 a))
    simple_past (define_rule d1 d2) a = exprs_past d2 (drop (names_past d1 a))

    pub part_past : {a0 : StmtOption S} {ts r : Lexemes} → SpellsPart mark a0 ts r → Within ts whole → Within r whole
    part_past no_part_rule a = a
    part_past (part_rule d1) a = simple_past d1 a

    pub first_past : {a0 : StmtOption S} {ts r : Lexemes} → SpellsFirst mark a0 ts r → Within ts whole → Within r whole
    first_past no_first_rule a = a
    first_past (first_rule d1) a = drop (part_past d1 a)

    pub stmt_past : {a0 : Stmt S} {ts r : Lexemes} → SpellsStmt mark a0 ts r → Within ts whole → Within r whole
    stmt_past empty_rule a = a
    stmt_past (simple_rule d1) a = simple_past d1 a
    stmt_past (const_rule d1) a = decl_past d1 (drop a)
    stmt_past (var_rule d1) a = decl_past d1 (drop a)
    stmt_past return_rule a = drop a
    stmt_past (return_values_rule d1) a = exprs_past d1 (drop a)
    stmt_past break_rule a = drop a
    stmt_past break_label_rule a = drop (drop a)
    stmt_past continue_rule a = drop a
    stmt_past continue_label_rule a = drop (drop a)
    stmt_past (block_rule d1) a = block_past d1 a
    stmt_past (if_rule d1) a = if_past d1 a
    stmt_past (while_rule d1 d2) a = block_past d2 (option_past d1 (drop a))
    stmt_past (for_rule d1 d2 d3 d4) a = block_past d4 (part_past d3 (drop (option_past d2 (drop (part_past d1 (drop a))))))
    stmt_past (range_rule d1 d2 d3) a = block_past d3 (operand_past d2 (drop (left_past d1 (drop a))))
    stmt_past (switch_rule d1 d2 d3) a = drop (cases_past d3 (drop (option_past d2 (first_past d1 (drop a)))))
    stmt_past (defer_rule d1) a = bare_past d1 (drop a)
    stmt_past (label_rule d1) a = stmt_past d1 (drop (drop a))

    pub block_past : {a0 : S} {a1 : Stmts S} {ts r : Lexemes} → SpellsBlock mark a0 a1 ts r → Within ts whole → Within r whole
    block_past (braces_rule d1) a = drop (stmts_past d1 (drop a))

    pub stmts_past : {a0 : Stmts S} {ts r : Lexemes} → SpellsStmts mark a0 ts r → Within ts whole → Within r whole
    stmts_past no_stmts_rule a = a
    stmts_past (last_stmt_rule d1 d2) a = stmt_past d2 a
    stmts_past (more_stmts_rule d1 d2) a = stmts_past d2 (drop (stmt_past d1 a))

    pub if_past : {a0 : Arms S} {a1 : BlockOption S} {ts r : Lexemes} → SpellsIf mark a0 a1 ts r → Within ts whole → Within r whole
    if_past (only_arm_rule d1) a = arm_past d1 a
    if_past (else_rule d1 d2) a = block_past d2 (drop (arm_past d1 a))
    if_past (else_if_rule d1 d2) a = if_past d2 (drop (arm_past d1 a))

    pub arm_past : {a0 : StmtOption S} {a1 : Expr S} {a2 : S} {a3 : Stmts S} {ts r : Lexemes} → SpellsArm mark a0 a1 a2 a3 ts r → Within ts whole → Within r whole
    arm_past (arm_rule d1 d2 d3) a = block_past d3 (operand_past d2 (first_past d1 (drop a)))

    pub left_past : {a0 : RangeLeft S} {ts r : Lexemes} → SpellsLeft mark a0 ts r → Within ts whole → Within r whole
    left_past no_left_rule a = a
    left_past (assigns_rule d1) a = drop (exprs_past d1 a)
    left_past (defines_rule d1) a = drop (names_past d1 a)

    pub cases_past : {a0 : Cases S} {ts r : Lexemes} → SpellsCases mark a0 ts r → Within ts whole → Within r whole
    cases_past no_cases_rule a = a
    cases_past (case_rule d1 d2 d3) a = cases_past d3 (stmts_past d2 (drop (exprs_past d1 (drop a))))
    cases_past (default_rule d1 d2) a = cases_past d2 (stmts_past d1 (drop (drop a)))

    pub decl_past : {a0 : Bool} {a1 : Bool} {a2 : ValueSpecs S} {ts r : Lexemes} → SpellsDecl mark a0 a1 a2 ts r → Within ts whole → Within r whole
    decl_past (single_rule d1) a = spec_past d1 a
    decl_past (group_rule d1) a = drop (specs_past d1 (drop a))

    pub specs_past : {a0 : Bool} {a1 : ValueSpecs S} {ts r : Lexemes} → SpellsSpecs mark a0 a1 ts r → Within ts whole → Within r whole
    specs_past no_specs_rule a = a
    specs_past (last_spec_rule d1) a = spec_past d1 a
    specs_past (more_specs_rule d1 d2) a = specs_past d2 (drop (spec_past d1 a))

    pub spec_past : {a0 : Bool} {a1 : List (NameAt S)} {a2 : Option (TypeExpr S)} {a3 : Exprs S} {ts r : Lexemes} → SpellsSpec mark a0 a1 a2 a3 ts r → Within ts whole → Within r whole
    spec_past (repeated_rule d1) a = names_past d1 a
    spec_past (typed_var_rule d1 d2) a = type_past d2 (names_past d1 a)
    spec_past (values_rule d1 d2) a = exprs_past d2 (drop (names_past d1 a))
    spec_past (typed_values_rule d1 d2 d3) a = exprs_past d3 (drop (type_past d2 (names_past d1 a)))

  pub import_spec_past : {a0 : ImportSpec S} {ts r : Lexemes} → SpellsImportSpec mark a0 ts r → Within ts whole → Within r whole
  import_spec_past path_rule a = drop a
  import_spec_past named_path_rule a = drop (drop a)

  pub import_specs_past : {a0 : List (ImportSpec S)} {ts r : Lexemes} → SpellsImportSpecs mark a0 ts r → Within ts whole → Within r whole
  import_specs_past no_import_specs_rule a = a
  import_specs_past (last_import_spec_rule d1) a = import_spec_past d1 a
  import_specs_past (more_import_specs_rule d1 d2) a = import_specs_past d2 (drop (import_spec_past d1 a))

  pub import_past : {a0 : ImportDecl S} {ts r : Lexemes} → SpellsImport mark a0 ts r → Within ts whole → Within r whole
  import_past (import_rule d1) a = import_spec_past d1 (drop a)
  import_past (import_group_rule d1) a = drop (import_specs_past d1 (drop (drop a)))

  pub type_spec_past : {a0 : TypeSpec S} {ts r : Lexemes} → SpellsTypeSpec mark a0 ts r → Within ts whole → Within r whole
  type_spec_past (type_spec_rule d1) a = type_past d1 (drop a)
  type_spec_past (alias_spec_rule d1) a = type_past d1 (drop (drop a))

  pub type_specs_past : {a0 : List (TypeSpec S)} {ts r : Lexemes} → SpellsTypeSpecs mark a0 ts r → Within ts whole → Within r whole
  type_specs_past no_type_specs_rule a = a
  type_specs_past (last_type_spec_rule d1) a = type_spec_past d1 a
  type_specs_past (more_type_specs_rule d1 d2) a = type_specs_past d2 (drop (type_spec_past d1 a))

  pub receiver_past : {a0 : Receiver S} {ts r : Lexemes} → SpellsReceiver mark a0 ts r → Within ts whole → Within r whole
  receiver_past receiver_rule a = drop a
  receiver_past pointer_receiver_rule a = drop (drop a)
  receiver_past named_receiver_rule a = drop (drop a)
  receiver_past named_pointer_receiver_rule a = drop (drop (drop a))

  pub top_past : {a0 : Decl S} {ts r : Lexemes} → SpellsTop mark a0 ts r → Within ts whole → Within r whole
  top_past (top_const_rule d1) a = decl_past d1 (drop a)
  top_past (top_var_rule d1) a = decl_past d1 (drop a)
  top_past (top_type_rule d1) a = type_spec_past d1 (drop a)
  top_past (top_type_group_rule d1) a = drop (type_specs_past d1 (drop (drop a)))
  top_past (top_func_rule d1 d2) a = block_past d2 (sig_past d1 (drop (drop a)))
  top_past (top_method_rule d1 d2 d3) a = block_past d3 (sig_past d2 (drop (drop (receiver_past d1 (drop (drop a))))))

  pub imports_past : {a0 : List (ImportDecl S)} {ts r : Lexemes} → SpellsImports mark a0 ts r → Within ts whole → Within r whole
  imports_past no_imports_rule a = a
  imports_past (more_imports_rule d1 d2) a = imports_past d2 (drop (import_past d1 a))

  pub tops_past : {a0 : List (Decl S)} {ts r : Lexemes} → SpellsTops mark a0 ts r → Within ts whole → Within r whole
  tops_past no_tops_rule a = a
  tops_past (more_tops_rule d1 d2) a = tops_past d2 (drop (top_past d1 a))

  pub front_past : {a0 : File S} {ts r : Lexemes} → SpellsFront mark a0 ts r → Within ts whole → Within r whole
  front_past (front_rule d1 d2 d3) a = tops_past d3 (imports_past d2 (drop (drop (drop a))))
