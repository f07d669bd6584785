-- Each token that spells a part of a file has a terminal of the grammar.
use Rattle.std.proofs.Common.{◌≡◌, refl, ℕ, Bool, false, List, ◌∷◌, Option}
use Rattle.go_tree.specs.Tree.{NameAt, TypeExpr, Fields, Param, Sig, Expr, Exprs, ExprOption, Elems, Value, ValueOption, Stmt, Stmts, StmtOption, BlockOption, RangeLeft, Arms, Cases, ValueSpecs}
use Rattle.go_tree.specs.File.{ImportSpec, ImportDecl, TypeSpec, Receiver, Decl, File}
use Rattle.go_tree.specs.declared.exprs.Rest.{Rest}
use Rattle.go_read.specs.SpellsTypes.{Lexemes, SpellsType, SpellsFields, SpellsEntries, SpellsRest, SpellsNamed, SpellsUnnamed, SpellsParams, SpellsResults, SpellsSig, SpellsNames, named_rule, qualified_rule, pointer_rule, slice_type_rule, map_type_rule, struct_type_rule, type_parens_rule, no_fields_rule, last_field_rule, more_fields_rule, last_entry_rule, more_entries_rule, rest_rule, named_rest_rule, last_named_rule, comma_named_rule, more_named_rule, rest_named_rule, comma_rest_named_rule, last_unnamed_rule, comma_unnamed_rule, more_unnamed_rule, rest_unnamed_rule, comma_rest_unnamed_rule, no_params_rule, named_params_rule, unnamed_params_rule, no_results_rule, params_results_rule, type_result_rule, sig_rule, last_name_rule, more_names_rule}
use Rattle.go_read.specs.Spells.{SpellsLiteralType, SpellsBare, SpellsExpr, SpellsOperand, SpellsOption, SpellsExprs, SpellsArgs, SpellsElems, SpellsElem, SpellsValue, SpellsSimple, SpellsPart, SpellsFirst, SpellsStmt, SpellsBlock, SpellsStmts, SpellsIf, SpellsArm, SpellsLeft, SpellsCases, SpellsDecl, SpellsSpecs, SpellsSpec, named_literal_rule, qualified_literal_rule, type_literal_rule, ident_rule, int_rule, rune_rule, text_rule, composite_rule, func_rule, type_rule, selector_rule, index_rule, slice_rule, call_rule, unary_rule, star_rule, binary_rule, bare_rule, parens_rule, operand_rule, no_expr_rule, some_expr_rule, last_expr_rule, more_exprs_rule, no_args_rule, args_rule, comma_args_rule, rest_args_rule, comma_rest_args_rule, no_elems_rule, last_elem_rule, more_elems_rule, value_rule, keyed_rule, plain_rule, braced_rule, eval_rule, increment_rule, decrement_rule, assign_rule, define_rule, no_part_rule, part_rule, no_first_rule, first_rule, empty_rule, simple_rule, const_rule, var_rule, return_rule, return_values_rule, break_rule, break_label_rule, continue_rule, continue_label_rule, block_rule, if_rule, while_rule, for_rule, range_rule, switch_rule, defer_rule, label_rule, braces_rule, no_stmts_rule, last_stmt_rule, more_stmts_rule, only_arm_rule, else_rule, else_if_rule, arm_rule, no_left_rule, assigns_rule, defines_rule, no_cases_rule, case_rule, default_rule, single_rule, group_rule, no_specs_rule, last_spec_rule, more_specs_rule, repeated_rule, typed_var_rule, values_rule, typed_values_rule}
use Rattle.go_read.specs.SpellsFiles.{SpellsImportSpec, SpellsImportSpecs, SpellsImport, SpellsTypeSpec, SpellsTypeSpecs, SpellsReceiver, SpellsTop, SpellsImports, SpellsTops, SpellsFront, path_rule, named_path_rule, no_import_specs_rule, last_import_spec_rule, more_import_specs_rule, import_rule, import_group_rule, type_spec_rule, alias_spec_rule, no_type_specs_rule, last_type_spec_rule, more_type_specs_rule, receiver_rule, pointer_receiver_rule, named_receiver_rule, named_pointer_receiver_rule, top_const_rule, top_var_rule, top_type_rule, top_type_group_rule, top_func_rule, top_method_rule, no_imports_rule, more_imports_rule, no_tops_rule, more_tops_rule, front_rule}
use Rattle.go_tree.specs.declared.spans.Span.{Span}
use Rattle.go_tree.specs.declared.operators.UnOp.{UnOp}
use Rattle.go_tree.specs.declared.operators.UnOp.TheVariants.{Plus, Minus, Not, Flip, Address}
use Rattle.go_tree.specs.GoWords.Terminals.{Terminal, lex, is_foreign, unary_sign}

-- the second tokens end in the first, and each of them before these has a terminal that a production holds
pub data Passed (us : Lexemes) : Lexemes → Type 0 where
  here : Passed us us
  later : {s : Span} {t : Terminal} {ts : Lexemes} → is_foreign t ≡ false → Passed us ts → Passed us (lex s t ∷ ts)

pub drop : {s : Span} {t : Terminal} {us ts : Lexemes} → Passed (lex s t ∷ us) ts → is_foreign t ≡ false → Passed us ts
drop here e = later e here
drop (later f x) e = later f (drop x e)

pub sign_known : (op : UnOp) → is_foreign (unary_sign op) ≡ false
sign_known Plus = refl
sign_known Minus = refl
sign_known Not = refl
sign_known Flip = refl
sign_known Address = refl

module _ {S : Type 0} (mark : Lexemes → Lexemes → S) (whole : Lexemes) where
  mutual
    pub type_passed : {a0 : TypeExpr S} {ts r : Lexemes} → SpellsType mark a0 ts r → Passed ts whole → Passed r whole
    type_passed named_rule a = drop a refl
    type_passed qualified_rule a = drop (drop (drop a refl) refl) refl
    type_passed (pointer_rule d1) a = type_passed d1 (drop a refl)
    type_passed (slice_type_rule d1) a = type_passed d1 (drop (drop a refl) refl)
    type_passed (map_type_rule d1 d2) a = type_passed d2 (drop (type_passed d1 (drop (drop a refl) refl)) refl)
    type_passed (struct_type_rule d1) a = drop (fields_passed d1 (drop (drop a refl) refl)) refl
    type_passed (type_parens_rule d1) a = drop (type_passed d1 (drop a refl)) refl

    pub fields_passed : {a0 : Fields S} {ts r : Lexemes} → SpellsFields mark a0 ts r → Passed ts whole → Passed r whole
    fields_passed no_fields_rule a = a
    fields_passed (last_field_rule d1) a = entries_passed d1 a
    fields_passed (more_fields_rule d1 d2) a = fields_passed d2 (drop (entries_passed d1 a) refl)

    pub entries_passed : {a0 : TypeExpr S} {a1 : List (S × NameAt S)} {ts r : Lexemes} → SpellsEntries mark a0 a1 ts r → Passed ts whole → Passed r whole
    entries_passed (last_entry_rule d1) a = type_passed d1 (drop a refl)
    entries_passed (more_entries_rule d1) a = entries_passed d1 (drop (drop a refl) refl)

  pub rest_passed : {a0 : Bool} {a1 : Param S} {ts r : Lexemes} → SpellsRest mark a0 a1 ts r → Passed ts whole → Passed r whole
  rest_passed (rest_rule d1) a = type_passed d1 (drop a refl)
  rest_passed (named_rest_rule d1) a = type_passed d1 (drop (drop a refl) refl)

  pub named_passed : {a0 : Bool} {a1 : List (Param S)} {ts r : Lexemes} → SpellsNamed mark a0 a1 ts r → Passed ts whole → Passed r whole
  named_passed (last_named_rule d1) a = drop (entries_passed d1 a) refl
  named_passed (comma_named_rule d1) a = drop (drop (entries_passed d1 a) refl) refl
  named_passed (more_named_rule d1 d2) a = named_passed d2 (drop (entries_passed d1 a) refl)
  named_passed (rest_named_rule d1) a = drop (rest_passed d1 a) refl
  named_passed (comma_rest_named_rule d1) a = drop (drop (rest_passed d1 a) refl) refl

  pub unnamed_passed : {a0 : Bool} {a1 : List (Param S)} {ts r : Lexemes} → SpellsUnnamed mark a0 a1 ts r → Passed ts whole → Passed r whole
  unnamed_passed (last_unnamed_rule d1) a = drop (type_passed d1 a) refl
  unnamed_passed (comma_unnamed_rule d1) a = drop (drop (type_passed d1 a) refl) refl
  unnamed_passed (more_unnamed_rule d1 d2) a = unnamed_passed d2 (drop (type_passed d1 a) refl)
  unnamed_passed (rest_unnamed_rule d1) a = drop (rest_passed d1 a) refl
  unnamed_passed (comma_rest_unnamed_rule d1) a = drop (drop (rest_passed d1 a) refl) refl

  pub params_passed : {a0 : Bool} {a1 : List (Param S)} {ts r : Lexemes} → SpellsParams mark a0 a1 ts r → Passed ts whole → Passed r whole
  params_passed no_params_rule a = drop (drop a refl) refl
  params_passed (named_params_rule d1) a = named_passed d1 (drop a refl)
  params_passed (unnamed_params_rule d1) a = unnamed_passed d1 (drop a refl)

  pub results_passed : {a0 : List (Param S)} {ts r : Lexemes} → SpellsResults mark a0 ts r → Passed ts whole → Passed r whole
  results_passed no_results_rule a = a
  results_passed (params_results_rule d1) a = params_passed d1 a
  results_passed (type_result_rule d1) a = type_passed d1 a

  pub sig_passed : {a0 : Bool} {a1 : Sig S} {ts r : Lexemes} → SpellsSig mark a0 a1 ts r → Passed ts whole → Passed r whole
  sig_passed (sig_rule d1 d2) a = results_passed d2 (params_passed d1 a)

  pub names_passed : {a0 : List (NameAt S)} {ts r : Lexemes} → SpellsNames mark a0 ts r → Passed ts whole → Passed r whole
  names_passed last_name_rule a = drop a refl
  names_passed (more_names_rule d1) a = names_passed d1 (drop (drop a refl) refl)

  pub literal_passed : {a0 : Bool} {a1 : TypeExpr S} {ts r : Lexemes} → SpellsLiteralType mark a0 a1 ts r → Passed ts whole → Passed r whole
  literal_passed named_literal_rule a = drop a refl
  literal_passed qualified_literal_rule a = drop (drop (drop a refl) refl) refl
  literal_passed (type_literal_rule d1 d2) a = type_passed d2 a

  mutual
    pub bare_passed : {a0 : ℕ} {a1 : Bool} {a2 : Expr S} {ts r : Lexemes} → SpellsBare mark a0 a1 a2 ts r → Passed ts whole → Passed r whole
    bare_passed ident_rule a = drop a refl
    bare_passed int_rule a = drop a refl
    bare_passed rune_rule a = drop a refl
    bare_passed text_rule a = drop a refl
    bare_passed (composite_rule d1 d2) a = drop (elems_passed d2 (drop (literal_passed d1 a) refl)) refl
    bare_passed (func_rule d1 d2) a = block_passed d2 (sig_passed d1 (drop a refl))
    bare_passed (type_rule d1 d2 d3) a = type_passed d2 a
    bare_passed (selector_rule d1) a = drop (drop (operand_passed d1 a) refl) refl
    bare_passed (index_rule d1 d2) a = drop (operand_passed d2 (drop (operand_passed d1 a) refl)) refl
    bare_passed (slice_rule d1 d2 d3) a = drop (option_passed d3 (drop (option_passed d2 (drop (operand_passed d1 a) refl)) refl)) refl
    bare_passed (call_rule d1 d2) a = args_passed d2 (drop (expr_passed d1 a) refl)
    bare_passed (unary_rule {op = op} d1 d2) a = operand_passed d2 (drop a (sign_known op))
    bare_passed (star_rule d1 d2) a = operand_passed d2 (drop a refl)
    bare_passed (binary_rule d1 d2 d3) a = operand_passed d3 (drop (operand_passed d2 a) refl)

    pub expr_passed : {a0 : ℕ} {a1 : Bool} {a2 : Expr S} {ts r : Lexemes} → SpellsExpr mark a0 a1 a2 ts r → Passed ts whole → Passed r whole
    expr_passed (bare_rule d1) a = bare_passed d1 a
    expr_passed (parens_rule d1) a = drop (expr_passed d1 (drop a refl)) refl

    pub operand_passed : {a0 : ℕ} {a1 : Bool} {a2 : Expr S} {ts r : Lexemes} → SpellsOperand mark a0 a1 a2 ts r → Passed ts whole → Passed r whole
    operand_passed (operand_rule d1 d2) a = expr_passed d2 a

    pub option_passed : {a0 : Bool} {a1 : ExprOption S} {ts r : Lexemes} → SpellsOption mark a0 a1 ts r → Passed ts whole → Passed r whole
    option_passed no_expr_rule a = a
    option_passed (some_expr_rule d1) a = operand_passed d1 a

    pub exprs_passed : {a0 : Bool} {a1 : Exprs S} {ts r : Lexemes} → SpellsExprs mark a0 a1 ts r → Passed ts whole → Passed r whole
    exprs_passed (last_expr_rule d1) a = operand_passed d1 a
    exprs_passed (more_exprs_rule d1 d2) a = exprs_passed d2 (drop (operand_passed d1 a) refl)

    pub args_passed : {a0 : Exprs S} {a1 : Rest} {ts r : Lexemes} → SpellsArgs mark a0 a1 ts r → Passed ts whole → Passed r whole
    args_passed no_args_rule a = drop a refl
    args_passed (args_rule d1) a = drop (exprs_passed d1 a) refl
    args_passed (comma_args_rule d1) a = drop (drop (exprs_passed d1 a) refl) refl
    args_passed (rest_args_rule d1) a = drop (drop (exprs_passed d1 a) refl) refl
    args_passed (comma_rest_args_rule d1) a = drop (drop (drop (exprs_passed d1 a) refl) refl) refl

    pub elems_passed : {a0 : Elems S} {ts r : Lexemes} → SpellsElems mark a0 ts r → Passed ts whole → Passed r whole
    elems_passed no_elems_rule a = a
    elems_passed (last_elem_rule d1) a = elem_passed d1 a
    elems_passed (more_elems_rule d1 d2) a = elems_passed d2 (drop (elem_passed d1 a) refl)

    pub elem_passed : {a0 : ValueOption S} {a1 : Value S} {ts r : Lexemes} → SpellsElem mark a0 a1 ts r → Passed ts whole → Passed r whole
    elem_passed (value_rule d1) a = value_passed d1 a
    elem_passed (keyed_rule d1 d2) a = value_passed d2 (drop (value_passed d1 a) refl)

    pub value_passed : {a0 : Value S} {ts r : Lexemes} → SpellsValue mark a0 ts r → Passed ts whole → Passed r whole
    value_passed (plain_rule d1) a = operand_passed d1 a
    value_passed (braced_rule d1) a = drop (elems_passed d1 (drop a refl)) refl

    pub simple_passed : {a0 : Bool} {a1 : Stmt S} {ts r : Lexemes} → SpellsSimple mark a0 a1 ts r → Passed ts whole → Passed r whole
    simple_passed (eval_rule d1) a = operand_passed d1 a
    simple_passed (increment_rule d1) a = drop (operand_passed d1 a) refl
    simple_passed (decrement_rule d1) a = drop (operand_passed d1 a) refl
    simple_passed (assign_rule d1 d2) a = exprs_passed d2 (drop (exprs_passed d1 a) refl)
    simple_passed (define_rule d1 d2) a = exprs_passed d2 (drop (names_passed d1 a) refl)

    pub part_passed : {a0 : StmtOption S} {ts r : Lexemes} → SpellsPart mark a0 ts r → Passed ts whole → Passed r whole
    part_passed no_part_rule a = a
    part_passed (part_rule d1) a = simple_passed d1 a

    pub first_passed : {a0 : StmtOption S} {ts r : Lexemes} → SpellsFirst mark a0 ts r → Passed ts whole → Passed r whole
    first_passed no_first_rule a = a
    first_passed (first_rule d1) a = drop (part_passed d1 a) refl

    pub stmt_passed : {a0 : Stmt S} {ts r : Lexemes} → SpellsStmt mark a0 ts r → Passed ts whole → Passed r whole
    stmt_passed empty_rule a = a
    stmt_passed (simple_rule d1) a = simple_passed d1 a
    stmt_passed (const_rule d1) a = decl_passed d1 (drop a refl)
    stmt_passed (var_rule d1) a = decl_passed d1 (drop a refl)
    stmt_passed return_rule a = drop a refl
    stmt_passed (return_values_rule d1) a = exprs_passed d1 (drop a refl)
    stmt_passed break_rule a = drop a refl
    stmt_passed break_label_rule a = drop (drop a refl) refl
    stmt_passed continue_rule a = drop a refl
    stmt_passed continue_label_rule a = drop (drop a refl) refl
    stmt_passed (block_rule d1) a = block_passed d1 a
    stmt_passed (if_rule d1) a = if_passed d1 a
    stmt_passed (while_rule d1 d2) a = block_passed d2 (option_passed d1 (drop a refl))
    stmt_passed (for_rule d1 d2 d3 d4) a = block_passed d4 (part_passed d3 (drop (option_passed d2 (drop (part_passed d1 (drop a refl)) refl)) refl))
    stmt_passed (range_rule d1 d2 d3) a = block_passed d3 (operand_passed d2 (drop (left_passed d1 (drop a refl)) refl))
    stmt_passed (switch_rule d1 d2 d3) a = drop (cases_passed d3 (drop (option_passed d2 (first_passed d1 (drop a refl))) refl)) refl
    stmt_passed (defer_rule d1) a = bare_passed d1 (drop a refl)
    stmt_passed (label_rule d1) a = stmt_passed d1 (drop (drop a refl) refl)

    pub block_passed : {a0 : S} {a1 : Stmts S} {ts r : Lexemes} → SpellsBlock mark a0 a1 ts r → Passed ts whole → Passed r whole
    block_passed (braces_rule d1) a = drop (stmts_passed d1 (drop a refl)) refl

    pub stmts_passed : {a0 : Stmts S} {ts r : Lexemes} → SpellsStmts mark a0 ts r → Passed ts whole → Passed r whole
    stmts_passed no_stmts_rule a = a
    stmts_passed (last_stmt_rule d1 d2) a = stmt_passed d2 a
    stmts_passed (more_stmts_rule d1 d2) a = stmts_passed d2 (drop (stmt_passed d1 a) refl)

    pub if_passed : {a0 : Arms S} {a1 : BlockOption S} {ts r : Lexemes} → SpellsIf mark a0 a1 ts r → Passed ts whole → Passed r whole
    if_passed (only_arm_rule d1) a = arm_passed d1 a
    if_passed (else_rule d1 d2) a = block_passed d2 (drop (arm_passed d1 a) refl)
    if_passed (else_if_rule d1 d2) a = if_passed d2 (drop (arm_passed d1 a) refl)

    pub arm_passed : {a0 : StmtOption S} {a1 : Expr S} {a2 : S} {a3 : Stmts S} {ts r : Lexemes} → SpellsArm mark a0 a1 a2 a3 ts r → Passed ts whole → Passed r whole
    arm_passed (arm_rule d1 d2 d3) a = block_passed d3 (operand_passed d2 (first_passed d1 (drop a refl)))

    pub left_passed : {a0 : RangeLeft S} {ts r : Lexemes} → SpellsLeft mark a0 ts r → Passed ts whole → Passed r whole
    left_passed no_left_rule a = a
    left_passed (assigns_rule d1) a = drop (exprs_passed d1 a) refl
    left_passed (defines_rule d1) a = drop (names_passed d1 a) refl

    pub cases_passed : {a0 : Cases S} {ts r : Lexemes} → SpellsCases mark a0 ts r → Passed ts whole → Passed r whole
    cases_passed no_cases_rule a = a
    cases_passed (case_rule d1 d2 d3) a = cases_passed d3 (stmts_passed d2 (drop (exprs_passed d1 (drop a refl)) refl))
    cases_passed (default_rule d1 d2) a = cases_passed d2 (stmts_passed d1 (drop (drop a refl) refl))

    pub decl_passed : {a0 : Bool} {a1 : Bool} {a2 : ValueSpecs S} {ts r : Lexemes} → SpellsDecl mark a0 a1 a2 ts r → Passed ts whole → Passed r whole
    decl_passed (single_rule d1) a = spec_passed d1 a
    decl_passed (group_rule d1) a = drop (specs_passed d1 (drop a refl)) refl

    pub specs_passed : {a0 : Bool} {a1 : ValueSpecs S} {ts r : Lexemes} → SpellsSpecs mark a0 a1 ts r → Passed ts whole → Passed r whole
    specs_passed no_specs_rule a = a
    specs_passed (last_spec_rule d1) a = spec_passed d1 a
    specs_passed (more_specs_rule d1 d2) a = specs_passed d2 (drop (spec_passed d1 a) refl)

    pub spec_passed : {a0 : Bool} {a1 : List (NameAt S)} {a2 : Option (TypeExpr S)} {a3 : Exprs S} {ts r : Lexemes} → SpellsSpec mark a0 a1 a2 a3 ts r → Passed ts whole → Passed r whole
    spec_passed (repeated_rule d1) a = names_passed d1 a
    spec_passed (typed_var_rule d1 d2) a = type_passed d2 (names_passed d1 a)
    spec_passed (values_rule d1 d2) a = exprs_passed d2 (drop (names_passed d1 a) refl)
    spec_passed (typed_values_rule d1 d2 d3) a = exprs_passed d3 (drop (type_passed d2 (names_passed d1 a)) refl)

  pub import_spec_passed : {a0 : ImportSpec S} {ts r : Lexemes} → SpellsImportSpec mark a0 ts r → Passed ts whole → Passed r whole
  import_spec_passed path_rule a = drop a refl
  import_spec_passed named_path_rule a = drop (drop a refl) refl

  pub import_specs_passed : {a0 : List (ImportSpec S)} {ts r : Lexemes} → SpellsImportSpecs mark a0 ts r → Passed ts whole → Passed r whole
  import_specs_passed no_import_specs_rule a = a
  import_specs_passed (last_import_spec_rule d1) a = import_spec_passed d1 a
  import_specs_passed (more_import_specs_rule d1 d2) a = import_specs_passed d2 (drop (import_spec_passed d1 a) refl)

  pub import_passed : {a0 : ImportDecl S} {ts r : Lexemes} → SpellsImport mark a0 ts r → Passed ts whole → Passed r whole
  import_passed (import_rule d1) a = import_spec_passed d1 (drop a refl)
  import_passed (import_group_rule d1) a = drop (import_specs_passed d1 (drop (drop a refl) refl)) refl

  pub type_spec_passed : {a0 : TypeSpec S} {ts r : Lexemes} → SpellsTypeSpec mark a0 ts r → Passed ts whole → Passed r whole
  type_spec_passed (type_spec_rule d1) a = type_passed d1 (drop a refl)
  type_spec_passed (alias_spec_rule d1) a = type_passed d1 (drop (drop a refl) refl)

  pub type_specs_passed : {a0 : List (TypeSpec S)} {ts r : Lexemes} → SpellsTypeSpecs mark a0 ts r → Passed ts whole → Passed r whole
  type_specs_passed no_type_specs_rule a = a
  type_specs_passed (last_type_spec_rule d1) a = type_spec_passed d1 a
  type_specs_passed (more_type_specs_rule d1 d2) a = type_specs_passed d2 (drop (type_spec_passed d1 a) refl)

  pub receiver_passed : {a0 : Receiver S} {ts r : Lexemes} → SpellsReceiver mark a0 ts r → Passed ts whole → Passed r whole
  receiver_passed receiver_rule a = drop a refl
  receiver_passed pointer_receiver_rule a = drop (drop a refl) refl
  receiver_passed named_receiver_rule a = drop (drop a refl) refl
  receiver_passed named_pointer_receiver_rule a = drop (drop (drop a refl) refl) refl

  pub top_passed : {a0 : Decl S} {ts r : Lexemes} → SpellsTop mark a0 ts r → Passed ts whole → Passed r whole
  top_passed (top_const_rule d1) a = decl_passed d1 (drop a refl)
  top_passed (top_var_rule d1) a = decl_passed d1 (drop a refl)
  top_passed (top_type_rule d1) a = type_spec_passed d1 (drop a refl)
  top_passed (top_type_group_rule d1) a = drop (type_specs_passed d1 (drop (drop a refl) refl)) refl
  top_passed (top_func_rule d1 d2) a = block_passed d2 (sig_passed d1 (drop (drop a refl) refl))
  top_passed (top_method_rule d1 d2 d3) a = block_passed d3 (sig_passed d2 (drop (drop (receiver_passed d1 (drop (drop a refl) refl)) refl) refl))

  pub imports_passed : {a0 : List (ImportDecl S)} {ts r : Lexemes} → SpellsImports mark a0 ts r → Passed ts whole → Passed r whole
  imports_passed no_imports_rule a = a
  imports_passed (more_imports_rule d1 d2) a = imports_passed d2 (drop (import_passed d1 a) refl)

  pub tops_passed : {a0 : List (Decl S)} {ts r : Lexemes} → SpellsTops mark a0 ts r → Passed ts whole → Passed r whole
  tops_passed no_tops_rule a = a
  tops_passed (more_tops_rule d1 d2) a = tops_passed d2 (drop (top_passed d1 a) refl)

  pub front_passed : {a0 : File S} {ts r : Lexemes} → SpellsFront mark a0 ts r → Passed ts whole → Passed r whole
  front_passed (front_rule d1 d2 d3) a = tops_passed d3 (imports_passed d2 (drop (drop (drop a refl) refl) refl))
