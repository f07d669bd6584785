-- The tokens that spell a part stand at the front of the tokens that it is read from.
use Rattle.std.proofs.Common.{◌≡◌, ℕ, Bool, List, [], ◌∷◌, ◌++◌, Option, refl, ap}
use Rattle.go_tree.specs.declared.exprs.Rest.{Rest}
use Rattle.go_tree.specs.Tree.{NameAt, TypeExpr, Fields, Param, Sig, Expr, Exprs, ExprOption, Elems, Value, ValueOption, Stmt, Stmts, StmtOption, BlockOption, RangeLeft, Arms, Cases, ValueSpecs}
use Rattle.go_tree.specs.File.{ImportSpec, ImportDecl, TypeSpec, Receiver, Decl, File}
use Rattle.go_tree.specs.GoWords.Terminals.{Lexeme}
use Rattle.go_read.specs.SpellsTypes.{Lexemes, SpellsRest, rest_named_rule, comma_rest_named_rule, rest_unnamed_rule, comma_rest_unnamed_rule, rest_rule, named_rest_rule, SpellsType, SpellsFields, SpellsEntries, SpellsNamed, SpellsUnnamed, SpellsParams, SpellsResults, SpellsSig, SpellsNames, named_rule, qualified_rule, pointer_rule, slice_type_rule, map_type_rule, struct_type_rule, type_parens_rule, no_fields_rule, last_field_rule, more_fields_rule, last_entry_rule, more_entries_rule, last_named_rule, comma_named_rule, more_named_rule, last_unnamed_rule, comma_unnamed_rule, more_unnamed_rule, no_params_rule, named_params_rule, unnamed_params_rule, no_results_rule, params_results_rule, type_result_rule, sig_rule, last_name_rule, more_names_rule}
use Rattle.go_read.specs.Spells.{SpellsLiteralType, SpellsBare, SpellsExpr, SpellsOperand, SpellsOption, SpellsExprs, SpellsArgs, SpellsElems, SpellsElem, SpellsValue, SpellsSimple, SpellsPart, SpellsFirst, SpellsStmt, SpellsBlock, SpellsStmts, SpellsIf, SpellsArm, SpellsLeft, SpellsCases, SpellsDecl, SpellsSpecs, SpellsSpec, named_literal_rule, qualified_literal_rule, type_literal_rule, ident_rule, int_rule, rune_rule, text_rule, composite_rule, func_rule, type_rule, selector_rule, index_rule, slice_rule, call_rule, unary_rule, star_rule, binary_rule, bare_rule, parens_rule, operand_rule, no_expr_rule, some_expr_rule, last_expr_rule, more_exprs_rule, no_args_rule, args_rule, comma_args_rule, rest_args_rule, comma_rest_args_rule, no_elems_rule, last_elem_rule, more_elems_rule, value_rule, keyed_rule, plain_rule, braced_rule, eval_rule, increment_rule, decrement_rule, assign_rule, define_rule, no_part_rule, part_rule, no_first_rule, first_rule, empty_rule, simple_rule, const_rule, var_rule, return_rule, return_values_rule, break_rule, break_label_rule, continue_rule, continue_label_rule, block_rule, if_rule, while_rule, for_rule, range_rule, switch_rule, defer_rule, label_rule, braces_rule, no_stmts_rule, last_stmt_rule, more_stmts_rule, only_arm_rule, else_rule, else_if_rule, arm_rule, no_left_rule, assigns_rule, defines_rule, no_cases_rule, case_rule, default_rule, single_rule, group_rule, no_specs_rule, last_spec_rule, more_specs_rule, repeated_rule, typed_var_rule, values_rule, typed_values_rule}
use Rattle.go_read.specs.SpellsFiles.{SpellsImportSpec, SpellsImportSpecs, SpellsImport, SpellsTypeSpec, SpellsTypeSpecs, SpellsReceiver, SpellsTop, SpellsImports, SpellsTops, SpellsFront, path_rule, named_path_rule, no_import_specs_rule, last_import_spec_rule, more_import_specs_rule, import_rule, import_group_rule, type_spec_rule, alias_spec_rule, no_type_specs_rule, last_type_spec_rule, more_type_specs_rule, receiver_rule, pointer_receiver_rule, named_receiver_rule, named_pointer_receiver_rule, top_const_rule, top_var_rule, top_type_rule, top_type_group_rule, top_func_rule, top_method_rule, no_imports_rule, more_imports_rule, no_tops_rule, more_tops_rule, front_rule}

pub data Suffix : Lexemes → Lexemes → Type 0 where
  whole : {r : Lexemes} → Suffix r r
  after : {x : Lexeme} {r ts : Lexemes} → Suffix r ts → Suffix r (x ∷ ts)

onto : {r mid ts : Lexemes} → Suffix r mid → Suffix mid ts → Suffix r ts
onto d whole = d
onto d (after k) = after (onto d k)

skip : {x : Lexeme} {r ts : Lexemes} → Suffix (x ∷ r) ts → Suffix r ts
skip d = onto (after whole) d

pub front_of : {r ts : Lexemes} → Suffix r ts → (front : Lexemes) × (ts ≡ front ++ r)
front_of whole = ([], refl)
front_of (after {x = x} k) = let f = front_of k in (x ∷ f.0, ap (λ (us : Lexemes). x ∷ us) f.1)

module _ {S : Type 0} (mark : Lexemes → Lexemes → S) where
  mutual
    pub type_suffix : {t : TypeExpr S} {ts r : Lexemes} → SpellsType mark t ts r → Suffix r ts
    type_suffix named_rule = after whole
    type_suffix qualified_rule = after (after (after whole))
    type_suffix (pointer_rule d) = after (type_suffix d)
    type_suffix (slice_type_rule d) = after (after (type_suffix d))
    type_suffix (map_type_rule d k) = after (after (onto (type_suffix k) (skip (type_suffix d))))
    type_suffix (struct_type_rule d) = after (after (skip (fields_suffix d)))
    type_suffix (type_parens_rule d) = after (skip (type_suffix d))

    pub fields_suffix : {fs : Fields S} {ts r : Lexemes} → SpellsFields mark fs ts r → Suffix r ts
    fields_suffix no_fields_rule = whole
    fields_suffix (last_field_rule d) = entries_suffix d
    fields_suffix (more_fields_rule d k) = onto (fields_suffix k) (skip (entries_suffix d))

    pub entries_suffix : {t : TypeExpr S} {es : List (S × NameAt S)} {ts r : Lexemes} → SpellsEntries mark t es ts r → Suffix r ts
    entries_suffix (last_entry_rule d) = after (type_suffix d)
    entries_suffix (more_entries_rule d) = after (after (entries_suffix d))

  pub rest_suffix : {named : Bool} {p : Param S} {ts r : Lexemes} → SpellsRest mark named p ts r → Suffix r ts
  rest_suffix (rest_rule d) = after (type_suffix d)
  rest_suffix (named_rest_rule d) = after (after (type_suffix d))

  pub named_suffix : {v : Bool} {ps : List (Param S)} {ts r : Lexemes} → SpellsNamed mark v ps ts r → Suffix r ts
  named_suffix (last_named_rule d) = skip (entries_suffix d)
  named_suffix (comma_named_rule d) = skip (skip (entries_suffix d))
  named_suffix (more_named_rule d k) = onto (named_suffix k) (skip (entries_suffix d))
  named_suffix (rest_named_rule d) = skip (rest_suffix d)
  named_suffix (comma_rest_named_rule d) = skip (skip (rest_suffix d))

  pub unnamed_suffix : {v : Bool} {ps : List (Param S)} {ts r : Lexemes} → SpellsUnnamed mark v ps ts r → Suffix r ts
  unnamed_suffix (last_unnamed_rule d) = skip (type_suffix d)
  unnamed_suffix (comma_unnamed_rule d) = skip (skip (type_suffix d))
  unnamed_suffix (more_unnamed_rule d k) = onto (unnamed_suffix k) (skip (type_suffix d))
  unnamed_suffix (rest_unnamed_rule d) = skip (rest_suffix d)
  unnamed_suffix (comma_rest_unnamed_rule d) = skip (skip (rest_suffix d))

  pub params_suffix : {v : Bool} {ps : List (Param S)} {ts r : Lexemes} → SpellsParams mark v ps ts r → Suffix r ts
  params_suffix no_params_rule = after (after whole)
  params_suffix (named_params_rule d) = after (named_suffix d)
  params_suffix (unnamed_params_rule d) = after (unnamed_suffix d)

  pub results_suffix : {ps : List (Param S)} {ts r : Lexemes} → SpellsResults mark ps ts r → Suffix r ts
  results_suffix no_results_rule = whole
  results_suffix (params_results_rule d) = params_suffix d
  results_suffix (type_result_rule d) = type_suffix d

  pub sig_suffix : {v : Bool} {g : Sig S} {ts r : Lexemes} → SpellsSig mark v g ts r → Suffix r ts
  sig_suffix (sig_rule d k) = onto (results_suffix k) (params_suffix d)

  pub names_suffix : {ns : List (NameAt S)} {ts r : Lexemes} → SpellsNames mark ns ts r → Suffix r ts
  names_suffix last_name_rule = after whole
  names_suffix (more_names_rule d) = after (after (names_suffix d))

  pub literal_suffix : {h : Bool} {t : TypeExpr S} {ts r : Lexemes} → SpellsLiteralType mark h t ts r → Suffix r ts
  literal_suffix named_literal_rule = after whole
  literal_suffix qualified_literal_rule = after (after (after whole))
  literal_suffix (type_literal_rule p d) = type_suffix d

  mutual
    pub bare_suffix : {l : ℕ} {h : Bool} {e : Expr S} {ts r : Lexemes} → SpellsBare mark l h e ts r → Suffix r ts
    bare_suffix ident_rule = after whole
    bare_suffix int_rule = after whole
    bare_suffix rune_rule = after whole
    bare_suffix text_rule = after whole
    bare_suffix (composite_rule d k) = onto (skip (elems_suffix k)) (skip (literal_suffix d))
    bare_suffix (func_rule d k) = after (onto (block_suffix k) (sig_suffix d))
    bare_suffix (type_rule p d q) = type_suffix d
    bare_suffix (selector_rule d) = skip (skip (operand_suffix d))
    bare_suffix (index_rule d k) = onto (skip (operand_suffix k)) (skip (operand_suffix d))
    bare_suffix (slice_rule d i j) = onto (onto (skip (option_suffix j)) (skip (option_suffix i))) (skip (operand_suffix d))
    bare_suffix (call_rule d k) = onto (args_suffix k) (skip (expr_suffix d))
    bare_suffix (unary_rule p d) = after (operand_suffix d)
    bare_suffix (star_rule p d) = after (operand_suffix d)
    bare_suffix (binary_rule p d k) = onto (operand_suffix k) (skip (operand_suffix d))

    pub expr_suffix : {l : ℕ} {h : Bool} {e : Expr S} {ts r : Lexemes} → SpellsExpr mark l h e ts r → Suffix r ts
    expr_suffix (bare_rule d) = bare_suffix d
    expr_suffix (parens_rule d) = after (skip (expr_suffix d))

    pub operand_suffix : {l : ℕ} {h : Bool} {e : Expr S} {ts r : Lexemes} → SpellsOperand mark l h e ts r → Suffix r ts
    operand_suffix (operand_rule p d) = expr_suffix d

    pub option_suffix : {h : Bool} {o : ExprOption S} {ts r : Lexemes} → SpellsOption mark h o ts r → Suffix r ts
    option_suffix no_expr_rule = whole
    option_suffix (some_expr_rule d) = operand_suffix d

    pub exprs_suffix : {h : Bool} {xs : Exprs S} {ts r : Lexemes} → SpellsExprs mark h xs ts r → Suffix r ts
    exprs_suffix (last_expr_rule d) = operand_suffix d
    exprs_suffix (more_exprs_rule d k) = onto (exprs_suffix k) (skip (operand_suffix d))

    pub args_suffix : {xs : Exprs S} {rest : Rest} {ts r : Lexemes} → SpellsArgs mark xs rest ts r → Suffix r ts
    args_suffix no_args_rule = after whole
    args_suffix (args_rule d) = skip (exprs_suffix d)
    args_suffix (comma_args_rule d) = skip (skip (exprs_suffix d))
    args_suffix (rest_args_rule d) = skip (skip (exprs_suffix d))
    args_suffix (comma_rest_args_rule d) = skip (skip (skip (exprs_suffix d)))

    pub elems_suffix : {es : Elems S} {ts r : Lexemes} → SpellsElems mark es ts r → Suffix r ts
    elems_suffix no_elems_rule = whole
    elems_suffix (last_elem_rule d) = elem_suffix d
    elems_suffix (more_elems_rule d k) = onto (elems_suffix k) (skip (elem_suffix d))

    pub elem_suffix : {k : ValueOption S} {v : Value S} {ts r : Lexemes} → SpellsElem mark k v ts r → Suffix r ts
    elem_suffix (value_rule d) = value_suffix d
    elem_suffix (keyed_rule d k) = onto (value_suffix k) (skip (value_suffix d))

    pub value_suffix : {v : Value S} {ts r : Lexemes} → SpellsValue mark v ts r → Suffix r ts
    value_suffix (plain_rule d) = operand_suffix d
    value_suffix (braced_rule d) = after (skip (elems_suffix d))

    pub simple_suffix : {h : Bool} {x : Stmt S} {ts r : Lexemes} → SpellsSimple mark h x ts r → Suffix r ts
    simple_suffix (eval_rule d) = operand_suffix d
    simple_suffix (increment_rule d) = skip (operand_suffix d)
    simple_suffix (decrement_rule d) = skip (operand_suffix d)
    simple_suffix (assign_rule d k) = onto (exprs_suffix k) (skip (exprs_suffix d))
    simple_suffix (define_rule d k) = onto (exprs_suffix k) (skip (names_suffix d))

    pub part_suffix : {i : StmtOption S} {ts r : Lexemes} → SpellsPart mark i ts r → Suffix r ts
    part_suffix no_part_rule = whole
    part_suffix (part_rule d) = simple_suffix d

    pub first_suffix : {i : StmtOption S} {ts r : Lexemes} → SpellsFirst mark i ts r → Suffix r ts
    first_suffix no_first_rule = whole
    first_suffix (first_rule d) = skip (part_suffix d)

    pub stmt_suffix : {x : Stmt S} {ts r : Lexemes} → SpellsStmt mark x ts r → Suffix r ts
    stmt_suffix empty_rule = whole
    stmt_suffix (simple_rule d) = simple_suffix d
    stmt_suffix (const_rule d) = after (decl_suffix d)
    stmt_suffix (var_rule d) = after (decl_suffix d)
    stmt_suffix return_rule = after whole
    stmt_suffix (return_values_rule d) = after (exprs_suffix d)
    stmt_suffix break_rule = after whole
    stmt_suffix break_label_rule = after (after whole)
    stmt_suffix continue_rule = after whole
    stmt_suffix continue_label_rule = after (after whole)
    stmt_suffix (block_rule d) = block_suffix d
    stmt_suffix (if_rule d) = if_suffix d
    stmt_suffix (while_rule d k) = after (onto (block_suffix k) (option_suffix d))
    stmt_suffix (for_rule i t p k) = after (onto (onto (onto (block_suffix k) (part_suffix p)) (skip (option_suffix t))) (skip (part_suffix i)))
    stmt_suffix (range_rule d e k) = after (onto (onto (block_suffix k) (operand_suffix e)) (skip (left_suffix d)))
    stmt_suffix (switch_rule i t k) = after (onto (onto (skip (cases_suffix k)) (skip (option_suffix t))) (first_suffix i))
    stmt_suffix (defer_rule d) = after (bare_suffix d)
    stmt_suffix (label_rule d) = after (after (stmt_suffix d))

    pub block_suffix : {sb : S} {body : Stmts S} {ts r : Lexemes} → SpellsBlock mark sb body ts r → Suffix r ts
    block_suffix (braces_rule d) = after (skip (stmts_suffix d))

    pub stmts_suffix : {body : Stmts S} {ts r : Lexemes} → SpellsStmts mark body ts r → Suffix r ts
    stmts_suffix no_stmts_rule = whole
    stmts_suffix (last_stmt_rule p d) = stmt_suffix d
    stmts_suffix (more_stmts_rule d k) = onto (stmts_suffix k) (skip (stmt_suffix d))

    pub if_suffix : {arms : Arms S} {last : BlockOption S} {ts r : Lexemes} → SpellsIf mark arms last ts r → Suffix r ts
    if_suffix (only_arm_rule d) = arm_suffix d
    if_suffix (else_rule d k) = onto (block_suffix k) (skip (arm_suffix d))
    if_suffix (else_if_rule d k) = onto (if_suffix k) (skip (arm_suffix d))

    pub arm_suffix : {i : StmtOption S} {t : Expr S} {sb : S} {body : Stmts S} {ts r : Lexemes} → SpellsArm mark i t sb body ts r → Suffix r ts
    arm_suffix (arm_rule d e k) = after (onto (onto (block_suffix k) (operand_suffix e)) (first_suffix d))

    pub left_suffix : {left : RangeLeft S} {ts r : Lexemes} → SpellsLeft mark left ts r → Suffix r ts
    left_suffix no_left_rule = whole
    left_suffix (assigns_rule d) = skip (exprs_suffix d)
    left_suffix (defines_rule d) = skip (names_suffix d)

    pub cases_suffix : {cs : Cases S} {ts r : Lexemes} → SpellsCases mark cs ts r → Suffix r ts
    cases_suffix no_cases_rule = whole
    cases_suffix (case_rule l d k) = after (onto (onto (cases_suffix k) (stmts_suffix d)) (skip (exprs_suffix l)))
    cases_suffix (default_rule d k) = after (after (onto (cases_suffix k) (stmts_suffix d)))

    pub decl_suffix : {c : Bool} {g : Bool} {ss : ValueSpecs S} {ts r : Lexemes} → SpellsDecl mark c g ss ts r → Suffix r ts
    decl_suffix (single_rule d) = spec_suffix d
    decl_suffix (group_rule d) = after (skip (specs_suffix d))

    pub specs_suffix : {c : Bool} {ss : ValueSpecs S} {ts r : Lexemes} → SpellsSpecs mark c ss ts r → Suffix r ts
    specs_suffix no_specs_rule = whole
    specs_suffix (last_spec_rule d) = spec_suffix d
    specs_suffix (more_specs_rule d k) = onto (specs_suffix k) (skip (spec_suffix d))

    pub spec_suffix : {c : Bool} {ns : List (NameAt S)} {t : Option (TypeExpr S)} {xs : Exprs S} {ts r : Lexemes} → SpellsSpec mark c ns t xs ts r → Suffix r ts
    spec_suffix (repeated_rule d) = names_suffix d
    spec_suffix (typed_var_rule d k) = onto (type_suffix k) (names_suffix d)
    spec_suffix (values_rule d k) = onto (exprs_suffix k) (skip (names_suffix d))
    spec_suffix (typed_values_rule d k l) = onto (onto (exprs_suffix l) (skip (type_suffix k))) (names_suffix d)

  pub import_spec_suffix : {x : ImportSpec S} {ts r : Lexemes} → SpellsImportSpec mark x ts r → Suffix r ts
  import_spec_suffix path_rule = after whole
  import_spec_suffix named_path_rule = after (after whole)

  pub import_specs_suffix : {xs : List (ImportSpec S)} {ts r : Lexemes} → SpellsImportSpecs mark xs ts r → Suffix r ts
  import_specs_suffix no_import_specs_rule = whole
  import_specs_suffix (last_import_spec_rule d) = import_spec_suffix d
  import_specs_suffix (more_import_specs_rule d k) = onto (import_specs_suffix k) (skip (import_spec_suffix d))

  pub import_suffix : {x : ImportDecl S} {ts r : Lexemes} → SpellsImport mark x ts r → Suffix r ts
  import_suffix (import_rule d) = after (import_spec_suffix d)
  import_suffix (import_group_rule d) = after (after (skip (import_specs_suffix d)))

  pub type_spec_suffix : {x : TypeSpec S} {ts r : Lexemes} → SpellsTypeSpec mark x ts r → Suffix r ts
  type_spec_suffix (type_spec_rule d) = after (type_suffix d)
  type_spec_suffix (alias_spec_rule d) = after (after (type_suffix d))

  pub type_specs_suffix : {xs : List (TypeSpec S)} {ts r : Lexemes} → SpellsTypeSpecs mark xs ts r → Suffix r ts
  type_specs_suffix no_type_specs_rule = whole
  type_specs_suffix (last_type_spec_rule d) = type_spec_suffix d
  type_specs_suffix (more_type_specs_rule d k) = onto (type_specs_suffix k) (skip (type_spec_suffix d))

  pub receiver_suffix : {x : Receiver S} {ts r : Lexemes} → SpellsReceiver mark x ts r → Suffix r ts
  receiver_suffix receiver_rule = after whole
  receiver_suffix pointer_receiver_rule = after (after whole)
  receiver_suffix named_receiver_rule = after (after whole)
  receiver_suffix named_pointer_receiver_rule = after (after (after whole))

  pub top_suffix : {x : Decl S} {ts r : Lexemes} → SpellsTop mark x ts r → Suffix r ts
  top_suffix (top_const_rule d) = after (decl_suffix d)
  top_suffix (top_var_rule d) = after (decl_suffix d)
  top_suffix (top_type_rule d) = after (type_spec_suffix d)
  top_suffix (top_type_group_rule d) = after (after (skip (type_specs_suffix d)))
  top_suffix (top_func_rule d k) = after (after (onto (block_suffix k) (sig_suffix d)))
  top_suffix (top_method_rule v d k) = after (after (onto (onto (block_suffix k) (sig_suffix d)) (skip (skip (receiver_suffix v)))))

  pub imports_suffix : {xs : List (ImportDecl S)} {ts r : Lexemes} → SpellsImports mark xs ts r → Suffix r ts
  imports_suffix no_imports_rule = whole
  imports_suffix (more_imports_rule d k) = onto (imports_suffix k) (skip (import_suffix d))

  pub tops_suffix : {xs : List (Decl S)} {ts r : Lexemes} → SpellsTops mark xs ts r → Suffix r ts
  tops_suffix no_tops_rule = whole
  tops_suffix (more_tops_rule d k) = onto (tops_suffix k) (skip (top_suffix d))

  pub file_suffix : {f : File S} {ts r : Lexemes} → SpellsFront mark f ts r → Suffix r ts
  file_suffix (front_rule p i t) = after (after (after (onto (tops_suffix t) (imports_suffix i))))
