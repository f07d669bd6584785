-- What spells a tree spells it without its spans.
use Rattle.std.proofs.Common.{◌≡◌, ℕ, Bool, false, List, [], ◌∷◌, map, Option, Some, refl, sym, ap, subst}
use Rattle.std.specs.Option.{option_map}
use Rattle.go_tree.specs.declared.exprs.Rest.{Rest}
use Rattle.go_tree.specs.Tree.{NameAt, TypeExpr, Fields, no_fields, field, Param, Sig, Expr, Exprs, ExprOption, Elems, Value, ValueOption, Stmt, Stmts, StmtOption, BlockOption, RangeLeft, Arms, Cases, ValueSpecs, ident, int_lit, rune_lit, str_lit, composite, selector, index, slice, call, func_lit, type_operand, unary, binary, star, const_decl, var_decl, empty, eval, step, assign, define, return_, break_, continue_, inner, if_, for_, range_, switch, defer, label}
use Rattle.go_tree.specs.Bare.{bare_name, bare_type, bare_fields, bare_param, bare_sig, bare_expr, bare_exprs, bare_expr_option, bare_elems, bare_value, bare_value_option, bare_stmt, bare_stmts, bare_stmt_option, bare_block_option, bare_range_left, bare_arms, bare_cases, bare_value_specs}
use Rattle.go_tree.specs.File.{ImportSpec, ImportDecl, TypeSpec, Receiver, Decl, File}
use Rattle.go_tree.specs.FileBare.{bare_import_spec, bare_import_decl, bare_type_spec, bare_receiver, bare_decl, bare_file}
use Rattle.go_tree.specs.GoWords.Terminals.{lex, end_brace}
use Rattle.go_read.specs.SpellsTypes.{Lexemes, SpellsRest, rest_named_rule, comma_rest_named_rule, rest_unnamed_rule, comma_rest_unnamed_rule, rest_rule, named_rest_rule, fields_of, params_of, SpellsType, SpellsFields, SpellsEntries, SpellsNamed, SpellsUnnamed, SpellsParams, SpellsResults, SpellsSig, SpellsNames, named_rule, qualified_rule, pointer_rule, slice_type_rule, map_type_rule, struct_type_rule, type_parens_rule, no_fields_rule, last_field_rule, more_fields_rule, last_entry_rule, more_entries_rule, last_named_rule, comma_named_rule, more_named_rule, last_unnamed_rule, comma_unnamed_rule, more_unnamed_rule, no_params_rule, named_params_rule, unnamed_params_rule, no_results_rule, params_results_rule, type_result_rule, sig_rule, last_name_rule, more_names_rule}
use Rattle.go_read.specs.Spells.{is_func_lit, is_empty, SpellsLiteralType, SpellsBare, SpellsExpr, SpellsOperand, SpellsOption, SpellsExprs, SpellsArgs, SpellsElems, SpellsElem, SpellsValue, SpellsSimple, SpellsPart, SpellsFirst, SpellsStmt, SpellsBlock, SpellsStmts, SpellsIf, SpellsArm, SpellsLeft, SpellsCases, SpellsDecl, SpellsSpecs, SpellsSpec, named_literal_rule, qualified_literal_rule, type_literal_rule, ident_rule, int_rule, rune_rule, text_rule, composite_rule, func_rule, type_rule, selector_rule, index_rule, slice_rule, call_rule, unary_rule, star_rule, binary_rule, bare_rule, parens_rule, operand_rule, no_expr_rule, some_expr_rule, last_expr_rule, more_exprs_rule, no_args_rule, args_rule, comma_args_rule, rest_args_rule, comma_rest_args_rule, no_elems_rule, last_elem_rule, more_elems_rule, value_rule, keyed_rule, plain_rule, braced_rule, eval_rule, increment_rule, decrement_rule, assign_rule, define_rule, no_part_rule, part_rule, no_first_rule, first_rule, empty_rule, simple_rule, const_rule, var_rule, return_rule, return_values_rule, break_rule, break_label_rule, continue_rule, continue_label_rule, block_rule, if_rule, while_rule, for_rule, range_rule, switch_rule, defer_rule, label_rule, braces_rule, no_stmts_rule, last_stmt_rule, more_stmts_rule, only_arm_rule, else_rule, else_if_rule, arm_rule, no_left_rule, assigns_rule, defines_rule, no_cases_rule, case_rule, default_rule, single_rule, group_rule, no_specs_rule, last_spec_rule, more_specs_rule, repeated_rule, typed_var_rule, values_rule, typed_values_rule}
use Rattle.go_read.specs.SpellsFiles.{SpellsImportSpec, SpellsImportSpecs, SpellsImport, SpellsTypeSpec, SpellsTypeSpecs, SpellsReceiver, SpellsTop, SpellsImports, SpellsTops, SpellsFront, path_rule, named_path_rule, no_import_specs_rule, last_import_spec_rule, more_import_specs_rule, import_rule, import_group_rule, type_spec_rule, alias_spec_rule, no_type_specs_rule, last_type_spec_rule, more_type_specs_rule, receiver_rule, pointer_receiver_rule, named_receiver_rule, named_pointer_receiver_rule, top_const_rule, top_var_rule, top_type_rule, top_type_group_rule, top_func_rule, top_method_rule, no_imports_rule, more_imports_rule, no_tops_rule, more_tops_rule, front_rule}
use Rattle.go_read.specs.Bareness.{nowhere}

module _ {S : Type 0} (mark : Lexemes → Lexemes → S) where
  abbrev bare_entries : List (S × NameAt S) → List (Unit {0} × NameAt (Unit {0}))
  bare_entries [] = []
  bare_entries (e ∷ es) = (tt, bare_name e.1) ∷ bare_entries es

  bare_fields_of : (es : List (S × NameAt S)) (t : TypeExpr S) (fs : Fields S) → bare_fields (fields_of es t fs) ≡ fields_of (bare_entries es) (bare_type t) (bare_fields fs)
  bare_fields_of [] t fs = refl
  bare_fields_of (e ∷ es) t fs = ap (field tt (bare_name e.1) (bare_type t)) (bare_fields_of es t fs)

  bare_params_of : (es : List (S × NameAt S)) (t : TypeExpr S) (ps : List (Param S)) → map bare_param (params_of es t ps) ≡ params_of (bare_entries es) (bare_type t) (map bare_param ps)
  bare_params_of [] t ps = refl
  bare_params_of (e ∷ es) t ps = ap (λ (qs : List (Param (Unit {0}))). record { span = tt; name = Some (bare_name e.1); rest = false; of = bare_type t } ∷ qs) (bare_params_of es t ps)

  still_no_literal : (e : Expr S) → is_func_lit e ≡ false → is_func_lit (bare_expr e) ≡ false
  still_no_literal (ident _ _) p = refl
  still_no_literal (int_lit _ _) p = refl
  still_no_literal (rune_lit _ _) p = refl
  still_no_literal (str_lit _ _) p = refl
  still_no_literal (composite _ _ _) p = refl
  still_no_literal (selector _ _ _) p = refl
  still_no_literal (index _ _ _) p = refl
  still_no_literal (slice _ _ _ _) p = refl
  still_no_literal (call _ _ _ _) p = refl
  still_no_literal (func_lit _ _ _ _) p = p
  still_no_literal (type_operand _ _) p = refl
  still_no_literal (unary _ _ _) p = refl
  still_no_literal (binary _ _ _ _) p = refl
  still_no_literal (star _ _) p = refl

  still_full : (x : Stmt S) → is_empty x ≡ false → is_empty (bare_stmt x) ≡ false
  still_full (const_decl _ _ _) p = refl
  still_full (var_decl _ _ _) p = refl
  still_full (empty _) p = p
  still_full (eval _ _) p = refl
  still_full (step _ _ _) p = refl
  still_full (assign _ _ _ _) p = refl
  still_full (define _ _ _) p = refl
  still_full (return_ _ _) p = refl
  still_full (break_ _ _) p = refl
  still_full (continue_ _ _) p = refl
  still_full (inner _ _) p = refl
  still_full (if_ _ _ _) p = refl
  still_full (for_ _ _ _ _ _ _) p = refl
  still_full (range_ _ _ _ _ _) p = refl
  still_full (switch _ _ _ _) p = refl
  still_full (defer _ _) p = refl
  still_full (label _ _ _) p = refl

  mutual
    pub type_bare : {t : TypeExpr S} {ts r : Lexemes} → SpellsType mark t ts r → SpellsType nowhere (bare_type t) ts r
    type_bare named_rule = named_rule
    type_bare qualified_rule = qualified_rule
    type_bare (pointer_rule d) = pointer_rule (type_bare d)
    type_bare (slice_type_rule d) = slice_type_rule (type_bare d)
    type_bare (map_type_rule d k) = map_type_rule (type_bare d) (type_bare k)
    type_bare (struct_type_rule d) = struct_type_rule (fields_bare d)
    type_bare (type_parens_rule d) = type_parens_rule (type_bare d)

    pub fields_bare : {fs : Fields S} {ts r : Lexemes} → SpellsFields mark fs ts r → SpellsFields nowhere (bare_fields fs) ts r
    fields_bare no_fields_rule = no_fields_rule
    fields_bare (last_field_rule {e = e} {t = t} {es = es} {ts = ts} {r = r} d) = subst (λ z. SpellsFields nowhere z ts (lex e end_brace ∷ r)) (sym (bare_fields_of es t no_fields)) (last_field_rule (entries_bare d))
    fields_bare (more_fields_rule {t = t} {es = es} {fs = fs} {ts = ts} {r = r} d k) = subst (λ z. SpellsFields nowhere z ts r) (sym (bare_fields_of es t fs)) (more_fields_rule (entries_bare d) (fields_bare k))

    pub entries_bare : {t : TypeExpr S} {es : List (S × NameAt S)} {ts r : Lexemes} → SpellsEntries mark t es ts r → SpellsEntries nowhere (bare_type t) (bare_entries es) ts r
    entries_bare (last_entry_rule d) = last_entry_rule (type_bare d)
    entries_bare (more_entries_rule d) = more_entries_rule (entries_bare d)

  pub rest_bare : {named : Bool} {p : Param S} {ts r : Lexemes} → SpellsRest mark named p ts r → SpellsRest nowhere named (bare_param p) ts r
  rest_bare (rest_rule d) = rest_rule (type_bare d)
  rest_bare (named_rest_rule d) = named_rest_rule (type_bare d)

  pub named_bare : {v : Bool} {ps : List (Param S)} {ts r : Lexemes} → SpellsNamed mark v ps ts r → SpellsNamed nowhere v (map bare_param ps) ts r
  named_bare (last_named_rule {v = v} {t = t} {es = es} {ts = ts} {r = r} d) = subst (λ z. SpellsNamed nowhere v z ts r) (sym (bare_params_of es t [])) (last_named_rule (entries_bare d))
  named_bare (comma_named_rule {v = v} {t = t} {es = es} {ts = ts} {r = r} d) = subst (λ z. SpellsNamed nowhere v z ts r) (sym (bare_params_of es t [])) (comma_named_rule (entries_bare d))
  named_bare (more_named_rule {v = v} {t = t} {es = es} {ps = ps} {ts = ts} {r = r} d k) = subst (λ z. SpellsNamed nowhere v z ts r) (sym (bare_params_of es t ps)) (more_named_rule (entries_bare d) (named_bare k))
  named_bare (rest_named_rule d) = rest_named_rule (rest_bare d)
  named_bare (comma_rest_named_rule d) = comma_rest_named_rule (rest_bare d)

  pub unnamed_bare : {v : Bool} {ps : List (Param S)} {ts r : Lexemes} → SpellsUnnamed mark v ps ts r → SpellsUnnamed nowhere v (map bare_param ps) ts r
  unnamed_bare (last_unnamed_rule d) = last_unnamed_rule (type_bare d)
  unnamed_bare (comma_unnamed_rule d) = comma_unnamed_rule (type_bare d)
  unnamed_bare (more_unnamed_rule d k) = more_unnamed_rule (type_bare d) (unnamed_bare k)
  unnamed_bare (rest_unnamed_rule d) = rest_unnamed_rule (rest_bare d)
  unnamed_bare (comma_rest_unnamed_rule d) = comma_rest_unnamed_rule (rest_bare d)

  pub params_bare : {v : Bool} {ps : List (Param S)} {ts r : Lexemes} → SpellsParams mark v ps ts r → SpellsParams nowhere v (map bare_param ps) ts r
  params_bare no_params_rule = no_params_rule
  params_bare (named_params_rule d) = named_params_rule (named_bare d)
  params_bare (unnamed_params_rule d) = unnamed_params_rule (unnamed_bare d)

  pub results_bare : {ps : List (Param S)} {ts r : Lexemes} → SpellsResults mark ps ts r → SpellsResults nowhere (map bare_param ps) ts r
  results_bare no_results_rule = no_results_rule
  results_bare (params_results_rule d) = params_results_rule (params_bare d)
  results_bare (type_result_rule d) = type_result_rule (type_bare d)

  pub sig_bare : {v : Bool} {g : Sig S} {ts r : Lexemes} → SpellsSig mark v g ts r → SpellsSig nowhere v (bare_sig g) ts r
  sig_bare (sig_rule d k) = sig_rule (params_bare d) (results_bare k)

  pub names_bare : {ns : List (NameAt S)} {ts r : Lexemes} → SpellsNames mark ns ts r → SpellsNames nowhere (map bare_name ns) ts r
  names_bare last_name_rule = last_name_rule
  names_bare (more_names_rule d) = more_names_rule (names_bare d)

  pub literal_bare : {h : Bool} {t : TypeExpr S} {ts r : Lexemes} → SpellsLiteralType mark h t ts r → SpellsLiteralType nowhere h (bare_type t) ts r
  literal_bare named_literal_rule = named_literal_rule
  literal_bare qualified_literal_rule = qualified_literal_rule
  literal_bare (type_literal_rule p d) = type_literal_rule p (type_bare d)

  mutual
    pub bare_bare : {l : ℕ} {h : Bool} {e : Expr S} {ts r : Lexemes} → SpellsBare mark l h e ts r → SpellsBare nowhere l h (bare_expr e) ts r
    bare_bare ident_rule = ident_rule
    bare_bare int_rule = int_rule
    bare_bare rune_rule = rune_rule
    bare_bare text_rule = text_rule
    bare_bare (composite_rule a b) = composite_rule (literal_bare a) (elems_bare b)
    bare_bare (func_rule a b) = func_rule (sig_bare a) (block_bare b)
    bare_bare (type_rule a b c) = type_rule a (type_bare b) c
    bare_bare (selector_rule a) = selector_rule (operand_bare a)
    bare_bare (index_rule a b) = index_rule (operand_bare a) (operand_bare b)
    bare_bare (slice_rule a b c) = slice_rule (operand_bare a) (option_bare b) (option_bare c)
    bare_bare (call_rule a b) = call_rule (expr_bare a) (args_bare b)
    bare_bare (unary_rule a b) = unary_rule a (operand_bare b)
    bare_bare (star_rule a b) = star_rule a (operand_bare b)
    bare_bare (binary_rule a b c) = binary_rule a (operand_bare b) (operand_bare c)

    pub expr_bare : {l : ℕ} {h : Bool} {e : Expr S} {ts r : Lexemes} → SpellsExpr mark l h e ts r → SpellsExpr nowhere l h (bare_expr e) ts r
    expr_bare (bare_rule a) = bare_rule (bare_bare a)
    expr_bare (parens_rule a) = parens_rule (expr_bare a)

    pub operand_bare : {l : ℕ} {h : Bool} {e : Expr S} {ts r : Lexemes} → SpellsOperand mark l h e ts r → SpellsOperand nowhere l h (bare_expr e) ts r
    operand_bare (operand_rule {e = e} p d) = operand_rule (still_no_literal e p) (expr_bare d)

    pub option_bare : {h : Bool} {o : ExprOption S} {ts r : Lexemes} → SpellsOption mark h o ts r → SpellsOption nowhere h (bare_expr_option o) ts r
    option_bare no_expr_rule = no_expr_rule
    option_bare (some_expr_rule a) = some_expr_rule (operand_bare a)

    pub exprs_bare : {h : Bool} {xs : Exprs S} {ts r : Lexemes} → SpellsExprs mark h xs ts r → SpellsExprs nowhere h (bare_exprs xs) ts r
    exprs_bare (last_expr_rule a) = last_expr_rule (operand_bare a)
    exprs_bare (more_exprs_rule a b) = more_exprs_rule (operand_bare a) (exprs_bare b)

    pub args_bare : {xs : Exprs S} {rest : Rest} {ts r : Lexemes} → SpellsArgs mark xs rest ts r → SpellsArgs nowhere (bare_exprs xs) rest ts r
    args_bare no_args_rule = no_args_rule
    args_bare (args_rule a) = args_rule (exprs_bare a)
    args_bare (comma_args_rule a) = comma_args_rule (exprs_bare a)
    args_bare (rest_args_rule a) = rest_args_rule (exprs_bare a)
    args_bare (comma_rest_args_rule a) = comma_rest_args_rule (exprs_bare a)

    pub elems_bare : {es : Elems S} {ts r : Lexemes} → SpellsElems mark es ts r → SpellsElems nowhere (bare_elems es) ts r
    elems_bare no_elems_rule = no_elems_rule
    elems_bare (last_elem_rule a) = last_elem_rule (elem_bare a)
    elems_bare (more_elems_rule a b) = more_elems_rule (elem_bare a) (elems_bare b)

    pub elem_bare : {k : ValueOption S} {v : Value S} {ts r : Lexemes} → SpellsElem mark k v ts r → SpellsElem nowhere (bare_value_option k) (bare_value v) ts r
    elem_bare (value_rule a) = value_rule (value_bare a)
    elem_bare (keyed_rule a b) = keyed_rule (value_bare a) (value_bare b)

    pub value_bare : {v : Value S} {ts r : Lexemes} → SpellsValue mark v ts r → SpellsValue nowhere (bare_value v) ts r
    value_bare (plain_rule a) = plain_rule (operand_bare a)
    value_bare (braced_rule a) = braced_rule (elems_bare a)

    pub simple_bare : {h : Bool} {x : Stmt S} {ts r : Lexemes} → SpellsSimple mark h x ts r → SpellsSimple nowhere h (bare_stmt x) ts r
    simple_bare (eval_rule a) = eval_rule (operand_bare a)
    simple_bare (increment_rule a) = increment_rule (operand_bare a)
    simple_bare (decrement_rule a) = decrement_rule (operand_bare a)
    simple_bare (assign_rule a b) = assign_rule (exprs_bare a) (exprs_bare b)
    simple_bare (define_rule a b) = define_rule (names_bare a) (exprs_bare b)

    pub part_bare : {i : StmtOption S} {ts r : Lexemes} → SpellsPart mark i ts r → SpellsPart nowhere (bare_stmt_option i) ts r
    part_bare no_part_rule = no_part_rule
    part_bare (part_rule a) = part_rule (simple_bare a)

    pub first_bare : {i : StmtOption S} {ts r : Lexemes} → SpellsFirst mark i ts r → SpellsFirst nowhere (bare_stmt_option i) ts r
    first_bare no_first_rule = no_first_rule
    first_bare (first_rule a) = first_rule (part_bare a)

    pub stmt_bare : {x : Stmt S} {ts r : Lexemes} → SpellsStmt mark x ts r → SpellsStmt nowhere (bare_stmt x) ts r
    stmt_bare empty_rule = empty_rule
    stmt_bare (simple_rule a) = simple_rule (simple_bare a)
    stmt_bare (const_rule a) = const_rule (decl_bare a)
    stmt_bare (var_rule a) = var_rule (decl_bare a)
    stmt_bare return_rule = return_rule
    stmt_bare (return_values_rule a) = return_values_rule (exprs_bare a)
    stmt_bare break_rule = break_rule
    stmt_bare break_label_rule = break_label_rule
    stmt_bare continue_rule = continue_rule
    stmt_bare continue_label_rule = continue_label_rule
    stmt_bare (block_rule a) = block_rule (block_bare a)
    stmt_bare (if_rule a) = if_rule (if_bare a)
    stmt_bare (while_rule a b) = while_rule (option_bare a) (block_bare b)
    stmt_bare (for_rule a b c d) = for_rule (part_bare a) (option_bare b) (part_bare c) (block_bare d)
    stmt_bare (range_rule a b c) = range_rule (left_bare a) (operand_bare b) (block_bare c)
    stmt_bare (switch_rule a b c) = switch_rule (first_bare a) (option_bare b) (cases_bare c)
    stmt_bare (defer_rule a) = defer_rule (bare_bare a)
    stmt_bare (label_rule a) = label_rule (stmt_bare a)

    pub block_bare : {sb : S} {body : Stmts S} {ts r : Lexemes} → SpellsBlock mark sb body ts r → SpellsBlock nowhere tt (bare_stmts body) ts r
    block_bare (braces_rule a) = braces_rule (stmts_bare a)

    pub stmts_bare : {body : Stmts S} {ts r : Lexemes} → SpellsStmts mark body ts r → SpellsStmts nowhere (bare_stmts body) ts r
    stmts_bare no_stmts_rule = no_stmts_rule
    stmts_bare (last_stmt_rule {x = x} p d) = last_stmt_rule (still_full x p) (stmt_bare d)
    stmts_bare (more_stmts_rule d k) = more_stmts_rule (stmt_bare d) (stmts_bare k)

    pub if_bare : {arms : Arms S} {last : BlockOption S} {ts r : Lexemes} → SpellsIf mark arms last ts r → SpellsIf nowhere (bare_arms arms) (bare_block_option last) ts r
    if_bare (only_arm_rule a) = only_arm_rule (arm_bare a)
    if_bare (else_rule a b) = else_rule (arm_bare a) (block_bare b)
    if_bare (else_if_rule a b) = else_if_rule (arm_bare a) (if_bare b)

    pub arm_bare : {i : StmtOption S} {t : Expr S} {sb : S} {body : Stmts S} {ts r : Lexemes} → SpellsArm mark i t sb body ts r → SpellsArm nowhere (bare_stmt_option i) (bare_expr t) tt (bare_stmts body) ts r
    arm_bare (arm_rule a b c) = arm_rule (first_bare a) (operand_bare b) (block_bare c)

    pub left_bare : {left : RangeLeft S} {ts r : Lexemes} → SpellsLeft mark left ts r → SpellsLeft nowhere (bare_range_left left) ts r
    left_bare no_left_rule = no_left_rule
    left_bare (assigns_rule a) = assigns_rule (exprs_bare a)
    left_bare (defines_rule a) = defines_rule (names_bare a)

    pub cases_bare : {cs : Cases S} {ts r : Lexemes} → SpellsCases mark cs ts r → SpellsCases nowhere (bare_cases cs) ts r
    cases_bare no_cases_rule = no_cases_rule
    cases_bare (case_rule a b c) = case_rule (exprs_bare a) (stmts_bare b) (cases_bare c)
    cases_bare (default_rule a b) = default_rule (stmts_bare a) (cases_bare b)

    pub decl_bare : {c : Bool} {g : Bool} {ss : ValueSpecs S} {ts r : Lexemes} → SpellsDecl mark c g ss ts r → SpellsDecl nowhere c g (bare_value_specs ss) ts r
    decl_bare (single_rule a) = single_rule (spec_bare a)
    decl_bare (group_rule a) = group_rule (specs_bare a)

    pub specs_bare : {c : Bool} {ss : ValueSpecs S} {ts r : Lexemes} → SpellsSpecs mark c ss ts r → SpellsSpecs nowhere c (bare_value_specs ss) ts r
    specs_bare no_specs_rule = no_specs_rule
    specs_bare (last_spec_rule a) = last_spec_rule (spec_bare a)
    specs_bare (more_specs_rule a b) = more_specs_rule (spec_bare a) (specs_bare b)

    pub spec_bare : {c : Bool} {ns : List (NameAt S)} {t : Option (TypeExpr S)} {xs : Exprs S} {ts r : Lexemes} → SpellsSpec mark c ns t xs ts r → SpellsSpec nowhere c (map bare_name ns) (option_map bare_type t) (bare_exprs xs) ts r
    spec_bare (repeated_rule a) = repeated_rule (names_bare a)
    spec_bare (typed_var_rule a b) = typed_var_rule (names_bare a) (type_bare b)
    spec_bare (values_rule a b) = values_rule (names_bare a) (exprs_bare b)
    spec_bare (typed_values_rule a b c) = typed_values_rule (names_bare a) (type_bare b) (exprs_bare c)

  pub import_spec_bare : {x : ImportSpec S} {ts r : Lexemes} → SpellsImportSpec mark x ts r → SpellsImportSpec nowhere (bare_import_spec x) ts r
  import_spec_bare path_rule = path_rule
  import_spec_bare named_path_rule = named_path_rule

  pub import_specs_bare : {xs : List (ImportSpec S)} {ts r : Lexemes} → SpellsImportSpecs mark xs ts r → SpellsImportSpecs nowhere (map bare_import_spec xs) ts r
  import_specs_bare no_import_specs_rule = no_import_specs_rule
  import_specs_bare (last_import_spec_rule a) = last_import_spec_rule (import_spec_bare a)
  import_specs_bare (more_import_specs_rule a b) = more_import_specs_rule (import_spec_bare a) (import_specs_bare b)

  pub import_bare : {x : ImportDecl S} {ts r : Lexemes} → SpellsImport mark x ts r → SpellsImport nowhere (bare_import_decl x) ts r
  import_bare (import_rule a) = import_rule (import_spec_bare a)
  import_bare (import_group_rule a) = import_group_rule (import_specs_bare a)

  pub type_spec_bare : {x : TypeSpec S} {ts r : Lexemes} → SpellsTypeSpec mark x ts r → SpellsTypeSpec nowhere (bare_type_spec x) ts r
  type_spec_bare (type_spec_rule a) = type_spec_rule (type_bare a)
  type_spec_bare (alias_spec_rule a) = alias_spec_rule (type_bare a)

  pub type_specs_bare : {xs : List (TypeSpec S)} {ts r : Lexemes} → SpellsTypeSpecs mark xs ts r → SpellsTypeSpecs nowhere (map bare_type_spec xs) ts r
  type_specs_bare no_type_specs_rule = no_type_specs_rule
  type_specs_bare (last_type_spec_rule a) = last_type_spec_rule (type_spec_bare a)
  type_specs_bare (more_type_specs_rule a b) = more_type_specs_rule (type_spec_bare a) (type_specs_bare b)

  pub receiver_bare : {x : Receiver S} {ts r : Lexemes} → SpellsReceiver mark x ts r → SpellsReceiver nowhere (bare_receiver x) ts r
  receiver_bare receiver_rule = receiver_rule
  receiver_bare pointer_receiver_rule = pointer_receiver_rule
  receiver_bare named_receiver_rule = named_receiver_rule
  receiver_bare named_pointer_receiver_rule = named_pointer_receiver_rule

  pub top_bare : {x : Decl S} {ts r : Lexemes} → SpellsTop mark x ts r → SpellsTop nowhere (bare_decl x) ts r
  top_bare (top_const_rule a) = top_const_rule (decl_bare a)
  top_bare (top_var_rule a) = top_var_rule (decl_bare a)
  top_bare (top_type_rule a) = top_type_rule (type_spec_bare a)
  top_bare (top_type_group_rule a) = top_type_group_rule (type_specs_bare a)
  top_bare (top_func_rule a b) = top_func_rule (sig_bare a) (block_bare b)
  top_bare (top_method_rule a b c) = top_method_rule (receiver_bare a) (sig_bare b) (block_bare c)

  pub imports_bare : {xs : List (ImportDecl S)} {ts r : Lexemes} → SpellsImports mark xs ts r → SpellsImports nowhere (map bare_import_decl xs) ts r
  imports_bare no_imports_rule = no_imports_rule
  imports_bare (more_imports_rule a b) = more_imports_rule (import_bare a) (imports_bare b)

  pub tops_bare : {xs : List (Decl S)} {ts r : Lexemes} → SpellsTops mark xs ts r → SpellsTops nowhere (map bare_decl xs) ts r
  tops_bare no_tops_rule = no_tops_rule
  tops_bare (more_tops_rule a b) = more_tops_rule (top_bare a) (tops_bare b)

  pub file_bare : {f : File S} {ts r : Lexemes} → SpellsFront mark f ts r → SpellsFront nowhere (bare_file f) ts r
  file_bare (front_rule a b c) = front_rule a (imports_bare b) (tops_bare c)
