-- What spells a tree without spans spells one with spans, which is the same without them.
use Rattle.std.proofs.Common.{◌≡◌, ℕ, Bool, true, false, List, [], ◌∷◌, map, Option, Some, None, refl, sym, ap, ◌∙◌}
use Rattle.std.specs.Option.{option_map}
use Rattle.go_tree.specs.Tree.{NameAt, TypeExpr, Fields, pointer, slice_type, map_type, struct_type, no_fields, field, Param, Sig, Expr, Exprs, ExprOption, Elems, Value, ValueOption, Stmt, Stmts, StmtOption, BlockOption, RangeLeft, Arms, Cases, ValueSpecs, composite, selector, index, slice, call, func_lit, type_operand, unary, binary, star, no_exprs, expr_and, some_expr, no_elems, elem, plain, braced, some_value, const_decl, var_decl, empty, eval, step, assign, define, return_, inner, if_, for_, range_, switch, defer, label, no_stmts, stmt_and, no_stmt, some_stmt, some_block, assigns, defines, no_arms, arm, case, no_specs, spec}
use Rattle.go_tree.specs.Bare.{bare_name, bare_type, bare_fields, bare_param, bare_sig, bare_expr, bare_exprs, bare_expr_option, bare_elems, bare_value, bare_value_option, bare_stmt, bare_stmts, bare_stmt_option, bare_block_option, bare_range_left, bare_arms, bare_cases, bare_value_specs}
use Rattle.go_tree.specs.File.{ImportSpec, ImportDecl, TypeSpec, Receiver, Decl, File, values, types, func}
use Rattle.go_tree.specs.FileBare.{bare_import_spec, bare_import_decl, bare_type_spec, bare_receiver, bare_decl, bare_file}
use Rattle.go_tree.specs.declared.exprs.Rest.{Rest}
use Rattle.go_read.specs.SpellsTypes.{Lexemes, fields_of, params_of, unnamed, SpellsType, SpellsFields, SpellsEntries, SpellsRest, SpellsNamed, SpellsUnnamed, SpellsParams, SpellsResults, SpellsSig, SpellsNames, named_rule, qualified_rule, pointer_rule, slice_type_rule, map_type_rule, struct_type_rule, type_parens_rule, no_fields_rule, last_field_rule, more_fields_rule, last_entry_rule, more_entries_rule, rest_rule, named_rest_rule, last_named_rule, comma_named_rule, more_named_rule, rest_named_rule, comma_rest_named_rule, last_unnamed_rule, comma_unnamed_rule, more_unnamed_rule, rest_unnamed_rule, comma_rest_unnamed_rule, no_params_rule, named_params_rule, unnamed_params_rule, no_results_rule, params_results_rule, type_result_rule, sig_rule, last_name_rule, more_names_rule}
use Rattle.go_read.specs.Spells.{is_func_lit, is_empty, SpellsLiteralType, SpellsBare, SpellsExpr, SpellsOperand, SpellsOption, SpellsExprs, SpellsArgs, SpellsElems, SpellsElem, SpellsValue, SpellsSimple, SpellsPart, SpellsFirst, SpellsStmt, SpellsBlock, SpellsStmts, SpellsIf, SpellsArm, SpellsLeft, SpellsCases, SpellsDecl, SpellsSpecs, SpellsSpec, named_literal_rule, qualified_literal_rule, type_literal_rule, ident_rule, int_rule, rune_rule, text_rule, composite_rule, func_rule, type_rule, selector_rule, index_rule, slice_rule, call_rule, unary_rule, star_rule, binary_rule, bare_rule, parens_rule, operand_rule, no_expr_rule, some_expr_rule, last_expr_rule, more_exprs_rule, no_args_rule, args_rule, comma_args_rule, rest_args_rule, comma_rest_args_rule, no_elems_rule, last_elem_rule, more_elems_rule, value_rule, keyed_rule, plain_rule, braced_rule, eval_rule, increment_rule, decrement_rule, assign_rule, define_rule, no_part_rule, part_rule, no_first_rule, first_rule, empty_rule, simple_rule, const_rule, var_rule, return_rule, return_values_rule, break_rule, break_label_rule, continue_rule, continue_label_rule, block_rule, if_rule, while_rule, for_rule, range_rule, switch_rule, defer_rule, label_rule, braces_rule, no_stmts_rule, last_stmt_rule, more_stmts_rule, only_arm_rule, else_rule, else_if_rule, arm_rule, no_left_rule, assigns_rule, defines_rule, no_cases_rule, case_rule, default_rule, single_rule, group_rule, no_specs_rule, last_spec_rule, more_specs_rule, repeated_rule, typed_var_rule, values_rule, typed_values_rule}
use Rattle.go_read.specs.SpellsFiles.{SpellsImportSpec, SpellsImportSpecs, SpellsImport, SpellsTypeSpec, SpellsTypeSpecs, SpellsReceiver, SpellsTop, SpellsImports, SpellsTops, SpellsFront, path_rule, named_path_rule, no_import_specs_rule, last_import_spec_rule, more_import_specs_rule, import_rule, import_group_rule, type_spec_rule, alias_spec_rule, no_type_specs_rule, last_type_spec_rule, more_type_specs_rule, receiver_rule, pointer_receiver_rule, named_receiver_rule, named_pointer_receiver_rule, top_const_rule, top_var_rule, top_type_rule, top_type_group_rule, top_func_rule, top_method_rule, no_imports_rule, more_imports_rule, no_tops_rule, more_tops_rule, front_rule}
use Rattle.go_read.specs.Bareness.{nowhere}
use Rattle.splice_laws.proofs.Grafts.{U}

module _ {S : Type 0} (mark : Lexemes → Lexemes → S) where
  abbrev bare_entries : List (S × NameAt S) → List (U × NameAt U)
  bare_entries [] = []
  bare_entries (e ∷ es) = (tt, bare_name e.1) ∷ bare_entries es

  entries_fields : (es : List (S × NameAt S)) (t : TypeExpr S) (fs : Fields S) → bare_fields (fields_of es t fs) ≡ fields_of (bare_entries es) (bare_type t) (bare_fields fs)
  entries_fields [] t fs = refl
  entries_fields (e ∷ es) t fs = ap (field tt (bare_name e.1) (bare_type t)) (entries_fields es t fs)

  entries_params : (es : List (S × NameAt S)) (t : TypeExpr S) (ps : List (Param S)) → map bare_param (params_of es t ps) ≡ params_of (bare_entries es) (bare_type t) (map bare_param ps)
  entries_params [] t ps = refl
  entries_params (e ∷ es) t ps = ap (λ (qs : List (Param U)). record { span = tt; name = Some (bare_name e.1); rest = false; of = bare_type t } ∷ qs) (entries_params es t ps)

  same_literal : (y : Expr S) → is_func_lit (bare_expr y) ≡ is_func_lit y
  same_literal (func_lit _ _ _ _) = refl
  same_literal _ = refl

  no_literal : (y : Expr S) (e : Expr U) → bare_expr y ≡ e → is_func_lit e ≡ false → is_func_lit y ≡ false
  no_literal y e q p = sym (same_literal y) ∙ ap is_func_lit q ∙ p

  same_empty : (y : Stmt S) → is_empty (bare_stmt y) ≡ is_empty y
  same_empty (empty _) = refl
  same_empty _ = refl

  not_empty : (y : Stmt S) (x : Stmt U) → bare_stmt y ≡ x → is_empty x ≡ false → is_empty y ≡ false
  not_empty y x q p = sym (same_empty y) ∙ ap is_empty q ∙ p

  mutual
    pub type_marked : {a0 : TypeExpr U} {ts r : Lexemes} → SpellsType nowhere a0 ts r → (y0 : TypeExpr S) × (bare_type y0 ≡ a0) × SpellsType mark y0 ts r
    type_marked (named_rule {n = n}) = (_, refl, named_rule)
    type_marked (qualified_rule {p = p} {n = n}) = (_, refl, qualified_rule)
    type_marked (pointer_rule d1) = let z0 = type_marked d1 in (_, ap (λ (v0 : TypeExpr U). (pointer tt v0)) z0.1, pointer_rule z0.2)
    type_marked (slice_type_rule d1) = let z0 = type_marked d1 in (_, ap (λ (v0 : TypeExpr U). (slice_type tt v0)) z0.1, slice_type_rule z0.2)
    type_marked (map_type_rule {k = k} d1 d2) = let z0 = type_marked d1 in let z1 = type_marked d2 in (_, ap (λ (v0 : TypeExpr U). (map_type tt v0 (bare_type z1.0))) z0.1 ∙ ap (λ (v0 : TypeExpr U). (map_type tt k v0)) z1.1, map_type_rule z0.2 z1.2)
    type_marked (struct_type_rule d1) = let z0 = fields_marked d1 in (_, ap (λ (v0 : Fields U). (struct_type tt v0)) z0.1, struct_type_rule z0.2)
    type_marked (type_parens_rule d1) = let z0 = type_marked d1 in (_, z0.1, type_parens_rule z0.2)

    pub fields_marked : {a0 : Fields U} {ts r : Lexemes} → SpellsFields nowhere a0 ts r → (y0 : Fields S) × (bare_fields y0 ≡ a0) × SpellsFields mark y0 ts r
    fields_marked no_fields_rule = (_, refl, no_fields_rule)
    fields_marked (last_field_rule {t = t} d1) = let z0 = entries_marked d1 in (_, entries_fields z0.1 z0.0 no_fields ∙ ap (λ (v0 : TypeExpr U). (fields_of (bare_entries z0.1) v0 no_fields)) z0.2 ∙ ap (λ (v0 : List (U × NameAt U)). (fields_of v0 t no_fields)) z0.3, last_field_rule z0.4)
    fields_marked (more_fields_rule {t = t} {es = es} d1 d2) = let z0 = entries_marked d1 in let z1 = fields_marked d2 in (_, entries_fields z0.1 z0.0 z1.0 ∙ ap (λ (v0 : TypeExpr U). (fields_of (bare_entries z0.1) v0 (bare_fields z1.0))) z0.2 ∙ ap (λ (v0 : List (U × NameAt U)). (fields_of v0 t (bare_fields z1.0))) z0.3 ∙ ap (λ (v0 : Fields U). (fields_of es t v0)) z1.1, more_fields_rule z0.4 z1.2)

    pub entries_marked : {a0 : TypeExpr U} {a1 : List (U × NameAt U)} {ts r : Lexemes} → SpellsEntries nowhere a0 a1 ts r → (y0 : TypeExpr S) × (y1 : List (S × NameAt S)) × (bare_type y0 ≡ a0) × (bare_entries y1 ≡ a1) × SpellsEntries mark y0 y1 ts r
    entries_marked (last_entry_rule {n = n} d1) = let z0 = type_marked d1 in (_, _, z0.1, refl, last_entry_rule z0.2)
    entries_marked (more_entries_rule {n = n} d1) = let z0 = entries_marked d1 in (_, _, z0.2, ap (λ (v0 : List (U × NameAt U)). ((tt, record { span = tt; name = n }) ∷ v0)) z0.3, more_entries_rule z0.4)

  pub rest_marked : {a0 : Bool} {a1 : Param U} {ts r : Lexemes} → SpellsRest nowhere a0 a1 ts r → (y1 : Param S) × (bare_param y1 ≡ a1) × SpellsRest mark a0 y1 ts r
  rest_marked (rest_rule d1) = let z0 = type_marked d1 in (_, ap (λ (v0 : TypeExpr U). (record { span = tt; name = None; rest = true; of = v0 })) z0.1, rest_rule z0.2)
  rest_marked (named_rest_rule {n = n} d1) = let z0 = type_marked d1 in (_, ap (λ (v0 : TypeExpr U). (record { span = tt; name = Some (record { span = tt; name = n }); rest = true; of = v0 })) z0.1, named_rest_rule z0.2)

  pub named_marked : {a0 : Bool} {a1 : List (Param U)} {ts r : Lexemes} → SpellsNamed nowhere a0 a1 ts r → (y1 : List (Param S)) × ((map bare_param) y1 ≡ a1) × SpellsNamed mark a0 y1 ts r
  named_marked (last_named_rule {t = t} d1) = let z0 = entries_marked d1 in (_, entries_params z0.1 z0.0 [] ∙ ap (λ (v0 : TypeExpr U). (params_of (bare_entries z0.1) v0 [])) z0.2 ∙ ap (λ (v0 : List (U × NameAt U)). (params_of v0 t [])) z0.3, last_named_rule z0.4)
  named_marked (comma_named_rule {t = t} d1) = let z0 = entries_marked d1 in (_, entries_params z0.1 z0.0 [] ∙ ap (λ (v0 : TypeExpr U). (params_of (bare_entries z0.1) v0 [])) z0.2 ∙ ap (λ (v0 : List (U × NameAt U)). (params_of v0 t [])) z0.3, comma_named_rule z0.4)
  named_marked (more_named_rule {t = t} {es = es} d1 d2) = let z0 = entries_marked d1 in let z1 = named_marked d2 in (_, entries_params z0.1 z0.0 z1.0 ∙ ap (λ (v0 : TypeExpr U). (params_of (bare_entries z0.1) v0 ((map bare_param) z1.0))) z0.2 ∙ ap (λ (v0 : List (U × NameAt U)). (params_of v0 t ((map bare_param) z1.0))) z0.3 ∙ ap (λ (v0 : List (Param U)). (params_of es t v0)) z1.1, more_named_rule z0.4 z1.2)
  named_marked (rest_named_rule d1) = let z0 = rest_marked d1 in (_, ap (λ (v0 : Param U). (v0 ∷ [])) z0.1, rest_named_rule z0.2)
  named_marked (comma_rest_named_rule d1) = let z0 = rest_marked d1 in (_, ap (λ (v0 : Param U). (v0 ∷ [])) z0.1, comma_rest_named_rule z0.2)

  pub unnamed_marked : {a0 : Bool} {a1 : List (Param U)} {ts r : Lexemes} → SpellsUnnamed nowhere a0 a1 ts r → (y1 : List (Param S)) × ((map bare_param) y1 ≡ a1) × SpellsUnnamed mark a0 y1 ts r
  unnamed_marked (last_unnamed_rule d1) = let z0 = type_marked d1 in (_, ap (λ (v0 : TypeExpr U). (unnamed v0 ∷ [])) z0.1, last_unnamed_rule z0.2)
  unnamed_marked (comma_unnamed_rule d1) = let z0 = type_marked d1 in (_, ap (λ (v0 : TypeExpr U). (unnamed v0 ∷ [])) z0.1, comma_unnamed_rule z0.2)
  unnamed_marked (more_unnamed_rule {t = t} d1 d2) = let z0 = type_marked d1 in let z1 = unnamed_marked d2 in (_, ap (λ (v0 : TypeExpr U). (unnamed v0 ∷ ((map bare_param) z1.0))) z0.1 ∙ ap (λ (v0 : List (Param U)). (unnamed t ∷ v0)) z1.1, more_unnamed_rule z0.2 z1.2)
  unnamed_marked (rest_unnamed_rule d1) = let z0 = rest_marked d1 in (_, ap (λ (v0 : Param U). (v0 ∷ [])) z0.1, rest_unnamed_rule z0.2)
  unnamed_marked (comma_rest_unnamed_rule d1) = let z0 = rest_marked d1 in (_, ap (λ (v0 : Param U). (v0 ∷ [])) z0.1, comma_rest_unnamed_rule z0.2)

  pub params_marked : {a0 : Bool} {a1 : List (Param U)} {ts r : Lexemes} → SpellsParams nowhere a0 a1 ts r → (y1 : List (Param S)) × ((map bare_param) y1 ≡ a1) × SpellsParams mark a0 y1 ts r
  params_marked no_params_rule = (_, refl, no_params_rule)
  params_marked (named_params_rule d1) = let z0 = named_marked d1 in (_, z0.1, named_params_rule z0.2)
  params_marked (unnamed_params_rule d1) = let z0 = unnamed_marked d1 in (_, z0.1, unnamed_params_rule z0.2)

  pub results_marked : {a0 : List (Param U)} {ts r : Lexemes} → SpellsResults nowhere a0 ts r → (y0 : List (Param S)) × ((map bare_param) y0 ≡ a0) × SpellsResults mark y0 ts r
  results_marked no_results_rule = (_, refl, no_results_rule)
  results_marked (params_results_rule d1) = let z0 = params_marked d1 in (_, z0.1, params_results_rule z0.2)
  results_marked (type_result_rule d1) = let z0 = type_marked d1 in (_, ap (λ (v0 : TypeExpr U). (unnamed v0 ∷ [])) z0.1, type_result_rule z0.2)

  pub sig_marked : {a0 : Bool} {a1 : Sig U} {ts r : Lexemes} → SpellsSig nowhere a0 a1 ts r → (y1 : Sig S) × (bare_sig y1 ≡ a1) × SpellsSig mark a0 y1 ts r
  sig_marked (sig_rule {ps = ps} d1 d2) = let z0 = params_marked d1 in let z1 = results_marked d2 in (_, ap (λ (v0 : List (Param U)). (record { params = v0; results = ((map bare_param) z1.0) })) z0.1 ∙ ap (λ (v0 : List (Param U)). (record { params = ps; results = v0 })) z1.1, sig_rule z0.2 z1.2)

  pub names_marked : {a0 : List (NameAt U)} {ts r : Lexemes} → SpellsNames nowhere a0 ts r → (y0 : List (NameAt S)) × ((map bare_name) y0 ≡ a0) × SpellsNames mark y0 ts r
  names_marked (last_name_rule {n = n}) = (_, refl, last_name_rule)
  names_marked (more_names_rule {n = n} d1) = let z0 = names_marked d1 in (_, ap (λ (v0 : List (NameAt U)). (record { span = tt; name = n } ∷ v0)) z0.1, more_names_rule z0.2)

  pub literal_marked : {a0 : Bool} {a1 : TypeExpr U} {ts r : Lexemes} → SpellsLiteralType nowhere a0 a1 ts r → (y1 : TypeExpr S) × (bare_type y1 ≡ a1) × SpellsLiteralType mark a0 y1 ts r
  literal_marked (named_literal_rule {n = n}) = (_, refl, named_literal_rule)
  literal_marked (qualified_literal_rule {p = p} {n = n}) = (_, refl, qualified_literal_rule)
  literal_marked (type_literal_rule d1 d2) = let z0 = type_marked d2 in (_, z0.1, type_literal_rule d1 z0.2)

  mutual
    pub bare_marked : {a0 : ℕ} {a1 : Bool} {a2 : Expr U} {ts r : Lexemes} → SpellsBare nowhere a0 a1 a2 ts r → (y2 : Expr S) × (bare_expr y2 ≡ a2) × SpellsBare mark a0 a1 y2 ts r
    bare_marked (ident_rule {n = n}) = (_, refl, ident_rule)
    bare_marked (int_rule {n = n}) = (_, refl, int_rule)
    bare_marked (rune_rule {n = n}) = (_, refl, rune_rule)
    bare_marked (text_rule {n = n}) = (_, refl, text_rule)
    bare_marked (composite_rule {t = t} d1 d2) = let z0 = literal_marked d1 in let z1 = elems_marked d2 in (_, ap (λ (v0 : TypeExpr U). (composite tt v0 (bare_elems z1.0))) z0.1 ∙ ap (λ (v0 : Elems U). (composite tt t v0)) z1.1, composite_rule z0.2 z1.2)
    bare_marked (func_rule {g = g} d1 d2) = let z0 = sig_marked d1 in let z1 = block_marked d2 in (_, ap (λ (v0 : Sig U). (func_lit tt v0 tt (bare_stmts z1.1))) z0.1 ∙ ap (λ (v0 : Stmts U). (func_lit tt g tt v0)) z1.2, func_rule z0.2 z1.3)
    bare_marked (type_rule d1 d2 d3) = let z0 = type_marked d2 in (_, ap (λ (v0 : TypeExpr U). (type_operand tt v0)) z0.1, type_rule d1 z0.2 d3)
    bare_marked (selector_rule {n = n} d1) = let z0 = operand_marked d1 in (_, ap (λ (v0 : Expr U). (selector tt v0 (record { span = tt; name = n }))) z0.1, selector_rule z0.2)
    bare_marked (index_rule {e = e} d1 d2) = let z0 = operand_marked d1 in let z1 = operand_marked d2 in (_, ap (λ (v0 : Expr U). (index tt v0 (bare_expr z1.0))) z0.1 ∙ ap (λ (v0 : Expr U). (index tt e v0)) z1.1, index_rule z0.2 z1.2)
    bare_marked (slice_rule {e = e} {i = i} d1 d2 d3) = let z0 = operand_marked d1 in let z1 = option_marked d2 in let z2 = option_marked d3 in (_, ap (λ (v0 : Expr U). (slice tt v0 (bare_expr_option z1.0) (bare_expr_option z2.0))) z0.1 ∙ ap (λ (v0 : ExprOption U). (slice tt e v0 (bare_expr_option z2.0))) z1.1 ∙ ap (λ (v0 : ExprOption U). (slice tt e i v0)) z2.1, slice_rule z0.2 z1.2 z2.2)
    bare_marked (call_rule {f = f} {rest = rest} d1 d2) = let z0 = expr_marked d1 in let z1 = args_marked d2 in (_, ap (λ (v0 : Expr U). (call tt v0 (bare_exprs z1.0) rest)) z0.1 ∙ ap (λ (v0 : Exprs U). (call tt f v0 rest)) z1.1, call_rule z0.2 z1.2)
    bare_marked (unary_rule {op = op} d1 d2) = let z0 = operand_marked d2 in (_, ap (λ (v0 : Expr U). (unary tt op v0)) z0.1, unary_rule d1 z0.2)
    bare_marked (star_rule d1 d2) = let z0 = operand_marked d2 in (_, ap (λ (v0 : Expr U). (star tt v0)) z0.1, star_rule d1 z0.2)
    bare_marked (binary_rule {op = op} {a = a} d1 d2 d3) = let z0 = operand_marked d2 in let z1 = operand_marked d3 in (_, ap (λ (v0 : Expr U). (binary tt op v0 (bare_expr z1.0))) z0.1 ∙ ap (λ (v0 : Expr U). (binary tt op a v0)) z1.1, binary_rule d1 z0.2 z1.2)

    pub expr_marked : {a0 : ℕ} {a1 : Bool} {a2 : Expr U} {ts r : Lexemes} → SpellsExpr nowhere a0 a1 a2 ts r → (y2 : Expr S) × (bare_expr y2 ≡ a2) × SpellsExpr mark a0 a1 y2 ts r
    expr_marked (bare_rule d1) = let z0 = bare_marked d1 in (_, z0.1, bare_rule z0.2)
    expr_marked (parens_rule d1) = let z0 = expr_marked d1 in (_, z0.1, parens_rule z0.2)

    pub operand_marked : {a0 : ℕ} {a1 : Bool} {a2 : Expr U} {ts r : Lexemes} → SpellsOperand nowhere a0 a1 a2 ts r → (y2 : Expr S) × (bare_expr y2 ≡ a2) × SpellsOperand mark a0 a1 y2 ts r
    operand_marked (operand_rule {e = e} d1 d2) = let z0 = expr_marked d2 in (_, z0.1, operand_rule (no_literal z0.0 e z0.1 d1) z0.2)

    pub option_marked : {a0 : Bool} {a1 : ExprOption U} {ts r : Lexemes} → SpellsOption nowhere a0 a1 ts r → (y1 : ExprOption S) × (bare_expr_option y1 ≡ a1) × SpellsOption mark a0 y1 ts r
    option_marked no_expr_rule = (_, refl, no_expr_rule)
    option_marked (some_expr_rule d1) = let z0 = operand_marked d1 in (_, ap (λ (v0 : Expr U). (some_expr v0)) z0.1, some_expr_rule z0.2)

    pub exprs_marked : {a0 : Bool} {a1 : Exprs U} {ts r : Lexemes} → SpellsExprs nowhere a0 a1 ts r → (y1 : Exprs S) × (bare_exprs y1 ≡ a1) × SpellsExprs mark a0 y1 ts r
    exprs_marked (last_expr_rule d1) = let z0 = operand_marked d1 in (_, ap (λ (v0 : Expr U). (expr_and v0 no_exprs)) z0.1, last_expr_rule z0.2)
    exprs_marked (more_exprs_rule {e = e} d1 d2) = let z0 = operand_marked d1 in let z1 = exprs_marked d2 in (_, ap (λ (v0 : Expr U). (expr_and v0 (bare_exprs z1.0))) z0.1 ∙ ap (λ (v0 : Exprs U). (expr_and e v0)) z1.1, more_exprs_rule z0.2 z1.2)

    pub args_marked : {a0 : Exprs U} {a1 : Rest} {ts r : Lexemes} → SpellsArgs nowhere a0 a1 ts r → (y0 : Exprs S) × (bare_exprs y0 ≡ a0) × SpellsArgs mark y0 a1 ts r
    args_marked no_args_rule = (_, refl, no_args_rule)
    args_marked (args_rule d1) = let z0 = exprs_marked d1 in (_, z0.1, args_rule z0.2)
    args_marked (comma_args_rule d1) = let z0 = exprs_marked d1 in (_, z0.1, comma_args_rule z0.2)
    args_marked (rest_args_rule d1) = let z0 = exprs_marked d1 in (_, z0.1, rest_args_rule z0.2)
    args_marked (comma_rest_args_rule d1) = let z0 = exprs_marked d1 in (_, z0.1, comma_rest_args_rule z0.2)

    pub elems_marked : {a0 : Elems U} {ts r : Lexemes} → SpellsElems nowhere a0 ts r → (y0 : Elems S) × (bare_elems y0 ≡ a0) × SpellsElems mark y0 ts r
    elems_marked no_elems_rule = (_, refl, no_elems_rule)
    elems_marked (last_elem_rule {k = k} d1) = let z0 = elem_marked d1 in (_, ap (λ (v0 : ValueOption U). (elem tt v0 (bare_value z0.1) no_elems)) z0.2 ∙ ap (λ (v0 : Value U). (elem tt k v0 no_elems)) z0.3, last_elem_rule z0.4)
    elems_marked (more_elems_rule {k = k} {v = v} d1 d2) = let z0 = elem_marked d1 in let z1 = elems_marked d2 in (_, ap (λ (v0 : ValueOption U). (elem tt v0 (bare_value z0.1) (bare_elems z1.0))) z0.2 ∙ ap (λ (v0 : Value U). (elem tt k v0 (bare_elems z1.0))) z0.3 ∙ ap (λ (v0 : Elems U). (elem tt k v v0)) z1.1, more_elems_rule z0.4 z1.2)

    pub elem_marked : {a0 : ValueOption U} {a1 : Value U} {ts r : Lexemes} → SpellsElem nowhere a0 a1 ts r → (y0 : ValueOption S) × (y1 : Value S) × (bare_value_option y0 ≡ a0) × (bare_value y1 ≡ a1) × SpellsElem mark y0 y1 ts r
    elem_marked (value_rule d1) = let z0 = value_marked d1 in (_, _, refl, z0.1, value_rule z0.2)
    elem_marked (keyed_rule d1 d2) = let z0 = value_marked d1 in let z1 = value_marked d2 in (_, _, ap (λ (v0 : Value U). (some_value v0)) z0.1, z1.1, keyed_rule z0.2 z1.2)

    pub value_marked : {a0 : Value U} {ts r : Lexemes} → SpellsValue nowhere a0 ts r → (y0 : Value S) × (bare_value y0 ≡ a0) × SpellsValue mark y0 ts r
    value_marked (plain_rule d1) = let z0 = operand_marked d1 in (_, ap (λ (v0 : Expr U). (plain v0)) z0.1, plain_rule z0.2)
    value_marked (braced_rule d1) = let z0 = elems_marked d1 in (_, ap (λ (v0 : Elems U). (braced tt v0)) z0.1, braced_rule z0.2)

    pub simple_marked : {a0 : Bool} {a1 : Stmt U} {ts r : Lexemes} → SpellsSimple nowhere a0 a1 ts r → (y1 : Stmt S) × (bare_stmt y1 ≡ a1) × SpellsSimple mark a0 y1 ts r
    simple_marked (eval_rule d1) = let z0 = operand_marked d1 in (_, ap (λ (v0 : Expr U). (eval tt v0)) z0.1, eval_rule z0.2)
    simple_marked (increment_rule d1) = let z0 = operand_marked d1 in (_, ap (λ (v0 : Expr U). (step tt v0 true)) z0.1, increment_rule z0.2)
    simple_marked (decrement_rule d1) = let z0 = operand_marked d1 in (_, ap (λ (v0 : Expr U). (step tt v0 false)) z0.1, decrement_rule z0.2)
    simple_marked (assign_rule {op = op} {xs = xs} d1 d2) = let z0 = exprs_marked d1 in let z1 = exprs_marked d2 in (_, ap (λ (v0 : Exprs U). (assign tt v0 op (bare_exprs z1.0))) z0.1 ∙ ap (λ (v0 : Exprs U). (assign tt xs op v0)) z1.1, assign_rule z0.2 z1.2)
    simple_marked (define_rule {ns = ns} d1 d2) = let z0 = names_marked d1 in let z1 = exprs_marked d2 in (_, ap (λ (v0 : List (NameAt U)). (define tt v0 (bare_exprs z1.0))) z0.1 ∙ ap (λ (v0 : Exprs U). (define tt ns v0)) z1.1, define_rule z0.2 z1.2)

    pub part_marked : {a0 : StmtOption U} {ts r : Lexemes} → SpellsPart nowhere a0 ts r → (y0 : StmtOption S) × (bare_stmt_option y0 ≡ a0) × SpellsPart mark y0 ts r
    part_marked no_part_rule = (_, refl, no_part_rule)
    part_marked (part_rule d1) = let z0 = simple_marked d1 in (_, ap (λ (v0 : Stmt U). (some_stmt v0)) z0.1, part_rule z0.2)

    pub first_marked : {a0 : StmtOption U} {ts r : Lexemes} → SpellsFirst nowhere a0 ts r → (y0 : StmtOption S) × (bare_stmt_option y0 ≡ a0) × SpellsFirst mark y0 ts r
    first_marked no_first_rule = (_, refl, no_first_rule)
    first_marked (first_rule d1) = let z0 = part_marked d1 in (_, z0.1, first_rule z0.2)

    pub stmt_marked : {a0 : Stmt U} {ts r : Lexemes} → SpellsStmt nowhere a0 ts r → (y0 : Stmt S) × (bare_stmt y0 ≡ a0) × SpellsStmt mark y0 ts r
    stmt_marked empty_rule = (_, refl, empty_rule)
    stmt_marked (simple_rule d1) = let z0 = simple_marked d1 in (_, z0.1, simple_rule z0.2)
    stmt_marked (const_rule {grouped = grouped} d1) = let z0 = decl_marked d1 in (_, ap (λ (v0 : ValueSpecs U). (const_decl tt grouped v0)) z0.1, const_rule z0.2)
    stmt_marked (var_rule {grouped = grouped} d1) = let z0 = decl_marked d1 in (_, ap (λ (v0 : ValueSpecs U). (var_decl tt grouped v0)) z0.1, var_rule z0.2)
    stmt_marked return_rule = (_, refl, return_rule)
    stmt_marked (return_values_rule d1) = let z0 = exprs_marked d1 in (_, ap (λ (v0 : Exprs U). (return_ tt v0)) z0.1, return_values_rule z0.2)
    stmt_marked break_rule = (_, refl, break_rule)
    stmt_marked (break_label_rule {n = n}) = (_, refl, break_label_rule)
    stmt_marked continue_rule = (_, refl, continue_rule)
    stmt_marked (continue_label_rule {n = n}) = (_, refl, continue_label_rule)
    stmt_marked (block_rule d1) = let z0 = block_marked d1 in (_, ap (λ (v0 : Stmts U). (inner tt v0)) z0.2, block_rule z0.3)
    stmt_marked (if_rule {arms = arms} d1) = let z0 = if_marked d1 in (_, ap (λ (v0 : Arms U). (if_ tt v0 (bare_block_option z0.1))) z0.2 ∙ ap (λ (v0 : BlockOption U). (if_ tt arms v0)) z0.3, if_rule z0.4)
    stmt_marked (while_rule {t = t} d1 d2) = let z0 = option_marked d1 in let z1 = block_marked d2 in (_, ap (λ (v0 : ExprOption U). (for_ tt no_stmt v0 no_stmt tt (bare_stmts z1.1))) z0.1 ∙ ap (λ (v0 : Stmts U). (for_ tt no_stmt t no_stmt tt v0)) z1.2, while_rule z0.2 z1.3)
    stmt_marked (for_rule {i = i} {p = p} {t = t} d1 d2 d3 d4) = let z0 = part_marked d1 in let z1 = option_marked d2 in let z2 = part_marked d3 in let z3 = block_marked d4 in (_, ap (λ (v0 : StmtOption U). (for_ tt v0 (bare_expr_option z1.0) (bare_stmt_option z2.0) tt (bare_stmts z3.1))) z0.1 ∙ ap (λ (v0 : ExprOption U). (for_ tt i v0 (bare_stmt_option z2.0) tt (bare_stmts z3.1))) z1.1 ∙ ap (λ (v0 : StmtOption U). (for_ tt i t v0 tt (bare_stmts z3.1))) z2.1 ∙ ap (λ (v0 : Stmts U). (for_ tt i t p tt v0)) z3.2, for_rule z0.2 z1.2 z2.2 z3.3)
    stmt_marked (range_rule {left = left} {e = e} d1 d2 d3) = let z0 = left_marked d1 in let z1 = operand_marked d2 in let z2 = block_marked d3 in (_, ap (λ (v0 : RangeLeft U). (range_ tt v0 (bare_expr z1.0) tt (bare_stmts z2.1))) z0.1 ∙ ap (λ (v0 : Expr U). (range_ tt left v0 tt (bare_stmts z2.1))) z1.1 ∙ ap (λ (v0 : Stmts U). (range_ tt left e tt v0)) z2.2, range_rule z0.2 z1.2 z2.3)
    stmt_marked (switch_rule {i = i} {t = t} d1 d2 d3) = let z0 = first_marked d1 in let z1 = option_marked d2 in let z2 = cases_marked d3 in (_, ap (λ (v0 : StmtOption U). (switch tt v0 (bare_expr_option z1.0) (bare_cases z2.0))) z0.1 ∙ ap (λ (v0 : ExprOption U). (switch tt i v0 (bare_cases z2.0))) z1.1 ∙ ap (λ (v0 : Cases U). (switch tt i t v0)) z2.1, switch_rule z0.2 z1.2 z2.2)
    stmt_marked (defer_rule (call_rule {f = f} {xs = xs} {rest = rest} d1 d2)) = let z0 = expr_marked d1 in let z1 = args_marked d2 in (_, ap (λ (v : Expr U). defer tt (call tt v (bare_exprs z1.0) rest)) z0.1 ∙ ap (λ (v : Exprs U). defer tt (call tt f v rest)) z1.1, defer_rule (call_rule z0.2 z1.2))
    stmt_marked (label_rule {n = n} d1) = let z0 = stmt_marked d1 in (_, ap (λ (v0 : Stmt U). (label tt (record { span = tt; name = n }) v0)) z0.1, label_rule z0.2)

    pub block_marked : {a0 : U} {a1 : Stmts U} {ts r : Lexemes} → SpellsBlock nowhere a0 a1 ts r → (y0 : S) × (y1 : Stmts S) × (bare_stmts y1 ≡ a1) × SpellsBlock mark y0 y1 ts r
    block_marked (braces_rule d1) = let z0 = stmts_marked d1 in (_, _, z0.1, braces_rule z0.2)

    pub stmts_marked : {a0 : Stmts U} {ts r : Lexemes} → SpellsStmts nowhere a0 ts r → (y0 : Stmts S) × (bare_stmts y0 ≡ a0) × SpellsStmts mark y0 ts r
    stmts_marked no_stmts_rule = (_, refl, no_stmts_rule)
    stmts_marked (last_stmt_rule {x = x} d1 d2) = let z0 = stmt_marked d2 in (_, ap (λ (v0 : Stmt U). (stmt_and v0 no_stmts)) z0.1, last_stmt_rule (not_empty z0.0 x z0.1 d1) z0.2)
    stmts_marked (more_stmts_rule {x = x} d1 d2) = let z0 = stmt_marked d1 in let z1 = stmts_marked d2 in (_, ap (λ (v0 : Stmt U). (stmt_and v0 (bare_stmts z1.0))) z0.1 ∙ ap (λ (v0 : Stmts U). (stmt_and x v0)) z1.1, more_stmts_rule z0.2 z1.2)

    pub if_marked : {a0 : Arms U} {a1 : BlockOption U} {ts r : Lexemes} → SpellsIf nowhere a0 a1 ts r → (y0 : Arms S) × (y1 : BlockOption S) × (bare_arms y0 ≡ a0) × (bare_block_option y1 ≡ a1) × SpellsIf mark y0 y1 ts r
    if_marked (only_arm_rule {i = i} {t = t} d1) = let z0 = arm_marked d1 in (_, _, ap (λ (v0 : StmtOption U). (arm tt v0 (bare_expr z0.1) tt (bare_stmts z0.3) no_arms)) z0.4 ∙ ap (λ (v0 : Expr U). (arm tt i v0 tt (bare_stmts z0.3) no_arms)) z0.5 ∙ ap (λ (v0 : Stmts U). (arm tt i t tt v0 no_arms)) z0.6, refl, only_arm_rule z0.7)
    if_marked (else_rule {i = i} {t = t} d1 d2) = let z0 = arm_marked d1 in let z1 = block_marked d2 in (_, _, ap (λ (v0 : StmtOption U). (arm tt v0 (bare_expr z0.1) tt (bare_stmts z0.3) no_arms)) z0.4 ∙ ap (λ (v0 : Expr U). (arm tt i v0 tt (bare_stmts z0.3) no_arms)) z0.5 ∙ ap (λ (v0 : Stmts U). (arm tt i t tt v0 no_arms)) z0.6, ap (λ (v0 : Stmts U). (some_block tt v0)) z1.2, else_rule z0.7 z1.3)
    if_marked (else_if_rule {i = i} {t = t} {body = body} d1 d2) = let z0 = arm_marked d1 in let z1 = if_marked d2 in (_, _, ap (λ (v0 : StmtOption U). (arm tt v0 (bare_expr z0.1) tt (bare_stmts z0.3) (bare_arms z1.0))) z0.4 ∙ ap (λ (v0 : Expr U). (arm tt i v0 tt (bare_stmts z0.3) (bare_arms z1.0))) z0.5 ∙ ap (λ (v0 : Stmts U). (arm tt i t tt v0 (bare_arms z1.0))) z0.6 ∙ ap (λ (v0 : Arms U). (arm tt i t tt body v0)) z1.2, z1.3, else_if_rule z0.7 z1.4)

    pub arm_marked : {a0 : StmtOption U} {a1 : Expr U} {a2 : U} {a3 : Stmts U} {ts r : Lexemes} → SpellsArm nowhere a0 a1 a2 a3 ts r → (y0 : StmtOption S) × (y1 : Expr S) × (y2 : S) × (y3 : Stmts S) × (bare_stmt_option y0 ≡ a0) × (bare_expr y1 ≡ a1) × (bare_stmts y3 ≡ a3) × SpellsArm mark y0 y1 y2 y3 ts r
    arm_marked (arm_rule d1 d2 d3) = let z0 = first_marked d1 in let z1 = operand_marked d2 in let z2 = block_marked d3 in (_, _, _, _, z0.1, z1.1, z2.2, arm_rule z0.2 z1.2 z2.3)

    pub left_marked : {a0 : RangeLeft U} {ts r : Lexemes} → SpellsLeft nowhere a0 ts r → (y0 : RangeLeft S) × (bare_range_left y0 ≡ a0) × SpellsLeft mark y0 ts r
    left_marked no_left_rule = (_, refl, no_left_rule)
    left_marked (assigns_rule d1) = let z0 = exprs_marked d1 in (_, ap (λ (v0 : Exprs U). (assigns v0)) z0.1, assigns_rule z0.2)
    left_marked (defines_rule d1) = let z0 = names_marked d1 in (_, ap (λ (v0 : List (NameAt U)). (defines v0)) z0.1, defines_rule z0.2)

    pub cases_marked : {a0 : Cases U} {ts r : Lexemes} → SpellsCases nowhere a0 ts r → (y0 : Cases S) × (bare_cases y0 ≡ a0) × SpellsCases mark y0 ts r
    cases_marked no_cases_rule = (_, refl, no_cases_rule)
    cases_marked (case_rule {xs = xs} {body = body} d1 d2 d3) = let z0 = exprs_marked d1 in let z1 = stmts_marked d2 in let z2 = cases_marked d3 in (_, ap (λ (v0 : Exprs U). (case tt v0 (bare_stmts z1.0) (bare_cases z2.0))) z0.1 ∙ ap (λ (v0 : Stmts U). (case tt xs v0 (bare_cases z2.0))) z1.1 ∙ ap (λ (v0 : Cases U). (case tt xs body v0)) z2.1, case_rule z0.2 z1.2 z2.2)
    cases_marked (default_rule {body = body} d1 d2) = let z0 = stmts_marked d1 in let z1 = cases_marked d2 in (_, ap (λ (v0 : Stmts U). (case tt no_exprs v0 (bare_cases z1.0))) z0.1 ∙ ap (λ (v0 : Cases U). (case tt no_exprs body v0)) z1.1, default_rule z0.2 z1.2)

    pub decl_marked : {a0 : Bool} {a1 : Bool} {a2 : ValueSpecs U} {ts r : Lexemes} → SpellsDecl nowhere a0 a1 a2 ts r → (y2 : ValueSpecs S) × (bare_value_specs y2 ≡ a2) × SpellsDecl mark a0 a1 y2 ts r
    decl_marked (single_rule {ns = ns} {t = t} d1) = let z0 = spec_marked d1 in (_, ap (λ (v0 : List (NameAt U)). (spec tt v0 ((option_map bare_type) z0.1) (bare_exprs z0.2) no_specs)) z0.3 ∙ ap (λ (v0 : Option (TypeExpr U)). (spec tt ns v0 (bare_exprs z0.2) no_specs)) z0.4 ∙ ap (λ (v0 : Exprs U). (spec tt ns t v0 no_specs)) z0.5, single_rule z0.6)
    decl_marked (group_rule d1) = let z0 = specs_marked d1 in (_, z0.1, group_rule z0.2)

    pub specs_marked : {a0 : Bool} {a1 : ValueSpecs U} {ts r : Lexemes} → SpellsSpecs nowhere a0 a1 ts r → (y1 : ValueSpecs S) × (bare_value_specs y1 ≡ a1) × SpellsSpecs mark a0 y1 ts r
    specs_marked no_specs_rule = (_, refl, no_specs_rule)
    specs_marked (last_spec_rule {ns = ns} {t = t} d1) = let z0 = spec_marked d1 in (_, ap (λ (v0 : List (NameAt U)). (spec tt v0 ((option_map bare_type) z0.1) (bare_exprs z0.2) no_specs)) z0.3 ∙ ap (λ (v0 : Option (TypeExpr U)). (spec tt ns v0 (bare_exprs z0.2) no_specs)) z0.4 ∙ ap (λ (v0 : Exprs U). (spec tt ns t v0 no_specs)) z0.5, last_spec_rule z0.6)
    specs_marked (more_specs_rule {ns = ns} {t = t} {xs = xs} d1 d2) = let z0 = spec_marked d1 in let z1 = specs_marked d2 in (_, ap (λ (v0 : List (NameAt U)). (spec tt v0 ((option_map bare_type) z0.1) (bare_exprs z0.2) (bare_value_specs z1.0))) z0.3 ∙ ap (λ (v0 : Option (TypeExpr U)). (spec tt ns v0 (bare_exprs z0.2) (bare_value_specs z1.0))) z0.4 ∙ ap (λ (v0 : Exprs U). (spec tt ns t v0 (bare_value_specs z1.0))) z0.5 ∙ ap (λ (v0 : ValueSpecs U). (spec tt ns t xs v0)) z1.1, more_specs_rule z0.6 z1.2)

    pub spec_marked : {a0 : Bool} {a1 : List (NameAt U)} {a2 : Option (TypeExpr U)} {a3 : Exprs U} {ts r : Lexemes} → SpellsSpec nowhere a0 a1 a2 a3 ts r → (y1 : List (NameAt S)) × (y2 : Option (TypeExpr S)) × (y3 : Exprs S) × ((map bare_name) y1 ≡ a1) × ((option_map bare_type) y2 ≡ a2) × (bare_exprs y3 ≡ a3) × SpellsSpec mark a0 y1 y2 y3 ts r
    spec_marked (repeated_rule d1) = let z0 = names_marked d1 in (_, _, _, z0.1, refl, refl, repeated_rule z0.2)
    spec_marked (typed_var_rule d1 d2) = let z0 = names_marked d1 in let z1 = type_marked d2 in (_, _, _, z0.1, ap (λ (v0 : TypeExpr U). (Some v0)) z1.1, refl, typed_var_rule z0.2 z1.2)
    spec_marked (values_rule d1 d2) = let z0 = names_marked d1 in let z1 = exprs_marked d2 in (_, _, _, z0.1, refl, z1.1, values_rule z0.2 z1.2)
    spec_marked (typed_values_rule d1 d2 d3) = let z0 = names_marked d1 in let z1 = type_marked d2 in let z2 = exprs_marked d3 in (_, _, _, z0.1, ap (λ (v0 : TypeExpr U). (Some v0)) z1.1, z2.1, typed_values_rule z0.2 z1.2 z2.2)

  pub import_spec_marked : {a0 : ImportSpec U} {ts r : Lexemes} → SpellsImportSpec nowhere a0 ts r → (y0 : ImportSpec S) × (bare_import_spec y0 ≡ a0) × SpellsImportSpec mark y0 ts r
  import_spec_marked (path_rule {p = p}) = (_, refl, path_rule)
  import_spec_marked (named_path_rule {n = n} {p = p}) = (_, refl, named_path_rule)

  pub import_specs_marked : {a0 : List (ImportSpec U)} {ts r : Lexemes} → SpellsImportSpecs nowhere a0 ts r → (y0 : List (ImportSpec S)) × ((map bare_import_spec) y0 ≡ a0) × SpellsImportSpecs mark y0 ts r
  import_specs_marked no_import_specs_rule = (_, refl, no_import_specs_rule)
  import_specs_marked (last_import_spec_rule d1) = let z0 = import_spec_marked d1 in (_, ap (λ (v0 : ImportSpec U). (v0 ∷ [])) z0.1, last_import_spec_rule z0.2)
  import_specs_marked (more_import_specs_rule {x = x} d1 d2) = let z0 = import_spec_marked d1 in let z1 = import_specs_marked d2 in (_, ap (λ (v0 : ImportSpec U). (v0 ∷ ((map bare_import_spec) z1.0))) z0.1 ∙ ap (λ (v0 : List (ImportSpec U)). (x ∷ v0)) z1.1, more_import_specs_rule z0.2 z1.2)

  pub import_marked : {a0 : ImportDecl U} {ts r : Lexemes} → SpellsImport nowhere a0 ts r → (y0 : ImportDecl S) × (bare_import_decl y0 ≡ a0) × SpellsImport mark y0 ts r
  import_marked (import_rule d1) = let z0 = import_spec_marked d1 in (_, ap (λ (v0 : ImportSpec U). (record { span = tt; grouped = false; specs = v0 ∷ [] })) z0.1, import_rule z0.2)
  import_marked (import_group_rule d1) = let z0 = import_specs_marked d1 in (_, ap (λ (v0 : List (ImportSpec U)). (record { span = tt; grouped = true; specs = v0 })) z0.1, import_group_rule z0.2)

  pub type_spec_marked : {a0 : TypeSpec U} {ts r : Lexemes} → SpellsTypeSpec nowhere a0 ts r → (y0 : TypeSpec S) × (bare_type_spec y0 ≡ a0) × SpellsTypeSpec mark y0 ts r
  type_spec_marked (type_spec_rule {n = n} d1) = let z0 = type_marked d1 in (_, ap (λ (v0 : TypeExpr U). (record { span = tt; name = record { span = tt; name = n }; alias = false; of = v0 })) z0.1, type_spec_rule z0.2)
  type_spec_marked (alias_spec_rule {n = n} d1) = let z0 = type_marked d1 in (_, ap (λ (v0 : TypeExpr U). (record { span = tt; name = record { span = tt; name = n }; alias = true; of = v0 })) z0.1, alias_spec_rule z0.2)

  pub type_specs_marked : {a0 : List (TypeSpec U)} {ts r : Lexemes} → SpellsTypeSpecs nowhere a0 ts r → (y0 : List (TypeSpec S)) × ((map bare_type_spec) y0 ≡ a0) × SpellsTypeSpecs mark y0 ts r
  type_specs_marked no_type_specs_rule = (_, refl, no_type_specs_rule)
  type_specs_marked (last_type_spec_rule d1) = let z0 = type_spec_marked d1 in (_, ap (λ (v0 : TypeSpec U). (v0 ∷ [])) z0.1, last_type_spec_rule z0.2)
  type_specs_marked (more_type_specs_rule {x = x} d1 d2) = let z0 = type_spec_marked d1 in let z1 = type_specs_marked d2 in (_, ap (λ (v0 : TypeSpec U). (v0 ∷ ((map bare_type_spec) z1.0))) z0.1 ∙ ap (λ (v0 : List (TypeSpec U)). (x ∷ v0)) z1.1, more_type_specs_rule z0.2 z1.2)

  pub receiver_marked : {a0 : Receiver U} {ts r : Lexemes} → SpellsReceiver nowhere a0 ts r → (y0 : Receiver S) × (bare_receiver y0 ≡ a0) × SpellsReceiver mark y0 ts r
  receiver_marked (receiver_rule {n = n}) = (_, refl, receiver_rule)
  receiver_marked (pointer_receiver_rule {n = n}) = (_, refl, pointer_receiver_rule)
  receiver_marked (named_receiver_rule {x = x} {n = n}) = (_, refl, named_receiver_rule)
  receiver_marked (named_pointer_receiver_rule {x = x} {n = n}) = (_, refl, named_pointer_receiver_rule)

  pub top_marked : {a0 : Decl U} {ts r : Lexemes} → SpellsTop nowhere a0 ts r → (y0 : Decl S) × (bare_decl y0 ≡ a0) × SpellsTop mark y0 ts r
  top_marked (top_const_rule {grouped = grouped} d1) = let z0 = decl_marked d1 in (_, ap (λ (v0 : ValueSpecs U). (values (const_decl tt grouped v0))) z0.1, top_const_rule z0.2)
  top_marked (top_var_rule {grouped = grouped} d1) = let z0 = decl_marked d1 in (_, ap (λ (v0 : ValueSpecs U). (values (var_decl tt grouped v0))) z0.1, top_var_rule z0.2)
  top_marked (top_type_rule d1) = let z0 = type_spec_marked d1 in (_, ap (λ (v0 : TypeSpec U). (types tt false (v0 ∷ []))) z0.1, top_type_rule z0.2)
  top_marked (top_type_group_rule d1) = let z0 = type_specs_marked d1 in (_, ap (λ (v0 : List (TypeSpec U)). (types tt true v0)) z0.1, top_type_group_rule z0.2)
  top_marked (top_func_rule {n = n} {g = g} d1 d2) = let z0 = sig_marked d1 in let z1 = block_marked d2 in (_, ap (λ (v0 : Sig U). (func (record { span = tt; receiver = None; name = record { span = tt; name = n }; sig = v0; body_span = tt; body = (bare_stmts z1.1) }))) z0.1 ∙ ap (λ (v0 : Stmts U). (func (record { span = tt; receiver = None; name = record { span = tt; name = n }; sig = g; body_span = tt; body = v0 }))) z1.2, top_func_rule z0.2 z1.3)
  top_marked (top_method_rule {n = n} {v = v} {g = g} d1 d2 d3) = let z0 = receiver_marked d1 in let z1 = sig_marked d2 in let z2 = block_marked d3 in (_, ap (λ (v0 : Receiver U). (func (record { span = tt; receiver = Some v0; name = record { span = tt; name = n }; sig = (bare_sig z1.0); body_span = tt; body = (bare_stmts z2.1) }))) z0.1 ∙ ap (λ (v0 : Sig U). (func (record { span = tt; receiver = Some v; name = record { span = tt; name = n }; sig = v0; body_span = tt; body = (bare_stmts z2.1) }))) z1.1 ∙ ap (λ (v0 : Stmts U). (func (record { span = tt; receiver = Some v; name = record { span = tt; name = n }; sig = g; body_span = tt; body = v0 }))) z2.2, top_method_rule z0.2 z1.2 z2.3)

  pub imports_marked : {a0 : List (ImportDecl U)} {ts r : Lexemes} → SpellsImports nowhere a0 ts r → (y0 : List (ImportDecl S)) × ((map bare_import_decl) y0 ≡ a0) × SpellsImports mark y0 ts r
  imports_marked no_imports_rule = (_, refl, no_imports_rule)
  imports_marked (more_imports_rule {d = d} d1 d2) = let z0 = import_marked d1 in let z1 = imports_marked d2 in (_, ap (λ (v0 : ImportDecl U). (v0 ∷ ((map bare_import_decl) z1.0))) z0.1 ∙ ap (λ (v0 : List (ImportDecl U)). (d ∷ v0)) z1.1, more_imports_rule z0.2 z1.2)

  pub tops_marked : {a0 : List (Decl U)} {ts r : Lexemes} → SpellsTops nowhere a0 ts r → (y0 : List (Decl S)) × ((map bare_decl) y0 ≡ a0) × SpellsTops mark y0 ts r
  tops_marked no_tops_rule = (_, refl, no_tops_rule)
  tops_marked (more_tops_rule {d = d} d1 d2) = let z0 = top_marked d1 in let z1 = tops_marked d2 in (_, ap (λ (v0 : Decl U). (v0 ∷ ((map bare_decl) z1.0))) z0.1 ∙ ap (λ (v0 : List (Decl U)). (d ∷ v0)) z1.1, more_tops_rule z0.2 z1.2)

  pub front_marked : {a0 : File U} {ts r : Lexemes} → SpellsFront nowhere a0 ts r → (y0 : File S) × (bare_file y0 ≡ a0) × SpellsFront mark y0 ts r
  front_marked (front_rule {n = n} {is = is} d1 d2 d3) = let z0 = imports_marked d2 in let z1 = tops_marked d3 in (_, ap (λ (v0 : List (ImportDecl U)). (record { package_name = record { span = tt; name = n }; imports = v0; decls = ((map bare_decl) z1.0) })) z0.1 ∙ ap (λ (v0 : List (Decl U)). (record { package_name = record { span = tt; name = n }; imports = is; decls = v0 })) z1.1, front_rule d1 z0.2 z1.2)
