-- The spans of a declaration that tokens spell: each is that of a part of them.
use Rattle.std.proofs.Common.{ℕ, Bool, List, [], ◌∷◌, Option}
use Rattle.go_tree.specs.Tree.{NameAt, TypeExpr, no_fields, Fields, Param, Sig, Expr, Exprs, ExprOption, Elems, Value, ValueOption, Stmt, Stmts, StmtOption, BlockOption, RangeLeft, Arms, Cases, ValueSpecs}
use Rattle.go_tree.specs.File.{TypeSpec, Receiver, Decl}
use Rattle.go_tree.specs.declared.exprs.Rest.{Rest}
use Rattle.go_read.specs.SpellsTypes.{Lexemes, fields_of, params_of, SpellsType, SpellsFields, SpellsEntries, SpellsRest, SpellsNamed, SpellsUnnamed, SpellsParams, SpellsResults, SpellsSig, SpellsNames, named_rule, qualified_rule, pointer_rule, slice_type_rule, map_type_rule, struct_type_rule, type_parens_rule, no_fields_rule, last_field_rule, more_fields_rule, last_entry_rule, more_entries_rule, rest_rule, named_rest_rule, last_named_rule, comma_named_rule, more_named_rule, rest_named_rule, comma_rest_named_rule, last_unnamed_rule, comma_unnamed_rule, more_unnamed_rule, rest_unnamed_rule, comma_rest_unnamed_rule, no_params_rule, named_params_rule, unnamed_params_rule, no_results_rule, params_results_rule, type_result_rule, sig_rule, last_name_rule, more_names_rule}
use Rattle.go_read.specs.Spells.{SpellsLiteralType, SpellsBare, SpellsExpr, SpellsOperand, SpellsOption, SpellsExprs, SpellsArgs, SpellsElems, SpellsElem, SpellsValue, SpellsSimple, SpellsPart, SpellsFirst, SpellsStmt, SpellsBlock, SpellsStmts, SpellsIf, SpellsArm, SpellsLeft, SpellsCases, SpellsDecl, SpellsSpecs, SpellsSpec, named_literal_rule, qualified_literal_rule, type_literal_rule, ident_rule, int_rule, rune_rule, text_rule, composite_rule, func_rule, type_rule, selector_rule, index_rule, slice_rule, call_rule, unary_rule, star_rule, binary_rule, bare_rule, parens_rule, operand_rule, no_expr_rule, some_expr_rule, last_expr_rule, more_exprs_rule, no_args_rule, args_rule, comma_args_rule, rest_args_rule, comma_rest_args_rule, no_elems_rule, last_elem_rule, more_elems_rule, value_rule, keyed_rule, plain_rule, braced_rule, eval_rule, increment_rule, decrement_rule, assign_rule, define_rule, no_part_rule, part_rule, no_first_rule, first_rule, empty_rule, simple_rule, const_rule, var_rule, return_rule, return_values_rule, break_rule, break_label_rule, continue_rule, continue_label_rule, block_rule, if_rule, while_rule, for_rule, range_rule, switch_rule, defer_rule, label_rule, braces_rule, no_stmts_rule, last_stmt_rule, more_stmts_rule, only_arm_rule, else_rule, else_if_rule, arm_rule, no_left_rule, assigns_rule, defines_rule, no_cases_rule, case_rule, default_rule, single_rule, group_rule, no_specs_rule, last_spec_rule, more_specs_rule, repeated_rule, typed_var_rule, values_rule, typed_values_rule}
use Rattle.go_read.specs.SpellsFiles.{SpellsTypeSpec, SpellsTypeSpecs, SpellsReceiver, SpellsTop, type_spec_rule, alias_spec_rule, no_type_specs_rule, last_type_spec_rule, more_type_specs_rule, receiver_rule, pointer_receiver_rule, named_receiver_rule, named_pointer_receiver_rule, top_const_rule, top_var_rule, top_type_rule, top_type_group_rule, top_func_rule, top_method_rule}
use Rattle.splice_laws.proofs.Grafts.{Within, here, later, drop, both_within}
use Rattle.splice_laws.proofs.Pasts.{type_past, fields_past, entries_past, rest_past, named_past, unnamed_past, params_past, results_past, sig_past, names_past, literal_past, bare_past, expr_past, operand_past, option_past, exprs_past, args_past, elems_past, elem_past, value_past, simple_past, part_past, first_past, stmt_past, block_past, stmts_past, if_past, arm_past, left_past, cases_past, decl_past, specs_past, spec_past, type_spec_past, type_specs_past, receiver_past, top_past}
use Rattle.splice_laws.proofs.RunLaws.NodeSpans.{AllType, AllFields, AllTypeOption, AllParams, AllSig, AllNames, AllExpr, AllExprs, AllExprOption, AllElems, AllValue, AllValueOption, AllStmt, AllStmts, AllStmtOption, AllBlockOption, AllLeft, AllArms, AllCases, AllSpecs, AllTypeSpecs, AllDecl}

module _ {S : Type 0} (mark : Lexemes → Lexemes → S) where
  type_by : {a0 : TypeExpr S} {ts r : Lexemes} {whole : Lexemes} → SpellsType mark a0 ts r → Within ts whole → Within r whole
  type_by {whole = whole} d a = type_past mark whole d a

  fields_by : {a0 : Fields S} {ts r : Lexemes} {whole : Lexemes} → SpellsFields mark a0 ts r → Within ts whole → Within r whole
  fields_by {whole = whole} d a = fields_past mark whole d a

  entries_by : {a0 : TypeExpr S} {a1 : List (S × NameAt S)} {ts r : Lexemes} {whole : Lexemes} → SpellsEntries mark a0 a1 ts r → Within ts whole → Within r whole
  entries_by {whole = whole} d a = entries_past mark whole d a

  rest_by : {a0 : Bool} {a1 : Param S} {ts r : Lexemes} {whole : Lexemes} → SpellsRest mark a0 a1 ts r → Within ts whole → Within r whole
  rest_by {whole = whole} d a = rest_past mark whole d a

  named_by : {a0 : Bool} {a1 : List (Param S)} {ts r : Lexemes} {whole : Lexemes} → SpellsNamed mark a0 a1 ts r → Within ts whole → Within r whole
  named_by {whole = whole} d a = named_past mark whole d a

  unnamed_by : {a0 : Bool} {a1 : List (Param S)} {ts r : Lexemes} {whole : Lexemes} → SpellsUnnamed mark a0 a1 ts r → Within ts whole → Within r whole
  unnamed_by {whole = whole} d a = unnamed_past mark whole d a

  params_by : {a0 : Bool} {a1 : List (Param S)} {ts r : Lexemes} {whole : Lexemes} → SpellsParams mark a0 a1 ts r → Within ts whole → Within r whole
  params_by {whole = whole} d a = params_past mark whole d a

  results_by : {a0 : List (Param S)} {ts r : Lexemes} {whole : Lexemes} → SpellsResults mark a0 ts r → Within ts whole → Within r whole
  results_by {whole = whole} d a = results_past mark whole d a

  sig_by : {a0 : Bool} {a1 : Sig S} {ts r : Lexemes} {whole : Lexemes} → SpellsSig mark a0 a1 ts r → Within ts whole → Within r whole
  sig_by {whole = whole} d a = sig_past mark whole d a

  names_by : {a0 : List (NameAt S)} {ts r : Lexemes} {whole : Lexemes} → SpellsNames mark a0 ts r → Within ts whole → Within r whole
  names_by {whole = whole} d a = names_past mark whole d a

  literal_by : {a0 : Bool} {a1 : TypeExpr S} {ts r : Lexemes} {whole : Lexemes} → SpellsLiteralType mark a0 a1 ts r → Within ts whole → Within r whole
  literal_by {whole = whole} d a = literal_past mark whole d a

  bare_by : {a0 : ℕ} {a1 : Bool} {a2 : Expr S} {ts r : Lexemes} {whole : Lexemes} → SpellsBare mark a0 a1 a2 ts r → Within ts whole → Within r whole
  bare_by {whole = whole} d a = bare_past mark whole d a

  expr_by : {a0 : ℕ} {a1 : Bool} {a2 : Expr S} {ts r : Lexemes} {whole : Lexemes} → SpellsExpr mark a0 a1 a2 ts r → Within ts whole → Within r whole
  expr_by {whole = whole} d a = expr_past mark whole d a

  operand_by : {a0 : ℕ} {a1 : Bool} {a2 : Expr S} {ts r : Lexemes} {whole : Lexemes} → SpellsOperand mark a0 a1 a2 ts r → Within ts whole → Within r whole
  operand_by {whole = whole} d a = operand_past mark whole d a

  option_by : {a0 : Bool} {a1 : ExprOption S} {ts r : Lexemes} {whole : Lexemes} → SpellsOption mark a0 a1 ts r → Within ts whole → Within r whole
  option_by {whole = whole} d a = option_past mark whole d a

  exprs_by : {a0 : Bool} {a1 : Exprs S} {ts r : Lexemes} {whole : Lexemes} → SpellsExprs mark a0 a1 ts r → Within ts whole → Within r whole
  exprs_by {whole = whole} d a = exprs_past mark whole d a

  args_by : {a0 : Exprs S} {a1 : Rest} {ts r : Lexemes} {whole : Lexemes} → SpellsArgs mark a0 a1 ts r → Within ts whole → Within r whole
  args_by {whole = whole} d a = args_past mark whole d a

  elems_by : {a0 : Elems S} {ts r : Lexemes} {whole : Lexemes} → SpellsElems mark a0 ts r → Within ts whole → Within r whole
  elems_by {whole = whole} d a = elems_past mark whole d a

  elem_by : {a0 : ValueOption S} {a1 : Value S} {ts r : Lexemes} {whole : Lexemes} → SpellsElem mark a0 a1 ts r → Within ts whole → Within r whole
  elem_by {whole = whole} d a = elem_past mark whole d a

  value_by : {a0 : Value S} {ts r : Lexemes} {whole : Lexemes} → SpellsValue mark a0 ts r → Within ts whole → Within r whole
  value_by {whole = whole} d a = value_past mark whole d a

  simple_by : {a0 : Bool} {a1 : Stmt S} {ts r : Lexemes} {whole : Lexemes} → SpellsSimple mark a0 a1 ts r → Within ts whole → Within r whole
  simple_by {whole = whole} d a = simple_past mark whole d a

  part_by : {a0 : StmtOption S} {ts r : Lexemes} {whole : Lexemes} → SpellsPart mark a0 ts r → Within ts whole → Within r whole
  part_by {whole = whole} d a = part_past mark whole d a

  first_by : {a0 : StmtOption S} {ts r : Lexemes} {whole : Lexemes} → SpellsFirst mark a0 ts r → Within ts whole → Within r whole
  first_by {whole = whole} d a = first_past mark whole d a

  stmt_by : {a0 : Stmt S} {ts r : Lexemes} {whole : Lexemes} → SpellsStmt mark a0 ts r → Within ts whole → Within r whole
  stmt_by {whole = whole} d a = stmt_past mark whole d a

  block_by : {a0 : S} {a1 : Stmts S} {ts r : Lexemes} {whole : Lexemes} → SpellsBlock mark a0 a1 ts r → Within ts whole → Within r whole
  block_by {whole = whole} d a = block_past mark whole d a

  stmts_by : {a0 : Stmts S} {ts r : Lexemes} {whole : Lexemes} → SpellsStmts mark a0 ts r → Within ts whole → Within r whole
  stmts_by {whole = whole} d a = stmts_past mark whole d a

  if_by : {a0 : Arms S} {a1 : BlockOption S} {ts r : Lexemes} {whole : Lexemes} → SpellsIf mark a0 a1 ts r → Within ts whole → Within r whole
  if_by {whole = whole} d a = if_past mark whole d a

  arm_by : {a0 : StmtOption S} {a1 : Expr S} {a2 : S} {a3 : Stmts S} {ts r : Lexemes} {whole : Lexemes} → SpellsArm mark a0 a1 a2 a3 ts r → Within ts whole → Within r whole
  arm_by {whole = whole} d a = arm_past mark whole d a

  left_by : {a0 : RangeLeft S} {ts r : Lexemes} {whole : Lexemes} → SpellsLeft mark a0 ts r → Within ts whole → Within r whole
  left_by {whole = whole} d a = left_past mark whole d a

  cases_by : {a0 : Cases S} {ts r : Lexemes} {whole : Lexemes} → SpellsCases mark a0 ts r → Within ts whole → Within r whole
  cases_by {whole = whole} d a = cases_past mark whole d a

  decl_by : {a0 : Bool} {a1 : Bool} {a2 : ValueSpecs S} {ts r : Lexemes} {whole : Lexemes} → SpellsDecl mark a0 a1 a2 ts r → Within ts whole → Within r whole
  decl_by {whole = whole} d a = decl_past mark whole d a

  specs_by : {a0 : Bool} {a1 : ValueSpecs S} {ts r : Lexemes} {whole : Lexemes} → SpellsSpecs mark a0 a1 ts r → Within ts whole → Within r whole
  specs_by {whole = whole} d a = specs_past mark whole d a

  spec_by : {a0 : Bool} {a1 : List (NameAt S)} {a2 : Option (TypeExpr S)} {a3 : Exprs S} {ts r : Lexemes} {whole : Lexemes} → SpellsSpec mark a0 a1 a2 a3 ts r → Within ts whole → Within r whole
  spec_by {whole = whole} d a = spec_past mark whole d a

  type_spec_by : {a0 : TypeSpec S} {ts r : Lexemes} {whole : Lexemes} → SpellsTypeSpec mark a0 ts r → Within ts whole → Within r whole
  type_spec_by {whole = whole} d a = type_spec_past mark whole d a

  type_specs_by : {a0 : List (TypeSpec S)} {ts r : Lexemes} {whole : Lexemes} → SpellsTypeSpecs mark a0 ts r → Within ts whole → Within r whole
  type_specs_by {whole = whole} d a = type_specs_past mark whole d a

  receiver_by : {a0 : Receiver S} {ts r : Lexemes} {whole : Lexemes} → SpellsReceiver mark a0 ts r → Within ts whole → Within r whole
  receiver_by {whole = whole} d a = receiver_past mark whole d a

  top_by : {a0 : Decl S} {ts r : Lexemes} {whole : Lexemes} → SpellsTop mark a0 ts r → Within ts whole → Within r whole
  top_by {whole = whole} d a = top_past mark whole d a

  names_in : {a0 : List (NameAt S)} {ts r : Lexemes} → SpellsNames mark a0 ts r → Within r ts
  names_in {ts = ts} d = names_past mark ts d here

-- ---- what holds of the span of each part

module _ {S : Type 0} (mark : Lexemes → Lexemes → S) (whole q : Lexemes) (P : S → Type 0) (p : (ts r : Lexemes) → Within ts whole → Within r ts → Within q r → P (mark ts r)) where
  put : {ts r : Lexemes} → Within ts whole → Within r ts → Within q r → P (mark ts r)
  put {ts = ts} {r = r} a w b = p ts r a w b

  entry_fields : (es : List (S × NameAt S)) (t : TypeExpr S) (fs : Fields S) → AllType P t → AllFields P fs → AllFields P (fields_of es t fs)
  entry_fields [] t fs h k = k
  entry_fields (e ∷ es) t fs h k = (h, entry_fields es t fs h k)

  entry_params : (es : List (S × NameAt S)) (t : TypeExpr S) (ps : List (Param S)) → AllType P t → AllParams P ps → AllParams P (params_of es t ps)
  entry_params [] t ps h k = k
  entry_params (e ∷ es) t ps h k = (h, entry_params es t ps h k)

  mutual
    type_all : {a0 : TypeExpr S} {ts r : Lexemes} → SpellsType mark a0 ts r → Within ts whole → Within q r → AllType P a0
    type_all named_rule a b = put a (drop here) b
    type_all qualified_rule a b = put a (drop (drop (drop here))) b
    type_all (pointer_rule d1) a b = type_all d1 (drop a) b
    type_all (slice_type_rule d1) a b = type_all d1 (drop (drop a)) b
    type_all (map_type_rule d1 d2) a b = (type_all d1 (drop (drop a)) (both_within b (type_by mark d2 (drop here))), type_all d2 (drop (type_by mark d1 (drop (drop a)))) b)
    type_all (struct_type_rule d1) a b = fields_all d1 (drop (drop a)) (both_within b (drop here))
    type_all (type_parens_rule d1) a b = type_all d1 (drop a) (both_within b (drop here))

    fields_all : {a0 : Fields S} {ts r : Lexemes} → SpellsFields mark a0 ts r → Within ts whole → Within q r → AllFields P a0
    fields_all no_fields_rule a b = tt
    fields_all (last_field_rule {t = t} {es = es} d1) a b = entry_fields es t no_fields (entries_all d1 a b) tt
    fields_all (more_fields_rule {t = t} {es = es} {fs = fs} d1 d2) a b = entry_fields es t fs (entries_all d1 a (both_within b (fields_by mark d2 (drop here)))) (fields_all d2 (drop (entries_by mark d1 a)) b)

    entries_all : {a0 : TypeExpr S} {a1 : List (S × NameAt S)} {ts r : Lexemes} → SpellsEntries mark a0 a1 ts r → Within ts whole → Within q r → AllType P a0
    entries_all (last_entry_rule d1) a b = type_all d1 (drop a) b
    entries_all (more_entries_rule d1) a b = entries_all d1 (drop (drop a)) b

  rest_all : {a0 : Bool} {a1 : Param S} {ts r : Lexemes} → SpellsRest mark a0 a1 ts r → Within ts whole → Within q r → AllType P a1.of
  rest_all (rest_rule d1) a b = type_all d1 (drop a) b
  rest_all (named_rest_rule d1) a b = type_all d1 (drop (drop a)) b

  named_all : {a0 : Bool} {a1 : List (Param S)} {ts r : Lexemes} → SpellsNamed mark a0 a1 ts r → Within ts whole → Within q r → AllParams P a1
  named_all (last_named_rule {t = t} {es = es} d1) a b = entry_params es t [] (entries_all d1 a (both_within b (drop here))) tt
  named_all (comma_named_rule {t = t} {es = es} d1) a b = entry_params es t [] (entries_all d1 a (both_within b (drop (drop here)))) tt
  named_all (more_named_rule {t = t} {es = es} {ps = ps} d1 d2) a b = entry_params es t ps (entries_all d1 a (both_within b (named_by mark d2 (drop here)))) (named_all d2 (drop (entries_by mark d1 a)) b)
  named_all (rest_named_rule d1) a b = (rest_all d1 a (both_within b (drop here)), tt)
  named_all (comma_rest_named_rule d1) a b = (rest_all d1 a (both_within b (drop (drop here))), tt)

  unnamed_all : {a0 : Bool} {a1 : List (Param S)} {ts r : Lexemes} → SpellsUnnamed mark a0 a1 ts r → Within ts whole → Within q r → AllParams P a1
  unnamed_all (last_unnamed_rule d1) a b = (type_all d1 a (both_within b (drop here)), tt)
  unnamed_all (comma_unnamed_rule d1) a b = (type_all d1 a (both_within b (drop (drop here))), tt)
  unnamed_all (more_unnamed_rule d1 d2) a b = (type_all d1 a (both_within b (unnamed_by mark d2 (drop here))), unnamed_all d2 (drop (type_by mark d1 a)) b)
  unnamed_all (rest_unnamed_rule d1) a b = (rest_all d1 a (both_within b (drop here)), tt)
  unnamed_all (comma_rest_unnamed_rule d1) a b = (rest_all d1 a (both_within b (drop (drop here))), tt)

  params_all : {a0 : Bool} {a1 : List (Param S)} {ts r : Lexemes} → SpellsParams mark a0 a1 ts r → Within ts whole → Within q r → AllParams P a1
  params_all no_params_rule a b = tt
  params_all (named_params_rule d1) a b = named_all d1 (drop a) b
  params_all (unnamed_params_rule d1) a b = unnamed_all d1 (drop a) b

  results_all : {a0 : List (Param S)} {ts r : Lexemes} → SpellsResults mark a0 ts r → Within ts whole → Within q r → AllParams P a0
  results_all no_results_rule a b = tt
  results_all (params_results_rule d1) a b = params_all d1 a b
  results_all (type_result_rule d1) a b = (type_all d1 a b, tt)

  sig_all : {a0 : Bool} {a1 : Sig S} {ts r : Lexemes} → SpellsSig mark a0 a1 ts r → Within ts whole → Within q r → AllSig P a1
  sig_all (sig_rule d1 d2) a b = (params_all d1 a (both_within b (results_by mark d2 here)), results_all d2 (params_by mark d1 a) b)

  names_all : {a0 : List (NameAt S)} {ts r : Lexemes} → SpellsNames mark a0 ts r → Within ts whole → Within q r → AllNames P a0
  names_all last_name_rule a b = (put a (later here) b, tt)
  names_all (more_names_rule d1) a b = (put a (later here) (both_within b (later (names_in mark d1))), names_all d1 (drop (drop a)) b)

  literal_all : {a0 : Bool} {a1 : TypeExpr S} {ts r : Lexemes} → SpellsLiteralType mark a0 a1 ts r → Within ts whole → Within q r → AllType P a1
  literal_all named_literal_rule a b = put a (drop here) b
  literal_all qualified_literal_rule a b = put a (drop (drop (drop here))) b
  literal_all (type_literal_rule d1 d2) a b = type_all d2 a b

  mutual
    bare_all : {a0 : ℕ} {a1 : Bool} {a2 : Expr S} {ts r : Lexemes} → SpellsBare mark a0 a1 a2 ts r → Within ts whole → Within q r → AllExpr P a2
    bare_all ident_rule a b = put a (drop here) b
    bare_all int_rule a b = put a (drop here) b
    bare_all rune_rule a b = put a (drop here) b
    bare_all text_rule a b = put a (drop here) b
    bare_all (composite_rule d1 d2) a b = (put a (drop (elems_by mark d2 (drop (literal_by mark d1 here)))) b, literal_all d1 a (both_within b (drop (elems_by mark d2 (drop here)))), elems_all d2 (drop (literal_by mark d1 a)) (both_within b (drop here)))
    bare_all (func_rule d1 d2) a b = (put a (block_by mark d2 (sig_by mark d1 (drop here))) b, sig_all d1 (drop a) (both_within b (block_by mark d2 here)), block_all d2 (sig_by mark d1 (drop a)) b)
    bare_all (type_rule d1 d2 d3) a b = (put a (type_by mark d2 here) b, type_all d2 a b)
    bare_all (selector_rule d1) a b = (put a (drop (drop (operand_by mark d1 here))) b, operand_all d1 a (both_within b (drop (drop here))))
    bare_all (index_rule d1 d2) a b = (put a (drop (operand_by mark d2 (drop (operand_by mark d1 here)))) b, operand_all d1 a (both_within b (drop (operand_by mark d2 (drop here)))), operand_all d2 (drop (operand_by mark d1 a)) (both_within b (drop here)))
    bare_all (slice_rule d1 d2 d3) a b = (put a (drop (option_by mark d3 (drop (option_by mark d2 (drop (operand_by mark d1 here)))))) b, operand_all d1 a (both_within b (drop (option_by mark d3 (drop (option_by mark d2 (drop here)))))), option_all d2 (drop (operand_by mark d1 a)) (both_within b (drop (option_by mark d3 (drop here)))), option_all d3 (drop (option_by mark d2 (drop (operand_by mark d1 a)))) (both_within b (drop here)))
    bare_all (call_rule d1 d2) a b = (put a (args_by mark d2 (drop (expr_by mark d1 here))) b, expr_all d1 a (both_within b (args_by mark d2 (drop here))), args_all d2 (drop (expr_by mark d1 a)) b)
    bare_all (unary_rule d1 d2) a b = (put a (operand_by mark d2 (drop here)) b, operand_all d2 (drop a) b)
    bare_all (star_rule d1 d2) a b = (put a (operand_by mark d2 (drop here)) b, operand_all d2 (drop a) b)
    bare_all (binary_rule d1 d2 d3) a b = (put a (operand_by mark d3 (drop (operand_by mark d2 here))) b, operand_all d2 a (both_within b (operand_by mark d3 (drop here))), operand_all d3 (drop (operand_by mark d2 a)) b)

    expr_all : {a0 : ℕ} {a1 : Bool} {a2 : Expr S} {ts r : Lexemes} → SpellsExpr mark a0 a1 a2 ts r → Within ts whole → Within q r → AllExpr P a2
    expr_all (bare_rule d1) a b = bare_all d1 a b
    expr_all (parens_rule d1) a b = expr_all d1 (drop a) (both_within b (drop here))

    operand_all : {a0 : ℕ} {a1 : Bool} {a2 : Expr S} {ts r : Lexemes} → SpellsOperand mark a0 a1 a2 ts r → Within ts whole → Within q r → AllExpr P a2
    operand_all (operand_rule d1 d2) a b = expr_all d2 a b

    option_all : {a0 : Bool} {a1 : ExprOption S} {ts r : Lexemes} → SpellsOption mark a0 a1 ts r → Within ts whole → Within q r → AllExprOption P a1
    option_all no_expr_rule a b = tt
    option_all (some_expr_rule d1) a b = operand_all d1 a b

    exprs_all : {a0 : Bool} {a1 : Exprs S} {ts r : Lexemes} → SpellsExprs mark a0 a1 ts r → Within ts whole → Within q r → AllExprs P a1
    exprs_all (last_expr_rule d1) a b = (operand_all d1 a b, tt)
    exprs_all (more_exprs_rule d1 d2) a b = (operand_all d1 a (both_within b (exprs_by mark d2 (drop here))), exprs_all d2 (drop (operand_by mark d1 a)) b)

    args_all : {a0 : Exprs S} {a1 : Rest} {ts r : Lexemes} → SpellsArgs mark a0 a1 ts r → Within ts whole → Within q r → AllExprs P a0
    args_all no_args_rule a b = tt
    args_all (args_rule d1) a b = exprs_all d1 a (both_within b (drop here))
    args_all (comma_args_rule d1) a b = exprs_all d1 a (both_within b (drop (drop here)))
    args_all (rest_args_rule d1) a b = exprs_all d1 a (both_within b (drop (drop here)))
    args_all (comma_rest_args_rule d1) a b = exprs_all d1 a (both_within b (drop (drop (drop here))))

    elems_all : {a0 : Elems S} {ts r : Lexemes} → SpellsElems mark a0 ts r → Within ts whole → Within q r → AllElems P a0
    elems_all no_elems_rule a b = tt
    elems_all (last_elem_rule d1) a b = let e = elem_all d1 a b in (e.0, e.1, tt)
    elems_all (more_elems_rule d1 d2) a b = let e = elem_all d1 a (both_within b (elems_by mark d2 (drop here))) in (e.0, e.1, elems_all d2 (drop (elem_by mark d1 a)) b)

    elem_all : {a0 : ValueOption S} {a1 : Value S} {ts r : Lexemes} → SpellsElem mark a0 a1 ts r → Within ts whole → Within q r → AllValueOption P a0 × AllValue P a1
    elem_all (value_rule d1) a b = (tt, value_all d1 a b)
    elem_all (keyed_rule d1 d2) a b = (value_all d1 a (both_within b (value_by mark d2 (drop here))), value_all d2 (drop (value_by mark d1 a)) b)

    value_all : {a0 : Value S} {ts r : Lexemes} → SpellsValue mark a0 ts r → Within ts whole → Within q r → AllValue P a0
    value_all (plain_rule d1) a b = operand_all d1 a b
    value_all (braced_rule d1) a b = elems_all d1 (drop a) (both_within b (drop here))

    simple_all : {a0 : Bool} {a1 : Stmt S} {ts r : Lexemes} → SpellsSimple mark a0 a1 ts r → Within ts whole → Within q r → AllStmt P a1
    simple_all (eval_rule d1) a b = (put a (operand_by mark d1 here) b, operand_all d1 a b)
    simple_all (increment_rule d1) a b = operand_all d1 a (both_within b (drop here))
    simple_all (decrement_rule d1) a b = operand_all d1 a (both_within b (drop here))
    simple_all (assign_rule d1 d2) a b = (exprs_all d1 a (both_within b (exprs_by mark d2 (drop here))), exprs_all d2 (drop (exprs_by mark d1 a)) b)
    simple_all (define_rule d1 d2) a b = (names_all d1 a (both_within b (exprs_by mark d2 (drop here))), exprs_all d2 (drop (names_by mark d1 a)) b)

    part_all : {a0 : StmtOption S} {ts r : Lexemes} → SpellsPart mark a0 ts r → Within ts whole → Within q r → AllStmtOption P a0
    part_all no_part_rule a b = tt
    part_all (part_rule d1) a b = simple_all d1 a b

    first_all : {a0 : StmtOption S} {ts r : Lexemes} → SpellsFirst mark a0 ts r → Within ts whole → Within q r → AllStmtOption P a0
    first_all no_first_rule a b = tt
    first_all (first_rule d1) a b = part_all d1 a (both_within b (drop here))

    stmt_all : {a0 : Stmt S} {ts r : Lexemes} → SpellsStmt mark a0 ts r → Within ts whole → Within q r → AllStmt P a0
    stmt_all empty_rule a b = tt
    stmt_all (simple_rule d1) a b = simple_all d1 a b
    stmt_all (const_rule d1) a b = decl_all d1 (drop a) b
    stmt_all (var_rule d1) a b = decl_all d1 (drop a) b
    stmt_all return_rule a b = (put a (drop here) b, tt)
    stmt_all (return_values_rule d1) a b = (put a (exprs_by mark d1 (drop here)) b, exprs_all d1 (drop a) b)
    stmt_all break_rule a b = tt
    stmt_all break_label_rule a b = tt
    stmt_all continue_rule a b = tt
    stmt_all continue_label_rule a b = tt
    stmt_all (block_rule d1) a b = block_all d1 a b
    stmt_all (if_rule d1) a b = if_all d1 a b
    stmt_all (while_rule d1 d2) a b = (tt, option_all d1 (drop a) (both_within b (block_by mark d2 here)), tt, block_all d2 (option_by mark d1 (drop a)) b)
    stmt_all (for_rule d1 d2 d3 d4) a b = (part_all d1 (drop a) (both_within b (block_by mark d4 (part_by mark d3 (drop (option_by mark d2 (drop here)))))), option_all d2 (drop (part_by mark d1 (drop a))) (both_within b (block_by mark d4 (part_by mark d3 (drop here)))), part_all d3 (drop (option_by mark d2 (drop (part_by mark d1 (drop a))))) (both_within b (block_by mark d4 here)), block_all d4 (part_by mark d3 (drop (option_by mark d2 (drop (part_by mark d1 (drop a)))))) b)
    stmt_all (range_rule d1 d2 d3) a b = (left_all d1 (drop a) (both_within b (block_by mark d3 (operand_by mark d2 (drop here)))), operand_all d2 (drop (left_by mark d1 (drop a))) (both_within b (block_by mark d3 here)), block_all d3 (operand_by mark d2 (drop (left_by mark d1 (drop a)))) b)
    stmt_all (switch_rule d1 d2 d3) a b = (first_all d1 (drop a) (both_within b (drop (cases_by mark d3 (drop (option_by mark d2 here))))), option_all d2 (first_by mark d1 (drop a)) (both_within b (drop (cases_by mark d3 (drop here)))), cases_all d3 (drop (option_by mark d2 (first_by mark d1 (drop a)))) (both_within b (drop here)))
    stmt_all (defer_rule d1) a b = bare_all d1 (drop a) b
    stmt_all (label_rule d1) a b = stmt_all d1 (drop (drop a)) b

    block_all : {a0 : S} {a1 : Stmts S} {ts r : Lexemes} → SpellsBlock mark a0 a1 ts r → Within ts whole → Within q r → AllStmts P a1
    block_all (braces_rule d1) a b = stmts_all d1 (drop a) (both_within b (drop here))

    stmts_all : {a0 : Stmts S} {ts r : Lexemes} → SpellsStmts mark a0 ts r → Within ts whole → Within q r → AllStmts P a0
    stmts_all no_stmts_rule a b = tt
    stmts_all (last_stmt_rule d1 d2) a b = (stmt_all d2 a b, tt)
    stmts_all (more_stmts_rule d1 d2) a b = (stmt_all d1 a (both_within b (stmts_by mark d2 (drop here))), stmts_all d2 (drop (stmt_by mark d1 a)) b)

    if_all : {a0 : Arms S} {a1 : BlockOption S} {ts r : Lexemes} → SpellsIf mark a0 a1 ts r → Within ts whole → Within q r → AllArms P a0 × AllBlockOption P a1
    if_all (only_arm_rule d1) a b = ((arm_all d1 a b, tt), tt)
    if_all (else_rule d1 d2) a b = ((arm_all d1 a (both_within b (block_by mark d2 (drop here))), tt), block_all d2 (drop (arm_by mark d1 a)) b)
    if_all (else_if_rule d1 d2) a b = let e = if_all d2 (drop (arm_by mark d1 a)) b in ((arm_all d1 a (both_within b (if_by mark d2 (drop here))), e.0), e.1)

    arm_all : {a0 : StmtOption S} {a1 : Expr S} {a2 : S} {a3 : Stmts S} {ts r : Lexemes} → SpellsArm mark a0 a1 a2 a3 ts r → Within ts whole → Within q r → AllStmtOption P a0 × AllExpr P a1 × AllStmts P a3
    arm_all (arm_rule d1 d2 d3) a b = (first_all d1 (drop a) (both_within b (block_by mark d3 (operand_by mark d2 here))), operand_all d2 (first_by mark d1 (drop a)) (both_within b (block_by mark d3 here)), block_all d3 (operand_by mark d2 (first_by mark d1 (drop a))) b)

    left_all : {a0 : RangeLeft S} {ts r : Lexemes} → SpellsLeft mark a0 ts r → Within ts whole → Within q r → AllLeft P a0
    left_all no_left_rule a b = tt
    left_all (assigns_rule d1) a b = exprs_all d1 a (both_within b (drop here))
    left_all (defines_rule d1) a b = tt

    cases_all : {a0 : Cases S} {ts r : Lexemes} → SpellsCases mark a0 ts r → Within ts whole → Within q r → AllCases P a0
    cases_all no_cases_rule a b = tt
    cases_all (case_rule d1 d2 d3) a b = (exprs_all d1 (drop a) (both_within b (cases_by mark d3 (stmts_by mark d2 (drop here)))), stmts_all d2 (drop (exprs_by mark d1 (drop a))) (both_within b (cases_by mark d3 here)), cases_all d3 (stmts_by mark d2 (drop (exprs_by mark d1 (drop a)))) b)
    cases_all (default_rule d1 d2) a b = (tt, stmts_all d1 (drop (drop a)) (both_within b (cases_by mark d2 here)), cases_all d2 (stmts_by mark d1 (drop (drop a))) b)

    decl_all : {a0 : Bool} {a1 : Bool} {a2 : ValueSpecs S} {ts r : Lexemes} → SpellsDecl mark a0 a1 a2 ts r → Within ts whole → Within q r → AllSpecs P a2
    decl_all (single_rule d1) a b = let e = spec_all d1 a b in (e.0, e.1, tt)
    decl_all (group_rule d1) a b = specs_all d1 (drop a) (both_within b (drop here))

    specs_all : {a0 : Bool} {a1 : ValueSpecs S} {ts r : Lexemes} → SpellsSpecs mark a0 a1 ts r → Within ts whole → Within q r → AllSpecs P a1
    specs_all no_specs_rule a b = tt
    specs_all (last_spec_rule d1) a b = let e = spec_all d1 a b in (e.0, e.1, tt)
    specs_all (more_specs_rule d1 d2) a b = let e = spec_all d1 a (both_within b (specs_by mark d2 (drop here))) in (e.0, e.1, specs_all d2 (drop (spec_by mark d1 a)) b)

    spec_all : {a0 : Bool} {a1 : List (NameAt S)} {a2 : Option (TypeExpr S)} {a3 : Exprs S} {ts r : Lexemes} → SpellsSpec mark a0 a1 a2 a3 ts r → Within ts whole → Within q r → AllTypeOption P a2 × AllExprs P a3
    spec_all (repeated_rule d1) a b = (tt, tt)
    spec_all (typed_var_rule d1 d2) a b = (type_all d2 (names_by mark d1 a) b, tt)
    spec_all (values_rule d1 d2) a b = (tt, exprs_all d2 (drop (names_by mark d1 a)) b)
    spec_all (typed_values_rule d1 d2 d3) a b = (type_all d2 (names_by mark d1 a) (both_within b (exprs_by mark d3 (drop here))), exprs_all d3 (drop (type_by mark d2 (names_by mark d1 a))) b)

  type_spec_all : {a0 : TypeSpec S} {ts r : Lexemes} → SpellsTypeSpec mark a0 ts r → Within ts whole → Within q r → AllType P a0.of
  type_spec_all (type_spec_rule d1) a b = type_all d1 (drop a) b
  type_spec_all (alias_spec_rule d1) a b = type_all d1 (drop (drop a)) b

  type_specs_all : {a0 : List (TypeSpec S)} {ts r : Lexemes} → SpellsTypeSpecs mark a0 ts r → Within ts whole → Within q r → AllTypeSpecs P a0
  type_specs_all no_type_specs_rule a b = tt
  type_specs_all (last_type_spec_rule d1) a b = (type_spec_all d1 a b, tt)
  type_specs_all (more_type_specs_rule d1 d2) a b = (type_spec_all d1 a (both_within b (type_specs_by mark d2 (drop here))), type_specs_all d2 (drop (type_spec_by mark d1 a)) b)

  receiver_all : {a0 : Receiver S} {ts r : Lexemes} → SpellsReceiver mark a0 ts r → Within ts whole → Within q r → P a0.of.span
  receiver_all receiver_rule a b = put a (later here) b
  receiver_all pointer_receiver_rule a b = put (drop a) (later here) b
  receiver_all named_receiver_rule a b = put (drop a) (later here) b
  receiver_all named_pointer_receiver_rule a b = put (drop (drop a)) (later here) b

  pub top_all : {a0 : Decl S} {ts r : Lexemes} → SpellsTop mark a0 ts r → Within ts whole → Within q r → AllDecl P a0
  top_all (top_const_rule d1) a b = decl_all d1 (drop a) b
  top_all (top_var_rule d1) a b = decl_all d1 (drop a) b
  top_all (top_type_rule d1) a b = (type_spec_all d1 (drop a) b, tt)
  top_all (top_type_group_rule d1) a b = type_specs_all d1 (drop (drop a)) (both_within b (drop here))
  top_all (top_func_rule d1 d2) a b = (tt, sig_all d1 (drop (drop a)) (both_within b (block_by mark d2 here)), block_all d2 (sig_by mark d1 (drop (drop a))) b)
  top_all (top_method_rule d1 d2 d3) a b = (receiver_all d1 (drop (drop a)) (both_within b (block_by mark d3 (sig_by mark d2 (drop (drop here))))), sig_all d2 (drop (drop (receiver_by mark d1 (drop (drop a))))) (both_within b (block_by mark d3 here)), block_all d3 (sig_by mark d2 (drop (drop (receiver_by mark d1 (drop (drop a)))))) b)
