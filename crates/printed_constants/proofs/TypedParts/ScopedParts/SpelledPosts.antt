-- Where tokens spell a tree, the last statement in the header of each `for` in it is a simple statement.
use Rattle.std.proofs.Common.{◌≡◌, ℕ, Bool, true, List, [], ◌∷◌, Option, refl}
use Rattle.go_tree.specs.Tree.{NameAt, TypeExpr, no_fields, Fields, Param, Sig, Expr, Exprs, ExprOption, Elems, Value, ValueOption, Stmt, Stmts, StmtOption, BlockOption, RangeLeft, Arms, Cases, ValueSpecs}
use Rattle.go_tree.specs.File.{TypeSpec, Receiver, Decl}
use Rattle.go_tree.specs.declared.exprs.Rest.{Rest}
use Rattle.go_read.specs.SpellsTypes.{Lexemes, fields_of, params_of, SpellsType, SpellsFields, SpellsEntries, SpellsRest, SpellsNamed, SpellsUnnamed, SpellsParams, SpellsResults, SpellsSig, SpellsNames, named_rule, qualified_rule, pointer_rule, slice_type_rule, map_type_rule, struct_type_rule, type_parens_rule, no_fields_rule, last_field_rule, more_fields_rule, last_entry_rule, more_entries_rule, rest_rule, named_rest_rule, last_named_rule, comma_named_rule, more_named_rule, rest_named_rule, comma_rest_named_rule, last_unnamed_rule, comma_unnamed_rule, more_unnamed_rule, rest_unnamed_rule, comma_rest_unnamed_rule, no_params_rule, named_params_rule, unnamed_params_rule, no_results_rule, params_results_rule, type_result_rule, sig_rule, last_name_rule, more_names_rule}
use Rattle.go_read.specs.Spells.{SpellsLiteralType, SpellsBare, SpellsExpr, SpellsOperand, SpellsOption, SpellsExprs, SpellsArgs, SpellsElems, SpellsElem, SpellsValue, SpellsSimple, SpellsPart, SpellsFirst, SpellsStmt, SpellsBlock, SpellsStmts, SpellsIf, SpellsArm, SpellsLeft, SpellsCases, SpellsDecl, SpellsSpecs, SpellsSpec, named_literal_rule, qualified_literal_rule, type_literal_rule, ident_rule, int_rule, rune_rule, text_rule, composite_rule, func_rule, type_rule, selector_rule, index_rule, slice_rule, call_rule, unary_rule, star_rule, binary_rule, bare_rule, parens_rule, operand_rule, no_expr_rule, some_expr_rule, last_expr_rule, more_exprs_rule, no_args_rule, args_rule, comma_args_rule, rest_args_rule, comma_rest_args_rule, no_elems_rule, last_elem_rule, more_elems_rule, value_rule, keyed_rule, plain_rule, braced_rule, eval_rule, increment_rule, decrement_rule, assign_rule, define_rule, no_part_rule, part_rule, no_first_rule, first_rule, empty_rule, simple_rule, const_rule, var_rule, return_rule, return_values_rule, break_rule, break_label_rule, continue_rule, continue_label_rule, block_rule, if_rule, while_rule, for_rule, range_rule, switch_rule, defer_rule, label_rule, braces_rule, no_stmts_rule, last_stmt_rule, more_stmts_rule, only_arm_rule, else_rule, else_if_rule, arm_rule, no_left_rule, assigns_rule, defines_rule, no_cases_rule, case_rule, default_rule, single_rule, group_rule, no_specs_rule, last_spec_rule, more_specs_rule, repeated_rule, typed_var_rule, values_rule, typed_values_rule}
use Rattle.go_read.specs.SpellsFiles.{SpellsTypeSpec, SpellsTypeSpecs, SpellsReceiver, SpellsTop, type_spec_rule, alias_spec_rule, no_type_specs_rule, last_type_spec_rule, more_type_specs_rule, receiver_rule, pointer_receiver_rule, named_receiver_rule, named_pointer_receiver_rule, top_const_rule, top_var_rule, top_type_rule, top_type_group_rule, top_func_rule, top_method_rule}
use Rattle.go_tree.specs.Tree.{some_stmt}
use Rattle.printed_constants.specs.TypedParts.ScopedParts.Posts.{is_post, PostsInExpr, PostsInExprs, PostsInExprOption, PostsInElems, PostsInValue, PostsInValueOption, PostsInStmt, PostsInStmts, PostsInStmtOption, PostsInBlockOption, PostsInLeft, PostsInArms, PostsInCases, PostsInSpecs, PostsInDecl}

module _ {S : Type 0} {mark : Lexemes → Lexemes → S} where
  a_simple : {h : Bool} {x : Stmt S} {ts r : Lexemes} → SpellsSimple mark h x ts r → is_post (some_stmt x) ≡ true
  a_simple (eval_rule d1) = refl
  a_simple (increment_rule d1) = refl
  a_simple (decrement_rule d1) = refl
  a_simple (assign_rule d1 d2) = refl
  a_simple (define_rule d1 d2) = refl

  a_post : {q : StmtOption S} {ts r : Lexemes} → SpellsPart mark q ts r → is_post q ≡ true
  a_post no_part_rule = refl
  a_post (part_rule d1) = a_simple d1

module _ {S : Type 0} (mark : Lexemes → Lexemes → S) where
  mutual
    bare_posts : {a0 : ℕ} {a1 : Bool} {a2 : Expr S} {ts r : Lexemes} → SpellsBare mark a0 a1 a2 ts r → PostsInExpr a2
    bare_posts ident_rule = tt
    bare_posts int_rule = tt
    bare_posts rune_rule = tt
    bare_posts text_rule = tt
    bare_posts (composite_rule d1 d2) = elems_posts d2
    bare_posts (func_rule d1 d2) = block_posts d2
    bare_posts (type_rule d1 d2 d3) = tt
    bare_posts (selector_rule d1) = operand_posts d1
    bare_posts (index_rule d1 d2) = (operand_posts d1, operand_posts d2)
    bare_posts (slice_rule d1 d2 d3) = (operand_posts d1, option_posts d2, option_posts d3)
    bare_posts (call_rule d1 d2) = (expr_posts d1, args_posts d2)
    bare_posts (unary_rule d1 d2) = operand_posts d2
    bare_posts (star_rule d1 d2) = operand_posts d2
    bare_posts (binary_rule d1 d2 d3) = (operand_posts d2, operand_posts d3)

    expr_posts : {a0 : ℕ} {a1 : Bool} {a2 : Expr S} {ts r : Lexemes} → SpellsExpr mark a0 a1 a2 ts r → PostsInExpr a2
    expr_posts (bare_rule d1) = bare_posts d1
    expr_posts (parens_rule d1) = expr_posts d1

    operand_posts : {a0 : ℕ} {a1 : Bool} {a2 : Expr S} {ts r : Lexemes} → SpellsOperand mark a0 a1 a2 ts r → PostsInExpr a2
    operand_posts (operand_rule d1 d2) = expr_posts d2

    option_posts : {a0 : Bool} {a1 : ExprOption S} {ts r : Lexemes} → SpellsOption mark a0 a1 ts r → PostsInExprOption a1
    option_posts no_expr_rule = tt
    option_posts (some_expr_rule d1) = operand_posts d1

    exprs_posts : {a0 : Bool} {a1 : Exprs S} {ts r : Lexemes} → SpellsExprs mark a0 a1 ts r → PostsInExprs a1
    exprs_posts (last_expr_rule d1) = (operand_posts d1, tt)
    exprs_posts (more_exprs_rule d1 d2) = (operand_posts d1, exprs_posts d2)

    args_posts : {a0 : Exprs S} {a1 : Rest} {ts r : Lexemes} → SpellsArgs mark a0 a1 ts r → PostsInExprs a0
    args_posts no_args_rule = tt
    args_posts (args_rule d1) = exprs_posts d1
    args_posts (comma_args_rule d1) = exprs_posts d1
    args_posts (rest_args_rule d1) = exprs_posts d1
    args_posts (comma_rest_args_rule d1) = exprs_posts d1

    elems_posts : {a0 : Elems S} {ts r : Lexemes} → SpellsElems mark a0 ts r → PostsInElems a0
    elems_posts no_elems_rule = tt
    elems_posts (last_elem_rule d1) = let e = elem_posts d1 in (e.0, e.1, tt)
    elems_posts (more_elems_rule d1 d2) = let e = elem_posts d1 in (e.0, e.1, elems_posts d2)

    elem_posts : {a0 : ValueOption S} {a1 : Value S} {ts r : Lexemes} → SpellsElem mark a0 a1 ts r → PostsInValueOption a0 × PostsInValue a1
    elem_posts (value_rule d1) = (tt, value_posts d1)
    elem_posts (keyed_rule d1 d2) = (value_posts d1, value_posts d2)

    value_posts : {a0 : Value S} {ts r : Lexemes} → SpellsValue mark a0 ts r → PostsInValue a0
    value_posts (plain_rule d1) = operand_posts d1
    value_posts (braced_rule d1) = elems_posts d1

    simple_posts : {a0 : Bool} {a1 : Stmt S} {ts r : Lexemes} → SpellsSimple mark a0 a1 ts r → PostsInStmt a1
    simple_posts (eval_rule d1) = operand_posts d1
    simple_posts (increment_rule d1) = operand_posts d1
    simple_posts (decrement_rule d1) = operand_posts d1
    simple_posts (assign_rule d1 d2) = (exprs_posts d1, exprs_posts d2)
    simple_posts (define_rule d1 d2) = exprs_posts d2

    part_posts : {a0 : StmtOption S} {ts r : Lexemes} → SpellsPart mark a0 ts r → PostsInStmtOption a0
    part_posts no_part_rule = tt
    part_posts (part_rule d1) = simple_posts d1

    first_posts : {a0 : StmtOption S} {ts r : Lexemes} → SpellsFirst mark a0 ts r → PostsInStmtOption a0
    first_posts no_first_rule = tt
    first_posts (first_rule d1) = part_posts d1

    stmt_posts : {a0 : Stmt S} {ts r : Lexemes} → SpellsStmt mark a0 ts r → PostsInStmt a0
    stmt_posts empty_rule = tt
    stmt_posts (simple_rule d1) = simple_posts d1
    stmt_posts (const_rule d1) = decl_posts d1
    stmt_posts (var_rule d1) = decl_posts d1
    stmt_posts return_rule = tt
    stmt_posts (return_values_rule d1) = exprs_posts d1
    stmt_posts break_rule = tt
    stmt_posts break_label_rule = tt
    stmt_posts continue_rule = tt
    stmt_posts continue_label_rule = tt
    stmt_posts (block_rule d1) = block_posts d1
    stmt_posts (if_rule d1) = if_posts d1
    stmt_posts (while_rule d1 d2) = (tt, option_posts d1, tt, block_posts d2, refl)
    stmt_posts (for_rule d1 d2 d3 d4) = (part_posts d1, option_posts d2, part_posts d3, block_posts d4, a_post d3)
    stmt_posts (range_rule d1 d2 d3) = (left_posts d1, operand_posts d2, block_posts d3)
    stmt_posts (switch_rule d1 d2 d3) = (first_posts d1, option_posts d2, cases_posts d3)
    stmt_posts (defer_rule d1) = bare_posts d1
    stmt_posts (label_rule d1) = stmt_posts d1

    block_posts : {a0 : S} {a1 : Stmts S} {ts r : Lexemes} → SpellsBlock mark a0 a1 ts r → PostsInStmts a1
    block_posts (braces_rule d1) = stmts_posts d1

    stmts_posts : {a0 : Stmts S} {ts r : Lexemes} → SpellsStmts mark a0 ts r → PostsInStmts a0
    stmts_posts no_stmts_rule = tt
    stmts_posts (last_stmt_rule d1 d2) = (stmt_posts d2, tt)
    stmts_posts (more_stmts_rule d1 d2) = (stmt_posts d1, stmts_posts d2)

    if_posts : {a0 : Arms S} {a1 : BlockOption S} {ts r : Lexemes} → SpellsIf mark a0 a1 ts r → PostsInArms a0 × PostsInBlockOption a1
    if_posts (only_arm_rule d1) = let a = arm_posts d1 in ((a.0, a.1, a.2, tt), tt)
    if_posts (else_rule d1 d2) = let a = arm_posts d1 in ((a.0, a.1, a.2, tt), block_posts d2)
    if_posts (else_if_rule d1 d2) = let a = arm_posts d1 in let e = if_posts d2 in ((a.0, a.1, a.2, e.0), e.1)

    arm_posts : {a0 : StmtOption S} {a1 : Expr S} {a2 : S} {a3 : Stmts S} {ts r : Lexemes} → SpellsArm mark a0 a1 a2 a3 ts r → PostsInStmtOption a0 × PostsInExpr a1 × PostsInStmts a3
    arm_posts (arm_rule d1 d2 d3) = (first_posts d1, operand_posts d2, block_posts d3)

    left_posts : {a0 : RangeLeft S} {ts r : Lexemes} → SpellsLeft mark a0 ts r → PostsInLeft a0
    left_posts no_left_rule = tt
    left_posts (assigns_rule d1) = exprs_posts d1
    left_posts (defines_rule d1) = tt

    cases_posts : {a0 : Cases S} {ts r : Lexemes} → SpellsCases mark a0 ts r → PostsInCases a0
    cases_posts no_cases_rule = tt
    cases_posts (case_rule d1 d2 d3) = (exprs_posts d1, stmts_posts d2, cases_posts d3)
    cases_posts (default_rule d1 d2) = (tt, stmts_posts d1, cases_posts d2)

    decl_posts : {a0 : Bool} {a1 : Bool} {a2 : ValueSpecs S} {ts r : Lexemes} → SpellsDecl mark a0 a1 a2 ts r → PostsInSpecs a2
    decl_posts (single_rule d1) = (spec_posts d1, tt)
    decl_posts (group_rule d1) = specs_posts d1

    specs_posts : {a0 : Bool} {a1 : ValueSpecs S} {ts r : Lexemes} → SpellsSpecs mark a0 a1 ts r → PostsInSpecs a1
    specs_posts no_specs_rule = tt
    specs_posts (last_spec_rule d1) = (spec_posts d1, tt)
    specs_posts (more_specs_rule d1 d2) = (spec_posts d1, specs_posts d2)

    spec_posts : {a0 : Bool} {a1 : List (NameAt S)} {a2 : Option (TypeExpr S)} {a3 : Exprs S} {ts r : Lexemes} → SpellsSpec mark a0 a1 a2 a3 ts r → PostsInExprs a3
    spec_posts (repeated_rule d1) = tt
    spec_posts (typed_var_rule d1 d2) = tt
    spec_posts (values_rule d1 d2) = exprs_posts d2
    spec_posts (typed_values_rule d1 d2 d3) = exprs_posts d3

  pub top_posts : {a0 : Decl S} {ts r : Lexemes} → SpellsTop mark a0 ts r → PostsInDecl a0
  top_posts (top_const_rule d1) = decl_posts d1
  top_posts (top_var_rule d1) = decl_posts d1
  top_posts (top_type_rule d1) = tt
  top_posts (top_type_group_rule d1) = tt
  top_posts (top_func_rule d1 d2) = block_posts d2
  top_posts (top_method_rule d1 d2 d3) = block_posts d3
