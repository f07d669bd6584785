-- Where no token is `...`, no call hands on a slice for its last arguments.
use Rattle.std.proofs.Common.{refl, ℕ, Bool, List, ◌∷◌, Option}
use Rattle.go_tree.specs.Tree.{NameAt, TypeExpr, Expr, Exprs, ExprOption, Elems, Value, ValueOption, Stmt, Stmts, StmtOption, BlockOption, RangeLeft, Arms, Cases, ValueSpecs}
use Rattle.go_tree.specs.File.{Decl, File}
use Rattle.go_tree.specs.declared.exprs.Rest.{Rest}
use Rattle.go_read.specs.SpellsTypes.{Lexemes}
use Rattle.go_read.specs.Spells.{SpellsBare, SpellsExpr, SpellsOperand, SpellsOption, SpellsExprs, SpellsArgs, SpellsElems, SpellsElem, SpellsValue, SpellsSimple, SpellsPart, SpellsFirst, SpellsStmt, SpellsBlock, SpellsStmts, SpellsIf, SpellsArm, SpellsLeft, SpellsCases, SpellsDecl, SpellsSpecs, SpellsSpec, ident_rule, int_rule, rune_rule, text_rule, composite_rule, func_rule, type_rule, selector_rule, index_rule, slice_rule, call_rule, unary_rule, star_rule, binary_rule, bare_rule, parens_rule, operand_rule, no_expr_rule, some_expr_rule, last_expr_rule, more_exprs_rule, no_args_rule, args_rule, comma_args_rule, rest_args_rule, comma_rest_args_rule, no_elems_rule, last_elem_rule, more_elems_rule, value_rule, keyed_rule, plain_rule, braced_rule, eval_rule, increment_rule, decrement_rule, assign_rule, define_rule, no_part_rule, part_rule, no_first_rule, first_rule, empty_rule, simple_rule, const_rule, var_rule, return_rule, return_values_rule, break_rule, break_label_rule, continue_rule, continue_label_rule, block_rule, if_rule, while_rule, for_rule, range_rule, switch_rule, defer_rule, label_rule, braces_rule, no_stmts_rule, last_stmt_rule, more_stmts_rule, only_arm_rule, else_rule, else_if_rule, arm_rule, no_left_rule, assigns_rule, defines_rule, no_cases_rule, case_rule, default_rule, single_rule, group_rule, no_specs_rule, last_spec_rule, more_specs_rule, repeated_rule, typed_var_rule, values_rule, typed_values_rule}
use Rattle.go_read.specs.SpellsFiles.{SpellsTop, SpellsTops, SpellsFront, top_const_rule, top_var_rule, top_type_rule, top_type_group_rule, top_func_rule, top_method_rule, no_tops_rule, more_tops_rule, front_rule}
use Rattle.go_tree.specs.declared.spans.Span.{Span}
use Rattle.go_tree.specs.GoWords.Terminals.{lex, ellipsis}
use Rattle.splice_laws.specs.Dots.{ExprDots, ExprsDots, OptionDots, ElemsDots, ValueDots, KeyDots, StmtDots, StmtsDots, PartDots, BlockDots, LeftDots, ArmsDots, CasesDots, SpecsDots, DeclDots, DeclsDots}
use Rattle.splice_laws.specs.ImportSplices.TypedDots.TypedDots.{AnyExpr}
use Rattle.splice_laws.specs.ImportSplices.TypedDots.Unspread.{UnspreadRest, UnspreadFile}
use Rattle.splice_laws.proofs.ImportSplices.SupportedWords.Spelled as words
use Rattle.splice_laws.proofs.ImportSplices.SupportedWords.Spelled.{Passed, drop, sign_known}

-- none of the tokens that are passed is `...`
module _ {S : Type 0} (mark : Lexemes → Lexemes → S) (whole : Lexemes) (none : (s : Span) (us : Lexemes) → Passed (lex s ellipsis ∷ us) whole → ⊥) where
  mutual
    pub bare_plain : {a0 : ℕ} {a1 : Bool} {a2 : Expr S} {ts r : Lexemes} → SpellsBare mark a0 a1 a2 ts r → Passed ts whole → ExprDots AnyExpr UnspreadRest a2
    bare_plain ident_rule a = tt
    bare_plain int_rule a = tt
    bare_plain rune_rule a = tt
    bare_plain text_rule a = tt
    bare_plain (composite_rule d1 d2) a = elems_plain d2 (drop (words.literal_passed mark whole d1 a) refl)
    bare_plain (func_rule d1 d2) a = block_plain d2 (words.sig_passed mark whole d1 (drop a refl))
    bare_plain (type_rule d1 d2 d3) a = tt
    bare_plain (selector_rule d1) a = (tt, operand_plain d1 a)
    bare_plain (index_rule d1 d2) a = (operand_plain d1 a, operand_plain d2 (drop (words.operand_passed mark whole d1 a) refl))
    bare_plain (slice_rule d1 d2 d3) a = (operand_plain d1 a, option_plain d2 (drop (words.operand_passed mark whole d1 a) refl), option_plain d3 (drop (words.option_passed mark whole d2 (drop (words.operand_passed mark whole d1 a) refl)) refl))
    bare_plain (call_rule d1 d2) a =
        let handed = args_plain d2 (drop (words.expr_passed mark whole d1 a) refl) in
        (expr_plain d1 a, handed.0, handed.1)
    bare_plain (unary_rule {op = op} d1 d2) a = operand_plain d2 (drop a (sign_known op))
    bare_plain (star_rule d1 d2) a = operand_plain d2 (drop a refl)
    bare_plain (binary_rule d1 d2 d3) a = (operand_plain d2 a, operand_plain d3 (drop (words.operand_passed mark whole d2 a) refl))

    pub expr_plain : {a0 : ℕ} {a1 : Bool} {a2 : Expr S} {ts r : Lexemes} → SpellsExpr mark a0 a1 a2 ts r → Passed ts whole → ExprDots AnyExpr UnspreadRest a2
    expr_plain (bare_rule d1) a = bare_plain d1 a
    expr_plain (parens_rule d1) a = expr_plain d1 (drop a refl)

    pub operand_plain : {a0 : ℕ} {a1 : Bool} {a2 : Expr S} {ts r : Lexemes} → SpellsOperand mark a0 a1 a2 ts r → Passed ts whole → ExprDots AnyExpr UnspreadRest a2
    operand_plain (operand_rule d1 d2) a = expr_plain d2 a

    pub option_plain : {a0 : Bool} {a1 : ExprOption S} {ts r : Lexemes} → SpellsOption mark a0 a1 ts r → Passed ts whole → OptionDots AnyExpr UnspreadRest a1
    option_plain no_expr_rule a = tt
    option_plain (some_expr_rule d1) a = operand_plain d1 a

    pub exprs_plain : {a0 : Bool} {a1 : Exprs S} {ts r : Lexemes} → SpellsExprs mark a0 a1 ts r → Passed ts whole → ExprsDots AnyExpr UnspreadRest a1
    exprs_plain (last_expr_rule d1) a = (operand_plain d1 a, tt)
    exprs_plain (more_exprs_rule d1 d2) a = (operand_plain d1 a, exprs_plain d2 (drop (words.operand_passed mark whole d1 a) refl))

    pub args_plain : {a0 : Exprs S} {a1 : Rest} {ts r : Lexemes} → SpellsArgs mark a0 a1 ts r → Passed ts whole → ExprsDots AnyExpr UnspreadRest a0 × UnspreadRest a1 a0
    args_plain no_args_rule a = (tt, tt)
    args_plain (args_rule d1) a = (exprs_plain d1 a, tt)
    args_plain (comma_args_rule d1) a = (exprs_plain d1 a, tt)
    args_plain (rest_args_rule d1) a = absurd (none _ _ (words.exprs_passed mark whole d1 a))
    args_plain (comma_rest_args_rule d1) a = absurd (none _ _ (words.exprs_passed mark whole d1 a))

    pub elems_plain : {a0 : Elems S} {ts r : Lexemes} → SpellsElems mark a0 ts r → Passed ts whole → ElemsDots AnyExpr UnspreadRest a0
    elems_plain no_elems_rule a = tt
    elems_plain (last_elem_rule d1) a = (elem_key_plain d1 a, elem_value_plain d1 a, tt)
    elems_plain (more_elems_rule d1 d2) a = (elem_key_plain d1 a, elem_value_plain d1 a, elems_plain d2 (drop (words.elem_passed mark whole d1 a) refl))

    pub elem_key_plain : {a0 : ValueOption S} {a1 : Value S} {ts r : Lexemes} → SpellsElem mark a0 a1 ts r → Passed ts whole → KeyDots AnyExpr UnspreadRest a0
    elem_key_plain (value_rule d1) a = tt
    elem_key_plain (keyed_rule d1 d2) a = value_plain d1 a

    pub elem_value_plain : {a0 : ValueOption S} {a1 : Value S} {ts r : Lexemes} → SpellsElem mark a0 a1 ts r → Passed ts whole → ValueDots AnyExpr UnspreadRest a1
    elem_value_plain (value_rule d1) a = value_plain d1 a
    elem_value_plain (keyed_rule d1 d2) a = value_plain d2 (drop (words.value_passed mark whole d1 a) refl)

    pub value_plain : {a0 : Value S} {ts r : Lexemes} → SpellsValue mark a0 ts r → Passed ts whole → ValueDots AnyExpr UnspreadRest a0
    value_plain (plain_rule d1) a = operand_plain d1 a
    value_plain (braced_rule d1) a = elems_plain d1 (drop a refl)

    pub simple_plain : {a0 : Bool} {a1 : Stmt S} {ts r : Lexemes} → SpellsSimple mark a0 a1 ts r → Passed ts whole → StmtDots AnyExpr UnspreadRest a1
    simple_plain (eval_rule d1) a = operand_plain d1 a
    simple_plain (increment_rule d1) a = operand_plain d1 a
    simple_plain (decrement_rule d1) a = operand_plain d1 a
    simple_plain (assign_rule d1 d2) a = (exprs_plain d1 a, exprs_plain d2 (drop (words.exprs_passed mark whole d1 a) refl))
    simple_plain (define_rule d1 d2) a = exprs_plain d2 (drop (words.names_passed mark whole d1 a) refl)

    pub part_plain : {a0 : StmtOption S} {ts r : Lexemes} → SpellsPart mark a0 ts r → Passed ts whole → PartDots AnyExpr UnspreadRest a0
    part_plain no_part_rule a = tt
    part_plain (part_rule d1) a = simple_plain d1 a

    pub first_plain : {a0 : StmtOption S} {ts r : Lexemes} → SpellsFirst mark a0 ts r → Passed ts whole → PartDots AnyExpr UnspreadRest a0
    first_plain no_first_rule a = tt
    first_plain (first_rule d1) a = part_plain d1 a

    pub stmt_plain : {a0 : Stmt S} {ts r : Lexemes} → SpellsStmt mark a0 ts r → Passed ts whole → StmtDots AnyExpr UnspreadRest a0
    stmt_plain empty_rule a = tt
    stmt_plain (simple_rule d1) a = simple_plain d1 a
    stmt_plain (const_rule d1) a = decl_plain d1 (drop a refl)
    stmt_plain (var_rule d1) a = decl_plain d1 (drop a refl)
    stmt_plain return_rule a = tt
    stmt_plain (return_values_rule d1) a = exprs_plain d1 (drop a refl)
    stmt_plain break_rule a = tt
    stmt_plain break_label_rule a = tt
    stmt_plain continue_rule a = tt
    stmt_plain continue_label_rule a = tt
    stmt_plain (block_rule d1) a = block_plain d1 a
    stmt_plain (if_rule d1) a = (if_arms_plain d1 a, if_last_plain d1 a)
    stmt_plain (while_rule d1 d2) a = (tt, option_plain d1 (drop a refl), tt, block_plain d2 (words.option_passed mark whole d1 (drop a refl)))
    stmt_plain (for_rule d1 d2 d3 d4) a = (part_plain d1 (drop a refl), option_plain d2 (drop (words.part_passed mark whole d1 (drop a refl)) refl), part_plain d3 (drop (words.option_passed mark whole d2 (drop (words.part_passed mark whole d1 (drop a refl)) refl)) refl), block_plain d4 (words.part_passed mark whole d3 (drop (words.option_passed mark whole d2 (drop (words.part_passed mark whole d1 (drop a refl)) refl)) refl)))
    stmt_plain (range_rule d1 d2 d3) a = (left_plain d1 (drop a refl), operand_plain d2 (drop (words.left_passed mark whole d1 (drop a refl)) refl), block_plain d3 (words.operand_passed mark whole d2 (drop (words.left_passed mark whole d1 (drop a refl)) refl)))
    stmt_plain (switch_rule d1 d2 d3) a = (first_plain d1 (drop a refl), option_plain d2 (words.first_passed mark whole d1 (drop a refl)), cases_plain d3 (drop (words.option_passed mark whole d2 (words.first_passed mark whole d1 (drop a refl))) refl))
    stmt_plain (defer_rule d1) a = bare_plain d1 (drop a refl)
    stmt_plain (label_rule d1) a = stmt_plain d1 (drop (drop a refl) refl)

    pub block_plain : {a0 : S} {a1 : Stmts S} {ts r : Lexemes} → SpellsBlock mark a0 a1 ts r → Passed ts whole → StmtsDots AnyExpr UnspreadRest a1
    block_plain (braces_rule d1) a = stmts_plain d1 (drop a refl)

    pub stmts_plain : {a0 : Stmts S} {ts r : Lexemes} → SpellsStmts mark a0 ts r → Passed ts whole → StmtsDots AnyExpr UnspreadRest a0
    stmts_plain no_stmts_rule a = tt
    stmts_plain (last_stmt_rule d1 d2) a = (stmt_plain d2 a, tt)
    stmts_plain (more_stmts_rule d1 d2) a = (stmt_plain d1 a, stmts_plain d2 (drop (words.stmt_passed mark whole d1 a) refl))

    pub if_arms_plain : {a0 : Arms S} {a1 : BlockOption S} {ts r : Lexemes} → SpellsIf mark a0 a1 ts r → Passed ts whole → ArmsDots AnyExpr UnspreadRest a0
    if_arms_plain (only_arm_rule d1) a = (arm_init_plain d1 a, arm_test_plain d1 a, arm_body_plain d1 a, tt)
    if_arms_plain (else_rule d1 d2) a = (arm_init_plain d1 a, arm_test_plain d1 a, arm_body_plain d1 a, tt)
    if_arms_plain (else_if_rule d1 d2) a = (arm_init_plain d1 a, arm_test_plain d1 a, arm_body_plain d1 a, if_arms_plain d2 (drop (words.arm_passed mark whole d1 a) refl))

    pub if_last_plain : {a0 : Arms S} {a1 : BlockOption S} {ts r : Lexemes} → SpellsIf mark a0 a1 ts r → Passed ts whole → BlockDots AnyExpr UnspreadRest a1
    if_last_plain (only_arm_rule d1) a = tt
    if_last_plain (else_rule d1 d2) a = block_plain d2 (drop (words.arm_passed mark whole d1 a) refl)
    if_last_plain (else_if_rule d1 d2) a = if_last_plain d2 (drop (words.arm_passed mark whole d1 a) refl)

    pub arm_init_plain : {a0 : StmtOption S} {a1 : Expr S} {a2 : S} {a3 : Stmts S} {ts r : Lexemes} → SpellsArm mark a0 a1 a2 a3 ts r → Passed ts whole → PartDots AnyExpr UnspreadRest a0
    arm_init_plain (arm_rule d1 d2 d3) a = first_plain d1 (drop a refl)

    pub arm_test_plain : {a0 : StmtOption S} {a1 : Expr S} {a2 : S} {a3 : Stmts S} {ts r : Lexemes} → SpellsArm mark a0 a1 a2 a3 ts r → Passed ts whole → ExprDots AnyExpr UnspreadRest a1
    arm_test_plain (arm_rule d1 d2 d3) a = operand_plain d2 (words.first_passed mark whole d1 (drop a refl))

    pub arm_body_plain : {a0 : StmtOption S} {a1 : Expr S} {a2 : S} {a3 : Stmts S} {ts r : Lexemes} → SpellsArm mark a0 a1 a2 a3 ts r → Passed ts whole → StmtsDots AnyExpr UnspreadRest a3
    arm_body_plain (arm_rule d1 d2 d3) a = block_plain d3 (words.operand_passed mark whole d2 (words.first_passed mark whole d1 (drop a refl)))

    pub left_plain : {a0 : RangeLeft S} {ts r : Lexemes} → SpellsLeft mark a0 ts r → Passed ts whole → LeftDots AnyExpr UnspreadRest a0
    left_plain no_left_rule a = tt
    left_plain (assigns_rule d1) a = exprs_plain d1 a
    left_plain (defines_rule d1) a = tt

    pub cases_plain : {a0 : Cases S} {ts r : Lexemes} → SpellsCases mark a0 ts r → Passed ts whole → CasesDots AnyExpr UnspreadRest a0
    cases_plain no_cases_rule a = tt
    cases_plain (case_rule d1 d2 d3) a = (exprs_plain d1 (drop a refl), stmts_plain d2 (drop (words.exprs_passed mark whole d1 (drop a refl)) refl), cases_plain d3 (words.stmts_passed mark whole d2 (drop (words.exprs_passed mark whole d1 (drop a refl)) refl)))
    cases_plain (default_rule d1 d2) a = (tt, stmts_plain d1 (drop (drop a refl) refl), cases_plain d2 (words.stmts_passed mark whole d1 (drop (drop a refl) refl)))

    pub decl_plain : {a0 : Bool} {a1 : Bool} {a2 : ValueSpecs S} {ts r : Lexemes} → SpellsDecl mark a0 a1 a2 ts r → Passed ts whole → SpecsDots AnyExpr UnspreadRest a2
    decl_plain (single_rule d1) a = (spec_values_plain d1 a, tt)
    decl_plain (group_rule d1) a = specs_plain d1 (drop a refl)

    pub specs_plain : {a0 : Bool} {a1 : ValueSpecs S} {ts r : Lexemes} → SpellsSpecs mark a0 a1 ts r → Passed ts whole → SpecsDots AnyExpr UnspreadRest a1
    specs_plain no_specs_rule a = tt
    specs_plain (last_spec_rule d1) a = (spec_values_plain d1 a, tt)
    specs_plain (more_specs_rule d1 d2) a = (spec_values_plain d1 a, specs_plain d2 (drop (words.spec_passed mark whole d1 a) refl))

    pub spec_values_plain : {a0 : Bool} {a1 : List (NameAt S)} {a2 : Option (TypeExpr S)} {a3 : Exprs S} {ts r : Lexemes} → SpellsSpec mark a0 a1 a2 a3 ts r → Passed ts whole → ExprsDots AnyExpr UnspreadRest a3
    spec_values_plain (repeated_rule d1) a = tt
    spec_values_plain (typed_var_rule d1 d2) a = tt
    spec_values_plain (values_rule d1 d2) a = exprs_plain d2 (drop (words.names_passed mark whole d1 a) refl)
    spec_values_plain (typed_values_rule d1 d2 d3) a = exprs_plain d3 (drop (words.type_passed mark whole d2 (words.names_passed mark whole d1 a)) refl)

  pub top_plain : {a0 : Decl S} {ts r : Lexemes} → SpellsTop mark a0 ts r → Passed ts whole → DeclDots AnyExpr UnspreadRest a0
  top_plain (top_const_rule d1) a = decl_plain d1 (drop a refl)
  top_plain (top_var_rule d1) a = decl_plain d1 (drop a refl)
  top_plain (top_type_rule d1) a = tt
  top_plain (top_type_group_rule d1) a = tt
  top_plain (top_func_rule d1 d2) a = block_plain d2 (words.sig_passed mark whole d1 (drop (drop a refl) refl))
  top_plain (top_method_rule d1 d2 d3) a = block_plain d3 (words.sig_passed mark whole d2 (drop (drop (words.receiver_passed mark whole d1 (drop (drop a refl) refl)) refl) refl))

  pub tops_plain : {a0 : List (Decl S)} {ts r : Lexemes} → SpellsTops mark a0 ts r → Passed ts whole → DeclsDots AnyExpr UnspreadRest a0
  tops_plain no_tops_rule a = tt
  tops_plain (more_tops_rule d1 d2) a = (top_plain d1 a, tops_plain d2 (drop (words.top_passed mark whole d1 a) refl))

  pub front_plain : {a0 : File S} {ts r : Lexemes} → SpellsFront mark a0 ts r → Passed ts whole → UnspreadFile a0
  front_plain (front_rule d1 d2 d3) a = tops_plain d3 (words.imports_passed mark whole d2 (drop (drop (drop a refl) refl) refl))
