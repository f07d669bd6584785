-- An expression or a statement that tokens of a text spell is well formed.
use Rattle.std.proofs.Common.{◌≡◌, ℕ, Bool, true, List, Option, Some, None, refl}
use Rattle.go_tree.specs.declared.exprs.Rest.{Rest}
use Rattle.go_tree.specs.Tree.{NameAt, TypeExpr, Expr, Exprs, ExprOption, Elems, Value, ValueOption, Stmt, Stmts, StmtOption, BlockOption, RangeLeft, Arms, Cases, ValueSpecs, no_exprs, expr_and}
use Rattle.go_read.specs.SpellsTypes.{Lexemes, SpellsType, named_rule, qualified_rule, pointer_rule, slice_type_rule, map_type_rule, struct_type_rule, type_parens_rule}
use Rattle.go_read.specs.Spells.{starts_type, SpellsLiteralType, SpellsBare, SpellsExpr, SpellsOperand, SpellsOption, SpellsExprs, SpellsArgs, SpellsElems, SpellsElem, SpellsValue, SpellsSimple, SpellsPart, SpellsFirst, SpellsStmt, SpellsBlock, SpellsStmts, SpellsIf, SpellsArm, SpellsLeft, SpellsCases, SpellsDecl, SpellsSpecs, SpellsSpec, named_literal_rule, qualified_literal_rule, type_literal_rule, ident_rule, int_rule, rune_rule, text_rule, composite_rule, func_rule, type_rule, selector_rule, index_rule, slice_rule, call_rule, unary_rule, star_rule, binary_rule, bare_rule, parens_rule, operand_rule, no_expr_rule, some_expr_rule, last_expr_rule, more_exprs_rule, no_args_rule, args_rule, comma_args_rule, rest_args_rule, comma_rest_args_rule, no_elems_rule, last_elem_rule, more_elems_rule, value_rule, keyed_rule, plain_rule, braced_rule, eval_rule, increment_rule, decrement_rule, assign_rule, define_rule, no_part_rule, part_rule, no_first_rule, first_rule, empty_rule, simple_rule, const_rule, var_rule, return_rule, return_values_rule, break_rule, break_label_rule, continue_rule, continue_label_rule, block_rule, if_rule, while_rule, for_rule, range_rule, switch_rule, defer_rule, label_rule, braces_rule, no_stmts_rule, last_stmt_rule, more_stmts_rule, only_arm_rule, else_rule, else_if_rule, arm_rule, no_left_rule, assigns_rule, defines_rule, no_cases_rule, case_rule, default_rule, single_rule, group_rule, no_specs_rule, last_spec_rule, more_specs_rule, repeated_rule, typed_var_rule, values_rule, typed_values_rule}
use Rattle.go_layout.specs.LayoutLaws.Formed.{FormedType, FormedTypeOption, FormedLiteralType, FormedTypeOperand, FormedExpr, FormedOperand, FormedOption, FormedExprs, FormedRest, FormedElems, FormedKey, FormedValue, FormedStmt, FormedStmts, FormedPart, FormedArms, FormedBlock, FormedLeft, FormedCases, FormedGroup, FormedSpec, FormedSpecs, FormedNames, HasNames, HasExprs, HasArms, is_simple}
use Rattle.go_layout.specs.LayoutLaws.Real.{AreReal}
use Rattle.go_layout.proofs.LayoutLaws.FormedTypes.{type_formed, sig_formed, names_formed}

module _ {S : Type 0} (mark : Lexemes → Lexemes → S) where
  -- a type that begins with `[`, `map` or `struct` is no name and no pointer
  literal_of : {t : TypeExpr S} {ts r : Lexemes} → starts_type ts ≡ true → SpellsType mark t ts r → FormedType t → FormedLiteralType t
  literal_of q named_rule f = absurd cc
  literal_of q qualified_rule f = absurd cc
  literal_of q (pointer_rule d) f = absurd cc
  literal_of q (slice_type_rule d) f = f
  literal_of q (map_type_rule d k) f = f
  literal_of q (struct_type_rule d) f = f
  literal_of q (type_parens_rule d) f = absurd cc

  operand_of : {t : TypeExpr S} {ts r : Lexemes} → starts_type ts ≡ true → SpellsType mark t ts r → FormedType t → FormedTypeOperand t
  operand_of q named_rule f = absurd cc
  operand_of q qualified_rule f = absurd cc
  operand_of q (pointer_rule d) f = absurd cc
  operand_of q (slice_type_rule d) f = f
  operand_of q (map_type_rule d k) f = f
  operand_of q (struct_type_rule d) f = f
  operand_of q (type_parens_rule d) f = absurd cc

  with_values : (c : Bool) (t : Option (TypeExpr S)) (xs : Exprs S) → HasExprs xs → FormedSpec c t xs
  with_values c t no_exprs some = absurd some
  with_values c t (expr_and _ _) some = tt

  literal_formed : {h : Bool} {t : TypeExpr S} {ts r : Lexemes} → SpellsLiteralType mark h t ts r → AreReal ts → FormedLiteralType t × AreReal r
  literal_formed named_literal_rule g = ((tt, g.0), g.1)
  literal_formed qualified_literal_rule g = ((g.0, g.1.1.0), g.1.1.1)
  literal_formed (type_literal_rule q d) g = let x = type_formed mark d g in (literal_of q d x.0, x.1)

  mutual
    pub bare_formed : {l : ℕ} {h : Bool} {e : Expr S} {ts r : Lexemes} → SpellsBare mark l h e ts r → AreReal ts → FormedExpr e × AreReal r
    bare_formed ident_rule g = (g.0, g.1)
    bare_formed int_rule g = (g.0, g.1)
    bare_formed rune_rule g = (g.0, g.1)
    bare_formed text_rule g = (g.0, g.1)
    bare_formed (composite_rule a b) g = let x = literal_formed a g in let y = elems_formed b x.1.1 in ((x.0, y.0), y.1.1)
    bare_formed (func_rule a b) g = let x = sig_formed mark a g.1 in let y = block_formed b x.1 in ((x.0, y.0), y.1)
    bare_formed (type_rule q d k) g = let x = type_formed mark d g in (operand_of q d x.0, x.1)
    bare_formed (selector_rule a) g = let x = operand_formed a g in ((x.0.0, x.0.1, x.1.1.0), x.1.1.1)
    bare_formed (index_rule a b) g = let x = operand_formed a g in let y = operand_formed b x.1.1 in ((x.0.0, x.0.1, y.0.0, y.0.1), y.1.1)
    bare_formed (slice_rule a b c) g = let x = operand_formed a g in let y = option_formed b x.1.1 in let z = option_formed c y.1.1 in ((x.0.0, x.0.1, y.0, z.0), z.1.1)
    bare_formed (call_rule a b) g = let x = expr_formed a g in let y = args_formed b x.1.1 in ((x.0, y.0, y.1), y.2)
    bare_formed (unary_rule a b) g = operand_formed b g.1
    bare_formed (star_rule a b) g = operand_formed b g.1
    bare_formed (binary_rule a b c) g = let x = operand_formed b g in let y = operand_formed c x.1.1 in ((x.0.0, x.0.1, y.0.0, y.0.1), y.1)

    pub expr_formed : {l : ℕ} {h : Bool} {e : Expr S} {ts r : Lexemes} → SpellsExpr mark l h e ts r → AreReal ts → FormedExpr e × AreReal r
    expr_formed (bare_rule a) g = bare_formed a g
    expr_formed (parens_rule a) g = let x = expr_formed a g.1 in (x.0, x.1.1)

    pub operand_formed : {l : ℕ} {h : Bool} {e : Expr S} {ts r : Lexemes} → SpellsOperand mark l h e ts r → AreReal ts → FormedOperand e × AreReal r
    operand_formed (operand_rule q d) g = let x = expr_formed d g in ((q, x.0), x.1)

    option_formed : {h : Bool} {o : ExprOption S} {ts r : Lexemes} → SpellsOption mark h o ts r → AreReal ts → FormedOption o × AreReal r
    option_formed no_expr_rule g = (tt, g)
    option_formed (some_expr_rule a) g = operand_formed a g

    exprs_formed : {h : Bool} {xs : Exprs S} {ts r : Lexemes} → SpellsExprs mark h xs ts r → AreReal ts → FormedExprs xs × HasExprs xs × AreReal r
    exprs_formed (last_expr_rule a) g = let x = operand_formed a g in ((x.0.0, x.0.1, tt), tt, x.1)
    exprs_formed (more_exprs_rule a b) g = let x = operand_formed a g in let y = exprs_formed b x.1.1 in ((x.0.0, x.0.1, y.0), tt, y.2)

    args_formed : {xs : Exprs S} {rest : Rest} {ts r : Lexemes} → SpellsArgs mark xs rest ts r → AreReal ts → FormedExprs xs × FormedRest rest xs × AreReal r
    args_formed no_args_rule g = (tt, tt, g.1)
    args_formed (args_rule a) g = let x = exprs_formed a g in (x.0, tt, x.2.1)
    args_formed (comma_args_rule a) g = let x = exprs_formed a g in (x.0, tt, x.2.1.1)
    args_formed (rest_args_rule a) g = let x = exprs_formed a g in (x.0, x.1, x.2.1.1)
    args_formed (comma_rest_args_rule a) g = let x = exprs_formed a g in (x.0, x.1, x.2.1.1.1)

    elems_formed : {es : Elems S} {ts r : Lexemes} → SpellsElems mark es ts r → AreReal ts → FormedElems es × AreReal r
    elems_formed no_elems_rule g = (tt, g)
    elems_formed (last_elem_rule a) g = let x = elem_formed a g in ((x.0, x.1, tt), x.2)
    elems_formed (more_elems_rule a b) g = let x = elem_formed a g in let y = elems_formed b x.2.1 in ((x.0, x.1, y.0), y.1)

    elem_formed : {k : ValueOption S} {v : Value S} {ts r : Lexemes} → SpellsElem mark k v ts r → AreReal ts → FormedKey k × FormedValue v × AreReal r
    elem_formed (value_rule a) g = let x = value_formed a g in (tt, x.0, x.1)
    elem_formed (keyed_rule a b) g = let x = value_formed a g in let y = value_formed b x.1.1 in (x.0, y.0, y.1)

    value_formed : {v : Value S} {ts r : Lexemes} → SpellsValue mark v ts r → AreReal ts → FormedValue v × AreReal r
    value_formed (plain_rule a) g = operand_formed a g
    value_formed (braced_rule a) g = let x = elems_formed a g.1 in (x.0, x.1.1)

    simple_formed : {h : Bool} {x : Stmt S} {ts r : Lexemes} → SpellsSimple mark h x ts r → AreReal ts → (is_simple x ≡ true) × FormedStmt x × AreReal r
    simple_formed (eval_rule a) g = let x = operand_formed a g in (refl, x.0, x.1)
    simple_formed (increment_rule a) g = let x = operand_formed a g in (refl, x.0, x.1.1)
    simple_formed (decrement_rule a) g = let x = operand_formed a g in (refl, x.0, x.1.1)
    simple_formed (assign_rule a b) g = let x = exprs_formed a g in let y = exprs_formed b x.2.1 in (refl, (x.1, x.0, x.2.0, y.1, y.0), y.2)
    simple_formed (define_rule a b) g = let x = names_formed mark a g in let y = exprs_formed b x.2.1 in (refl, (x.0, x.1, y.1, y.0), y.2)

    part_formed : {i : StmtOption S} {ts r : Lexemes} → SpellsPart mark i ts r → AreReal ts → FormedPart i × AreReal r
    part_formed no_part_rule g = (tt, g)
    part_formed (part_rule a) g = let x = simple_formed a g in ((x.0, x.1), x.2)

    first_formed : {i : StmtOption S} {ts r : Lexemes} → SpellsFirst mark i ts r → AreReal ts → FormedPart i × AreReal r
    first_formed no_first_rule g = (tt, g)
    first_formed (first_rule a) g = let x = part_formed a g in (x.0, x.1.1)

    pub stmt_formed : {x : Stmt S} {ts r : Lexemes} → SpellsStmt mark x ts r → AreReal ts → FormedStmt x × AreReal r
    stmt_formed empty_rule g = (tt, g)
    stmt_formed (simple_rule a) g = let x = simple_formed a g in (x.1, x.2)
    stmt_formed (const_rule a) g = let x = decl_formed a g.1 in ((x.0, x.1), x.2)
    stmt_formed (var_rule a) g = let x = decl_formed a g.1 in ((x.0, x.1), x.2)
    stmt_formed return_rule g = (tt, g.1)
    stmt_formed (return_values_rule a) g = let x = exprs_formed a g.1 in (x.0, x.2)
    stmt_formed break_rule g = (tt, g.1)
    stmt_formed break_label_rule g = (g.1.0, g.1.1)
    stmt_formed continue_rule g = (tt, g.1)
    stmt_formed continue_label_rule g = (g.1.0, g.1.1)
    stmt_formed (block_rule a) g = block_formed a g
    stmt_formed (if_rule a) g = let x = if_formed a g in ((x.0, x.1, x.2), x.3)
    stmt_formed (while_rule a b) g = let x = option_formed a g.1 in let y = block_formed b x.1 in ((tt, x.0, tt, y.0), y.1)
    stmt_formed (for_rule a b c d) g =
        let x = part_formed a g.1 in let y = option_formed b x.1.1 in let z = part_formed c y.1.1 in let w = block_formed d z.1 in ((x.0, y.0, z.0, w.0), w.1)
    stmt_formed (range_rule a b c) g = let x = left_formed a g.1 in let y = operand_formed b x.1.1 in let z = block_formed c y.1 in ((x.0, y.0.0, y.0.1, z.0), z.1)
    stmt_formed (switch_rule a b c) g = let x = first_formed a g.1 in let y = option_formed b x.1 in let z = cases_formed c y.1.1 in ((x.0, y.0, z.0), z.1.1)
    stmt_formed (defer_rule a) g = let x = bare_formed a g.1 in ((refl, x.0), x.1)
    stmt_formed (label_rule a) g = let x = stmt_formed a g.1.1 in ((g.0, x.0), x.1)

    block_formed : {sb : S} {body : Stmts S} {ts r : Lexemes} → SpellsBlock mark sb body ts r → AreReal ts → FormedStmts body × AreReal r
    block_formed (braces_rule a) g = let x = stmts_formed a g.1 in (x.0, x.1.1)

    pub stmts_formed : {body : Stmts S} {ts r : Lexemes} → SpellsStmts mark body ts r → AreReal ts → FormedStmts body × AreReal r
    stmts_formed no_stmts_rule g = (tt, g)
    stmts_formed (last_stmt_rule q d) g = let x = stmt_formed d g in ((x.0, tt), x.1)
    stmts_formed (more_stmts_rule d k) g = let x = stmt_formed d g in let y = stmts_formed k x.1.1 in ((x.0, y.0), y.1)

    if_formed : {arms : Arms S} {last : BlockOption S} {ts r : Lexemes} → SpellsIf mark arms last ts r → AreReal ts → HasArms arms × FormedArms arms × FormedBlock last × AreReal r
    if_formed (only_arm_rule a) g = let x = arm_formed a g in (tt, (x.0, x.1.0, x.1.1, x.2, tt), tt, x.3)
    if_formed (else_rule a b) g = let x = arm_formed a g in let y = block_formed b x.3.1 in (tt, (x.0, x.1.0, x.1.1, x.2, tt), y.0, y.1)
    if_formed (else_if_rule a b) g = let x = arm_formed a g in let y = if_formed b x.3.1 in (tt, (x.0, x.1.0, x.1.1, x.2, y.1), y.2, y.3)

    arm_formed : {i : StmtOption S} {t : Expr S} {sb : S} {body : Stmts S} {ts r : Lexemes} → SpellsArm mark i t sb body ts r → AreReal ts → FormedPart i × FormedOperand t × FormedStmts body × AreReal r
    arm_formed (arm_rule a b c) g = let x = first_formed a g.1 in let y = operand_formed b x.1 in let z = block_formed c y.1 in (x.0, y.0, z.0, z.1)

    left_formed : {left : RangeLeft S} {ts r : Lexemes} → SpellsLeft mark left ts r → AreReal ts → FormedLeft left × AreReal r
    left_formed no_left_rule g = (tt, g)
    left_formed (assigns_rule a) g = let x = exprs_formed a g in ((x.1, x.0), x.2.1)
    left_formed (defines_rule a) g = let x = names_formed mark a g in ((x.0, x.1), x.2.1)

    cases_formed : {cs : Cases S} {ts r : Lexemes} → SpellsCases mark cs ts r → AreReal ts → FormedCases cs × AreReal r
    cases_formed no_cases_rule g = (tt, g)
    cases_formed (case_rule a b c) g = let x = exprs_formed a g.1 in let y = stmts_formed b x.2.1 in let z = cases_formed c y.1 in ((x.0, y.0, z.0), z.1)
    cases_formed (default_rule a b) g = let y = stmts_formed a g.1.1 in let z = cases_formed b y.1 in ((tt, y.0, z.0), z.1)

    decl_formed : {c grouped : Bool} {ss : ValueSpecs S} {ts r : Lexemes} → SpellsDecl mark c grouped ss ts r → AreReal ts → FormedGroup grouped ss × FormedSpecs c ss × AreReal r
    decl_formed (single_rule a) g = let x = spec_formed a g in (tt, (x.0, x.1, x.2, x.3, x.4, tt), x.5)
    decl_formed (group_rule a) g = let x = specs_formed a g.1 in (tt, x.0, x.1.1)

    specs_formed : {c : Bool} {ss : ValueSpecs S} {ts r : Lexemes} → SpellsSpecs mark c ss ts r → AreReal ts → FormedSpecs c ss × AreReal r
    specs_formed no_specs_rule g = (tt, g)
    specs_formed (last_spec_rule a) g = let x = spec_formed a g in ((x.0, x.1, x.2, x.3, x.4, tt), x.5)
    specs_formed (more_specs_rule a b) g = let x = spec_formed a g in let y = specs_formed b x.5.1 in ((x.0, x.1, x.2, x.3, x.4, y.0), y.1)

    spec_formed : {c : Bool} {ns : List (NameAt S)} {t : Option (TypeExpr S)} {xs : Exprs S} {ts r : Lexemes} → SpellsSpec mark c ns t xs ts r → AreReal ts
        → HasNames ns × FormedNames ns × FormedTypeOption t × FormedExprs xs × FormedSpec c t xs × AreReal r
    spec_formed (repeated_rule a) g = let x = names_formed mark a g in (x.0, x.1, tt, tt, tt, x.2)
    spec_formed (typed_var_rule a b) g = let x = names_formed mark a g in let y = type_formed mark b x.2 in (x.0, x.1, y.0, tt, tt, y.1)
    spec_formed (values_rule {constant = c} {xs = xs} a b) g = let x = names_formed mark a g in let y = exprs_formed b x.2.1 in (x.0, x.1, tt, y.0, with_values c None xs y.1, y.2)
    spec_formed (typed_values_rule {constant = c} {t = t} {xs = xs} a b d) g =
        let x = names_formed mark a g in let y = type_formed mark b x.2 in let z = exprs_formed d y.1.1 in (x.0, x.1, y.0, z.0, with_values c (Some t) xs z.1, z.2)
