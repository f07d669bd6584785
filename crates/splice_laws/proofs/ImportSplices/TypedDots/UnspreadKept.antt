-- A file in which no call hands on a slice, with a node put in that has no such call, is such a file again.
use Rattle.std.proofs.Common.{ℕ, Bool, List, map, subst}
use Rattle.go_tree.specs.declared.exprs.Rest.{Rest}
use Rattle.go_tree.specs.declared.exprs.Rest.TheVariants.{Plain, Whole, Packed, Empty}
use Rattle.go_tree.specs.Tree.{Expr, Exprs, ExprOption, Elems, Value, Stmt, Stmts, StmtOption, Arms, Cases, ValueSpecs}
use Rattle.go_tree.specs.Bare.{bare_expr, bare_exprs, bare_expr_option, bare_elems, bare_value, bare_stmt, bare_stmts, bare_stmt_option, bare_arms, bare_cases, bare_value_specs}
use Rattle.go_tree.specs.File.{Decl, File}
use Rattle.go_tree.specs.FileBare.{bare_decl, bare_file}
use Rattle.splice_laws.specs.Dots.{ExprDots, ExprsDots, OptionDots, ElemsDots, ValueDots, StmtDots, StmtsDots, PartDots, ArmsDots, CasesDots, SpecsDots, DeclDots, DeclsDots}
use Rattle.splice_laws.specs.Swaps.{Swap, OperandIn, this_operand, inside_operand, CalleeIn, this_callee, inside_callee, PartOfExpr, in_literal_type, in_elems, in_func_body, in_signature, in_type_operand, in_selected, in_indexed, in_index, in_sliced, in_low, in_high, in_called, in_args, in_unary, in_star, in_left, in_right, OptionIn, in_option, ExprsIn, in_first_expr, in_later_exprs, ElemsIn, in_key, in_value, in_later_elems, ValueIn, in_plain, in_braced, SimpleIn, in_eval, in_step, in_assigned, in_assign, in_define, PartIn, in_part, PartOfStmt, in_simple, in_const, in_var, in_return, in_block, in_arms, in_else, in_for_first, in_for_test, in_for_post, in_for_body, in_range_left, in_range, in_range_body, in_switch_first, in_tag, in_cases, in_deferred, in_deferred_args, this_deferred, in_label, StmtsIn, this_stmt, inside_stmt, in_later_stmts, ArmsIn, in_arm_first, in_arm_test, in_arm_body, in_later_arms, CasesIn, in_case, in_case_body, in_later_cases, SpecsIn, in_spec_type, in_spec_values, in_later_specs, DeclIn, in_constants, in_variables, in_types, in_function, in_func_signature, DeclsIn, in_this_decl, in_later_decls, FileIn, in_decls}
use Rattle.splice_laws.specs.ImportSplices.TypedDots.TypedDots.{AnyExpr}
use Rattle.splice_laws.specs.ImportSplices.TypedDots.Unspread.{UnspreadRest, UnspreadNew, UnspreadFile}

-- what is said of the arguments doesn't look at them
handed : {S : Type 0} (rest : Rest) (xs ys : Exprs S) → UnspreadRest rest xs → UnspreadRest rest ys
handed Plain xs ys d = tt
handed Whole xs ys d = d
handed Packed xs ys d = tt
handed Empty xs ys d = tt

module _ {S : Type 0} (w : Swap S) (n : UnspreadNew w) where
  mutual
    operand_kept : {l : ℕ} {h : Bool} {x y : Expr S} → OperandIn w l h x y → ExprDots AnyExpr UnspreadRest (bare_expr x) → ExprDots AnyExpr UnspreadRest (bare_expr y)
    operand_kept (this_operand q) d = subst (λ (v : Swap S). UnspreadNew v) q n
    operand_kept (inside_operand p) d = expr_kept p d

    callee_kept : {h : Bool} {x y : Expr S} → CalleeIn w h x y → ExprDots AnyExpr UnspreadRest (bare_expr x) → ExprDots AnyExpr UnspreadRest (bare_expr y)
    callee_kept (this_callee q) d = subst (λ (v : Swap S). UnspreadNew v) q n
    callee_kept (inside_callee p) d = expr_kept p d

    expr_kept : {h : Bool} {x y : Expr S} → PartOfExpr w h x y → ExprDots AnyExpr UnspreadRest (bare_expr x) → ExprDots AnyExpr UnspreadRest (bare_expr y)
    expr_kept (in_literal_type p) d = d
    expr_kept (in_elems p) d = elems_kept p d
    expr_kept (in_func_body p) d = stmts_kept p d
    expr_kept (in_signature p) d = d
    expr_kept (in_type_operand p) d = tt
    expr_kept (in_selected p) d = (tt, operand_kept p d.1)
    expr_kept (in_indexed p) d = (operand_kept p d.0, d.1)
    expr_kept (in_index p) d = (d.0, operand_kept p d.1)
    expr_kept (in_sliced p) d = (operand_kept p d.0, d.1, d.2)
    expr_kept (in_low p) d = (d.0, option_kept p d.1, d.2)
    expr_kept (in_high p) d = (d.0, d.1, option_kept p d.2)
    expr_kept (in_called p) d = (callee_kept p d.0, d.1, d.2)
    expr_kept (in_args {xs = xs} {ys = ys} {rest = rest} p) d = (d.0, exprs_kept p d.1, handed rest (bare_exprs xs) (bare_exprs ys) d.2)
    expr_kept (in_unary p) d = operand_kept p d
    expr_kept (in_star p) d = operand_kept p d
    expr_kept (in_left p) d = (operand_kept p d.0, d.1)
    expr_kept (in_right p) d = (d.0, operand_kept p d.1)

    option_kept : {h : Bool} {x y : ExprOption S} → OptionIn w h x y → OptionDots AnyExpr UnspreadRest (bare_expr_option x) → OptionDots AnyExpr UnspreadRest (bare_expr_option y)
    option_kept (in_option p) d = operand_kept p d

    exprs_kept : {h : Bool} {x y : Exprs S} → ExprsIn w h x y → ExprsDots AnyExpr UnspreadRest (bare_exprs x) → ExprsDots AnyExpr UnspreadRest (bare_exprs y)
    exprs_kept (in_first_expr p) d = (operand_kept p d.0, d.1)
    exprs_kept (in_later_exprs p) d = (d.0, exprs_kept p d.1)

    elems_kept : {x y : Elems S} → ElemsIn w x y → ElemsDots AnyExpr UnspreadRest (bare_elems x) → ElemsDots AnyExpr UnspreadRest (bare_elems y)
    elems_kept (in_key p) d = (value_kept p d.0, d.1, d.2)
    elems_kept (in_value p) d = (d.0, value_kept p d.1, d.2)
    elems_kept (in_later_elems p) d = (d.0, d.1, elems_kept p d.2)

    value_kept : {x y : Value S} → ValueIn w x y → ValueDots AnyExpr UnspreadRest (bare_value x) → ValueDots AnyExpr UnspreadRest (bare_value y)
    value_kept (in_plain p) d = operand_kept p d
    value_kept (in_braced p) d = elems_kept p d

    simple_kept : {h : Bool} {x y : Stmt S} → SimpleIn w h x y → StmtDots AnyExpr UnspreadRest (bare_stmt x) → StmtDots AnyExpr UnspreadRest (bare_stmt y)
    simple_kept (in_eval p) d = operand_kept p d
    simple_kept (in_step p) d = operand_kept p d
    simple_kept (in_assigned p) d = (exprs_kept p d.0, d.1)
    simple_kept (in_assign p) d = (d.0, exprs_kept p d.1)
    simple_kept (in_define p) d = exprs_kept p d

    part_kept : {x y : StmtOption S} → PartIn w x y → PartDots AnyExpr UnspreadRest (bare_stmt_option x) → PartDots AnyExpr UnspreadRest (bare_stmt_option y)
    part_kept (in_part p) d = simple_kept p d

    stmt_kept : {x y : Stmt S} → PartOfStmt w x y → StmtDots AnyExpr UnspreadRest (bare_stmt x) → StmtDots AnyExpr UnspreadRest (bare_stmt y)
    stmt_kept (in_simple p) d = simple_kept p d
    stmt_kept (in_const p) d = specs_kept p d
    stmt_kept (in_var p) d = specs_kept p d
    stmt_kept (in_return p) d = exprs_kept p d
    stmt_kept (in_block p) d = stmts_kept p d
    stmt_kept (in_arms p) d = (arms_kept p d.0, d.1)
    stmt_kept (in_else p) d = (d.0, stmts_kept p d.1)
    stmt_kept (in_for_first p) d = (part_kept p d.0, d.1, d.2, d.3)
    stmt_kept (in_for_test p) d = (d.0, option_kept p d.1, d.2, d.3)
    stmt_kept (in_for_post p) d = (d.0, d.1, part_kept p d.2, d.3)
    stmt_kept (in_for_body p) d = (d.0, d.1, d.2, stmts_kept p d.3)
    stmt_kept (in_range_left p) d = (exprs_kept p d.0, d.1, d.2)
    stmt_kept (in_range p) d = (d.0, operand_kept p d.1, d.2)
    stmt_kept (in_range_body p) d = (d.0, d.1, stmts_kept p d.2)
    stmt_kept (in_switch_first p) d = (part_kept p d.0, d.1, d.2)
    stmt_kept (in_tag p) d = (d.0, option_kept p d.1, d.2)
    stmt_kept (in_cases p) d = (d.0, d.1, cases_kept p d.2)
    stmt_kept (in_deferred p) d = (callee_kept p d.0, d.1, d.2)
    stmt_kept (in_deferred_args {xs = xs} {ys = ys} {rest = rest} p) d = (d.0, exprs_kept p d.1, handed rest (bare_exprs xs) (bare_exprs ys) d.2)
    stmt_kept (this_deferred q) d = subst (λ (v : Swap S). UnspreadNew v) q n
    stmt_kept (in_label p) d = stmt_kept p d

    stmts_kept : {x y : Stmts S} → StmtsIn w x y → StmtsDots AnyExpr UnspreadRest (bare_stmts x) → StmtsDots AnyExpr UnspreadRest (bare_stmts y)
    stmts_kept (this_stmt q) d = (subst (λ (v : Swap S). UnspreadNew v) q n, d.1)
    stmts_kept (inside_stmt p) d = (stmt_kept p d.0, d.1)
    stmts_kept (in_later_stmts p) d = (d.0, stmts_kept p d.1)

    arms_kept : {x y : Arms S} → ArmsIn w x y → ArmsDots AnyExpr UnspreadRest (bare_arms x) → ArmsDots AnyExpr UnspreadRest (bare_arms y)
    arms_kept (in_arm_first p) d = (part_kept p d.0, d.1, d.2, d.3)
    arms_kept (in_arm_test p) d = (d.0, operand_kept p d.1, d.2, d.3)
    arms_kept (in_arm_body p) d = (d.0, d.1, stmts_kept p d.2, d.3)
    arms_kept (in_later_arms p) d = (d.0, d.1, d.2, arms_kept p d.3)

    cases_kept : {x y : Cases S} → CasesIn w x y → CasesDots AnyExpr UnspreadRest (bare_cases x) → CasesDots AnyExpr UnspreadRest (bare_cases y)
    cases_kept (in_case p) d = (exprs_kept p d.0, d.1, d.2)
    cases_kept (in_case_body p) d = (d.0, stmts_kept p d.1, d.2)
    cases_kept (in_later_cases p) d = (d.0, d.1, cases_kept p d.2)

    specs_kept : {x y : ValueSpecs S} → SpecsIn w x y → SpecsDots AnyExpr UnspreadRest (bare_value_specs x) → SpecsDots AnyExpr UnspreadRest (bare_value_specs y)
    specs_kept (in_spec_type p) d = d
    specs_kept (in_spec_values p) d = (exprs_kept p d.0, d.1)
    specs_kept (in_later_specs p) d = (d.0, specs_kept p d.1)

  decl_kept : {x y : Decl S} → DeclIn w x y → DeclDots AnyExpr UnspreadRest (bare_decl x) → DeclDots AnyExpr UnspreadRest (bare_decl y)
  decl_kept (in_constants p) d = specs_kept p d
  decl_kept (in_variables p) d = specs_kept p d
  decl_kept (in_types p) d = tt
  decl_kept (in_function p) d = stmts_kept p d
  decl_kept (in_func_signature p) d = d

  decls_kept : {x y : List (Decl S)} → DeclsIn w x y → DeclsDots AnyExpr UnspreadRest (map bare_decl x) → DeclsDots AnyExpr UnspreadRest (map bare_decl y)
  decls_kept (in_this_decl p) d = (decl_kept p d.0, d.1)
  decls_kept (in_later_decls p) d = (d.0, decls_kept p d.1)

  pub file_kept : {f g : File S} → FileIn w f g → UnspreadFile (bare_file f) → UnspreadFile (bare_file g)
  file_kept (in_decls p) d = decls_kept p d
