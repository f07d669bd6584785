-- Tokens that spell an expression, a statement or a declaration, with those of one node replaced, spell it with that node
-- replaced.
use Rattle.std.proofs.Common.{◌≡◌, ℕ, ◌+◌, ◌≤◌, Bool, true, false, List, ◌∷◌, map, Option, Some, None, refl, ◌∙◌}
use Rattle.std.specs.Option.{option_map}
use Rattle.go_tree.specs.declared.operators.BinOp.TheVariants.{Mul}
use Rattle.go_tree.specs.Tree.{NameAt, TypeExpr, Expr, Exprs, ExprOption, Elems, Value, ValueOption, Stmt, Stmts, StmtOption, BlockOption, Arms, Cases, ValueSpecs, some_value, some_block, assigns}
use Rattle.go_tree.specs.Bare.{bare_name, bare_type, bare_expr, bare_exprs, bare_expr_option, bare_elems, bare_value, bare_value_option, bare_stmt, bare_stmts, bare_stmt_option, bare_block_option, bare_arms, bare_cases, bare_value_specs}
use Rattle.go_tree.specs.declared.exprs.Rest.{Rest}
use Rattle.go_tree.specs.GoWords.Terminals.{lex, ident, binary_op, assign, define, comma, semicolon, colon, paren, bracket, brace, key_case, key_const, key_default, key_defer, key_else, key_for, key_func, key_if, key_range, key_return, key_switch, key_var, unary_sign, level_of}
use Rattle.go_read.specs.SpellsTypes.{Lexemes}
use Rattle.go_read.specs.Spells.{follows_type, SpellsBare, SpellsExpr, SpellsOperand, SpellsOption, SpellsExprs, SpellsArgs, SpellsElems, SpellsElem, SpellsValue, SpellsSimple, SpellsPart, SpellsFirst, SpellsStmt, SpellsBlock, SpellsStmts, SpellsIf, SpellsArm, SpellsLeft, SpellsCases, SpellsDecl, SpellsSpecs, SpellsSpec, ident_rule, int_rule, rune_rule, text_rule, composite_rule, func_rule, type_rule, selector_rule, index_rule, slice_rule, call_rule, unary_rule, star_rule, binary_rule, bare_rule, parens_rule, operand_rule, no_expr_rule, some_expr_rule, last_expr_rule, more_exprs_rule, no_args_rule, args_rule, comma_args_rule, rest_args_rule, comma_rest_args_rule, no_elems_rule, last_elem_rule, more_elems_rule, value_rule, keyed_rule, plain_rule, braced_rule, eval_rule, increment_rule, decrement_rule, assign_rule, define_rule, no_part_rule, part_rule, no_first_rule, first_rule, empty_rule, simple_rule, const_rule, var_rule, return_rule, return_values_rule, break_rule, break_label_rule, continue_rule, continue_label_rule, block_rule, if_rule, while_rule, for_rule, range_rule, switch_rule, defer_rule, label_rule, braces_rule, no_stmts_rule, last_stmt_rule, more_stmts_rule, only_arm_rule, else_rule, else_if_rule, arm_rule, assigns_rule, no_cases_rule, case_rule, default_rule, single_rule, group_rule, no_specs_rule, last_spec_rule, more_specs_rule, repeated_rule, typed_var_rule, values_rule, typed_values_rule}
use Rattle.go_read.specs.Bareness.{nowhere}
use Rattle.go_read.proofs.SpansAside as aside
use Rattle.splice_laws.specs.Swaps.{Swap, TypeIn, OperandIn, this_operand, inside_operand, CalleeIn, this_callee, inside_callee, PartOfExpr, in_literal_type, in_elems, in_func_body, in_signature, in_type_operand, in_selected, in_indexed, in_index, in_sliced, in_low, in_high, in_called, in_args, in_unary, in_star, in_left, in_right, OptionIn, in_option, ExprsIn, in_first_expr, in_later_exprs, ElemsIn, in_key, in_value, in_later_elems, ValueIn, in_plain, in_braced, SimpleIn, in_eval, in_step, in_assigned, in_assign, in_define, PartIn, in_part, PartOfStmt, in_simple, in_const, in_var, in_return, in_block, in_arms, in_else, in_for_first, in_for_test, in_for_post, in_for_body, in_range_left, in_range, in_range_body, in_switch_first, in_tag, in_cases, in_deferred, in_deferred_args, this_deferred, in_label, StmtsIn, this_stmt, inside_stmt, in_later_stmts, ArmsIn, in_arm_first, in_arm_test, in_arm_body, in_later_arms, CasesIn, in_case, in_case_body, in_later_cases, SpecsIn, in_spec_type, in_spec_values, in_later_specs}
use Rattle.splice_laws.specs.Ends.{ends_node}
use Rattle.splice_laws.proofs.Grafts.{Within, drop, Like, step, joined, alike, like_own, starts_alike}
use Rattle.splice_laws.proofs.Frames.{type_frame, names_frame, literal_frame, sig_frame, expr_frame, operand_frame, option_frame, exprs_frame, elem_frame, value_frame, part_frame, first_frame, stmt_frame, stmts_frame, arm_frame, left_frame, spec_frame}
use Rattle.splice_laws.proofs.PutsAt.{PutIn, own_le, one_1, one_6, one_7, one_level, one_next, off, never, follows_ends, block_fine, stmt_now, callee_here, operand_here, deferred_here, keeps_literal, keeps_full}
use Rattle.splice_laws.proofs.Apart.{Differ}
use Rattle.splice_laws.proofs.Pasts.{arm_past, elem_past, expr_past, exprs_past, first_past, left_past, literal_past, names_past, operand_past, option_past, part_past, sig_past, spec_past, stmt_past, stmts_past, type_past, value_past}
use Rattle.splice_laws.proofs.PutsTypes.{type_put, type_part_put, literal_put, sig_put}

module _ {S : Type 0} (mark : Lexemes → Lexemes → S) (whole : Lexemes) (differ : Differ mark whole) (w : Swap S) where
  abbrev Put : (Lexemes → Lexemes → Type 0) → Lexemes → Lexemes → Type 0
  Put A ts r = PutIn mark w A ts r

  mutual
    pub bare_put : {m : ℕ} {h j : Bool} {e f : Expr S} {ts r : Lexemes} → SpellsBare mark m j e ts r → Within ts whole → PartOfExpr w h e f → (j ≡ true → h ≡ true) → ends_node r ≡ true → Put (SpellsBare nowhere m j (bare_expr f)) ts r
    bare_put ident_rule a p q k = elim p [ ]
    bare_put int_rule a p q k = elim p [ ]
    bare_put rune_rule a p q k = elim p [ ]
    bare_put text_rule a p q k = elim p [ ]
    bare_put (composite_rule d1 d2) a (in_literal_type p) q k = let x = literal_put mark whole differ w d1 a p q refl in record { node = x.node; rest = x.rest; old = x.old; marked = x.marked; follows = x.follows; ends = let z = x.ends in (z.0, z.1); new = λ n2 f2. let z = x.new n2 f2 in (z.0, z.1, composite_rule z.2 (aside.elems_bare mark d2)) }
    bare_put (composite_rule {b = b} d1 d2) a (in_elems p) q k = let x = elems_put d2 (drop (literal_past mark whole d1 a)) p refl in record { node = x.node; rest = x.rest; old = x.old; marked = x.marked; follows = x.follows; ends = let z = x.ends in let y0 = literal_frame (aside.literal_bare mark d1) (lex b brace ∷ z.0) refl in (y0.0, (joined y0.1 (step z.1))); new = λ n2 f2. let z = x.new n2 f2 in let y0 = literal_frame (aside.literal_bare mark d1) (lex b brace ∷ z.0) refl in (y0.0, (joined y0.1 (step z.1)), composite_rule y0.2 z.2) }
    bare_put (func_rule {s = s} d1 d2) a (in_signature p) q k = let x = sig_put mark whole differ w d1 (drop a) p (block_fine mark w d2) in record { node = x.node; rest = x.rest; old = x.old; marked = x.marked; follows = x.follows; ends = let z = x.ends in ((lex s key_func ∷ z.0), (step z.1)); new = λ n2 f2. let z = x.new n2 f2 in ((lex s key_func ∷ z.0), (step z.1), func_rule z.2 (aside.block_bare mark d2)) }
    bare_put (func_rule {s = s} d1 d2) a (in_func_body p) q k = let x = block_put d2 (sig_past mark whole d1 (drop a)) p in record { node = x.node; rest = x.rest; old = x.old; marked = x.marked; follows = x.follows; ends = let z = x.ends in let y0 = sig_frame (aside.sig_bare mark d1) z.0 in ((lex s key_func ∷ y0.0), (step (joined y0.1 z.1))); new = λ n2 f2. let z = x.new n2 f2 in let y0 = sig_frame (aside.sig_bare mark d1) z.0 in ((lex s key_func ∷ y0.0), (step (joined y0.1 z.1)), func_rule y0.2 z.2.1) }
    bare_put (type_rule {ts = ts} d1 d2 d3) a (in_type_operand p) q k = let x = type_part_put mark whole differ w d2 a p k in record { node = x.node; rest = x.rest; old = x.old; marked = x.marked; follows = x.follows; ends = x.ends; new = λ n2 f2. let z = x.new n2 f2 in (z.0, z.1, type_rule (starts_alike ts z.0 z.2.0 ∙ d1) z.2.1 d3) }
    bare_put (selector_rule d1) a (in_selected p) q k = let x = operand_put d1 a p one_7 (own_le 7) q refl in record { node = x.node; rest = x.rest; old = x.old; marked = x.marked; follows = x.follows; ends = let z = x.ends in (z.0, z.1); new = λ n2 f2. let z = x.new n2 f2 in (z.0, z.1, selector_rule z.2) }
    bare_put (index_rule d1 d2) a (in_indexed p) q k = let x = operand_put d1 a p one_7 (own_le 7) q refl in record { node = x.node; rest = x.rest; old = x.old; marked = x.marked; follows = x.follows; ends = let z = x.ends in (z.0, z.1); new = λ n2 f2. let z = x.new n2 f2 in (z.0, z.1, index_rule z.2 (aside.operand_bare mark d2)) }
    bare_put (index_rule {b = b} d1 d2) a (in_index p) q k = let x = operand_put d2 (drop (operand_past mark whole d1 a)) p one_1 (own_le 1) off refl in record { node = x.node; rest = x.rest; old = x.old; marked = x.marked; follows = x.follows; ends = let z = x.ends in let y0 = operand_frame (aside.operand_bare mark d1) (lex b bracket ∷ z.0) refl in (y0.0, (joined y0.1 (step z.1))); new = λ n2 f2. let z = x.new n2 f2 in let y0 = operand_frame (aside.operand_bare mark d1) (lex b bracket ∷ z.0) refl in (y0.0, (joined y0.1 (step z.1)), index_rule y0.2 z.2) }
    bare_put (slice_rule d1 d2 d3) a (in_sliced p) q k = let x = operand_put d1 a p one_7 (own_le 7) q refl in record { node = x.node; rest = x.rest; old = x.old; marked = x.marked; follows = x.follows; ends = let z = x.ends in (z.0, z.1); new = λ n2 f2. let z = x.new n2 f2 in (z.0, z.1, slice_rule z.2 (aside.option_bare mark d2) (aside.option_bare mark d3)) }
    bare_put (slice_rule {b = b} d1 d2 d3) a (in_low p) q k = let x = option_put d2 (drop (operand_past mark whole d1 a)) p off refl in record { node = x.node; rest = x.rest; old = x.old; marked = x.marked; follows = x.follows; ends = let z = x.ends in let y0 = operand_frame (aside.operand_bare mark d1) (lex b bracket ∷ z.0) refl in (y0.0, (joined y0.1 (step z.1))); new = λ n2 f2. let z = x.new n2 f2 in let y0 = operand_frame (aside.operand_bare mark d1) (lex b bracket ∷ z.0) refl in (y0.0, (joined y0.1 (step z.1)), slice_rule y0.2 z.2 (aside.option_bare mark d3)) }
    bare_put (slice_rule {b = b} {c = c} d1 d2 d3) a (in_high p) q k = let x = option_put d3 (drop (option_past mark whole d2 (drop (operand_past mark whole d1 a)))) p off refl in record { node = x.node; rest = x.rest; old = x.old; marked = x.marked; follows = x.follows; ends = let z = x.ends in let y1 = option_frame (aside.option_bare mark d2) (lex c colon ∷ z.0) refl in let y0 = operand_frame (aside.operand_bare mark d1) (lex b bracket ∷ y1.0) refl in (y0.0, (joined y0.1 (step (joined y1.1 (step z.1))))); new = λ n2 f2. let z = x.new n2 f2 in let y1 = option_frame (aside.option_bare mark d2) (lex c colon ∷ z.0) refl in let y0 = operand_frame (aside.operand_bare mark d1) (lex b bracket ∷ y1.0) refl in (y0.0, (joined y0.1 (step (joined y1.1 (step z.1)))), slice_rule y0.2 y1.2 z.2) }
    bare_put (call_rule d1 d2) a (in_called p) q k = let x = callee_put d1 a p (own_le 7) q refl in record { node = x.node; rest = x.rest; old = x.old; marked = x.marked; follows = x.follows; ends = let z = x.ends in (z.0, z.1); new = λ n2 f2. let z = x.new n2 f2 in (z.0, z.1, call_rule z.2 (aside.args_bare mark d2)) }
    bare_put (call_rule {b = b} d1 d2) a (in_args p) q k = let x = args_put d2 (drop (expr_past mark whole d1 a)) p in record { node = x.node; rest = x.rest; old = x.old; marked = x.marked; follows = x.follows; ends = let z = x.ends in let y0 = expr_frame (aside.expr_bare mark d1) (lex b paren ∷ z.0) refl in (y0.0, (joined y0.1 (step z.1))); new = λ n2 f2. let z = x.new n2 f2 in let y0 = expr_frame (aside.expr_bare mark d1) (lex b paren ∷ z.0) refl in (y0.0, (joined y0.1 (step z.1)), call_rule y0.2 z.2) }
    bare_put (unary_rule {s = s} {op = op} d1 d2) a (in_unary p) q k = let x = operand_put d2 (drop a) p one_6 (own_le 6) q k in record { node = x.node; rest = x.rest; old = x.old; marked = x.marked; follows = x.follows; ends = let z = x.ends in ((lex s (unary_sign op) ∷ z.0), (step z.1)); new = λ n2 f2. let z = x.new n2 f2 in ((lex s (unary_sign op) ∷ z.0), (step z.1), unary_rule d1 z.2) }
    bare_put (star_rule {s = s} d1 d2) a (in_star p) q k = let x = operand_put d2 (drop a) p one_6 (own_le 6) q k in record { node = x.node; rest = x.rest; old = x.old; marked = x.marked; follows = x.follows; ends = let z = x.ends in ((lex s (binary_op Mul) ∷ z.0), (step z.1)); new = λ n2 f2. let z = x.new n2 f2 in ((lex s (binary_op Mul) ∷ z.0), (step z.1), star_rule d1 z.2) }
    bare_put (binary_rule {op = op} d1 d2 d3) a (in_left p) q k = let x = operand_put d2 a p (one_level op) (own_le (level_of op)) q refl in record { node = x.node; rest = x.rest; old = x.old; marked = x.marked; follows = x.follows; ends = let z = x.ends in (z.0, z.1); new = λ n2 f2. let z = x.new n2 f2 in (z.0, z.1, binary_rule d1 z.2 (aside.operand_bare mark d3)) }
    bare_put (binary_rule {s = s} {op = op} d1 d2 d3) a (in_right p) q k = let x = operand_put d3 (drop (operand_past mark whole d2 a)) p (one_next op) (own_le (level_of op + 1)) q k in record { node = x.node; rest = x.rest; old = x.old; marked = x.marked; follows = x.follows; ends = let z = x.ends in let y0 = operand_frame (aside.operand_bare mark d2) (lex s (binary_op op) ∷ z.0) refl in (y0.0, (joined y0.1 (step z.1))); new = λ n2 f2. let z = x.new n2 f2 in let y0 = operand_frame (aside.operand_bare mark d2) (lex s (binary_op op) ∷ z.0) refl in (y0.0, (joined y0.1 (step z.1)), binary_rule d1 y0.2 z.2) }

    pub expr_put : {m : ℕ} {h j : Bool} {e f : Expr S} {ts r : Lexemes} → SpellsExpr mark m j e ts r → Within ts whole → PartOfExpr w h e f → (j ≡ true → h ≡ true) → ends_node r ≡ true → Put (SpellsExpr nowhere m j (bare_expr f)) ts r
    expr_put (bare_rule d1) a p q k = let x = bare_put d1 a p q k in record { node = x.node; rest = x.rest; old = x.old; marked = x.marked; follows = x.follows; ends = let z = x.ends in (z.0, z.1); new = λ n2 f2. let z = x.new n2 f2 in (z.0, z.1, bare_rule z.2) }
    expr_put (parens_rule {s = s} d1) a p q k = let x = expr_put d1 (drop a) p (λ e. never e) refl in record { node = x.node; rest = x.rest; old = x.old; marked = x.marked; follows = x.follows; ends = let z = x.ends in ((lex s paren ∷ z.0), (step z.1)); new = λ n2 f2. let z = x.new n2 f2 in ((lex s paren ∷ z.0), (step z.1), parens_rule z.2) }

    pub callee_put : {m : ℕ} {h j : Bool} {e f : Expr S} {ts r : Lexemes} → SpellsExpr mark m j e ts r → Within ts whole → CalleeIn w h e f → m ≤ 7 → (j ≡ true → h ≡ true) → follows_type r ≡ true → Put (SpellsExpr nowhere m j (bare_expr f)) ts r
    callee_put (bare_rule d1) a (this_callee e) le q k = callee_here mark w (bare_rule d1) e le q k
    callee_put (parens_rule d1) a (this_callee e) le q k = callee_here mark w (parens_rule d1) e le q k
    callee_put (bare_rule {r = r} d1) a (inside_callee p) le q k = let x = bare_put d1 a p q (follows_ends r k) in record { node = x.node; rest = x.rest; old = x.old; marked = x.marked; follows = x.follows; ends = let z = x.ends in (z.0, z.1); new = λ n2 f2. let z = x.new n2 f2 in (z.0, z.1, bare_rule z.2) }
    callee_put (parens_rule {s = s} d1) a (inside_callee p) le q k = let x = expr_put d1 (drop a) p (λ e. never e) refl in record { node = x.node; rest = x.rest; old = x.old; marked = x.marked; follows = x.follows; ends = let z = x.ends in ((lex s paren ∷ z.0), (step z.1)); new = λ n2 f2. let z = x.new n2 f2 in ((lex s paren ∷ z.0), (step z.1), parens_rule z.2) }

    pub operand_put : {l m : ℕ} {h j : Bool} {e f : Expr S} {ts r : Lexemes} → SpellsOperand mark m j e ts r → Within ts whole → OperandIn w l h e f → 1 ≤ l → m ≤ l → (j ≡ true → h ≡ true) → ends_node r ≡ true → Put (SpellsOperand nowhere m j (bare_expr f)) ts r
    operand_put (operand_rule d1 d2) a (this_operand e) one le q k = operand_here mark w d2 e one le q k
    operand_put (operand_rule d1 d2) a (inside_operand p) one le q k = let x = expr_put d2 a p q k in record { node = x.node; rest = x.rest; old = x.old; marked = x.marked; follows = x.follows; ends = let z = x.ends in (z.0, z.1); new = λ n2 f2. let z = x.new n2 f2 in (z.0, z.1, operand_rule (keeps_literal mark w p d1) z.2) }

    pub option_put : {h j : Bool} {o u : ExprOption S} {ts r : Lexemes} → SpellsOption mark j o ts r → Within ts whole → OptionIn w h o u → (j ≡ true → h ≡ true) → ends_node r ≡ true → Put (SpellsOption nowhere j (bare_expr_option u)) ts r
    option_put no_expr_rule a p q k = elim p [ ]
    option_put (some_expr_rule d1) a (in_option p) q k = let x = operand_put d1 a p one_1 (own_le 1) q k in record { node = x.node; rest = x.rest; old = x.old; marked = x.marked; follows = x.follows; ends = let z = x.ends in (z.0, z.1); new = λ n2 f2. let z = x.new n2 f2 in (z.0, z.1, some_expr_rule z.2) }

    pub exprs_put : {h j : Bool} {xs ys : Exprs S} {ts r : Lexemes} → SpellsExprs mark j xs ts r → Within ts whole → ExprsIn w h xs ys → (j ≡ true → h ≡ true) → ends_node r ≡ true → Put (SpellsExprs nowhere j (bare_exprs ys)) ts r
    exprs_put (last_expr_rule d1) a (in_first_expr p) q k = let x = operand_put d1 a p one_1 (own_le 1) q k in record { node = x.node; rest = x.rest; old = x.old; marked = x.marked; follows = x.follows; ends = let z = x.ends in (z.0, z.1); new = λ n2 f2. let z = x.new n2 f2 in (z.0, z.1, last_expr_rule z.2) }
    exprs_put (last_expr_rule d1) a (in_later_exprs p) q k = elim p [ ]
    exprs_put (more_exprs_rule d1 d2) a (in_first_expr p) q k = let x = operand_put d1 a p one_1 (own_le 1) q refl in record { node = x.node; rest = x.rest; old = x.old; marked = x.marked; follows = x.follows; ends = let z = x.ends in (z.0, z.1); new = λ n2 f2. let z = x.new n2 f2 in (z.0, z.1, more_exprs_rule z.2 (aside.exprs_bare mark d2)) }
    exprs_put (more_exprs_rule {c = c} d1 d2) a (in_later_exprs p) q k = let x = exprs_put d2 (drop (operand_past mark whole d1 a)) p q k in record { node = x.node; rest = x.rest; old = x.old; marked = x.marked; follows = x.follows; ends = let z = x.ends in let y0 = operand_frame (aside.operand_bare mark d1) (lex c comma ∷ z.0) refl in (y0.0, (joined y0.1 (step z.1))); new = λ n2 f2. let z = x.new n2 f2 in let y0 = operand_frame (aside.operand_bare mark d1) (lex c comma ∷ z.0) refl in (y0.0, (joined y0.1 (step z.1)), more_exprs_rule y0.2 z.2) }

    pub args_put : {xs ys : Exprs S} {rest : Rest} {ts r : Lexemes} → SpellsArgs mark xs rest ts r → Within ts whole → ExprsIn w false xs ys → Put (SpellsArgs nowhere (bare_exprs ys) rest) ts r
    args_put no_args_rule a p = elim p [ ]
    args_put (args_rule d1) a p = let x = exprs_put d1 a p off refl in record { node = x.node; rest = x.rest; old = x.old; marked = x.marked; follows = x.follows; ends = let z = x.ends in (z.0, z.1); new = λ n2 f2. let z = x.new n2 f2 in (z.0, z.1, args_rule z.2) }
    args_put (comma_args_rule d1) a p = let x = exprs_put d1 a p off refl in record { node = x.node; rest = x.rest; old = x.old; marked = x.marked; follows = x.follows; ends = let z = x.ends in (z.0, z.1); new = λ n2 f2. let z = x.new n2 f2 in (z.0, z.1, comma_args_rule z.2) }
    args_put (rest_args_rule d1) a p = let x = exprs_put d1 a p off refl in record { node = x.node; rest = x.rest; old = x.old; marked = x.marked; follows = x.follows; ends = let z = x.ends in (z.0, z.1); new = λ n2 f2. let z = x.new n2 f2 in (z.0, z.1, rest_args_rule z.2) }
    args_put (comma_rest_args_rule d1) a p = let x = exprs_put d1 a p off refl in record { node = x.node; rest = x.rest; old = x.old; marked = x.marked; follows = x.follows; ends = let z = x.ends in (z.0, z.1); new = λ n2 f2. let z = x.new n2 f2 in (z.0, z.1, comma_rest_args_rule z.2) }

    pub elems_put : {es fs : Elems S} {ts r : Lexemes} → SpellsElems mark es ts r → Within ts whole → ElemsIn w es fs → ends_node r ≡ true → Put (SpellsElems nowhere (bare_elems fs)) ts r
    elems_put no_elems_rule a p k = elim p [ ]
    elems_put (last_elem_rule d1) a (in_key p) k = let x = key_put d1 a p in record { node = x.node; rest = x.rest; old = x.old; marked = x.marked; follows = x.follows; ends = let z = x.ends in (z.0, z.1); new = λ n2 f2. let z = x.new n2 f2 in (z.0, z.1, last_elem_rule z.2) }
    elems_put (last_elem_rule d1) a (in_value p) k = let x = elem_put d1 a p k in record { node = x.node; rest = x.rest; old = x.old; marked = x.marked; follows = x.follows; ends = let z = x.ends in (z.0, z.1); new = λ n2 f2. let z = x.new n2 f2 in (z.0, z.1, last_elem_rule z.2) }
    elems_put (more_elems_rule d1 d2) a (in_key p) k = let x = key_put d1 a p in record { node = x.node; rest = x.rest; old = x.old; marked = x.marked; follows = x.follows; ends = let z = x.ends in (z.0, z.1); new = λ n2 f2. let z = x.new n2 f2 in (z.0, z.1, more_elems_rule z.2 (aside.elems_bare mark d2)) }
    elems_put (more_elems_rule d1 d2) a (in_value p) k = let x = elem_put d1 a p refl in record { node = x.node; rest = x.rest; old = x.old; marked = x.marked; follows = x.follows; ends = let z = x.ends in (z.0, z.1); new = λ n2 f2. let z = x.new n2 f2 in (z.0, z.1, more_elems_rule z.2 (aside.elems_bare mark d2)) }
    elems_put (last_elem_rule d1) a (in_later_elems p) k = elim p [ ]
    elems_put (more_elems_rule {c = c} d1 d2) a (in_later_elems p) k = let x = elems_put d2 (drop (elem_past mark whole d1 a)) p k in record { node = x.node; rest = x.rest; old = x.old; marked = x.marked; follows = x.follows; ends = let z = x.ends in let y0 = elem_frame (aside.elem_bare mark d1) (lex c comma ∷ z.0) refl in (y0.0, (joined y0.1 (step z.1))); new = λ n2 f2. let z = x.new n2 f2 in let y0 = elem_frame (aside.elem_bare mark d1) (lex c comma ∷ z.0) refl in (y0.0, (joined y0.1 (step z.1)), more_elems_rule y0.2 z.2) }

    pub key_put : {k j v : Value S} {ts r : Lexemes} → SpellsElem mark (some_value k) v ts r → Within ts whole → ValueIn w k j → Put (SpellsElem nowhere (some_value (bare_value j)) (bare_value v)) ts r
    key_put (keyed_rule d1 d2) a p = let x = value_put d1 a p refl in record { node = x.node; rest = x.rest; old = x.old; marked = x.marked; follows = x.follows; ends = let z = x.ends in (z.0, z.1); new = λ n2 f2. let z = x.new n2 f2 in (z.0, z.1, keyed_rule z.2 (aside.value_bare mark d2)) }

    pub elem_put : {k : ValueOption S} {v u : Value S} {ts r : Lexemes} → SpellsElem mark k v ts r → Within ts whole → ValueIn w v u → ends_node r ≡ true → Put (SpellsElem nowhere (bare_value_option k) (bare_value u)) ts r
    elem_put (value_rule d1) a p k = let x = value_put d1 a p k in record { node = x.node; rest = x.rest; old = x.old; marked = x.marked; follows = x.follows; ends = let z = x.ends in (z.0, z.1); new = λ n2 f2. let z = x.new n2 f2 in (z.0, z.1, value_rule z.2) }
    elem_put (keyed_rule {c = c} d1 d2) a p k = let x = value_put d2 (drop (value_past mark whole d1 a)) p k in record { node = x.node; rest = x.rest; old = x.old; marked = x.marked; follows = x.follows; ends = let z = x.ends in let y0 = value_frame (aside.value_bare mark d1) (lex c colon ∷ z.0) refl in (y0.0, (joined y0.1 (step z.1))); new = λ n2 f2. let z = x.new n2 f2 in let y0 = value_frame (aside.value_bare mark d1) (lex c colon ∷ z.0) refl in (y0.0, (joined y0.1 (step z.1)), keyed_rule y0.2 z.2) }

    pub value_put : {v u : Value S} {ts r : Lexemes} → SpellsValue mark v ts r → Within ts whole → ValueIn w v u → ends_node r ≡ true → Put (SpellsValue nowhere (bare_value u)) ts r
    value_put (plain_rule d1) a (in_plain p) k = let x = operand_put d1 a p one_1 (own_le 1) off k in record { node = x.node; rest = x.rest; old = x.old; marked = x.marked; follows = x.follows; ends = let z = x.ends in (z.0, z.1); new = λ n2 f2. let z = x.new n2 f2 in (z.0, z.1, plain_rule z.2) }
    value_put (braced_rule {s = s} d1) a (in_braced p) k = let x = elems_put d1 (drop a) p refl in record { node = x.node; rest = x.rest; old = x.old; marked = x.marked; follows = x.follows; ends = let z = x.ends in ((lex s brace ∷ z.0), (step z.1)); new = λ n2 f2. let z = x.new n2 f2 in ((lex s brace ∷ z.0), (step z.1), braced_rule z.2) }

    pub simple_put : {h : Bool} {x y : Stmt S} {ts r : Lexemes} → SpellsSimple mark h x ts r → Within ts whole → SimpleIn w h x y → ends_node r ≡ true → Put (SpellsSimple nowhere h (bare_stmt y)) ts r
    simple_put (eval_rule d1) a (in_eval p) k = let x = operand_put d1 a p one_1 (own_le 1) (λ e. e) k in record { node = x.node; rest = x.rest; old = x.old; marked = x.marked; follows = x.follows; ends = let z = x.ends in (z.0, z.1); new = λ n2 f2. let z = x.new n2 f2 in (z.0, z.1, eval_rule z.2) }
    simple_put (increment_rule d1) a (in_step p) k = let x = operand_put d1 a p one_1 (own_le 1) (λ e. e) refl in record { node = x.node; rest = x.rest; old = x.old; marked = x.marked; follows = x.follows; ends = let z = x.ends in (z.0, z.1); new = λ n2 f2. let z = x.new n2 f2 in (z.0, z.1, increment_rule z.2) }
    simple_put (decrement_rule d1) a (in_step p) k = let x = operand_put d1 a p one_1 (own_le 1) (λ e. e) refl in record { node = x.node; rest = x.rest; old = x.old; marked = x.marked; follows = x.follows; ends = let z = x.ends in (z.0, z.1); new = λ n2 f2. let z = x.new n2 f2 in (z.0, z.1, decrement_rule z.2) }
    simple_put (assign_rule d1 d2) a (in_assigned p) k = let x = exprs_put d1 a p (λ e. e) refl in record { node = x.node; rest = x.rest; old = x.old; marked = x.marked; follows = x.follows; ends = let z = x.ends in (z.0, z.1); new = λ n2 f2. let z = x.new n2 f2 in (z.0, z.1, assign_rule z.2 (aside.exprs_bare mark d2)) }
    simple_put (assign_rule {s = s} {op = op} d1 d2) a (in_assign p) k = let x = exprs_put d2 (drop (exprs_past mark whole d1 a)) p (λ e. e) k in record { node = x.node; rest = x.rest; old = x.old; marked = x.marked; follows = x.follows; ends = let z = x.ends in let y0 = exprs_frame (aside.exprs_bare mark d1) (lex s (assign op) ∷ z.0) refl in (y0.0, (joined y0.1 (step z.1))); new = λ n2 f2. let z = x.new n2 f2 in let y0 = exprs_frame (aside.exprs_bare mark d1) (lex s (assign op) ∷ z.0) refl in (y0.0, (joined y0.1 (step z.1)), assign_rule y0.2 z.2) }
    simple_put (define_rule {s = s} d1 d2) a (in_define p) k = let x = exprs_put d2 (drop (names_past mark whole d1 a)) p (λ e. e) k in record { node = x.node; rest = x.rest; old = x.old; marked = x.marked; follows = x.follows; ends = let z = x.ends in let y0 = names_frame (aside.names_bare mark d1) (lex s define ∷ z.0) in (y0.0, (joined y0.1 (step z.1))); new = λ n2 f2. let z = x.new n2 f2 in let y0 = names_frame (aside.names_bare mark d1) (lex s define ∷ z.0) in (y0.0, (joined y0.1 (step z.1)), define_rule y0.2 z.2) }

    pub part_put : {i j : StmtOption S} {ts r : Lexemes} → SpellsPart mark i ts r → Within ts whole → PartIn w i j → ends_node r ≡ true → Put (SpellsPart nowhere (bare_stmt_option j)) ts r
    part_put no_part_rule a p k = elim p [ ]
    part_put (part_rule d1) a (in_part p) k = let x = simple_put d1 a p k in record { node = x.node; rest = x.rest; old = x.old; marked = x.marked; follows = x.follows; ends = let z = x.ends in (z.0, z.1); new = λ n2 f2. let z = x.new n2 f2 in (z.0, z.1, part_rule z.2) }

    pub first_put : {i j : StmtOption S} {ts r : Lexemes} → SpellsFirst mark i ts r → Within ts whole → PartIn w i j → Put (SpellsFirst nowhere (bare_stmt_option j)) ts r
    first_put no_first_rule a p = elim p [ ]
    first_put (first_rule d1) a p = let x = part_put d1 a p refl in record { node = x.node; rest = x.rest; old = x.old; marked = x.marked; follows = x.follows; ends = let z = x.ends in (z.0, z.1); new = λ n2 f2. let z = x.new n2 f2 in (z.0, z.1, first_rule z.2) }

    pub stmt_put : {x y : Stmt S} {ts r : Lexemes} → SpellsStmt mark x ts r → Within ts whole → PartOfStmt w x y → ends_node r ≡ true → Put (SpellsStmt nowhere (bare_stmt y)) ts r
    stmt_put (simple_rule d1) a (in_simple p) k = let x = simple_put d1 a p k in record { node = x.node; rest = x.rest; old = x.old; marked = x.marked; follows = x.follows; ends = let z = x.ends in (z.0, z.1); new = λ n2 f2. let z = x.new n2 f2 in (z.0, z.1, simple_rule z.2) }
    stmt_put (simple_rule d1) a (in_const p) k = elim d1 [ ]
    stmt_put (simple_rule d1) a (in_var p) k = elim d1 [ ]
    stmt_put (simple_rule d1) a (in_return p) k = elim d1 [ ]
    stmt_put (simple_rule d1) a (in_block p) k = elim d1 [ ]
    stmt_put (simple_rule d1) a (in_arms p) k = elim d1 [ ]
    stmt_put (simple_rule d1) a (in_else p) k = elim d1 [ ]
    stmt_put (simple_rule d1) a (in_for_first p) k = elim d1 [ ]
    stmt_put (simple_rule d1) a (in_for_test p) k = elim d1 [ ]
    stmt_put (simple_rule d1) a (in_for_post p) k = elim d1 [ ]
    stmt_put (simple_rule d1) a (in_for_body p) k = elim d1 [ ]
    stmt_put (simple_rule d1) a (in_range_left p) k = elim d1 [ ]
    stmt_put (simple_rule d1) a (in_range p) k = elim d1 [ ]
    stmt_put (simple_rule d1) a (in_range_body p) k = elim d1 [ ]
    stmt_put (simple_rule d1) a (in_switch_first p) k = elim d1 [ ]
    stmt_put (simple_rule d1) a (in_tag p) k = elim d1 [ ]
    stmt_put (simple_rule d1) a (in_cases p) k = elim d1 [ ]
    stmt_put (simple_rule d1) a (in_deferred p) k = elim d1 [ ]
    stmt_put (simple_rule d1) a (in_deferred_args p) k = elim d1 [ ]
    stmt_put (simple_rule d1) a (this_deferred p) k = elim d1 [ ]
    stmt_put (simple_rule d1) a (in_label p) k = elim d1 [ ]
    stmt_put empty_rule a (in_simple p) k = elim p [ ]
    stmt_put (const_rule d1) a (in_simple p) k = elim p [ ]
    stmt_put (var_rule d1) a (in_simple p) k = elim p [ ]
    stmt_put return_rule a (in_simple p) k = elim p [ ]
    stmt_put (return_values_rule d1) a (in_simple p) k = elim p [ ]
    stmt_put break_rule a (in_simple p) k = elim p [ ]
    stmt_put break_label_rule a (in_simple p) k = elim p [ ]
    stmt_put continue_rule a (in_simple p) k = elim p [ ]
    stmt_put continue_label_rule a (in_simple p) k = elim p [ ]
    stmt_put (block_rule d1) a (in_simple p) k = elim p [ ]
    stmt_put (if_rule d1) a (in_simple p) k = elim p [ ]
    stmt_put (while_rule d1 d2) a (in_simple p) k = elim p [ ]
    stmt_put (for_rule d1 d2 d3 d4) a (in_simple p) k = elim p [ ]
    stmt_put (range_rule d1 d2 d3) a (in_simple p) k = elim p [ ]
    stmt_put (switch_rule d1 d2 d3) a (in_simple p) k = elim p [ ]
    stmt_put (defer_rule d1) a (in_simple p) k = elim p [ ]
    stmt_put (label_rule d1) a (in_simple p) k = elim p [ ]
    stmt_put (const_rule {s = s} d1) a (in_const p) k = let x = decl_put d1 (drop a) p k in record { node = x.node; rest = x.rest; old = x.old; marked = x.marked; follows = x.follows; ends = let z = x.ends in ((lex s key_const ∷ z.0), (step z.1)); new = λ n2 f2. let z = x.new n2 f2 in ((lex s key_const ∷ z.0), (step z.1), const_rule z.2) }
    stmt_put (var_rule {s = s} d1) a (in_var p) k = let x = decl_put d1 (drop a) p k in record { node = x.node; rest = x.rest; old = x.old; marked = x.marked; follows = x.follows; ends = let z = x.ends in ((lex s key_var ∷ z.0), (step z.1)); new = λ n2 f2. let z = x.new n2 f2 in ((lex s key_var ∷ z.0), (step z.1), var_rule z.2) }
    stmt_put return_rule a (in_return p) k = elim p [ ]
    stmt_put (return_values_rule {s = s} d1) a (in_return p) k = let x = exprs_put d1 (drop a) p off k in record { node = x.node; rest = x.rest; old = x.old; marked = x.marked; follows = x.follows; ends = let z = x.ends in ((lex s key_return ∷ z.0), (step z.1)); new = λ n2 f2. let z = x.new n2 f2 in ((lex s key_return ∷ z.0), (step z.1), return_values_rule z.2) }
    stmt_put (block_rule d1) a (in_block p) k = let x = block_put d1 a p in record { node = x.node; rest = x.rest; old = x.old; marked = x.marked; follows = x.follows; ends = let z = x.ends in (z.0, z.1); new = λ n2 f2. let z = x.new n2 f2 in (z.0, z.1, block_rule z.2.1) }
    stmt_put (if_rule d1) a (in_arms p) k = let x = arms_put d1 a p in record { node = x.node; rest = x.rest; old = x.old; marked = x.marked; follows = x.follows; ends = let z = x.ends in (z.0, z.1); new = λ n2 f2. let z = x.new n2 f2 in (z.0, z.1, if_rule z.2) }
    stmt_put (if_rule d1) a (in_else p) k = let x = else_put d1 a p in record { node = x.node; rest = x.rest; old = x.old; marked = x.marked; follows = x.follows; ends = let z = x.ends in (z.0, z.1); new = λ n2 f2. let z = x.new n2 f2 in (z.0, z.1, if_rule z.2) }
    stmt_put (while_rule {s = s} d1 d2) a (in_for_test p) k = let x = option_put d1 (drop a) p (λ e. e) (block_fine mark w d2) in record { node = x.node; rest = x.rest; old = x.old; marked = x.marked; follows = x.follows; ends = let z = x.ends in ((lex s key_for ∷ z.0), (step z.1)); new = λ n2 f2. let z = x.new n2 f2 in ((lex s key_for ∷ z.0), (step z.1), while_rule z.2 (aside.block_bare mark d2)) }
    stmt_put (while_rule {s = s} d1 d2) a (in_for_body p) k = let x = block_put d2 (option_past mark whole d1 (drop a)) p in record { node = x.node; rest = x.rest; old = x.old; marked = x.marked; follows = x.follows; ends = let z = x.ends in let y0 = option_frame (aside.option_bare mark d1) z.0 (alike z.1 (like_own x.node)) in ((lex s key_for ∷ y0.0), (step (joined y0.1 z.1))); new = λ n2 f2. let z = x.new n2 f2 in let y0 = option_frame (aside.option_bare mark d1) z.0 z.2.0 in ((lex s key_for ∷ y0.0), (step (joined y0.1 z.1)), while_rule y0.2 z.2.1) }
    stmt_put (while_rule d1 d2) a (in_for_first p) k = elim p [ ]
    stmt_put (while_rule d1 d2) a (in_for_post p) k = elim p [ ]
    stmt_put (for_rule {s = s} d1 d2 d3 d4) a (in_for_first p) k = let x = part_put d1 (drop a) p refl in record { node = x.node; rest = x.rest; old = x.old; marked = x.marked; follows = x.follows; ends = let z = x.ends in ((lex s key_for ∷ z.0), (step z.1)); new = λ n2 f2. let z = x.new n2 f2 in ((lex s key_for ∷ z.0), (step z.1), for_rule z.2 (aside.option_bare mark d2) (aside.part_bare mark d3) (aside.block_bare mark d4)) }
    stmt_put (for_rule {s = s} {c = c} d1 d2 d3 d4) a (in_for_test p) k = let x = option_put d2 (drop (part_past mark whole d1 (drop a))) p (λ e. e) refl in record { node = x.node; rest = x.rest; old = x.old; marked = x.marked; follows = x.follows; ends = let z = x.ends in let y0 = part_frame (aside.part_bare mark d1) (lex c semicolon ∷ z.0) refl in ((lex s key_for ∷ y0.0), (step (joined y0.1 (step z.1)))); new = λ n2 f2. let z = x.new n2 f2 in let y0 = part_frame (aside.part_bare mark d1) (lex c semicolon ∷ z.0) refl in ((lex s key_for ∷ y0.0), (step (joined y0.1 (step z.1))), for_rule y0.2 z.2 (aside.part_bare mark d3) (aside.block_bare mark d4)) }
    stmt_put (for_rule {s = s} {c = c} {d = d} d1 d2 d3 d4) a (in_for_post p) k = let x = part_put d3 (drop (option_past mark whole d2 (drop (part_past mark whole d1 (drop a))))) p (block_fine mark w d4) in record { node = x.node; rest = x.rest; old = x.old; marked = x.marked; follows = x.follows; ends = let z = x.ends in let y1 = option_frame (aside.option_bare mark d2) (lex d semicolon ∷ z.0) refl in let y0 = part_frame (aside.part_bare mark d1) (lex c semicolon ∷ y1.0) refl in ((lex s key_for ∷ y0.0), (step (joined y0.1 (step (joined y1.1 (step z.1)))))); new = λ n2 f2. let z = x.new n2 f2 in let y1 = option_frame (aside.option_bare mark d2) (lex d semicolon ∷ z.0) refl in let y0 = part_frame (aside.part_bare mark d1) (lex c semicolon ∷ y1.0) refl in ((lex s key_for ∷ y0.0), (step (joined y0.1 (step (joined y1.1 (step z.1))))), for_rule y0.2 y1.2 z.2 (aside.block_bare mark d4)) }
    stmt_put (for_rule {s = s} {c = c} {d = d} d1 d2 d3 d4) a (in_for_body p) k = let x = block_put d4 (part_past mark whole d3 (drop (option_past mark whole d2 (drop (part_past mark whole d1 (drop a)))))) p in record { node = x.node; rest = x.rest; old = x.old; marked = x.marked; follows = x.follows; ends = let z = x.ends in let y2 = part_frame (aside.part_bare mark d3) z.0 (alike z.1 (like_own x.node)) in let y1 = option_frame (aside.option_bare mark d2) (lex d semicolon ∷ y2.0) refl in let y0 = part_frame (aside.part_bare mark d1) (lex c semicolon ∷ y1.0) refl in ((lex s key_for ∷ y0.0), (step (joined y0.1 (step (joined y1.1 (step (joined y2.1 z.1))))))); new = λ n2 f2. let z = x.new n2 f2 in let y2 = part_frame (aside.part_bare mark d3) z.0 z.2.0 in let y1 = option_frame (aside.option_bare mark d2) (lex d semicolon ∷ y2.0) refl in let y0 = part_frame (aside.part_bare mark d1) (lex c semicolon ∷ y1.0) refl in ((lex s key_for ∷ y0.0), (step (joined y0.1 (step (joined y1.1 (step (joined y2.1 z.1)))))), for_rule y0.2 y1.2 y2.2 z.2.1) }
    stmt_put (range_rule {s = s} d1 d2 d3) a (in_range_left p) k = let x = left_put d1 (drop a) p in record { node = x.node; rest = x.rest; old = x.old; marked = x.marked; follows = x.follows; ends = let z = x.ends in ((lex s key_for ∷ z.0), (step z.1)); new = λ n2 f2. let z = x.new n2 f2 in ((lex s key_for ∷ z.0), (step z.1), range_rule z.2 (aside.operand_bare mark d2) (aside.block_bare mark d3)) }
    stmt_put (range_rule {s = s} {c = c} d1 d2 d3) a (in_range p) k = let x = operand_put d2 (drop (left_past mark whole d1 (drop a))) p one_1 (own_le 1) (λ e. e) (block_fine mark w d3) in record { node = x.node; rest = x.rest; old = x.old; marked = x.marked; follows = x.follows; ends = let z = x.ends in let y0 = left_frame (aside.left_bare mark d1) (lex c key_range ∷ z.0) refl in ((lex s key_for ∷ y0.0), (step (joined y0.1 (step z.1)))); new = λ n2 f2. let z = x.new n2 f2 in let y0 = left_frame (aside.left_bare mark d1) (lex c key_range ∷ z.0) refl in ((lex s key_for ∷ y0.0), (step (joined y0.1 (step z.1))), range_rule y0.2 z.2 (aside.block_bare mark d3)) }
    stmt_put (range_rule {s = s} {c = c} d1 d2 d3) a (in_range_body p) k = let x = block_put d3 (operand_past mark whole d2 (drop (left_past mark whole d1 (drop a)))) p in record { node = x.node; rest = x.rest; old = x.old; marked = x.marked; follows = x.follows; ends = let z = x.ends in let y1 = operand_frame (aside.operand_bare mark d2) z.0 (alike z.1 (like_own x.node)) in let y0 = left_frame (aside.left_bare mark d1) (lex c key_range ∷ y1.0) refl in ((lex s key_for ∷ y0.0), (step (joined y0.1 (step (joined y1.1 z.1))))); new = λ n2 f2. let z = x.new n2 f2 in let y1 = operand_frame (aside.operand_bare mark d2) z.0 z.2.0 in let y0 = left_frame (aside.left_bare mark d1) (lex c key_range ∷ y1.0) refl in ((lex s key_for ∷ y0.0), (step (joined y0.1 (step (joined y1.1 z.1)))), range_rule y0.2 y1.2 z.2.1) }
    stmt_put (switch_rule {s = s} d1 d2 d3) a (in_switch_first p) k = let x = first_put d1 (drop a) p in record { node = x.node; rest = x.rest; old = x.old; marked = x.marked; follows = x.follows; ends = let z = x.ends in ((lex s key_switch ∷ z.0), (step z.1)); new = λ n2 f2. let z = x.new n2 f2 in ((lex s key_switch ∷ z.0), (step z.1), switch_rule z.2 (aside.option_bare mark d2) (aside.cases_bare mark d3)) }
    stmt_put (switch_rule {s = s} d1 d2 d3) a (in_tag p) k = let x = option_put d2 (first_past mark whole d1 (drop a)) p (λ e. e) refl in record { node = x.node; rest = x.rest; old = x.old; marked = x.marked; follows = x.follows; ends = let z = x.ends in let y0 = first_frame (aside.first_bare mark d1) z.0 in ((lex s key_switch ∷ y0.0), (step (joined y0.1 z.1))); new = λ n2 f2. let z = x.new n2 f2 in let y0 = first_frame (aside.first_bare mark d1) z.0 in ((lex s key_switch ∷ y0.0), (step (joined y0.1 z.1)), switch_rule y0.2 z.2 (aside.cases_bare mark d3)) }
    stmt_put (switch_rule {s = s} {b = b} d1 d2 d3) a (in_cases p) k = let x = cases_put d3 (drop (option_past mark whole d2 (first_past mark whole d1 (drop a)))) p in record { node = x.node; rest = x.rest; old = x.old; marked = x.marked; follows = x.follows; ends = let z = x.ends in let y1 = option_frame (aside.option_bare mark d2) (lex b brace ∷ z.0) refl in let y0 = first_frame (aside.first_bare mark d1) y1.0 in ((lex s key_switch ∷ y0.0), (step (joined y0.1 (joined y1.1 (step z.1))))); new = λ n2 f2. let z = x.new n2 f2 in let y1 = option_frame (aside.option_bare mark d2) (lex b brace ∷ z.0) refl in let y0 = first_frame (aside.first_bare mark d1) y1.0 in ((lex s key_switch ∷ y0.0), (step (joined y0.1 (joined y1.1 (step z.1)))), switch_rule y0.2 y1.2 z.2.1) }
    stmt_put (defer_rule {s = s} d1) a (in_deferred p) k = let x = bare_put d1 (drop a) (in_called p) off k in record { node = x.node; rest = x.rest; old = x.old; marked = x.marked; follows = x.follows; ends = let z = x.ends in ((lex s key_defer ∷ z.0), (step z.1)); new = λ n2 f2. let z = x.new n2 f2 in ((lex s key_defer ∷ z.0), (step z.1), defer_rule z.2) }
    stmt_put (defer_rule {s = s} d1) a (in_deferred_args p) k = let x = bare_put d1 (drop a) (in_args p) off k in record { node = x.node; rest = x.rest; old = x.old; marked = x.marked; follows = x.follows; ends = let z = x.ends in ((lex s key_defer ∷ z.0), (step z.1)); new = λ n2 f2. let z = x.new n2 f2 in ((lex s key_defer ∷ z.0), (step z.1), defer_rule z.2) }
    stmt_put (defer_rule d1) a (this_deferred e) k = deferred_here mark w d1 e k
    stmt_put (label_rule {s = s} {c = c} {n = n} d1) a (in_label p) k = let x = stmt_put d1 (drop (drop a)) p k in record { node = x.node; rest = x.rest; old = x.old; marked = x.marked; follows = x.follows; ends = let z = x.ends in ((lex s (ident n) ∷ lex c colon ∷ z.0), (step (step z.1))); new = λ n2 f2. let z = x.new n2 f2 in ((lex s (ident n) ∷ lex c colon ∷ z.0), (step (step z.1)), label_rule z.2) }

    pub block_put : {b : S} {xs ys : Stmts S} {ts r : Lexemes} → SpellsBlock mark b xs ts r → Within ts whole → StmtsIn w xs ys → Put (λ us q. Like ts us × SpellsBlock nowhere tt (bare_stmts ys) us q) ts r
    block_put (braces_rule {s = s} d1) a p = let x = stmts_put d1 (drop a) p in record { node = x.node; rest = x.rest; old = x.old; marked = x.marked; follows = x.follows; ends = let z = x.ends in ((lex s brace ∷ z.0), (step z.1)); new = λ n2 f2. let z = x.new n2 f2 in ((lex s brace ∷ z.0), (step z.1), (refl, braces_rule z.2)) }

    pub stmts_put : {xs ys : Stmts S} {ts r : Lexemes} → SpellsStmts mark xs ts r → Within ts whole → StmtsIn w xs ys → Put (SpellsStmts nowhere (bare_stmts ys)) ts r
    stmts_put no_stmts_rule a p = elim p [ ]
    stmts_put (last_stmt_rule d1 d2) a (inside_stmt p) = let x = stmt_put d2 a p refl in record { node = x.node; rest = x.rest; old = x.old; marked = x.marked; follows = x.follows; ends = let z = x.ends in (z.0, z.1); new = λ n2 f2. let z = x.new n2 f2 in (z.0, z.1, last_stmt_rule (keeps_full mark w p d1) z.2) }
    stmts_put (last_stmt_rule d1 d2) a (this_stmt e) = let x = stmt_now mark w e d2 refl in record { node = x.node; rest = x.rest; old = x.old; marked = x.marked; follows = x.follows; ends = let z = x.ends in (z.0, z.1); new = λ n2 f2. let z = x.new n2 f2 in (z.0, z.1, last_stmt_rule z.2.0 z.2.1) }
    stmts_put (last_stmt_rule d1 d2) a (in_later_stmts p) = elim p [ ]
    stmts_put (more_stmts_rule d1 d2) a (inside_stmt p) = let x = stmt_put d1 a p refl in record { node = x.node; rest = x.rest; old = x.old; marked = x.marked; follows = x.follows; ends = let z = x.ends in (z.0, z.1); new = λ n2 f2. let z = x.new n2 f2 in (z.0, z.1, more_stmts_rule z.2 (aside.stmts_bare mark d2)) }
    stmts_put (more_stmts_rule d1 d2) a (this_stmt e) = let x = stmt_now mark w e d1 refl in record { node = x.node; rest = x.rest; old = x.old; marked = x.marked; follows = x.follows; ends = let z = x.ends in (z.0, z.1); new = λ n2 f2. let z = x.new n2 f2 in (z.0, z.1, more_stmts_rule z.2.1 (aside.stmts_bare mark d2)) }
    stmts_put (more_stmts_rule {c = c} d1 d2) a (in_later_stmts p) = let x = stmts_put d2 (drop (stmt_past mark whole d1 a)) p in record { node = x.node; rest = x.rest; old = x.old; marked = x.marked; follows = x.follows; ends = let z = x.ends in let y0 = stmt_frame (aside.stmt_bare mark d1) (lex c semicolon ∷ z.0) refl in (y0.0, (joined y0.1 (step z.1))); new = λ n2 f2. let z = x.new n2 f2 in let y0 = stmt_frame (aside.stmt_bare mark d1) (lex c semicolon ∷ z.0) refl in (y0.0, (joined y0.1 (step z.1)), more_stmts_rule y0.2 z.2) }

    pub arms_put : {arms brs : Arms S} {last : BlockOption S} {ts r : Lexemes} → SpellsIf mark arms last ts r → Within ts whole → ArmsIn w arms brs → Put (SpellsIf nowhere (bare_arms brs) (bare_block_option last)) ts r
    arms_put (only_arm_rule d1) a (in_arm_first p) = let x = arm_first_put d1 a p in record { node = x.node; rest = x.rest; old = x.old; marked = x.marked; follows = x.follows; ends = let z = x.ends in (z.0, z.1); new = λ n2 f2. let z = x.new n2 f2 in (z.0, z.1, only_arm_rule z.2) }
    arms_put (only_arm_rule d1) a (in_arm_test p) = let x = arm_test_put d1 a p in record { node = x.node; rest = x.rest; old = x.old; marked = x.marked; follows = x.follows; ends = let z = x.ends in (z.0, z.1); new = λ n2 f2. let z = x.new n2 f2 in (z.0, z.1, only_arm_rule z.2) }
    arms_put (only_arm_rule d1) a (in_arm_body p) = let x = arm_body_put d1 a p in record { node = x.node; rest = x.rest; old = x.old; marked = x.marked; follows = x.follows; ends = let z = x.ends in (z.0, z.1); new = λ n2 f2. let z = x.new n2 f2 in (z.0, z.1, only_arm_rule z.2) }
    arms_put (else_rule d1 d2) a (in_arm_first p) = let x = arm_first_put d1 a p in record { node = x.node; rest = x.rest; old = x.old; marked = x.marked; follows = x.follows; ends = let z = x.ends in (z.0, z.1); new = λ n2 f2. let z = x.new n2 f2 in (z.0, z.1, else_rule z.2 (aside.block_bare mark d2)) }
    arms_put (else_rule d1 d2) a (in_arm_test p) = let x = arm_test_put d1 a p in record { node = x.node; rest = x.rest; old = x.old; marked = x.marked; follows = x.follows; ends = let z = x.ends in (z.0, z.1); new = λ n2 f2. let z = x.new n2 f2 in (z.0, z.1, else_rule z.2 (aside.block_bare mark d2)) }
    arms_put (else_rule d1 d2) a (in_arm_body p) = let x = arm_body_put d1 a p in record { node = x.node; rest = x.rest; old = x.old; marked = x.marked; follows = x.follows; ends = let z = x.ends in (z.0, z.1); new = λ n2 f2. let z = x.new n2 f2 in (z.0, z.1, else_rule z.2 (aside.block_bare mark d2)) }
    arms_put (else_if_rule d1 d2) a (in_arm_first p) = let x = arm_first_put d1 a p in record { node = x.node; rest = x.rest; old = x.old; marked = x.marked; follows = x.follows; ends = let z = x.ends in (z.0, z.1); new = λ n2 f2. let z = x.new n2 f2 in (z.0, z.1, else_if_rule z.2 (aside.if_bare mark d2)) }
    arms_put (else_if_rule d1 d2) a (in_arm_test p) = let x = arm_test_put d1 a p in record { node = x.node; rest = x.rest; old = x.old; marked = x.marked; follows = x.follows; ends = let z = x.ends in (z.0, z.1); new = λ n2 f2. let z = x.new n2 f2 in (z.0, z.1, else_if_rule z.2 (aside.if_bare mark d2)) }
    arms_put (else_if_rule d1 d2) a (in_arm_body p) = let x = arm_body_put d1 a p in record { node = x.node; rest = x.rest; old = x.old; marked = x.marked; follows = x.follows; ends = let z = x.ends in (z.0, z.1); new = λ n2 f2. let z = x.new n2 f2 in (z.0, z.1, else_if_rule z.2 (aside.if_bare mark d2)) }
    arms_put (only_arm_rule d1) a (in_later_arms p) = elim p [ ]
    arms_put (else_rule d1 d2) a (in_later_arms p) = elim p [ ]
    arms_put (else_if_rule {c = c} d1 d2) a (in_later_arms p) = let x = arms_put d2 (drop (arm_past mark whole d1 a)) p in record { node = x.node; rest = x.rest; old = x.old; marked = x.marked; follows = x.follows; ends = let z = x.ends in let y0 = arm_frame (aside.arm_bare mark d1) (lex c key_else ∷ z.0) refl in (y0.0, (joined y0.1 (step z.1))); new = λ n2 f2. let z = x.new n2 f2 in let y0 = arm_frame (aside.arm_bare mark d1) (lex c key_else ∷ z.0) refl in (y0.0, (joined y0.1 (step z.1)), else_if_rule y0.2 z.2) }

    pub else_put : {b : S} {arms : Arms S} {xs ys : Stmts S} {ts r : Lexemes} → SpellsIf mark arms (some_block b xs) ts r → Within ts whole → StmtsIn w xs ys → Put (SpellsIf nowhere (bare_arms arms) (some_block tt (bare_stmts ys))) ts r
    else_put (else_rule {c = c} d1 d2) a p = let x = block_put d2 (drop (arm_past mark whole d1 a)) p in record { node = x.node; rest = x.rest; old = x.old; marked = x.marked; follows = x.follows; ends = let z = x.ends in let y0 = arm_frame (aside.arm_bare mark d1) (lex c key_else ∷ z.0) refl in (y0.0, (joined y0.1 (step z.1))); new = λ n2 f2. let z = x.new n2 f2 in let y0 = arm_frame (aside.arm_bare mark d1) (lex c key_else ∷ z.0) refl in (y0.0, (joined y0.1 (step z.1)), else_rule y0.2 z.2.1) }
    else_put (else_if_rule {c = c} d1 d2) a p = let x = else_put d2 (drop (arm_past mark whole d1 a)) p in record { node = x.node; rest = x.rest; old = x.old; marked = x.marked; follows = x.follows; ends = let z = x.ends in let y0 = arm_frame (aside.arm_bare mark d1) (lex c key_else ∷ z.0) refl in (y0.0, (joined y0.1 (step z.1))); new = λ n2 f2. let z = x.new n2 f2 in let y0 = arm_frame (aside.arm_bare mark d1) (lex c key_else ∷ z.0) refl in (y0.0, (joined y0.1 (step z.1)), else_if_rule y0.2 z.2) }

    pub arm_first_put : {b : S} {i j : StmtOption S} {t : Expr S} {xs : Stmts S} {ts r : Lexemes} → SpellsArm mark i t b xs ts r → Within ts whole → PartIn w i j → Put (SpellsArm nowhere (bare_stmt_option j) (bare_expr t) tt (bare_stmts xs)) ts r
    arm_first_put (arm_rule {s = s} d1 d2 d3) a p = let x = first_put d1 (drop a) p in record { node = x.node; rest = x.rest; old = x.old; marked = x.marked; follows = x.follows; ends = let z = x.ends in ((lex s key_if ∷ z.0), (step z.1)); new = λ n2 f2. let z = x.new n2 f2 in ((lex s key_if ∷ z.0), (step z.1), arm_rule z.2 (aside.operand_bare mark d2) (aside.block_bare mark d3)) }

    pub arm_test_put : {b : S} {i : StmtOption S} {t u : Expr S} {xs : Stmts S} {ts r : Lexemes} → SpellsArm mark i t b xs ts r → Within ts whole → OperandIn w 1 true t u → Put (SpellsArm nowhere (bare_stmt_option i) (bare_expr u) tt (bare_stmts xs)) ts r
    arm_test_put (arm_rule {s = s} d1 d2 d3) a p = let x = operand_put d2 (first_past mark whole d1 (drop a)) p one_1 (own_le 1) (λ e. e) (block_fine mark w d3) in record { node = x.node; rest = x.rest; old = x.old; marked = x.marked; follows = x.follows; ends = let z = x.ends in let y0 = first_frame (aside.first_bare mark d1) z.0 in ((lex s key_if ∷ y0.0), (step (joined y0.1 z.1))); new = λ n2 f2. let z = x.new n2 f2 in let y0 = first_frame (aside.first_bare mark d1) z.0 in ((lex s key_if ∷ y0.0), (step (joined y0.1 z.1)), arm_rule y0.2 z.2 (aside.block_bare mark d3)) }

    pub arm_body_put : {b : S} {i : StmtOption S} {t : Expr S} {xs ys : Stmts S} {ts r : Lexemes} → SpellsArm mark i t b xs ts r → Within ts whole → StmtsIn w xs ys → Put (SpellsArm nowhere (bare_stmt_option i) (bare_expr t) tt (bare_stmts ys)) ts r
    arm_body_put (arm_rule {s = s} d1 d2 d3) a p = let x = block_put d3 (operand_past mark whole d2 (first_past mark whole d1 (drop a))) p in record { node = x.node; rest = x.rest; old = x.old; marked = x.marked; follows = x.follows; ends = let z = x.ends in let y1 = operand_frame (aside.operand_bare mark d2) z.0 (alike z.1 (like_own x.node)) in let y0 = first_frame (aside.first_bare mark d1) y1.0 in ((lex s key_if ∷ y0.0), (step (joined y0.1 (joined y1.1 z.1)))); new = λ n2 f2. let z = x.new n2 f2 in let y1 = operand_frame (aside.operand_bare mark d2) z.0 z.2.0 in let y0 = first_frame (aside.first_bare mark d1) y1.0 in ((lex s key_if ∷ y0.0), (step (joined y0.1 (joined y1.1 z.1))), arm_rule y0.2 y1.2 z.2.1) }

    pub left_put : {xs ys : Exprs S} {ts r : Lexemes} → SpellsLeft mark (assigns xs) ts r → Within ts whole → ExprsIn w true xs ys → Put (SpellsLeft nowhere (assigns (bare_exprs ys))) ts r
    left_put (assigns_rule d1) a p = let x = exprs_put d1 a p (λ e. e) refl in record { node = x.node; rest = x.rest; old = x.old; marked = x.marked; follows = x.follows; ends = let z = x.ends in (z.0, z.1); new = λ n2 f2. let z = x.new n2 f2 in (z.0, z.1, assigns_rule z.2) }

    pub cases_put : {cs ds : Cases S} {ts r : Lexemes} → SpellsCases mark cs ts r → Within ts whole → CasesIn w cs ds → Put (λ us q. Like ts us × SpellsCases nowhere (bare_cases ds) us q) ts r
    cases_put no_cases_rule a p = elim p [ ]
    cases_put (case_rule {s = s} d1 d2 d3) a (in_case p) = let x = exprs_put d1 (drop a) p off refl in record { node = x.node; rest = x.rest; old = x.old; marked = x.marked; follows = x.follows; ends = let z = x.ends in ((lex s key_case ∷ z.0), (step z.1)); new = λ n2 f2. let z = x.new n2 f2 in ((lex s key_case ∷ z.0), (step z.1), (refl, case_rule z.2 (aside.stmts_bare mark d2) (aside.cases_bare mark d3))) }
    cases_put (case_rule {s = s} {c = c} d1 d2 d3) a (in_case_body p) = let x = stmts_put d2 (drop (exprs_past mark whole d1 (drop a))) p in record { node = x.node; rest = x.rest; old = x.old; marked = x.marked; follows = x.follows; ends = let z = x.ends in let y0 = exprs_frame (aside.exprs_bare mark d1) (lex c colon ∷ z.0) refl in ((lex s key_case ∷ y0.0), (step (joined y0.1 (step z.1)))); new = λ n2 f2. let z = x.new n2 f2 in let y0 = exprs_frame (aside.exprs_bare mark d1) (lex c colon ∷ z.0) refl in ((lex s key_case ∷ y0.0), (step (joined y0.1 (step z.1))), (refl, case_rule y0.2 z.2 (aside.cases_bare mark d3))) }
    cases_put (case_rule {s = s} {c = c} d1 d2 d3) a (in_later_cases p) = let x = cases_put d3 (stmts_past mark whole d2 (drop (exprs_past mark whole d1 (drop a)))) p in record { node = x.node; rest = x.rest; old = x.old; marked = x.marked; follows = x.follows; ends = let z = x.ends in let y1 = stmts_frame (aside.stmts_bare mark d2) z.0 (alike z.1 (like_own x.node)) in let y0 = exprs_frame (aside.exprs_bare mark d1) (lex c colon ∷ y1.0) refl in ((lex s key_case ∷ y0.0), (step (joined y0.1 (step (joined y1.1 z.1))))); new = λ n2 f2. let z = x.new n2 f2 in let y1 = stmts_frame (aside.stmts_bare mark d2) z.0 z.2.0 in let y0 = exprs_frame (aside.exprs_bare mark d1) (lex c colon ∷ y1.0) refl in ((lex s key_case ∷ y0.0), (step (joined y0.1 (step (joined y1.1 z.1)))), (refl, case_rule y0.2 y1.2 z.2.1)) }
    cases_put (default_rule d1 d2) a (in_case p) = elim p [ ]
    cases_put (default_rule {s = s} {c = c} d1 d2) a (in_case_body p) = let x = stmts_put d1 (drop (drop a)) p in record { node = x.node; rest = x.rest; old = x.old; marked = x.marked; follows = x.follows; ends = let z = x.ends in ((lex s key_default ∷ lex c colon ∷ z.0), (step (step z.1))); new = λ n2 f2. let z = x.new n2 f2 in ((lex s key_default ∷ lex c colon ∷ z.0), (step (step z.1)), (refl, default_rule z.2 (aside.cases_bare mark d2))) }
    cases_put (default_rule {s = s} {c = c} d1 d2) a (in_later_cases p) = let x = cases_put d2 (stmts_past mark whole d1 (drop (drop a))) p in record { node = x.node; rest = x.rest; old = x.old; marked = x.marked; follows = x.follows; ends = let z = x.ends in let y0 = stmts_frame (aside.stmts_bare mark d1) z.0 (alike z.1 (like_own x.node)) in ((lex s key_default ∷ lex c colon ∷ y0.0), (step (step (joined y0.1 z.1)))); new = λ n2 f2. let z = x.new n2 f2 in let y0 = stmts_frame (aside.stmts_bare mark d1) z.0 z.2.0 in ((lex s key_default ∷ lex c colon ∷ y0.0), (step (step (joined y0.1 z.1))), (refl, default_rule y0.2 z.2.1)) }

    pub decl_put : {c g : Bool} {ss us : ValueSpecs S} {ts r : Lexemes} → SpellsDecl mark c g ss ts r → Within ts whole → SpecsIn w ss us → ends_node r ≡ true → Put (SpellsDecl nowhere c g (bare_value_specs us)) ts r
    decl_put (single_rule d1) a (in_spec_type p) k = let x = spec_type_put d1 a p k in record { node = x.node; rest = x.rest; old = x.old; marked = x.marked; follows = x.follows; ends = let z = x.ends in (z.0, z.1); new = λ n2 f2. let z = x.new n2 f2 in (z.0, z.1, single_rule z.2) }
    decl_put (single_rule d1) a (in_spec_values p) k = let x = spec_values_put d1 a p k in record { node = x.node; rest = x.rest; old = x.old; marked = x.marked; follows = x.follows; ends = let z = x.ends in (z.0, z.1); new = λ n2 f2. let z = x.new n2 f2 in (z.0, z.1, single_rule z.2) }
    decl_put (single_rule d1) a (in_later_specs p) k = elim p [ ]
    decl_put (group_rule {s = s} d1) a p k = let x = specs_put d1 (drop a) p in record { node = x.node; rest = x.rest; old = x.old; marked = x.marked; follows = x.follows; ends = let z = x.ends in ((lex s paren ∷ z.0), (step z.1)); new = λ n2 f2. let z = x.new n2 f2 in ((lex s paren ∷ z.0), (step z.1), group_rule z.2) }

    pub specs_put : {c : Bool} {ss us : ValueSpecs S} {ts r : Lexemes} → SpellsSpecs mark c ss ts r → Within ts whole → SpecsIn w ss us → Put (SpellsSpecs nowhere c (bare_value_specs us)) ts r
    specs_put no_specs_rule a p = elim p [ ]
    specs_put (last_spec_rule d1) a (in_spec_type p) = let x = spec_type_put d1 a p refl in record { node = x.node; rest = x.rest; old = x.old; marked = x.marked; follows = x.follows; ends = let z = x.ends in (z.0, z.1); new = λ n2 f2. let z = x.new n2 f2 in (z.0, z.1, last_spec_rule z.2) }
    specs_put (last_spec_rule d1) a (in_spec_values p) = let x = spec_values_put d1 a p refl in record { node = x.node; rest = x.rest; old = x.old; marked = x.marked; follows = x.follows; ends = let z = x.ends in (z.0, z.1); new = λ n2 f2. let z = x.new n2 f2 in (z.0, z.1, last_spec_rule z.2) }
    specs_put (more_specs_rule d1 d2) a (in_spec_type p) = let x = spec_type_put d1 a p refl in record { node = x.node; rest = x.rest; old = x.old; marked = x.marked; follows = x.follows; ends = let z = x.ends in (z.0, z.1); new = λ n2 f2. let z = x.new n2 f2 in (z.0, z.1, more_specs_rule z.2 (aside.specs_bare mark d2)) }
    specs_put (more_specs_rule d1 d2) a (in_spec_values p) = let x = spec_values_put d1 a p refl in record { node = x.node; rest = x.rest; old = x.old; marked = x.marked; follows = x.follows; ends = let z = x.ends in (z.0, z.1); new = λ n2 f2. let z = x.new n2 f2 in (z.0, z.1, more_specs_rule z.2 (aside.specs_bare mark d2)) }
    specs_put (last_spec_rule d1) a (in_later_specs p) = elim p [ ]
    specs_put (more_specs_rule {c = c} d1 d2) a (in_later_specs p) = let x = specs_put d2 (drop (spec_past mark whole d1 a)) p in record { node = x.node; rest = x.rest; old = x.old; marked = x.marked; follows = x.follows; ends = let z = x.ends in let y0 = spec_frame (aside.spec_bare mark d1) (lex c semicolon ∷ z.0) refl in (y0.0, (joined y0.1 (step z.1))); new = λ n2 f2. let z = x.new n2 f2 in let y0 = spec_frame (aside.spec_bare mark d1) (lex c semicolon ∷ z.0) refl in (y0.0, (joined y0.1 (step z.1)), more_specs_rule y0.2 z.2) }

    pub spec_type_put : {c : Bool} {ns : List (NameAt S)} {t u : TypeExpr S} {xs : Exprs S} {ts r : Lexemes} → SpellsSpec mark c ns (Some t) xs ts r → Within ts whole → TypeIn w t u → ends_node r ≡ true → Put (SpellsSpec nowhere c (map bare_name ns) (Some (bare_type u)) (bare_exprs xs)) ts r
    spec_type_put (typed_var_rule d1 d2) a p k = let x = type_put mark whole differ w d2 (names_past mark whole d1 a) p k in record { node = x.node; rest = x.rest; old = x.old; marked = x.marked; follows = x.follows; ends = let z = x.ends in let y0 = names_frame (aside.names_bare mark d1) z.0 in (y0.0, (joined y0.1 z.1)); new = λ n2 f2. let z = x.new n2 f2 in let y0 = names_frame (aside.names_bare mark d1) z.0 in (y0.0, (joined y0.1 z.1), typed_var_rule y0.2 z.2) }
    spec_type_put (typed_values_rule d1 d2 d3) a p k = let x = type_put mark whole differ w d2 (names_past mark whole d1 a) p refl in record { node = x.node; rest = x.rest; old = x.old; marked = x.marked; follows = x.follows; ends = let z = x.ends in let y0 = names_frame (aside.names_bare mark d1) z.0 in (y0.0, (joined y0.1 z.1)); new = λ n2 f2. let z = x.new n2 f2 in let y0 = names_frame (aside.names_bare mark d1) z.0 in (y0.0, (joined y0.1 z.1), typed_values_rule y0.2 z.2 (aside.exprs_bare mark d3)) }

    pub spec_values_put : {c : Bool} {ns : List (NameAt S)} {t : Option (TypeExpr S)} {xs ys : Exprs S} {ts r : Lexemes} → SpellsSpec mark c ns t xs ts r → Within ts whole → ExprsIn w false xs ys → ends_node r ≡ true → Put (SpellsSpec nowhere c (map bare_name ns) (option_map bare_type t) (bare_exprs ys)) ts r
    spec_values_put (repeated_rule d1) a p k = elim p [ ]
    spec_values_put (typed_var_rule d1 d2) a p k = elim p [ ]
    spec_values_put (values_rule {s = s} d1 d2) a p k = let x = exprs_put d2 (drop (names_past mark whole d1 a)) p off k in record { node = x.node; rest = x.rest; old = x.old; marked = x.marked; follows = x.follows; ends = let z = x.ends in let y0 = names_frame (aside.names_bare mark d1) (lex s (assign None) ∷ z.0) in (y0.0, (joined y0.1 (step z.1))); new = λ n2 f2. let z = x.new n2 f2 in let y0 = names_frame (aside.names_bare mark d1) (lex s (assign None) ∷ z.0) in (y0.0, (joined y0.1 (step z.1)), values_rule y0.2 z.2) }
    spec_values_put (typed_values_rule {s = s} d1 d2 d3) a p k = let x = exprs_put d3 (drop (type_past mark whole d2 (names_past mark whole d1 a))) p off k in record { node = x.node; rest = x.rest; old = x.old; marked = x.marked; follows = x.follows; ends = let z = x.ends in let y1 = type_frame (aside.type_bare mark d2) (lex s (assign None) ∷ z.0) in let y0 = names_frame (aside.names_bare mark d1) y1.0 in (y0.0, (joined y0.1 (joined y1.1 (step z.1)))); new = λ n2 f2. let z = x.new n2 f2 in let y1 = type_frame (aside.type_bare mark d2) (lex s (assign None) ∷ z.0) in let y0 = names_frame (aside.names_bare mark d1) y1.0 in (y0.0, (joined y0.1 (joined y1.1 (step z.1))), typed_values_rule y0.2 y1.2 z.2) }
