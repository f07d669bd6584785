-- How the tokens of a node begin and end.
use Rattle.std.proofs.Common.{◌≡◌, ℕ, Bool, true, false, List, [], ◌∷◌, ◌++◌, Option, None, refl, ap}
use Rattle.go_tree.specs.declared.spans.Span.{Span}
use Rattle.go_tree.specs.declared.operators.UnOp.{UnOp}
use Rattle.go_tree.specs.declared.operators.UnOp.TheVariants.{Plus, Minus, Not, Flip, Address}
use Rattle.go_tree.specs.Tree.{NameAt, TypeExpr, Expr, Exprs, Stmt, Stmts, StmtOption, BlockOption, Arms, ValueSpecs}
use Rattle.go_tree.specs.declared.exprs.Rest.{Rest}
use Rattle.go_tree.specs.GoWords.Terminals as terminal
use Rattle.go_tree.specs.GoWords.Terminals.{Terminal, Lexeme, lex, ends_statement, binary_op, increment, decrement, comma, semicolon, colon, dot, ellipsis, paren, end_paren, bracket, end_bracket, brace, end_brace, key_else, key_range, unary_sign}
use Rattle.go_read.specs.SpellsTypes.{Lexemes, SpellsType, SpellsNames, named_rule, qualified_rule, pointer_rule, slice_type_rule, map_type_rule, struct_type_rule, type_parens_rule, last_name_rule, more_names_rule}
use Rattle.go_read.specs.Spells.{is_empty, SpellsLiteralType, SpellsBare, SpellsExpr, SpellsOperand, SpellsExprs, SpellsArgs, SpellsSimple, SpellsStmt, SpellsBlock, SpellsIf, SpellsArm, SpellsDecl, SpellsSpec, named_literal_rule, qualified_literal_rule, type_literal_rule, ident_rule, int_rule, rune_rule, text_rule, composite_rule, func_rule, type_rule, selector_rule, index_rule, slice_rule, call_rule, unary_rule, star_rule, binary_rule, bare_rule, parens_rule, operand_rule, last_expr_rule, more_exprs_rule, no_args_rule, args_rule, comma_args_rule, rest_args_rule, comma_rest_args_rule, eval_rule, increment_rule, decrement_rule, assign_rule, define_rule, empty_rule, simple_rule, const_rule, var_rule, return_rule, return_values_rule, break_rule, break_label_rule, continue_rule, continue_label_rule, block_rule, if_rule, while_rule, for_rule, range_rule, switch_rule, defer_rule, label_rule, braces_rule, only_arm_rule, else_rule, else_if_rule, arm_rule, single_rule, group_rule, repeated_rule, typed_var_rule, values_rule, typed_values_rule}
use Rattle.go_read.proofs.SpansAside as aside
use Rattle.go_layout.specs.TreeLayout.{gives_semicolon}
use Rattle.splice_laws.specs.Ends.{begins_semicolon}
use Rattle.splice_laws.proofs.Grafts.{Graft, base, step, like_own}
use Rattle.splice_laws.proofs.Frames.{type_frame, fields_frame, names_frame, literal_frame, sig_frame, expr_frame, operand_frame, option_frame, exprs_frame, elems_frame, part_frame, first_frame, stmts_frame, arm_frame, left_frame, specs_frame, cases_frame}

-- the tokens end, before `r`, with one after which a newline gives a semicolon
pub data Closing (r : Lexemes) : Lexemes → Type 0 where
  last : {s : Span} {x : Terminal} → ends_statement x ≡ true → Closing r (lex s x ∷ r)
  more : {t : Lexeme} {ts : Lexemes} → Closing r ts → Closing r (t ∷ ts)

over : {m n r ts us : Lexemes} → Graft m n ts us → Closing r m → Closing r ts
over base c = c
over (step g) c = more (over g c)

pub closed_front : {r ts : Lexemes} → Closing r ts → (front : Lexemes) × (s : Span) × (x : Terminal) × (ends_statement x ≡ true) × (ts ≡ front ++ lex s x ∷ r)
closed_front (last {s = s} {x = x} q) = ([], s, x, q, refl)
closed_front (more {t = t} c) = let f = closed_front c in (t ∷ f.0, f.1, f.2, f.3, ap (λ (us : Lexemes). t ∷ us) f.4)

module _ {S : Type 0} (mark : Lexemes → Lexemes → S) where
  pub type_closes : {a0 : TypeExpr S} {ts r : Lexemes} → SpellsType mark a0 ts r → Closing r ts
  type_closes named_rule = last refl
  type_closes qualified_rule = more (more (last refl))
  type_closes (pointer_rule d1) = more (type_closes d1)
  type_closes (slice_type_rule d1) = more (more (type_closes d1))
  type_closes (map_type_rule {e = e} {mid = mid} d1 d2) = more (more (over (type_frame (aside.type_bare mark d1) (lex e end_bracket ∷ mid)).1 (more (type_closes d2))))
  type_closes (struct_type_rule {e = e} {r = r} d1) = more (more (over (fields_frame (aside.fields_bare mark d1) (lex e end_brace ∷ r) (like_own (lex e end_brace ∷ r))).1 (last refl)))
  type_closes (type_parens_rule {e = e} {r = r} d1) = more (over (type_frame (aside.type_bare mark d1) (lex e end_paren ∷ r)).1 (last refl))

  pub names_closes : {a0 : List (NameAt S)} {ts r : Lexemes} → SpellsNames mark a0 ts r → Closing r ts
  names_closes last_name_rule = last refl
  names_closes (more_names_rule d1) = more (more (names_closes d1))

  pub literal_closes : {a0 : Bool} {a1 : TypeExpr S} {ts r : Lexemes} → SpellsLiteralType mark a0 a1 ts r → Closing r ts
  literal_closes named_literal_rule = last refl
  literal_closes qualified_literal_rule = more (more (last refl))
  literal_closes (type_literal_rule d1 d2) = type_closes d2

  mutual
    pub bare_closes : {a0 : ℕ} {a1 : Bool} {a2 : Expr S} {ts r : Lexemes} → SpellsBare mark a0 a1 a2 ts r → Closing r ts
    bare_closes ident_rule = last refl
    bare_closes int_rule = last refl
    bare_closes rune_rule = last refl
    bare_closes text_rule = last refl
    bare_closes (composite_rule {b = b} {e = e} {mid = mid} {r = r} d1 d2) = over (literal_frame (aside.literal_bare mark d1) (lex b brace ∷ mid) (like_own (lex b brace ∷ mid))).1 (more (over (elems_frame (aside.elems_bare mark d2) (lex e end_brace ∷ r) (like_own (lex e end_brace ∷ r))).1 (last refl)))
    bare_closes (func_rule {mid = mid} d1 d2) = more (over (sig_frame (aside.sig_bare mark d1) mid).1 (block_closes d2))
    bare_closes (type_rule d1 d2 d3) = type_closes d2
    bare_closes (selector_rule {d = d} {s = s} {n = n} {r = r} d1) = over (operand_frame (aside.operand_bare mark d1) (lex d dot ∷ lex s (terminal.ident n) ∷ r) (like_own (lex d dot ∷ lex s (terminal.ident n) ∷ r))).1 (more (last refl))
    bare_closes (index_rule {b = b} {c = c} {mid = mid} {r = r} d1 d2) = over (operand_frame (aside.operand_bare mark d1) (lex b bracket ∷ mid) (like_own (lex b bracket ∷ mid))).1 (more (over (operand_frame (aside.operand_bare mark d2) (lex c end_bracket ∷ r) (like_own (lex c end_bracket ∷ r))).1 (last refl)))
    bare_closes (slice_rule {b = b} {c = c} {d = d} {a = a} {mid = mid} {r = r} d1 d2 d3) = over (operand_frame (aside.operand_bare mark d1) (lex b bracket ∷ a) (like_own (lex b bracket ∷ a))).1 (more (over (option_frame (aside.option_bare mark d2) (lex c colon ∷ mid) (like_own (lex c colon ∷ mid))).1 (more (over (option_frame (aside.option_bare mark d3) (lex d end_bracket ∷ r) (like_own (lex d end_bracket ∷ r))).1 (last refl)))))
    bare_closes (call_rule {b = b} {mid = mid} d1 d2) = over (expr_frame (aside.expr_bare mark d1) (lex b paren ∷ mid) (like_own (lex b paren ∷ mid))).1 (more (args_closes d2))
    bare_closes (unary_rule d1 d2) = more (operand_closes d2)
    bare_closes (star_rule d1 d2) = more (operand_closes d2)
    bare_closes (binary_rule {s = s} {op = op} {mid = mid} d1 d2 d3) = over (operand_frame (aside.operand_bare mark d2) (lex s (binary_op op) ∷ mid) (like_own (lex s (binary_op op) ∷ mid))).1 (more (operand_closes d3))

    pub expr_closes : {a0 : ℕ} {a1 : Bool} {a2 : Expr S} {ts r : Lexemes} → SpellsExpr mark a0 a1 a2 ts r → Closing r ts
    expr_closes (bare_rule d1) = bare_closes d1
    expr_closes (parens_rule {c = c} {r = r} d1) = more (over (expr_frame (aside.expr_bare mark d1) (lex c end_paren ∷ r) (like_own (lex c end_paren ∷ r))).1 (last refl))

    pub operand_closes : {a0 : ℕ} {a1 : Bool} {a2 : Expr S} {ts r : Lexemes} → SpellsOperand mark a0 a1 a2 ts r → Closing r ts
    operand_closes (operand_rule d1 d2) = expr_closes d2

    pub exprs_closes : {a0 : Bool} {a1 : Exprs S} {ts r : Lexemes} → SpellsExprs mark a0 a1 ts r → Closing r ts
    exprs_closes (last_expr_rule d1) = operand_closes d1
    exprs_closes (more_exprs_rule {c = c} {mid = mid} d1 d2) = over (operand_frame (aside.operand_bare mark d1) (lex c comma ∷ mid) (like_own (lex c comma ∷ mid))).1 (more (exprs_closes d2))

    pub args_closes : {a0 : Exprs S} {a1 : Rest} {ts r : Lexemes} → SpellsArgs mark a0 a1 ts r → Closing r ts
    args_closes no_args_rule = last refl
    args_closes (args_rule {e = e} {r = r} d1) = over (exprs_frame (aside.exprs_bare mark d1) (lex e end_paren ∷ r) (like_own (lex e end_paren ∷ r))).1 (last refl)
    args_closes (comma_args_rule {c = c} {e = e} {r = r} d1) = over (exprs_frame (aside.exprs_bare mark d1) (lex c comma ∷ lex e end_paren ∷ r) (like_own (lex c comma ∷ lex e end_paren ∷ r))).1 (more (last refl))
    args_closes (rest_args_rule {d = d} {e = e} {r = r} d1) = over (exprs_frame (aside.exprs_bare mark d1) (lex d ellipsis ∷ lex e end_paren ∷ r) (like_own (lex d ellipsis ∷ lex e end_paren ∷ r))).1 (more (last refl))
    args_closes (comma_rest_args_rule {d = d} {c = c} {e = e} {r = r} d1) = over (exprs_frame (aside.exprs_bare mark d1) (lex d ellipsis ∷ lex c comma ∷ lex e end_paren ∷ r) (like_own (lex d ellipsis ∷ lex c comma ∷ lex e end_paren ∷ r))).1 (more (more (last refl)))

    pub simple_closes : {a0 : Bool} {a1 : Stmt S} {ts r : Lexemes} → SpellsSimple mark a0 a1 ts r → Closing r ts
    simple_closes (eval_rule d1) = operand_closes d1
    simple_closes (increment_rule {s = s} {r = r} d1) = over (operand_frame (aside.operand_bare mark d1) (lex s increment ∷ r) (like_own (lex s increment ∷ r))).1 (last refl)
    simple_closes (decrement_rule {s = s} {r = r} d1) = over (operand_frame (aside.operand_bare mark d1) (lex s decrement ∷ r) (like_own (lex s decrement ∷ r))).1 (last refl)
    simple_closes (assign_rule {s = s} {op = op} {mid = mid} d1 d2) = over (exprs_frame (aside.exprs_bare mark d1) (lex s (terminal.assign op) ∷ mid) (like_own (lex s (terminal.assign op) ∷ mid))).1 (more (exprs_closes d2))
    simple_closes (define_rule {s = s} {mid = mid} d1 d2) = over (names_frame (aside.names_bare mark d1) (lex s terminal.define ∷ mid)).1 (more (exprs_closes d2))

    pub stmt_closes : {a0 : Stmt S} {ts r : Lexemes} → SpellsStmt mark a0 ts r → gives_semicolon a0 ≡ true → Closing r ts
    stmt_closes empty_rule q = absurd cc
    stmt_closes (simple_rule d1) q = simple_closes d1
    stmt_closes (const_rule d1) q = more (decl_closes d1)
    stmt_closes (var_rule d1) q = more (decl_closes d1)
    stmt_closes return_rule q = last refl
    stmt_closes (return_values_rule d1) q = more (exprs_closes d1)
    stmt_closes break_rule q = last refl
    stmt_closes break_label_rule q = more (last refl)
    stmt_closes continue_rule q = last refl
    stmt_closes continue_label_rule q = more (last refl)
    stmt_closes (block_rule d1) q = block_closes d1
    stmt_closes (if_rule d1) q = if_closes d1
    stmt_closes (while_rule {mid = mid} d1 d2) q = more (over (option_frame (aside.option_bare mark d1) mid (like_own mid)).1 (block_closes d2))
    stmt_closes (for_rule {c = c} {d = d} {ts2 = ts2} {ts3 = ts3} {ts4 = ts4} d1 d2 d3 d4) q = more (over (part_frame (aside.part_bare mark d1) (lex c semicolon ∷ ts2) (like_own (lex c semicolon ∷ ts2))).1 (more (over (option_frame (aside.option_bare mark d2) (lex d semicolon ∷ ts3) (like_own (lex d semicolon ∷ ts3))).1 (more (over (part_frame (aside.part_bare mark d3) ts4 (like_own ts4)).1 (block_closes d4))))))
    stmt_closes (range_rule {c = c} {ts2 = ts2} {ts3 = ts3} d1 d2 d3) q = more (over (left_frame (aside.left_bare mark d1) (lex c key_range ∷ ts2) (like_own (lex c key_range ∷ ts2))).1 (more (over (operand_frame (aside.operand_bare mark d2) ts3 (like_own ts3)).1 (block_closes d3))))
    stmt_closes (switch_rule {b = b} {e = e} {ts2 = ts2} {ts3 = ts3} {r = r} d1 d2 d3) q = more (over (first_frame (aside.first_bare mark d1) ts2).1 (over (option_frame (aside.option_bare mark d2) (lex b brace ∷ ts3) (like_own (lex b brace ∷ ts3))).1 (more (over (cases_frame (aside.cases_bare mark d3) (lex e end_brace ∷ r) (like_own (lex e end_brace ∷ r))).1 (last refl)))))
    stmt_closes (defer_rule d1) q = more (bare_closes d1)
    stmt_closes (label_rule d1) q = more (more (stmt_closes d1 q))

    pub block_closes : {a0 : S} {a1 : Stmts S} {ts r : Lexemes} → SpellsBlock mark a0 a1 ts r → Closing r ts
    block_closes (braces_rule {e = e} {r = r} d1) = more (over (stmts_frame (aside.stmts_bare mark d1) (lex e end_brace ∷ r) (like_own (lex e end_brace ∷ r))).1 (last refl))

    pub if_closes : {a0 : Arms S} {a1 : BlockOption S} {ts r : Lexemes} → SpellsIf mark a0 a1 ts r → Closing r ts
    if_closes (only_arm_rule d1) = arm_closes d1
    if_closes (else_rule {c = c} {mid = mid} d1 d2) = over (arm_frame (aside.arm_bare mark d1) (lex c key_else ∷ mid) (like_own (lex c key_else ∷ mid))).1 (more (block_closes d2))
    if_closes (else_if_rule {c = c} {mid = mid} d1 d2) = over (arm_frame (aside.arm_bare mark d1) (lex c key_else ∷ mid) (like_own (lex c key_else ∷ mid))).1 (more (if_closes d2))

    pub arm_closes : {a0 : StmtOption S} {a1 : Expr S} {a2 : S} {a3 : Stmts S} {ts r : Lexemes} → SpellsArm mark a0 a1 a2 a3 ts r → Closing r ts
    arm_closes (arm_rule {ts2 = ts2} {ts3 = ts3} d1 d2 d3) = more (over (first_frame (aside.first_bare mark d1) ts2).1 (over (operand_frame (aside.operand_bare mark d2) ts3 (like_own ts3)).1 (block_closes d3)))

    pub decl_closes : {a0 : Bool} {a1 : Bool} {a2 : ValueSpecs S} {ts r : Lexemes} → SpellsDecl mark a0 a1 a2 ts r → Closing r ts
    decl_closes (single_rule d1) = spec_closes d1
    decl_closes (group_rule {e = e} {r = r} d1) = more (over (specs_frame (aside.specs_bare mark d1) (lex e end_paren ∷ r) (like_own (lex e end_paren ∷ r))).1 (last refl))

    pub spec_closes : {a0 : Bool} {a1 : List (NameAt S)} {a2 : Option (TypeExpr S)} {a3 : Exprs S} {ts r : Lexemes} → SpellsSpec mark a0 a1 a2 a3 ts r → Closing r ts
    spec_closes (repeated_rule d1) = names_closes d1
    spec_closes (typed_var_rule {mid = mid} d1 d2) = over (names_frame (aside.names_bare mark d1) mid).1 (type_closes d2)
    spec_closes (values_rule {s = s} {mid = mid} d1 d2) = over (names_frame (aside.names_bare mark d1) (lex s (terminal.assign None) ∷ mid)).1 (more (exprs_closes d2))
    spec_closes (typed_values_rule {s = s} {mid = mid} {mid2 = mid2} d1 d2 d3) = over (names_frame (aside.names_bare mark d1) mid).1 (over (type_frame (aside.type_bare mark d2) (lex s (terminal.assign None) ∷ mid2)).1 (more (exprs_closes d3)))

  sign_opens : (s : Span) (ts : Lexemes) (o : UnOp) → begins_semicolon (lex s (unary_sign o) ∷ ts) ≡ false
  sign_opens s ts Plus = refl
  sign_opens s ts Minus = refl
  sign_opens s ts Not = refl
  sign_opens s ts Flip = refl
  sign_opens s ts Address = refl

  pub type_opens : {a0 : TypeExpr S} {ts r : Lexemes} → SpellsType mark a0 ts r → begins_semicolon ts ≡ false
  type_opens named_rule = refl
  type_opens qualified_rule = refl
  type_opens (pointer_rule d1) = refl
  type_opens (slice_type_rule d1) = refl
  type_opens (map_type_rule d1 d2) = refl
  type_opens (struct_type_rule d1) = refl
  type_opens (type_parens_rule d1) = refl

  pub literal_opens : {a0 : Bool} {a1 : TypeExpr S} {ts r : Lexemes} → SpellsLiteralType mark a0 a1 ts r → begins_semicolon ts ≡ false
  literal_opens named_literal_rule = refl
  literal_opens qualified_literal_rule = refl
  literal_opens (type_literal_rule d1 d2) = type_opens d2

  pub names_opens : {a0 : List (NameAt S)} {ts r : Lexemes} → SpellsNames mark a0 ts r → begins_semicolon ts ≡ false
  names_opens last_name_rule = refl
  names_opens (more_names_rule d1) = refl

  mutual
    pub bare_opens : {a0 : ℕ} {a1 : Bool} {a2 : Expr S} {ts r : Lexemes} → SpellsBare mark a0 a1 a2 ts r → begins_semicolon ts ≡ false
    bare_opens ident_rule = refl
    bare_opens int_rule = refl
    bare_opens rune_rule = refl
    bare_opens text_rule = refl
    bare_opens (composite_rule d1 d2) = literal_opens d1
    bare_opens (func_rule d1 d2) = refl
    bare_opens (type_rule d1 d2 d3) = type_opens d2
    bare_opens (selector_rule d1) = operand_opens d1
    bare_opens (index_rule d1 d2) = operand_opens d1
    bare_opens (slice_rule d1 d2 d3) = operand_opens d1
    bare_opens (call_rule d1 d2) = expr_opens d1
    bare_opens (unary_rule {s = s} {op = op} {ts = ts} d1 d2) = sign_opens s ts op
    bare_opens (star_rule d1 d2) = refl
    bare_opens (binary_rule d1 d2 d3) = operand_opens d2

    pub expr_opens : {a0 : ℕ} {a1 : Bool} {a2 : Expr S} {ts r : Lexemes} → SpellsExpr mark a0 a1 a2 ts r → begins_semicolon ts ≡ false
    expr_opens (bare_rule d1) = bare_opens d1
    expr_opens (parens_rule d1) = refl

    pub operand_opens : {a0 : ℕ} {a1 : Bool} {a2 : Expr S} {ts r : Lexemes} → SpellsOperand mark a0 a1 a2 ts r → begins_semicolon ts ≡ false
    operand_opens (operand_rule d1 d2) = expr_opens d2

  pub exprs_opens : {a0 : Bool} {a1 : Exprs S} {ts r : Lexemes} → SpellsExprs mark a0 a1 ts r → begins_semicolon ts ≡ false
  exprs_opens (last_expr_rule d1) = operand_opens d1
  exprs_opens (more_exprs_rule d1 d2) = operand_opens d1

  pub simple_opens : {a0 : Bool} {a1 : Stmt S} {ts r : Lexemes} → SpellsSimple mark a0 a1 ts r → begins_semicolon ts ≡ false
  simple_opens (eval_rule d1) = operand_opens d1
  simple_opens (increment_rule d1) = operand_opens d1
  simple_opens (decrement_rule d1) = operand_opens d1
  simple_opens (assign_rule d1 d2) = exprs_opens d1
  simple_opens (define_rule d1 d2) = names_opens d1

  arm_opens : {i : StmtOption S} {t : Expr S} {sb : S} {body : Stmts S} {ts r : Lexemes} → SpellsArm mark i t sb body ts r → begins_semicolon ts ≡ false
  arm_opens (arm_rule a b c) = refl

  if_opens : {arms : Arms S} {last : BlockOption S} {ts r : Lexemes} → SpellsIf mark arms last ts r → begins_semicolon ts ≡ false
  if_opens (only_arm_rule a) = arm_opens a
  if_opens (else_rule a b) = arm_opens a
  if_opens (else_if_rule a b) = arm_opens a

  pub stmt_opens : {a0 : Stmt S} {ts r : Lexemes} → SpellsStmt mark a0 ts r → is_empty a0 ≡ false → begins_semicolon ts ≡ false
  stmt_opens empty_rule q = absurd cc
  stmt_opens (simple_rule d1) q = simple_opens d1
  stmt_opens (const_rule d1) q = refl
  stmt_opens (var_rule d1) q = refl
  stmt_opens return_rule q = refl
  stmt_opens (return_values_rule d1) q = refl
  stmt_opens break_rule q = refl
  stmt_opens break_label_rule q = refl
  stmt_opens continue_rule q = refl
  stmt_opens continue_label_rule q = refl
  stmt_opens (block_rule (braces_rule d1)) q = refl
  stmt_opens (if_rule d1) q = if_opens d1
  stmt_opens (while_rule d1 d2) q = refl
  stmt_opens (for_rule d1 d2 d3 d4) q = refl
  stmt_opens (range_rule d1 d2 d3) q = refl
  stmt_opens (switch_rule d1 d2 d3) q = refl
  stmt_opens (defer_rule d1) q = refl
  stmt_opens (label_rule d1) q = refl
