-- Parts that begin with a token that is no semicolon.
use Rattle.std.proofs.Common.{◌≡◌, ℕ, Bool, List, Option}
use Rattle.go_tree.specs.declared.spans.Span.{Span}
use Rattle.go_tree.specs.Tree.{NameAt, TypeExpr, Expr, Exprs, Stmts, StmtOption, BlockOption, Arms}
use Rattle.go_tree.specs.declared.operators.UnOp.{UnOp}
use Rattle.go_tree.specs.declared.operators.UnOp.TheVariants.{Plus, Minus, Not, Flip, Address}
use Rattle.go_tree.specs.GoWords.Terminals.{unary_sign, semicolon}
use Rattle.go_read.specs.SpellsTypes.{Lexemes, SpellsType, SpellsNames, named_rule, qualified_rule, pointer_rule, slice_type_rule, map_type_rule, struct_type_rule, type_parens_rule, last_name_rule, more_names_rule}
use Rattle.go_read.specs.SpellsSpans.{span_to}
use Rattle.go_read.specs.Spells.{SpellsLiteralType, SpellsBare, SpellsExpr, SpellsOperand, SpellsExprs, SpellsIf, SpellsArm, SpellsSpec, named_literal_rule, qualified_literal_rule, type_literal_rule, ident_rule, int_rule, rune_rule, text_rule, composite_rule, func_rule, type_rule, selector_rule, index_rule, slice_rule, call_rule, unary_rule, star_rule, binary_rule, bare_rule, parens_rule, operand_rule, last_expr_rule, more_exprs_rule, only_arm_rule, else_rule, else_if_rule, arm_rule, repeated_rule, typed_var_rule, values_rule, typed_values_rule}
use Rattle.splice_laws.proofs.Grafts.{here, drop}
use Rattle.constant_steps.proofs.PlaceMeanings.Behinds.{type_by, fields_by, sig_by, names_by, expr_by, operand_by, option_by, exprs_by, args_by, elems_by, first_by, block_by, if_by}
use Rattle.constant_steps.proofs.PlaceMeanings.Rooms.{Begins, begins, begins_past}

-- no sign before an operand is a semicolon
pub unary_no : (op : UnOp) → unary_sign op ≡ semicolon → ⊥
unary_no Plus e = cc
unary_no Minus e = cc
unary_no Not e = cc
unary_no Flip e = cc
unary_no Address e = cc

pub type_begins : {a0 : TypeExpr Span} {ts r : Lexemes} → SpellsType span_to a0 ts r → Begins r ts
type_begins named_rule = (begins (λ e. cc) here)
type_begins qualified_rule = (begins (λ e. cc) (drop (drop here)))
type_begins (pointer_rule d1) = (begins (λ e. cc) (type_by d1 here))
type_begins (slice_type_rule d1) = (begins (λ e. cc) (type_by d1 (drop here)))
type_begins (map_type_rule d1 d2) = (begins (λ e. cc) (type_by d2 (drop (type_by d1 (drop here)))))
type_begins (struct_type_rule d1) = (begins (λ e. cc) (drop (fields_by d1 (drop here))))
type_begins (type_parens_rule d1) = (begins (λ e. cc) (drop (type_by d1 here)))

pub names_begins : {a0 : List (NameAt Span)} {ts r : Lexemes} → SpellsNames span_to a0 ts r → Begins r ts
names_begins last_name_rule = (begins (λ e. cc) here)
names_begins (more_names_rule d1) = (begins (λ e. cc) (names_by d1 (drop here)))

pub literal_begins : {a0 : Bool} {a1 : TypeExpr Span} {ts r : Lexemes} → SpellsLiteralType span_to a0 a1 ts r → Begins r ts
literal_begins named_literal_rule = (begins (λ e. cc) here)
literal_begins qualified_literal_rule = (begins (λ e. cc) (drop (drop here)))
literal_begins (type_literal_rule d1 d2) = type_begins d2

mutual
  pub bare_begins : {a0 : ℕ} {a1 : Bool} {a2 : Expr Span} {ts r : Lexemes} → SpellsBare span_to a0 a1 a2 ts r → Begins r ts
  bare_begins ident_rule = (begins (λ e. cc) here)
  bare_begins int_rule = (begins (λ e. cc) here)
  bare_begins rune_rule = (begins (λ e. cc) here)
  bare_begins text_rule = (begins (λ e. cc) here)
  bare_begins (composite_rule d1 d2) = (begins_past (literal_begins d1) (drop (elems_by d2 (drop here))))
  bare_begins (func_rule d1 d2) = (begins (λ e. cc) (block_by d2 (sig_by d1 here)))
  bare_begins (type_rule d1 d2 d3) = (type_begins d2)
  bare_begins (selector_rule d1) = (begins_past (operand_begins d1) (drop (drop here)))
  bare_begins (index_rule d1 d2) = (begins_past (operand_begins d1) (drop (operand_by d2 (drop here))))
  bare_begins (slice_rule d1 d2 d3) = (begins_past (operand_begins d1) (drop (option_by d3 (drop (option_by d2 (drop here))))))
  bare_begins (call_rule d1 d2) = (begins_past (expr_begins d1) (args_by d2 (drop here)))
  bare_begins (unary_rule {op = op} d1 d2) = (begins (unary_no op) (operand_by d2 here))
  bare_begins (star_rule d1 d2) = (begins (λ e. cc) (operand_by d2 here))
  bare_begins (binary_rule d1 d2 d3) = (begins_past (operand_begins d2) (operand_by d3 (drop here)))

  pub expr_begins : {a0 : ℕ} {a1 : Bool} {a2 : Expr Span} {ts r : Lexemes} → SpellsExpr span_to a0 a1 a2 ts r → Begins r ts
  expr_begins (bare_rule d1) = bare_begins d1
  expr_begins (parens_rule d1) = (begins (λ e. cc) (drop (expr_by d1 here)))

  pub operand_begins : {a0 : ℕ} {a1 : Bool} {a2 : Expr Span} {ts r : Lexemes} → SpellsOperand span_to a0 a1 a2 ts r → Begins r ts
  operand_begins (operand_rule d1 d2) = expr_begins d2

pub exprs_begins : {a0 : Bool} {a1 : Exprs Span} {ts r : Lexemes} → SpellsExprs span_to a0 a1 ts r → Begins r ts
exprs_begins (last_expr_rule d1) = (operand_begins d1)
exprs_begins (more_exprs_rule d1 d2) = (begins_past (operand_begins d1) (exprs_by d2 (drop here)))

pub arm_begins : {a0 : StmtOption Span} {a1 : Expr Span} {a2 : Span} {a3 : Stmts Span} {ts r : Lexemes} → SpellsArm span_to a0 a1 a2 a3 ts r → Begins r ts
arm_begins (arm_rule d1 d2 d3) = (begins (λ e. cc) (block_by d3 (operand_by d2 (first_by d1 here))))

pub if_begins : {a0 : Arms Span} {a1 : BlockOption Span} {ts r : Lexemes} → SpellsIf span_to a0 a1 ts r → Begins r ts
if_begins (only_arm_rule d1) = (arm_begins d1)
if_begins (else_rule d1 d2) = (begins_past (arm_begins d1) (block_by d2 (drop here)))
if_begins (else_if_rule d1 d2) = (begins_past (arm_begins d1) (if_by d2 (drop here)))

pub spec_begins : {a0 : Bool} {a1 : List (NameAt Span)} {a2 : Option (TypeExpr Span)} {a3 : Exprs Span} {ts r : Lexemes} → SpellsSpec span_to a0 a1 a2 a3 ts r → Begins r ts
spec_begins (repeated_rule d1) = (names_begins d1)
spec_begins (typed_var_rule d1 d2) = (begins_past (names_begins d1) (type_by d2 here))
spec_begins (values_rule d1 d2) = (begins_past (names_begins d1) (exprs_by d2 (drop here)))
spec_begins (typed_values_rule d1 d2 d3) = (begins_past (names_begins d1) (exprs_by d3 (drop (type_by d2 here))))
