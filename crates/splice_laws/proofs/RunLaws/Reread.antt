-- A tree as read, with the places where its nodes stand, is the tree.
use Rattle.std.proofs.Common.{◌≡◌, refl, List, [], ◌∷◌, map, Option, Some, None}
use Rattle.std.specs.Option.{option_map}
use Rattle.go_tree.specs.declared.spans.Span.{Span}
use Rattle.go_tree.specs.Tree.{NameAt, TypeExpr, Fields, named, pointer, slice_type, map_type, struct_type, no_fields, field, Param, Sig, Expr, Exprs, ExprOption, Elems, Value, ValueOption, Stmt, Stmts, StmtOption, BlockOption, RangeLeft, Arms, Cases, ValueSpecs, ident, int_lit, rune_lit, str_lit, composite, selector, index, slice, call, func_lit, type_operand, unary, binary, star, no_exprs, expr_and, no_expr, some_expr, no_elems, elem, plain, braced, no_value, some_value, const_decl, var_decl, empty, eval, step, assign, define, return_, break_, continue_, inner, if_, for_, range_, switch, defer, label, no_stmts, stmt_and, no_stmt, some_stmt, no_block, some_block, nothing, assigns, defines, no_arms, arm, no_cases, case, no_specs, spec}
use Rattle.go_tree.specs.File.{ImportSpec, ImportDecl, TypeSpec, Receiver, Func, Decl, values, types, func, File}
use Rattle.run_rules.specs.Respanned.{name_with, type_with, fields_with, param_with, sig_with, expr_with, exprs_with, expr_option_with, elems_with, value_option_with, value_with, stmt_with, stmts_with, stmt_option_with, block_option_with, left_with, arms_with, cases_with, specs_with, import_spec_with, import_decl_with, type_spec_with, receiver_with, func_with, decl_with, file_with}
use Rattle.run_rules.specs.Run.{here_of, as_read}

names-reread : (xs : List (NameAt Span)) → map (name_with here_of) (map (name_with as_read) xs) ≡ xs
names-reread [] = refl
names-reread (x ∷ xs) = λ w. x ∷ names-reread xs w

name_option-reread : (x : Option (NameAt Span)) → option_map (name_with here_of) (option_map (name_with as_read) x) ≡ x
name_option-reread None = refl
name_option-reread (Some x) = refl

mutual
  type-reread : (x : TypeExpr Span) → type_with here_of (type_with as_read x) ≡ x
  type-reread (named s p n) = λ w. named s (name_option-reread p w) n
  type-reread (pointer s t) = λ w. pointer s (type-reread t w)
  type-reread (slice_type s t) = λ w. slice_type s (type-reread t w)
  type-reread (map_type s k t) = λ w. map_type s (type-reread k w) (type-reread t w)
  type-reread (struct_type s fs) = λ w. struct_type s (fields-reread fs w)

  fields-reread : (x : Fields Span) → fields_with here_of (fields_with as_read x) ≡ x
  fields-reread no_fields = refl
  fields-reread (field s n t fs) = λ w. field s n (type-reread t w) (fields-reread fs w)

type_option-reread : (x : Option (TypeExpr Span)) → option_map (type_with here_of) (option_map (type_with as_read) x) ≡ x
type_option-reread None = refl
type_option-reread (Some x) = λ w. Some (type-reread x w)

param-reread : (x : Param Span) → param_with here_of (param_with as_read x) ≡ x
param-reread x = λ w. record { span = x.span; name = name_option-reread x.name w; rest = x.rest; of = type-reread x.of w }

params-reread : (xs : List (Param Span)) → map (param_with here_of) (map (param_with as_read) xs) ≡ xs
params-reread [] = refl
params-reread (x ∷ xs) = λ w. param-reread x w ∷ params-reread xs w

sig-reread : (x : Sig Span) → sig_with here_of (sig_with as_read x) ≡ x
sig-reread x = λ w. record { params = params-reread x.params w; results = params-reread x.results w }

mutual
  expr-reread : (x : Expr Span) → expr_with here_of (expr_with as_read x) ≡ x
  expr-reread (ident s n) = refl
  expr-reread (int_lit s n) = refl
  expr-reread (rune_lit s n) = refl
  expr-reread (str_lit s n) = refl
  expr-reread (composite s t es) = λ w. composite s (type-reread t w) (elems-reread es w)
  expr-reread (selector s b n) = λ w. selector s (expr-reread b w) n
  expr-reread (index s b i) = λ w. index s (expr-reread b w) (expr-reread i w)
  expr-reread (slice s b i j) = λ w. slice s (expr-reread b w) (expr_option-reread i w) (expr_option-reread j w)
  expr-reread (call s f xs r) = λ w. call s (expr-reread f w) (exprs-reread xs w) r
  expr-reread (func_lit s g z b) = λ w. func_lit s (sig-reread g w) z (stmts-reread b w)
  expr-reread (type_operand s t) = λ w. type_operand s (type-reread t w)
  expr-reread (unary s o e) = λ w. unary s o (expr-reread e w)
  expr-reread (binary s o a b) = λ w. binary s o (expr-reread a w) (expr-reread b w)
  expr-reread (star s e) = λ w. star s (expr-reread e w)

  exprs-reread : (x : Exprs Span) → exprs_with here_of (exprs_with as_read x) ≡ x
  exprs-reread no_exprs = refl
  exprs-reread (expr_and e es) = λ w. expr_and (expr-reread e w) (exprs-reread es w)

  expr_option-reread : (x : ExprOption Span) → expr_option_with here_of (expr_option_with as_read x) ≡ x
  expr_option-reread no_expr = refl
  expr_option-reread (some_expr e) = λ w. some_expr (expr-reread e w)

  elems-reread : (x : Elems Span) → elems_with here_of (elems_with as_read x) ≡ x
  elems-reread no_elems = refl
  elems-reread (elem s k v es) = λ w. elem s (value_option-reread k w) (value-reread v w) (elems-reread es w)

  value_option-reread : (x : ValueOption Span) → value_option_with here_of (value_option_with as_read x) ≡ x
  value_option-reread no_value = refl
  value_option-reread (some_value v) = λ w. some_value (value-reread v w)

  value-reread : (x : Value Span) → value_with here_of (value_with as_read x) ≡ x
  value-reread (plain e) = λ w. plain (expr-reread e w)
  value-reread (braced s es) = λ w. braced s (elems-reread es w)

  stmt-reread : (x : Stmt Span) → stmt_with here_of (stmt_with as_read x) ≡ x
  stmt-reread (const_decl s g ss) = λ w. const_decl s g (specs-reread ss w)
  stmt-reread (var_decl s g ss) = λ w. var_decl s g (specs-reread ss w)
  stmt-reread (empty s) = refl
  stmt-reread (eval s e) = λ w. eval s (expr-reread e w)
  stmt-reread (step s e b) = λ w. step s (expr-reread e w) b
  stmt-reread (assign s xs o ys) = λ w. assign s (exprs-reread xs w) o (exprs-reread ys w)
  stmt-reread (define s ns ys) = λ w. define s (names-reread ns w) (exprs-reread ys w)
  stmt-reread (return_ s xs) = λ w. return_ s (exprs-reread xs w)
  stmt-reread (break_ s n) = λ w. break_ s (name_option-reread n w)
  stmt-reread (continue_ s n) = λ w. continue_ s (name_option-reread n w)
  stmt-reread (inner s b) = λ w. inner s (stmts-reread b w)
  stmt-reread (if_ s bs z) = λ w. if_ s (arms-reread bs w) (block_option-reread z w)
  stmt-reread (for_ s i t q z b) = λ w. for_ s (stmt_option-reread i w) (expr_option-reread t w) (stmt_option-reread q w) z (stmts-reread b w)
  stmt-reread (range_ s x e z b) = λ w. range_ s (left-reread x w) (expr-reread e w) z (stmts-reread b w)
  stmt-reread (switch s i t cs) = λ w. switch s (stmt_option-reread i w) (expr_option-reread t w) (cases-reread cs w)
  stmt-reread (defer s e) = λ w. defer s (expr-reread e w)
  stmt-reread (label s n x) = λ w. label s n (stmt-reread x w)

  stmts-reread : (x : Stmts Span) → stmts_with here_of (stmts_with as_read x) ≡ x
  stmts-reread no_stmts = refl
  stmts-reread (stmt_and s ss) = λ w. stmt_and (stmt-reread s w) (stmts-reread ss w)

  stmt_option-reread : (x : StmtOption Span) → stmt_option_with here_of (stmt_option_with as_read x) ≡ x
  stmt_option-reread no_stmt = refl
  stmt_option-reread (some_stmt s) = λ w. some_stmt (stmt-reread s w)

  block_option-reread : (x : BlockOption Span) → block_option_with here_of (block_option_with as_read x) ≡ x
  block_option-reread no_block = refl
  block_option-reread (some_block s b) = λ w. some_block s (stmts-reread b w)

  left-reread : (x : RangeLeft Span) → left_with here_of (left_with as_read x) ≡ x
  left-reread nothing = refl
  left-reread (assigns es) = λ w. assigns (exprs-reread es w)
  left-reread (defines ns) = λ w. defines (names-reread ns w)

  arms-reread : (x : Arms Span) → arms_with here_of (arms_with as_read x) ≡ x
  arms-reread no_arms = refl
  arms-reread (arm s i t z b r) = λ w. arm s (stmt_option-reread i w) (expr-reread t w) z (stmts-reread b w) (arms-reread r w)

  cases-reread : (x : Cases Span) → cases_with here_of (cases_with as_read x) ≡ x
  cases-reread no_cases = refl
  cases-reread (case s es b cs) = λ w. case s (exprs-reread es w) (stmts-reread b w) (cases-reread cs w)

  specs-reread : (x : ValueSpecs Span) → specs_with here_of (specs_with as_read x) ≡ x
  specs-reread no_specs = refl
  specs-reread (spec s ns t es ss) = λ w. spec s (names-reread ns w) (type_option-reread t w) (exprs-reread es w) (specs-reread ss w)

import_spec-reread : (x : ImportSpec Span) → import_spec_with here_of (import_spec_with as_read x) ≡ x
import_spec-reread x = λ w. record { span = x.span; name = name_option-reread x.name w; path = x.path }

import_specs-reread : (xs : List (ImportSpec Span)) → map (import_spec_with here_of) (map (import_spec_with as_read) xs) ≡ xs
import_specs-reread [] = refl
import_specs-reread (x ∷ xs) = λ w. import_spec-reread x w ∷ import_specs-reread xs w

import_decl-reread : (x : ImportDecl Span) → import_decl_with here_of (import_decl_with as_read x) ≡ x
import_decl-reread x = λ w. record { span = x.span; grouped = x.grouped; specs = import_specs-reread x.specs w }

import_decls-reread : (xs : List (ImportDecl Span)) → map (import_decl_with here_of) (map (import_decl_with as_read) xs) ≡ xs
import_decls-reread [] = refl
import_decls-reread (x ∷ xs) = λ w. import_decl-reread x w ∷ import_decls-reread xs w

type_spec-reread : (x : TypeSpec Span) → type_spec_with here_of (type_spec_with as_read x) ≡ x
type_spec-reread x = λ w. record { span = x.span; name = x.name; alias = x.alias; of = type-reread x.of w }

type_specs-reread : (xs : List (TypeSpec Span)) → map (type_spec_with here_of) (map (type_spec_with as_read) xs) ≡ xs
type_specs-reread [] = refl
type_specs-reread (x ∷ xs) = λ w. type_spec-reread x w ∷ type_specs-reread xs w

receiver-reread : (x : Receiver Span) → receiver_with here_of (receiver_with as_read x) ≡ x
receiver-reread x = λ w. record { span = x.span; name = name_option-reread x.name w; pointer = x.pointer; of = x.of }

receiver_option-reread : (x : Option (Receiver Span)) → option_map (receiver_with here_of) (option_map (receiver_with as_read) x) ≡ x
receiver_option-reread None = refl
receiver_option-reread (Some x) = λ w. Some (receiver-reread x w)

func-reread : (x : Func Span) → func_with here_of (func_with as_read x) ≡ x
func-reread x = λ w. record { span = x.span; receiver = receiver_option-reread x.receiver w; name = x.name; sig = sig-reread x.sig w; body_span = x.body_span; body = stmts-reread x.body w }

decl-reread : (x : Decl Span) → decl_with here_of (decl_with as_read x) ≡ x
decl-reread (values s) = λ w. values (stmt-reread s w)
decl-reread (types s grouped ts) = λ w. types s grouped (type_specs-reread ts w)
decl-reread (func g) = λ w. func (func-reread g w)

decls-reread : (xs : List (Decl Span)) → map (decl_with here_of) (map (decl_with as_read) xs) ≡ xs
decls-reread [] = refl
decls-reread (x ∷ xs) = λ w. decl-reread x w ∷ decls-reread xs w

pub file-reread : (x : File Span) → file_with here_of (file_with as_read x) ≡ x
file-reread x = λ w. record { package_name = x.package_name; imports = import_decls-reread x.imports w; decls = decls-reread x.decls w }
