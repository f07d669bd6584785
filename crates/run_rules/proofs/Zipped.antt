-- A tree of nodes with places and origins is known by its places and its origins: zipped they give it back.
use Rattle.std.proofs.Common.{◌≡◌, refl, sym, ap, ◌∙◌, List, [], ◌∷◌, map, Option, Some, None}
use Rattle.std.specs.Option.{option_map}
use Rattle.go_tree.specs.declared.spans.Span.{Span}
use Rattle.go_tree.specs.Tree.{NameAt, TypeExpr, Fields, named, pointer, slice_type, map_type, struct_type, no_fields, field, Param, Sig, Expr, Exprs, ExprOption, Elems, Value, ValueOption, Stmt, Stmts, StmtOption, BlockOption, RangeLeft, Arms, Cases, ValueSpecs, ident, int_lit, rune_lit, str_lit, composite, selector, index, slice, call, func_lit, type_operand, unary, binary, star, no_exprs, expr_and, no_expr, some_expr, no_elems, elem, plain, braced, no_value, some_value, const_decl, var_decl, empty, eval, step, assign, define, return_, break_, continue_, inner, if_, for_, range_, switch, defer, label, no_stmts, stmt_and, no_stmt, some_stmt, no_block, some_block, nothing, assigns, defines, no_arms, arm, no_cases, case, no_specs, spec}
use Rattle.go_tree.specs.File.{ImportSpec, ImportDecl, TypeSpec, Receiver, Func, Decl, values, types, func, File}
use Rattle.run_rules.specs.Respanned.{name_with, type_with, fields_with, param_with, sig_with, expr_with, exprs_with, expr_option_with, elems_with, value_option_with, value_with, stmt_with, stmts_with, stmt_option_with, block_option_with, left_with, arms_with, cases_with, specs_with, import_spec_with, import_decl_with, type_spec_with, receiver_with, func_with, decl_with, file_with}
use Rattle.run_rules.specs.Steps.{At}
use Rattle.run_rules.specs.Run.{here_of, origin_of, as_read}

-- a node with its place and its origin
abbrev both : Span → Span → At
both a b = record { here = a; origin = b }

abbrev name_zip : NameAt Span → NameAt Span → NameAt At
name_zip x y = record { span = both x.span y.span; name = x.name }

abbrev names_zip : List (NameAt Span) → List (NameAt Span) → List (NameAt At)
names_zip [] [] = []
names_zip (x ∷ xs) (y ∷ ys) = name_zip x y ∷ names_zip xs ys
names_zip xs ys = map (name_with as_read) xs

names-zipped : (xs : List (NameAt At)) → names_zip (map (name_with here_of) xs) (map (name_with origin_of) xs) ≡ xs
names-zipped [] = refl
names-zipped (x ∷ xs) = λ w. x ∷ names-zipped xs w

abbrev name_option_zip : Option (NameAt Span) → Option (NameAt Span) → Option (NameAt At)
name_option_zip None None = None
name_option_zip (Some x) (Some y) = Some (name_zip x y)
name_option_zip x y = option_map (name_with as_read) x

name_option-zipped : (x : Option (NameAt At)) → name_option_zip (option_map (name_with here_of) x) (option_map (name_with origin_of) x) ≡ x
name_option-zipped None = refl
name_option-zipped (Some x) = refl

abbrev mutual
  type_zip : TypeExpr Span → TypeExpr Span → TypeExpr At
  type_zip (named s p n) (named s' p' n') = named (both s s') (name_option_zip p p') (name_zip n n')
  type_zip (pointer s t) (pointer s' t') = pointer (both s s') (type_zip t t')
  type_zip (slice_type s t) (slice_type s' t') = slice_type (both s s') (type_zip t t')
  type_zip (map_type s k t) (map_type s' k' t') = map_type (both s s') (type_zip k k') (type_zip t t')
  type_zip (struct_type s fs) (struct_type s' fs') = struct_type (both s s') (fields_zip fs fs')
  type_zip x y = type_with as_read x

  fields_zip : Fields Span → Fields Span → Fields At
  fields_zip no_fields no_fields = no_fields
  fields_zip (field s n t fs) (field s' n' t' fs') = field (both s s') (name_zip n n') (type_zip t t') (fields_zip fs fs')
  fields_zip x y = fields_with as_read x

mutual
  type-zipped : (x : TypeExpr At) → type_zip (type_with here_of x) (type_with origin_of x) ≡ x
  type-zipped (named s p n) = λ w. named s (name_option-zipped p w) n
  type-zipped (pointer s t) = λ w. pointer s (type-zipped t w)
  type-zipped (slice_type s t) = λ w. slice_type s (type-zipped t w)
  type-zipped (map_type s k t) = λ w. map_type s (type-zipped k w) (type-zipped t w)
  type-zipped (struct_type s fs) = λ w. struct_type s (fields-zipped fs w)

  fields-zipped : (x : Fields At) → fields_zip (fields_with here_of x) (fields_with origin_of x) ≡ x
  fields-zipped no_fields = refl
  fields-zipped (field s n t fs) = λ w. field s n (type-zipped t w) (fields-zipped fs w)

abbrev type_option_zip : Option (TypeExpr Span) → Option (TypeExpr Span) → Option (TypeExpr At)
type_option_zip None None = None
type_option_zip (Some x) (Some y) = Some (type_zip x y)
type_option_zip x y = option_map (type_with as_read) x

type_option-zipped : (x : Option (TypeExpr At)) → type_option_zip (option_map (type_with here_of) x) (option_map (type_with origin_of) x) ≡ x
type_option-zipped None = refl
type_option-zipped (Some x) = λ w. Some (type-zipped x w)

abbrev param_zip : Param Span → Param Span → Param At
param_zip x y = record { span = both x.span y.span; name = name_option_zip x.name y.name; rest = x.rest; of = type_zip x.of y.of }

param-zipped : (x : Param At) → param_zip (param_with here_of x) (param_with origin_of x) ≡ x
param-zipped x = λ w. record { span = x.span; name = name_option-zipped x.name w; rest = x.rest; of = type-zipped x.of w }

abbrev params_zip : List (Param Span) → List (Param Span) → List (Param At)
params_zip [] [] = []
params_zip (x ∷ xs) (y ∷ ys) = param_zip x y ∷ params_zip xs ys
params_zip xs ys = map (param_with as_read) xs

params-zipped : (xs : List (Param At)) → params_zip (map (param_with here_of) xs) (map (param_with origin_of) xs) ≡ xs
params-zipped [] = refl
params-zipped (x ∷ xs) = λ w. param-zipped x w ∷ params-zipped xs w

abbrev sig_zip : Sig Span → Sig Span → Sig At
sig_zip x y = record { params = params_zip x.params y.params; results = params_zip x.results y.results }

sig-zipped : (x : Sig At) → sig_zip (sig_with here_of x) (sig_with origin_of x) ≡ x
sig-zipped x = λ w. record { params = params-zipped x.params w; results = params-zipped x.results w }

abbrev mutual
  expr_zip : Expr Span → Expr Span → Expr At
  expr_zip (ident s n) (ident s' n') = ident (both s s') n
  expr_zip (int_lit s n) (int_lit s' n') = int_lit (both s s') n
  expr_zip (rune_lit s n) (rune_lit s' n') = rune_lit (both s s') n
  expr_zip (str_lit s n) (str_lit s' n') = str_lit (both s s') n
  expr_zip (composite s t es) (composite s' t' es') = composite (both s s') (type_zip t t') (elems_zip es es')
  expr_zip (selector s b n) (selector s' b' n') = selector (both s s') (expr_zip b b') (name_zip n n')
  expr_zip (index s b i) (index s' b' i') = index (both s s') (expr_zip b b') (expr_zip i i')
  expr_zip (slice s b i j) (slice s' b' i' j') = slice (both s s') (expr_zip b b') (expr_option_zip i i') (expr_option_zip j j')
  expr_zip (call s f xs r) (call s' f' xs' r') = call (both s s') (expr_zip f f') (exprs_zip xs xs') r
  expr_zip (func_lit s g z b) (func_lit s' g' z' b') = func_lit (both s s') (sig_zip g g') (both z z') (stmts_zip b b')
  expr_zip (type_operand s t) (type_operand s' t') = type_operand (both s s') (type_zip t t')
  expr_zip (unary s o e) (unary s' o' e') = unary (both s s') o (expr_zip e e')
  expr_zip (binary s o a b) (binary s' o' a' b') = binary (both s s') o (expr_zip a a') (expr_zip b b')
  expr_zip (star s e) (star s' e') = star (both s s') (expr_zip e e')
  expr_zip x y = expr_with as_read x

  exprs_zip : Exprs Span → Exprs Span → Exprs At
  exprs_zip no_exprs no_exprs = no_exprs
  exprs_zip (expr_and e es) (expr_and e' es') = expr_and (expr_zip e e') (exprs_zip es es')
  exprs_zip x y = exprs_with as_read x

  expr_option_zip : ExprOption Span → ExprOption Span → ExprOption At
  expr_option_zip no_expr no_expr = no_expr
  expr_option_zip (some_expr e) (some_expr e') = some_expr (expr_zip e e')
  expr_option_zip x y = expr_option_with as_read x

  elems_zip : Elems Span → Elems Span → Elems At
  elems_zip no_elems no_elems = no_elems
  elems_zip (elem s k v es) (elem s' k' v' es') = elem (both s s') (value_option_zip k k') (value_zip v v') (elems_zip es es')
  elems_zip x y = elems_with as_read x

  value_option_zip : ValueOption Span → ValueOption Span → ValueOption At
  value_option_zip no_value no_value = no_value
  value_option_zip (some_value v) (some_value v') = some_value (value_zip v v')
  value_option_zip x y = value_option_with as_read x

  value_zip : Value Span → Value Span → Value At
  value_zip (plain e) (plain e') = plain (expr_zip e e')
  value_zip (braced s es) (braced s' es') = braced (both s s') (elems_zip es es')
  value_zip x y = value_with as_read x

  stmt_zip : Stmt Span → Stmt Span → Stmt At
  stmt_zip (const_decl s g ss) (const_decl s' g' ss') = const_decl (both s s') g (specs_zip ss ss')
  stmt_zip (var_decl s g ss) (var_decl s' g' ss') = var_decl (both s s') g (specs_zip ss ss')
  stmt_zip (empty s) (empty s') = empty (both s s')
  stmt_zip (eval s e) (eval s' e') = eval (both s s') (expr_zip e e')
  stmt_zip (step s e b) (step s' e' b') = step (both s s') (expr_zip e e') b
  stmt_zip (assign s xs o ys) (assign s' xs' o' ys') = assign (both s s') (exprs_zip xs xs') o (exprs_zip ys ys')
  stmt_zip (define s ns ys) (define s' ns' ys') = define (both s s') (names_zip ns ns') (exprs_zip ys ys')
  stmt_zip (return_ s xs) (return_ s' xs') = return_ (both s s') (exprs_zip xs xs')
  stmt_zip (break_ s n) (break_ s' n') = break_ (both s s') (name_option_zip n n')
  stmt_zip (continue_ s n) (continue_ s' n') = continue_ (both s s') (name_option_zip n n')
  stmt_zip (inner s b) (inner s' b') = inner (both s s') (stmts_zip b b')
  stmt_zip (if_ s bs z) (if_ s' bs' z') = if_ (both s s') (arms_zip bs bs') (block_option_zip z z')
  stmt_zip (for_ s i t q z b) (for_ s' i' t' q' z' b') = for_ (both s s') (stmt_option_zip i i') (expr_option_zip t t') (stmt_option_zip q q') (both z z') (stmts_zip b b')
  stmt_zip (range_ s x e z b) (range_ s' x' e' z' b') = range_ (both s s') (left_zip x x') (expr_zip e e') (both z z') (stmts_zip b b')
  stmt_zip (switch s i t cs) (switch s' i' t' cs') = switch (both s s') (stmt_option_zip i i') (expr_option_zip t t') (cases_zip cs cs')
  stmt_zip (defer s e) (defer s' e') = defer (both s s') (expr_zip e e')
  stmt_zip (label s n x) (label s' n' x') = label (both s s') (name_zip n n') (stmt_zip x x')
  stmt_zip x y = stmt_with as_read x

  stmts_zip : Stmts Span → Stmts Span → Stmts At
  stmts_zip no_stmts no_stmts = no_stmts
  stmts_zip (stmt_and s ss) (stmt_and s' ss') = stmt_and (stmt_zip s s') (stmts_zip ss ss')
  stmts_zip x y = stmts_with as_read x

  stmt_option_zip : StmtOption Span → StmtOption Span → StmtOption At
  stmt_option_zip no_stmt no_stmt = no_stmt
  stmt_option_zip (some_stmt s) (some_stmt s') = some_stmt (stmt_zip s s')
  stmt_option_zip x y = stmt_option_with as_read x

  block_option_zip : BlockOption Span → BlockOption Span → BlockOption At
  block_option_zip no_block no_block = no_block
  block_option_zip (some_block s b) (some_block s' b') = some_block (both s s') (stmts_zip b b')
  block_option_zip x y = block_option_with as_read x

  left_zip : RangeLeft Span → RangeLeft Span → RangeLeft At
  left_zip nothing nothing = nothing
  left_zip (assigns es) (assigns es') = assigns (exprs_zip es es')
  left_zip (defines ns) (defines ns') = defines (names_zip ns ns')
  left_zip x y = left_with as_read x

  arms_zip : Arms Span → Arms Span → Arms At
  arms_zip no_arms no_arms = no_arms
  arms_zip (arm s i t z b r) (arm s' i' t' z' b' r') = arm (both s s') (stmt_option_zip i i') (expr_zip t t') (both z z') (stmts_zip b b') (arms_zip r r')
  arms_zip x y = arms_with as_read x

  cases_zip : Cases Span → Cases Span → Cases At
  cases_zip no_cases no_cases = no_cases
  cases_zip (case s es b cs) (case s' es' b' cs') = case (both s s') (exprs_zip es es') (stmts_zip b b') (cases_zip cs cs')
  cases_zip x y = cases_with as_read x

  specs_zip : ValueSpecs Span → ValueSpecs Span → ValueSpecs At
  specs_zip no_specs no_specs = no_specs
  specs_zip (spec s ns t es ss) (spec s' ns' t' es' ss') = spec (both s s') (names_zip ns ns') (type_option_zip t t') (exprs_zip es es') (specs_zip ss ss')
  specs_zip x y = specs_with as_read x

mutual
  expr-zipped : (x : Expr At) → expr_zip (expr_with here_of x) (expr_with origin_of x) ≡ x
  expr-zipped (ident s n) = refl
  expr-zipped (int_lit s n) = refl
  expr-zipped (rune_lit s n) = refl
  expr-zipped (str_lit s n) = refl
  expr-zipped (composite s t es) = λ w. composite s (type-zipped t w) (elems-zipped es w)
  expr-zipped (selector s b n) = λ w. selector s (expr-zipped b w) n
  expr-zipped (index s b i) = λ w. index s (expr-zipped b w) (expr-zipped i w)
  expr-zipped (slice s b i j) = λ w. slice s (expr-zipped b w) (expr_option-zipped i w) (expr_option-zipped j w)
  expr-zipped (call s f xs r) = λ w. call s (expr-zipped f w) (exprs-zipped xs w) r
  expr-zipped (func_lit s g z b) = λ w. func_lit s (sig-zipped g w) z (stmts-zipped b w)
  expr-zipped (type_operand s t) = λ w. type_operand s (type-zipped t w)
  expr-zipped (unary s o e) = λ w. unary s o (expr-zipped e w)
  expr-zipped (binary s o a b) = λ w. binary s o (expr-zipped a w) (expr-zipped b w)
  expr-zipped (star s e) = λ w. star s (expr-zipped e w)

  exprs-zipped : (x : Exprs At) → exprs_zip (exprs_with here_of x) (exprs_with origin_of x) ≡ x
  exprs-zipped no_exprs = refl
  exprs-zipped (expr_and e es) = λ w. expr_and (expr-zipped e w) (exprs-zipped es w)

  expr_option-zipped : (x : ExprOption At) → expr_option_zip (expr_option_with here_of x) (expr_option_with origin_of x) ≡ x
  expr_option-zipped no_expr = refl
  expr_option-zipped (some_expr e) = λ w. some_expr (expr-zipped e w)

  elems-zipped : (x : Elems At) → elems_zip (elems_with here_of x) (elems_with origin_of x) ≡ x
  elems-zipped no_elems = refl
  elems-zipped (elem s k v es) = λ w. elem s (value_option-zipped k w) (value-zipped v w) (elems-zipped es w)

  value_option-zipped : (x : ValueOption At) → value_option_zip (value_option_with here_of x) (value_option_with origin_of x) ≡ x
  value_option-zipped no_value = refl
  value_option-zipped (some_value v) = λ w. some_value (value-zipped v w)

  value-zipped : (x : Value At) → value_zip (value_with here_of x) (value_with origin_of x) ≡ x
  value-zipped (plain e) = λ w. plain (expr-zipped e w)
  value-zipped (braced s es) = λ w. braced s (elems-zipped es w)

  stmt-zipped : (x : Stmt At) → stmt_zip (stmt_with here_of x) (stmt_with origin_of x) ≡ x
  stmt-zipped (const_decl s g ss) = λ w. const_decl s g (specs-zipped ss w)
  stmt-zipped (var_decl s g ss) = λ w. var_decl s g (specs-zipped ss w)
  stmt-zipped (empty s) = refl
  stmt-zipped (eval s e) = λ w. eval s (expr-zipped e w)
  stmt-zipped (step s e b) = λ w. step s (expr-zipped e w) b
  stmt-zipped (assign s xs o ys) = λ w. assign s (exprs-zipped xs w) o (exprs-zipped ys w)
  stmt-zipped (define s ns ys) = λ w. define s (names-zipped ns w) (exprs-zipped ys w)
  stmt-zipped (return_ s xs) = λ w. return_ s (exprs-zipped xs w)
  stmt-zipped (break_ s n) = λ w. break_ s (name_option-zipped n w)
  stmt-zipped (continue_ s n) = λ w. continue_ s (name_option-zipped n w)
  stmt-zipped (inner s b) = λ w. inner s (stmts-zipped b w)
  stmt-zipped (if_ s bs z) = λ w. if_ s (arms-zipped bs w) (block_option-zipped z w)
  stmt-zipped (for_ s i t q z b) = λ w. for_ s (stmt_option-zipped i w) (expr_option-zipped t w) (stmt_option-zipped q w) z (stmts-zipped b w)
  stmt-zipped (range_ s x e z b) = λ w. range_ s (left-zipped x w) (expr-zipped e w) z (stmts-zipped b w)
  stmt-zipped (switch s i t cs) = λ w. switch s (stmt_option-zipped i w) (expr_option-zipped t w) (cases-zipped cs w)
  stmt-zipped (defer s e) = λ w. defer s (expr-zipped e w)
  stmt-zipped (label s n x) = λ w. label s n (stmt-zipped x w)

  stmts-zipped : (x : Stmts At) → stmts_zip (stmts_with here_of x) (stmts_with origin_of x) ≡ x
  stmts-zipped no_stmts = refl
  stmts-zipped (stmt_and s ss) = λ w. stmt_and (stmt-zipped s w) (stmts-zipped ss w)

  stmt_option-zipped : (x : StmtOption At) → stmt_option_zip (stmt_option_with here_of x) (stmt_option_with origin_of x) ≡ x
  stmt_option-zipped no_stmt = refl
  stmt_option-zipped (some_stmt s) = λ w. some_stmt (stmt-zipped s w)

  block_option-zipped : (x : BlockOption At) → block_option_zip (block_option_with here_of x) (block_option_with origin_of x) ≡ x
  block_option-zipped no_block = refl
  block_option-zipped (some_block s b) = λ w. some_block s (stmts-zipped b w)

  left-zipped : (x : RangeLeft At) → left_zip (left_with here_of x) (left_with origin_of x) ≡ x
  left-zipped nothing = refl
  left-zipped (assigns es) = λ w. assigns (exprs-zipped es w)
  left-zipped (defines ns) = λ w. defines (names-zipped ns w)

  arms-zipped : (x : Arms At) → arms_zip (arms_with here_of x) (arms_with origin_of x) ≡ x
  arms-zipped no_arms = refl
  arms-zipped (arm s i t z b r) = λ w. arm s (stmt_option-zipped i w) (expr-zipped t w) z (stmts-zipped b w) (arms-zipped r w)

  cases-zipped : (x : Cases At) → cases_zip (cases_with here_of x) (cases_with origin_of x) ≡ x
  cases-zipped no_cases = refl
  cases-zipped (case s es b cs) = λ w. case s (exprs-zipped es w) (stmts-zipped b w) (cases-zipped cs w)

  specs-zipped : (x : ValueSpecs At) → specs_zip (specs_with here_of x) (specs_with origin_of x) ≡ x
  specs-zipped no_specs = refl
  specs-zipped (spec s ns t es ss) = λ w. spec s (names-zipped ns w) (type_option-zipped t w) (exprs-zipped es w) (specs-zipped ss w)

abbrev import_spec_zip : ImportSpec Span → ImportSpec Span → ImportSpec At
import_spec_zip x y = record { span = both x.span y.span; name = name_option_zip x.name y.name; path = x.path }

import_spec-zipped : (x : ImportSpec At) → import_spec_zip (import_spec_with here_of x) (import_spec_with origin_of x) ≡ x
import_spec-zipped x = λ w. record { span = x.span; name = name_option-zipped x.name w; path = x.path }

abbrev import_specs_zip : List (ImportSpec Span) → List (ImportSpec Span) → List (ImportSpec At)
import_specs_zip [] [] = []
import_specs_zip (x ∷ xs) (y ∷ ys) = import_spec_zip x y ∷ import_specs_zip xs ys
import_specs_zip xs ys = map (import_spec_with as_read) xs

import_specs-zipped : (xs : List (ImportSpec At)) → import_specs_zip (map (import_spec_with here_of) xs) (map (import_spec_with origin_of) xs) ≡ xs
import_specs-zipped [] = refl
import_specs-zipped (x ∷ xs) = λ w. import_spec-zipped x w ∷ import_specs-zipped xs w

abbrev import_decl_zip : ImportDecl Span → ImportDecl Span → ImportDecl At
import_decl_zip x y = record { span = both x.span y.span; grouped = x.grouped; specs = import_specs_zip x.specs y.specs }

import_decl-zipped : (x : ImportDecl At) → import_decl_zip (import_decl_with here_of x) (import_decl_with origin_of x) ≡ x
import_decl-zipped x = λ w. record { span = x.span; grouped = x.grouped; specs = import_specs-zipped x.specs w }

abbrev import_decls_zip : List (ImportDecl Span) → List (ImportDecl Span) → List (ImportDecl At)
import_decls_zip [] [] = []
import_decls_zip (x ∷ xs) (y ∷ ys) = import_decl_zip x y ∷ import_decls_zip xs ys
import_decls_zip xs ys = map (import_decl_with as_read) xs

import_decls-zipped : (xs : List (ImportDecl At)) → import_decls_zip (map (import_decl_with here_of) xs) (map (import_decl_with origin_of) xs) ≡ xs
import_decls-zipped [] = refl
import_decls-zipped (x ∷ xs) = λ w. import_decl-zipped x w ∷ import_decls-zipped xs w

abbrev type_spec_zip : TypeSpec Span → TypeSpec Span → TypeSpec At
type_spec_zip x y = record { span = both x.span y.span; name = name_zip x.name y.name; alias = x.alias; of = type_zip x.of y.of }

type_spec-zipped : (x : TypeSpec At) → type_spec_zip (type_spec_with here_of x) (type_spec_with origin_of x) ≡ x
type_spec-zipped x = λ w. record { span = x.span; name = x.name; alias = x.alias; of = type-zipped x.of w }

abbrev type_specs_zip : List (TypeSpec Span) → List (TypeSpec Span) → List (TypeSpec At)
type_specs_zip [] [] = []
type_specs_zip (x ∷ xs) (y ∷ ys) = type_spec_zip x y ∷ type_specs_zip xs ys
type_specs_zip xs ys = map (type_spec_with as_read) xs

type_specs-zipped : (xs : List (TypeSpec At)) → type_specs_zip (map (type_spec_with here_of) xs) (map (type_spec_with origin_of) xs) ≡ xs
type_specs-zipped [] = refl
type_specs-zipped (x ∷ xs) = λ w. type_spec-zipped x w ∷ type_specs-zipped xs w

abbrev receiver_zip : Receiver Span → Receiver Span → Receiver At
receiver_zip x y = record { span = both x.span y.span; name = name_option_zip x.name y.name; pointer = x.pointer; of = name_zip x.of y.of }

receiver-zipped : (x : Receiver At) → receiver_zip (receiver_with here_of x) (receiver_with origin_of x) ≡ x
receiver-zipped x = λ w. record { span = x.span; name = name_option-zipped x.name w; pointer = x.pointer; of = x.of }

abbrev receiver_option_zip : Option (Receiver Span) → Option (Receiver Span) → Option (Receiver At)
receiver_option_zip None None = None
receiver_option_zip (Some x) (Some y) = Some (receiver_zip x y)
receiver_option_zip x y = option_map (receiver_with as_read) x

receiver_option-zipped : (x : Option (Receiver At)) → receiver_option_zip (option_map (receiver_with here_of) x) (option_map (receiver_with origin_of) x) ≡ x
receiver_option-zipped None = refl
receiver_option-zipped (Some x) = λ w. Some (receiver-zipped x w)

abbrev func_zip : Func Span → Func Span → Func At
func_zip x y = record { span = both x.span y.span; receiver = receiver_option_zip x.receiver y.receiver; name = name_zip x.name y.name; sig = sig_zip x.sig y.sig; body_span = both x.body_span y.body_span; body = stmts_zip x.body y.body }

func-zipped : (x : Func At) → func_zip (func_with here_of x) (func_with origin_of x) ≡ x
func-zipped x = λ w. record { span = x.span; receiver = receiver_option-zipped x.receiver w; name = x.name; sig = sig-zipped x.sig w; body_span = x.body_span; body = stmts-zipped x.body w }

abbrev decl_zip : Decl Span → Decl Span → Decl At
decl_zip (values s) (values s') = values (stmt_zip s s')
decl_zip (types s grouped ts) (types s' grouped' ts') = types (both s s') grouped (type_specs_zip ts ts')
decl_zip (func g) (func g') = func (func_zip g g')
decl_zip x y = decl_with as_read x

decl-zipped : (x : Decl At) → decl_zip (decl_with here_of x) (decl_with origin_of x) ≡ x
decl-zipped (values s) = λ w. values (stmt-zipped s w)
decl-zipped (types s grouped ts) = λ w. types s grouped (type_specs-zipped ts w)
decl-zipped (func g) = λ w. func (func-zipped g w)

abbrev decls_zip : List (Decl Span) → List (Decl Span) → List (Decl At)
decls_zip [] [] = []
decls_zip (x ∷ xs) (y ∷ ys) = decl_zip x y ∷ decls_zip xs ys
decls_zip xs ys = map (decl_with as_read) xs

decls-zipped : (xs : List (Decl At)) → decls_zip (map (decl_with here_of) xs) (map (decl_with origin_of) xs) ≡ xs
decls-zipped [] = refl
decls-zipped (x ∷ xs) = λ w. decl-zipped x w ∷ decls-zipped xs w

abbrev file_zip : File Span → File Span → File At
file_zip x y = record { package_name = name_zip x.package_name y.package_name; imports = import_decls_zip x.imports y.imports; decls = decls_zip x.decls y.decls }

file-zipped : (x : File At) → file_zip (file_with here_of x) (file_with origin_of x) ≡ x
file-zipped x = λ w. record { package_name = x.package_name; imports = import_decls-zipped x.imports w; decls = decls-zipped x.decls w }

-- two trees with the same places and the same origins are one
pub file_one : (x y : File At) → file_with here_of x ≡ file_with here_of y → file_with origin_of x ≡ file_with origin_of y → x ≡ y
file_one x y h o =
    sym (file-zipped x) ∙ (ap (λ (t : File Span). file_zip t (file_with origin_of x)) h
    ∙ (ap (λ (t : File Span). file_zip (file_with here_of y) t) o ∙ file-zipped y))
