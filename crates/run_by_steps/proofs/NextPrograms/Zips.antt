-- A tree with the places of one tree and the origins of another, where the two are equal but for spans.
use Rattle.std.proofs.Common.{◌≡◌, ◌∙◌, refl, sym, ap, subst, List, [], ◌∷◌, map, Option, Some, None}
use Rattle.std.specs.Option.{option_map}
use Rattle.go_tree.specs.declared.spans.Span.{Span}
use Rattle.go_tree.specs.Tree.{NameAt, TypeExpr, Fields, named, pointer, slice_type, map_type, struct_type, no_fields, field, Param, Sig, Expr, Exprs, ExprOption, Elems, Value, ValueOption, Stmt, Stmts, StmtOption, BlockOption, RangeLeft, Arms, Cases, ValueSpecs, ident, int_lit, rune_lit, str_lit, composite, selector, index, slice, call, func_lit, type_operand, unary, binary, star, no_exprs, expr_and, no_expr, some_expr, no_elems, elem, plain, braced, no_value, some_value, const_decl, var_decl, empty, eval, step, assign, define, return_, break_, continue_, inner, if_, for_, range_, switch, defer, label, no_stmts, stmt_and, no_stmt, some_stmt, no_block, some_block, nothing, assigns, defines, no_arms, arm, no_cases, case, no_specs, spec}
use Rattle.go_tree.specs.File.{TypeSpec, Receiver, Func, Decl, values, types, func}
use Rattle.go_tree.specs.Bare.{bare_name, bare_type, bare_fields, bare_param, bare_sig, bare_expr, bare_exprs, bare_expr_option, bare_elems, bare_value, bare_value_option, bare_stmt, bare_stmts, bare_stmt_option, bare_block_option, bare_range_left, bare_arms, bare_cases, bare_value_specs}
use Rattle.go_tree.specs.FileBare.{bare_type_spec, bare_receiver, bare_func, bare_decl}
use Rattle.run_rules.specs.Respanned.{name_with, type_with, fields_with, param_with, sig_with, expr_with, exprs_with, expr_option_with, elems_with, value_option_with, value_with, stmt_with, stmts_with, stmt_option_with, block_option_with, left_with, arms_with, cases_with, specs_with, type_spec_with, receiver_with, func_with, decl_with}
use Rattle.run_rules.specs.Steps.{At}
use Rattle.run_rules.specs.Run.{here_of, origin_of}
use Rattle.run_by_steps.proofs.NextPrograms.Shapes.{NamesSpans, names_spanned, NameOptionSpans, name_option_spanned, TypeSpans, type_spanned, FieldsSpans, fields_spanned, TypeOptionSpans, type_option_spanned, ParamSpans, param_spanned, ParamsSpans, params_spanned, SigSpans, sig_spanned, ExprSpans, expr_spanned, ExprsSpans, exprs_spanned, ExprOptionSpans, expr_option_spanned, ElemsSpans, elems_spanned, ValueOptionSpans, value_option_spanned, ValueSpans, value_spanned, StmtSpans, stmt_spanned, StmtsSpans, stmts_spanned, StmtOptionSpans, stmt_option_spanned, BlockOptionSpans, block_option_spanned, LeftSpans, left_spanned, ArmsSpans, arms_spanned, CasesSpans, cases_spanned, SpecsSpans, specs_spanned, TypeSpecSpans, type_spec_spanned, TypeSpecsSpans, type_specs_spanned, ReceiverSpans, receiver_spanned, ReceiverOptionSpans, receiver_option_spanned, FuncSpans, func_spanned, DeclSpans, decl_spanned, DeclsSpans, decls_spanned, decls_known}

-- a node with its place and the origin of another
abbrev both : Span → At → At
both s a = record { here = s; origin = a.origin }

-- ---- the places of one tree with the origins of another of its shape

names_zipped : (x : List (NameAt Span)) (m : NamesSpans At (map bare_name x)) → (z : List (NameAt At)) × (map (name_with here_of) z ≡ x) × (map (name_with origin_of) z ≡ map (name_with origin_of) (names_spanned At (map bare_name x) m))
names_zipped [] m = ([], refl, refl)
names_zipped (a ∷ b) m = let p0 = names_zipped b m.1 in ((record { span = both a.span m.0; name = a.name }) ∷ p0.0, λ w. a ∷ (p0.1 w), λ w. (record { span = m.0.origin; name = a.name }) ∷ (p0.2 w))

name_option_zipped : (x : Option (NameAt Span)) (m : NameOptionSpans At (option_map bare_name x)) → (z : Option (NameAt At)) × (option_map (name_with here_of) z ≡ x) × (option_map (name_with origin_of) z ≡ option_map (name_with origin_of) (name_option_spanned At (option_map bare_name x) m))
name_option_zipped None m = (None, refl, refl)
name_option_zipped (Some a) m = (Some (record { span = both a.span m; name = a.name }), refl, refl)

mutual
  type_zipped : (x : TypeExpr Span) (m : TypeSpans At (bare_type x)) → (z : TypeExpr At) × (type_with here_of z ≡ x) × (type_with origin_of z ≡ type_with origin_of (type_spanned At (bare_type x) m))
  type_zipped (named a b c) m = let p0 = name_option_zipped b m.1 in (named (both a m.0) p0.0 (record { span = both c.span m.2; name = c.name }), λ w. named a (p0.1 w) c, λ w. named m.0.origin (p0.2 w) (record { span = m.2.origin; name = c.name }))
  type_zipped (pointer a b) m = let p0 = type_zipped b m.1 in (pointer (both a m.0) p0.0, λ w. pointer a (p0.1 w), λ w. pointer m.0.origin (p0.2 w))
  type_zipped (slice_type a b) m = let p0 = type_zipped b m.1 in (slice_type (both a m.0) p0.0, λ w. slice_type a (p0.1 w), λ w. slice_type m.0.origin (p0.2 w))
  type_zipped (map_type a b c) m = let p0 = type_zipped b m.1 in let p1 = type_zipped c m.2 in (map_type (both a m.0) p0.0 p1.0, λ w. map_type a (p0.1 w) (p1.1 w), λ w. map_type m.0.origin (p0.2 w) (p1.2 w))
  type_zipped (struct_type a b) m = let p0 = fields_zipped b m.1 in (struct_type (both a m.0) p0.0, λ w. struct_type a (p0.1 w), λ w. struct_type m.0.origin (p0.2 w))

  fields_zipped : (x : Fields Span) (m : FieldsSpans At (bare_fields x)) → (z : Fields At) × (fields_with here_of z ≡ x) × (fields_with origin_of z ≡ fields_with origin_of (fields_spanned At (bare_fields x) m))
  fields_zipped no_fields m = (no_fields, refl, refl)
  fields_zipped (field a b c d) m = let p0 = type_zipped c m.2 in let p1 = fields_zipped d m.3 in (field (both a m.0) (record { span = both b.span m.1; name = b.name }) p0.0 p1.0, λ w. field a b (p0.1 w) (p1.1 w), λ w. field m.0.origin (record { span = m.1.origin; name = b.name }) (p0.2 w) (p1.2 w))

type_option_zipped : (x : Option (TypeExpr Span)) (m : TypeOptionSpans At (option_map bare_type x)) → (z : Option (TypeExpr At)) × (option_map (type_with here_of) z ≡ x) × (option_map (type_with origin_of) z ≡ option_map (type_with origin_of) (type_option_spanned At (option_map bare_type x) m))
type_option_zipped None m = (None, refl, refl)
type_option_zipped (Some a) m = let p0 = type_zipped a m in (Some p0.0, λ w. Some (p0.1 w), λ w. Some (p0.2 w))

param_zipped : (x : Param Span) (m : ParamSpans At (bare_param x)) → (z : Param At) × (param_with here_of z ≡ x) × (param_with origin_of z ≡ param_with origin_of (param_spanned At (bare_param x) m))
param_zipped x m = let p0 = name_option_zipped x.name m.1 in let p1 = type_zipped x.of m.2 in (record { span = both x.span m.0; name = p0.0; rest = x.rest; of = p1.0 }, λ w. record { span = x.span; name = p0.1 w; rest = x.rest; of = p1.1 w }, λ w. record { span = m.0.origin; name = p0.2 w; rest = x.rest; of = p1.2 w })

params_zipped : (x : List (Param Span)) (m : ParamsSpans At (map bare_param x)) → (z : List (Param At)) × (map (param_with here_of) z ≡ x) × (map (param_with origin_of) z ≡ map (param_with origin_of) (params_spanned At (map bare_param x) m))
params_zipped [] m = ([], refl, refl)
params_zipped (a ∷ b) m = let p0 = param_zipped a m.0 in let p1 = params_zipped b m.1 in (p0.0 ∷ p1.0, λ w. (p0.1 w) ∷ (p1.1 w), λ w. (p0.2 w) ∷ (p1.2 w))

sig_zipped : (x : Sig Span) (m : SigSpans At (bare_sig x)) → (z : Sig At) × (sig_with here_of z ≡ x) × (sig_with origin_of z ≡ sig_with origin_of (sig_spanned At (bare_sig x) m))
sig_zipped x m = let p0 = params_zipped x.params m.0 in let p1 = params_zipped x.results m.1 in (record { params = p0.0; results = p1.0 }, λ w. record { params = p0.1 w; results = p1.1 w }, λ w. record { params = p0.2 w; results = p1.2 w })

mutual
  expr_zipped : (x : Expr Span) (m : ExprSpans At (bare_expr x)) → (z : Expr At) × (expr_with here_of z ≡ x) × (expr_with origin_of z ≡ expr_with origin_of (expr_spanned At (bare_expr x) m))
  expr_zipped (ident a b) m = (ident (both a m) b, refl, refl)
  expr_zipped (int_lit a b) m = (int_lit (both a m) b, refl, refl)
  expr_zipped (rune_lit a b) m = (rune_lit (both a m) b, refl, refl)
  expr_zipped (str_lit a b) m = (str_lit (both a m) b, refl, refl)
  expr_zipped (composite a b c) m = let p0 = type_zipped b m.1 in let p1 = elems_zipped c m.2 in (composite (both a m.0) p0.0 p1.0, λ w. composite a (p0.1 w) (p1.1 w), λ w. composite m.0.origin (p0.2 w) (p1.2 w))
  expr_zipped (selector a b c) m = let p0 = expr_zipped b m.1 in (selector (both a m.0) p0.0 (record { span = both c.span m.2; name = c.name }), λ w. selector a (p0.1 w) c, λ w. selector m.0.origin (p0.2 w) (record { span = m.2.origin; name = c.name }))
  expr_zipped (index a b c) m = let p0 = expr_zipped b m.1 in let p1 = expr_zipped c m.2 in (index (both a m.0) p0.0 p1.0, λ w. index a (p0.1 w) (p1.1 w), λ w. index m.0.origin (p0.2 w) (p1.2 w))
  expr_zipped (slice a b c d) m = let p0 = expr_zipped b m.1 in let p1 = expr_option_zipped c m.2 in let p2 = expr_option_zipped d m.3 in (slice (both a m.0) p0.0 p1.0 p2.0, λ w. slice a (p0.1 w) (p1.1 w) (p2.1 w), λ w. slice m.0.origin (p0.2 w) (p1.2 w) (p2.2 w))
  expr_zipped (call a b c d) m = let p0 = expr_zipped b m.1 in let p1 = exprs_zipped c m.2 in (call (both a m.0) p0.0 p1.0 d, λ w. call a (p0.1 w) (p1.1 w) d, λ w. call m.0.origin (p0.2 w) (p1.2 w) d)
  expr_zipped (func_lit a b c d) m = let p0 = sig_zipped b m.1 in let p1 = stmts_zipped d m.3 in (func_lit (both a m.0) p0.0 (both c m.2) p1.0, λ w. func_lit a (p0.1 w) c (p1.1 w), λ w. func_lit m.0.origin (p0.2 w) m.2.origin (p1.2 w))
  expr_zipped (type_operand a b) m = let p0 = type_zipped b m.1 in (type_operand (both a m.0) p0.0, λ w. type_operand a (p0.1 w), λ w. type_operand m.0.origin (p0.2 w))
  expr_zipped (unary a b c) m = let p0 = expr_zipped c m.1 in (unary (both a m.0) b p0.0, λ w. unary a b (p0.1 w), λ w. unary m.0.origin b (p0.2 w))
  expr_zipped (binary a b c d) m = let p0 = expr_zipped c m.1 in let p1 = expr_zipped d m.2 in (binary (both a m.0) b p0.0 p1.0, λ w. binary a b (p0.1 w) (p1.1 w), λ w. binary m.0.origin b (p0.2 w) (p1.2 w))
  expr_zipped (star a b) m = let p0 = expr_zipped b m.1 in (star (both a m.0) p0.0, λ w. star a (p0.1 w), λ w. star m.0.origin (p0.2 w))

  exprs_zipped : (x : Exprs Span) (m : ExprsSpans At (bare_exprs x)) → (z : Exprs At) × (exprs_with here_of z ≡ x) × (exprs_with origin_of z ≡ exprs_with origin_of (exprs_spanned At (bare_exprs x) m))
  exprs_zipped no_exprs m = (no_exprs, refl, refl)
  exprs_zipped (expr_and a b) m = let p0 = expr_zipped a m.0 in let p1 = exprs_zipped b m.1 in (expr_and p0.0 p1.0, λ w. expr_and (p0.1 w) (p1.1 w), λ w. expr_and (p0.2 w) (p1.2 w))

  expr_option_zipped : (x : ExprOption Span) (m : ExprOptionSpans At (bare_expr_option x)) → (z : ExprOption At) × (expr_option_with here_of z ≡ x) × (expr_option_with origin_of z ≡ expr_option_with origin_of (expr_option_spanned At (bare_expr_option x) m))
  expr_option_zipped no_expr m = (no_expr, refl, refl)
  expr_option_zipped (some_expr a) m = let p0 = expr_zipped a m in (some_expr p0.0, λ w. some_expr (p0.1 w), λ w. some_expr (p0.2 w))

  elems_zipped : (x : Elems Span) (m : ElemsSpans At (bare_elems x)) → (z : Elems At) × (elems_with here_of z ≡ x) × (elems_with origin_of z ≡ elems_with origin_of (elems_spanned At (bare_elems x) m))
  elems_zipped no_elems m = (no_elems, refl, refl)
  elems_zipped (elem a b c d) m = let p0 = value_option_zipped b m.1 in let p1 = value_zipped c m.2 in let p2 = elems_zipped d m.3 in (elem (both a m.0) p0.0 p1.0 p2.0, λ w. elem a (p0.1 w) (p1.1 w) (p2.1 w), λ w. elem m.0.origin (p0.2 w) (p1.2 w) (p2.2 w))

  value_option_zipped : (x : ValueOption Span) (m : ValueOptionSpans At (bare_value_option x)) → (z : ValueOption At) × (value_option_with here_of z ≡ x) × (value_option_with origin_of z ≡ value_option_with origin_of (value_option_spanned At (bare_value_option x) m))
  value_option_zipped no_value m = (no_value, refl, refl)
  value_option_zipped (some_value a) m = let p0 = value_zipped a m in (some_value p0.0, λ w. some_value (p0.1 w), λ w. some_value (p0.2 w))

  value_zipped : (x : Value Span) (m : ValueSpans At (bare_value x)) → (z : Value At) × (value_with here_of z ≡ x) × (value_with origin_of z ≡ value_with origin_of (value_spanned At (bare_value x) m))
  value_zipped (plain a) m = let p0 = expr_zipped a m in (plain p0.0, λ w. plain (p0.1 w), λ w. plain (p0.2 w))
  value_zipped (braced a b) m = let p0 = elems_zipped b m.1 in (braced (both a m.0) p0.0, λ w. braced a (p0.1 w), λ w. braced m.0.origin (p0.2 w))

  stmt_zipped : (x : Stmt Span) (m : StmtSpans At (bare_stmt x)) → (z : Stmt At) × (stmt_with here_of z ≡ x) × (stmt_with origin_of z ≡ stmt_with origin_of (stmt_spanned At (bare_stmt x) m))
  stmt_zipped (const_decl a b c) m = let p0 = specs_zipped c m.1 in (const_decl (both a m.0) b p0.0, λ w. const_decl a b (p0.1 w), λ w. const_decl m.0.origin b (p0.2 w))
  stmt_zipped (var_decl a b c) m = let p0 = specs_zipped c m.1 in (var_decl (both a m.0) b p0.0, λ w. var_decl a b (p0.1 w), λ w. var_decl m.0.origin b (p0.2 w))
  stmt_zipped (empty a) m = (empty (both a m), refl, refl)
  stmt_zipped (eval a b) m = let p0 = expr_zipped b m.1 in (eval (both a m.0) p0.0, λ w. eval a (p0.1 w), λ w. eval m.0.origin (p0.2 w))
  stmt_zipped (step a b c) m = let p0 = expr_zipped b m.1 in (step (both a m.0) p0.0 c, λ w. step a (p0.1 w) c, λ w. step m.0.origin (p0.2 w) c)
  stmt_zipped (assign a b c d) m = let p0 = exprs_zipped b m.1 in let p1 = exprs_zipped d m.2 in (assign (both a m.0) p0.0 c p1.0, λ w. assign a (p0.1 w) c (p1.1 w), λ w. assign m.0.origin (p0.2 w) c (p1.2 w))
  stmt_zipped (define a b c) m = let p0 = names_zipped b m.1 in let p1 = exprs_zipped c m.2 in (define (both a m.0) p0.0 p1.0, λ w. define a (p0.1 w) (p1.1 w), λ w. define m.0.origin (p0.2 w) (p1.2 w))
  stmt_zipped (return_ a b) m = let p0 = exprs_zipped b m.1 in (return_ (both a m.0) p0.0, λ w. return_ a (p0.1 w), λ w. return_ m.0.origin (p0.2 w))
  stmt_zipped (break_ a b) m = let p0 = name_option_zipped b m.1 in (break_ (both a m.0) p0.0, λ w. break_ a (p0.1 w), λ w. break_ m.0.origin (p0.2 w))
  stmt_zipped (continue_ a b) m = let p0 = name_option_zipped b m.1 in (continue_ (both a m.0) p0.0, λ w. continue_ a (p0.1 w), λ w. continue_ m.0.origin (p0.2 w))
  stmt_zipped (inner a b) m = let p0 = stmts_zipped b m.1 in (inner (both a m.0) p0.0, λ w. inner a (p0.1 w), λ w. inner m.0.origin (p0.2 w))
  stmt_zipped (if_ a b c) m = let p0 = arms_zipped b m.1 in let p1 = block_option_zipped c m.2 in (if_ (both a m.0) p0.0 p1.0, λ w. if_ a (p0.1 w) (p1.1 w), λ w. if_ m.0.origin (p0.2 w) (p1.2 w))
  stmt_zipped (for_ a b c d e f) m = let p0 = stmt_option_zipped b m.1 in let p1 = expr_option_zipped c m.2 in let p2 = stmt_option_zipped d m.3 in let p3 = stmts_zipped f m.5 in (for_ (both a m.0) p0.0 p1.0 p2.0 (both e m.4) p3.0, λ w. for_ a (p0.1 w) (p1.1 w) (p2.1 w) e (p3.1 w), λ w. for_ m.0.origin (p0.2 w) (p1.2 w) (p2.2 w) m.4.origin (p3.2 w))
  stmt_zipped (range_ a b c d e) m = let p0 = left_zipped b m.1 in let p1 = expr_zipped c m.2 in let p2 = stmts_zipped e m.4 in (range_ (both a m.0) p0.0 p1.0 (both d m.3) p2.0, λ w. range_ a (p0.1 w) (p1.1 w) d (p2.1 w), λ w. range_ m.0.origin (p0.2 w) (p1.2 w) m.3.origin (p2.2 w))
  stmt_zipped (switch a b c d) m = let p0 = stmt_option_zipped b m.1 in let p1 = expr_option_zipped c m.2 in let p2 = cases_zipped d m.3 in (switch (both a m.0) p0.0 p1.0 p2.0, λ w. switch a (p0.1 w) (p1.1 w) (p2.1 w), λ w. switch m.0.origin (p0.2 w) (p1.2 w) (p2.2 w))
  stmt_zipped (defer a b) m = let p0 = expr_zipped b m.1 in (defer (both a m.0) p0.0, λ w. defer a (p0.1 w), λ w. defer m.0.origin (p0.2 w))
  stmt_zipped (label a b c) m = let p0 = stmt_zipped c m.2 in (label (both a m.0) (record { span = both b.span m.1; name = b.name }) p0.0, λ w. label a b (p0.1 w), λ w. label m.0.origin (record { span = m.1.origin; name = b.name }) (p0.2 w))

  stmts_zipped : (x : Stmts Span) (m : StmtsSpans At (bare_stmts x)) → (z : Stmts At) × (stmts_with here_of z ≡ x) × (stmts_with origin_of z ≡ stmts_with origin_of (stmts_spanned At (bare_stmts x) m))
  stmts_zipped no_stmts m = (no_stmts, refl, refl)
  stmts_zipped (stmt_and a b) m = let p0 = stmt_zipped a m.0 in let p1 = stmts_zipped b m.1 in (stmt_and p0.0 p1.0, λ w. stmt_and (p0.1 w) (p1.1 w), λ w. stmt_and (p0.2 w) (p1.2 w))

  stmt_option_zipped : (x : StmtOption Span) (m : StmtOptionSpans At (bare_stmt_option x)) → (z : StmtOption At) × (stmt_option_with here_of z ≡ x) × (stmt_option_with origin_of z ≡ stmt_option_with origin_of (stmt_option_spanned At (bare_stmt_option x) m))
  stmt_option_zipped no_stmt m = (no_stmt, refl, refl)
  stmt_option_zipped (some_stmt a) m = let p0 = stmt_zipped a m in (some_stmt p0.0, λ w. some_stmt (p0.1 w), λ w. some_stmt (p0.2 w))

  block_option_zipped : (x : BlockOption Span) (m : BlockOptionSpans At (bare_block_option x)) → (z : BlockOption At) × (block_option_with here_of z ≡ x) × (block_option_with origin_of z ≡ block_option_with origin_of (block_option_spanned At (bare_block_option x) m))
  block_option_zipped no_block m = (no_block, refl, refl)
  block_option_zipped (some_block a b) m = let p0 = stmts_zipped b m.1 in (some_block (both a m.0) p0.0, λ w. some_block a (p0.1 w), λ w. some_block m.0.origin (p0.2 w))

  left_zipped : (x : RangeLeft Span) (m : LeftSpans At (bare_range_left x)) → (z : RangeLeft At) × (left_with here_of z ≡ x) × (left_with origin_of z ≡ left_with origin_of (left_spanned At (bare_range_left x) m))
  left_zipped nothing m = (nothing, refl, refl)
  left_zipped (assigns a) m = let p0 = exprs_zipped a m in (assigns p0.0, λ w. assigns (p0.1 w), λ w. assigns (p0.2 w))
  left_zipped (defines a) m = let p0 = names_zipped a m in (defines p0.0, λ w. defines (p0.1 w), λ w. defines (p0.2 w))

  arms_zipped : (x : Arms Span) (m : ArmsSpans At (bare_arms x)) → (z : Arms At) × (arms_with here_of z ≡ x) × (arms_with origin_of z ≡ arms_with origin_of (arms_spanned At (bare_arms x) m))
  arms_zipped no_arms m = (no_arms, refl, refl)
  arms_zipped (arm a b c d e f) m = let p0 = stmt_option_zipped b m.1 in let p1 = expr_zipped c m.2 in let p2 = stmts_zipped e m.4 in let p3 = arms_zipped f m.5 in (arm (both a m.0) p0.0 p1.0 (both d m.3) p2.0 p3.0, λ w. arm a (p0.1 w) (p1.1 w) d (p2.1 w) (p3.1 w), λ w. arm m.0.origin (p0.2 w) (p1.2 w) m.3.origin (p2.2 w) (p3.2 w))

  cases_zipped : (x : Cases Span) (m : CasesSpans At (bare_cases x)) → (z : Cases At) × (cases_with here_of z ≡ x) × (cases_with origin_of z ≡ cases_with origin_of (cases_spanned At (bare_cases x) m))
  cases_zipped no_cases m = (no_cases, refl, refl)
  cases_zipped (case a b c d) m = let p0 = exprs_zipped b m.1 in let p1 = stmts_zipped c m.2 in let p2 = cases_zipped d m.3 in (case (both a m.0) p0.0 p1.0 p2.0, λ w. case a (p0.1 w) (p1.1 w) (p2.1 w), λ w. case m.0.origin (p0.2 w) (p1.2 w) (p2.2 w))

  specs_zipped : (x : ValueSpecs Span) (m : SpecsSpans At (bare_value_specs x)) → (z : ValueSpecs At) × (specs_with here_of z ≡ x) × (specs_with origin_of z ≡ specs_with origin_of (specs_spanned At (bare_value_specs x) m))
  specs_zipped no_specs m = (no_specs, refl, refl)
  specs_zipped (spec a b c d e) m = let p0 = names_zipped b m.1 in let p1 = type_option_zipped c m.2 in let p2 = exprs_zipped d m.3 in let p3 = specs_zipped e m.4 in (spec (both a m.0) p0.0 p1.0 p2.0 p3.0, λ w. spec a (p0.1 w) (p1.1 w) (p2.1 w) (p3.1 w), λ w. spec m.0.origin (p0.2 w) (p1.2 w) (p2.2 w) (p3.2 w))

type_spec_zipped : (x : TypeSpec Span) (m : TypeSpecSpans At (bare_type_spec x)) → (z : TypeSpec At) × (type_spec_with here_of z ≡ x) × (type_spec_with origin_of z ≡ type_spec_with origin_of (type_spec_spanned At (bare_type_spec x) m))
type_spec_zipped x m = let p0 = type_zipped x.of m.2 in (record { span = both x.span m.0; name = record { span = both x.name.span m.1; name = x.name.name }; alias = x.alias; of = p0.0 }, λ w. record { span = x.span; name = x.name; alias = x.alias; of = p0.1 w }, λ w. record { span = m.0.origin; name = record { span = m.1.origin; name = x.name.name }; alias = x.alias; of = p0.2 w })

type_specs_zipped : (x : List (TypeSpec Span)) (m : TypeSpecsSpans At (map bare_type_spec x)) → (z : List (TypeSpec At)) × (map (type_spec_with here_of) z ≡ x) × (map (type_spec_with origin_of) z ≡ map (type_spec_with origin_of) (type_specs_spanned At (map bare_type_spec x) m))
type_specs_zipped [] m = ([], refl, refl)
type_specs_zipped (a ∷ b) m = let p0 = type_spec_zipped a m.0 in let p1 = type_specs_zipped b m.1 in (p0.0 ∷ p1.0, λ w. (p0.1 w) ∷ (p1.1 w), λ w. (p0.2 w) ∷ (p1.2 w))

receiver_zipped : (x : Receiver Span) (m : ReceiverSpans At (bare_receiver x)) → (z : Receiver At) × (receiver_with here_of z ≡ x) × (receiver_with origin_of z ≡ receiver_with origin_of (receiver_spanned At (bare_receiver x) m))
receiver_zipped x m = let p0 = name_option_zipped x.name m.1 in (record { span = both x.span m.0; name = p0.0; pointer = x.pointer; of = record { span = both x.of.span m.2; name = x.of.name } }, λ w. record { span = x.span; name = p0.1 w; pointer = x.pointer; of = x.of }, λ w. record { span = m.0.origin; name = p0.2 w; pointer = x.pointer; of = record { span = m.2.origin; name = x.of.name } })

receiver_option_zipped : (x : Option (Receiver Span)) (m : ReceiverOptionSpans At (option_map bare_receiver x)) → (z : Option (Receiver At)) × (option_map (receiver_with here_of) z ≡ x) × (option_map (receiver_with origin_of) z ≡ option_map (receiver_with origin_of) (receiver_option_spanned At (option_map bare_receiver x) m))
receiver_option_zipped None m = (None, refl, refl)
receiver_option_zipped (Some a) m = let p0 = receiver_zipped a m in (Some p0.0, λ w. Some (p0.1 w), λ w. Some (p0.2 w))

func_zipped : (x : Func Span) (m : FuncSpans At (bare_func x)) → (z : Func At) × (func_with here_of z ≡ x) × (func_with origin_of z ≡ func_with origin_of (func_spanned At (bare_func x) m))
func_zipped x m = let p0 = receiver_option_zipped x.receiver m.1 in let p1 = sig_zipped x.sig m.3 in let p2 = stmts_zipped x.body m.5 in (record { span = both x.span m.0; receiver = p0.0; name = record { span = both x.name.span m.2; name = x.name.name }; sig = p1.0; body_span = both x.body_span m.4; body = p2.0 }, λ w. record { span = x.span; receiver = p0.1 w; name = x.name; sig = p1.1 w; body_span = x.body_span; body = p2.1 w }, λ w. record { span = m.0.origin; receiver = p0.2 w; name = record { span = m.2.origin; name = x.name.name }; sig = p1.2 w; body_span = m.4.origin; body = p2.2 w })

decl_zipped : (x : Decl Span) (m : DeclSpans At (bare_decl x)) → (z : Decl At) × (decl_with here_of z ≡ x) × (decl_with origin_of z ≡ decl_with origin_of (decl_spanned At (bare_decl x) m))
decl_zipped (values a) m = let p0 = stmt_zipped a m in (values p0.0, λ w. values (p0.1 w), λ w. values (p0.2 w))
decl_zipped (types a b c) m = let p0 = type_specs_zipped c m.1 in (types (both a m.0) b p0.0, λ w. types a b (p0.1 w), λ w. types m.0.origin b (p0.2 w))
decl_zipped (func a) m = let p0 = func_zipped a m in (func p0.0, λ w. func (p0.1 w), λ w. func (p0.2 w))

decls_zipped : (x : List (Decl Span)) (m : DeclsSpans At (map bare_decl x)) → (z : List (Decl At)) × (map (decl_with here_of) z ≡ x) × (map (decl_with origin_of) z ≡ map (decl_with origin_of) (decls_spanned At (map bare_decl x) m))
decls_zipped [] m = ([], refl, refl)
decls_zipped (a ∷ b) m = let p0 = decl_zipped a m.0 in let p1 = decls_zipped b m.1 in (p0.0 ∷ p1.0, λ w. (p0.1 w) ∷ (p1.1 w), λ w. (p0.2 w) ∷ (p1.2 w))

-- Declarations that are equal but for spans have one with the places of the first and the origins of the second.
pub zipped : (xs : List (Decl Span)) (ys : List (Decl At)) → map bare_decl xs ≡ map bare_decl ys → (zs : List (Decl At)) × (map (decl_with here_of) zs ≡ xs) × (map (decl_with origin_of) zs ≡ map (decl_with origin_of) ys)
zipped xs ys e =
    let f = subst (λ (b : List (Decl (Unit {0}))). (m : DeclsSpans At b) × (decls_spanned At b m ≡ ys)) (sym e) (decls_known At ys) in
    let z = decls_zipped xs f.0 in (z.0, z.1, z.2 ∙ ap (λ (ds : List (Decl At)). map (decl_with origin_of) ds) f.1)
