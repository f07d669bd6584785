-- Trees without their spans are those of the trees with other spans.
use Rattle.std.proofs.Common.{◌≡◌, refl, List, [], ◌∷◌, map, Option, Some, None}
use Rattle.std.specs.Option.{option_map}
use Rattle.go_tree.specs.Tree.{NameAt, TypeExpr, Fields, named, pointer, slice_type, map_type, struct_type, no_fields, field, Param, Sig, Expr, Exprs, ExprOption, Elems, Value, ValueOption, Stmt, Stmts, StmtOption, BlockOption, RangeLeft, Arms, Cases, ValueSpecs, ident, int_lit, rune_lit, str_lit, composite, selector, index, slice, call, func_lit, type_operand, unary, binary, star, no_exprs, expr_and, no_expr, some_expr, no_elems, elem, plain, braced, no_value, some_value, const_decl, var_decl, empty, eval, step, assign, define, return_, break_, continue_, inner, if_, for_, range_, switch, defer, label, no_stmts, stmt_and, no_stmt, some_stmt, no_block, some_block, nothing, assigns, defines, no_arms, arm, no_cases, case, no_specs, spec}
use Rattle.go_tree.specs.File.{TypeSpec, Receiver, Decl, values, types, func}
use Rattle.go_tree.specs.Bare.{bare_name, bare_param, bare_sig, bare_type, bare_fields, bare_expr, bare_exprs, bare_expr_option, bare_elems, bare_value, bare_value_option, bare_stmt, bare_stmts, bare_stmt_option, bare_block_option, bare_range_left, bare_arms, bare_cases, bare_value_specs}
use Rattle.go_tree.specs.FileBare.{bare_type_spec, bare_receiver, bare_decl}
use Rattle.run_rules.specs.Respanned.{name_with, param_with, sig_with, type_spec_with, receiver_with, decl_with, type_with, fields_with, expr_with, exprs_with, expr_option_with, elems_with, value_with, value_option_with, stmt_with, stmts_with, stmt_option_with, block_option_with, left_with, arms_with, cases_with, specs_with}

module _ {S T : Type 0} (to : S → T) where
  names-with : (ns : List (NameAt S)) → map bare_name (map (name_with to) ns) ≡ map bare_name ns
  names-with [] = refl
  names-with (n ∷ ns) = λ v. bare_name n ∷ names-with ns v

  name_option-with : (n : Option (NameAt S)) → option_map bare_name (option_map (name_with to) n) ≡ option_map bare_name n
  name_option-with None = refl
  name_option-with (Some n) = refl

  mutual
    type-with : (x : TypeExpr S) → bare_type (type_with to x) ≡ bare_type x
    type-with (named s1 p n) = λ v. named tt (name_option-with p v) (bare_name n)
    type-with (pointer s1 t) = λ v. pointer tt (type-with t v)
    type-with (slice_type s1 t) = λ v. slice_type tt (type-with t v)
    type-with (map_type s1 k t) = λ v. map_type tt (type-with k v) (type-with t v)
    type-with (struct_type s1 fs) = λ v. struct_type tt (fields-with fs v)

    fields-with : (x : Fields S) → bare_fields (fields_with to x) ≡ bare_fields x
    fields-with no_fields = refl
    fields-with (field s1 n t fs) = λ v. field tt (bare_name n) (type-with t v) (fields-with fs v)

  type_option-with : (t : Option (TypeExpr S)) → option_map bare_type (option_map (type_with to) t) ≡ option_map bare_type t
  type_option-with None = refl
  type_option-with (Some t) = λ v. Some (type-with t v)

  params-with : (xs : List (Param S)) → map bare_param (map (param_with to) xs) ≡ map bare_param xs
  params-with [] = refl
  params-with (x ∷ xs) = λ v. record { span = tt; name = name_option-with x.name v; rest = x.rest; of = type-with x.of v } ∷ params-with xs v

  sig-with : (g : Sig S) → bare_sig (sig_with to g) ≡ bare_sig g
  sig-with g = λ v. record { params = params-with g.params v; results = params-with g.results v }

  mutual
    expr-with : (x : Expr S) → bare_expr (expr_with to x) ≡ bare_expr x
    expr-with (ident s1 b) = refl
    expr-with (int_lit s1 b) = refl
    expr-with (rune_lit s1 b) = refl
    expr-with (str_lit s1 b) = refl
    expr-with (composite s1 b c) = λ v. composite tt (type-with b v) (elems-with c v)
    expr-with (selector s1 b c) = λ v. selector tt (expr-with b v) (bare_name c)
    expr-with (index s1 b c) = λ v. index tt (expr-with b v) (expr-with c v)
    expr-with (slice s1 b c d) = λ v. slice tt (expr-with b v) (expr_option-with c v) (expr_option-with d v)
    expr-with (call s1 b c d) = λ v. call tt (expr-with b v) (exprs-with c v) d
    expr-with (func_lit s1 b s2 d) = λ v. func_lit tt (sig-with b v) tt (stmts-with d v)
    expr-with (type_operand s1 b) = λ v. type_operand tt (type-with b v)
    expr-with (unary s1 b c) = λ v. unary tt b (expr-with c v)
    expr-with (binary s1 b c d) = λ v. binary tt b (expr-with c v) (expr-with d v)
    expr-with (star s1 b) = λ v. star tt (expr-with b v)

    exprs-with : (x : Exprs S) → bare_exprs (exprs_with to x) ≡ bare_exprs x
    exprs-with no_exprs = refl
    exprs-with (expr_and a b) = λ v. expr_and (expr-with a v) (exprs-with b v)

    expr_option-with : (x : ExprOption S) → bare_expr_option (expr_option_with to x) ≡ bare_expr_option x
    expr_option-with no_expr = refl
    expr_option-with (some_expr a) = λ v. some_expr (expr-with a v)

    elems-with : (x : Elems S) → bare_elems (elems_with to x) ≡ bare_elems x
    elems-with no_elems = refl
    elems-with (elem s1 b c d) = λ v. elem tt (value_option-with b v) (value-with c v) (elems-with d v)

    value-with : (x : Value S) → bare_value (value_with to x) ≡ bare_value x
    value-with (plain a) = λ v. plain (expr-with a v)
    value-with (braced s1 b) = λ v. braced tt (elems-with b v)

    value_option-with : (x : ValueOption S) → bare_value_option (value_option_with to x) ≡ bare_value_option x
    value_option-with no_value = refl
    value_option-with (some_value a) = λ v. some_value (value-with a v)

    stmt-with : (x : Stmt S) → bare_stmt (stmt_with to x) ≡ bare_stmt x
    stmt-with (const_decl s1 b c) = λ v. const_decl tt b (value_specs-with c v)
    stmt-with (var_decl s1 b c) = λ v. var_decl tt b (value_specs-with c v)
    stmt-with (empty s1) = refl
    stmt-with (eval s1 b) = λ v. eval tt (expr-with b v)
    stmt-with (step s1 b c) = λ v. step tt (expr-with b v) c
    stmt-with (assign s1 b c d) = λ v. assign tt (exprs-with b v) c (exprs-with d v)
    stmt-with (define s1 b c) = λ v. define tt (names-with b v) (exprs-with c v)
    stmt-with (return_ s1 b) = λ v. return_ tt (exprs-with b v)
    stmt-with (break_ s1 b) = λ v. break_ tt (name_option-with b v)
    stmt-with (continue_ s1 b) = λ v. continue_ tt (name_option-with b v)
    stmt-with (inner s1 b) = λ v. inner tt (stmts-with b v)
    stmt-with (if_ s1 b c) = λ v. if_ tt (arms-with b v) (block_option-with c v)
    stmt-with (for_ s1 b c d s2 f) = λ v. for_ tt (stmt_option-with b v) (expr_option-with c v) (stmt_option-with d v) tt (stmts-with f v)
    stmt-with (range_ s1 b c s2 e) = λ v. range_ tt (range_left-with b v) (expr-with c v) tt (stmts-with e v)
    stmt-with (switch s1 b c d) = λ v. switch tt (stmt_option-with b v) (expr_option-with c v) (cases-with d v)
    stmt-with (defer s1 b) = λ v. defer tt (expr-with b v)
    stmt-with (label s1 b c) = λ v. label tt (bare_name b) (stmt-with c v)

    stmts-with : (x : Stmts S) → bare_stmts (stmts_with to x) ≡ bare_stmts x
    stmts-with no_stmts = refl
    stmts-with (stmt_and a b) = λ v. stmt_and (stmt-with a v) (stmts-with b v)

    stmt_option-with : (x : StmtOption S) → bare_stmt_option (stmt_option_with to x) ≡ bare_stmt_option x
    stmt_option-with no_stmt = refl
    stmt_option-with (some_stmt a) = λ v. some_stmt (stmt-with a v)

    block_option-with : (x : BlockOption S) → bare_block_option (block_option_with to x) ≡ bare_block_option x
    block_option-with no_block = refl
    block_option-with (some_block s1 b) = λ v. some_block tt (stmts-with b v)

    range_left-with : (x : RangeLeft S) → bare_range_left (left_with to x) ≡ bare_range_left x
    range_left-with nothing = refl
    range_left-with (assigns a) = λ v. assigns (exprs-with a v)
    range_left-with (defines a) = λ v. defines (names-with a v)

    arms-with : (x : Arms S) → bare_arms (arms_with to x) ≡ bare_arms x
    arms-with no_arms = refl
    arms-with (arm s1 b c s2 e f) = λ v. arm tt (stmt_option-with b v) (expr-with c v) tt (stmts-with e v) (arms-with f v)

    cases-with : (x : Cases S) → bare_cases (cases_with to x) ≡ bare_cases x
    cases-with no_cases = refl
    cases-with (case s1 b c d) = λ v. case tt (exprs-with b v) (stmts-with c v) (cases-with d v)

    value_specs-with : (x : ValueSpecs S) → bare_value_specs (specs_with to x) ≡ bare_value_specs x
    value_specs-with no_specs = refl
    value_specs-with (spec s1 b c d e) = λ v. spec tt (names-with b v) (type_option-with c v) (exprs-with d v) (value_specs-with e v)

  type_specs-with : (ts : List (TypeSpec S)) → map bare_type_spec (map (type_spec_with to) ts) ≡ map bare_type_spec ts
  type_specs-with [] = refl
  type_specs-with (t ∷ ts) = λ v. record { span = tt; name = bare_name t.name; alias = t.alias; of = type-with t.of v } ∷ type_specs-with ts v

  receiver-with : (r : Option (Receiver S)) → option_map bare_receiver (option_map (receiver_with to) r) ≡ option_map bare_receiver r
  receiver-with None = refl
  receiver-with (Some r) = λ v. Some (record { span = tt; name = name_option-with r.name v; pointer = r.pointer; of = bare_name r.of })

  pub decl-with : (d : Decl S) → bare_decl (decl_with to d) ≡ bare_decl d
  decl-with (values s) = λ v. values (stmt-with s v)
  decl-with (types s g ts) = λ v. types tt g (type_specs-with ts v)
  decl-with (func f) = λ v. func (record { span = tt; receiver = receiver-with f.receiver v; name = bare_name f.name; sig = sig-with f.sig v; body_span = tt; body = stmts-with f.body v })
