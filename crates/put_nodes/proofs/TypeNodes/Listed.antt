-- A declaration with other spans writes the same names of types, with these spans.
use Rattle.std.proofs.Common.{◌≡◌, refl, ◌∙◌, Bool, true, false, List, [], ◌∷◌, ◌++◌, map, Option, Some, None}
use Rattle.go_tree.specs.Tree.{Param, Sig, TypeExpr, named, pointer, slice_type, map_type, struct_type, Fields, no_fields, field, Expr, ident, int_lit, rune_lit, str_lit, composite, selector, index, slice, call, func_lit, type_operand, unary, binary, star, Exprs, no_exprs, expr_and, ExprOption, no_expr, some_expr, Elems, no_elems, elem, Value, plain, braced, ValueOption, no_value, some_value, Stmt, const_decl, var_decl, empty, eval, step, assign, define, return_, break_, continue_, inner, if_, for_, range_, switch, defer, label, Stmts, no_stmts, stmt_and, StmtOption, no_stmt, some_stmt, BlockOption, no_block, some_block, RangeLeft, nothing, assigns, defines, Arms, no_arms, arm, Cases, no_cases, case, ValueSpecs, no_specs, spec}
use Rattle.go_tree.specs.File.{TypeSpec, Decl, values, types, func}
use Rattle.run_rules.specs.Respanned.{type_with, fields_with, type_option_with, param_with, sig_with, expr_with, exprs_with, expr_option_with, elems_with, value_with, value_option_with, stmt_with, stmts_with, stmt_option_with, block_option_with, left_with, arms_with, cases_with, specs_with, type_spec_with, decl_with}
use Rattle.run_rules.specs.Sites.{named_in, named_in_fields}
use Rattle.put_nodes.specs.TypeNodes.Names.{Written, as_types, names_of_params, names_of_sig, names_of_option, names_of_literal, names_of_expr, names_of_bound, names_of_exprs, names_of_elems, names_of_key, names_of_value, names_of_stmt, names_of_part, names_of_stmts, names_of_else, names_of_left, names_of_arms, names_of_cases, names_of_specs, names_of_types, type_names}

module _ {A B : Type 0} (to : A → B) where
  abbrev each : List (TypeExpr A) → List (TypeExpr B)
  each ts = map (type_with to) ts

  over-types : (xs ys : List (TypeExpr A)) → each xs ++ each ys ≡ each (xs ++ ys)
  over-types [] ys = refl
  over-types (x ∷ xs) ys = λ j. type_with to x ∷ over-types xs ys j

  abbrev pub moved : Bool × TypeExpr A → Bool × TypeExpr B
  moved x = (x.0, type_with to x.1)

  abbrev m : Written A → Written B
  m xs = map moved xs

  over : (xs ys : Written A) → m xs ++ m ys ≡ m (xs ++ ys)
  over [] ys = refl
  over (x ∷ xs) ys = λ j. moved x ∷ over xs ys j

  two : {us vs : Written B} (xs ys : Written A) → us ≡ m xs → vs ≡ m ys → us ++ vs ≡ m (xs ++ ys)
  two xs ys p q = (λ j. p j ++ q j) ∙ over xs ys

  as-each : (ts : List (TypeExpr A)) → as_types (each ts) ≡ m (as_types ts)
  as-each [] = refl
  as-each (t ∷ ts) = λ j. (false, type_with to t) ∷ as-each ts j

  mutual
    types-in : (t : TypeExpr A) → named_in (type_with to t) ≡ each (named_in t)
    types-in (named s q n) = refl
    types-in (pointer s t) = types-in t
    types-in (slice_type s t) = types-in t
    types-in (map_type s k t) = (λ j. types-in k j ++ types-in t j) ∙ over-types (named_in k) (named_in t)
    types-in (struct_type s fs) = fields-in fs

    fields-in : (fs : Fields A) → named_in_fields (fields_with to fs) ≡ each (named_in_fields fs)
    fields-in no_fields = refl
    fields-in (field s n t fs) = (λ j. types-in t j ++ fields-in fs j) ∙ over-types (named_in t) (named_in_fields fs)

  type-listed : (t : TypeExpr A) → as_types (named_in (type_with to t)) ≡ m (as_types (named_in t))
  type-listed t = (λ j. as_types (types-in t j)) ∙ as-each (named_in t)

  params-listed : (ps : List (Param A)) → names_of_params (map (param_with to) ps) ≡ m (names_of_params ps)
  params-listed [] = refl
  params-listed (p ∷ ps) = two (as_types (named_in p.of)) (names_of_params ps) (type-listed p.of) (params-listed ps)

  sig-listed : (g : Sig A) → names_of_sig (sig_with to g) ≡ m (names_of_sig g)
  sig-listed g = two (names_of_params g.params) (names_of_params g.results) (params-listed g.params) (params-listed g.results)

  option-listed : (t : Option (TypeExpr A)) → names_of_option (type_option_with to t) ≡ m (names_of_option t)
  option-listed None = refl
  option-listed (Some t) = type-listed t

  literal-listed : (h : Bool) (t : TypeExpr A) → names_of_literal h (type_with to t) ≡ m (names_of_literal h t)
  literal-listed true (named s q n) = refl
  literal-listed false (named s q n) = refl
  literal-listed h (pointer s t) = type-listed (pointer s t)
  literal-listed h (slice_type s t) = type-listed (slice_type s t)
  literal-listed h (map_type s k t) = type-listed (map_type s k t)
  literal-listed h (struct_type s fs) = type-listed (struct_type s fs)

  mutual
    expr-listed : (h : Bool) (e : Expr A) → names_of_expr h (expr_with to e) ≡ m (names_of_expr h e)
    expr-listed h (ident _ _) = refl
    expr-listed h (int_lit _ _) = refl
    expr-listed h (rune_lit _ _) = refl
    expr-listed h (str_lit _ _) = refl
    expr-listed h (composite s t es) = two (names_of_literal h t) (names_of_elems es) (literal-listed h t) (elems-listed es)
    expr-listed h (selector s e n) = expr-listed h e
    expr-listed h (index s e i) = two (names_of_expr h e) (names_of_expr false i) (expr-listed h e) (expr-listed false i)
    expr-listed h (slice s e i j) = two (names_of_expr h e) (names_of_bound false i ++ names_of_bound false j) (expr-listed h e) (two (names_of_bound false i) (names_of_bound false j) (bound-listed false i) (bound-listed false j))
    expr-listed h (call s f xs r) = two (names_of_expr h f) (names_of_exprs false xs) (expr-listed h f) (exprs-listed false xs)
    expr-listed h (func_lit s g b xs) = two (names_of_sig g) (names_of_stmts xs) (sig-listed g) (stmts-listed xs)
    expr-listed h (type_operand s t) = type-listed t
    expr-listed h (unary s o e) = expr-listed h e
    expr-listed h (binary s o a b) = two (names_of_expr h a) (names_of_expr h b) (expr-listed h a) (expr-listed h b)
    expr-listed h (star s e) = expr-listed h e

    bound-listed : (h : Bool) (e : ExprOption A) → names_of_bound h (expr_option_with to e) ≡ m (names_of_bound h e)
    bound-listed h no_expr = refl
    bound-listed h (some_expr e) = expr-listed h e

    exprs-listed : (h : Bool) (es : Exprs A) → names_of_exprs h (exprs_with to es) ≡ m (names_of_exprs h es)
    exprs-listed h no_exprs = refl
    exprs-listed h (expr_and e es) = two (names_of_expr h e) (names_of_exprs h es) (expr-listed h e) (exprs-listed h es)

    elems-listed : (es : Elems A) → names_of_elems (elems_with to es) ≡ m (names_of_elems es)
    elems-listed no_elems = refl
    elems-listed (elem s k v es) = two (names_of_key k) (names_of_value v ++ names_of_elems es) (key-listed k) (two (names_of_value v) (names_of_elems es) (value-listed v) (elems-listed es))

    key-listed : (k : ValueOption A) → names_of_key (value_option_with to k) ≡ m (names_of_key k)
    key-listed no_value = refl
    key-listed (some_value v) = value-listed v

    value-listed : (v : Value A) → names_of_value (value_with to v) ≡ m (names_of_value v)
    value-listed (plain e) = expr-listed false e
    value-listed (braced s es) = elems-listed es

    stmt-listed : (h : Bool) (s : Stmt A) → names_of_stmt h (stmt_with to s) ≡ m (names_of_stmt h s)
    stmt-listed h (const_decl s g ss) = specs-listed ss
    stmt-listed h (var_decl s g ss) = specs-listed ss
    stmt-listed h (empty _) = refl
    stmt-listed h (eval s e) = expr-listed h e
    stmt-listed h (step s e up) = expr-listed h e
    stmt-listed h (assign s xs o ys) = two (names_of_exprs h xs) (names_of_exprs h ys) (exprs-listed h xs) (exprs-listed h ys)
    stmt-listed h (define s ns ys) = exprs-listed h ys
    stmt-listed h (return_ s xs) = exprs-listed false xs
    stmt-listed h (break_ _ _) = refl
    stmt-listed h (continue_ _ _) = refl
    stmt-listed h (inner s xs) = stmts-listed xs
    stmt-listed h (if_ s ars last) = two (names_of_arms ars) (names_of_else last) (arms-listed ars) (else-listed last)
    stmt-listed h (for_ s i t p b xs) =
        two (names_of_part i) (names_of_bound true t ++ (names_of_part p ++ names_of_stmts xs)) (part-listed i)
        (two (names_of_bound true t) (names_of_part p ++ names_of_stmts xs) (bound-listed true t) (two (names_of_part p) (names_of_stmts xs) (part-listed p) (stmts-listed xs)))
    stmt-listed h (range_ s left e b xs) = two (names_of_left left) (names_of_expr true e ++ names_of_stmts xs) (left-listed left) (two (names_of_expr true e) (names_of_stmts xs) (expr-listed true e) (stmts-listed xs))
    stmt-listed h (switch s i t cs) = two (names_of_part i) (names_of_bound true t ++ names_of_cases cs) (part-listed i) (two (names_of_bound true t) (names_of_cases cs) (bound-listed true t) (cases-listed cs))
    stmt-listed h (defer s e) = expr-listed false e
    stmt-listed h (label s n x) = stmt-listed false x

    part-listed : (i : StmtOption A) → names_of_part (stmt_option_with to i) ≡ m (names_of_part i)
    part-listed no_stmt = refl
    part-listed (some_stmt x) = stmt-listed true x

    stmts-listed : (xs : Stmts A) → names_of_stmts (stmts_with to xs) ≡ m (names_of_stmts xs)
    stmts-listed no_stmts = refl
    stmts-listed (stmt_and x xs) = two (names_of_stmt false x) (names_of_stmts xs) (stmt-listed false x) (stmts-listed xs)

    else-listed : (last : BlockOption A) → names_of_else (block_option_with to last) ≡ m (names_of_else last)
    else-listed no_block = refl
    else-listed (some_block b xs) = stmts-listed xs

    left-listed : (left : RangeLeft A) → names_of_left (left_with to left) ≡ m (names_of_left left)
    left-listed nothing = refl
    left-listed (assigns xs) = exprs-listed true xs
    left-listed (defines ns) = refl

    arms-listed : (ars : Arms A) → names_of_arms (arms_with to ars) ≡ m (names_of_arms ars)
    arms-listed no_arms = refl
    arms-listed (arm s i t b xs ars) =
        two (names_of_part i) (names_of_expr true t ++ (names_of_stmts xs ++ names_of_arms ars)) (part-listed i)
        (two (names_of_expr true t) (names_of_stmts xs ++ names_of_arms ars) (expr-listed true t) (two (names_of_stmts xs) (names_of_arms ars) (stmts-listed xs) (arms-listed ars)))

    cases-listed : (cs : Cases A) → names_of_cases (cases_with to cs) ≡ m (names_of_cases cs)
    cases-listed no_cases = refl
    cases-listed (case s es xs cs) = two (names_of_exprs false es) (names_of_stmts xs ++ names_of_cases cs) (exprs-listed false es) (two (names_of_stmts xs) (names_of_cases cs) (stmts-listed xs) (cases-listed cs))

    specs-listed : (ss : ValueSpecs A) → names_of_specs (specs_with to ss) ≡ m (names_of_specs ss)
    specs-listed no_specs = refl
    specs-listed (spec s ns t xs ss) = two (names_of_option t) (names_of_exprs false xs ++ names_of_specs ss) (option-listed t) (two (names_of_exprs false xs) (names_of_specs ss) (exprs-listed false xs) (specs-listed ss))

  types-listed : (ts : List (TypeSpec A)) → names_of_types (map (type_spec_with to) ts) ≡ m (names_of_types ts)
  types-listed [] = refl
  types-listed (t ∷ ts) = two (as_types (named_in t.of)) (names_of_types ts) (type-listed t.of) (types-listed ts)

  pub decl-listed : (d : Decl A) → type_names (decl_with to d) ≡ m (type_names d)
  decl-listed (values s) = stmt-listed false s
  decl-listed (types s g ts) = types-listed ts
  decl-listed (func f) = two (names_of_sig f.sig) (names_of_stmts f.body) (sig-listed f.sig) (stmts-listed f.body)
