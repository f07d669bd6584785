-- A tree in which each span stays is the tree itself.
use Rattle.std.specs.Prelude.{◌≡◌, refl, List, [], ◌∷◌, map, Option, Some, None}
use Rattle.std.specs.Option.{option_map}
use Rattle.go_tree.specs.Tree.{NameAt, TypeExpr, Fields, named, pointer, slice_type, map_type, struct_type, no_fields, field, Param, Sig, Expr, Exprs, ExprOption, Elems, Value, ValueOption, Stmt, Stmts, StmtOption, BlockOption, RangeLeft, Arms, Cases, ValueSpecs, ident, int_lit, rune_lit, str_lit, composite, selector, index, slice, call, func_lit, type_operand, unary, binary, star, no_exprs, expr_and, no_expr, some_expr, no_elems, elem, plain, braced, no_value, some_value, const_decl, var_decl, empty, eval, step, assign, define, return_, break_, continue_, inner, if_, for_, range_, switch, defer, label, no_stmts, stmt_and, no_stmt, some_stmt, no_block, some_block, nothing, assigns, defines, no_arms, arm, no_cases, case, no_specs, spec}
use Rattle.run_rules.specs.FormTrees.{keep_span}
use Rattle.run_rules.specs.Respanned.{name_with, type_option_with, param_with, sig_with, type_with, fields_with, expr_with, exprs_with, expr_option_with, elems_with, value_option_with, value_with, stmt_with, stmts_with, stmt_option_with, block_option_with, left_with, arms_with, cases_with, specs_with}

module _ {S : Type 0} where
  label-kept : (n : Option (NameAt S)) → option_map (name_with keep_span) n ≡ n
  label-kept None = refl
  label-kept (Some n) = refl

  names-kept : (ns : List (NameAt S)) → map (name_with keep_span) ns ≡ ns
  names-kept [] = refl
  names-kept (n ∷ ns) = λ w. n ∷ names-kept ns w

  mutual
    type-kept : (x : TypeExpr S) → type_with keep_span x ≡ x
    type-kept (named s p n) = λ w. named s (label-kept p w) n
    type-kept (pointer s t) = λ w. pointer s (type-kept t w)
    type-kept (slice_type s t) = λ w. slice_type s (type-kept t w)
    type-kept (map_type s k t) = λ w. map_type s (type-kept k w) (type-kept t w)
    type-kept (struct_type s fs) = λ w. struct_type s (fields-kept fs w)

    fields-kept : (x : Fields S) → fields_with keep_span x ≡ x
    fields-kept no_fields = refl
    fields-kept (field s n t fs) = λ w. field s n (type-kept t w) (fields-kept fs w)

  written-kept : (t : Option (TypeExpr S)) → type_option_with keep_span t ≡ t
  written-kept None = refl
  written-kept (Some t) = λ w. Some (type-kept t w)

  params-kept : (xs : List (Param S)) → map (param_with keep_span) xs ≡ xs
  params-kept [] = refl
  params-kept (x ∷ xs) = λ w. record { span = x.span; name = label-kept x.name w; rest = x.rest; of = type-kept x.of w } ∷ params-kept xs w

  sig-kept : (g : Sig S) → sig_with keep_span g ≡ g
  sig-kept g = λ w. record { params = params-kept g.params w; results = params-kept g.results w }

  mutual
    expr-kept : (x : Expr S) → expr_with keep_span x ≡ x
    expr-kept (ident s n) = refl
    expr-kept (int_lit s n) = refl
    expr-kept (rune_lit s n) = refl
    expr-kept (str_lit s n) = refl
    expr-kept (composite s t es) = λ w. composite s (type-kept t w) (elems-kept es w)
    expr-kept (selector s b n) = λ w. selector s (expr-kept b w) n
    expr-kept (index s b i) = λ w. index s (expr-kept b w) (expr-kept i w)
    expr-kept (slice s b i j) = λ w. slice s (expr-kept b w) (expr-option-kept i w) (expr-option-kept j w)
    expr-kept (call s f xs r) = λ w. call s (expr-kept f w) (exprs-kept xs w) r
    expr-kept (func_lit s g z b) = λ w. func_lit s (sig-kept g w) z (stmts-kept b w)
    expr-kept (type_operand s t) = λ w. type_operand s (type-kept t w)
    expr-kept (unary s o e) = λ w. unary s o (expr-kept e w)
    expr-kept (binary s o a b) = λ w. binary s o (expr-kept a w) (expr-kept b w)
    expr-kept (star s e) = λ w. star s (expr-kept e w)

    exprs-kept : (x : Exprs S) → exprs_with keep_span x ≡ x
    exprs-kept no_exprs = refl
    exprs-kept (expr_and e es) = λ w. expr_and (expr-kept e w) (exprs-kept es w)

    expr-option-kept : (x : ExprOption S) → expr_option_with keep_span x ≡ x
    expr-option-kept no_expr = refl
    expr-option-kept (some_expr e) = λ w. some_expr (expr-kept e w)

    elems-kept : (x : Elems S) → elems_with keep_span x ≡ x
    elems-kept no_elems = refl
    elems-kept (elem s k v es) = λ w. elem s (value-option-kept k w) (value-kept v w) (elems-kept es w)

    value-option-kept : (x : ValueOption S) → value_option_with keep_span x ≡ x
    value-option-kept no_value = refl
    value-option-kept (some_value v) = λ w. some_value (value-kept v w)

    pub value-kept : (x : Value S) → value_with keep_span x ≡ x
    value-kept (plain e) = λ w. plain (expr-kept e w)
    value-kept (braced s es) = λ w. braced s (elems-kept es w)

    stmt-kept : (x : Stmt S) → stmt_with keep_span x ≡ x
    stmt-kept (const_decl s g ss) = λ w. const_decl s g (specs-kept ss w)
    stmt-kept (var_decl s g ss) = λ w. var_decl s g (specs-kept ss w)
    stmt-kept (empty s) = refl
    stmt-kept (eval s e) = λ w. eval s (expr-kept e w)
    stmt-kept (step s e b) = λ w. step s (expr-kept e w) b
    stmt-kept (assign s xs o ys) = λ w. assign s (exprs-kept xs w) o (exprs-kept ys w)
    stmt-kept (define s ns ys) = λ w. define s (names-kept ns w) (exprs-kept ys w)
    stmt-kept (return_ s xs) = λ w. return_ s (exprs-kept xs w)
    stmt-kept (break_ s n) = λ w. break_ s (label-kept n w)
    stmt-kept (continue_ s n) = λ w. continue_ s (label-kept n w)
    stmt-kept (inner s b) = λ w. inner s (stmts-kept b w)
    stmt-kept (if_ s bs z) = λ w. if_ s (arms-kept bs w) (block-option-kept z w)
    stmt-kept (for_ s i t q z b) = λ w. for_ s (stmt-option-kept i w) (expr-option-kept t w) (stmt-option-kept q w) z (stmts-kept b w)
    stmt-kept (range_ s x e z b) = λ w. range_ s (left-kept x w) (expr-kept e w) z (stmts-kept b w)
    stmt-kept (switch s i t cs) = λ w. switch s (stmt-option-kept i w) (expr-option-kept t w) (cases-kept cs w)
    stmt-kept (defer s e) = λ w. defer s (expr-kept e w)
    stmt-kept (label s n x) = λ w. label s n (stmt-kept x w)

    stmts-kept : (x : Stmts S) → stmts_with keep_span x ≡ x
    stmts-kept no_stmts = refl
    stmts-kept (stmt_and s ss) = λ w. stmt_and (stmt-kept s w) (stmts-kept ss w)

    stmt-option-kept : (x : StmtOption S) → stmt_option_with keep_span x ≡ x
    stmt-option-kept no_stmt = refl
    stmt-option-kept (some_stmt s) = λ w. some_stmt (stmt-kept s w)

    block-option-kept : (x : BlockOption S) → block_option_with keep_span x ≡ x
    block-option-kept no_block = refl
    block-option-kept (some_block s b) = λ w. some_block s (stmts-kept b w)

    left-kept : (x : RangeLeft S) → left_with keep_span x ≡ x
    left-kept nothing = refl
    left-kept (assigns es) = λ w. assigns (exprs-kept es w)
    left-kept (defines ns) = λ w. defines (names-kept ns w)

    arms-kept : (x : Arms S) → arms_with keep_span x ≡ x
    arms-kept no_arms = refl
    arms-kept (arm s i t z b r) = λ w. arm s (stmt-option-kept i w) (expr-kept t w) z (stmts-kept b w) (arms-kept r w)

    cases-kept : (x : Cases S) → cases_with keep_span x ≡ x
    cases-kept no_cases = refl
    cases-kept (case s es b cs) = λ w. case s (exprs-kept es w) (stmts-kept b w) (cases-kept cs w)

    specs-kept : (x : ValueSpecs S) → specs_with keep_span x ≡ x
    specs-kept no_specs = refl
    specs-kept (spec s ns t es ss) = λ w. spec s (names-kept ns w) (written-kept t w) (exprs-kept es w) (specs-kept ss w)
