-- A tree whose spans stay is the tree.
use Rattle.std.proofs.Common.{◌≡◌, refl, List, [], ◌∷◌, map, Option, Some, None}
use Rattle.std.specs.Option.{option_map}
use Rattle.go_tree.specs.Tree.{NameAt, TypeExpr, Fields, named, pointer, slice_type, map_type, struct_type, no_fields, field, Param, Sig, Expr, Exprs, ExprOption, Elems, Value, ValueOption, Stmt, Stmts, StmtOption, BlockOption, RangeLeft, Arms, Cases, ValueSpecs, ident, int_lit, rune_lit, str_lit, composite, selector, index, slice, call, func_lit, type_operand, unary, binary, star, no_exprs, expr_and, no_expr, some_expr, no_elems, elem, plain, braced, no_value, some_value, const_decl, var_decl, empty, eval, step, assign, define, return_, break_, continue_, inner, if_, for_, range_, switch, defer, label, no_stmts, stmt_and, no_stmt, some_stmt, no_block, some_block, nothing, assigns, defines, no_arms, arm, no_cases, case, no_specs, spec}
use Rattle.go_tree.specs.File.{ImportSpec, ImportDecl, TypeSpec, Receiver, Func, Decl, values, types, func, File}
use Rattle.run_rules.specs.Respanned.{name_with, type_with, fields_with, param_with, sig_with, expr_with, exprs_with, expr_option_with, elems_with, value_option_with, value_with, stmt_with, stmts_with, stmt_option_with, block_option_with, left_with, arms_with, cases_with, specs_with, import_spec_with, import_decl_with, type_spec_with, receiver_with, func_with, decl_with, file_with, source_with, package_with, packages_with}
use Rattle.pkg_graph.specs.Package.{SourceTree, Package}

-- each span stays
abbrev pub keep : {S : Type 0} → S → S
keep s = s

module _ {S : Type 0} where
  names-same : (xs : List (NameAt S)) → map (name_with keep) xs ≡ xs
  names-same [] = refl
  names-same (x ∷ xs) = λ w. x ∷ names-same xs w

  name_option-same : (x : Option (NameAt S)) → option_map (name_with keep) x ≡ x
  name_option-same None = refl
  name_option-same (Some x) = refl

  mutual
    type-same : (x : TypeExpr S) → type_with keep x ≡ x
    type-same (named s p n) = λ w. named s (name_option-same p w) n
    type-same (pointer s t) = λ w. pointer s (type-same t w)
    type-same (slice_type s t) = λ w. slice_type s (type-same t w)
    type-same (map_type s k t) = λ w. map_type s (type-same k w) (type-same t w)
    type-same (struct_type s fs) = λ w. struct_type s (fields-same fs w)

    fields-same : (x : Fields S) → fields_with keep x ≡ x
    fields-same no_fields = refl
    fields-same (field s n t fs) = λ w. field s n (type-same t w) (fields-same fs w)

  type_option-same : (x : Option (TypeExpr S)) → option_map (type_with keep) x ≡ x
  type_option-same None = refl
  type_option-same (Some x) = λ w. Some (type-same x w)

  param-same : (x : Param S) → param_with keep x ≡ x
  param-same x = λ w. record { span = x.span; name = name_option-same x.name w; rest = x.rest; of = type-same x.of w }

  params-same : (xs : List (Param S)) → map (param_with keep) xs ≡ xs
  params-same [] = refl
  params-same (x ∷ xs) = λ w. param-same x w ∷ params-same xs w

  sig-same : (x : Sig S) → sig_with keep x ≡ x
  sig-same x = λ w. record { params = params-same x.params w; results = params-same x.results w }

  mutual
    expr-same : (x : Expr S) → expr_with keep x ≡ x
    expr-same (ident s n) = refl
    expr-same (int_lit s n) = refl
    expr-same (rune_lit s n) = refl
    expr-same (str_lit s n) = refl
    expr-same (composite s t es) = λ w. composite s (type-same t w) (elems-same es w)
    expr-same (selector s b n) = λ w. selector s (expr-same b w) n
    expr-same (index s b i) = λ w. index s (expr-same b w) (expr-same i w)
    expr-same (slice s b i j) = λ w. slice s (expr-same b w) (expr_option-same i w) (expr_option-same j w)
    expr-same (call s f xs r) = λ w. call s (expr-same f w) (exprs-same xs w) r
    expr-same (func_lit s g z b) = λ w. func_lit s (sig-same g w) z (stmts-same b w)
    expr-same (type_operand s t) = λ w. type_operand s (type-same t w)
    expr-same (unary s o e) = λ w. unary s o (expr-same e w)
    expr-same (binary s o a b) = λ w. binary s o (expr-same a w) (expr-same b w)
    expr-same (star s e) = λ w. star s (expr-same e w)

    exprs-same : (x : Exprs S) → exprs_with keep x ≡ x
    exprs-same no_exprs = refl
    exprs-same (expr_and e es) = λ w. expr_and (expr-same e w) (exprs-same es w)

    expr_option-same : (x : ExprOption S) → expr_option_with keep x ≡ x
    expr_option-same no_expr = refl
    expr_option-same (some_expr e) = λ w. some_expr (expr-same e w)

    elems-same : (x : Elems S) → elems_with keep x ≡ x
    elems-same no_elems = refl
    elems-same (elem s k v es) = λ w. elem s (value_option-same k w) (value-same v w) (elems-same es w)

    value_option-same : (x : ValueOption S) → value_option_with keep x ≡ x
    value_option-same no_value = refl
    value_option-same (some_value v) = λ w. some_value (value-same v w)

    value-same : (x : Value S) → value_with keep x ≡ x
    value-same (plain e) = λ w. plain (expr-same e w)
    value-same (braced s es) = λ w. braced s (elems-same es w)

    stmt-same : (x : Stmt S) → stmt_with keep x ≡ x
    stmt-same (const_decl s g ss) = λ w. const_decl s g (specs-same ss w)
    stmt-same (var_decl s g ss) = λ w. var_decl s g (specs-same ss w)
    stmt-same (empty s) = refl
    stmt-same (eval s e) = λ w. eval s (expr-same e w)
    stmt-same (step s e b) = λ w. step s (expr-same e w) b
    stmt-same (assign s xs o ys) = λ w. assign s (exprs-same xs w) o (exprs-same ys w)
    stmt-same (define s ns ys) = λ w. define s (names-same ns w) (exprs-same ys w)
    stmt-same (return_ s xs) = λ w. return_ s (exprs-same xs w)
    stmt-same (break_ s n) = λ w. break_ s (name_option-same n w)
    stmt-same (continue_ s n) = λ w. continue_ s (name_option-same n w)
    stmt-same (inner s b) = λ w. inner s (stmts-same b w)
    stmt-same (if_ s bs z) = λ w. if_ s (arms-same bs w) (block_option-same z w)
    stmt-same (for_ s i t q z b) = λ w. for_ s (stmt_option-same i w) (expr_option-same t w) (stmt_option-same q w) z (stmts-same b w)
    stmt-same (range_ s x e z b) = λ w. range_ s (left-same x w) (expr-same e w) z (stmts-same b w)
    stmt-same (switch s i t cs) = λ w. switch s (stmt_option-same i w) (expr_option-same t w) (cases-same cs w)
    stmt-same (defer s e) = λ w. defer s (expr-same e w)
    stmt-same (label s n x) = λ w. label s n (stmt-same x w)

    stmts-same : (x : Stmts S) → stmts_with keep x ≡ x
    stmts-same no_stmts = refl
    stmts-same (stmt_and s ss) = λ w. stmt_and (stmt-same s w) (stmts-same ss w)

    stmt_option-same : (x : StmtOption S) → stmt_option_with keep x ≡ x
    stmt_option-same no_stmt = refl
    stmt_option-same (some_stmt s) = λ w. some_stmt (stmt-same s w)

    block_option-same : (x : BlockOption S) → block_option_with keep x ≡ x
    block_option-same no_block = refl
    block_option-same (some_block s b) = λ w. some_block s (stmts-same b w)

    left-same : (x : RangeLeft S) → left_with keep x ≡ x
    left-same nothing = refl
    left-same (assigns es) = λ w. assigns (exprs-same es w)
    left-same (defines ns) = λ w. defines (names-same ns w)

    arms-same : (x : Arms S) → arms_with keep x ≡ x
    arms-same no_arms = refl
    arms-same (arm s i t z b r) = λ w. arm s (stmt_option-same i w) (expr-same t w) z (stmts-same b w) (arms-same r w)

    cases-same : (x : Cases S) → cases_with keep x ≡ x
    cases-same no_cases = refl
    cases-same (case s es b cs) = λ w. case s (exprs-same es w) (stmts-same b w) (cases-same cs w)

    specs-same : (x : ValueSpecs S) → specs_with keep x ≡ x
    specs-same no_specs = refl
    specs-same (spec s ns t es ss) = λ w. spec s (names-same ns w) (type_option-same t w) (exprs-same es w) (specs-same ss w)

  import_spec-same : (x : ImportSpec S) → import_spec_with keep x ≡ x
  import_spec-same x = λ w. record { span = x.span; name = name_option-same x.name w; path = x.path }

  import_specs-same : (xs : List (ImportSpec S)) → map (import_spec_with keep) xs ≡ xs
  import_specs-same [] = refl
  import_specs-same (x ∷ xs) = λ w. import_spec-same x w ∷ import_specs-same xs w

  import_decl-same : (x : ImportDecl S) → import_decl_with keep x ≡ x
  import_decl-same x = λ w. record { span = x.span; grouped = x.grouped; specs = import_specs-same x.specs w }

  import_decls-same : (xs : List (ImportDecl S)) → map (import_decl_with keep) xs ≡ xs
  import_decls-same [] = refl
  import_decls-same (x ∷ xs) = λ w. import_decl-same x w ∷ import_decls-same xs w

  type_spec-same : (x : TypeSpec S) → type_spec_with keep x ≡ x
  type_spec-same x = λ w. record { span = x.span; name = x.name; alias = x.alias; of = type-same x.of w }

  type_specs-same : (xs : List (TypeSpec S)) → map (type_spec_with keep) xs ≡ xs
  type_specs-same [] = refl
  type_specs-same (x ∷ xs) = λ w. type_spec-same x w ∷ type_specs-same xs w

  receiver-same : (x : Receiver S) → receiver_with keep x ≡ x
  receiver-same x = λ w. record { span = x.span; name = name_option-same x.name w; pointer = x.pointer; of = x.of }

  receiver_option-same : (x : Option (Receiver S)) → option_map (receiver_with keep) x ≡ x
  receiver_option-same None = refl
  receiver_option-same (Some x) = λ w. Some (receiver-same x w)

  func-same : (x : Func S) → func_with keep x ≡ x
  func-same x = λ w. record { span = x.span; receiver = receiver_option-same x.receiver w; name = x.name; sig = sig-same x.sig w; body_span = x.body_span; body = stmts-same x.body w }

  decl-same : (x : Decl S) → decl_with keep x ≡ x
  decl-same (values s) = λ w. values (stmt-same s w)
  decl-same (types s grouped ts) = λ w. types s grouped (type_specs-same ts w)
  decl-same (func g) = λ w. func (func-same g w)

  decls-same : (xs : List (Decl S)) → map (decl_with keep) xs ≡ xs
  decls-same [] = refl
  decls-same (x ∷ xs) = λ w. decl-same x w ∷ decls-same xs w

  pub file-same : (x : File S) → file_with keep x ≡ x
  file-same x = λ w. record { package_name = x.package_name; imports = import_decls-same x.imports w; decls = decls-same x.decls w }

  sources-same : (xs : List (SourceTree S)) → map (source_with keep) xs ≡ xs
  sources-same [] = refl
  sources-same (x ∷ xs) = λ w. record { path = x.path; tree = file-same x.tree w } ∷ sources-same xs w

  pub package-same : (x : Package S) → package_with keep x ≡ x
  package-same x = λ w. record { path = x.path; name = x.name; files = sources-same x.files w }

  pub packages-same : (xs : List (Package S)) → packages_with keep xs ≡ xs
  packages-same [] = refl
  packages-same (x ∷ xs) = λ w. package-same x w ∷ packages-same xs w
