-- What is found needs no spans but for its places: a tree and the same tree without its spans give alike.
use Rattle.std.specs.Prelude.{◌≡◌, refl, ℕ, suc, ◌+◌, List, [], ◌∷◌, ◌++◌, map, length, Option, Some, None}
use Rattle.std.specs.Prelude.{if◌then◌else◌, bytes_eq}
use mathlib.Core.Path.{ap, ap₂}
use Rattle.std.specs.Option.{option_map}
use Rattle.go_tree.specs.Tree.{NameAt, Param, Sig, TypeExpr, Expr, ident, int_lit, rune_lit, str_lit, composite}
use Rattle.go_tree.specs.Tree.{selector, index, slice, call, func_lit, type_operand, unary, binary, star, Exprs}
use Rattle.go_tree.specs.Tree.{no_exprs, expr_and, ExprOption, no_expr, some_expr, Elems, no_elems, elem, Value, plain}
use Rattle.go_tree.specs.Tree.{braced, ValueOption, no_value, some_value, Stmt, const_decl, var_decl, empty, eval, step}
use Rattle.go_tree.specs.Tree.{assign, define, return_, break_, continue_, inner, if_, for_, range_, switch, defer}
use Rattle.go_tree.specs.Tree.{label, Stmts, no_stmts, stmt_and, StmtOption, no_stmt, some_stmt, BlockOption, no_block}
use Rattle.go_tree.specs.Tree.{some_block, RangeLeft, nothing, assigns, defines, Arms, no_arms, arm, Cases, no_cases}
use Rattle.go_tree.specs.Tree.{case, ValueSpecs, no_specs, spec}
use Rattle.go_tree.specs.Bare.{bare_name, bare_type, bare_param, bare_sig, bare_expr, bare_exprs, bare_expr_option}
use Rattle.go_tree.specs.Bare.{bare_elems, bare_value, bare_value_option, bare_stmt, bare_stmts, bare_stmt_option}
use Rattle.go_tree.specs.Bare.{bare_block_option, bare_range_left, bare_arms, bare_cases, bare_value_specs}
use Rattle.go_tree.specs.GoTypes.Answers.{given, meets, otherwise, only_if, distinct_by}
use Rattle.go_tree.specs.GoTypes.Types.{GoType, GoFields, no_go_fields, go_field, FuncType, fields_of}
use Rattle.go_tree.specs.GoTypes.Defined.{Defined, under}
use Rattle.go_tree.specs.GoTypes.Entities.{Env, Binds, defined_in, extend, in_block}
use Rattle.go_tree.specs.GoTypes.Operands.{Operand}
use Rattle.go_tree.specs.GoTypes.Primary.{find_field}
use Rattle.go_tree.specs.GoTypes.Literals.{is_struct, inner_type, literal_type}
use Rattle.go_tree.specs.GoTypes.Declarations.{bound_names, binds_or, binds_of, new_constants, new_variables, Repeated}
use Rattle.go_tree.specs.GoTypes.Declarations.{nothing_to_repeat}
use Rattle.go_tree.specs.GoTypes.Bodies.{param_binding, param_binds, body_binds, literal_env, no_values}
use Rattle.go_tree.specs.GoTypes.Statements.{right_values, tag_of}
use Rattle.go_tree.proofs.ScopeNames.FreeNamesBare.{names_of-bare, sig_names-bare, declared-bare, declared_option-bare}
use Rattle.go_tree.proofs.ScopeNames.FreeNamesBare.{defined-bare}
use Rattle.go_tree.proofs.GoTypes.TypingBare.{type_meant-bare, written_type-bare, func_type-bare, field_key-bare}
use Rattle.go_tree.proofs.GoTypes.TypingBare.{parts-bare, all_parts-bare, bound-bare, element-bare, places-bare}
use Rattle.go_tree.proofs.GoTypes.TypingBare.{targets-bare, declares-bare, declares_first-bare, range_declares-bare}
use Rattle.checked_findings.specs.Facts.{Asked, as_it_is, at_type, asked, Facts, finding}
use Rattle.checked_findings.specs.Asking.{unary_asks, option_by_default, left_asks, right_asks, of_values, index_asks}
use Rattle.checked_findings.specs.Asking.{call_asks, values_ask, update_asks, case_asks, target_types, defined_types}
use Rattle.checked_findings.specs.Asking.{stored_asks, only_target, each_of, field_asked, behind_field, value_asked}
use Rattle.checked_findings.specs.Asking.{key_asked, over_asks}
use Rattle.checked_findings.specs.Found.{first_asked, rest_asked, bound_asks, results_in, literal_results}
use Rattle.checked_findings.specs.Found.{constants_ask, variables_ask, assigned_ask, defined_ask, ranged_asks, found}
use Rattle.checked_findings.specs.Found.{found_all, found_option, found_elems, found_key, found_value, found_stmt}
use Rattle.checked_findings.specs.Found.{found_stmts, found_first, found_block, found_range, found_arms, found_cases}
use Rattle.checked_findings.specs.Found.{found_constants, found_variables}
use Rattle.checked_findings.specs.Laws.{nowhere}

module _ {S : Type 0} where
  -- ---- names, signatures and lists

  pub length-bare : (ns : List (NameAt S)) → length (map bare_name ns) ≡ length ns
  length-bare [] = refl
  length-bare (n ∷ ns) = ap suc (length-bare ns)

  pub no_values-bare : (es : Exprs S) → no_values (bare_exprs es) ≡ no_values es
  no_values-bare no_exprs = refl
  no_values-bare (expr_and e es) = refl

  param_binding-bare : (o : Option (NameAt S)) (t : GoType) → param_binding (option_map bare_name o) t ≡ param_binding o
      t
  param_binding-bare None t = refl
  param_binding-bare (Some n) t = refl

  param_binds-bare : (ps : List (Param S)) (ts : List GoType) → param_binds (map bare_param ps) ts ≡ param_binds ps ts
  param_binds-bare [] ts = refl
  param_binds-bare (p ∷ ps) [] = refl
  param_binds-bare (p ∷ ps) (t ∷ ts) = λ w. param_binding-bare p.name t w ++ param_binds-bare ps ts w

  pub body_binds-bare : (receiver : Binds) (g : Sig S) (f : FuncType) →
      body_binds receiver (bare_sig g) f ≡ body_binds receiver g f
  body_binds-bare receiver g f =
      ap₂
      (λ ps rs. let bs : Binds = receiver ++ ps ++ rs in only_if (distinct_by bytes_eq (bound_names bs)) (Some bs))
      (param_binds-bare g.params f.params) (param_binds-bare g.results f.results)

  pub literal_env-bare : (env : Env) (g : Sig S) → literal_env env (bare_sig g) ≡ literal_env env g
  literal_env-bare env g =
      λ w. extend
      (binds_or (sig_names-bare g w) (given (func_type-bare env g w) (λ f. body_binds-bare [] g f w))) (in_block env)

  -- ---- what is asked

  pub literal_results-bare : (env : Env) (g : Sig S) → literal_results env (bare_sig g) ≡ literal_results env g
  literal_results-bare env g = λ w. results_in (func_type-bare env g w)

  pub each_of-bare : (a : Asked) (es : Exprs S) → each_of a (bare_exprs es) ≡ each_of a es
  each_of-bare a no_exprs = refl
  each_of-bare a (expr_and e es) = λ w. a ∷ each_of-bare a es w

  field_asked-bare : (home : ℕ) (k : ValueOption S) (fs : GoFields) →
      field_asked home (bare_value_option k) fs ≡ field_asked home k fs
  field_asked-bare home no_value no_go_fields = refl
  field_asked-bare home no_value (go_field n p t fs) = refl
  field_asked-bare home (some_value k) fs = λ w. given (field_key-bare k w) (λ n. find_field home n fs)

  pub value_asked-bare : (ds : List Defined) (home : ℕ) (k : ValueOption S) →
      value_asked ds home (bare_value_option k) ≡ value_asked ds home k
  value_asked-bare ds home k =
      λ w u. elim (fields_of u) [ Some fs ↦ field_asked-bare home k fs w | None ↦ inner_type ds u ]

  behind_field-bare : (k : ValueOption S) (u : GoType) → behind_field (bare_value_option k) u ≡ behind_field k u
  behind_field-bare no_value u = refl
  behind_field-bare (some_value v) u = refl

  pub constants_ask-bare : (env : Env) (t : Option (TypeExpr S)) (es : Exprs S) →
      constants_ask env (option_map bare_type t) (bare_exprs es) ≡ constants_ask env t es
  constants_ask-bare env t es = λ w. each_of-bare (asked (given (written_type-bare env t w) (λ t. t))) es w

  pub variables_ask-bare : (env : Env) (ns : List (NameAt S)) (t : Option (TypeExpr S)) (es : Exprs S) →
      variables_ask env (map bare_name ns) (option_map bare_type t) (bare_exprs es) ≡ variables_ask env ns t es
  variables_ask-bare env ns t es =
      λ w. values_ask (defined_in env) (places-bare env es w)
      (map (λ n. given (written_type-bare env t w) (λ t. t)) (names_of-bare ns w))
      (otherwise (all_parts-bare env es w) [])

  pub assigned_ask-bare : (env : Env) (ls rs : Exprs S) →
      assigned_ask env (bare_exprs ls) (bare_exprs rs) ≡ assigned_ask env ls rs
  assigned_ask-bare env ls rs =
      λ w. values_ask (defined_in env) (places-bare env rs w) (target_types (targets-bare env ls w))
      (otherwise (all_parts-bare env rs w) [])

  pub defined_ask-bare : (env : Env) (ns : List (NameAt S)) (rs : Exprs S) →
      defined_ask env (map bare_name ns) (bare_exprs rs) ≡ defined_ask env ns rs
  defined_ask-bare env ns rs =
      λ w. values_ask (defined_in env) (places-bare env rs w) (defined_types env (names_of-bare ns w))
      (otherwise (all_parts-bare env rs w) [])

  over_asks-bare : (env : Env) (o : Operand) (l : RangeLeft S) → over_asks env o (bare_range_left l) ≡ over_asks env o l
  over_asks-bare env o nothing = refl
  over_asks-bare env o (assigns es) = λ w. stored_asks (defined_in env) (only_target (targets-bare env es w)) o
  over_asks-bare env o (defines ns) = refl

  pub ranged_asks-bare : (env : Env) (e : Expr S) (l : RangeLeft S) →
      ranged_asks env (bare_expr e) (bare_range_left l) ≡ ranged_asks env e l
  ranged_asks-bare env e l =
      λ w. otherwise (given (parts-bare env e w) (λ o. Some (over_asks-bare env o l w))) as_it_is

  -- ---- what is found

  mutual
    pub found-bare : (a : Env) (b : Asked) (c : Expr S) →
        found nowhere a b (bare_expr c) ≡ found nowhere a b c
    found-bare env a (ident s n) = λ w. finding tt a ((parts-bare env (ident s n) w))
    found-bare env a (int_lit s t) = λ w. finding tt a ((parts-bare env (int_lit s t) w))
    found-bare env a (rune_lit s t) = λ w. finding tt a ((parts-bare env (rune_lit s t) w))
    found-bare env a (str_lit s t) = λ w. finding tt a ((parts-bare env (str_lit s t) w))
    found-bare env a (composite s t es) = λ w. (found_elems-bare env (given ((type_meant-bare env t w)) (λ u. Some
        (under (defined_in env) u))) es w) ++ finding tt a ((parts-bare env (composite s t es) w))
    found-bare env a (selector s b n) = λ w. (found-bare env as_it_is b w) ++ finding tt a ((parts-bare env (selector s
        b n) w))
    found-bare env a (index s b i) = λ w. (found-bare env as_it_is b w) ++ (found-bare env (index_asks (defined_in env)
        ((parts-bare env b w))) i w) ++ finding tt a ((parts-bare env (index s b i) w))
    found-bare env a (slice s b i j) = λ w. (found-bare env as_it_is b w) ++ (found_option-bare env bound_asks i w) ++
        (found_option-bare env bound_asks j w) ++ finding tt a ((parts-bare env (slice s b i j) w))
    found-bare env a (call s f xs r) = λ w. (found-bare env as_it_is f w) ++ (found_all-bare env (call_asks (defined_in
        env) ((parts-bare env f w)) ((all_parts-bare env xs w))) xs w) ++ finding tt a ((parts-bare env (call s f xs r)
        w))
    found-bare env a (func_lit s g t b) = λ w. (found_stmts-bare ((literal_results-bare env g w)) ((literal_env-bare env
        g w)) b w) ++ finding tt a ((parts-bare env (func_lit s g t b) w))
    found-bare env a (type_operand s t) = λ w. finding tt a ((parts-bare env (type_operand s t) w))
    found-bare env a (unary s op e) = λ w. (found-bare env (unary_asks a ((parts-bare env e w))) e w) ++ finding tt a
        ((parts-bare env (unary s op e) w))
    found-bare env a (binary s op x y) = λ w. (found-bare env (of_values (left_asks (defined_in env) op a) ((parts-bare
        env x w)) ((parts-bare env y w))) x w) ++ (found-bare env (of_values (right_asks (defined_in env) op a)
        ((parts-bare env x w)) ((parts-bare env y w))) y w) ++ finding tt a ((parts-bare env (binary s op x y) w))
    found-bare env a (star s e) = λ w. (found-bare env as_it_is e w) ++ finding tt a ((parts-bare env (star s e) w))

    pub found_all-bare : (a : Env) (b : List Asked) (c : Exprs S) →
        found_all nowhere a b (bare_exprs c) ≡ found_all nowhere a b c
    found_all-bare env xs no_exprs = λ w. []
    found_all-bare env xs (expr_and e es) = λ w. (found-bare env (first_asked xs) e w) ++ (found_all-bare env
        (rest_asked xs) es w)

    pub found_option-bare : (a : Env) (b : Asked) (c : ExprOption S) →
        found_option nowhere a b (bare_expr_option c) ≡ found_option nowhere a b c
    found_option-bare env a no_expr = λ w. []
    found_option-bare env a (some_expr e) = λ w. (found-bare env a e w)

    pub found_elems-bare : (a : Env) (b : Option GoType) (c : Elems S) →
        found_elems nowhere a b (bare_elems c) ≡ found_elems nowhere a b c
    found_elems-bare env u no_elems = λ w. []
    found_elems-bare env u (elem _ k v es) = λ w. (found_key-bare env u k w) ++ (found_value-bare env (given u
        ((value_asked-bare (defined_in env) env.home k w))) v w) ++ (found_elems-bare env (given u (λ u. Some
        ((behind_field-bare k u w)))) es w)

    pub found_key-bare : (a : Env) (b : Option GoType) (c : ValueOption S) →
        found_key nowhere a b (bare_value_option c) ≡ found_key nowhere a b c
    found_key-bare env u no_value = λ w. []
    found_key-bare env u (some_value k) = λ w. if meets u is_struct then [] else (found_value-bare env (given u
        (key_asked (defined_in env))) k w)

    pub found_value-bare : (a : Env) (b : Option GoType) (c : Value S) →
        found_value nowhere a b (bare_value c) ≡ found_value nowhere a b c
    found_value-bare env t (plain e) = λ w. (found-bare env (asked t) e w)
    found_value-bare env t (braced s es) = λ w. (found_elems-bare env (given t (λ t. Some (under (defined_in env)
        (literal_type (defined_in env) t)))) es w) ++ finding tt as_it_is ((element-bare env t (braced s es) w))

    pub found_stmt-bare : (a : List GoType) (b : Env) (c : Stmt S) →
        found_stmt nowhere a b (bare_stmt c) ≡ found_stmt nowhere a b c
    found_stmt-bare rs env (const_decl _ _ ss) = λ w. (found_constants-bare env nothing_to_repeat 0 ss w)
    found_stmt-bare rs env (var_decl _ _ ss) = λ w. (found_variables-bare env ss w)
    found_stmt-bare rs env (empty _) = λ w. []
    found_stmt-bare rs env (eval _ e) = λ w. (found-bare env as_it_is e w)
    found_stmt-bare rs env (step _ e up) = λ w. (found-bare env as_it_is e w)
    found_stmt-bare rs env (assign _ ls None vs) = λ w. (found_all-bare env [] ls w) ++ (found_all-bare env
        ((assigned_ask-bare env ls vs w)) vs w)
    found_stmt-bare rs env (assign _ ls (Some op) vs) = λ w. (found_all-bare env [] ls w) ++ (found_all-bare env
        (update_asks (defined_in env) op ((all_parts-bare env ls w)) ((all_parts-bare env vs w))) vs w)
    found_stmt-bare rs env (define _ ns vs) = λ w. (found_all-bare env ((defined_ask-bare env ns vs w)) vs w)
    found_stmt-bare rs env (return_ _ es) = λ w. (found_all-bare env (map at_type rs) es w)
    found_stmt-bare rs env (break_ _ n) = λ w. []
    found_stmt-bare rs env (continue_ _ n) = λ w. []
    found_stmt-bare rs env (inner _ b) = λ w. (found_stmts-bare rs (in_block env) b w)
    found_stmt-bare rs env (if_ _ bs last) = λ w. (found_arms-bare rs (in_block env) (λ k. (found_block-bare rs k last
        w)) bs w)
    found_stmt-bare rs env (for_ _ i t p _ b) = λ w. let k : Env = extend (binds_of ((declared_option-bare i w))
        ((declares_first-bare (in_block env) i w))) (in_block env) in (found_first-bare rs (in_block env) i w) ++
        (found_option-bare k as_it_is t w) ++ (found_first-bare rs k p w) ++ (found_stmts-bare rs (in_block k) b w)
    found_stmt-bare rs env (range_ _ l e _ b) = λ w. (found_range-bare env l w) ++ (found-bare env ((ranged_asks-bare
        env e l w)) e w) ++ (found_stmts-bare rs (in_block (extend (binds_of ((defined-bare l w)) ((range_declares-bare
        env ((parts-bare env e w)) l w))) (in_block env))) b w)
    found_stmt-bare rs env (switch _ i t cs) = λ w. let k : Env = extend (binds_of ((declared_option-bare i w))
        ((declares_first-bare (in_block env) i w))) (in_block env) in (found_first-bare rs (in_block env) i w) ++
        (found_option-bare k (option_by_default (defined_in k) ((bound-bare k t w))) t w) ++ (found_cases-bare rs k
        (case_asks (defined_in k) (tag_of k ((bound-bare k t w)))) cs w)
    found_stmt-bare rs env (defer _ e) = λ w. (found-bare env as_it_is e w)
    found_stmt-bare rs env (label _ n s) = λ w. (found_stmt-bare rs env s w)

    pub found_stmts-bare : (a : List GoType) (b : Env) (c : Stmts S) →
        found_stmts nowhere a b (bare_stmts c) ≡ found_stmts nowhere a b c
    found_stmts-bare rs env no_stmts = λ w. []
    found_stmts-bare rs env (stmt_and s ss) = λ w. (found_stmt-bare rs env s w) ++ (found_stmts-bare rs (extend
        (binds_of ((declared-bare s w)) ((declares-bare env s w))) env) ss w)

    pub found_first-bare : (a : List GoType) (b : Env) (c : StmtOption S) →
        found_first nowhere a b (bare_stmt_option c) ≡ found_first nowhere a b c
    found_first-bare rs env no_stmt = λ w. []
    found_first-bare rs env (some_stmt s) = λ w. (found_stmt-bare rs env s w)

    pub found_block-bare : (a : List GoType) (b : Env) (c : BlockOption S) →
        found_block nowhere a b (bare_block_option c) ≡ found_block nowhere a b c
    found_block-bare rs env no_block = λ w. []
    found_block-bare rs env (some_block _ b) = λ w. (found_stmts-bare rs (in_block env) b w)

    pub found_range-bare : (a : Env) (b : RangeLeft S) →
        found_range nowhere a (bare_range_left b) ≡ found_range nowhere a b
    found_range-bare env nothing = λ w. []
    found_range-bare env (assigns es) = λ w. (found_all-bare env [] es w)
    found_range-bare env (defines ns) = λ w. []

    pub found_arms-bare : (a : List GoType) (b : Env) (c : Env → Facts (Unit {0})) (d : Arms S) →
        found_arms nowhere a b c (bare_arms d) ≡ found_arms nowhere a b c d
    found_arms-bare rs env last no_arms = λ w. last env
    found_arms-bare rs env last (arm _ i e _ b rest) = λ w. let k : Env = extend (binds_of ((declared_option-bare i w))
        ((declares_first-bare env i w))) env in (found_first-bare rs env i w) ++ (found-bare k as_it_is e w) ++
        (found_stmts-bare rs (in_block k) b w) ++ (found_arms-bare rs (in_block k) last rest w)

    pub found_cases-bare : (a : List GoType) (b : Env) (c : Asked) (d : Cases S) →
        found_cases nowhere a b c (bare_cases d) ≡ found_cases nowhere a b c d
    found_cases-bare rs env a no_cases = λ w. []
    found_cases-bare rs env a (case _ es b cs) = λ w. (found_all-bare env ((each_of-bare a es w)) es w) ++
        (found_stmts-bare rs (in_block env) b w) ++ (found_cases-bare rs env a cs w)

    pub found_constants-bare : (a : Env) (b : Repeated) (c : ℕ) (d : ValueSpecs S) →
        found_constants nowhere a b c (bare_value_specs d) ≡ found_constants nowhere a b c d
    found_constants-bare env r i no_specs = λ w. []
    found_constants-bare env r i (spec _ ns t es ss) = λ w. let again : Repeated = (if no_values-bare es w then r else
        (λ e. written_type-bare e t w, λ e. all_parts-bare e es w)) in let here : Env = record env { iota = Some i } in
        let bs : Binds = binds_of ((names_of-bare ns w)) (new_constants here ((names_of-bare ns w)) (again.0 env)
        (again.1 here)) in (found_all-bare here ((constants_ask-bare env t es w)) es w) ++ (found_constants-bare (extend
        bs env) again (i + 1) ss w)

    pub found_variables-bare : (a : Env) (b : ValueSpecs S) →
        found_variables nowhere a (bare_value_specs b) ≡ found_variables nowhere a b
    found_variables-bare env no_specs = λ w. []
    found_variables-bare env (spec _ ns t es ss) = λ w. (found_all-bare env ((variables_ask-bare env ns t es w)) es w)
        ++ (found_variables-bare (extend (binds_of ((names_of-bare ns w)) (new_variables env ((names_of-bare ns w))
        ((written_type-bare env t w)) ((no_values-bare es w)) (right_values env ((length-bare ns w)) ((places-bare env
        es w)) ((all_parts-bare env es w))))) env) ss w)
