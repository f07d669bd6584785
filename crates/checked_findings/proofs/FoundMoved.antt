-- What is found in a tree with other spans in the place of its own is what is found in the tree, at the places that
-- these spans have.
use Rattle.std.specs.Prelude.{◌≡◌, refl, ℕ, suc, ◌+◌, List, [], ◌∷◌, ◌++◌, map, length, Option, Some, None}
use Rattle.std.specs.Prelude.{if◌then◌else◌}
use Rattle.go_tree.specs.Tree.{NameAt, TypeExpr, named, pointer, slice_type, map_type, struct_type, Fields, no_fields}
use Rattle.go_tree.specs.Tree.{field, Param, Sig, Expr, ident, int_lit, rune_lit, str_lit, composite, selector, index}
use Rattle.go_tree.specs.Tree.{slice, call, func_lit, type_operand, unary, binary, star, Exprs, no_exprs, expr_and}
use Rattle.go_tree.specs.Tree.{ExprOption, no_expr, some_expr, Elems, no_elems, elem, Value, plain, braced, ValueOption}
use Rattle.go_tree.specs.Tree.{no_value, some_value, Stmt, const_decl, var_decl, empty, eval, step, assign, define}
use Rattle.go_tree.specs.Tree.{return_, break_, continue_, inner, if_, for_, range_, switch, defer, label, Stmts}
use Rattle.go_tree.specs.Tree.{no_stmts, stmt_and, StmtOption, no_stmt, some_stmt, BlockOption, no_block, some_block}
use Rattle.go_tree.specs.Tree.{RangeLeft, nothing, assigns, defines, Arms, no_arms, arm, Cases, no_cases, case}
use Rattle.go_tree.specs.Tree.{ValueSpecs, no_specs, spec}
use Rattle.go_tree.specs.ScopeNames.FreeNames.{names_of}
use Rattle.go_tree.specs.GoTypes.Answers.{given, meets}
use Rattle.go_tree.specs.GoTypes.Types.{GoType}
use Rattle.go_tree.specs.GoTypes.Defined.{under}
use Rattle.go_tree.specs.GoTypes.Entities.{Env, Binds, defined_in, extend, in_block}
use Rattle.go_tree.specs.GoTypes.Literals.{is_struct, literal_type}
use Rattle.go_tree.specs.GoTypes.Declarations.{binds_of, new_constants, new_variables, Repeated, nothing_to_repeat}
use Rattle.go_tree.specs.GoTypes.Statements.{right_values, tag_of}
use Rattle.run_rules.specs.Respanned.{expr_with, exprs_with, expr_option_with, elems_with, value_option_with}
use Rattle.run_rules.specs.Respanned.{value_with, stmt_with, stmts_with, stmt_option_with, block_option_with, left_with}
use Rattle.run_rules.specs.Respanned.{arms_with, cases_with, specs_with}
use Rattle.checked_findings.specs.Facts.{Asked, as_it_is, at_type, asked, Facts, finding}
use Rattle.checked_findings.specs.Asking.{unary_asks, option_by_default, left_asks, right_asks, of_values, index_asks}
use Rattle.checked_findings.specs.Asking.{call_asks, update_asks, case_asks, key_asked}
use Rattle.checked_findings.specs.Found.{first_asked, rest_asked, bound_asks, found, found_all, found_option}
use Rattle.checked_findings.specs.Found.{found_elems, found_key, found_value, found_stmt, found_stmts, found_first}
use Rattle.checked_findings.specs.Found.{found_block, found_range, found_arms, found_cases, found_constants}
use Rattle.checked_findings.specs.Found.{found_variables}
use Rattle.checked_findings.specs.LookUp.{moved}
use Rattle.checked_findings.proofs.TypingMoved.{type_meant-with, written_type-with, func_type-with, parts-with}
use Rattle.checked_findings.proofs.TypingMoved.{all_parts-with, bound-with, element-with, places-with, targets-with}
use Rattle.checked_findings.proofs.TypingMoved.{declares-with, declares_first-with, range_declares-with, names_of-with}
use Rattle.checked_findings.proofs.TypingMoved.{declared-with, declared_option-with, defined-with, no_values-with}
use Rattle.checked_findings.proofs.TypingMoved.{length-with, literal_results-with, literal_env-with, each_of-with}
use Rattle.checked_findings.proofs.TypingMoved.{value_asked-with, constants_ask-with, variables_ask-with}
use Rattle.checked_findings.proofs.TypingMoved.{assigned_ask-with, defined_ask-with, ranged_asks-with}
use Rattle.checked_findings.proofs.TypingMoved.{behind_field-with}

module _ {S T P : Type 0} (at : T → P) (to : S → T) where
  mutual
    pub found-with : (a : Env) (b : Asked) (c : Expr S) →
        found at a b (expr_with to c) ≡ found (moved at to) a b c
    found-with env a (ident s n) =
        λ w. finding (at (to s)) a ((parts-with to env (ident s n) w))
    found-with env a (int_lit s t) =
        λ w. finding (at (to s)) a ((parts-with to env (int_lit s t) w))
    found-with env a (rune_lit s t) =
        λ w. finding (at (to s)) a ((parts-with to env (rune_lit s t) w))
    found-with env a (str_lit s t) =
        λ w. finding (at (to s)) a ((parts-with to env (str_lit s t) w))
    found-with env a (composite s t es) =
        λ w. (found_elems-with env (given ((type_meant-with to env t w)) (λ u. Some (under (defined_in env) u))) es w)
        ++ finding (at (to s)) a ((parts-with to env (composite s t es) w))
    found-with env a (selector s b n) =
        λ w. (found-with env as_it_is b w) ++ finding (at (to s)) a ((parts-with to env (selector s b n) w))
    found-with env a (index s b i) =
        λ w. (found-with env as_it_is b w) ++ (found-with env (index_asks (defined_in env) ((parts-with to env b w))) i
        w) ++ finding (at (to s)) a ((parts-with to env (index s b i) w))
    found-with env a (slice s b i j) =
        λ w. (found-with env as_it_is b w) ++ (found_option-with env bound_asks i w) ++ (found_option-with env
        bound_asks j w) ++ finding (at (to s)) a ((parts-with to env (slice s b i j) w))
    found-with env a (call s f xs r) =
        λ w. (found-with env as_it_is f w) ++ (found_all-with env (call_asks (defined_in env) ((parts-with to env f w))
        ((all_parts-with to env xs w))) xs w) ++ finding (at (to s)) a ((parts-with to env (call s f xs r) w))
    found-with env a (func_lit s g t b) =
        λ w. (found_stmts-with ((literal_results-with to env g w)) ((literal_env-with to env g w)) b w) ++ finding (at
        (to s)) a ((parts-with to env (func_lit s g t b) w))
    found-with env a (type_operand s t) =
        λ w. finding (at (to s)) a ((parts-with to env (type_operand s t) w))
    found-with env a (unary s op e) =
        λ w. (found-with env (unary_asks a ((parts-with to env e w))) e w) ++ finding (at (to s)) a ((parts-with to env
        (unary s op e) w))
    found-with env a (binary s op x y) =
        λ w. (found-with env (of_values (left_asks (defined_in env) op a) ((parts-with to env x w)) ((parts-with to env
        y w))) x w) ++ (found-with env (of_values (right_asks (defined_in env) op a) ((parts-with to env x w))
        ((parts-with to env y w))) y w) ++ finding (at (to s)) a ((parts-with to env (binary s op x y) w))
    found-with env a (star s e) =
        λ w. (found-with env as_it_is e w) ++ finding (at (to s)) a ((parts-with to env (star s e) w))

    pub found_all-with : (a : Env) (b : List Asked) (c : Exprs S) →
        found_all at a b (exprs_with to c) ≡ found_all (moved at to) a b c
    found_all-with env xs no_exprs =
        λ w. []
    found_all-with env xs (expr_and e es) =
        λ w. (found-with env (first_asked xs) e w) ++ (found_all-with env (rest_asked xs) es w)

    pub found_option-with : (a : Env) (b : Asked) (c : ExprOption S) →
        found_option at a b (expr_option_with to c) ≡ found_option (moved at to) a b c
    found_option-with env a no_expr =
        λ w. []
    found_option-with env a (some_expr e) =
        λ w. (found-with env a e w)

    pub found_elems-with : (a : Env) (b : Option GoType) (c : Elems S) →
        found_elems at a b (elems_with to c) ≡ found_elems (moved at to) a b c
    found_elems-with env u no_elems =
        λ w. []
    found_elems-with env u (elem _ k v es) =
        λ w. (found_key-with env u k w) ++ (found_value-with env (given u ((value_asked-with to (defined_in env)
        env.home k w))) v w) ++ (found_elems-with env (given u (λ u. Some ((behind_field-with to k u w)))) es w)

    pub found_key-with : (a : Env) (b : Option GoType) (c : ValueOption S) →
        found_key at a b (value_option_with to c) ≡ found_key (moved at to) a b c
    found_key-with env u no_value =
        λ w. []
    found_key-with env u (some_value k) =
        λ w. if meets u is_struct then [] else (found_value-with env (given u (key_asked (defined_in env))) k w)

    pub found_value-with : (a : Env) (b : Option GoType) (c : Value S) →
        found_value at a b (value_with to c) ≡ found_value (moved at to) a b c
    found_value-with env t (plain e) =
        λ w. (found-with env (asked t) e w)
    found_value-with env t (braced s es) =
        λ w. (found_elems-with env (given t (λ t. Some (under (defined_in env) (literal_type (defined_in env) t)))) es
        w) ++ finding (at (to s)) as_it_is ((element-with to env t (braced s es) w))

    pub found_stmt-with : (a : List GoType) (b : Env) (c : Stmt S) →
        found_stmt at a b (stmt_with to c) ≡ found_stmt (moved at to) a b c
    found_stmt-with rs env (const_decl _ _ ss) =
        λ w. (found_constants-with env nothing_to_repeat 0 ss w)
    found_stmt-with rs env (var_decl _ _ ss) =
        λ w. (found_variables-with env ss w)
    found_stmt-with rs env (empty _) =
        λ w. []
    found_stmt-with rs env (eval _ e) =
        λ w. (found-with env as_it_is e w)
    found_stmt-with rs env (step _ e up) =
        λ w. (found-with env as_it_is e w)
    found_stmt-with rs env (assign _ ls None vs) =
        λ w. (found_all-with env [] ls w) ++ (found_all-with env ((assigned_ask-with to env ls vs w)) vs w)
    found_stmt-with rs env (assign _ ls (Some op) vs) =
        λ w. (found_all-with env [] ls w) ++ (found_all-with env (update_asks (defined_in env) op ((all_parts-with to
        env ls w)) ((all_parts-with to env vs w))) vs w)
    found_stmt-with rs env (define _ ns vs) =
        λ w. (found_all-with env ((defined_ask-with to env ns vs w)) vs w)
    found_stmt-with rs env (return_ _ es) =
        λ w. (found_all-with env (map at_type rs) es w)
    found_stmt-with rs env (break_ _ n) =
        λ w. []
    found_stmt-with rs env (continue_ _ n) =
        λ w. []
    found_stmt-with rs env (inner _ b) =
        λ w. (found_stmts-with rs (in_block env) b w)
    found_stmt-with rs env (if_ _ bs last) =
        λ w. (found_arms-with rs (in_block env) (λ k. (found_block-with rs k last w)) bs w)
    found_stmt-with rs env (for_ _ i t p _ b) =
        λ w. let k : Env = extend (binds_of ((declared_option-with to i w)) ((declares_first-with to (in_block env) i
        w))) (in_block env) in (found_first-with rs (in_block env) i w) ++ (found_option-with k as_it_is t w) ++
        (found_first-with rs k p w) ++ (found_stmts-with rs (in_block k) b w)
    found_stmt-with rs env (range_ _ l e _ b) =
        λ w. (found_range-with env l w) ++ (found-with env ((ranged_asks-with to env e l w)) e w) ++ (found_stmts-with
        rs (in_block (extend (binds_of ((defined-with to l w)) ((range_declares-with to env ((parts-with to env e
        w)) l w))) (in_block env))) b w)
    found_stmt-with rs env (switch _ i t cs) =
        λ w. let k : Env = extend (binds_of ((declared_option-with to i w)) ((declares_first-with to (in_block env) i
        w))) (in_block env) in (found_first-with rs (in_block env) i w) ++ (found_option-with k (option_by_default
        (defined_in k) ((bound-with to k t w))) t w) ++ (found_cases-with rs k (case_asks (defined_in k) (tag_of k
        ((bound-with to k t w)))) cs w)
    found_stmt-with rs env (defer _ e) =
        λ w. (found-with env as_it_is e w)
    found_stmt-with rs env (label _ n s) =
        λ w. (found_stmt-with rs env s w)

    pub found_stmts-with : (a : List GoType) (b : Env) (c : Stmts S) →
        found_stmts at a b (stmts_with to c) ≡ found_stmts (moved at to) a b c
    found_stmts-with rs env no_stmts =
        λ w. []
    found_stmts-with rs env (stmt_and s ss) =
        λ w. (found_stmt-with rs env s w) ++ (found_stmts-with rs (extend (binds_of ((declared-with to s w))
        ((declares-with to env s w))) env) ss w)

    pub found_first-with : (a : List GoType) (b : Env) (c : StmtOption S) →
        found_first at a b (stmt_option_with to c) ≡ found_first (moved at to) a b c
    found_first-with rs env no_stmt =
        λ w. []
    found_first-with rs env (some_stmt s) =
        λ w. (found_stmt-with rs env s w)

    pub found_block-with : (a : List GoType) (b : Env) (c : BlockOption S) →
        found_block at a b (block_option_with to c) ≡ found_block (moved at to) a b c
    found_block-with rs env no_block =
        λ w. []
    found_block-with rs env (some_block _ b) =
        λ w. (found_stmts-with rs (in_block env) b w)

    pub found_range-with : (a : Env) (b : RangeLeft S) →
        found_range at a (left_with to b) ≡ found_range (moved at to) a b
    found_range-with env nothing =
        λ w. []
    found_range-with env (assigns es) =
        λ w. (found_all-with env [] es w)
    found_range-with env (defines ns) =
        λ w. []

    pub found_arms-with : (a : List GoType) (b : Env) (c : Env → Facts P) (d : Arms S) →
        found_arms at a b c (arms_with to d) ≡ found_arms (moved at to) a b c d
    found_arms-with rs env last no_arms =
        λ w. last env
    found_arms-with rs env last (arm _ i e _ b rest) =
        λ w. let k : Env = extend (binds_of ((declared_option-with to i w)) ((declares_first-with to env i w))) env in
        (found_first-with rs env i w) ++ (found-with k as_it_is e w) ++ (found_stmts-with rs (in_block k) b w) ++
        (found_arms-with rs (in_block k) last rest w)

    pub found_cases-with : (a : List GoType) (b : Env) (c : Asked) (d : Cases S) →
        found_cases at a b c (cases_with to d) ≡ found_cases (moved at to) a b c d
    found_cases-with rs env a no_cases =
        λ w. []
    found_cases-with rs env a (case _ es b cs) =
        λ w. (found_all-with env ((each_of-with to a es w)) es w) ++ (found_stmts-with rs (in_block env) b w) ++
        (found_cases-with rs env a cs w)

    pub found_constants-with : (a : Env) (b : Repeated) (c : ℕ) (d : ValueSpecs S) →
        found_constants at a b c (specs_with to d) ≡ found_constants (moved at to) a b c d
    found_constants-with env r i no_specs =
        λ w. []
    found_constants-with env r i (spec _ ns t es ss) =
        λ w. let again : Repeated = (if no_values-with to es w then r else (
          λ e. written_type-with to e t w,
          λ e.
              all_parts-with to e es w,
        )) in let here : Env = record env { iota = Some i } in let bs : Binds = binds_of
        ((names_of-with to ns w)) (new_constants here ((names_of-with to ns w)) (again.0 env) (again.1 here)) in
        (found_all-with here ((constants_ask-with to env t es w)) es w) ++ (found_constants-with (extend bs env)
        again (i + 1) ss w)

    pub found_variables-with : (a : Env) (b : ValueSpecs S) →
        found_variables at a (specs_with to b) ≡ found_variables (moved at to) a b
    found_variables-with env no_specs =
        λ w. []
    found_variables-with env (spec _ ns t es ss) =
        λ w. (found_all-with env ((variables_ask-with to env ns t es w)) es w) ++ (found_variables-with (extend
        (binds_of ((names_of-with to ns w)) (new_variables env ((names_of-with to ns w)) ((written_type-with to env
        t w)) ((no_values-with to es w)) (right_values env ((length-with to ns w)) ((places-with to env es w))
        ((all_parts-with to env es w))))) env) ss w)
