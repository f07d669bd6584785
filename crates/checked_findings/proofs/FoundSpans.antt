-- What is found in a tree is found at spans of its expressions, in their order.
use Rattle.std.specs.Prelude.{◌≡◌, refl, ℕ, suc, ◌+◌, Bool, true, false, List, [], ◌∷◌, ◌++◌, length, map, Option, Some}
use Rattle.std.specs.Prelude.{None, if◌then◌else◌}
use Rattle.go_tree.specs.Tree.{Expr, ident, int_lit, rune_lit, str_lit, composite, selector, index}
use Rattle.go_tree.specs.Tree.{slice, call, func_lit, type_operand, unary, binary, star, Exprs, no_exprs, expr_and}
use Rattle.go_tree.specs.Tree.{ExprOption, no_expr, some_expr, Elems, no_elems, elem, Value, plain, braced, ValueOption}
use Rattle.go_tree.specs.Tree.{no_value, some_value, Stmt, const_decl, var_decl, empty, eval, step, assign, define}
use Rattle.go_tree.specs.Tree.{return_, break_, continue_, inner, if_, for_, range_, switch, defer, label, Stmts}
use Rattle.go_tree.specs.Tree.{no_stmts, stmt_and, StmtOption, no_stmt, some_stmt, BlockOption, no_block, some_block}
use Rattle.go_tree.specs.Tree.{RangeLeft, nothing, assigns, defines, Arms, no_arms, arm, Cases, no_cases, case}
use Rattle.go_tree.specs.Tree.{ValueSpecs, no_specs, spec}
use Rattle.go_tree.specs.File.{Decl, values, types, func}
use Rattle.go_tree.specs.ScopeNames.Means.{Environment}
use Rattle.go_tree.specs.ScopeNames.FreeNames.{names_of, declared, declared_option, defined}
use Rattle.go_tree.specs.GoTypes.Answers.{given, meets, and_also}
use Rattle.go_tree.specs.GoTypes.Types.{GoType}
use Rattle.go_tree.specs.GoTypes.Defined.{under}
use Rattle.go_tree.specs.GoTypes.Entities.{Entity, World, Env, defined_in, Binds, extend, in_block}
use Rattle.go_tree.specs.GoTypes.TypeNames.{type_meant, written_type}
use Rattle.go_tree.specs.GoTypes.Operands.{Operand}
use Rattle.go_tree.specs.GoTypes.Recorded.{operand_type}
use Rattle.go_tree.specs.GoTypes.Literals.{is_struct, literal_type}
use Rattle.go_tree.specs.GoTypes.Declarations.{binds_of, new_constants, new_variables, Repeated, nothing_to_repeat}
use Rattle.go_tree.specs.GoTypes.Bodies.{literal_env, no_values}
use Rattle.go_tree.specs.GoTypes.Statements.{right_values, tag_of}
use Rattle.go_tree.specs.GoTypes.Typing.{parts, all_parts, bound, element, places, declares, declares_first}
use Rattle.go_tree.specs.GoTypes.Typing.{range_declares, own_or_repeated}
use Rattle.go_tree.specs.GoTypes.Programs.{file_env}
use Rattle.go_tree.specs.GoTypes.WellTyped.{body_env}
use Rattle.expression_spans.specs.Spans.{expr_spans, exprs_spans, option_spans, elems_spans, key_spans, value_spans}
use Rattle.expression_spans.specs.Spans.{stmt_spans, stmts_spans, first_spans, block_spans, left_spans, arms_spans}
use Rattle.expression_spans.specs.Spans.{cases_spans, specs_spans, decl_spans, decls_spans}
use Rattle.checked_findings.specs.Facts.{Asked, as_it_is, at_type, asked, Fact, Facts, type_in, operand_constant}
use Rattle.checked_findings.specs.Facts.{finding}
use Rattle.checked_findings.specs.Asking.{unary_asks, option_by_default, left_asks, right_asks, of_values, index_asks}
use Rattle.checked_findings.specs.Asking.{call_asks, update_asks, case_asks, each_of, behind_field, value_asked}
use Rattle.checked_findings.specs.Asking.{key_asked}
use Rattle.checked_findings.specs.Found.{first_asked, rest_asked, bound_asks, literal_results, constants_ask}
use Rattle.checked_findings.specs.Found.{variables_ask, assigned_ask, defined_ask, ranged_asks, found, found_all}
use Rattle.checked_findings.specs.Found.{found_option, found_elems, found_key, found_value, found_stmt, found_stmts}
use Rattle.checked_findings.specs.Found.{found_first, found_block, found_range, found_arms, found_cases}
use Rattle.checked_findings.specs.Found.{found_constants, found_variables}
use Rattle.checked_findings.specs.Packages.{function_header, function_results, constants_found, variables_found}
use Rattle.checked_findings.specs.Packages.{declaration_found}
use Rattle.checked_findings.specs.LookUp.{all_facts}

module _ {S P : Type 0} (at : S → P) where
  -- findings at some of these spans, in their order
  pub data At : Facts P → List S → Type 0 where
    none : {ss : List S} → At [] ss
    skip : {fs : Facts P} {s : S} {ss : List S} → At fs ss → At fs (s ∷ ss)
    here : {f : Fact P} {fs : Facts P} {s : S} {ss : List S} → f.at ≡ at s → At fs ss → At (f ∷ fs) (s ∷ ss)

  behind : {fs : Facts P} (ss ts : List S) → At fs ts → At fs (ss ++ ts)
  behind [] ts a = a
  behind (s ∷ ss) ts a = skip (behind ss ts a)

  both : {fs gs : Facts P} {ss ts : List S} → At fs ss → At gs ts → At (fs ++ gs) (ss ++ ts)
  both {ts = ts} (none {ss = ss}) b = behind ss ts b
  both (skip a) b = skip (both a b)
  both (here e a) b = here e (both a b)

  unless : (b : Bool) {fs : Facts P} {ss : List S} → At fs ss → At (if b then [] else fs) ss
  unless true a = none
  unless false a = a

  of-type : (s : S) (a : Asked) (o : Operand) (t : Option GoType) →
      At
      (and_also
      (given t (λ t. Some (record { at = at s; type = type_in a t; constant = operand_constant o }))) []) (s ∷ [])
  of-type s a o None = none
  of-type s a o (Some t) = here refl none

  its-own : (s : S) (a : Asked) (o : Option Operand) → At (finding (at s) a o) (s ∷ [])
  its-own s a None = none
  its-own s a (Some o) = of-type s a o (operand_type o)

  mutual
    pub expr-at : (env : Env) (a : Asked) (e : Expr S) → At (found at env a e) (expr_spans e)
    expr-at env a (ident s n) = its-own s a (parts env (ident s n))
    expr-at env a (int_lit s t) = its-own s a (parts env (int_lit s t))
    expr-at env a (rune_lit s t) = its-own s a (parts env (rune_lit s t))
    expr-at env a (str_lit s t) = its-own s a (parts env (str_lit s t))
    expr-at env a (composite s t es) =
        both (elems-at env (given (type_meant env t) (λ u. Some (under (defined_in env) u))) es)
        (its-own s a (parts env (composite s t es)))
    expr-at env a (selector s b n) = both (expr-at env as_it_is b) (its-own s a (parts env (selector s b n)))
    expr-at env a (index s b i) =
        both (both (expr-at env as_it_is b) (expr-at env (index_asks (defined_in env) (parts env b)) i))
        (its-own s a (parts env (index s b i)))
    expr-at env a (slice s b i j) =
        both (both (both (expr-at env as_it_is b) (option-at env bound_asks i)) (option-at env bound_asks j))
        (its-own s a (parts env (slice s b i j)))
    expr-at env a (call s f xs r) =
        both
        (both (expr-at env as_it_is f) (exprs-at env (call_asks (defined_in env) (parts env f) (all_parts env xs)) xs))
        (its-own s a (parts env (call s f xs r)))
    expr-at env a (func_lit s g t b) =
        both (stmts-at (literal_results env g) (literal_env env g) b) (its-own s a (parts env (func_lit s g t b)))
    expr-at env a (type_operand s t) = its-own s a (parts env (type_operand s t))
    expr-at env a (unary s op e) =
        both (expr-at env (unary_asks a (parts env e)) e) (its-own s a (parts env (unary s op e)))
    expr-at env a (binary s op x y) =
        both
        (both (expr-at env (of_values (left_asks (defined_in env) op a) (parts env x) (parts env y)) x)
        (expr-at env (of_values (right_asks (defined_in env) op a) (parts env x) (parts env y)) y))
        (its-own s a (parts env (binary s op x y)))
    expr-at env a (star s e) = both (expr-at env as_it_is e) (its-own s a (parts env (star s e)))

    exprs-at : (env : Env) (xs : List Asked) (es : Exprs S) → At (found_all at env xs es) (exprs_spans es)
    exprs-at env xs no_exprs = none
    exprs-at env xs (expr_and e es) = both (expr-at env (first_asked xs) e) (exprs-at env (rest_asked xs) es)

    option-at : (env : Env) (a : Asked) (e : ExprOption S) → At (found_option at env a e) (option_spans e)
    option-at env a no_expr = none
    option-at env a (some_expr e) = expr-at env a e

    elems-at : (env : Env) (u : Option GoType) (es : Elems S) → At (found_elems at env u es) (elems_spans es)
    elems-at env u no_elems = none
    elems-at env u (elem _ k v es) =
        both (both (key-at env u k) (value-at env (given u (value_asked (defined_in env) env.home k)) v))
        (elems-at env (given u (λ u. Some (behind_field k u))) es)

    key-at : (env : Env) (u : Option GoType) (k : ValueOption S) → At (found_key at env u k) (key_spans k)
    key-at env u no_value = none
    key-at env u (some_value k) =
        unless (meets u is_struct) (value-at env (given u (key_asked (defined_in env))) k)

    value-at : (env : Env) (t : Option GoType) (v : Value S) → At (found_value at env t v) (value_spans v)
    value-at env t (plain e) = expr-at env (asked t) e
    value-at env t (braced s es) =
        both (elems-at env (given t (λ t. Some (under (defined_in env) (literal_type (defined_in env) t)))) es)
        (its-own s as_it_is (element env t (braced s es)))

    stmt-at : (rs : List GoType) (env : Env) (s : Stmt S) → At (found_stmt at rs env s) (stmt_spans s)
    stmt-at rs env (const_decl _ _ ss) = constants-at env nothing_to_repeat 0 ss
    stmt-at rs env (var_decl _ _ ss) = variables-at env ss
    stmt-at rs env (empty _) = none
    stmt-at rs env (eval _ e) = expr-at env as_it_is e
    stmt-at rs env (step _ e up) = expr-at env as_it_is e
    stmt-at rs env (assign _ ls None vs) = both (exprs-at env [] ls) (exprs-at env (assigned_ask env ls vs) vs)
    stmt-at rs env (assign _ ls (Some op) vs) =
        both (exprs-at env [] ls)
        (exprs-at env (update_asks (defined_in env) op (all_parts env ls) (all_parts env vs)) vs)
    stmt-at rs env (define _ ns vs) = exprs-at env (defined_ask env ns vs) vs
    stmt-at rs env (return_ _ es) = exprs-at env (map at_type rs) es
    stmt-at rs env (break_ _ n) = none
    stmt-at rs env (continue_ _ n) = none
    stmt-at rs env (inner _ b) = stmts-at rs (in_block env) b
    stmt-at rs env (if_ _ bs last) =
        arms-at rs (in_block env) (λ k. found_block at rs k last) (block_spans last) (λ k. block-at rs k last) bs
    stmt-at rs env (for_ _ i t p _ b) =
        let k : Env = extend (binds_of (declared_option i) (declares_first (in_block env) i)) (in_block env) in
        both (both (both (first-at rs (in_block env) i) (option-at k as_it_is t)) (first-at rs k p))
        (stmts-at rs (in_block k) b)
    stmt-at rs env (range_ _ l e _ b) =
        both (both (left-at env l) (expr-at env (ranged_asks env e l) e))
        (stmts-at rs
        (in_block (extend (binds_of (defined l) (range_declares env (parts env e) l)) (in_block env))) b)
    stmt-at rs env (switch _ i t cs) =
        let k : Env = extend (binds_of (declared_option i) (declares_first (in_block env) i)) (in_block env) in
        both
        (both (first-at rs (in_block env) i) (option-at k (option_by_default (defined_in k) (bound k t)) t))
        (cases-at rs k (case_asks (defined_in k) (tag_of k (bound k t))) cs)
    stmt-at rs env (defer _ e) = expr-at env as_it_is e
    stmt-at rs env (label _ n s) = stmt-at rs env s

    pub stmts-at : (rs : List GoType) (env : Env) (b : Stmts S) → At (found_stmts at rs env b) (stmts_spans b)
    stmts-at rs env no_stmts = none
    stmts-at rs env (stmt_and s ss) =
        both (stmt-at rs env s) (stmts-at rs (extend (binds_of (declared s) (declares env s)) env) ss)

    first-at : (rs : List GoType) (env : Env) (i : StmtOption S) → At (found_first at rs env i) (first_spans i)
    first-at rs env no_stmt = none
    first-at rs env (some_stmt s) = stmt-at rs env s

    block-at : (rs : List GoType) (env : Env) (z : BlockOption S) → At (found_block at rs env z) (block_spans z)
    block-at rs env no_block = none
    block-at rs env (some_block _ b) = stmts-at rs (in_block env) b

    left-at : (env : Env) (l : RangeLeft S) → At (found_range at env l) (left_spans l)
    left-at env nothing = none
    left-at env (assigns es) = exprs-at env [] es
    left-at env (defines ns) = none

    arms-at : (rs : List GoType) (env : Env) (last : Env → Facts P) (ss : List S) → ((k : Env) → At (last k) ss) →
        (bs : Arms S) → At (found_arms at rs env last bs) (arms_spans ss bs)
    arms-at rs env last ss h no_arms = h env
    arms-at rs env last ss h (arm _ i e _ b rest) =
        let k : Env = extend (binds_of (declared_option i) (declares_first env i)) env in
        both (both (both (first-at rs env i) (expr-at k as_it_is e)) (stmts-at rs (in_block k) b))
        (arms-at rs (in_block k) last ss h rest)

    cases-at : (rs : List GoType) (env : Env) (a : Asked) (cs : Cases S) →
        At (found_cases at rs env a cs) (cases_spans cs)
    cases-at rs env a no_cases = none
    cases-at rs env a (case _ es b cs) =
        both (both (exprs-at env (each_of a es) es) (stmts-at rs (in_block env) b)) (cases-at rs env a cs)

    constants-at : (env : Env) (r : Repeated) (i : ℕ) (ss : ValueSpecs S) →
        At (found_constants at env r i ss) (specs_spans ss)
    constants-at env r i no_specs = none
    constants-at env r i (spec _ ns t es ss) =
        let again : Repeated = own_or_repeated r t es in
        let here_is : Env = record env { iota = Some i } in
        let bs : Binds =
        binds_of (names_of ns) (new_constants here_is (names_of ns) (again.0 env) (again.1 here_is)) in
        both (exprs-at here_is (constants_ask env t es) es) (constants-at (extend bs env) again (i + 1) ss)

    variables-at : (env : Env) (ss : ValueSpecs S) → At (found_variables at env ss) (specs_spans ss)
    variables-at env no_specs = none
    variables-at env (spec _ ns t es ss) =
        both (exprs-at env (variables_ask env ns t es) es)
        (variables-at
        (extend
        (binds_of (names_of ns)
        (new_variables env (names_of ns) (written_type env t) (no_values es)
        (right_values env (length ns) (places env es) (all_parts env es)))) env) ss)

  -- ---- declarations

  own-constants-at : (env : ℕ → Env) (i : ℕ) (ss : ValueSpecs S) → At (constants_found at env i ss) (specs_spans ss)
  own-constants-at env i no_specs = none
  own-constants-at env i (spec _ ns t es ss) =
      both (exprs-at (env i) (constants_ask (env i) t es) es) (own-constants-at env (suc i) ss)

  own-variables-at : (env : Env) (ss : ValueSpecs S) → At (variables_found at env ss) (specs_spans ss)
  own-variables-at env no_specs = none
  own-variables-at env (spec _ ns t es ss) =
      both (exprs-at env (variables_ask env ns t es) es) (own-variables-at env ss)

  pub decl-at : (w : World) (home : ℕ) (imports : Environment Entity) (d : Decl S) →
      At (declaration_found at w home imports d) (decl_spans d)
  decl-at w home imports (values (const_decl _ _ ss)) =
      own-constants-at (λ i. file_env w home imports (Some i)) 0 ss
  decl-at w home imports (values (var_decl _ _ ss)) = own-variables-at (file_env w home imports None) ss
  decl-at w home imports (values s) = none
  decl-at w home imports (types _ grouped ts) = none
  decl-at w home imports (func f) =
      let h = function_header home imports f in stmts-at (function_results w h f) (body_env w h f) f.body

  pub decls-at : (w : World) (home : ℕ) (imports : Environment Entity) (ds : List (Decl S)) →
      At (all_facts (map (declaration_found at w home imports) ds)) (decls_spans ds)
  decls-at w home imports [] = none
  decls-at w home imports (d ∷ ds) = both (decl-at w home imports d) (decls-at w home imports ds)
