-- What is found of the expressions in expressions, statements and blocks: of each that is typed its place, its type
-- there and its constant, those of its parts in order and then its own (Go specification, Expressions; Statements;
-- Declarations and scope; Constants). What is asked of an expression comes from around it, what it is from its parts.
use Rattle.std.specs.Prelude.{ℕ, ◌+◌, List, [], ◌∷◌, ◌++◌, length, map, Option, Some, None, if◌then◌else◌}
use Rattle.go_tree.specs.declared.const_eval.kinds.Kind.TheVariants as kind
use Rattle.go_tree.specs.Tree.{NameAt, TypeExpr, Expr, ident, int_lit, rune_lit, str_lit, composite, selector, index}
use Rattle.go_tree.specs.Tree.{slice, call, func_lit, type_operand, unary, binary, star, Exprs, no_exprs, expr_and}
use Rattle.go_tree.specs.Tree.{ExprOption, no_expr, some_expr, Elems, no_elems, elem, Value, plain, braced, ValueOption}
use Rattle.go_tree.specs.Tree.{no_value, some_value, Sig, Stmt, const_decl, var_decl, empty, eval, step, assign, define}
use Rattle.go_tree.specs.Tree.{return_, break_, continue_, inner, if_, for_, range_, switch, defer, label, Stmts}
use Rattle.go_tree.specs.Tree.{no_stmts, stmt_and, StmtOption, no_stmt, some_stmt, BlockOption, no_block, some_block}
use Rattle.go_tree.specs.Tree.{RangeLeft, nothing, assigns, defines, Arms, no_arms, arm, Cases, no_cases, case}
use Rattle.go_tree.specs.Tree.{ValueSpecs, no_specs, spec}
use Rattle.go_tree.specs.ScopeNames.FreeNames.{names_of, declared, declared_option, defined}
use Rattle.go_tree.specs.GoTypes.Answers.{given, meets, otherwise}
use Rattle.go_tree.specs.GoTypes.Types.{GoType, FuncType, basic}
use Rattle.go_tree.specs.GoTypes.Defined.{under}
use Rattle.go_tree.specs.GoTypes.Entities.{Env, defined_in, Binds, extend, in_block}
use Rattle.go_tree.specs.GoTypes.TypeNames.{type_meant, func_type, written_type}
use Rattle.go_tree.specs.GoTypes.Operands.{Operand}
use Rattle.go_tree.specs.GoTypes.Literals.{is_struct, literal_type}
use Rattle.go_tree.specs.GoTypes.Declarations.{binds_of, new_constants, new_variables, Repeated, nothing_to_repeat}
use Rattle.go_tree.specs.GoTypes.Bodies.{literal_env, no_values}
use Rattle.go_tree.specs.GoTypes.Statements.{right_values, tag_of}
use Rattle.go_tree.specs.GoTypes.Typing.{parts, all_parts, bound, element, places, targets, declares, declares_first}
use Rattle.go_tree.specs.GoTypes.Typing.{range_declares, own_or_repeated}
use Rattle.checked_findings.specs.Facts.{Asked, as_it_is, at_type, asked, Facts, finding}
use Rattle.checked_findings.specs.Asking.{unary_asks, option_by_default, left_asks, right_asks, of_values, index_asks}
use Rattle.checked_findings.specs.Asking.{call_asks, values_ask, update_asks, case_asks, target_types, defined_types}
use Rattle.checked_findings.specs.Asking.{each_of, behind_field, value_asked, key_asked, over_asks}

-- what is asked of the first expression, and of those after it
abbrev pub first_asked : List Asked → Asked
first_asked [] = as_it_is
first_asked (a ∷ more) = a

-- what is asked of the others
abbrev pub rest_asked : List Asked → List Asked
rest_asked [] = []
rest_asked (a ∷ more) = more

-- the bounds of a slice are at most an `int`
abbrev pub bound_asks : Asked
bound_asks = at_type (basic kind.Int)

-- the results of a function of this type
abbrev pub results_in : Option FuncType → List GoType
results_in None = []
results_in (Some f) = f.results

module _ {S : Type 0} where
  -- the results of a function literal
  abbrev pub literal_results : Env → Sig S → List GoType
  literal_results env g = results_in (func_type env g)

  -- the type that a spec writes, if it writes one
  abbrev pub spec_type : Env → Option (TypeExpr S) → Option GoType
  spec_type env t = given (written_type env t) (λ t. t)

  -- the values of a spec of constants: the type that is written, or each as it is
  abbrev pub constants_ask : Env → Option (TypeExpr S) → Exprs S → List Asked
  constants_ask env t es = each_of (asked (spec_type env t)) es

  -- the values of a spec of variables: the type that is written, or each its own
  abbrev pub variables_ask : Env → List (NameAt S) → Option (TypeExpr S) → Exprs S → List Asked
  variables_ask env ns t es =
      values_ask (defined_in env) (places env es) (map (λ n. spec_type env t) (names_of ns))
      (otherwise (all_parts env es) [])

  -- the right side of an assignment
  abbrev pub assigned_ask : Env → Exprs S → Exprs S → List Asked
  assigned_ask env ls rs =
      values_ask (defined_in env) (places env rs) (target_types (targets env ls)) (otherwise (all_parts env rs) [])

  -- the right side of a short declaration
  abbrev pub defined_ask : Env → List (NameAt S) → Exprs S → List Asked
  defined_ask env ns rs =
      values_ask (defined_in env) (places env rs) (defined_types env (names_of ns)) (otherwise (all_parts env rs) [])

  -- what is ranged over
  abbrev pub ranged_asks : Env → Expr S → RangeLeft S → Asked
  ranged_asks env e l = otherwise (given (parts env e) (λ o. Some (over_asks env o l))) as_it_is

-- `at` says the place of a node by its span: the span itself, or the span counted from the start of a declaration
module _ {S P : Type 0} (at : S → P) where
  abbrev mutual
    -- in an expression of which this is asked
    pub found : Env → Asked → Expr S → Facts P
    found env a (ident s n) = finding (at s) a (parts env (ident s n))
    found env a (int_lit s t) = finding (at s) a (parts env (int_lit s t))
    found env a (rune_lit s t) = finding (at s) a (parts env (rune_lit s t))
    found env a (str_lit s t) = finding (at s) a (parts env (str_lit s t))
    found env a (composite s t es) =
        found_elems env (given (type_meant env t) (λ u. Some (under (defined_in env) u))) es
        ++ finding (at s) a (parts env (composite s t es))
    found env a (selector s b n) = found env as_it_is b ++ finding (at s) a (parts env (selector s b n))
    found env a (index s b i) =
        found env as_it_is b ++ found env (index_asks (defined_in env) (parts env b)) i
        ++ finding (at s) a (parts env (index s b i))
    found env a (slice s b i j) =
        found env as_it_is b ++ found_option env bound_asks i ++ found_option env bound_asks j
        ++ finding (at s) a (parts env (slice s b i j))
    found env a (call s f xs r) =
        found env as_it_is f ++ found_all env (call_asks (defined_in env) (parts env f) (all_parts env xs)) xs
        ++ finding (at s) a (parts env (call s f xs r))
    found env a (func_lit s g t b) =
        found_stmts (literal_results env g) (literal_env env g) b ++ finding (at s) a (parts env (func_lit s g t b))
    found env a (type_operand s t) = finding (at s) a (parts env (type_operand s t))
    found env a (unary s op e) =
        found env (unary_asks a (parts env e)) e ++ finding (at s) a (parts env (unary s op e))
    found env a (binary s op x y) =
        found env (of_values (left_asks (defined_in env) op a) (parts env x) (parts env y)) x
        ++ found env (of_values (right_asks (defined_in env) op a) (parts env x) (parts env y)) y
        ++ finding (at s) a (parts env (binary s op x y))
    found env a (star s e) = found env as_it_is e ++ finding (at s) a (parts env (star s e))

    -- in a list of expressions, of which this is asked in order
    pub found_all : Env → List Asked → Exprs S → Facts P
    found_all env xs no_exprs = []
    found_all env xs (expr_and e es) = found env (first_asked xs) e ++ found_all env (rest_asked xs) es

    -- in one that may be left out
    pub found_option : Env → Asked → ExprOption S → Facts P
    found_option env a no_expr = []
    found_option env a (some_expr e) = found env a e

    -- in the elements of a literal whose type has this underlying type
    pub found_elems : Env → Option GoType → Elems S → Facts P
    found_elems env u no_elems = []
    found_elems env u (elem _ k v es) =
        found_key env u k ++ found_value env (given u (value_asked (defined_in env) env.home k)) v
        ++ found_elems env (given u (λ u. Some (behind_field k u))) es

    -- in a key; one that names a field is no expression
    pub found_key : Env → Option GoType → ValueOption S → Facts P
    found_key env u no_value = []
    found_key env u (some_value k) =
        if meets u is_struct then [] else found_value env (given u (key_asked (defined_in env))) k

    -- in a key or value to a place of this type; elements in braces alone have it
    pub found_value : Env → Option GoType → Value S → Facts P
    found_value env t (plain e) = found env (asked t) e
    found_value env t (braced s es) =
        found_elems env (given t (λ t. Some (under (defined_in env) (literal_type (defined_in env) t)))) es
        ++ finding (at s) as_it_is (element env t (braced s es))

    -- in a statement of a body with these results
    pub found_stmt : List GoType → Env → Stmt S → Facts P
    found_stmt rs env (const_decl _ _ ss) = found_constants env nothing_to_repeat 0 ss
    found_stmt rs env (var_decl _ _ ss) = found_variables env ss
    found_stmt rs env (empty _) = []
    found_stmt rs env (eval _ e) = found env as_it_is e
    found_stmt rs env (step _ e up) = found env as_it_is e
    found_stmt rs env (assign _ ls None vs) = found_all env [] ls ++ found_all env (assigned_ask env ls vs) vs
    found_stmt rs env (assign _ ls (Some op) vs) =
        found_all env [] ls
        ++ found_all env (update_asks (defined_in env) op (all_parts env ls) (all_parts env vs)) vs
    found_stmt rs env (define _ ns vs) = found_all env (defined_ask env ns vs) vs
    found_stmt rs env (return_ _ es) = found_all env (map at_type rs) es
    found_stmt rs env (break_ _ n) = []
    found_stmt rs env (continue_ _ n) = []
    found_stmt rs env (inner _ b) = found_stmts rs (in_block env) b
    found_stmt rs env (if_ _ bs last) = found_arms rs (in_block env) (λ k. found_block rs k last) bs
    found_stmt rs env (for_ _ i t p _ b) =
        let k : Env = extend (binds_of (declared_option i) (declares_first (in_block env) i)) (in_block env) in
        found_first rs (in_block env) i ++ found_option k as_it_is t ++ found_first rs k p
        ++ found_stmts rs (in_block k) b
    found_stmt rs env (range_ _ l e _ b) =
        found_range env l ++ found env (ranged_asks env e l) e
        ++ found_stmts rs
        (in_block (extend (binds_of (defined l) (range_declares env (parts env e) l)) (in_block env))) b
    found_stmt rs env (switch _ i t cs) =
        let k : Env = extend (binds_of (declared_option i) (declares_first (in_block env) i)) (in_block env) in
        found_first rs (in_block env) i ++ found_option k (option_by_default (defined_in k) (bound k t)) t
        ++ found_cases rs k (case_asks (defined_in k) (tag_of k (bound k t))) cs
    found_stmt rs env (defer _ e) = found env as_it_is e
    found_stmt rs env (label _ n s) = found_stmt rs env s

    -- in a list of statements
    pub found_stmts : List GoType → Env → Stmts S → Facts P
    found_stmts rs env no_stmts = []
    found_stmts rs env (stmt_and s ss) =
        found_stmt rs env s ++ found_stmts rs (extend (binds_of (declared s) (declares env s)) env) ss

    -- in a statement of a header
    pub found_first : List GoType → Env → StmtOption S → Facts P
    found_first rs env no_stmt = []
    found_first rs env (some_stmt s) = found_stmt rs env s

    -- in a last block
    pub found_block : List GoType → Env → BlockOption S → Facts P
    found_block rs env no_block = []
    found_block rs env (some_block _ b) = found_stmts rs (in_block env) b

    -- in the left side of a range clause
    pub found_range : Env → RangeLeft S → Facts P
    found_range env nothing = []
    found_range env (assigns es) = found_all env [] es
    found_range env (defines ns) = []

    -- in the arms of an `if`
    pub found_arms : List GoType → Env → (Env → Facts P) → Arms S → Facts P
    found_arms rs env last no_arms = last env
    found_arms rs env last (arm _ i e _ b rest) =
        let k : Env = extend (binds_of (declared_option i) (declares_first env i)) env in
        found_first rs env i ++ found k as_it_is e ++ found_stmts rs (in_block k) b
        ++ found_arms rs (in_block k) last rest

    -- in the clauses of a switch, of whose values this is asked
    pub found_cases : List GoType → Env → Asked → Cases S → Facts P
    found_cases rs env a no_cases = []
    found_cases rs env a (case _ es b cs) =
        found_all env (each_of a es) es ++ found_stmts rs (in_block env) b ++ found_cases rs env a cs

    -- a member that repeats values has no expressions of its own; each sees the members before it
    pub found_constants : Env → Repeated → ℕ → ValueSpecs S → Facts P
    found_constants env r i no_specs = []
    found_constants env r i (spec _ ns t es ss) =
        let again : Repeated = own_or_repeated r t es in
        let here : Env = record env { iota = Some i } in
        let bs : Binds = binds_of (names_of ns) (new_constants here (names_of ns) (again.0 env) (again.1 here)) in
        found_all here (constants_ask env t es) es ++ found_constants (extend bs env) again (i + 1) ss

    -- in the specs of variables
    pub found_variables : Env → ValueSpecs S → Facts P
    found_variables env no_specs = []
    found_variables env (spec _ ns t es ss) =
        found_all env (variables_ask env ns t es) es
        ++ found_variables
        (extend
        (binds_of (names_of ns)
        (new_variables env (names_of ns) (written_type env t) (no_values es)
        (right_values env (length ns) (places env es) (all_parts env es)))) env) ss
