-- The names that parts look up: their free names, but for keys of composite literals of structs, which name fields (Go
-- specification, Composite literals; Declarations and scope; Blocks).
use Rattle.std.specs.Prelude.{ℕ, List, [], ◌++◌, Option, Some, None, if◌then◌else◌}
use Rattle.std.specs.List.{list_any}
use Rattle.go_tree.specs.Tree.{TypeExpr, Expr, ident, int_lit, rune_lit, str_lit, composite, selector, index, slice}
use Rattle.go_tree.specs.Tree.{call, func_lit, type_operand, unary, binary, star, Exprs, no_exprs, expr_and, ExprOption}
use Rattle.go_tree.specs.Tree.{no_expr, some_expr, Elems, no_elems, elem, Value, plain, braced, ValueOption, no_value}
use Rattle.go_tree.specs.Tree.{some_value, Stmt, const_decl, var_decl, empty, eval, step, assign, define, return_}
use Rattle.go_tree.specs.Tree.{break_, continue_, inner, if_, for_, range_, switch, defer, label, Stmts, no_stmts}
use Rattle.go_tree.specs.Tree.{stmt_and, StmtOption, no_stmt, some_stmt, BlockOption, no_block, some_block, RangeLeft}
use Rattle.go_tree.specs.Tree.{nothing, assigns, defines, Arms, no_arms, arm, Cases, no_cases, case, ValueSpecs}
use Rattle.go_tree.specs.Tree.{no_specs, spec}
use Rattle.go_tree.specs.ScopeNames.FreeNames.{unless_declared, names_of, declared, declared_option, arms_declared}
use Rattle.go_tree.specs.ScopeNames.FreeNames.{defined, sig_names, free_type, free_type_option, free_params, free_specs}
use Rattle.go_tree.specs.GoTypes.Answers.{given, meets, is_among}
use Rattle.go_tree.specs.GoTypes.Types.{GoType}
use Rattle.go_tree.specs.GoTypes.Defined.{under}
use Rattle.go_tree.specs.GoTypes.Entities.{Env, defined_in}
use Rattle.go_tree.specs.GoTypes.TypeNames.{type_meant}
use Rattle.go_tree.specs.GoTypes.Literals.{is_struct, key_type, inner_type, literal_type}

-- at the top of the file, the underlying type of a literal of this type
abbrev pub under_above : Env → Option GoType → Option GoType
under_above top t = given t (λ t. Some (under (defined_in top) t))

-- that of a literal within another one, whose type is left out
abbrev pub under_inner : Env → Option GoType → Option GoType
under_inner top t = given t (λ t. Some (under (defined_in top) (literal_type (defined_in top) t)))

-- `top` is the place at the top of the file
module _ {S : Type 0} (top : Env) where
  -- what a type means there, unless it uses a name that is declared around
  abbrev pub type_above : List (List ℕ) → TypeExpr S → Option GoType
  type_above env t = if list_any (λ n. is_among n env) (free_type [] t) then None else type_meant top t

  abbrev mutual
    -- the names that an expression looks up
    pub looked_expr : List (List ℕ) → Expr S → List (List ℕ)
    looked_expr env (ident _ n) = unless_declared env n
    looked_expr env (int_lit _ _) = []
    looked_expr env (rune_lit _ _) = []
    looked_expr env (str_lit _ _) = []
    looked_expr env (composite _ t es) = free_type env t ++ looked_elems env (under_above top (type_above env t)) es
    looked_expr env (selector _ x _) = looked_expr env x
    looked_expr env (index _ x i) = looked_expr env x ++ looked_expr env i
    looked_expr env (slice _ x i j) = looked_expr env x ++ looked_expr_option env i ++ looked_expr_option env j
    looked_expr env (call _ f xs _) = looked_expr env f ++ looked_exprs env xs
    looked_expr env (func_lit _ g _ b) =
        free_params env g.params ++ free_params env g.results ++ looked_stmts (sig_names g ++ env) b
    looked_expr env (type_operand _ t) = free_type env t
    looked_expr env (unary _ _ x) = looked_expr env x
    looked_expr env (binary _ _ x y) = looked_expr env x ++ looked_expr env y
    looked_expr env (star _ x) = looked_expr env x

    -- those of a list of expressions
    pub looked_exprs : List (List ℕ) → Exprs S → List (List ℕ)
    looked_exprs env no_exprs = []
    looked_exprs env (expr_and x xs) = looked_expr env x ++ looked_exprs env xs

    -- those of a bound or a condition, which may be left out
    pub looked_expr_option : List (List ℕ) → ExprOption S → List (List ℕ)
    looked_expr_option env no_expr = []
    looked_expr_option env (some_expr x) = looked_expr env x

    -- the names that the elements of a literal with this underlying type look up
    pub looked_elems : List (List ℕ) → Option GoType → Elems S → List (List ℕ)
    looked_elems env u no_elems = []
    looked_elems env u (elem _ k x es) =
        looked_key env u k ++ looked_value env (given u (inner_type (defined_in top))) x ++ looked_elems env u es

    -- those of a key; one of a struct is a field's name, and is looked up in the struct
    pub looked_key : List (List ℕ) → Option GoType → ValueOption S → List (List ℕ)
    looked_key env u no_value = []
    looked_key env u (some_value k) =
        if meets u is_struct then [] else looked_value env (given u (key_type (defined_in top))) k

    -- those of a value of an element
    pub looked_value : List (List ℕ) → Option GoType → Value S → List (List ℕ)
    looked_value env t (plain x) = looked_expr env x
    looked_value env t (braced _ es) = looked_elems env (under_inner top t) es

    -- those of a statement; constants hold no composite literals
    pub looked_stmt : List (List ℕ) → Stmt S → List (List ℕ)
    looked_stmt env (const_decl _ _ ss) = free_specs env ss
    looked_stmt env (var_decl _ _ ss) = looked_specs env ss
    looked_stmt env (empty _) = []
    looked_stmt env (eval _ x) = looked_expr env x
    looked_stmt env (step _ x _) = looked_expr env x
    looked_stmt env (assign _ xs _ ys) = looked_exprs env xs ++ looked_exprs env ys
    looked_stmt env (define _ _ ys) = looked_exprs env ys
    looked_stmt env (return_ _ xs) = looked_exprs env xs
    looked_stmt env (break_ _ _) = []
    looked_stmt env (continue_ _ _) = []
    looked_stmt env (inner _ b) = looked_stmts env b
    looked_stmt env (if_ _ arms last) = looked_arms env arms ++ looked_block_option (arms_declared arms ++ env) last
    looked_stmt env (for_ _ i x p _ b) =
        looked_stmt_option env i ++ looked_expr_option (declared_option i ++ env) x
        ++ looked_stmt_option (declared_option i ++ env) p ++ looked_stmts (declared_option i ++ env) b
    looked_stmt env (range_ _ l x _ b) = looked_left env l ++ looked_expr env x ++ looked_stmts (defined l ++ env) b
    looked_stmt env (switch _ i x cs) =
        looked_stmt_option env i ++ looked_expr_option (declared_option i ++ env) x
        ++ looked_cases (declared_option i ++ env) cs
    looked_stmt env (defer _ x) = looked_expr env x
    looked_stmt env (label _ _ s) = looked_stmt env s

    -- those of a list of statements, each of which sees what those before it declare
    pub looked_stmts : List (List ℕ) → Stmts S → List (List ℕ)
    looked_stmts env no_stmts = []
    looked_stmts env (stmt_and s ss) = looked_stmt env s ++ looked_stmts (declared s ++ env) ss

    -- those of a statement in a header, which may be left out
    pub looked_stmt_option : List (List ℕ) → StmtOption S → List (List ℕ)
    looked_stmt_option env no_stmt = []
    looked_stmt_option env (some_stmt s) = looked_stmt env s

    -- those of the last block of an `if`
    pub looked_block_option : List (List ℕ) → BlockOption S → List (List ℕ)
    looked_block_option env no_block = []
    looked_block_option env (some_block _ b) = looked_stmts env b

    -- those of what a range clause assigns to
    pub looked_left : List (List ℕ) → RangeLeft S → List (List ℕ)
    looked_left env nothing = []
    looked_left env (assigns xs) = looked_exprs env xs
    looked_left env (defines _) = []

    -- the arms after one see what the statement before its test declares
    pub looked_arms : List (List ℕ) → Arms S → List (List ℕ)
    looked_arms env no_arms = []
    looked_arms env (arm _ i x _ b rest) =
        looked_stmt_option env i ++ looked_expr (declared_option i ++ env) x
        ++ looked_stmts (declared_option i ++ env) b ++ looked_arms (declared_option i ++ env) rest

    -- those of the clauses of a switch
    pub looked_cases : List (List ℕ) → Cases S → List (List ℕ)
    looked_cases env no_cases = []
    looked_cases env (case _ xs b cs) = looked_exprs env xs ++ looked_stmts env b ++ looked_cases env cs

    -- a later spec of a group sees the names of the earlier ones
    pub looked_specs : List (List ℕ) → ValueSpecs S → List (List ℕ)
    looked_specs env no_specs = []
    looked_specs env (spec _ ns t xs ss) =
        free_type_option env t ++ looked_exprs env xs ++ looked_specs (names_of ns ++ env) ss
