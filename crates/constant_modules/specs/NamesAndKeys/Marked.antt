-- The free names of parts, where keys of composite literals that are identifiers are told apart from names that are
-- used (Go specification, Composite literals; Declarations and scope; Blocks).
use Rattle.std.specs.Prelude.{◌≡◌, ◌⊎◌, ℕ, List, [], ◌∷◌, ◌++◌, Option, Some, None, if◌then◌else◌}
use Rattle.go_tree.specs.Tree.{TypeExpr, named, pointer, slice_type, map_type, struct_type, Fields, no_fields}
use Rattle.go_tree.specs.Tree.{field, Param, Expr, ident, int_lit, rune_lit, str_lit, composite, selector, index}
use Rattle.go_tree.specs.Tree.{slice, call, func_lit, type_operand, unary, binary, star, Exprs, no_exprs, expr_and}
use Rattle.go_tree.specs.Tree.{ExprOption, no_expr, some_expr, Elems, no_elems, elem, Value, plain, braced, ValueOption}
use Rattle.go_tree.specs.Tree.{no_value, some_value, Stmt, const_decl, var_decl, empty, eval, step, assign, define}
use Rattle.go_tree.specs.Tree.{return_, break_, continue_, inner, if_, for_, range_, switch, defer, label, Stmts}
use Rattle.go_tree.specs.Tree.{no_stmts, stmt_and, StmtOption, no_stmt, some_stmt, BlockOption, no_block, some_block}
use Rattle.go_tree.specs.Tree.{RangeLeft, nothing, assigns, defines, Arms, no_arms, arm, Cases, no_cases, case}
use Rattle.go_tree.specs.Tree.{ValueSpecs, no_specs, spec}
use Rattle.go_tree.specs.ScopeNames.FreeNames.{names_of, declared, declared_option, arms_declared, defined}
use Rattle.go_tree.specs.ScopeNames.FreeNames.{named_use, sig_names}
use Rattle.go_tree.specs.ScopeNames.Means.{Environment, means}
use Rattle.go_tree.specs.GoTypes.Answers.{is_among}
use Rattle.go_tree.specs.GoTypes.Types.{GoType}
use Rattle.go_tree.specs.GoTypes.Entities.{Builtin, Entity, type_name, package_name, builtin, refused, Env}
use Rattle.go_tree.specs.GoTypes.Agreement.{Same}
use Rattle.go_translation.specs.Agreement.{SameVariable}
use Rattle.go_translation.specs.Here.{Location, Here}

-- a name that is used, or one that is a key of a composite literal
pub data Marked : Type 0 where
  used_name : List ℕ → Marked
  key_name : List ℕ → Marked

-- such a name, unless it is declared around
abbrev pub unless_marked : List (List ℕ) → List ℕ → List Marked
unless_marked around n = if is_among n around then [] else used_name n ∷ []

-- a key, unless its name is declared around
abbrev pub unless_key : List (List ℕ) → List ℕ → List Marked
unless_key around n = if is_among n around then [] else key_name n ∷ []

-- a name of a package alone, of a type or of a predeclared function, one that is refused, and one that means nothing,
-- means no value
pub data NoValue : Option Entity → Type 0 where
  no_meaning : NoValue None
  of_package : {p : ℕ} → NoValue (Some (package_name p))
  of_type : {t : GoType} → NoValue (Some (type_name t))
  of_builtin : {b : Builtin} → NoValue (Some (builtin b))
  of_refused : NoValue (Some refused)

-- both mean the same, or no value
abbrev pub SameOrNone : Option Entity → Option Entity → Type 0
SameOrNone x y = (x ≡ y) ⊎ (NoValue x × NoValue y)

-- a used name means the same with other names around, and a key the same, or no value
abbrev pub MeansAlike : Env → Environment Entity → Marked → Type 0
MeansAlike a m (used_name n) = Same a m n
MeansAlike a m (key_name n) = SameOrNone (means a.names n) (means m n)

-- one of these
pub data Within (x : Marked) : List Marked → Type 0 where
  at_head : {xs : List Marked} → Within x (x ∷ xs)
  behind : {y : Marked} {xs : List Marked} → Within x xs → Within x (y ∷ xs)

-- each of these does
abbrev pub OnMarked : List Marked → Env → Environment Entity → Type 0
OnMarked ns a m = (x : Marked) → Within x ns → MeansAlike a m x

-- the name itself
abbrev pub name_in : Marked → List ℕ
name_in (used_name n) = n
name_in (key_name n) = n

-- each of the names means alike, and its variable is at the same location
abbrev pub HereMarked : List Marked → Here → Environment Entity → Environment Location → Type 0
HereMarked ns h m l = OnMarked ns h.env m × ((x : Marked) → Within x ns → SameVariable h l (name_in x))

module _ {S : Type 0} where
  abbrev mutual
    -- the free names of a type
    pub marked_type : List (List ℕ) → TypeExpr S → List Marked
    marked_type env (named _ p n) = unless_marked env (named_use p n)
    marked_type env (pointer _ t) = marked_type env t
    marked_type env (slice_type _ t) = marked_type env t
    marked_type env (map_type _ k t) = marked_type env k ++ marked_type env t
    marked_type env (struct_type _ fs) = marked_fields env fs

    -- the free names of the types of fields
    pub marked_fields : List (List ℕ) → Fields S → List Marked
    marked_fields env no_fields = []
    marked_fields env (field _ _ t fs) = marked_type env t ++ marked_fields env fs

  -- the free names of a type that may be left out
  abbrev pub marked_type_option : List (List ℕ) → Option (TypeExpr S) → List Marked
  marked_type_option env None = []
  marked_type_option env (Some t) = marked_type env t

  -- the free names of the types of parameters or results
  abbrev pub marked_params : List (List ℕ) → List (Param S) → List Marked
  marked_params env [] = []
  marked_params env (p ∷ ps) = marked_type env p.of ++ marked_params env ps

  abbrev mutual
    -- the free names of an expression
    pub marked_expr : List (List ℕ) → Expr S → List Marked
    marked_expr env (ident _ n) = unless_marked env n
    marked_expr env (int_lit _ _) = []
    marked_expr env (rune_lit _ _) = []
    marked_expr env (str_lit _ _) = []
    marked_expr env (composite _ t es) = marked_type env t ++ marked_elems env es
    marked_expr env (selector _ x _) = marked_expr env x
    marked_expr env (index _ x i) = marked_expr env x ++ marked_expr env i
    marked_expr env (slice _ x i j) = marked_expr env x ++ marked_expr_option env i ++ marked_expr_option env j
    marked_expr env (call _ f xs _) = marked_expr env f ++ marked_exprs env xs
    marked_expr env (func_lit _ g _ b) =
        marked_params env g.params ++ marked_params env g.results ++ marked_stmts (sig_names g ++ env) b
    marked_expr env (type_operand _ t) = marked_type env t
    marked_expr env (unary _ _ x) = marked_expr env x
    marked_expr env (binary _ _ x y) = marked_expr env x ++ marked_expr env y
    marked_expr env (star _ x) = marked_expr env x

    -- the free names of a list of expressions
    pub marked_exprs : List (List ℕ) → Exprs S → List Marked
    marked_exprs env no_exprs = []
    marked_exprs env (expr_and x xs) = marked_expr env x ++ marked_exprs env xs

    -- the free names of a bound or a condition, which may be left out
    pub marked_expr_option : List (List ℕ) → ExprOption S → List Marked
    marked_expr_option env no_expr = []
    marked_expr_option env (some_expr x) = marked_expr env x

    -- the free names of the keys and values of elements
    pub marked_elems : List (List ℕ) → Elems S → List Marked
    marked_elems env no_elems = []
    marked_elems env (elem _ k x es) = marked_value_option env k ++ marked_value env x ++ marked_elems env es

    -- the free names of an element's value
    pub marked_value : List (List ℕ) → Value S → List Marked
    marked_value env (plain x) = marked_expr env x
    marked_value env (braced _ es) = marked_elems env es

    -- the free names of an element's key, which may be left out
    pub marked_value_option : List (List ℕ) → ValueOption S → List Marked
    marked_value_option env no_value = []
    marked_value_option env (some_value x) = marked_key env x

    -- a key that is an identifier is one by itself
    pub marked_key : List (List ℕ) → Value S → List Marked
    marked_key env (plain (ident _ n)) = unless_key env n
    marked_key env (plain x) = marked_expr env x
    marked_key env (braced _ es) = marked_elems env es

    -- the free names of a statement
    pub marked_stmt : List (List ℕ) → Stmt S → List Marked
    marked_stmt env (const_decl _ _ ss) = marked_specs env ss
    marked_stmt env (var_decl _ _ ss) = marked_specs env ss
    marked_stmt env (empty _) = []
    marked_stmt env (eval _ x) = marked_expr env x
    marked_stmt env (step _ x _) = marked_expr env x
    marked_stmt env (assign _ xs _ ys) = marked_exprs env xs ++ marked_exprs env ys
    marked_stmt env (define _ _ ys) = marked_exprs env ys
    marked_stmt env (return_ _ xs) = marked_exprs env xs
    marked_stmt env (break_ _ _) = []
    marked_stmt env (continue_ _ _) = []
    marked_stmt env (inner _ b) = marked_stmts env b
    marked_stmt env (if_ _ arms last) = marked_arms env arms ++ marked_block_option (arms_declared arms ++ env) last
    marked_stmt env (for_ _ i x p _ b) =
        marked_stmt_option env i ++ marked_expr_option (declared_option i ++ env) x
        ++ marked_stmt_option (declared_option i ++ env) p ++ marked_stmts (declared_option i ++ env) b
    marked_stmt env (range_ _ l x _ b) = marked_left env l ++ marked_expr env x ++ marked_stmts (defined l ++ env) b
    marked_stmt env (switch _ i x cs) =
        marked_stmt_option env i ++ marked_expr_option (declared_option i ++ env) x
        ++ marked_cases (declared_option i ++ env) cs
    marked_stmt env (defer _ x) = marked_expr env x
    marked_stmt env (label _ _ s) = marked_stmt env s

    -- the free names of a list of statements, each of which sees what those before it declare
    pub marked_stmts : List (List ℕ) → Stmts S → List Marked
    marked_stmts env no_stmts = []
    marked_stmts env (stmt_and s ss) = marked_stmt env s ++ marked_stmts (declared s ++ env) ss

    -- the free names of a statement in a header, which may be left out
    pub marked_stmt_option : List (List ℕ) → StmtOption S → List Marked
    marked_stmt_option env no_stmt = []
    marked_stmt_option env (some_stmt s) = marked_stmt env s

    -- the free names of the last block of an `if`
    pub marked_block_option : List (List ℕ) → BlockOption S → List Marked
    marked_block_option env no_block = []
    marked_block_option env (some_block _ b) = marked_stmts env b

    -- the free names of what a range clause assigns to
    pub marked_left : List (List ℕ) → RangeLeft S → List Marked
    marked_left env nothing = []
    marked_left env (assigns xs) = marked_exprs env xs
    marked_left env (defines _) = []

    -- the arms after one see what the statement before its test declares
    pub marked_arms : List (List ℕ) → Arms S → List Marked
    marked_arms env no_arms = []
    marked_arms env (arm _ i x _ b rest) =
        marked_stmt_option env i ++ marked_expr (declared_option i ++ env) x
        ++ marked_stmts (declared_option i ++ env) b ++ marked_arms (declared_option i ++ env) rest

    -- the free names of the clauses of a switch
    pub marked_cases : List (List ℕ) → Cases S → List Marked
    marked_cases env no_cases = []
    marked_cases env (case _ xs b cs) = marked_exprs env xs ++ marked_stmts env b ++ marked_cases env cs

    -- a later spec of a group sees the names of the earlier ones
    pub marked_specs : List (List ℕ) → ValueSpecs S → List Marked
    marked_specs env no_specs = []
    marked_specs env (spec _ ns t xs ss) =
        marked_type_option env t ++ marked_exprs env xs ++ marked_specs (names_of ns ++ env) ss
