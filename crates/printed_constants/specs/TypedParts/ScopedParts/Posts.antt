-- Trees in which the last statement in the header of each `for` is a simple statement, as tokens spell them (Go
-- specification, Simple statements; For statements).
use Rattle.std.specs.Prelude.{◌≡◌, Bool, true, false, List, [], ◌∷◌}
use Rattle.go_tree.specs.Tree.{Expr, Exprs, ExprOption, Elems, Value, ValueOption, Stmt, Stmts, StmtOption, BlockOption}
use Rattle.go_tree.specs.Tree.{RangeLeft, Arms, Cases, ValueSpecs, ident, int_lit, rune_lit, str_lit, composite}
use Rattle.go_tree.specs.Tree.{selector, index, slice, call, func_lit, type_operand, unary, binary, star, no_exprs}
use Rattle.go_tree.specs.Tree.{expr_and, no_expr, some_expr, no_elems, elem, plain, braced, no_value, some_value}
use Rattle.go_tree.specs.Tree.{const_decl, var_decl, empty, eval, step, assign, define, return_, break_, continue_}
use Rattle.go_tree.specs.Tree.{inner, if_, for_, range_, switch, defer, label, no_stmts, stmt_and, no_stmt, some_stmt}
use Rattle.go_tree.specs.Tree.{no_block, some_block, nothing, assigns, defines, no_arms, arm, no_cases, case, no_specs}
use Rattle.go_tree.specs.Tree.{spec}
use Rattle.go_tree.specs.File.{Decl, values, types, func}
use Rattle.run_rules.specs.Surroundings.{Seen, seen, seen_type, seen_stmt}

module _ {S : Type 0} where
  -- a statement that may be the last in the header of a `for`, or a short declaration
  abbrev pub is_post : StmtOption S → Bool
  is_post (some_stmt (const_decl _ _ _)) = false
  is_post (some_stmt (var_decl _ _ _)) = false
  is_post (some_stmt (label _ _ _)) = false
  is_post i = true

  abbrev mutual
    -- so are those in an expression
    pub PostsInExpr : Expr S → Type 0
    PostsInExpr (composite s t es) = PostsInElems es
    PostsInExpr (selector s b n) = PostsInExpr b
    PostsInExpr (index s b i) = PostsInExpr b × PostsInExpr i
    PostsInExpr (slice s b i j) = PostsInExpr b × PostsInExprOption i × PostsInExprOption j
    PostsInExpr (call s f xs r) = PostsInExpr f × PostsInExprs xs
    PostsInExpr (func_lit s g z b) = PostsInStmts b
    PostsInExpr (unary s o e) = PostsInExpr e
    PostsInExpr (binary s o a b) = PostsInExpr a × PostsInExpr b
    PostsInExpr (star s e) = PostsInExpr e
    PostsInExpr e = Unit {0}

    -- in expressions
    pub PostsInExprs : Exprs S → Type 0
    PostsInExprs no_exprs = Unit {0}
    PostsInExprs (expr_and e es) = PostsInExpr e × PostsInExprs es

    -- in an expression that may be left out
    pub PostsInExprOption : ExprOption S → Type 0
    PostsInExprOption no_expr = Unit {0}
    PostsInExprOption (some_expr e) = PostsInExpr e

    -- in the elements of a literal
    pub PostsInElems : Elems S → Type 0
    PostsInElems no_elems = Unit {0}
    PostsInElems (elem s k v es) = PostsInValueOption k × PostsInValue v × PostsInElems es

    -- in an element
    pub PostsInValue : Value S → Type 0
    PostsInValue (plain e) = PostsInExpr e
    PostsInValue (braced s es) = PostsInElems es

    -- in a key
    pub PostsInValueOption : ValueOption S → Type 0
    PostsInValueOption no_value = Unit {0}
    PostsInValueOption (some_value v) = PostsInValue v

    -- in a statement
    pub PostsInStmt : Stmt S → Type 0
    PostsInStmt (const_decl s g ss) = PostsInSpecs ss
    PostsInStmt (var_decl s g ss) = PostsInSpecs ss
    PostsInStmt (empty s) = Unit {0}
    PostsInStmt (eval s e) = PostsInExpr e
    PostsInStmt (step s e b) = PostsInExpr e
    PostsInStmt (assign s xs o ys) = PostsInExprs xs × PostsInExprs ys
    PostsInStmt (define s ns ys) = PostsInExprs ys
    PostsInStmt (return_ s xs) = PostsInExprs xs
    PostsInStmt (break_ s n) = Unit {0}
    PostsInStmt (continue_ s n) = Unit {0}
    PostsInStmt (inner s b) = PostsInStmts b
    PostsInStmt (if_ s bs z) = PostsInArms bs × PostsInBlockOption z
    PostsInStmt (for_ s i t q z b) =
        PostsInStmtOption i × PostsInExprOption t × PostsInStmtOption q × PostsInStmts b × (is_post q ≡ true)
    PostsInStmt (range_ s x e z b) = PostsInLeft x × PostsInExpr e × PostsInStmts b
    PostsInStmt (switch s i t cs) = PostsInStmtOption i × PostsInExprOption t × PostsInCases cs
    PostsInStmt (defer s e) = PostsInExpr e
    PostsInStmt (label s n x) = PostsInStmt x

    -- in statements
    pub PostsInStmts : Stmts S → Type 0
    PostsInStmts no_stmts = Unit {0}
    PostsInStmts (stmt_and s ss) = PostsInStmt s × PostsInStmts ss

    -- in a statement of a header
    pub PostsInStmtOption : StmtOption S → Type 0
    PostsInStmtOption no_stmt = Unit {0}
    PostsInStmtOption (some_stmt s) = PostsInStmt s

    -- in the last block of an `if`
    pub PostsInBlockOption : BlockOption S → Type 0
    PostsInBlockOption no_block = Unit {0}
    PostsInBlockOption (some_block s b) = PostsInStmts b

    -- in the left side of a range clause
    pub PostsInLeft : RangeLeft S → Type 0
    PostsInLeft (assigns es) = PostsInExprs es
    PostsInLeft l = Unit {0}

    -- in the arms of an `if`
    pub PostsInArms : Arms S → Type 0
    PostsInArms no_arms = Unit {0}
    PostsInArms (arm s i t z b r) = PostsInStmtOption i × PostsInExpr t × PostsInStmts b × PostsInArms r

    -- in the clauses of a `switch`
    pub PostsInCases : Cases S → Type 0
    PostsInCases no_cases = Unit {0}
    PostsInCases (case s es b cs) = PostsInExprs es × PostsInStmts b × PostsInCases cs

    -- in the specs of constants or variables
    pub PostsInSpecs : ValueSpecs S → Type 0
    PostsInSpecs no_specs = Unit {0}
    PostsInSpecs (spec s ns t es ss) = PostsInExprs es × PostsInSpecs ss

  -- in a declaration
  abbrev pub PostsInDecl : Decl S → Type 0
  PostsInDecl (values s) = PostsInStmt s
  PostsInDecl (types s g ts) = Unit {0}
  PostsInDecl (func f) = PostsInStmts f.body

  -- of a part that is a `for` statement
  abbrev pub PostIsSimple : Seen S → Type 0
  PostIsSimple (seen_stmt p (for_ s i t q z b)) = is_post q ≡ true
  PostIsSimple x = Unit {0}

  -- of each part
  abbrev pub AllPostsSimple : List (Seen S) → Type 0
  AllPostsSimple [] = Unit {0}
  AllPostsSimple (x ∷ xs) = PostIsSimple x × AllPostsSimple xs
