-- Parts of a program that declare no constants, in no literal of a function either (Go specification, Constant
-- declarations; Function literals; Blank identifier).
use Rattle.go_tree.specs.Tree.{Expr, composite, selector, index, slice, call, func_lit, unary, binary, star, Exprs}
use Rattle.go_tree.specs.Tree.{no_exprs, expr_and, ExprOption, no_expr, some_expr, Elems, no_elems, elem, Value, plain}
use Rattle.go_tree.specs.Tree.{braced, ValueOption, no_value, some_value, Stmt, const_decl, var_decl, eval, step}
use Rattle.go_tree.specs.Tree.{assign, define, return_, inner, if_, for_, range_, switch, defer, label, Stmts, no_stmts}
use Rattle.go_tree.specs.Tree.{stmt_and, StmtOption, no_stmt, some_stmt, BlockOption, no_block, some_block, RangeLeft}
use Rattle.go_tree.specs.Tree.{assigns, Arms, no_arms, arm, Cases, no_cases, case, ValueSpecs, no_specs, spec}

module _ {S : Type 0} where
  abbrev mutual
    -- an expression, whose literals of functions declare none
    pub NoneInExpr : Expr S → Type 0
    NoneInExpr (composite _ t es) = NoneInElems es
    NoneInExpr (selector _ b n) = NoneInExpr b
    NoneInExpr (index _ b i) = NoneInExpr b × NoneInExpr i
    NoneInExpr (slice _ b i j) = (NoneInExpr b × NoneInOption i) × NoneInOption j
    NoneInExpr (call _ f xs r) = NoneInExpr f × NoneInAll xs
    NoneInExpr (func_lit _ g z b) = NoneInStmts b
    NoneInExpr (unary _ o e) = NoneInExpr e
    NoneInExpr (binary _ o x y) = NoneInExpr x × NoneInExpr y
    NoneInExpr (star _ e) = NoneInExpr e
    NoneInExpr e = Unit {0}

    -- expressions
    pub NoneInAll : Exprs S → Type 0
    NoneInAll no_exprs = Unit {0}
    NoneInAll (expr_and e es) = NoneInExpr e × NoneInAll es

    -- an expression that may be left out
    pub NoneInOption : ExprOption S → Type 0
    NoneInOption no_expr = Unit {0}
    NoneInOption (some_expr e) = NoneInExpr e

    -- the elements of a composite literal
    pub NoneInElems : Elems S → Type 0
    NoneInElems no_elems = Unit {0}
    NoneInElems (elem _ k v es) = (NoneInKey k × NoneInValue v) × NoneInElems es

    -- a key
    pub NoneInKey : ValueOption S → Type 0
    NoneInKey no_value = Unit {0}
    NoneInKey (some_value v) = NoneInValue v

    -- an element, or inner braces
    pub NoneInValue : Value S → Type 0
    NoneInValue (plain e) = NoneInExpr e
    NoneInValue (braced _ es) = NoneInElems es

    -- a statement
    pub NoneInStmt : Stmt S → Type 0
    NoneInStmt (const_decl _ g ss) = ⊥
    NoneInStmt (var_decl _ g ss) = NoneInSpecs ss
    NoneInStmt (eval _ e) = NoneInExpr e
    NoneInStmt (step _ e up) = NoneInExpr e
    NoneInStmt (assign _ ls op rs) = NoneInAll ls × NoneInAll rs
    NoneInStmt (define _ ns rs) = NoneInAll rs
    NoneInStmt (return_ _ es) = NoneInAll es
    NoneInStmt (inner _ b) = NoneInStmts b
    NoneInStmt (if_ _ bs last) = NoneInArms bs × NoneInBlock last
    NoneInStmt (for_ _ i t q z b) = ((NoneInFirst i × NoneInOption t) × NoneInFirst q) × NoneInStmts b
    NoneInStmt (range_ _ l e z b) = (NoneInLeft l × NoneInExpr e) × NoneInStmts b
    NoneInStmt (switch _ i t cs) = (NoneInFirst i × NoneInOption t) × NoneInCases cs
    NoneInStmt (defer _ e) = NoneInExpr e
    NoneInStmt (label _ n s) = NoneInStmt s
    NoneInStmt s = Unit {0}

    -- statements
    pub NoneInStmts : Stmts S → Type 0
    NoneInStmts no_stmts = Unit {0}
    NoneInStmts (stmt_and s ss) = NoneInStmt s × NoneInStmts ss

    -- a statement in a header
    pub NoneInFirst : StmtOption S → Type 0
    NoneInFirst no_stmt = Unit {0}
    NoneInFirst (some_stmt s) = NoneInStmt s

    -- the last block of an `if`
    pub NoneInBlock : BlockOption S → Type 0
    NoneInBlock no_block = Unit {0}
    NoneInBlock (some_block _ b) = NoneInStmts b

    -- the left side of a range clause
    pub NoneInLeft : RangeLeft S → Type 0
    NoneInLeft (assigns es) = NoneInAll es
    NoneInLeft l = Unit {0}

    -- the arms of an `if`
    pub NoneInArms : Arms S → Type 0
    NoneInArms no_arms = Unit {0}
    NoneInArms (arm _ i t z b bs) = ((NoneInFirst i × NoneInExpr t) × NoneInStmts b) × NoneInArms bs

    -- the clauses of a switch
    pub NoneInCases : Cases S → Type 0
    NoneInCases no_cases = Unit {0}
    NoneInCases (case _ es b cs) = (NoneInAll es × NoneInStmts b) × NoneInCases cs

    -- specs of variables
    pub NoneInSpecs : ValueSpecs S → Type 0
    NoneInSpecs no_specs = Unit {0}
    NoneInSpecs (spec _ ns t es ss) = NoneInAll es × NoneInSpecs ss
