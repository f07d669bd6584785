-- The spans of the expressions in a tree, parts before their whole and else in their order (Go specification,
-- Expressions; Composite literals; Statements; Declarations and scope). Elements in braces alone are among them, since
-- they are a composite literal whose type is left out; types, names that are declared, labels and the names behind dots
-- are not.
use Rattle.std.specs.Prelude.{List, [], ◌∷◌, ◌++◌, Option, Some, None}
use Rattle.go_tree.specs.Tree.{Expr, ident, int_lit, rune_lit, str_lit, composite, selector, index, slice, call}
use Rattle.go_tree.specs.Tree.{func_lit, type_operand, unary, binary, star, Exprs, no_exprs, expr_and, ExprOption}
use Rattle.go_tree.specs.Tree.{no_expr, some_expr, Elems, no_elems, elem, Value, plain, braced, ValueOption, no_value}
use Rattle.go_tree.specs.Tree.{some_value, Stmt, const_decl, var_decl, empty, eval, step, assign, define, return_}
use Rattle.go_tree.specs.Tree.{break_, continue_, inner, if_, for_, range_, switch, defer, label, Stmts, no_stmts}
use Rattle.go_tree.specs.Tree.{stmt_and, StmtOption, no_stmt, some_stmt, BlockOption, no_block, some_block, RangeLeft}
use Rattle.go_tree.specs.Tree.{nothing, assigns, defines, Arms, no_arms, arm, Cases, no_cases, case, ValueSpecs}
use Rattle.go_tree.specs.Tree.{no_specs, spec}
use Rattle.go_tree.specs.File.{Decl, values, types, func}

module _ {S : Type 0} where
  abbrev mutual
    -- those in an expression, its own last
    pub expr_spans : Expr S → List S
    expr_spans (ident s n) = s ∷ []
    expr_spans (int_lit s t) = s ∷ []
    expr_spans (rune_lit s t) = s ∷ []
    expr_spans (str_lit s t) = s ∷ []
    expr_spans (composite s t es) = elems_spans es ++ s ∷ []
    expr_spans (selector s b n) = expr_spans b ++ s ∷ []
    expr_spans (index s b i) = expr_spans b ++ expr_spans i ++ s ∷ []
    expr_spans (slice s b i j) = expr_spans b ++ option_spans i ++ option_spans j ++ s ∷ []
    expr_spans (call s f xs r) = expr_spans f ++ exprs_spans xs ++ s ∷ []
    expr_spans (func_lit s g t b) = stmts_spans b ++ s ∷ []
    expr_spans (type_operand s t) = s ∷ []
    expr_spans (unary s op e) = expr_spans e ++ s ∷ []
    expr_spans (binary s op x y) = expr_spans x ++ expr_spans y ++ s ∷ []
    expr_spans (star s e) = expr_spans e ++ s ∷ []

    -- in a list of expressions
    pub exprs_spans : Exprs S → List S
    exprs_spans no_exprs = []
    exprs_spans (expr_and e es) = expr_spans e ++ exprs_spans es

    -- in one that may be left out
    pub option_spans : ExprOption S → List S
    option_spans no_expr = []
    option_spans (some_expr e) = expr_spans e

    -- in the elements of a literal
    pub elems_spans : Elems S → List S
    elems_spans no_elems = []
    elems_spans (elem _ k v es) = key_spans k ++ value_spans v ++ elems_spans es

    -- in a key; one that names a field is among them, as only its type tells it from an expression
    pub key_spans : ValueOption S → List S
    key_spans no_value = []
    key_spans (some_value k) = value_spans k

    -- in a key or value; elements in braces alone have a span of their own
    pub value_spans : Value S → List S
    value_spans (plain e) = expr_spans e
    value_spans (braced s es) = elems_spans es ++ s ∷ []

    -- in a statement
    pub stmt_spans : Stmt S → List S
    stmt_spans (const_decl _ _ ss) = specs_spans ss
    stmt_spans (var_decl _ _ ss) = specs_spans ss
    stmt_spans (empty _) = []
    stmt_spans (eval _ e) = expr_spans e
    stmt_spans (step _ e up) = expr_spans e
    stmt_spans (assign _ ls op rs) = exprs_spans ls ++ exprs_spans rs
    stmt_spans (define _ ns rs) = exprs_spans rs
    stmt_spans (return_ _ es) = exprs_spans es
    stmt_spans (break_ _ n) = []
    stmt_spans (continue_ _ n) = []
    stmt_spans (inner _ b) = stmts_spans b
    stmt_spans (if_ _ bs last) = arms_spans (block_spans last) bs
    stmt_spans (for_ _ i t p _ b) = first_spans i ++ option_spans t ++ first_spans p ++ stmts_spans b
    stmt_spans (range_ _ l e _ b) = left_spans l ++ expr_spans e ++ stmts_spans b
    stmt_spans (switch _ i t cs) = first_spans i ++ option_spans t ++ cases_spans cs
    stmt_spans (defer _ e) = expr_spans e
    stmt_spans (label _ n s) = stmt_spans s

    -- in a list of statements
    pub stmts_spans : Stmts S → List S
    stmts_spans no_stmts = []
    stmts_spans (stmt_and s ss) = stmt_spans s ++ stmts_spans ss

    -- in a statement of a header
    pub first_spans : StmtOption S → List S
    first_spans no_stmt = []
    first_spans (some_stmt s) = stmt_spans s

    -- in a last block
    pub block_spans : BlockOption S → List S
    block_spans no_block = []
    block_spans (some_block _ b) = stmts_spans b

    -- in the left side of a range clause
    pub left_spans : RangeLeft S → List S
    left_spans nothing = []
    left_spans (assigns es) = exprs_spans es
    left_spans (defines ns) = []

    -- in the arms of an `if`, and these behind them
    pub arms_spans : List S → Arms S → List S
    arms_spans last no_arms = last
    arms_spans last (arm _ i e _ b rest) = first_spans i ++ expr_spans e ++ stmts_spans b ++ arms_spans last rest

    -- in the clauses of a switch
    pub cases_spans : Cases S → List S
    cases_spans no_cases = []
    cases_spans (case _ es b cs) = exprs_spans es ++ stmts_spans b ++ cases_spans cs

    -- in the specs of constants or variables
    pub specs_spans : ValueSpecs S → List S
    specs_spans no_specs = []
    specs_spans (spec _ ns t es ss) = exprs_spans es ++ specs_spans ss

  -- in a declaration of the package block
  abbrev pub decl_spans : Decl S → List S
  decl_spans (values (const_decl _ _ ss)) = specs_spans ss
  decl_spans (values (var_decl _ _ ss)) = specs_spans ss
  decl_spans (values s) = []
  decl_spans (types _ grouped ts) = []
  decl_spans (func f) = stmts_spans f.body

  -- in the declarations of a file
  abbrev pub decls_spans : List (Decl S) → List S
  decls_spans [] = []
  decls_spans (d ∷ ds) = decl_spans d ++ decls_spans ds

  -- the span of a declaration itself; no other statement is one
  abbrev pub decl_span : Decl S → Option S
  decl_span (values (const_decl s _ _)) = Some s
  decl_span (values (var_decl s _ _)) = Some s
  decl_span (values s) = None
  decl_span (types s _ ts) = Some s
  decl_span (func f) = Some f.span
