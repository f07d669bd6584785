-- Trees of Go source as values without places in memory (Go specification, Types, Expressions, Statements).
-- `S` is what each node has for its span: a `Span`, or nothing.
use Rattle.std.specs.Prelude.{ℕ, Bool, List, Option}
use Rattle.go_tree.specs.declared.operators.UnOp.{UnOp}
use Rattle.go_tree.specs.declared.operators.BinOp.{BinOp}
use Rattle.go_tree.specs.declared.exprs.Rest.{Rest}

-- a name where it stands
pub record NameAt (S : Type 0) : Type 0 where
  pub span : S
  pub name : List ℕ

mutual
  -- types as they are written: a name, perhaps of a package, a pointer, a slice, a map, a struct
  pub data TypeExpr (S : Type 0) : Type 0 where
    named : S → Option (NameAt S) → NameAt S → TypeExpr S
    pointer : S → TypeExpr S → TypeExpr S
    slice_type : S → TypeExpr S → TypeExpr S
    map_type : S → TypeExpr S → TypeExpr S → TypeExpr S
    struct_type : S → Fields S → TypeExpr S

  -- each field: its span, its name and its type
  pub data Fields (S : Type 0) : Type 0 where
    no_fields : Fields S
    field : S → NameAt S → TypeExpr S → Fields S → Fields S

-- a parameter or a result: its name, if any, whether it is variadic, and its type
pub record Param (S : Type 0) : Type 0 where
  pub span : S
  pub name : Option (NameAt S)
  -- the last parameter of a variadic function: `...` stands before its type
  pub rest : Bool
  pub of : TypeExpr S

-- a signature: its parameters and its results
pub record Sig (S : Type 0) : Type 0 where
  pub params : List (Param S)
  pub results : List (Param S)

mutual
  -- expressions; `type_operand` is a type where an expression stands, as in a conversion or a call of `make`
  pub data Expr (S : Type 0) : Type 0 where
    ident : S → List ℕ → Expr S
    int_lit : S → List ℕ → Expr S
    rune_lit : S → List ℕ → Expr S
    str_lit : S → List ℕ → Expr S
    composite : S → TypeExpr S → Elems S → Expr S
    selector : S → Expr S → NameAt S → Expr S
    index : S → Expr S → Expr S → Expr S
    slice : S → Expr S → ExprOption S → ExprOption S → Expr S
    call : S → Expr S → Exprs S → Rest → Expr S
    func_lit : S → Sig S → S → Stmts S → Expr S
    type_operand : S → TypeExpr S → Expr S
    unary : S → UnOp → Expr S → Expr S
    binary : S → BinOp → Expr S → Expr S → Expr S
    star : S → Expr S → Expr S

  -- a list of expressions
  pub data Exprs (S : Type 0) : Type 0 where
    no_exprs : Exprs S
    expr_and : Expr S → Exprs S → Exprs S

  -- an expression that may be left out: a bound of a slice, or a condition
  pub data ExprOption (S : Type 0) : Type 0 where
    no_expr : ExprOption S
    some_expr : Expr S → ExprOption S

  -- each element: its span, its key and its value
  pub data Elems (S : Type 0) : Type 0 where
    no_elems : Elems S
    elem : S → ValueOption S → Value S → Elems S → Elems S

  -- an element's value, or its key: an expression, or elements in braces whose type is left out
  pub data Value (S : Type 0) : Type 0 where
    plain : Expr S → Value S
    braced : S → Elems S → Value S

  -- an element's key, which may be left out
  pub data ValueOption (S : Type 0) : Type 0 where
    no_value : ValueOption S
    some_value : Value S → ValueOption S

  -- statements; declarations of constants and of variables are among them
  pub data Stmt (S : Type 0) : Type 0 where
    const_decl : S → Bool → ValueSpecs S → Stmt S
    var_decl : S → Bool → ValueSpecs S → Stmt S
    empty : S → Stmt S
    eval : S → Expr S → Stmt S
    step : S → Expr S → Bool → Stmt S
    assign : S → Exprs S → Option BinOp → Exprs S → Stmt S
    define : S → List (NameAt S) → Exprs S → Stmt S
    return_ : S → Exprs S → Stmt S
    break_ : S → Option (NameAt S) → Stmt S
    continue_ : S → Option (NameAt S) → Stmt S
    inner : S → Stmts S → Stmt S
    if_ : S → Arms S → BlockOption S → Stmt S
    for_ : S → StmtOption S → ExprOption S → StmtOption S → S → Stmts S → Stmt S
    range_ : S → RangeLeft S → Expr S → S → Stmts S → Stmt S
    switch : S → StmtOption S → ExprOption S → Cases S → Stmt S
    defer : S → Expr S → Stmt S
    label : S → NameAt S → Stmt S → Stmt S

  -- a list of statements
  pub data Stmts (S : Type 0) : Type 0 where
    no_stmts : Stmts S
    stmt_and : Stmt S → Stmts S → Stmts S

  -- a statement in the header of an `if`, a `for` or a `switch`, which may be left out
  pub data StmtOption (S : Type 0) : Type 0 where
    no_stmt : StmtOption S
    some_stmt : Stmt S → StmtOption S

  -- the last block of an `if`, which may be left out
  pub data BlockOption (S : Type 0) : Type 0 where
    no_block : BlockOption S
    some_block : S → Stmts S → BlockOption S

  -- the left side of a range clause: nothing, what it assigns to, or the variables that it declares
  pub data RangeLeft (S : Type 0) : Type 0 where
    nothing : RangeLeft S
    assigns : Exprs S → RangeLeft S
    defines : List (NameAt S) → RangeLeft S

  -- each arm: its span, the statement before the test, the test, and the block
  pub data Arms (S : Type 0) : Type 0 where
    no_arms : Arms S
    arm : S → StmtOption S → Expr S → S → Stmts S → Arms S → Arms S

  -- the clauses of a switch: each one's span, expressions and statements; the default has no expressions
  pub data Cases (S : Type 0) : Type 0 where
    no_cases : Cases S
    case : S → Exprs S → Stmts S → Cases S → Cases S

  -- the specs of `const` or `var`: the span, the names, the type and the values of each
  pub data ValueSpecs (S : Type 0) : Type 0 where
    no_specs : ValueSpecs S
    spec : S → List (NameAt S) → Option (TypeExpr S) → Exprs S → ValueSpecs S → ValueSpecs S
