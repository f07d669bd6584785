-- What stands before the dots of a file: before that of a selector, and before those after the arguments of a call. In
-- an undotted file the one is no integer literal, and the other ends in none (Go specification, Selectors, Passing
-- arguments to ... parameters, Integer literals). No other file is well typed: an integer has no fields and no methods,
-- and what ends in one is no slice.
use Rattle.std.specs.Prelude.{◌≡◌, Bool, true, false, List, [], ◌∷◌}
use Rattle.go_tree.specs.declared.exprs.Rest.{Rest}
use Rattle.go_tree.specs.declared.exprs.Rest.TheVariants.{Whole}
use Rattle.go_tree.specs.Tree.{Expr, Exprs, ExprOption, Elems, Value, ValueOption, Stmt, Stmts, StmtOption, BlockOption}
use Rattle.go_tree.specs.Tree.{RangeLeft, Arms, Cases, ValueSpecs, ident, int_lit, rune_lit, str_lit, composite}
use Rattle.go_tree.specs.Tree.{selector, index, slice, call, func_lit, type_operand, unary, binary, star, no_exprs}
use Rattle.go_tree.specs.Tree.{expr_and, no_expr, some_expr, no_elems, elem, plain, braced, no_value, some_value}
use Rattle.go_tree.specs.Tree.{const_decl, var_decl, empty, eval, step, assign, define, return_, break_, continue_}
use Rattle.go_tree.specs.Tree.{inner, if_, for_, range_, switch, defer, label, no_stmts, stmt_and, no_stmt, some_stmt}
use Rattle.go_tree.specs.Tree.{no_block, some_block, nothing, assigns, defines, no_arms, arm, no_cases, case, no_specs}
use Rattle.go_tree.specs.Tree.{spec}
use Rattle.go_tree.specs.File.{Decl, values, types, func, File}

module _ {S : Type 0} where
  -- an integer literal
  abbrev pub is_number : Expr S → Bool
  is_number (int_lit _ _) = true
  is_number _ = false

  -- without parentheses, the expression's last token is an integer literal
  abbrev pub ends_in_number : Expr S → Bool
  ends_in_number (int_lit _ _) = true
  ends_in_number (unary _ _ e) = ends_in_number e
  ends_in_number (binary _ _ _ b) = ends_in_number b
  ends_in_number (star _ e) = ends_in_number e
  ends_in_number _ = false

  -- the same of the last expression
  abbrev pub last_in_number : Exprs S → Bool
  last_in_number no_exprs = false
  last_in_number (expr_and e no_exprs) = ends_in_number e
  last_in_number (expr_and _ (expr_and e es)) = last_in_number (expr_and e es)

-- What stands before the dot of a selector is so, and so are the arguments of a call with how they are handed on.
module _ {S : Type 0} (Selected : Expr S → Type 0) (Handed : Rest → Exprs S → Type 0) where
  abbrev mutual
    -- in the expression, each selector stands on what `Selected` allows, and each call's arguments are as `Handed` says
    pub ExprDots : Expr S → Type 0
    ExprDots (ident _ _) = Unit {0}
    ExprDots (int_lit _ _) = Unit {0}
    ExprDots (rune_lit _ _) = Unit {0}
    ExprDots (str_lit _ _) = Unit {0}
    ExprDots (composite _ _ es) = ElemsDots es
    ExprDots (selector _ e _) = Selected e × ExprDots e
    ExprDots (index _ e i) = ExprDots e × ExprDots i
    ExprDots (slice _ e i j) = ExprDots e × OptionDots i × OptionDots j
    ExprDots (call _ f xs rest) = ExprDots f × ExprsDots xs × Handed rest xs
    ExprDots (func_lit _ _ _ body) = StmtsDots body
    ExprDots (type_operand _ _) = Unit {0}
    ExprDots (unary _ _ e) = ExprDots e
    ExprDots (binary _ _ a b) = ExprDots a × ExprDots b
    ExprDots (star _ e) = ExprDots e

    -- so in each of a list of expressions
    pub ExprsDots : Exprs S → Type 0
    ExprsDots no_exprs = Unit {0}
    ExprsDots (expr_and e es) = ExprDots e × ExprsDots es

    -- so in a bound or a condition
    pub OptionDots : ExprOption S → Type 0
    OptionDots no_expr = Unit {0}
    OptionDots (some_expr e) = ExprDots e

    -- so in the keys and values of elements
    pub ElemsDots : Elems S → Type 0
    ElemsDots no_elems = Unit {0}
    ElemsDots (elem _ k v es) = KeyDots k × ValueDots v × ElemsDots es

    -- so in an element's value
    pub ValueDots : Value S → Type 0
    ValueDots (plain e) = ExprDots e
    ValueDots (braced _ es) = ElemsDots es

    -- so in an element's key
    pub KeyDots : ValueOption S → Type 0
    KeyDots no_value = Unit {0}
    KeyDots (some_value v) = ValueDots v

    -- so in a statement
    pub StmtDots : Stmt S → Type 0
    StmtDots (const_decl _ _ ss) = SpecsDots ss
    StmtDots (var_decl _ _ ss) = SpecsDots ss
    StmtDots (empty _) = Unit {0}
    StmtDots (eval _ e) = ExprDots e
    StmtDots (step _ e _) = ExprDots e
    StmtDots (assign _ xs _ ys) = ExprsDots xs × ExprsDots ys
    StmtDots (define _ _ ys) = ExprsDots ys
    StmtDots (return_ _ xs) = ExprsDots xs
    StmtDots (break_ _ _) = Unit {0}
    StmtDots (continue_ _ _) = Unit {0}
    StmtDots (inner _ body) = StmtsDots body
    StmtDots (if_ _ arms last) = ArmsDots arms × BlockDots last
    StmtDots (for_ _ i t p _ body) = PartDots i × OptionDots t × PartDots p × StmtsDots body
    StmtDots (range_ _ left e _ body) = LeftDots left × ExprDots e × StmtsDots body
    StmtDots (switch _ i t cs) = PartDots i × OptionDots t × CasesDots cs
    StmtDots (defer _ e) = ExprDots e
    StmtDots (label _ _ x) = StmtDots x

    -- so in each of a list of statements
    pub StmtsDots : Stmts S → Type 0
    StmtsDots no_stmts = Unit {0}
    StmtsDots (stmt_and x xs) = StmtDots x × StmtsDots xs

    -- so in a statement of a header
    pub PartDots : StmtOption S → Type 0
    PartDots no_stmt = Unit {0}
    PartDots (some_stmt x) = StmtDots x

    -- so in the last block of an `if`
    pub BlockDots : BlockOption S → Type 0
    BlockDots no_block = Unit {0}
    BlockDots (some_block _ xs) = StmtsDots xs

    -- so in what a range clause assigns to
    pub LeftDots : RangeLeft S → Type 0
    LeftDots nothing = Unit {0}
    LeftDots (assigns xs) = ExprsDots xs
    LeftDots (defines _) = Unit {0}

    -- so in the arms of an `if`
    pub ArmsDots : Arms S → Type 0
    ArmsDots no_arms = Unit {0}
    ArmsDots (arm _ i t _ body arms) = PartDots i × ExprDots t × StmtsDots body × ArmsDots arms

    -- so in the clauses of a switch
    pub CasesDots : Cases S → Type 0
    CasesDots no_cases = Unit {0}
    CasesDots (case _ xs body cs) = ExprsDots xs × StmtsDots body × CasesDots cs

    -- so in the values of specs
    pub SpecsDots : ValueSpecs S → Type 0
    SpecsDots no_specs = Unit {0}
    SpecsDots (spec _ _ _ xs ss) = ExprsDots xs × SpecsDots ss

  -- what declares values is a declaration of constants or of variables
  abbrev pub DeclDots : Decl S → Type 0
  DeclDots (values (const_decl _ _ ss)) = SpecsDots ss
  DeclDots (values (var_decl _ _ ss)) = SpecsDots ss
  DeclDots (values _) = Unit {0}
  DeclDots (types _ _ _) = Unit {0}
  DeclDots (func f) = StmtsDots f.body

  -- so in each of a list of declarations
  abbrev pub DeclsDots : List (Decl S) → Type 0
  DeclsDots [] = Unit {0}
  DeclsDots (d ∷ ds) = DeclDots d × DeclsDots ds

module _ {S : Type 0} where
  -- no integer literal
  abbrev pub NoNumber : Expr S → Type 0
  NoNumber e = is_number e ≡ false

  -- no integer literal stands before the dots after the arguments of a call
  abbrev pub UndottedRest : Rest → Exprs S → Type 0
  UndottedRest Whole xs = last_in_number xs ≡ false
  UndottedRest _ xs = Unit {0}

  -- no selector in the expression stands on an integer literal, and no dots stand behind one
  abbrev pub UndottedExpr : Expr S → Type 0
  UndottedExpr x = ExprDots NoNumber UndottedRest x

  -- so in a list of expressions
  abbrev pub UndottedExprs : Exprs S → Type 0
  UndottedExprs x = ExprsDots NoNumber UndottedRest x

  -- so in a bound or a condition
  abbrev pub UndottedOption : ExprOption S → Type 0
  UndottedOption x = OptionDots NoNumber UndottedRest x

  -- so in the keys and values of elements
  abbrev pub UndottedElems : Elems S → Type 0
  UndottedElems x = ElemsDots NoNumber UndottedRest x

  -- so in an element's value
  abbrev pub UndottedValue : Value S → Type 0
  UndottedValue x = ValueDots NoNumber UndottedRest x

  -- so in an element's key
  abbrev pub UndottedKey : ValueOption S → Type 0
  UndottedKey x = KeyDots NoNumber UndottedRest x

  -- so in a statement
  abbrev pub UndottedStmt : Stmt S → Type 0
  UndottedStmt x = StmtDots NoNumber UndottedRest x

  -- so in a list of statements
  abbrev pub UndottedStmts : Stmts S → Type 0
  UndottedStmts x = StmtsDots NoNumber UndottedRest x

  -- so in a statement of a header
  abbrev pub UndottedPart : StmtOption S → Type 0
  UndottedPart x = PartDots NoNumber UndottedRest x

  -- so in the last block of an `if`
  abbrev pub UndottedBlock : BlockOption S → Type 0
  UndottedBlock x = BlockDots NoNumber UndottedRest x

  -- so in what a range clause assigns to
  abbrev pub UndottedLeft : RangeLeft S → Type 0
  UndottedLeft x = LeftDots NoNumber UndottedRest x

  -- so in the arms of an `if`
  abbrev pub UndottedArms : Arms S → Type 0
  UndottedArms x = ArmsDots NoNumber UndottedRest x

  -- so in the clauses of a switch
  abbrev pub UndottedCases : Cases S → Type 0
  UndottedCases x = CasesDots NoNumber UndottedRest x

  -- so in the values of specs
  abbrev pub UndottedSpecs : ValueSpecs S → Type 0
  UndottedSpecs x = SpecsDots NoNumber UndottedRest x

  -- so in a declaration
  abbrev pub UndottedDecl : Decl S → Type 0
  UndottedDecl x = DeclDots NoNumber UndottedRest x

  -- so in declarations
  abbrev pub UndottedDecls : List (Decl S) → Type 0
  UndottedDecls x = DeclsDots NoNumber UndottedRest x

  -- no selector in the file stands on an integer literal
  abbrev pub UndottedFile : File S → Type 0
  UndottedFile f = UndottedDecls f.decls
