-- Trees that the grammar forms: their names and literals are tokens, lists have an entry where the grammar wants one,
-- and a
-- literal of a function is called at once and isn't variadic (Go specification, Types, Expressions, Statements).
use Rattle.std.specs.Prelude.{◌≡◌, ◌⊎◌, ℕ, Bool, true, false, List, [], ◌∷◌, Option, Some, None}
use Rattle.std.specs.Str.{IsUtf8, chars}
use Rattle.go_tree.specs.declared.operators.BinOp.{BinOp}
use Rattle.go_tree.specs.declared.operators.BinOp.TheVariants.{Eq, Ne, Lt, Le, Gt, Ge, LogAnd, LogOr}
use Rattle.go_tree.specs.declared.tokens.TokenKind.{TokenKind}
use Rattle.go_tree.specs.declared.tokens.TokenKind.TheVariants.{Ident, Integer, Rune, Str}
use Rattle.go_tree.specs.declared.exprs.Rest.{Rest}
use Rattle.go_tree.specs.declared.exprs.Rest.TheVariants.{Plain, Whole, Packed, Empty}
use Rattle.go_tree.specs.Tree.{NameAt, TypeExpr, Fields, Param, Sig, Expr, Exprs, ExprOption, Elems, Value, ValueOption}
use Rattle.go_tree.specs.Tree.{Stmt, Stmts, StmtOption, BlockOption, RangeLeft, Arms, Cases, ValueSpecs, named, pointer}
use Rattle.go_tree.specs.Tree.{slice_type, map_type, struct_type, no_fields, field, ident, int_lit, rune_lit, str_lit}
use Rattle.go_tree.specs.Tree.{composite, selector, index, slice, call, func_lit, type_operand, unary, binary, star}
use Rattle.go_tree.specs.Tree.{no_exprs, expr_and, no_expr, some_expr, no_elems, elem, plain, braced, no_value}
use Rattle.go_tree.specs.Tree.{some_value, const_decl, var_decl, empty, eval, step, assign, define, return_, break_}
use Rattle.go_tree.specs.Tree.{continue_, inner, if_, for_, range_, switch, defer, label, no_stmts, stmt_and, no_stmt}
use Rattle.go_tree.specs.Tree.{some_stmt, no_block, some_block, nothing, assigns, defines, no_arms, arm, no_cases, case}
use Rattle.go_tree.specs.Tree.{no_specs, spec}
use Rattle.go_tree.specs.GoWords.Tokens.Pieces.{token, IsPiece}
use Rattle.go_read.specs.Spells.{is_func_lit}

-- the bytes are the spelling of a token of this kind
abbrev pub IsToken : TokenKind → List ℕ → Type 0
IsToken kind spelling = IsUtf8 spelling × IsPiece (token kind) (chars spelling)

-- the bytes spell an identifier
abbrev pub IsName : List ℕ → Type 0
IsName name = IsToken Ident name

-- `op=` is an operator
abbrev pub is_assign : Option BinOp → Bool
is_assign None = true
is_assign (Some Eq) = false
is_assign (Some Ne) = false
is_assign (Some Lt) = false
is_assign (Some Le) = false
is_assign (Some Gt) = false
is_assign (Some Ge) = false
is_assign (Some LogAnd) = false
is_assign (Some LogOr) = false
is_assign (Some _) = true

module _ {S : Type 0} where
  -- a name that is there is an identifier
  abbrev pub FormedName : Option (NameAt S) → Type 0
  FormedName None = Unit {0}
  FormedName (Some n) = IsName n.name

  -- each name is an identifier
  abbrev pub FormedNames : List (NameAt S) → Type 0
  FormedNames [] = Unit {0}
  FormedNames (n ∷ ns) = IsName n.name × FormedNames ns

  -- there is a name at least
  abbrev pub HasNames : List (NameAt S) → Type 0
  HasNames [] = ⊥
  HasNames (n ∷ ns) = Unit {0}

  abbrev mutual
    -- each name in the type is an identifier
    pub FormedType : TypeExpr S → Type 0
    FormedType (named _ p n) = FormedName p × IsName n.name
    FormedType (pointer _ t) = FormedType t
    FormedType (slice_type _ t) = FormedType t
    FormedType (map_type _ k t) = FormedType k × FormedType t
    FormedType (struct_type _ fs) = FormedFields fs

    -- fields with identifiers for names, and types that are formed
    pub FormedFields : Fields S → Type 0
    FormedFields no_fields = Unit {0}
    FormedFields (field _ n t fs) = IsName n.name × FormedType t × FormedFields fs

  -- a parameter or result has a name
  abbrev pub IsNamed : Option (NameAt S) → Type 0
  IsNamed None = ⊥
  IsNamed (Some n) = IsName n.name

  -- a parameter or result has no name
  abbrev pub IsUnnamed : Option (NameAt S) → Type 0
  IsUnnamed None = Unit {0}
  IsUnnamed (Some n) = ⊥

  -- `...` stands before the type of the last parameter alone, and only where a list may be variadic
  abbrev pub FitsRest : Bool → Bool → List (Param S) → Type 0
  FitsRest false variadic ps = Unit {0}
  FitsRest true true [] = Unit {0}
  FitsRest true true (_ ∷ _) = ⊥
  FitsRest true false ps = ⊥

  -- parameters each of which has a name
  abbrev pub FormedNamed : Bool → List (Param S) → Type 0
  FormedNamed variadic [] = Unit {0}
  FormedNamed variadic (p ∷ ps) =
      IsNamed p.name × FormedType p.of × FormedNamed variadic ps × FitsRest p.rest variadic ps

  -- parameters none of which has a name
  abbrev pub FormedUnnamed : Bool → List (Param S) → Type 0
  FormedUnnamed variadic [] = Unit {0}
  FormedUnnamed variadic (p ∷ ps) =
      IsUnnamed p.name × FormedType p.of × FormedUnnamed variadic ps × FitsRest p.rest variadic ps

  -- all of them have names, or none
  abbrev pub FormedParams : Bool → List (Param S) → Type 0
  FormedParams variadic ps = FormedNamed variadic ps ⊎ FormedUnnamed variadic ps

  -- a declared function may be variadic, and no method and no literal
  abbrev pub FormedSig : Bool → Sig S → Type 0
  FormedSig variadic g = FormedParams variadic g.params × FormedParams false g.results

  -- a type that may be left out
  abbrev pub FormedTypeOption : Option (TypeExpr S) → Type 0
  FormedTypeOption None = Unit {0}
  FormedTypeOption (Some t) = FormedType t

  -- the type of a composite literal
  abbrev pub FormedLiteralType : TypeExpr S → Type 0
  FormedLiteralType (pointer _ t) = ⊥
  FormedLiteralType t = FormedType t

  -- a type that is an expression
  abbrev pub FormedTypeOperand : TypeExpr S → Type 0
  FormedTypeOperand (named _ _ _) = ⊥
  FormedTypeOperand (pointer _ _) = ⊥
  FormedTypeOperand t = FormedType t

  -- there is an expression at least
  abbrev pub HasExprs : Exprs S → Type 0
  HasExprs no_exprs = ⊥
  HasExprs (expr_and _ _) = Unit {0}

  -- there is an arm at least
  abbrev pub HasArms : Arms S → Type 0
  HasArms no_arms = ⊥
  HasArms (arm _ _ _ _ _ _) = Unit {0}

  -- `...` stands after an argument; a call that is packed or has its last argument added is no source
  abbrev pub FormedRest : Rest → Exprs S → Type 0
  FormedRest Plain xs = Unit {0}
  FormedRest Whole xs = HasExprs xs
  FormedRest Packed xs = ⊥
  FormedRest Empty xs = ⊥

  -- a call
  abbrev pub is_call : Expr S → Bool
  is_call (call _ _ _ _) = true
  is_call _ = false

  -- a statement that may stand in a header
  abbrev pub is_simple : Stmt S → Bool
  is_simple (eval _ _) = true
  is_simple (step _ _ _) = true
  is_simple (assign _ _ _ _) = true
  is_simple (define _ _ _) = true
  is_simple _ = false

  -- without parentheses there is one spec
  abbrev pub FormedGroup : Bool → ValueSpecs S → Type 0
  FormedGroup true ss = Unit {0}
  FormedGroup false no_specs = ⊥
  FormedGroup false (spec _ _ _ _ no_specs) = Unit {0}
  FormedGroup false (spec _ _ _ _ (spec _ _ _ _ _)) = ⊥

  -- a constant (true) has both a type and values, values, or neither; a variable has a type or values
  abbrev pub FormedSpec : Bool → Option (TypeExpr S) → Exprs S → Type 0
  FormedSpec constant t (expr_and _ _) = Unit {0}
  FormedSpec true None no_exprs = Unit {0}
  FormedSpec true (Some _) no_exprs = ⊥
  FormedSpec false None no_exprs = ⊥
  FormedSpec false (Some _) no_exprs = Unit {0}

  abbrev mutual
    -- an expression: its names and literals are tokens, and of its parts only what is called may be a literal of a
    -- function
    pub FormedExpr : Expr S → Type 0
    FormedExpr (ident _ n) = IsName n
    FormedExpr (int_lit _ n) = IsToken Integer n
    FormedExpr (rune_lit _ n) = IsToken Rune n
    FormedExpr (str_lit _ n) = IsToken Str n
    FormedExpr (composite _ t es) = FormedLiteralType t × FormedElems es
    FormedExpr (selector _ e n) = (is_func_lit e ≡ false) × FormedExpr e × IsName n.name
    FormedExpr (index _ e at) = (is_func_lit e ≡ false) × FormedExpr e × (is_func_lit at ≡ false) × FormedExpr at
    FormedExpr (slice _ e from to) = (is_func_lit e ≡ false) × FormedExpr e × FormedOption from × FormedOption to
    FormedExpr (call _ f xs rest) = FormedExpr f × FormedExprs xs × FormedRest rest xs
    FormedExpr (func_lit _ g _ body) = FormedSig false g × FormedStmts body
    FormedExpr (type_operand _ t) = FormedTypeOperand t
    FormedExpr (unary _ o e) = (is_func_lit e ≡ false) × FormedExpr e
    FormedExpr (binary _ o a b) = (is_func_lit a ≡ false) × FormedExpr a × (is_func_lit b ≡ false) × FormedExpr b
    FormedExpr (star _ e) = (is_func_lit e ≡ false) × FormedExpr e

    -- a bound or a condition, which may be left out
    pub FormedOption : ExprOption S → Type 0
    FormedOption no_expr = Unit {0}
    FormedOption (some_expr e) = (is_func_lit e ≡ false) × FormedExpr e

    -- expressions, none of which is a literal of a function
    pub FormedExprs : Exprs S → Type 0
    FormedExprs no_exprs = Unit {0}
    FormedExprs (expr_and e es) = (is_func_lit e ≡ false) × FormedExpr e × FormedExprs es

    -- the elements of a composite literal
    pub FormedElems : Elems S → Type 0
    FormedElems no_elems = Unit {0}
    FormedElems (elem _ k v es) = FormedKey k × FormedValue v × FormedElems es

    -- an element's key, which may be left out
    pub FormedKey : ValueOption S → Type 0
    FormedKey no_value = Unit {0}
    FormedKey (some_value v) = FormedValue v

    -- an element's value: an expression, or elements in braces
    pub FormedValue : Value S → Type 0
    FormedValue (plain e) = (is_func_lit e ≡ false) × FormedExpr e
    FormedValue (braced _ es) = FormedElems es

    -- a statement whose parts are formed, with entries in lists where the grammar wants one
    pub FormedStmt : Stmt S → Type 0
    FormedStmt (const_decl _ grouped ss) = FormedGroup grouped ss × FormedSpecs true ss
    FormedStmt (var_decl _ grouped ss) = FormedGroup grouped ss × FormedSpecs false ss
    FormedStmt (empty _) = Unit {0}
    FormedStmt (eval _ e) = (is_func_lit e ≡ false) × FormedExpr e
    FormedStmt (step _ e up) = (is_func_lit e ≡ false) × FormedExpr e
    FormedStmt (assign _ xs o ys) = HasExprs xs × FormedExprs xs × (is_assign o ≡ true) × HasExprs ys × FormedExprs ys
    FormedStmt (define _ ns ys) = HasNames ns × FormedNames ns × HasExprs ys × FormedExprs ys
    FormedStmt (return_ _ xs) = FormedExprs xs
    FormedStmt (break_ _ n) = FormedName n
    FormedStmt (continue_ _ n) = FormedName n
    FormedStmt (inner _ body) = FormedStmts body
    FormedStmt (if_ _ arms last) = HasArms arms × FormedArms arms × FormedBlock last
    FormedStmt (for_ _ first t post _ body) = FormedPart first × FormedOption t × FormedPart post × FormedStmts body
    FormedStmt (range_ _ left e _ body) = FormedLeft left × (is_func_lit e ≡ false) × FormedExpr e × FormedStmts body
    FormedStmt (switch _ first t cs) = FormedPart first × FormedOption t × FormedCases cs
    FormedStmt (defer _ e) = (is_call e ≡ true) × FormedExpr e
    FormedStmt (label _ n x) = IsName n.name × FormedStmt x

    -- a list of statements
    pub FormedStmts : Stmts S → Type 0
    FormedStmts no_stmts = Unit {0}
    FormedStmts (stmt_and x xs) = FormedStmt x × FormedStmts xs

    -- a simple statement in a header, which may be left out
    pub FormedPart : StmtOption S → Type 0
    FormedPart no_stmt = Unit {0}
    FormedPart (some_stmt x) = (is_simple x ≡ true) × FormedStmt x

    -- the arms of an `if`
    pub FormedArms : Arms S → Type 0
    FormedArms no_arms = Unit {0}
    FormedArms (arm _ first t _ body arms) = FormedPart first × (is_func_lit t ≡ false) × FormedExpr t
        × FormedStmts body × FormedArms arms

    -- the last block of an `if`, which may be left out
    pub FormedBlock : BlockOption S → Type 0
    FormedBlock no_block = Unit {0}
    FormedBlock (some_block _ body) = FormedStmts body

    -- the left side of a range clause, with an entry at least where it isn't empty
    pub FormedLeft : RangeLeft S → Type 0
    FormedLeft nothing = Unit {0}
    FormedLeft (assigns xs) = HasExprs xs × FormedExprs xs
    FormedLeft (defines ns) = HasNames ns × FormedNames ns

    -- the clauses of a switch
    pub FormedCases : Cases S → Type 0
    FormedCases no_cases = Unit {0}
    FormedCases (case _ xs body cs) = FormedExprs xs × FormedStmts body × FormedCases cs

    -- specs of constants or of variables, each with a name at least
    pub FormedSpecs : Bool → ValueSpecs S → Type 0
    FormedSpecs constant no_specs = Unit {0}
    FormedSpecs constant (spec _ ns t xs ss) =
        HasNames ns × FormedNames ns × FormedTypeOption t × FormedExprs xs × FormedSpec constant t xs
        × FormedSpecs constant ss

  -- an expression other than a literal of a function
  abbrev pub FormedOperand : Expr S → Type 0
  FormedOperand e = (is_func_lit e ≡ false) × FormedExpr e
