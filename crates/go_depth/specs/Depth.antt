-- The greatest number of nested nodes of a tree. A node is what has a span of its own: a name where it stands, a type,
-- a field, a parameter, an expression, an element and its braces, a statement, a block, an arm, a case, a spec.
use Rattle.std.specs.Prelude.{ℕ, ◌+◌, max, min, List, [], ◌∷◌, Option, Some, None}
use Rattle.go_tree.specs.Tree.{NameAt, Param, Sig, TypeExpr, named, pointer, slice_type, map_type, struct_type, Fields}
use Rattle.go_tree.specs.Tree.{no_fields, field, Expr, Exprs, ExprOption, Elems, Value, ValueOption, Stmt, Stmts}
use Rattle.go_tree.specs.Tree.{StmtOption, BlockOption, RangeLeft, Arms, Cases, ValueSpecs, ident, int_lit, rune_lit}
use Rattle.go_tree.specs.Tree.{str_lit, composite, selector, index, slice, call, func_lit, type_operand, unary, binary}
use Rattle.go_tree.specs.Tree.{star, no_exprs, expr_and, no_expr, some_expr, no_elems, elem, plain, braced, no_value}
use Rattle.go_tree.specs.Tree.{some_value, const_decl, var_decl, empty, eval, step, assign, define, return_, break_}
use Rattle.go_tree.specs.Tree.{continue_, inner, if_, for_, range_, switch, defer, label, no_stmts, stmt_and, no_stmt}
use Rattle.go_tree.specs.Tree.{some_stmt, no_block, some_block, nothing, assigns, defines, no_arms, arm, no_cases, case}
use Rattle.go_tree.specs.Tree.{no_specs, spec}

-- the number, or the largest that 32 bits have
abbrev pub capped : ℕ → ℕ
capped n = min n 4294967295

-- the greatest of f at the entries, or 0
abbrev pub greatest : {A : Type 0} → (A → ℕ) → List A → ℕ
greatest f [] = 0
greatest f (x ∷ xs) = max (f x) (greatest f xs)

module _ {S : Type 0} where
  -- a name where it stands is one node
  abbrev pub depth_name : NameAt S → ℕ
  depth_name _ = 1

  -- a name that may be left out
  abbrev pub depth_name_option : Option (NameAt S) → ℕ
  depth_name_option None = 0
  depth_name_option (Some _) = 1

  -- the names of a declaration
  abbrev pub depth_names : List (NameAt S) → ℕ
  depth_names ns = greatest depth_name ns

  abbrev mutual
    -- a type, one more than the deepest type or name in it
    pub depth_type : TypeExpr S → ℕ
    depth_type (named _ p n) = max (depth_name_option p) 1 + 1
    depth_type (pointer _ t) = depth_type t + 1
    depth_type (slice_type _ t) = depth_type t + 1
    depth_type (map_type _ k t) = max (depth_type k) (depth_type t) + 1
    depth_type (struct_type _ fs) = depth_fields fs + 1

    -- the deepest field of a struct, each of them a node
    pub depth_fields : Fields S → ℕ
    depth_fields no_fields = 0
    depth_fields (field _ n t fs) = max (max 1 (depth_type t) + 1) (depth_fields fs)

  -- a type that may be left out
  abbrev pub depth_type_option : Option (TypeExpr S) → ℕ
  depth_type_option None = 0
  depth_type_option (Some t) = depth_type t

  -- a parameter or result, with its name and its type
  abbrev pub depth_param : Param S → ℕ
  depth_param p = max (depth_name_option p.name) (depth_type p.of) + 1

  -- the deepest parameter or result of a signature, which is no node itself
  abbrev pub depth_sig : Sig S → ℕ
  depth_sig s = max (greatest depth_param s.params) (greatest depth_param s.results)

  abbrev mutual
    -- an expression, one more than the deepest part of it
    pub depth_expr : Expr S → ℕ
    depth_expr (ident _ _) = 1
    depth_expr (int_lit _ _) = 1
    depth_expr (rune_lit _ _) = 1
    depth_expr (str_lit _ _) = 1
    depth_expr (composite _ b c) = (max (depth_type b) (depth_elems c)) + 1
    depth_expr (selector _ b _) = (max (depth_expr b) 1) + 1
    depth_expr (index _ b c) = (max (depth_expr b) (depth_expr c)) + 1
    depth_expr (slice _ b c d) = (max (depth_expr b) (max (depth_expr_option c) (depth_expr_option d))) + 1
    depth_expr (call _ b c _) = (max (depth_expr b) (depth_exprs c)) + 1
    depth_expr (func_lit _ b _ d) = max (depth_sig b) (depth_stmts d + 1) + 1
    depth_expr (type_operand _ b) = (depth_type b) + 1
    depth_expr (unary _ _ c) = (depth_expr c) + 1
    depth_expr (binary _ _ c d) = (max (depth_expr c) (depth_expr d)) + 1
    depth_expr (star _ b) = (depth_expr b) + 1

    -- the deepest expression of a list
    pub depth_exprs : Exprs S → ℕ
    depth_exprs no_exprs = 0
    depth_exprs (expr_and a b) = max (depth_expr a) (depth_exprs b)

    -- a bound or a condition, which may be left out
    pub depth_expr_option : ExprOption S → ℕ
    depth_expr_option no_expr = 0
    depth_expr_option (some_expr a) = depth_expr a

    -- the deepest element of a literal, each of them a node
    pub depth_elems : Elems S → ℕ
    depth_elems no_elems = 0
    depth_elems (elem _ b c d) = max (max (depth_value_option b) (depth_value c) + 1) (depth_elems d)

    -- an element's value, where braces are a node
    pub depth_value : Value S → ℕ
    depth_value (plain a) = depth_expr a
    depth_value (braced _ b) = depth_elems b + 1

    -- an element's key, which may be left out
    pub depth_value_option : ValueOption S → ℕ
    depth_value_option no_value = 0
    depth_value_option (some_value a) = depth_value a

    -- a statement, one more than the deepest part of it
    pub depth_stmt : Stmt S → ℕ
    depth_stmt (const_decl _ _ c) = (depth_value_specs c) + 1
    depth_stmt (var_decl _ _ c) = (depth_value_specs c) + 1
    depth_stmt (empty _) = 1
    depth_stmt (eval _ b) = (depth_expr b) + 1
    depth_stmt (step _ b _) = (depth_expr b) + 1
    depth_stmt (assign _ b _ d) = (max (depth_exprs b) (depth_exprs d)) + 1
    depth_stmt (define _ b c) = (max (depth_names b) (depth_exprs c)) + 1
    depth_stmt (return_ _ b) = (depth_exprs b) + 1
    depth_stmt (break_ _ b) = (depth_name_option b) + 1
    depth_stmt (continue_ _ b) = (depth_name_option b) + 1
    depth_stmt (inner _ b) = depth_stmts b + 1
    depth_stmt (if_ _ b c) = (max (depth_arms b) (depth_block_option c)) + 1
    depth_stmt (for_ _ b c d _ f) =
        max (depth_stmt_option b) (max (depth_expr_option c) (max (depth_stmt_option d) (depth_stmts f + 1))) + 1
    depth_stmt (range_ _ b c _ e) = max (depth_range_left b) (max (depth_expr c) (depth_stmts e + 1)) + 1
    depth_stmt (switch _ b c d) = (max (depth_stmt_option b) (max (depth_expr_option c) (depth_cases d))) + 1
    depth_stmt (defer _ b) = (depth_expr b) + 1
    depth_stmt (label _ _ c) = (max 1 (depth_stmt c)) + 1

    -- the deepest statement of a list
    pub depth_stmts : Stmts S → ℕ
    depth_stmts no_stmts = 0
    depth_stmts (stmt_and a b) = max (depth_stmt a) (depth_stmts b)

    -- a statement in a header, which may be left out
    pub depth_stmt_option : StmtOption S → ℕ
    depth_stmt_option no_stmt = 0
    depth_stmt_option (some_stmt a) = depth_stmt a

    -- the last block of an `if`, which is a node where it is there
    pub depth_block_option : BlockOption S → ℕ
    depth_block_option no_block = 0
    depth_block_option (some_block _ b) = depth_stmts b + 1

    -- the left side of a range clause, which is no node itself
    pub depth_range_left : RangeLeft S → ℕ
    depth_range_left nothing = 0
    depth_range_left (assigns a) = depth_exprs a
    depth_range_left (defines a) = depth_names a

    -- the deepest arm of an `if`, each of them a node, and its block another
    pub depth_arms : Arms S → ℕ
    depth_arms no_arms = 0
    depth_arms (arm _ b c _ e f) =
        max (max (depth_stmt_option b) (max (depth_expr c) (depth_stmts e + 1)) + 1) (depth_arms f)

    -- the deepest clause of a switch, each of them a node
    pub depth_cases : Cases S → ℕ
    depth_cases no_cases = 0
    depth_cases (case _ b c d) = max (max (depth_exprs b) (depth_stmts c) + 1) (depth_cases d)

    -- the deepest spec of `const` or `var`, each of them a node
    pub depth_value_specs : ValueSpecs S → ℕ
    depth_value_specs no_specs = 0
    depth_value_specs (spec _ b c d e) =
        max (max (depth_names b) (max (depth_type_option c) (depth_exprs d)) + 1) (depth_value_specs e)
