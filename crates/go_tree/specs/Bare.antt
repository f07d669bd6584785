-- Trees without their spans: two trees are equal, spans aside, where these are.
use Rattle.std.specs.Prelude.{map}
use Rattle.std.specs.Option.{option_map}
use Rattle.go_tree.specs.Tree.{NameAt, TypeExpr, Fields, named, pointer, slice_type, map_type, struct_type, no_fields}
use Rattle.go_tree.specs.Tree.{field, Param, Sig, Expr, Exprs, ExprOption, Elems, Value, ValueOption, Stmt, Stmts}
use Rattle.go_tree.specs.Tree.{StmtOption, BlockOption, RangeLeft, Arms, Cases, ValueSpecs, ident, int_lit, rune_lit}
use Rattle.go_tree.specs.Tree.{str_lit, composite, selector, index, slice, call, func_lit, type_operand, unary, binary}
use Rattle.go_tree.specs.Tree.{star, no_exprs, expr_and, no_expr, some_expr, no_elems, elem, plain, braced, no_value}
use Rattle.go_tree.specs.Tree.{some_value, const_decl, var_decl, empty, eval, step, assign, define, return_, break_}
use Rattle.go_tree.specs.Tree.{continue_, inner, if_, for_, range_, switch, defer, label, no_stmts, stmt_and, no_stmt}
use Rattle.go_tree.specs.Tree.{some_stmt, no_block, some_block, nothing, assigns, defines, no_arms, arm, no_cases, case}
use Rattle.go_tree.specs.Tree.{no_specs, spec}

module _ {S : Type 0} where
  -- a name without its span
  abbrev pub bare_name : NameAt S → NameAt (Unit {0})
  bare_name n = record { span = tt; name = n.name }

  abbrev mutual
    -- a type without spans
    pub bare_type : TypeExpr S → TypeExpr (Unit {0})
    bare_type (named _ p n) = named tt (option_map bare_name p) (bare_name n)
    bare_type (pointer _ t) = pointer tt (bare_type t)
    bare_type (slice_type _ t) = slice_type tt (bare_type t)
    bare_type (map_type _ k t) = map_type tt (bare_type k) (bare_type t)
    bare_type (struct_type _ fs) = struct_type tt (bare_fields fs)

    -- the fields of a struct without spans
    pub bare_fields : Fields S → Fields (Unit {0})
    bare_fields no_fields = no_fields
    bare_fields (field _ n t fs) = field tt (bare_name n) (bare_type t) (bare_fields fs)

  -- a parameter or result without spans
  abbrev pub bare_param : Param S → Param (Unit {0})
  bare_param p = record { span = tt; name = option_map bare_name p.name; rest = p.rest; of = bare_type p.of }

  -- a signature without spans
  abbrev pub bare_sig : Sig S → Sig (Unit {0})
  bare_sig s = record { params = map bare_param s.params; results = map bare_param s.results }

  abbrev mutual
    -- an expression without spans
    pub bare_expr : Expr S → Expr (Unit {0})
    bare_expr (ident _ b) = ident tt b
    bare_expr (int_lit _ b) = int_lit tt b
    bare_expr (rune_lit _ b) = rune_lit tt b
    bare_expr (str_lit _ b) = str_lit tt b
    bare_expr (composite _ b c) = composite tt (bare_type b) (bare_elems c)
    bare_expr (selector _ b c) = selector tt (bare_expr b) (bare_name c)
    bare_expr (index _ b c) = index tt (bare_expr b) (bare_expr c)
    bare_expr (slice _ b c d) = slice tt (bare_expr b) (bare_expr_option c) (bare_expr_option d)
    bare_expr (call _ b c d) = call tt (bare_expr b) (bare_exprs c) d
    bare_expr (func_lit _ b _ d) = func_lit tt (bare_sig b) tt (bare_stmts d)
    bare_expr (type_operand _ b) = type_operand tt (bare_type b)
    bare_expr (unary _ b c) = unary tt b (bare_expr c)
    bare_expr (binary _ b c d) = binary tt b (bare_expr c) (bare_expr d)
    bare_expr (star _ b) = star tt (bare_expr b)

    -- a list of expressions without spans
    pub bare_exprs : Exprs S → Exprs (Unit {0})
    bare_exprs no_exprs = no_exprs
    bare_exprs (expr_and a b) = expr_and (bare_expr a) (bare_exprs b)

    -- an expression that may be left out, without spans
    pub bare_expr_option : ExprOption S → ExprOption (Unit {0})
    bare_expr_option no_expr = no_expr
    bare_expr_option (some_expr a) = some_expr (bare_expr a)

    -- the elements of a composite literal without spans
    pub bare_elems : Elems S → Elems (Unit {0})
    bare_elems no_elems = no_elems
    bare_elems (elem _ b c d) = elem tt (bare_value_option b) (bare_value c) (bare_elems d)

    -- an element's value without spans
    pub bare_value : Value S → Value (Unit {0})
    bare_value (plain a) = plain (bare_expr a)
    bare_value (braced _ b) = braced tt (bare_elems b)

    -- an element's key, which may be left out, without spans
    pub bare_value_option : ValueOption S → ValueOption (Unit {0})
    bare_value_option no_value = no_value
    bare_value_option (some_value a) = some_value (bare_value a)

    -- a statement without spans
    pub bare_stmt : Stmt S → Stmt (Unit {0})
    bare_stmt (const_decl _ b c) = const_decl tt b (bare_value_specs c)
    bare_stmt (var_decl _ b c) = var_decl tt b (bare_value_specs c)
    bare_stmt (empty _) = empty tt
    bare_stmt (eval _ b) = eval tt (bare_expr b)
    bare_stmt (step _ b c) = step tt (bare_expr b) c
    bare_stmt (assign _ b c d) = assign tt (bare_exprs b) c (bare_exprs d)
    bare_stmt (define _ b c) = define tt (map bare_name b) (bare_exprs c)
    bare_stmt (return_ _ b) = return_ tt (bare_exprs b)
    bare_stmt (break_ _ b) = break_ tt (option_map bare_name b)
    bare_stmt (continue_ _ b) = continue_ tt (option_map bare_name b)
    bare_stmt (inner _ b) = inner tt (bare_stmts b)
    bare_stmt (if_ _ b c) = if_ tt (bare_arms b) (bare_block_option c)
    bare_stmt (for_ _ b c d _ f) =
        for_ tt (bare_stmt_option b) (bare_expr_option c) (bare_stmt_option d) tt (bare_stmts f)
    bare_stmt (range_ _ b c _ e) = range_ tt (bare_range_left b) (bare_expr c) tt (bare_stmts e)
    bare_stmt (switch _ b c d) = switch tt (bare_stmt_option b) (bare_expr_option c) (bare_cases d)
    bare_stmt (defer _ b) = defer tt (bare_expr b)
    bare_stmt (label _ b c) = label tt (bare_name b) (bare_stmt c)

    -- a list of statements without spans
    pub bare_stmts : Stmts S → Stmts (Unit {0})
    bare_stmts no_stmts = no_stmts
    bare_stmts (stmt_and a b) = stmt_and (bare_stmt a) (bare_stmts b)

    -- a statement in a header, which may be left out, without spans
    pub bare_stmt_option : StmtOption S → StmtOption (Unit {0})
    bare_stmt_option no_stmt = no_stmt
    bare_stmt_option (some_stmt a) = some_stmt (bare_stmt a)

    -- the last block of an `if`, which may be left out, without spans
    pub bare_block_option : BlockOption S → BlockOption (Unit {0})
    bare_block_option no_block = no_block
    bare_block_option (some_block _ b) = some_block tt (bare_stmts b)

    -- the left side of a range clause without spans
    pub bare_range_left : RangeLeft S → RangeLeft (Unit {0})
    bare_range_left nothing = nothing
    bare_range_left (assigns a) = assigns (bare_exprs a)
    bare_range_left (defines a) = defines (map bare_name a)

    -- the arms of an `if` without spans
    pub bare_arms : Arms S → Arms (Unit {0})
    bare_arms no_arms = no_arms
    bare_arms (arm _ b c _ e f) = arm tt (bare_stmt_option b) (bare_expr c) tt (bare_stmts e) (bare_arms f)

    -- the clauses of a switch without spans
    pub bare_cases : Cases S → Cases (Unit {0})
    bare_cases no_cases = no_cases
    bare_cases (case _ b c d) = case tt (bare_exprs b) (bare_stmts c) (bare_cases d)

    -- the specs of `const` or `var` without spans
    pub bare_value_specs : ValueSpecs S → ValueSpecs (Unit {0})
    bare_value_specs no_specs = no_specs
    bare_value_specs (spec _ b c d e) =
        spec tt (map bare_name b) (option_map bare_type c) (bare_exprs d) (bare_value_specs e)
