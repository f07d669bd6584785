-- A tree with other spans in the place of its own is the same tree without its spans.
use Rattle.std.specs.Prelude.{◌≡◌, refl, List, [], ◌∷◌, map, Option, Some, None}
use Rattle.std.specs.Option.{option_map}
use Rattle.go_tree.specs.Tree.{NameAt, TypeExpr, named, pointer, slice_type, map_type, struct_type, Fields, no_fields}
use Rattle.go_tree.specs.Tree.{field, Param, Sig, Expr, ident, int_lit, rune_lit, str_lit, composite, selector, index}
use Rattle.go_tree.specs.Tree.{slice, call, func_lit, type_operand, unary, binary, star, Exprs, no_exprs, expr_and}
use Rattle.go_tree.specs.Tree.{ExprOption, no_expr, some_expr, Elems, no_elems, elem, Value, plain, braced, ValueOption}
use Rattle.go_tree.specs.Tree.{no_value, some_value, Stmt, const_decl, var_decl, empty, eval, step, assign, define}
use Rattle.go_tree.specs.Tree.{return_, break_, continue_, inner, if_, for_, range_, switch, defer, label, Stmts}
use Rattle.go_tree.specs.Tree.{no_stmts, stmt_and, StmtOption, no_stmt, some_stmt, BlockOption, no_block, some_block}
use Rattle.go_tree.specs.Tree.{RangeLeft, nothing, assigns, defines, Arms, no_arms, arm, Cases, no_cases, case}
use Rattle.go_tree.specs.Tree.{ValueSpecs, no_specs, spec}
use Rattle.go_tree.specs.Bare.{bare_name, bare_type, bare_fields, bare_param, bare_sig, bare_expr, bare_exprs}
use Rattle.go_tree.specs.Bare.{bare_expr_option, bare_elems, bare_value, bare_value_option, bare_stmt, bare_stmts}
use Rattle.go_tree.specs.Bare.{bare_stmt_option, bare_block_option, bare_range_left, bare_arms, bare_cases}
use Rattle.go_tree.specs.Bare.{bare_value_specs}
use Rattle.run_rules.specs.Respanned.{name_with, type_with, fields_with, param_with, sig_with, expr_with, exprs_with}
use Rattle.run_rules.specs.Respanned.{expr_option_with, elems_with, value_option_with, value_with, stmt_with}
use Rattle.run_rules.specs.Respanned.{stmts_with, stmt_option_with, block_option_with, left_with, arms_with, cases_with}
use Rattle.run_rules.specs.Respanned.{specs_with}

module _ {S T : Type 0} (to : S → T) where
  pub names-spanless : (ns : List (NameAt S)) → map bare_name (map (name_with to) ns) ≡ map bare_name ns
  names-spanless [] = refl
  names-spanless (n ∷ ns) = λ w. bare_name n ∷ names-spanless ns w

  pub name_option-spanless : (n : Option (NameAt S)) →
      option_map bare_name (option_map (name_with to) n) ≡ option_map bare_name n
  name_option-spanless None = refl
  name_option-spanless (Some n) = refl

  mutual
    pub type-spanless : (x : TypeExpr S) → bare_type (type_with to x) ≡ bare_type x
    type-spanless (named _ p n) =
        λ w. named tt ((name_option-spanless p w)) (bare_name n)
    type-spanless (pointer _ t) =
        λ w. pointer tt ((type-spanless t w))
    type-spanless (slice_type _ t) =
        λ w. slice_type tt ((type-spanless t w))
    type-spanless (map_type _ k t) =
        λ w. map_type tt ((type-spanless k w)) ((type-spanless t w))
    type-spanless (struct_type _ fs) =
        λ w. struct_type tt ((fields-spanless fs w))

    pub fields-spanless : (x : Fields S) → bare_fields (fields_with to x) ≡ bare_fields x
    fields-spanless no_fields =
        λ w. no_fields
    fields-spanless (field _ n t fs) =
        λ w. field tt (bare_name n) ((type-spanless t w)) ((fields-spanless fs w))

  pub type_option-spanless : (t : Option (TypeExpr S)) →
      option_map bare_type (option_map (type_with to) t) ≡ option_map bare_type t
  type_option-spanless None = refl
  type_option-spanless (Some t) = λ w. Some (type-spanless t w)

  pub params-spanless : (ps : List (Param S)) → map bare_param (map (param_with to) ps) ≡ map bare_param ps
  params-spanless [] = refl
  params-spanless (p ∷ ps) =
      λ w. record {
        span = tt;
        name = name_option-spanless p.name w;
        rest = p.rest;
        of = type-spanless p.of w;
      } ∷ params-spanless ps w

  pub sig-spanless : (g : Sig S) → bare_sig (sig_with to g) ≡ bare_sig g
  sig-spanless g = λ w. record { params = params-spanless g.params w; results = params-spanless g.results w }

  mutual
    pub expr-spanless : (x : Expr S) → bare_expr (expr_with to x) ≡ bare_expr x
    expr-spanless (ident _ b) =
        λ w. ident tt b
    expr-spanless (int_lit _ b) =
        λ w. int_lit tt b
    expr-spanless (rune_lit _ b) =
        λ w. rune_lit tt b
    expr-spanless (str_lit _ b) =
        λ w. str_lit tt b
    expr-spanless (composite _ b c) =
        λ w. composite tt ((type-spanless b w)) ((elems-spanless c w))
    expr-spanless (selector _ b c) =
        λ w. selector tt ((expr-spanless b w)) (bare_name c)
    expr-spanless (index _ b c) =
        λ w. index tt ((expr-spanless b w)) ((expr-spanless c w))
    expr-spanless (slice _ b c d) =
        λ w. slice tt ((expr-spanless b w)) ((expr_option-spanless c w)) ((expr_option-spanless d w))
    expr-spanless (call _ b c d) =
        λ w. call tt ((expr-spanless b w)) ((exprs-spanless c w)) d
    expr-spanless (func_lit _ b _ d) =
        λ w. func_lit tt ((sig-spanless b w)) tt ((stmts-spanless d w))
    expr-spanless (type_operand _ b) =
        λ w. type_operand tt ((type-spanless b w))
    expr-spanless (unary _ b c) =
        λ w. unary tt b ((expr-spanless c w))
    expr-spanless (binary _ b c d) =
        λ w. binary tt b ((expr-spanless c w)) ((expr-spanless d w))
    expr-spanless (star _ b) =
        λ w. star tt ((expr-spanless b w))

    pub exprs-spanless : (x : Exprs S) → bare_exprs (exprs_with to x) ≡ bare_exprs x
    exprs-spanless no_exprs =
        λ w. no_exprs
    exprs-spanless (expr_and a b) =
        λ w. expr_and ((expr-spanless a w)) ((exprs-spanless b w))

    pub expr_option-spanless : (x : ExprOption S) → bare_expr_option (expr_option_with to x) ≡ bare_expr_option x
    expr_option-spanless no_expr =
        λ w. no_expr
    expr_option-spanless (some_expr a) =
        λ w. some_expr ((expr-spanless a w))

    pub elems-spanless : (x : Elems S) → bare_elems (elems_with to x) ≡ bare_elems x
    elems-spanless no_elems =
        λ w. no_elems
    elems-spanless (elem _ b c d) =
        λ w. elem tt ((value_option-spanless b w)) ((value-spanless c w)) ((elems-spanless d w))

    pub value-spanless : (x : Value S) → bare_value (value_with to x) ≡ bare_value x
    value-spanless (plain a) =
        λ w. plain ((expr-spanless a w))
    value-spanless (braced _ b) =
        λ w. braced tt ((elems-spanless b w))

    pub value_option-spanless : (x : ValueOption S) → bare_value_option (value_option_with to x) ≡ bare_value_option x
    value_option-spanless no_value =
        λ w. no_value
    value_option-spanless (some_value a) =
        λ w. some_value ((value-spanless a w))

    pub stmt-spanless : (x : Stmt S) → bare_stmt (stmt_with to x) ≡ bare_stmt x
    stmt-spanless (const_decl _ b c) =
        λ w. const_decl tt b ((specs-spanless c w))
    stmt-spanless (var_decl _ b c) =
        λ w. var_decl tt b ((specs-spanless c w))
    stmt-spanless (empty _) =
        λ w. empty tt
    stmt-spanless (eval _ b) =
        λ w. eval tt ((expr-spanless b w))
    stmt-spanless (step _ b c) =
        λ w. step tt ((expr-spanless b w)) c
    stmt-spanless (assign _ b c d) =
        λ w. assign tt ((exprs-spanless b w)) c ((exprs-spanless d w))
    stmt-spanless (define _ b c) =
        λ w. define tt ((names-spanless b w)) ((exprs-spanless c w))
    stmt-spanless (return_ _ b) =
        λ w. return_ tt ((exprs-spanless b w))
    stmt-spanless (break_ _ b) =
        λ w. break_ tt ((name_option-spanless b w))
    stmt-spanless (continue_ _ b) =
        λ w. continue_ tt ((name_option-spanless b w))
    stmt-spanless (inner _ b) =
        λ w. inner tt ((stmts-spanless b w))
    stmt-spanless (if_ _ b c) =
        λ w. if_ tt ((arms-spanless b w)) ((block_option-spanless c w))
    stmt-spanless (for_ _ b c d _ f) =
        λ w. for_ tt ((stmt_option-spanless b w)) ((expr_option-spanless c w)) ((stmt_option-spanless d w)) tt
        ((stmts-spanless f w))
    stmt-spanless (range_ _ b c _ e) =
        λ w. range_ tt ((left-spanless b w)) ((expr-spanless c w)) tt ((stmts-spanless e w))
    stmt-spanless (switch _ b c d) =
        λ w. switch tt ((stmt_option-spanless b w)) ((expr_option-spanless c w)) ((cases-spanless d w))
    stmt-spanless (defer _ b) =
        λ w. defer tt ((expr-spanless b w))
    stmt-spanless (label _ b c) =
        λ w. label tt (bare_name b) ((stmt-spanless c w))

    pub stmts-spanless : (x : Stmts S) → bare_stmts (stmts_with to x) ≡ bare_stmts x
    stmts-spanless no_stmts =
        λ w. no_stmts
    stmts-spanless (stmt_and a b) =
        λ w. stmt_and ((stmt-spanless a w)) ((stmts-spanless b w))

    pub stmt_option-spanless : (x : StmtOption S) → bare_stmt_option (stmt_option_with to x) ≡ bare_stmt_option x
    stmt_option-spanless no_stmt =
        λ w. no_stmt
    stmt_option-spanless (some_stmt a) =
        λ w. some_stmt ((stmt-spanless a w))

    pub block_option-spanless : (x : BlockOption S) → bare_block_option (block_option_with to x) ≡ bare_block_option x
    block_option-spanless no_block =
        λ w. no_block
    block_option-spanless (some_block _ b) =
        λ w. some_block tt ((stmts-spanless b w))

    pub left-spanless : (x : RangeLeft S) → bare_range_left (left_with to x) ≡ bare_range_left x
    left-spanless nothing =
        λ w. nothing
    left-spanless (assigns a) =
        λ w. assigns ((exprs-spanless a w))
    left-spanless (defines a) =
        λ w. defines ((names-spanless a w))

    pub arms-spanless : (x : Arms S) → bare_arms (arms_with to x) ≡ bare_arms x
    arms-spanless no_arms =
        λ w. no_arms
    arms-spanless (arm _ b c _ e f) =
        λ w. arm tt ((stmt_option-spanless b w)) ((expr-spanless c w)) tt ((stmts-spanless e w)) ((arms-spanless f w))

    pub cases-spanless : (x : Cases S) → bare_cases (cases_with to x) ≡ bare_cases x
    cases-spanless no_cases =
        λ w. no_cases
    cases-spanless (case _ b c d) =
        λ w. case tt ((exprs-spanless b w)) ((stmts-spanless c w)) ((cases-spanless d w))

    pub specs-spanless : (x : ValueSpecs S) → bare_value_specs (specs_with to x) ≡ bare_value_specs x
    specs-spanless no_specs =
        λ w. no_specs
    specs-spanless (spec _ b c d e) =
        λ w. spec tt ((names-spanless b w)) ((type_option-spanless c w)) ((exprs-spanless d w)) ((specs-spanless e w))
