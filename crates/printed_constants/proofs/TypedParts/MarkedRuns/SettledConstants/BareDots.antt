-- A file in which no selector stands on an integer literal, and no dots behind one, is so without its spans.
use Rattle.std.proofs.Common.{◌≡◌, refl, ◌∙◌, List, [], ◌∷◌, map}
use Rattle.go_tree.specs.declared.exprs.Rest.{Rest}
use Rattle.go_tree.specs.declared.exprs.Rest.TheVariants.{Plain, Whole, Packed, Empty}
use Rattle.go_tree.specs.Tree.{Expr, ident, int_lit, rune_lit, str_lit, composite, selector, index, slice, call, func_lit, type_operand, unary, binary, star, Exprs, no_exprs, expr_and, ExprOption, no_expr, some_expr, Elems, no_elems, elem, Value, plain, braced, ValueOption, no_value, some_value, Stmt, const_decl, var_decl, empty, eval, step, assign, define, return_, break_, continue_, inner, if_, for_, range_, switch, defer, label, Stmts, no_stmts, stmt_and, StmtOption, no_stmt, some_stmt, BlockOption, no_block, some_block, RangeLeft, nothing, assigns, defines, Arms, no_arms, arm, Cases, no_cases, case, ValueSpecs, no_specs, spec}
use Rattle.go_tree.specs.File.{Decl, values, types, func}
use Rattle.go_tree.specs.FileBare.{bare_decl}
use Rattle.go_tree.specs.Bare.{bare_expr, bare_exprs, bare_expr_option, bare_elems, bare_value, bare_value_option, bare_stmt, bare_stmts, bare_stmt_option, bare_block_option, bare_range_left, bare_arms, bare_cases, bare_value_specs}
use Rattle.splice_laws.specs.Dots.{ExprDots, ExprsDots, OptionDots, ElemsDots, ValueDots, KeyDots, StmtDots, StmtsDots, PartDots, BlockDots, LeftDots, ArmsDots, CasesDots, SpecsDots, DeclDots, DeclsDots, ends_in_number, last_in_number, NoNumber, UndottedRest}

module _ {S : Type 0} where
  still_no_number : (e : Expr S) → NoNumber e → NoNumber (bare_expr e)
  still_no_number (int_lit s n) d = d
  still_no_number (ident s n) d = refl
  still_no_number (rune_lit s n) d = refl
  still_no_number (str_lit s n) d = refl
  still_no_number (composite s t es) d = refl
  still_no_number (selector s b n) d = refl
  still_no_number (index s b i) d = refl
  still_no_number (slice s b i j) d = refl
  still_no_number (call s f xs r) d = refl
  still_no_number (func_lit s g z b) d = refl
  still_no_number (type_operand s t) d = refl
  still_no_number (unary s o e) d = refl
  still_no_number (binary s o a b) d = refl
  still_no_number (star s e) d = refl

  ends_bare : (e : Expr S) → ends_in_number (bare_expr e) ≡ ends_in_number e
  ends_bare (int_lit s n) = refl
  ends_bare (ident s n) = refl
  ends_bare (rune_lit s n) = refl
  ends_bare (str_lit s n) = refl
  ends_bare (composite s t es) = refl
  ends_bare (selector s b n) = refl
  ends_bare (index s b i) = refl
  ends_bare (slice s b i j) = refl
  ends_bare (call s f xs r) = refl
  ends_bare (func_lit s g z b) = refl
  ends_bare (type_operand s t) = refl
  ends_bare (unary s o e) = ends_bare e
  ends_bare (binary s o a b) = ends_bare b
  ends_bare (star s e) = ends_bare e

  last_bare : (es : Exprs S) → last_in_number (bare_exprs es) ≡ last_in_number es
  last_bare no_exprs = refl
  last_bare (expr_and e no_exprs) = ends_bare e
  last_bare (expr_and e (expr_and f fs)) = last_bare (expr_and f fs)

  handed : (rest : Rest) (xs : Exprs S) → UndottedRest rest xs → UndottedRest rest (bare_exprs xs)
  handed Plain xs d = tt
  handed Whole xs d = last_bare xs ∙ d
  handed Packed xs d = tt
  handed Empty xs d = tt

  mutual
    expr_bare : (x : Expr S) → ExprDots NoNumber UndottedRest x → ExprDots NoNumber UndottedRest (bare_expr x)
    expr_bare (ident s n) d = tt
    expr_bare (int_lit s n) d = tt
    expr_bare (rune_lit s n) d = tt
    expr_bare (str_lit s n) d = tt
    expr_bare (composite s t es) d = elems_bare es d
    expr_bare (selector s b n) d = (still_no_number b d.0, expr_bare b d.1)
    expr_bare (index s b i) d = (expr_bare b d.0, expr_bare i d.1)
    expr_bare (slice s b i j) d = (expr_bare b d.0, option_bare i d.1, option_bare j d.2)
    expr_bare (call s f xs r) d = (expr_bare f d.0, exprs_bare xs d.1, handed r xs d.2)
    expr_bare (func_lit s g z b) d = stmts_bare b d
    expr_bare (type_operand s t) d = tt
    expr_bare (unary s o e) d = expr_bare e d
    expr_bare (binary s o a b) d = (expr_bare a d.0, expr_bare b d.1)
    expr_bare (star s e) d = expr_bare e d

    exprs_bare : (x : Exprs S) → ExprsDots NoNumber UndottedRest x → ExprsDots NoNumber UndottedRest (bare_exprs x)
    exprs_bare no_exprs d = tt
    exprs_bare (expr_and e es) d = (expr_bare e d.0, exprs_bare es d.1)

    option_bare : (x : ExprOption S) → OptionDots NoNumber UndottedRest x → OptionDots NoNumber UndottedRest (bare_expr_option x)
    option_bare no_expr d = tt
    option_bare (some_expr e) d = expr_bare e d

    elems_bare : (x : Elems S) → ElemsDots NoNumber UndottedRest x → ElemsDots NoNumber UndottedRest (bare_elems x)
    elems_bare no_elems d = tt
    elems_bare (elem s k v es) d = (key_bare k d.0, value_bare v d.1, elems_bare es d.2)

    value_bare : (x : Value S) → ValueDots NoNumber UndottedRest x → ValueDots NoNumber UndottedRest (bare_value x)
    value_bare (plain e) d = expr_bare e d
    value_bare (braced s es) d = elems_bare es d

    key_bare : (x : ValueOption S) → KeyDots NoNumber UndottedRest x → KeyDots NoNumber UndottedRest (bare_value_option x)
    key_bare no_value d = tt
    key_bare (some_value v) d = value_bare v d

    stmt_bare : (x : Stmt S) → StmtDots NoNumber UndottedRest x → StmtDots NoNumber UndottedRest (bare_stmt x)
    stmt_bare (const_decl s g ss) d = specs_bare ss d
    stmt_bare (var_decl s g ss) d = specs_bare ss d
    stmt_bare (empty s) d = tt
    stmt_bare (eval s e) d = expr_bare e d
    stmt_bare (step s e b) d = expr_bare e d
    stmt_bare (assign s xs o ys) d = (exprs_bare xs d.0, exprs_bare ys d.1)
    stmt_bare (define s ns ys) d = exprs_bare ys d
    stmt_bare (return_ s xs) d = exprs_bare xs d
    stmt_bare (break_ s n) d = tt
    stmt_bare (continue_ s n) d = tt
    stmt_bare (inner s b) d = stmts_bare b d
    stmt_bare (if_ s bs z) d = (arms_bare bs d.0, block_bare z d.1)
    stmt_bare (for_ s i t q z b) d = (part_bare i d.0, option_bare t d.1, part_bare q d.2, stmts_bare b d.3)
    stmt_bare (range_ s x e z b) d = (left_bare x d.0, expr_bare e d.1, stmts_bare b d.2)
    stmt_bare (switch s i t cs) d = (part_bare i d.0, option_bare t d.1, cases_bare cs d.2)
    stmt_bare (defer s e) d = expr_bare e d
    stmt_bare (label s n x) d = stmt_bare x d

    stmts_bare : (x : Stmts S) → StmtsDots NoNumber UndottedRest x → StmtsDots NoNumber UndottedRest (bare_stmts x)
    stmts_bare no_stmts d = tt
    stmts_bare (stmt_and s ss) d = (stmt_bare s d.0, stmts_bare ss d.1)

    part_bare : (x : StmtOption S) → PartDots NoNumber UndottedRest x → PartDots NoNumber UndottedRest (bare_stmt_option x)
    part_bare no_stmt d = tt
    part_bare (some_stmt s) d = stmt_bare s d

    block_bare : (x : BlockOption S) → BlockDots NoNumber UndottedRest x → BlockDots NoNumber UndottedRest (bare_block_option x)
    block_bare no_block d = tt
    block_bare (some_block s b) d = stmts_bare b d

    left_bare : (x : RangeLeft S) → LeftDots NoNumber UndottedRest x → LeftDots NoNumber UndottedRest (bare_range_left x)
    left_bare nothing d = tt
    left_bare (assigns es) d = exprs_bare es d
    left_bare (defines ns) d = tt

    arms_bare : (x : Arms S) → ArmsDots NoNumber UndottedRest x → ArmsDots NoNumber UndottedRest (bare_arms x)
    arms_bare no_arms d = tt
    arms_bare (arm s i t z b r) d = (part_bare i d.0, expr_bare t d.1, stmts_bare b d.2, arms_bare r d.3)

    cases_bare : (x : Cases S) → CasesDots NoNumber UndottedRest x → CasesDots NoNumber UndottedRest (bare_cases x)
    cases_bare no_cases d = tt
    cases_bare (case s es b cs) d = (exprs_bare es d.0, stmts_bare b d.1, cases_bare cs d.2)

    specs_bare : (x : ValueSpecs S) → SpecsDots NoNumber UndottedRest x → SpecsDots NoNumber UndottedRest (bare_value_specs x)
    specs_bare no_specs d = tt
    specs_bare (spec s ns t es ss) d = (exprs_bare es d.0, specs_bare ss d.1)

  decl_bare : (x : Decl S) → DeclDots NoNumber UndottedRest x → DeclDots NoNumber UndottedRest (bare_decl x)
  decl_bare (values (const_decl s g ss)) d = specs_bare ss d
  decl_bare (values (var_decl s g ss)) d = specs_bare ss d
  decl_bare (values (empty s)) d = tt
  decl_bare (values (eval s e)) d = tt
  decl_bare (values (step s e b)) d = tt
  decl_bare (values (assign s xs o ys)) d = tt
  decl_bare (values (define s ns ys)) d = tt
  decl_bare (values (return_ s xs)) d = tt
  decl_bare (values (break_ s n)) d = tt
  decl_bare (values (continue_ s n)) d = tt
  decl_bare (values (inner s b)) d = tt
  decl_bare (values (if_ s bs z)) d = tt
  decl_bare (values (for_ s i t q z b)) d = tt
  decl_bare (values (range_ s x e z b)) d = tt
  decl_bare (values (switch s i t cs)) d = tt
  decl_bare (values (defer s e)) d = tt
  decl_bare (values (label s n x)) d = tt
  decl_bare (types s g ts) d = tt
  decl_bare (func f) d = stmts_bare f.body d

  pub decls_bare : (x : List (Decl S)) → DeclsDots NoNumber UndottedRest x → DeclsDots NoNumber UndottedRest (map bare_decl x)
  decls_bare [] d = tt
  decls_bare (x ∷ xs) d = (decl_bare x d.0, decls_bare xs d.1)
