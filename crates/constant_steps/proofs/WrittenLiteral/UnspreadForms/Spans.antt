-- Where no call hands on a slice, none does in the tree with other spans.
use Rattle.std.proofs.Common.{List, [], ◌∷◌, map}
use Rattle.go_tree.specs.declared.exprs.Rest.{Rest}
use Rattle.go_tree.specs.declared.exprs.Rest.TheVariants.{Plain, Whole, Packed, Empty}
use Rattle.go_tree.specs.Tree.{Expr, ident, int_lit, rune_lit, str_lit, composite, selector, index, slice, call, func_lit, type_operand, unary, binary, star, Exprs, no_exprs, expr_and, ExprOption, no_expr, some_expr, Elems, no_elems, elem, Value, plain, braced, ValueOption, no_value, some_value, Stmt, const_decl, var_decl, empty, eval, step, assign, define, return_, break_, continue_, inner, if_, for_, range_, switch, defer, label, Stmts, no_stmts, stmt_and, StmtOption, no_stmt, some_stmt, BlockOption, no_block, some_block, RangeLeft, nothing, assigns, defines, Arms, no_arms, arm, Cases, no_cases, case, ValueSpecs, no_specs, spec}
use Rattle.go_tree.specs.File.{Decl, values, types, func}
use Rattle.go_tree.specs.Bare.{bare_expr, bare_exprs, bare_expr_option, bare_elems, bare_value, bare_value_option, bare_stmt, bare_stmts, bare_stmt_option, bare_block_option, bare_range_left, bare_arms, bare_cases, bare_value_specs}
use Rattle.splice_laws.specs.Dots.{ExprDots, ExprsDots, OptionDots, ElemsDots, ValueDots, KeyDots, StmtDots, StmtsDots, PartDots, BlockDots, LeftDots, ArmsDots, CasesDots, SpecsDots, DeclDots, DeclsDots}
use Rattle.splice_laws.specs.ImportSplices.TypedDots.TypedDots.{AnyExpr}
use Rattle.splice_laws.specs.ImportSplices.TypedDots.Unspread.{UnspreadRest}
use Rattle.run_rules.specs.Respanned.{expr_with, exprs_with, expr_option_with, elems_with, value_with, value_option_with, stmt_with, stmts_with, stmt_option_with, block_option_with, left_with, arms_with, cases_with, specs_with, decl_with}

-- what is said of the arguments doesn't look at them
pub handed : {S T : Type 0} (rest : Rest) (xs : Exprs S) (ys : Exprs T) → UnspreadRest rest xs → UnspreadRest rest ys
handed Plain xs ys d = tt
handed Whole xs ys d = d
handed Packed xs ys d = tt
handed Empty xs ys d = tt

module _ {S T : Type 0} (to : S → T) where
  mutual
    pub expr-spanned : (x : Expr S) → ExprDots AnyExpr UnspreadRest x → ExprDots AnyExpr UnspreadRest (expr_with to x)
    expr-spanned (ident s n) d = tt
    expr-spanned (int_lit s n) d = tt
    expr-spanned (rune_lit s n) d = tt
    expr-spanned (str_lit s n) d = tt
    expr-spanned (composite s t es) d = elems-spanned es d
    expr-spanned (selector s b n) d = (tt, expr-spanned b d.1)
    expr-spanned (index s b i) d = (expr-spanned b d.0, expr-spanned i d.1)
    expr-spanned (slice s b i j) d = (expr-spanned b d.0, option-spanned i d.1, option-spanned j d.2)
    expr-spanned (call s f xs r) d = (expr-spanned f d.0, exprs-spanned xs d.1, handed r xs (exprs_with to xs) d.2)
    expr-spanned (func_lit s g z b) d = stmts-spanned b d
    expr-spanned (type_operand s t) d = tt
    expr-spanned (unary s o e) d = expr-spanned e d
    expr-spanned (binary s o a b) d = (expr-spanned a d.0, expr-spanned b d.1)
    expr-spanned (star s e) d = expr-spanned e d

    pub exprs-spanned : (x : Exprs S) → ExprsDots AnyExpr UnspreadRest x → ExprsDots AnyExpr UnspreadRest (exprs_with to x)
    exprs-spanned no_exprs d = tt
    exprs-spanned (expr_and e es) d = (expr-spanned e d.0, exprs-spanned es d.1)

    pub option-spanned : (x : ExprOption S) → OptionDots AnyExpr UnspreadRest x → OptionDots AnyExpr UnspreadRest (expr_option_with to x)
    option-spanned no_expr d = tt
    option-spanned (some_expr e) d = expr-spanned e d

    pub elems-spanned : (x : Elems S) → ElemsDots AnyExpr UnspreadRest x → ElemsDots AnyExpr UnspreadRest (elems_with to x)
    elems-spanned no_elems d = tt
    elems-spanned (elem s k v es) d = (key-spanned k d.0, value-spanned v d.1, elems-spanned es d.2)

    pub value-spanned : (x : Value S) → ValueDots AnyExpr UnspreadRest x → ValueDots AnyExpr UnspreadRest (value_with to x)
    value-spanned (plain e) d = expr-spanned e d
    value-spanned (braced s es) d = elems-spanned es d

    pub key-spanned : (x : ValueOption S) → KeyDots AnyExpr UnspreadRest x → KeyDots AnyExpr UnspreadRest (value_option_with to x)
    key-spanned no_value d = tt
    key-spanned (some_value v) d = value-spanned v d

    pub stmt-spanned : (x : Stmt S) → StmtDots AnyExpr UnspreadRest x → StmtDots AnyExpr UnspreadRest (stmt_with to x)
    stmt-spanned (const_decl s g ss) d = specs-spanned ss d
    stmt-spanned (var_decl s g ss) d = specs-spanned ss d
    stmt-spanned (empty s) d = tt
    stmt-spanned (eval s e) d = expr-spanned e d
    stmt-spanned (step s e b) d = expr-spanned e d
    stmt-spanned (assign s xs o ys) d = (exprs-spanned xs d.0, exprs-spanned ys d.1)
    stmt-spanned (define s ns ys) d = exprs-spanned ys d
    stmt-spanned (return_ s xs) d = exprs-spanned xs d
    stmt-spanned (break_ s n) d = tt
    stmt-spanned (continue_ s n) d = tt
    stmt-spanned (inner s b) d = stmts-spanned b d
    stmt-spanned (if_ s bs z) d = (arms-spanned bs d.0, block-spanned z d.1)
    stmt-spanned (for_ s i t q z b) d = (part-spanned i d.0, option-spanned t d.1, part-spanned q d.2, stmts-spanned b d.3)
    stmt-spanned (range_ s x e z b) d = (left-spanned x d.0, expr-spanned e d.1, stmts-spanned b d.2)
    stmt-spanned (switch s i t cs) d = (part-spanned i d.0, option-spanned t d.1, cases-spanned cs d.2)
    stmt-spanned (defer s e) d = expr-spanned e d
    stmt-spanned (label s n x) d = stmt-spanned x d

    pub stmts-spanned : (x : Stmts S) → StmtsDots AnyExpr UnspreadRest x → StmtsDots AnyExpr UnspreadRest (stmts_with to x)
    stmts-spanned no_stmts d = tt
    stmts-spanned (stmt_and s ss) d = (stmt-spanned s d.0, stmts-spanned ss d.1)

    pub part-spanned : (x : StmtOption S) → PartDots AnyExpr UnspreadRest x → PartDots AnyExpr UnspreadRest (stmt_option_with to x)
    part-spanned no_stmt d = tt
    part-spanned (some_stmt s) d = stmt-spanned s d

    pub block-spanned : (x : BlockOption S) → BlockDots AnyExpr UnspreadRest x → BlockDots AnyExpr UnspreadRest (block_option_with to x)
    block-spanned no_block d = tt
    block-spanned (some_block s b) d = stmts-spanned b d

    pub left-spanned : (x : RangeLeft S) → LeftDots AnyExpr UnspreadRest x → LeftDots AnyExpr UnspreadRest (left_with to x)
    left-spanned nothing d = tt
    left-spanned (assigns es) d = exprs-spanned es d
    left-spanned (defines ns) d = tt

    pub arms-spanned : (x : Arms S) → ArmsDots AnyExpr UnspreadRest x → ArmsDots AnyExpr UnspreadRest (arms_with to x)
    arms-spanned no_arms d = tt
    arms-spanned (arm s i t z b r) d = (part-spanned i d.0, expr-spanned t d.1, stmts-spanned b d.2, arms-spanned r d.3)

    pub cases-spanned : (x : Cases S) → CasesDots AnyExpr UnspreadRest x → CasesDots AnyExpr UnspreadRest (cases_with to x)
    cases-spanned no_cases d = tt
    cases-spanned (case s es b cs) d = (exprs-spanned es d.0, stmts-spanned b d.1, cases-spanned cs d.2)

    pub specs-spanned : (x : ValueSpecs S) → SpecsDots AnyExpr UnspreadRest x → SpecsDots AnyExpr UnspreadRest (specs_with to x)
    specs-spanned no_specs d = tt
    specs-spanned (spec s ns t es ss) d = (exprs-spanned es d.0, specs-spanned ss d.1)

  mutual
    pub expr-unspanned : (x : Expr S) → ExprDots AnyExpr UnspreadRest (expr_with to x) → ExprDots AnyExpr UnspreadRest x
    expr-unspanned (ident s n) d = tt
    expr-unspanned (int_lit s n) d = tt
    expr-unspanned (rune_lit s n) d = tt
    expr-unspanned (str_lit s n) d = tt
    expr-unspanned (composite s t es) d = elems-unspanned es d
    expr-unspanned (selector s b n) d = (tt, expr-unspanned b d.1)
    expr-unspanned (index s b i) d = (expr-unspanned b d.0, expr-unspanned i d.1)
    expr-unspanned (slice s b i j) d = (expr-unspanned b d.0, option-unspanned i d.1, option-unspanned j d.2)
    expr-unspanned (call s f xs r) d = (expr-unspanned f d.0, exprs-unspanned xs d.1, handed r (exprs_with to xs) xs d.2)
    expr-unspanned (func_lit s g z b) d = stmts-unspanned b d
    expr-unspanned (type_operand s t) d = tt
    expr-unspanned (unary s o e) d = expr-unspanned e d
    expr-unspanned (binary s o a b) d = (expr-unspanned a d.0, expr-unspanned b d.1)
    expr-unspanned (star s e) d = expr-unspanned e d

    pub exprs-unspanned : (x : Exprs S) → ExprsDots AnyExpr UnspreadRest (exprs_with to x) → ExprsDots AnyExpr UnspreadRest x
    exprs-unspanned no_exprs d = tt
    exprs-unspanned (expr_and e es) d = (expr-unspanned e d.0, exprs-unspanned es d.1)

    pub option-unspanned : (x : ExprOption S) → OptionDots AnyExpr UnspreadRest (expr_option_with to x) → OptionDots AnyExpr UnspreadRest x
    option-unspanned no_expr d = tt
    option-unspanned (some_expr e) d = expr-unspanned e d

    pub elems-unspanned : (x : Elems S) → ElemsDots AnyExpr UnspreadRest (elems_with to x) → ElemsDots AnyExpr UnspreadRest x
    elems-unspanned no_elems d = tt
    elems-unspanned (elem s k v es) d = (key-unspanned k d.0, value-unspanned v d.1, elems-unspanned es d.2)

    pub value-unspanned : (x : Value S) → ValueDots AnyExpr UnspreadRest (value_with to x) → ValueDots AnyExpr UnspreadRest x
    value-unspanned (plain e) d = expr-unspanned e d
    value-unspanned (braced s es) d = elems-unspanned es d

    pub key-unspanned : (x : ValueOption S) → KeyDots AnyExpr UnspreadRest (value_option_with to x) → KeyDots AnyExpr UnspreadRest x
    key-unspanned no_value d = tt
    key-unspanned (some_value v) d = value-unspanned v d

    pub stmt-unspanned : (x : Stmt S) → StmtDots AnyExpr UnspreadRest (stmt_with to x) → StmtDots AnyExpr UnspreadRest x
    stmt-unspanned (const_decl s g ss) d = specs-unspanned ss d
    stmt-unspanned (var_decl s g ss) d = specs-unspanned ss d
    stmt-unspanned (empty s) d = tt
    stmt-unspanned (eval s e) d = expr-unspanned e d
    stmt-unspanned (step s e b) d = expr-unspanned e d
    stmt-unspanned (assign s xs o ys) d = (exprs-unspanned xs d.0, exprs-unspanned ys d.1)
    stmt-unspanned (define s ns ys) d = exprs-unspanned ys d
    stmt-unspanned (return_ s xs) d = exprs-unspanned xs d
    stmt-unspanned (break_ s n) d = tt
    stmt-unspanned (continue_ s n) d = tt
    stmt-unspanned (inner s b) d = stmts-unspanned b d
    stmt-unspanned (if_ s bs z) d = (arms-unspanned bs d.0, block-unspanned z d.1)
    stmt-unspanned (for_ s i t q z b) d = (part-unspanned i d.0, option-unspanned t d.1, part-unspanned q d.2, stmts-unspanned b d.3)
    stmt-unspanned (range_ s x e z b) d = (left-unspanned x d.0, expr-unspanned e d.1, stmts-unspanned b d.2)
    stmt-unspanned (switch s i t cs) d = (part-unspanned i d.0, option-unspanned t d.1, cases-unspanned cs d.2)
    stmt-unspanned (defer s e) d = expr-unspanned e d
    stmt-unspanned (label s n x) d = stmt-unspanned x d

    pub stmts-unspanned : (x : Stmts S) → StmtsDots AnyExpr UnspreadRest (stmts_with to x) → StmtsDots AnyExpr UnspreadRest x
    stmts-unspanned no_stmts d = tt
    stmts-unspanned (stmt_and s ss) d = (stmt-unspanned s d.0, stmts-unspanned ss d.1)

    pub part-unspanned : (x : StmtOption S) → PartDots AnyExpr UnspreadRest (stmt_option_with to x) → PartDots AnyExpr UnspreadRest x
    part-unspanned no_stmt d = tt
    part-unspanned (some_stmt s) d = stmt-unspanned s d

    pub block-unspanned : (x : BlockOption S) → BlockDots AnyExpr UnspreadRest (block_option_with to x) → BlockDots AnyExpr UnspreadRest x
    block-unspanned no_block d = tt
    block-unspanned (some_block s b) d = stmts-unspanned b d

    pub left-unspanned : (x : RangeLeft S) → LeftDots AnyExpr UnspreadRest (left_with to x) → LeftDots AnyExpr UnspreadRest x
    left-unspanned nothing d = tt
    left-unspanned (assigns es) d = exprs-unspanned es d
    left-unspanned (defines ns) d = tt

    pub arms-unspanned : (x : Arms S) → ArmsDots AnyExpr UnspreadRest (arms_with to x) → ArmsDots AnyExpr UnspreadRest x
    arms-unspanned no_arms d = tt
    arms-unspanned (arm s i t z b r) d = (part-unspanned i d.0, expr-unspanned t d.1, stmts-unspanned b d.2, arms-unspanned r d.3)

    pub cases-unspanned : (x : Cases S) → CasesDots AnyExpr UnspreadRest (cases_with to x) → CasesDots AnyExpr UnspreadRest x
    cases-unspanned no_cases d = tt
    cases-unspanned (case s es b cs) d = (exprs-unspanned es d.0, stmts-unspanned b d.1, cases-unspanned cs d.2)

    pub specs-unspanned : (x : ValueSpecs S) → SpecsDots AnyExpr UnspreadRest (specs_with to x) → SpecsDots AnyExpr UnspreadRest x
    specs-unspanned no_specs d = tt
    specs-unspanned (spec s ns t es ss) d = (exprs-unspanned es d.0, specs-unspanned ss d.1)

  pub decl-spanned : (x : Decl S) → DeclDots AnyExpr UnspreadRest x → DeclDots AnyExpr UnspreadRest (decl_with to x)
  decl-spanned (values (const_decl s g ss)) d = specs-spanned ss d
  decl-spanned (values (var_decl s g ss)) d = specs-spanned ss d
  decl-spanned (values (empty s)) d = tt
  decl-spanned (values (eval s e)) d = tt
  decl-spanned (values (step s e b)) d = tt
  decl-spanned (values (assign s xs o ys)) d = tt
  decl-spanned (values (define s ns ys)) d = tt
  decl-spanned (values (return_ s xs)) d = tt
  decl-spanned (values (break_ s n)) d = tt
  decl-spanned (values (continue_ s n)) d = tt
  decl-spanned (values (inner s b)) d = tt
  decl-spanned (values (if_ s bs z)) d = tt
  decl-spanned (values (for_ s i t q z b)) d = tt
  decl-spanned (values (range_ s x e z b)) d = tt
  decl-spanned (values (switch s i t cs)) d = tt
  decl-spanned (values (defer s e)) d = tt
  decl-spanned (values (label s n x)) d = tt
  decl-spanned (types s g ts) d = tt
  decl-spanned (func f) d = stmts-spanned f.body d

  pub decls-spanned : (x : List (Decl S)) → DeclsDots AnyExpr UnspreadRest x → DeclsDots AnyExpr UnspreadRest (map (decl_with to) x)
  decls-spanned [] d = tt
  decls-spanned (x ∷ xs) d = (decl-spanned x d.0, decls-spanned xs d.1)

  pub decl-unspanned : (x : Decl S) → DeclDots AnyExpr UnspreadRest (decl_with to x) → DeclDots AnyExpr UnspreadRest x
  decl-unspanned (values (const_decl s g ss)) d = specs-unspanned ss d
  decl-unspanned (values (var_decl s g ss)) d = specs-unspanned ss d
  decl-unspanned (values (empty s)) d = tt
  decl-unspanned (values (eval s e)) d = tt
  decl-unspanned (values (step s e b)) d = tt
  decl-unspanned (values (assign s xs o ys)) d = tt
  decl-unspanned (values (define s ns ys)) d = tt
  decl-unspanned (values (return_ s xs)) d = tt
  decl-unspanned (values (break_ s n)) d = tt
  decl-unspanned (values (continue_ s n)) d = tt
  decl-unspanned (values (inner s b)) d = tt
  decl-unspanned (values (if_ s bs z)) d = tt
  decl-unspanned (values (for_ s i t q z b)) d = tt
  decl-unspanned (values (range_ s x e z b)) d = tt
  decl-unspanned (values (switch s i t cs)) d = tt
  decl-unspanned (values (defer s e)) d = tt
  decl-unspanned (values (label s n x)) d = tt
  decl-unspanned (types s g ts) d = tt
  decl-unspanned (func f) d = stmts-unspanned f.body d

  pub decls-unspanned : (x : List (Decl S)) → DeclsDots AnyExpr UnspreadRest (map (decl_with to) x) → DeclsDots AnyExpr UnspreadRest x
  decls-unspanned [] d = tt
  decls-unspanned (x ∷ xs) d = (decl-unspanned x d.0, decls-unspanned xs d.1)

module _ {S : Type 0} where
  mutual
    pub expr-bare : (x : Expr S) → ExprDots AnyExpr UnspreadRest x → ExprDots AnyExpr UnspreadRest (bare_expr x)
    expr-bare (ident s n) d = tt
    expr-bare (int_lit s n) d = tt
    expr-bare (rune_lit s n) d = tt
    expr-bare (str_lit s n) d = tt
    expr-bare (composite s t es) d = elems-bare es d
    expr-bare (selector s b n) d = (tt, expr-bare b d.1)
    expr-bare (index s b i) d = (expr-bare b d.0, expr-bare i d.1)
    expr-bare (slice s b i j) d = (expr-bare b d.0, option-bare i d.1, option-bare j d.2)
    expr-bare (call s f xs r) d = (expr-bare f d.0, exprs-bare xs d.1, handed r xs (bare_exprs xs) d.2)
    expr-bare (func_lit s g z b) d = stmts-bare b d
    expr-bare (type_operand s t) d = tt
    expr-bare (unary s o e) d = expr-bare e d
    expr-bare (binary s o a b) d = (expr-bare a d.0, expr-bare b d.1)
    expr-bare (star s e) d = expr-bare e d

    pub exprs-bare : (x : Exprs S) → ExprsDots AnyExpr UnspreadRest x → ExprsDots AnyExpr UnspreadRest (bare_exprs x)
    exprs-bare no_exprs d = tt
    exprs-bare (expr_and e es) d = (expr-bare e d.0, exprs-bare es d.1)

    pub option-bare : (x : ExprOption S) → OptionDots AnyExpr UnspreadRest x → OptionDots AnyExpr UnspreadRest (bare_expr_option x)
    option-bare no_expr d = tt
    option-bare (some_expr e) d = expr-bare e d

    pub elems-bare : (x : Elems S) → ElemsDots AnyExpr UnspreadRest x → ElemsDots AnyExpr UnspreadRest (bare_elems x)
    elems-bare no_elems d = tt
    elems-bare (elem s k v es) d = (key-bare k d.0, value-bare v d.1, elems-bare es d.2)

    pub value-bare : (x : Value S) → ValueDots AnyExpr UnspreadRest x → ValueDots AnyExpr UnspreadRest (bare_value x)
    value-bare (plain e) d = expr-bare e d
    value-bare (braced s es) d = elems-bare es d

    pub key-bare : (x : ValueOption S) → KeyDots AnyExpr UnspreadRest x → KeyDots AnyExpr UnspreadRest (bare_value_option x)
    key-bare no_value d = tt
    key-bare (some_value v) d = value-bare v d

    pub stmt-bare : (x : Stmt S) → StmtDots AnyExpr UnspreadRest x → StmtDots AnyExpr UnspreadRest (bare_stmt x)
    stmt-bare (const_decl s g ss) d = specs-bare ss d
    stmt-bare (var_decl s g ss) d = specs-bare ss d
    stmt-bare (empty s) d = tt
    stmt-bare (eval s e) d = expr-bare e d
    stmt-bare (step s e b) d = expr-bare e d
    stmt-bare (assign s xs o ys) d = (exprs-bare xs d.0, exprs-bare ys d.1)
    stmt-bare (define s ns ys) d = exprs-bare ys d
    stmt-bare (return_ s xs) d = exprs-bare xs d
    stmt-bare (break_ s n) d = tt
    stmt-bare (continue_ s n) d = tt
    stmt-bare (inner s b) d = stmts-bare b d
    stmt-bare (if_ s bs z) d = (arms-bare bs d.0, block-bare z d.1)
    stmt-bare (for_ s i t q z b) d = (part-bare i d.0, option-bare t d.1, part-bare q d.2, stmts-bare b d.3)
    stmt-bare (range_ s x e z b) d = (left-bare x d.0, expr-bare e d.1, stmts-bare b d.2)
    stmt-bare (switch s i t cs) d = (part-bare i d.0, option-bare t d.1, cases-bare cs d.2)
    stmt-bare (defer s e) d = expr-bare e d
    stmt-bare (label s n x) d = stmt-bare x d

    pub stmts-bare : (x : Stmts S) → StmtsDots AnyExpr UnspreadRest x → StmtsDots AnyExpr UnspreadRest (bare_stmts x)
    stmts-bare no_stmts d = tt
    stmts-bare (stmt_and s ss) d = (stmt-bare s d.0, stmts-bare ss d.1)

    pub part-bare : (x : StmtOption S) → PartDots AnyExpr UnspreadRest x → PartDots AnyExpr UnspreadRest (bare_stmt_option x)
    part-bare no_stmt d = tt
    part-bare (some_stmt s) d = stmt-bare s d

    pub block-bare : (x : BlockOption S) → BlockDots AnyExpr UnspreadRest x → BlockDots AnyExpr UnspreadRest (bare_block_option x)
    block-bare no_block d = tt
    block-bare (some_block s b) d = stmts-bare b d

    pub left-bare : (x : RangeLeft S) → LeftDots AnyExpr UnspreadRest x → LeftDots AnyExpr UnspreadRest (bare_range_left x)
    left-bare nothing d = tt
    left-bare (assigns es) d = exprs-bare es d
    left-bare (defines ns) d = tt

    pub arms-bare : (x : Arms S) → ArmsDots AnyExpr UnspreadRest x → ArmsDots AnyExpr UnspreadRest (bare_arms x)
    arms-bare no_arms d = tt
    arms-bare (arm s i t z b r) d = (part-bare i d.0, expr-bare t d.1, stmts-bare b d.2, arms-bare r d.3)

    pub cases-bare : (x : Cases S) → CasesDots AnyExpr UnspreadRest x → CasesDots AnyExpr UnspreadRest (bare_cases x)
    cases-bare no_cases d = tt
    cases-bare (case s es b cs) d = (exprs-bare es d.0, stmts-bare b d.1, cases-bare cs d.2)

    pub specs-bare : (x : ValueSpecs S) → SpecsDots AnyExpr UnspreadRest x → SpecsDots AnyExpr UnspreadRest (bare_value_specs x)
    specs-bare no_specs d = tt
    specs-bare (spec s ns t es ss) d = (exprs-bare es d.0, specs-bare ss d.1)
