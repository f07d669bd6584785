-- A tree is its shape, which has no spans, with a span for each node.
use Rattle.std.proofs.Common.{◌≡◌, refl, List, [], ◌∷◌, map, Option, Some, None}
use Rattle.std.specs.Option.{option_map}
use Rattle.go_tree.specs.Tree.{NameAt, TypeExpr, Fields, named, pointer, slice_type, map_type, struct_type, no_fields, field, Param, Sig, Expr, Exprs, ExprOption, Elems, Value, ValueOption, Stmt, Stmts, StmtOption, BlockOption, RangeLeft, Arms, Cases, ValueSpecs, ident, int_lit, rune_lit, str_lit, composite, selector, index, slice, call, func_lit, type_operand, unary, binary, star, no_exprs, expr_and, no_expr, some_expr, no_elems, elem, plain, braced, no_value, some_value, const_decl, var_decl, empty, eval, step, assign, define, return_, break_, continue_, inner, if_, for_, range_, switch, defer, label, no_stmts, stmt_and, no_stmt, some_stmt, no_block, some_block, nothing, assigns, defines, no_arms, arm, no_cases, case, no_specs, spec}
use Rattle.go_tree.specs.File.{TypeSpec, Receiver, Func, Decl, values, types, func}
use Rattle.go_tree.specs.Bare.{bare_name, bare_type, bare_fields, bare_param, bare_sig, bare_expr, bare_exprs, bare_expr_option, bare_elems, bare_value, bare_value_option, bare_stmt, bare_stmts, bare_stmt_option, bare_block_option, bare_range_left, bare_arms, bare_cases, bare_value_specs}
use Rattle.go_tree.specs.FileBare.{bare_type_spec, bare_receiver, bare_func, bare_decl}

module _ (S : Type 0) where
  -- ---- the spans of a tree, by its shape

  abbrev pub NamesSpans : List (NameAt (Unit {0})) → Type 0
  NamesSpans [] = Unit {0}
  NamesSpans (_ ∷ b) = S × NamesSpans b

  abbrev pub NameOptionSpans : Option (NameAt (Unit {0})) → Type 0
  NameOptionSpans None = Unit {0}
  NameOptionSpans (Some _) = S

  abbrev mutual
    pub TypeSpans : TypeExpr (Unit {0}) → Type 0
    TypeSpans (named _ b _) = S × NameOptionSpans b × S
    TypeSpans (pointer _ b) = S × TypeSpans b
    TypeSpans (slice_type _ b) = S × TypeSpans b
    TypeSpans (map_type _ b c) = S × TypeSpans b × TypeSpans c
    TypeSpans (struct_type _ b) = S × FieldsSpans b

    pub FieldsSpans : Fields (Unit {0}) → Type 0
    FieldsSpans no_fields = Unit {0}
    FieldsSpans (field _ _ c d) = S × S × TypeSpans c × FieldsSpans d

  abbrev pub TypeOptionSpans : Option (TypeExpr (Unit {0})) → Type 0
  TypeOptionSpans None = Unit {0}
  TypeOptionSpans (Some a) = TypeSpans a

  abbrev pub ParamSpans : Param (Unit {0}) → Type 0
  ParamSpans x = S × NameOptionSpans x.name × TypeSpans x.of

  abbrev pub ParamsSpans : List (Param (Unit {0})) → Type 0
  ParamsSpans [] = Unit {0}
  ParamsSpans (a ∷ b) = ParamSpans a × ParamsSpans b

  abbrev pub SigSpans : Sig (Unit {0}) → Type 0
  SigSpans x = ParamsSpans x.params × ParamsSpans x.results

  abbrev mutual
    pub ExprSpans : Expr (Unit {0}) → Type 0
    ExprSpans (ident _ _) = S
    ExprSpans (int_lit _ _) = S
    ExprSpans (rune_lit _ _) = S
    ExprSpans (str_lit _ _) = S
    ExprSpans (composite _ b c) = S × TypeSpans b × ElemsSpans c
    ExprSpans (selector _ b _) = S × ExprSpans b × S
    ExprSpans (index _ b c) = S × ExprSpans b × ExprSpans c
    ExprSpans (slice _ b c d) = S × ExprSpans b × ExprOptionSpans c × ExprOptionSpans d
    ExprSpans (call _ b c _) = S × ExprSpans b × ExprsSpans c
    ExprSpans (func_lit _ b _ d) = S × SigSpans b × S × StmtsSpans d
    ExprSpans (type_operand _ b) = S × TypeSpans b
    ExprSpans (unary _ _ c) = S × ExprSpans c
    ExprSpans (binary _ _ c d) = S × ExprSpans c × ExprSpans d
    ExprSpans (star _ b) = S × ExprSpans b

    pub ExprsSpans : Exprs (Unit {0}) → Type 0
    ExprsSpans no_exprs = Unit {0}
    ExprsSpans (expr_and a b) = ExprSpans a × ExprsSpans b

    pub ExprOptionSpans : ExprOption (Unit {0}) → Type 0
    ExprOptionSpans no_expr = Unit {0}
    ExprOptionSpans (some_expr a) = ExprSpans a

    pub ElemsSpans : Elems (Unit {0}) → Type 0
    ElemsSpans no_elems = Unit {0}
    ElemsSpans (elem _ b c d) = S × ValueOptionSpans b × ValueSpans c × ElemsSpans d

    pub ValueOptionSpans : ValueOption (Unit {0}) → Type 0
    ValueOptionSpans no_value = Unit {0}
    ValueOptionSpans (some_value a) = ValueSpans a

    pub ValueSpans : Value (Unit {0}) → Type 0
    ValueSpans (plain a) = ExprSpans a
    ValueSpans (braced _ b) = S × ElemsSpans b

    pub StmtSpans : Stmt (Unit {0}) → Type 0
    StmtSpans (const_decl _ _ c) = S × SpecsSpans c
    StmtSpans (var_decl _ _ c) = S × SpecsSpans c
    StmtSpans (empty _) = S
    StmtSpans (eval _ b) = S × ExprSpans b
    StmtSpans (step _ b _) = S × ExprSpans b
    StmtSpans (assign _ b _ d) = S × ExprsSpans b × ExprsSpans d
    StmtSpans (define _ b c) = S × NamesSpans b × ExprsSpans c
    StmtSpans (return_ _ b) = S × ExprsSpans b
    StmtSpans (break_ _ b) = S × NameOptionSpans b
    StmtSpans (continue_ _ b) = S × NameOptionSpans b
    StmtSpans (inner _ b) = S × StmtsSpans b
    StmtSpans (if_ _ b c) = S × ArmsSpans b × BlockOptionSpans c
    StmtSpans (for_ _ b c d _ f) = S × StmtOptionSpans b × ExprOptionSpans c × StmtOptionSpans d × S × StmtsSpans f
    StmtSpans (range_ _ b c _ e) = S × LeftSpans b × ExprSpans c × S × StmtsSpans e
    StmtSpans (switch _ b c d) = S × StmtOptionSpans b × ExprOptionSpans c × CasesSpans d
    StmtSpans (defer _ b) = S × ExprSpans b
    StmtSpans (label _ _ c) = S × S × StmtSpans c

    pub StmtsSpans : Stmts (Unit {0}) → Type 0
    StmtsSpans no_stmts = Unit {0}
    StmtsSpans (stmt_and a b) = StmtSpans a × StmtsSpans b

    pub StmtOptionSpans : StmtOption (Unit {0}) → Type 0
    StmtOptionSpans no_stmt = Unit {0}
    StmtOptionSpans (some_stmt a) = StmtSpans a

    pub BlockOptionSpans : BlockOption (Unit {0}) → Type 0
    BlockOptionSpans no_block = Unit {0}
    BlockOptionSpans (some_block _ b) = S × StmtsSpans b

    pub LeftSpans : RangeLeft (Unit {0}) → Type 0
    LeftSpans nothing = Unit {0}
    LeftSpans (assigns a) = ExprsSpans a
    LeftSpans (defines a) = NamesSpans a

    pub ArmsSpans : Arms (Unit {0}) → Type 0
    ArmsSpans no_arms = Unit {0}
    ArmsSpans (arm _ b c _ e f) = S × StmtOptionSpans b × ExprSpans c × S × StmtsSpans e × ArmsSpans f

    pub CasesSpans : Cases (Unit {0}) → Type 0
    CasesSpans no_cases = Unit {0}
    CasesSpans (case _ b c d) = S × ExprsSpans b × StmtsSpans c × CasesSpans d

    pub SpecsSpans : ValueSpecs (Unit {0}) → Type 0
    SpecsSpans no_specs = Unit {0}
    SpecsSpans (spec _ b c d e) = S × NamesSpans b × TypeOptionSpans c × ExprsSpans d × SpecsSpans e

  abbrev pub TypeSpecSpans : TypeSpec (Unit {0}) → Type 0
  TypeSpecSpans x = S × S × TypeSpans x.of

  abbrev pub TypeSpecsSpans : List (TypeSpec (Unit {0})) → Type 0
  TypeSpecsSpans [] = Unit {0}
  TypeSpecsSpans (a ∷ b) = TypeSpecSpans a × TypeSpecsSpans b

  abbrev pub ReceiverSpans : Receiver (Unit {0}) → Type 0
  ReceiverSpans x = S × NameOptionSpans x.name × S

  abbrev pub ReceiverOptionSpans : Option (Receiver (Unit {0})) → Type 0
  ReceiverOptionSpans None = Unit {0}
  ReceiverOptionSpans (Some a) = ReceiverSpans a

  abbrev pub FuncSpans : Func (Unit {0}) → Type 0
  FuncSpans x = S × ReceiverOptionSpans x.receiver × S × SigSpans x.sig × S × StmtsSpans x.body

  abbrev pub DeclSpans : Decl (Unit {0}) → Type 0
  DeclSpans (values a) = StmtSpans a
  DeclSpans (types _ _ c) = S × TypeSpecsSpans c
  DeclSpans (func a) = FuncSpans a

  abbrev pub DeclsSpans : List (Decl (Unit {0})) → Type 0
  DeclsSpans [] = Unit {0}
  DeclsSpans (a ∷ b) = DeclSpans a × DeclsSpans b

  -- ---- a shape with spans

  abbrev pub names_spanned : (b : List (NameAt (Unit {0}))) → NamesSpans b → List (NameAt S)
  names_spanned [] m = []
  names_spanned (a ∷ b) m = (record { span = m.0; name = a.name }) ∷ (names_spanned b m.1)

  abbrev pub name_option_spanned : (b : Option (NameAt (Unit {0}))) → NameOptionSpans b → Option (NameAt S)
  name_option_spanned None m = None
  name_option_spanned (Some a) m = Some (record { span = m; name = a.name })

  abbrev mutual
    pub type_spanned : (b : TypeExpr (Unit {0})) → TypeSpans b → TypeExpr S
    type_spanned (named _ b c) m = named m.0 (name_option_spanned b m.1) (record { span = m.2; name = c.name })
    type_spanned (pointer _ b) m = pointer m.0 (type_spanned b m.1)
    type_spanned (slice_type _ b) m = slice_type m.0 (type_spanned b m.1)
    type_spanned (map_type _ b c) m = map_type m.0 (type_spanned b m.1) (type_spanned c m.2)
    type_spanned (struct_type _ b) m = struct_type m.0 (fields_spanned b m.1)

    pub fields_spanned : (b : Fields (Unit {0})) → FieldsSpans b → Fields S
    fields_spanned no_fields m = no_fields
    fields_spanned (field _ b c d) m = field m.0 (record { span = m.1; name = b.name }) (type_spanned c m.2) (fields_spanned d m.3)

  abbrev pub type_option_spanned : (b : Option (TypeExpr (Unit {0}))) → TypeOptionSpans b → Option (TypeExpr S)
  type_option_spanned None m = None
  type_option_spanned (Some a) m = Some (type_spanned a m)

  abbrev pub param_spanned : (b : Param (Unit {0})) → ParamSpans b → Param S
  param_spanned x m = record { span = m.0; name = name_option_spanned x.name m.1; rest = x.rest; of = type_spanned x.of m.2 }

  abbrev pub params_spanned : (b : List (Param (Unit {0}))) → ParamsSpans b → List (Param S)
  params_spanned [] m = []
  params_spanned (a ∷ b) m = (param_spanned a m.0) ∷ (params_spanned b m.1)

  abbrev pub sig_spanned : (b : Sig (Unit {0})) → SigSpans b → Sig S
  sig_spanned x m = record { params = params_spanned x.params m.0; results = params_spanned x.results m.1 }

  abbrev mutual
    pub expr_spanned : (b : Expr (Unit {0})) → ExprSpans b → Expr S
    expr_spanned (ident _ b) m = ident m b
    expr_spanned (int_lit _ b) m = int_lit m b
    expr_spanned (rune_lit _ b) m = rune_lit m b
    expr_spanned (str_lit _ b) m = str_lit m b
    expr_spanned (composite _ b c) m = composite m.0 (type_spanned b m.1) (elems_spanned c m.2)
    expr_spanned (selector _ b c) m = selector m.0 (expr_spanned b m.1) (record { span = m.2; name = c.name })
    expr_spanned (index _ b c) m = index m.0 (expr_spanned b m.1) (expr_spanned c m.2)
    expr_spanned (slice _ b c d) m = slice m.0 (expr_spanned b m.1) (expr_option_spanned c m.2) (expr_option_spanned d m.3)
    expr_spanned (call _ b c d) m = call m.0 (expr_spanned b m.1) (exprs_spanned c m.2) d
    expr_spanned (func_lit _ b _ d) m = func_lit m.0 (sig_spanned b m.1) m.2 (stmts_spanned d m.3)
    expr_spanned (type_operand _ b) m = type_operand m.0 (type_spanned b m.1)
    expr_spanned (unary _ b c) m = unary m.0 b (expr_spanned c m.1)
    expr_spanned (binary _ b c d) m = binary m.0 b (expr_spanned c m.1) (expr_spanned d m.2)
    expr_spanned (star _ b) m = star m.0 (expr_spanned b m.1)

    pub exprs_spanned : (b : Exprs (Unit {0})) → ExprsSpans b → Exprs S
    exprs_spanned no_exprs m = no_exprs
    exprs_spanned (expr_and a b) m = expr_and (expr_spanned a m.0) (exprs_spanned b m.1)

    pub expr_option_spanned : (b : ExprOption (Unit {0})) → ExprOptionSpans b → ExprOption S
    expr_option_spanned no_expr m = no_expr
    expr_option_spanned (some_expr a) m = some_expr (expr_spanned a m)

    pub elems_spanned : (b : Elems (Unit {0})) → ElemsSpans b → Elems S
    elems_spanned no_elems m = no_elems
    elems_spanned (elem _ b c d) m = elem m.0 (value_option_spanned b m.1) (value_spanned c m.2) (elems_spanned d m.3)

    pub value_option_spanned : (b : ValueOption (Unit {0})) → ValueOptionSpans b → ValueOption S
    value_option_spanned no_value m = no_value
    value_option_spanned (some_value a) m = some_value (value_spanned a m)

    pub value_spanned : (b : Value (Unit {0})) → ValueSpans b → Value S
    value_spanned (plain a) m = plain (expr_spanned a m)
    value_spanned (braced _ b) m = braced m.0 (elems_spanned b m.1)

    pub stmt_spanned : (b : Stmt (Unit {0})) → StmtSpans b → Stmt S
    stmt_spanned (const_decl _ b c) m = const_decl m.0 b (specs_spanned c m.1)
    stmt_spanned (var_decl _ b c) m = var_decl m.0 b (specs_spanned c m.1)
    stmt_spanned (empty _) m = empty m
    stmt_spanned (eval _ b) m = eval m.0 (expr_spanned b m.1)
    stmt_spanned (step _ b c) m = step m.0 (expr_spanned b m.1) c
    stmt_spanned (assign _ b c d) m = assign m.0 (exprs_spanned b m.1) c (exprs_spanned d m.2)
    stmt_spanned (define _ b c) m = define m.0 (names_spanned b m.1) (exprs_spanned c m.2)
    stmt_spanned (return_ _ b) m = return_ m.0 (exprs_spanned b m.1)
    stmt_spanned (break_ _ b) m = break_ m.0 (name_option_spanned b m.1)
    stmt_spanned (continue_ _ b) m = continue_ m.0 (name_option_spanned b m.1)
    stmt_spanned (inner _ b) m = inner m.0 (stmts_spanned b m.1)
    stmt_spanned (if_ _ b c) m = if_ m.0 (arms_spanned b m.1) (block_option_spanned c m.2)
    stmt_spanned (for_ _ b c d _ f) m = for_ m.0 (stmt_option_spanned b m.1) (expr_option_spanned c m.2) (stmt_option_spanned d m.3) m.4 (stmts_spanned f m.5)
    stmt_spanned (range_ _ b c _ e) m = range_ m.0 (left_spanned b m.1) (expr_spanned c m.2) m.3 (stmts_spanned e m.4)
    stmt_spanned (switch _ b c d) m = switch m.0 (stmt_option_spanned b m.1) (expr_option_spanned c m.2) (cases_spanned d m.3)
    stmt_spanned (defer _ b) m = defer m.0 (expr_spanned b m.1)
    stmt_spanned (label _ b c) m = label m.0 (record { span = m.1; name = b.name }) (stmt_spanned c m.2)

    pub stmts_spanned : (b : Stmts (Unit {0})) → StmtsSpans b → Stmts S
    stmts_spanned no_stmts m = no_stmts
    stmts_spanned (stmt_and a b) m = stmt_and (stmt_spanned a m.0) (stmts_spanned b m.1)

    pub stmt_option_spanned : (b : StmtOption (Unit {0})) → StmtOptionSpans b → StmtOption S
    stmt_option_spanned no_stmt m = no_stmt
    stmt_option_spanned (some_stmt a) m = some_stmt (stmt_spanned a m)

    pub block_option_spanned : (b : BlockOption (Unit {0})) → BlockOptionSpans b → BlockOption S
    block_option_spanned no_block m = no_block
    block_option_spanned (some_block _ b) m = some_block m.0 (stmts_spanned b m.1)

    pub left_spanned : (b : RangeLeft (Unit {0})) → LeftSpans b → RangeLeft S
    left_spanned nothing m = nothing
    left_spanned (assigns a) m = assigns (exprs_spanned a m)
    left_spanned (defines a) m = defines (names_spanned a m)

    pub arms_spanned : (b : Arms (Unit {0})) → ArmsSpans b → Arms S
    arms_spanned no_arms m = no_arms
    arms_spanned (arm _ b c _ e f) m = arm m.0 (stmt_option_spanned b m.1) (expr_spanned c m.2) m.3 (stmts_spanned e m.4) (arms_spanned f m.5)

    pub cases_spanned : (b : Cases (Unit {0})) → CasesSpans b → Cases S
    cases_spanned no_cases m = no_cases
    cases_spanned (case _ b c d) m = case m.0 (exprs_spanned b m.1) (stmts_spanned c m.2) (cases_spanned d m.3)

    pub specs_spanned : (b : ValueSpecs (Unit {0})) → SpecsSpans b → ValueSpecs S
    specs_spanned no_specs m = no_specs
    specs_spanned (spec _ b c d e) m = spec m.0 (names_spanned b m.1) (type_option_spanned c m.2) (exprs_spanned d m.3) (specs_spanned e m.4)

  abbrev pub type_spec_spanned : (b : TypeSpec (Unit {0})) → TypeSpecSpans b → TypeSpec S
  type_spec_spanned x m = record { span = m.0; name = record { span = m.1; name = x.name.name }; alias = x.alias; of = type_spanned x.of m.2 }

  abbrev pub type_specs_spanned : (b : List (TypeSpec (Unit {0}))) → TypeSpecsSpans b → List (TypeSpec S)
  type_specs_spanned [] m = []
  type_specs_spanned (a ∷ b) m = (type_spec_spanned a m.0) ∷ (type_specs_spanned b m.1)

  abbrev pub receiver_spanned : (b : Receiver (Unit {0})) → ReceiverSpans b → Receiver S
  receiver_spanned x m = record { span = m.0; name = name_option_spanned x.name m.1; pointer = x.pointer; of = record { span = m.2; name = x.of.name } }

  abbrev pub receiver_option_spanned : (b : Option (Receiver (Unit {0}))) → ReceiverOptionSpans b → Option (Receiver S)
  receiver_option_spanned None m = None
  receiver_option_spanned (Some a) m = Some (receiver_spanned a m)

  abbrev pub func_spanned : (b : Func (Unit {0})) → FuncSpans b → Func S
  func_spanned x m = record { span = m.0; receiver = receiver_option_spanned x.receiver m.1; name = record { span = m.2; name = x.name.name }; sig = sig_spanned x.sig m.3; body_span = m.4; body = stmts_spanned x.body m.5 }

  abbrev pub decl_spanned : (b : Decl (Unit {0})) → DeclSpans b → Decl S
  decl_spanned (values a) m = values (stmt_spanned a m)
  decl_spanned (types _ b c) m = types m.0 b (type_specs_spanned c m.1)
  decl_spanned (func a) m = func (func_spanned a m)

  abbrev pub decls_spanned : (b : List (Decl (Unit {0}))) → DeclsSpans b → List (Decl S)
  decls_spanned [] m = []
  decls_spanned (a ∷ b) m = (decl_spanned a m.0) ∷ (decls_spanned b m.1)

  -- ---- each tree is its shape with its spans

  pub names_known : (x : List (NameAt S)) → (m : NamesSpans (map bare_name x)) × (names_spanned (map bare_name x) m ≡ x)
  names_known [] = (tt, refl)
  names_known (a ∷ b) = let p0 = names_known b in ((a.span, p0.0), λ w. a ∷ (p0.1 w))

  pub name_option_known : (x : Option (NameAt S)) → (m : NameOptionSpans (option_map bare_name x)) × (name_option_spanned (option_map bare_name x) m ≡ x)
  name_option_known None = (tt, refl)
  name_option_known (Some a) = (a.span, refl)

  mutual
    pub type_known : (x : TypeExpr S) → (m : TypeSpans (bare_type x)) × (type_spanned (bare_type x) m ≡ x)
    type_known (named a b c) = let p0 = name_option_known b in ((a, p0.0, c.span), λ w. named a (p0.1 w) c)
    type_known (pointer a b) = let p0 = type_known b in ((a, p0.0), λ w. pointer a (p0.1 w))
    type_known (slice_type a b) = let p0 = type_known b in ((a, p0.0), λ w. slice_type a (p0.1 w))
    type_known (map_type a b c) = let p0 = type_known b in let p1 = type_known c in ((a, p0.0, p1.0), λ w. map_type a (p0.1 w) (p1.1 w))
    type_known (struct_type a b) = let p0 = fields_known b in ((a, p0.0), λ w. struct_type a (p0.1 w))

    pub fields_known : (x : Fields S) → (m : FieldsSpans (bare_fields x)) × (fields_spanned (bare_fields x) m ≡ x)
    fields_known no_fields = (tt, refl)
    fields_known (field a b c d) = let p0 = type_known c in let p1 = fields_known d in ((a, b.span, p0.0, p1.0), λ w. field a b (p0.1 w) (p1.1 w))

  pub type_option_known : (x : Option (TypeExpr S)) → (m : TypeOptionSpans (option_map bare_type x)) × (type_option_spanned (option_map bare_type x) m ≡ x)
  type_option_known None = (tt, refl)
  type_option_known (Some a) = let p0 = type_known a in (p0.0, λ w. Some (p0.1 w))

  pub param_known : (x : Param S) → (m : ParamSpans (bare_param x)) × (param_spanned (bare_param x) m ≡ x)
  param_known x = let p0 = name_option_known x.name in let p1 = type_known x.of in ((x.span, p0.0, p1.0), λ w. record { span = x.span; name = p0.1 w; rest = x.rest; of = p1.1 w })

  pub params_known : (x : List (Param S)) → (m : ParamsSpans (map bare_param x)) × (params_spanned (map bare_param x) m ≡ x)
  params_known [] = (tt, refl)
  params_known (a ∷ b) = let p0 = param_known a in let p1 = params_known b in ((p0.0, p1.0), λ w. (p0.1 w) ∷ (p1.1 w))

  pub sig_known : (x : Sig S) → (m : SigSpans (bare_sig x)) × (sig_spanned (bare_sig x) m ≡ x)
  sig_known x = let p0 = params_known x.params in let p1 = params_known x.results in ((p0.0, p1.0), λ w. record { params = p0.1 w; results = p1.1 w })

  mutual
    pub expr_known : (x : Expr S) → (m : ExprSpans (bare_expr x)) × (expr_spanned (bare_expr x) m ≡ x)
    expr_known (ident a b) = (a, refl)
    expr_known (int_lit a b) = (a, refl)
    expr_known (rune_lit a b) = (a, refl)
    expr_known (str_lit a b) = (a, refl)
    expr_known (composite a b c) = let p0 = type_known b in let p1 = elems_known c in ((a, p0.0, p1.0), λ w. composite a (p0.1 w) (p1.1 w))
    expr_known (selector a b c) = let p0 = expr_known b in ((a, p0.0, c.span), λ w. selector a (p0.1 w) c)
    expr_known (index a b c) = let p0 = expr_known b in let p1 = expr_known c in ((a, p0.0, p1.0), λ w. index a (p0.1 w) (p1.1 w))
    expr_known (slice a b c d) = let p0 = expr_known b in let p1 = expr_option_known c in let p2 = expr_option_known d in ((a, p0.0, p1.0, p2.0), λ w. slice a (p0.1 w) (p1.1 w) (p2.1 w))
    expr_known (call a b c d) = let p0 = expr_known b in let p1 = exprs_known c in ((a, p0.0, p1.0), λ w. call a (p0.1 w) (p1.1 w) d)
    expr_known (func_lit a b c d) = let p0 = sig_known b in let p1 = stmts_known d in ((a, p0.0, c, p1.0), λ w. func_lit a (p0.1 w) c (p1.1 w))
    expr_known (type_operand a b) = let p0 = type_known b in ((a, p0.0), λ w. type_operand a (p0.1 w))
    expr_known (unary a b c) = let p0 = expr_known c in ((a, p0.0), λ w. unary a b (p0.1 w))
    expr_known (binary a b c d) = let p0 = expr_known c in let p1 = expr_known d in ((a, p0.0, p1.0), λ w. binary a b (p0.1 w) (p1.1 w))
    expr_known (star a b) = let p0 = expr_known b in ((a, p0.0), λ w. star a (p0.1 w))

    pub exprs_known : (x : Exprs S) → (m : ExprsSpans (bare_exprs x)) × (exprs_spanned (bare_exprs x) m ≡ x)
    exprs_known no_exprs = (tt, refl)
    exprs_known (expr_and a b) = let p0 = expr_known a in let p1 = exprs_known b in ((p0.0, p1.0), λ w. expr_and (p0.1 w) (p1.1 w))

    pub expr_option_known : (x : ExprOption S) → (m : ExprOptionSpans (bare_expr_option x)) × (expr_option_spanned (bare_expr_option x) m ≡ x)
    expr_option_known no_expr = (tt, refl)
    expr_option_known (some_expr a) = let p0 = expr_known a in (p0.0, λ w. some_expr (p0.1 w))

    pub elems_known : (x : Elems S) → (m : ElemsSpans (bare_elems x)) × (elems_spanned (bare_elems x) m ≡ x)
    elems_known no_elems = (tt, refl)
    elems_known (elem a b c d) = let p0 = value_option_known b in let p1 = value_known c in let p2 = elems_known d in ((a, p0.0, p1.0, p2.0), λ w. elem a (p0.1 w) (p1.1 w) (p2.1 w))

    pub value_option_known : (x : ValueOption S) → (m : ValueOptionSpans (bare_value_option x)) × (value_option_spanned (bare_value_option x) m ≡ x)
    value_option_known no_value = (tt, refl)
    value_option_known (some_value a) = let p0 = value_known a in (p0.0, λ w. some_value (p0.1 w))

    pub value_known : (x : Value S) → (m : ValueSpans (bare_value x)) × (value_spanned (bare_value x) m ≡ x)
    value_known (plain a) = let p0 = expr_known a in (p0.0, λ w. plain (p0.1 w))
    value_known (braced a b) = let p0 = elems_known b in ((a, p0.0), λ w. braced a (p0.1 w))

    pub stmt_known : (x : Stmt S) → (m : StmtSpans (bare_stmt x)) × (stmt_spanned (bare_stmt x) m ≡ x)
    stmt_known (const_decl a b c) = let p0 = specs_known c in ((a, p0.0), λ w. const_decl a b (p0.1 w))
    stmt_known (var_decl a b c) = let p0 = specs_known c in ((a, p0.0), λ w. var_decl a b (p0.1 w))
    stmt_known (empty a) = (a, refl)
    stmt_known (eval a b) = let p0 = expr_known b in ((a, p0.0), λ w. eval a (p0.1 w))
    stmt_known (step a b c) = let p0 = expr_known b in ((a, p0.0), λ w. step a (p0.1 w) c)
    stmt_known (assign a b c d) = let p0 = exprs_known b in let p1 = exprs_known d in ((a, p0.0, p1.0), λ w. assign a (p0.1 w) c (p1.1 w))
    stmt_known (define a b c) = let p0 = names_known b in let p1 = exprs_known c in ((a, p0.0, p1.0), λ w. define a (p0.1 w) (p1.1 w))
    stmt_known (return_ a b) = let p0 = exprs_known b in ((a, p0.0), λ w. return_ a (p0.1 w))
    stmt_known (break_ a b) = let p0 = name_option_known b in ((a, p0.0), λ w. break_ a (p0.1 w))
    stmt_known (continue_ a b) = let p0 = name_option_known b in ((a, p0.0), λ w. continue_ a (p0.1 w))
    stmt_known (inner a b) = let p0 = stmts_known b in ((a, p0.0), λ w. inner a (p0.1 w))
    stmt_known (if_ a b c) = let p0 = arms_known b in let p1 = block_option_known c in ((a, p0.0, p1.0), λ w. if_ a (p0.1 w) (p1.1 w))
    stmt_known (for_ a b c d e f) = let p0 = stmt_option_known b in let p1 = expr_option_known c in let p2 = stmt_option_known d in let p3 = stmts_known f in ((a, p0.0, p1.0, p2.0, e, p3.0), λ w. for_ a (p0.1 w) (p1.1 w) (p2.1 w) e (p3.1 w))
    stmt_known (range_ a b c d e) = let p0 = left_known b in let p1 = expr_known c in let p2 = stmts_known e in ((a, p0.0, p1.0, d, p2.0), λ w. range_ a (p0.1 w) (p1.1 w) d (p2.1 w))
    stmt_known (switch a b c d) = let p0 = stmt_option_known b in let p1 = expr_option_known c in let p2 = cases_known d in ((a, p0.0, p1.0, p2.0), λ w. switch a (p0.1 w) (p1.1 w) (p2.1 w))
    stmt_known (defer a b) = let p0 = expr_known b in ((a, p0.0), λ w. defer a (p0.1 w))
    stmt_known (label a b c) = let p0 = stmt_known c in ((a, b.span, p0.0), λ w. label a b (p0.1 w))

    pub stmts_known : (x : Stmts S) → (m : StmtsSpans (bare_stmts x)) × (stmts_spanned (bare_stmts x) m ≡ x)
    stmts_known no_stmts = (tt, refl)
    stmts_known (stmt_and a b) = let p0 = stmt_known a in let p1 = stmts_known b in ((p0.0, p1.0), λ w. stmt_and (p0.1 w) (p1.1 w))

    pub stmt_option_known : (x : StmtOption S) → (m : StmtOptionSpans (bare_stmt_option x)) × (stmt_option_spanned (bare_stmt_option x) m ≡ x)
    stmt_option_known no_stmt = (tt, refl)
    stmt_option_known (some_stmt a) = let p0 = stmt_known a in (p0.0, λ w. some_stmt (p0.1 w))

    pub block_option_known : (x : BlockOption S) → (m : BlockOptionSpans (bare_block_option x)) × (block_option_spanned (bare_block_option x) m ≡ x)
    block_option_known no_block = (tt, refl)
    block_option_known (some_block a b) = let p0 = stmts_known b in ((a, p0.0), λ w. some_block a (p0.1 w))

    pub left_known : (x : RangeLeft S) → (m : LeftSpans (bare_range_left x)) × (left_spanned (bare_range_left x) m ≡ x)
    left_known nothing = (tt, refl)
    left_known (assigns a) = let p0 = exprs_known a in (p0.0, λ w. assigns (p0.1 w))
    left_known (defines a) = let p0 = names_known a in (p0.0, λ w. defines (p0.1 w))

    pub arms_known : (x : Arms S) → (m : ArmsSpans (bare_arms x)) × (arms_spanned (bare_arms x) m ≡ x)
    arms_known no_arms = (tt, refl)
    arms_known (arm a b c d e f) = let p0 = stmt_option_known b in let p1 = expr_known c in let p2 = stmts_known e in let p3 = arms_known f in ((a, p0.0, p1.0, d, p2.0, p3.0), λ w. arm a (p0.1 w) (p1.1 w) d (p2.1 w) (p3.1 w))

    pub cases_known : (x : Cases S) → (m : CasesSpans (bare_cases x)) × (cases_spanned (bare_cases x) m ≡ x)
    cases_known no_cases = (tt, refl)
    cases_known (case a b c d) = let p0 = exprs_known b in let p1 = stmts_known c in let p2 = cases_known d in ((a, p0.0, p1.0, p2.0), λ w. case a (p0.1 w) (p1.1 w) (p2.1 w))

    pub specs_known : (x : ValueSpecs S) → (m : SpecsSpans (bare_value_specs x)) × (specs_spanned (bare_value_specs x) m ≡ x)
    specs_known no_specs = (tt, refl)
    specs_known (spec a b c d e) = let p0 = names_known b in let p1 = type_option_known c in let p2 = exprs_known d in let p3 = specs_known e in ((a, p0.0, p1.0, p2.0, p3.0), λ w. spec a (p0.1 w) (p1.1 w) (p2.1 w) (p3.1 w))

  pub type_spec_known : (x : TypeSpec S) → (m : TypeSpecSpans (bare_type_spec x)) × (type_spec_spanned (bare_type_spec x) m ≡ x)
  type_spec_known x = let p0 = type_known x.of in ((x.span, x.name.span, p0.0), λ w. record { span = x.span; name = x.name; alias = x.alias; of = p0.1 w })

  pub type_specs_known : (x : List (TypeSpec S)) → (m : TypeSpecsSpans (map bare_type_spec x)) × (type_specs_spanned (map bare_type_spec x) m ≡ x)
  type_specs_known [] = (tt, refl)
  type_specs_known (a ∷ b) = let p0 = type_spec_known a in let p1 = type_specs_known b in ((p0.0, p1.0), λ w. (p0.1 w) ∷ (p1.1 w))

  pub receiver_known : (x : Receiver S) → (m : ReceiverSpans (bare_receiver x)) × (receiver_spanned (bare_receiver x) m ≡ x)
  receiver_known x = let p0 = name_option_known x.name in ((x.span, p0.0, x.of.span), λ w. record { span = x.span; name = p0.1 w; pointer = x.pointer; of = x.of })

  pub receiver_option_known : (x : Option (Receiver S)) → (m : ReceiverOptionSpans (option_map bare_receiver x)) × (receiver_option_spanned (option_map bare_receiver x) m ≡ x)
  receiver_option_known None = (tt, refl)
  receiver_option_known (Some a) = let p0 = receiver_known a in (p0.0, λ w. Some (p0.1 w))

  pub func_known : (x : Func S) → (m : FuncSpans (bare_func x)) × (func_spanned (bare_func x) m ≡ x)
  func_known x = let p0 = receiver_option_known x.receiver in let p1 = sig_known x.sig in let p2 = stmts_known x.body in ((x.span, p0.0, x.name.span, p1.0, x.body_span, p2.0), λ w. record { span = x.span; receiver = p0.1 w; name = x.name; sig = p1.1 w; body_span = x.body_span; body = p2.1 w })

  pub decl_known : (x : Decl S) → (m : DeclSpans (bare_decl x)) × (decl_spanned (bare_decl x) m ≡ x)
  decl_known (values a) = let p0 = stmt_known a in (p0.0, λ w. values (p0.1 w))
  decl_known (types a b c) = let p0 = type_specs_known c in ((a, p0.0), λ w. types a b (p0.1 w))
  decl_known (func a) = let p0 = func_known a in (p0.0, λ w. func (p0.1 w))

  pub decls_known : (x : List (Decl S)) → (m : DeclsSpans (map bare_decl x)) × (decls_spanned (map bare_decl x) m ≡ x)
  decls_known [] = (tt, refl)
  decls_known (a ∷ b) = let p0 = decl_known a in let p1 = decls_known b in ((p0.0, p1.0), λ w. (p0.1 w) ∷ (p1.1 w))
