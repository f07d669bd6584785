-- A layout doesn't see spans.
use Rattle.std.proofs.Common.{◌≡◌, ℕ, ◌+◌, Bool, true, false, not, ◌&&◌, ◌||◌, List, [], ◌∷◌, map, Option, Some, None, refl, ap, ◌∙◌}
use Rattle.std.specs.Option.{option_map}
use Rattle.go_tree.specs.declared.operators.UnOp.{UnOp}
use Rattle.go_tree.specs.declared.exprs.Rest.{Rest}
use Rattle.go_tree.specs.declared.exprs.Rest.TheVariants.{Plain, Whole, Packed, Empty}
use Rattle.go_tree.specs.Tree.{NameAt, TypeExpr, Fields, Param, Sig, Expr, Exprs, ExprOption, Elems, Value, Stmt, Stmts, StmtOption, BlockOption, RangeLeft, Arms, Cases, ValueSpecs, named, pointer, slice_type, map_type, struct_type, no_fields, field, ident, int_lit, rune_lit, str_lit, composite, selector, index, slice, call, func_lit, type_operand, unary, binary, star, no_exprs, expr_and, no_expr, some_expr, no_elems, elem, plain, braced, no_value, some_value, const_decl, var_decl, empty, eval, step, assign, define, return_, break_, continue_, inner, if_, for_, range_, switch, defer, label, no_stmts, stmt_and, no_stmt, some_stmt, no_block, some_block, nothing, assigns, defines, no_arms, arm, no_cases, case, no_specs, spec}
use Rattle.go_tree.specs.Bare.{bare_name, bare_type, bare_fields, bare_param, bare_sig, bare_expr, bare_exprs, bare_expr_option, bare_elems, bare_value, bare_stmt, bare_stmts, bare_stmt_option, bare_block_option, bare_range_left, bare_arms, bare_cases, bare_value_specs}
use Rattle.go_tree.specs.GoWords.Terminals.{level_of}
use Rattle.go_layout.specs.Layouts.{Layout, line, ◌⊕◌, within, deeper}
use Rattle.go_layout.specs.TypeLayout.{names_layout, type_layout, fields_layout, param_name_layout, param_layout, param_list_layout, params_layout, result_layout, results_layout, sig_layout}
use Rattle.go_layout.specs.Parens.{needs_parens, is_integer, runs_into, ends_in_integer, last_ends_in_integer, header_within, closed_within}
use Rattle.go_layout.specs.TreeLayout.{gap_where, closes, rest_layout, stmt_end, clause_indent, gives_semicolon, spec_type_layout, equals_before, in_group, in_braces, expr_layout, exprs_layout, option_layout, test_layout, elems_layout, value_layout, stmt_layout, stmts_layout, post_layout, first_layout, arms_layout, last_layout, left_layout, cases_layout, specs_layout, operand_layout}

join : {a b c d : Layout} → a ≡ b → c ≡ d → (a ⊕ c) ≡ (b ⊕ d)
join p q = λ k. p k ⊕ q k

module _ {S : Type 0} where
  -- ---- types

  pub names_bare : (ns : List (NameAt S)) → names_layout (map bare_name ns) ≡ names_layout ns
  names_bare [] = refl
  names_bare (n ∷ []) = refl
  names_bare (n ∷ m ∷ ns) = join refl (join refl (names_bare (m ∷ ns)))

  mutual
    pub type_bare : (t : TypeExpr S) → type_layout (bare_type t) ≡ type_layout t
    type_bare (named s None n) = refl
    type_bare (named s (Some p) n) = refl
    type_bare (pointer s t) = join refl (type_bare t)
    type_bare (slice_type s t) = join refl (join refl (type_bare t))
    type_bare (map_type s k t) = join refl (join refl (join (type_bare k) (join refl (type_bare t))))
    type_bare (struct_type s fs) = join refl (join refl (join (fields_bare fs) refl))

    fields_bare : (fs : Fields S) → fields_layout (bare_fields fs) ≡ fields_layout fs
    fields_bare no_fields = refl
    fields_bare (field s n t no_fields) = join refl (join refl (join (type_bare t) refl))
    fields_bare (field s n t (field s2 n2 t2 fs)) = join refl (join refl (join (type_bare t) (join refl (fields_bare (field s2 n2 t2 fs)))))

  param_name_bare : (o : Option (NameAt S)) → param_name_layout (option_map bare_name o) ≡ param_name_layout o
  param_name_bare None = refl
  param_name_bare (Some n) = refl

  param_layout_bare : (p : Param S) → param_layout (bare_param p) ≡ param_layout p
  param_layout_bare p = join (param_name_bare p.name) (join refl (type_bare p.of))

  param_list_bare : (ps : List (Param S)) → param_list_layout (map bare_param ps) ≡ param_list_layout ps
  param_list_bare [] = refl
  param_list_bare (p ∷ []) = join (param_layout_bare p) refl
  param_list_bare (p ∷ q ∷ ps) = join (param_layout_bare p) (join refl (param_list_bare (q ∷ ps)))

  params_bare : (ps : List (Param S)) → params_layout (map bare_param ps) ≡ params_layout ps
  params_bare ps = join refl (join (param_list_bare ps) refl)

  result_bare : (o : Option (NameAt S)) (p : Param S) → result_layout (option_map bare_name o) (bare_param p) ≡ result_layout o p
  result_bare None p = type_bare p.of
  result_bare (Some n) p = params_bare (p ∷ [])

  results_bare : (ps : List (Param S)) → results_layout (map bare_param ps) ≡ results_layout ps
  results_bare [] = refl
  results_bare (p ∷ []) = join refl (result_bare p.name p)
  results_bare (p ∷ q ∷ ps) = join refl (params_bare (p ∷ q ∷ ps))

  pub sig_bare : (g : Sig S) → sig_layout (bare_sig g) ≡ sig_layout g
  sig_bare g = join (params_bare g.params) (results_bare g.results)

  -- ---- parentheses

  needs_bare : (l : ℕ) (h c : Bool) (e : Expr S) → needs_parens l h c (bare_expr e) ≡ needs_parens l h c e
  needs_bare l h c (ident _ _) = refl
  needs_bare l h c (int_lit _ _) = refl
  needs_bare l h c (rune_lit _ _) = refl
  needs_bare l h c (str_lit _ _) = refl
  needs_bare l h c (composite _ (named _ _ _) _) = refl
  needs_bare l h c (composite _ (pointer _ _) _) = refl
  needs_bare l h c (composite _ (slice_type _ _) _) = refl
  needs_bare l h c (composite _ (map_type _ _ _) _) = refl
  needs_bare l h c (composite _ (struct_type _ _) _) = refl
  needs_bare l h c (selector _ _ _) = refl
  needs_bare l h c (index _ _ _) = refl
  needs_bare l h c (slice _ _ _ _) = refl
  needs_bare l h c (call _ _ _ _) = refl
  needs_bare l h c (func_lit _ _ _ _) = refl
  needs_bare l h c (type_operand _ (named _ _ _)) = refl
  needs_bare l h c (type_operand _ (pointer _ _)) = refl
  needs_bare l h c (type_operand _ (slice_type _ _)) = refl
  needs_bare l h c (type_operand _ (map_type _ _ _)) = refl
  needs_bare l h c (type_operand _ (struct_type _ _)) = refl
  needs_bare l h c (unary _ _ _) = refl
  needs_bare l h c (binary _ _ _ _) = refl
  needs_bare l h c (star _ _) = refl

  integer_bare : (e : Expr S) → is_integer (bare_expr e) ≡ is_integer e
  integer_bare (ident _ _) = refl
  integer_bare (int_lit _ _) = refl
  integer_bare (rune_lit _ _) = refl
  integer_bare (str_lit _ _) = refl
  integer_bare (composite _ _ _) = refl
  integer_bare (selector _ _ _) = refl
  integer_bare (index _ _ _) = refl
  integer_bare (slice _ _ _ _) = refl
  integer_bare (call _ _ _ _) = refl
  integer_bare (func_lit _ _ _ _) = refl
  integer_bare (type_operand _ _) = refl
  integer_bare (unary _ _ _) = refl
  integer_bare (binary _ _ _ _) = refl
  integer_bare (star _ _) = refl

  runs_bare : (o : UnOp) (e : Expr S) → runs_into o (bare_expr e) ≡ runs_into o e
  runs_bare o (ident _ _) = refl
  runs_bare o (int_lit _ _) = refl
  runs_bare o (rune_lit _ _) = refl
  runs_bare o (str_lit _ _) = refl
  runs_bare o (composite _ _ _) = refl
  runs_bare o (selector _ _ _) = refl
  runs_bare o (index _ _ _) = refl
  runs_bare o (slice _ _ _ _) = refl
  runs_bare o (call _ _ _ _) = refl
  runs_bare o (func_lit _ _ _ _) = refl
  runs_bare o (type_operand _ _) = refl
  runs_bare o (unary _ _ _) = refl
  runs_bare o (binary _ _ _ _) = refl
  runs_bare o (star _ _) = refl

  -- ---- the dots of a call

  ends_bare : (h c : Bool) (e : Expr S) → ends_in_integer h c (bare_expr e) ≡ ends_in_integer h c e
  ends_bare h c (ident _ _) = refl
  ends_bare h c (int_lit _ _) = refl
  ends_bare h c (rune_lit _ _) = refl
  ends_bare h c (str_lit _ _) = refl
  ends_bare h c (composite _ _ _) = refl
  ends_bare h c (selector _ _ _) = refl
  ends_bare h c (index _ _ _) = refl
  ends_bare h c (slice _ _ _ _) = refl
  ends_bare h c (call _ _ _ _) = refl
  ends_bare h c (func_lit _ _ _ _) = refl
  ends_bare h c (type_operand _ _) = refl
  ends_bare h c (unary _ o e) = λ k. not (needs_bare 6 h c e k || runs_bare o e k) && ends_bare h c e k
  ends_bare h c (binary _ o a b) = λ k. not (needs_bare (level_of o + 1) h c b k) && ends_bare h c b k
  ends_bare h c (star _ e) = λ k. not (needs_bare 6 h c e k) && ends_bare h c e k

  last_ends_bare : (h c : Bool) (xs : Exprs S) → last_ends_in_integer h c (bare_exprs xs) ≡ last_ends_in_integer h c xs
  last_ends_bare h c no_exprs = refl
  last_ends_bare h c (expr_and e no_exprs) = λ k. not (needs_bare 1 h c e k) && ends_bare h c e k
  last_ends_bare h c (expr_and e (expr_and e2 es)) = last_ends_bare h c (expr_and e2 es)

  rest_bare : (rest : Rest) (xs : Exprs S) → rest_layout rest (bare_exprs xs) ≡ rest_layout rest xs
  rest_bare Plain xs = refl
  rest_bare Whole xs = join (ap gap_where (last_ends_bare false false xs)) refl
  rest_bare Packed xs = refl
  rest_bare Empty xs = refl

  -- ---- expressions

  abbrev pub Same : Expr S → Type 0
  Same e = (i : List ℕ) (h c : Bool) → expr_layout i h c (bare_expr e) ≡ expr_layout i h c e

  placed : (e : Expr S) (p q : Bool) (i : List ℕ) (h c : Bool) → q ≡ p → Same e
      → within q (expr_layout i (header_within q h) (closed_within q c) (bare_expr e)) ≡ within p (expr_layout i (header_within p h) (closed_within p c) e)
  placed e p q i h c same ih = ap (λ (x : Bool). within x (expr_layout i (header_within x h) (closed_within x c) (bare_expr e))) same ∙ ap (within p) (ih i (header_within p h) (closed_within p c))

  pub here : (e : Expr S) (i : List ℕ) (l : ℕ) (h c : Bool) → Same e → operand_layout i l h c (bare_expr e) ≡ operand_layout i l h c e
  here e i l h c ih = placed e (needs_parens l h c e) (needs_parens l h c (bare_expr e)) i h c (needs_bare l h c e) ih

  -- ---- lists

  gives_bare : (x : Stmt S) → gives_semicolon (bare_stmt x) ≡ gives_semicolon x
  gives_bare (const_decl _ _ _) = refl
  gives_bare (var_decl _ _ _) = refl
  gives_bare (empty _) = refl
  gives_bare (eval _ _) = refl
  gives_bare (step _ _ _) = refl
  gives_bare (assign _ _ _ _) = refl
  gives_bare (define _ _ _) = refl
  gives_bare (return_ _ _) = refl
  gives_bare (break_ _ _) = refl
  gives_bare (continue_ _ _) = refl
  gives_bare (inner _ _) = refl
  gives_bare (if_ _ _ _) = refl
  gives_bare (for_ _ _ _ _ _ _) = refl
  gives_bare (range_ _ _ _ _ _) = refl
  gives_bare (switch _ _ _ _) = refl
  gives_bare (defer _ _) = refl
  gives_bare (label _ _ x) = gives_bare x

  clause_bare : (i : List ℕ) (body : Stmts S) → clause_indent i (bare_stmts body) ≡ clause_indent i body
  clause_bare i no_stmts = refl
  clause_bare i (stmt_and _ _) = refl

  block : (i : List ℕ) (body : Stmts S) (a b : Layout) → a ≡ b → in_braces i (bare_stmts body) a ≡ in_braces i body b
  block i no_stmts a b q = join refl (join refl (join q refl))
  block i (stmt_and _ _) a b q = join refl (join refl (join q refl))

  group : (i : List ℕ) (ss : ValueSpecs S) (a b : Layout) → a ≡ b → in_group i true (bare_value_specs ss) a ≡ in_group i true ss b
  group i no_specs a b q = join refl (join refl (join q refl))
  group i (spec _ _ _ _ _) a b q = join refl (join refl (join q refl))

  spec_type_bare : (t : Option (TypeExpr S)) → spec_type_layout (option_map bare_type t) ≡ spec_type_layout t
  spec_type_bare None = refl
  spec_type_bare (Some t) = join refl (type_bare t)

  equals_bare : (xs : Exprs S) → equals_before (bare_exprs xs) ≡ equals_before xs
  equals_bare no_exprs = refl
  equals_bare (expr_and _ _) = refl

  mutual
    pub expr_bare : (e : Expr S) → (i : List ℕ) (h c : Bool) → expr_layout i h c (bare_expr e) ≡ expr_layout i h c e
    expr_bare (ident s n) i h c = refl
    expr_bare (int_lit s n) i h c = refl
    expr_bare (rune_lit s n) i h c = refl
    expr_bare (str_lit s n) i h c = refl
    expr_bare (composite s t es) i h c = join (type_bare t) (join refl (join (elems_bare es i) refl))
    expr_bare (selector s e n) i h c =
        join (placed e (needs_parens 7 h false e || is_integer e) (needs_parens 7 h false (bare_expr e) || is_integer (bare_expr e)) i h false (λ k. needs_bare 7 h false e k || integer_bare e k) (expr_bare e)) refl
    expr_bare (index s e at) i h c = join (here e i 7 h false (expr_bare e)) (join refl (join (here at i 1 false false (expr_bare at)) refl))
    expr_bare (slice s e from to) i h c = join (here e i 7 h false (expr_bare e)) (join refl (join (option_bare from i false) (join refl (join (option_bare to i false) refl))))
    expr_bare (call s f xs rest) i h c = join (here f i 7 h true (expr_bare f)) (join refl (join (exprs_bare xs i false (closes rest)) (join (rest_bare rest xs) refl)))
    expr_bare (func_lit s g sb body) i h c = join refl (join (sig_bare g) (join refl (block i body (stmts_layout (deeper i) (Some i) (bare_stmts body)) (stmts_layout (deeper i) (Some i) body) (stmts_bare body (deeper i) (Some i)))))
    expr_bare (type_operand s t) i h c = type_bare t
    expr_bare (unary s o e) i h c =
        join refl (placed e (needs_parens 6 h c e || runs_into o e) (needs_parens 6 h c (bare_expr e) || runs_into o (bare_expr e)) i h c (λ k. needs_bare 6 h c e k || runs_bare o e k) (expr_bare e))
    expr_bare (binary s o a b) i h c = join (here a i (level_of o) h false (expr_bare a)) (join refl (here b i (level_of o + 1) h c (expr_bare b)))
    expr_bare (star s e) i h c = join refl (here e i 6 h c (expr_bare e))

    pub exprs_bare : (xs : Exprs S) → (i : List ℕ) (h c : Bool) → exprs_layout i h c (bare_exprs xs) ≡ exprs_layout i h c xs
    exprs_bare no_exprs i h c = refl
    exprs_bare (expr_and e no_exprs) i h c = join (here e i 1 h c (expr_bare e)) refl
    exprs_bare (expr_and e (expr_and e2 es)) i h c = join (here e i 1 h true (expr_bare e)) (join refl (exprs_bare (expr_and e2 es) i h c))

    option_bare : (o : ExprOption S) → (i : List ℕ) (h : Bool) → option_layout i h (bare_expr_option o) ≡ option_layout i h o
    option_bare no_expr i h = refl
    option_bare (some_expr e) i h = here e i 1 h false (expr_bare e)

    test_bare : (o : ExprOption S) → (i : List ℕ) → test_layout i (bare_expr_option o) ≡ test_layout i o
    test_bare no_expr i = refl
    test_bare (some_expr e) i = join (here e i 1 true false (expr_bare e)) refl

    elems_bare : (es : Elems S) → (i : List ℕ) → elems_layout i (bare_elems es) ≡ elems_layout i es
    elems_bare no_elems i = refl
    elems_bare (elem s no_value v no_elems) i = join refl (join (value_bare v i false) refl)
    elems_bare (elem s no_value v (elem s2 k2 v2 es)) i = join refl (join (value_bare v i true) (join refl (elems_bare (elem s2 k2 v2 es) i)))
    elems_bare (elem s (some_value k) v no_elems) i = join (join (value_bare k i false) refl) (join (value_bare v i false) refl)
    elems_bare (elem s (some_value k) v (elem s2 k2 v2 es)) i = join (join (value_bare k i false) refl) (join (value_bare v i true) (join refl (elems_bare (elem s2 k2 v2 es) i)))

    value_bare : (v : Value S) → (i : List ℕ) (c : Bool) → value_layout i c (bare_value v) ≡ value_layout i c v
    value_bare (plain e) i c = here e i 1 false c (expr_bare e)
    value_bare (braced s es) i c = join refl (join (elems_bare es i) refl)

    pub stmt_bare : (x : Stmt S) → (i : List ℕ) (h : Bool) → stmt_layout i h (bare_stmt x) ≡ stmt_layout i h x
    stmt_bare (const_decl s false ss) i h = join refl (join refl (specs_bare ss i None))
    stmt_bare (const_decl s true ss) i h = join refl (join refl (group i ss (specs_layout (deeper i) (Some i) (bare_value_specs ss)) (specs_layout (deeper i) (Some i) ss) (specs_bare ss (deeper i) (Some i))))
    stmt_bare (var_decl s false ss) i h = join refl (join refl (specs_bare ss i None))
    stmt_bare (var_decl s true ss) i h = join refl (join refl (group i ss (specs_layout (deeper i) (Some i) (bare_value_specs ss)) (specs_layout (deeper i) (Some i) ss) (specs_bare ss (deeper i) (Some i))))
    stmt_bare (empty s) i h = refl
    stmt_bare (eval s e) i h = here e i 1 h false (expr_bare e)
    stmt_bare (step s e up) i h = join (here e i 1 h false (expr_bare e)) refl
    stmt_bare (assign s xs o ys) i h = join (exprs_bare xs i h false) (join refl (exprs_bare ys i h false))
    stmt_bare (define s ns ys) i h = join (names_bare ns) (join refl (exprs_bare ys i h false))
    stmt_bare (return_ s no_exprs) i h = refl
    stmt_bare (return_ s (expr_and e es)) i h = join refl (join refl (exprs_bare (expr_and e es) i false false))
    stmt_bare (break_ s None) i h = refl
    stmt_bare (break_ s (Some n)) i h = refl
    stmt_bare (continue_ s None) i h = refl
    stmt_bare (continue_ s (Some n)) i h = refl
    stmt_bare (inner s body) i h = block i body (stmts_layout (deeper i) (Some i) (bare_stmts body)) (stmts_layout (deeper i) (Some i) body) (stmts_bare body (deeper i) (Some i))
    stmt_bare (if_ s arms last) i h = join (arms_bare arms i) (last_bare last i)
    stmt_bare (for_ s no_stmt t no_stmt sb body) i h =
        join refl (join refl (join (test_bare t i) (block i body (stmts_layout (deeper i) (Some i) (bare_stmts body)) (stmts_layout (deeper i) (Some i) body) (stmts_bare body (deeper i) (Some i)))))
    stmt_bare (for_ s (some_stmt x) t p sb body) i h =
        join refl (join refl (join (stmt_bare x i true) (join refl (join refl (join (option_bare t i true) (join refl (join refl (join (post_bare p i)
        (block i body (stmts_layout (deeper i) (Some i) (bare_stmts body)) (stmts_layout (deeper i) (Some i) body) (stmts_bare body (deeper i) (Some i)))))))))))
    stmt_bare (for_ s no_stmt t (some_stmt p) sb body) i h =
        join refl (join refl (join refl (join refl (join refl (join (option_bare t i true) (join refl (join refl (join (post_bare (some_stmt p) i)
        (block i body (stmts_layout (deeper i) (Some i) (bare_stmts body)) (stmts_layout (deeper i) (Some i) body) (stmts_bare body (deeper i) (Some i)))))))))))
    stmt_bare (range_ s left e sb body) i h =
        join refl (join refl (join (left_bare left i) (join refl (join refl (join (here e i 1 true false (expr_bare e)) (join refl
        (block i body (stmts_layout (deeper i) (Some i) (bare_stmts body)) (stmts_layout (deeper i) (Some i) body) (stmts_bare body (deeper i) (Some i)))))))))
    stmt_bare (switch s first t no_cases) i h = join refl (join refl (join (first_bare first i) (join (test_bare t i) refl)))
    stmt_bare (switch s first t (case s2 xs body cs)) i h = join refl (join refl (join (first_bare first i) (join (test_bare t i) (join refl (join refl (join (cases_bare (case s2 xs body cs) i) refl))))))
    stmt_bare (defer s e) i h = join refl (join refl (expr_bare e i false false))
    stmt_bare (label s n x) i h = join refl (join refl (join refl (stmt_bare x i false)))

    pub stmts_bare : (xs : Stmts S) → (i : List ℕ) (end : Option (List ℕ)) → stmts_layout i end (bare_stmts xs) ≡ stmts_layout i end xs
    stmts_bare no_stmts i end = refl
    stmts_bare (stmt_and x no_stmts) i end = join (stmt_bare x i false) (join (λ k. stmt_end {S = S} i end (gives_bare x k) no_stmts) refl)
    stmts_bare (stmt_and x (stmt_and y xs)) i end = join (stmt_bare x i false) (join (λ k. stmt_end {S = S} i end (gives_bare x k) (stmt_and y xs)) (stmts_bare (stmt_and y xs) i end))

    post_bare : (o : StmtOption S) → (i : List ℕ) → post_layout i (bare_stmt_option o) ≡ post_layout i o
    post_bare no_stmt i = refl
    post_bare (some_stmt x) i = join (stmt_bare x i true) refl

    first_bare : (o : StmtOption S) → (i : List ℕ) → first_layout i (bare_stmt_option o) ≡ first_layout i o
    first_bare no_stmt i = refl
    first_bare (some_stmt x) i = join (stmt_bare x i true) refl

    last_bare : (o : BlockOption S) → (i : List ℕ) → last_layout i (bare_block_option o) ≡ last_layout i o
    last_bare no_block i = refl
    last_bare (some_block sb body) i = join refl (join refl (join refl (block i body (stmts_layout (deeper i) (Some i) (bare_stmts body)) (stmts_layout (deeper i) (Some i) body) (stmts_bare body (deeper i) (Some i)))))

    arms_bare : (arms : Arms S) → (i : List ℕ) → arms_layout i (bare_arms arms) ≡ arms_layout i arms
    arms_bare no_arms i = refl
    arms_bare (arm s first t sb body no_arms) i =
        join refl (join refl (join (first_bare first i) (join (here t i 1 true false (expr_bare t)) (join refl (join (block i body (stmts_layout (deeper i) (Some i) (bare_stmts body)) (stmts_layout (deeper i) (Some i) body) (stmts_bare body (deeper i) (Some i))) refl)))))
    arms_bare (arm s first t sb body (arm s2 first2 t2 sb2 body2 arms)) i =
        join refl (join refl (join (first_bare first i) (join (here t i 1 true false (expr_bare t)) (join refl (join (block i body (stmts_layout (deeper i) (Some i) (bare_stmts body)) (stmts_layout (deeper i) (Some i) body) (stmts_bare body (deeper i) (Some i)))
        (join refl (arms_bare (arm s2 first2 t2 sb2 body2 arms) i)))))))

    left_bare : (left : RangeLeft S) → (i : List ℕ) → left_layout i (bare_range_left left) ≡ left_layout i left
    left_bare nothing i = refl
    left_bare (assigns xs) i = join (exprs_bare xs i true false) refl
    left_bare (defines ns) i = join (names_bare ns) refl

    cases_bare : (cs : Cases S) → (i : List ℕ) → cases_layout i (bare_cases cs) ≡ cases_layout i cs
    cases_bare no_cases i = refl
    cases_bare (case s no_exprs body cs) i = join refl (join refl (join refl (join (λ k. line false (clause_bare i body k)) (join (stmts_bare body (deeper i) (Some i)) (cases_bare cs i)))))
    cases_bare (case s (expr_and e es) body cs) i =
        join refl (join (exprs_bare (expr_and e es) i false false) (join refl (join (λ k. line false (clause_bare i body k)) (join (stmts_bare body (deeper i) (Some i)) (cases_bare cs i)))))

    specs_bare : (ss : ValueSpecs S) → (i : List ℕ) (end : Option (List ℕ)) → specs_layout i end (bare_value_specs ss) ≡ specs_layout i end ss
    specs_bare no_specs i end = refl
    specs_bare (spec s ns t xs no_specs) i end = join (names_bare ns) (join (spec_type_bare t) (join (equals_bare xs) (join (exprs_bare xs i false false) refl)))
    specs_bare (spec s ns t xs (spec s2 ns2 t2 xs2 ss)) i end =
        join (names_bare ns) (join (spec_type_bare t) (join (equals_bare xs) (join (exprs_bare xs i false false) (join refl (specs_bare (spec s2 ns2 t2 xs2 ss) i end)))))
