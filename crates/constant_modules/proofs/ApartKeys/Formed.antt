-- A declaration that the grammar forms is formed with other spans too.
use Rattle.std.proofs.Common.{◌≡◌, ◌∙◌, refl, sym, inl, inr, Bool, true, false, List, [], ◌∷◌, map, Option, Some, None}
use Rattle.go_tree.specs.declared.exprs.Rest.{Rest}
use Rattle.go_tree.specs.declared.exprs.Rest.TheVariants.{Plain, Whole, Packed, Empty}
use Rattle.go_tree.specs.Tree.{NameAt, Param, Sig, TypeExpr, named, pointer, slice_type, map_type, struct_type, Fields, no_fields, field, Expr, ident, int_lit, rune_lit, str_lit, composite, selector, index, slice, call, func_lit, type_operand, unary, binary, star, Exprs, no_exprs, expr_and, ExprOption, no_expr, some_expr, Elems, no_elems, elem, Value, plain, braced, ValueOption, no_value, some_value, Stmt, const_decl, var_decl, empty, eval, step, assign, define, return_, break_, continue_, inner, if_, for_, range_, switch, defer, label, Stmts, no_stmts, stmt_and, StmtOption, no_stmt, some_stmt, BlockOption, no_block, some_block, RangeLeft, nothing, assigns, defines, Arms, no_arms, arm, Cases, no_cases, case, ValueSpecs, no_specs, spec}
use Rattle.go_tree.specs.File.{TypeSpec, Decl, values, types, func}
use Rattle.go_read.specs.Spells.{is_func_lit}
use Rattle.go_layout.specs.LayoutLaws.Formed.{FormedName, FormedNames, HasNames, FormedType, FormedFields, IsNamed, IsUnnamed, FitsRest, FormedNamed, FormedUnnamed, FormedParams, FormedSig, FormedTypeOption, FormedLiteralType, FormedTypeOperand, HasExprs, HasArms, FormedRest, is_call, is_simple, FormedGroup, FormedSpec, FormedExpr, FormedOption, FormedExprs, FormedElems, FormedKey, FormedValue, FormedStmt, FormedStmts, FormedPart, FormedArms, FormedBlock, FormedLeft, FormedCases, FormedSpecs}
use Rattle.put_nodes.specs.Swapped.{FormedTypeSpecs, FormedDecl}
use Rattle.run_rules.specs.Respanned.{name_with, type_with, fields_with, type_option_with, param_with, sig_with, expr_with, exprs_with, expr_option_with, elems_with, value_option_with, value_with, stmt_with, stmts_with, stmt_option_with, block_option_with, left_with, arms_with, cases_with, specs_with, type_spec_with, decl_with}
use Rattle.std.specs.Option.{option_map}

module _ {S A B : Type 0} (to : S → A) (on : S → B) where
  name_on : (n : Option (NameAt S)) → FormedName (option_map (name_with to) n) → FormedName (option_map (name_with on) n)
  name_on None h = tt
  name_on (Some n) h = h

  names_on : (ns : List (NameAt S)) → FormedNames (map (name_with to) ns) → FormedNames (map (name_with on) ns)
  names_on [] h = tt
  names_on (n ∷ ns) h = (h.0, names_on ns h.1)

  has_names : (ns : List (NameAt S)) → HasNames (map (name_with to) ns) → HasNames (map (name_with on) ns)
  has_names [] h = absurd h
  has_names (n ∷ ns) h = tt

  -- ---- types

  mutual
    type_on : (t : TypeExpr S) → FormedType (type_with to t) → FormedType (type_with on t)
    type_on (named s p n) h = (name_on p h.0, h.1)
    type_on (pointer s t) h = type_on t h
    type_on (slice_type s t) h = type_on t h
    type_on (map_type s k t) h = (type_on k h.0, type_on t h.1)
    type_on (struct_type s fs) h = fields_on fs h

    fields_on : (fs : Fields S) → FormedFields (fields_with to fs) → FormedFields (fields_with on fs)
    fields_on no_fields h = tt
    fields_on (field s n t fs) h = (h.0, type_on t h.1, fields_on fs h.2)

  option_type_on : (t : Option (TypeExpr S)) → FormedTypeOption (type_option_with to t) → FormedTypeOption (type_option_with on t)
  option_type_on None h = tt
  option_type_on (Some t) h = type_on t h

  literal_type_on : (t : TypeExpr S) → FormedLiteralType (type_with to t) → FormedLiteralType (type_with on t)
  literal_type_on (named s p n) h = type_on (named s p n) h
  literal_type_on (pointer s t) h = absurd h
  literal_type_on (slice_type s t) h = type_on (slice_type s t) h
  literal_type_on (map_type s k t) h = type_on (map_type s k t) h
  literal_type_on (struct_type s fs) h = type_on (struct_type s fs) h

  type_operand_on : (t : TypeExpr S) → FormedTypeOperand (type_with to t) → FormedTypeOperand (type_with on t)
  type_operand_on (named s p n) h = absurd h
  type_operand_on (pointer s t) h = absurd h
  type_operand_on (slice_type s t) h = type_on (slice_type s t) h
  type_operand_on (map_type s k t) h = type_on (map_type s k t) h
  type_operand_on (struct_type s fs) h = type_on (struct_type s fs) h

  -- ---- signatures

  is_named : (n : Option (NameAt S)) → IsNamed (option_map (name_with to) n) → IsNamed (option_map (name_with on) n)
  is_named None h = absurd h
  is_named (Some n) h = h

  is_unnamed : (n : Option (NameAt S)) → IsUnnamed (option_map (name_with to) n) → IsUnnamed (option_map (name_with on) n)
  is_unnamed None h = tt
  is_unnamed (Some n) h = absurd h

  fits : (r v : Bool) (ps : List (Param S)) → FitsRest r v (map (param_with to) ps) → FitsRest r v (map (param_with on) ps)
  fits false v ps h = tt
  fits true true [] h = tt
  fits true true (p ∷ ps) h = absurd h
  fits true false ps h = absurd h

  named_on : (v : Bool) (ps : List (Param S)) → FormedNamed v (map (param_with to) ps) → FormedNamed v (map (param_with on) ps)
  named_on v [] h = tt
  named_on v (p ∷ ps) h = (is_named p.name h.0, type_on p.of h.1, named_on v ps h.2, fits p.rest v ps h.3)

  unnamed_on : (v : Bool) (ps : List (Param S)) → FormedUnnamed v (map (param_with to) ps) → FormedUnnamed v (map (param_with on) ps)
  unnamed_on v [] h = tt
  unnamed_on v (p ∷ ps) h = (is_unnamed p.name h.0, type_on p.of h.1, unnamed_on v ps h.2, fits p.rest v ps h.3)

  params_on : (v : Bool) (ps : List (Param S)) → FormedParams v (map (param_with to) ps) → FormedParams v (map (param_with on) ps)
  params_on v ps (inl h) = inl (named_on v ps h)
  params_on v ps (inr h) = inr (unnamed_on v ps h)

  sig_on : (v : Bool) (g : Sig S) → FormedSig v (sig_with to g) → FormedSig v (sig_with on g)
  sig_on v g h = (params_on v g.params h.0, params_on false g.results h.1)

  -- ---- what a node is

  lit_same : (x : Expr S) → is_func_lit (expr_with to x) ≡ is_func_lit (expr_with on x)
  lit_same (func_lit s g z b) = refl
  lit_same x = refl

  call_same : (x : Expr S) → is_call (expr_with to x) ≡ is_call (expr_with on x)
  call_same (call s f xs r) = refl
  call_same x = refl

  simple_same : (s : Stmt S) → is_simple (stmt_with to s) ≡ is_simple (stmt_with on s)
  simple_same (eval s e) = refl
  simple_same (step s e b) = refl
  simple_same (assign s xs o ys) = refl
  simple_same (define s ns ys) = refl
  simple_same s = refl

  no_lit : (x : Expr S) → is_func_lit (expr_with to x) ≡ false → is_func_lit (expr_with on x) ≡ false
  no_lit x h = sym (lit_same x) ∙ h

  has_exprs : (xs : Exprs S) → HasExprs (exprs_with to xs) → HasExprs (exprs_with on xs)
  has_exprs no_exprs h = absurd h
  has_exprs (expr_and e es) h = tt

  has_arms : (bs : Arms S) → HasArms (arms_with to bs) → HasArms (arms_with on bs)
  has_arms no_arms h = absurd h
  has_arms (arm s i t z b r) h = tt

  rest_on : (r : Rest) (xs : Exprs S) → FormedRest r (exprs_with to xs) → FormedRest r (exprs_with on xs)
  rest_on Plain xs h = tt
  rest_on Whole xs h = has_exprs xs h
  rest_on Packed xs h = absurd h
  rest_on Empty xs h = absurd h

  group_on : (g : Bool) (ss : ValueSpecs S) → FormedGroup g (specs_with to ss) → FormedGroup g (specs_with on ss)
  group_on true ss h = tt
  group_on false no_specs h = absurd h
  group_on false (spec s ns t es no_specs) h = tt
  group_on false (spec s ns t es (spec x ms u fs ss)) h = absurd h

  spec_on : (k : Bool) (t : Option (TypeExpr S)) (es : Exprs S) → FormedSpec k (type_option_with to t) (exprs_with to es) → FormedSpec k (type_option_with on t) (exprs_with on es)
  spec_on k t (expr_and e es) h = tt
  spec_on true None no_exprs h = tt
  spec_on true (Some t) no_exprs h = absurd h
  spec_on false None no_exprs h = absurd h
  spec_on false (Some t) no_exprs h = tt

  -- ---- expressions, elements and statements

  mutual
    expr_on : (x : Expr S) → FormedExpr (expr_with to x) → FormedExpr (expr_with on x)
    expr_on (ident s n) h = h
    expr_on (int_lit s n) h = h
    expr_on (rune_lit s n) h = h
    expr_on (str_lit s n) h = h
    expr_on (composite s t es) h = (literal_type_on t h.0, elems_on es h.1)
    expr_on (selector s b n) h = (no_lit b h.0, expr_on b h.1, h.2)
    expr_on (index s b i) h = (no_lit b h.0, expr_on b h.1, no_lit i h.2, expr_on i h.3)
    expr_on (slice s b i j) h = (no_lit b h.0, expr_on b h.1, option_on i h.2, option_on j h.3)
    expr_on (call s f xs r) h = (expr_on f h.0, exprs_on xs h.1, rest_on r xs h.2)
    expr_on (func_lit s g z b) h = (sig_on false g h.0, stmts_on b h.1)
    expr_on (type_operand s t) h = type_operand_on t h
    expr_on (unary s o e) h = (no_lit e h.0, expr_on e h.1)
    expr_on (binary s o a b) h = (no_lit a h.0, expr_on a h.1, no_lit b h.2, expr_on b h.3)
    expr_on (star s e) h = (no_lit e h.0, expr_on e h.1)

    option_on : (x : ExprOption S) → FormedOption (expr_option_with to x) → FormedOption (expr_option_with on x)
    option_on no_expr h = tt
    option_on (some_expr e) h = (no_lit e h.0, expr_on e h.1)

    exprs_on : (xs : Exprs S) → FormedExprs (exprs_with to xs) → FormedExprs (exprs_with on xs)
    exprs_on no_exprs h = tt
    exprs_on (expr_and e es) h = (no_lit e h.0, expr_on e h.1, exprs_on es h.2)

    elems_on : (es : Elems S) → FormedElems (elems_with to es) → FormedElems (elems_with on es)
    elems_on no_elems h = tt
    elems_on (elem s k v es) h = (key_on k h.0, value_on v h.1, elems_on es h.2)

    key_on : (k : ValueOption S) → FormedKey (value_option_with to k) → FormedKey (value_option_with on k)
    key_on no_value h = tt
    key_on (some_value v) h = value_on v h

    value_on : (v : Value S) → FormedValue (value_with to v) → FormedValue (value_with on v)
    value_on (plain e) h = (no_lit e h.0, expr_on e h.1)
    value_on (braced s es) h = elems_on es h

    stmt_on : (s : Stmt S) → FormedStmt (stmt_with to s) → FormedStmt (stmt_with on s)
    stmt_on (const_decl s g ss) h = (group_on g ss h.0, specs_on true ss h.1)
    stmt_on (var_decl s g ss) h = (group_on g ss h.0, specs_on false ss h.1)
    stmt_on (empty s) h = tt
    stmt_on (eval s e) h = (no_lit e h.0, expr_on e h.1)
    stmt_on (step s e b) h = (no_lit e h.0, expr_on e h.1)
    stmt_on (assign s xs o ys) h = (has_exprs xs h.0, exprs_on xs h.1, h.2, has_exprs ys h.3, exprs_on ys h.4)
    stmt_on (define s ns ys) h = (has_names ns h.0, names_on ns h.1, has_exprs ys h.2, exprs_on ys h.3)
    stmt_on (return_ s xs) h = exprs_on xs h
    stmt_on (break_ s n) h = name_on n h
    stmt_on (continue_ s n) h = name_on n h
    stmt_on (inner s b) h = stmts_on b h
    stmt_on (if_ s bs z) h = (has_arms bs h.0, arms_on bs h.1, block_on z h.2)
    stmt_on (for_ s i t q z b) h = (part_on i h.0, option_on t h.1, part_on q h.2, stmts_on b h.3)
    stmt_on (range_ s x e z b) h = (left_on x h.0, no_lit e h.1, expr_on e h.2, stmts_on b h.3)
    stmt_on (switch s i t cs) h = (part_on i h.0, option_on t h.1, cases_on cs h.2)
    stmt_on (defer s e) h = (sym (call_same e) ∙ h.0, expr_on e h.1)
    stmt_on (label s n x) h = (h.0, stmt_on x h.1)

    stmts_on : (ss : Stmts S) → FormedStmts (stmts_with to ss) → FormedStmts (stmts_with on ss)
    stmts_on no_stmts h = tt
    stmts_on (stmt_and s ss) h = (stmt_on s h.0, stmts_on ss h.1)

    part_on : (i : StmtOption S) → FormedPart (stmt_option_with to i) → FormedPart (stmt_option_with on i)
    part_on no_stmt h = tt
    part_on (some_stmt s) h = (sym (simple_same s) ∙ h.0, stmt_on s h.1)

    arms_on : (bs : Arms S) → FormedArms (arms_with to bs) → FormedArms (arms_with on bs)
    arms_on no_arms h = tt
    arms_on (arm s i t z b r) h = (part_on i h.0, no_lit t h.1, expr_on t h.2, stmts_on b h.3, arms_on r h.4)

    block_on : (b : BlockOption S) → FormedBlock (block_option_with to b) → FormedBlock (block_option_with on b)
    block_on no_block h = tt
    block_on (some_block s b) h = stmts_on b h

    left_on : (l : RangeLeft S) → FormedLeft (left_with to l) → FormedLeft (left_with on l)
    left_on nothing h = tt
    left_on (assigns es) h = (has_exprs es h.0, exprs_on es h.1)
    left_on (defines ns) h = (has_names ns h.0, names_on ns h.1)

    cases_on : (cs : Cases S) → FormedCases (cases_with to cs) → FormedCases (cases_with on cs)
    cases_on no_cases h = tt
    cases_on (case s es b cs) h = (exprs_on es h.0, stmts_on b h.1, cases_on cs h.2)

    specs_on : (k : Bool) (ss : ValueSpecs S) → FormedSpecs k (specs_with to ss) → FormedSpecs k (specs_with on ss)
    specs_on k no_specs h = tt
    specs_on k (spec s ns t es ss) h = (has_names ns h.0, names_on ns h.1, option_type_on t h.2, exprs_on es h.3, spec_on k t es h.4, specs_on k ss h.5)

  -- ---- a declaration

  type_specs_on : (ts : List (TypeSpec S)) → FormedTypeSpecs (map (type_spec_with to) ts) → FormedTypeSpecs (map (type_spec_with on) ts)
  type_specs_on [] h = tt
  type_specs_on (t ∷ ts) h = (type_on t.of h.0, type_specs_on ts h.1)

  pub formed_on : (d : Decl S) → FormedDecl (decl_with to d) → FormedDecl (decl_with on d)
  formed_on (values s) h = stmt_on s h
  formed_on (types s g ts) h = type_specs_on ts h
  formed_on (func f) h = stmts_on f.body h
