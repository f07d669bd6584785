-- What is typed and declares no constants doesn't use `_`: one line a rule of typing.
use Rattle.std.proofs.Common.{◌≡◌, refl, sym, ap, ◌∙◌, subst, ℕ, Bool, true, false, not, ◌&&◌, ◌||◌, List, [], ◌∷◌, ◌++◌, length, Option, Some, None, if◌then◌else◌, bytes_eq, arith}
use Rattle.std.specs.Prelude.{is_some}
use Rattle.std.proofs.lemmas.Slice.Eq.{bytes_eq-Decides}
use Rattle.go_tree.specs.Tree.{NameAt, Param, Sig, TypeExpr, named, pointer, slice_type, map_type, struct_type, Fields, no_fields, field, Expr, ident, int_lit, rune_lit, str_lit, composite, selector, index, slice, call, func_lit, type_operand, unary, binary, star, Exprs, no_exprs, expr_and, ExprOption, no_expr, some_expr, Elems, no_elems, elem, Value, plain, braced, ValueOption, no_value, some_value, Stmt, const_decl, var_decl, empty, eval, step, assign, define, return_, break_, continue_, inner, if_, for_, range_, switch, defer, label, Stmts, no_stmts, stmt_and, StmtOption, no_stmt, some_stmt, BlockOption, no_block, some_block, RangeLeft, nothing, assigns, defines, Arms, no_arms, arm, Cases, no_cases, case, ValueSpecs, no_specs, spec}
use Rattle.go_tree.specs.ScopeNames.FreeNames.{names_of, sig_names, declared, free_type, free_fields, free_type_option, free_params}
use Rattle.go_tree.specs.ScopeNames.Means.{is_blank}
use Rattle.go_tree.specs.GoTypes.Answers.{given, both, meets, only_if, is_empty, distinct_by}
use Rattle.go_tree.specs.GoTypes.Types.{GoType, pointer_to, slice_of, map_of, struct_of, GoFields, FuncType}
use Rattle.go_tree.specs.GoTypes.Defined.{under, has_keys}
use Rattle.go_tree.specs.GoTypes.Entities.{Entity, Env, Binds, meaning, package_of, type_of_name, exported, defined_in, extend, in_block}
use Rattle.go_tree.specs.GoTypes.TypeNames.{field_before, resolved, resolved_fields, type_meant, params_meant, func_type, written_type}
use Rattle.go_tree.specs.GoTypes.Operands.{Operand, a_type, Typed, typed, with_value, named_operand, a_function, takes_all, spread}
use Rattle.go_tree.specs.GoTypes.Operators.{unary_of, binary_of, star_of}
use Rattle.go_tree.specs.GoTypes.Primary.{selected, index_of, sliced, call_of, stands_alone, may_be_deferred}
use Rattle.go_tree.specs.GoTypes.Literals.{Element, is_struct, field_key, built, built_inside, key_type, inner_type, literal_type, of_field, keyed}
use Rattle.go_tree.specs.GoTypes.Declarations.{Declared, new_variables, new_by_define, binds_or, binds_of, bound_names, may_declare, and_then, unused_after, all_used}
use Rattle.go_tree.specs.GoTypes.Bodies.{Ctx, in_loop, in_switch, body_binds, body_ctx, no_values, literal_env, is_body, labelled, returns}
use Rattle.go_tree.specs.GoTypes.Jumps.{breaks, labels_in}
use Rattle.go_tree.specs.GoTypes.Statements.{Target, blank, target_at, stores_all, updates, step_op, one_more, right_values, package_before, is_blank_name, is_panic, is_empty_stmt, range_assigns, has_last, Clauses, assigned_values}
use Rattle.go_tree.specs.GoTypes.Typing.{parts, all_parts, bound, elements, element, with_key, place, places, used, used_all, used_option, used_elems, used_key, used_value, used_left, used_stmt, used_stmts, used_first, used_block, used_range, used_arms, used_cases, used_variables, declares, declares_variables, targets, stmt, stmts, first, block, is_call, ranges, arms, clauses}
use Rattle.go_tree.proofs.GoTypes.Agreeing.{from_given, from_both, from_only}
use Rattle.form_meaning.specs.FormInPlace.Bound.{stmt_binds, first_binds, range_left_binds, literal_binds, variable_binds}
use Rattle.argument_cycles.proofs.TypedBodies.TypedAnswers.{passed, met, known_values, some_values, variable_known}
use Rattle.argument_cycles.proofs.TypedBodies.TypedHeads.{ForTyped, for_typed, RangeTyped, range_typed, SwitchTyped, switch_typed, ArmTyped, arm_typed, CaseTyped, case_typed, behind_first}
use Rattle.literals_in_place.specs.StepsInBodies.NoConstants.{NoneInExpr, NoneInAll, NoneInOption, NoneInElems, NoneInKey, NoneInValue, NoneInStmt, NoneInStmts, NoneInFirst, NoneInBlock, NoneInLeft, NoneInArms, NoneInCases, NoneInSpecs}
use Rattle.literals_in_place.proofs.StepsInBodies.Absent.{Absent, absent_none, absent_both, absent_without, absent_if, Unmeant, still_unmeant, after_stmt, after_first, after_range, after_variables, after_heads}

module _ (n : List ℕ) (is_blank_so : is_blank n ≡ true) where
  -- the name means nothing there
  abbrev Away : Env → Type 0
  Away a = Unmeant n is_blank_so a

  behind : (bs : Binds) (a : Env) → Absent n (bound_names bs) → Away a → Away (extend bs a)
  behind bs a f k = still_unmeant n is_blank_so bs a f k

  -- what means something is another name
  name_absent : (a : Env) (x : List ℕ) → Away a → is_some (meaning a x) ≡ true → Absent n (x ∷ [])
  name_absent a x k e = record { none = ap (λ (b : Bool). b || false) (differs (bytes_eq n x) refl) }
    where
      differs : (b : Bool) → bytes_eq n x ≡ b → b ≡ false
      differs true q = absurd (grind (arith, sym (ap (λ (y : List ℕ). is_some (meaning a y)) ((bytes_eq-Decides n x).0 q) ∙ e) ∙ ap is_some k))
      differs false q = refl

  known_type : (o : Option Entity) (t : GoType) → type_of_name o ≡ Some t → is_some o ≡ true
  known_type None t e = absurd (grind (arith, e))
  known_type (Some d) t e = refl

  known_package : (o : Option Entity) (p : ℕ) → package_of o ≡ Some p → is_some o ≡ true
  known_package None p e = absurd (grind (arith, e))
  known_package (Some d) p e = refl

  known_operand : (a : Env) (o : Option Entity) (v : Operand) → named_operand a o ≡ Some v → is_some o ≡ true
  known_operand a None v e = absurd (grind (arith, e))
  known_operand a (Some d) v e = refl

  -- the type of a spec of variables that is typed
  spec_type : (a : Env) (ns : List (List ℕ)) (t : Option (Option GoType)) (zeros : Bool) (vs : Option (List Typed)) (d : Declared) → new_variables a ns t zeros vs ≡ Some d → (u : Option GoType) × (t ≡ Some u)
  spec_type a ns None zeros vs d e = absurd (grind (arith, none_made (may_declare a ns) e))
    where
      none_made : (b : Bool) → only_if b None ≡ Some d → false ≡ true
      none_made true q = absurd (grind (arith, q))
      none_made false q = absurd (grind (arith, q))
  spec_type a ns (Some u) zeros vs d e = (u, refl)

  module _ {S : Type 0} where
    -- ---- types

    mutual
      type_absent : (a : Env) → Away a → (t : TypeExpr S) (u : GoType) → resolved a t ≡ Some u → Absent n (free_type [] t)
      type_absent a k (named s None x) u e = name_absent a x.name k (known_type (meaning a x.name) u e)
      type_absent a k (named s (Some p) x) u e =
          let r = from_given (package_of (meaning a p.name)) (λ q. type_of_name (exported a.world q x.name)) u e in
          name_absent a p.name k (known_package (meaning a p.name) r.0 r.1)
      type_absent a k (pointer s t) u e = let r = from_given (resolved a t) (λ u. Some (pointer_to u)) u e in type_absent a k t r.0 r.1
      type_absent a k (slice_type s t) u e = let r = from_given (resolved a t) (λ u. Some (slice_of u)) u e in type_absent a k t r.0 r.1
      type_absent a k (map_type s t v) u e =
          let r = from_both (resolved a t) (resolved a v) (λ x y. Some (map_of x y)) u e in
          absent_both (type_absent a k t r.0 r.2) (type_absent a k v r.1 r.3)
      type_absent a k (struct_type s fs) u e = let r = from_given (resolved_fields a fs) (λ gs. Some (struct_of gs)) u e in fields_absent a k fs r.0 r.1

      fields_absent : (a : Env) → Away a → (fs : Fields S) (gs : GoFields) → resolved_fields a fs ≡ Some gs → Absent n (free_fields [] fs)
      fields_absent a k no_fields gs e = absent_none
      fields_absent a k (field s x t fs) gs e =
          let r = from_both (resolved a t) (resolved_fields a fs) (field_before x.name a.home) gs e in
          absent_both (type_absent a k t r.0 r.2) (fields_absent a k fs r.1 r.3)

    meant_absent : (a : Env) → Away a → (t : TypeExpr S) (u : GoType) → type_meant a t ≡ Some u → Absent n (free_type [] t)
    meant_absent a k t u e = let r = from_given (resolved a t) (λ u. only_if (has_keys (defined_in a) u) (Some u)) u e in type_absent a k t r.0 r.1

    written_absent : (a : Env) → Away a → (t : Option (TypeExpr S)) (u : Option GoType) → written_type a t ≡ Some u → Absent n (free_type_option [] t)
    written_absent a k None u e = absent_none
    written_absent a k (Some t) u e = let r = from_given (type_meant a t) (λ u. Some (Some u)) u e in meant_absent a k t r.0 r.1

    params_absent : (a : Env) → Away a → (ps : List (Param S)) (ts : List GoType) → params_meant a ps ≡ Some ts → Absent n (free_params [] ps)
    params_absent a k [] ts e = absent_none
    params_absent a k (p ∷ ps) ts e =
        let r = from_both (type_meant a p.of) (params_meant a ps) (λ y ys. Some (y ∷ ys)) ts e in
        absent_both (meant_absent a k p.of r.0 r.2) (params_absent a k ps r.1 r.3)

    heads_absent : (a : Env) → Away a → (g : Sig S) (f : FuncType) → func_type a g ≡ Some f → Absent n (free_params [] g.params ++ free_params [] g.results)
    heads_absent a k g f e =
        let r = from_both (params_meant a g.params) (params_meant a g.results) (λ ts us. Some (record { params = ts; results = us })) f e in
        absent_both (params_absent a k g.params r.0 r.2) (params_absent a k g.results r.1 r.3)

    -- ---- parts by themselves

    base_absent : (a : Env) → Away a → (d : Expr S) (x : NameAt S) (o : Operand) (z : Option ℕ) → package_before a d ≡ z
        → elim z [ Some q ↦ named_operand a (exported a.world q x.name) | None ↦ given (parts a d) (λ o. with_value o (selected (defined_in a) a.home x.name (place a d))) ] ≡ Some o
        → ((o : Operand) → parts a d ≡ Some o → Absent n (used a d)) → Absent n (used a d)
    base_absent a k d x o None q e f = let r = from_given (parts a d) (λ o. with_value o (selected (defined_in a) a.home x.name (place a d))) o e in f r.0 r.1
    base_absent a k (ident z y) x o (Some j) q e f = name_absent a y k (known_package (meaning a y) j q)
    base_absent a k d x o (Some j) q e f = absurd (grind (arith, ap is_some q))

    left_absent : (a : Env) (d : Expr S) (ds : Exprs S) (b : Bool) (t : Target) → is_blank_name d ≡ b → (if b then Some blank else given (parts a d) (λ o. with_value o (target_at (place a d)))) ≡ Some t
        → ((o : Operand) → parts a d ≡ Some o → Absent n (used a d)) → Absent n (used_left a ds) → Absent n (used_left a (expr_and d ds))
    left_absent a (ident z y) ds b t q e f g = g
    left_absent a d ds false t q e f g = let r = from_given (parts a d) (λ o. with_value o (target_at (place a d))) t e in plainly d (f r.0 r.1)
      where
        plainly : (y : Expr S) → Absent n (used a y) → Absent n (used_left a (expr_and y ds))
        plainly (ident z y) h = g
        plainly y h = absent_both h g
    left_absent a d ds true t q e f g = absurd (grind (arith, q))

    keyed_absent : (a : Env) (u : GoType) (v : Value S) (o : Operand) (y : Element) → with_key a u (some_value v) o ≡ Some y
        → ((q : Operand) → element a (key_type (defined_in a) u) v ≡ Some q → Absent n (used_value a (key_type (defined_in a) u) v)) → Absent n (used_key a (Some u) (some_value v))
    keyed_absent a u v o y e f = go (is_struct u) e
      where
        go : (b : Bool) → (if b then given (field_key v) (λ n. Some (of_field n o)) else given (element a (key_type (defined_in a) u) v) (λ q. Some (keyed q o))) ≡ Some y → Absent n (if b then [] else used_value a (key_type (defined_in a) u) v)
        go true e = absent_none
        go false e = let r = from_given (element a (key_type (defined_in a) u) v) (λ q. Some (keyed q o)) y e in f r.0 r.1

    -- ---- the walk

    mutual
      pub expr_absent : (a : Env) → Away a → (d : Expr S) → NoneInExpr d → (o : Operand) → parts a d ≡ Some o → Absent n (used a d)
      expr_absent a k (ident z x) c o e = name_absent a x k (known_operand a (meaning a x) o e)
      expr_absent a k (int_lit z x) c o e = absent_none
      expr_absent a k (rune_lit z x) c o e = absent_none
      expr_absent a k (str_lit z x) c o e = absent_none
      expr_absent a k (composite z t es) c o e =
          let r = from_given (type_meant a t) (λ u. given (elements a (under (defined_in a) u) es) (built (defined_in a) a.home u)) o e in
          let y = from_given (elements a (under (defined_in a) r.0) es) (built (defined_in a) a.home r.0) o r.2 in
          absent_both (meant_absent a k t r.0 r.1)
          (subst (λ (w : Option GoType). Absent n (used_elems a (given w (λ u. Some (under (defined_in a) u))) es)) (sym r.1) (elems_absent a k (under (defined_in a) r.0) es c y.0 y.1))
      expr_absent a k (selector z d x) c o e = base_absent a k d x o (package_before a d) refl e (λ o h. expr_absent a k d c o h)
      expr_absent a k (index z d j) c o e =
          let r = from_both (parts a d) (parts a j) (λ o j. both (typed o) (typed j) (index_of (defined_in a))) o e in
          absent_both (expr_absent a k d c.0 r.0 r.2) (expr_absent a k j c.1 r.1 r.3)
      expr_absent a k (slice z d i j) c o e =
          let r = from_given (parts a d) (λ o. both (bound a i) (bound a j) (λ i j. with_value o (λ v. sliced (defined_in a) v i j))) o e in
          let y = from_both (bound a i) (bound a j) (λ i j. with_value r.0 (λ v. sliced (defined_in a) v i j)) o r.2 in
          absent_both (absent_both (expr_absent a k d c.0.0 r.0 r.1) (option_absent a k i c.0.1 y.0 y.2)) (option_absent a k j c.1 y.1 y.3)
      expr_absent a k (call z f xs y) c o e =
          let r = from_both (parts a f) (all_parts a xs) (call_of (defined_in a)) o e in
          absent_both (expr_absent a k f c.0 r.0 r.2) (all_absent a k xs c.1 r.1 r.3)
      expr_absent a k (func_lit z g s y) c o e =
          let lasts : (FuncType → Binds → Option Operand) = (λ f bs. only_if (is_body f y (stmts (body_ctx g f) (extend bs (in_block a)) false y)) (Some (a_function f))) in
          let r = from_given (func_type a g) (λ f. given (body_binds [] g f) (lasts f)) o e in
          let h = from_given (body_binds [] g r.0) (lasts r.0) o r.2 in
          let m = met (stmts (body_ctx g r.0) (extend h.0 (in_block a)) false y) (λ ends. (is_empty (r.0).results || ends) && distinct_by bytes_eq (labels_in y)) (passed (is_body r.0 y (stmts (body_ctx g r.0) (extend h.0 (in_block a)) false y)) (Some (a_function r.0)) o h.2) in
          let begins : stmts (body_ctx g r.0) (literal_env a g) false y ≡ Some m.0 =
          ap (λ (o : Option FuncType). stmts (body_ctx g r.0) (extend (binds_or (sig_names g) (given o (body_binds [] g))) (in_block a)) false y) r.1 ∙ ap (λ (o : Option Binds). stmts (body_ctx g r.0) (extend (binds_or (sig_names g) o) (in_block a)) false y) h.1 ∙ m.1 in
          absent_both (heads_absent a k g r.0 r.1) (absent_without (sig_names g) (stmts_absent (body_ctx g r.0) (literal_env a g) (behind (literal_binds a g) (in_block a) (after_heads n is_blank_so a g) k) false y c m.0 begins))
      expr_absent a k (type_operand z t) c o e = let r = from_given (type_meant a t) (λ u. Some (a_type u)) o e in meant_absent a k t r.0 r.1
      expr_absent a k (unary z op d) c o e = let r = from_given (parts a d) (unary_of (defined_in a) op (place a d)) o e in expr_absent a k d c r.0 r.1
      expr_absent a k (binary z op d j) c o e =
          let r = from_both (parts a d) (parts a j) (binary_of (defined_in a) op) o e in
          absent_both (expr_absent a k d c.0 r.0 r.2) (expr_absent a k j c.1 r.1 r.3)
      expr_absent a k (star z d) c o e = let r = from_given (parts a d) (star_of (defined_in a)) o e in expr_absent a k d c r.0 r.1

      all_absent : (a : Env) → Away a → (ds : Exprs S) → NoneInAll ds → (os : List Operand) → all_parts a ds ≡ Some os → Absent n (used_all a ds)
      all_absent a k no_exprs c os e = absent_none
      all_absent a k (expr_and d ds) c os e =
          let r = from_both (parts a d) (all_parts a ds) (λ o os. Some (o ∷ os)) os e in
          absent_both (expr_absent a k d c.0 r.0 r.2) (all_absent a k ds c.1 r.1 r.3)

      option_absent : (a : Env) → Away a → (d : ExprOption S) → NoneInOption d → (o : Option Typed) → bound a d ≡ Some o → Absent n (used_option a d)
      option_absent a k no_expr c o e = absent_none
      option_absent a k (some_expr d) c o e = let r = from_given (parts a d) (λ o. with_value o (λ v. Some (Some v))) o e in expr_absent a k d c r.0 r.1

      elems_absent : (a : Env) → Away a → (u : GoType) (es : Elems S) → NoneInElems es → (vs : List Element) → elements a u es ≡ Some vs → Absent n (used_elems a (Some u) es)
      elems_absent a k u no_elems c vs e = absent_none
      elems_absent a k u (elem z key v es) c vs e =
          let r = from_both (given (element a (inner_type (defined_in a) u) v) (λ o. with_key a u key o)) (elements a u es) (λ x xs. Some (x ∷ xs)) vs e in
          let y = from_given (element a (inner_type (defined_in a) u) v) (λ o. with_key a u key o) r.0 r.2 in
          absent_both (absent_both (key_absent a k u key c.0.0 y.0 r.0 y.2) (value_absent a k (inner_type (defined_in a) u) v c.0.1 y.0 y.1)) (elems_absent a k u es c.1 r.1 r.3)

      key_absent : (a : Env) → Away a → (u : GoType) (key : ValueOption S) → NoneInKey key → (o : Operand) (y : Element) → with_key a u key o ≡ Some y → Absent n (used_key a (Some u) key)
      key_absent a k u no_value c o y e = absent_none
      key_absent a k u (some_value v) c o y e = keyed_absent a u v o y e (λ q h. value_absent a k (key_type (defined_in a) u) v c q h)

      value_absent : (a : Env) → Away a → (t : Option GoType) (v : Value S) → NoneInValue v → (o : Operand) → element a t v ≡ Some o → Absent n (used_value a t v)
      value_absent a k t (plain d) c o e = expr_absent a k d c o e
      value_absent a k t (braced z es) c o e =
          let r = from_given t (λ t. given (elements a (under (defined_in a) (literal_type (defined_in a) t)) es) (built_inside (defined_in a) a.home t)) o e in
          let y = from_given (elements a (under (defined_in a) (literal_type (defined_in a) r.0)) es) (built_inside (defined_in a) a.home r.0) o r.2 in
          subst (λ (w : Option GoType). Absent n (used_elems a (given w (λ t. Some (under (defined_in a) (literal_type (defined_in a) t)))) es)) (sym r.1) (elems_absent a k (under (defined_in a) (literal_type (defined_in a) r.0)) es c y.0 y.1)

      stmt_absent : (x : Ctx) (a : Env) → Away a → (s : Stmt S) → NoneInStmt s → (e : Bool) → stmt x a s ≡ Some e → Absent n (used_stmt a s)
      stmt_absent x a k (const_decl z g ss) c e h = absurd c
      stmt_absent x a k (var_decl z g ss) c e h = let r = from_given (declares_variables a ss) (λ d. Some false) e h in specs_absent a k ss c r.0 r.1
      stmt_absent x a k (empty z) c e h = absent_none
      stmt_absent x a k (eval z d) c e h =
          let r = from_given (parts a d) (λ o. Some (is_panic a d)) e (from_only (is_call stands_alone a d) (given (parts a d) (λ o. Some (is_panic a d))) e h) in
          expr_absent a k d c r.0 r.1
      stmt_absent x a k (step z d up) c e h =
          let r = from_given (parts a d) (λ o. only_if (updates (defined_in a) (step_op up) (place a d ∷ []) (o ∷ []) (one_more ∷ [])) (Some false)) e h in
          expr_absent a k d c r.0 r.1
      stmt_absent x a k (assign z ls None ys) c e h =
          let test : (List Target → Bool) = (λ ts. meets (right_values a (length ts) (places a ys) (all_parts a ys)) (stores_all (defined_in a) ts)) in
          let r = from_given (targets a ls) (λ ts. only_if (test ts) (Some false)) e h in
          let y = met (right_values a (length r.0) (places a ys) (all_parts a ys)) (stores_all (defined_in a) r.0) (passed (test r.0) (Some false) e r.2) in
          let m = from_given (all_parts a ys) (assigned_values (defined_in a) (length r.0) (places a ys)) y.0 y.1 in
          absent_both (targets_absent a k ls c.0 r.0 r.1) (all_absent a k ys c.1 m.0 m.1)
      stmt_absent x a k (assign z ls (Some op) ys) c e h =
          let r = from_both (all_parts a ls) (all_parts a ys) (λ os qs. only_if (updates (defined_in a) op (places a ls) os qs) (Some false)) e h in
          absent_both (all_absent a k ls c.0 r.0 r.2) (all_absent a k ys c.1 r.1 r.3)
      stmt_absent x a k (define z ns ys) c e h =
          let vs : Option (List Typed) = right_values a (length ns) (places a ys) (all_parts a ys) in
          let r = from_given (new_by_define a (names_of ns) vs) (λ d. Some false) e h in
          let y = some_values a (names_of ns) vs r.0 r.1 in
          let m = from_given (all_parts a ys) (assigned_values (defined_in a) (length ns) (places a ys)) y.0 y.1 in
          all_absent a k ys c m.0 m.1
      stmt_absent x a k (return_ z xs) c e h = returned_absent x a k xs c (passed (returns x a xs (all_parts a xs)) (Some true) e h)
      stmt_absent x a k (break_ z y) c e h = absent_none
      stmt_absent x a k (continue_ z y) c e h = absent_none
      stmt_absent x a k (inner z y) c e h = stmts_absent x (in_block a) k false y c e h
      stmt_absent x a k (if_ z bs y) c e h =
          let r = from_given (arms x (in_block a) (λ k. used_block k y) (λ k. block x k y) bs) (λ ends. Some (has_last y && ends)) e h in
          arms_absent x (in_block a) k (λ k. used_block k y) (λ k. block x k y) (λ b j e h. block_absent x b j y c.1 e h) bs c.0 r.0 r.1
      stmt_absent x a k (for_ z i t q s y) c e h =
          let r : ForTyped x a i t q y = for_typed x a z i t q s y e h in
          let j : Away (behind_first (in_block a) i) = behind (first_binds (in_block a) i) (in_block a) (after_first n is_blank_so (in_block a) i) k in
          absent_both (first_absent x (in_block a) k i c.0.0.0 r.names r.begins)
          (absent_without (bound_names (first_binds (in_block a) i))
          (absent_both (absent_both (option_absent (behind_first (in_block a) i) j t c.0.0.1 r.test r.tested) (first_absent x (behind_first (in_block a) i) j q c.0.1 r.changed r.changes))
          (stmts_absent (in_loop x) (in_block (behind_first (in_block a) i)) j false y c.1 r.ends r.body)))
      stmt_absent x a k (range_ z l d s y) c e h =
          let r : RangeTyped x a l d y = range_typed x a z l d s y e h in
          absent_both (absent_both (range_absent a k l c.0.0 r.over r.left) (expr_absent a k d c.0.1 r.over r.over_is))
          (absent_without (bound_names (range_left_binds a d l))
          (stmts_absent (in_loop x) (in_block (extend (range_left_binds a d l) (in_block a))) (behind (range_left_binds a d l) (in_block a) (after_range n is_blank_so a d l) k) false y c.1 r.ends r.body))
      stmt_absent x a k (switch z i t cs) c e h =
          let r : SwitchTyped x a i t cs = switch_typed x a z i t cs e h in
          let j : Away (behind_first (in_block a) i) = behind (first_binds (in_block a) i) (in_block a) (after_first n is_blank_so (in_block a) i) k in
          absent_both (first_absent x (in_block a) k i c.0.0 r.names r.begins)
          (absent_without (bound_names (first_binds (in_block a) i))
          (absent_both (option_absent (behind_first (in_block a) i) j t c.0.1 r.test r.tested) (cases_absent (in_switch x) (behind_first (in_block a) i) j r.tag cs c.1 r.found r.clauses_are)))
      stmt_absent x a k (defer z d) c e h =
          let r = from_given (parts a d) (λ o. Some false) e (from_only (is_call may_be_deferred a d) (given (parts a d) (λ o. Some false)) e h) in
          expr_absent a k d c r.0 r.1
      stmt_absent x a k (label z m y) c e h =
          let lasts : (Bool → Option Bool) = (λ ends. Some (ends && not (breaks false (Some m.name) y))) in
          let r = from_given (stmt (labelled x m y) a y) lasts e (from_only (breaks true (Some m.name) y) (given (stmt (labelled x m y) a y) lasts) e h) in
          stmt_absent (labelled x m y) a k y c r.0 r.1

      pub stmts_absent : (x : Ctx) (a : Env) → Away a → (before : Bool) (y : Stmts S) → NoneInStmts y → (e : Bool) → stmts x a before y ≡ Some e → Absent n (used_stmts a y)
      stmts_absent x a k before no_stmts c e h = absent_none
      stmts_absent x a k before (stmt_and s ss) c e h =
          let r = from_both (stmt x a s) (declares a s) (λ ends d. only_if (all_used d.fresh (used_stmts (extend d.binds a) ss)) (stmts x (extend d.binds a) (if is_empty_stmt s then before else ends) ss)) e h in
          let m = from_only (all_used (r.1).fresh (used_stmts (extend (r.1).binds a) ss)) (stmts x (extend (r.1).binds a) (if is_empty_stmt s then before else r.0) ss) e r.4 in
          absent_both (stmt_absent x a k s c.0 r.0 r.2)
          (absent_without (bound_names (stmt_binds a s))
          (stmts_absent x (extend (stmt_binds a s) a) (behind (stmt_binds a s) a (after_stmt n is_blank_so a s) k) (if is_empty_stmt s then before else r.0) ss c.1 e
          (ap (λ (o : Option Declared). stmts x (extend (binds_of (declared s) o) a) (if is_empty_stmt s then before else r.0) ss) r.3 ∙ m)))

      first_absent : (x : Ctx) (a : Env) → Away a → (i : StmtOption S) → NoneInFirst i → (d : Declared) → first x a i ≡ Some d → Absent n (used_first a i)
      first_absent x a k no_stmt c d h = absent_none
      first_absent x a k (some_stmt s) c d h = let r = from_both (stmt x a s) (declares a s) (λ ends d. Some d) d h in stmt_absent x a k s c r.0 r.2

      block_absent : (x : Ctx) (a : Env) → Away a → (y : BlockOption S) → NoneInBlock y → (e : Bool) → block x a y ≡ Some e → Absent n (used_block a y)
      block_absent x a k no_block c e h = absent_none
      block_absent x a k (some_block z y) c e h = stmts_absent x (in_block a) k false y c e h

      range_absent : (a : Env) → Away a → (l : RangeLeft S) → NoneInLeft l → (o : Operand) → ranges a o l ≡ true → Absent n (used_range a l)
      range_absent a k nothing c o h = absent_none
      range_absent a k (assigns es) c o h =
          let r = met (typed o) (λ v. meets (targets a es) (range_assigns (defined_in a) v)) h in
          let y = met (targets a es) (range_assigns (defined_in a) r.0) r.2 in
          targets_absent a k es c y.0 y.1
      range_absent a k (defines ns) c o h = absent_none

      targets_absent : (a : Env) → Away a → (ds : Exprs S) → NoneInAll ds → (ts : List Target) → targets a ds ≡ Some ts → Absent n (used_left a ds)
      targets_absent a k no_exprs c ts e = absent_none
      targets_absent a k (expr_and d ds) c ts e =
          let r = from_both (if is_blank_name d then Some blank else given (parts a d) (λ o. with_value o (target_at (place a d)))) (targets a ds) (λ t ts. Some (t ∷ ts)) ts e in
          left_absent a d ds (is_blank_name d) r.0 refl r.2 (λ o h. expr_absent a k d c.0 o h) (targets_absent a k ds c.1 r.1 r.3)

      returned_absent : (x : Ctx) (a : Env) → Away a → (ds : Exprs S) → NoneInAll ds → returns x a ds (all_parts a ds) ≡ true → Absent n (used_all a ds)
      returned_absent x a k no_exprs c e = absent_none
      returned_absent x a k (expr_and d ds) c e =
          let m = met (all_parts a (expr_and d ds)) (λ os. takes_all (defined_in a) x.results (spread os)) e in
          let r = from_both (parts a d) (all_parts a ds) (λ o os. Some (o ∷ os)) m.0 m.1 in
          absent_both (expr_absent a k d c.0 r.0 r.2) (all_absent a k ds c.1 r.1 r.3)

      arms_absent : (x : Ctx) (a : Env) → Away a → (ul : Env → List (List ℕ)) (lasts : Env → Option Bool) → ((b : Env) → Away b → (e : Bool) → lasts b ≡ Some e → Absent n (ul b)) → (y : Arms S) → NoneInArms y → (e : Bool) → arms x a ul lasts y ≡ Some e → Absent n (used_arms a ul y)
      arms_absent x a k ul lasts f no_arms c e h = f a k e h
      arms_absent x a k ul lasts f (arm z i t s y bs) c e h =
          let r : ArmTyped x a ul lasts i t y bs = arm_typed x a ul lasts z i t s y bs e h in
          let j : Away (behind_first a i) = behind (first_binds a i) a (after_first n is_blank_so a i) k in
          absent_both (first_absent x a k i c.0.0.0 r.names r.begins)
          (absent_without (bound_names (first_binds a i))
          (absent_both (absent_both (expr_absent (behind_first a i) j t c.0.0.1 r.test r.tested) (stmts_absent x (in_block (behind_first a i)) j false y c.0.1 r.ends r.body))
          (arms_absent x (in_block (behind_first a i)) j ul lasts f bs c.1 r.others r.others_are)))

      cases_absent : (x : Ctx) (a : Env) → Away a → (tag : Typed) (y : Cases S) → NoneInCases y → (r : Clauses) → clauses x a tag y ≡ Some r → Absent n (used_cases a y)
      cases_absent x a k tag no_cases c r h = absent_none
      cases_absent x a k tag (case z es y cs) c r h =
          let m : CaseTyped x a tag es y cs = case_typed x a tag z es y cs r h in
          absent_both (absent_both (all_absent a k es c.0.0 m.values m.values_are) (stmts_absent x (in_block a) k false y c.0.1 m.ends m.body)) (cases_absent x a k tag cs c.1 m.others m.others_are)

      specs_absent : (a : Env) → Away a → (y : ValueSpecs S) → NoneInSpecs y → (d : Declared) → declares_variables a y ≡ Some d → Absent n (used_variables a y)
      specs_absent a k no_specs c d e = absent_none
      specs_absent a k (spec z ns t es ss) c d e =
          let vs : Option (List Typed) = right_values a (length ns) (places a es) (all_parts a es) in
          let o : Option Declared = new_variables a (names_of ns) (written_type a t) (no_values es) vs in
          let r = from_given o (λ d. given (declares_variables (extend d.binds a) ss) (λ e. Some (and_then (unused_after (used_variables (extend d.binds a) ss) d) e))) d e in
          let m = from_given (declares_variables (extend (r.0).binds a) ss) (λ e. Some (and_then (unused_after (used_variables (extend (r.0).binds a) ss) r.0) e)) d r.2 in
          let u = spec_type a (names_of ns) (written_type a t) (no_values es) vs r.0 r.1 in
          absent_both (absent_both (written_absent a k t u.0 u.1) (values_absent a k (length ns) es c.0 (variable_known a (names_of ns) (written_type a t) (no_values es) vs r.0 r.1)))
          (absent_without (bound_names (variable_binds a ns t es))
          (specs_absent (extend (variable_binds a ns t es) a) (behind (variable_binds a ns t es) a (after_variables n is_blank_so a ns t es) k) ss c.1 m.0 (ap (λ (o : Option Declared). declares_variables (extend (binds_of (names_of ns) o) a) ss) r.1 ∙ m.1)))

      values_absent : (a : Env) → Away a → (l : ℕ) (es : Exprs S) → NoneInAll es → (no_values es ≡ false → is_some (right_values a l (places a es) (all_parts a es)) ≡ true) → Absent n (used_all a es)
      values_absent a k l no_exprs c h = absent_none
      values_absent a k l (expr_and d ds) c h =
          let m = known_values (all_parts a (expr_and d ds)) (assigned_values (defined_in a) l (places a (expr_and d ds))) (h refl) in
          let r = from_both (parts a d) (all_parts a ds) (λ o os. Some (o ∷ os)) m.0 m.1 in
          absent_both (expr_absent a k d c.0 r.0 r.2) (all_absent a k ds c.1 r.1 r.3)
