-- A part has the same terms where the names that it looks up mean the same, and their variables are at the same locations.
use Rattle.std.specs.Prelude.{◌≡◌, refl, ℕ, suc, Bool, true, false, ◌||◌, List, [], ◌∷◌, ◌++◌, length, Option, Some, None, if◌then◌else◌, pos}
use Rattle.go_tree.specs.Tree.{Expr, ident, int_lit, rune_lit, str_lit, composite, selector, index, slice, call, func_lit, type_operand, unary, binary, star, Exprs, no_exprs, expr_and, ExprOption, no_expr, some_expr, Elems, no_elems, elem, Value, plain, braced, ValueOption, no_value, some_value, Stmt, const_decl, var_decl, empty, eval, step, assign, define, return_, break_, continue_, inner, if_, for_, range_, switch, defer, label, Stmts, no_stmts, stmt_and, StmtOption, no_stmt, some_stmt, BlockOption, no_block, some_block, RangeLeft, nothing, assigns, defines, Arms, no_arms, arm, Cases, no_cases, case, ValueSpecs, no_specs, spec}
use Rattle.go_tree.specs.declared.const_eval.kinds.Kind.TheVariants as kind
use Rattle.go_tree.specs.declared.const_eval.consts.Const.TheVariants.{Whole}
use Rattle.go_tree.specs.ConstEval.Exact.{number, text}
use Rattle.go_tree.specs.ConstEval.Literals.{integer_value, literal_value}
use Rattle.go_tree.specs.GoWords.Texts.{text_value}
use Rattle.go_tree.specs.ScopeNames.Means.{is_blank}
use Rattle.go_tree.specs.ScopeNames.FreeNames.{names_of, declared, declared_option, defined}
use Rattle.go_tree.specs.GoTypes.Answers.{given, meets}
use Rattle.go_tree.specs.GoTypes.Types.{GoType, basic, map_of, struct_of}
use Rattle.go_tree.specs.GoTypes.Defined.{under}
use Rattle.go_tree.specs.GoTypes.Entities.{run, Entity, Env, exported, Binds, extend, in_block, defined_in}
use Rattle.go_tree.specs.GoTypes.TypeNames.{written_type}
use Rattle.go_tree.specs.GoTypes.Operands.{Operand, a_type, named_operand, literal_operand, spread}
use Rattle.go_tree.specs.GoTypes.Literals.{is_struct, key_type, inner_type, literal_type}
use Rattle.go_tree.specs.GoTypes.Jumps.{is_breakable}
use Rattle.go_tree.specs.GoTypes.Statements.{body_binds, no_values}
use Rattle.go_tree.specs.GoTypes.Typing.{parts, all_parts, places, declares, declares_first, range_declares, binds_of, new_variables, right_values, step_op}
use Rattle.go_kernel.specs.Kernel as k
use Rattle.go_kernel.specs.Kernel.{Name, Truth, Checked, Load, Alloc, Slicing, MapGet, MapTry, Compare, Equal, in_cells, temporary, return_label, break_label, continue_label, Term, Vals, Local, Both, Prim, If, Let, Leave, Catch}
use Rattle.go_translation.specs.Values.{one_value, path_of, as_value, zero_of, typed_of}
use Rattle.go_translation.specs.Values as v
use Rattle.go_translation.specs.Mentions.{own_mentions, Mention, Read, mentions, mentions_option, mentions_first, mentions_stmts, mentions_block, mentions_arms, mentions_cases, mentions_specs}
use Rattle.go_translation.specs.Here.{Location, Here, defined_here, in_inner, declaring, new_cells, at_body, function_of}
use Rattle.go_translation.specs.Places.{nowhere, pointed, at_index, at_key, from, field_at, address_term, assignment, update}
use Rattle.go_translation.specs.Operators.{no_type, type_or, own_type, first_type, other_types, operand_list, constant_or, is_folded, is_folded_unary, folded, operator_term, left_type, right_type, is_recovered, recovered_term, unary_term}
use Rattle.go_translation.specs.Calls.{selected_field, is_pointer_value, struct_value, literal_term, is_map, keyed_term, inner_literal, Callee, to_literal, to_nothing, named_callee, type_callee, method_callee, callee_wants, call_term, defer_term, each_as}
use mathlib.Core.Path.{ap, sym, ◌∙◌, subst}
use Rattle.go_tree.specs.ScopeNames.Means.{Environment}
use Rattle.go_tree.specs.ScopeNames.FreeNames.{free_type, free_type_option, free_params, arms_declared}
use Rattle.go_tree.specs.GoTypes.Agreement.{with_names, On}
use Rattle.go_tree.proofs.GoTypes.Agreeing.{declares_cover, first_cover, range_cover, of_covers, literal_cover, new_variables_cover}
use Rattle.field_keys.proofs.Typing.{parts-alike, all_parts-alike, place-alike, range_declares-alike}
use Rattle.go_tree.specs.ScopeNames.FreeNames.{sig_names}
use Rattle.go_translation.specs.Agreement.{at_names, OnHere}
use Rattle.go_translation.specs.Here.{located}
use Rattle.go_translation.proofs.SmallAlike.{append_in_turn, or_each}
use Rattle.field_keys.proofs.Small.{package_before-alike, typed_at-alike, typed_option-alike, first_typed-alike, value_types-alike, target_types-alike, range_type-alike, element_place-alike, element_places-alike, binds_after-alike, binds_first-alike, spec_binds-alike, define_binds-alike}
use Rattle.go_translation.proofs.AgreeingHere.{on_left, on_right, kept_declaring, own_locals, kept_body}
use Rattle.field_keys.proofs.Here.{variable_below, below_inner, below_declaring, below_body, defined_types-below, old_stored-below}
use Rattle.field_keys.proofs.Mentioned.{own_mentions-alike, mentions-alike, mentions_option-alike, mentions_stmts-alike, mentions_first-alike, mentions_block-alike, mentions_arms-alike, mentions_cases-alike, mentions_specs-alike}
use Rattle.go_translation.specs.Mentions.{mentions, mentions_option, mentions_stmts, mentions_first, mentions_block, mentions_arms, mentions_cases, mentions_specs}
use Rattle.go_translation.specs.Statements.{RangeForm, return_term, loop_term, renewed, range_form, turn_values, range_term, new_names, variable_names, spec_types, tag_type, first_place, truth_type, int_type, update_type, element_type}
use Rattle.go_translation.specs.Names.{entity_root, entity_term, gives_two, first_value, element_of_map, index_op}
use Rattle.go_translation.specs.Facts.{label_option, has_bound, typed_option, value_types, count_exprs, range_type, element_place, literal_names, binds_after, binds_first, spec_binds}
use Rattle.go_translation.specs.Translation.{expr_term, args_term, values_term, try_term, option_term, elems_term, key_term, element_term, place_term, place_terms, address, callee, stmts_term, stmt_term, first_term, test_term, tag_term, block_term, arms_term, turn_term, cases_term, fits_term, default_term, deferred_term, specs_term}
use Rattle.field_keys.specs.Below.{AgreesBelow, AgreesHereBelow}
use Rattle.field_keys.specs.Looked.{type_above, under_above, under_inner, looked_expr, looked_exprs, looked_expr_option, looked_elems, looked_key, looked_value, looked_stmt, looked_stmts, looked_stmt_option, looked_block_option, looked_left, looked_arms, looked_cases, looked_specs}
use Rattle.field_keys.proofs.Below.{below_in_block, name_below, written_type-below, type_meant-below, func_type-below, Fits, unknown, known, fits_literal, fits_inside, fits_values, fits_keys}
use Rattle.field_keys.proofs.Only.{of_only, new_variables_only, declares_only, first_only, range_only, literal_only}
use Rattle.go_tree.specs.GoTypes.Defined.{Defined}

-- ---- types of literals within others

fits_or : {t u : Option GoType} → Fits t u → Fits t (Some (type_or no_type u))
fits_or unknown = unknown
fits_or (known {u = None}) = unknown
fits_or (known {u = Some x}) = known

fits_none : {t : Option GoType} (u : Option GoType) → Fits t None → Fits t u
fits_none u unknown = unknown
fits_none u known = unknown

fits_element : (ds : List Defined) (u : GoType) (i : ℕ) {t : Option GoType} → Fits t (inner_type ds u) → Fits t (Some (element_type ds u i))
fits_element ds (struct_of fs) i f = fits_none (Some (element_type ds (struct_of fs) i)) f
fits_element ds u i f = fits_or f

map_no_struct : (u : GoType) → is_map u ≡ true → is_struct u ≡ false
map_no_struct (map_of k t) e = refl
map_no_struct u e = absurd cc

-- keys of maps alone are evaluated
keyed_alike : (u : GoType) {k l r s : Term} → (is_map u ≡ true → k ≡ l) → r ≡ s → keyed_term u k r ≡ keyed_term u l s
keyed_alike u {k = k} {l = l} {r = r} {s = s} f e = by (is_map u) f
  where
    by : (b : Bool) → (b ≡ true → k ≡ l) → (if b then Both k r else r) ≡ (if b then Both l s else s)
    by true f = λ w. Both (f refl w) (e w)
    by false f = e

key_here : {S : Type 0} (top : Env) (h : Here) (m : Environment Entity) (l : Environment Location) (s : Option GoType) (k : Value S) (around : List (List ℕ)) {t u : Option GoType} → Fits t u → meets u is_struct ≡ false → OnHere (if meets t is_struct then [] else looked_value top around s k) h m l → OnHere (looked_value top around s k) h m l
key_here top h m l s k around unknown e o = o
key_here top h m l s k around known e o = subst (λ (b : Bool). OnHere (if b then [] else looked_value top around s k) h m l) e o

module _ {S : Type 0} {top : Env} where
  mutual
    pub expr_term-alike : (h : Here) (u : GoType) (v : Expr S) (nn : Environment Entity) (ll : Environment Location) (around : List (List ℕ)) → AgreesHereBelow top around h nn ll → OnHere (looked_expr top around v) h nn ll → expr_term h u v ≡ expr_term (at_names h nn ll) u v
    expr_term-alike h t (ident _ n) nn ll around gg oo = λ ww. entity_term h (path_of h.paths h.env.home) (variable_below n around h nn ll gg oo ww) t n (name_below n around h.env nn gg.names oo.0 ww)
    expr_term-alike h t (int_lit _ s) nn ll around gg oo = λ ww. constant_or (defined_here h) t (literal_operand kind.UntypedInt (number (pos (integer_value s)))) v.nothing
    expr_term-alike h t (rune_lit _ s) nn ll around gg oo = λ ww. constant_or (defined_here h) t (literal_operand kind.UntypedRune (literal_value s)) v.nothing
    expr_term-alike h t (str_lit _ s) nn ll around gg oo = λ ww. constant_or (defined_here h) t (literal_operand kind.UntypedStr (text (text_value s))) v.nothing
    expr_term-alike h t (composite _ u es) nn ll around gg oo =
        let us : List (List ℕ) = looked_elems top around (under_above top (type_above top around u)) es in let at : OnHere us h nn ll = on_right (free_type around u) us h nn ll oo in
        or_each v.nothing _ _ (type_meant-below h.env u nn around gg.names (on_left (free_type around u) us h nn ll oo).0) (λ w e. let y : GoType = under (defined_here h) w in
        let fits : Fits (under_above top (type_above top around u)) (Some y) = subst (λ o. Fits (under_above top (type_above top around u)) (given o (λ z. Some (under (defined_here h) z)))) e (fits_literal gg.names u) in
        λ ww. (literal_term (defined_here h) y (element_places-alike h.env y (under_above top (type_above top around u)) fits 0 es nn around gg.names at.0 ww) (elems_term-alike h y (under_above top (type_above top around u)) fits 0 es nn ll around gg at ww)))
    expr_term-alike h t (selector _ b n) nn ll around gg oo = λ ww. elim ((package_before-alike h.env b nn around gg.names oo.0 ww)) [
      | Some p ↦ entity_term h (path_of h.paths p) None t n.name (exported h.env.world p n.name)
      | None ↦ Prim (k.Field (selected_field (defined_here h) h.env.home n.name ((typed_at-alike h.env b nn around gg.names oo.0 ww)))) (struct_value (is_pointer_value (defined_here h) ((typed_at-alike h.env b nn around gg.names oo.0 ww))) ((expr_term-alike h no_type b nn ll around gg oo ww)))
    ]
    expr_term-alike h t (index _ b i) nn ll around gg oo = λ ww. elim (element_of_map (defined_here h) ((typed_at-alike h.env b nn around gg.names ((on_left (looked_expr top around b) (looked_expr top around i) h nn ll oo)).0 ww))) [
      | Some q ↦ Prim (MapGet (zero_of (defined_here h) q.1)) (Both ((expr_term-alike h no_type b nn ll around gg (on_left (looked_expr top around b) (looked_expr top around i) h nn ll oo) ww)) ((expr_term-alike h q.0 i nn ll around gg (on_right (looked_expr top around b) (looked_expr top around i) h nn ll oo) ww)))
      | None ↦ Prim (index_op (defined_here h) ((typed_at-alike h.env b nn around gg.names ((on_left (looked_expr top around b) (looked_expr top around i) h nn ll oo)).0 ww))) (Both ((expr_term-alike h (basic kind.Str) b nn ll around gg (on_left (looked_expr top around b) (looked_expr top around i) h nn ll oo) ww)) ((expr_term-alike h int_type i nn ll around gg (on_right (looked_expr top around b) (looked_expr top around i) h nn ll oo) ww)))
    ]
    expr_term-alike h t (slice _ b i j) nn ll around gg oo = λ ww. Prim (Slicing (has_bound i) (has_bound j)) (Both ((expr_term-alike h (basic kind.Str) b nn ll around gg (on_left (looked_expr top around b) (looked_expr_option top around i) h nn ll (on_left (looked_expr top around b ++ looked_expr_option top around i) (looked_expr_option top around j) h nn ll oo)) ww)) (Both ((option_term-alike h int_type i nn ll around gg (on_right (looked_expr top around b) (looked_expr_option top around i) h nn ll (on_left (looked_expr top around b ++ looked_expr_option top around i) (looked_expr_option top around j) h nn ll oo)) ww)) ((option_term-alike h int_type j nn ll around gg (on_right (looked_expr top around b ++ looked_expr_option top around i) (looked_expr_option top around j) h nn ll oo) ww))))
    expr_term-alike h t (call _ f xs _) nn ll around gg oo = λ ww. let c : Callee = (callee-alike h f nn ll around gg (on_left (looked_expr top around f) (looked_exprs top around xs) h nn ll oo) ww) in
        let os : List Operand = operand_list ((all_parts-alike h.env xs nn around gg.names ((on_right (looked_expr top around f) (looked_exprs top around xs) h nn ll oo)).0 ww)) in
        call_term h.paths (defined_here h) c os ((args_term-alike h (callee_wants (defined_here h) c (spread os)) xs nn ll around gg (on_right (looked_expr top around f) (looked_exprs top around xs) h nn ll oo) ww))
    expr_term-alike h t (func_lit _ g _ b) nn ll around gg oo = λ ww. v.nothing
    expr_term-alike h t (type_operand _ u) nn ll around gg oo = λ ww. v.nothing
    expr_term-alike h t (unary s op e) nn ll around gg oo = λ ww. folded (is_folded_unary op) (defined_here h) t ((parts-alike h.env (unary s op e) nn around gg.names oo.0 ww)) (unary_term (defined_here h) op (own_type t ((typed_at-alike h.env e nn around gg.names oo.0 ww))) ((expr_term-alike h t e nn ll around gg oo ww)) ((address-alike h e nn ll around gg oo ww)))
    expr_term-alike h t (binary s op x y) nn ll around gg oo = λ ww. if is_recovered ((parts-alike h.env x nn around gg.names ((on_left (looked_expr top around x) (looked_expr top around y) h nn ll oo)).0 ww)) || is_recovered ((parts-alike h.env y nn around gg.names ((on_right (looked_expr top around x) (looked_expr top around y) h nn ll oo)).0 ww)) then recovered_term op
        else folded (is_folded op ((typed_at-alike h.env x nn around gg.names ((on_left (looked_expr top around x) (looked_expr top around y) h nn ll oo)).0 ww)) ((typed_at-alike h.env y nn around gg.names ((on_right (looked_expr top around x) (looked_expr top around y) h nn ll oo)).0 ww))) (defined_here h) t ((parts-alike h.env (binary s op x y) nn around gg.names oo.0 ww))
        (operator_term (defined_here h) op (left_type (defined_here h) op t ((typed_at-alike h.env x nn around gg.names ((on_left (looked_expr top around x) (looked_expr top around y) h nn ll oo)).0 ww)) ((typed_at-alike h.env y nn around gg.names ((on_right (looked_expr top around x) (looked_expr top around y) h nn ll oo)).0 ww))) ((typed_at-alike h.env y nn around gg.names ((on_right (looked_expr top around x) (looked_expr top around y) h nn ll oo)).0 ww))
        ((expr_term-alike h (left_type (defined_here h) op t ((typed_at-alike h.env x nn around gg.names ((on_left (looked_expr top around x) (looked_expr top around y) h nn ll oo)).0 ww)) ((typed_at-alike h.env y nn around gg.names ((on_right (looked_expr top around x) (looked_expr top around y) h nn ll oo)).0 ww))) x nn ll around gg (on_left (looked_expr top around x) (looked_expr top around y) h nn ll oo) ww)) ((expr_term-alike h (right_type (defined_here h) op t ((typed_at-alike h.env x nn around gg.names ((on_left (looked_expr top around x) (looked_expr top around y) h nn ll oo)).0 ww)) ((typed_at-alike h.env y nn around gg.names ((on_right (looked_expr top around x) (looked_expr top around y) h nn ll oo)).0 ww))) y nn ll around gg (on_right (looked_expr top around x) (looked_expr top around y) h nn ll oo) ww)))
    expr_term-alike h t (star _ e) nn ll around gg oo = λ ww. Prim (Load Checked) ((expr_term-alike h no_type e nn ll around gg oo ww))

    pub args_term-alike : (h : Here) (u : List GoType) (v : Exprs S) (nn : Environment Entity) (ll : Environment Location) (around : List (List ℕ)) → AgreesHereBelow top around h nn ll → OnHere (looked_exprs top around v) h nn ll → args_term h u v ≡ args_term (at_names h nn ll) u v
    args_term-alike h ts no_exprs nn ll around gg oo = λ ww. v.nothing
    args_term-alike h ts (expr_and e es) nn ll around gg oo = λ ww. Both ((expr_term-alike h (first_type ts) e nn ll around gg (on_left (looked_expr top around e) (looked_exprs top around es) h nn ll oo) ww)) ((args_term-alike h (other_types ts) es nn ll around gg (on_right (looked_expr top around e) (looked_exprs top around es) h nn ll oo) ww))

    pub values_term-alike : (h : Here) (u : List GoType) (v : Exprs S) (nn : Environment Entity) (ll : Environment Location) (around : List (List ℕ)) → AgreesHereBelow top around h nn ll → OnHere (looked_exprs top around v) h nn ll → values_term h u v ≡ values_term (at_names h nn ll) u v
    values_term-alike h ts no_exprs nn ll around gg oo = λ ww. v.nothing
    values_term-alike h ts (expr_and e es) nn ll around gg oo = λ ww. first_value (gives_two ts ((place-alike h.env e nn around gg.names ((on_left (looked_expr top around e) (looked_exprs top around es) h nn ll oo)).0 ww)) (no_values es)) (no_values es) ((expr_term-alike h (first_type ts) e nn ll around gg (on_left (looked_expr top around e) (looked_exprs top around es) h nn ll oo) ww)) ((try_term-alike h e nn ll around gg (on_left (looked_expr top around e) (looked_exprs top around es) h nn ll oo) ww)) ((values_term-alike h (other_types ts) es nn ll around gg (on_right (looked_expr top around e) (looked_exprs top around es) h nn ll oo) ww))

    pub try_term-alike : (h : Here) (u : Expr S) (nn : Environment Entity) (ll : Environment Location) (around : List (List ℕ)) → AgreesHereBelow top around h nn ll → OnHere (looked_expr top around u) h nn ll → try_term h u ≡ try_term (at_names h nn ll) u
    try_term-alike h (index _ b i) nn ll around gg oo = λ ww. elim (element_of_map (defined_here h) ((typed_at-alike h.env b nn around gg.names ((on_left (looked_expr top around b) (looked_expr top around i) h nn ll oo)).0 ww))) [ Some q ↦ Prim (MapTry (zero_of (defined_here h) q.1)) (Both ((expr_term-alike h no_type b nn ll around gg (on_left (looked_expr top around b) (looked_expr top around i) h nn ll oo) ww)) ((expr_term-alike h q.0 i nn ll around gg (on_right (looked_expr top around b) (looked_expr top around i) h nn ll oo) ww))) | None ↦ v.nothing ]
    try_term-alike h e nn ll around gg oo = λ ww. v.nothing

    pub option_term-alike : (h : Here) (u : GoType) (v : ExprOption S) (nn : Environment Entity) (ll : Environment Location) (around : List (List ℕ)) → AgreesHereBelow top around h nn ll → OnHere (looked_expr_option top around v) h nn ll → option_term h u v ≡ option_term (at_names h nn ll) u v
    option_term-alike h t no_expr nn ll around gg oo = λ ww. v.nothing
    option_term-alike h t (some_expr e) nn ll around gg oo = λ ww. (expr_term-alike h t e nn ll around gg oo ww)

    pub elems_term-alike : (h : Here) (u : GoType) (t : Option GoType) → Fits t (Some u) → (v : ℕ) (x : Elems S) (nn : Environment Entity) (ll : Environment Location) (around : List (List ℕ)) → AgreesHereBelow top around h nn ll → OnHere (looked_elems top around t x) h nn ll → elems_term h u v x ≡ elems_term (at_names h nn ll) u v x
    elems_term-alike h u t f i no_elems nn ll around gg oo = λ ww. v.nothing
    elems_term-alike h u t f i (elem _ k x es) nn ll around gg oo =
        let ks : List (List ℕ) = looked_key top around t k in let vs : List (List ℕ) = looked_value top around (given t (inner_type (defined_in top))) x in let rest : List (List ℕ) = looked_elems top around t es in
        let front : OnHere (ks ++ vs) h nn ll = on_left (ks ++ vs) rest h nn ll oo in let own : OnHere ks h nn ll = on_left ks vs h nn ll front in
        let at : element_place h.env u i k ≡ element_place (with_names h.env nn) u i k = element_place-alike h.env u t f i k nn around gg.names own.0 in
        keyed_alike u (λ e. key_term-alike h u t f e k nn ll around gg own)
        (λ ww. Both
        ((element_term-alike h (element_type (defined_here h) u (element_place h.env u i k)) (given t (inner_type (defined_in top))) (fits_element (defined_here h) u (element_place h.env u i k) (fits_values gg.names f)) x nn ll around gg (on_right ks vs h nn ll front)
        ∙ ap (λ p. element_term (at_names h nn ll) (element_type (defined_here h) u p) x) at) ww) (elems_term-alike h u t f (suc (at ww)) es nn ll around gg (on_right (ks ++ vs) rest h nn ll oo) ww))

    pub key_term-alike : (h : Here) (u : GoType) (t : Option GoType) → Fits t (Some u) → is_map u ≡ true → (v : ValueOption S) (nn : Environment Entity) (ll : Environment Location) (around : List (List ℕ)) → AgreesHereBelow top around h nn ll → OnHere (looked_key top around t v) h nn ll → key_term h (key_type (defined_here h) u) v ≡ key_term (at_names h nn ll) (key_type (defined_here h) u) v
    key_term-alike h u t f e no_value nn ll around gg oo = λ ww. v.nothing
    key_term-alike h u t f e (some_value x) nn ll around gg oo =
        element_term-alike h (type_or no_type (key_type (defined_here h) u)) (given t (key_type (defined_in top))) (fits_or (fits_keys gg.names f)) x nn ll around gg (key_here top h nn ll (given t (key_type (defined_in top))) x around f (map_no_struct u e) oo)

    pub element_term-alike : (h : Here) (u : GoType) (t : Option GoType) → Fits t (Some u) → (v : Value S) (nn : Environment Entity) (ll : Environment Location) (around : List (List ℕ)) → AgreesHereBelow top around h nn ll → OnHere (looked_value top around t v) h nn ll → element_term h u v ≡ element_term (at_names h nn ll) u v
    element_term-alike h u t f (plain e) nn ll around gg oo = expr_term-alike h u e nn ll around gg oo
    element_term-alike h u t f (braced _ es) nn ll around gg oo =
        let y : GoType = under (defined_here h) (literal_type (defined_here h) u) in let fits : Fits (under_inner top t) (Some y) = fits_inside gg.names f in
        λ ww. inner_literal (defined_here h) u (literal_term (defined_here h) y (element_places-alike h.env y (under_inner top t) fits 0 es nn around gg.names oo.0 ww) (elems_term-alike h y (under_inner top t) fits 0 es nn ll around gg oo ww))

    pub place_term-alike : (h : Here) (u : Expr S) (nn : Environment Entity) (ll : Environment Location) (around : List (List ℕ)) → AgreesHereBelow top around h nn ll → OnHere (looked_expr top around u) h nn ll → place_term h u ≡ place_term (at_names h nn ll) u
    place_term-alike h (ident _ n) nn ll around gg oo = λ ww. from (if is_blank n then nowhere else entity_root (path_of h.paths h.env.home) (variable_below n around h nn ll gg oo ww) n (name_below n around h.env nn gg.names oo.0 ww))
    place_term-alike h (selector _ b n) nn ll around gg oo = λ ww. elim ((package_before-alike h.env b nn around gg.names oo.0 ww)) [
      | Some p ↦ from (entity_root (path_of h.paths p) None n.name (exported h.env.world p n.name))
      | None ↦ field_at (selected_field (defined_here h) h.env.home n.name ((typed_at-alike h.env b nn around gg.names oo.0 ww))) (if is_pointer_value (defined_here h) ((typed_at-alike h.env b nn around gg.names oo.0 ww)) then from (pointed ((expr_term-alike h no_type b nn ll around gg oo ww))) else (place_term-alike h b nn ll around gg oo ww))
    ]
    place_term-alike h (index _ b i) nn ll around gg oo = λ ww. elim (element_of_map (defined_here h) ((typed_at-alike h.env b nn around gg.names ((on_left (looked_expr top around b) (looked_expr top around i) h nn ll oo)).0 ww))) [
      | Some q ↦ from (at_key (zero_of (defined_here h) q.1) (Both ((expr_term-alike h no_type b nn ll around gg (on_left (looked_expr top around b) (looked_expr top around i) h nn ll oo) ww)) ((expr_term-alike h q.0 i nn ll around gg (on_right (looked_expr top around b) (looked_expr top around i) h nn ll oo) ww))))
      | None ↦ from (at_index (Both ((expr_term-alike h no_type b nn ll around gg (on_left (looked_expr top around b) (looked_expr top around i) h nn ll oo) ww)) ((expr_term-alike h int_type i nn ll around gg (on_right (looked_expr top around b) (looked_expr top around i) h nn ll oo) ww))))
    ]
    place_term-alike h (star _ e) nn ll around gg oo = λ ww. from (pointed ((expr_term-alike h no_type e nn ll around gg oo ww)))
    place_term-alike h e nn ll around gg oo = λ ww. from nowhere

    pub place_terms-alike : (h : Here) (u : Exprs S) (nn : Environment Entity) (ll : Environment Location) (around : List (List ℕ)) → AgreesHereBelow top around h nn ll → OnHere (looked_exprs top around u) h nn ll → place_terms h u ≡ place_terms (at_names h nn ll) u
    place_terms-alike h no_exprs nn ll around gg oo = λ ww. []
    place_terms-alike h (expr_and e es) nn ll around gg oo = λ ww. (place_term-alike h e nn ll around gg (on_left (looked_expr top around e) (looked_exprs top around es) h nn ll oo) ww) ∷ (place_terms-alike h es nn ll around gg (on_right (looked_expr top around e) (looked_exprs top around es) h nn ll oo) ww)

    pub address-alike : (h : Here) (u : Expr S) (nn : Environment Entity) (ll : Environment Location) (around : List (List ℕ)) → AgreesHereBelow top around h nn ll → OnHere (looked_expr top around u) h nn ll → address h u ≡ address (at_names h nn ll) u
    address-alike h (composite _ u es) nn ll around gg oo =
        let us : List (List ℕ) = looked_elems top around (under_above top (type_above top around u)) es in let at : OnHere us h nn ll = on_right (free_type around u) us h nn ll oo in
        or_each v.nothing _ _ (type_meant-below h.env u nn around gg.names (on_left (free_type around u) us h nn ll oo).0) (λ w e. let y : GoType = under (defined_here h) w in
        let fits : Fits (under_above top (type_above top around u)) (Some y) = subst (λ o. Fits (under_above top (type_above top around u)) (given o (λ z. Some (under (defined_here h) z)))) e (fits_literal gg.names u) in
        λ ww. Prim Alloc (literal_term (defined_here h) y (element_places-alike h.env y (under_above top (type_above top around u)) fits 0 es nn around gg.names at.0 ww) (elems_term-alike h y (under_above top (type_above top around u)) fits 0 es nn ll around gg at ww)))
    address-alike h (ident _ n) nn ll around gg oo = λ ww. address_term (from (if is_blank n then nowhere else entity_root (path_of h.paths h.env.home) (variable_below n around h nn ll gg oo ww) n (name_below n around h.env nn gg.names oo.0 ww)))
    address-alike h (selector _ b n) nn ll around gg oo = λ ww. elim ((package_before-alike h.env b nn around gg.names oo.0 ww)) [
      | Some p ↦ address_term (from (entity_root (path_of h.paths p) None n.name (exported h.env.world p n.name)))
      | None ↦ address_term (field_at (selected_field (defined_here h) h.env.home n.name ((typed_at-alike h.env b nn around gg.names oo.0 ww))) (if is_pointer_value (defined_here h) ((typed_at-alike h.env b nn around gg.names oo.0 ww)) then from (pointed ((expr_term-alike h no_type b nn ll around gg oo ww))) else (place_term-alike h b nn ll around gg oo ww)))
    ]
    address-alike h (index _ b i) nn ll around gg oo = λ ww. address_term (from (at_index (Both ((expr_term-alike h no_type b nn ll around gg (on_left (looked_expr top around b) (looked_expr top around i) h nn ll oo) ww)) ((expr_term-alike h int_type i nn ll around gg (on_right (looked_expr top around b) (looked_expr top around i) h nn ll oo) ww)))))
    address-alike h (star _ e) nn ll around gg oo = λ ww. address_term (from (pointed ((expr_term-alike h no_type e nn ll around gg oo ww))))
    address-alike h e nn ll around gg oo = λ ww. v.nothing

    pub callee-alike : (h : Here) (u : Expr S) (nn : Environment Entity) (ll : Environment Location) (around : List (List ℕ)) → AgreesHereBelow top around h nn ll → OnHere (looked_expr top around u) h nn ll → callee h u ≡ callee (at_names h nn ll) u
    callee-alike h (ident _ n) nn ll around gg oo = λ ww. named_callee (path_of h.paths h.env.home) n (named_operand h.env (name_below n around h.env nn gg.names oo.0 ww))
    callee-alike h (selector _ b n) nn ll around gg oo = λ ww. elim ((package_before-alike h.env b nn around gg.names oo.0 ww)) [
      | Some p ↦ named_callee (path_of h.paths p) n.name (named_operand h.env (exported h.env.world p n.name))
      | None ↦ method_callee h.paths (defined_here h) n.name ((typed_at-alike h.env b nn around gg.names oo.0 ww)) ((expr_term-alike h no_type b nn ll around gg oo ww)) ((address-alike h b nn ll around gg oo ww))
    ]
    callee-alike h (func_lit _ s _ b) nn ll around gg oo =
        or_each to_nothing _ _ (func_type-below h.env s nn around gg.names (on_left (free_params around s.params) (free_params around s.results) h nn ll (on_left (free_params around s.params ++ free_params around s.results) (looked_stmts top (sig_names s ++ around) b) h nn ll oo)).0 (on_right (free_params around s.params) (free_params around s.results) h nn ll (on_left (free_params around s.params ++ free_params around s.results) (looked_stmts top (sig_names s ++ around) b) h nn ll oo)).0) (λ f e. or_each to_nothing _ _ refl (λ bs d.
        let us : List Mention = mentions_stmts (extend bs (in_block h.env)) b in
        let qq : AgreesHereBelow top (sig_names s ++ around) (at_body h bs (literal_names s f) us) (bs ++ nn) (own_locals s f us ++ ll) = below_body s f around bs us h nn ll d (literal_cover h.env (in_block h.env) s bs (ap (λ r. given r (body_binds [] s)) e ∙ d)) (literal_only h.env (in_block h.env) s bs (ap (λ r. given r (body_binds [] s)) e ∙ d)) gg in
        (λ ww. to_literal (function_of h (literal_names s f) us (stmts_term-alike (at_body h bs (literal_names s f) us) b (bs ++ nn) (own_locals s f us ++ ll) (sig_names s ++ around) qq (kept_body (looked_stmts top (sig_names s ++ around) b) s f bs us h nn ll (on_right (free_params around s.params ++ free_params around s.results) (looked_stmts top (sig_names s ++ around) b) h nn ll oo)) ww)) f.params)
        ∙ ap (λ u. to_literal (function_of (at_names h nn ll) (literal_names s f) u (stmts_term (at_body (at_names h nn ll) bs (literal_names s f) u) b)) f.params)
        (mentions_stmts-alike (extend bs (in_block h.env)) b (bs ++ nn) (sig_names s ++ around) qq.names (kept_body (looked_stmts top (sig_names s ++ around) b) s f bs us h nn ll (on_right (free_params around s.params ++ free_params around s.results) (looked_stmts top (sig_names s ++ around) b) h nn ll oo)).0)))
    callee-alike h (type_operand _ u) nn ll around gg oo = λ ww. type_callee (given ((type_meant-below h.env u nn around gg.names oo.0 ww)) (λ u. Some (a_type u)))
    callee-alike h (star s e) nn ll around gg oo = λ ww. type_callee ((parts-alike h.env (star s e) nn around gg.names oo.0 ww))
    callee-alike h e nn ll around gg oo = λ ww. to_nothing

    pub stmts_term-alike : (h : Here) (u : Stmts S) (nn : Environment Entity) (ll : Environment Location) (around : List (List ℕ)) → AgreesHereBelow top around h nn ll → OnHere (looked_stmts top around u) h nn ll → stmts_term h u ≡ stmts_term (at_names h nn ll) u
    stmts_term-alike h no_stmts nn ll around gg oo = λ ww. v.nothing
    stmts_term-alike h (stmt_and s ss) nn ll around gg oo =
        let bs : Binds = binds_after h.env s in
        let us : List Mention = own_mentions h.env s ++ mentions_stmts (extend bs h.env) ss in
        let q : Here = declaring bs us h in let mm : Environment Entity = bs ++ nn in let kk : Environment Location = located us bs ++ ll in
        let qq : AgreesHereBelow top (declared s ++ around) q mm kk = below_declaring (declared s) around bs us h nn ll (of_covers (declared s) (declares h.env s) h.env (declares_cover s h.env)) (of_only (declared s) (declares h.env s) h.env (declares_only s h.env)) gg in
        (λ ww. stmt_term-alike h None us s (stmts_term-alike q ss mm kk (declared s ++ around) qq (kept_declaring (looked_stmts top (declared s ++ around) ss) bs us h nn ll (on_right (looked_stmt top around s) (looked_stmts top (declared s ++ around) ss) h nn ll oo)) ww) nn ll around gg (on_left (looked_stmt top around s) (looked_stmts top (declared s ++ around) ss) h nn ll oo) ww)
        ∙ ap (λ u. stmt_term (at_names h nn ll) None u s (stmts_term (declaring bs u (at_names h nn ll)) ss)) (λ ww. own_mentions-alike h.env s nn around gg.names (on_left (looked_stmt top around s) (looked_stmts top (declared s ++ around) ss) h nn ll oo).0 ww ++ mentions_stmts-alike (extend bs h.env) ss mm (declared s ++ around) qq.names (kept_declaring (looked_stmts top (declared s ++ around) ss) bs us h nn ll (on_right (looked_stmt top around s) (looked_stmts top (declared s ++ around) ss) h nn ll oo)).0 ww)
        ∙ ap (λ b_. let u : List Mention = own_mentions (at_names h nn ll).env s ++ mentions_stmts (extend b_ ((at_names h nn ll)).env) ss in stmt_term (at_names h nn ll) None u s (stmts_term (declaring b_ u (at_names h nn ll)) ss)) (binds_after-alike h.env s nn around gg.names (on_left (looked_stmt top around s) (looked_stmts top (declared s ++ around) ss) h nn ll oo).0)

    pub stmt_term-alike : (h : Here) (u : Option (List ℕ)) (v : List Mention) (x : Stmt S) (y : Term) (nn : Environment Entity) (ll : Environment Location) (around : List (List ℕ)) → AgreesHereBelow top around h nn ll → OnHere (looked_stmt top around x) h nn ll → stmt_term h u v x y ≡ stmt_term (at_names h nn ll) u v x y
    stmt_term-alike h l ms (const_decl _ _ ss) rest nn ll around gg oo = λ ww. rest
    stmt_term-alike h l ms (var_decl _ _ ss) rest nn ll around gg oo = λ ww. (specs_term-alike h ms ss rest nn ll around gg oo ww)
    stmt_term-alike h l ms (empty _) rest nn ll around gg oo = λ ww. rest
    stmt_term-alike h l ms (eval _ e) rest nn ll around gg oo = λ ww. Let [] ((expr_term-alike h no_type e nn ll around gg oo ww)) rest
    stmt_term-alike h l ms (step _ e up) rest nn ll around gg oo = λ ww. let t : GoType = own_type no_type ((typed_at-alike h.env e nn around gg.names oo.0 ww)) in
        Let [] (update ((place_term-alike h e nn ll around gg oo ww)) (λ x. operator_term (defined_here h) (step_op up) t (Some (t, run)) x (one_value (as_value (defined_here h) t (Whole (pos 1)))))) rest
    stmt_term-alike h l ms (assign _ ls None rs) rest nn ll around gg oo = λ ww. Let [] (assignment 0 ((place_terms-alike h ls nn ll around gg (on_left (looked_exprs top around ls) (looked_exprs top around rs) h nn ll oo) ww)) ((values_term-alike h ((target_types-alike h.env ls ((value_types-alike h.env (count_exprs ls) rs nn around gg.names ((on_right (looked_exprs top around ls) (looked_exprs top around rs) h nn ll oo)).0 ww)) nn around gg.names ((on_left (looked_exprs top around ls) (looked_exprs top around rs) h nn ll oo)).0 ww)) rs nn ll around gg (on_right (looked_exprs top around ls) (looked_exprs top around rs) h nn ll oo) ww))) rest
    stmt_term-alike h l ms (assign _ ls (Some op) rs) rest nn ll around gg oo = λ ww. let t : GoType = own_type no_type ((first_typed-alike h.env ls nn around gg.names ((on_left (looked_exprs top around ls) (looked_exprs top around rs) h nn ll oo)).0 ww)) in
        Let [] (update (first_place ((place_terms-alike h ls nn ll around gg (on_left (looked_exprs top around ls) (looked_exprs top around rs) h nn ll oo) ww))) (λ x. operator_term (defined_here h) op t ((first_typed-alike h.env rs nn around gg.names ((on_right (looked_exprs top around ls) (looked_exprs top around rs) h nn ll oo)).0 ww)) x ((values_term-alike h (update_type (defined_here h) op t ((first_typed-alike h.env rs nn around gg.names ((on_right (looked_exprs top around ls) (looked_exprs top around rs) h nn ll oo)).0 ww)) ∷ []) rs nn ll around gg (on_right (looked_exprs top around ls) (looked_exprs top around rs) h nn ll oo) ww)))) rest
    stmt_term-alike h l ms (define _ ns rs) rest nn ll around gg oo =
        λ ww. Let (new_names h.env 0 (names_of ns)) (values_term-alike h (defined_types-below h.env (names_of ns) (value_types-alike h.env (length ns) rs nn around gg.names oo.0 ww) nn around gg.names ww) rs nn ll around gg oo ww)
        (old_stored-below h 0 (names_of ns) (in_cells (new_cells (define_binds-alike h.env ns rs nn around gg.names oo.0 ww) ms) rest) nn ll around gg ww)
    stmt_term-alike h l ms (return_ _ es) rest nn ll around gg oo = λ ww. if no_values es then Leave return_label else return_term h.results ((values_term-alike h h.types es nn ll around gg oo ww))
    stmt_term-alike h l ms (break_ _ n) rest nn ll around gg oo = λ ww. Leave (break_label (label_option n))
    stmt_term-alike h l ms (continue_ _ n) rest nn ll around gg oo = λ ww. Leave (continue_label (label_option n))
    stmt_term-alike h l ms (inner _ b) rest nn ll around gg oo = λ ww. Let [] ((stmts_term-alike (in_inner h) b nn ll around (below_inner gg) oo ww)) rest
    stmt_term-alike h l ms (if_ _ bs last) rest nn ll around gg oo = λ ww. Let [] (arms_term-alike (in_inner h) (λ e. mentions_block e last) (λ q. block_term q last) bs nn ll around (looked_block_option top (arms_declared bs ++ around) last) (below_inner gg) (on_left (looked_arms top around bs) (looked_block_option top (arms_declared bs ++ around) last) h nn ll oo) (on_right (looked_arms top around bs) (looked_block_option top (arms_declared bs ++ around) last) h nn ll oo)
        (λ k l q r. mentions_block-alike k last l (arms_declared bs ++ around) q r) (λ k m l q r. block_term-alike k last m l (arms_declared bs ++ around) q r) ww) rest
    stmt_term-alike h l ms (for_ _ i t p _ b) rest nn ll around gg oo =
        let bs : Binds = binds_first (in_block h.env) i in
        let us : List Mention = mentions_option (extend bs (in_block h.env)) t ++ mentions_first (extend bs (in_block h.env)) p ++ mentions_stmts (in_block (extend bs (in_block h.env))) b in
        let q : Here = declaring bs us (in_inner h) in let mm : Environment Entity = bs ++ nn in let kk : Environment Location = located us bs ++ ll in
        let qq : AgreesHereBelow top (declared_option i ++ around) q mm kk = below_declaring (declared_option i) around bs us (in_inner h) nn ll (of_covers (declared_option i) (declares_first (in_block h.env) i) (in_block h.env) (first_cover i (in_block h.env))) (of_only (declared_option i) (declares_first (in_block h.env) i) (in_block h.env) (first_only i (in_block h.env))) (below_inner gg) in
        (λ ww. Let [] (first_term-alike (in_inner h) us i (loop_term l (test_term-alike q t mm kk (declared_option i ++ around) qq (kept_declaring (looked_expr_option top (declared_option i ++ around) t) bs us (in_inner h) nn ll (on_right (looked_stmt_option top around i) (looked_expr_option top (declared_option i ++ around) t) h nn ll (on_left (looked_stmt_option top around i ++ looked_expr_option top (declared_option i ++ around) t) (looked_stmt_option top (declared_option i ++ around) p) h nn ll (on_left (looked_stmt_option top around i ++ looked_expr_option top (declared_option i ++ around) t ++ looked_stmt_option top (declared_option i ++ around) p) (looked_stmts top (declared_option i ++ around) b) h nn ll oo)))) ww) (stmts_term-alike (in_inner q) b mm kk (declared_option i ++ around) (below_inner qq) (kept_declaring (looked_stmts top (declared_option i ++ around) b) bs us (in_inner h) nn ll (on_right (looked_stmt_option top around i ++ looked_expr_option top (declared_option i ++ around) t ++ looked_stmt_option top (declared_option i ++ around) p) (looked_stmts top (declared_option i ++ around) b) h nn ll oo)) ww) (renewed (new_cells bs us) (first_term-alike q [] p v.nothing mm kk (declared_option i ++ around) qq (kept_declaring (looked_stmt_option top (declared_option i ++ around) p) bs us (in_inner h) nn ll (on_right (looked_stmt_option top around i ++ looked_expr_option top (declared_option i ++ around) t) (looked_stmt_option top (declared_option i ++ around) p) h nn ll (on_left (looked_stmt_option top around i ++ looked_expr_option top (declared_option i ++ around) t ++ looked_stmt_option top (declared_option i ++ around) p) (looked_stmts top (declared_option i ++ around) b) h nn ll oo))) ww))) nn ll around (below_inner gg) (on_left (looked_stmt_option top around i) (looked_expr_option top (declared_option i ++ around) t) h nn ll (on_left (looked_stmt_option top around i ++ looked_expr_option top (declared_option i ++ around) t) (looked_stmt_option top (declared_option i ++ around) p) h nn ll (on_left (looked_stmt_option top around i ++ looked_expr_option top (declared_option i ++ around) t ++ looked_stmt_option top (declared_option i ++ around) p) (looked_stmts top (declared_option i ++ around) b) h nn ll oo))) ww) rest)
        ∙ ap (λ u. let q : Here = declaring bs u (in_inner (at_names h nn ll)) in Let [] (first_term (in_inner (at_names h nn ll)) u i (loop_term l (test_term q t) (stmts_term (in_inner q) b) (renewed (new_cells bs u) (first_term q [] p v.nothing)))) rest) (λ ww. mentions_option-alike (extend bs (in_block h.env)) t mm (declared_option i ++ around) qq.names (kept_declaring (looked_expr_option top (declared_option i ++ around) t) bs us (in_inner h) nn ll (on_right (looked_stmt_option top around i) (looked_expr_option top (declared_option i ++ around) t) h nn ll (on_left (looked_stmt_option top around i ++ looked_expr_option top (declared_option i ++ around) t) (looked_stmt_option top (declared_option i ++ around) p) h nn ll (on_left (looked_stmt_option top around i ++ looked_expr_option top (declared_option i ++ around) t ++ looked_stmt_option top (declared_option i ++ around) p) (looked_stmts top (declared_option i ++ around) b) h nn ll oo)))).0 ww ++ mentions_first-alike (extend bs (in_block h.env)) p mm (declared_option i ++ around) qq.names (kept_declaring (looked_stmt_option top (declared_option i ++ around) p) bs us (in_inner h) nn ll (on_right (looked_stmt_option top around i ++ looked_expr_option top (declared_option i ++ around) t) (looked_stmt_option top (declared_option i ++ around) p) h nn ll (on_left (looked_stmt_option top around i ++ looked_expr_option top (declared_option i ++ around) t ++ looked_stmt_option top (declared_option i ++ around) p) (looked_stmts top (declared_option i ++ around) b) h nn ll oo))).0 ww ++ mentions_stmts-alike (in_block (extend bs (in_block h.env))) b mm (declared_option i ++ around) (below_in_block qq.names) (kept_declaring (looked_stmts top (declared_option i ++ around) b) bs us (in_inner h) nn ll (on_right (looked_stmt_option top around i ++ looked_expr_option top (declared_option i ++ around) t ++ looked_stmt_option top (declared_option i ++ around) p) (looked_stmts top (declared_option i ++ around) b) h nn ll oo)).0 ww)
        ∙ ap (λ b_. let u : List Mention = mentions_option (extend b_ (in_block (with_names h.env nn))) t ++ mentions_first (extend b_ (in_block (with_names h.env nn))) p ++ mentions_stmts (in_block (extend b_ (in_block (with_names h.env nn)))) b in let q : Here = declaring b_ u (in_inner (at_names h nn ll)) in Let [] (first_term (in_inner (at_names h nn ll)) u i (loop_term l (test_term q t) (stmts_term (in_inner q) b) (renewed (new_cells b_ u) (first_term q [] p v.nothing)))) rest) (binds_first-alike (in_block h.env) i nn around (below_in_block gg.names) (on_left (looked_stmt_option top around i) (looked_expr_option top (declared_option i ++ around) t) h nn ll (on_left (looked_stmt_option top around i ++ looked_expr_option top (declared_option i ++ around) t) (looked_stmt_option top (declared_option i ++ around) p) h nn ll (on_left (looked_stmt_option top around i ++ looked_expr_option top (declared_option i ++ around) t ++ looked_stmt_option top (declared_option i ++ around) p) (looked_stmts top (declared_option i ++ around) b) h nn ll oo))).0)
    stmt_term-alike h l ms (range_ _ x e _ b) rest nn ll around gg oo =
        let bs : Binds = binds_of (defined x) (range_declares h.env (parts h.env e) x) in
        let us : List Mention = mentions_stmts (in_block (extend bs (in_block h.env))) b in
        let q : Here = declaring bs us (in_inner h) in let mm : Environment Entity = bs ++ nn in let kk : Environment Location = located us bs ++ ll in
        let qq : AgreesHereBelow top (defined x ++ around) q mm kk = below_declaring (defined x) around bs us (in_inner h) nn ll (of_covers (defined x) (range_declares h.env (parts h.env e) x) (in_block h.env) (range_cover x h.env (in_block h.env) (parts h.env e))) (of_only (defined x) (range_declares h.env (parts h.env e) x) (in_block h.env) (range_only x h.env (in_block h.env) (parts h.env e))) (below_inner gg) in
        (λ ww. let o : Option Operand = parts-alike h.env e nn around gg.names (on_right (looked_left top around x) (looked_expr top around e) h nn ll (on_left (looked_left top around x ++ looked_expr top around e) (looked_stmts top (defined x ++ around) b) h nn ll oo)).0 ww in let y : GoType = range_type-alike h.env (typed_of o) x nn around gg.names (on_left (looked_left top around x) (looked_expr top around e) h nn ll (on_left (looked_left top around x ++ looked_expr top around e) (looked_stmts top (defined x ++ around) b) h nn ll oo)).0 ww in let r : RangeForm = range_form (defined_here h) y (typed_of o) in Let [] (range_term r l (expr_term-alike h y e nn ll around gg (on_right (looked_left top around x) (looked_expr top around e) h nn ll (on_left (looked_left top around x ++ looked_expr top around e) (looked_stmts top (defined x ++ around) b) h nn ll oo)) ww) (turn_term-alike r h (new_cells bs us) x (stmts_term-alike (in_inner q) b mm kk (defined x ++ around) (below_inner qq) (kept_declaring (looked_stmts top (defined x ++ around) b) bs us (in_inner h) nn ll (on_right (looked_left top around x ++ looked_expr top around e) (looked_stmts top (defined x ++ around) b) h nn ll oo)) ww) nn ll around gg (on_left (looked_left top around x) (looked_expr top around e) h nn ll (on_left (looked_left top around x ++ looked_expr top around e) (looked_stmts top (defined x ++ around) b) h nn ll oo)) ww)) rest)
        ∙ ap (λ u. let o : Option Operand = parts (with_names h.env nn) e in let y : GoType = range_type (with_names h.env nn) (typed_of o) x in let r : RangeForm = range_form (defined_here h) y (typed_of o) in Let [] (range_term r l (expr_term (at_names h nn ll) y e) (turn_term r (at_names h nn ll) (new_cells bs u) x (stmts_term (in_inner (declaring bs u (in_inner (at_names h nn ll)))) b))) rest) (λ ww. mentions_stmts-alike (in_block (extend bs (in_block h.env))) b mm (defined x ++ around) (below_in_block qq.names) (kept_declaring (looked_stmts top (defined x ++ around) b) bs us (in_inner h) nn ll (on_right (looked_left top around x ++ looked_expr top around e) (looked_stmts top (defined x ++ around) b) h nn ll oo)).0 ww)
        ∙ ap (λ b_. let u : List Mention = mentions_stmts (in_block (extend b_ (in_block (with_names h.env nn)))) b in let o : Option Operand = parts (with_names h.env nn) e in let y : GoType = range_type (with_names h.env nn) (typed_of o) x in let r : RangeForm = range_form (defined_here h) y (typed_of o) in Let [] (range_term r l (expr_term (at_names h nn ll) y e) (turn_term r (at_names h nn ll) (new_cells b_ u) x (stmts_term (in_inner (declaring b_ u (in_inner (at_names h nn ll)))) b))) rest) (λ ww. binds_of (defined x) (range_declares-alike h.env (parts-alike h.env e nn around gg.names (on_right (looked_left top around x) (looked_expr top around e) h nn ll (on_left (looked_left top around x ++ looked_expr top around e) (looked_stmts top (defined x ++ around) b) h nn ll oo)).0 ww) x nn around gg.names (on_left (looked_left top around x) (looked_expr top around e) h nn ll (on_left (looked_left top around x ++ looked_expr top around e) (looked_stmts top (defined x ++ around) b) h nn ll oo)).0 ww))
    stmt_term-alike h l ms (switch _ i t cs) rest nn ll around gg oo =
        let bs : Binds = binds_first (in_block h.env) i in
        let us : List Mention = mentions_option (extend bs (in_block h.env)) t ++ mentions_cases (extend bs (in_block h.env)) cs in
        let q : Here = declaring bs us (in_inner h) in let mm : Environment Entity = bs ++ nn in let kk : Environment Location = located us bs ++ ll in
        let qq : AgreesHereBelow top (declared_option i ++ around) q mm kk = below_declaring (declared_option i) around bs us (in_inner h) nn ll (of_covers (declared_option i) (declares_first (in_block h.env) i) (in_block h.env) (first_cover i (in_block h.env))) (of_only (declared_option i) (declares_first (in_block h.env) i) (in_block h.env) (first_only i (in_block h.env))) (below_inner gg) in
        (λ ww. let y : GoType = tag_type (defined_here h) (typed_option-alike (extend bs (in_block h.env)) t mm (declared_option i ++ around) qq.names (kept_declaring (looked_expr_option top (declared_option i ++ around) t) bs us (in_inner h) nn ll (on_right (looked_stmt_option top around i) (looked_expr_option top (declared_option i ++ around) t) h nn ll (on_left (looked_stmt_option top around i ++ looked_expr_option top (declared_option i ++ around) t) (looked_cases top (declared_option i ++ around) cs) h nn ll oo))).0 ww) in Let [] (first_term-alike (in_inner h) us i (Let (temporary 0 ∷ []) (tag_term-alike q y t mm kk (declared_option i ++ around) qq (kept_declaring (looked_expr_option top (declared_option i ++ around) t) bs us (in_inner h) nn ll (on_right (looked_stmt_option top around i) (looked_expr_option top (declared_option i ++ around) t) h nn ll (on_left (looked_stmt_option top around i ++ looked_expr_option top (declared_option i ++ around) t) (looked_cases top (declared_option i ++ around) cs) h nn ll oo))) ww) (Catch (break_label None) (cases_term-alike q y (default_term-alike q cs mm kk (declared_option i ++ around) qq (kept_declaring (looked_cases top (declared_option i ++ around) cs) bs us (in_inner h) nn ll (on_right (looked_stmt_option top around i ++ looked_expr_option top (declared_option i ++ around) t) (looked_cases top (declared_option i ++ around) cs) h nn ll oo)) ww) cs mm kk (declared_option i ++ around) qq (kept_declaring (looked_cases top (declared_option i ++ around) cs) bs us (in_inner h) nn ll (on_right (looked_stmt_option top around i ++ looked_expr_option top (declared_option i ++ around) t) (looked_cases top (declared_option i ++ around) cs) h nn ll oo)) ww))) nn ll around (below_inner gg) (on_left (looked_stmt_option top around i) (looked_expr_option top (declared_option i ++ around) t) h nn ll (on_left (looked_stmt_option top around i ++ looked_expr_option top (declared_option i ++ around) t) (looked_cases top (declared_option i ++ around) cs) h nn ll oo)) ww) rest)
        ∙ ap (λ u. let q : Here = declaring bs u (in_inner (at_names h nn ll)) in let y : GoType = tag_type (defined_here h) (typed_option (extend bs (in_block (with_names h.env nn))) t) in Let [] (first_term (in_inner (at_names h nn ll)) u i (Let (temporary 0 ∷ []) (tag_term q y t) (Catch (break_label None) (cases_term q y (default_term q cs) cs)))) rest) (λ ww. mentions_option-alike (extend bs (in_block h.env)) t mm (declared_option i ++ around) qq.names (kept_declaring (looked_expr_option top (declared_option i ++ around) t) bs us (in_inner h) nn ll (on_right (looked_stmt_option top around i) (looked_expr_option top (declared_option i ++ around) t) h nn ll (on_left (looked_stmt_option top around i ++ looked_expr_option top (declared_option i ++ around) t) (looked_cases top (declared_option i ++ around) cs) h nn ll oo))).0 ww ++ mentions_cases-alike (extend bs (in_block h.env)) cs mm (declared_option i ++ around) qq.names (kept_declaring (looked_cases top (declared_option i ++ around) cs) bs us (in_inner h) nn ll (on_right (looked_stmt_option top around i ++ looked_expr_option top (declared_option i ++ around) t) (looked_cases top (declared_option i ++ around) cs) h nn ll oo)).0 ww)
        ∙ ap (λ b_. let u : List Mention = mentions_option (extend b_ (in_block (with_names h.env nn))) t ++ mentions_cases (extend b_ (in_block (with_names h.env nn))) cs in let q : Here = declaring b_ u (in_inner (at_names h nn ll)) in let y : GoType = tag_type (defined_here h) (typed_option (extend b_ (in_block (with_names h.env nn))) t) in Let [] (first_term (in_inner (at_names h nn ll)) u i (Let (temporary 0 ∷ []) (tag_term q y t) (Catch (break_label None) (cases_term q y (default_term q cs) cs)))) rest) (binds_first-alike (in_block h.env) i nn around (below_in_block gg.names) (on_left (looked_stmt_option top around i) (looked_expr_option top (declared_option i ++ around) t) h nn ll (on_left (looked_stmt_option top around i ++ looked_expr_option top (declared_option i ++ around) t) (looked_cases top (declared_option i ++ around) cs) h nn ll oo)).0)
    stmt_term-alike h l ms (defer _ e) rest nn ll around gg oo = λ ww. Let [] ((deferred_term-alike h e nn ll around gg oo ww)) rest
    stmt_term-alike h l ms (label _ n s) rest nn ll around gg oo = λ ww. if is_breakable s then Let [] (Catch (break_label (Some n.name)) ((stmt_term-alike h (Some n.name) ms s v.nothing nn ll around gg oo ww))) rest else (stmt_term-alike h None ms s rest nn ll around gg oo ww)

    pub first_term-alike : (h : Here) (u : List Mention) (v : StmtOption S) (x : Term) (nn : Environment Entity) (ll : Environment Location) (around : List (List ℕ)) → AgreesHereBelow top around h nn ll → OnHere (looked_stmt_option top around v) h nn ll → first_term h u v x ≡ first_term (at_names h nn ll) u v x
    first_term-alike h ms no_stmt rest nn ll around gg oo = λ ww. rest
    first_term-alike h ms (some_stmt s) rest nn ll around gg oo = λ ww. (stmt_term-alike h None ms s rest nn ll around gg oo ww)

    pub test_term-alike : (h : Here) (u : ExprOption S) (nn : Environment Entity) (ll : Environment Location) (around : List (List ℕ)) → AgreesHereBelow top around h nn ll → OnHere (looked_expr_option top around u) h nn ll → test_term h u ≡ test_term (at_names h nn ll) u
    test_term-alike h no_expr nn ll around gg oo = λ ww. one_value (Truth true)
    test_term-alike h (some_expr e) nn ll around gg oo = λ ww. (expr_term-alike h truth_type e nn ll around gg oo ww)

    pub tag_term-alike : (h : Here) (u : GoType) (v : ExprOption S) (nn : Environment Entity) (ll : Environment Location) (around : List (List ℕ)) → AgreesHereBelow top around h nn ll → OnHere (looked_expr_option top around v) h nn ll → tag_term h u v ≡ tag_term (at_names h nn ll) u v
    tag_term-alike h u no_expr nn ll around gg oo = λ ww. one_value (Truth true)
    tag_term-alike h u (some_expr e) nn ll around gg oo = λ ww. (expr_term-alike h u e nn ll around gg oo ww)

    pub block_term-alike : (h : Here) (u : BlockOption S) (nn : Environment Entity) (ll : Environment Location) (around : List (List ℕ)) → AgreesHereBelow top around h nn ll → OnHere (looked_block_option top around u) h nn ll → block_term h u ≡ block_term (at_names h nn ll) u
    block_term-alike h no_block nn ll around gg oo = λ ww. v.nothing
    block_term-alike h (some_block _ b) nn ll around gg oo = λ ww. (stmts_term-alike (in_inner h) b nn ll around (below_inner gg) oo ww)

    pub arms_term-alike : (h : Here) (u : Env → List Mention) (f : Here → Term) (x : Arms S) (nn : Environment Entity) (ll : Environment Location) (around free : List (List ℕ)) → AgreesHereBelow top around h nn ll → OnHere (looked_arms top around x) h nn ll → OnHere free h nn ll
        → ((k : Env) (l : Environment Entity) → AgreesBelow top (arms_declared x ++ around) k l → On free k l → u k ≡ u (with_names k l))
        → ((k : Here) (m : Environment Entity) (l : Environment Location) → AgreesHereBelow top (arms_declared x ++ around) k m l → OnHere free k m l → f k ≡ f (at_names k m l)) → arms_term h u f x ≡ arms_term (at_names h nn ll) u f x
    arms_term-alike h u f no_arms nn ll around free gg oo rr d z = z h nn ll gg rr
    arms_term-alike h u f (arm _ i t _ b rest) nn ll around free gg oo rr d z =
        let bs : Binds = binds_first h.env i in
        let us : List Mention = mentions Read (extend bs h.env) t ++ mentions_stmts (in_block (extend bs h.env)) b ++ mentions_arms (in_block (extend bs h.env)) u rest in
        let q : Here = declaring bs us h in let mm : Environment Entity = bs ++ nn in let kk : Environment Location = located us bs ++ ll in
        let qq : AgreesHereBelow top (declared_option i ++ around) q mm kk = below_declaring (declared_option i) around bs us h nn ll (of_covers (declared_option i) (declares_first h.env i) h.env (first_cover i h.env)) (of_only (declared_option i) (declares_first h.env i) h.env (first_only i h.env)) gg in
        (λ ww. first_term-alike h us i (If (expr_term-alike q truth_type t mm kk (declared_option i ++ around) qq (kept_declaring (looked_expr top (declared_option i ++ around) t) bs us h nn ll (on_right (looked_stmt_option top around i) (looked_expr top (declared_option i ++ around) t) h nn ll (on_left (looked_stmt_option top around i ++ looked_expr top (declared_option i ++ around) t) (looked_stmts top (declared_option i ++ around) b) h nn ll (on_left (looked_stmt_option top around i ++ looked_expr top (declared_option i ++ around) t ++ looked_stmts top (declared_option i ++ around) b) (looked_arms top (declared_option i ++ around) rest) h nn ll oo)))) ww) (stmts_term-alike (in_inner q) b mm kk (declared_option i ++ around) (below_inner qq) (kept_declaring (looked_stmts top (declared_option i ++ around) b) bs us h nn ll (on_right (looked_stmt_option top around i ++ looked_expr top (declared_option i ++ around) t) (looked_stmts top (declared_option i ++ around) b) h nn ll (on_left (looked_stmt_option top around i ++ looked_expr top (declared_option i ++ around) t ++ looked_stmts top (declared_option i ++ around) b) (looked_arms top (declared_option i ++ around) rest) h nn ll oo))) ww) (arms_term-alike (in_inner q) u f rest mm kk (declared_option i ++ around) free (below_inner qq) (kept_declaring (looked_arms top (declared_option i ++ around) rest) bs us h nn ll (on_right (looked_stmt_option top around i ++ looked_expr top (declared_option i ++ around) t ++ looked_stmts top (declared_option i ++ around) b) (looked_arms top (declared_option i ++ around) rest) h nn ll oo)) (kept_declaring free bs us h nn ll rr) (λ k l q r. d k l (subst (λ z. AgreesBelow top z k l) (sym (append_in_turn (arms_declared rest) (declared_option i) around)) q) r) (λ k m l q r. z k m l (subst (λ z. AgreesHereBelow top z k m l) (sym (append_in_turn (arms_declared rest) (declared_option i) around)) q) r) ww)) nn ll around gg (on_left (looked_stmt_option top around i) (looked_expr top (declared_option i ++ around) t) h nn ll (on_left (looked_stmt_option top around i ++ looked_expr top (declared_option i ++ around) t) (looked_stmts top (declared_option i ++ around) b) h nn ll (on_left (looked_stmt_option top around i ++ looked_expr top (declared_option i ++ around) t ++ looked_stmts top (declared_option i ++ around) b) (looked_arms top (declared_option i ++ around) rest) h nn ll oo))) ww)
        ∙ ap (λ v_. let q : Here = declaring bs v_ (at_names h nn ll) in first_term (at_names h nn ll) v_ i (If (expr_term q truth_type t) (stmts_term (in_inner q) b) (arms_term (in_inner q) u f rest))) (λ ww. mentions-alike Read (extend bs h.env) t mm (declared_option i ++ around) qq.names (kept_declaring (looked_expr top (declared_option i ++ around) t) bs us h nn ll (on_right (looked_stmt_option top around i) (looked_expr top (declared_option i ++ around) t) h nn ll (on_left (looked_stmt_option top around i ++ looked_expr top (declared_option i ++ around) t) (looked_stmts top (declared_option i ++ around) b) h nn ll (on_left (looked_stmt_option top around i ++ looked_expr top (declared_option i ++ around) t ++ looked_stmts top (declared_option i ++ around) b) (looked_arms top (declared_option i ++ around) rest) h nn ll oo)))).0 ww ++ mentions_stmts-alike (in_block (extend bs h.env)) b mm (declared_option i ++ around) (below_in_block qq.names) (kept_declaring (looked_stmts top (declared_option i ++ around) b) bs us h nn ll (on_right (looked_stmt_option top around i ++ looked_expr top (declared_option i ++ around) t) (looked_stmts top (declared_option i ++ around) b) h nn ll (on_left (looked_stmt_option top around i ++ looked_expr top (declared_option i ++ around) t ++ looked_stmts top (declared_option i ++ around) b) (looked_arms top (declared_option i ++ around) rest) h nn ll oo))).0 ww ++ mentions_arms-alike (in_block (extend bs h.env)) u rest mm (declared_option i ++ around) free (below_in_block qq.names) (kept_declaring (looked_arms top (declared_option i ++ around) rest) bs us h nn ll (on_right (looked_stmt_option top around i ++ looked_expr top (declared_option i ++ around) t ++ looked_stmts top (declared_option i ++ around) b) (looked_arms top (declared_option i ++ around) rest) h nn ll oo)).0 (kept_declaring free bs us h nn ll rr).0 (λ k l q r. d k l (subst (λ z. AgreesBelow top z k l) (sym (append_in_turn (arms_declared rest) (declared_option i) around)) q) r) ww)
        ∙ ap (λ b_. let v_ : List Mention = mentions Read (extend b_ (with_names h.env nn)) t ++ mentions_stmts (in_block (extend b_ (with_names h.env nn))) b ++ mentions_arms (in_block (extend b_ (with_names h.env nn))) u rest in let q : Here = declaring b_ v_ (at_names h nn ll) in first_term (at_names h nn ll) v_ i (If (expr_term q truth_type t) (stmts_term (in_inner q) b) (arms_term (in_inner q) u f rest))) (binds_first-alike h.env i nn around gg.names (on_left (looked_stmt_option top around i) (looked_expr top (declared_option i ++ around) t) h nn ll (on_left (looked_stmt_option top around i ++ looked_expr top (declared_option i ++ around) t) (looked_stmts top (declared_option i ++ around) b) h nn ll (on_left (looked_stmt_option top around i ++ looked_expr top (declared_option i ++ around) t ++ looked_stmts top (declared_option i ++ around) b) (looked_arms top (declared_option i ++ around) rest) h nn ll oo))).0)

    pub turn_term-alike : (t : RangeForm) (h : Here) (v : List Name) (x : RangeLeft S) (y : Term) (nn : Environment Entity) (ll : Environment Location) (around : List (List ℕ)) → AgreesHereBelow top around h nn ll → OnHere (looked_left top around x) h nn ll → turn_term t h v x y ≡ turn_term t (at_names h nn ll) v x y
    turn_term-alike r h cells nothing body nn ll around gg oo = λ ww. body
    turn_term-alike r h cells (assigns es) body nn ll around gg oo = λ ww. Let [] (assignment 5 ((place_terms-alike h es nn ll around gg oo ww)) (turn_values r ((target_types-alike h.env es [] nn around gg.names oo.0 ww)))) body
    turn_term-alike r h cells (defines ns) body nn ll around gg oo = λ ww. Let (variable_names 0 (names_of ns)) (turn_values r (each_as no_type ns)) (in_cells cells body)

    pub cases_term-alike : (h : Here) (u : GoType) (v : Term) (x : Cases S) (nn : Environment Entity) (ll : Environment Location) (around : List (List ℕ)) → AgreesHereBelow top around h nn ll → OnHere (looked_cases top around x) h nn ll → cases_term h u v x ≡ cases_term (at_names h nn ll) u v x
    cases_term-alike h u last no_cases nn ll around gg oo = λ ww. last
    cases_term-alike h u last (case _ es b cs) nn ll around gg oo = λ ww. if no_values es then (cases_term-alike h u last cs nn ll around gg (on_right (looked_exprs top around es ++ looked_stmts top around b) (looked_cases top around cs) h nn ll oo) ww) else If ((fits_term-alike h u es nn ll around gg (on_left (looked_exprs top around es) (looked_stmts top around b) h nn ll (on_left (looked_exprs top around es ++ looked_stmts top around b) (looked_cases top around cs) h nn ll oo)) ww)) ((stmts_term-alike (in_inner h) b nn ll around (below_inner gg) (on_right (looked_exprs top around es) (looked_stmts top around b) h nn ll (on_left (looked_exprs top around es ++ looked_stmts top around b) (looked_cases top around cs) h nn ll oo)) ww)) ((cases_term-alike h u last cs nn ll around gg (on_right (looked_exprs top around es ++ looked_stmts top around b) (looked_cases top around cs) h nn ll oo) ww))

    pub fits_term-alike : (h : Here) (u : GoType) (v : Exprs S) (nn : Environment Entity) (ll : Environment Location) (around : List (List ℕ)) → AgreesHereBelow top around h nn ll → OnHere (looked_exprs top around v) h nn ll → fits_term h u v ≡ fits_term (at_names h nn ll) u v
    fits_term-alike h u no_exprs nn ll around gg oo = λ ww. one_value (Truth false)
    fits_term-alike h u (expr_and e es) nn ll around gg oo = λ ww. If (Prim (Compare Equal) (Both (Local (temporary 0)) ((expr_term-alike h u e nn ll around gg (on_left (looked_expr top around e) (looked_exprs top around es) h nn ll oo) ww)))) (one_value (Truth true)) ((fits_term-alike h u es nn ll around gg (on_right (looked_expr top around e) (looked_exprs top around es) h nn ll oo) ww))

    pub default_term-alike : (h : Here) (u : Cases S) (nn : Environment Entity) (ll : Environment Location) (around : List (List ℕ)) → AgreesHereBelow top around h nn ll → OnHere (looked_cases top around u) h nn ll → default_term h u ≡ default_term (at_names h nn ll) u
    default_term-alike h no_cases nn ll around gg oo = λ ww. v.nothing
    default_term-alike h (case _ es b cs) nn ll around gg oo = λ ww. if no_values es then (stmts_term-alike (in_inner h) b nn ll around (below_inner gg) (on_right (looked_exprs top around es) (looked_stmts top around b) h nn ll (on_left (looked_exprs top around es ++ looked_stmts top around b) (looked_cases top around cs) h nn ll oo)) ww) else (default_term-alike h cs nn ll around gg (on_right (looked_exprs top around es ++ looked_stmts top around b) (looked_cases top around cs) h nn ll oo) ww)

    pub deferred_term-alike : (h : Here) (u : Expr S) (nn : Environment Entity) (ll : Environment Location) (around : List (List ℕ)) → AgreesHereBelow top around h nn ll → OnHere (looked_expr top around u) h nn ll → deferred_term h u ≡ deferred_term (at_names h nn ll) u
    deferred_term-alike h (call _ f xs _) nn ll around gg oo = λ ww. let c : Callee = (callee-alike h f nn ll around gg (on_left (looked_expr top around f) (looked_exprs top around xs) h nn ll oo) ww) in
        let os : List Operand = operand_list ((all_parts-alike h.env xs nn around gg.names ((on_right (looked_expr top around f) (looked_exprs top around xs) h nn ll oo)).0 ww)) in
        defer_term h.paths (defined_here h) c (spread os) ((args_term-alike h (callee_wants (defined_here h) c (spread os)) xs nn ll around gg (on_right (looked_expr top around f) (looked_exprs top around xs) h nn ll oo) ww))
    deferred_term-alike h e nn ll around gg oo = λ ww. v.nothing

    pub specs_term-alike : (h : Here) (u : List Mention) (v : ValueSpecs S) (x : Term) (nn : Environment Entity) (ll : Environment Location) (around : List (List ℕ)) → AgreesHereBelow top around h nn ll → OnHere (looked_specs top around v) h nn ll → specs_term h u v x ≡ specs_term (at_names h nn ll) u v x
    specs_term-alike h ms no_specs rest nn ll around gg oo = λ ww. rest
    specs_term-alike h ms (spec _ ns t es ss) rest nn ll around gg oo =
        let bs : Binds = spec_binds h.env ns t es in
        let us : List Mention = mentions_specs (extend bs h.env) ss ++ ms in
        let q : Here = declaring bs us h in let mm : Environment Entity = bs ++ nn in let kk : Environment Location = located us bs ++ ll in
        let qq : AgreesHereBelow top (names_of ns ++ around) q mm kk = below_declaring (names_of ns) around bs us h nn ll (of_covers (names_of ns) (new_variables h.env (names_of ns) (written_type h.env t) (no_values es) (right_values h.env (length ns) (places h.env es) (all_parts h.env es))) h.env (new_variables_cover h.env (names_of ns) (written_type h.env t) (no_values es) (right_values h.env (length ns) (places h.env es) (all_parts h.env es)))) (of_only (names_of ns) (new_variables h.env (names_of ns) (written_type h.env t) (no_values es) (right_values h.env (length ns) (places h.env es) (all_parts h.env es))) h.env (new_variables_only h.env (names_of ns) (written_type h.env t) (no_values es) (right_values h.env (length ns) (places h.env es) (all_parts h.env es)))) gg in
        (λ ww. let ts : List GoType = spec_types (written_type-below h.env t nn around gg.names (on_left (free_type_option around t) (looked_exprs top around es) h nn ll (on_left (free_type_option around t ++ looked_exprs top around es) (looked_specs top (names_of ns ++ around) ss) h nn ll oo)).0 ww) (names_of ns) (value_types-alike h.env (length ns) es nn around gg.names (on_right (free_type_option around t) (looked_exprs top around es) h nn ll (on_left (free_type_option around t ++ looked_exprs top around es) (looked_specs top (names_of ns ++ around) ss) h nn ll oo)).0 ww) in Let (variable_names 0 (names_of ns)) (if no_values es then Vals (v.zeros_of (defined_here h) ts) else values_term-alike h ts es nn ll around gg (on_right (free_type_option around t) (looked_exprs top around es) h nn ll (on_left (free_type_option around t ++ looked_exprs top around es) (looked_specs top (names_of ns ++ around) ss) h nn ll oo)) ww) (in_cells (new_cells bs us) (specs_term-alike q ms ss rest mm kk (names_of ns ++ around) qq (kept_declaring (looked_specs top (names_of ns ++ around) ss) bs us h nn ll (on_right (free_type_option around t ++ looked_exprs top around es) (looked_specs top (names_of ns ++ around) ss) h nn ll oo)) ww)))
        ∙ ap (λ u. let ts : List GoType = spec_types (written_type (with_names h.env nn) t) (names_of ns) (value_types (with_names h.env nn) (length ns) es) in Let (variable_names 0 (names_of ns)) (if no_values es then Vals (v.zeros_of (defined_here h) ts) else values_term (at_names h nn ll) ts es) (in_cells (new_cells bs u) (specs_term (declaring bs u (at_names h nn ll)) ms ss rest))) (λ ww. mentions_specs-alike (extend bs h.env) ss mm (names_of ns ++ around) qq.names (kept_declaring (looked_specs top (names_of ns ++ around) ss) bs us h nn ll (on_right (free_type_option around t ++ looked_exprs top around es) (looked_specs top (names_of ns ++ around) ss) h nn ll oo)).0 ww ++ ms)
        ∙ ap (λ b_. let u : List Mention = mentions_specs (extend b_ (with_names h.env nn)) ss ++ ms in let ts : List GoType = spec_types (written_type (with_names h.env nn) t) (names_of ns) (value_types (with_names h.env nn) (length ns) es) in Let (variable_names 0 (names_of ns)) (if no_values es then Vals (v.zeros_of (defined_here h) ts) else values_term (at_names h nn ll) ts es) (in_cells (new_cells b_ u) (specs_term (declaring b_ u (at_names h nn ll)) ms ss rest))) (spec_binds-alike h.env ns t es nn around gg.names (on_left (free_type_option around t) (looked_exprs top around es) h nn ll (on_left (free_type_option around t ++ looked_exprs top around es) (looked_specs top (names_of ns ++ around) ss) h nn ll oo)).0 (on_right (free_type_option around t) (looked_exprs top around es) h nn ll (on_left (free_type_option around t ++ looked_exprs top around es) (looked_specs top (names_of ns ++ around) ss) h nn ll oo)).0)
