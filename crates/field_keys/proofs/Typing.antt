-- What is typed at one place is typed alike at another, where the names that it looks up mean the same.
use Rattle.std.specs.Prelude.{◌≡◌, refl, ℕ, ◌+◌, Bool, true, false, not, ◌&&◌, List, [], ◌∷◌, ◌++◌, length, Option, Some, None, if◌then◌else◌, is_some, pos}
use Rattle.std.specs.List.{list_all}
use Rattle.go_tree.specs.Tree.{Expr, ident, int_lit, rune_lit, str_lit, composite, selector, index, slice, call, func_lit, type_operand, unary, binary, star, Exprs, no_exprs, expr_and, ExprOption, no_expr, some_expr, Elems, no_elems, elem, Value, plain, braced, ValueOption, no_value, some_value, Stmt, const_decl, var_decl, empty, eval, step, assign, define, return_, break_, continue_, inner, if_, for_, range_, switch, defer, label, Stmts, no_stmts, stmt_and, StmtOption, no_stmt, some_stmt, BlockOption, no_block, some_block, RangeLeft, nothing, assigns, defines, Arms, no_arms, arm, Cases, no_cases, case, ValueSpecs, no_specs, spec}
use Rattle.go_tree.specs.declared.const_eval.kinds.Kind.TheVariants as kind
use Rattle.go_tree.specs.ConstEval.Exact.{number, text}
use Rattle.go_tree.specs.ConstEval.Literals.{integer_value, literal_value}
use Rattle.go_tree.specs.GoWords.Texts.{text_value}
use Rattle.go_tree.specs.GoTypes.Answers.{given, both, meets, only_if, without}
use Rattle.go_tree.specs.GoTypes.Types.{GoType}
use Rattle.go_tree.specs.GoTypes.Defined.{under}
use Rattle.go_tree.specs.GoTypes.Entities.{addressable, literal, elsewhere, Entity, Env, meaning, exported, package_of, defined_in, Binds, extend, in_block}
use Rattle.go_tree.specs.GoTypes.TypeNames.{type_meant, func_type, written_type}
use Rattle.go_tree.specs.GoTypes.Operands.{Operand, a_type, a_function, Typed, typed, all_typed, with_value, named_operand, named_place, literal_operand}
use Rattle.go_tree.specs.GoTypes.Operators.{unary_of, binary_of, star_of}
use Rattle.go_tree.specs.GoTypes.Primary.{selected, selected_place, index_of, index_place, sliced, call_of, stands_alone, may_be_deferred}
use Rattle.go_tree.specs.GoTypes.Literals.{of_field, keyed, is_struct, field_key, built, built_inside, key_type, inner_type, literal_type}
use Rattle.go_tree.specs.GoTypes.Jumps.{breaks, breaks_in}
use Rattle.go_tree.specs.GoTypes.Statements.{names_once, Declared, no_names, some_declared, blank, target_at, stores_all, updates, is_condition, variable_entity, defined_by, range_types, range_assigns, case_value, case_constants, Ctx, in_loop, in_switch, may_break, may_continue, body_binds, body_ctx, is_blank_name, is_panic, no_values, is_absent, is_define, is_empty_stmt, has_last}
use mathlib.Core.Path.{ap, sym, ◌∙◌, subst}
use Rattle.std.proofs.Common.{arith}
use Rattle.go_tree.specs.ScopeNames.Means.{Environment, means}
use Rattle.go_tree.specs.ScopeNames.FreeNames.{unless_declared, names_of, declared, declared_option, arms_declared, defined, sig_names, free_type, free_type_option, free_params}
use Rattle.go_tree.specs.GoTypes.Entities.{is_declared_here}
use Rattle.go_tree.specs.GoTypes.Statements.{means_panic, assigns_to}
use Rattle.go_tree.specs.GoTypes.Typing.{and_then, unused_after, one_more, step_op, binds_or, binds_of, beyond, right_values, new_variables, new_by_define, all_used, is_test, new_by_range, tag_of, choice, place_by, package_before, is_default, is_body, returns, labelled, parts, all_parts, bound, elements, element, with_key, place, places, used, used_all, used_option, used_elems, used_key, used_value, used_left, used_stmt, used_stmts, used_first, used_block, used_range, used_arms, used_cases, used_variables, declares, declares_first, declares_variables, range_declares, targets, stmt, stmts, first, block, is_call, ranges, arms, clauses}
use Rattle.go_tree.specs.GoTypes.Agreement.{with_names, On}
use Rattle.go_tree.proofs.GoTypes.Agreeing.{new_variables_cover, on_first, on_second, under_same, Covers, declares_cover, first_cover, range_cover, of_covers, literal_cover}
use Rattle.go_tree.proofs.GoTypes.TypingAlike as free
use Rattle.field_keys.specs.Below.{AgreesBelow}
use Rattle.field_keys.specs.Looked.{type_above, under_above, under_inner, looked_expr, looked_exprs, looked_expr_option, looked_elems, looked_key, looked_value, looked_stmt, looked_stmts, looked_stmt_option, looked_block_option, looked_left, looked_arms, looked_cases, looked_specs}
use Rattle.field_keys.proofs.Below.{below_in_block, below_after, name_below, type_meant-below, written_type-below, func_type-below, Fits, unknown, known, fits_literal, fits_inside, fits_values, fits_keys}
use Rattle.field_keys.proofs.Only.{new_variables_only, of_only, or_only, declares_only, first_only, range_only, literal_only}

-- what follows an answer
then_each : {A B : Type 0} {p q : Option A} (k l : A → Option B) → p ≡ q → ((x : A) → p ≡ Some x → k x ≡ l x) → given p k ≡ given q l
then_each {p = None} k l e h = ap (λ r. given r l) e
then_each {p = Some x} k l e h = h x refl ∙ ap (λ r. given r l) e

both_each : {A B C : Type 0} {p q : Option A} {r s : Option B} (k l : A → B → Option C) → p ≡ q → r ≡ s → ((x : A) (y : B) → r ≡ Some y → k x y ≡ l x y) → both p r k ≡ both q s l
both_each {p = None} {r = r} k l d e h = λ w. both (d w) (e w) l
both_each {p = Some x} {r = None} k l d e h = λ w. both (d w) (e w) l
both_each {p = Some x} {r = Some y} k l d e h = h x y refl ∙ (λ w. both (d w) (e w) l)

-- what follows from a key, where it isn't that of a struct
unless_kept : {A B : Type 0} (b : Bool) (x : Option B) (f : A → Option B) {p q : Option A} → (b ≡ false → p ≡ q) → (if b then x else given p f) ≡ (if b then x else given q f)
unless_kept true x f h = refl
unless_kept false x f h = ap (λ r. given r f) (h refl)

pub none_or : {A : Type 0} (b : Bool) {xs ys : List A} → (b ≡ false → xs ≡ ys) → (if b then [] else xs) ≡ (if b then [] else ys)
none_or true h = refl
none_or false h = h refl

-- `:=` looks up names of the innermost block alone
defined-alike : {top : Env} (ns : List (List ℕ)) (vs : List Typed) (a : Env) (m : Environment Entity) (around : List (List ℕ)) → AgreesBelow top around a m → defined_by (defined_in a) a ns vs ≡ defined_by (defined_in a) (with_names a m) ns vs
defined-alike [] [] a m around g = refl
defined-alike [] (v ∷ vs) a m around g = refl
defined-alike (n ∷ ns) [] a m around g = refl
defined-alike (n ∷ ns) (v ∷ vs) a m around g = go (is_declared_here a n) refl (defined-alike ns vs a m around g)
  where
    go : (d : Bool) → is_declared_here a n ≡ d → defined_by (defined_in a) a ns vs ≡ defined_by (defined_in a) (with_names a m) ns vs
        → (if d then only_if (assigns_to (defined_in a) (meaning a n) v) (defined_by (defined_in a) a ns vs) else both (variable_entity (defined_in a) None v) (defined_by (defined_in a) a ns vs) (λ e bs. Some (Rattle.go_tree.specs.ScopeNames.Means.binding n e ++ bs)))
        ≡ (if d then only_if (assigns_to (defined_in a) (means m n) v) (defined_by (defined_in a) (with_names a m) ns vs) else both (variable_entity (defined_in a) None v) (defined_by (defined_in a) (with_names a m) ns vs) (λ e bs. Some (Rattle.go_tree.specs.ScopeNames.Means.binding n e ++ bs)))
    go true d e = λ w. only_if (assigns_to (defined_in a) (g.agrees.here n d w) v) (e w)
    go false d e = λ w. both (variable_entity (defined_in a) None v) (e w) (λ e bs. Some (Rattle.go_tree.specs.ScopeNames.Means.binding n e ++ bs))

pub new_by_define-alike : {top : Env} (ns : List (List ℕ)) (vs : Option (List Typed)) (a : Env) (m : Environment Entity) (around : List (List ℕ)) → AgreesBelow top around a m → new_by_define a ns vs ≡ new_by_define (with_names a m) ns vs
new_by_define-alike ns None a m around g = refl
new_by_define-alike ns (Some vs) a m around g = ap (λ r. only_if (names_once ns) (some_declared r)) (defined-alike ns vs a m around g)

impossible : {A B : Type 0} {x : B} → None ≡ Some x → A
impossible e = grind arith

or_covers : (names : List (List ℕ)) (r : Option Binds) (k : Env) → ((bs : Binds) → r ≡ Some bs → Covers names bs k) → Covers names (binds_or names r) k
or_covers names None k f = of_covers names None k (λ d e. impossible e)
or_covers names (Some bs) k f = f bs refl

kept : (ns : List (List ℕ)) (bs : Binds) (a : Env) (m : Environment Entity) → On ns a m → On ns (extend bs a) (bs ++ m)
kept ns bs a m h n i = under_same n bs a.names m (h n i)

append_in_turn : (xs ys zs : List (List ℕ)) → (xs ++ ys) ++ zs ≡ xs ++ (ys ++ zs)
append_in_turn [] ys zs = refl
append_in_turn (x ∷ xs) ys zs = ap (λ l. x ∷ l) (append_in_turn xs ys zs)

module _ {S : Type 0} where
  first_declares : (c : Ctx) (a : Env) (i : StmtOption S) (d : Declared) → first c a i ≡ Some d → declares_first a i ≡ Some d
  first_declares c a no_stmt d e = e
  first_declares c a (some_stmt s) d e = go (stmt c a s) (declares a s) e
    where
      go : (p : Option Bool) (q : Option Declared) → both p q (λ ends d. Some d) ≡ Some d → q ≡ Some d
      go None q e = impossible e
      go (Some b) None e = impossible e
      go (Some b) (Some x) e = e

  -- `top` is the place at the top of the file; what a key looks up that isn't that of a struct
  pub key_on : (top : Env) (a : Env) (m : Environment Entity) (s : Option GoType) (k : Value S) (around : List (List ℕ)) {t u : Option GoType} → Fits t u → meets u is_struct ≡ false → On (if meets t is_struct then [] else looked_value top around s k) a m → On (looked_value top around s k) a m
  key_on top a m s k around unknown e h = h
  key_on top a m s k around known e h = subst (λ (b : Bool). On (if b then [] else looked_value top around s k) a m) e h

module _ {S : Type 0} {top : Env} where
  package_before-alike : (a : Env) (e : Expr S) (m : Environment Entity) (around : List (List ℕ)) → AgreesBelow top around a m → On (looked_expr top around e) a m → package_before a e ≡ package_before (with_names a m) e
  package_before-alike a (ident _ n) m around g h = ap package_of (name_below n around a m g h)
  package_before-alike a _ m around g h = refl

  is_panic-alike : (a : Env) (e : Expr S) (m : Environment Entity) (around : List (List ℕ)) → AgreesBelow top around a m → On (looked_expr top around e) a m → is_panic a e ≡ is_panic (with_names a m) e
  is_panic-alike a (call _ (ident _ n) xs _) m around g h = ap means_panic (name_below n around a m g (on_first (unless_declared around n) (looked_exprs top around xs) a m h))
  is_panic-alike a _ m around g h = refl

  -- ---- typing, rule by rule

  mutual
    pub parts-alike : (a : Env) (u : Expr S) (m : Environment Entity) (around : List (List ℕ)) → AgreesBelow top around a m → On (looked_expr top around u) a m → parts a u ≡ parts (with_names a m) u
    parts-alike a (ident _ n) m around g h = λ w. named_operand a ((name_below n around a m g h w))
    parts-alike a (int_lit _ s) m around g h = λ w. literal_operand kind.UntypedInt (number (pos (integer_value s)))
    parts-alike a (rune_lit _ s) m around g h = λ w. literal_operand kind.UntypedRune (literal_value s)
    parts-alike a (str_lit _ s) m around g h = λ w. literal_operand kind.UntypedStr (text (text_value s))
    parts-alike a (composite _ t es) m around g h =
        let us : List (List ℕ) = looked_elems top around (under_above top (type_above top around t)) es in
        then_each _ _ (type_meant-below a t m around g (on_first (free_type around t) us a m h)) (λ u e. ap (λ r. given r (built (defined_in a) a.home u))
        (elements-alike a (under (defined_in a) u) (under_above top (type_above top around t)) (subst (λ o. Fits (under_above top (type_above top around t)) (given o (λ y. Some (under (defined_in a) y)))) e (fits_literal g t)) es m around g (on_second (free_type around t) us a m h)))
    parts-alike a (selector _ b n) m around g h = λ w. elim ((package_before-alike a b m around g h w)) [ Some p ↦ named_operand a (exported a.world p n.name) | None ↦ given ((parts-alike a b m around g h w)) (λ o. with_value o (selected (defined_in a) a.home n.name ((place-alike a b m around g h w)))) ]
    parts-alike a (index _ b i) m around g h = λ w. both ((parts-alike a b m around g (on_first (looked_expr top around b) (looked_expr top around i) a m h) w)) ((parts-alike a i m around g (on_second (looked_expr top around b) (looked_expr top around i) a m h) w)) (λ o j. both (typed o) (typed j) (index_of (defined_in a)))
    parts-alike a (slice _ b i j) m around g h = λ w. given ((parts-alike a b m around g (on_first (looked_expr top around b) (looked_expr_option top around i) a m (on_first (looked_expr top around b ++ looked_expr_option top around i) (looked_expr_option top around j) a m h)) w)) (λ o. both ((bound-alike a i m around g (on_second (looked_expr top around b) (looked_expr_option top around i) a m (on_first (looked_expr top around b ++ looked_expr_option top around i) (looked_expr_option top around j) a m h)) w)) ((bound-alike a j m around g (on_second (looked_expr top around b ++ looked_expr_option top around i) (looked_expr_option top around j) a m h) w)) (λ i j. with_value o (λ v. sliced (defined_in a) v i j)))
    parts-alike a (call _ f xs _) m around g h = λ w. both ((parts-alike a f m around g (on_first (looked_expr top around f) (looked_exprs top around xs) a m h) w)) ((all_parts-alike a xs m around g (on_second (looked_expr top around f) (looked_exprs top around xs) a m h) w)) (call_of (defined_in a))
    parts-alike a (func_lit _ s _ b) m around g h =
        then_each _ _ (func_type-below a s m around g (on_first (free_params around s.params) (free_params around s.results) a m (on_first (free_params around s.params ++ free_params around s.results) (looked_stmts top (sig_names s ++ around) b) a m h)) (on_second (free_params around s.params) (free_params around s.results) a m (on_first (free_params around s.params ++ free_params around s.results) (looked_stmts top (sig_names s ++ around) b) a m h))) (λ f e. then_each _ _ refl (λ bs q. ap (λ r. only_if (is_body f b r) (Some (a_function f)))
        (stmts-alike (body_ctx s f) (extend bs (in_block a)) false b (bs ++ m) (sig_names s ++ around) (below_after (sig_names s) around bs (in_block a) m (literal_cover a (in_block a) s bs (ap (λ r. given r (body_binds [] s)) e ∙ q)) (literal_only a (in_block a) s bs (ap (λ r. given r (body_binds [] s)) e ∙ q)) (below_in_block g)) (kept (looked_stmts top (sig_names s ++ around) b) bs a m (on_second (free_params around s.params ++ free_params around s.results) (looked_stmts top (sig_names s ++ around) b) a m h)))))
    parts-alike a (type_operand _ t) m around g h = λ w. given ((type_meant-below a t m around g h w)) (λ u. Some (a_type u))
    parts-alike a (unary _ op e) m around g h = λ w. given ((parts-alike a e m around g h w)) (unary_of (defined_in a) op ((place-alike a e m around g h w)))
    parts-alike a (binary _ op x y) m around g h = λ w. both ((parts-alike a x m around g (on_first (looked_expr top around x) (looked_expr top around y) a m h) w)) ((parts-alike a y m around g (on_second (looked_expr top around x) (looked_expr top around y) a m h) w)) (binary_of (defined_in a) op)
    parts-alike a (star _ e) m around g h = λ w. given ((parts-alike a e m around g h w)) (star_of (defined_in a))

    pub all_parts-alike : (a : Env) (u : Exprs S) (m : Environment Entity) (around : List (List ℕ)) → AgreesBelow top around a m → On (looked_exprs top around u) a m → all_parts a u ≡ all_parts (with_names a m) u
    all_parts-alike a no_exprs m around g h = λ w. Some []
    all_parts-alike a (expr_and e es) m around g h = λ w. both ((parts-alike a e m around g (on_first (looked_expr top around e) (looked_exprs top around es) a m h) w)) ((all_parts-alike a es m around g (on_second (looked_expr top around e) (looked_exprs top around es) a m h) w)) (λ o os. Some (o ∷ os))

    pub bound-alike : (a : Env) (u : ExprOption S) (m : Environment Entity) (around : List (List ℕ)) → AgreesBelow top around a m → On (looked_expr_option top around u) a m → bound a u ≡ bound (with_names a m) u
    bound-alike a no_expr m around g h = λ w. Some None
    bound-alike a (some_expr e) m around g h = λ w. given ((parts-alike a e m around g h w)) (λ o. with_value o (λ v. Some (Some v)))

    pub elements-alike : (a : Env) (u : GoType) (t : Option GoType) → Fits t (Some u) → (v : Elems S) (m : Environment Entity) (around : List (List ℕ)) → AgreesBelow top around a m → On (looked_elems top around t v) a m → elements a u v ≡ elements (with_names a m) u v
    elements-alike a u t f no_elems m around g h = λ w. Some []
    elements-alike a u t f (elem _ k v es) m around g h =
        let ks : List (List ℕ) = looked_key top around t k in let vs : List (List ℕ) = looked_value top around (given t (inner_type (defined_in top))) v in let rest : List (List ℕ) = looked_elems top around t es in
        let j : On (ks ++ vs) a m = on_first (ks ++ vs) rest a m h in
        λ w. both (given (element-alike a (inner_type (defined_in a) u) (given t (inner_type (defined_in top))) (fits_values g f) v m around g (on_second ks vs a m j) w) (λ o. with_key-alike a u t f k o m around g (on_first ks vs a m j) w)) (elements-alike a u t f es m around g (on_second (ks ++ vs) rest a m h) w) (λ x xs. Some (x ∷ xs))

    pub element-alike : (a : Env) (u t : Option GoType) → Fits t u → (v : Value S) (m : Environment Entity) (around : List (List ℕ)) → AgreesBelow top around a m → On (looked_value top around t v) a m → element a u v ≡ element (with_names a m) u v
    element-alike a u t f (plain e) m around g h = parts-alike a e m around g h
    element-alike a u t f (braced _ es) m around g h =
        then_each _ _ refl (λ x e. ap (λ r. given r (built_inside (defined_in a) a.home x))
        (elements-alike a (under (defined_in a) (literal_type (defined_in a) x)) (under_inner top t) (subst (λ o. Fits (under_inner top t) (given o (λ y. Some (under (defined_in a) (literal_type (defined_in a) y))))) e (fits_inside g f)) es m around g h))

    pub with_key-alike : (a : Env) (u : GoType) (t : Option GoType) → Fits t (Some u) → (v : ValueOption S) (x : Operand) (m : Environment Entity) (around : List (List ℕ)) → AgreesBelow top around a m → On (looked_key top around t v) a m → with_key a u v x ≡ with_key (with_names a m) u v x
    with_key-alike a u t f no_value o m around g h = refl
    with_key-alike a u t f (some_value k) o m around g h =
        unless_kept (is_struct u) (given (field_key k) (λ n. Some (of_field n o))) (λ q. Some (keyed q o)) (λ e. element-alike a (key_type (defined_in a) u) (given t (key_type (defined_in top))) (fits_keys g f) k m around g (key_on top a m (given t (key_type (defined_in top))) k around f e h))

    pub place-alike : (a : Env) (u : Expr S) (m : Environment Entity) (around : List (List ℕ)) → AgreesBelow top around a m → On (looked_expr top around u) a m → place a u ≡ place (with_names a m) u
    place-alike a (ident _ n) m around g h = λ w. named_place ((name_below n around a m g h w))
    place-alike a (composite _ t es) m around g h = λ w. literal
    place-alike a (selector _ b n) m around g h = λ w. elim ((package_before-alike a b m around g h w)) [ Some p ↦ named_place (exported a.world p n.name) | None ↦ place_by ((parts-alike a b m around g h w)) (selected_place (defined_in a) a.home n.name ((place-alike a b m around g h w))) ]
    place-alike a (index _ b i) m around g h = λ w. place_by ((parts-alike a b m around g (on_first (looked_expr top around b) (looked_expr top around i) a m h) w)) (index_place (defined_in a))
    place-alike a (star _ e) m around g h = λ w. place_by (parts-alike a e m around g h w) (λ v. addressable)
    place-alike a e m around g h = λ w. elsewhere

    pub places-alike : (a : Env) (u : Exprs S) (m : Environment Entity) (around : List (List ℕ)) → AgreesBelow top around a m → On (looked_exprs top around u) a m → places a u ≡ places (with_names a m) u
    places-alike a no_exprs m around g h = λ w. []
    places-alike a (expr_and e es) m around g h = λ w. (place-alike a e m around g (on_first (looked_expr top around e) (looked_exprs top around es) a m h) w) ∷ (places-alike a es m around g (on_second (looked_expr top around e) (looked_exprs top around es) a m h) w)

    pub used-alike : (a : Env) (u : Expr S) (m : Environment Entity) (around : List (List ℕ)) → AgreesBelow top around a m → On (looked_expr top around u) a m → used a u ≡ used (with_names a m) u
    used-alike a (ident _ n) m around g h = λ w. n ∷ []
    used-alike a (int_lit _ s) m around g h = λ w. []
    used-alike a (rune_lit _ s) m around g h = λ w. []
    used-alike a (str_lit _ s) m around g h = λ w. []
    used-alike a (composite _ t es) m around g h =
        let us : List (List ℕ) = looked_elems top around (under_above top (type_above top around t)) es in
        ap (λ ns. free_type [] t ++ ns)
        (used_elems-alike a (given (type_meant a t) (λ u. Some (under (defined_in a) u))) (under_above top (type_above top around t)) (fits_literal g t) es m around g (on_second (free_type around t) us a m h)
        ∙ ap (λ o. used_elems (with_names a m) (given o (λ u. Some (under (defined_in a) u))) es) (type_meant-below a t m around g (on_first (free_type around t) us a m h)))
    used-alike a (selector _ b n) m around g h = λ w. (used-alike a b m around g h w)
    used-alike a (index _ b i) m around g h = λ w. (used-alike a b m around g (on_first (looked_expr top around b) (looked_expr top around i) a m h) w) ++ (used-alike a i m around g (on_second (looked_expr top around b) (looked_expr top around i) a m h) w)
    used-alike a (slice _ b i j) m around g h = λ w. (used-alike a b m around g (on_first (looked_expr top around b) (looked_expr_option top around i) a m (on_first (looked_expr top around b ++ looked_expr_option top around i) (looked_expr_option top around j) a m h)) w) ++ (used_option-alike a i m around g (on_second (looked_expr top around b) (looked_expr_option top around i) a m (on_first (looked_expr top around b ++ looked_expr_option top around i) (looked_expr_option top around j) a m h)) w) ++ (used_option-alike a j m around g (on_second (looked_expr top around b ++ looked_expr_option top around i) (looked_expr_option top around j) a m h) w)
    used-alike a (call _ f xs _) m around g h = λ w. (used-alike a f m around g (on_first (looked_expr top around f) (looked_exprs top around xs) a m h) w) ++ (used_all-alike a xs m around g (on_second (looked_expr top around f) (looked_exprs top around xs) a m h) w)
    used-alike a (func_lit _ s _ b) m around g h =
        let r : Option Binds = given (func_type a s) (body_binds [] s) in let bs : Binds = binds_or (sig_names s) r in
        (λ w. free_params [] s.params ++ free_params [] s.results ++ without (sig_names s) (used_stmts-alike (extend bs (in_block a)) b (bs ++ m) (sig_names s ++ around) (below_after (sig_names s) around bs (in_block a) m (or_covers (sig_names s) r (in_block a) (literal_cover a (in_block a) s)) (or_only (sig_names s) r (in_block a) (literal_only a (in_block a) s)) (below_in_block g)) (kept (looked_stmts top (sig_names s ++ around) b) bs a m (on_second (free_params around s.params ++ free_params around s.results) (looked_stmts top (sig_names s ++ around) b) a m h)) w))
        ∙ ap (λ r. free_params [] s.params ++ free_params [] s.results ++ without (sig_names s) (used_stmts (extend (binds_or (sig_names s) (given r (body_binds [] s))) (in_block (with_names a m))) b)) (func_type-below a s m around g (on_first (free_params around s.params) (free_params around s.results) a m (on_first (free_params around s.params ++ free_params around s.results) (looked_stmts top (sig_names s ++ around) b) a m h)) (on_second (free_params around s.params) (free_params around s.results) a m (on_first (free_params around s.params ++ free_params around s.results) (looked_stmts top (sig_names s ++ around) b) a m h)))
    used-alike a (type_operand _ t) m around g h = λ w. free_type [] t
    used-alike a (unary _ op e) m around g h = λ w. (used-alike a e m around g h w)
    used-alike a (binary _ op x y) m around g h = λ w. (used-alike a x m around g (on_first (looked_expr top around x) (looked_expr top around y) a m h) w) ++ (used-alike a y m around g (on_second (looked_expr top around x) (looked_expr top around y) a m h) w)
    used-alike a (star _ e) m around g h = λ w. (used-alike a e m around g h w)

    pub used_all-alike : (a : Env) (u : Exprs S) (m : Environment Entity) (around : List (List ℕ)) → AgreesBelow top around a m → On (looked_exprs top around u) a m → used_all a u ≡ used_all (with_names a m) u
    used_all-alike a no_exprs m around g h = λ w. []
    used_all-alike a (expr_and e es) m around g h = λ w. (used-alike a e m around g (on_first (looked_expr top around e) (looked_exprs top around es) a m h) w) ++ (used_all-alike a es m around g (on_second (looked_expr top around e) (looked_exprs top around es) a m h) w)

    pub used_option-alike : (a : Env) (u : ExprOption S) (m : Environment Entity) (around : List (List ℕ)) → AgreesBelow top around a m → On (looked_expr_option top around u) a m → used_option a u ≡ used_option (with_names a m) u
    used_option-alike a no_expr m around g h = λ w. []
    used_option-alike a (some_expr e) m around g h = λ w. (used-alike a e m around g h w)

    pub used_elems-alike : (a : Env) (u t : Option GoType) → Fits t u → (v : Elems S) (m : Environment Entity) (around : List (List ℕ)) → AgreesBelow top around a m → On (looked_elems top around t v) a m → used_elems a u v ≡ used_elems (with_names a m) u v
    used_elems-alike a u t f no_elems m around g h = λ w. []
    used_elems-alike a u t f (elem _ k v es) m around g h =
        let ks : List (List ℕ) = looked_key top around t k in let vs : List (List ℕ) = looked_value top around (given t (inner_type (defined_in top))) v in let rest : List (List ℕ) = looked_elems top around t es in
        let j : On (ks ++ vs) a m = on_first (ks ++ vs) rest a m h in
        λ w. used_key-alike a u t f k m around g (on_first ks vs a m j) w ++ used_value-alike a (given u (inner_type (defined_in a))) (given t (inner_type (defined_in top))) (fits_values g f) v m around g (on_second ks vs a m j) w ++ used_elems-alike a u t f es m around g (on_second (ks ++ vs) rest a m h) w

    pub used_key-alike : (a : Env) (u t : Option GoType) → Fits t u → (v : ValueOption S) (m : Environment Entity) (around : List (List ℕ)) → AgreesBelow top around a m → On (looked_key top around t v) a m → used_key a u v ≡ used_key (with_names a m) u v
    used_key-alike a u t f no_value m around g h = λ w. []
    used_key-alike a u t f (some_value k) m around g h =
        none_or (meets u is_struct) (λ e. used_value-alike a (given u (key_type (defined_in a))) (given t (key_type (defined_in top))) (fits_keys g f) k m around g (key_on top a m (given t (key_type (defined_in top))) k around f e h))

    pub used_value-alike : (a : Env) (u t : Option GoType) → Fits t u → (v : Value S) (m : Environment Entity) (around : List (List ℕ)) → AgreesBelow top around a m → On (looked_value top around t v) a m → used_value a u v ≡ used_value (with_names a m) u v
    used_value-alike a u t f (plain e) m around g h = used-alike a e m around g h
    used_value-alike a u t f (braced _ es) m around g h = used_elems-alike a (given u (λ y. Some (under (defined_in a) (literal_type (defined_in a) y)))) (under_inner top t) (fits_inside g f) es m around g h

    pub used_left-alike : (a : Env) (u : Exprs S) (m : Environment Entity) (around : List (List ℕ)) → AgreesBelow top around a m → On (looked_exprs top around u) a m → used_left a u ≡ used_left (with_names a m) u
    used_left-alike a no_exprs m around g h = λ w. []
    used_left-alike a (expr_and (ident _ n) es) m around g h = λ w. (used_left-alike a es m around g (on_second (unless_declared around n) (looked_exprs top around es) a m h) w)
    used_left-alike a (expr_and e es) m around g h = λ w. (used-alike a e m around g (on_first (looked_expr top around e) (looked_exprs top around es) a m h) w) ++ (used_left-alike a es m around g (on_second (looked_expr top around e) (looked_exprs top around es) a m h) w)

    pub used_stmt-alike : (a : Env) (u : Stmt S) (m : Environment Entity) (around : List (List ℕ)) → AgreesBelow top around a m → On (looked_stmt top around u) a m → used_stmt a u ≡ used_stmt (with_names a m) u
    used_stmt-alike a (const_decl s b ss) m around g h = free.used_stmt-alike a (const_decl s b ss) m around g.agrees h
    used_stmt-alike a (var_decl _ _ ss) m around g h = λ w. (used_variables-alike a ss m around g h w)
    used_stmt-alike a (empty _) m around g h = λ w. []
    used_stmt-alike a (eval _ e) m around g h = λ w. (used-alike a e m around g h w)
    used_stmt-alike a (step _ e up) m around g h = λ w. (used-alike a e m around g h w)
    used_stmt-alike a (assign _ ls None rs) m around g h = λ w. (used_left-alike a ls m around g (on_first (looked_exprs top around ls) (looked_exprs top around rs) a m h) w) ++ (used_all-alike a rs m around g (on_second (looked_exprs top around ls) (looked_exprs top around rs) a m h) w)
    used_stmt-alike a (assign _ ls (Some op) rs) m around g h = λ w. (used_all-alike a ls m around g (on_first (looked_exprs top around ls) (looked_exprs top around rs) a m h) w) ++ (used_all-alike a rs m around g (on_second (looked_exprs top around ls) (looked_exprs top around rs) a m h) w)
    used_stmt-alike a (define _ ns rs) m around g h = λ w. (used_all-alike a rs m around g h w)
    used_stmt-alike a (return_ _ es) m around g h = λ w. (used_all-alike a es m around g h w)
    used_stmt-alike a (break_ _ n) m around g h = λ w. []
    used_stmt-alike a (continue_ _ n) m around g h = λ w. []
    used_stmt-alike a (inner _ b) m around g h = λ w. (used_stmts-alike (in_block a) b m around (below_in_block g) h w)
    used_stmt-alike a (if_ _ bs last) m around g h = used_arms-alike (in_block a) (λ k. used_block k last) bs m around (looked_block_option top (arms_declared bs ++ around) last) (below_in_block g) (on_first (looked_arms top around bs) (looked_block_option top (arms_declared bs ++ around) last) a m h) (on_second (looked_arms top around bs) (looked_block_option top (arms_declared bs ++ around) last) a m h) (λ k l q r. used_block-alike k last l (arms_declared bs ++ around) q r)
    used_stmt-alike a (for_ _ i t p _ b) m around g h =
        let bs : Binds = binds_of (declared_option i) (declares_first (in_block a) i) in let k : Env = extend bs (in_block a) in let l : Environment Entity = bs ++ m in let q : AgreesBelow top (declared_option i ++ around) k l = below_after (declared_option i) around bs (in_block a) m (of_covers (declared_option i) (declares_first (in_block a) i) (in_block a) (first_cover i (in_block a))) (of_only (declared_option i) (declares_first (in_block a) i) (in_block a) (first_only i (in_block a))) (below_in_block g) in
        (λ w. used_first-alike (in_block a) i m around (below_in_block g) (on_first (looked_stmt_option top around i) (looked_expr_option top (declared_option i ++ around) t) a m (on_first (looked_stmt_option top around i ++ looked_expr_option top (declared_option i ++ around) t) (looked_stmt_option top (declared_option i ++ around) p) a m (on_first (looked_stmt_option top around i ++ looked_expr_option top (declared_option i ++ around) t ++ looked_stmt_option top (declared_option i ++ around) p) (looked_stmts top (declared_option i ++ around) b) a m h))) w ++ beyond bs (used_option-alike k t l (declared_option i ++ around) q (kept (looked_expr_option top (declared_option i ++ around) t) bs a m (on_second (looked_stmt_option top around i) (looked_expr_option top (declared_option i ++ around) t) a m (on_first (looked_stmt_option top around i ++ looked_expr_option top (declared_option i ++ around) t) (looked_stmt_option top (declared_option i ++ around) p) a m (on_first (looked_stmt_option top around i ++ looked_expr_option top (declared_option i ++ around) t ++ looked_stmt_option top (declared_option i ++ around) p) (looked_stmts top (declared_option i ++ around) b) a m h)))) w ++ used_first-alike k p l (declared_option i ++ around) q (kept (looked_stmt_option top (declared_option i ++ around) p) bs a m (on_second (looked_stmt_option top around i ++ looked_expr_option top (declared_option i ++ around) t) (looked_stmt_option top (declared_option i ++ around) p) a m (on_first (looked_stmt_option top around i ++ looked_expr_option top (declared_option i ++ around) t ++ looked_stmt_option top (declared_option i ++ around) p) (looked_stmts top (declared_option i ++ around) b) a m h))) w ++ used_stmts-alike (in_block k) b l (declared_option i ++ around) (below_in_block q) (kept (looked_stmts top (declared_option i ++ around) b) bs a m (on_second (looked_stmt_option top around i ++ looked_expr_option top (declared_option i ++ around) t ++ looked_stmt_option top (declared_option i ++ around) p) (looked_stmts top (declared_option i ++ around) b) a m h)) w))
        ∙ ap (λ d. let bs : Binds = binds_of (declared_option i) d in let k : Env = extend bs (in_block (with_names a m)) in used_first (in_block (with_names a m)) i ++ beyond bs (used_option k t ++ used_first k p ++ used_stmts (in_block k) b)) (declares_first-alike (in_block a) i m around (below_in_block g) (on_first (looked_stmt_option top around i) (looked_expr_option top (declared_option i ++ around) t) a m (on_first (looked_stmt_option top around i ++ looked_expr_option top (declared_option i ++ around) t) (looked_stmt_option top (declared_option i ++ around) p) a m (on_first (looked_stmt_option top around i ++ looked_expr_option top (declared_option i ++ around) t ++ looked_stmt_option top (declared_option i ++ around) p) (looked_stmts top (declared_option i ++ around) b) a m h))))
    used_stmt-alike a (range_ _ x e _ b) m around g h =
        let o : Option Operand = parts a e in let bs : Binds = binds_of (defined x) (range_declares a o x) in let k : Env = extend bs (in_block a) in let l : Environment Entity = bs ++ m in
        let q : AgreesBelow top (defined x ++ around) k l = below_after (defined x) around bs (in_block a) m (of_covers (defined x) (range_declares a o x) (in_block a) (range_cover x a (in_block a) o)) (of_only (defined x) (range_declares a o x) (in_block a) (range_only x a (in_block a) o)) (below_in_block g) in
        (λ w. used_range-alike a x m around g (on_first (looked_left top around x) (looked_expr top around e) a m (on_first (looked_left top around x ++ looked_expr top around e) (looked_stmts top (defined x ++ around) b) a m h)) w ++ used-alike a e m around g (on_second (looked_left top around x) (looked_expr top around e) a m (on_first (looked_left top around x ++ looked_expr top around e) (looked_stmts top (defined x ++ around) b) a m h)) w ++ beyond bs (used_stmts-alike (in_block k) b l (defined x ++ around) (below_in_block q) (kept (looked_stmts top (defined x ++ around) b) bs a m (on_second (looked_left top around x ++ looked_expr top around e) (looked_stmts top (defined x ++ around) b) a m h)) w))
        ∙ ap (λ d. let bs : Binds = binds_of (defined x) d in used_range (with_names a m) x ++ used (with_names a m) e ++ beyond bs (used_stmts (in_block (extend bs (in_block (with_names a m)))) b)) (λ w. range_declares-alike a (parts-alike a e m around g (on_second (looked_left top around x) (looked_expr top around e) a m (on_first (looked_left top around x ++ looked_expr top around e) (looked_stmts top (defined x ++ around) b) a m h)) w) x m around g (on_first (looked_left top around x) (looked_expr top around e) a m (on_first (looked_left top around x ++ looked_expr top around e) (looked_stmts top (defined x ++ around) b) a m h)) w)
    used_stmt-alike a (switch _ i t cs) m around g h =
        let bs : Binds = binds_of (declared_option i) (declares_first (in_block a) i) in let k : Env = extend bs (in_block a) in let l : Environment Entity = bs ++ m in let q : AgreesBelow top (declared_option i ++ around) k l = below_after (declared_option i) around bs (in_block a) m (of_covers (declared_option i) (declares_first (in_block a) i) (in_block a) (first_cover i (in_block a))) (of_only (declared_option i) (declares_first (in_block a) i) (in_block a) (first_only i (in_block a))) (below_in_block g) in
        (λ w. used_first-alike (in_block a) i m around (below_in_block g) (on_first (looked_stmt_option top around i) (looked_expr_option top (declared_option i ++ around) t) a m (on_first (looked_stmt_option top around i ++ looked_expr_option top (declared_option i ++ around) t) (looked_cases top (declared_option i ++ around) cs) a m h)) w ++ beyond bs (used_option-alike k t l (declared_option i ++ around) q (kept (looked_expr_option top (declared_option i ++ around) t) bs a m (on_second (looked_stmt_option top around i) (looked_expr_option top (declared_option i ++ around) t) a m (on_first (looked_stmt_option top around i ++ looked_expr_option top (declared_option i ++ around) t) (looked_cases top (declared_option i ++ around) cs) a m h))) w ++ used_cases-alike k cs l (declared_option i ++ around) q (kept (looked_cases top (declared_option i ++ around) cs) bs a m (on_second (looked_stmt_option top around i ++ looked_expr_option top (declared_option i ++ around) t) (looked_cases top (declared_option i ++ around) cs) a m h)) w))
        ∙ ap (λ d. let bs : Binds = binds_of (declared_option i) d in let k : Env = extend bs (in_block (with_names a m)) in used_first (in_block (with_names a m)) i ++ beyond bs (used_option k t ++ used_cases k cs)) (declares_first-alike (in_block a) i m around (below_in_block g) (on_first (looked_stmt_option top around i) (looked_expr_option top (declared_option i ++ around) t) a m (on_first (looked_stmt_option top around i ++ looked_expr_option top (declared_option i ++ around) t) (looked_cases top (declared_option i ++ around) cs) a m h)))
    used_stmt-alike a (defer _ e) m around g h = λ w. (used-alike a e m around g h w)
    used_stmt-alike a (label _ n s) m around g h = λ w. (used_stmt-alike a s m around g h w)

    pub used_stmts-alike : (a : Env) (u : Stmts S) (m : Environment Entity) (around : List (List ℕ)) → AgreesBelow top around a m → On (looked_stmts top around u) a m → used_stmts a u ≡ used_stmts (with_names a m) u
    used_stmts-alike a no_stmts m around g h = λ w. []
    used_stmts-alike a (stmt_and s ss) m around g h =
        let bs : Binds = binds_of (declared s) (declares a s) in let k : Env = extend bs a in let l : Environment Entity = bs ++ m in let q : AgreesBelow top (declared s ++ around) k l = below_after (declared s) around bs a m (of_covers (declared s) (declares a s) a (declares_cover s a)) (of_only (declared s) (declares a s) a (declares_only s a)) g in
        (λ w. used_stmt-alike a s m around g (on_first (looked_stmt top around s) (looked_stmts top (declared s ++ around) ss) a m h) w ++ beyond bs (used_stmts-alike k ss l (declared s ++ around) q (kept (looked_stmts top (declared s ++ around) ss) bs a m (on_second (looked_stmt top around s) (looked_stmts top (declared s ++ around) ss) a m h)) w))
        ∙ ap (λ d. let bs : Binds = binds_of (declared s) d in used_stmt (with_names a m) s ++ beyond bs (used_stmts (extend bs (with_names a m)) ss)) (declares-alike a s m around g (on_first (looked_stmt top around s) (looked_stmts top (declared s ++ around) ss) a m h))

    pub used_first-alike : (a : Env) (u : StmtOption S) (m : Environment Entity) (around : List (List ℕ)) → AgreesBelow top around a m → On (looked_stmt_option top around u) a m → used_first a u ≡ used_first (with_names a m) u
    used_first-alike a no_stmt m around g h = λ w. []
    used_first-alike a (some_stmt s) m around g h = λ w. (used_stmt-alike a s m around g h w)

    pub used_block-alike : (a : Env) (u : BlockOption S) (m : Environment Entity) (around : List (List ℕ)) → AgreesBelow top around a m → On (looked_block_option top around u) a m → used_block a u ≡ used_block (with_names a m) u
    used_block-alike a no_block m around g h = λ w. []
    used_block-alike a (some_block _ b) m around g h = λ w. (used_stmts-alike (in_block a) b m around (below_in_block g) h w)

    pub used_range-alike : (a : Env) (u : RangeLeft S) (m : Environment Entity) (around : List (List ℕ)) → AgreesBelow top around a m → On (looked_left top around u) a m → used_range a u ≡ used_range (with_names a m) u
    used_range-alike a nothing m around g h = λ w. []
    used_range-alike a (assigns es) m around g h = λ w. (used_left-alike a es m around g h w)
    used_range-alike a (defines ns) m around g h = λ w. []

    pub used_arms-alike : (a : Env) (u : Env → List (List ℕ)) (x : Arms S) (m : Environment Entity) (around free : List (List ℕ)) → AgreesBelow top around a m → On (looked_arms top around x) a m → On free a m
        → ((k : Env) (l : Environment Entity) → AgreesBelow top (arms_declared x ++ around) k l → On free k l → u k ≡ u (with_names k l)) → used_arms a u x ≡ used_arms (with_names a m) u x
    used_arms-alike a u no_arms m around free g h r f = f a m g r
    used_arms-alike a u (arm _ i e _ b rest) m around free g h r f =
        let bs : Binds = binds_of (declared_option i) (declares_first a i) in let k : Env = extend bs a in let l : Environment Entity = bs ++ m in let q : AgreesBelow top (declared_option i ++ around) k l = below_after (declared_option i) around bs a m (of_covers (declared_option i) (declares_first a i) a (first_cover i a)) (of_only (declared_option i) (declares_first a i) a (first_only i a)) g in
        (λ w. used_first-alike a i m around g (on_first (looked_stmt_option top around i) (looked_expr top (declared_option i ++ around) e) a m (on_first (looked_stmt_option top around i ++ looked_expr top (declared_option i ++ around) e) (looked_stmts top (declared_option i ++ around) b) a m (on_first (looked_stmt_option top around i ++ looked_expr top (declared_option i ++ around) e ++ looked_stmts top (declared_option i ++ around) b) (looked_arms top (declared_option i ++ around) rest) a m h))) w ++ beyond bs (used-alike k e l (declared_option i ++ around) q (kept (looked_expr top (declared_option i ++ around) e) bs a m (on_second (looked_stmt_option top around i) (looked_expr top (declared_option i ++ around) e) a m (on_first (looked_stmt_option top around i ++ looked_expr top (declared_option i ++ around) e) (looked_stmts top (declared_option i ++ around) b) a m (on_first (looked_stmt_option top around i ++ looked_expr top (declared_option i ++ around) e ++ looked_stmts top (declared_option i ++ around) b) (looked_arms top (declared_option i ++ around) rest) a m h)))) w ++ used_stmts-alike (in_block k) b l (declared_option i ++ around) (below_in_block q) (kept (looked_stmts top (declared_option i ++ around) b) bs a m (on_second (looked_stmt_option top around i ++ looked_expr top (declared_option i ++ around) e) (looked_stmts top (declared_option i ++ around) b) a m (on_first (looked_stmt_option top around i ++ looked_expr top (declared_option i ++ around) e ++ looked_stmts top (declared_option i ++ around) b) (looked_arms top (declared_option i ++ around) rest) a m h))) w
        ++ used_arms-alike (in_block k) u rest l (declared_option i ++ around) free (below_in_block q) (kept (looked_arms top (declared_option i ++ around) rest) bs a m (on_second (looked_stmt_option top around i ++ looked_expr top (declared_option i ++ around) e ++ looked_stmts top (declared_option i ++ around) b) (looked_arms top (declared_option i ++ around) rest) a m h)) (kept free bs a m r) (λ k l q r. f k l (subst (λ z. AgreesBelow top z k l) (sym (append_in_turn (arms_declared rest) (declared_option i) around)) q) r) w))
        ∙ ap (λ d. let bs : Binds = binds_of (declared_option i) d in let k : Env = extend bs (with_names a m) in used_first (with_names a m) i ++ beyond bs (used k e ++ used_stmts (in_block k) b ++ used_arms (in_block k) u rest)) (declares_first-alike a i m around g (on_first (looked_stmt_option top around i) (looked_expr top (declared_option i ++ around) e) a m (on_first (looked_stmt_option top around i ++ looked_expr top (declared_option i ++ around) e) (looked_stmts top (declared_option i ++ around) b) a m (on_first (looked_stmt_option top around i ++ looked_expr top (declared_option i ++ around) e ++ looked_stmts top (declared_option i ++ around) b) (looked_arms top (declared_option i ++ around) rest) a m h))))

    pub used_cases-alike : (a : Env) (u : Cases S) (m : Environment Entity) (around : List (List ℕ)) → AgreesBelow top around a m → On (looked_cases top around u) a m → used_cases a u ≡ used_cases (with_names a m) u
    used_cases-alike a no_cases m around g h = λ w. []
    used_cases-alike a (case _ es b cs) m around g h = λ w. (used_all-alike a es m around g (on_first (looked_exprs top around es) (looked_stmts top around b) a m (on_first (looked_exprs top around es ++ looked_stmts top around b) (looked_cases top around cs) a m h)) w) ++ (used_stmts-alike (in_block a) b m around (below_in_block g) (on_second (looked_exprs top around es) (looked_stmts top around b) a m (on_first (looked_exprs top around es ++ looked_stmts top around b) (looked_cases top around cs) a m h)) w) ++ (used_cases-alike a cs m around g (on_second (looked_exprs top around es ++ looked_stmts top around b) (looked_cases top around cs) a m h) w)

    pub used_variables-alike : (a : Env) (u : ValueSpecs S) (m : Environment Entity) (around : List (List ℕ)) → AgreesBelow top around a m → On (looked_specs top around u) a m → used_variables a u ≡ used_variables (with_names a m) u
    used_variables-alike a no_specs m around g h = λ w. []
    used_variables-alike a (spec _ ns t es ss) m around g h =
        let bs : Binds = binds_of (names_of ns) (new_variables a (names_of ns) (written_type a t) (no_values es) (right_values a (length ns) (places a es) (all_parts a es))) in let k : Env = extend bs a in let l : Environment Entity = bs ++ m in let q : AgreesBelow top (names_of ns ++ around) k l = below_after (names_of ns) around bs a m (of_covers (names_of ns) (new_variables a (names_of ns) (written_type a t) (no_values es) (right_values a (length ns) (places a es) (all_parts a es))) a (new_variables_cover a (names_of ns) (written_type a t) (no_values es) (right_values a (length ns) (places a es) (all_parts a es)))) (of_only (names_of ns) (new_variables a (names_of ns) (written_type a t) (no_values es) (right_values a (length ns) (places a es) (all_parts a es))) a (new_variables_only a (names_of ns) (written_type a t) (no_values es) (right_values a (length ns) (places a es) (all_parts a es)))) g in
        (λ w. free_type_option [] t ++ used_all-alike a es m around g (on_second (free_type_option around t) (looked_exprs top around es) a m (on_first (free_type_option around t ++ looked_exprs top around es) (looked_specs top (names_of ns ++ around) ss) a m h)) w ++ beyond bs (used_variables-alike k ss l (names_of ns ++ around) q (kept (looked_specs top (names_of ns ++ around) ss) bs a m (on_second (free_type_option around t ++ looked_exprs top around es) (looked_specs top (names_of ns ++ around) ss) a m h)) w))
        ∙ ap (λ d. let bs : Binds = binds_of (names_of ns) d in free_type_option [] t ++ used_all (with_names a m) es ++ beyond bs (used_variables (extend bs (with_names a m)) ss)) (λ w. new_variables a (names_of ns) (written_type-below a t m around g (on_first (free_type_option around t) (looked_exprs top around es) a m (on_first (free_type_option around t ++ looked_exprs top around es) (looked_specs top (names_of ns ++ around) ss) a m h)) w) (no_values es) (right_values a (length ns) (places-alike a es m around g (on_second (free_type_option around t) (looked_exprs top around es) a m (on_first (free_type_option around t ++ looked_exprs top around es) (looked_specs top (names_of ns ++ around) ss) a m h)) w) (all_parts-alike a es m around g (on_second (free_type_option around t) (looked_exprs top around es) a m (on_first (free_type_option around t ++ looked_exprs top around es) (looked_specs top (names_of ns ++ around) ss) a m h)) w)))

    pub declares-alike : (a : Env) (u : Stmt S) (m : Environment Entity) (around : List (List ℕ)) → AgreesBelow top around a m → On (looked_stmt top around u) a m → declares a u ≡ declares (with_names a m) u
    declares-alike a (const_decl s b ss) m around g h = free.declares-alike a (const_decl s b ss) m around g.agrees h
    declares-alike a (var_decl _ _ ss) m around g h = λ w. (declares_variables-alike a ss m around g h w)
    declares-alike a (define _ ns rs) m around g h = λ w. (new_by_define-alike (names_of ns) (right_values a (length ns) ((places-alike a rs m around g h w)) ((all_parts-alike a rs m around g h w))) a m around g w)
    declares-alike a (label _ n s) m around g h = λ w. (declares-alike a s m around g h w)
    declares-alike a s m around g h = λ w. Some no_names

    pub declares_first-alike : (a : Env) (u : StmtOption S) (m : Environment Entity) (around : List (List ℕ)) → AgreesBelow top around a m → On (looked_stmt_option top around u) a m → declares_first a u ≡ declares_first (with_names a m) u
    declares_first-alike a no_stmt m around g h = λ w. Some no_names
    declares_first-alike a (some_stmt s) m around g h = λ w. (declares-alike a s m around g h w)

    pub declares_variables-alike : (a : Env) (u : ValueSpecs S) (m : Environment Entity) (around : List (List ℕ)) → AgreesBelow top around a m → On (looked_specs top around u) a m → declares_variables a u ≡ declares_variables (with_names a m) u
    declares_variables-alike a no_specs m around g h = λ w. Some no_names
    declares_variables-alike a (spec _ ns t es ss) m around g h =
        then_each _ _ (λ w. new_variables a (names_of ns) (written_type-below a t m around g (on_first (free_type_option around t) (looked_exprs top around es) a m (on_first (free_type_option around t ++ looked_exprs top around es) (looked_specs top (names_of ns ++ around) ss) a m h)) w) (no_values es) (right_values a (length ns) (places-alike a es m around g (on_second (free_type_option around t) (looked_exprs top around es) a m (on_first (free_type_option around t ++ looked_exprs top around es) (looked_specs top (names_of ns ++ around) ss) a m h)) w) (all_parts-alike a es m around g (on_second (free_type_option around t) (looked_exprs top around es) a m (on_first (free_type_option around t ++ looked_exprs top around es) (looked_specs top (names_of ns ++ around) ss) a m h)) w))) (λ d e. let q : AgreesBelow top (names_of ns ++ around) (extend d.binds a) (d.binds ++ m) = below_after (names_of ns) around d.binds a m (new_variables_cover a (names_of ns) (written_type a t) (no_values es) (right_values a (length ns) (places a es) (all_parts a es)) d e) (new_variables_only a (names_of ns) (written_type a t) (no_values es) (right_values a (length ns) (places a es) (all_parts a es)) d e) g in let r : On (looked_specs top (names_of ns ++ around) ss) (extend d.binds a) (d.binds ++ m) = kept (looked_specs top (names_of ns ++ around) ss) d.binds a m (on_second (free_type_option around t ++ looked_exprs top around es) (looked_specs top (names_of ns ++ around) ss) a m h) in
        λ w. given (declares_variables-alike (extend d.binds a) ss (d.binds ++ m) (names_of ns ++ around) q r w) (λ e. Some (and_then (unused_after (used_variables-alike (extend d.binds a) ss (d.binds ++ m) (names_of ns ++ around) q r w) d) e)))

    pub range_declares-alike : (a : Env) (u : Option Operand) (v : RangeLeft S) (m : Environment Entity) (around : List (List ℕ)) → AgreesBelow top around a m → On (looked_left top around v) a m → range_declares a u v ≡ range_declares (with_names a m) u v
    range_declares-alike a o (defines ns) m around g h = λ w. given o (new_by_range a (names_of ns))
    range_declares-alike a o l m around g h = λ w. Some no_names

    pub targets-alike : (a : Env) (u : Exprs S) (m : Environment Entity) (around : List (List ℕ)) → AgreesBelow top around a m → On (looked_exprs top around u) a m → targets a u ≡ targets (with_names a m) u
    targets-alike a no_exprs m around g h = λ w. Some []
    targets-alike a (expr_and e es) m around g h = λ w. both (if is_blank_name e then Some blank else given ((parts-alike a e m around g (on_first (looked_expr top around e) (looked_exprs top around es) a m h) w)) (λ o. with_value o (target_at ((place-alike a e m around g (on_first (looked_expr top around e) (looked_exprs top around es) a m h) w))))) ((targets-alike a es m around g (on_second (looked_expr top around e) (looked_exprs top around es) a m h) w)) (λ t ts. Some (t ∷ ts))

    pub stmt-alike : (t : Ctx) (a : Env) (v : Stmt S) (m : Environment Entity) (around : List (List ℕ)) → AgreesBelow top around a m → On (looked_stmt top around v) a m → stmt t a v ≡ stmt t (with_names a m) v
    stmt-alike c a (const_decl s b ss) m around g h = free.stmt-alike c a (const_decl s b ss) m around g.agrees h
    stmt-alike c a (var_decl _ _ ss) m around g h = λ w. given ((declares_variables-alike a ss m around g h w)) (λ d. Some false)
    stmt-alike c a (empty _) m around g h = λ w. Some false
    stmt-alike c a (eval _ e) m around g h = λ w. only_if ((is_call-alike stands_alone a e m around g h w)) (given ((parts-alike a e m around g h w)) (λ o. Some ((is_panic-alike a e m around g h w))))
    stmt-alike c a (step _ e up) m around g h = λ w. given ((parts-alike a e m around g h w)) (λ o. only_if (updates (defined_in a) (step_op up) ((place-alike a e m around g h w) ∷ []) (o ∷ []) (one_more ∷ [])) (Some false))
    stmt-alike c a (assign _ ls None rs) m around g h = λ w. given ((targets-alike a ls m around g (on_first (looked_exprs top around ls) (looked_exprs top around rs) a m h) w)) (λ ts. only_if (meets (right_values a (length ts) ((places-alike a rs m around g (on_second (looked_exprs top around ls) (looked_exprs top around rs) a m h) w)) ((all_parts-alike a rs m around g (on_second (looked_exprs top around ls) (looked_exprs top around rs) a m h) w))) (stores_all (defined_in a) ts)) (Some false))
    stmt-alike c a (assign _ ls (Some op) rs) m around g h = λ w. both ((all_parts-alike a ls m around g (on_first (looked_exprs top around ls) (looked_exprs top around rs) a m h) w)) ((all_parts-alike a rs m around g (on_second (looked_exprs top around ls) (looked_exprs top around rs) a m h) w)) (λ os qs. only_if (updates (defined_in a) op ((places-alike a ls m around g (on_first (looked_exprs top around ls) (looked_exprs top around rs) a m h) w)) os qs) (Some false))
    stmt-alike c a (define _ ns rs) m around g h = λ w. given ((new_by_define-alike (names_of ns) (right_values a (length ns) ((places-alike a rs m around g h w)) ((all_parts-alike a rs m around g h w))) a m around g w)) (λ d. Some false)
    stmt-alike c a (return_ _ es) m around g h = λ w. only_if (returns c a es ((all_parts-alike a es m around g h w))) (Some true)
    stmt-alike c a (break_ _ n) m around g h = λ w. only_if (may_break c n) (Some false)
    stmt-alike c a (continue_ _ n) m around g h = λ w. only_if (may_continue c n) (Some false)
    stmt-alike c a (inner _ b) m around g h = λ w. (stmts-alike c (in_block a) false b m around (below_in_block g) h w)
    stmt-alike c a (if_ _ bs last) m around g h = λ w. given (arms-alike c (in_block a) (λ k. used_block k last) (λ k. block c k last) bs m around (looked_block_option top (arms_declared bs ++ around) last) (below_in_block g) (on_first (looked_arms top around bs) (looked_block_option top (arms_declared bs ++ around) last) a m h) (on_second (looked_arms top around bs) (looked_block_option top (arms_declared bs ++ around) last) a m h)
        (λ k l q r. used_block-alike k last l (arms_declared bs ++ around) q r) (λ k l q r. block-alike c k last l (arms_declared bs ++ around) q r) w) (λ ends. Some (has_last last && ends))
    stmt-alike c a (for_ _ i t p _ b) m around g h =
        then_each _ _ (first-alike c (in_block a) i m around (below_in_block g) (on_first (looked_stmt_option top around i) (looked_expr_option top (declared_option i ++ around) t) a m (on_first (looked_stmt_option top around i ++ looked_expr_option top (declared_option i ++ around) t) (looked_stmt_option top (declared_option i ++ around) p) a m (on_first (looked_stmt_option top around i ++ looked_expr_option top (declared_option i ++ around) t ++ looked_stmt_option top (declared_option i ++ around) p) (looked_stmts top (declared_option i ++ around) b) a m h)))) (λ d e. let k : Env = extend d.binds (in_block a) in let l : Environment Entity = d.binds ++ m in let q : AgreesBelow top (declared_option i ++ around) k l = below_after (declared_option i) around d.binds (in_block a) m (first_cover i (in_block a) d (first_declares c (in_block a) i d e)) (first_only i (in_block a) d (first_declares c (in_block a) i d e)) (below_in_block g) in
        λ w. only_if (all_used d.fresh (used_option-alike k t l (declared_option i ++ around) q (kept (looked_expr_option top (declared_option i ++ around) t) d.binds a m (on_second (looked_stmt_option top around i) (looked_expr_option top (declared_option i ++ around) t) a m (on_first (looked_stmt_option top around i ++ looked_expr_option top (declared_option i ++ around) t) (looked_stmt_option top (declared_option i ++ around) p) a m (on_first (looked_stmt_option top around i ++ looked_expr_option top (declared_option i ++ around) t ++ looked_stmt_option top (declared_option i ++ around) p) (looked_stmts top (declared_option i ++ around) b) a m h)))) w ++ used_first-alike k p l (declared_option i ++ around) q (kept (looked_stmt_option top (declared_option i ++ around) p) d.binds a m (on_second (looked_stmt_option top around i ++ looked_expr_option top (declared_option i ++ around) t) (looked_stmt_option top (declared_option i ++ around) p) a m (on_first (looked_stmt_option top around i ++ looked_expr_option top (declared_option i ++ around) t ++ looked_stmt_option top (declared_option i ++ around) p) (looked_stmts top (declared_option i ++ around) b) a m h))) w ++ used_stmts-alike (in_block k) b l (declared_option i ++ around) (below_in_block q) (kept (looked_stmts top (declared_option i ++ around) b) d.binds a m (on_second (looked_stmt_option top around i ++ looked_expr_option top (declared_option i ++ around) t ++ looked_stmt_option top (declared_option i ++ around) p) (looked_stmts top (declared_option i ++ around) b) a m h)) w) && (not (is_define p) && is_test k (bound-alike k t l (declared_option i ++ around) q (kept (looked_expr_option top (declared_option i ++ around) t) d.binds a m (on_second (looked_stmt_option top around i) (looked_expr_option top (declared_option i ++ around) t) a m (on_first (looked_stmt_option top around i ++ looked_expr_option top (declared_option i ++ around) t) (looked_stmt_option top (declared_option i ++ around) p) a m (on_first (looked_stmt_option top around i ++ looked_expr_option top (declared_option i ++ around) t ++ looked_stmt_option top (declared_option i ++ around) p) (looked_stmts top (declared_option i ++ around) b) a m h)))) w)))
        (both (first-alike c k p l (declared_option i ++ around) q (kept (looked_stmt_option top (declared_option i ++ around) p) d.binds a m (on_second (looked_stmt_option top around i ++ looked_expr_option top (declared_option i ++ around) t) (looked_stmt_option top (declared_option i ++ around) p) a m (on_first (looked_stmt_option top around i ++ looked_expr_option top (declared_option i ++ around) t ++ looked_stmt_option top (declared_option i ++ around) p) (looked_stmts top (declared_option i ++ around) b) a m h))) w) (stmts-alike (in_loop c) (in_block k) false b l (declared_option i ++ around) (below_in_block q) (kept (looked_stmts top (declared_option i ++ around) b) d.binds a m (on_second (looked_stmt_option top around i ++ looked_expr_option top (declared_option i ++ around) t ++ looked_stmt_option top (declared_option i ++ around) p) (looked_stmts top (declared_option i ++ around) b) a m h)) w) (λ q ends. Some (is_absent t && not (breaks_in false None b)))))
    stmt-alike c a (range_ _ x e _ b) m around g h =
        then_each _ _ (parts-alike a e m around g (on_second (looked_left top around x) (looked_expr top around e) a m (on_first (looked_left top around x ++ looked_expr top around e) (looked_stmts top (defined x ++ around) b) a m h))) (λ o z. (λ w. only_if (ranges-alike a o x m around g (on_first (looked_left top around x) (looked_expr top around e) a m (on_first (looked_left top around x ++ looked_expr top around e) (looked_stmts top (defined x ++ around) b) a m h)) w) (given (range_declares a (Some o) x) (λ d. let k : Env = in_block (extend d.binds (in_block a)) in only_if (all_used d.fresh (used_stmts k b)) (given (stmts (in_loop c) k false b) (λ ends. Some false)))))
        ∙ ap (only_if (ranges (with_names a m) o x)) (then_each _ _ (range_declares-alike a (Some o) x m around g (on_first (looked_left top around x) (looked_expr top around e) a m (on_first (looked_left top around x ++ looked_expr top around e) (looked_stmts top (defined x ++ around) b) a m h))) (λ d y. let k : Env = in_block (extend d.binds (in_block a)) in let l : Environment Entity = d.binds ++ m in
        let q : AgreesBelow top (defined x ++ around) k l = below_in_block (below_after (defined x) around d.binds (in_block a) m (range_cover x a (in_block a) (Some o) d y) (range_only x a (in_block a) (Some o) d y) (below_in_block g)) in
        λ w. only_if (all_used d.fresh (used_stmts-alike k b l (defined x ++ around) q (kept (looked_stmts top (defined x ++ around) b) d.binds a m (on_second (looked_left top around x ++ looked_expr top around e) (looked_stmts top (defined x ++ around) b) a m h)) w)) (given (stmts-alike (in_loop c) k false b l (defined x ++ around) q (kept (looked_stmts top (defined x ++ around) b) d.binds a m (on_second (looked_left top around x ++ looked_expr top around e) (looked_stmts top (defined x ++ around) b) a m h)) w) (λ ends. Some false)))))
    stmt-alike c a (switch _ i t cs) m around g h =
        then_each _ _ (first-alike c (in_block a) i m around (below_in_block g) (on_first (looked_stmt_option top around i) (looked_expr_option top (declared_option i ++ around) t) a m (on_first (looked_stmt_option top around i ++ looked_expr_option top (declared_option i ++ around) t) (looked_cases top (declared_option i ++ around) cs) a m h))) (λ d e. let k : Env = extend d.binds (in_block a) in let l : Environment Entity = d.binds ++ m in let q : AgreesBelow top (declared_option i ++ around) k l = below_after (declared_option i) around d.binds (in_block a) m (first_cover i (in_block a) d (first_declares c (in_block a) i d e)) (first_only i (in_block a) d (first_declares c (in_block a) i d e)) (below_in_block g) in
        λ w. only_if (all_used d.fresh (used_option-alike k t l (declared_option i ++ around) q (kept (looked_expr_option top (declared_option i ++ around) t) d.binds a m (on_second (looked_stmt_option top around i) (looked_expr_option top (declared_option i ++ around) t) a m (on_first (looked_stmt_option top around i ++ looked_expr_option top (declared_option i ++ around) t) (looked_cases top (declared_option i ++ around) cs) a m h))) w ++ used_cases-alike k cs l (declared_option i ++ around) q (kept (looked_cases top (declared_option i ++ around) cs) d.binds a m (on_second (looked_stmt_option top around i ++ looked_expr_option top (declared_option i ++ around) t) (looked_cases top (declared_option i ++ around) cs) a m h)) w)) (given (tag_of k (bound-alike k t l (declared_option i ++ around) q (kept (looked_expr_option top (declared_option i ++ around) t) d.binds a m (on_second (looked_stmt_option top around i) (looked_expr_option top (declared_option i ++ around) t) a m (on_first (looked_stmt_option top around i ++ looked_expr_option top (declared_option i ++ around) t) (looked_cases top (declared_option i ++ around) cs) a m h))) w)) (λ tag. given (clauses-alike (in_switch c) k tag cs l (declared_option i ++ around) q (kept (looked_cases top (declared_option i ++ around) cs) d.binds a m (on_second (looked_stmt_option top around i ++ looked_expr_option top (declared_option i ++ around) t) (looked_cases top (declared_option i ++ around) cs) a m h)) w) choice)))
    stmt-alike c a (defer _ e) m around g h = λ w. only_if ((is_call-alike may_be_deferred a e m around g h w)) (given ((parts-alike a e m around g h w)) (λ o. Some false))
    stmt-alike c a (label _ n s) m around g h = λ w. only_if (breaks true (Some n.name) s) (given ((stmt-alike (labelled c n s) a s m around g h w)) (λ ends. Some (ends && not (breaks false (Some n.name) s))))

    pub stmts-alike : (t : Ctx) (a : Env) (v : Bool) (x : Stmts S) (m : Environment Entity) (around : List (List ℕ)) → AgreesBelow top around a m → On (looked_stmts top around x) a m → stmts t a v x ≡ stmts t (with_names a m) v x
    stmts-alike c a before no_stmts m around g h = λ w. Some before
    stmts-alike c a before (stmt_and s ss) m around g h =
        both_each _ _ (stmt-alike c a s m around g (on_first (looked_stmt top around s) (looked_stmts top (declared s ++ around) ss) a m h)) (declares-alike a s m around g (on_first (looked_stmt top around s) (looked_stmts top (declared s ++ around) ss) a m h)) (λ ends d e. let k : Env = extend d.binds a in let l : Environment Entity = d.binds ++ m in
        let q : AgreesBelow top (declared s ++ around) k l = below_after (declared s) around d.binds a m (declares_cover s a d e) (declares_only s a d e) g in
        λ w. only_if (all_used d.fresh (used_stmts-alike k ss l (declared s ++ around) q (kept (looked_stmts top (declared s ++ around) ss) d.binds a m (on_second (looked_stmt top around s) (looked_stmts top (declared s ++ around) ss) a m h)) w)) (stmts-alike c k (if is_empty_stmt s then before else ends) ss l (declared s ++ around) q (kept (looked_stmts top (declared s ++ around) ss) d.binds a m (on_second (looked_stmt top around s) (looked_stmts top (declared s ++ around) ss) a m h)) w))

    pub first-alike : (t : Ctx) (a : Env) (v : StmtOption S) (m : Environment Entity) (around : List (List ℕ)) → AgreesBelow top around a m → On (looked_stmt_option top around v) a m → first t a v ≡ first t (with_names a m) v
    first-alike c a no_stmt m around g h = λ w. Some no_names
    first-alike c a (some_stmt s) m around g h = λ w. both ((stmt-alike c a s m around g h w)) ((declares-alike a s m around g h w)) (λ ends d. Some d)

    pub block-alike : (t : Ctx) (a : Env) (v : BlockOption S) (m : Environment Entity) (around : List (List ℕ)) → AgreesBelow top around a m → On (looked_block_option top around v) a m → block t a v ≡ block t (with_names a m) v
    block-alike c a no_block m around g h = λ w. Some false
    block-alike c a (some_block _ b) m around g h = λ w. (stmts-alike c (in_block a) false b m around (below_in_block g) h w)

    pub is_call-alike : (t : (Operand → Bool)) (a : Env) (v : Expr S) (m : Environment Entity) (around : List (List ℕ)) → AgreesBelow top around a m → On (looked_expr top around v) a m → is_call t a v ≡ is_call t (with_names a m) v
    is_call-alike passes a (call _ f xs _) m around g h = λ w. meets ((parts-alike a f m around g (on_first (looked_expr top around f) (looked_exprs top around xs) a m h) w)) passes
    is_call-alike passes a e m around g h = λ w. false

    pub ranges-alike : (a : Env) (u : Operand) (v : RangeLeft S) (m : Environment Entity) (around : List (List ℕ)) → AgreesBelow top around a m → On (looked_left top around v) a m → ranges a u v ≡ ranges (with_names a m) u v
    ranges-alike a o nothing m around g h = λ w. meets (typed o) (λ v. is_some (range_types (defined_in a) v))
    ranges-alike a o (assigns es) m around g h = λ w. meets (typed o) (λ v. meets ((targets-alike a es m around g h w)) (range_assigns (defined_in a) v))
    ranges-alike a o (defines ns) m around g h = λ w. true

    pub arms-alike : (c : Ctx) (a : Env) (u : Env → List (List ℕ)) (v : Env → Option Bool) (x : Arms S) (m : Environment Entity) (around free : List (List ℕ)) → AgreesBelow top around a m → On (looked_arms top around x) a m → On free a m
        → ((k : Env) (l : Environment Entity) → AgreesBelow top (arms_declared x ++ around) k l → On free k l → u k ≡ u (with_names k l)) → ((k : Env) (l : Environment Entity) → AgreesBelow top (arms_declared x ++ around) k l → On free k l → v k ≡ v (with_names k l)) → arms c a u v x ≡ arms c (with_names a m) u v x
    arms-alike c a u v no_arms m around free g h r f z = z a m g r
    arms-alike c a u v (arm _ i t _ b rest) m around free g h r f z =
        then_each _ _ (first-alike c a i m around g (on_first (looked_stmt_option top around i) (looked_expr top (declared_option i ++ around) t) a m (on_first (looked_stmt_option top around i ++ looked_expr top (declared_option i ++ around) t) (looked_stmts top (declared_option i ++ around) b) a m (on_first (looked_stmt_option top around i ++ looked_expr top (declared_option i ++ around) t ++ looked_stmts top (declared_option i ++ around) b) (looked_arms top (declared_option i ++ around) rest) a m h)))) (λ d e. let k : Env = extend d.binds a in let l : Environment Entity = d.binds ++ m in let q : AgreesBelow top (declared_option i ++ around) k l = below_after (declared_option i) around d.binds a m (first_cover i a d (first_declares c a i d e)) (first_only i a d (first_declares c a i d e)) g in
        λ w. only_if (all_used d.fresh (used-alike k t l (declared_option i ++ around) q (kept (looked_expr top (declared_option i ++ around) t) d.binds a m (on_second (looked_stmt_option top around i) (looked_expr top (declared_option i ++ around) t) a m (on_first (looked_stmt_option top around i ++ looked_expr top (declared_option i ++ around) t) (looked_stmts top (declared_option i ++ around) b) a m (on_first (looked_stmt_option top around i ++ looked_expr top (declared_option i ++ around) t ++ looked_stmts top (declared_option i ++ around) b) (looked_arms top (declared_option i ++ around) rest) a m h)))) w ++ used_stmts-alike (in_block k) b l (declared_option i ++ around) (below_in_block q) (kept (looked_stmts top (declared_option i ++ around) b) d.binds a m (on_second (looked_stmt_option top around i ++ looked_expr top (declared_option i ++ around) t) (looked_stmts top (declared_option i ++ around) b) a m (on_first (looked_stmt_option top around i ++ looked_expr top (declared_option i ++ around) t ++ looked_stmts top (declared_option i ++ around) b) (looked_arms top (declared_option i ++ around) rest) a m h))) w ++ used_arms-alike (in_block k) u rest l (declared_option i ++ around) free (below_in_block q) (kept (looked_arms top (declared_option i ++ around) rest) d.binds a m (on_second (looked_stmt_option top around i ++ looked_expr top (declared_option i ++ around) t ++ looked_stmts top (declared_option i ++ around) b) (looked_arms top (declared_option i ++ around) rest) a m h)) (kept free d.binds a m r) (λ k l q r. f k l (subst (λ z. AgreesBelow top z k l) (sym (append_in_turn (arms_declared rest) (declared_option i) around)) q) r) w) && meets (parts-alike k t l (declared_option i ++ around) q (kept (looked_expr top (declared_option i ++ around) t) d.binds a m (on_second (looked_stmt_option top around i) (looked_expr top (declared_option i ++ around) t) a m (on_first (looked_stmt_option top around i ++ looked_expr top (declared_option i ++ around) t) (looked_stmts top (declared_option i ++ around) b) a m (on_first (looked_stmt_option top around i ++ looked_expr top (declared_option i ++ around) t ++ looked_stmts top (declared_option i ++ around) b) (looked_arms top (declared_option i ++ around) rest) a m h)))) w) (is_condition (defined_in k)))
        (both (stmts-alike c (in_block k) false b l (declared_option i ++ around) (below_in_block q) (kept (looked_stmts top (declared_option i ++ around) b) d.binds a m (on_second (looked_stmt_option top around i ++ looked_expr top (declared_option i ++ around) t) (looked_stmts top (declared_option i ++ around) b) a m (on_first (looked_stmt_option top around i ++ looked_expr top (declared_option i ++ around) t ++ looked_stmts top (declared_option i ++ around) b) (looked_arms top (declared_option i ++ around) rest) a m h))) w) (arms-alike c (in_block k) u v rest l (declared_option i ++ around) free (below_in_block q) (kept (looked_arms top (declared_option i ++ around) rest) d.binds a m (on_second (looked_stmt_option top around i ++ looked_expr top (declared_option i ++ around) t ++ looked_stmts top (declared_option i ++ around) b) (looked_arms top (declared_option i ++ around) rest) a m h)) (kept free d.binds a m r) (λ k l q r. f k l (subst (λ z. AgreesBelow top z k l) (sym (append_in_turn (arms_declared rest) (declared_option i) around)) q) r) (λ k l q r. z k l (subst (λ z. AgreesBelow top z k l) (sym (append_in_turn (arms_declared rest) (declared_option i) around)) q) r) w) (λ ends r. Some (ends && r))))

    pub clauses-alike : (t : Ctx) (a : Env) (v : Typed) (x : Cases S) (m : Environment Entity) (around : List (List ℕ)) → AgreesBelow top around a m → On (looked_cases top around x) a m → clauses t a v x ≡ clauses t (with_names a m) v x
    clauses-alike c a tag no_cases m around g h = λ w. Some (record { consts = []; defaults = 0; ends = true })
    clauses-alike c a tag (case _ es b cs) m around g h = λ w. given ((all_parts-alike a es m around g (on_first (looked_exprs top around es) (looked_stmts top around b) a m (on_first (looked_exprs top around es ++ looked_stmts top around b) (looked_cases top around cs) a m h)) w)) (λ os. given (all_typed os) (λ vs. only_if (list_all (case_value (defined_in a) tag) vs)
        (both ((stmts-alike c (in_block a) false b m around (below_in_block g) (on_second (looked_exprs top around es) (looked_stmts top around b) a m (on_first (looked_exprs top around es ++ looked_stmts top around b) (looked_cases top around cs) a m h)) w)) ((clauses-alike c a tag cs m around g (on_second (looked_exprs top around es ++ looked_stmts top around b) (looked_cases top around cs) a m h) w)) (λ ends r. Some (record { consts = case_constants vs ++ r.consts; defaults = is_default es + r.defaults; ends = (ends && not (breaks_in false None b)) && r.ends })))))
