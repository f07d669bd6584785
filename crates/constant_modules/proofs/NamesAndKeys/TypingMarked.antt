-- What is typed in one environment is typed alike in another in which its free names mean the same, and its keys the same or
-- no value.
use Rattle.std.specs.Prelude.{◌≡◌, refl, ℕ, ◌+◌, Bool, true, false, not, ◌&&◌, List, [], ◌∷◌, ◌++◌, length, Option, Some, None, if◌then◌else◌, is_some, pos}
use Rattle.std.specs.List.{list_all}
use Rattle.go_tree.specs.Tree.{NameAt, Param, Sig, TypeExpr, Expr, ident, int_lit, rune_lit, str_lit, composite, selector, index, slice, call, func_lit, type_operand, unary, binary, star, Exprs, no_exprs, expr_and, ExprOption, no_expr, some_expr, Elems, no_elems, elem, Value, plain, braced, ValueOption, no_value, some_value, Stmt, const_decl, var_decl, empty, eval, step, assign, define, return_, break_, continue_, inner, if_, for_, range_, switch, defer, label, Stmts, no_stmts, stmt_and, StmtOption, no_stmt, some_stmt, BlockOption, no_block, some_block, RangeLeft, nothing, assigns, defines, Arms, no_arms, arm, Cases, no_cases, case, ValueSpecs, no_specs, spec}
use Rattle.go_tree.specs.declared.const_eval.kinds.Kind.TheVariants as kind
use Rattle.go_tree.specs.ConstEval.Exact.{number, text}
use Rattle.go_tree.specs.ConstEval.Literals.{integer_value, literal_value}
use Rattle.go_tree.specs.GoWords.Texts.{text_value}
use Rattle.go_tree.specs.GoTypes.Answers.{given, both, meets, only_if, without}
use Rattle.go_tree.specs.GoTypes.Types.{GoType}
use Rattle.go_tree.specs.GoTypes.Defined.{under}
use Rattle.go_tree.specs.GoTypes.Entities.{addressable, literal, elsewhere, Entity, refused, Env, meaning, exported, package_of, defined_in, Binds, extend, in_block}
use Rattle.go_tree.specs.GoTypes.TypeNames.{type_meant, func_type, written_type}
use Rattle.go_tree.specs.GoTypes.Operands.{Operand, a_type, a_function, Typed, typed, all_typed, with_value, named_operand, named_place, literal_operand}
use Rattle.go_tree.specs.GoTypes.Operators.{unary_of, binary_of, star_of}
use Rattle.go_tree.specs.GoTypes.Primary.{selected, selected_place, index_of, index_place, sliced, call_of, stands_alone, may_be_deferred}
use Rattle.go_tree.specs.GoTypes.Literals.{unkeyed, of_field, keyed, is_struct, field_key, built, built_inside, key_type, inner_type, literal_type}
use Rattle.go_tree.specs.GoTypes.Jumps.{breaks, breaks_in}
use Rattle.go_tree.specs.GoTypes.Statements.{names_once, Declared, no_names, some_declared, blank, target_at, stores_all, updates, is_condition, variable_entity, bind_each, defined_by, range_types, range_assigns, case_value, case_constants, Ctx, in_loop, in_switch, may_break, may_continue, body_binds, body_ctx, is_blank_name, is_panic, no_values, is_absent, is_define, is_empty_stmt, has_last}
use mathlib.Core.Path.{ap, sym, ◌∙◌, subst}
use Rattle.std.proofs.Common.{arith}
use Rattle.std.specs.Prelude.{◌⊎◌}
use Rattle.go_tree.specs.Tree.{Fields, no_fields, field, named, pointer, slice_type, map_type, struct_type}
use Rattle.go_tree.specs.ScopeNames.Means.{Environment, means}
use Rattle.go_tree.specs.ScopeNames.FreeNames.{names_of, declared, declared_option, arms_declared, defined, named_use, sig_names, free_type, free_type_option, free_params}
use Rattle.go_tree.specs.GoTypes.Types.{pointer_to, slice_of, map_of, struct_of}
use Rattle.go_tree.specs.GoTypes.Defined.{has_keys}
use Rattle.go_tree.specs.GoTypes.Entities.{type_of_name, is_declared_here}
use Rattle.go_tree.specs.GoTypes.TypeNames.{named_meaning, resolved, resolved_fields, field_before, params_meant}
use Rattle.go_tree.specs.GoTypes.Statements.{means_panic, assigns_to}
use Rattle.go_tree.specs.GoTypes.Typing.{and_then, unused_after, one_more, step_op, binds_or, binds_of, beyond, new_constants, right_values, new_variables, new_by_define, Repeated, nothing_to_repeat, all_used, is_test, new_by_range, tag_of, choice, place_by, package_before, is_default, is_body, returns, labelled, parts, all_parts, bound, elements, element, with_key, place, places, used, used_all, used_option, used_elems, used_key, used_value, used_left, used_stmt, used_stmts, used_first, used_block, used_range, used_arms, used_cases, used_constants, used_variables, declares, declares_first, declares_constants, declares_variables, range_declares, targets, stmt, stmts, first, block, is_call, ranges, arms, clauses}
use Rattle.go_tree.specs.GoTypes.Agreement.{with_names, Same, Agrees}
use Rattle.go_tree.proofs.GoTypes.Agreeing.{among_right, new_constants_cover, new_variables_cover, agrees_in_block, agrees_after, under_same, Covers, declares_cover, first_cover, range_cover, of_covers, literal_cover}
use Rattle.std.specs.Prelude.{bytes_eq}
use Rattle.std.proofs.Common.{inl, inr}
use Rattle.go_tree.specs.GoTypes.Answers.{is_among}
use Rattle.constant_modules.specs.NamesAndKeys.Marked.{Marked, used_name, key_name, unless_marked, unless_key, SameOrNone, Within, at_head, behind, OnMarked, marked_type, marked_fields, marked_type_option, marked_params, marked_expr, marked_exprs, marked_expr_option, marked_elems, marked_value, marked_value_option, marked_key, marked_stmt, marked_stmts, marked_stmt_option, marked_block_option, marked_left, marked_arms, marked_cases, marked_specs}
use Rattle.constant_modules.proofs.NamesAndKeys.KeysTaken.{valueless, SameKey, SameElement, SameElements, key_either, element_head, elements_join, built-same, inside-same}

pub within-left : {x : Marked} {xs : List Marked} (ys : List Marked) → Within x xs → Within x (xs ++ ys)
within-left ys at_head = at_head
within-left ys (behind i) = behind (within-left ys i)

pub within-right : {x : Marked} (xs : List Marked) {ys : List Marked} → Within x ys → Within x (xs ++ ys)
within-right [] i = i
within-right (y ∷ xs) i = behind (within-right xs i)

pub first_of : (ns ms : List Marked) (a : Env) (m : Environment Entity) → OnMarked (ns ++ ms) a m → OnMarked ns a m
first_of ns ms a m h x i = h x (within-left ms i)

pub second_of : (ns ms : List Marked) (a : Env) (m : Environment Entity) → OnMarked (ns ++ ms) a m → OnMarked ms a m
second_of ns ms a m h x i = h x (within-right ns i)

pub marked_alike : (n : List ℕ) (around : List (List ℕ)) (a : Env) (m : Environment Entity) → Agrees around a m → OnMarked (unless_marked around n) a m → Same a m n
marked_alike n around a m g h = go (is_among n around) refl h
  where
    go : (b : Bool) → is_among n around ≡ b → OnMarked (if b then [] else used_name n ∷ []) a m → Same a m n
    go true e h = g.bound n e
    go false e h = h (used_name n) at_head

-- behind what is bound a name means the same, or no value, if it did
pub under_none : (n : List ℕ) (bs l m : Environment Entity) → SameOrNone (means l n) (means m n) → SameOrNone (means (bs ++ l) n) (means (bs ++ m) n)
under_none n [] l m e = e
under_none n (b ∷ bs) l m e = by (bytes_eq b.0 n) (under_none n bs l m e)
  where
    by : (t : Bool) → SameOrNone (means (bs ++ l) n) (means (bs ++ m) n) → SameOrNone (if t then Some b.1 else means (bs ++ l) n) (if t then Some b.1 else means (bs ++ m) n)
    by true r = inl refl
    by false r = r

pub key-operand : (a : Env) (m : Environment Entity) (around : List (List ℕ)) (n : List ℕ) → Agrees around a m → OnMarked (unless_key around n) a m → SameKey (named_operand a (means a.names n)) (named_operand (with_names a m) (means m n))
key-operand a m around n g h = by (is_among n around) refl h
  where
    alike : SameOrNone (means a.names n) (means m n) → SameKey (named_operand a (means a.names n)) (named_operand (with_names a m) (means m n))
    alike (inl e) = inl (λ w. named_operand a (e w))
    alike (inr q) = inr (valueless a q.0, valueless (with_names a m) q.1)

    by : (b : Bool) → is_among n around ≡ b → OnMarked (if b then [] else key_name n ∷ []) a m → SameKey (named_operand a (means a.names n)) (named_operand (with_names a m) (means m n))
    by true e f = inl (λ w. named_operand a (g.bound n e w))
    by false e f = alike (f (key_name n) at_head)

-- what follows an answer
then_each : {A B : Type 0} {p q : Option A} (k l : A → Option B) → p ≡ q → ((x : A) → p ≡ Some x → k x ≡ l x) → given p k ≡ given q l
then_each {p = None} k l e h = ap (λ r. given r l) e
then_each {p = Some x} k l e h = h x refl ∙ ap (λ r. given r l) e

both_each : {A B C : Type 0} {p q : Option A} {r s : Option B} (k l : A → B → Option C) → p ≡ q → r ≡ s → ((x : A) (y : B) → r ≡ Some y → k x y ≡ l x y) → both p r k ≡ both q s l
both_each {p = None} {r = r} k l d e h = λ w. both (d w) (e w) l
both_each {p = Some x} {r = None} k l d e h = λ w. both (d w) (e w) l
both_each {p = Some x} {r = Some y} k l d e h = h x y refl ∙ (λ w. both (d w) (e w) l)

on_both : (ns ms : List Marked) (a : Env) (m : Environment Entity) → OnMarked ns a m → OnMarked ms a m → OnMarked (ns ++ ms) a m
on_both [] ms a m f h x i = h x i
on_both (x ∷ ns) ms a m f h _ at_head = f x at_head
on_both (x ∷ ns) ms a m f h y (behind i) = on_both ns ms a m (λ y j. f y (behind j)) h y i

-- what a spec repeats is alike wherever the names around it and its free names mean the same
abbrev pub Again : List (List ℕ) → List Marked → Repeated → Type 0
Again base free r = (k : Env) (l : Environment Entity) → Agrees base k l → OnMarked free k l → (r.0 k ≡ r.0 (with_names k l)) × (r.1 k ≡ r.1 (with_names k l))

-- `:=` looks up names of the innermost block alone
defined-alike : (ns : List (List ℕ)) (vs : List Typed) (a : Env) (m : Environment Entity) (around : List (List ℕ)) → Agrees around a m → defined_by (defined_in a) a ns vs ≡ defined_by (defined_in a) (with_names a m) ns vs
defined-alike [] [] a m around g = refl
defined-alike [] (v ∷ vs) a m around g = refl
defined-alike (n ∷ ns) [] a m around g = refl
defined-alike (n ∷ ns) (v ∷ vs) a m around g = go (is_declared_here a n) refl (defined-alike ns vs a m around g)
  where
    go : (d : Bool) → is_declared_here a n ≡ d → defined_by (defined_in a) a ns vs ≡ defined_by (defined_in a) (with_names a m) ns vs
        → (if d then only_if (assigns_to (defined_in a) (meaning a n) v) (defined_by (defined_in a) a ns vs) else both (variable_entity (defined_in a) None v) (defined_by (defined_in a) a ns vs) (λ e bs. Some (Rattle.go_tree.specs.ScopeNames.Means.binding n e ++ bs)))
        ≡ (if d then only_if (assigns_to (defined_in a) (means m n) v) (defined_by (defined_in a) (with_names a m) ns vs) else both (variable_entity (defined_in a) None v) (defined_by (defined_in a) (with_names a m) ns vs) (λ e bs. Some (Rattle.go_tree.specs.ScopeNames.Means.binding n e ++ bs)))
    go true d e = λ w. only_if (assigns_to (defined_in a) (g.here n d w) v) (e w)
    go false d e = λ w. both (variable_entity (defined_in a) None v) (e w) (λ e bs. Some (Rattle.go_tree.specs.ScopeNames.Means.binding n e ++ bs))

new_by_define-alike : (ns : List (List ℕ)) (vs : Option (List Typed)) (a : Env) (m : Environment Entity) (around : List (List ℕ)) → Agrees around a m → new_by_define a ns vs ≡ new_by_define (with_names a m) ns vs
new_by_define-alike ns None a m around g = refl
new_by_define-alike ns (Some vs) a m around g = ap (λ r. only_if (names_once ns) (some_declared r)) (defined-alike ns vs a m around g)

impossible : {A B : Type 0} {x : B} → None ≡ Some x → A
impossible e = grind arith

or_covers : (names : List (List ℕ)) (r : Option Binds) (k : Env) → ((bs : Binds) → r ≡ Some bs → Covers names bs k) → Covers names (binds_or names r) k
or_covers names None k f = of_covers names None k (λ d e. impossible e)
or_covers names (Some bs) k f = f bs refl

pub kept : (ns : List Marked) (bs : Binds) (a : Env) (m : Environment Entity) → OnMarked ns a m → OnMarked ns (extend bs a) (bs ++ m)
kept ns bs a m h (used_name n) i = under_same n bs a.names m (h (used_name n) i)
kept ns bs a m h (key_name n) i = under_none n bs a.names m (h (key_name n) i)

weaker : (names base : List (List ℕ)) (a : Env) (m : Environment Entity) → Agrees (names ++ base) a m → Agrees base a m
weaker names base a m g = record { bound = λ n e. g.bound n (among_right n names base e); here = g.here; blank = g.blank }

with_iota : (base : List (List ℕ)) (a : Env) (m : Environment Entity) (i : ℕ) → Agrees base a m → Agrees base (record a { iota = Some i }) m
with_iota base a m i g = record { bound = g.bound; here = g.here; blank = g.blank }

pub record Repeats (a : Env) (m : Environment Entity) (r : Repeated) : Type 0 where
  pub base : List (List ℕ)
  pub free : List Marked
  pub agrees : Agrees base a m
  pub on : OnMarked free a m
  pub again : Again base free r

either_repeats : (b : Bool) (a : Env) (m : Environment Entity) (r own : Repeated) → Repeats a m r → Repeats a m own → Repeats a m (if b then r else own)
either_repeats true a m r own z y = z
either_repeats false a m r own z y = y

nothing_repeats : (a : Env) (m : Environment Entity) (around : List (List ℕ)) → Agrees around a m → Repeats a m nothing_to_repeat
nothing_repeats a m around g = record { base = around; free = []; agrees = g; on = λ n i. elim i [ ]; again = λ k l q o. (refl, refl) }

append_in_turn : (xs ys zs : List (List ℕ)) → (xs ++ ys) ++ zs ≡ xs ++ (ys ++ zs)
append_in_turn [] ys zs = refl
append_in_turn (x ∷ xs) ys zs = ap (λ l. x ∷ l) (append_in_turn xs ys zs)

module _ {S : Type 0} where
  -- ---- types

  named-alike : (p : Option (NameAt S)) (n : NameAt S) (a : Env) (m : Environment Entity) (around : List (List ℕ)) → Agrees around a m → OnMarked (unless_marked around (named_use p n)) a m → named_meaning a p n ≡ named_meaning (with_names a m) p n
  named-alike None n a m around g h = ap type_of_name (marked_alike n.name around a m g h)
  named-alike (Some p) n a m around g h = ap (λ q. given (package_of q) (λ q. type_of_name (exported a.world q n.name))) (marked_alike p.name around a m g h)

  mutual
    pub resolved-alike : (t : TypeExpr S) (a : Env) (m : Environment Entity) (around : List (List ℕ)) → Agrees around a m → OnMarked (marked_type around t) a m → resolved a t ≡ resolved (with_names a m) t
    resolved-alike (named _ p n) a m around g h = named-alike p n a m around g h
    resolved-alike (pointer _ t) a m around g h = λ w. given (resolved-alike t a m around g h w) (λ u. Some (pointer_to u))
    resolved-alike (slice_type _ t) a m around g h = λ w. given (resolved-alike t a m around g h w) (λ u. Some (slice_of u))
    resolved-alike (map_type _ k t) a m around g h = λ w. both (resolved-alike k a m around g (first_of (marked_type around k) (marked_type around t) a m h) w) (resolved-alike t a m around g (second_of (marked_type around k) (marked_type around t) a m h) w) (λ a b. Some (map_of a b))
    resolved-alike (struct_type _ fs) a m around g h = λ w. given (resolved_fields-alike fs a m around g h w) (λ gs. Some (struct_of gs))

    pub resolved_fields-alike : (fs : Fields S) (a : Env) (m : Environment Entity) (around : List (List ℕ)) → Agrees around a m → OnMarked (marked_fields around fs) a m → resolved_fields a fs ≡ resolved_fields (with_names a m) fs
    resolved_fields-alike no_fields a m around g h = refl
    resolved_fields-alike (field _ n t fs) a m around g h = λ w. both (resolved-alike t a m around g (first_of (marked_type around t) (marked_fields around fs) a m h) w) (resolved_fields-alike fs a m around g (second_of (marked_type around t) (marked_fields around fs) a m h) w) (field_before n.name a.home)

  type_meant-alike : (a : Env) (t : TypeExpr S) (m : Environment Entity) (around : List (List ℕ)) → Agrees around a m → OnMarked (marked_type around t) a m → type_meant a t ≡ type_meant (with_names a m) t
  type_meant-alike a t m around g h = λ w. given (resolved-alike t a m around g h w) (λ u. only_if (has_keys (defined_in a) u) (Some u))

  written_type-alike : (a : Env) (t : Option (TypeExpr S)) (m : Environment Entity) (around : List (List ℕ)) → Agrees around a m → OnMarked (marked_type_option around t) a m → written_type a t ≡ written_type (with_names a m) t
  written_type-alike a None m around g h = refl
  written_type-alike a (Some t) m around g h = λ w. given (type_meant-alike a t m around g h w) (λ u. Some (Some u))

  params_meant-alike : (ps : List (Param S)) (a : Env) (m : Environment Entity) (around : List (List ℕ)) → Agrees around a m → OnMarked (marked_params around ps) a m → params_meant a ps ≡ params_meant (with_names a m) ps
  params_meant-alike [] a m around g h = refl
  params_meant-alike (p ∷ ps) a m around g h = λ w. both (type_meant-alike a p.of m around g (first_of (marked_type around p.of) (marked_params around ps) a m h) w) (params_meant-alike ps a m around g (second_of (marked_type around p.of) (marked_params around ps) a m h) w) (λ y ys. Some (y ∷ ys))

  func_type-alike : (a : Env) (s : Sig S) (m : Environment Entity) (around : List (List ℕ)) → Agrees around a m → OnMarked (marked_params around s.params) a m → OnMarked (marked_params around s.results) a m → func_type a s ≡ func_type (with_names a m) s
  func_type-alike a s m around g h k = λ w. both (params_meant-alike s.params a m around g h w) (params_meant-alike s.results a m around g k w) (λ ts us. Some (record { params = ts; results = us }))

  package_before-alike : (a : Env) (e : Expr S) (m : Environment Entity) (around : List (List ℕ)) → Agrees around a m → OnMarked (marked_expr around e) a m → package_before a e ≡ package_before (with_names a m) e
  package_before-alike a (ident _ n) m around g h = ap package_of (marked_alike n around a m g h)
  package_before-alike a _ m around g h = refl

  is_panic-alike : (a : Env) (e : Expr S) (m : Environment Entity) (around : List (List ℕ)) → Agrees around a m → OnMarked (marked_expr around e) a m → is_panic a e ≡ is_panic (with_names a m) e
  is_panic-alike a (call _ (ident _ n) xs _) m around g h = ap means_panic (marked_alike n around a m g (first_of (unless_marked around n) (marked_exprs around xs) a m h))
  is_panic-alike a _ m around g h = refl

  -- a key of a literal
  pub key-by : (a : Env) (t : Option GoType) (k : Value S) (m : Environment Entity) (around : List (List ℕ)) → Agrees around a m → OnMarked (marked_key around k) a m → (OnMarked (marked_value around k) a m → element a t k ≡ element (with_names a m) t k) → SameKey (element a t k) (element (with_names a m) t k)
  key-by a t (plain (ident _ n)) m around g h f = key-operand a m around n g h
  key-by a t (plain (int_lit _ _)) m around g h f = inl (f h)
  key-by a t (plain (rune_lit _ _)) m around g h f = inl (f h)
  key-by a t (plain (str_lit _ _)) m around g h f = inl (f h)
  key-by a t (plain (composite _ _ _)) m around g h f = inl (f h)
  key-by a t (plain (selector _ _ _)) m around g h f = inl (f h)
  key-by a t (plain (index _ _ _)) m around g h f = inl (f h)
  key-by a t (plain (slice _ _ _ _)) m around g h f = inl (f h)
  key-by a t (plain (call _ _ _ _)) m around g h f = inl (f h)
  key-by a t (plain (func_lit _ _ _ _)) m around g h f = inl (f h)
  key-by a t (plain (type_operand _ _)) m around g h f = inl (f h)
  key-by a t (plain (unary _ _ _)) m around g h f = inl (f h)
  key-by a t (plain (binary _ _ _ _)) m around g h f = inl (f h)
  key-by a t (plain (star _ _)) m around g h f = inl (f h)
  key-by a t (braced _ _) m around g h f = inl (f h)

  used-by : (a : Env) (t : Option GoType) (k : Value S) (m : Environment Entity) (around : List (List ℕ)) → Agrees around a m → OnMarked (marked_key around k) a m → (OnMarked (marked_value around k) a m → used_value a t k ≡ used_value (with_names a m) t k) → used_value a t k ≡ used_value (with_names a m) t k
  used-by a t (plain (ident _ n)) m around g h f = refl
  used-by a t (plain (int_lit _ _)) m around g h f = f h
  used-by a t (plain (rune_lit _ _)) m around g h f = f h
  used-by a t (plain (str_lit _ _)) m around g h f = f h
  used-by a t (plain (composite _ _ _)) m around g h f = f h
  used-by a t (plain (selector _ _ _)) m around g h f = f h
  used-by a t (plain (index _ _ _)) m around g h f = f h
  used-by a t (plain (slice _ _ _ _)) m around g h f = f h
  used-by a t (plain (call _ _ _ _)) m around g h f = f h
  used-by a t (plain (func_lit _ _ _ _)) m around g h f = f h
  used-by a t (plain (type_operand _ _)) m around g h f = f h
  used-by a t (plain (unary _ _ _)) m around g h f = f h
  used-by a t (plain (binary _ _ _ _)) m around g h f = f h
  used-by a t (plain (star _ _)) m around g h f = f h
  used-by a t (braced _ _) m around g h f = f h

  first_declares : (c : Ctx) (a : Env) (i : StmtOption S) (d : Declared) → first c a i ≡ Some d → declares_first a i ≡ Some d
  first_declares c a no_stmt d e = e
  first_declares c a (some_stmt s) d e = go (stmt c a s) (declares a s) e
    where
      go : (p : Option Bool) (q : Option Declared) → both p q (λ ends d. Some d) ≡ Some d → q ≡ Some d
      go None q e = impossible e
      go (Some b) None e = impossible e
      go (Some b) (Some x) e = e

  -- ---- typing, rule by rule

  mutual
    pub parts-alike : (a : Env) (u : Expr S) (m : Environment Entity) (around : List (List ℕ)) → Agrees around a m → OnMarked (marked_expr around u) a m → parts a u ≡ parts (with_names a m) u
    parts-alike a (ident _ n) m around g h = λ w. named_operand a ((marked_alike n around a m g h w))
    parts-alike a (int_lit _ s) m around g h = λ w. literal_operand kind.UntypedInt (number (pos (integer_value s)))
    parts-alike a (rune_lit _ s) m around g h = λ w. literal_operand kind.UntypedRune (literal_value s)
    parts-alike a (str_lit _ s) m around g h = λ w. literal_operand kind.UntypedStr (text (text_value s))
    parts-alike a (composite _ t es) m around g h =
        then_each _ _ (type_meant-alike a t m around g (first_of (marked_type around t) (marked_elems around es) a m h))
        (λ u e. built-same (defined_in a) a.home u (elements-alike a (under (defined_in a) u) es m around g (second_of (marked_type around t) (marked_elems around es) a m h)))
    parts-alike a (selector _ b n) m around g h = λ w. elim ((package_before-alike a b m around g h w)) [ Some p ↦ named_operand a (exported a.world p n.name) | None ↦ given ((parts-alike a b m around g h w)) (λ o. with_value o (selected (defined_in a) a.home n.name ((place-alike a b m around g h w)))) ]
    parts-alike a (index _ b i) m around g h = λ w. both ((parts-alike a b m around g (first_of (marked_expr around b) (marked_expr around i) a m h) w)) ((parts-alike a i m around g (second_of (marked_expr around b) (marked_expr around i) a m h) w)) (λ o j. both (typed o) (typed j) (index_of (defined_in a)))
    parts-alike a (slice _ b i j) m around g h = λ w. given ((parts-alike a b m around g (first_of (marked_expr around b) (marked_expr_option around i) a m (first_of (marked_expr around b ++ marked_expr_option around i) (marked_expr_option around j) a m h)) w)) (λ o. both ((bound-alike a i m around g (second_of (marked_expr around b) (marked_expr_option around i) a m (first_of (marked_expr around b ++ marked_expr_option around i) (marked_expr_option around j) a m h)) w)) ((bound-alike a j m around g (second_of (marked_expr around b ++ marked_expr_option around i) (marked_expr_option around j) a m h) w)) (λ i j. with_value o (λ v. sliced (defined_in a) v i j)))
    parts-alike a (call _ f xs _) m around g h = λ w. both ((parts-alike a f m around g (first_of (marked_expr around f) (marked_exprs around xs) a m h) w)) ((all_parts-alike a xs m around g (second_of (marked_expr around f) (marked_exprs around xs) a m h) w)) (call_of (defined_in a))
    parts-alike a (func_lit _ s _ b) m around g h =
        then_each _ _ (func_type-alike a s m around g (first_of (marked_params around s.params) (marked_params around s.results) a m (first_of (marked_params around s.params ++ marked_params around s.results) (marked_stmts (sig_names s ++ around) b) a m h)) (second_of (marked_params around s.params) (marked_params around s.results) a m (first_of (marked_params around s.params ++ marked_params around s.results) (marked_stmts (sig_names s ++ around) b) a m h))) (λ f e. then_each _ _ refl (λ bs q. ap (λ r. only_if (is_body f b r) (Some (a_function f)))
        (stmts-alike (body_ctx s f) (extend bs (in_block a)) false b (bs ++ m) (sig_names s ++ around) (agrees_after (sig_names s) around bs (in_block a) m (literal_cover a (in_block a) s bs (ap (λ r. given r (body_binds [] s)) e ∙ q)) (agrees_in_block g)) (kept (marked_stmts (sig_names s ++ around) b) bs a m (second_of (marked_params around s.params ++ marked_params around s.results) (marked_stmts (sig_names s ++ around) b) a m h)))))
    parts-alike a (type_operand _ t) m around g h = λ w. given ((type_meant-alike a t m around g h w)) (λ u. Some (a_type u))
    parts-alike a (unary _ op e) m around g h = λ w. given ((parts-alike a e m around g h w)) (unary_of (defined_in a) op ((place-alike a e m around g h w)))
    parts-alike a (binary _ op x y) m around g h = λ w. both ((parts-alike a x m around g (first_of (marked_expr around x) (marked_expr around y) a m h) w)) ((parts-alike a y m around g (second_of (marked_expr around x) (marked_expr around y) a m h) w)) (binary_of (defined_in a) op)
    parts-alike a (star _ e) m around g h = λ w. given ((parts-alike a e m around g h w)) (star_of (defined_in a))

    pub all_parts-alike : (a : Env) (u : Exprs S) (m : Environment Entity) (around : List (List ℕ)) → Agrees around a m → OnMarked (marked_exprs around u) a m → all_parts a u ≡ all_parts (with_names a m) u
    all_parts-alike a no_exprs m around g h = λ w. Some []
    all_parts-alike a (expr_and e es) m around g h = λ w. both ((parts-alike a e m around g (first_of (marked_expr around e) (marked_exprs around es) a m h) w)) ((all_parts-alike a es m around g (second_of (marked_expr around e) (marked_exprs around es) a m h) w)) (λ o os. Some (o ∷ os))

    pub bound-alike : (a : Env) (u : ExprOption S) (m : Environment Entity) (around : List (List ℕ)) → Agrees around a m → OnMarked (marked_expr_option around u) a m → bound a u ≡ bound (with_names a m) u
    bound-alike a no_expr m around g h = λ w. Some None
    bound-alike a (some_expr e) m around g h = λ w. given ((parts-alike a e m around g h w)) (λ o. with_value o (λ v. Some (Some v)))

    pub elements-alike : (a : Env) (u : GoType) (v : Elems S) (m : Environment Entity) (around : List (List ℕ)) → Agrees around a m → OnMarked (marked_elems around v) a m → SameElements u (elements a u v) (elements (with_names a m) u v)
    elements-alike a u no_elems m around g h = inl refl
    elements-alike a u (elem _ k v es) m around g h =
        let j : OnMarked (marked_value_option around k ++ marked_value around v) a m = first_of (marked_value_option around k ++ marked_value around v) (marked_elems around es) a m h in
        elements_join u
        (element_head u (with_key a u k) (with_key (with_names a m) u k) (element-alike a (inner_type (defined_in a) u) v m around g (second_of (marked_value_option around k) (marked_value around v) a m j))
        (λ o. with_key-alike a u k o m around g (first_of (marked_value_option around k) (marked_value around v) a m j)))
        (elements-alike a u es m around g (second_of (marked_value_option around k ++ marked_value around v) (marked_elems around es) a m h))

    pub element-alike : (a : Env) (u : Option GoType) (v : Value S) (m : Environment Entity) (around : List (List ℕ)) → Agrees around a m → OnMarked (marked_value around v) a m → element a u v ≡ element (with_names a m) u v
    element-alike a t (plain e) m around g h = λ w. (parts-alike a e m around g h w)
    element-alike a t (braced _ es) m around g h = then_each _ _ refl (λ u e. inside-same (defined_in a) a.home u (elements-alike a (under (defined_in a) (literal_type (defined_in a) u)) es m around g h))

    pub with_key-alike : (a : Env) (u : GoType) (v : ValueOption S) (x : Operand) (m : Environment Entity) (around : List (List ℕ)) → Agrees around a m → OnMarked (marked_value_option around v) a m → SameElement u (with_key a u v x) (with_key (with_names a m) u v x)
    with_key-alike a u no_value o m around g h = inl refl
    with_key-alike a u (some_value k) o m around g h = key_either (is_struct u) (given (field_key k) (λ n. Some (of_field n o))) o (key-by a (key_type (defined_in a) u) k m around g h (λ j. element-alike a (key_type (defined_in a) u) k m around g j))

    pub place-alike : (a : Env) (u : Expr S) (m : Environment Entity) (around : List (List ℕ)) → Agrees around a m → OnMarked (marked_expr around u) a m → place a u ≡ place (with_names a m) u
    place-alike a (ident _ n) m around g h = λ w. named_place ((marked_alike n around a m g h w))
    place-alike a (composite _ t es) m around g h = λ w. literal
    place-alike a (selector _ b n) m around g h = λ w. elim ((package_before-alike a b m around g h w)) [ Some p ↦ named_place (exported a.world p n.name) | None ↦ place_by ((parts-alike a b m around g h w)) (selected_place (defined_in a) a.home n.name ((place-alike a b m around g h w))) ]
    place-alike a (index _ b i) m around g h = λ w. place_by ((parts-alike a b m around g (first_of (marked_expr around b) (marked_expr around i) a m h) w)) (index_place (defined_in a))
    place-alike a (star _ e) m around g h = λ w. place_by (parts-alike a e m around g h w) (λ v. addressable)
    place-alike a e m around g h = λ w. elsewhere

    pub places-alike : (a : Env) (u : Exprs S) (m : Environment Entity) (around : List (List ℕ)) → Agrees around a m → OnMarked (marked_exprs around u) a m → places a u ≡ places (with_names a m) u
    places-alike a no_exprs m around g h = λ w. []
    places-alike a (expr_and e es) m around g h = λ w. (place-alike a e m around g (first_of (marked_expr around e) (marked_exprs around es) a m h) w) ∷ (places-alike a es m around g (second_of (marked_expr around e) (marked_exprs around es) a m h) w)

    pub used-alike : (a : Env) (u : Expr S) (m : Environment Entity) (around : List (List ℕ)) → Agrees around a m → OnMarked (marked_expr around u) a m → used a u ≡ used (with_names a m) u
    used-alike a (ident _ n) m around g h = λ w. n ∷ []
    used-alike a (int_lit _ s) m around g h = λ w. []
    used-alike a (rune_lit _ s) m around g h = λ w. []
    used-alike a (str_lit _ s) m around g h = λ w. []
    used-alike a (composite _ t es) m around g h = λ w. free_type [] t ++ (used_elems-alike a (given ((type_meant-alike a t m around g (first_of (marked_type around t) (marked_elems around es) a m h) w)) (λ u. Some (under (defined_in a) u))) es m around g (second_of (marked_type around t) (marked_elems around es) a m h) w)
    used-alike a (selector _ b n) m around g h = λ w. (used-alike a b m around g h w)
    used-alike a (index _ b i) m around g h = λ w. (used-alike a b m around g (first_of (marked_expr around b) (marked_expr around i) a m h) w) ++ (used-alike a i m around g (second_of (marked_expr around b) (marked_expr around i) a m h) w)
    used-alike a (slice _ b i j) m around g h = λ w. (used-alike a b m around g (first_of (marked_expr around b) (marked_expr_option around i) a m (first_of (marked_expr around b ++ marked_expr_option around i) (marked_expr_option around j) a m h)) w) ++ (used_option-alike a i m around g (second_of (marked_expr around b) (marked_expr_option around i) a m (first_of (marked_expr around b ++ marked_expr_option around i) (marked_expr_option around j) a m h)) w) ++ (used_option-alike a j m around g (second_of (marked_expr around b ++ marked_expr_option around i) (marked_expr_option around j) a m h) w)
    used-alike a (call _ f xs _) m around g h = λ w. (used-alike a f m around g (first_of (marked_expr around f) (marked_exprs around xs) a m h) w) ++ (used_all-alike a xs m around g (second_of (marked_expr around f) (marked_exprs around xs) a m h) w)
    used-alike a (func_lit _ s _ b) m around g h =
        let r : Option Binds = given (func_type a s) (body_binds [] s) in let bs : Binds = binds_or (sig_names s) r in
        (λ w. free_params [] s.params ++ free_params [] s.results ++ without (sig_names s) (used_stmts-alike (extend bs (in_block a)) b (bs ++ m) (sig_names s ++ around) (agrees_after (sig_names s) around bs (in_block a) m (or_covers (sig_names s) r (in_block a) (literal_cover a (in_block a) s)) (agrees_in_block g)) (kept (marked_stmts (sig_names s ++ around) b) bs a m (second_of (marked_params around s.params ++ marked_params around s.results) (marked_stmts (sig_names s ++ around) b) a m h)) w))
        ∙ ap (λ r. free_params [] s.params ++ free_params [] s.results ++ without (sig_names s) (used_stmts (extend (binds_or (sig_names s) (given r (body_binds [] s))) (in_block (with_names a m))) b)) (func_type-alike a s m around g (first_of (marked_params around s.params) (marked_params around s.results) a m (first_of (marked_params around s.params ++ marked_params around s.results) (marked_stmts (sig_names s ++ around) b) a m h)) (second_of (marked_params around s.params) (marked_params around s.results) a m (first_of (marked_params around s.params ++ marked_params around s.results) (marked_stmts (sig_names s ++ around) b) a m h)))
    used-alike a (type_operand _ t) m around g h = λ w. free_type [] t
    used-alike a (unary _ op e) m around g h = λ w. (used-alike a e m around g h w)
    used-alike a (binary _ op x y) m around g h = λ w. (used-alike a x m around g (first_of (marked_expr around x) (marked_expr around y) a m h) w) ++ (used-alike a y m around g (second_of (marked_expr around x) (marked_expr around y) a m h) w)
    used-alike a (star _ e) m around g h = λ w. (used-alike a e m around g h w)

    pub used_all-alike : (a : Env) (u : Exprs S) (m : Environment Entity) (around : List (List ℕ)) → Agrees around a m → OnMarked (marked_exprs around u) a m → used_all a u ≡ used_all (with_names a m) u
    used_all-alike a no_exprs m around g h = λ w. []
    used_all-alike a (expr_and e es) m around g h = λ w. (used-alike a e m around g (first_of (marked_expr around e) (marked_exprs around es) a m h) w) ++ (used_all-alike a es m around g (second_of (marked_expr around e) (marked_exprs around es) a m h) w)

    pub used_option-alike : (a : Env) (u : ExprOption S) (m : Environment Entity) (around : List (List ℕ)) → Agrees around a m → OnMarked (marked_expr_option around u) a m → used_option a u ≡ used_option (with_names a m) u
    used_option-alike a no_expr m around g h = λ w. []
    used_option-alike a (some_expr e) m around g h = λ w. (used-alike a e m around g h w)

    pub used_elems-alike : (a : Env) (u : Option GoType) (v : Elems S) (m : Environment Entity) (around : List (List ℕ)) → Agrees around a m → OnMarked (marked_elems around v) a m → used_elems a u v ≡ used_elems (with_names a m) u v
    used_elems-alike a u no_elems m around g h = λ w. []
    used_elems-alike a u (elem _ k v es) m around g h = λ w. (used_key-alike a u k m around g (first_of (marked_value_option around k) (marked_value around v) a m (first_of (marked_value_option around k ++ marked_value around v) (marked_elems around es) a m h)) w) ++ (used_value-alike a (given u (inner_type (defined_in a))) v m around g (second_of (marked_value_option around k) (marked_value around v) a m (first_of (marked_value_option around k ++ marked_value around v) (marked_elems around es) a m h)) w) ++ (used_elems-alike a u es m around g (second_of (marked_value_option around k ++ marked_value around v) (marked_elems around es) a m h) w)

    pub used_key-alike : (a : Env) (u : Option GoType) (v : ValueOption S) (m : Environment Entity) (around : List (List ℕ)) → Agrees around a m → OnMarked (marked_value_option around v) a m → used_key a u v ≡ used_key (with_names a m) u v
    used_key-alike a u no_value m around g h = λ w. []
    used_key-alike a u (some_value k) m around g h = λ w. if meets u is_struct then [] else (used-by a (given u (key_type (defined_in a))) k m around g h (λ j. used_value-alike a (given u (key_type (defined_in a))) k m around g j) w)

    pub used_value-alike : (a : Env) (u : Option GoType) (v : Value S) (m : Environment Entity) (around : List (List ℕ)) → Agrees around a m → OnMarked (marked_value around v) a m → used_value a u v ≡ used_value (with_names a m) u v
    used_value-alike a t (plain e) m around g h = λ w. (used-alike a e m around g h w)
    used_value-alike a t (braced _ es) m around g h = λ w. (used_elems-alike a (given t (λ t. Some (under (defined_in a) (literal_type (defined_in a) t)))) es m around g h w)

    pub used_left-alike : (a : Env) (u : Exprs S) (m : Environment Entity) (around : List (List ℕ)) → Agrees around a m → OnMarked (marked_exprs around u) a m → used_left a u ≡ used_left (with_names a m) u
    used_left-alike a no_exprs m around g h = λ w. []
    used_left-alike a (expr_and (ident _ n) es) m around g h = λ w. (used_left-alike a es m around g (second_of (unless_marked around n) (marked_exprs around es) a m h) w)
    used_left-alike a (expr_and e es) m around g h = λ w. (used-alike a e m around g (first_of (marked_expr around e) (marked_exprs around es) a m h) w) ++ (used_left-alike a es m around g (second_of (marked_expr around e) (marked_exprs around es) a m h) w)

    pub used_stmt-alike : (a : Env) (u : Stmt S) (m : Environment Entity) (around : List (List ℕ)) → Agrees around a m → OnMarked (marked_stmt around u) a m → used_stmt a u ≡ used_stmt (with_names a m) u
    used_stmt-alike a (const_decl _ _ ss) m around g h = λ w. (used_constants-alike a ss m around g h w)
    used_stmt-alike a (var_decl _ _ ss) m around g h = λ w. (used_variables-alike a ss m around g h w)
    used_stmt-alike a (empty _) m around g h = λ w. []
    used_stmt-alike a (eval _ e) m around g h = λ w. (used-alike a e m around g h w)
    used_stmt-alike a (step _ e up) m around g h = λ w. (used-alike a e m around g h w)
    used_stmt-alike a (assign _ ls None rs) m around g h = λ w. (used_left-alike a ls m around g (first_of (marked_exprs around ls) (marked_exprs around rs) a m h) w) ++ (used_all-alike a rs m around g (second_of (marked_exprs around ls) (marked_exprs around rs) a m h) w)
    used_stmt-alike a (assign _ ls (Some op) rs) m around g h = λ w. (used_all-alike a ls m around g (first_of (marked_exprs around ls) (marked_exprs around rs) a m h) w) ++ (used_all-alike a rs m around g (second_of (marked_exprs around ls) (marked_exprs around rs) a m h) w)
    used_stmt-alike a (define _ ns rs) m around g h = λ w. (used_all-alike a rs m around g h w)
    used_stmt-alike a (return_ _ es) m around g h = λ w. (used_all-alike a es m around g h w)
    used_stmt-alike a (break_ _ n) m around g h = λ w. []
    used_stmt-alike a (continue_ _ n) m around g h = λ w. []
    used_stmt-alike a (inner _ b) m around g h = λ w. (used_stmts-alike (in_block a) b m around (agrees_in_block g) h w)
    used_stmt-alike a (if_ _ bs last) m around g h = used_arms-alike (in_block a) (λ k. used_block k last) bs m around (marked_block_option (arms_declared bs ++ around) last) (agrees_in_block g) (first_of (marked_arms around bs) (marked_block_option (arms_declared bs ++ around) last) a m h) (second_of (marked_arms around bs) (marked_block_option (arms_declared bs ++ around) last) a m h) (λ k l q r. used_block-alike k last l (arms_declared bs ++ around) q r)
    used_stmt-alike a (for_ _ i t p _ b) m around g h =
        let bs : Binds = binds_of (declared_option i) (declares_first (in_block a) i) in let k : Env = extend bs (in_block a) in let l : Environment Entity = bs ++ m in let q : Agrees (declared_option i ++ around) k l = agrees_after (declared_option i) around bs (in_block a) m (of_covers (declared_option i) (declares_first (in_block a) i) (in_block a) (first_cover i (in_block a))) (agrees_in_block g) in
        (λ w. used_first-alike (in_block a) i m around (agrees_in_block g) (first_of (marked_stmt_option around i) (marked_expr_option (declared_option i ++ around) t) a m (first_of (marked_stmt_option around i ++ marked_expr_option (declared_option i ++ around) t) (marked_stmt_option (declared_option i ++ around) p) a m (first_of (marked_stmt_option around i ++ marked_expr_option (declared_option i ++ around) t ++ marked_stmt_option (declared_option i ++ around) p) (marked_stmts (declared_option i ++ around) b) a m h))) w ++ beyond bs (used_option-alike k t l (declared_option i ++ around) q (kept (marked_expr_option (declared_option i ++ around) t) bs a m (second_of (marked_stmt_option around i) (marked_expr_option (declared_option i ++ around) t) a m (first_of (marked_stmt_option around i ++ marked_expr_option (declared_option i ++ around) t) (marked_stmt_option (declared_option i ++ around) p) a m (first_of (marked_stmt_option around i ++ marked_expr_option (declared_option i ++ around) t ++ marked_stmt_option (declared_option i ++ around) p) (marked_stmts (declared_option i ++ around) b) a m h)))) w ++ used_first-alike k p l (declared_option i ++ around) q (kept (marked_stmt_option (declared_option i ++ around) p) bs a m (second_of (marked_stmt_option around i ++ marked_expr_option (declared_option i ++ around) t) (marked_stmt_option (declared_option i ++ around) p) a m (first_of (marked_stmt_option around i ++ marked_expr_option (declared_option i ++ around) t ++ marked_stmt_option (declared_option i ++ around) p) (marked_stmts (declared_option i ++ around) b) a m h))) w ++ used_stmts-alike (in_block k) b l (declared_option i ++ around) (agrees_in_block q) (kept (marked_stmts (declared_option i ++ around) b) bs a m (second_of (marked_stmt_option around i ++ marked_expr_option (declared_option i ++ around) t ++ marked_stmt_option (declared_option i ++ around) p) (marked_stmts (declared_option i ++ around) b) a m h)) w))
        ∙ ap (λ d. let bs : Binds = binds_of (declared_option i) d in let k : Env = extend bs (in_block (with_names a m)) in used_first (in_block (with_names a m)) i ++ beyond bs (used_option k t ++ used_first k p ++ used_stmts (in_block k) b)) (declares_first-alike (in_block a) i m around (agrees_in_block g) (first_of (marked_stmt_option around i) (marked_expr_option (declared_option i ++ around) t) a m (first_of (marked_stmt_option around i ++ marked_expr_option (declared_option i ++ around) t) (marked_stmt_option (declared_option i ++ around) p) a m (first_of (marked_stmt_option around i ++ marked_expr_option (declared_option i ++ around) t ++ marked_stmt_option (declared_option i ++ around) p) (marked_stmts (declared_option i ++ around) b) a m h))))
    used_stmt-alike a (range_ _ x e _ b) m around g h =
        let o : Option Operand = parts a e in let bs : Binds = binds_of (defined x) (range_declares a o x) in let k : Env = extend bs (in_block a) in let l : Environment Entity = bs ++ m in
        let q : Agrees (defined x ++ around) k l = agrees_after (defined x) around bs (in_block a) m (of_covers (defined x) (range_declares a o x) (in_block a) (range_cover x a (in_block a) o)) (agrees_in_block g) in
        (λ w. used_range-alike a x m around g (first_of (marked_left around x) (marked_expr around e) a m (first_of (marked_left around x ++ marked_expr around e) (marked_stmts (defined x ++ around) b) a m h)) w ++ used-alike a e m around g (second_of (marked_left around x) (marked_expr around e) a m (first_of (marked_left around x ++ marked_expr around e) (marked_stmts (defined x ++ around) b) a m h)) w ++ beyond bs (used_stmts-alike (in_block k) b l (defined x ++ around) (agrees_in_block q) (kept (marked_stmts (defined x ++ around) b) bs a m (second_of (marked_left around x ++ marked_expr around e) (marked_stmts (defined x ++ around) b) a m h)) w))
        ∙ ap (λ d. let bs : Binds = binds_of (defined x) d in used_range (with_names a m) x ++ used (with_names a m) e ++ beyond bs (used_stmts (in_block (extend bs (in_block (with_names a m)))) b)) (λ w. range_declares-alike a (parts-alike a e m around g (second_of (marked_left around x) (marked_expr around e) a m (first_of (marked_left around x ++ marked_expr around e) (marked_stmts (defined x ++ around) b) a m h)) w) x m around g (first_of (marked_left around x) (marked_expr around e) a m (first_of (marked_left around x ++ marked_expr around e) (marked_stmts (defined x ++ around) b) a m h)) w)
    used_stmt-alike a (switch _ i t cs) m around g h =
        let bs : Binds = binds_of (declared_option i) (declares_first (in_block a) i) in let k : Env = extend bs (in_block a) in let l : Environment Entity = bs ++ m in let q : Agrees (declared_option i ++ around) k l = agrees_after (declared_option i) around bs (in_block a) m (of_covers (declared_option i) (declares_first (in_block a) i) (in_block a) (first_cover i (in_block a))) (agrees_in_block g) in
        (λ w. used_first-alike (in_block a) i m around (agrees_in_block g) (first_of (marked_stmt_option around i) (marked_expr_option (declared_option i ++ around) t) a m (first_of (marked_stmt_option around i ++ marked_expr_option (declared_option i ++ around) t) (marked_cases (declared_option i ++ around) cs) a m h)) w ++ beyond bs (used_option-alike k t l (declared_option i ++ around) q (kept (marked_expr_option (declared_option i ++ around) t) bs a m (second_of (marked_stmt_option around i) (marked_expr_option (declared_option i ++ around) t) a m (first_of (marked_stmt_option around i ++ marked_expr_option (declared_option i ++ around) t) (marked_cases (declared_option i ++ around) cs) a m h))) w ++ used_cases-alike k cs l (declared_option i ++ around) q (kept (marked_cases (declared_option i ++ around) cs) bs a m (second_of (marked_stmt_option around i ++ marked_expr_option (declared_option i ++ around) t) (marked_cases (declared_option i ++ around) cs) a m h)) w))
        ∙ ap (λ d. let bs : Binds = binds_of (declared_option i) d in let k : Env = extend bs (in_block (with_names a m)) in used_first (in_block (with_names a m)) i ++ beyond bs (used_option k t ++ used_cases k cs)) (declares_first-alike (in_block a) i m around (agrees_in_block g) (first_of (marked_stmt_option around i) (marked_expr_option (declared_option i ++ around) t) a m (first_of (marked_stmt_option around i ++ marked_expr_option (declared_option i ++ around) t) (marked_cases (declared_option i ++ around) cs) a m h)))
    used_stmt-alike a (defer _ e) m around g h = λ w. (used-alike a e m around g h w)
    used_stmt-alike a (label _ n s) m around g h = λ w. (used_stmt-alike a s m around g h w)

    pub used_stmts-alike : (a : Env) (u : Stmts S) (m : Environment Entity) (around : List (List ℕ)) → Agrees around a m → OnMarked (marked_stmts around u) a m → used_stmts a u ≡ used_stmts (with_names a m) u
    used_stmts-alike a no_stmts m around g h = λ w. []
    used_stmts-alike a (stmt_and s ss) m around g h =
        let bs : Binds = binds_of (declared s) (declares a s) in let k : Env = extend bs a in let l : Environment Entity = bs ++ m in let q : Agrees (declared s ++ around) k l = agrees_after (declared s) around bs a m (of_covers (declared s) (declares a s) a (declares_cover s a)) g in
        (λ w. used_stmt-alike a s m around g (first_of (marked_stmt around s) (marked_stmts (declared s ++ around) ss) a m h) w ++ beyond bs (used_stmts-alike k ss l (declared s ++ around) q (kept (marked_stmts (declared s ++ around) ss) bs a m (second_of (marked_stmt around s) (marked_stmts (declared s ++ around) ss) a m h)) w))
        ∙ ap (λ d. let bs : Binds = binds_of (declared s) d in used_stmt (with_names a m) s ++ beyond bs (used_stmts (extend bs (with_names a m)) ss)) (declares-alike a s m around g (first_of (marked_stmt around s) (marked_stmts (declared s ++ around) ss) a m h))

    pub used_first-alike : (a : Env) (u : StmtOption S) (m : Environment Entity) (around : List (List ℕ)) → Agrees around a m → OnMarked (marked_stmt_option around u) a m → used_first a u ≡ used_first (with_names a m) u
    used_first-alike a no_stmt m around g h = λ w. []
    used_first-alike a (some_stmt s) m around g h = λ w. (used_stmt-alike a s m around g h w)

    pub used_block-alike : (a : Env) (u : BlockOption S) (m : Environment Entity) (around : List (List ℕ)) → Agrees around a m → OnMarked (marked_block_option around u) a m → used_block a u ≡ used_block (with_names a m) u
    used_block-alike a no_block m around g h = λ w. []
    used_block-alike a (some_block _ b) m around g h = λ w. (used_stmts-alike (in_block a) b m around (agrees_in_block g) h w)

    pub used_range-alike : (a : Env) (u : RangeLeft S) (m : Environment Entity) (around : List (List ℕ)) → Agrees around a m → OnMarked (marked_left around u) a m → used_range a u ≡ used_range (with_names a m) u
    used_range-alike a nothing m around g h = λ w. []
    used_range-alike a (assigns es) m around g h = λ w. (used_left-alike a es m around g h w)
    used_range-alike a (defines ns) m around g h = λ w. []

    pub used_arms-alike : (a : Env) (u : Env → List (List ℕ)) (x : Arms S) (m : Environment Entity) (around : List (List ℕ)) (free : List Marked) → Agrees around a m → OnMarked (marked_arms around x) a m → OnMarked free a m
        → ((k : Env) (l : Environment Entity) → Agrees (arms_declared x ++ around) k l → OnMarked free k l → u k ≡ u (with_names k l)) → used_arms a u x ≡ used_arms (with_names a m) u x
    used_arms-alike a u no_arms m around free g h r f = f a m g r
    used_arms-alike a u (arm _ i e _ b rest) m around free g h r f =
        let bs : Binds = binds_of (declared_option i) (declares_first a i) in let k : Env = extend bs a in let l : Environment Entity = bs ++ m in let q : Agrees (declared_option i ++ around) k l = agrees_after (declared_option i) around bs a m (of_covers (declared_option i) (declares_first a i) a (first_cover i a)) g in
        (λ w. used_first-alike a i m around g (first_of (marked_stmt_option around i) (marked_expr (declared_option i ++ around) e) a m (first_of (marked_stmt_option around i ++ marked_expr (declared_option i ++ around) e) (marked_stmts (declared_option i ++ around) b) a m (first_of (marked_stmt_option around i ++ marked_expr (declared_option i ++ around) e ++ marked_stmts (declared_option i ++ around) b) (marked_arms (declared_option i ++ around) rest) a m h))) w ++ beyond bs (used-alike k e l (declared_option i ++ around) q (kept (marked_expr (declared_option i ++ around) e) bs a m (second_of (marked_stmt_option around i) (marked_expr (declared_option i ++ around) e) a m (first_of (marked_stmt_option around i ++ marked_expr (declared_option i ++ around) e) (marked_stmts (declared_option i ++ around) b) a m (first_of (marked_stmt_option around i ++ marked_expr (declared_option i ++ around) e ++ marked_stmts (declared_option i ++ around) b) (marked_arms (declared_option i ++ around) rest) a m h)))) w ++ used_stmts-alike (in_block k) b l (declared_option i ++ around) (agrees_in_block q) (kept (marked_stmts (declared_option i ++ around) b) bs a m (second_of (marked_stmt_option around i ++ marked_expr (declared_option i ++ around) e) (marked_stmts (declared_option i ++ around) b) a m (first_of (marked_stmt_option around i ++ marked_expr (declared_option i ++ around) e ++ marked_stmts (declared_option i ++ around) b) (marked_arms (declared_option i ++ around) rest) a m h))) w
        ++ used_arms-alike (in_block k) u rest l (declared_option i ++ around) free (agrees_in_block q) (kept (marked_arms (declared_option i ++ around) rest) bs a m (second_of (marked_stmt_option around i ++ marked_expr (declared_option i ++ around) e ++ marked_stmts (declared_option i ++ around) b) (marked_arms (declared_option i ++ around) rest) a m h)) (kept free bs a m r) (λ k l q r. f k l (subst (λ z. Agrees z k l) (sym (append_in_turn (arms_declared rest) (declared_option i) around)) q) r) w))
        ∙ ap (λ d. let bs : Binds = binds_of (declared_option i) d in let k : Env = extend bs (with_names a m) in used_first (with_names a m) i ++ beyond bs (used k e ++ used_stmts (in_block k) b ++ used_arms (in_block k) u rest)) (declares_first-alike a i m around g (first_of (marked_stmt_option around i) (marked_expr (declared_option i ++ around) e) a m (first_of (marked_stmt_option around i ++ marked_expr (declared_option i ++ around) e) (marked_stmts (declared_option i ++ around) b) a m (first_of (marked_stmt_option around i ++ marked_expr (declared_option i ++ around) e ++ marked_stmts (declared_option i ++ around) b) (marked_arms (declared_option i ++ around) rest) a m h))))

    pub used_cases-alike : (a : Env) (u : Cases S) (m : Environment Entity) (around : List (List ℕ)) → Agrees around a m → OnMarked (marked_cases around u) a m → used_cases a u ≡ used_cases (with_names a m) u
    used_cases-alike a no_cases m around g h = λ w. []
    used_cases-alike a (case _ es b cs) m around g h = λ w. (used_all-alike a es m around g (first_of (marked_exprs around es) (marked_stmts around b) a m (first_of (marked_exprs around es ++ marked_stmts around b) (marked_cases around cs) a m h)) w) ++ (used_stmts-alike (in_block a) b m around (agrees_in_block g) (second_of (marked_exprs around es) (marked_stmts around b) a m (first_of (marked_exprs around es ++ marked_stmts around b) (marked_cases around cs) a m h)) w) ++ (used_cases-alike a cs m around g (second_of (marked_exprs around es ++ marked_stmts around b) (marked_cases around cs) a m h) w)

    pub used_constants-alike : (a : Env) (u : ValueSpecs S) (m : Environment Entity) (around : List (List ℕ)) → Agrees around a m → OnMarked (marked_specs around u) a m → used_constants a u ≡ used_constants (with_names a m) u
    used_constants-alike a no_specs m around g h = λ w. []
    used_constants-alike a (spec _ ns t es ss) m around g h =
        let bs : Binds = bind_each refused (names_of ns) in
        λ w. free_type_option [] t ++ used_all-alike a es m around g (second_of (marked_type_option around t) (marked_exprs around es) a m (first_of (marked_type_option around t ++ marked_exprs around es) (marked_specs (names_of ns ++ around) ss) a m h)) w ++ beyond bs (used_constants-alike (extend bs a) ss (bs ++ m) (names_of ns ++ around) (agrees_after (names_of ns) around bs a m (of_covers (names_of ns) None a (λ d e. impossible e)) g) (kept (marked_specs (names_of ns ++ around) ss) bs a m (second_of (marked_type_option around t ++ marked_exprs around es) (marked_specs (names_of ns ++ around) ss) a m h)) w)

    pub used_variables-alike : (a : Env) (u : ValueSpecs S) (m : Environment Entity) (around : List (List ℕ)) → Agrees around a m → OnMarked (marked_specs around u) a m → used_variables a u ≡ used_variables (with_names a m) u
    used_variables-alike a no_specs m around g h = λ w. []
    used_variables-alike a (spec _ ns t es ss) m around g h =
        let bs : Binds = binds_of (names_of ns) (new_variables a (names_of ns) (written_type a t) (no_values es) (right_values a (length ns) (places a es) (all_parts a es))) in let k : Env = extend bs a in let l : Environment Entity = bs ++ m in let q : Agrees (names_of ns ++ around) k l = agrees_after (names_of ns) around bs a m (of_covers (names_of ns) (new_variables a (names_of ns) (written_type a t) (no_values es) (right_values a (length ns) (places a es) (all_parts a es))) a (new_variables_cover a (names_of ns) (written_type a t) (no_values es) (right_values a (length ns) (places a es) (all_parts a es)))) g in
        (λ w. free_type_option [] t ++ used_all-alike a es m around g (second_of (marked_type_option around t) (marked_exprs around es) a m (first_of (marked_type_option around t ++ marked_exprs around es) (marked_specs (names_of ns ++ around) ss) a m h)) w ++ beyond bs (used_variables-alike k ss l (names_of ns ++ around) q (kept (marked_specs (names_of ns ++ around) ss) bs a m (second_of (marked_type_option around t ++ marked_exprs around es) (marked_specs (names_of ns ++ around) ss) a m h)) w))
        ∙ ap (λ d. let bs : Binds = binds_of (names_of ns) d in free_type_option [] t ++ used_all (with_names a m) es ++ beyond bs (used_variables (extend bs (with_names a m)) ss)) (λ w. new_variables a (names_of ns) (written_type-alike a t m around g (first_of (marked_type_option around t) (marked_exprs around es) a m (first_of (marked_type_option around t ++ marked_exprs around es) (marked_specs (names_of ns ++ around) ss) a m h)) w) (no_values es) (right_values a (length ns) (places-alike a es m around g (second_of (marked_type_option around t) (marked_exprs around es) a m (first_of (marked_type_option around t ++ marked_exprs around es) (marked_specs (names_of ns ++ around) ss) a m h)) w) (all_parts-alike a es m around g (second_of (marked_type_option around t) (marked_exprs around es) a m (first_of (marked_type_option around t ++ marked_exprs around es) (marked_specs (names_of ns ++ around) ss) a m h)) w)))

    pub declares-alike : (a : Env) (u : Stmt S) (m : Environment Entity) (around : List (List ℕ)) → Agrees around a m → OnMarked (marked_stmt around u) a m → declares a u ≡ declares (with_names a m) u
    declares-alike a (const_decl _ _ ss) m around g h = declares_constants-alike a nothing_to_repeat 0 ss m around g (nothing_repeats a m around g) h
    declares-alike a (var_decl _ _ ss) m around g h = λ w. (declares_variables-alike a ss m around g h w)
    declares-alike a (define _ ns rs) m around g h = λ w. (new_by_define-alike (names_of ns) (right_values a (length ns) ((places-alike a rs m around g h w)) ((all_parts-alike a rs m around g h w))) a m around g w)
    declares-alike a (label _ n s) m around g h = λ w. (declares-alike a s m around g h w)
    declares-alike a s m around g h = λ w. Some no_names

    pub declares_first-alike : (a : Env) (u : StmtOption S) (m : Environment Entity) (around : List (List ℕ)) → Agrees around a m → OnMarked (marked_stmt_option around u) a m → declares_first a u ≡ declares_first (with_names a m) u
    declares_first-alike a no_stmt m around g h = λ w. Some no_names
    declares_first-alike a (some_stmt s) m around g h = λ w. (declares-alike a s m around g h w)

    pub declares_constants-alike : (a : Env) (r : Repeated) (i : ℕ) (x : ValueSpecs S) (m : Environment Entity) (around : List (List ℕ)) → Agrees around a m → Repeats a m r → OnMarked (marked_specs around x) a m → declares_constants a r i x ≡ declares_constants (with_names a m) r i x
    declares_constants-alike a r i no_specs m around g z h = refl
    declares_constants-alike a r i (spec _ ns t es ss) m around g z h =
        let own : Repeated = (λ k. written_type k t, λ k. all_parts k es) in
        let again : Repeated = (if no_values es then r else own) in
        let here : Env = record a { iota = Some i } in
        let mine : Again around (marked_type_option around t ++ marked_exprs around es) own = (λ k l q o. (written_type-alike k t l around q (first_of (marked_type_option around t) (marked_exprs around es) k l o), all_parts-alike k es l around q (second_of (marked_type_option around t) (marked_exprs around es) k l o))) in
        let y : Repeats a m again = either_repeats (no_values es) a m r own z (record { base = around; free = marked_type_option around t ++ marked_exprs around es; agrees = g; on = on_both (marked_type_option around t) (marked_exprs around es) a m (first_of (marked_type_option around t) (marked_exprs around es) a m (first_of (marked_type_option around t ++ marked_exprs around es) (marked_specs (names_of ns ++ around) ss) a m h)) (second_of (marked_type_option around t) (marked_exprs around es) a m (first_of (marked_type_option around t ++ marked_exprs around es) (marked_specs (names_of ns ++ around) ss) a m h)); again = mine }) in
        then_each _ _ (λ w. new_constants here (names_of ns) ((y.again a m y.agrees y.on).0 w) ((y.again here m (with_iota y.base a m i y.agrees) y.on).1 w)) (λ d e.
        let k : Env = extend d.binds a in let l : Environment Entity = d.binds ++ m in
        let c : Covers (names_of ns) d.binds a = new_constants_cover here (names_of ns) (again.0 a) (again.1 here) d e in
        let v : Repeats k l again = record { base = y.base; free = y.free; agrees = weaker (names_of ns) y.base k l (agrees_after (names_of ns) y.base d.binds a m c y.agrees); on = kept y.free d.binds a m y.on; again = y.again } in
        λ w. given (declares_constants-alike k again (i + 1) ss l (names_of ns ++ around) (agrees_after (names_of ns) around d.binds a m c g) v (kept (marked_specs (names_of ns ++ around) ss) d.binds a m (second_of (marked_type_option around t ++ marked_exprs around es) (marked_specs (names_of ns ++ around) ss) a m h)) w) (λ e. Some (and_then d e)))

    pub declares_variables-alike : (a : Env) (u : ValueSpecs S) (m : Environment Entity) (around : List (List ℕ)) → Agrees around a m → OnMarked (marked_specs around u) a m → declares_variables a u ≡ declares_variables (with_names a m) u
    declares_variables-alike a no_specs m around g h = λ w. Some no_names
    declares_variables-alike a (spec _ ns t es ss) m around g h =
        then_each _ _ (λ w. new_variables a (names_of ns) (written_type-alike a t m around g (first_of (marked_type_option around t) (marked_exprs around es) a m (first_of (marked_type_option around t ++ marked_exprs around es) (marked_specs (names_of ns ++ around) ss) a m h)) w) (no_values es) (right_values a (length ns) (places-alike a es m around g (second_of (marked_type_option around t) (marked_exprs around es) a m (first_of (marked_type_option around t ++ marked_exprs around es) (marked_specs (names_of ns ++ around) ss) a m h)) w) (all_parts-alike a es m around g (second_of (marked_type_option around t) (marked_exprs around es) a m (first_of (marked_type_option around t ++ marked_exprs around es) (marked_specs (names_of ns ++ around) ss) a m h)) w))) (λ d e. let q : Agrees (names_of ns ++ around) (extend d.binds a) (d.binds ++ m) = agrees_after (names_of ns) around d.binds a m (new_variables_cover a (names_of ns) (written_type a t) (no_values es) (right_values a (length ns) (places a es) (all_parts a es)) d e) g in let r : OnMarked (marked_specs (names_of ns ++ around) ss) (extend d.binds a) (d.binds ++ m) = kept (marked_specs (names_of ns ++ around) ss) d.binds a m (second_of (marked_type_option around t ++ marked_exprs around es) (marked_specs (names_of ns ++ around) ss) a m h) in
        λ w. given (declares_variables-alike (extend d.binds a) ss (d.binds ++ m) (names_of ns ++ around) q r w) (λ e. Some (and_then (unused_after (used_variables-alike (extend d.binds a) ss (d.binds ++ m) (names_of ns ++ around) q r w) d) e)))

    pub range_declares-alike : (a : Env) (u : Option Operand) (v : RangeLeft S) (m : Environment Entity) (around : List (List ℕ)) → Agrees around a m → OnMarked (marked_left around v) a m → range_declares a u v ≡ range_declares (with_names a m) u v
    range_declares-alike a o (defines ns) m around g h = λ w. given o (new_by_range a (names_of ns))
    range_declares-alike a o l m around g h = λ w. Some no_names

    pub targets-alike : (a : Env) (u : Exprs S) (m : Environment Entity) (around : List (List ℕ)) → Agrees around a m → OnMarked (marked_exprs around u) a m → targets a u ≡ targets (with_names a m) u
    targets-alike a no_exprs m around g h = λ w. Some []
    targets-alike a (expr_and e es) m around g h = λ w. both (if is_blank_name e then Some blank else given ((parts-alike a e m around g (first_of (marked_expr around e) (marked_exprs around es) a m h) w)) (λ o. with_value o (target_at ((place-alike a e m around g (first_of (marked_expr around e) (marked_exprs around es) a m h) w))))) ((targets-alike a es m around g (second_of (marked_expr around e) (marked_exprs around es) a m h) w)) (λ t ts. Some (t ∷ ts))

    pub stmt-alike : (t : Ctx) (a : Env) (v : Stmt S) (m : Environment Entity) (around : List (List ℕ)) → Agrees around a m → OnMarked (marked_stmt around v) a m → stmt t a v ≡ stmt t (with_names a m) v
    stmt-alike c a (const_decl _ _ ss) m around g h = λ w. given (declares_constants-alike a nothing_to_repeat 0 ss m around g (nothing_repeats a m around g) h w) (λ d. Some false)
    stmt-alike c a (var_decl _ _ ss) m around g h = λ w. given ((declares_variables-alike a ss m around g h w)) (λ d. Some false)
    stmt-alike c a (empty _) m around g h = λ w. Some false
    stmt-alike c a (eval _ e) m around g h = λ w. only_if ((is_call-alike stands_alone a e m around g h w)) (given ((parts-alike a e m around g h w)) (λ o. Some ((is_panic-alike a e m around g h w))))
    stmt-alike c a (step _ e up) m around g h = λ w. given ((parts-alike a e m around g h w)) (λ o. only_if (updates (defined_in a) (step_op up) ((place-alike a e m around g h w) ∷ []) (o ∷ []) (one_more ∷ [])) (Some false))
    stmt-alike c a (assign _ ls None rs) m around g h = λ w. given ((targets-alike a ls m around g (first_of (marked_exprs around ls) (marked_exprs around rs) a m h) w)) (λ ts. only_if (meets (right_values a (length ts) ((places-alike a rs m around g (second_of (marked_exprs around ls) (marked_exprs around rs) a m h) w)) ((all_parts-alike a rs m around g (second_of (marked_exprs around ls) (marked_exprs around rs) a m h) w))) (stores_all (defined_in a) ts)) (Some false))
    stmt-alike c a (assign _ ls (Some op) rs) m around g h = λ w. both ((all_parts-alike a ls m around g (first_of (marked_exprs around ls) (marked_exprs around rs) a m h) w)) ((all_parts-alike a rs m around g (second_of (marked_exprs around ls) (marked_exprs around rs) a m h) w)) (λ os qs. only_if (updates (defined_in a) op ((places-alike a ls m around g (first_of (marked_exprs around ls) (marked_exprs around rs) a m h) w)) os qs) (Some false))
    stmt-alike c a (define _ ns rs) m around g h = λ w. given ((new_by_define-alike (names_of ns) (right_values a (length ns) ((places-alike a rs m around g h w)) ((all_parts-alike a rs m around g h w))) a m around g w)) (λ d. Some false)
    stmt-alike c a (return_ _ es) m around g h = λ w. only_if (returns c a es ((all_parts-alike a es m around g h w))) (Some true)
    stmt-alike c a (break_ _ n) m around g h = λ w. only_if (may_break c n) (Some false)
    stmt-alike c a (continue_ _ n) m around g h = λ w. only_if (may_continue c n) (Some false)
    stmt-alike c a (inner _ b) m around g h = λ w. (stmts-alike c (in_block a) false b m around (agrees_in_block g) h w)
    stmt-alike c a (if_ _ bs last) m around g h = λ w. given (arms-alike c (in_block a) (λ k. used_block k last) (λ k. block c k last) bs m around (marked_block_option (arms_declared bs ++ around) last) (agrees_in_block g) (first_of (marked_arms around bs) (marked_block_option (arms_declared bs ++ around) last) a m h) (second_of (marked_arms around bs) (marked_block_option (arms_declared bs ++ around) last) a m h)
        (λ k l q r. used_block-alike k last l (arms_declared bs ++ around) q r) (λ k l q r. block-alike c k last l (arms_declared bs ++ around) q r) w) (λ ends. Some (has_last last && ends))
    stmt-alike c a (for_ _ i t p _ b) m around g h =
        then_each _ _ (first-alike c (in_block a) i m around (agrees_in_block g) (first_of (marked_stmt_option around i) (marked_expr_option (declared_option i ++ around) t) a m (first_of (marked_stmt_option around i ++ marked_expr_option (declared_option i ++ around) t) (marked_stmt_option (declared_option i ++ around) p) a m (first_of (marked_stmt_option around i ++ marked_expr_option (declared_option i ++ around) t ++ marked_stmt_option (declared_option i ++ around) p) (marked_stmts (declared_option i ++ around) b) a m h)))) (λ d e. let k : Env = extend d.binds (in_block a) in let l : Environment Entity = d.binds ++ m in let q : Agrees (declared_option i ++ around) k l = agrees_after (declared_option i) around d.binds (in_block a) m (first_cover i (in_block a) d (first_declares c (in_block a) i d e)) (agrees_in_block g) in
        λ w. only_if (all_used d.fresh (used_option-alike k t l (declared_option i ++ around) q (kept (marked_expr_option (declared_option i ++ around) t) d.binds a m (second_of (marked_stmt_option around i) (marked_expr_option (declared_option i ++ around) t) a m (first_of (marked_stmt_option around i ++ marked_expr_option (declared_option i ++ around) t) (marked_stmt_option (declared_option i ++ around) p) a m (first_of (marked_stmt_option around i ++ marked_expr_option (declared_option i ++ around) t ++ marked_stmt_option (declared_option i ++ around) p) (marked_stmts (declared_option i ++ around) b) a m h)))) w ++ used_first-alike k p l (declared_option i ++ around) q (kept (marked_stmt_option (declared_option i ++ around) p) d.binds a m (second_of (marked_stmt_option around i ++ marked_expr_option (declared_option i ++ around) t) (marked_stmt_option (declared_option i ++ around) p) a m (first_of (marked_stmt_option around i ++ marked_expr_option (declared_option i ++ around) t ++ marked_stmt_option (declared_option i ++ around) p) (marked_stmts (declared_option i ++ around) b) a m h))) w ++ used_stmts-alike (in_block k) b l (declared_option i ++ around) (agrees_in_block q) (kept (marked_stmts (declared_option i ++ around) b) d.binds a m (second_of (marked_stmt_option around i ++ marked_expr_option (declared_option i ++ around) t ++ marked_stmt_option (declared_option i ++ around) p) (marked_stmts (declared_option i ++ around) b) a m h)) w) && (not (is_define p) && is_test k (bound-alike k t l (declared_option i ++ around) q (kept (marked_expr_option (declared_option i ++ around) t) d.binds a m (second_of (marked_stmt_option around i) (marked_expr_option (declared_option i ++ around) t) a m (first_of (marked_stmt_option around i ++ marked_expr_option (declared_option i ++ around) t) (marked_stmt_option (declared_option i ++ around) p) a m (first_of (marked_stmt_option around i ++ marked_expr_option (declared_option i ++ around) t ++ marked_stmt_option (declared_option i ++ around) p) (marked_stmts (declared_option i ++ around) b) a m h)))) w)))
        (both (first-alike c k p l (declared_option i ++ around) q (kept (marked_stmt_option (declared_option i ++ around) p) d.binds a m (second_of (marked_stmt_option around i ++ marked_expr_option (declared_option i ++ around) t) (marked_stmt_option (declared_option i ++ around) p) a m (first_of (marked_stmt_option around i ++ marked_expr_option (declared_option i ++ around) t ++ marked_stmt_option (declared_option i ++ around) p) (marked_stmts (declared_option i ++ around) b) a m h))) w) (stmts-alike (in_loop c) (in_block k) false b l (declared_option i ++ around) (agrees_in_block q) (kept (marked_stmts (declared_option i ++ around) b) d.binds a m (second_of (marked_stmt_option around i ++ marked_expr_option (declared_option i ++ around) t ++ marked_stmt_option (declared_option i ++ around) p) (marked_stmts (declared_option i ++ around) b) a m h)) w) (λ q ends. Some (is_absent t && not (breaks_in false None b)))))
    stmt-alike c a (range_ _ x e _ b) m around g h =
        then_each _ _ (parts-alike a e m around g (second_of (marked_left around x) (marked_expr around e) a m (first_of (marked_left around x ++ marked_expr around e) (marked_stmts (defined x ++ around) b) a m h))) (λ o z. (λ w. only_if (ranges-alike a o x m around g (first_of (marked_left around x) (marked_expr around e) a m (first_of (marked_left around x ++ marked_expr around e) (marked_stmts (defined x ++ around) b) a m h)) w) (given (range_declares a (Some o) x) (λ d. let k : Env = in_block (extend d.binds (in_block a)) in only_if (all_used d.fresh (used_stmts k b)) (given (stmts (in_loop c) k false b) (λ ends. Some false)))))
        ∙ ap (only_if (ranges (with_names a m) o x)) (then_each _ _ (range_declares-alike a (Some o) x m around g (first_of (marked_left around x) (marked_expr around e) a m (first_of (marked_left around x ++ marked_expr around e) (marked_stmts (defined x ++ around) b) a m h))) (λ d y. let k : Env = in_block (extend d.binds (in_block a)) in let l : Environment Entity = d.binds ++ m in
        let q : Agrees (defined x ++ around) k l = agrees_in_block (agrees_after (defined x) around d.binds (in_block a) m (range_cover x a (in_block a) (Some o) d y) (agrees_in_block g)) in
        λ w. only_if (all_used d.fresh (used_stmts-alike k b l (defined x ++ around) q (kept (marked_stmts (defined x ++ around) b) d.binds a m (second_of (marked_left around x ++ marked_expr around e) (marked_stmts (defined x ++ around) b) a m h)) w)) (given (stmts-alike (in_loop c) k false b l (defined x ++ around) q (kept (marked_stmts (defined x ++ around) b) d.binds a m (second_of (marked_left around x ++ marked_expr around e) (marked_stmts (defined x ++ around) b) a m h)) w) (λ ends. Some false)))))
    stmt-alike c a (switch _ i t cs) m around g h =
        then_each _ _ (first-alike c (in_block a) i m around (agrees_in_block g) (first_of (marked_stmt_option around i) (marked_expr_option (declared_option i ++ around) t) a m (first_of (marked_stmt_option around i ++ marked_expr_option (declared_option i ++ around) t) (marked_cases (declared_option i ++ around) cs) a m h))) (λ d e. let k : Env = extend d.binds (in_block a) in let l : Environment Entity = d.binds ++ m in let q : Agrees (declared_option i ++ around) k l = agrees_after (declared_option i) around d.binds (in_block a) m (first_cover i (in_block a) d (first_declares c (in_block a) i d e)) (agrees_in_block g) in
        λ w. only_if (all_used d.fresh (used_option-alike k t l (declared_option i ++ around) q (kept (marked_expr_option (declared_option i ++ around) t) d.binds a m (second_of (marked_stmt_option around i) (marked_expr_option (declared_option i ++ around) t) a m (first_of (marked_stmt_option around i ++ marked_expr_option (declared_option i ++ around) t) (marked_cases (declared_option i ++ around) cs) a m h))) w ++ used_cases-alike k cs l (declared_option i ++ around) q (kept (marked_cases (declared_option i ++ around) cs) d.binds a m (second_of (marked_stmt_option around i ++ marked_expr_option (declared_option i ++ around) t) (marked_cases (declared_option i ++ around) cs) a m h)) w)) (given (tag_of k (bound-alike k t l (declared_option i ++ around) q (kept (marked_expr_option (declared_option i ++ around) t) d.binds a m (second_of (marked_stmt_option around i) (marked_expr_option (declared_option i ++ around) t) a m (first_of (marked_stmt_option around i ++ marked_expr_option (declared_option i ++ around) t) (marked_cases (declared_option i ++ around) cs) a m h))) w)) (λ tag. given (clauses-alike (in_switch c) k tag cs l (declared_option i ++ around) q (kept (marked_cases (declared_option i ++ around) cs) d.binds a m (second_of (marked_stmt_option around i ++ marked_expr_option (declared_option i ++ around) t) (marked_cases (declared_option i ++ around) cs) a m h)) w) choice)))
    stmt-alike c a (defer _ e) m around g h = λ w. only_if ((is_call-alike may_be_deferred a e m around g h w)) (given ((parts-alike a e m around g h w)) (λ o. Some false))
    stmt-alike c a (label _ n s) m around g h = λ w. only_if (breaks true (Some n.name) s) (given ((stmt-alike (labelled c n s) a s m around g h w)) (λ ends. Some (ends && not (breaks false (Some n.name) s))))

    pub stmts-alike : (t : Ctx) (a : Env) (v : Bool) (x : Stmts S) (m : Environment Entity) (around : List (List ℕ)) → Agrees around a m → OnMarked (marked_stmts around x) a m → stmts t a v x ≡ stmts t (with_names a m) v x
    stmts-alike c a before no_stmts m around g h = λ w. Some before
    stmts-alike c a before (stmt_and s ss) m around g h =
        both_each _ _ (stmt-alike c a s m around g (first_of (marked_stmt around s) (marked_stmts (declared s ++ around) ss) a m h)) (declares-alike a s m around g (first_of (marked_stmt around s) (marked_stmts (declared s ++ around) ss) a m h)) (λ ends d e. let k : Env = extend d.binds a in let l : Environment Entity = d.binds ++ m in
        let q : Agrees (declared s ++ around) k l = agrees_after (declared s) around d.binds a m (declares_cover s a d e) g in
        λ w. only_if (all_used d.fresh (used_stmts-alike k ss l (declared s ++ around) q (kept (marked_stmts (declared s ++ around) ss) d.binds a m (second_of (marked_stmt around s) (marked_stmts (declared s ++ around) ss) a m h)) w)) (stmts-alike c k (if is_empty_stmt s then before else ends) ss l (declared s ++ around) q (kept (marked_stmts (declared s ++ around) ss) d.binds a m (second_of (marked_stmt around s) (marked_stmts (declared s ++ around) ss) a m h)) w))

    pub first-alike : (t : Ctx) (a : Env) (v : StmtOption S) (m : Environment Entity) (around : List (List ℕ)) → Agrees around a m → OnMarked (marked_stmt_option around v) a m → first t a v ≡ first t (with_names a m) v
    first-alike c a no_stmt m around g h = λ w. Some no_names
    first-alike c a (some_stmt s) m around g h = λ w. both ((stmt-alike c a s m around g h w)) ((declares-alike a s m around g h w)) (λ ends d. Some d)

    pub block-alike : (t : Ctx) (a : Env) (v : BlockOption S) (m : Environment Entity) (around : List (List ℕ)) → Agrees around a m → OnMarked (marked_block_option around v) a m → block t a v ≡ block t (with_names a m) v
    block-alike c a no_block m around g h = λ w. Some false
    block-alike c a (some_block _ b) m around g h = λ w. (stmts-alike c (in_block a) false b m around (agrees_in_block g) h w)

    pub is_call-alike : (t : (Operand → Bool)) (a : Env) (v : Expr S) (m : Environment Entity) (around : List (List ℕ)) → Agrees around a m → OnMarked (marked_expr around v) a m → is_call t a v ≡ is_call t (with_names a m) v
    is_call-alike passes a (call _ f xs _) m around g h = λ w. meets ((parts-alike a f m around g (first_of (marked_expr around f) (marked_exprs around xs) a m h) w)) passes
    is_call-alike passes a e m around g h = λ w. false

    pub ranges-alike : (a : Env) (u : Operand) (v : RangeLeft S) (m : Environment Entity) (around : List (List ℕ)) → Agrees around a m → OnMarked (marked_left around v) a m → ranges a u v ≡ ranges (with_names a m) u v
    ranges-alike a o nothing m around g h = λ w. meets (typed o) (λ v. is_some (range_types (defined_in a) v))
    ranges-alike a o (assigns es) m around g h = λ w. meets (typed o) (λ v. meets ((targets-alike a es m around g h w)) (range_assigns (defined_in a) v))
    ranges-alike a o (defines ns) m around g h = λ w. true

    pub arms-alike : (c : Ctx) (a : Env) (u : Env → List (List ℕ)) (v : Env → Option Bool) (x : Arms S) (m : Environment Entity) (around : List (List ℕ)) (free : List Marked) → Agrees around a m → OnMarked (marked_arms around x) a m → OnMarked free a m
        → ((k : Env) (l : Environment Entity) → Agrees (arms_declared x ++ around) k l → OnMarked free k l → u k ≡ u (with_names k l)) → ((k : Env) (l : Environment Entity) → Agrees (arms_declared x ++ around) k l → OnMarked free k l → v k ≡ v (with_names k l)) → arms c a u v x ≡ arms c (with_names a m) u v x
    arms-alike c a u v no_arms m around free g h r f z = z a m g r
    arms-alike c a u v (arm _ i t _ b rest) m around free g h r f z =
        then_each _ _ (first-alike c a i m around g (first_of (marked_stmt_option around i) (marked_expr (declared_option i ++ around) t) a m (first_of (marked_stmt_option around i ++ marked_expr (declared_option i ++ around) t) (marked_stmts (declared_option i ++ around) b) a m (first_of (marked_stmt_option around i ++ marked_expr (declared_option i ++ around) t ++ marked_stmts (declared_option i ++ around) b) (marked_arms (declared_option i ++ around) rest) a m h)))) (λ d e. let k : Env = extend d.binds a in let l : Environment Entity = d.binds ++ m in let q : Agrees (declared_option i ++ around) k l = agrees_after (declared_option i) around d.binds a m (first_cover i a d (first_declares c a i d e)) g in
        λ w. only_if (all_used d.fresh (used-alike k t l (declared_option i ++ around) q (kept (marked_expr (declared_option i ++ around) t) d.binds a m (second_of (marked_stmt_option around i) (marked_expr (declared_option i ++ around) t) a m (first_of (marked_stmt_option around i ++ marked_expr (declared_option i ++ around) t) (marked_stmts (declared_option i ++ around) b) a m (first_of (marked_stmt_option around i ++ marked_expr (declared_option i ++ around) t ++ marked_stmts (declared_option i ++ around) b) (marked_arms (declared_option i ++ around) rest) a m h)))) w ++ used_stmts-alike (in_block k) b l (declared_option i ++ around) (agrees_in_block q) (kept (marked_stmts (declared_option i ++ around) b) d.binds a m (second_of (marked_stmt_option around i ++ marked_expr (declared_option i ++ around) t) (marked_stmts (declared_option i ++ around) b) a m (first_of (marked_stmt_option around i ++ marked_expr (declared_option i ++ around) t ++ marked_stmts (declared_option i ++ around) b) (marked_arms (declared_option i ++ around) rest) a m h))) w ++ used_arms-alike (in_block k) u rest l (declared_option i ++ around) free (agrees_in_block q) (kept (marked_arms (declared_option i ++ around) rest) d.binds a m (second_of (marked_stmt_option around i ++ marked_expr (declared_option i ++ around) t ++ marked_stmts (declared_option i ++ around) b) (marked_arms (declared_option i ++ around) rest) a m h)) (kept free d.binds a m r) (λ k l q r. f k l (subst (λ z. Agrees z k l) (sym (append_in_turn (arms_declared rest) (declared_option i) around)) q) r) w) && meets (parts-alike k t l (declared_option i ++ around) q (kept (marked_expr (declared_option i ++ around) t) d.binds a m (second_of (marked_stmt_option around i) (marked_expr (declared_option i ++ around) t) a m (first_of (marked_stmt_option around i ++ marked_expr (declared_option i ++ around) t) (marked_stmts (declared_option i ++ around) b) a m (first_of (marked_stmt_option around i ++ marked_expr (declared_option i ++ around) t ++ marked_stmts (declared_option i ++ around) b) (marked_arms (declared_option i ++ around) rest) a m h)))) w) (is_condition (defined_in k)))
        (both (stmts-alike c (in_block k) false b l (declared_option i ++ around) (agrees_in_block q) (kept (marked_stmts (declared_option i ++ around) b) d.binds a m (second_of (marked_stmt_option around i ++ marked_expr (declared_option i ++ around) t) (marked_stmts (declared_option i ++ around) b) a m (first_of (marked_stmt_option around i ++ marked_expr (declared_option i ++ around) t ++ marked_stmts (declared_option i ++ around) b) (marked_arms (declared_option i ++ around) rest) a m h))) w) (arms-alike c (in_block k) u v rest l (declared_option i ++ around) free (agrees_in_block q) (kept (marked_arms (declared_option i ++ around) rest) d.binds a m (second_of (marked_stmt_option around i ++ marked_expr (declared_option i ++ around) t ++ marked_stmts (declared_option i ++ around) b) (marked_arms (declared_option i ++ around) rest) a m h)) (kept free d.binds a m r) (λ k l q r. f k l (subst (λ z. Agrees z k l) (sym (append_in_turn (arms_declared rest) (declared_option i) around)) q) r) (λ k l q r. z k l (subst (λ z. Agrees z k l) (sym (append_in_turn (arms_declared rest) (declared_option i) around)) q) r) w) (λ ends r. Some (ends && r))))

    pub clauses-alike : (t : Ctx) (a : Env) (v : Typed) (x : Cases S) (m : Environment Entity) (around : List (List ℕ)) → Agrees around a m → OnMarked (marked_cases around x) a m → clauses t a v x ≡ clauses t (with_names a m) v x
    clauses-alike c a tag no_cases m around g h = λ w. Some (record { consts = []; defaults = 0; ends = true })
    clauses-alike c a tag (case _ es b cs) m around g h = λ w. given ((all_parts-alike a es m around g (first_of (marked_exprs around es) (marked_stmts around b) a m (first_of (marked_exprs around es ++ marked_stmts around b) (marked_cases around cs) a m h)) w)) (λ os. given (all_typed os) (λ vs. only_if (list_all (case_value (defined_in a) tag) vs)
        (both ((stmts-alike c (in_block a) false b m around (agrees_in_block g) (second_of (marked_exprs around es) (marked_stmts around b) a m (first_of (marked_exprs around es ++ marked_stmts around b) (marked_cases around cs) a m h)) w)) ((clauses-alike c a tag cs m around g (second_of (marked_exprs around es ++ marked_stmts around b) (marked_cases around cs) a m h) w)) (λ ends r. Some (record { consts = case_constants vs ++ r.consts; defaults = is_default es + r.defaults; ends = (ends && not (breaks_in false None b)) && r.ends })))))
