-- An initialiser is one in another environment in which its names mean the same, and its keys the same or no value.
use Rattle.std.specs.Prelude.{◌≡◌, refl, ℕ, Bool, true, false, ◌&&◌, ◌||◌, List, [], ◌∷◌, ◌++◌, Option, Some, if◌then◌else◌, is_some}
use mathlib.Core.Path.{ap, sym, ◌∙◌}
use Rattle.std.proofs.Common.{inl, inr}
use Rattle.go_tree.specs.Tree.{Expr, ident, int_lit, rune_lit, str_lit, composite, selector, index, slice, call, func_lit, type_operand, unary, binary, star, Exprs, no_exprs, expr_and, Elems, no_elems, elem, Value, plain, braced, ValueOption, no_value, some_value}
use Rattle.go_tree.specs.ScopeNames.Means.{Environment, means}
use Rattle.go_tree.specs.GoTypes.Answers.{given, meets, is_among}
use Rattle.go_tree.specs.GoTypes.Types.{GoType}
use Rattle.go_tree.specs.GoTypes.Defined.{under}
use Rattle.go_tree.specs.GoTypes.Entities.{Entity, Env, defined_in}
use Rattle.go_tree.specs.GoTypes.TypeNames.{type_meant}
use Rattle.go_tree.specs.GoTypes.Operands.{typed, constant_of}
use Rattle.go_tree.specs.GoTypes.Literals.{is_struct, key_type, inner_type, literal_type}
use Rattle.go_tree.specs.GoTypes.Initial.{means_maker, means_nil, is_address, is_constant, all_constant, sizes_constant, is_maker, is_composite, is_initial, initial_elems, initial_key, initial_value, all_initial}
use Rattle.go_tree.specs.GoTypes.Agreement.{Agrees, with_names}
use Rattle.constant_modules.specs.NamesAndKeys.Marked.{key_name, unless_key, NoValue, no_meaning, of_package, of_type, of_builtin, of_refused, SameOrNone, at_head, OnMarked, marked_type, marked_expr, marked_exprs, marked_elems, marked_value, marked_value_option, marked_key}
use Rattle.constant_modules.proofs.NamesAndKeys.SmallMarked.{type_meant-alike}
use Rattle.constant_modules.proofs.NamesAndKeys.TypingMarked.{first_of, second_of, marked_alike, key-operand, parts-alike}
use Rattle.constant_modules.proofs.NamesAndKeys.KeysTaken.{key-value}

-- what is no value isn't nil
not_nil : {x : Option Entity} → NoValue x → means_nil x ≡ false
not_nil no_meaning = refl
not_nil of_package = refl
not_nil of_type = refl
not_nil of_builtin = refl
not_nil of_refused = refl

module _ (a : Env) (m : Environment Entity) (around : List (List ℕ)) (g : Agrees around a m) where
  nil_key : (n : List ℕ) → OnMarked (unless_key around n) a m → means_nil (means a.names n) ≡ means_nil (means m n)
  nil_key n h = by (is_among n around) refl h
    where
      alike : SameOrNone (means a.names n) (means m n) → means_nil (means a.names n) ≡ means_nil (means m n)
      alike (inl e) = ap means_nil e
      alike (inr q) = not_nil q.0 ∙ sym (not_nil q.1)

      by : (b : Bool) → is_among n around ≡ b → OnMarked (if b then [] else key_name n ∷ []) a m → means_nil (means a.names n) ≡ means_nil (means m n)
      by true e f = ap means_nil (g.bound n e)
      by false e f = alike (f (key_name n) at_head)

module _ {S : Type 0} (a : Env) (m : Environment Entity) (around : List (List ℕ)) (g : Agrees around a m) where
  is_constant-keyed : (e : Expr S) → OnMarked (marked_expr around e) a m → is_constant a e ≡ is_constant (with_names a m) e
  is_constant-keyed e h = λ w. meets (given (parts-alike a e m around g h w) typed) (λ v. is_some (constant_of v.1))

  all_constant-keyed : (es : Exprs S) → OnMarked (marked_exprs around es) a m → all_constant a es ≡ all_constant (with_names a m) es
  all_constant-keyed no_exprs h = refl
  all_constant-keyed (expr_and e es) h = λ w. is_constant-keyed e (first_of (marked_expr around e) (marked_exprs around es) a m h) w && all_constant-keyed es (second_of (marked_expr around e) (marked_exprs around es) a m h) w

  sizes_constant-keyed : (es : Exprs S) → OnMarked (marked_exprs around es) a m → sizes_constant a es ≡ sizes_constant (with_names a m) es
  sizes_constant-keyed no_exprs h = refl
  sizes_constant-keyed (expr_and e es) h = all_constant-keyed es (second_of (marked_expr around e) (marked_exprs around es) a m h)

  is_maker-keyed : (e : Expr S) → OnMarked (marked_expr around e) a m → is_maker a e ≡ is_maker (with_names a m) e
  is_maker-keyed (ident _ n) h = ap means_maker (marked_alike n around a m g h)
  is_maker-keyed _ h = refl

  mutual
    is_initial-keyed : (e : Expr S) → OnMarked (marked_expr around e) a m → is_initial a e ≡ is_initial (with_names a m) e
    is_initial-keyed (ident s n) h = λ w. is_constant-keyed (ident s n) h w || means_nil (marked_alike n around a m g h w)
    is_initial-keyed (composite s t es) h =
        initial_elems-keyed es (given (type_meant a t) (λ u. Some (under (defined_in a) u))) (second_of (marked_type around t) (marked_elems around es) a m h)
        ∙ (λ w. initial_elems (with_names a m) (given (type_meant-alike a t m around g (first_of (marked_type around t) (marked_elems around es) a m h) w) (λ u. Some (under (defined_in a) u))) es)
    is_initial-keyed (unary s op e) h = λ w. is_constant-keyed (unary s op e) h w || (is_address op && (is_composite e && is_initial-keyed e h w))
    is_initial-keyed (call s f xs r) h =
        λ w. is_constant-keyed (call s f xs r) h w || (is_maker-keyed f (first_of (marked_expr around f) (marked_exprs around xs) a m h) w && sizes_constant-keyed xs (second_of (marked_expr around f) (marked_exprs around xs) a m h) w)
    is_initial-keyed (int_lit s t) h = λ w. is_constant-keyed (int_lit s t) h w || false
    is_initial-keyed (rune_lit s t) h = λ w. is_constant-keyed (rune_lit s t) h w || false
    is_initial-keyed (str_lit s t) h = λ w. is_constant-keyed (str_lit s t) h w || false
    is_initial-keyed (selector s x n) h = λ w. is_constant-keyed (selector s x n) h w || false
    is_initial-keyed (index s x y) h = λ w. is_constant-keyed (index s x y) h w || false
    is_initial-keyed (slice s x y z) h = λ w. is_constant-keyed (slice s x y z) h w || false
    is_initial-keyed (func_lit s t x y) h = λ w. is_constant-keyed (func_lit s t x y) h w || false
    is_initial-keyed (type_operand s t) h = λ w. is_constant-keyed (type_operand s t) h w || false
    is_initial-keyed (binary s op x y) h = λ w. is_constant-keyed (binary s op x y) h w || false
    is_initial-keyed (star s x) h = λ w. is_constant-keyed (star s x) h w || false

    initial_elems-keyed : (es : Elems S) (u : Option GoType) → OnMarked (marked_elems around es) a m → initial_elems a u es ≡ initial_elems (with_names a m) u es
    initial_elems-keyed no_elems u h = refl
    initial_elems-keyed (elem _ k v es) u h =
        let j : OnMarked (marked_value_option around k ++ marked_value around v) a m = first_of (marked_value_option around k ++ marked_value around v) (marked_elems around es) a m h in
        λ w. initial_key-keyed k u (first_of (marked_value_option around k) (marked_value around v) a m j) w
        && (initial_value-keyed v (given u (inner_type (defined_in a))) (second_of (marked_value_option around k) (marked_value around v) a m j) w
        && initial_elems-keyed es u (second_of (marked_value_option around k ++ marked_value around v) (marked_elems around es) a m h) w)

    initial_value-keyed : (v : Value S) (t : Option GoType) → OnMarked (marked_value around v) a m → initial_value a t v ≡ initial_value (with_names a m) t v
    initial_value-keyed (plain e) t h = is_initial-keyed e h
    initial_value-keyed (braced _ es) t h = initial_elems-keyed es (given t (λ t. Some (under (defined_in a) (literal_type (defined_in a) t)))) h

    initial_key-keyed : (k : ValueOption S) (u : Option GoType) → OnMarked (marked_value_option around k) a m → initial_key a u k ≡ initial_key (with_names a m) u k
    initial_key-keyed no_value u h = refl
    initial_key-keyed (some_value k) u h = λ w. if meets u is_struct then true else initial_own-keyed k (given u (key_type (defined_in a))) h w

    initial_own-keyed : (v : Value S) (t : Option GoType) → OnMarked (marked_key around v) a m → initial_value a t v ≡ initial_value (with_names a m) t v
    initial_own-keyed (plain (ident s n)) t h = λ w. meets (key-value (key-operand a m around n g h) w) (λ v. is_some (constant_of v.1)) || nil_key a m around g n h w
    initial_own-keyed (plain (int_lit s x)) t h = is_initial-keyed (int_lit s x) h
    initial_own-keyed (plain (rune_lit s x)) t h = is_initial-keyed (rune_lit s x) h
    initial_own-keyed (plain (str_lit s x)) t h = is_initial-keyed (str_lit s x) h
    initial_own-keyed (plain (composite s x es)) t h = is_initial-keyed (composite s x es) h
    initial_own-keyed (plain (selector s x n)) t h = is_initial-keyed (selector s x n) h
    initial_own-keyed (plain (index s x y)) t h = is_initial-keyed (index s x y) h
    initial_own-keyed (plain (slice s x y z)) t h = is_initial-keyed (slice s x y z) h
    initial_own-keyed (plain (call s f xs r)) t h = is_initial-keyed (call s f xs r) h
    initial_own-keyed (plain (func_lit s x y z)) t h = is_initial-keyed (func_lit s x y z) h
    initial_own-keyed (plain (type_operand s x)) t h = is_initial-keyed (type_operand s x) h
    initial_own-keyed (plain (unary s o x)) t h = is_initial-keyed (unary s o x) h
    initial_own-keyed (plain (binary s o x y)) t h = is_initial-keyed (binary s o x y) h
    initial_own-keyed (plain (star s x)) t h = is_initial-keyed (star s x) h
    initial_own-keyed (braced _ es) t h = initial_elems-keyed es (given t (λ t. Some (under (defined_in a) (literal_type (defined_in a) t)))) h

  pub all_initial-keyed : (es : Exprs S) → OnMarked (marked_exprs around es) a m → all_initial a es ≡ all_initial (with_names a m) es
  all_initial-keyed no_exprs h = refl
  all_initial-keyed (expr_and e es) h = λ w. is_initial-keyed e (first_of (marked_expr around e) (marked_exprs around es) a m h) w && all_initial-keyed es (second_of (marked_expr around e) (marked_exprs around es) a m h) w
