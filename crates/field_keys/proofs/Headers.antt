-- What a spec of a package declares is the same where the names that its type and its values look up mean the same, in each
-- world in which types mean what they mean at last, or nothing yet.
use Rattle.std.specs.Prelude.{◌≡◌, refl, ℕ, Bool, true, false, ◌&&◌, ◌||◌, List, [], ◌∷◌, ◌++◌, Option, Some, None, if◌then◌else◌, is_some}
use Rattle.std.specs.List.{list_any}
use mathlib.Core.Path.{ap, sym, ◌∙◌, subst}
use Rattle.std.proofs.Common.{arith}
use Rattle.go_tree.specs.Tree.{NameAt, TypeExpr, Expr, ident, int_lit, rune_lit, str_lit, composite, selector, index, slice, call, func_lit, type_operand, unary, binary, star, Exprs, no_exprs, expr_and, ExprOption, no_expr, some_expr, Elems, no_elems, elem, Value, plain, braced, ValueOption, no_value, some_value}
use Rattle.go_tree.specs.ScopeNames.Means.{Environment}
use Rattle.go_tree.specs.ScopeNames.FreeNames.{names_of, free_type, free_type_option}
use Rattle.go_tree.specs.GoTypes.Answers.{given, both, meets, only_if, is_among}
use Rattle.go_tree.specs.GoTypes.Types.{GoType, base_of}
use Rattle.go_tree.specs.GoTypes.Defined.{under}
use Rattle.go_tree.specs.GoTypes.Entities.{addressable, Entity, variable, Env, exported, package_of, defined_in, Binds}
use Rattle.go_tree.specs.GoTypes.TypeNames.{type_meant, written_type}
use Rattle.go_tree.specs.GoTypes.Operands.{Operand, a_type, typed, all_typed, with_value, constant_of, named_operand, named_place}
use Rattle.go_tree.specs.GoTypes.Operators.{unary_of, binary_of, star_of}
use Rattle.go_tree.specs.GoTypes.Primary.{selected, selected_place, index_of, index_place, sliced, call_of}
use Rattle.go_tree.specs.GoTypes.Literals.{Element, of_field, keyed, is_struct, field_key, built, built_inside, key_type, inner_type, literal_type}
use Rattle.go_tree.specs.GoTypes.Declarations.{bind_all, bind_each, constant_entity, variable_entity}
use Rattle.go_tree.specs.GoTypes.Bodies.{no_values}
use Rattle.go_tree.specs.GoTypes.Bodiless.{bodiless, all_bodiless, bodiless_option, bodiless_elems, bodiless_value, bodiless_key}
use Rattle.go_tree.specs.GoTypes.Initial.{means_maker, means_nil, is_address, is_constant, all_constant, sizes_constant, is_maker, is_composite, is_initial, initial_elems, initial_key, initial_value, all_initial}
use Rattle.go_tree.specs.GoTypes.Collect.{package_constants, package_variables}
use Rattle.go_tree.specs.GoTypes.Typing.{place_by, package_before, parts, all_parts, bound, elements, element, with_key, place}
use Rattle.go_tree.specs.GoTypes.Agreement.{head, with_names, On, Agrees}
use Rattle.go_tree.proofs.GoTypes.Agreeing.{on_first, on_second, from_given, from_both}
use Rattle.go_translation.proofs.SmallAlike.{type_meant-alike, written_type-alike}
use Rattle.field_keys.specs.Below.{Fitting, nothing_there, nothing_here, same_type, Settled}
use Rattle.field_keys.specs.Looked.{type_above, under_above, under_inner, looked_expr, looked_exprs, looked_expr_option, looked_elems, looked_key, looked_value}

-- ---- answers

both_of : (p q : Bool) → (p && q) ≡ true → (p ≡ true) × (q ≡ true)
both_of true q e = (refl, e)
both_of false q e = absurd (grind (arith, e))

then_each : {A B : Type 0} {p q : Option A} (k l : A → Option B) → p ≡ q → ((x : A) → p ≡ Some x → k x ≡ l x) → given p k ≡ given q l
then_each {p = None} k l e h = ap (λ r. given r l) e
then_each {p = Some x} k l e h = h x refl ∙ ap (λ r. given r l) e

unless_kept : {A B : Type 0} (b : Bool) (x : Option B) (f : A → Option B) {p q : Option A} → (b ≡ false → p ≡ q) → (if b then x else given p f) ≡ (if b then x else given q f)
unless_kept true x f h = refl
unless_kept false x f h = ap (λ r. given r f) (h refl)

true_or : (b : Bool) {p q : Bool} → (b ≡ false → p ≡ q) → (if b then true else p) ≡ (if b then true else q)
true_or true h = refl
true_or false h = h refl

only_none : {A : Type 0} (b : Bool) → only_if {A = A} b None ≡ None
only_none true = refl
only_none false = refl

none_around : (xs : List (List ℕ)) → list_any (λ n. is_among n []) xs ≡ false
none_around [] = refl
none_around (x ∷ xs) = none_around xs

module _ {S : Type 0} (top a : Env) (m : Environment Entity) (g : Agrees [] a m) (settled : Settled S top a) where
  abbrev b : Env
  b = with_names a m

  -- ---- types of literals

  literal_there : (u : GoType) → literal_type (defined_in top) u ≡ literal_type (defined_in a) u
  literal_there u = ap (λ z. elim (base_of z) as (λ r. GoType) [ None ↦ u | Some v ↦ v ]) (sym (settled.underlying u))

  under_there : {t u : Option GoType} → Fitting t u → Fitting (under_above top t) (given u (λ y. Some (under (defined_in a) y)))
  under_there nothing_there = nothing_there
  under_there nothing_here = nothing_here
  under_there (same_type {u = None}) = nothing_there
  under_there (same_type {u = Some x}) = subst (λ z. Fitting (Some z) (Some (under (defined_in a) x))) (settled.underlying x) same_type

  inside_there : {t u : Option GoType} → Fitting t u → Fitting (under_inner top t) (given u (λ y. Some (under (defined_in a) (literal_type (defined_in a) y))))
  inside_there nothing_there = nothing_there
  inside_there nothing_here = nothing_here
  inside_there (same_type {u = None}) = nothing_there
  inside_there (same_type {u = Some x}) =
      subst (λ z. Fitting (Some z) (Some (under (defined_in a) (literal_type (defined_in a) x)))) (settled.underlying (literal_type (defined_in a) x) ∙ ap (under (defined_in top)) (sym (literal_there x))) same_type

  values_there : {t u : Option GoType} → Fitting t u → Fitting (given t (inner_type (defined_in top))) (given u (inner_type (defined_in a)))
  values_there nothing_there = nothing_there
  values_there nothing_here = nothing_here
  values_there (same_type {u = None}) = nothing_there
  values_there (same_type {u = Some x}) = same_type

  keys_there : {t u : Option GoType} → Fitting t u → Fitting (given t (key_type (defined_in top))) (given u (key_type (defined_in a)))
  keys_there nothing_there = nothing_there
  keys_there nothing_here = nothing_here
  keys_there (same_type {u = None}) = nothing_there
  keys_there (same_type {u = Some x}) = same_type

  type_there : (t : TypeExpr S) → Fitting (type_above top [] t) (type_meant a t)
  type_there t = subst (λ c. Fitting (if c then None else type_meant top t) (type_meant a t)) (sym (none_around (free_type [] t))) (settled.types t)

  literal_fits : (t : TypeExpr S) (u : GoType) → type_meant a t ≡ Some u → Fitting (under_above top (type_above top [] t)) (Some (under (defined_in a) u))
  literal_fits t u e = subst (λ o. Fitting (under_above top (type_above top [] t)) (given o (λ y. Some (under (defined_in a) y)))) e (under_there (type_there t))

  inside_fits : {t u : Option GoType} → Fitting t u → (x : GoType) → u ≡ Some x → Fitting (under_inner top t) (Some (under (defined_in a) (literal_type (defined_in a) x)))
  inside_fits {t = t} f x e = subst (λ o. Fitting (under_inner top t) (given o (λ y. Some (under (defined_in a) (literal_type (defined_in a) y))))) e (inside_there f)

  key_fits : {t : Option GoType} (u : GoType) (s : Option GoType) (k : Value S) → Fitting t (Some u) → is_struct u ≡ false → On (if meets t is_struct then [] else looked_value top [] s k) a m → On (looked_value top [] s k) a m
  key_fits u s k nothing_there e h = h
  key_fits u s k same_type e h = subst (λ c. On (if c then [] else looked_value top [] s k) a m) e h

  package_before-same : (e : Expr S) → On (looked_expr top [] e) a m → package_before a e ≡ package_before b e
  package_before-same (ident _ n) h = ap package_of (h n head)
  package_before-same _ h = refl

  -- ---- expressions without bodies

  mutual
    parts-same : (e : Expr S) → bodiless e ≡ true → On (looked_expr top [] e) a m → parts a e ≡ parts b e
    parts-same (ident _ n) q h = λ w. named_operand a (h n head w)
    parts-same (int_lit _ s) q h = refl
    parts-same (rune_lit _ s) q h = refl
    parts-same (str_lit _ s) q h = refl
    parts-same (composite _ t es) q h =
        let us : List (List ℕ) = looked_elems top [] (under_above top (type_above top [] t)) es in
        then_each _ _ (type_meant-alike a t m [] g (on_first (free_type [] t) us a m h))
        (λ u e. ap (λ r. given r (built (defined_in a) a.home u)) (elements-same (under (defined_in a) u) (under_above top (type_above top [] t)) (literal_fits t u e) es q (on_second (free_type [] t) us a m h)))
    parts-same (selector _ x n) q h = λ w. elim (package_before-same x h w) [
      | Some p ↦ named_operand a (exported a.world p n.name)
      | None ↦ given (parts-same x q h w) (λ o. with_value o (selected (defined_in a) a.home n.name (place-same x q h w)))
    ]
    parts-same (index _ x i) q h =
        let s = both_of (bodiless x) (bodiless i) q in
        λ w. both (parts-same x s.0 (on_first (looked_expr top [] x) (looked_expr top [] i) a m h) w) (parts-same i s.1 (on_second (looked_expr top [] x) (looked_expr top [] i) a m h) w) (λ o j. both (typed o) (typed j) (index_of (defined_in a)))
    parts-same (slice _ x i j) q h =
        let s = both_of (bodiless x) (bodiless_option i && bodiless_option j) q in let r = both_of (bodiless_option i) (bodiless_option j) s.1 in
        let xs : List (List ℕ) = looked_expr top [] x in let is : List (List ℕ) = looked_expr_option top [] i in let js : List (List ℕ) = looked_expr_option top [] j in
        let k : On (xs ++ is) a m = on_first (xs ++ is) js a m h in
        λ w. given (parts-same x s.0 (on_first xs is a m k) w) (λ o. both (bound-same i r.0 (on_second xs is a m k) w) (bound-same j r.1 (on_second (xs ++ is) js a m h) w) (λ i j. with_value o (λ v. sliced (defined_in a) v i j)))
    parts-same (call _ f xs _) q h =
        let s = both_of (bodiless f) (all_bodiless xs) q in
        λ w. both (parts-same f s.0 (on_first (looked_expr top [] f) (looked_exprs top [] xs) a m h) w) (all-same xs s.1 (on_second (looked_expr top [] f) (looked_exprs top [] xs) a m h) w) (call_of (defined_in a))
    parts-same (func_lit _ g _ z) q h = absurd (grind (arith, q))
    parts-same (type_operand _ t) q h = λ w. given (type_meant-alike a t m [] g h w) (λ u. Some (a_type u))
    parts-same (unary _ op e) q h = λ w. given (parts-same e q h w) (unary_of (defined_in a) op (place-same e q h w))
    parts-same (binary _ op x y) q h =
        let s = both_of (bodiless x) (bodiless y) q in
        λ w. both (parts-same x s.0 (on_first (looked_expr top [] x) (looked_expr top [] y) a m h) w) (parts-same y s.1 (on_second (looked_expr top [] x) (looked_expr top [] y) a m h) w) (binary_of (defined_in a) op)
    parts-same (star _ e) q h = λ w. given (parts-same e q h w) (star_of (defined_in a))

    all-same : (es : Exprs S) → all_bodiless es ≡ true → On (looked_exprs top [] es) a m → all_parts a es ≡ all_parts b es
    all-same no_exprs q h = refl
    all-same (expr_and e es) q h =
        let s = both_of (bodiless e) (all_bodiless es) q in
        λ w. both (parts-same e s.0 (on_first (looked_expr top [] e) (looked_exprs top [] es) a m h) w) (all-same es s.1 (on_second (looked_expr top [] e) (looked_exprs top [] es) a m h) w) (λ o os. Some (o ∷ os))

    bound-same : (e : ExprOption S) → bodiless_option e ≡ true → On (looked_expr_option top [] e) a m → bound a e ≡ bound b e
    bound-same no_expr q h = refl
    bound-same (some_expr e) q h = λ w. given (parts-same e q h w) (λ o. with_value o (λ v. Some (Some v)))

    elements-same : (u : GoType) (t : Option GoType) → Fitting t (Some u) → (es : Elems S) → bodiless_elems es ≡ true → On (looked_elems top [] t es) a m → elements a u es ≡ elements b u es
    elements-same u t f no_elems q h = refl
    elements-same u t f (elem _ k v es) q h =
        let s = both_of (bodiless_key k) (bodiless_value v && bodiless_elems es) q in let r = both_of (bodiless_value v) (bodiless_elems es) s.1 in
        let ks : List (List ℕ) = looked_key top [] t k in let vs : List (List ℕ) = looked_value top [] (given t (inner_type (defined_in top))) v in let rest : List (List ℕ) = looked_elems top [] t es in
        let j : On (ks ++ vs) a m = on_first (ks ++ vs) rest a m h in
        λ w. both (given (element-same (inner_type (defined_in a) u) (given t (inner_type (defined_in top))) (values_there f) v r.0 (on_second ks vs a m j) w) (λ o. with_key-same u t f k o s.0 (on_first ks vs a m j) w)) (elements-same u t f es r.1 (on_second (ks ++ vs) rest a m h) w) (λ x xs. Some (x ∷ xs))

    element-same : (u t : Option GoType) → Fitting t u → (v : Value S) → bodiless_value v ≡ true → On (looked_value top [] t v) a m → element a u v ≡ element b u v
    element-same u t f (plain e) q h = parts-same e q h
    element-same u t f (braced _ es) q h =
        then_each {p = u} _ _ refl (λ x e. ap (λ r. given r (built_inside (defined_in a) a.home x)) (elements-same (under (defined_in a) (literal_type (defined_in a) x)) (under_inner top t) (inside_fits f x e) es q h))

    with_key-same : (u : GoType) (t : Option GoType) → Fitting t (Some u) → (k : ValueOption S) (o : Operand) → bodiless_key k ≡ true → On (looked_key top [] t k) a m → with_key a u k o ≡ with_key b u k o
    with_key-same u t f no_value o q h = refl
    with_key-same u t f (some_value k) o q h =
        unless_kept (is_struct u) (given (field_key k) (λ n. Some (of_field n o))) (λ x. Some (keyed x o)) (λ e. element-same (key_type (defined_in a) u) (given t (key_type (defined_in top))) (keys_there f) k q (key_fits u (given t (key_type (defined_in top))) k f e h))

    place-same : (e : Expr S) → bodiless e ≡ true → On (looked_expr top [] e) a m → place a e ≡ place b e
    place-same (ident _ n) q h = λ w. named_place (h n head w)
    place-same (composite _ t es) q h = refl
    place-same (selector _ x n) q h = λ w. elim (package_before-same x h w) [
      | Some p ↦ named_place (exported a.world p n.name)
      | None ↦ place_by (parts-same x q h w) (selected_place (defined_in a) a.home n.name (place-same x q h w))
    ]
    place-same (index _ x i) q h = λ w. place_by (parts-same x (both_of (bodiless x) (bodiless i) q).0 (on_first (looked_expr top [] x) (looked_expr top [] i) a m h) w) (index_place (defined_in a))
    place-same (star _ e) q h = λ w. place_by (parts-same e q h w) (λ v. addressable)
    place-same e q h = refl

  -- ---- initialisers that are typed

  constant-same : (e : Expr S) → bodiless e ≡ true → On (looked_expr top [] e) a m → is_constant a e ≡ is_constant b e
  constant-same e q h = λ w. meets (given (parts-same e q h w) typed) (λ v. is_some (constant_of v.1))

  all_constant-same : (es : Exprs S) → all_bodiless es ≡ true → On (looked_exprs top [] es) a m → all_constant a es ≡ all_constant b es
  all_constant-same no_exprs q h = refl
  all_constant-same (expr_and e es) q h =
      let s = both_of (bodiless e) (all_bodiless es) q in
      λ w. constant-same e s.0 (on_first (looked_expr top [] e) (looked_exprs top [] es) a m h) w && all_constant-same es s.1 (on_second (looked_expr top [] e) (looked_exprs top [] es) a m h) w

  sizes-same : (es : Exprs S) → all_bodiless es ≡ true → On (looked_exprs top [] es) a m → sizes_constant a es ≡ sizes_constant b es
  sizes-same no_exprs q h = refl
  sizes-same (expr_and e es) q h = all_constant-same es (both_of (bodiless e) (all_bodiless es) q).1 (on_second (looked_expr top [] e) (looked_exprs top [] es) a m h)

  maker-same : (e : Expr S) → On (looked_expr top [] e) a m → is_maker a e ≡ is_maker b e
  maker-same (ident _ n) h = ap means_maker (h n head)
  maker-same _ h = refl

  mutual
    initial-same : (e : Expr S) → bodiless e ≡ true → On (looked_expr top [] e) a m → (o : Operand) → parts a e ≡ Some o → is_initial a e ≡ is_initial b e
    initial-same (ident s n) q h o e = λ w. constant-same (ident s n) q h w || means_nil (h n head w)
    initial-same (composite s t es) q h o e =
        let us : List (List ℕ) = looked_elems top [] (under_above top (type_above top [] t)) es in
        let r = from_given (type_meant a t) (λ u. given (elements a (under (defined_in a) u) es) (built (defined_in a) a.home u)) o e in
        let k = from_given (elements a (under (defined_in a) r.0) es) (built (defined_in a) a.home r.0) o r.2 in
        let there : Some r.0 ≡ type_meant b t = sym r.1 ∙ type_meant-alike a t m [] g (on_first (free_type [] t) us a m h) in
        ap (λ z. initial_elems a (given z (λ y. Some (under (defined_in a) y))) es) r.1
        ∙ initial_elems-same (under (defined_in a) r.0) (under_above top (type_above top [] t)) (literal_fits t r.0 r.1) es q (on_second (free_type [] t) us a m h) k.0 k.1
        ∙ ap (λ z. initial_elems b (given z (λ y. Some (under (defined_in a) y))) es) there
    initial-same (unary s op x) q h o e =
        let r = from_given (parts a x) (unary_of (defined_in a) op (place a x)) o e in
        λ w. constant-same (unary s op x) q h w || (is_address op && (is_composite x && initial-same x q h r.0 r.1 w))
    initial-same (call s f xs z) q h o e =
        let r = both_of (bodiless f) (all_bodiless xs) q in
        λ w. constant-same (call s f xs z) q h w || (maker-same f (on_first (looked_expr top [] f) (looked_exprs top [] xs) a m h) w && sizes-same xs r.1 (on_second (looked_expr top [] f) (looked_exprs top [] xs) a m h) w)
    initial-same (int_lit s x) q h o e = λ w. constant-same (int_lit s x) q h w || false
    initial-same (rune_lit s x) q h o e = λ w. constant-same (rune_lit s x) q h w || false
    initial-same (str_lit s x) q h o e = λ w. constant-same (str_lit s x) q h w || false
    initial-same (selector s x n) q h o e = λ w. constant-same (selector s x n) q h w || false
    initial-same (index s x y) q h o e = λ w. constant-same (index s x y) q h w || false
    initial-same (slice s x y z) q h o e = λ w. constant-same (slice s x y z) q h w || false
    initial-same (func_lit s t x y) q h o e = absurd (grind (arith, q))
    initial-same (type_operand s t) q h o e = λ w. constant-same (type_operand s t) q h w || false
    initial-same (binary s op x y) q h o e = λ w. constant-same (binary s op x y) q h w || false
    initial-same (star s x) q h o e = λ w. constant-same (star s x) q h w || false

    initial_elems-same : (u : GoType) (t : Option GoType) → Fitting t (Some u) → (es : Elems S) → bodiless_elems es ≡ true → On (looked_elems top [] t es) a m → (xs : List Element) → elements a u es ≡ Some xs → initial_elems a (Some u) es ≡ initial_elems b (Some u) es
    initial_elems-same u t f no_elems q h xs e = refl
    initial_elems-same u t f (elem _ k v es) q h xs e =
        let s = both_of (bodiless_key k) (bodiless_value v && bodiless_elems es) q in let r = both_of (bodiless_value v) (bodiless_elems es) s.1 in
        let ks : List (List ℕ) = looked_key top [] t k in let vs : List (List ℕ) = looked_value top [] (given t (inner_type (defined_in top))) v in let rest : List (List ℕ) = looked_elems top [] t es in
        let j : On (ks ++ vs) a m = on_first (ks ++ vs) rest a m h in
        let p = from_both (given (element a (inner_type (defined_in a) u) v) (λ o. with_key a u k o)) (elements a u es) (λ x xs. Some (x ∷ xs)) xs e in
        let y = from_given (element a (inner_type (defined_in a) u) v) (λ o. with_key a u k o) p.0 p.2 in
        λ w. initial_key-same u t f k s.0 (on_first ks vs a m j) y.0 p.0 y.2 w && (initial_value-same (inner_type (defined_in a) u) (given t (inner_type (defined_in top))) (values_there f) v r.0 (on_second ks vs a m j) y.0 y.1 w && initial_elems-same u t f es r.1 (on_second (ks ++ vs) rest a m h) p.1 p.3 w)

    initial_key-same : (u : GoType) (t : Option GoType) → Fitting t (Some u) → (k : ValueOption S) → bodiless_key k ≡ true → On (looked_key top [] t k) a m → (o : Operand) (x : Element) → with_key a u k o ≡ Some x → initial_key a (Some u) k ≡ initial_key b (Some u) k
    initial_key-same u t f no_value q h o x e = refl
    initial_key-same u t f (some_value k) q h o x e =
        true_or (is_struct u) (λ c.
        let key : Option GoType = key_type (defined_in a) u in
        let i : given (element a key k) (λ z. Some (keyed z o)) ≡ Some x = subst (λ s. (if s then given (field_key k) (λ n. Some (of_field n o)) else given (element a key k) (λ z. Some (keyed z o))) ≡ Some x) c e in
        let r = from_given (element a key k) (λ z. Some (keyed z o)) x i in
        initial_value-same key (given t (key_type (defined_in top))) (keys_there f) k q (key_fits u (given t (key_type (defined_in top))) k f c h) r.0 r.1)

    initial_value-same : (u t : Option GoType) → Fitting t u → (v : Value S) → bodiless_value v ≡ true → On (looked_value top [] t v) a m → (o : Operand) → element a u v ≡ Some o → initial_value a u v ≡ initial_value b u v
    initial_value-same u t f (plain x) q h o e = initial-same x q h o e
    initial_value-same u t f (braced _ es) q h o e =
        let r = from_given u (λ y. given (elements a (under (defined_in a) (literal_type (defined_in a) y)) es) (built_inside (defined_in a) a.home y)) o e in
        let k = from_given (elements a (under (defined_in a) (literal_type (defined_in a) r.0)) es) (built_inside (defined_in a) a.home r.0) o r.2 in
        ap (λ z. initial_elems a (given z (λ y. Some (under (defined_in a) (literal_type (defined_in a) y)))) es) r.1
        ∙ initial_elems-same (under (defined_in a) (literal_type (defined_in a) r.0)) (under_inner top t) (inside_fits f r.0 r.1) es q h k.0 k.1
        ∙ ap (λ z. initial_elems b (given z (λ y. Some (under (defined_in a) (literal_type (defined_in a) y)))) es) (sym r.1)

  all_initial-same : (es : Exprs S) → all_bodiless es ≡ true → On (looked_exprs top [] es) a m → (os : List Operand) → all_parts a es ≡ Some os → all_initial a es ≡ all_initial b es
  all_initial-same no_exprs q h os e = refl
  all_initial-same (expr_and x xs) q h os e =
      let s = both_of (bodiless x) (all_bodiless xs) q in let r = from_both (parts a x) (all_parts a xs) (λ o os. Some (o ∷ os)) os e in
      λ w. initial-same x s.0 (on_first (looked_expr top [] x) (looked_exprs top [] xs) a m h) r.0 r.2 w && all_initial-same xs s.1 (on_second (looked_expr top [] x) (looked_exprs top [] xs) a m h) r.1 r.3 w

  -- ---- specs

  module _ (ns : List (NameAt S)) (t : Option (TypeExpr S)) (es : Exprs S) (o : On (free_type_option [] t) a m) (h : On (looked_exprs top [] es) a m) where
    pub constants_same : package_constants a ns t es ≡ package_constants b ns t es
    constants_same = by (all_bodiless es) refl
      where
        k : Option GoType → List Operand → Option Binds
        k t os = given (all_typed os) (bind_all (constant_entity a.world.defined t) (names_of ns))

        by : (c : Bool) → all_bodiless es ≡ c → only_if c (both (written_type a t) (all_parts a es) k) ≡ only_if c (both (written_type b t) (all_parts b es) k)
        by false e = refl
        by true e = λ w. both (written_type-alike a t m [] g o w) (all-same es e h w) k

    -- the values of variables
    abbrev values_of : Env → Option GoType → Option Binds
    values_of x t = only_if (all_bodiless es && all_initial x es) (given (all_parts x es) (λ os. given (all_typed os) (bind_all (variable_entity a.world.defined t) (names_of ns))))

    values_same : (t : Option GoType) → values_of a t ≡ values_of b t
    values_same t = by (all_bodiless es) refl (all_parts a es) refl
      where
        k : List Operand → Option Binds
        k os = given (all_typed os) (bind_all (variable_entity a.world.defined t) (names_of ns))

        by : (c : Bool) → all_bodiless es ≡ c → (p : Option (List Operand)) → all_parts a es ≡ p → only_if (c && all_initial a es) (given (all_parts a es) k) ≡ only_if (c && all_initial b es) (given (all_parts b es) k)
        by false e p f = refl
        by true e None f = ap (λ r. only_if (all_initial a es) (given r k)) f ∙ only_none (all_initial a es) ∙ sym (only_none (all_initial b es)) ∙ ap (λ r. only_if (all_initial b es) (given r k)) (sym f ∙ all-same es e h)
        by true e (Some os) f = λ w. only_if (all_initial-same es e h os f w) (given (all-same es e h w) k)

    pub variables_same : package_variables a ns t es ≡ package_variables b ns t es
    variables_same = λ w. given (written_type-alike a t m [] g o w) (λ t. if no_values es then given t (λ t. Some (bind_each (variable t) (names_of ns))) else values_same t w)
