-- What the translation reads off operands is alike where free names mean the same, and keys the same or no value.
use Rattle.std.specs.Prelude.{◌≡◌, refl, ℕ, suc, Bool, true, false, not, ◌&&◌, List, [], ◌∷◌, ◌++◌, length, Option, Some, None, if◌then◌else◌}
use mathlib.Core.Path.{ap, sym, ◌∙◌}
use Rattle.std.proofs.Common.{arith, inl, inr}
use Rattle.go_tree.specs.Tree.{NameAt, Param, Sig, TypeExpr, Expr, ident, Exprs, no_exprs, expr_and, ExprOption, no_expr, some_expr, Elems, no_elems, elem, plain, braced, ValueOption, no_value, some_value, Stmt, StmtOption, RangeLeft, nothing, assigns, defines}
use Rattle.go_tree.specs.ScopeNames.Means.{Environment, means, is_blank, binding}
use Rattle.go_tree.specs.ScopeNames.FreeNames.{names_of, declared, declared_option}
use Rattle.go_tree.specs.GoTypes.Answers.{given, both, meets, only_if}
use Rattle.go_tree.specs.GoTypes.Types.{GoType, is_untyped, GoFields, fields_of}
use Rattle.go_tree.specs.GoTypes.Defined.{has_keys}
use Rattle.go_tree.specs.GoTypes.Entities.{Entity, Env, Binds, defined_in, package_of, meaning, is_declared_here}
use Rattle.go_tree.specs.GoTypes.TypeNames.{type_meant, params_meant, func_type, written_type}
use Rattle.go_tree.specs.GoTypes.Operands.{Operand, Typed}
use Rattle.go_tree.specs.GoTypes.Statements.{is_blank_name, no_values, names_once, some_declared, defined_by, assigns_to, variable_entity}
use Rattle.go_tree.specs.GoTypes.Typing.{binds_or, binds_of, new_variables, new_by_define, right_values, package_before}
use Rattle.go_tree.specs.GoTypes.Agreement.{with_names, Agrees}
use Rattle.go_tree.proofs.GoTypes.Agreeing.{Covers, of_covers}
use Rattle.constant_modules.proofs.NamesAndKeys.TypingMarked.{resolved-alike, parts-alike, all_parts-alike, places-alike, declares-alike, declares_first-alike}
use Rattle.go_kernel.specs.Kernel.{Term, Local, Let, temporary}
use Rattle.go_translation.specs.Values.{typed_of, path_of}
use Rattle.go_translation.specs.Values as v
use Rattle.go_translation.specs.Here.{Location, Here}
use Rattle.go_translation.specs.Places.{store_at}
use Rattle.go_translation.specs.Operators.{no_type, answer_or, own_type, first_type, other_types, settled_option}
use Rattle.go_translation.specs.Calls.{constant_place}
use Rattle.go_translation.specs.Names.{root_at, variable_root}
use Rattle.go_translation.specs.Statements.{old_stored, entity_type, defined_types, tag_type}
use Rattle.go_translation.specs.Facts.{typed_at, typed_option, first_typed, value_types, target_types, range_type, key_place, element_place, element_places, binds_after, binds_first, spec_binds, define_binds}
use Rattle.go_translation.specs.Agreement.{at_names, AgreesHere}
use Rattle.constant_modules.specs.NamesAndKeys.Marked.{OnMarked, marked_type, marked_type_option, marked_params, marked_expr, marked_exprs, marked_expr_option, marked_elems, marked_value, marked_value_option, marked_stmt, marked_stmt_option, marked_left}
use Rattle.constant_modules.proofs.NamesAndKeys.TypingMarked.{first_of, second_of, marked_alike, key-by}
use Rattle.constant_modules.proofs.NamesAndKeys.KeysTaken.{Valueless, no_answer, type_answer, builtin_answer, SameKey}

impossible : {A B : Type 0} {x : B} → None ≡ Some x → A
impossible e = grind arith

-- the types of keys that are the same, or no values
key-typed : {p q : Option Operand} → SameKey p q → typed_of p ≡ typed_of q
key-typed (inl e) = ap typed_of e
key-typed (inr r) = none r.0 ∙ sym (none r.1)
  where
    none : {p : Option Operand} → Valueless p → typed_of p ≡ None
    none no_answer = refl
    none type_answer = refl
    none builtin_answer = refl

pub or_covers : (names : List (List ℕ)) (r : Option Binds) (k : Env) → ((bs : Binds) → r ≡ Some bs → Covers names bs k) → Covers names (binds_or names r) k
or_covers names None k f = of_covers names None k (λ d e. impossible e)
or_covers names (Some bs) k f = f bs refl

pub append_in_turn : (xs ys zs : List (List ℕ)) → (xs ++ ys) ++ zs ≡ xs ++ (ys ++ zs)
append_in_turn [] ys zs = refl
append_in_turn (x ∷ xs) ys zs = ap (λ l. x ∷ l) (append_in_turn xs ys zs)

-- what follows from an answer, alike for each
pub or_each : {A B : Type 0} (d : B) {p q : Option A} (k l : A → B) → p ≡ q → ((x : A) → p ≡ Some x → k x ≡ l x) → answer_or d p k ≡ answer_or d q l
or_each d {p = None} k l e h = ap (λ r. answer_or d r l) e
or_each d {p = Some x} k l e h = h x refl ∙ ap (λ r. answer_or d r l) e

-- `:=` looks up names of the innermost block alone
defined_by-alike : (a : Env) (ns : List (List ℕ)) (vs : List Typed) (m : Environment Entity) (around : List (List ℕ)) → Agrees around a m → defined_by (defined_in a) a ns vs ≡ defined_by (defined_in a) (with_names a m) ns vs
defined_by-alike a [] [] m around g = refl
defined_by-alike a [] (v ∷ vs) m around g = refl
defined_by-alike a (n ∷ ns) [] m around g = refl
defined_by-alike a (n ∷ ns) (v ∷ vs) m around g = go (is_declared_here a n) refl (defined_by-alike a ns vs m around g)
  where
    go : (d : Bool) → is_declared_here a n ≡ d → defined_by (defined_in a) a ns vs ≡ defined_by (defined_in a) (with_names a m) ns vs
        → (if d then only_if (assigns_to (defined_in a) (meaning a n) v) (defined_by (defined_in a) a ns vs) else both (variable_entity (defined_in a) None v) (defined_by (defined_in a) a ns vs) (λ e bs. Some (binding n e ++ bs)))
        ≡ (if d then only_if (assigns_to (defined_in a) (means m n) v) (defined_by (defined_in a) (with_names a m) ns vs) else both (variable_entity (defined_in a) None v) (defined_by (defined_in a) (with_names a m) ns vs) (λ e bs. Some (binding n e ++ bs)))
    go true d e = λ w. only_if (assigns_to (defined_in a) (g.here n d w) v) (e w)
    go false d e = λ w. both (variable_entity (defined_in a) None v) (e w) (λ e bs. Some (binding n e ++ bs))

new_by_define-alike : (a : Env) (ns : List (List ℕ)) (vs : Option (List Typed)) (m : Environment Entity) (around : List (List ℕ)) → Agrees around a m → new_by_define a ns vs ≡ new_by_define (with_names a m) ns vs
new_by_define-alike a ns None m around g = refl
new_by_define-alike a ns (Some vs) m around g = ap (λ r. only_if (names_once ns) (some_declared r)) (defined_by-alike a ns vs m around g)

module _ {S : Type 0} where
  pub type_meant-alike : (a : Env) (t : TypeExpr S) (m : Environment Entity) (around : List (List ℕ)) → Agrees around a m → OnMarked (marked_type around t) a m → type_meant a t ≡ type_meant (with_names a m) t
  type_meant-alike a t m around g h = λ w. given (resolved-alike t a m around g h w) (λ u. only_if (has_keys (defined_in a) u) (Some u))

  pub written_type-alike : (a : Env) (t : Option (TypeExpr S)) (m : Environment Entity) (around : List (List ℕ)) → Agrees around a m → OnMarked (marked_type_option around t) a m → written_type a t ≡ written_type (with_names a m) t
  written_type-alike a None m around g h = refl
  written_type-alike a (Some t) m around g h = λ w. given (type_meant-alike a t m around g h w) (λ u. Some (Some u))

  params_meant-alike : (ps : List (Param S)) (a : Env) (m : Environment Entity) (around : List (List ℕ)) → Agrees around a m → OnMarked (marked_params around ps) a m → params_meant a ps ≡ params_meant (with_names a m) ps
  params_meant-alike [] a m around g h = refl
  params_meant-alike (p ∷ ps) a m around g h = λ w. both (type_meant-alike a p.of m around g (first_of (marked_type around p.of) (marked_params around ps) a m h) w) (params_meant-alike ps a m around g (second_of (marked_type around p.of) (marked_params around ps) a m h) w) (λ y ys. Some (y ∷ ys))

  pub func_type-alike : (a : Env) (s : Sig S) (m : Environment Entity) (around : List (List ℕ)) → Agrees around a m → OnMarked (marked_params around s.params) a m → OnMarked (marked_params around s.results) a m → func_type a s ≡ func_type (with_names a m) s
  func_type-alike a s m around g h k = λ w. both (params_meant-alike s.params a m around g h w) (params_meant-alike s.results a m around g k w) (λ ts us. Some (record { params = ts; results = us }))

  pub package_before-alike : (a : Env) (e : Expr S) (m : Environment Entity) (around : List (List ℕ)) → Agrees around a m → OnMarked (marked_expr around e) a m → package_before a e ≡ package_before (with_names a m) e
  package_before-alike a (ident _ n) m around g h = ap package_of (marked_alike n around a m g h)
  package_before-alike a _ m around g h = refl

  -- ---- what the translation reads off operands

  pub typed_at-alike : (a : Env) (e : Expr S) (m : Environment Entity) (around : List (List ℕ)) → Agrees around a m → OnMarked (marked_expr around e) a m → typed_at a e ≡ typed_at (with_names a m) e
  typed_at-alike a e m around g h = ap typed_of (parts-alike a e m around g h)

  pub typed_option-alike : (a : Env) (o : ExprOption S) (m : Environment Entity) (around : List (List ℕ)) → Agrees around a m → OnMarked (marked_expr_option around o) a m → typed_option a o ≡ typed_option (with_names a m) o
  typed_option-alike a no_expr m around g h = refl
  typed_option-alike a (some_expr e) m around g h = typed_at-alike a e m around g h

  pub first_typed-alike : (a : Env) (es : Exprs S) (m : Environment Entity) (around : List (List ℕ)) → Agrees around a m → OnMarked (marked_exprs around es) a m → first_typed a es ≡ first_typed (with_names a m) es
  first_typed-alike a no_exprs m around g h = refl
  first_typed-alike a (expr_and e es) m around g h = typed_at-alike a e m around g (first_of (marked_expr around e) (marked_exprs around es) a m h)

  pub value_types-alike : (a : Env) (n : ℕ) (es : Exprs S) (m : Environment Entity) (around : List (List ℕ)) → Agrees around a m → OnMarked (marked_exprs around es) a m → value_types a n es ≡ value_types (with_names a m) n es
  value_types-alike a n es m around g h = λ w. settled_option a.world.defined (right_values a n (places-alike a es m around g h w) (all_parts-alike a es m around g h w))

  pub target_types-alike : (a : Env) (es : Exprs S) (ts : List GoType) (m : Environment Entity) (around : List (List ℕ)) → Agrees around a m → OnMarked (marked_exprs around es) a m → target_types a es ts ≡ target_types (with_names a m) es ts
  target_types-alike a no_exprs ts m around g h = refl
  target_types-alike a (expr_and e es) ts m around g h = λ w. (if is_blank_name e then first_type ts else own_type no_type (typed_at-alike a e m around g (first_of (marked_expr around e) (marked_exprs around es) a m h) w)) ∷ target_types-alike a es (other_types ts) m around g (second_of (marked_expr around e) (marked_exprs around es) a m h) w

  pub range_type-alike : (a : Env) (v : Option Typed) (l : RangeLeft S) (m : Environment Entity) (around : List (List ℕ)) → Agrees around a m → OnMarked (marked_left around l) a m → range_type a v l ≡ range_type (with_names a m) v l
  range_type-alike a v nothing m around g h = refl
  range_type-alike a v (defines ns) m around g h = refl
  range_type-alike a v (assigns no_exprs) m around g h = refl
  range_type-alike a v (assigns (expr_and e es)) m around g h = λ w. if is_blank_name e then tag_type a.world.defined v else (if meets v (λ v. is_untyped v.0) then own_type no_type (typed_at-alike a e m around g (first_of (marked_expr around e) (marked_exprs around es) a m h) w) else tag_type a.world.defined v)

  key_place-alike : (a : Env) (fs : Option GoFields) (i : ℕ) (k : ValueOption S) (m : Environment Entity) (around : List (List ℕ)) → Agrees around a m → OnMarked (marked_value_option around k) a m → key_place a fs i k ≡ key_place (with_names a m) fs i k
  key_place-alike a None i no_value m around g h = refl
  key_place-alike a (Some fs) i no_value m around g h = refl
  key_place-alike a (Some fs) i (some_value k) m around g h = refl
  key_place-alike a None i (some_value (plain e)) m around g h = ap (λ v. constant_place v i) (key-typed (key-by a None (plain e) m around g h (λ j. parts-alike a e m around g j)))
  key_place-alike a None i (some_value (braced s es)) m around g h = refl

  pub element_place-alike : (a : Env) (u : GoType) (i : ℕ) (k : ValueOption S) (m : Environment Entity) (around : List (List ℕ)) → Agrees around a m → OnMarked (marked_value_option around k) a m → element_place a u i k ≡ element_place (with_names a m) u i k
  element_place-alike a u i k m around g h = key_place-alike a (fields_of u) i k m around g h

  pub element_places-alike : (a : Env) (u : GoType) (i : ℕ) (es : Elems S) (m : Environment Entity) (around : List (List ℕ)) → Agrees around a m → OnMarked (marked_elems around es) a m → element_places a u i es ≡ element_places (with_names a m) u i es
  element_places-alike a u i no_elems m around g h = refl
  element_places-alike a u i (elem _ k x es) m around g h =
      λ w. element_place-alike a u i k m around g (first_of (marked_value_option around k) (marked_value around x) a m (first_of (marked_value_option around k ++ marked_value around x) (marked_elems around es) a m h)) w
      ∷ element_places-alike a u (suc (element_place-alike a u i k m around g (first_of (marked_value_option around k) (marked_value around x) a m (first_of (marked_value_option around k ++ marked_value around x) (marked_elems around es) a m h)) w)) es m around g (second_of (marked_value_option around k ++ marked_value around x) (marked_elems around es) a m h) w

  pub binds_after-alike : (a : Env) (s : Stmt S) (m : Environment Entity) (around : List (List ℕ)) → Agrees around a m → OnMarked (marked_stmt around s) a m → binds_after a s ≡ binds_after (with_names a m) s
  binds_after-alike a s m around g h = ap (binds_of (declared s)) (declares-alike a s m around g h)

  pub binds_first-alike : (a : Env) (i : StmtOption S) (m : Environment Entity) (around : List (List ℕ)) → Agrees around a m → OnMarked (marked_stmt_option around i) a m → binds_first a i ≡ binds_first (with_names a m) i
  binds_first-alike a i m around g h = ap (binds_of (declared_option i)) (declares_first-alike a i m around g h)

  pub spec_binds-alike : (a : Env) (ns : List (NameAt S)) (t : Option (TypeExpr S)) (es : Exprs S) (m : Environment Entity) (around : List (List ℕ)) → Agrees around a m → OnMarked (marked_type_option around t) a m → OnMarked (marked_exprs around es) a m → spec_binds a ns t es ≡ spec_binds (with_names a m) ns t es
  spec_binds-alike a ns t es m around g h k =
      λ w. binds_of (names_of ns) (new_variables a (names_of ns) (written_type-alike a t m around g h w) (no_values es) (right_values a (length ns) (places-alike a es m around g k w) (all_parts-alike a es m around g k w)))

  pub define_binds-alike : (a : Env) (ns : List (NameAt S)) (rs : Exprs S) (m : Environment Entity) (around : List (List ℕ)) → Agrees around a m → OnMarked (marked_exprs around rs) a m → define_binds a ns rs ≡ define_binds (with_names a m) ns rs
  define_binds-alike a ns rs m around g h = λ w. binds_of (names_of ns) (new_by_define-alike a (names_of ns) (right_values a (length ns) (places-alike a rs m around g h w) (all_parts-alike a rs m around g h w)) m around g w)

-- ---- names that the innermost block declares

pub defined_types-alike : (a : Env) (ns : List (List ℕ)) (ts : List GoType) (m : Environment Entity) (around : List (List ℕ)) → Agrees around a m → defined_types a ns ts ≡ defined_types (with_names a m) ns ts
defined_types-alike a [] ts m around g = refl
defined_types-alike a (n ∷ ns) ts m around g = λ w. go (is_declared_here a n) refl w ∷ defined_types-alike a ns (other_types ts) m around g w
  where
    go : (b : Bool) → is_declared_here a n ≡ b → (if b then entity_type (first_type ts) (meaning a n) else first_type ts) ≡ (if b then entity_type (first_type ts) (means m n) else first_type ts)
    go true e = ap (entity_type (first_type ts)) (g.here n e)
    go false e = refl

pub old_stored-alike : (h : Here) (i : ℕ) (ns : List (List ℕ)) (rest : Term) (m : Environment Entity) (l : Environment Location) (around : List (List ℕ)) → AgreesHere around h m l → old_stored h i ns rest ≡ old_stored (at_names h m l) i ns rest
old_stored-alike h i [] rest m l around g = refl
old_stored-alike h i (n ∷ ns) rest m l around g = go (is_blank n) (is_declared_here h.env n) refl (old_stored-alike h (suc i) ns rest m l around g)
  where
    go : (c b : Bool) → is_declared_here h.env n ≡ b → old_stored h (suc i) ns rest ≡ old_stored (at_names h m l) (suc i) ns rest
        → (if not c && b then Let [] (store_at (variable_root h n) [] v.nothing (Local (temporary i))) (old_stored h (suc i) ns rest) else old_stored h (suc i) ns rest)
        ≡ (if not c && b then Let [] (store_at (variable_root (at_names h m l) n) [] v.nothing (Local (temporary i))) (old_stored (at_names h m l) (suc i) ns rest) else old_stored (at_names h m l) (suc i) ns rest)
    go true true e r = r
    go true false e r = r
    go false true e r = λ w. Let [] (store_at (root_at (path_of h.paths h.env.home) n (g.here n e w)) [] v.nothing (Local (temporary i))) (r w)
    go false false e r = r
