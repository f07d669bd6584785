-- Small functions of environments: what they answer where the names that parts look up mean the same.
use Rattle.std.specs.Prelude.{◌≡◌, refl, ℕ, suc, Bool, true, false, List, [], ◌∷◌, ◌++◌, length, Option, Some, None, if◌then◌else◌, is_some}
use mathlib.Core.Path.{ap}
use Rattle.go_tree.specs.Tree.{NameAt, TypeExpr, Expr, ident, Exprs, no_exprs, expr_and, ExprOption, no_expr, some_expr, Elems, no_elems, elem, Value, plain, braced, ValueOption, no_value, some_value, Stmt, StmtOption, RangeLeft, nothing, assigns, defines}
use Rattle.go_tree.specs.ScopeNames.Means.{Environment}
use Rattle.go_tree.specs.ScopeNames.FreeNames.{names_of, declared, declared_option, free_type_option}
use Rattle.go_tree.specs.GoTypes.Answers.{given, meets}
use Rattle.go_tree.specs.GoTypes.Types.{GoType, is_untyped, GoFields, fields_of}
use Rattle.go_tree.specs.GoTypes.Entities.{Entity, Env, defined_in, package_of}
use Rattle.go_tree.specs.GoTypes.Operands.{Typed}
use Rattle.go_tree.specs.GoTypes.Statements.{is_blank_name, no_values}
use Rattle.go_tree.specs.GoTypes.Typing.{binds_of, new_variables, right_values, package_before}
use Rattle.go_tree.specs.GoTypes.Agreement.{with_names, On}
use Rattle.go_tree.proofs.GoTypes.Agreeing.{on_first, on_second}
use Rattle.field_keys.proofs.Typing.{new_by_define-alike, parts-alike, all_parts-alike, places-alike, declares-alike, declares_first-alike}
use Rattle.go_translation.specs.Values.{typed_of}
use Rattle.go_translation.specs.Operators.{no_type, own_type, first_type, other_types, settled_option}
use Rattle.go_translation.specs.Calls.{constant_place}
use Rattle.go_translation.specs.Statements.{tag_type}
use Rattle.go_translation.specs.Facts.{typed_at, typed_option, first_typed, value_types, target_types, range_type, key_place, element_place, element_places, binds_after, binds_first, spec_binds, define_binds}
use Rattle.go_tree.specs.GoTypes.Literals.{is_struct, key_type, inner_type}
use Rattle.field_keys.specs.Below.{AgreesBelow}
use Rattle.field_keys.specs.Looked.{looked_expr, looked_exprs, looked_expr_option, looked_elems, looked_key, looked_value, looked_stmt, looked_stmt_option, looked_left}
use Rattle.field_keys.proofs.Below.{name_below, written_type-below, Fits, unknown, known}

-- none of the names, or all
or_none : (a : Env) (m : Environment Entity) (b : Bool) (ns : List (List ℕ)) → On ns a m → On (if b then [] else ns) a m
or_none a m true ns h = λ n i. elim i [ ]
or_none a m false ns h = h

-- an element without a key
without_key : (S : Type 0) (a : Env) (fs : Option GoFields) (i : ℕ) (m : Environment Entity) → key_place {S = S} a fs i no_value ≡ key_place {S = S} (with_names a m) fs i no_value
without_key S a None i m = refl
without_key S a (Some fs) i m = refl

module _ {S : Type 0} (top : Env) where
  -- what a key looks up, where no field is meant
  key_in : (a : Env) (u : GoType) (t : Option GoType) → Fits t (Some u) → (s : Option GoType) (k : Value S) (m : Environment Entity) (around : List (List ℕ)) → On (if meets t is_struct then [] else looked_value top around s k) a m → On (if is_some (fields_of u) then [] else looked_value top around s k) a m
  key_in a u _ unknown s k m around h = or_none a m (is_some (fields_of u)) (looked_value top around s k) h
  key_in a u _ known s k m around h = h

module _ {S : Type 0} {top : Env} where
  pub package_before-alike : (a : Env) (e : Expr S) (m : Environment Entity) (around : List (List ℕ)) → AgreesBelow top around a m → On (looked_expr top around e) a m → package_before a e ≡ package_before (with_names a m) e
  package_before-alike a (ident _ n) m around g h = ap package_of (name_below n around a m g h)
  package_before-alike a _ m around g h = refl

  -- ---- what the translation reads off operands

  pub typed_at-alike : (a : Env) (e : Expr S) (m : Environment Entity) (around : List (List ℕ)) → AgreesBelow top around a m → On (looked_expr top around e) a m → typed_at a e ≡ typed_at (with_names a m) e
  typed_at-alike a e m around g h = ap typed_of (parts-alike a e m around g h)

  pub typed_option-alike : (a : Env) (o : ExprOption S) (m : Environment Entity) (around : List (List ℕ)) → AgreesBelow top around a m → On (looked_expr_option top around o) a m → typed_option a o ≡ typed_option (with_names a m) o
  typed_option-alike a no_expr m around g h = refl
  typed_option-alike a (some_expr e) m around g h = typed_at-alike a e m around g h

  pub first_typed-alike : (a : Env) (es : Exprs S) (m : Environment Entity) (around : List (List ℕ)) → AgreesBelow top around a m → On (looked_exprs top around es) a m → first_typed a es ≡ first_typed (with_names a m) es
  first_typed-alike a no_exprs m around g h = refl
  first_typed-alike a (expr_and e es) m around g h = typed_at-alike a e m around g (on_first (looked_expr top around e) (looked_exprs top around es) a m h)

  pub value_types-alike : (a : Env) (n : ℕ) (es : Exprs S) (m : Environment Entity) (around : List (List ℕ)) → AgreesBelow top around a m → On (looked_exprs top around es) a m → value_types a n es ≡ value_types (with_names a m) n es
  value_types-alike a n es m around g h = λ w. settled_option a.world.defined (right_values a n (places-alike a es m around g h w) (all_parts-alike a es m around g h w))

  pub target_types-alike : (a : Env) (es : Exprs S) (ts : List GoType) (m : Environment Entity) (around : List (List ℕ)) → AgreesBelow top around a m → On (looked_exprs top around es) a m → target_types a es ts ≡ target_types (with_names a m) es ts
  target_types-alike a no_exprs ts m around g h = refl
  target_types-alike a (expr_and e es) ts m around g h = λ w. (if is_blank_name e then first_type ts else own_type no_type (typed_at-alike a e m around g (on_first (looked_expr top around e) (looked_exprs top around es) a m h) w)) ∷ target_types-alike a es (other_types ts) m around g (on_second (looked_expr top around e) (looked_exprs top around es) a m h) w

  pub range_type-alike : (a : Env) (v : Option Typed) (l : RangeLeft S) (m : Environment Entity) (around : List (List ℕ)) → AgreesBelow top around a m → On (looked_left top around l) a m → range_type a v l ≡ range_type (with_names a m) v l
  range_type-alike a v nothing m around g h = refl
  range_type-alike a v (defines ns) m around g h = refl
  range_type-alike a v (assigns no_exprs) m around g h = refl
  range_type-alike a v (assigns (expr_and e es)) m around g h = λ w. if is_blank_name e then tag_type a.world.defined v else (if meets v (λ v. is_untyped v.0) then own_type no_type (typed_at-alike a e m around g (on_first (looked_expr top around e) (looked_exprs top around es) a m h) w) else tag_type a.world.defined v)

  key_place-alike : (a : Env) (fs : Option GoFields) (i : ℕ) (s : Option GoType) (k : Value S) (m : Environment Entity) (around : List (List ℕ)) → AgreesBelow top around a m → On (if is_some fs then [] else looked_value top around s k) a m → key_place a fs i (some_value k) ≡ key_place (with_names a m) fs i (some_value k)
  key_place-alike a (Some fs) i s k m around g h = refl
  key_place-alike a None i s (plain e) m around g h = λ w. constant_place (typed_at-alike a e m around g h w) i
  key_place-alike a None i s (braced _ es) m around g h = refl

  pub element_place-alike : (a : Env) (u : GoType) (t : Option GoType) → Fits t (Some u) → (i : ℕ) (k : ValueOption S) (m : Environment Entity) (around : List (List ℕ)) → AgreesBelow top around a m → On (looked_key top around t k) a m → element_place a u i k ≡ element_place (with_names a m) u i k
  element_place-alike a u t f i no_value m around g h = without_key S a (fields_of u) i m
  element_place-alike a u t f i (some_value k) m around g h = key_place-alike a (fields_of u) i (given t (key_type (defined_in top))) k m around g (key_in top a u t f (given t (key_type (defined_in top))) k m around h)

  pub element_places-alike : (a : Env) (u : GoType) (t : Option GoType) → Fits t (Some u) → (i : ℕ) (es : Elems S) (m : Environment Entity) (around : List (List ℕ)) → AgreesBelow top around a m → On (looked_elems top around t es) a m → element_places a u i es ≡ element_places (with_names a m) u i es
  element_places-alike a u t f i no_elems m around g h = refl
  element_places-alike a u t f i (elem _ k x es) m around g h =
      let ks : List (List ℕ) = looked_key top around t k in let vs : List (List ℕ) = looked_value top around (given t (inner_type (defined_in top))) x in let rest : List (List ℕ) = looked_elems top around t es in
      let j : On ks a m = on_first ks vs a m (on_first (ks ++ vs) rest a m h) in
      λ w. element_place-alike a u t f i k m around g j w ∷ element_places-alike a u t f (suc (element_place-alike a u t f i k m around g j w)) es m around g (on_second (ks ++ vs) rest a m h) w

  pub binds_after-alike : (a : Env) (s : Stmt S) (m : Environment Entity) (around : List (List ℕ)) → AgreesBelow top around a m → On (looked_stmt top around s) a m → binds_after a s ≡ binds_after (with_names a m) s
  binds_after-alike a s m around g h = ap (binds_of (declared s)) (declares-alike a s m around g h)

  pub binds_first-alike : (a : Env) (i : StmtOption S) (m : Environment Entity) (around : List (List ℕ)) → AgreesBelow top around a m → On (looked_stmt_option top around i) a m → binds_first a i ≡ binds_first (with_names a m) i
  binds_first-alike a i m around g h = ap (binds_of (declared_option i)) (declares_first-alike a i m around g h)

  pub spec_binds-alike : (a : Env) (ns : List (NameAt S)) (t : Option (TypeExpr S)) (es : Exprs S) (m : Environment Entity) (around : List (List ℕ)) → AgreesBelow top around a m → On (free_type_option around t) a m → On (looked_exprs top around es) a m → spec_binds a ns t es ≡ spec_binds (with_names a m) ns t es
  spec_binds-alike a ns t es m around g h k =
      λ w. binds_of (names_of ns) (new_variables a (names_of ns) (written_type-below a t m around g h w) (no_values es) (right_values a (length ns) (places-alike a es m around g k w) (all_parts-alike a es m around g k w)))

  pub define_binds-alike : (a : Env) (ns : List (NameAt S)) (rs : Exprs S) (m : Environment Entity) (around : List (List ℕ)) → AgreesBelow top around a m → On (looked_exprs top around rs) a m → define_binds a ns rs ≡ define_binds (with_names a m) ns rs
  define_binds-alike a ns rs m around g h = λ w. binds_of (names_of ns) (new_by_define-alike (names_of ns) (right_values a (length ns) (places-alike a rs m around g h w) (all_parts-alike a rs m around g h w)) a m around g w)
