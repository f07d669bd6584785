-- Before the keys of composite literals that name fields nothing stands.
use Rattle.std.proofs.Common.{◌≡◌, ℕ, suc, Bool, true, false, List, [], ◌∷◌, ◌++◌, Option, Some, None, ap, subst}
use Rattle.std.specs.Prelude.{if◌then◌else◌}
use Rattle.go_tree.specs.declared.spans.Span.{Span}
use Rattle.go_tree.specs.Tree.{ident, int_lit, rune_lit, str_lit, composite, selector, index, slice, call, func_lit, type_operand, unary, binary, star, Elems, no_elems, elem, Value, plain, braced, ValueOption, no_value, some_value}
use Rattle.go_tree.specs.GoTypes.Answers.{given, meets}
use Rattle.go_tree.specs.GoTypes.Types.{GoType}
use Rattle.go_tree.specs.GoTypes.Defined.{under}
use Rattle.go_tree.specs.GoTypes.Entities.{defined_in}
use Rattle.go_tree.specs.GoTypes.Literals.{is_struct, literal_type}
use Rattle.pkg_graph.specs.Package.{Package}
use Rattle.run_rules.specs.Surroundings.{Use, Place, into_type, elem_use, key_use, a_slot, elem_closed}
use Rattle.run_rules.specs.Sites.{Where}
use Rattle.run_rules.specs.Naming.{Names}
use Rattle.member_uses.specs.PossibleUses.Among.{ElemsKeyed, KeyKeyed, ValueKeyed}
use Rattle.call_forms.specs.ToldNames.{FieldTold, ElemsTold, KeyTold, ValueTold}
use Rattle.name_places.proofs.Lists.{among_front, among_back}
use Rattle.name_places.specs.NamesThere.{Among, first, field_place, fields_in_elems, fields_in_key, fields_in_value}

module _ {S : Type 0} (to : S → Span) (told : Span → Option (List ℕ)) (ps : List (Package S)) (home : Where S) (at : ℕ) (names : Names) where
  abbrev Free : List S → Type 0
  Free ss = (s : S) → Among s ss → told (to s) ≡ None

  free_front : (xs ys : List S) → Free (xs ++ ys) → Free xs
  free_front xs ys h s m = h s (among_front s xs ys m)

  free_back : (xs ys : List S) → Free (xs ++ ys) → Free ys
  free_back xs ys h s m = h s (among_back s xs ys m)

  clash : {A : Type 0} (b : Bool) → b ≡ false → b ≡ true → A
  clash b p q = absurd cc

  -- a key that is no name alone isn't one of a struct
  other_key : (p : Place S) (u : Option GoType) (v : Value S) → (meets u is_struct ≡ false) × ValueKeyed p (key_use p.env u) v
      → (ValueKeyed p (key_use p.env u) v → Free (fields_in_value p (key_use p.env u) v) → ValueTold to told ps home at names p (key_use p.env u) v)
      → Free (if meets u is_struct then field_place v else fields_in_value p (key_use p.env u) v)
      → (meets u is_struct ≡ true → FieldTold to told ps home at names v) × (meets u is_struct ≡ false → ValueTold to told ps home at names p (key_use p.env u) v)
  other_key p u v k on h =
      (λ t. clash (meets u is_struct) k.0 t, λ e. on k.1 (subst Free (ap (λ (b : Bool). if b then field_place v else fields_in_value p (key_use p.env u) v) e) h))

  mutual
    pub elems_told : (p : Place S) (u : Option GoType) (i : ℕ) (es : Elems S) → ElemsKeyed p u i es → Free (fields_in_elems p u i es) → ElemsTold to told ps home at names p u i es
    elems_told p u i no_elems k h = tt
    elems_told p u i (elem s q v es) k h =
        let q_here : List S = fields_in_key p u q in
        let v_here : List S = fields_in_value (record p { slot = a_slot 1 false (elem_closed es) }) (elem_use p.env u i q) v in
        let rest : List S = fields_in_elems p u (suc i) es in (
          key_told p u q k.0 (free_front q_here (v_here ++ rest) h),
          (
            value_told (record p { slot = a_slot 1 false (elem_closed es) }) (elem_use p.env u i q) v k.1.0 (free_front v_here rest (free_back q_here (v_here ++ rest) h)),
            elems_told p u (suc i) es k.1.1 (free_back v_here rest (free_back q_here (v_here ++ rest) h)),
          ),
        )

    key_told : (p : Place S) (u : Option GoType) (q : ValueOption S) → KeyKeyed p u q → Free (fields_in_key p u q) → KeyTold to told ps home at names p u q
    key_told p u no_value k h = tt
    key_told p u (some_value (plain (ident s n))) k h =
        (λ t. subst Free (ap (λ (b : Bool). if b then s ∷ [] else []) t) h s first, λ e. tt)
    key_told p u (some_value (plain (int_lit s n))) k h = (λ t. clash (meets u is_struct) k.0 t, λ e. tt)
    key_told p u (some_value (plain (rune_lit s n))) k h = (λ t. clash (meets u is_struct) k.0 t, λ e. tt)
    key_told p u (some_value (plain (str_lit s n))) k h = (λ t. clash (meets u is_struct) k.0 t, λ e. tt)
    key_told p u (some_value (plain (composite s t es))) k h = (λ t. clash (meets u is_struct) k.0 t, λ e. tt)
    key_told p u (some_value (plain (selector s b n))) k h = (λ t. clash (meets u is_struct) k.0 t, λ e. tt)
    key_told p u (some_value (plain (index s b j))) k h = (λ t. clash (meets u is_struct) k.0 t, λ e. tt)
    key_told p u (some_value (plain (slice s b i j))) k h = (λ t. clash (meets u is_struct) k.0 t, λ e. tt)
    key_told p u (some_value (plain (call s g xs r))) k h = (λ t. clash (meets u is_struct) k.0 t, λ e. tt)
    key_told p u (some_value (plain (func_lit s g z b))) k h = (λ t. clash (meets u is_struct) k.0 t, λ e. tt)
    key_told p u (some_value (plain (type_operand s t))) k h = (λ t. clash (meets u is_struct) k.0 t, λ e. tt)
    key_told p u (some_value (plain (unary s o e))) k h = (λ t. clash (meets u is_struct) k.0 t, λ e. tt)
    key_told p u (some_value (plain (binary s o a b))) k h = (λ t. clash (meets u is_struct) k.0 t, λ e. tt)
    key_told p u (some_value (plain (star s e))) k h = (λ t. clash (meets u is_struct) k.0 t, λ e. tt)
    key_told p u (some_value (braced s es)) k h = other_key p u (braced s es) k (λ k h. value_told p (key_use p.env u) (braced s es) k h) h

    value_told : (p : Place S) (u : Use) (v : Value S) → ValueKeyed p u v → Free (fields_in_value p u v) → ValueTold to told ps home at names p u v
    value_told p u (plain e) k h = tt
    value_told p u (braced s es) k h =
        elems_told p (given (into_type u) (λ t. Some (under (defined_in p.env) (literal_type (defined_in p.env) t)))) 0 es k h
