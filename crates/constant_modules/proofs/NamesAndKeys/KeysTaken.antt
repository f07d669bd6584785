-- Keys that are no values: elements with such keys are none of a literal of a slice or a map, so that a literal in which they
-- stand is typed in no environment.
use Rattle.std.proofs.Common.{◌≡◌, refl, ap, sym, subst, ◌∙◌, ◌⊎◌, inl, inr, ℕ, ◌+◌, Bool, true, false, ◌&&◌, List, ◌∷◌, Option, Some, None, if◌then◌else◌, is_some, nat_eq, arith}
use Rattle.std.specs.List.{list_all}
use Rattle.std.proofs.lemmas.Option.{same_Some}
use Rattle.go_tree.specs.GoTypes.Answers.{given, both, meets, only_if, distinct_by}
use Rattle.go_tree.specs.GoTypes.Types.{GoType, GoFields, fields_of, element_of, map_parts}
use Rattle.go_tree.specs.GoTypes.Defined.{Defined, under}
use Rattle.go_tree.specs.GoTypes.Entities.{Builtin, Entity, Env}
use Rattle.go_tree.specs.GoTypes.Operands.{Operand, a_type, a_builtin, typed, named_operand, plain_value, takes}
use Rattle.go_tree.specs.GoTypes.Literals.{Element, keyed, is_struct, distinct_consts, constant_keys, element_value, index_or, indices, has_key, struct_takes, slice_takes, map_takes, literal_takes, built, built_inside, literal_type}
use Rattle.constant_modules.specs.NamesAndKeys.Marked.{NoValue, no_meaning, of_package, of_type, of_builtin, of_refused}

impossible : {A B : Type 0} {x : B} → None ≡ Some x → A
impossible e = grind arith

-- an answer that is no value: there is none, or it is a type or a predeclared function
pub data Valueless : Option Operand → Type 0 where
  no_answer : Valueless None
  type_answer : {t : GoType} → Valueless (Some (a_type t))
  builtin_answer : {b : Builtin} → Valueless (Some (a_builtin b))

-- both answers are the same, or no values
abbrev pub SameKey : Option Operand → Option Operand → Type 0
SameKey p q = (p ≡ q) ⊎ (Valueless p × Valueless q)

pub valueless : (k : Env) {x : Option Entity} → NoValue x → Valueless (named_operand k x)
valueless k no_meaning = no_answer
valueless k of_package = no_answer
valueless k of_type = type_answer
valueless k of_builtin = builtin_answer
valueless k of_refused = no_answer

-- as values both are the same
pub key-value : {p q : Option Operand} → SameKey p q → given p typed ≡ given q typed
key-value (inl e) = λ w. given (e w) typed
key-value (inr r) = none r.0 ∙ sym (none r.1)
  where
    none : {p : Option Operand} → Valueless p → given p typed ≡ None
    none no_answer = refl
    none type_answer = refl
    none builtin_answer = refl

-- ---- elements

and_false : (b : Bool) → (b && false) ≡ false
and_false true = refl
and_false false = refl

-- an element whose key is no value
pub data Unkeyable : Element → Type 0 where
  keyed_by_type : {t : GoType} {o : Operand} → Unkeyable (keyed (a_type t) o)
  keyed_by_builtin : {b : Builtin} {o : Operand} → Unkeyable (keyed (a_builtin b) o)

-- one of these elements is such
pub data OneUnkeyable : List Element → Type 0 where
  this_element : {x : Element} {xs : List Element} → Unkeyable x → OneUnkeyable (x ∷ xs)
  later_element : {x : Element} {xs : List Element} → OneUnkeyable xs → OneUnkeyable (x ∷ xs)

-- an answer that is none, or such
abbrev pub Unfit : Option Element → Type 0
Unfit p = (x : Element) → p ≡ Some x → Unkeyable x

abbrev pub AllUnfit : Option (List Element) → Type 0
AllUnfit p = (xs : List Element) → p ≡ Some xs → OneUnkeyable xs

-- both answers are the same, or no element of a literal with this underlying type
abbrev pub SameElement : GoType → Option Element → Option Element → Type 0
SameElement u p q = (p ≡ q) ⊎ ((is_struct u ≡ false) × Unfit p × Unfit q)

abbrev pub SameElements : GoType → Option (List Element) → Option (List Element) → Type 0
SameElements u p q = (p ≡ q) ⊎ ((is_struct u ≡ false) × AllUnfit p × AllUnfit q)

unfit_key : {p : Option Operand} (o : Operand) → Valueless p → Unfit (given p (λ q. Some (keyed q o)))
unfit_key o no_answer x e = impossible e
unfit_key o (type_answer {t = t}) x e = subst Unkeyable (same_Some (keyed (a_type t) o) x e) keyed_by_type
unfit_key o (builtin_answer {b = b}) x e = subst Unkeyable (same_Some (keyed (a_builtin b) o) x e) keyed_by_builtin

pub key_either : (s : Bool) (x : Option Element) (o : Operand) {p q : Option Operand} → SameKey p q
    → ((if s then x else given p (λ q. Some (keyed q o))) ≡ (if s then x else given q (λ q. Some (keyed q o))))
    ⊎ ((s ≡ false) × Unfit (if s then x else given p (λ q. Some (keyed q o))) × Unfit (if s then x else given q (λ q. Some (keyed q o))))
key_either true x o r = inl refl
key_either false x o (inl e) = inl (λ w. given (e w) (λ q. Some (keyed q o)))
key_either false x o (inr r) = inr (refl, unfit_key o r.0, unfit_key o r.1)

pub element_head : (u : GoType) {p q : Option Operand} (k l : Operand → Option Element) → p ≡ q → ((o : Operand) → SameElement u (k o) (l o)) → SameElement u (given p k) (given q l)
element_head u {p = None} k l e f = inl (ap (λ r. given r l) e)
element_head u {p = Some o} k l e f = subst (λ r. SameElement u (k o) (given r l)) e (f o)

abbrev pub joined : Option Element → Option (List Element) → Option (List Element)
joined p r = both p r (λ x xs. Some (x ∷ xs))

first_unfit : (p : Option Element) (r : Option (List Element)) → Unfit p → AllUnfit (joined p r)
first_unfit None r f xs e = impossible e
first_unfit (Some x) None f xs e = impossible e
first_unfit (Some x) (Some ys) f xs e = subst OneUnkeyable (same_Some (x ∷ ys) xs e) (this_element (f x refl))

later_unfit : (p : Option Element) (r : Option (List Element)) → AllUnfit r → AllUnfit (joined p r)
later_unfit None r f xs e = impossible e
later_unfit (Some x) None f xs e = impossible e
later_unfit (Some x) (Some ys) f xs e = subst OneUnkeyable (same_Some (x ∷ ys) xs e) (later_element (f ys refl))

pub elements_join : (u : GoType) {p q : Option Element} {r s : Option (List Element)} → SameElement u p q → SameElements u r s → SameElements u (joined p r) (joined q s)
elements_join u (inl e) (inl f) = inl (λ w. joined (e w) (f w))
elements_join u {p = p} {q = q} {r = r} {s = s} (inl e) (inr f) = inr (f.0, later_unfit p r f.1, later_unfit q s f.2)
elements_join u {p = p} {q = q} {r = r} {s = s} (inr e) f = inr (e.0, first_unfit p r e.1, first_unfit q s e.2)

module _ (ds : List Defined) where
  no_indices : (i : ℕ) (xs : List Element) → OneUnkeyable xs → indices ds i xs ≡ None
  no_indices i _ (this_element keyed_by_type) = refl
  no_indices i _ (this_element keyed_by_builtin) = refl
  no_indices i _ (later_element {x = x} {xs = xs} r) = by (index_or ds i x) (λ j. no_indices (j + 1) xs r)
    where
      by : (o : Option ℕ) → ((j : ℕ) → indices ds (j + 1) xs ≡ None) → given o (λ j. given (indices ds (j + 1) xs) (λ js. Some (j ∷ js))) ≡ None
      by None f = refl
      by (Some j) f = ap (λ (o : Option (List ℕ)). given o (λ js. Some (j ∷ js))) (f j)

  no_keys : (k : GoType) (xs : List Element) → OneUnkeyable xs → list_all (has_key ds k) xs ≡ false
  no_keys k _ (this_element keyed_by_type) = refl
  no_keys k _ (this_element keyed_by_builtin) = refl
  no_keys k _ (later_element {x = x} {xs = xs} r) = ap (λ b. has_key ds k x && b) (no_keys k xs r) ∙ and_false (has_key ds k x)

  -- a literal of no struct takes no such elements
  never_takes : (home : ℕ) (u : GoType) (xs : List Element) → is_struct u ≡ false → OneUnkeyable xs → literal_takes ds home u xs ≡ false
  never_takes home u xs e o = by (fields_of u) e
    where
      slice-fails : (t : GoType) → slice_takes ds t xs ≡ false
      slice-fails t =
          ap (λ r. list_all (λ x. takes ds t (element_value x)) xs && meets r (distinct_by nat_eq)) (no_indices 0 xs o)
          ∙ and_false (list_all (λ x. takes ds t (element_value x)) xs)

      map-fails : (q : Option (GoType × GoType)) → meets q (λ q. map_takes ds q.0 q.1 xs) ≡ false
      map-fails None = refl
      map-fails (Some q) = ap (λ b. b && (list_all (λ x. takes ds q.1 (element_value x)) xs && distinct_consts (constant_keys xs))) (no_keys q.0 xs o)

      others : (r : Option GoType) → elim r as (λ r. Bool) [ Some t ↦ slice_takes ds t xs | None ↦ meets (map_parts u) (λ q. map_takes ds q.0 q.1 xs) ] ≡ false
      others None = map-fails (map_parts u)
      others (Some t) = slice-fails t

      by : (f : Option GoFields) → is_some f ≡ false
          → elim f as (λ f. Bool) [
            | Some fs ↦ struct_takes ds home fs xs
            | None ↦ elim (element_of u) as (λ r. Bool) [ Some t ↦ slice_takes ds t xs | None ↦ meets (map_parts u) (λ q. map_takes ds q.0 q.1 xs) ]
          ]
          ≡ false
      by None e = others (element_of u)
      by (Some fs) e = absurd cc

  never_built : (home : ℕ) (u : GoType) (v : Option Operand) (p : Option (List Element)) → is_struct u ≡ false → AllUnfit p → given p (λ xs. only_if (literal_takes ds home u xs) v) ≡ None
  never_built home u v None e f = refl
  never_built home u v (Some xs) e f = ap (λ b. only_if b v) (never_takes home u xs e (f xs refl))

  taken-same : (home : ℕ) (u : GoType) (v : Option Operand) {p q : Option (List Element)} → SameElements u p q → given p (λ xs. only_if (literal_takes ds home u xs) v) ≡ given q (λ xs. only_if (literal_takes ds home u xs) v)
  taken-same home u v (inl e) = λ w. given (e w) (λ xs. only_if (literal_takes ds home u xs) v)
  taken-same home u v {p = p} {q = q} (inr r) = never_built home u v p r.0 r.1 ∙ sym (never_built home u v q r.0 r.2)

  pub built-same : (home : ℕ) (t : GoType) {p q : Option (List Element)} → SameElements (under ds t) p q → given p (built ds home t) ≡ given q (built ds home t)
  built-same home t r = taken-same home (under ds t) (plain_value t) r

  pub inside-same : (home : ℕ) (t : GoType) {p q : Option (List Element)} → SameElements (under ds (literal_type ds t)) p q → given p (built_inside ds home t) ≡ given q (built_inside ds home t)
  inside-same home t r = taken-same home (under ds (literal_type ds t)) (plain_value t) r
