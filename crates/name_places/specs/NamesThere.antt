-- The names in parts of a declaration before which a package's name may stand, each where it stands and as it is
-- written, and the keys of composite literals that name fields (Go specification, Qualified identifiers; Selectors;
-- Types; Composite literals).
use Rattle.std.specs.Prelude.{◌≡◌, ℕ, suc, false, List, [], ◌∷◌, ◌++◌, Option, Some, None, if◌then◌else◌}
use Rattle.go_tree.specs.declared.spans.Span.{Span}
use Rattle.go_tree.specs.Tree.{NameAt, TypeExpr, named, ident, composite, selector, Elems, no_elems, elem, Value}
use Rattle.go_tree.specs.Tree.{plain, braced, ValueOption, no_value, some_value}
use Rattle.go_tree.specs.GoTypes.Answers.{given, meets}
use Rattle.go_tree.specs.GoTypes.Types.{GoType}
use Rattle.go_tree.specs.GoTypes.Defined.{under}
use Rattle.go_tree.specs.GoTypes.Entities.{defined_in}
use Rattle.go_tree.specs.GoTypes.TypeNames.{type_meant}
use Rattle.go_tree.specs.GoTypes.Literals.{is_struct, literal_type}
use Rattle.run_rules.specs.Surroundings.{Use, Place, Seen, seen, seen_type, seen_stmt, into_type, elem_use, key_use}
use Rattle.run_rules.specs.Surroundings.{a_slot, in_slot, elem_closed}
use Rattle.run_rules.specs.Sites.{named_in}
use Rattle.member_uses.specs.Uses.{name_alone}

-- A name by itself, or one behind a dot, before which a name by itself may stand.
pub data Spelling : Type 0 where
  by_itself : List ℕ → Spelling
  behind_dot : Option (List ℕ) → Spelling

-- where a name stands, and how it is written
abbrev pub NameThere : Type 0
NameThere = Span × Spelling

-- it is one of a list
pub data Among {A : Type 0} (x : A) : List A → Type 0 where
  first : {xs : List A} → Among x (x ∷ xs)
  later : {y : A} {xs : List A} → Among x xs → Among x (y ∷ xs)

module _ {S : Type 0} where
  -- how the name of a type is written
  abbrev pub type_spelling : Option (NameAt S) → List ℕ → Spelling
  type_spelling None n = by_itself n
  type_spelling (Some q) n = behind_dot (Some q.name)

  -- ---- keys that name fields

  -- where a key stands that is a name
  abbrev pub field_place : Value S → List S
  field_place (plain (ident s n)) = s ∷ []
  field_place v = []

  abbrev mutual
    -- those of the elements of a literal with this underlying type, from the i-th on
    pub fields_in_elems : Place S → Option GoType → ℕ → Elems S → List S
    fields_in_elems p u i no_elems = []
    fields_in_elems p u i (elem s k v es) =
        fields_in_key p u k
        ++ (fields_in_value (record p { slot = a_slot 1 false (elem_closed es) }) (elem_use p.env u i k) v
        ++ fields_in_elems p u (suc i) es)

    -- that which the key of such an element is, and those within it
    pub fields_in_key : Place S → Option GoType → ValueOption S → List S
    fields_in_key p u no_value = []
    fields_in_key p u (some_value v) =
        if meets u is_struct then field_place v else fields_in_value p (key_use p.env u) v

    -- those within inner braces
    pub fields_in_value : Place S → Use → Value S → List S
    fields_in_value p u (plain e) = []
    fields_in_value p u (braced s es) =
        fields_in_elems p
        (given (into_type u) (λ t. Some (under (defined_in p.env) (literal_type (defined_in p.env) t)))) 0 es

  -- those in a part
  abbrev pub fields_in : Seen S → List S
  fields_in (seen p u (composite s t es)) =
      fields_in_elems (in_slot (a_slot 1 false false) p)
      (given (type_meant p.env t) (λ v. Some (under (defined_in p.env) v))) 0 es
  fields_in x = []

  -- those in parts
  abbrev pub fields_among : List (Seen S) → List S
  fields_among [] = []
  fields_among (x ∷ xs) = fields_in x ++ fields_among xs

  -- ---- names; `to` says where a node stands in the text

  module _ (to : S → Span) where
    -- the name of a type
    abbrev pub type_there : TypeExpr S → List NameThere
    type_there (named s q n) = (to s, type_spelling q n.name) ∷ []
    type_there t = []

    -- names of types
    abbrev pub types_there : List (TypeExpr S) → List NameThere
    types_there [] = []
    types_there (t ∷ ts) = type_there t ++ types_there ts

    -- the names that a part is or, where it is a type, has in it
    abbrev pub names_in : Seen S → List NameThere
    names_in (seen p u (ident s n)) = (to s, by_itself n) ∷ []
    names_in (seen p u (selector s b n)) = (to s, behind_dot (name_alone b)) ∷ []
    names_in (seen p u e) = []
    names_in (seen_type p t) = types_there (named_in t)
    names_in (seen_stmt p s) = []

    -- those in parts
    abbrev pub names_among : List (Seen S) → List NameThere
    names_among [] = []
    names_among (x ∷ xs) = names_in x ++ names_among xs

    -- Names that stand at one place are written alike, and none stands where the key of a field does.
    pub record StandApart (xs : List (Seen S)) : Type 0 where
      pub once :
          (x y : NameThere) → Among x (names_among xs) → Among y (names_among xs) → x.0 ≡ y.0 → x.1 ≡ y.1
      pub fields : (x : NameThere) (s : S) → Among x (names_among xs) → Among s (fields_among xs) → x.0 ≡ to s → ⊥
