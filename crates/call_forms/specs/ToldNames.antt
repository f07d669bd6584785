-- That of the names in parts of a declaration it is told right which packages' names stand before them at a use (Go
-- specification, Qualified identifiers; Exported identifiers; Composite literals).
use Rattle.std.specs.Prelude.{◌≡◌, ℕ, suc, true, false, List, [], ◌∷◌, Option, Some, None}
use Rattle.go_tree.specs.declared.spans.Span.{Span}
use Rattle.go_tree.specs.Tree.{TypeExpr, named, Expr, ident, composite, selector, Elems, no_elems, elem, Value, plain}
use Rattle.go_tree.specs.Tree.{braced, ValueOption, no_value, some_value}
use Rattle.go_tree.specs.GoTypes.Answers.{given, meets}
use Rattle.go_tree.specs.GoTypes.Types.{GoType}
use Rattle.go_tree.specs.GoTypes.Defined.{under}
use Rattle.go_tree.specs.GoTypes.Entities.{defined_in}
use Rattle.go_tree.specs.GoTypes.TypeNames.{type_meant}
use Rattle.go_tree.specs.GoTypes.Literals.{is_struct, literal_type}
use Rattle.pkg_graph.specs.Package.{Package}
use Rattle.run_rules.specs.Surroundings.{Use, Place, Seen, seen, seen_type, seen_stmt, into_type, elem_use, key_use}
use Rattle.run_rules.specs.Surroundings.{a_slot, in_slot, elem_closed}
use Rattle.run_rules.specs.Sites.{Where, named_in}
use Rattle.run_rules.specs.Naming.{Names, member_qualifier, import_qualifier}

-- `to` says where a node stands in the text, `told` what stands before the name at a span; the declaration stands in
-- `home`, the use in the package with the number `at`, where packages have these names.
module _ {S : Type 0} (to : S → Span) (told : Span → Option (List ℕ)) (ps : List (Package S)) (home : Where S) (at : ℕ)
    (names : Names) where
  -- ---- types

  -- the name of a type has before it what it needs there
  abbrev pub TypeTold : Place S → TypeExpr S → Type 0
  TypeTold p (named s None n) = told (to s) ≡ member_qualifier ps home at names p n.name
  TypeTold p (named s (Some q) n) = told (to s) ≡ import_qualifier ps home at names p q.name
  TypeTold p t = Unit {0}

  -- so have all
  abbrev pub TypesTold : Place S → List (TypeExpr S) → Type 0
  TypesTold p [] = Unit {0}
  TypesTold p (t ∷ ts) = TypeTold p t × TypesTold p ts

  -- ---- keys that name fields

  -- a key that names a field is a name, and has nothing before it
  abbrev pub FieldTold : Value S → Type 0
  FieldTold (plain (ident s n)) = told (to s) ≡ None
  FieldTold v = ⊥

  abbrev mutual
    -- so it is with the elements of a literal with this underlying type, from the i-th on
    pub ElemsTold : Place S → Option GoType → ℕ → Elems S → Type 0
    ElemsTold p u i no_elems = Unit {0}
    ElemsTold p u i (elem s k v es) =
        KeyTold p u k ×
        (ValueTold (record p { slot = a_slot 1 false (elem_closed es) }) (elem_use p.env u i k) v
        × ElemsTold p u (suc i) es)

    -- with a key
    pub KeyTold : Place S → Option GoType → ValueOption S → Type 0
    KeyTold p u no_value = Unit {0}
    KeyTold p u (some_value v) =
        (meets u is_struct ≡ true → FieldTold v) × (meets u is_struct ≡ false → ValueTold p (key_use p.env u) v)

    -- and within inner braces
    pub ValueTold : Place S → Use → Value S → Type 0
    ValueTold p u (plain e) = Unit {0}
    ValueTold p u (braced s es) =
        ElemsTold p (given (into_type u) (λ t. Some (under (defined_in p.env) (literal_type (defined_in p.env) t)))) 0
        es

  -- ---- parts

  -- A name alone has before it what it needs there, and so has one behind the name of an import; other names behind
  -- dots have nothing. Keys that name fields have nothing before them.
  abbrev pub ExprTold : Place S → Expr S → Type 0
  ExprTold p (ident s n) = told (to s) ≡ member_qualifier ps home at names p n
  ExprTold p (selector s (ident z q) n) = told (to s) ≡ import_qualifier ps home at names p q
  ExprTold p (selector s b n) = told (to s) ≡ None
  ExprTold p (composite s t es) =
      ElemsTold (in_slot (a_slot 1 false false) p)
      (given (type_meant p.env t) (λ u. Some (under (defined_in p.env) u))) 0 es
  ExprTold p e = Unit {0}

  -- so it is in a part
  abbrev pub PartTold : Seen S → Type 0
  PartTold (seen p u e) = ExprTold p e
  PartTold (seen_type p t) = TypesTold p (named_in t)
  PartTold (seen_stmt p s) = Unit {0}

  -- so it is in all
  abbrev pub AllTold : List (Seen S) → Type 0
  AllTold [] = Unit {0}
  AllTold (x ∷ xs) = PartTold x × AllTold xs
