-- The layout of types and signatures (Go specification, Types, Function types).
use Rattle.std.specs.Prelude.{Bool, true, false, List, [], ◌∷◌, Option, Some, None, codes}
use Rattle.go_tree.specs.Tree.{NameAt, TypeExpr, named, pointer, slice_type, map_type, struct_type, Fields, no_fields}
use Rattle.go_tree.specs.Tree.{field, Param, Sig}
use Rattle.go_layout.specs.Layouts.{Layout, no_text, gap, ◌⊕◌, key, op, name_layout}

-- what stands between an entry of a list and those after it
abbrev pub comma_before : {A : Type 0} → List A → Layout
comma_before [] = no_text
comma_before (x ∷ xs) = op (codes ",") ⊕ gap

-- before the type of a variadic parameter
abbrev pub dots_where : Bool → Layout
dots_where true = op (codes "...")
dots_where false = no_text

module _ {S : Type 0} where
  -- `a, b`
  abbrev pub names_layout : List (NameAt S) → Layout
  names_layout [] = no_text
  names_layout (n ∷ ns) = name_layout n ⊕ comma_before ns ⊕ names_layout ns

  -- `p.`
  abbrev pub qualifier_layout : Option (NameAt S) → Layout
  qualifier_layout None = no_text
  qualifier_layout (Some p) = name_layout p ⊕ op (codes ".")

  -- what stands between a field and those after it
  abbrev pub field_end : Fields S → Layout
  field_end no_fields = no_text
  field_end (field _ _ _ _) = op (codes ";") ⊕ gap

  -- `T`, `p.T`, `*T`, `[]T`, `map[K]V`, `struct{a int; b T}`
  abbrev mutual
    -- the layout of a type
    pub type_layout : TypeExpr S → Layout
    type_layout (named _ p n) = qualifier_layout p ⊕ name_layout n
    type_layout (pointer _ t) = op (codes "*") ⊕ type_layout t
    type_layout (slice_type _ t) = op (codes "[") ⊕ op (codes "]") ⊕ type_layout t
    type_layout (map_type _ k t) = key (codes "map") ⊕ op (codes "[") ⊕ type_layout k ⊕ op (codes "]") ⊕ type_layout t
    type_layout (struct_type _ fs) = key (codes "struct") ⊕ op (codes "{") ⊕ fields_layout fs ⊕ op (codes "}")

    -- the fields of a struct, with semicolons between them
    pub fields_layout : Fields S → Layout
    fields_layout no_fields = no_text
    fields_layout (field _ n t fs) = name_layout n ⊕ gap ⊕ type_layout t ⊕ field_end fs ⊕ fields_layout fs

  -- a name and a blank, where there is a name
  abbrev pub param_name_layout : Option (NameAt S) → Layout
  param_name_layout None = no_text
  param_name_layout (Some n) = name_layout n ⊕ gap

  -- `x int`, or `xs ...int`
  abbrev pub param_layout : Param S → Layout
  param_layout p = param_name_layout p.name ⊕ dots_where p.rest ⊕ type_layout p.of

  -- `x int, y int`, each with its type
  abbrev pub param_list_layout : List (Param S) → Layout
  param_list_layout [] = no_text
  param_list_layout (p ∷ ps) = param_layout p ⊕ comma_before ps ⊕ param_list_layout ps

  -- parameters in their parentheses
  abbrev pub params_layout : List (Param S) → Layout
  params_layout ps = op (codes "(") ⊕ param_list_layout ps ⊕ op (codes ")")

  -- one result, in parentheses where it has a name
  abbrev pub result_layout : Option (NameAt S) → Param S → Layout
  result_layout None p = type_layout p.of
  result_layout (Some n) p = params_layout (p ∷ [])

  -- nothing, one type, or several results or a named one in parentheses
  abbrev pub results_layout : List (Param S) → Layout
  results_layout [] = no_text
  results_layout (p ∷ []) = gap ⊕ result_layout p.name p
  results_layout (p ∷ q ∷ ps) = gap ⊕ params_layout (p ∷ q ∷ ps)

  -- a signature: parameters and results
  abbrev pub sig_layout : Sig S → Layout
  sig_layout g = params_layout g.params ⊕ results_layout g.results
