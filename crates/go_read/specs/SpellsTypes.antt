-- What spells a type and a signature (Go specification, Types, Function types).
--
-- A relation that ends in `tokens rest` holds where the tokens before `rest` are spelled by one of the productions; the
-- rules
-- below are the productions, one each. `mark tokens rest` is what a node has for its span.
use Rattle.std.specs.Prelude.{ℕ, Bool, true, false, List, [], ◌∷◌, Some, None}
use Rattle.go_tree.specs.declared.spans.Span.{Span}
use Rattle.go_tree.specs.declared.operators.BinOp.TheVariants.{Mul}
use Rattle.go_tree.specs.Tree.{NameAt, TypeExpr, named, pointer, slice_type, map_type, struct_type, Fields, no_fields}
use Rattle.go_tree.specs.Tree.{field, Param, Sig}
use Rattle.go_tree.specs.GoWords.Terminals.{Lexeme, lex, ident, binary_op, comma, semicolon, dot, ellipsis, paren}
use Rattle.go_tree.specs.GoWords.Terminals.{end_paren, bracket, end_bracket, brace, end_brace, key_map, key_struct}

-- the terminals from a place on, each where it stands
abbrev pub Lexemes : Type 0
Lexemes = List Lexeme

-- what a type has for its span
abbrev pub type_mark : {S : Type 0} → TypeExpr S → S
type_mark (named s _ _) = s
type_mark (pointer s _) = s
type_mark (slice_type s _) = s
type_mark (map_type s _ _) = s
type_mark (struct_type s _) = s

-- names that share a type: what each entry has for its span, and the name
abbrev pub fields_of : {S : Type 0} → List (S × NameAt S) → TypeExpr S → Fields S → Fields S
fields_of [] t more = more
fields_of (e ∷ es) t more = field e.0 e.1 t (fields_of es t more)

-- an entry for each of the names that share a type, before further parameters
abbrev pub params_of : {S : Type 0} → List (S × NameAt S) → TypeExpr S → List (Param S) → List (Param S)
params_of [] t more = more
params_of (e ∷ es) t more = record { span = e.0; name = Some e.1; rest = false; of = t } ∷ params_of es t more

-- a parameter or result without a name
abbrev pub unnamed : {S : Type 0} → TypeExpr S → Param S
unnamed t = record { span = type_mark t; name = None; rest = false; of = t }

module _ {S : Type 0} (mark : Lexemes → Lexemes → S) where
  -- the name that a token is
  abbrev pub name_here : Span → List ℕ → Lexemes → NameAt S
  name_here s n rest = record { span = mark (lex s (ident n) ∷ rest) rest; name = n }

  mutual
    -- Type = name | name "." name | "*" Type | "[" "]" Type | "map" "[" Type "]" Type | "struct" "{" { Names Type ";" }
    -- "}" | "(" Type ")"
    pub data SpellsType : TypeExpr S → Lexemes → Lexemes → Type 0 where
      named_rule : {s : Span} {n : List ℕ} {r : Lexemes}
          → SpellsType (named (mark (lex s (ident n) ∷ r) r) None (name_here s n r)) (lex s (ident n) ∷ r) r
      qualified_rule : {s d s2 : Span} {p n : List ℕ} {r : Lexemes}
          → SpellsType
          (named (mark (lex s (ident p) ∷ lex d dot ∷ lex s2 (ident n) ∷ r) r)
          (Some (name_here s p (lex d dot ∷ lex s2 (ident n) ∷ r))) (name_here s2 n r))
          (lex s (ident p) ∷ lex d dot ∷ lex s2 (ident n) ∷ r) r
      pointer_rule : {s : Span} {t : TypeExpr S} {ts r : Lexemes}
          → SpellsType t ts r →
          SpellsType (pointer (mark (lex s (binary_op Mul) ∷ ts) r) t) (lex s (binary_op Mul) ∷ ts) r
      slice_type_rule : {s e : Span} {t : TypeExpr S} {ts r : Lexemes}
          → SpellsType t ts r
          → SpellsType (slice_type (mark (lex s bracket ∷ lex e end_bracket ∷ ts) r) t)
          (lex s bracket ∷ lex e end_bracket ∷ ts) r
      map_type_rule : {s b e : Span} {k t : TypeExpr S} {ts mid r : Lexemes}
          → SpellsType k ts (lex e end_bracket ∷ mid) → SpellsType t mid r
          → SpellsType (map_type (mark (lex s key_map ∷ lex b bracket ∷ ts) r) k t)
          (lex s key_map ∷ lex b bracket ∷ ts) r
      struct_type_rule : {s b e : Span} {fs : Fields S} {ts r : Lexemes}
          → SpellsFields fs ts (lex e end_brace ∷ r)
          → SpellsType (struct_type (mark (lex s key_struct ∷ lex b brace ∷ ts) r) fs)
          (lex s key_struct ∷ lex b brace ∷ ts) r
      type_parens_rule : {s e : Span} {t : TypeExpr S} {ts r : Lexemes}
          → SpellsType t ts (lex e end_paren ∷ r) → SpellsType t (lex s paren ∷ ts) r

    -- { Names Type ";" } before "}", where the last semicolon may be left out
    pub data SpellsFields : Fields S → Lexemes → Lexemes → Type 0 where
      no_fields_rule : {r : Lexemes} → SpellsFields no_fields r r
      last_field_rule : {e : Span} {t : TypeExpr S} {es : List (S × NameAt S)} {ts r : Lexemes}
          → SpellsEntries t es ts (lex e end_brace ∷ r) →
          SpellsFields (fields_of es t no_fields) ts (lex e end_brace ∷ r)
      more_fields_rule : {c : Span} {t : TypeExpr S} {es : List (S × NameAt S)} {fs : Fields S} {ts mid r : Lexemes}
          → SpellsEntries t es ts (lex c semicolon ∷ mid) → SpellsFields fs mid r
          → SpellsFields (fields_of es t fs) ts r

    -- Names Type: an entry for each name, from it to the end of the type
    pub data SpellsEntries : TypeExpr S → List (S × NameAt S) → Lexemes → Lexemes → Type 0 where
      last_entry_rule : {s : Span} {n : List ℕ} {t : TypeExpr S} {ts r : Lexemes}
          → SpellsType t ts r →
          SpellsEntries t ((mark (lex s (ident n) ∷ ts) r, name_here s n ts) ∷ []) (lex s (ident n) ∷ ts) r
      more_entries_rule : {s c : Span} {n : List ℕ} {t : TypeExpr S} {es : List (S × NameAt S)} {ts r : Lexemes}
          → SpellsEntries t es ts r
          → SpellsEntries t ((mark (lex s (ident n) ∷ lex c comma ∷ ts) r, name_here s n (lex c comma ∷ ts)) ∷ es)
          (lex s (ident n) ∷ lex c comma ∷ ts) r

  -- [ name ] "..." Type, with a name or without one: the last parameter of a list that may be variadic
  pub data SpellsRest : Bool → Param S → Lexemes → Lexemes → Type 0 where
    rest_rule : {d : Span} {t : TypeExpr S} {ts r : Lexemes}
        → SpellsType t ts r
        → SpellsRest false (record { span = mark (lex d ellipsis ∷ ts) r; name = None; rest = true; of = t })
        (lex d ellipsis ∷ ts) r
    named_rest_rule : {s d : Span} {n : List ℕ} {t : TypeExpr S} {ts r : Lexemes}
        → SpellsType t ts r
        → SpellsRest true
        (record {
          span = mark (lex s (ident n) ∷ lex d ellipsis ∷ ts) r;
          name = Some (name_here s n (lex d ellipsis ∷ ts));
          rest = true;
          of = t;
        })
        (lex s (ident n) ∷ lex d ellipsis ∷ ts) r

  -- { Names Type "," } ( Names Type | name "..." Type ) [ "," ] ")"
  pub data SpellsNamed : Bool → List (Param S) → Lexemes → Lexemes → Type 0 where
    last_named_rule : {v : Bool} {e : Span} {t : TypeExpr S} {es : List (S × NameAt S)} {ts r : Lexemes}
        → SpellsEntries t es ts (lex e end_paren ∷ r) → SpellsNamed v (params_of es t []) ts r
    comma_named_rule : {v : Bool} {c e : Span} {t : TypeExpr S} {es : List (S × NameAt S)} {ts r : Lexemes}
        → SpellsEntries t es ts (lex c comma ∷ lex e end_paren ∷ r) → SpellsNamed v (params_of es t []) ts r
    more_named_rule : {v : Bool} {c : Span} {t : TypeExpr S} {es : List (S × NameAt S)} {ps : List (Param S)}
        {ts mid r : Lexemes}
        → SpellsEntries t es ts (lex c comma ∷ mid) → SpellsNamed v ps mid r
        → SpellsNamed v (params_of es t ps) ts r
    rest_named_rule : {e : Span} {p : Param S} {ts r : Lexemes} → SpellsRest true p ts (lex e end_paren ∷ r) →
        SpellsNamed true (p ∷ []) ts r
    comma_rest_named_rule : {c e : Span} {p : Param S} {ts r : Lexemes}
        → SpellsRest true p ts (lex c comma ∷ lex e end_paren ∷ r) → SpellsNamed true (p ∷ []) ts r

  -- { Type "," } ( Type | "..." Type ) [ "," ] ")"
  pub data SpellsUnnamed : Bool → List (Param S) → Lexemes → Lexemes → Type 0 where
    last_unnamed_rule : {v : Bool} {e : Span} {t : TypeExpr S} {ts r : Lexemes}
        → SpellsType t ts (lex e end_paren ∷ r) → SpellsUnnamed v (unnamed t ∷ []) ts r
    comma_unnamed_rule : {v : Bool} {c e : Span} {t : TypeExpr S} {ts r : Lexemes}
        → SpellsType t ts (lex c comma ∷ lex e end_paren ∷ r) → SpellsUnnamed v (unnamed t ∷ []) ts r
    more_unnamed_rule : {v : Bool} {c : Span} {t : TypeExpr S} {ps : List (Param S)} {ts mid r : Lexemes}
        → SpellsType t ts (lex c comma ∷ mid) → SpellsUnnamed v ps mid r
        → SpellsUnnamed v (unnamed t ∷ ps) ts r
    rest_unnamed_rule : {e : Span} {p : Param S} {ts r : Lexemes} → SpellsRest false p ts (lex e end_paren ∷ r) →
        SpellsUnnamed true (p ∷ []) ts r
    comma_rest_unnamed_rule : {c e : Span} {p : Param S} {ts r : Lexemes}
        → SpellsRest false p ts (lex c comma ∷ lex e end_paren ∷ r) → SpellsUnnamed true (p ∷ []) ts r

  -- Params = "(" [ ( Names Type { "," Names Type } | Type { "," Type } ) [ "," ] ] ")", where the last may be variadic
  pub data SpellsParams : Bool → List (Param S) → Lexemes → Lexemes → Type 0 where
    no_params_rule : {v : Bool} {s e : Span} {r : Lexemes} → SpellsParams v [] (lex s paren ∷ lex e end_paren ∷ r) r
    named_params_rule : {v : Bool} {s : Span} {ps : List (Param S)} {ts r : Lexemes} → SpellsNamed v ps ts r →
        SpellsParams v ps (lex s paren ∷ ts) r
    unnamed_params_rule : {v : Bool} {s : Span} {ps : List (Param S)} {ts r : Lexemes} → SpellsUnnamed v ps ts r →
        SpellsParams v ps (lex s paren ∷ ts) r

  -- [ Params | Type ]
  pub data SpellsResults : List (Param S) → Lexemes → Lexemes → Type 0 where
    no_results_rule : {r : Lexemes} → SpellsResults [] r r
    params_results_rule : {ps : List (Param S)} {ts r : Lexemes} → SpellsParams false ps ts r → SpellsResults ps ts r
    type_result_rule : {t : TypeExpr S} {ts r : Lexemes} → SpellsType t ts r → SpellsResults (unnamed t ∷ []) ts r

  -- Sig = Params [ Params | Type ], where the parameters may be variadic or not
  pub data SpellsSig : Bool → Sig S → Lexemes → Lexemes → Type 0 where
    sig_rule : {v : Bool} {ps rs : List (Param S)} {ts mid r : Lexemes}
        → SpellsParams v ps ts mid → SpellsResults rs mid r
        → SpellsSig v (record { params = ps; results = rs }) ts r

  -- Names = name { "," name }
  pub data SpellsNames : List (NameAt S) → Lexemes → Lexemes → Type 0 where
    last_name_rule : {s : Span} {n : List ℕ} {r : Lexemes} → SpellsNames (name_here s n r ∷ []) (lex s (ident n) ∷ r) r
    more_names_rule : {s c : Span} {n : List ℕ} {ns : List (NameAt S)} {ts r : Lexemes}
        → SpellsNames ns ts r →
        SpellsNames (name_here s n (lex c comma ∷ ts) ∷ ns) (lex s (ident n) ∷ lex c comma ∷ ts) r
