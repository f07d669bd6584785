-- One step of reading a type, a signature, and a list of names.
use Rattle.std.specs.Prelude.{Bool, true, false, List, [], ◌∷◌, Option, Some, None}
use Rattle.go_tree.specs.declared.operators.BinOp.TheVariants.{Mul}
use Rattle.go_tree.specs.Tree.{NameAt, TypeExpr, named, pointer, slice_type, map_type, struct_type, Fields, no_fields}
use Rattle.go_tree.specs.Tree.{Param, Sig}
use Rattle.go_tree.specs.GoWords.Terminals.{lex, ident, binary_op, comma, semicolon, dot, ellipsis, paren, end_paren}
use Rattle.go_tree.specs.GoWords.Terminals.{bracket, end_bracket, brace, end_brace, key_map, key_struct}
use Rattle.go_read.specs.SpellsTypes.{Lexemes, name_here, fields_of, params_of, unnamed}
use Rattle.go_read.specs.Goals.{read_type, read_fields, read_entries, read_named, read_unnamed, read_params, read_names}
use Rattle.go_read.specs.Programs.{Program, give, fail, ask, look, after_end_brace, after_end_bracket, after_end_paren}

module _ {S : Type 0} (mark : Lexemes → Lexemes → S) where
  -- a type, by its first tokens
  unfoldable pub type_step : Lexemes → Program S (TypeExpr S)
  type_step (lex s (ident p) ∷ lex d dot ∷ lex s2 (ident n) ∷ r) =
      give (named (mark (lex s (ident p) ∷ lex d dot ∷ lex s2 (ident n) ∷ r) r)
      (Some (name_here mark s p (lex d dot ∷ lex s2 (ident n) ∷ r))) (name_here mark s2 n r)) r
  type_step (lex s (ident n) ∷ r) = give (named (mark (lex s (ident n) ∷ r) r) None (name_here mark s n r)) r
  type_step (lex s (binary_op Mul) ∷ ts) =
      ask read_type ts (λ t r. give (pointer (mark (lex s (binary_op Mul) ∷ ts) r) t) r)
  type_step (lex s bracket ∷ lex e end_bracket ∷ ts) =
      ask read_type ts (λ t r. give (slice_type (mark (lex s bracket ∷ lex e end_bracket ∷ ts) r) t) r)
  type_step (lex s key_map ∷ lex b bracket ∷ ts) =
      ask read_type ts
      (λ k mid. after_end_bracket mid
      (λ mid. ask read_type mid (λ t r. give (map_type (mark (lex s key_map ∷ lex b bracket ∷ ts) r) k t) r)))
  type_step (lex s key_struct ∷ lex b brace ∷ ts) =
      ask read_fields ts
      (λ fs r. after_end_brace r (λ r. give (struct_type (mark (lex s key_struct ∷ lex b brace ∷ ts) r) fs) r))
  type_step (lex s paren ∷ ts) = ask read_type ts (λ t r. after_end_paren r (λ r. give t r))
  type_step _ = fail

  -- behind fields that share a type: a semicolon and further ones, or the end
  abbrev pub fields_after : TypeExpr S × List (S × NameAt S) → Lexemes → Program S (Fields S)
  fields_after x (lex _ semicolon ∷ ts) = ask read_fields ts (λ fs r. give (fields_of x.1 x.0 fs) r)
  fields_after x (lex c end_brace ∷ ts) = give (fields_of x.1 x.0 no_fields) (lex c end_brace ∷ ts)
  fields_after x _ = fail

  -- the fields of a struct, up to before its closing brace
  unfoldable pub fields_step : Lexemes → Program S (Fields S)
  fields_step (lex c end_brace ∷ ts) = give no_fields (lex c end_brace ∷ ts)
  fields_step ts = ask read_entries ts (λ x r. fields_after x r)

  -- names that share a type, and the type; each entry reaches to the type's end
  unfoldable pub entries_step : Lexemes → Program S (TypeExpr S × List (S × NameAt S))
  entries_step (lex s (ident n) ∷ lex c comma ∷ ts) =
      ask read_entries ts
      (λ x r. give
      (x.0, (mark (lex s (ident n) ∷ lex c comma ∷ ts) r, name_here mark s n (lex c comma ∷ ts)) ∷ x.1) r)
  entries_step (lex s (ident n) ∷ ts) =
      ask read_type ts (λ t r. give (t, (mark (lex s (ident n) ∷ ts) r, name_here mark s n ts) ∷ []) r)
  entries_step _ = fail

  -- the end of a list after its variadic parameter
  abbrev pub rest_after : Param S → Lexemes → Program S (List (Param S))
  rest_after p (lex _ end_paren ∷ r) = give (p ∷ []) r
  rest_after p (lex _ comma ∷ lex _ end_paren ∷ r) = give (p ∷ []) r
  rest_after p _ = fail

  -- a variadic parameter, whose span begins at `whole`, from its type on
  abbrev pub rest_step : Lexemes → Option (NameAt S) → Lexemes → Program S (List (Param S))
  rest_step whole n ts =
      ask read_type ts (λ t r. rest_after (record { span = mark whole r; name = n; rest = true; of = t }) r)

  -- behind named parameters that share a type: a comma and further ones, or the end
  abbrev pub named_after : Bool → TypeExpr S × List (S × NameAt S) → Lexemes → Program S (List (Param S))
  named_after v x (lex _ end_paren ∷ r) = give (params_of x.1 x.0 []) r
  named_after v x (lex _ comma ∷ lex _ end_paren ∷ r) = give (params_of x.1 x.0 []) r
  named_after v x (lex _ comma ∷ ts) = ask (read_named v) ts (λ ps r. give (params_of x.1 x.0 ps) r)
  named_after v x _ = fail

  -- named parameters; the last one may be variadic where the flag says so
  unfoldable pub named_step : Bool → Lexemes → Program S (List (Param S))
  named_step true (lex s (ident n) ∷ lex d ellipsis ∷ ts) =
      rest_step (lex s (ident n) ∷ lex d ellipsis ∷ ts) (Some (name_here mark s n (lex d ellipsis ∷ ts))) ts
  named_step v ts = ask read_entries ts (λ x r. named_after v x r)

  -- behind the type of a parameter: a comma and further ones, or the end
  abbrev pub unnamed_after : Bool → TypeExpr S → Lexemes → Program S (List (Param S))
  unnamed_after v t (lex _ end_paren ∷ r) = give (unnamed t ∷ []) r
  unnamed_after v t (lex _ comma ∷ lex _ end_paren ∷ r) = give (unnamed t ∷ []) r
  unnamed_after v t (lex _ comma ∷ ts) = ask (read_unnamed v) ts (λ ps r. give (unnamed t ∷ ps) r)
  unnamed_after v t _ = fail

  -- parameters without names; the last one may be variadic where the flag says so
  unfoldable pub unnamed_step : Bool → Lexemes → Program S (List (Param S))
  unnamed_step true (lex d ellipsis ∷ ts) = rest_step (lex d ellipsis ∷ ts) None ts
  unnamed_step v ts = ask read_type ts (λ t r. unnamed_after v t r)

  -- named parameters where they can be read so, else types
  abbrev pub params_either : Bool → Lexemes → Option (List (Param S) × Lexemes) → Program S (List (Param S))
  params_either v ts (Some x) = give x.0 x.1
  params_either v ts None = ask (read_unnamed v) ts (λ ps r. give ps r)

  -- parameters in their parentheses
  unfoldable pub params_step : Bool → Lexemes → Program S (List (Param S))
  params_step v (lex _ paren ∷ lex _ end_paren ∷ r) = give [] r
  params_step v (lex _ paren ∷ ts) = look (read_named v) ts (λ o. params_either v ts o)
  params_step v _ = fail

  -- results stand before a brace
  abbrev pub results_step : List (Param S) → Lexemes → Program S (Sig S)
  results_step ps (lex s paren ∷ ts) =
      ask (read_params false) (lex s paren ∷ ts) (λ rs r. give (record { params = ps; results = rs }) r)
  results_step ps (lex s brace ∷ ts) = give (record { params = ps; results = [] }) (lex s brace ∷ ts)
  results_step ps ts = ask read_type ts (λ t r. give (record { params = ps; results = unnamed t ∷ [] }) r)

  -- a signature: parameters, and results
  unfoldable pub sig_step : Bool → Lexemes → Program S (Sig S)
  sig_step v ts = ask (read_params v) ts (λ ps r. results_step ps r)

  -- names with commas between them
  unfoldable pub names_step : Lexemes → Program S (List (NameAt S))
  names_step (lex s (ident n) ∷ lex c comma ∷ ts) =
      ask read_names ts (λ ns r. give (name_here mark s n (lex c comma ∷ ts) ∷ ns) r)
  names_step (lex s (ident n) ∷ r) = give (name_here mark s n r ∷ []) r
  names_step _ = fail
