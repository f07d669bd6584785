-- What spells a file (Go specification, Source file organization, Package clause, Import declarations, Type
-- declarations,
-- Function declarations, Method declarations).
use Rattle.std.specs.Prelude.{◌≡◌, ℕ, Bool, true, false, bytes_eq, codes, List, [], ◌∷◌, Some, None}
use Rattle.go_tree.specs.declared.spans.Span.{Span}
use Rattle.go_tree.specs.declared.operators.BinOp.TheVariants.{Mul}
use Rattle.go_tree.specs.declared.tokens.Token.{Token}
use Rattle.go_tree.specs.Tree.{TypeExpr, Sig, Stmts, ValueSpecs, const_decl, var_decl}
use Rattle.go_tree.specs.File.{ImportSpec, ImportDecl, TypeSpec, Receiver, Decl, values, types, func, File}
use Rattle.go_tree.specs.GoWords.Terminals.{lex, ident, str_lit, binary_op, assign, semicolon, paren, end_paren}
use Rattle.go_tree.specs.GoWords.Terminals.{key_const, key_func, key_import, key_package, key_type, key_var, lexemes}
use Rattle.go_read.specs.SpellsSpans.{span_to}
use Rattle.go_tree.specs.GoWords.Texts.{text_value}
use Rattle.go_read.specs.SpellsTypes.{Lexemes, name_here, SpellsType, SpellsSig}
use Rattle.go_read.specs.Spells.{SpellsBlock, SpellsDecl}

-- the blank identifier
abbrev pub is_blank : List ℕ → Bool
is_blank n = bytes_eq n (codes "_")

module _ {S : Type 0} (mark : Lexemes → Lexemes → S) where
  -- ISpec = [ name ] string
  pub data SpellsImportSpec : ImportSpec S → Lexemes → Lexemes → Type 0 where
    path_rule : {s : Span} {p : List ℕ} {r : Lexemes}
        → SpellsImportSpec (record { span = mark (lex s (str_lit p) ∷ r) r; name = None; path = text_value p })
        (lex s (str_lit p) ∷ r) r
    named_path_rule : {s c : Span} {n p : List ℕ} {r : Lexemes}
        → SpellsImportSpec
        (record {
          span = mark (lex s (ident n) ∷ lex c (str_lit p) ∷ r) r;
          name = Some (name_here mark s n (lex c (str_lit p) ∷ r));
          path = text_value p;
        })
        (lex s (ident n) ∷ lex c (str_lit p) ∷ r) r

  -- { ISpec ";" } before ")", where the last semicolon may be left out
  pub data SpellsImportSpecs : List (ImportSpec S) → Lexemes → Lexemes → Type 0 where
    no_import_specs_rule : {r : Lexemes} → SpellsImportSpecs [] r r
    last_import_spec_rule : {e : Span} {x : ImportSpec S} {ts r : Lexemes}
        → SpellsImportSpec x ts (lex e end_paren ∷ r) → SpellsImportSpecs (x ∷ []) ts (lex e end_paren ∷ r)
    more_import_specs_rule : {c : Span} {x : ImportSpec S} {xs : List (ImportSpec S)} {ts mid r : Lexemes}
        → SpellsImportSpec x ts (lex c semicolon ∷ mid) → SpellsImportSpecs xs mid r
        → SpellsImportSpecs (x ∷ xs) ts r

  -- Import = "import" ( ISpec | "(" { ISpec ";" } ")" )
  pub data SpellsImport : ImportDecl S → Lexemes → Lexemes → Type 0 where
    import_rule : {s : Span} {x : ImportSpec S} {ts r : Lexemes}
        → SpellsImportSpec x ts r
        → SpellsImport (record { span = mark (lex s key_import ∷ ts) r; grouped = false; specs = x ∷ [] })
        (lex s key_import ∷ ts) r
    import_group_rule : {s b e : Span} {xs : List (ImportSpec S)} {ts r : Lexemes}
        → SpellsImportSpecs xs ts (lex e end_paren ∷ r)
        → SpellsImport (record { span = mark (lex s key_import ∷ lex b paren ∷ ts) r; grouped = true; specs = xs })
        (lex s key_import ∷ lex b paren ∷ ts) r

  -- TSpec = name [ "=" ] Type
  pub data SpellsTypeSpec : TypeSpec S → Lexemes → Lexemes → Type 0 where
    type_spec_rule : {s : Span} {n : List ℕ} {t : TypeExpr S} {ts r : Lexemes}
        → SpellsType mark t ts r
        → SpellsTypeSpec
        (record { span = mark (lex s (ident n) ∷ ts) r; name = name_here mark s n ts; alias = false; of = t })
        (lex s (ident n) ∷ ts) r
    alias_spec_rule : {s c : Span} {n : List ℕ} {t : TypeExpr S} {ts r : Lexemes}
        → SpellsType mark t ts r
        → SpellsTypeSpec
        (record {
          span = mark (lex s (ident n) ∷ lex c (assign None) ∷ ts) r;
          name = name_here mark s n (lex c (assign None) ∷ ts);
          alias = true;
          of = t;
        })
        (lex s (ident n) ∷ lex c (assign None) ∷ ts) r

  -- { TSpec ";" } before ")", where the last semicolon may be left out
  pub data SpellsTypeSpecs : List (TypeSpec S) → Lexemes → Lexemes → Type 0 where
    no_type_specs_rule : {r : Lexemes} → SpellsTypeSpecs [] r r
    last_type_spec_rule : {e : Span} {x : TypeSpec S} {ts r : Lexemes}
        → SpellsTypeSpec x ts (lex e end_paren ∷ r) → SpellsTypeSpecs (x ∷ []) ts (lex e end_paren ∷ r)
    more_type_specs_rule : {c : Span} {x : TypeSpec S} {xs : List (TypeSpec S)} {ts mid r : Lexemes}
        → SpellsTypeSpec x ts (lex c semicolon ∷ mid) → SpellsTypeSpecs xs mid r
        → SpellsTypeSpecs (x ∷ xs) ts r

  -- [ name ] [ "*" ] name
  pub data SpellsReceiver : Receiver S → Lexemes → Lexemes → Type 0 where
    receiver_rule : {s : Span} {n : List ℕ} {r : Lexemes}
        → SpellsReceiver
        (record { span = mark (lex s (ident n) ∷ r) r; name = None; pointer = false; of = name_here mark s n r })
        (lex s (ident n) ∷ r) r
    pointer_receiver_rule : {p s : Span} {n : List ℕ} {r : Lexemes}
        → SpellsReceiver
        (record {
          span = mark (lex p (binary_op Mul) ∷ lex s (ident n) ∷ r) r;
          name = None;
          pointer = true;
          of = name_here mark s n r;
        }) (lex p (binary_op Mul) ∷ lex s (ident n) ∷ r) r
    named_receiver_rule : {c s : Span} {x n : List ℕ} {r : Lexemes}
        → SpellsReceiver
        (record {
          span = mark (lex c (ident x) ∷ lex s (ident n) ∷ r) r;
          name = Some (name_here mark c x (lex s (ident n) ∷ r));
          pointer = false;
          of = name_here mark s n r;
        })
        (lex c (ident x) ∷ lex s (ident n) ∷ r) r
    named_pointer_receiver_rule : {c p s : Span} {x n : List ℕ} {r : Lexemes}
        → SpellsReceiver
        (record {
          span = mark (lex c (ident x) ∷ lex p (binary_op Mul) ∷ lex s (ident n) ∷ r) r;
          name = Some (name_here mark c x (lex p (binary_op Mul) ∷ lex s (ident n) ∷ r));
          pointer = true;
          of = name_here mark s n r;
        })
        (lex c (ident x) ∷ lex p (binary_op Mul) ∷ lex s (ident n) ∷ r) r

  -- Decl = Const | Var | TypeDecl | Func
  pub data SpellsTop : Decl S → Lexemes → Lexemes → Type 0 where
    top_const_rule : {s : Span} {grouped : Bool} {ss : ValueSpecs S} {ts r : Lexemes}
        → SpellsDecl mark true grouped ss ts r
        → SpellsTop (values (const_decl (mark (lex s key_const ∷ ts) r) grouped ss)) (lex s key_const ∷ ts) r
    top_var_rule : {s : Span} {grouped : Bool} {ss : ValueSpecs S} {ts r : Lexemes}
        → SpellsDecl mark false grouped ss ts r
        → SpellsTop (values (var_decl (mark (lex s key_var ∷ ts) r) grouped ss)) (lex s key_var ∷ ts) r
    -- "type" ( TSpec | "(" { TSpec ";" } ")" )
    top_type_rule : {s : Span} {x : TypeSpec S} {ts r : Lexemes}
        → SpellsTypeSpec x ts r →
        SpellsTop (types (mark (lex s key_type ∷ ts) r) false (x ∷ [])) (lex s key_type ∷ ts) r
    top_type_group_rule : {s b e : Span} {xs : List (TypeSpec S)} {ts r : Lexemes}
        → SpellsTypeSpecs xs ts (lex e end_paren ∷ r)
        → SpellsTop (types (mark (lex s key_type ∷ lex b paren ∷ ts) r) true xs) (lex s key_type ∷ lex b paren ∷ ts) r
    -- "func" name Sig Block, where the parameters may be variadic
    top_func_rule : {s c : Span} {n : List ℕ} {g : Sig S} {sb : S} {body : Stmts S} {ts mid r : Lexemes}
        → SpellsSig mark true g ts mid → SpellsBlock mark sb body mid r
        → SpellsTop (func
        (record {
          span = mark (lex s key_func ∷ lex c (ident n) ∷ ts) r;
          receiver = None;
          name = name_here mark c n ts;
          sig = g;
          body_span = sb;
          body = body;
        }))
        (lex s key_func ∷ lex c (ident n) ∷ ts) r
    -- "func" "(" [ name ] [ "*" ] name ")" name Sig Block
    top_method_rule : {s b e c : Span} {n : List ℕ} {v : Receiver S} {g : Sig S} {sb : S} {body : Stmts S}
        {ts ts2 mid r : Lexemes}
        → SpellsReceiver v ts (lex e end_paren ∷ lex c (ident n) ∷ ts2) → SpellsSig mark false g ts2 mid →
        SpellsBlock mark sb body mid r
        → SpellsTop (func
        (record {
          span = mark (lex s key_func ∷ lex b paren ∷ ts) r;
          receiver = Some v;
          name = name_here mark c n ts2;
          sig = g;
          body_span = sb;
          body = body;
        }))
        (lex s key_func ∷ lex b paren ∷ ts) r

  -- { Import ";" }
  pub data SpellsImports : List (ImportDecl S) → Lexemes → Lexemes → Type 0 where
    no_imports_rule : {r : Lexemes} → SpellsImports [] r r
    more_imports_rule : {c : Span} {d : ImportDecl S} {ds : List (ImportDecl S)} {ts mid r : Lexemes}
        → SpellsImport d ts (lex c semicolon ∷ mid) → SpellsImports ds mid r
        → SpellsImports (d ∷ ds) ts r

  -- { Decl ";" }
  pub data SpellsTops : List (Decl S) → Lexemes → Lexemes → Type 0 where
    no_tops_rule : {r : Lexemes} → SpellsTops [] r r
    more_tops_rule : {c : Span} {d : Decl S} {ds : List (Decl S)} {ts mid r : Lexemes}
        → SpellsTop d ts (lex c semicolon ∷ mid) → SpellsTops ds mid r
        → SpellsTops (d ∷ ds) ts r

  -- a package clause, whole imports and whole declarations, each with its semicolon; the package name is not blank
  pub data SpellsFront : File S → Lexemes → Lexemes → Type 0 where
    front_rule : {s c d : Span} {n : List ℕ} {is : List (ImportDecl S)} {ds : List (Decl S)} {ts mid r : Lexemes}
        → is_blank n ≡ false → SpellsImports is ts mid → SpellsTops ds mid r
        → SpellsFront (record { package_name = name_here mark c n (lex d semicolon ∷ ts); imports = is; decls = ds })
        (lex s key_package ∷ lex c (ident n) ∷ lex d semicolon ∷ ts) r

-- all these tokens spell the file, each node with its span
abbrev pub SpellsFile : List Token → File Span → Type 0
SpellsFile tokens f = SpellsFront span_to f (lexemes tokens) []
