-- One step of reading a file's imports and declarations.
use Rattle.std.specs.Prelude.{Bool, true, false, List, [], ◌∷◌, Option, Some, None}
use Rattle.go_tree.specs.declared.operators.BinOp.TheVariants.{Mul}
use Rattle.go_tree.specs.Tree.{const_decl, var_decl}
use Rattle.go_tree.specs.File.{ImportSpec, ImportDecl, TypeSpec, Receiver, Decl, values, types, func, File}
use Rattle.go_tree.specs.GoWords.Terminals.{lex, ident, str_lit, binary_op, assign, semicolon, paren, end_paren}
use Rattle.go_tree.specs.GoWords.Terminals.{key_const, key_func, key_import, key_package, key_type, key_var}
use Rattle.go_tree.specs.GoWords.Texts.{text_value}
use Rattle.go_read.specs.SpellsTypes.{Lexemes, name_here}
use Rattle.go_read.specs.SpellsFiles.{is_blank}
use Rattle.go_read.specs.Goals.{read_type, read_sig, read_block, read_decl, read_import_spec, read_import_specs}
use Rattle.go_read.specs.Goals.{read_import, read_type_spec, read_type_specs, read_receiver, read_top, read_imports}
use Rattle.go_read.specs.Goals.{read_tops}
use Rattle.go_read.specs.Programs.{Program, give, fail, ask, look, unless, after_end_paren}

module _ {S : Type 0} (mark : Lexemes → Lexemes → S) where
  -- an import: a name, if any, and the path
  unfoldable pub import_spec_step : Lexemes → Program S (ImportSpec S)
  import_spec_step (lex s (str_lit p) ∷ r) =
      give (record { span = mark (lex s (str_lit p) ∷ r) r; name = None; path = text_value p }) r
  import_spec_step (lex s (ident n) ∷ lex c (str_lit p) ∷ r) =
      give (record {
        span = mark (lex s (ident n) ∷ lex c (str_lit p) ∷ r) r;
        name = Some (name_here mark s n (lex c (str_lit p) ∷ r));
        path = text_value p;
      }) r
  import_spec_step _ = fail

  -- behind an import of a group: a semicolon and further ones, or the end
  abbrev pub import_specs_after : ImportSpec S → Lexemes → Program S (List (ImportSpec S))
  import_specs_after x (lex _ semicolon ∷ ts) = ask read_import_specs ts (λ xs r. give (x ∷ xs) r)
  import_specs_after x (lex c end_paren ∷ ts) = give (x ∷ []) (lex c end_paren ∷ ts)
  import_specs_after x _ = fail

  -- the imports of a group, up to before its closing parenthesis
  unfoldable pub import_specs_step : Lexemes → Program S (List (ImportSpec S))
  import_specs_step (lex c end_paren ∷ ts) = give [] (lex c end_paren ∷ ts)
  import_specs_step ts = ask read_import_spec ts (λ x r. import_specs_after x r)

  -- an import declaration: a group, or one import
  unfoldable pub import_step : Lexemes → Program S (ImportDecl S)
  import_step (lex s key_import ∷ lex b paren ∷ ts) =
      ask read_import_specs ts
      (λ xs r. after_end_paren r
      (λ r. give (record { span = mark (lex s key_import ∷ lex b paren ∷ ts) r; grouped = true; specs = xs }) r))
  import_step (lex s key_import ∷ ts) =
      ask read_import_spec ts
      (λ x r. give (record { span = mark (lex s key_import ∷ ts) r; grouped = false; specs = x ∷ [] }) r)
  import_step _ = fail

  -- the declaration of a type: an alias with `=`, else a defined type
  unfoldable pub type_spec_step : Lexemes → Program S (TypeSpec S)
  type_spec_step (lex s (ident n) ∷ lex c (assign None) ∷ ts) =
      ask read_type ts
      (λ t r. give
      (record {
        span = mark (lex s (ident n) ∷ lex c (assign None) ∷ ts) r;
        name = name_here mark s n (lex c (assign None) ∷ ts);
        alias = true;
        of = t;
      }) r)
  type_spec_step (lex s (ident n) ∷ ts) =
      ask read_type ts
      (λ t r. give
      (record { span = mark (lex s (ident n) ∷ ts) r; name = name_here mark s n ts; alias = false; of = t }) r)
  type_spec_step _ = fail

  -- behind a type of a group: a semicolon and further ones, or the end
  abbrev pub type_specs_after : TypeSpec S → Lexemes → Program S (List (TypeSpec S))
  type_specs_after x (lex _ semicolon ∷ ts) = ask read_type_specs ts (λ xs r. give (x ∷ xs) r)
  type_specs_after x (lex c end_paren ∷ ts) = give (x ∷ []) (lex c end_paren ∷ ts)
  type_specs_after x _ = fail

  -- the types of a group, up to before its closing parenthesis
  unfoldable pub type_specs_step : Lexemes → Program S (List (TypeSpec S))
  type_specs_step (lex c end_paren ∷ ts) = give [] (lex c end_paren ∷ ts)
  type_specs_step ts = ask read_type_spec ts (λ x r. type_specs_after x r)

  -- a receiver: a name, if any, a star, if any, and the name of its type
  unfoldable pub receiver_step : Lexemes → Program S (Receiver S)
  receiver_step (lex c (ident x) ∷ lex p (binary_op Mul) ∷ lex s (ident n) ∷ r) =
      give (record {
        span = mark (lex c (ident x) ∷ lex p (binary_op Mul) ∷ lex s (ident n) ∷ r) r;
        name = Some (name_here mark c x (lex p (binary_op Mul) ∷ lex s (ident n) ∷ r));
        pointer = true;
        of = name_here mark s n r;
      }) r
  receiver_step (lex c (ident x) ∷ lex s (ident n) ∷ r) =
      give (record {
        span = mark (lex c (ident x) ∷ lex s (ident n) ∷ r) r;
        name = Some (name_here mark c x (lex s (ident n) ∷ r));
        pointer = false;
        of = name_here mark s n r;
      }) r
  receiver_step (lex p (binary_op Mul) ∷ lex s (ident n) ∷ r) =
      give (record {
        span = mark (lex p (binary_op Mul) ∷ lex s (ident n) ∷ r) r;
        name = None;
        pointer = true;
        of = name_here mark s n r;
      }) r
  receiver_step (lex s (ident n) ∷ r) =
      give (record { span = mark (lex s (ident n) ∷ r) r; name = None; pointer = false; of = name_here mark s n r }) r
  receiver_step _ = fail

  -- a function may be variadic, and no method
  abbrev pub may_be_variadic : Option (Receiver S) → Bool
  may_be_variadic None = true
  may_be_variadic (Some _) = false

  -- a name, a signature and a block
  abbrev pub func_step : Lexemes → Option (Receiver S) → Lexemes → Program S (Decl S)
  func_step whole v (lex c (ident n) ∷ ts) =
      ask (read_sig (may_be_variadic v)) ts
      (λ g mid. ask read_block mid
      (λ b r. give
      (func (record
      { span = mark whole r; receiver = v; name = name_here mark c n ts; sig = g; body_span = b.0; body = b.1 }))
      r))
  func_step whole v _ = fail

  -- a declaration at the top of a file
  unfoldable pub top_step : Lexemes → Program S (Decl S)
  top_step (lex s key_const ∷ ts) =
      ask (read_decl true) ts (λ x r. give (values (const_decl (mark (lex s key_const ∷ ts) r) x.0 x.1)) r)
  top_step (lex s key_var ∷ ts) =
      ask (read_decl false) ts (λ x r. give (values (var_decl (mark (lex s key_var ∷ ts) r) x.0 x.1)) r)
  top_step (lex s key_type ∷ lex b paren ∷ ts) =
      ask read_type_specs ts
      (λ xs r. after_end_paren r (λ r. give (types (mark (lex s key_type ∷ lex b paren ∷ ts) r) true xs) r))
  top_step (lex s key_type ∷ ts) =
      ask read_type_spec ts (λ x r. give (types (mark (lex s key_type ∷ ts) r) false (x ∷ [])) r)
  top_step (lex s key_func ∷ lex b paren ∷ ts) =
      ask read_receiver ts (λ v r. after_end_paren r (λ r. func_step (lex s key_func ∷ lex b paren ∷ ts) (Some v) r))
  top_step (lex s key_func ∷ ts) = func_step (lex s key_func ∷ ts) None ts
  top_step _ = fail

  -- imports and declarations as long as whole ones follow, each with its semicolon
  abbrev pub imports_after : Lexemes → Option (ImportDecl S × Lexemes) → Program S (List (ImportDecl S))
  imports_after whole (Some (d, lex _ semicolon ∷ ts)) = ask read_imports ts (λ ds r. give (d ∷ ds) r)
  imports_after whole _ = give [] whole

  -- import declarations as long as whole ones follow
  unfoldable pub imports_step : Lexemes → Program S (List (ImportDecl S))
  imports_step ts = look read_import ts (λ o. imports_after ts o)

  -- behind a declaration: a semicolon and further ones, or the end of the front
  abbrev pub tops_after : Lexemes → Option (Decl S × Lexemes) → Program S (List (Decl S))
  tops_after whole (Some (d, lex _ semicolon ∷ ts)) = ask read_tops ts (λ ds r. give (d ∷ ds) r)
  tops_after whole _ = give [] whole

  -- declarations as long as whole ones follow
  unfoldable pub tops_step : Lexemes → Program S (List (Decl S))
  tops_step ts = look read_top ts (λ o. tops_after ts o)

  -- a package clause, whole imports and whole declarations
  unfoldable pub front_step : Lexemes → Program S (File S)
  front_step (lex s key_package ∷ lex c (ident n) ∷ lex d semicolon ∷ ts) =
      unless (is_blank n)
      (ask read_imports ts
      (λ is mid. ask read_tops mid
      (λ ds r. give
      (record { package_name = name_here mark c n (lex d semicolon ∷ ts); imports = is; decls = ds }) r)))
  front_step _ = fail
