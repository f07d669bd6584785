-- Parts of declarations that no goal of the reader is for.
use Rattle.std.specs.Prelude.{Bool, true, false, List, [], ◌∷◌, ◌++◌, Option, Some, None, option_and_then}
use Rattle.go_tree.specs.declared.spans.Span.{Span}
use Rattle.go_tree.specs.Tree.{NameAt, Sig, Stmts}
use Rattle.go_tree.specs.View.{block_of, name_at_of, sig_of}
use Rattle.go_tree.specs.File.{ImportSpec, ImportDecl, TypeSpec, Receiver, Decl, types}
use Rattle.go_tree.specs.GoWords.Terminals.{lex, ident, str_lit, semicolon, paren, end_paren}
use Rattle.go_read.specs.SpellsSpans.{span_to}
use Rattle.go_tree.specs.GoWords.Texts.{text_value}
use Rattle.go_read.specs.SpellsTypes.{Lexemes}
use Rattle.go_read.specs.Goals.{read_sig, read_block, read_type, read_import_spec, read_import_specs, read_type_spec}
use Rattle.go_read.specs.Goals.{read_type_specs, read_receiver}
use Rattle.go_read.specs.Programs.{run}
use Rattle.go_read.specs.ReadFiles.{func_step}
use Rattle.go_read.specs.Reading.{at}
use Rattle.go_tree.specs.declared.operators.BinOp.TheVariants.{Mul}
use Rattle.go_tree.specs.declared.go_words.terminals.Terminal.{Terminal}
use Rattle.go_tree.specs.declared.go_words.terminals.Terminal.TheVariants as code
use Rattle.go_productions.specs.Terminals.{rest_of, name_of}
use Rattle.go_parse.specs.declared.functions.FuncParts.{FuncParts as Parsed}

-- what stands before a closing parenthesis
abbrev pub closed : {X : Type 0} → Option (X × Lexemes) → Option (X × Lexemes)
closed (Some (x, lex _ end_paren ∷ r)) = Some (x, r)
closed _ = None

-- what stands before a semicolon
abbrev pub ended : {X : Type 0} → Option (X × Lexemes) → Option (X × Lexemes)
ended (Some (x, lex _ semicolon ∷ r)) = Some (x, r)
ended _ = None

-- the tokens after the semicolon of a spec, or from the parenthesis that ends its group
abbrev pub spec_end : Lexemes → Option Lexemes
spec_end (lex _ semicolon ∷ ts) = Some ts
spec_end (lex c end_paren ∷ ts) = Some (lex c end_paren ∷ ts)
spec_end _ = None

-- one more in front of what is read
abbrev pub and_before : {X : Type 0} → X → Option (List X × Lexemes) → Option (List X × Lexemes)
and_before x o = option_and_then (λ y. Some (x ∷ y.0, y.1)) o

-- those before what is read
abbrev pub with_front : {X : Type 0} → List X → Option (List X × Lexemes) → Option (List X × Lexemes)
with_front xs (Some y) = Some (xs ++ y.0, y.1)
with_front xs None = None

-- the path of an import that begins at `whole`, after its name
unfoldable pub path_at : Lexemes → Option (NameAt Span) → Lexemes → Option (ImportSpec Span × Lexemes)
path_at whole n (lex s (str_lit p) ∷ r) = Some (record { span = span_to whole r; name = n; path = text_value p }, r)
path_at whole n _ = None

-- what follows the keyword of a declaration, with a parenthesis or without
unfoldable pub grouped_import_at : Lexemes → Lexemes → Option (ImportDecl Span × Lexemes)
grouped_import_at whole ts =
    option_and_then (λ x. Some (record { span = span_to whole x.1; grouped = true; specs = x.0 }, x.1))
    (closed (at span_to read_import_specs ts))

-- an import declaration without parentheses, as it is read from these tokens
unfoldable pub single_import_at : Lexemes → Lexemes → Option (ImportDecl Span × Lexemes)
single_import_at whole ts =
    option_and_then (λ x. Some (record { span = span_to whole x.1; grouped = false; specs = x.0 ∷ [] }, x.1))
    (at span_to read_import_spec ts)

-- the type of a spec that begins at `whole`
unfoldable pub type_after_at : Lexemes → NameAt Span → Bool → Lexemes → Option (TypeSpec Span × Lexemes)
type_after_at whole n alias ts =
    option_and_then (λ x. Some (record { span = span_to whole x.1; name = n; alias = alias; of = x.0 }, x.1))
    (at span_to read_type ts)

-- the types of a group, as they are read from these tokens
unfoldable pub grouped_types_at : Lexemes → Lexemes → Option (Decl Span × Lexemes)
grouped_types_at whole ts =
    option_and_then (λ x. Some (types (span_to whole x.1) true x.0, x.1)) (closed (at span_to read_type_specs ts))

-- a declaration of one type, as it is read from these tokens
unfoldable pub single_type_at : Lexemes → Lexemes → Option (Decl Span × Lexemes)
single_type_at whole ts =
    option_and_then (λ x. Some (types (span_to whole x.1) false (x.0 ∷ []), x.1)) (at span_to read_type_spec ts)

-- the name, the signature and the body of a function, with its span
abbrev pub PartsOfFunc : Type 0
PartsOfFunc = NameAt Span × (Sig Span × (Span × Stmts Span))

-- what the parser holds as a function's name, signature and body
abbrev pub parts_of : Parsed → PartsOfFunc
parts_of p = (name_at_of p.name, (sig_of p.sig, block_of p.body))

-- the name, signature and body of a function, from its name on
unfoldable pub func_parts_at : Bool → Lexemes → Option (PartsOfFunc × Lexemes)
func_parts_at variadic (lex c (ident w) ∷ ts) =
    option_and_then
    (λ x. option_and_then (λ y. Some ((name_of (lex c (ident w) ∷ ts), (x.0, y.0)), y.1)) (at span_to read_block x.1))
    (at span_to (read_sig variadic) ts)
func_parts_at variadic _ = None

-- the name, signature and body of a function whose declaration begins at `whole`
unfoldable pub func_at : Lexemes → Option (Receiver Span) → Lexemes → Option (Decl Span × Lexemes)
func_at whole v ts = run (at span_to) (func_step span_to whole v ts)

-- a receiver that begins at `whole` and whose type's name stands first
unfoldable pub receiver_here : Lexemes → Option (NameAt Span) → Bool → Lexemes → Option (Receiver Span × Lexemes)
receiver_here whole n pointer of =
    Some (record { span = span_to whole (rest_of of); name = n; pointer = pointer; of = name_of of }, rest_of of)

-- a method whose declaration begins at `whole`, from its receiver on
unfoldable pub method_at : Lexemes → Lexemes → Option (Decl Span × Lexemes)
method_at whole ts = option_and_then (λ x. func_at whole (Some x.0) x.1) (closed (at span_to read_receiver ts))

-- declarations of types, and of a function or a method, by the token after the keyword
unfoldable pub type_decl_at : Lexemes → Option (Decl Span × Lexemes)
type_decl_at (x ∷ lex b paren ∷ ts) = grouped_types_at (x ∷ lex b paren ∷ ts) ts
type_decl_at ts = single_type_at ts (rest_of ts)

-- the declaration of a function, or of a method where a parenthesis follows the keyword
unfoldable pub func_decl_at : Lexemes → Option (Decl Span × Lexemes)
func_decl_at (x ∷ lex b paren ∷ ts) = method_at (x ∷ lex b paren ∷ ts) ts
func_decl_at ts = func_at ts None (rest_of ts)

-- `=`, and `*`
abbrev pub is_equals : Terminal → Bool
is_equals (code.Assign None) = true
is_equals _ = false

-- `*`
abbrev pub is_star : Terminal → Bool
is_star (code.Binary Mul) = true
is_star _ = false
