-- A file to which imports are added (Go specification, Import declarations).
use Rattle.std.specs.Prelude.{◌≡◌, ℕ, Bool, true, false, nat_lt, List, [], ◌∷◌, Some, None}
use Rattle.std.specs.Prelude.{if◌then◌else◌, encode_utf8_all}
use Rattle.std.specs.Str.{all_scalars}
use Rattle.go_tree.specs.declared.tokens.TokenKind.TheVariants.{Ident}
use Rattle.go_tree.specs.File.{ImportSpec, ImportDecl}
use Rattle.go_tree.specs.GoWords.Tokens.Characters.{each}
use Rattle.go_tree.specs.GoWords.Tokens.Pieces.{token, IsPiece}
use Rattle.run_rules.specs.declared.import_rules.new_import.NewImport.{NewImport}

-- an octet
abbrev pub is_byte : ℕ → Bool
is_byte b = nat_lt b 256

-- The bytes are an identifier in UTF-8.
abbrev pub IsName : List ℕ → Type 0
IsName name = (word : List ℕ) × (encode_utf8_all word ≡ name) × IsPiece (token Ident) word × (all_scalars word ≡ true)

-- Each has a path of octets, and where it is written with a name, that is an identifier.
abbrev pub AreWritable : List NewImport → Type 0
AreWritable [] = Unit {0}
AreWritable (i ∷ is) = (i.spelled ≡ true → IsName i.name) × (each is_byte i.path ≡ true) × AreWritable is

-- the spec of an import
abbrev pub added_spec : NewImport → ImportSpec (Unit {0})
added_spec i = record {
  span = tt;
  name = if i.spelled then Some (record { span = tt; name = i.name }) else None;
  path = i.path;
}

-- a declaration for each
abbrev pub added_decls : List NewImport → List (ImportDecl (Unit {0}))
added_decls [] = []
added_decls (i ∷ is) = record { span = tt; grouped = false; specs = added_spec i ∷ [] } ∷ added_decls is
