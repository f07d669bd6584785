-- An import written into a text (Go specification, Import declarations).
use Rattle.std.specs.Prelude.{◌≡◌, ℕ, true, false, List, [], ◌∷◌, Option, Some, None, encode_utf8_all}
use Rattle.std.specs.Prelude.{codes}
use Rattle.std.specs.Str.{all_scalars}
use Rattle.go_tree.specs.declared.tokens.TokenKind.TheVariants.{Ident, Keyword, Str}
use Rattle.go_tree.specs.Tree.{NameAt}
use Rattle.go_tree.specs.File.{ImportDecl, File}
use Rattle.go_tree.specs.GoWords.Tokens.Pieces.{blanks, token, Piece, IsPiece}
use Rattle.go_tree.specs.GoWords.Texts.{text_value}
use Rattle.splice_laws.specs.Joints.{words_of}

-- a name or none, and a string literal
pub record NewSpec : Type 0 where
  pub name : Option (List ℕ)
  pub literal : List ℕ

-- a name, if there is one, is an identifier, of characters that UTF-8 can write
abbrev pub IsNewName : Option (List ℕ) → Type 0
IsNewName None = Unit {0}
IsNewName (Some n) = IsPiece (token Ident) n × (all_scalars n ≡ true)

-- its name is an identifier, and its literal a string literal
abbrev pub IsNewSpec : NewSpec → Type 0
IsNewSpec x = IsNewName x.name × IsPiece (token Str) x.literal × (all_scalars x.literal ≡ true)

-- a run of blanks
abbrev pub a_piece : List ℕ → Piece
a_piece w = record { kind = blanks; word = w }

-- the pieces of a spec: the name and a blank, if there is one, and the literal
abbrev pub spec_pieces : Option (List ℕ) → List ℕ → List Piece
spec_pieces None l = record { kind = token Str; word = l } ∷ []
spec_pieces (Some n) l = record { kind = token Ident; word = n } ∷ a_piece (codes " ")
    ∷ record { kind = token Str; word = l } ∷ []

-- `import`, a blank, and the spec
abbrev pub import_pieces : NewSpec → List Piece
import_pieces x = record { kind = token Keyword; word = codes "import" } ∷ a_piece (codes " ")
    ∷ spec_pieces x.name x.literal

-- the bytes of an import declaration with this spec
abbrev pub import_bytes : NewSpec → List ℕ
import_bytes x = encode_utf8_all (words_of (import_pieces x))

-- the name of the spec in the tree
abbrev pub new_name : Option (List ℕ) → Option (NameAt (Unit {0}))
new_name None = None
new_name (Some n) = Some (record { span = tt; name = encode_utf8_all n })

-- the import declaration in the tree
abbrev pub new_import : NewSpec → ImportDecl (Unit {0})
new_import x = record {
  span = tt;
  grouped = false;
  specs = record { span = tt; name = new_name x.name; path = text_value (encode_utf8_all x.literal) } ∷ [];
}

-- a file with the import before its others
abbrev pub imports_first : NewSpec → File (Unit {0}) → File (Unit {0})
imports_first x f = record f { imports = new_import x ∷ f.imports }
