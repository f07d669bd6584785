-- The laws of what is written behind a token. Each is the contract of a function of this crate (Go specification,
-- Tokens; Operators and punctuation).
use Rattle.std.specs.Prelude.{◌≡◌, ℕ, true, false, List, ◌∷◌, Some, encode_utf8_all}
use Rattle.go_tree.specs.declared.spans.Span.{Span}
use Rattle.go_tree.specs.declared.tokens.Token.{Token}
use Rattle.go_tree.specs.declared.tokens.Comment.{Comment}
use Rattle.go_tree.specs.File.{File}
use Rattle.go_tree.specs.GoWords.Tokens.{TokensOf}
use Rattle.go_read.specs.SpellsFiles.{SpellsFile}
use Rattle.run_rules.specs.Texts.{first_spelling, needs_blank, spelling_before}
use Rattle.std.specs.Str.{chars}
use Rattle.go_layout.specs.TypeLayout.{type_layout}
use Rattle.go_tree.specs.Tree.{TypeExpr}
use Rattle.go_layout.specs.LayoutLaws.Formed.{FormedType, IsName}
use Rattle.splice_laws.specs.Splice.{are_apart, first_word}
use Rattle.put_nodes.specs.FormsApart.Begins.{may_begin}

-- In a text that reads as a file, where a form would need no blank before it, the token that ends there, if one does,
-- and the form's first word are read as these two.
abbrev pub FormsStandApart : Type 0
FormsStandApart =
    (text : List ℕ) (tokens : List Token) (comments : List Comment) (file : File Span) → TokensOf text tokens comments
    → SpellsFile tokens file → (at c : ℕ) (cs : List ℕ) → may_begin c ≡ true
    → needs_blank (spelling_before at tokens) (Some (encode_utf8_all (c ∷ cs))) ≡ false
    → are_apart tokens at (c ∷ cs) ≡ true

-- So an identifier that needs no blank stands apart.
abbrev pub IdentifiersStandApart : Type 0
IdentifiersStandApart =
    (text : List ℕ) (tokens : List Token) (comments : List Comment) (file : File Span) → TokensOf text tokens comments
    → SpellsFile tokens file → (at : ℕ) (name : List ℕ) → IsName name
    → needs_blank (spelling_before at tokens) (Some name) ≡ false → are_apart tokens at (chars name) ≡ true

-- So does a written type.
abbrev pub TypesStandApart : Type 0
TypesStandApart =
    (text : List ℕ) (tokens : List Token) (comments : List Comment) (file : File Span) → TokensOf text tokens comments
    → SpellsFile tokens file → (at : ℕ) (t : TypeExpr (Unit {0})) → FormedType t
    → needs_blank (spelling_before at tokens) (first_spelling (type_layout t)) ≡ false
    → are_apart tokens at (first_word (type_layout t)) ≡ true
