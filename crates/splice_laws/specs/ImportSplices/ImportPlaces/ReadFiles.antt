-- Texts that read as files with certain imports (Go specification, Source file organization; Lexical elements).
use Rattle.std.specs.Prelude.{◌≡◌, ℕ, List}
use Rattle.go_tree.specs.declared.spans.Span.{Span}
use Rattle.go_tree.specs.declared.tokens.Token.{Token}
use Rattle.go_tree.specs.declared.tokens.Comment.{Comment}
use Rattle.go_tree.specs.File.{File}
use Rattle.go_tree.specs.GoWords.Tokens.{TokensOf}
use Rattle.go_read.specs.SpellsFiles.{SpellsFile}
use Rattle.run_rules.specs.ImportRules.Laid.{StandInOrder, CommentsAscend, Laid}

-- The tokens spell a file that has the package name and the imports of this one, where its spans say.
pub record SpellsImportsOf (tokens : List Token) (file : File Span) : Type 0 where
  pub whole : File Span
  pub spelled : SpellsFile tokens whole
  pub name_is : whole.package_name ≡ file.package_name
  pub imports_are : whole.imports ≡ file.imports

-- The text reads as such a file.
pub record ReadsImportsOf (text : List ℕ) (file : File Span) : Type 0 where
  pub tokens : List Token
  pub comments : List Comment
  pub scans : TokensOf text tokens comments
  pub spells : SpellsImportsOf tokens file

-- The tokens of a text stand in their order within it.
abbrev pub TokensOfTextsStand : Type 0
TokensOfTextsStand =
    (text : List ℕ) (tokens : List Token) (comments : List Comment)
    → TokensOf text tokens comments → StandInOrder text 0 tokens

-- Its comments start in their order.
abbrev pub CommentsOfTextsAscend : Type 0
CommentsOfTextsAscend =
    (text : List ℕ) (tokens : List Token) (comments : List Comment)
    → TokensOf text tokens comments → CommentsAscend 0 comments

-- Where its tokens spell the package name and the imports of a file, these lie in it as their spans say.
abbrev pub ImportsOfReadFilesLie : Type 0
ImportsOfReadFilesLie =
    (text : List ℕ) (tokens : List Token) (comments : List Comment) (file : File Span)
    → TokensOf text tokens comments → SpellsImportsOf tokens file → Laid text tokens file
