-- The law of words of files. It is the contract of a function of this crate (Go specification, Keywords; Operators and
-- punctuation; Source file organization).
use Rattle.std.specs.Prelude.{◌≡◌, ℕ, ◌≤◌, List, [], take, None}
use Rattle.go_tree.specs.declared.spans.Span.{Span}
use Rattle.go_tree.specs.declared.tokens.Token.{Token}
use Rattle.go_tree.specs.declared.tokens.Comment.{Comment}
use Rattle.go_tree.specs.File.{File}
use Rattle.go_tree.specs.GoWords.Tokens.{TokensOf}
use Rattle.go_read.specs.SpellsFiles.{SpellsFile}
use Rattle.go_scan.specs.Unsupported.{IsFirst, package_start, constraint_spans, word_spans, unsupported_spans}

-- None of the tokens that spell a file is a word that isn't supported.
abbrev pub SpelledWordsAreSupported : Type 0
SpelledWordsAreSupported = (tokens : List Token) (tree : File Span) → SpellsFile tokens tree → word_spans tokens ≡ []

-- So a text with these tokens has no such word, if no build constraint stands before the package clause.
abbrev pub SpelledTextsAreSupported : Type 0
SpelledTextsAreSupported =
    (text : List ℕ) (tokens : List Token) (comments : List Comment) (tree : File Span) → SpellsFile tokens tree
    → constraint_spans text (package_start tokens) comments ≡ []
    → IsFirst (unsupported_spans text tokens comments) None

-- A text that is the same up to the end of the package's name, whatever stands behind it, has no build constraint
-- before its package clause where the other has none.
abbrev pub ConstraintsStay : Type 0
ConstraintsStay =
    (text new : List ℕ) (tokens new_tokens : List Token) (comments new_comments : List Comment) (file : File Span)
    (k : ℕ) → TokensOf text tokens comments → SpellsFile tokens file
    → constraint_spans text (package_start tokens) comments ≡ [] → TokensOf new new_tokens new_comments
    → file.package_name.span.end ≤ k → take k new ≡ take k text
    → constraint_spans new (package_start new_tokens) new_comments ≡ []
