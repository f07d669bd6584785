-- The file that a step leaves (Go specification, Source code representation; Source file organization).
use Rattle.std.specs.Prelude.{◌≡◌, ⊤, ℕ, List, Some}
use Rattle.go_tree.specs.declared.spans.Span.{Span}
use Rattle.go_tree.specs.declared.tokens.Token.{Token}
use Rattle.go_tree.specs.declared.tokens.Comment.{Comment}
use Rattle.go_tree.specs.File.{File}
use Rattle.go_tree.specs.FileView.{file_of}
use Rattle.go_tree.specs.GoWords.Tokens.{TokensOf}
use Rattle.go_read.specs.SpellsFiles.{SpellsFile}
use Rattle.go_read.specs.SpellsWeight.{weights_of}
use Rattle.go_nesting.specs.Sources.{IsSource, IsSupported}
use Rattle.run_rules.specs.Texts.{FileText}
use Rattle.run_rules.specs.Run.{the_limits, first_over, over_weight}
use Rattle.step_files.specs.declared.limits.Progress.{Progress}
use Rattle.step_files.specs.declared.limits.Passed.{Passed}
use Rattle.step_files.specs.declared.file.NewFile.{NewFile}
use Rattle.step_files.specs.declared.file.FileFault.{FileFault}
use Rattle.step_files.specs.declared.file.FileFault.TheVariants.{TooLarge, NotRead, NoMemory}
use Rattle.step_files.specs.Limits.{told, Passes}

-- its text with its tokens and comments
abbrev pub text_of : NewFile → FileText
text_of f = record { text = f.text; tokens = f.tokens.items; comments = f.tokens.comments }

-- The file has this text; its tokens and comments are those of the text, each word is supported, none nests too deeply,
-- and they spell its tree.
pub record IsNewFile (text : List ℕ) (f : NewFile) : Type 0 where
  pub text_is : f.text ≡ text
  pub reads : IsSource f.text f.tokens.items f.tokens.comments (file_of f.tree)

-- The text doesn't read as a file of supported words.
abbrev pub HasNoTree : List ℕ → Type 0
HasNoTree text =
    (tokens : List Token) (comments : List Comment) (tree : File Span) → TokensOf text tokens comments
    → IsSupported text tokens comments → SpellsFile tokens tree → ⊥

-- The first token of the text that nests too deeply has this weight, over this bound.
abbrev pub IsTooDeep : List ℕ → Passed → Type 0
IsTooDeep text p =
    (tokens : List Token) (comments : List Comment) → TokensOf text tokens comments
    → over_weight the_limits.weight (first_over the_limits.weight (weights_of tokens)) ≡ Some (told p)

-- Why a text isn't read. Want of memory says nothing of it.
abbrev pub IsUnread : List ℕ → FileFault → Type 0
IsUnread text (TooLarge p) = IsTooDeep text p
IsUnread text NotRead = HasNoTree text
IsUnread text NoMemory = ⊤

-- Why a step of a run that has come so far leaves no file with this text: it passes this limit first, whatever the
-- tokens of the text are; or the text isn't read. Want of memory says nothing of it.
abbrev pub IsFault : Progress → List ℕ → FileFault → Type 0
IsFault progress text (TooLarge p) =
    (new : FileText) → new.text ≡ text → TokensOf new.text new.tokens new.comments → Passes progress new (Some (told p))
IsFault progress text NotRead = HasNoTree text
IsFault progress text NoMemory = ⊤
