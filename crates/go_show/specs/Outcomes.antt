-- What is written of a text.
use Rattle.std.specs.Prelude.{ℕ, List, ◌++◌, Option, codes, decimal, ◌⊎◌}
use Rattle.std.specs.Io.KnownBytes.{Appends}
use Rattle.go_tree.specs.declared.spans.Span.{Span}
use Rattle.go_tree.specs.declared.tokens.Token.{Token}
use Rattle.go_tree.specs.declared.tokens.Comment.{Comment}
use Rattle.go_tree.specs.File.{File}
use Rattle.go_layout.specs.Layouts.{text_of}
use Rattle.go_layout.specs.FileLayout.{file_layout}
use Rattle.go_parse.specs.declared.source.ReadError.{ReadError}
use Rattle.go_parse.specs.declared.source.ReadError.TheVariants.{NotUtf8, BadToken, Unsupported, TooDeep, NotRead}
use Rattle.go_parse.specs.declared.source.ReadError.TheVariants.{NoMemory}
use Rattle.go_nesting.specs.Sources.{IsSource}
use Rattle.go_parse.specs.Sources.{RefusesText}

-- a reason and the byte at which it is seen
abbrev pub reason_line : List ℕ → ℕ → List ℕ
reason_line reason place = reason ++ decimal place ++ codes "\n"

-- why a text isn't read; nothing is written for want of memory
abbrev pub Says : Option (List ℕ) → Option (List ℕ) → ReadError → Type 0
Says before after (NotUtf8 place) = Appends before after (reason_line (codes "not UTF-8 ") place)
Says before after (BadToken place) = Appends before after (reason_line (codes "bad token ") place)
Says before after (Unsupported place) = Appends before after (reason_line (codes "unsupported ") place)
Says before after (TooDeep place) = Appends before after (reason_line (codes "too deep ") place)
Says before after (NotRead place) = Appends before after (reason_line (codes "not read ") place)
Says before after NoMemory = ⊥

-- the text is read
pub record Reads (text : List ℕ) : Type 0 where
  pub tokens : List Token
  pub comments : List Comment
  pub tree : File Span
  pub source : IsSource text tokens comments tree

-- the text isn't read, and what is written says why
pub record SaysWhy (text : List ℕ) (before after : Option (List ℕ)) : Type 0 where
  pub error : ReadError
  pub right : RefusesText text error
  pub written : Says before after error

-- what is written says whether the text is read, and why not
abbrev pub ShowsTree : List ℕ → Option (List ℕ) → Option (List ℕ) → Type 0
ShowsTree text before after = (Reads text × Appends before after (codes "read\n")) ⊎ SaysWhy text before after

-- what is written is the text of the file that is read, in the one layout, or says why it isn't
abbrev pub ShowsFile : List ℕ → Option (List ℕ) → Option (List ℕ) → Type 0
ShowsFile text before after = ((file : Reads text) × Appends before after (text_of (file_layout file.tree)))
    ⊎ SaysWhy text before after
