-- What a text reads as whose imports are settled (Go specification, Import declarations; Source file organization).
use Rattle.std.specs.Prelude.{◌≡◌, ℕ, Bool, true, false, List, [], ◌∷◌, ◌++◌, drop}
use Rattle.go_tree.specs.declared.spans.Span.{Span}
use Rattle.go_tree.specs.declared.tokens.Token.{Token}
use Rattle.go_tree.specs.declared.tokens.Comment.{Comment}
use Rattle.go_tree.specs.File.{File}
use Rattle.go_tree.specs.FileBare.{bare_file}
use Rattle.go_tree.specs.GoWords.Tokens.{TokensOf}
use Rattle.go_read.specs.SpellsFiles.{SpellsFile}
use Rattle.text_edits.specs.Applied.{applied}
use Rattle.run_rules.specs.declared.import_rules.new_import.NewImport.{NewImport}
use Rattle.run_rules.specs.ImportRules.Settled.{settled}
use Rattle.splice_laws.specs.Dots.{UndottedFile}
use Rattle.splice_laws.specs.Joints.{begins_with_dot}
use Rattle.splice_laws.specs.Swaps.{Swap, FileIn}
use Rattle.splice_laws.specs.Fits.{swap_mark}
use Rattle.splice_laws.specs.Forms.{new_layout, FormedNew, AsksOld}
use Rattle.splice_laws.specs.Splice.{are_apart, first_word, splice, ReadsAs, IsPut}
use Rattle.go_layout.specs.LayoutLaws.Laid.{is_indent}
use Rattle.splice_laws.specs.ImportSplices.AddedFile.{AreWritable}
use Rattle.splice_laws.specs.ImportSplices.SettledFile.{without_unused, with_settled}

-- A text without the bytes of its unused imports reads as the file without these imports.
abbrev pub UnusedGo : Type 0
UnusedGo =
    (text : List ℕ) (tokens : List Token) (comments : List Comment) (file : File Span) (unused : List Span)
    → TokensOf text tokens comments → SpellsFile tokens file → UndottedFile (bare_file file)
    → ReadsAs (applied text (settled text tokens comments file [] unused))
    (without_unused text tokens comments unused file)

-- the same of a text that reads as a file
abbrev pub UnusedGoAgain : Type 0
UnusedGoAgain =
    (text : List ℕ) (f : File (Unit {0})) (r : ReadsAs text f) (unused : List Span) → UndottedFile f
    → ReadsAs (applied text (settled text r.tokens r.comments r.file [] unused))
    (without_unused text r.tokens r.comments unused r.file)

-- In the file without them too no selector stands on an integer literal.
abbrev pub UnusedStayUndotted : Type 0
UnusedStayUndotted =
    (text : List ℕ) (tokens : List Token) (comments : List Comment) (file : File Span) (unused : List Span)
    → UndottedFile (bare_file file) → UndottedFile (without_unused text tokens comments unused file)

-- A text with its imports settled reads as the file without the unused ones and with the added ones.
abbrev pub SettledGo : Type 0
SettledGo =
    (text : List ℕ) (tokens : List Token) (comments : List Comment) (file : File Span) (added : List NewImport)
    (unused : List Span)
    → TokensOf text tokens comments → SpellsFile tokens file → UndottedFile (bare_file file) → AreWritable added
    → ReadsAs (applied text (settled text tokens comments file added unused))
    (with_settled text tokens comments unused added file)

-- the same of a text that reads as a file
abbrev pub SettledGoAgain : Type 0
SettledGoAgain =
    (text : List ℕ) (f : File (Unit {0})) (r : ReadsAs text f) (added : List NewImport) (unused : List Span)
    → UndottedFile f → AreWritable added
    → ReadsAs (applied text (settled text r.tokens r.comments r.file added unused))
    (with_settled text r.tokens r.comments unused added r.file)

-- In the file so settled too no selector stands on an integer literal.
abbrev pub SettledStayUndotted : Type 0
SettledStayUndotted =
    (text : List ℕ) (tokens : List Token) (comments : List Comment) (file : File Span) (added : List NewImport)
    (unused : List Span)
    → UndottedFile (bare_file file) → UndottedFile (with_settled text tokens comments unused added file)

-- ---- with a form at once

-- A text with its imports settled and a node's layout in place of another node, by edits that are all made at once,
-- reads as the file with that node replaced and its imports settled.
abbrev pub FormSettledGo : Type 0
FormSettledGo =
    (text : List ℕ) (tokens : List Token) (comments : List Comment) (f g : File Span) (w : Swap Span)
    (indent : List ℕ) (dotted wrapped blank : Bool) (added : List NewImport) (unused : List Span)
    → IsPut text tokens comments f g w indent dotted wrapped blank → AreWritable added
    → ReadsAs (applied text (settled text tokens comments f added unused
    ++ splice (swap_mark w) blank (new_layout indent dotted wrapped w) ∷ []))
    (with_settled text tokens comments unused added g)

-- the same of a text that reads as a file
abbrev pub FormSettledGoAgain : Type 0
FormSettledGoAgain =
    (text : List ℕ) (f : File (Unit {0})) (r : ReadsAs text f) → UndottedFile f
    → (g : File Span) (w : Swap Span) (indent : List ℕ) (dotted wrapped blank : Bool) (added : List NewImport)
    (unused : List Span)
    → FileIn w r.file g → AsksOld w → FormedNew dotted w → is_indent indent ≡ true
    → (dotted ≡ false → begins_with_dot (drop (swap_mark w).end text) ≡ false)
    → (blank ≡ false → are_apart r.tokens (swap_mark w).start (first_word (new_layout indent dotted wrapped w)) ≡ true)
    → AreWritable added
    → ReadsAs (applied text (settled text r.tokens r.comments r.file added unused
    ++ splice (swap_mark w) blank (new_layout indent dotted wrapped w) ∷ []))
    (with_settled text r.tokens r.comments unused added g)
