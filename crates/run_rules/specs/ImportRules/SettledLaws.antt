-- Laws of the edits that settle a file's imports.
use Rattle.std.specs.Prelude.{◌≡◌, ℕ, ◌<◌, List, length, slice_index}
use Rattle.go_tree.specs.declared.spans.Span.{Span}
use Rattle.go_tree.specs.declared.tokens.Token.{Token}
use Rattle.go_tree.specs.declared.tokens.Comment.{Comment}
use Rattle.go_tree.specs.File.{File}
use Rattle.text_edits.specs.declared.edit.Edit.{Edit}
use Rattle.text_edits.specs.Order.{InOrder, spans}
use Rattle.text_edits.specs.Applied.{Within, Ascend, applied}
use Rattle.text_edits.specs.Keeps.{Keeps}
use Rattle.text_edits.specs.Places.{IsOutside, place_after}
use Rattle.run_rules.specs.declared.import_rules.new_import.NewImport.{NewImport}
use Rattle.run_rules.specs.ImportRules.Laid.{Laid}
use Rattle.run_rules.specs.ImportRules.Settled.{settled}

-- it holds of the edits that settle any imports where they lie in a text
abbrev pub Settling : (List ℕ → File Span → List Edit → Type 0) → Type 0
Settling Law =
    (text : List ℕ) (tokens : List Token) (comments : List Comment) (file : File Span) (added : List NewImport)
    (unused : List Span)
    → Laid text tokens file → Law text file (settled text tokens comments file added unused)

-- No two overlap, and they stand in the order of their places.
abbrev pub SettledInOrder : Type 0
SettledInOrder = Settling (λ text file es. InOrder es)

-- They lie within the text.
abbrev pub SettledWithin : Type 0
SettledWithin = Settling (λ text file es. Within (length text) es)

-- They lie behind the package name.
abbrev pub SettledAscend : Type 0
SettledAscend = Settling (λ text file es. Ascend file.package_name.span.end (length text) es)

-- The new text is the old one but for their ranges.
abbrev pub SettledKeeps : Type 0
SettledKeeps = Settling (λ text file es. Keeps text (applied text es) (spans es))

-- a byte outside the ranges of edits stands in the new text, at its place
abbrev pub StaysOutside : List ℕ → List Edit → Type 0
StaysOutside text es =
    (k : ℕ)
    → k < length text → IsOutside k es → slice_index (applied text es) (place_after es k) ≡ slice_index text k

-- Each byte outside their ranges stands in the new text, at its place.
abbrev pub SettledBytesStay : Type 0
SettledBytesStay = Settling (λ text file es. StaysOutside text es)
