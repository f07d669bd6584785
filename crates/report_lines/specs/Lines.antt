-- The lines of a report over one file (golang.org/x/tools, analyzer inline, for what is reported; the lines are this
-- project's own).
use Rattle.std.specs.Prelude.{◌≡◌, ⊤, ℕ, ◌+◌, ◌≤◌, List, [], ◌∷◌, ◌++◌, take, codes}
use Rattle.std.specs.Prelude.{decimal}
use Rattle.text_places.specs.Lines.{lines_before, column_after}
use Rattle.go_tree.specs.declared.spans.Place.{Place}
use Rattle.run_rules.specs.Report.{place_text}
use Rattle.report_lines.specs.declared.lines.ReportItem.{ReportItem}

-- The items stand in the order of their offsets, of which the first is no lower than this and the last within so many
-- bytes.
abbrev pub StandInOrder : ℕ → ℕ → List ReportItem → Type 0
StandInOrder from size [] = ⊤
StandInOrder from size (i ∷ is) = (from ≤ i.offset) × (i.offset ≤ size) × StandInOrder i.offset size is

-- path, line and column of the item, what is told, and a newline
abbrev pub line_of : List ℕ → List ℕ → ReportItem → List ℕ
line_of path text i = place_text path text i.offset ++ (i.told ++ codes "\n")

-- the lines of items, in their order
abbrev pub lines_of : List ℕ → List ℕ → List ReportItem → List ℕ
lines_of path text [] = []
lines_of path text (i ∷ is) = line_of path text i ++ lines_of path text is

-- ---- a line by its place

-- The byte at this offset stands at this place.
pub record IsPlace (text : List ℕ) (at : ℕ) (place : Place) : Type 0 where
  pub line_is : place.line ≡ lines_before (take at text) + 1
  pub col_is : place.col ≡ column_after (take at text) + 1
  pub line_small : place.line ≤ at + 1
  pub col_small : place.col ≤ at + 1

-- `PATH:LINE:COL`
abbrev pub place_at : List ℕ → Place → List ℕ
place_at path place = path ++ (codes ":" ++ (decimal place.line ++ (codes ":" ++ decimal place.col)))

-- the line of what is told at a place
abbrev pub line_at : List ℕ → Place → List ℕ → List ℕ
line_at path place told = place_at path place ++ (told ++ codes "\n")
