-- What is told of files by their numbers (golang.org/x/tools, analyzer inline, for what is reported).
use Rattle.std.specs.Prelude.{◌≡◌, ℕ, suc, ◌<◌, nat_eq, if◌then◌else◌, List, [], ◌∷◌, ◌++◌}
use Rattle.std.specs.Prelude.{length, slice_index_or}
use Rattle.report_lines.specs.declared.lines.ReportItem.{ReportItem}
use Rattle.report_lines.specs.Lines.{lines_of}
use Rattle.report_order.specs.declared.rows.ReportRow.{ReportRow}
use Rattle.report_order.specs.declared.text.ReportSource.{ReportSource}
use Rattle.report_order.specs.Order.{in_order}

-- what rows tell of the file with this number, in their order
abbrev pub items_in : ℕ → List ReportRow → List ReportItem
items_in k [] = []
items_in k (r ∷ rs) = if nat_eq r.file k then r.item ∷ items_in k rs else items_in k rs

-- what is told of the file with this number
abbrev pub row : List (List ReportItem) → ℕ → List ReportItem
row t k = slice_index_or t k []

-- A row is told too, where it is of one of the files.
pub record IsPut (r : ReportRow) (old new : List (List ReportItem)) : Type 0 where
  pub size : length new ≡ length old
  pub told : (k : ℕ) → k < length old → row new k ≡ row old k ++ items_in k (r ∷ [])

-- This is told of so many files.
pub record AreItems (count : ℕ) (rows : List ReportRow) (t : List (List ReportItem)) : Type 0 where
  pub size : length t ≡ count
  pub told : (k : ℕ) → k < count → row t k ≡ items_in k rows

-- the lines of files, from the k-th on, of which this is told
abbrev pub report_from : ℕ → List ReportSource → (ℕ → List ReportItem) → List ℕ
report_from k [] items = []
report_from k (f ∷ fs) items = lines_of f.path.now f.text.now (in_order (items k)) ++ report_from (suc k) fs items
