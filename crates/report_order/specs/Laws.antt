-- The law of reports over several files. It is the contract of a function of this crate (golang.org/x/tools, analyzer
-- inline, for what is reported).
use Rattle.std.specs.Prelude.{◌≡◌, ℕ, List, [], ◌∷◌, ◌++◌, map, Some, slice_get}
use Rattle.run_rules.specs.Marks.{BadAt}
use Rattle.run_rules.specs.Report.{Entry, file_of, report_of}
use Rattle.run_rules.specs.Run.{Logged, KeptUse}
use Rattle.run_rules.specs.Texts.{FileText}
use Rattle.report_lines.specs.Laws.{item_of}
use Rattle.report_order.specs.ReportFiles.Files.{PathsAscend}
use Rattle.report_order.specs.ReportFiles.Laws.{all_entries}
use Rattle.report_order.specs.declared.rows.ReportRow.{ReportRow}
use Rattle.report_order.specs.declared.text.ReportSource.{ReportSource}
use Rattle.report_order.specs.Rows.{items_in, report_from}

-- The row is of the file of the entry, among files with these paths, and tells the same.
pub record Tells (paths : List (List ℕ)) (r : ReportRow) (e : Entry) : Type 0 where
  pub there : slice_get paths r.file ≡ Some (file_of e)
  pub item_is : r.item ≡ item_of e

-- So does each row of each entry.
abbrev pub RowsTell : List (List ℕ) → List ReportRow → List Entry → Type 0
RowsTell paths [] [] = Unit {0}
RowsTell paths (r ∷ rs) (e ∷ es) = Tells paths r e × RowsTell paths rs es
RowsTell paths rs es = ⊥

-- These are the paths and the texts of files.
abbrev pub AreSources : List ReportSource → List (List ℕ × FileText) → Type 0
AreSources [] [] = Unit {0}
AreSources (f ∷ fs) (t ∷ ts) = (f.path.now ≡ t.0) × (f.text.now ≡ t.1.text) × AreSources fs ts
AreSources fs ts = ⊥

-- So the lines are those of the report, where the paths of the files ascend.
abbrev pub RowsMakeReport : Type 0
RowsMakeReport =
    (texts : List (List ℕ × FileText)) (log : List Logged) (kept : List KeptUse) (bad : List BadAt)
    (fs : List ReportSource) (rows : List ReportRow) → PathsAscend (map (λ t. t.0) texts) → AreSources fs texts
    → RowsTell (map (λ t. t.0) texts) rows (all_entries log kept bad)
    → report_from 0 fs (λ k. items_in k rows) ≡ report_of texts log kept bad

-- Rows of some entries and rows of others are rows of both.
abbrev pub RowsJoin : Type 0
RowsJoin =
    (paths : List (List ℕ)) (rows others : List ReportRow) (es fs : List Entry) → RowsTell paths rows es
    → RowsTell paths others fs → RowsTell paths (rows ++ others) (es ++ fs)
