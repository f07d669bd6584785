-- The report of a run (golang.org/x/tools, analyzer inline, for what is reported).
use Rattle.std.specs.Prelude.{◌≡◌, ℕ, Bool, true, nat_le, length, List, Some, None, slice_get}
use Rattle.programs.specs.declared.state.Program.{Program}
use Rattle.report_order.specs.Rows.{items_in, report_from}
use Rattle.report_order.specs.declared.rows.ReportRow.{ReportRow}
use Rattle.report_order.specs.declared.text.ReportSource.{ReportSource}
use Rattle.stepped_programs.specs.RunReports.Kept.{IsProgramTold}
use Rattle.stepped_programs.specs.RunReports.Rows.{AddsRow, InTurn, IsBadRow}

-- the row tells of no byte past the end of its file
abbrev pub is_within : List ReportSource → ReportRow → Bool
is_within files r =
    elim (slice_get files r.file) [ None ↦ true | Some f ↦ nat_le r.item.offset (length f.text.now) ]

-- The text is the report over the files of the steps that have these rows, of the uses that the program keeps, and of
-- its marks that mean nothing.
pub record IsReport (p : Program) (places : List (List ℕ × ℕ)) (files : List ReportSource) (steps : List ReportRow)
    (text : List ℕ) : Type 0 where
  pub with_kept : List ReportRow
  pub kept : IsProgramTold p places steps with_kept
  pub rows : List ReportRow
  pub bad : InTurn (AddsRow (IsBadRow places)) p.bad.items with_kept rows
  pub text_is : text ≡ report_from 0 files (λ k. items_in k rows)
