-- Rows that tell of entries, one after another.
use Rattle.std.proofs.Common.{◌≡◌, ◌∙◌, refl, sym, ap, subst, ℕ, List, [], ◌∷◌, ◌++◌, map, Some, append_assoc}
use Rattle.std.specs.Prelude.{slice_get}
use Rattle.std.proofs.lemmas.List.{append-nil}
use Rattle.name_walks.specs.Around.{place_in}
use Rattle.module_marks.specs.Views.{bad_at_of}
use Rattle.module_marks.specs.declared.file_marks.BadMarkAt.{BadMarkAt}
use Rattle.run_rules.specs.Report.{Entry, bad_entry, file_of}
use Rattle.report_lines.specs.Laws.{item_of}
use Rattle.report_order.specs.Laws.{Tells}
use Rattle.report_order.specs.declared.rows.ReportRow.{ReportRow}
use Rattle.report_order.specs.declared.text.ReportSource.{ReportSource}
use Rattle.report_order.proofs.Told.{rows_join}
use Rattle.stepped_programs.specs.RunReports.Laws.{AddsEntries, paths_of, BadRowsTell}
use Rattle.stepped_programs.specs.RunReports.Rows.{FindsFiles, IsRow, IsBadRow, AddsRow, InTurn}
use Rattle.stepped_programs.proofs.RunReports.Packages.{number_there}

module _ (files : List ReportSource) where
  -- a row stands at the number of its file
  pub there_by : (places : List (List ℕ × ℕ)) (path : List ℕ) (k : ℕ) → FindsFiles places files → place_in places path ≡ Some k → slice_get (paths_of files) k ≡ Some path
  there_by places path k finds e = number_there (paths_of files) path k (sym (finds.found path) ∙ e)

  pub row_tells : (places : List (List ℕ × ℕ)) (path : List ℕ) (offset : ℕ) (told : List ℕ) (r : ReportRow) (e : Entry) → FindsFiles places files → IsRow places path offset told r → path ≡ file_of e
      → (record { offset = offset; told = told }) ≡ item_of e → Tells (paths_of files) r e
  row_tells places path offset told r e finds is same item =
      record {
        there = there_by places path r.file finds is.file_is ∙ ap (λ (x : List ℕ). Some x) same;
        item_is = is.item_is ∙ item;
      }

  pub adds_none : (rows : List ReportRow) → AddsEntries files [] rows rows
  adds_none rows = record { rows = []; added = sym (append-nil rows); tell = tt }

  pub adds_one : (row : ReportRow) (e : Entry) (old new : List ReportRow) → new ≡ old ++ row ∷ [] → Tells (paths_of files) row e → AddsEntries files (e ∷ []) old new
  adds_one row e old new added tells = record { rows = row ∷ []; added = added; tell = (tells, tt) }

  pub adds_both : (es fs : List Entry) (old between new : List ReportRow) → AddsEntries files es old between → AddsEntries files fs between new → AddsEntries files (es ++ fs) old new
  adds_both es fs old between new a b =
      record {
        rows = a.rows ++ b.rows;
        added = b.added ∙ ap (λ (rs : List ReportRow). rs ++ b.rows) a.added ∙ append_assoc old a.rows b.rows;
        tell = rows_join (paths_of files) a.rows b.rows es fs a.tell b.tell;
      }

  -- ---- marks that mean nothing

  bad_told : (places : List (List ℕ × ℕ)) → FindsFiles places files → (bad : List BadMarkAt) (old new : List ReportRow) → InTurn (AddsRow (IsBadRow places)) bad old new
      → AddsEntries files (map bad_entry (map bad_at_of bad)) old new
  bad_told places finds [] old new h = subst (λ (rows : List ReportRow). AddsEntries files [] old rows) h (adds_none old)
  bad_told places finds (b ∷ bs) old new h =
      adds_both (bad_entry (bad_at_of b) ∷ []) (map bad_entry (map bad_at_of bs)) old h.0 new
      (adds_one h.1.row (bad_entry (bad_at_of b)) old h.0 h.1.added
      (row_tells places b.path b.mark.at _ h.1.row (bad_entry (bad_at_of b)) finds h.1.tells refl refl))
      (bad_told places finds bs h.0 new h.2)

pub bad_rows_tell : BadRowsTell
bad_rows_tell files places bad old new finds h = bad_told files places finds bad old new h
