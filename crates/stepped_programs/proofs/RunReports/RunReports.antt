-- What is answered at the end of a run is its report.
use Rattle.std.proofs.Common.{◌≡◌, ◌∙◌, refl, sym, subst, ℕ, List, [], ◌∷◌, ◌++◌, map}
use Rattle.run_rules.specs.Marks.{BadAt, marks_of, bad_of}
use Rattle.run_rules.specs.Report.{step_entry, kept_entry, bad_entry}
use Rattle.run_rules.specs.Run.{KeptUse, uses_kept}
use Rattle.run_rules.specs.Texts.{FileText}
use Rattle.report_order.specs.Laws.{RowsTell, AreSources}
use Rattle.report_order.specs.ReportFiles.Laws.{ReadPathsAscend, all_entries}
use Rattle.report_order.specs.declared.rows.ReportRow.{ReportRow}
use Rattle.report_order.specs.declared.text.ReportSource.{ReportSource}
use Rattle.report_order.proofs.Told.{rows_join, rows_make_report}
use Rattle.stepped_programs.specs.RunReports.Laws.{AddsEntries, paths_of, KeptRowsTell, BadRowsTell, ReportsAreOfRuns}
use Rattle.stepped_programs.proofs.RunReports.Entries.{adds_both}

-- the files of the report have the paths of the texts
same_paths : (files : List ReportSource) (texts : List (List ℕ × FileText)) → AreSources files texts → paths_of files ≡ map (λ t. t.0) texts
same_paths [] [] h = refl
same_paths [] (t ∷ ts) h = absurd h
same_paths (f ∷ fs) [] h = absurd h
same_paths (f ∷ fs) (t ∷ ts) h = λ v. h.0 v ∷ same_paths fs ts h.2 v

pub are_of_runs : ReadPathsAscend → KeptRowsTell → BadRowsTell → ReportsAreOfRuns
are_of_runs ascend kept_tell bad_tell folder ps texts only done st p s c files places steps text o sources finds tell bad r =
    let kept : List KeptUse = uses_kept (marks_of ps texts only) st in
    let marks : List BadAt = bad_of ps texts ps in
    let of_kept : AddsEntries files (map kept_entry kept) steps r.with_kept = kept_tell folder ps texts only done st p s c files places steps r.with_kept o finds r.kept in
    let of_bad : AddsEntries files (map bad_entry marks) r.with_kept r.rows =
    subst (λ (bs : List BadAt). AddsEntries files (map bad_entry bs) r.with_kept r.rows) bad (bad_tell files places p.bad.items r.with_kept r.rows finds r.bad) in
    let both : AddsEntries files (map kept_entry kept ++ map bad_entry marks) steps r.rows = adds_both files (map kept_entry kept) (map bad_entry marks) steps r.with_kept r.rows of_kept of_bad in
    let all : RowsTell (paths_of files) r.rows (all_entries done kept marks) =
    subst (λ (rows : List ReportRow). RowsTell (paths_of files) rows (all_entries done kept marks)) (sym both.added)
    (rows_join (paths_of files) steps both.rows (map step_entry done) (map kept_entry kept ++ map bad_entry marks) tell both.tell) in
    r.text_is
    ∙ rows_make_report texts done kept marks files r.rows (ascend folder ps texts o.reached.read) sources
    (subst (λ (paths : List (List ℕ)). RowsTell paths r.rows (all_entries done kept marks)) (same_paths files texts sources) all)
