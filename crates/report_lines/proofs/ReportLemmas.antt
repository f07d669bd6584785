-- What a report says of one file.
use Rattle.std.proofs.Common.{◌≡◌, ◌∙◌, ℕ, suc, List, [], ◌∷◌, ◌++◌, refl, ap, arith}
use Rattle.std.specs.Prelude.{codes}
use Rattle.run_rules.specs.Report as report
use Rattle.run_rules.specs.Report.{place_text, file_of, offset_of, told, read_text}
use Rattle.report_lines.specs.Lines.{line_of}
use Rattle.report_lines.specs.Laws.{ReportHasTheseLines, item_of}

pub report_has : ReportHasTheseLines
report_has files path [] all = refl
report_has files path (e ∷ es) all =
    let here : file_of e ≡ path = all 0 e (omega arith) in
    ap (λ p. place_text p (read_text p files) (offset_of e) ++ (told e ++ codes "\n") ++ report.lines_of files es) here
    ∙ ap (λ ls. line_of path (read_text path files) (item_of e) ++ ls) (report_has files path es (λ k d l. all (suc k) d (omega (arith, l))))
