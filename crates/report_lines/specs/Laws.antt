-- Laws of the lines of a report.
use Rattle.std.specs.Prelude.{◌≡◌, ℕ, List, map, All}
use Rattle.run_rules.specs.Report as report
use Rattle.run_rules.specs.Report.{Entry, file_of, offset_of, told, read_text}
use Rattle.run_rules.specs.Texts.{FileText}
use Rattle.report_lines.specs.declared.lines.ReportItem.{ReportItem}
use Rattle.report_lines.specs.Lines.{lines_of}

-- an entry of a report as an item of its file
abbrev pub item_of : Entry → ReportItem
item_of e = record { offset = offset_of e; told = told e }

-- What a report over files says of entries of one file are the lines of these.
abbrev pub ReportHasTheseLines : Type 0
ReportHasTheseLines =
    (files : List (List ℕ × FileText)) (path : List ℕ) (entries : List Entry) → All (λ e. file_of e ≡ path) entries
    → report.lines_of files entries ≡ lines_of path (read_text path files) (map item_of entries)
