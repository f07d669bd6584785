-- The laws of reports over several files. Each is the contract of a function of this crate.
use Rattle.std.specs.Prelude.{◌≡◌, ℕ, List, ◌++◌, map}
use Rattle.go_tree.specs.declared.spans.Span.{Span}
use Rattle.pkg_graph.specs.Package.{Package}
use Rattle.pkg_graph.specs.Reads.{Source}
use Rattle.run_rules.specs.Inlining.{ModuleReads, Reaches}
use Rattle.run_rules.specs.Marks.{BadAt}
use Rattle.run_rules.specs.Report.{Entry, step_entry, kept_entry, bad_entry, file_of, arranged, report_of}
use Rattle.run_rules.specs.Run.{Standing, Logged, KeptUse, Limits}
use Rattle.run_rules.specs.Sites.{MarkRef}
use Rattle.run_rules.specs.Texts.{FileText}
use Rattle.report_lines.specs.Lines.{StandInOrder}
use Rattle.report_lines.specs.Laws.{item_of}
use Rattle.report_order.specs.ReportFiles.Files.{PathsAscend, IsPathIn, EachEntry, entries_in, by_files, lines_by_file}
use Rattle.report_order.specs.ReportFiles.Files.{LiesWithin}

-- Where the paths of files ascend, the entries of a report by path and offset are those of one file after the other,
-- each file's by their offsets.
abbrev pub EntriesAreByFile : Type 0
EntriesAreByFile =
    (paths : List (List ℕ)) (es : List Entry) → PathsAscend paths → EachEntry (λ e. IsPathIn paths (file_of e)) es
    → arranged es ≡ by_files paths es

-- the entries of a report
abbrev pub all_entries : List Logged → List KeptUse → List BadAt → List Entry
all_entries log kept bad = map step_entry log ++ (map kept_entry kept ++ map bad_entry bad)

-- So its lines are those of one file after the other.
abbrev pub ReportsAreByFile : Type 0
ReportsAreByFile =
    (files : List (List ℕ × FileText)) (log : List Logged) (kept : List KeptUse) (bad : List BadAt)
    → PathsAscend (map (λ t. t.0) files)
    → EachEntry (λ e. IsPathIn (map (λ t. t.0) files) (file_of e)) (all_entries log kept bad)
    → report_of files log kept bad ≡ lines_by_file files (all_entries log kept bad)

-- The items of a file stand in order within its text, if each lies in it.
abbrev pub FilesHaveTheirItems : Type 0
FilesHaveTheirItems =
    (path : List ℕ) (size : ℕ) (es : List Entry) → EachEntry (LiesWithin size) (entries_in path es)
    → StandInOrder 0 size (map item_of (arranged (entries_in path es)))

-- ---- runs

-- The paths of the texts of a module that reads ascend.
abbrev pub ReadPathsAscend : Type 0
ReadPathsAscend =
    (files : List Source) (ps : List (Package Span)) (texts : List (List ℕ × FileText)) → ModuleReads files ps texts
    → PathsAscend (map (λ t. t.0) texts)

-- Each step is told of a file that has a text, before the steps as after them.
abbrev pub StepsLieInFiles : Type 0
StepsLieInFiles =
    (marks : List MarkRef) (m : Limits) (files : List Source) (done log : List Logged) (st last : Standing)
    → Reaches marks m files done st log last
    → EachEntry (λ e. IsPathIn (map (λ t. t.0) st.texts) (file_of e)) (map step_entry log)
