-- Laws of runs whose programs are read from their texts (Go specification, Source file organization;
-- golang.org/x/tools, internal/refactor/inline).
use Rattle.std.specs.Prelude.{◌≡◌, ℕ, List, [], length, Some, slice_get}
use Rattle.go_tree.specs.declared.spans.Span.{Span}
use Rattle.text_edits.specs.Applied.{Ascend}
use Rattle.pkg_graph.specs.Package.{Package}
use Rattle.pkg_graph.specs.Reads.{Source}
use Rattle.run_rules.specs.Laws.{file_found}
use Rattle.run_rules.specs.Marks.{text_at, marks_of, bad_of}
use Rattle.run_rules.specs.Sites.{MarkRef}
use Rattle.run_rules.specs.Texts.{FileText}
use Rattle.run_rules.specs.Run.{Standing, Logged, Next, Run, ends, goes_on, FilesKeep, bytes_of, Limits, uses_kept}
use Rattle.run_rules.specs.Report.{report_of}
use Rattle.run_rules.specs.Inlining.{ReadsAs, ModuleReads, standing_as_read, Reaches, IsInlining}
use Rattle.splice_laws.specs.RunLaws.Reading.{ProgramReads, OnePathEach}

-- The edits of a step stand apart, in their order, and lie in the text, where the file of the use reads from its text.
abbrev pub ReadFileEditsStandApart : Type 0
ReadFileEditsStandApart =
    (marks : List MarkRef) (st : Standing) (l : Logged) (after : Standing) (n : Next marks st l after)
    → ReadsAs n.old (file_found n.found) → Ascend 0 (length n.old.text) l.edits

-- Files that read as a module are a program whose files read from their texts.
abbrev pub ReadModulesRead : Type 0
ReadModulesRead =
    (files : List Source) (ps : List (Package Span)) (texts : List (List ℕ × FileText)) → ModuleReads files ps texts
    → ProgramReads (standing_as_read ps texts)

-- Each text is that of its path.
abbrev pub OneTextEach : List (List ℕ × FileText) → Type 0
OneTextEach texts =
    (i : ℕ) (t : List ℕ × FileText) → slice_get texts i ≡ Some t → text_at t.0 texts ≡ Some t.1

-- Each file of such a module has its own path, and each path its own text.
abbrev pub ReadModulesHaveOnePathEach : Type 0
ReadModulesHaveOnePathEach =
    (files : List Source) (ps : List (Package Span)) (texts : List (List ℕ × FileText)) → ModuleReads files ps texts
    → OnePathEach ps × OneTextEach texts

-- A step leaves a program whose files read from their texts, and each path names one file as before.
abbrev pub StepsKeepReading : Type 0
StepsKeepReading =
    (marks : List MarkRef) (st : Standing) (l : Logged) (after : Standing) → Next marks st l after → ProgramReads st
    → OnePathEach st.packages → ProgramReads after × OnePathEach after.packages

-- the edits of each step of a run stand apart, in their order, and lie in the text as it stands there
abbrev pub AllApart : {marks : List MarkRef} {st last : Standing} {log : List Logged} → Run marks st log last → Type 0
AllApart (ends st over) = Unit {0}
AllApart (goes_on st next last l log n run) = Ascend 0 (length n.old.text) l.edits × AllApart run

-- So it is in every run from files that read as a module.
abbrev pub RunEditsStandApart : Type 0
RunEditsStandApart =
    (files : List Source) (ps : List (Package Span)) (texts : List (List ℕ × FileText)) (marks : List MarkRef)
    (last : Standing) (log : List Logged) → ModuleReads files ps texts
    → (run : Run marks (standing_as_read ps texts) log last) → AllApart run

-- Every run from files that read as a module keeps each file's bytes outside the run's ranges.
abbrev pub RunsKeepFiles : Type 0
RunsKeepFiles =
    (files : List Source) (ps : List (Package Span)) (texts : List (List ℕ × FileText)) (marks : List MarkRef)
    (last : Standing) (log : List Logged) → ModuleReads files ps texts
    → Run marks (standing_as_read ps texts) log last → FilesKeep log (bytes_of texts) (bytes_of last.texts)

-- So a run in which no step passes a limit is all that is asked of an inlined module.
abbrev pub RunsAreInlinings : Type 0
RunsAreInlinings =
    (m : Limits) (files : List Source) (ps : List (Package Span)) (texts : List (List ℕ × FileText)) (only : List ℕ)
    (last : Standing) (log : List Logged) → ModuleReads files ps texts
    → Run (marks_of ps texts only) (standing_as_read ps texts) log last
    → Reaches (marks_of ps texts only) m files [] (standing_as_read ps texts) log last
    → IsInlining m files ps texts only last.texts
    (report_of texts log (uses_kept (marks_of ps texts only) last) (bad_of ps texts ps))
