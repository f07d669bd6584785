-- The laws of a run on its way. Each is the contract of a function of this crate (golang.org/x/tools,
-- internal/refactor/inline, for what a run is; the limits are this project's own).
use Rattle.std.specs.Prelude.{◌≡◌, ℕ, List, [], ◌∷◌, ◌++◌, None}
use Rattle.go_tree.specs.declared.spans.Span.{Span}
use Rattle.go_tree.specs.FileView.{file_of}
use Rattle.pkg_graph.specs.Package.{Package}
use Rattle.pkg_graph.specs.Reads.{Source}
use Rattle.run_rules.specs.Marks.{marks_of, bad_of}
use Rattle.run_rules.specs.Texts.{FileText}
use Rattle.run_rules.specs.Steps.{At, Found}
use Rattle.run_rules.specs.Run.{Standing, Logged, step_in, the_limits, uses_kept}
use Rattle.run_rules.specs.Report.{report_of}
use Rattle.run_rules.specs.Inlining.{IsInlining, IsTooLarge}
use Rattle.step_files.specs.declared.limits.Progress.{Progress}
use Rattle.step_files.specs.declared.limits.Passed.{Passed}
use Rattle.step_files.specs.declared.file.NewFile.{NewFile}
use Rattle.step_files.specs.declared.file.FileFault.TheVariants.{TooLarge, NotRead}
use Rattle.step_files.specs.Limits.{told, Passes}
use Rattle.step_files.specs.Files.{IsNewFile, IsFault, text_of}
use Rattle.run_by_steps.specs.NextPrograms.Made.{NextWith}
use Rattle.run_by_steps.specs.RunProgress.Laws.{HasCome}
use Rattle.run_by_steps.specs.Reached.{HasReached, IsNextUse, text_made, row_of}

-- With the file that is answered of the next step the run has reached the next program.
abbrev pub StepGoesOn : Type 0
StepGoesOn =
    (files : List Source) (ps : List (Package Span)) (texts : List (List ℕ × FileText)) (only : List ℕ)
    (done : List Logged) (st : Standing) (f : Found At) (old : FileText) (p : Progress) (new : NewFile)
    → HasReached files ps texts only done st → IsNextUse (marks_of ps texts only) st f old
    → HasCome p files done (row_of (marks_of ps texts only) st f old) st old
    → IsNewFile (text_made (marks_of ps texts only) st f old) new → Passes p (text_of new) None
    → (n : NextWith (marks_of ps texts only) st f old (text_of new) (file_of new.tree))
    × HasReached files ps texts only (done ++ row_of (marks_of ps texts only) st f old ∷ []) n.after

-- Where a limit is answered, the run is too large by it.
abbrev pub StepPassesLimit : Type 0
StepPassesLimit =
    (files : List Source) (ps : List (Package Span)) (texts : List (List ℕ × FileText)) (only : List ℕ)
    (done : List Logged) (st : Standing) (f : Found At) (old : FileText) (p : Progress) (passed : Passed)
    → HasReached files ps texts only done st → IsNextUse (marks_of ps texts only) st f old
    → HasCome p files done (row_of (marks_of ps texts only) st f old) st old
    → IsFault p (text_made (marks_of ps texts only) st f old) (TooLarge passed)
    → IsTooLarge the_limits files ps texts only (told passed)

-- The new text is read.
abbrev pub StepIsRead : Type 0
StepIsRead =
    (files : List Source) (ps : List (Package Span)) (texts : List (List ℕ × FileText)) (only : List ℕ)
    (done : List Logged) (st : Standing) (f : Found At) (old : FileText) (p : Progress)
    → HasReached files ps texts only done st → IsNextUse (marks_of ps texts only) st f old
    → IsFault p (text_made (marks_of ps texts only) st f old) NotRead → ⊥

-- Where no use is free any more, the texts are those of the inlined module, with the report of these steps.
abbrev pub RunEnds : Type 0
RunEnds =
    (files : List Source) (ps : List (Package Span)) (texts : List (List ℕ × FileText)) (only : List ℕ)
    (done : List Logged) (last : Standing) → HasReached files ps texts only done last
    → step_in (marks_of ps texts only) last ≡ None
    → IsInlining the_limits files ps texts only last.texts
    (report_of texts done (uses_kept (marks_of ps texts only) last) (bad_of ps texts ps))
