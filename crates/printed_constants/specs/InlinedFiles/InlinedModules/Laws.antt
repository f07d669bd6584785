-- The laws of modules that are inlined. Each is the contract of a function of this crate (Go specification, Constant
-- declarations; Import declarations; Packages; Program initialization and execution).
use Rattle.std.specs.Prelude.{◌≡◌, ◌≤◌, ℕ, true, List, []}
use Rattle.std.specs.List.{list_all}
use Rattle.go_tree.specs.declared.spans.Span.{Span}
use Rattle.go_tree.specs.GoWords.Tokens.Characters.{each}
use Rattle.pkg_graph.specs.Package.{Package}
use Rattle.pkg_graph.specs.Reads.{Source}
use Rattle.go_translation.specs.SameMeaning.{WellTyped}
use Rattle.member_uses.specs.Laws.{AllConstants}
use Rattle.run_rules.specs.Inlining.{ModuleReads, standing_as_read, IsInlining}
use Rattle.run_rules.specs.Marks.{marks_of}
use Rattle.run_rules.specs.Respanned.{packages_with}
use Rattle.run_rules.specs.Run.{Standing, Logged, Run, here_of, texts_size, the_limits}
use Rattle.run_rules.specs.Sites.{MarkRef}
use Rattle.run_rules.specs.Texts.{FileText}
use Rattle.splice_laws.specs.ImportSplices.AddedFile.{is_byte}
use Rattle.constant_steps.specs.WrittenLiteral.UnspreadForms.UnspreadForms.{UnspreadPackages}
use Rattle.order_runs.specs.RunSteps.RunPackages.{packages_of}
use Rattle.printed_constants.specs.TypedParts.MarkedRuns.Marked.{AllOverNames}
use Rattle.printed_constants.specs.TypedParts.MarkedRuns.NamedMarks.Named.{AllNamed}
use Rattle.printed_constants.specs.TypedParts.MarkedRuns.SettledConstants.Programs.{IsReady}
use Rattle.printed_constants.specs.TypedParts.MarkedRuns.TakenNames.Laws.{KeptByRun}
use Rattle.printed_constants.specs.TypedParts.MarkedRuns.TakenNames.Taken.{AllTake}
use Rattle.run_rules.specs.Printed.{ArePrinted}
use Rattle.printed_constants.specs.PrintedRuns.Laws.{StaysWithin}
use Rattle.printed_constants.specs.InlinedFiles.Files.{AllWrite}
use Rattle.printed_constants.specs.InlinedFiles.InlinedModules.Modules.{IsInlinedModule}

-- A run whose steps write their files inlines a module that reads and is well typed, where it keeps typing and the
-- meaning.
abbrev pub KeptModulesAreInlined : Type 0
KeptModulesAreInlined =
    (files : List Source) (ps : List (Package Span)) (texts : List (List ℕ × FileText)) (marks : List MarkRef)
    (last : Standing) (log : List Logged) → ModuleReads files ps texts → WellTyped (packages_of ps [])
    → (run : Run marks (standing_as_read ps texts) log last) → AllWrite run → KeptByRun ps texts marks last
    → IsInlinedModule files ps texts log last.texts (packages_with here_of last.packages)

-- ---- runs over constants

-- From a program that is ready and well typed, each step of a run over constants that takes its name writes its file.
abbrev pub RunsOverConstantsWrite : Type 0
RunsOverConstantsWrite =
    (marks : List MarkRef) (st last : Standing) (log : List Logged) → IsReady st
    → WellTyped (packages_of st.packages []) → (run : Run marks st log last) → AllTake run → AllWrite run

-- So such a run inlines a module that reads, the paths of whose files are octets, that is well typed and in which no
-- call hands on a slice.
abbrev pub RunsOverConstantsInline : Type 0
RunsOverConstantsInline =
    (files : List Source) (ps : List (Package Span)) (texts : List (List ℕ × FileText)) (marks : List MarkRef)
    (last : Standing) (log : List Logged) → ModuleReads files ps texts
    → list_all (λ f. each is_byte f.path) files ≡ true → WellTyped (packages_of ps []) → UnspreadPackages ps
    → (run : Run marks (standing_as_read ps texts) log last) → AllTake run
    → IsInlinedModule files ps texts log last.texts (packages_with here_of last.packages)

-- So does each step of a run over marked constants, where each mark is that of a constant which is declared as a name.
abbrev pub RunsOverMarksWrite : Type 0
RunsOverMarksWrite =
    (marks : List MarkRef) (st last : Standing) (log : List Logged) → IsReady st
    → WellTyped (packages_of st.packages []) → AllNamed st.packages marks → (run : Run marks st log last)
    → AllOverNames run → AllWrite run

-- So such a run inlines such a module, whose marks are all of constants.
abbrev pub RunsOverMarksInline : Type 0
RunsOverMarksInline =
    (files : List Source) (ps : List (Package Span)) (texts : List (List ℕ × FileText)) (only : List ℕ)
    (last : Standing) (log : List Logged) → ModuleReads files ps texts
    → list_all (λ f. each is_byte f.path) files ≡ true → WellTyped (packages_of ps []) → UnspreadPackages ps
    → AllConstants ps (marks_of ps texts only)
    → (run : Run (marks_of ps texts only) (standing_as_read ps texts) log last) → AllOverNames run
    → IsInlinedModule files ps texts log last.texts (packages_with here_of last.packages)

-- ---- modules of constants and of functions that print them

-- Each run inlines such a module, the paths of whose files are octets, that is well typed, all of whose marks are of
-- constants, if it is within the limit of a run and stays within.
abbrev pub PrintedRunsInline : Type 0
PrintedRunsInline =
    (files : List Source) (ps : List (Package Span)) (texts : List (List ℕ × FileText)) (only : List ℕ)
    (last : Standing) (log : List Logged) → ModuleReads files ps texts
    → list_all (λ f. each is_byte f.path) files ≡ true → WellTyped (packages_of ps []) → ArePrinted ps
    → AllConstants ps (marks_of ps texts only) → texts_size texts ≤ the_limits.total
    → (run : Run (marks_of ps texts only) (standing_as_read ps texts) log last) → StaysWithin run
    → IsInlinedModule files ps texts log last.texts (packages_with here_of last.packages)

-- So the inlining of such a module leaves files that read as a module, which is well typed and means what it meant.
abbrev pub PrintedModulesAreInlined : Type 0
PrintedModulesAreInlined =
    (files : List Source) (ps : List (Package Span)) (texts : List (List ℕ × FileText)) (only : List ℕ)
    (after : List (List ℕ × FileText)) (report : List ℕ)
    (i : IsInlining the_limits files ps texts only after report)
    → list_all (λ f. each is_byte f.path) files ≡ true → WellTyped (packages_of ps []) → ArePrinted ps
    → AllConstants ps (marks_of ps texts only) → texts_size texts ≤ the_limits.total
    → IsInlinedModule files ps texts i.log after (packages_with here_of i.last.packages)
