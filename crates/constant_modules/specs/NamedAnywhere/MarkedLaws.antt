-- The laws of runs over constants in declarations of any form, from a module as it reads: what they keep, and that they
-- inline the module. Each is the contract of a function of this crate (Go specification, Constant declarations; Import
-- declarations; Packages; Program initialization and execution).
use Rattle.std.specs.Prelude.{◌≡◌, true, ℕ, List, []}
use Rattle.std.specs.List.{list_all}
use Rattle.go_tree.specs.declared.spans.Span.{Span}
use Rattle.go_tree.specs.GoWords.Tokens.Characters.{each}
use Rattle.splice_laws.specs.ImportSplices.AddedFile.{is_byte}
use Rattle.pkg_graph.specs.Package as run
use Rattle.pkg_graph.specs.Reads.{Source}
use Rattle.go_translation.specs.SameMeaning.{WellTyped}
use Rattle.member_uses.specs.Laws.{AllConstants}
use Rattle.run_rules.specs.Sites.{MarkRef}
use Rattle.run_rules.specs.Marks.{marks_of}
use Rattle.run_rules.specs.Texts.{FileText}
use Rattle.run_rules.specs.Respanned.{packages_with}
use Rattle.run_rules.specs.Run.{Standing, Logged, here_of, Next, Run}
use Rattle.run_rules.specs.Inlining.{ModuleReads, standing_as_read}
use Rattle.constant_steps.specs.WrittenLiteral.UnspreadForms.UnspreadForms.{UnspreadPackages}
use Rattle.order_runs.specs.RunSteps.RunPackages.{packages_of}
use Rattle.order_runs.specs.CycleRuns.Linked.{WritesFile}
use Rattle.order_runs.specs.CycleRuns.OrderCycles.NewNames.{AvoidsFew}
use Rattle.printed_constants.specs.InlinedFiles.Files.{AllWrite}
use Rattle.printed_constants.specs.InlinedFiles.InlinedModules.Modules.{IsInlinedModule}
use Rattle.printed_constants.specs.TypedParts.MarkedRuns.LinkedMembers.Laws.{HaveFiles}
use Rattle.printed_constants.specs.TypedParts.MarkedRuns.NamedMarks.Named.{AllNamed}
use Rattle.printed_constants.specs.TypedParts.MarkedRuns.SettledConstants.Programs.{IsReady}
use Rattle.printed_constants.specs.TypedParts.MarkedRuns.TakenNames.Laws.{KeptByRun}
use Rattle.printed_constants.specs.TypedParts.MarkedRuns.TakenNames.Taken.{TakesName}
use Rattle.constant_modules.specs.KeyedImports.Steps.{KeepsImportUses}
use Rattle.constant_modules.specs.NamedAnywhere.Marked.{AllTakeAnywhere, StandsNamedThere, StandsAnywhere, AllOverAnywhere}
use Rattle.constant_modules.specs.NamedAnywhere.Taken.{TakesNameThere, TakesNameAnywhere}

-- ---- steps that take names

-- A step that taken_names speaks of is such a step: its parts are simple, so known.
abbrev pub SimpleStepsTakeAnywhere : Type 0
SimpleStepsTakeAnywhere =
    (marks : List MarkRef) (st : Standing) (l : Logged) (after : Standing) (n : Next marks st l after) → TakesName n
    → TakesNameAnywhere n

-- Where a program is ready and its packages are well typed, and such a step writes its file, so is the program after
-- the step, and so are they.
abbrev pub StepsAnywhereStayReady : Type 0
StepsAnywhereStayReady =
    (marks : List MarkRef) (st : Standing) (l : Logged) (after : Standing) (n : Next marks st l after) → IsReady st
    → WellTyped (packages_of st.packages []) → WritesFile n → TakesNameAnywhere n
    → IsReady after × WellTyped (packages_of after.packages [])

-- So does each run of such steps from a module that reads, the paths of whose files are octets, that is well typed and
-- in which no call hands on a slice: nothing is asked of typing after the module as read.
abbrev pub RunsAnywhereKeep : Type 0
RunsAnywhereKeep =
    (files : List Source) (ps : List (run.Package Span)) (texts : List (List ℕ × FileText)) (marks : List MarkRef)
    (last : Standing) (log : List Logged) → ModuleReads files ps texts
    → list_all (λ f. each is_byte f.path) files ≡ true → WellTyped (packages_of ps []) → UnspreadPackages ps
    → (run : Run marks (standing_as_read ps texts) log last) → AllTakeAnywhere run → KeptByRun ps texts marks last

-- So such a run inlines such a module.
abbrev pub RunsAnywhereInline : Type 0
RunsAnywhereInline =
    (files : List Source) (ps : List (run.Package Span)) (texts : List (List ℕ × FileText)) (marks : List MarkRef)
    (last : Standing) (log : List Logged) → ModuleReads files ps texts
    → list_all (λ f. each is_byte f.path) files ≡ true → WellTyped (packages_of ps []) → UnspreadPackages ps
    → (run : Run marks (standing_as_read ps texts) log last) → AllTakeAnywhere run
    → IsInlinedModule files ps texts log last.texts (packages_with here_of last.packages)

-- ---- steps over marked constants

-- In a program that is ready and well typed, each of whose packages has a file, a step over a marked constant takes its
-- name, but for its imports at last: with its imports added the parts of the declaration of the use are known.
abbrev pub StepsOverMarksTakeThere : Type 0
StepsOverMarksTakeThere =
    (marks : List MarkRef) (st : Standing) (l : Logged) (after : Standing) (n : Next marks st l after) → IsReady st
    → HaveFiles st.packages → WellTyped (packages_of st.packages []) → AvoidsFew st.packages n.found
    → KeepsImportUses n → StandsNamedThere n → TakesNameThere n

-- So it takes its name, where its imports are right at last.
abbrev pub StepsOverMarksTake : Type 0
StepsOverMarksTake =
    (marks : List MarkRef) (st : Standing) (l : Logged) (after : Standing) (n : Next marks st l after) → IsReady st
    → HaveFiles st.packages → WellTyped (packages_of st.packages []) → AvoidsFew st.packages n.found
    → KeepsImportUses n → StandsAnywhere n → TakesNameAnywhere n

-- A run over marked constants from a module that reads, is well typed, and whose marks are all of constants, keeps
-- typing, which marked functions lie on a cycle, and the meaning.
abbrev pub RunsOverMarksAnywhereKeep : Type 0
RunsOverMarksAnywhereKeep =
    (files : List Source) (ps : List (run.Package Span)) (texts : List (List ℕ × FileText)) (only : List ℕ)
    (last : Standing) (log : List Logged) → ModuleReads files ps texts
    → list_all (λ f. each is_byte f.path) files ≡ true → WellTyped (packages_of ps []) → UnspreadPackages ps
    → AllConstants ps (marks_of ps texts only)
    → (run : Run (marks_of ps texts only) (standing_as_read ps texts) log last) → AllOverAnywhere run
    → KeptByRun ps texts (marks_of ps texts only) last

-- In a program that is ready and well typed, each of whose packages has a file and whose marks are of constants that
-- are declared as names, each step of such a run writes its file.
abbrev pub RunsOverMarksAnywhereWrite : Type 0
RunsOverMarksAnywhereWrite =
    (marks : List MarkRef) (st last : Standing) (log : List Logged) → IsReady st → HaveFiles st.packages
    → WellTyped (packages_of st.packages []) → AllNamed st.packages marks → (run : Run marks st log last)
    → AllOverAnywhere run → AllWrite run

-- So such a run inlines such a module.
abbrev pub RunsOverMarksAnywhereInline : Type 0
RunsOverMarksAnywhereInline =
    (files : List Source) (ps : List (run.Package Span)) (texts : List (List ℕ × FileText)) (only : List ℕ)
    (last : Standing) (log : List Logged) → ModuleReads files ps texts
    → list_all (λ f. each is_byte f.path) files ≡ true → WellTyped (packages_of ps []) → UnspreadPackages ps
    → AllConstants ps (marks_of ps texts only)
    → (run : Run (marks_of ps texts only) (standing_as_read ps texts) log last) → AllOverAnywhere run
    → IsInlinedModule files ps texts log last.texts (packages_with here_of last.packages)
