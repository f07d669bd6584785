-- The law of runs over constants, in modules of constants and of functions that print them. It is the contract of a
-- function of this crate (Go specification, Constant declarations; Qualified identifiers; Import declarations; Program
-- initialization and execution).
use Rattle.std.specs.Prelude.{◌≡◌, ◌≤◌, true, ℕ, List, []}
use Rattle.std.specs.List.{list_all}
use Rattle.go_tree.specs.declared.spans.Span.{Span}
use Rattle.go_tree.specs.GoWords.Tokens.Characters.{each}
use Rattle.splice_laws.specs.ImportSplices.AddedFile.{is_byte}
use Rattle.pkg_graph.specs.Package.{Package}
use Rattle.pkg_graph.specs.Reads.{Source}
use Rattle.go_translation.specs.SameMeaning.{WellTyped}
use Rattle.member_uses.specs.Laws.{AllConstants}
use Rattle.run_rules.specs.Inlining.{ModuleReads, standing_as_read, Reaches, IsInlining}
use Rattle.run_rules.specs.Marks.{marks_of}
use Rattle.run_rules.specs.Run.{Standing, Logged, Run, ends, goes_on, texts_size, the_limits}
use Rattle.run_rules.specs.Sites.{MarkRef}
use Rattle.run_rules.specs.Texts.{FileText}
use Rattle.order_runs.specs.RunSteps.RunPackages.{packages_of}
use Rattle.printed_constants.specs.TypedParts.MarkedRuns.TakenNames.Laws.{KeptByRun}
use Rattle.printed_constants.specs.NamedUses.Names.{AllConstantsNames}
use Rattle.run_rules.specs.Printed.{ArePrinted}

-- The texts after each step are within the limit of a run.
abbrev pub StaysWithin : {marks : List MarkRef} {st last : Standing} {log : List Logged} → Run marks st log last
    → Type 0
StaysWithin (ends st over) = Unit {0}
StaysWithin (goes_on st next last l log n run) = (texts_size next.texts ≤ the_limits.total) × StaysWithin run

-- So it is where no step passes a limit.
abbrev pub RunsStayWithin : Type 0
RunsStayWithin =
    (files : List Source) (marks : List MarkRef) (st last : Standing) (done log : List Logged)
    → (run : Run marks st log last) → Reaches marks the_limits files done st log last → StaysWithin run

-- Such a run from a module that reads, the paths of whose files are octets, that is well typed, within the limit, of
-- constants and of functions that print them, and whose marks are all of constants that are declared as names of
-- constants, keeps typing, which marked functions lie on a cycle, and the meaning. Nothing is asked of its steps but
-- the limit.
abbrev pub PrintedRunsKeep : Type 0
PrintedRunsKeep =
    (files : List Source) (ps : List (Package Span)) (texts : List (List ℕ × FileText)) (only : List ℕ)
    (last : Standing) (log : List Logged) → ModuleReads files ps texts
    → list_all (λ f. each is_byte f.path) files ≡ true → WellTyped (packages_of ps []) → ArePrinted ps
    → AllConstants ps (marks_of ps texts only)
    → AllConstantsNames (standing_as_read ps texts).packages (marks_of ps texts only)
    → texts_size texts ≤ the_limits.total
    → (run : Run (marks_of ps texts only) (standing_as_read ps texts) log last) → StaysWithin run
    → KeptByRun ps texts (marks_of ps texts only) last

-- So does the inlining of such a module, of whose steps nothing is asked.
abbrev pub PrintedInliningsKeep : Type 0
PrintedInliningsKeep =
    (files : List Source) (ps : List (Package Span)) (texts : List (List ℕ × FileText)) (only : List ℕ)
    (after : List (List ℕ × FileText)) (report : List ℕ) (i : IsInlining the_limits files ps texts only after report)
    → list_all (λ f. each is_byte f.path) files ≡ true → WellTyped (packages_of ps []) → ArePrinted ps
    → AllConstants ps (marks_of ps texts only)
    → AllConstantsNames (standing_as_read ps texts).packages (marks_of ps texts only)
    → texts_size texts ≤ the_limits.total
    → KeptByRun ps texts (marks_of ps texts only) i.last
