-- The laws of runs over marked constants. Each is the contract of a function of this crate (Go specification, Constant
-- declarations; Program initialization and execution).
use Rattle.std.specs.Prelude.{◌≡◌, true, false, ℕ, List, []}
use Rattle.std.specs.List.{list_all}
use Rattle.go_tree.specs.declared.spans.Span.{Span}
use Rattle.go_tree.specs.GoWords.Tokens.Characters.{each}
use Rattle.splice_laws.specs.ImportSplices.AddedFile.{is_byte}
use Rattle.pkg_graph.specs.Package as run
use Rattle.pkg_graph.specs.Reads.{Source}
use Rattle.go_translation.specs.SameMeaning.{WellTyped}
use Rattle.member_uses.specs.Laws.{AllConstants}
use Rattle.run_rules.specs.Cycles.{is_recursive}
use Rattle.run_rules.specs.Sites.{MarkRef}
use Rattle.run_rules.specs.Marks.{marks_of}
use Rattle.run_rules.specs.Steps.{At}
use Rattle.run_rules.specs.Texts.{FileText}
use Rattle.run_rules.specs.Run.{Standing, Logged, Run}
use Rattle.run_rules.specs.Inlining.{ModuleReads, standing_as_read}
use Rattle.order_runs.specs.RunSteps.RunPackages.{packages_of}
use Rattle.printed_constants.specs.TypedParts.MarkedRuns.NamedMarks.Named.{AllNamed}
use Rattle.printed_constants.specs.TypedParts.MarkedRuns.TakenNames.Laws.{KeptByRun}
use Rattle.constant_steps.specs.WrittenLiteral.UnspreadForms.UnspreadForms.{UnspreadPackages}
use Rattle.printed_constants.specs.TypedParts.MarkedRuns.Marked.{AllOverNames}

-- Where each mark is that of a constant, no marked function lies on a cycle.
abbrev pub NamedMarksLieOnNoCycle : Type 0
NamedMarksLieOnNoCycle =
    (ps : List (run.Package At)) (marks : List MarkRef) → AllNamed ps marks → (m : MarkRef)
    → is_recursive ps marks m ≡ false

-- A run of such steps from a module that reads, is well typed, and whose marks are all of constants, keeps typing,
-- which marked functions lie on a cycle, and the meaning.
abbrev pub RunsOverMarksKeep : Type 0
RunsOverMarksKeep =
    (files : List Source) (ps : List (run.Package Span)) (texts : List (List ℕ × FileText)) (only : List ℕ)
    (last : Standing) (log : List Logged) → ModuleReads files ps texts
    → list_all (λ f. each is_byte f.path) files ≡ true → WellTyped (packages_of ps []) → UnspreadPackages ps
    → AllConstants ps (marks_of ps texts only)
    → (run : Run (marks_of ps texts only) (standing_as_read ps texts) log last) → AllOverNames run
    → KeptByRun ps texts (marks_of ps texts only) last
