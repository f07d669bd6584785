-- The laws of runs over marked constants and aliases. Each is the contract of a function of this crate (Go
-- specification, Constant declarations; Alias declarations; Program initialization and execution).
use Rattle.std.specs.Prelude.{◌≡◌, true, false, ℕ, List, []}
use Rattle.std.specs.List.{list_all}
use Rattle.go_tree.specs.declared.spans.Span.{Span}
use Rattle.go_tree.specs.GoWords.Tokens.Characters.{each}
use Rattle.splice_laws.specs.ImportSplices.AddedFile.{is_byte}
use Rattle.pkg_graph.specs.Package as run
use Rattle.pkg_graph.specs.Reads.{Source}
use Rattle.order_runs.specs.CycleRuns.Linked.{SettlesFile}
use Rattle.go_translation.specs.SameMeaning.{WellTyped}
use Rattle.run_rules.specs.Cycles.{is_recursive}
use Rattle.run_rules.specs.Sites.{MarkRef}
use Rattle.run_rules.specs.Steps.{At}
use Rattle.run_rules.specs.Texts.{FileText}
use Rattle.run_rules.specs.Run.{Standing, Logged, Next, Run}
use Rattle.run_rules.specs.Inlining.{ModuleReads, standing_as_read}
use Rattle.order_runs.specs.RunSteps.RunPackages.{packages_of}
use Rattle.printed_constants.specs.TypedParts.MarkedRuns.SettledConstants.Programs.{IsReady}
use Rattle.printed_constants.specs.TypedParts.MarkedRuns.TakenNames.Laws.{KeptByRun}
use Rattle.constant_steps.specs.WrittenLiteral.UnspreadForms.UnspreadForms.{UnspreadPackages}
use Rattle.taken_aliases.specs.MixedRuns.Marked.{NoFunctions, IsOverAlias, AllOverEither}

-- A step over an alias settles its file in a program that is ready.
abbrev pub AliasesSettle : Type 0
AliasesSettle =
    (marks : List MarkRef) (st : Standing) (l : Logged) (after : Standing) (n : Next marks st l after) → IsReady st
    → IsOverAlias n → SettlesFile n

-- Where no mark is of a function, no marked function lies on a cycle.
abbrev pub MarksOfNoFunctionsLieOnNoCycle : Type 0
MarksOfNoFunctionsLieOnNoCycle =
    (ps : List (run.Package At)) (marks : List MarkRef) → NoFunctions ps marks → (m : MarkRef)
    → is_recursive ps marks m ≡ false

-- None is of a function after a step, whatever its form.
abbrev pub StepsKeepNoFunctions : Type 0
StepsKeepNoFunctions =
    (marks : List MarkRef) (st : Standing) (l : Logged) (after : Standing) → Next marks st l after
    → NoFunctions st.packages marks → NoFunctions after.packages marks

-- A run of such steps from a module that reads, the paths of whose files are octets, that is well typed, in which no
-- call hands on a slice, and none of whose marks is of a function, keeps typing, which marked functions lie on a cycle,
-- and the meaning.
abbrev pub RunsOverNamesKeep : Type 0
RunsOverNamesKeep =
    (files : List Source) (ps : List (run.Package Span)) (texts : List (List ℕ × FileText)) (marks : List MarkRef)
    (last : Standing) (log : List Logged) → ModuleReads files ps texts
    → list_all (λ f. each is_byte f.path) files ≡ true → WellTyped (packages_of ps []) → UnspreadPackages ps
    → NoFunctions (standing_as_read ps texts).packages marks
    → (run : Run marks (standing_as_read ps texts) log last) → AllOverEither run → KeptByRun ps texts marks last
