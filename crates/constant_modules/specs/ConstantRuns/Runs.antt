-- The laws of runs over constants, in modules of any declarations. Each is the contract of a function of this
-- crate (Go specification, Constant declarations; Import declarations; Packages; Program initialization and execution).
use Rattle.std.specs.Prelude.{◌≡◌, ◌≤◌, true, ℕ, List, []}
use Rattle.std.specs.List.{list_all}
use Rattle.go_tree.specs.declared.spans.Span.{Span}
use Rattle.go_tree.specs.GoWords.Tokens.Characters.{each}
use Rattle.go_translation.specs.SameMeaning.{WellTyped}
use Rattle.pkg_graph.specs.Package.{Package}
use Rattle.pkg_graph.specs.Reads.{Source}
use Rattle.splice_laws.specs.ImportSplices.AddedFile.{is_byte}
use Rattle.constant_steps.specs.WrittenLiteral.UnspreadForms.UnspreadForms.{UnspreadPackages}
use Rattle.member_uses.specs.Laws.{AllConstants}
use Rattle.order_runs.specs.RunSteps.RunPackages.{packages_of}
use Rattle.printed_constants.specs.InlinedFiles.InlinedModules.Modules.{IsInlinedModule}
use Rattle.printed_constants.specs.PrintedRuns.Laws.{StaysWithin}
use Rattle.printed_constants.specs.TypedParts.MarkedRuns.TakenNames.Laws.{KeptByRun}
use Rattle.run_rules.specs.Inlining.{IsInlining}
use Rattle.run_rules.specs.Marks.{marks_of}
use Rattle.run_rules.specs.Respanned.{packages_with}
use Rattle.run_rules.specs.Run.{Standing, Logged, Run, here_of, texts_size, the_limits}
use Rattle.run_rules.specs.Sites.{MarkRef}
use Rattle.run_rules.specs.Texts.{FileText}
use Rattle.constant_modules.specs.ApartKeys.Files.{keys_are_apart}
use Rattle.constant_modules.specs.NamedAnywhere.Marked.{AllOverAnywhere}
use Rattle.constant_modules.specs.NamedThere.Steps.{IsOfConstants}

-- From a program of constants each step of a run, whose texts stay within the limit, is over a marked constant and
-- stands as named_anywhere asks.
abbrev pub ConstantRunsAreOver : Type 0
ConstantRunsAreOver =
    (marks : List MarkRef) (st last : Standing) (log : List Logged) → IsOfConstants marks st
    → (run : Run marks st log last) → StaysWithin run → AllOverAnywhere run

-- So the inlining of a module of constants, none of whose imports has a name that is predeclared as a value and a key
-- in its file, keeps typing, which marked functions lie on a cycle, and the meaning: of its steps nothing is asked.
abbrev pub ConstantInliningsKeep : Type 0
ConstantInliningsKeep =
    (files : List Source) (ps : List (Package Span)) (texts : List (List ℕ × FileText)) (only : List ℕ)
    (after : List (List ℕ × FileText)) (report : List ℕ)
    (i : IsInlining the_limits files ps texts only after report)
    → list_all (λ f. each is_byte f.path) files ≡ true → WellTyped (packages_of ps []) → UnspreadPackages ps
    → keys_are_apart ps ≡ true → AllConstants ps (marks_of ps texts only)
    → texts_size texts ≤ the_limits.total → KeptByRun ps texts (marks_of ps texts only) i.last

-- And it leaves files that read as a module, which is well typed and means what it meant.
abbrev pub ConstantModulesAreInlined : Type 0
ConstantModulesAreInlined =
    (files : List Source) (ps : List (Package Span)) (texts : List (List ℕ × FileText)) (only : List ℕ)
    (after : List (List ℕ × FileText)) (report : List ℕ)
    (i : IsInlining the_limits files ps texts only after report)
    → list_all (λ f. each is_byte f.path) files ≡ true → WellTyped (packages_of ps []) → UnspreadPackages ps
    → keys_are_apart ps ≡ true → AllConstants ps (marks_of ps texts only)
    → texts_size texts ≤ the_limits.total
    → IsInlinedModule files ps texts i.log after (packages_with here_of i.last.packages)
