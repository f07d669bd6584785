-- The laws of modules that read. Each is the contract of a function of this crate (Go specification, Packages; Package
-- clause; Import declarations; Passing arguments to ... parameters).
use Rattle.std.specs.Prelude.{◌≡◌, true, ℕ, List, []}
use Rattle.std.specs.List.{list_all}
use Rattle.go_tree.specs.declared.spans.Span.{Span}
use Rattle.go_tree.specs.GoWords.Tokens.Characters.{each}
use Rattle.splice_laws.specs.ImportSplices.AddedFile.{is_byte}
use Rattle.pkg_graph.specs.Package.{Package}
use Rattle.pkg_graph.specs.Reads.{Source}
use Rattle.go_translation.specs.SameMeaning.{WellTyped}
use Rattle.run_rules.specs.Texts.{FileText}
use Rattle.run_rules.specs.Inlining.{ModuleReads, standing_as_read}
use Rattle.order_runs.specs.RunSteps.RunPackages.{packages_of}
use Rattle.printed_constants.specs.TypedParts.MarkedRuns.SettledConstants.Programs.{IsReady}
use Rattle.constant_steps.specs.WrittenLiteral.UnspreadForms.UnspreadForms.{UnspreadPackages}

-- A module that reads is ready, where the paths of its files are octets, its packages are well typed, and no call hands
-- on a slice for its last arguments.
abbrev pub ReadModulesAreReady : Type 0
ReadModulesAreReady =
    (files : List Source) (ps : List (Package Span)) (texts : List (List ℕ × FileText)) → ModuleReads files ps texts
    → list_all (λ f. each is_byte f.path) files ≡ true → WellTyped (packages_of ps []) → UnspreadPackages ps
    → IsReady (standing_as_read ps texts)

-- Its packages are well typed with the places of a run too.
abbrev pub ReadModulesAreTyped : Type 0
ReadModulesAreTyped =
    (ps : List (Package Span)) (texts : List (List ℕ × FileText)) → WellTyped (packages_of ps [])
    → WellTyped (packages_of (standing_as_read ps texts).packages [])
