-- The laws of imports and of keys of composite literals. Each is the contract of a function of this crate (Go
-- specification, Composite literals; Import declarations; Declarations and scope; Types).
use Rattle.std.specs.Prelude.{◌≡◌, ◌⊎◌, ℕ, true, List, []}
use Rattle.go_tree.specs.declared.spans.Span.{Span}
use Rattle.go_tree.specs.Tree.{Expr, plain}
use Rattle.go_tree.specs.File.{Decl, File}
use Rattle.go_tree.specs.GoTypes.Agreement.{In}
use Rattle.go_tree.specs.GoTypes.Literals.{field_key}
use Rattle.go_translation.specs.SameMeaning.{WellTyped}
use Rattle.order_runs.specs.CycleRuns.OrderCycles.NewNames.{AvoidsFew}
use Rattle.order_runs.specs.CycleRuns.Linked.{WritesFile}
use Rattle.order_runs.specs.RunSteps.RunPackages.{packages_of}
use Rattle.pkg_graph.specs.Package.{Package}
use Rattle.printed_constants.specs.TypedParts.MarkedRuns.LinkedMembers.Laws.{HaveFiles}
use Rattle.printed_constants.specs.TypedParts.MarkedRuns.SettledConstants.Programs.{IsReady}
use Rattle.run_rules.specs.FormTrees.{as_expr}
use Rattle.run_rules.specs.Inlining.{standing_as_read}
use Rattle.run_rules.specs.Run.{Standing, Logged, Next}
use Rattle.run_rules.specs.Sites.{MarkRef}
use Rattle.run_rules.specs.Texts.{FileText}
use Rattle.run_rules.specs.Steps.{At, same_here, changes_for, new_decl}
use Rattle.constant_modules.specs.ApartKeys.Files.{keys_are_apart, KeysApart}
use Rattle.constant_modules.specs.ApartKeys.Keys.{named_key, expr_keys, decl_keys}
use Rattle.constant_modules.specs.KeyedImports.Steps.{RemovesNoValueKey}
use Rattle.constant_modules.specs.NamedAnywhere.Marked.{StandsNamedThere}
use Rattle.constant_modules.specs.NamedAnywhere.Puts.{AddsImports, PutsNameThere}

-- Keys that are predeclared as values are apart from imports where each file is found to be so,
abbrev pub FoundKeysAreApart : Type 0
FoundKeysAreApart = (ps : List (Package At)) → keys_are_apart ps ≡ true → KeysApart ps

-- and there alone.
abbrev pub ApartKeysAreFound : Type 0
ApartKeysAreFound = (ps : List (Package At)) → KeysApart ps → keys_are_apart ps ≡ true

-- It needs no spans: so it is of a module as read where it is found of its files.
abbrev pub FilesKeepKeysApart : Type 0
FilesKeepKeysApart =
    (ps : List (Package Span)) (texts : List (List ℕ × FileText)) → keys_are_apart ps ≡ true
    → KeysApart (standing_as_read ps texts).packages

-- A key of a declaration with an expression without keys in the place of a use is one that it had, or is that
-- expression, where it is an identifier.
abbrev pub FormsAddOneKey : Type 0
FormsAddOneKey =
    (z : At) (e : Expr At) → expr_keys e ≡ [] → (ps : List (Package At)) (k : ℕ) (p : Package At) (file : File At)
    (d : Decl At) (m : List ℕ)
    → In m (decl_keys (new_decl same_here ps (changes_for same_here z (as_expr e)) k p file d))
    → In m (decl_keys d) ⊎ In m (named_key (field_key (plain e)))

-- ---- steps

-- In a program that is ready and well typed, each of whose packages has a file, a step over a marked constant puts its
-- name, where it adds imports as is asked: nothing is asked of those that go.
abbrev pub StepsPutNames : Type 0
StepsPutNames =
    (marks : List MarkRef) (st : Standing) (l : Logged) (after : Standing) (n : Next marks st l after) → IsReady st
    → HaveFiles st.packages → WellTyped (packages_of st.packages []) → AvoidsFew st.packages n.found → AddsImports n
    → StandsNamedThere n → PutsNameThere n

-- No import that goes after such a step has the name of a key that is predeclared as a value, where keys are apart from
-- imports before it.
abbrev pub StepsRemoveNoValueKeys : Type 0
StepsRemoveNoValueKeys =
    (marks : List MarkRef) (st : Standing) (l : Logged) (after : Standing) (n : Next marks st l after) → IsReady st
    → PutsNameThere n → KeysApart st.packages → RemovesNoValueKey n

-- And keys are apart from imports after it, if it writes its file.
abbrev pub StepsKeepKeysApart : Type 0
StepsKeepKeysApart =
    (marks : List MarkRef) (st : Standing) (l : Logged) (after : Standing) (n : Next marks st l after) → IsReady st
    → PutsNameThere n → WritesFile n → KeysApart st.packages → KeysApart after.packages
