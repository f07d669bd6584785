-- The laws of programs of constants (named_there's `IsOfConstants`), as read and after a step. Each is the contract of
-- a function of this crate (Go specification, Constant declarations; Packages; Import declarations; Predeclared
-- identifiers; the limits are this project's own).
use Rattle.std.specs.Prelude.{◌≡◌, ◌≤◌, true, ℕ, List, []}
use Rattle.std.specs.List.{list_all}
use Rattle.go_tree.specs.declared.spans.Span.{Span}
use Rattle.go_tree.specs.GoWords.Tokens.Characters.{each}
use Rattle.go_translation.specs.SameMeaning.{WellTyped}
use Rattle.pkg_graph.specs.Package.{Package}
use Rattle.pkg_graph.specs.Reads.{Source}
use Rattle.splice_laws.specs.ImportSplices.AddedFile.{is_byte}
use Rattle.constant_steps.specs.WrittenLiteral.UnspreadForms.UnspreadForms.{UnspreadPackages}
use Rattle.member_uses.specs.Laws.{AllConstants}
use Rattle.order_runs.specs.RunSteps.RunPackages.{packages_of}
use Rattle.printed_constants.specs.DeclaredConstants.Predeclared.{NoneArePredeclared}
use Rattle.printed_constants.specs.TypedParts.MarkedRuns.NamedMarks.Named.{AllNamed}
use Rattle.run_rules.specs.Inlining.{ModuleReads, standing_as_read}
use Rattle.run_rules.specs.Marks.{marks_of}
use Rattle.run_rules.specs.Run.{Standing, Logged, Next, texts_size, the_limits}
use Rattle.run_rules.specs.Sites.{MarkRef}
use Rattle.run_rules.specs.Texts.{FileText}
use Rattle.constant_modules.specs.ApartKeys.Files.{keys_are_apart}
use Rattle.constant_modules.specs.ConstantNames.Members.{AllNameConstants}
use Rattle.constant_modules.specs.NamedAnywhere.Taken.{TakesNameThere}
use Rattle.constant_modules.specs.NamedThere.Steps.{IsOfConstants}
use Rattle.constant_modules.specs.NamedThere.There.{AllUntyped}

-- ---- types of marked constants

-- In a module that reads no type is written for a marked constant, whatever else the module declares and whichever names
-- share its spec: the mark of a constant with a type is a bad one.
abbrev pub ReadConstantsHaveNoTypes : Type 0
ReadConstantsHaveNoTypes =
    (files : List Source) (ps : List (Package Span)) (texts : List (List ℕ × FileText)) (only : List ℕ)
    → ModuleReads files ps texts → AllUntyped (standing_as_read ps texts).packages (marks_of ps texts only)

-- ---- programs of constants

-- A module that reads is such a program, where the paths of its files are octets, it is well typed, no call hands on a
-- slice, no import has a name that is predeclared as a value and a key in its file, all its marks are of constants,
-- and its texts are within the limit of a run.
abbrev pub ReadModulesAreOfConstants : Type 0
ReadModulesAreOfConstants =
    (files : List Source) (ps : List (Package Span)) (texts : List (List ℕ × FileText)) (only : List ℕ)
    → ModuleReads files ps texts → list_all (λ f. each is_byte f.path) files ≡ true → WellTyped (packages_of ps [])
    → UnspreadPackages ps → keys_are_apart ps ≡ true → AllConstants ps (marks_of ps texts only)
    → texts_size texts ≤ the_limits.total → IsOfConstants (marks_of ps texts only) (standing_as_read ps texts)

-- After a step that takes its name no marked constant is declared as a predeclared name, if each was declared as a name
-- of a constant before it.
abbrev pub StepsLeaveNoPredeclared : Type 0
StepsLeaveNoPredeclared =
    (marks : List MarkRef) (st : Standing) (l : Logged) (after : Standing) (n : Next marks st l after)
    → TakesNameThere n → AllNamed st.packages marks → AllNameConstants st.packages marks
    → NoneArePredeclared after.packages marks

-- So a step in a program of constants leaves such a program, if the texts after it are within the limit of a run.
abbrev pub StepsStayOfConstants : Type 0
StepsStayOfConstants =
    (marks : List MarkRef) (st : Standing) (l : Logged) (after : Standing) (n : Next marks st l after)
    → IsOfConstants marks st → texts_size after.texts ≤ the_limits.total → IsOfConstants marks after
