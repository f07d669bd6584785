-- The laws of steps over constants in programs of any declarations, from what the programs are. Each is the contract of
-- a function of this crate (Go specification, Constant declarations; Qualified identifiers; Import declarations).
use Rattle.std.specs.Prelude.{◌≤◌, List, []}
use Rattle.go_translation.specs.SameMeaning.{WellTyped}
use Rattle.constant_steps.specs.FormImports.OwnNames.{AllOwn}
use Rattle.order_runs.specs.RunSteps.RunPackages.{packages_of}
use Rattle.printed_constants.specs.TypedParts.MarkedRuns.LinkedMembers.Laws.{HaveFiles}
use Rattle.printed_constants.specs.TypedParts.MarkedRuns.NamedMarks.Named.{AllNamed}
use Rattle.printed_constants.specs.TypedParts.MarkedRuns.SettledConstants.Programs.{IsReady}
use Rattle.run_rules.specs.Run.{Standing, Logged, Next, texts_size, the_limits}
use Rattle.run_rules.specs.Sites.{MarkRef}
use Rattle.constant_modules.specs.ApartKeys.Files.{KeysApart}
use Rattle.constant_modules.specs.ConstantNames.Members.{AllNameConstants}
use Rattle.constant_modules.specs.KeyedImports.Steps.{IsOverNameKeyed}
use Rattle.constant_modules.specs.NamedAnywhere.Marked.{StandsAnywhere}
use Rattle.constant_modules.specs.NamedAnywhere.Taken.{TakesNameAnywhere}
use Rattle.constant_modules.specs.NamedThere.There.{AllUntyped}

-- A program that is ready and well typed, whose packages have files and names of their own, whose texts are within the
-- limit of a run, whose marks are all of constants that are declared without a type as names of constants, and no import
-- of which has a name that is predeclared as a value and a key in its file: whatever else it declares.
pub record IsOfConstants (marks : List MarkRef) (st : Standing) : Type 0 where
  pub ready : IsReady st
  pub files : HaveFiles st.packages
  pub typed : WellTyped (packages_of st.packages [])
  pub own : AllOwn st.packages
  pub named : AllNamed st.packages marks
  pub constants : AllNameConstants st.packages marks
  pub untyped : AllUntyped st.packages marks
  pub apart : KeysApart st.packages
  pub small : texts_size st.texts ≤ the_limits.total

-- Each step in such a program takes its name as named_anywhere has it, and stands as that asks of runs over marked
-- constants.
abbrev pub ConstantStepsTakeNames : Type 0
ConstantStepsTakeNames =
    (marks : List MarkRef) (st : Standing) (l : Logged) (after : Standing) (n : Next marks st l after)
    → IsOfConstants marks st → TakesNameAnywhere n × (IsOverNameKeyed n × StandsAnywhere n)
