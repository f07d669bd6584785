-- The laws of the imports of a program after a step over a constant. Each is the contract of a function of this crate
-- (Go specification, Import declarations; Constant declarations; Declarations and scope).
use Rattle.std.specs.Prelude.{◌≡◌, ◌≤◌, true, List, []}
use Rattle.go_tree.specs.Tree.{Expr}
use Rattle.go_translation.specs.Packages as translated
use Rattle.go_translation.specs.SameMeaning.{WellTyped, with_further}
use Rattle.constant_steps.specs.FormImports.Laws.{LiteralsStand}
use Rattle.order_runs.specs.CycleRuns.Linked.{WritesFile}
use Rattle.order_runs.specs.CycleRuns.OrderCycles.NewNames.{AvoidsFew}
use Rattle.order_runs.specs.RunSteps.RunPackages.{members_of, packages_of}
use Rattle.printed_constants.specs.TypedParts.MarkedRuns.LinkedMembers.Laws.{HaveFiles, ImportsUsed}
use Rattle.printed_constants.specs.TypedParts.MarkedRuns.NamedMarks.Named.{AllNamed}
use Rattle.printed_constants.specs.TypedParts.MarkedRuns.SettledConstants.Programs.{IsReady}
use Rattle.run_rules.specs.Programs.{linked}
use Rattle.run_rules.specs.Run.{Standing, Logged, Next, is_commented, texts_size, the_limits}
use Rattle.run_rules.specs.Sites.{MarkRef, an_expr}
use Rattle.run_rules.specs.Steps.{At, same_here, packages_between}
use Rattle.typed_in_place.specs.ImportRule.{declarations_ok}
use Rattle.constant_modules.specs.NamedAnywhere.Taken.{TakesNameThere, TakesNameAnywhere}

-- With the form of such a step in its place the declarations of the program are typed, whatever its files import.
abbrev pub DeclarationsAreTypedBetween : Type 0
DeclarationsAreTypedBetween =
    (marks : List MarkRef) (st : Standing) (l : Logged) (after : Standing) (n : Next marks st l after)
    → TakesNameThere n → WellTyped (packages_of st.packages [])
    → declarations_ok (linked (packages_between same_here (is_commented st) st.packages marks n.found)) ≡ true

-- So they are after the step, whose imports needn't be right.
abbrev pub DeclarationsStayTyped : Type 0
DeclarationsStayTyped =
    (marks : List MarkRef) (st : Standing) (l : Logged) (after : Standing) (n : Next marks st l after)
    → TakesNameThere n → WellTyped (packages_of st.packages []) → declarations_ok (linked after.packages) ≡ true

-- In the declaration of its use literals of functions have types, and with the form in its place keys of literals of
-- structs are names, as kept_uses asks.
abbrev pub LiteralsStandThere : Type 0
LiteralsStandThere =
    (marks : List MarkRef) (st : Standing) (l : Logged) (after : Standing) (n : Next marks st l after)
    → TakesNameThere n → WellTyped (packages_of st.packages []) → LiteralsStand marks st n.found

-- So in a ready, well-typed program whose texts are within the limit of a run each import is used as typing has it,
-- beside all further packages, after a step that writes its file, where few names are avoided.
abbrev pub ImportsStayUsed : Type 0
ImportsStayUsed =
    (marks : List MarkRef) (st : Standing) (l : Logged) (after : Standing) (n : Next marks st l after) (e : Expr At)
    → n.found.site.part ≡ an_expr e → IsReady st → HaveFiles st.packages → WellTyped (packages_of st.packages [])
    → AllNamed st.packages marks → texts_size st.texts ≤ the_limits.total → WritesFile n
    → AvoidsFew st.packages n.found → TakesNameThere n → (more : List (translated.Package At))
    → WellTyped (with_further (packages_of st.packages []) more) → ImportsUsed more (members_of after.packages)

-- So such a step takes its name as named_anywhere has it: that the imports are right at last isn't asked.
abbrev pub StepsTakeNames : Type 0
StepsTakeNames =
    (marks : List MarkRef) (st : Standing) (l : Logged) (after : Standing) (n : Next marks st l after) (e : Expr At)
    → n.found.site.part ≡ an_expr e → IsReady st → HaveFiles st.packages → WellTyped (packages_of st.packages [])
    → AllNamed st.packages marks → texts_size st.texts ≤ the_limits.total → WritesFile n
    → AvoidsFew st.packages n.found → TakesNameThere n → TakesNameAnywhere n
