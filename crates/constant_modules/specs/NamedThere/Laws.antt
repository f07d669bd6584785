-- The laws of uses with the imports of their forms added. Each is the contract of a function of this crate (Go
-- specification, Constant declarations; Iota; Qualified identifiers; Import declarations; Declarations and scope).
use Rattle.std.specs.Prelude.{◌≡◌, ℕ, List, [], Some, slice_get}
use Rattle.go_tree.specs.File.{Decl}
use Rattle.go_translation.specs.SameMeaning.{WellTyped}
use Rattle.constant_steps.specs.FormImports.OwnNames.{AllOwn}
use Rattle.order_runs.specs.CycleRuns.ImportCycles.ImportSteps.{packages_added, AddsNewNames}
use Rattle.order_runs.specs.CycleRuns.OrderCycles.NewNames.{AvoidsFew}
use Rattle.order_runs.specs.CycleRuns.OrderCycles.Orders.{AllOrdered}
use Rattle.order_runs.specs.RunSteps.RunPackages.{packages_of}
use Rattle.printed_constants.specs.TypedParts.MarkedRuns.Marked.{decl_there}
use Rattle.printed_constants.specs.TypedParts.MarkedRuns.NamedMarks.Named.{AllNamed}
use Rattle.printed_constants.specs.TypedParts.MarkedRuns.SettledConstants.Programs.{IsReady}
use Rattle.run_rules.specs.Programs.{decl_seen}
use Rattle.run_rules.specs.Run.{Standing, Logged, Next}
use Rattle.run_rules.specs.Sites.{MarkRef}
use Rattle.run_rules.specs.Steps.{At}
use Rattle.constant_modules.specs.ConstantNames.Members.{AllNameConstants}
use Rattle.constant_modules.specs.NamedAnywhere.Marked.{StandsNamedThere}
use Rattle.constant_modules.specs.NamedThere.Alike.{SameParts}
use Rattle.constant_modules.specs.NamedThere.There.{IsUsedThere, AllUntyped}

-- With the imports of a step added, which have new names and lead to no cycle of packages, the walk over a declaration
-- of its file lists the same parts, each at a place that stands alike, whatever is declared.
abbrev pub StepsListTheSame : Type 0
StepsListTheSame =
    (marks : List MarkRef) (st : Standing) (l : Logged) (after : Standing) (n : Next marks st l after)
    → AddsNewNames st.packages n.found → AllOrdered st.packages → AllOrdered (packages_added st.packages n.found)
    → (k : ℕ) (d : Decl At) → slice_get n.found.site.at.source.tree.decls k ≡ Some d
    → SameParts (decl_seen st.packages n.found.site.at.number n.found.site.at.of n.found.site.at.source.tree d)
    (decl_there n d)

-- In a ready, well-typed program whose packages have names of their own, and whose marks are of constants that are
-- declared without a type as names of constants, the use of a step that avoids few names is such a use with the imports
-- of its form added. Nothing is asked of what else is declared.
abbrev pub ConstantUsesAreThere : Type 0
ConstantUsesAreThere =
    (marks : List MarkRef) (st : Standing) (l : Logged) (after : Standing) (n : Next marks st l after) → IsReady st
    → WellTyped (packages_of st.packages []) → AllOwn st.packages → AllNamed st.packages marks
    → AllNameConstants st.packages marks → AllUntyped st.packages marks → AvoidsFew st.packages n.found
    → IsUsedThere n

-- So it stands as named_anywhere asks of runs over marked constants, but for its imports at last.
abbrev pub ConstantUsesStandThere : Type 0
ConstantUsesStandThere =
    (marks : List MarkRef) (st : Standing) (l : Logged) (after : Standing) (n : Next marks st l after) → IsReady st
    → WellTyped (packages_of st.packages []) → AllOwn st.packages → AllNamed st.packages marks
    → AllNameConstants st.packages marks → AllUntyped st.packages marks → AvoidsFew st.packages n.found
    → StandsNamedThere n

-- ---- what steps keep

-- After a step, over whatever it is, marked constants for which no type is written are so again.
abbrev pub StepsStayUntyped : Type 0
StepsStayUntyped =
    (marks : List MarkRef) (st : Standing) (l : Logged) (after : Standing) (n : Next marks st l after)
    → AllUntyped st.packages marks → AllUntyped after.packages marks
