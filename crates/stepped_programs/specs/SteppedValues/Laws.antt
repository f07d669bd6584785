-- The law of marked constants after a step. It is the contract of a function of this crate (Go specification, Constant
-- declarations; Import declarations; Declarations and scope).
use Rattle.std.specs.Prelude.{◌≡◌, false, List, []}
use Rattle.go_translation.specs.SameMeaning.{WellTyped}
use Rattle.order_runs.specs.RunSteps.RunPackages.{packages_of}
use Rattle.run_rules.specs.Run.{Standing, Logged, Next}
use Rattle.run_rules.specs.Sites.{MarkRef}
use Rattle.repeated_parts.specs.UseSearch.MarkValues.Tables.{DeclKey, Known, same_key, values_at}
use Rattle.constant_modules.specs.KeyedImports.Steps.{IsOverNameKeyed}
use Rattle.printed_constants.specs.TypedParts.MarkedRuns.NamedMarks.Named.{AllNamed}
use Rattle.printed_constants.specs.TypedParts.MarkedRuns.SettledConstants.Programs.{IsReady}
use Rattle.programs.specs.Programs.{TellsValues}
use Rattle.stepped_programs.specs.SearchedSites.SettledFiles.Left.{TellOthersTheSame}
use Rattle.stepped_programs.specs.SteppedValues.OfSteps.{is_of_step, decl_of_step}

-- In programs that are ready and typed, whose marks are those of constants that are declared as names, two tables that
-- tell what these are declared as, before a step and after it, tell the same of all but those in the declaration of the
-- use, if they have the same of other files.
abbrev pub MarkedValuesStay : Type 0
MarkedValuesStay =
    (marks : List MarkRef) (st : Standing) (l : Logged) (after : Standing) (n : Next marks st l after)
    (old new : Known) → IsReady st → IsReady after → WellTyped (packages_of st.packages [])
    → WellTyped (packages_of after.packages []) → AllNamed st.packages marks → IsOverNameKeyed n
    → TellsValues marks st.packages old → TellsValues marks after.packages new
    → ((q : DeclKey) → is_of_step n.found q ≡ false → values_at q new ≡ values_at q old)
    → TellOthersTheSame marks (same_key (decl_of_step n.found)) old new
