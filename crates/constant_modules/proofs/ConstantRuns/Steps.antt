-- A step in a program of constants leaves a program of constants.
use Rattle.std.proofs.Common.{[]}
use Rattle.go_translation.specs.SameMeaning.{WellTyped}
use Rattle.order_runs.specs.CycleRuns.Linked.{WritesFile}
use Rattle.order_runs.specs.RunSteps.RunPackages.{packages_of}
use Rattle.printed_constants.specs.DeclaredConstants.Predeclared.{NoneArePredeclared}
use Rattle.printed_constants.specs.TypedParts.MarkedRuns.LinkedMembers.Laws.{HaveFiles, StepsKeepFiles}
use Rattle.printed_constants.specs.TypedParts.MarkedRuns.NamedMarks.Named.{AllNamed}
use Rattle.printed_constants.specs.TypedParts.MarkedRuns.SettledConstants.Programs.{IsReady}
use Rattle.printed_constants.proofs.PrintedRuns.Runs.{own_after}
use Rattle.constant_modules.specs.ApartKeys.Laws.{StepsKeepKeysApart}
use Rattle.constant_modules.specs.ConstantNames.Laws.{MarkedConstantsNameConstants}
use Rattle.constant_modules.specs.ConstantRuns.Laws.{StepsLeaveNoPredeclared, StepsStayOfConstants}
use Rattle.constant_modules.specs.KeyedImports.StepLaws.{KeyedStepsWrite, KeyedStepsKeepNamed}
use Rattle.constant_modules.specs.KeyedImports.Steps.{IsOverNameKeyed}
use Rattle.constant_modules.specs.NamedAnywhere.Marked.{StandsAnywhere}
use Rattle.constant_modules.specs.NamedAnywhere.MarkedLaws.{StepsAnywhereStayReady}
use Rattle.constant_modules.specs.NamedAnywhere.Taken.{TakesNameAnywhere}
use Rattle.constant_modules.specs.NamedThere.Laws.{StepsStayUntyped}
use Rattle.constant_modules.specs.NamedThere.Steps.{ConstantStepsTakeNames}
use Rattle.constant_modules.proofs.NamedAnywhere.Puts.{puts_of}

pub steps_stay : ConstantStepsTakeNames → KeyedStepsWrite → StepsAnywhereStayReady → KeyedStepsKeepNamed → StepsKeepFiles → StepsKeepKeysApart → MarkedConstantsNameConstants → StepsLeaveNoPredeclared → StepsStayUntyped → StepsStayOfConstants
steps_stay take write step keep have apart names none untyped marks st l after n is small =
    let t : TakesNameAnywhere n × (IsOverNameKeyed n × StandsAnywhere n) = take marks st l after n is in
    let write_so : WritesFile n = (write marks st l after n is.ready is.named t.1.0).0 in
    let r : IsReady after × WellTyped (packages_of after.packages []) = step marks st l after n is.ready is.typed write_so t.0 in
    let files : HaveFiles after.packages = have marks st l after n is.files in
    let named : AllNamed after.packages marks = keep marks st l after n is.ready is.named t.1.0 in
    let free : NoneArePredeclared after.packages marks = none marks st l after n t.0.there is.named is.constants in
    record {
      ready = r.0;
      files = files;
      typed = r.1;
      own = own_after marks st l after n is.own;
      named = named;
      constants = names after.packages marks r.0.links.ordered files r.1 named free;
      untyped = untyped marks st l after n is.untyped;
      apart = apart marks st l after n is.ready (puts_of marks st l after n t.0.there) write_so is.apart;
      small = small;
    }
