-- A step in a program of constants takes its name: what is asked of it is had of the program.
use Rattle.std.proofs.Common.{◌≡◌, List}
use Rattle.go_tree.specs.Tree.{Expr}
use Rattle.order_runs.specs.CycleRuns.Linked.{WritesFile}
use Rattle.order_runs.specs.CycleRuns.OrderCycles.NewNames.{AvoidsFew}
use Rattle.order_runs.specs.CycleRuns.OrderCycles.Orders.{AllOrdered}
use Rattle.order_runs.specs.CycleRuns.ImportCycles.ImportSteps.{packages_added}
use Rattle.order_runs.proofs.CycleRuns.OrderCycles.NamesAdded.{adds-new-names}
use Rattle.order_runs.proofs.CycleRuns.Runs.{linked-names, both-written}
use Rattle.printed_constants.specs.TypedParts.MarkedRuns.SettledConstants.Laws.{ConstantsWrite}
use Rattle.printed_constants.proofs.TypedParts.MarkedRuns.NamedMarks.Used.{named-used}
use Rattle.run_rules.specs.Run.{Standing, Logged, Next}
use Rattle.run_rules.specs.Sites.{MarkRef, an_expr}
use Rattle.run_rules.specs.Steps.{At}
use Rattle.constant_modules.specs.ApartKeys.Laws.{StepsPutNames, StepsRemoveNoValueKeys}
use Rattle.constant_modules.specs.CountedUses.Steps.{StepsTakeNames}
use Rattle.constant_modules.specs.FewNames.Laws.{SmallTextsTakeFewNames}
use Rattle.constant_modules.specs.KeyedImports.StepLaws.{StepsKeepUses}
use Rattle.constant_modules.specs.KeyedImports.Steps.{KeepsUses, KeepsImportUses, IsOverNameKeyed}
use Rattle.constant_modules.specs.NamedAnywhere.Marked.{StandsNamedThere, StandsAnywhere}
use Rattle.constant_modules.specs.NamedAnywhere.Puts.{AddsImports, PutsNameThere}
use Rattle.constant_modules.specs.NamedAnywhere.Taken.{TakesNameThere, TakesNameAnywhere}
use Rattle.constant_modules.specs.NamedThere.Laws.{ConstantUsesStandThere}
use Rattle.constant_modules.specs.NamedThere.Steps.{IsOfConstants, ConstantStepsTakeNames}
use Rattle.constant_modules.specs.TypedUses.Laws.{StepsUseExpressions, StepsAreOverNames}
use Rattle.constant_modules.proofs.NamedAnywhere.Puts.{takes_of}

module _ (use_them : StepsUseExpressions) (take_few : SmallTextsTakeFewNames) (write : ConstantsWrite) (stand : ConstantUsesStandThere) (put : StepsPutNames) (remove : StepsRemoveNoValueKeys) (keep : StepsKeepUses) (marks : List MarkRef) (st : Standing) (l : Logged) (after : Standing) (n : Next marks st l after)
    (is : IsOfConstants marks st) where
  used : (e : Expr At) × (n.found.site.part ≡ an_expr e)
  used = use_them marks st l after n is.ready is.typed is.named

  few : AvoidsFew st.packages n.found
  few = take_few marks st l after n used.0 used.1 is.ready.reads is.ready.paths is.named is.small

  writes : WritesFile n
  writes = write marks st l after n is.ready (named-used marks st l after n used.0 used.1 is.named) used.0 used.1 few

  ordered : AllOrdered (packages_added st.packages n.found) × AllOrdered after.packages
  ordered = both-written marks st l after n is.ready.links writes

  adds : AddsImports n
  adds = record { new_names = adds-new-names marks st l after n few (linked-names st.packages is.ready.links); ordered = is.ready.links.ordered; ordered_added = ordered.0 }

  stands : StandsNamedThere n
  stands = stand marks st l after n is.ready is.typed is.own is.named is.constants is.untyped few

  puts : PutsNameThere n
  puts = put marks st l after n is.ready is.files is.typed few adds stands

  kept : KeepsUses n
  kept = keep marks st l after n is.ready is.typed puts few writes (remove marks st l after n is.ready puts is.apart)

  names : KeepsImportUses n
  names = record { new_names = adds.new_names; kept = kept; ordered = adds.ordered; ordered_added = ordered.0; ordered_after = ordered.1 }

  -- it puts its name
  pub puts_name : PutsNameThere n
  puts_name = puts

  -- it takes its name, but for its imports at last
  pub there : TakesNameThere n
  there = takes_of marks st l after n puts names

  module _ (over_names : StepsAreOverNames) (take : StepsTakeNames) where
    over : IsOverNameKeyed n
    over = over_names marks st l after n is.ready is.typed is.own is.named few kept

    taken : TakesNameAnywhere n
    taken = take marks st l after n used.0 used.1 is.ready is.files is.typed is.named is.small writes few there

    stands_anywhere : StandsAnywhere n
    stands_anywhere = record { stands = stands; imports = taken.imports }

    pub all : TakesNameAnywhere n × (IsOverNameKeyed n × StandsAnywhere n)
    all = (taken, (over, stands_anywhere))

pub steps_take : StepsUseExpressions → SmallTextsTakeFewNames → ConstantsWrite → ConstantUsesStandThere → StepsPutNames → StepsRemoveNoValueKeys → StepsKeepUses → StepsAreOverNames → StepsTakeNames → ConstantStepsTakeNames
steps_take use_them take_few write stand put remove keep over_names take marks st l after n is = all use_them take_few write stand put remove keep marks st l after n is over_names take
