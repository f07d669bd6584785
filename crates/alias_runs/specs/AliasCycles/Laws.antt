-- The laws of steps over aliases and the cycles of marked functions. Each is the contract of a function of this crate
-- (Go specification, Alias declarations; Calls; Import declarations; Program initialization).
use Rattle.std.specs.Prelude.{◌≡◌, true, List}
use Rattle.go_translation.specs.Packages.{are_well_typed}
use Rattle.run_rules.specs.Cycles.{is_recursive}
use Rattle.run_rules.specs.Run.{Standing, Logged, Next, Run}
use Rattle.run_rules.specs.Sites.{MarkRef}
use Rattle.order_runs.specs.RunSteps.RunPackages.{members_of}
use Rattle.order_runs.specs.CycleRuns.StepCycles.Steps.{StandsAtEnds}
use Rattle.order_runs.specs.CycleRuns.ImportCycles.ImportSteps.{packages_added}
use Rattle.order_runs.specs.CycleRuns.OrderCycles.Steps.{site_added, GivesWayAdded}
use Rattle.alias_runs.specs.AliasNext.{IsImportingAlias}
use Rattle.alias_runs.specs.AliasCycles.Steps.{AliasCallsNothing, EachKeepsCycles}

-- In packages that are well typed, with the imports of its form added, what such a step puts has the facts of the
-- alias, wherever the rounds of declarations end, before the step and with the form in the use's place.
abbrev pub AliasFormsStand : Type 0
AliasFormsStand =
    (marks : List MarkRef) (st : Standing) (l : Logged) (after : Standing) (n : Next marks st l after)
    (h : IsImportingAlias n) → are_well_typed (members_of st.packages) ≡ true →
    StandsAtEnds (packages_added st.packages n.found) (site_added n.found) n.found.form

-- So the step gives way: what it puts calls nothing, as what stood there.
abbrev pub AliasStepsGiveWay : Type 0
AliasStepsGiveWay =
    (marks : List MarkRef) (st : Standing) (l : Logged) (after : Standing) (n : Next marks st l after)
    (h : IsImportingAlias n) → are_well_typed (members_of st.packages) ≡ true → AliasCallsNothing n h →
    GivesWayAdded n

-- So it keeps which marked functions lie on a cycle.
abbrev pub AliasStepsKeepCycles : Type 0
AliasStepsKeepCycles =
    (marks : List MarkRef) (st : Standing) (l : Logged) (after : Standing) (n : Next marks st l after)
    (h : IsImportingAlias n) → are_well_typed (members_of st.packages) ≡ true → AliasCallsNothing n h →
    (m : MarkRef) → is_recursive st.packages marks m ≡ is_recursive after.packages marks m

-- So does a run of such steps and of others that give way.
abbrev pub RunsKeepCycles : Type 0
RunsKeepCycles =
    (marks : List MarkRef) (st last : Standing) (log : List Logged) (run : Run marks st log last) →
    EachKeepsCycles run → (m : MarkRef) → is_recursive st.packages marks m ≡ is_recursive last.packages marks m
