-- The laws of steps over constants and right tables of declared types. Each is the contract of a function of this crate
-- (Go specification, Type declarations; Constant declarations).
use Rattle.std.specs.Prelude.{List, []}
use Rattle.go_translation.specs.SameMeaning.{WellTyped}
use Rattle.run_rules.specs.Programs.{world}
use Rattle.run_rules.specs.Sites.{MarkRef}
use Rattle.run_rules.specs.Run.{Standing, Logged, Next, Run}
use Rattle.order_runs.specs.RunSteps.RunPackages.{packages_of}
use Rattle.printed_constants.specs.TypedParts.MarkedRuns.TakenNames.Taken.{TakesName, EachTakes}
use Rattle.repeated_parts.specs.declared.literal_types.table.LiteralTypes.{LiteralTypes}
use Rattle.literal_tables.specs.HasTypes.{HasTypes}

-- In well-typed packages a step over a constant that is declared as a name keeps a right table right.
abbrev pub StepsKeepTables : Type 0
StepsKeepTables =
    (marks : List MarkRef) (st : Standing) (l : Logged) (after : Standing) (n : Next marks st l after)
    (t : LiteralTypes) → TakesName n → WellTyped (packages_of st.packages []) → HasTypes (world st.packages) t
    → HasTypes (world after.packages) t

-- So does a run of such steps.
abbrev pub RunsKeepTables : Type 0
RunsKeepTables =
    (marks : List MarkRef) (st last : Standing) (log : List Logged) (t : LiteralTypes) (run : Run marks st log last)
    → EachTakes run → WellTyped (packages_of st.packages []) → HasTypes (world st.packages) t
    → HasTypes (world last.packages) t
