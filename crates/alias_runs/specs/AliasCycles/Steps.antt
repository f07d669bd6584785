-- Steps of a run that keep the cycles of marked functions, over aliases and others (Go specification, Alias
-- declarations; Calls).
use Rattle.std.specs.Prelude.{◌≡◌, true, List}
use Rattle.go_tree.specs.Tree.{TypeExpr, Expr}
use Rattle.go_translation.specs.Packages.{are_well_typed}
use Rattle.run_rules.specs.FormTrees.{type_expr}
use Rattle.run_rules.specs.Run.{Standing, Logged, Next, Run, ends, goes_on, is_commented}
use Rattle.run_rules.specs.Sites.{MarkRef, part_span}
use Rattle.run_rules.specs.Steps.{At, same_here}
use Rattle.order_runs.specs.RunSteps.RunPackages.{members_of}
use Rattle.order_runs.specs.CycleLaws.ConstantCycles.Laws.{NamesFor, TypesFor}
use Rattle.order_runs.specs.CycleRuns.ImportCycles.ImportSteps.{packages_added}
use Rattle.order_runs.specs.CycleRuns.OrderCycles.Steps.{site_added, GivesWayAdded}
use Rattle.alias_runs.specs.QualifiedAliases.AliasUse.{text_there}
use Rattle.alias_runs.specs.CalledAliases.CalledUse.{IsPlaced, as_written, as_called}
use Rattle.alias_runs.specs.AliasNext.{IsImportingAlias}

-- the type that a step over an alias puts
abbrev pub alias_text : {marks : List MarkRef} {st : Standing} {l : Logged} {after : Standing}
    → (n : Next marks st l after) → IsImportingAlias n → TypeExpr At
alias_text {marks = marks} {st = st} n h =
    text_there same_here (is_commented st) (packages_added st.packages n.found) marks (site_added n.found) h.use_

-- the same as an expression
abbrev pub alias_expr : {marks : List MarkRef} {st : Standing} {l : Logged} {after : Standing}
    → (n : Next marks st l after) → IsImportingAlias n → Expr At
alias_expr n h = type_expr (part_span (site_added n.found).part) (alias_text n h)

-- The constants that statements of the declaration of the use declare call nothing, before the form is put and after.
-- Where the use is a written type, literals of functions there have types; where it is an expression, it names no
-- function, nor does what is put.
abbrev pub CallsNothingBy : {marks : List MarkRef} {st : Standing} {l : Logged} {after : Standing}
    → (n : Next marks st l after) → (h : IsImportingAlias n) → IsPlaced same_here (is_commented st)
    (packages_added st.packages n.found) marks (site_added n.found) h.use_ h.stands → Type 0
CallsNothingBy {marks = marks} {st = st} n h (as_written t) =
    TypesFor (packages_added st.packages n.found) marks (site_added n.found) (alias_text n h)
CallsNothingBy {marks = marks} {st = st} n h (as_called t) =
    NamesFor (packages_added st.packages n.found) marks (site_added n.found) (alias_expr n h)

-- of the use that the step is over
abbrev pub AliasCallsNothing : {marks : List MarkRef} {st : Standing} {l : Logged} {after : Standing}
    → (n : Next marks st l after) → IsImportingAlias n → Type 0
AliasCallsNothing n h = CallsNothingBy n h h.placed

-- a step over an alias in well-typed packages, or one that gives way
pub data KeepsCycles {marks : List MarkRef} {st : Standing} {l : Logged} {after : Standing} (n : Next marks st l after)
    : Type 0 where
  over_an_alias :
      (h : IsImportingAlias n) → are_well_typed (members_of st.packages) ≡ true → AliasCallsNothing n h → KeepsCycles n
  gives_way : GivesWayAdded n → KeepsCycles n

-- so is each step of a run
abbrev pub EachKeepsCycles : {marks : List MarkRef} {st last : Standing} {log : List Logged}
    → Run marks st log last → Type 0
EachKeepsCycles (ends st over) = Unit {0}
EachKeepsCycles (goes_on st next last l log n run) = KeepsCycles n × EachKeepsCycles run
