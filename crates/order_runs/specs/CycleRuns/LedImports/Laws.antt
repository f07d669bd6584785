-- The laws of what the imports are of that a step adds. Each is the contract of a function of this crate (Go
-- specification, Import declarations; Qualified identifiers).
use Rattle.std.specs.Prelude.{List}
use Rattle.run_rules.specs.Sites.{MarkRef}
use Rattle.run_rules.specs.Run.{Standing, Logged, Next}
use Rattle.order_runs.specs.CycleRuns.OrderCycles.Orders.{AllOrdered}
use Rattle.order_runs.specs.CycleRuns.OrderedSteps.Ranks.{OwnPaths, AddsLedTo}
use Rattle.order_runs.specs.CycleRuns.LedImports.Led.{IsNamed, HomeIsLed, IsSpelled}

-- The package of what is used by its name is that of the use, or imported by its file.
abbrev pub NamedHomesAreLed : Type 0
NamedHomesAreLed =
    (marks : List MarkRef) (st : Standing) (l : Logged) (after : Standing) (n : Next marks st l after)
    → IsNamed st.packages n.found.site.mark → HomeIsLed st.packages n.found.site

-- Where it is led to, so is each package whose import the form adds, whatever the form.
abbrev pub AddedImportsAreLed : Type 0
AddedImportsAreLed =
    (marks : List MarkRef) (st : Standing) (l : Logged) (after : Standing) (n : Next marks st l after)
    → OwnPaths st.packages → AllOrdered st.packages → HomeIsLed st.packages n.found.site
    → IsSpelled st.packages n.found.site → AddsLedTo st.packages n.found
