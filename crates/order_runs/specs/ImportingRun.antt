-- Runs of steps over constants that change imports, and with them the order of packages (Go specification, Constant
-- declarations; Import declarations; Program initialization).
use Rattle.std.specs.Prelude.{List}
use Rattle.run_rules.specs.Sites.{MarkRef}
use Rattle.run_rules.specs.Run.{Standing, Logged, Run, ends, goes_on}
use Rattle.order_runs.specs.ImportRuns.ImportingNext.{IsImporting}

-- each step of a run is over a constant that is declared as a name, with the imports that its form needs
abbrev pub EachImports : {marks : List MarkRef} {st last : Standing} {log : List Logged} → Run marks st log last
    → Type 0
EachImports (ends st over) = Unit {0}
EachImports (goes_on st next last l log n run) = IsImporting n × EachImports run
