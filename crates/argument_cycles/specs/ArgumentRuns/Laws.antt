-- The law of runs over calls with arguments in the places of parameters. It is the contract of a function of this crate
-- (Go specification, Calls; Import declarations; Program initialization and execution).
use Rattle.std.specs.Prelude.{◌≡◌, ℕ, List}
use Rattle.go_tree.specs.declared.spans.Span.{Span}
use Rattle.pkg_graph.specs.Package.{Package}
use Rattle.pkg_graph.specs.Reads.{Source}
use Rattle.run_rules.specs.Cycles.{is_recursive}
use Rattle.run_rules.specs.Inlining.{ModuleReads, standing_as_read}
use Rattle.run_rules.specs.Run.{Standing, Logged, Run}
use Rattle.run_rules.specs.Sites.{MarkRef}
use Rattle.run_rules.specs.Texts.{FileText}
use Rattle.argument_cycles.specs.ArgumentRuns.Runs.{AllKeepCallCycles}

-- From files that read as a module, each run of such steps that settle their files keeps which marked functions lie on a
-- cycle.
abbrev pub CallRunsKeepCycles : Type 0
CallRunsKeepCycles =
    (files : List Source) (ps : List (Package Span)) (texts : List (List ℕ × FileText)) (marks : List MarkRef)
    (last : Standing) (log : List Logged) → ModuleReads files ps texts
    → (run : Run marks (standing_as_read ps texts) log last) → AllKeepCallCycles run → (m : MarkRef)
    → is_recursive (standing_as_read ps texts).packages marks m ≡ is_recursive last.packages marks m
