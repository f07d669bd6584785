use Rattle.std.proofs.Common.{◌≡◌, drop, map}
use Rattle.std.specs.List.{list_all}
use Rattle.pkg_graph.specs.Views.{package_view}
use Rattle.run_plans.specs.PlannedModules.Modules.{package_apart}
use Rattle.run_plans.proofs.planned_modules.names.names_apart.Given as goal

abbrev pub invariant-loop-home : goal.invariant-loop-home
invariant-loop-home l =
    list_all package_apart (map package_view (drop l.home-index l.packages)) ≡ list_all package_apart (map package_view l.packages)
