use Rattle.std.proofs.Common.{◌≡◌, drop, map}
use Rattle.std.specs.List.{list_all}
use Rattle.pkg_graph.specs.Views.{package_view, source_of}
use Rattle.run_plans.specs.PlannedModules.Modules.{imports_apart, package_apart}
use Rattle.run_plans.proofs.planned_modules.names.package_apart.Given as goal

abbrev pub invariant-loop-file : goal.invariant-loop-file
invariant-loop-file l =
    list_all (λ f. imports_apart f.tree) (map source_of (drop l.file-index l.file-items)) ≡ package_apart (package_view l.home)
