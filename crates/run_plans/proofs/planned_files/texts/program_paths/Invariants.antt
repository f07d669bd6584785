use Rattle.std.proofs.Common.{◌≡◌, ◌++◌, drop, map}
use Rattle.pkg_graph.specs.Views.{package_view}
use Rattle.run_plans.specs.PlannedFiles.Referred.{referred}
use Rattle.run_plans.specs.PlannedFiles.Texts.{file_paths}
use Rattle.run_plans.proofs.planned_files.texts.program_paths.Given as goal

abbrev pub invariant-loop-package : goal.invariant-loop-package
invariant-loop-package l =
    referred l.paths.items ++ file_paths (map package_view (drop l.package-index l.packages))
    ≡ file_paths (map package_view l.packages)
