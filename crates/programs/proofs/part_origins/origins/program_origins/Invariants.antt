use Rattle.std.proofs.Common.{◌≡◌, ◌++◌, drop, map}
use Rattle.pkg_graph.specs.Views.{package_view}
use Rattle.programs.specs.PartOrigins.Spans.{packages_spans}
use Rattle.programs.specs.PartOrigins.Views.{packages_origins}
use Rattle.programs.proofs.part_origins.origins.program_origins.Given as goal

abbrev pub invariant-loop-package : goal.invariant-loop-package
invariant-loop-package l =
    packages_origins l.origins.items ++ packages_spans (map package_view (drop l.package-index l.packages))
    ≡ packages_spans (map package_view l.packages)
