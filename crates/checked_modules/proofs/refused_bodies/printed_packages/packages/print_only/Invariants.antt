use Rattle.std.proofs.Common.{◌≡◌, drop, map}
use Rattle.pkg_graph.specs.Views.{package_view}
use Rattle.checked_modules.specs.RefusedBodies.PrintedPackages.Packages.{print_only}
use Rattle.checked_modules.proofs.refused_bodies.printed_packages.packages.print_only.Given as goal

abbrev pub invariant-loop-package : goal.invariant-loop-package
invariant-loop-package l =
    print_only (map package_view (drop l.package-index l.packages)) ≡ print_only (map package_view l.packages)
