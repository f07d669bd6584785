use Rattle.std.proofs.Common.{◌≡◌, drop, map}
use Rattle.std.specs.List.{list_all}
use Rattle.pkg_graph.specs.Views.{package_view, source_of}
use Rattle.printing_files.specs.Files.{prints_only}
use Rattle.checked_modules.specs.RefusedBodies.PrintedPackages.Packages.{files_print_only}
use Rattle.checked_modules.proofs.refused_bodies.printed_packages.packages.files_print_only.Given as goal

abbrev pub invariant-loop-file : goal.invariant-loop-file
invariant-loop-file l =
    list_all (λ f. prints_only f.tree) (map source_of (drop l.file-index l.file-items))
    ≡ files_print_only (package_view l.home)
