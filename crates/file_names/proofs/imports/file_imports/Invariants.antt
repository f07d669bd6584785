use Rattle.std.proofs.Common.{◌≡◌, ◌++◌, drop, map}
use Rattle.go_tree.specs.FileView.{import_decl_of, file_of}
use Rattle.pkg_graph.specs.Package.{specs_in, import_specs}
use Rattle.pkg_graph.specs.Views.{package_view}
use Rattle.file_names.specs.Imports.{import_in}
use Rattle.file_names.proofs.imports.file_imports.Given as goal

abbrev pub invariant-loop-decl : goal.invariant-loop-decl
invariant-loop-decl l =
    l.imports.items ++ map (import_in (map package_view l.packages)) (specs_in (map import_decl_of (drop l.decl-index l.decl-items)))
    ≡ map (import_in (map package_view l.packages)) (import_specs (file_of l.tree))
