use Rattle.std.proofs.Common.{◌≡◌, drop, map}
use Rattle.go_tree.specs.FileView.{import_decl_of}
use Rattle.names_within.specs.FileWalk.{after_imports}
use Rattle.name_walks.specs.Walk.{walk_of}
use Rattle.names_within.proofs.files.imports_names.Given as goal

abbrev pub invariant-loop-import : goal.invariant-loop-import
invariant-loop-import l =
    after_imports (map import_decl_of (drop l.import-index l.imports)) (walk_of l.names)
    ≡ after_imports (map import_decl_of l.imports) (walk_of l.initial.names)
