use Rattle.std.proofs.Common.{◌≡◌, drop, map}
use Rattle.go_tree.specs.FileView.{decl_of}
use Rattle.names_within.specs.FileWalk.{after_decls}
use Rattle.name_walks.specs.Walk.{walk_of}
use Rattle.names_within.proofs.files.decls_names.Given as goal

abbrev pub invariant-loop-decl : goal.invariant-loop-decl
invariant-loop-decl l =
    after_decls (map decl_of (drop l.decl-index l.decls)) (walk_of l.names)
    ≡ after_decls (map decl_of l.decls) (walk_of l.initial.names)
