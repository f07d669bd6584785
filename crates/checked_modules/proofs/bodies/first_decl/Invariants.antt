use Rattle.std.proofs.Common.{drop, map}
use Rattle.go_tree.specs.FileView.{decl_of}
use Rattle.checked_modules.proofs.BodyLemmas.{Passing}
use Rattle.checked_modules.proofs.bodies.first_decl.Given as goal

abbrev pub invariant-loop-decl : goal.invariant-loop-decl
invariant-loop-decl l =
    Passing l.initial.tables l.tables l.blocks l.initial.scope l.scope (map decl_of l.decls)
    (map decl_of (drop l.decl-index l.decls))
