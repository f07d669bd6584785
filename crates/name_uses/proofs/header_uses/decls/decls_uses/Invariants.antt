use Rattle.std.proofs.Common.{◌≡◌, drop, map}
use Rattle.go_tree.specs.FileView.{decl_of}
use Rattle.name_uses.specs.HeaderUses.Headers.{after_decls}
use Rattle.name_uses.specs.Walk.{walk_of, walked}
use Rattle.name_uses.proofs.header_uses.decls.decls_uses.Given as goal

abbrev pub invariant-loop-decl : goal.invariant-loop-decl
invariant-loop-decl l =
    walked (after_decls (map decl_of (drop l.decl-index l.decls))) (walk_of l.uses)
    ≡ walked (after_decls (map decl_of l.decls)) (walk_of l.initial.uses)
