use Rattle.std.proofs.Common.{◌≡◌, ◌++◌, drop, map}
use Rattle.go_tree.specs.FileView.{decl_of}
use Rattle.pkg_graph.specs.Members.{items_from, block_names}
use Rattle.file_names.specs.DeclaredNames.{name_of}
use Rattle.file_names.specs.Members.{member_of}
use Rattle.file_names.proofs.members.add_decl.Given as goal

abbrev pub invariant-loop-item : goal.invariant-loop-item
invariant-loop-item l =
    map member_of l.members.items ++ items_from l.home l.file l.number l.item (map name_of (drop l.item l.declared-items))
    ≡ map member_of l.initial.members.items ++ items_from l.home l.file l.number 0 (block_names (decl_of l.decl))
