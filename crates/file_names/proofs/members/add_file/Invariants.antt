use Rattle.std.proofs.Common.{◌≡◌, ◌++◌, drop, map}
use Rattle.go_tree.specs.FileView.{decl_of, file_of}
use Rattle.pkg_graph.specs.Members.{decls_from}
use Rattle.file_names.specs.Members.{member_of}
use Rattle.file_names.proofs.members.add_file.Given as goal

abbrev pub invariant-loop-number : goal.invariant-loop-number
invariant-loop-number l =
    map member_of l.members.items ++ decls_from l.home l.file l.number (map decl_of (drop l.number l.decl-items))
    ≡ map member_of l.initial.members.items ++ decls_from l.home l.file 0 (file_of l.tree).decls
