use Rattle.std.proofs.Common.{◌≡◌, drop, map}
use Rattle.std.specs.List.{list_all}
use Rattle.go_tree.specs.FileView.{decl_of}
use Rattle.printing_files.specs.Decls.{is_plain}
use Rattle.printing_files.proofs.files.prints_only.Given as goal

abbrev pub invariant-loop-decl : goal.invariant-loop-decl
invariant-loop-decl l =
    list_all is_plain (map decl_of (drop l.decl-index l.tree.decls)) ≡ list_all is_plain (map decl_of l.tree.decls)
