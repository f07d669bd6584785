use Rattle.std.proofs.Common.{◌≡◌, ◌++◌, drop, map}
use Rattle.go_tree.specs.FileView.{decl_of}
use Rattle.go_layout.specs.FileLayout.{declaration_layout}
use Rattle.go_print.proofs.Steps.{all}
use Rattle.go_print.proofs.FileParts.{paragraph_part}
use Rattle.go_print.proofs.files.write_decls.Given as goal

abbrev pub invariant-loop-decl : goal.invariant-loop-decl
invariant-loop-decl l =
    let part = paragraph_part declaration_layout in
    l.out.items ++ all part (map decl_of (drop l.decl-index l.items)) ≡ l.initial.out.items ++ all part (map decl_of l.items)
