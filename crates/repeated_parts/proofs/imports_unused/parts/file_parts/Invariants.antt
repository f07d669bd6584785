use Rattle.std.proofs.Common.{◌≡◌, ◌++◌, drop, map}
use Rattle.go_tree.specs.FileView.{decl_of}
use Rattle.member_uses.specs.PossibleUses.Views.{part_of}
use Rattle.repeated_parts.specs.ImportsUnused.Uses.{all_parts}
use Rattle.repeated_parts.proofs.imports_unused.parts.file_parts.Given as goal

abbrev pub invariant-loop-decl : goal.invariant-loop-decl
invariant-loop-decl l =
    map part_of l.list.items ++ all_parts (map decl_of (drop l.decl-index l.decls)) ≡ all_parts (map decl_of l.decls)
