use Rattle.std.proofs.Common.{map}
use Rattle.go_tree.specs.FileView.{decl_of}
use Rattle.member_uses.specs.Views.{names_in}
use Rattle.programs.proofs.FileValues.Filling.{Fills}
use Rattle.programs.proofs.file_values.files.fill_file.Given as goal

abbrev pub invariant-loop-number : goal.invariant-loop-number
invariant-loop-number l = Fills l.names.home l.file (names_in l.names) (map decl_of l.decls) l.initial.values l.number l.values
