-- Files of constants, and of functions that print them (Go specification, Source file organization).
use Rattle.std.specs.Prelude.{Bool}
use Rattle.std.specs.List.{list_all}
use Rattle.go_tree.specs.File.{File}
use Rattle.printing_files.specs.Decls.{is_plain}

-- besides imports it holds only such declarations
abbrev pub prints_only : {S : Type 0} → File S → Bool
prints_only f = list_all is_plain f.decls
