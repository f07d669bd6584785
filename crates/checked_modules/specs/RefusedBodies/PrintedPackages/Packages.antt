-- Packages of constants, and of functions that print them (Go specification, Packages; Source file organization).
use Rattle.std.specs.Prelude.{Bool, List}
use Rattle.std.specs.List.{list_all}
use Rattle.pkg_graph.specs.Package.{Package}
use Rattle.printing_files.specs.Files.{prints_only}

module _ {S : Type 0} where
  -- each file of the package holds besides imports only such declarations
  abbrev pub files_print_only : Package S → Bool
  files_print_only p = list_all (λ f. prints_only f.tree) p.files

  -- so does each file of the packages
  abbrev pub print_only : List (Package S) → Bool
  print_only ps = list_all files_print_only ps
