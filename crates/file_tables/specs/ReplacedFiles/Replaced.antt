-- Packages with another tree for one of their files (Go specification, Packages; Source file organization).
use Rattle.std.specs.Prelude.{ℕ}
use Rattle.go_tree.specs.File.{File}
use Rattle.pkg_graph.specs.Package.{SourceTree, Package}
use Rattle.run_rules.specs.Steps.{change_nth}

module _ {S : Type 0} where
  -- the file with this tree
  abbrev pub with_tree : File S → SourceTree S → SourceTree S
  with_tree t s = record s { tree = t }

  -- the package with this tree for the file with this number
  abbrev pub with_tree_of : ℕ → File S → Package S → Package S
  with_tree_of i t p = record p { files = change_nth i (with_tree t) p.files }
