-- Forms and programs in which no call hands on a slice for its last arguments (Go specification, Passing arguments to
-- ... parameters).
use Rattle.std.specs.Prelude.{List, [], ◌∷◌}
use Rattle.pkg_graph.specs.Package.{SourceTree, Package}
use Rattle.splice_laws.specs.Dots.{StmtsDots}
use Rattle.splice_laws.specs.ImportSplices.TypedDots.TypedDots.{AnyExpr}
use Rattle.splice_laws.specs.ImportSplices.TypedDots.Unspread.{UnspreadRest, UnspreadExpr, UnspreadFile}
use Rattle.run_rules.specs.FormTrees.{Form, as_expr, as_dropped, as_block, as_type}

module _ {S : Type 0} where
  -- no call in what is written does
  abbrev pub UnspreadForm : Form S → Type 0
  UnspreadForm (as_expr e) = UnspreadExpr e
  UnspreadForm (as_dropped e) = UnspreadExpr e
  UnspreadForm (as_block b) = StmtsDots AnyExpr UnspreadRest b
  UnspreadForm (as_type t) = Unit {0}

  -- no call in a file of a list does
  abbrev pub UnspreadFiles : List (SourceTree S) → Type 0
  UnspreadFiles [] = Unit {0}
  UnspreadFiles (f ∷ fs) = UnspreadFile f.tree × UnspreadFiles fs

  -- no call in a file of a package of a list does
  abbrev pub UnspreadPackages : List (Package S) → Type 0
  UnspreadPackages [] = Unit {0}
  UnspreadPackages (p ∷ ps) = UnspreadFiles p.files × UnspreadPackages ps
