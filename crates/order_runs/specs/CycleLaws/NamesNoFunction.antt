-- An expression that names no function, as each use of a constant or of an alias (Go specification, Constant
-- declarations; Alias declarations; Calls; Selectors).
use Rattle.std.specs.Prelude.{◌≡◌, ℕ, List, [], None}
use Rattle.go_tree.specs.Tree.{NameAt, Expr, selector}
use Rattle.pkg_graph.specs.Package.{Package}
use Rattle.run_rules.specs.Surroundings.{other, Place}
use Rattle.run_rules.specs.Places.{expr_seen}
use Rattle.run_rules.specs.Sites.{MarkRef, Where, marked, called_mark, selected_method}
use Rattle.order_runs.specs.CycleLaws.PutCalls.{called_among}

-- It calls nothing, names no marked function, and before a dot it is a value or a type, and no import.
pub record NamesNoFunction {S : Type 0} (ps : List (Package S)) (marks : List MarkRef) (w : Where S) (at : ℕ)
    (p : Place S) (x : Expr S) : Type 0 where
  pub inside : called_among ps marks w at (expr_seen p other x) ≡ []
  pub no_callee : called_mark ps marks w p x ≡ None
  pub selects :
      (s : S) (m : NameAt S) → called_mark ps marks w p (selector s x m)
      ≡ marked ps marks (selected_method ps marks p x m.name)
