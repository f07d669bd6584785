-- Where a use of a function stands (Go specification, Function declarations; Constant declarations; Variable
-- declarations; Calls).
use Rattle.std.specs.Prelude.{◌≡◌, List, Some, slice_get}
use Rattle.go_tree.specs.Tree.{Stmt}
use Rattle.go_tree.specs.File.{values}
use Rattle.run_rules.specs.Steps.{At}
use Rattle.run_rules.specs.Sites.{MarkRef}
use Rattle.run_rules.specs.Run.{Standing, Logged, Next}

-- The use stands in a declaration of constants or variables outside all functions.
pub record StandsInValues {marks : List MarkRef} {st : Standing} {l : Logged} {after : Standing}
    (n : Next marks st l after) : Type 0 where
  pub around : Stmt At
  pub is_around : slice_get n.found.site.at.source.tree.decls n.found.site.decl ≡ Some (values around)
