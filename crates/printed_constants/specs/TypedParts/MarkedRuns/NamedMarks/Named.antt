-- Marks of constants that are declared as names (Go specification, Constant declarations; Qualified identifiers).
use Rattle.std.specs.Prelude.{◌≡◌, true, List, Some}
use Rattle.go_tree.specs.Tree.{NameAt, Expr}
use Rattle.pkg_graph.specs.Package.{Package}
use Rattle.run_rules.specs.Sites.{MarkRef, Where, a_constant, is_among_marks, where_is, inlinable}
use Rattle.run_rules.specs.Steps.{At}
use Rattle.put_names.specs.Uses.{IsDeclaredAsName}

-- The mark is that of a constant which is declared as a name, or as one with the name of a package before it that its
-- file imports.
pub record IsNamedConstant (ps : List (Package At)) (m : MarkRef) : Type 0 where
  pub home : Where At
  pub home_is : where_is ps m ≡ Some home
  pub name : NameAt At
  pub value : Expr At
  pub declared : inlinable ps m ≡ Some (a_constant name value)
  pub as_name : IsDeclaredAsName ps home value

-- each of the marks is
abbrev pub AllNamed : List (Package At) → List MarkRef → Type 0
AllNamed ps marks = (m : MarkRef) → is_among_marks marks m ≡ true → IsNamedConstant ps m
