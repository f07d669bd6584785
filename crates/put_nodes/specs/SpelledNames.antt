-- Expressions that are names (Go specification, Identifiers; Qualified identifiers).
use Rattle.std.specs.Prelude.{ℕ, List, [], ◌∷◌}
use Rattle.go_tree.specs.Tree.{NameAt, Expr, ident, selector}
use Rattle.go_layout.specs.LayoutLaws.Formed.{IsName}
use Rattle.run_rules.specs.Naming.{Named}

-- a name, with the name of a package before it or without
pub data IsNameExpr {S : Type 0} : Expr S → Type 0 where
  a_name_alone : {s : S} {n : List ℕ} → IsName n → IsNameExpr (ident s n)
  a_qualified_name : {s z : S} {q : List ℕ} {n : NameAt S} → IsName q → IsName n.name →
      IsNameExpr (selector s (ident z q) n)

-- each of the names that a form has for packages is an identifier
abbrev pub AreNames : List Named → Type 0
AreNames [] = Unit {0}
AreNames (n ∷ ns) = IsName n.name × AreNames ns
