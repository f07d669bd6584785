-- What a constant is declared as, where that is a name alone (Go specification, Constant declarations; Declarations and
-- scope; Predeclared identifiers).
use Rattle.std.specs.Prelude.{List, Option, Some}
use Rattle.go_tree.specs.Tree.{Expr, ident}
use Rattle.pkg_graph.specs.Members.{Target, member, predeclared}
use Rattle.pkg_graph.specs.Package.{Package}
use Rattle.run_rules.specs.Programs.{top_place}
use Rattle.run_rules.specs.Sites.{Where, outer_meaning}
use Rattle.run_rules.specs.Steps.{At}

-- a member of the package block, or predeclared
abbrev pub IsOwn : Option Target → Type 0
IsOwn (Some (member p f d i)) = Unit {0}
IsOwn (Some (predeclared k)) = Unit {0}
IsOwn t = ⊥

-- a name alone means such outside all declarations of the file
abbrev pub IsMember : List (Package At) → Where At → Expr At → Type 0
IsMember ps home (ident s n) = IsOwn (outer_meaning ps home (top_place ps home.number home.of home.source.tree) n)
IsMember ps home e = Unit {0}
