-- The names in a written type: of members of package blocks, qualified or not, and of the universe block (Go
-- specification, Types; Qualified identifiers; Declarations and scope).
use Rattle.std.specs.Prelude.{◌≡◌, Option, Some, None, ℕ, List}
use Rattle.go_tree.specs.Tree.{TypeExpr, named, pointer, slice_type, map_type, struct_type, Fields, no_fields, field}
use Rattle.go_tree.specs.Tree.{Expr}
use Rattle.pkg_graph.specs.Package.{Package}
use Rattle.pkg_graph.specs.Members.{Target, member, predeclared}
use Rattle.run_rules.specs.FormTrees.{type_expr}
use Rattle.run_rules.specs.Surroundings.{Place}
use Rattle.run_rules.specs.Sites.{MarkRef, Where, Part, an_expr, a_type_part, type_span, outer_meaning, qualified_mark}

-- a use as an expression: what it is, or the name of the type
abbrev pub part_name : {S : Type 0} → Part S → Expr S
part_name (an_expr e) = e
part_name (a_type_part t) = type_expr (type_span t) t

-- what a name of a file's package block, or of the universe block, means
pub data IsOwn : Option Target → Type 0 where
  of_the_block : {k f d i : ℕ} → IsOwn (Some (member k f d i))
  of_the_universe : {k : ℕ} → IsOwn (Some (predeclared k))

module _ {S : Type 0} (rs : List (Package S)) (w : Where S) (p : Place S) where
  abbrev mutual
    -- each name in a written type is one of the package block or of the universe block, or a qualified one of a member
    pub AllNamed : TypeExpr S → Type 0
    AllNamed (named s None n) = IsOwn (outer_meaning rs w p n.name)
    AllNamed (named s (Some q) n) = (m : MarkRef) × (qualified_mark rs w p q.name n.name ≡ Some m)
    AllNamed (pointer s t) = AllNamed t
    AllNamed (slice_type s t) = AllNamed t
    AllNamed (map_type s k t) = AllNamed k × AllNamed t
    AllNamed (struct_type s fs) = FieldsNamed fs

    -- so in the fields of a struct type
    pub FieldsNamed : Fields S → Type 0
    FieldsNamed no_fields = Unit {0}
    FieldsNamed (field s n t fs) = AllNamed t × FieldsNamed fs
