-- Steps over a use that is a name of a type, which its declaration writes, and becomes a name of a type (Go
-- specification, Alias declarations; Qualified identifiers; Types).
use Rattle.std.specs.Prelude.{◌≡◌, Bool, List, Contains, Option, Some, slice_get}
use Rattle.go_tree.specs.Tree.{NameAt, TypeExpr, named}
use Rattle.go_tree.specs.File.{Decl}
use Rattle.run_rules.specs.FormTrees.{as_type}
use Rattle.run_rules.specs.Run.{Standing, Logged, Next}
use Rattle.run_rules.specs.Sites.{MarkRef, a_type_part, part_span}
use Rattle.run_rules.specs.Steps.{At}
use Rattle.put_nodes.specs.TypeNodes.Names.{type_names, IsTypeName}

module _ {marks : List MarkRef} {st : Standing} {l : Logged} {after : Standing} (n : Next marks st l after) where
  -- The use is a name of a type that its declaration writes, not the type of a receiver, nor of a composite literal in
  -- a header.
  pub record UsesTypeName : Type 0 where
    pub span : At
    pub before : Option (NameAt At)
    pub name : NameAt At
    pub part : n.found.site.part ≡ a_type_part (named span before name)
    pub literal : Bool
    pub written :
        (d : Decl At) → slice_get n.found.site.at.source.tree.decls n.found.site.decl ≡ Some d →
        Contains (type_names d) (literal, named span before name)

  -- It becomes a name of a type.
  pub record BecomesTypeName : Type 0 where
    pub new : TypeExpr At
    pub form_is : n.found.form ≡ as_type new
    pub range_is : n.found.range ≡ part_span n.found.site.part
    pub is_name : IsTypeName new
