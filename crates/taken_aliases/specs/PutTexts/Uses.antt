-- Steps over aliases of any type, where the use is a type that its declaration writes (Go specification, Alias
-- declarations; Types; Composite literals).
use Rattle.std.specs.Prelude.{◌≡◌, true, List, Some}
use Rattle.go_tree.specs.Tree.{NameAt, TypeExpr}
use Rattle.go_layout.specs.LayoutLaws.Formed.{FormedType, FormedLiteralType}
use Rattle.run_rules.specs.FormTrees.{as_type}
use Rattle.run_rules.specs.Run.{Standing, Logged, Next}
use Rattle.run_rules.specs.Sites.{MarkRef, Where, an_alias, part_span, where_is, inlinable}
use Rattle.run_rules.specs.Steps.{At}
use Rattle.put_names.specs.PutTypes.Uses.{UsesTypeName}

module _ {marks : List MarkRef} {st : Standing} {l : Logged} {after : Standing} (n : Next marks st l after) where
  -- The use becomes a type, which isn't `*` before another where it is the type of a composite literal.
  pub record BecomesType (used : UsesTypeName n) : Type 0 where
    pub new : TypeExpr At
    pub form_is : n.found.form ≡ as_type new
    pub range_is : n.found.range ≡ part_span n.found.site.part
    pub formed : FormedType new
    pub of_literal : used.literal ≡ true → FormedLiteralType new

  -- What is used is an alias of this type.
  pub record UsesAliasText : Type 0 where
    pub home : Where At
    pub home_is : where_is st.packages n.found.site.mark ≡ Some home
    pub name : NameAt At
    pub text : TypeExpr At
    pub declared : inlinable st.packages n.found.site.mark ≡ Some (an_alias name text)

  -- where the use is the type of a composite literal, the alias's type may be one
  abbrev pub FitsLiteral : UsesTypeName n → UsesAliasText → Type 0
  FitsLiteral used uses = used.literal ≡ true → FormedLiteralType uses.text
