-- A use of a marked alias of a program as it stands, what the code is told of it, and what it becomes (Go
-- specification, Alias declarations; Conversions).
use Rattle.std.specs.Prelude.{◌≡◌, ℕ, Bool, List}
use Rattle.go_tree.specs.declared.spans.Span.{Span}
use Rattle.go_tree.specs.Tree.{TypeExpr, Expr}
use Rattle.pkg_graph.specs.Package.{Package}
use Rattle.run_rules.specs.Programs.{top_place}
use Rattle.run_rules.specs.Sites.{MarkRef, Where, an_expr, a_type_part, Site, part_span, named_in}
use Rattle.run_rules.specs.Naming.{Names}
use Rattle.run_rules.specs.FormTrees.{as_expr, as_type}
use Rattle.run_rules.specs.Reduced.{alias_form}
use Rattle.run_rules.specs.Respanned.{type_with, expr_with}
use Rattle.call_forms.specs.declared.qualifiers.There.{There}
use Rattle.call_forms.specs.Written as written
use Rattle.call_forms.specs.ToldNames.{TypesTold}

-- `to` says where a node stands in the text; the alias stands for `t` in the file `home`, and packages have these names
-- at the use.
module _ {S : Type 0} (to : S → Span) (same : S → S → Bool) (commented : ℕ → ℕ → S → Bool) (ps : List (Package S))
    (marks : List MarkRef) (x : Site S) (home : Where S) (t : TypeExpr S) (names : Names) where
  -- The code is told of this use of an alias: where it stands, the type, and which of its names have those of packages
  -- before them.
  pub record IsToldAlias (there : There) (of : TypeExpr Span) : Type 0 where
    pub stands : to (part_span x.part) ≡ there.span
    pub type_is : of ≡ type_with to t
    pub told :
        TypesTold to (written.told there) ps home x.at.number names
        (top_place ps home.number home.of home.source.tree) (named_in t)

  -- Where a type stands, the use becomes one that stands in the text as this type.
  pub record IsAliasType (r : TypeExpr Span) : Type 0 where
    pub tree : TypeExpr S
    pub is : (u : TypeExpr S) → alias_form same commented ps marks x home t (a_type_part u) names ≡ as_type tree
    pub stands : type_with to tree ≡ r

  -- Where an expression stands, it becomes one that stands in the text as this expression.
  pub record IsAliasExpr (r : Expr Span) : Type 0 where
    pub tree : Expr S
    pub is : (e : Expr S) → alias_form same commented ps marks x home t (an_expr e) names ≡ as_expr tree
    pub stands : expr_with to tree ≡ r
