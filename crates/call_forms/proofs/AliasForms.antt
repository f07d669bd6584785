-- The type that an alias stands for, where it stands in the text.
use Rattle.std.specs.Prelude.{◌≡◌, refl, ℕ, Bool, List, Some, None}
use Rattle.std.proofs.Common.{sym, ap, ◌∙◌}
use Rattle.go_tree.specs.declared.spans.Span.{Span}
use Rattle.go_tree.specs.Tree.{TypeExpr, named, pointer, slice_type, map_type, struct_type, star}
use Rattle.pkg_graph.specs.Package.{Package}
use Rattle.run_rules.specs.Programs.{top_place}
use Rattle.run_rules.specs.Sites.{MarkRef, Where, Site, part_span}
use Rattle.run_rules.specs.Naming.{Names, type_there}
use Rattle.run_rules.specs.FormTrees.{type_expr}
use Rattle.run_rules.specs.Respanned.{type_with, expr_with}
use Rattle.call_forms.specs.declared.qualifiers.There.{There}
use Rattle.call_forms.specs.Written.{written_type}
use Rattle.call_forms.specs.Aliases.{IsToldAlias, IsAliasType, IsAliasExpr}
use Rattle.call_forms.proofs.ToldWalk.{types-told}

type_expr_with : {S : Type 0} (to : S → Span) (z : S) (x : TypeExpr S) → expr_with to (type_expr z x) ≡ type_expr (to z)
    (type_with to x)
type_expr_with to z (named s None n) = refl
type_expr_with to z (named s (Some p) n) = refl
type_expr_with to z (pointer s x) = ap (star (to z)) (type_expr_with to z x)
type_expr_with to z (slice_type s x) = refl
type_expr_with to z (map_type s k x) = refl
type_expr_with to z (struct_type s fs) = refl

module _ {S : Type 0} (to : S → Span) (same : S → S → Bool) (commented : ℕ → ℕ → S → Bool) (ps : List (Package S))
    (marks : List MarkRef) (x : Site S) (home : Where S) (t : TypeExpr S) (names : Names) (there : There) (of : TypeExpr
    Span) (k : IsToldAlias to same commented ps marks x home t names there of) where
  -- the type at the use
  abbrev tree : TypeExpr S
  tree = type_there ps home x.at.number names (part_span x.part) (top_place ps home.number home.of home.source.tree) t

  tree_stands : type_with to tree ≡ written_type there of
  tree_stands =
      types-told to ps home x.at.number names (part_span x.part) there k.stands (top_place ps home.number home.of
      home.source.tree) t k.told
      ∙ ap (written_type there) (sym k.type_is)

  pub type_stands : IsAliasType to same commented ps marks x home t names (written_type there of)
  type_stands = record { tree = tree; is = λ u. refl; stands = tree_stands }

  pub expr_stands : IsAliasExpr to same commented ps marks x home t names (type_expr there.span (written_type there of))
  expr_stands =
      record {
        tree = type_expr (part_span x.part) tree;
        is = λ e. refl;
        stands = type_expr_with to (part_span x.part) tree ∙ (λ w. type_expr (k.stands w) (tree_stands w));
      }
