-- What the code answers of a use, as values without places in memory (Go specification, Qualified identifiers).
use Rattle.std.specs.Prelude.{◌≡◌, ℕ, List, Option, Some, None}
use Rattle.std.specs.Option.{option_map, option_to_list}
use Rattle.go_tree.specs.declared.spans.Span.{Span}
use Rattle.go_tree.specs.Tree.{Expr, ident, selector}
use Rattle.run_rules.specs.Naming.{Named}
use Rattle.run_rules.specs.FormTrees.{ConstForm, Form, as_expr, a_name}
use Rattle.run_rules.specs.Obstacles as rules
use Rattle.run_rules.specs.Obstacles.{Obstacle}
use Rattle.run_rules.specs.Reduced.{Reduced, becomes, kept}
use Rattle.constant_forms.specs.declared.obstacles.Obstacle as code
use Rattle.constant_forms.specs.declared.obstacles.Obstacle.TheVariants.{NotAccessible, Internal, Shadowed, Recursive}
use Rattle.constant_forms.specs.declared.obstacles.Obstacle.TheVariants.{CommentInside, Spread, Repeated}
use Rattle.constant_forms.specs.declared.packages.NamedPackage.{NamedPackage}
use Rattle.constant_forms.specs.declared.reduced.ConstantForm.{ConstantForm}
use Rattle.constant_forms.specs.declared.reduced.ReducedConstant.{ReducedConstant}
use Rattle.constant_forms.specs.declared.reduced.ReducedConstant.TheVariants.{Becomes, Kept}

-- an obstacle
abbrev pub obstacle_of : code.Obstacle → Obstacle
obstacle_of (NotAccessible n) = rules.NotAccessible n
obstacle_of (Internal path) = rules.Internal path
obstacle_of (Shadowed n) = rules.Shadowed n
obstacle_of Recursive = rules.Recursive
obstacle_of CommentInside = rules.CommentInside
obstacle_of Spread = rules.Spread
obstacle_of Repeated = rules.Repeated

-- a package with its name and the import that is added
abbrev pub named_of : NamedPackage → Named
named_of n = record { of = n.of; name = n.name; added = n.added }

-- a name, behind that of a package where it has one
abbrev pub name_expr : {S : Type 0} → S → Option (List ℕ) → List ℕ → Expr S
name_expr z None n = ident z n
name_expr z (Some q) n = selector z (ident z q) (a_name z n)

-- the tree of a form, whose nodes have one span
abbrev pub form_of : {S : Type 0} → S → ConstantForm → Form S
form_of z f = as_expr (name_expr z (option_map (λ p. p.name) f.package) f.name)

-- what a use with this span becomes, or what keeps it
abbrev pub reduced_of : {S : Type 0} → S → ReducedConstant → Reduced S
reduced_of z (Becomes f) = becomes ConstForm (form_of z f) z (option_to_list (option_map named_of f.package))
reduced_of z (Kept o) = kept (obstacle_of o)

-- The form stands there.
abbrev pub StandsAt : Span → ReducedConstant → Type 0
StandsAt z (Becomes f) = f.span ≡ z
StandsAt z (Kept o) = Unit {0}
