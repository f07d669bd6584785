-- What keeps a use of a marked constant, and what it rests on (Go specification, Constant declarations; Qualified
-- identifiers; Declarations and scope).
use Rattle.std.specs.Prelude.{◌≡◌, ℕ, Bool, List, map, Some}
use Rattle.go_tree.specs.Tree.{NameAt, Expr}
use Rattle.scope_tables.specs.Table.{table_of, meaning_in}
use Rattle.pkg_graph.specs.Package.{Package}
use Rattle.run_rules.specs.Obstacles.{Obstacle}
use Rattle.run_rules.specs.Reduced.{kept, reduced}
use Rattle.run_rules.specs.Sites.{MarkRef, Where, Site}
use Rattle.run_rules.specs.Steps.{At, same_here}
use Rattle.constant_forms.specs.declared.uses.ConstantUse.{ConstantUse}
use Rattle.constant_forms.specs.Uses.{IsUse}
use Rattle.repeated_parts.specs.UseSearch.MarkValues.Values.{value_of}

-- The code is told the same of two uses, but for the trees of packages and files.
pub record AreToldAlike (u v : ConstantUse) : Type 0 where
  pub value : value_of u.value ≡ value_of v.value
  pub home : u.home ≡ v.home
  pub there : u.there ≡ v.there
  pub paths : map (λ p. p.path) u.packages.now ≡ map (λ p. p.path) v.packages.now
  pub means : (n : List ℕ) → meaning_in (table_of u.scopes.now) n u.at ≡ meaning_in (table_of v.scopes.now) n v.at
  pub span : u.span ≡ v.span
  pub comments : u.comments.now ≡ v.comments.now
  pub again : u.repeated ≡ v.repeated

-- A use that is kept in one program is kept in another, where the code is told the same of it.
abbrev pub KeptUsesStay : Type 0
KeptUsesStay =
    (marks : List MarkRef) (ps qs : List (Package At)) (before after : ℕ → ℕ → At → Bool) (x y : Site At)
    (home there : Where At) (n m : NameAt At) (e d : Expr At) (u v : ConstantUse) (o : Obstacle)
    → IsUse ps before x home n e u → IsUse qs after y there m d v → AreToldAlike u v
    → reduced same_here before ps marks x ≡ Some (kept o) → reduced same_here after qs marks y ≡ Some (kept o)
