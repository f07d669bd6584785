-- A name put for a name, neither of which names a function (Go specification, Constant declarations; Qualified
-- identifiers; Calls).
use Rattle.std.specs.Prelude.{◌≡◌, ℕ, Bool, true, List, [], ◌∷◌}
use Rattle.go_tree.specs.Tree.{TypeExpr, Expr}
use Rattle.pkg_graph.specs.Package.{Package}
use Rattle.run_rules.specs.Surroundings.{Place, Seen, seen, seen_type, seen_stmt}
use Rattle.run_rules.specs.Sites.{MarkRef, Where}
use Rattle.run_rules.specs.FormTrees.{as_expr, as_type}
use Rattle.run_rules.specs.Forms.{is_at}
use Rattle.run_rules.specs.Steps.{changes_for}
use Rattle.order_runs.specs.CycleLaws.PutCalls.{LiteralTyped, ConstantsCallNothing}
use Rattle.order_runs.specs.CycleLaws.NamesNoFunction.{NamesNoFunction}

-- `e` is put at the span z for a use of m, in the declaration with the number `at` of the file of `w`
module _ {S : Type 0} (same : S → S → Bool) (z : S) (e : Expr S) (ps : List (Package S)) (marks : List MarkRef)
    (w : Where S) (at : ℕ) (m : MarkRef) where
  -- what stands there and what is put name no function
  pub record NameForName (p : Place S) (x : Expr S) : Type 0 where
    pub old : NamesNoFunction ps marks w at p x
    pub new : NamesNoFunction ps marks w at p e

  -- so is what stands at the span; and the constants that a statement declares call nothing, before and after
  abbrev pub NamePut : Seen S → Type 0
  NamePut (seen p u x) = is_at same z x ≡ true → NameForName p x
  NamePut (seen_type p t) = Unit {0}
  NamePut (seen_stmt p s) = ConstantsCallNothing ps marks w at m (changes_for same z (as_expr e)) p s

  -- so at all parts of a list
  abbrev pub AllNamesPut : List (Seen S) → Type 0
  AllNamesPut [] = Unit {0}
  AllNamesPut (x ∷ xs) = NamePut x × AllNamesPut xs

-- The type t is put at the span z: nothing is put for an expression.
module _ {S : Type 0} (same : S → S → Bool) (z : S) (t : TypeExpr S) (ps : List (Package S)) (marks : List MarkRef)
    (w : Where S) (at : ℕ) (m : MarkRef) where
  -- a literal of a function has a type, and the constants that a statement declares call nothing, before and after
  abbrev pub TypePut : Seen S → Type 0
  TypePut (seen p u x) = LiteralTyped ps marks w at m (changes_for same z (as_type t)) p x
  TypePut (seen_type p u) = Unit {0}
  TypePut (seen_stmt p s) = ConstantsCallNothing ps marks w at m (changes_for same z (as_type t)) p s

  -- so at all parts of a list
  abbrev pub AllTypesPut : List (Seen S) → Type 0
  AllTypesPut [] = Unit {0}
  AllTypesPut (x ∷ xs) = TypePut x × AllTypesPut xs
