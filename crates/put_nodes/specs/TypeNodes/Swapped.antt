-- Names of types that may be swapped for any type where they stand (Go specification, Types). Names that share a type,
-- as in `a, b T`, have one node, which is swapped for each of them.
use Rattle.std.specs.Prelude.{Bool, true, false, [], ◌∷◌}
use Rattle.go_tree.specs.Tree.{TypeExpr}
use Rattle.run_rules.specs.Respanned.{type_with}
use Rattle.splice_laws.specs.Swaps.{Swap, a_type, a_literal_type}
use Rattle.put_nodes.specs.TypeNodes.Names.{Written}

-- `to` gives a node its span, and `Whole` says what it is that a swap is made in.
module _ {A B : Type 0} (to : A → B) (Whole : Swap B → Type 0) where
  -- a type may be swapped for each type: a written type, or that of a composite literal in no header
  abbrev pub TypeSwapped : Bool → TypeExpr A → Type 0
  TypeSwapped false t = (u : TypeExpr B) → Whole (a_type (type_with to t) u)
  TypeSwapped true t = (u : TypeExpr B) → Whole (a_literal_type false (type_with to t) u)

  -- so may each of a list
  abbrev pub AllTypesSwapped : Written A → Type 0
  AllTypesSwapped [] = Unit {0}
  AllTypesSwapped (x ∷ xs) = TypeSwapped x.0 x.1 × AllTypesSwapped xs
