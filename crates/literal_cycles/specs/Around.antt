-- What is around a use whose place a call takes: what is called, and what statements declare (Go specification, Calls;
-- Selectors; Method values; Short variable declarations).
use Rattle.std.specs.Prelude.{◌≡◌, ℕ, true, false, List, [], ◌∷◌}
use Rattle.go_tree.specs.Tree.{Expr, selector, call}
use Rattle.pkg_graph.specs.Package.{Package}
use Rattle.run_rules.specs.Surroundings.{other, Slot, Place, Seen, seen, seen_type, seen_stmt, inner_slot, in_slot}
use Rattle.run_rules.specs.Rewriting.{Changes, new_expr}
use Rattle.run_rules.specs.Classes.{type_at}
use Rattle.run_rules.specs.Sites.{MarkRef, Where}
use Rattle.run_rules.specs.Forms.{is_at}
use Rattle.run_rules.specs.Steps.{At, same_here}
use Rattle.literal_cycles.specs.FormCycles.Puts.{StatementStays}

module _ (c : Changes At) (span : At) (tree : Expr At) where
  -- the place of what stands before the dot of what is called, where the call's callee has this slot
  abbrev pub before_dot : Slot → Place At → Expr At → Place At
  before_dot s p f = in_slot (inner_slot s f 7 false true) (in_slot s p)

  -- What is called is the use, or hasn't its span; if it is a selector, so is what stands before its dot, which has the
  -- type that it had with the form in the use's place.
  abbrev pub CalledStays : Place At → Expr At → Type 0
  CalledStays p (call s (selector t b n) xs r) =
      (is_at same_here span (selector t b n) ≡ false) × ((is_at same_here span b ≡ true → b ≡ tree)
      × (type_at p.env
      (new_expr c
      (before_dot (inner_slot p.slot (call s (selector t b n) xs r) 7 true false) p (selector t b n)) other b)
      ≡ type_at p.env b))
  CalledStays p (call s f xs r) = is_at same_here span f ≡ true → f ≡ tree
  CalledStays p y = Unit {0}

  module _ (ps : List (Package At)) (marks : List MarkRef) (v : Where At) (at : ℕ) (m : MarkRef) where
    -- with the form in the use's place, what is called stays, and statements declare what they declared
    abbrev pub StaysAround : Seen At → Type 0
    StaysAround (seen p u y) = CalledStays p y
    StaysAround (seen_type p t) = Unit {0}
    StaysAround (seen_stmt p s) = StatementStays ps marks v at m c p s

    -- so at all parts of a list
    abbrev pub AllStayAround : List (Seen At) → Type 0
    AllStayAround [] = Unit {0}
    AllStayAround (y ∷ ys) = StaysAround y × AllStayAround ys
