-- The members of package blocks that calls among parts of a declaration name (Go specification, Calls; Qualified
-- identifiers).
use Rattle.std.specs.Prelude.{false, List, [], ◌∷◌, ◌++◌}
use Rattle.go_tree.specs.declared.spans.Span.{Span}
use Rattle.go_tree.specs.Tree.{call}
use Rattle.run_rules.specs.Sites.{Part, an_expr}
use Rattle.member_uses.specs.PossibleUses.Candidates.{Candidate}
use Rattle.member_uses.specs.Uses.{Used, Names, part_uses}

-- `to` says where a node stands in the text.
module _ {S : Type 0} (to : S → Span) (f : Names) where
  -- the member that a part calls: the one that its callee names, where the call stands
  abbrev pub call_part : Part S → List Used
  call_part (an_expr (call s g xs r)) = part_uses (λ z. to s) f false (an_expr g)
  call_part x = []

  -- those that parts call, in their order
  abbrev pub call_uses : List (Candidate S) → List Used
  call_uses [] = []
  call_uses (c ∷ cs) = call_part c.part ++ call_uses cs
