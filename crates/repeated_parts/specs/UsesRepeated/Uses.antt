-- The members of package blocks that parts of a declaration name, each with the flag of its part; a key that names a
-- field names none (Go specification, Constant declarations; Declarations and scope; Composite literals).
use Rattle.std.specs.Prelude.{Bool, List, [], ◌∷◌, ◌++◌, map, Option, Some, None}
use Rattle.go_tree.specs.declared.spans.Span.{Span}
use Rattle.member_uses.specs.PossibleUses.Candidates.{Candidate}
use Rattle.member_uses.specs.Uses.{Used, Names, part_uses}
use Rattle.repeated_parts.specs.Flags.{Flags}

-- the first flag, if there is one
abbrev pub first_flag : Flags → Option Bool
first_flag [] = None
first_flag (m ∷ ms) = m

-- the flags behind the first
abbrev pub later_flags : Flags → Flags
later_flags [] = []
later_flags (m ∷ ms) = ms

-- each with the same flag
abbrev pub with_flag : {A : Type 0} → Bool → List A → List (A × Bool)
with_flag m xs = map (λ x. (x, m)) xs

-- each with the flag, where there is one
abbrev pub under_flag : {A : Type 0} → Option Bool → List A → List (A × Bool)
under_flag None xs = []
under_flag (Some m) xs = with_flag m xs

module _ {S : Type 0} (to : S → Span) (f : Names) where
  -- the members that parts with flags name, in their order, each with the flag of its part
  abbrev pub flagged_uses : List (Candidate S) → Flags → List (Used × Bool)
  flagged_uses [] ms = []
  flagged_uses (c ∷ cs) ms =
      under_flag (first_flag ms) (part_uses to f c.key c.part) ++ flagged_uses cs (later_flags ms)
