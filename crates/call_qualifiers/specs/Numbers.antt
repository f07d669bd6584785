-- The packages whose names stand before names of a declaration where it is written in another place, by their numbers
-- (Go specification, Qualified identifiers).
use Rattle.std.specs.Prelude.{ℕ, nat_eq, Bool, not, ◌&&◌, List, [], ◌∷◌, Option, Some, if◌then◌else◌}
use Rattle.go_tree.specs.declared.spans.Span.{Span}
use Rattle.run_rules.specs.ImportRules.Removed.{same_span}
use Rattle.repeated_parts.specs.declared.uses_repeated.uses.FlaggedUse.{FlaggedUse}

-- where a name stands, and the number of the package whose member it is
abbrev pub MemberThere : Type 0
MemberThere = Span × ℕ

-- a use of a member as such
abbrev pub there_of : FlaggedUse → MemberThere
there_of u = (u.of.span, u.of.«package»)

-- The package's name stands before the member's: but not where the declaration, which is one of `home`, is written in
-- its own package, and the member is one of that.
abbrev pub is_written : ℕ → ℕ → ℕ → Bool
is_written home there q = not (nat_eq q home && nat_eq home there)

module _ (home there : ℕ) where
  -- the package whose name stands before the name at a span, where this one did, and then this member is named
  abbrev pub number_put : MemberThere → Span → Option ℕ → Option ℕ
  number_put u q old = if is_written home there u.1 && same_span q u.0 then Some u.1 else old

  -- and then these members are, one after another
  abbrev pub numbers_put : List MemberThere → Span → Option ℕ → Option ℕ
  numbers_put [] q old = old
  numbers_put (u ∷ us) q old = numbers_put us q (number_put u q old)
