-- Which names of parts mean something else at another place, by what tables tell of both (Go specification,
-- Declarations and scope).
use Rattle.std.specs.Prelude.{ℕ, nat_eq, Bool, not, List, [], ◌∷◌, Option, Some, None, if◌then◌else◌}
use Rattle.go_tree.specs.declared.spans.Span.{Span}
use Rattle.go_tree.specs.Tree.{named, ident}
use Rattle.go_tree.specs.GoTypes.Answers.{given, one_of}
use Rattle.scope_tables.specs.Table.{meaning_in}
use Rattle.run_rules.specs.Sites.{Part, an_expr, a_type_part}
use Rattle.member_uses.specs.PossibleUses.Candidates.{Candidate}
use Rattle.member_uses.specs.Uses.{Names}
use Rattle.constant_forms.specs.Told.{is_another}
use Rattle.repeated_parts.specs.Flags.{Flags}
use Rattle.repeated_parts.specs.UsesRepeated.Uses.{first_flag, later_flags}

-- The first answer to parts, each of which has a flag unless it is a key that names a field.
abbrev pub first_told : {S A : Type 0} → (Part S → Option A) → List (Candidate S) → Flags → Option A
first_told f [] ms = None
first_told f (c ∷ cs) ms =
    one_of (given (first_flag ms) (λ m. f c.part)) (first_told f cs (later_flags ms))

-- the names of two files, and a byte of the second at which the other place stands
module _ (home there : Names) (at : ℕ) where
  -- the name, where it means something else there than at this byte, if it stays as it is
  abbrev pub shadowed_from : ℕ → List ℕ → Option (List ℕ)
  shadowed_from from n =
      if is_another (meaning_in home.table n from) (not (nat_eq home.home there.home)) (meaning_in there.table n at)
      then Some n else None

-- `to` says where a node stands in the text.
module _ {S : Type 0} (to : S → Span) (home there : Names) (at : ℕ) where
  -- the name that a part is by itself, where it means something else there
  abbrev pub shadowed_part : Part S → Option (List ℕ)
  shadowed_part (an_expr (ident s n)) = shadowed_from home there at (to s).start n
  shadowed_part (an_expr e) = None
  shadowed_part (a_type_part (named s None n)) = shadowed_from home there at (to s).start n.name
  shadowed_part (a_type_part t) = None
