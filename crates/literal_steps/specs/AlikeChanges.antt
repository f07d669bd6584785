-- Two ways to change a body that are equal but for spans, at each place of a list (Go specification, Source code
-- representation; Expressions; Types; Statements).
use Rattle.std.specs.Prelude.{◌≡◌, List, [], ◌∷◌}
use Rattle.std.specs.Option.{option_map}
use Rattle.go_tree.specs.Bare.{bare_type, bare_expr, bare_stmt}
use Rattle.run_rules.specs.Surroundings.{Seen, seen, seen_type, seen_stmt}
use Rattle.run_rules.specs.Rewriting.{Changes}

module _ {S : Type 0} (c d : Changes S) where
  -- what is put at a place is equal but for spans
  abbrev pub IsAlike : Seen S → Type 0
  IsAlike (seen p u e) = option_map bare_expr (c.expr p u e) ≡ option_map bare_expr (d.expr p u e)
  IsAlike (seen_type p t) = bare_type (c.type p t) ≡ bare_type (d.type p t)
  IsAlike (seen_stmt p s) = option_map bare_stmt (c.stmt p s) ≡ option_map bare_stmt (d.stmt p s)

  -- so it is at each of a list
  abbrev pub AllAlike : List (Seen S) → Type 0
  AllAlike [] = Unit {0}
  AllAlike (x ∷ xs) = IsAlike x × AllAlike xs
