-- Changes that answer nothing at the places of a list: no expression and no statement is replaced there, and types get
-- new spans alone (Go specification, Expressions; Types; Statements).
use Rattle.std.specs.Prelude.{⊤, ◌≡◌, List, [], ◌∷◌, None}
use Rattle.run_rules.specs.Surroundings.{Seen, seen, seen_type, seen_stmt}
use Rattle.run_rules.specs.Rewriting.{Changes}
use Rattle.run_rules.specs.Respanned.{type_with}

module _ {S : Type 0} (c : Changes S) where
  -- nothing is answered at a place
  abbrev pub Quiet : Seen S → Type 0
  Quiet (seen p u e) = c.expr p u e ≡ None
  Quiet (seen_type p t) = c.type p t ≡ type_with c.span t
  Quiet (seen_stmt p s) = c.stmt p s ≡ None

  -- nothing is answered at any place of a list
  abbrev pub AllQuiet : List (Seen S) → Type 0
  AllQuiet [] = ⊤
  AllQuiet (x ∷ xs) = Quiet x × AllQuiet xs
