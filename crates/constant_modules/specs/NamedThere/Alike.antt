-- The same part of a program at two places that stand alike: with the same names declared around it, repeated by the
-- same later members of a group, and spelled in the same way (Go specification, Blocks; Declarations and scope;
-- Constant declarations).
use Rattle.std.specs.Prelude.{◌≡◌, List}
use Rattle.go_tree.specs.Tree.{TypeExpr, Expr, Stmt}
use Rattle.typed_in_place.specs.ProgramsAlike.{OneByOne}
use Rattle.run_rules.specs.Surroundings.{Use, Place, Seen, seen, seen_type, seen_stmt}

module _ {S : Type 0} where
  -- Around both the same names are declared, each where it is declared around the other; the same names are declared
  -- around the members of a group that repeat each; and each asks the same of the spelling.
  pub record StandsAlike (p q : Place S) : Type 0 where
    pub bound : p.bound ≡ q.bound
    pub again : p.again ≡ q.again
    pub slot : p.slot ≡ q.slot

  -- the same expression, written type or statement, at two such places
  pub data SamePart : Seen S → Seen S → Type 0 where
    same_expr : {p q : Place S} {u v : Use} {e : Expr S} → StandsAlike p q → SamePart (seen p u e) (seen q v e)
    same_type : {p q : Place S} {t : TypeExpr S} → StandsAlike p q → SamePart (seen_type p t) (seen_type q t)
    same_stmt : {p q : Place S} {s : Stmt S} → StandsAlike p q → SamePart (seen_stmt p s) (seen_stmt q s)

  -- the same parts, one by one
  abbrev pub SameParts : List (Seen S) → List (Seen S) → Type 0
  SameParts xs ys = OneByOne SamePart xs ys
