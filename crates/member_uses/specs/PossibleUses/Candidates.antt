-- A part of a declaration that may be a use of a marked declaration (Go specification, Operands; Calls; Types;
-- Composite literals).
use Rattle.std.specs.Prelude.{Bool, true, false, not, Option, None}
use Rattle.go_tree.specs.Tree.{NameAt, TypeExpr, named, Expr}
use Rattle.run_rules.specs.Sites.{Part, an_expr, a_type_part}
use Rattle.member_uses.specs.PossibleUses.Written.{has_no_fields}

-- A part, and whether it is a name that is the key of an element and may be that of a field: the literal isn't written
-- as one of a slice or a map.
pub record Candidate (S : Type 0) : Type 0 where
  pub part : Part S
  pub key : Bool

module _ {S : Type 0} where
  -- a part that is no key
  abbrev pub plain_part : Part S → Candidate S
  plain_part x = record { part = x; key = false }

  -- a name that is a key and may be that of a field
  abbrev pub key_part : Expr S → Candidate S
  key_part e = record { part = an_expr e; key = true }

  -- a name that is a key of a literal which is written so
  abbrev pub key_of : Option (TypeExpr S) → Expr S → Candidate S
  key_of h e = record { part = an_expr e; key = not (has_no_fields h) }

  -- the name of a receiver's type, as a type
  abbrev pub receiver_part : NameAt S → Part S
  receiver_part n = a_type_part (named n.span None n)
