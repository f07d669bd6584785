-- What is written of the type of a composite literal: whether its keys may be names of fields, and what it says of the
-- literals in braces alone within it (Go specification, Composite literals). Behind the name of a type nothing is
-- written.
use Rattle.std.specs.Prelude.{Bool, true, false, Option, Some, None}
use Rattle.go_tree.specs.Tree.{TypeExpr, named, pointer, slice_type, map_type}

module _ {S : Type 0} where
  -- the literal is written as one of a slice or a map, so none of its keys names a field
  abbrev pub has_no_fields : Option (TypeExpr S) → Bool
  has_no_fields (Some (slice_type _ t)) = true
  has_no_fields (Some (map_type _ k t)) = true
  has_no_fields t = false

  -- The type of a literal in braces alone where this type is wanted: where a pointer is written, its base type. A name
  -- may stand for a pointer.
  abbrev pub literal_written : TypeExpr S → Option (TypeExpr S)
  literal_written (named _ q n) = None
  literal_written (pointer _ t) = Some t
  literal_written t = Some t

  -- the type of such literals among the elements of a literal
  abbrev pub inner_written : Option (TypeExpr S) → Option (TypeExpr S)
  inner_written (Some (slice_type _ t)) = literal_written t
  inner_written (Some (map_type _ k t)) = literal_written t
  inner_written t = None

  -- and among its keys
  abbrev pub keys_written : Option (TypeExpr S) → Option (TypeExpr S)
  keys_written (Some (map_type _ k t)) = literal_written k
  keys_written t = None
