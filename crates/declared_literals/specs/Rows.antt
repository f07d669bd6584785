-- What literals need of the first types of the checker's tables (Go specification, Types; Composite literals).
use Rattle.std.specs.Prelude.{◌≡◌, ℕ, ◌<◌, List, length, slice_get}
use Rattle.type_table.specs.TypeRelations.Environment.{Environment, defined_types, env_type}
use Rattle.repeated_parts.specs.declared.literal_types.table.LiteralType.{LiteralType}
use Rattle.repeated_parts.specs.LiteralTypes.Types.{IsRow}

-- so many rows tell of the types with their numbers what they have to
pub record AreRowsSoFar (e : Environment) (count : ℕ) (rows : List LiteralType) : Type 0 where
  pub many : length rows ≡ count
  pub each : (i : ℕ) → i < count → IsRow (defined_types e) (env_type e) (env_type e i) (slice_get rows i)
