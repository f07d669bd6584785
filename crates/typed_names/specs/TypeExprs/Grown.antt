-- An environment to which types are added: those that are there stay, and no type is defined.
use Rattle.std.specs.Prelude.{◌≡◌, ℕ, ◌<◌, ◌≤◌, length}
use Rattle.type_table.specs.TypeRelations.Environment.{Environment, defined_types, env_type}

-- the types that are there stay
pub record TypesGrown (old new : Environment) : Type 0 where
  pub more : length old.rows ≤ length new.rows
  pub types : (i : ℕ) → i < length old.rows → env_type new i ≡ env_type old i
  pub definitions : new.defined ≡ old.defined
  pub defined : defined_types new ≡ defined_types old
