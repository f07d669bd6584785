-- The state of a walk as data (Go specification, Blocks; Declarations and scope; Composite literals).
use Rattle.std.specs.Prelude.{ℕ, List, Option}
use Rattle.type_table.specs.declared.nodes.TypeId.{TypeId}
use Rattle.type_table.specs.TypeRelations.Environment.{Environment}
use Rattle.typed_names.specs.declared.scopes.Scope.{Scope}
use Rattle.typed_names.specs.Meanings.{Names}

-- the table of types, the package blocks, the places of all files and that of the file; the names that are no uses,
-- those that are local, the types of the literals around, and the names that were found
pub record State : Type 0 where
  pub env : Environment
  pub blocks : List Names
  pub files : List Scope
  pub scope : Scope
  pub quiet : List (List ℕ)
  pub locals : Names
  pub literals : List (Option TypeId)
  pub found : List (List ℕ)
