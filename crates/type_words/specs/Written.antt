-- How far the fields of a struct, or types in parentheses, are written.
use Rattle.std.specs.Prelude.{◌≡◌, ℕ, Bool, false, List, ◌++◌, length, map}
use Rattle.type_table.specs.declared.nodes.TypeId.{TypeId}
use Rattle.type_table.specs.declared.nodes.Field.{Field}
use Rattle.type_table.specs.Rows.{FieldsBelow, IdsBelow, field_of}
use Rattle.type_table.specs.TypesAt.{fields_by, types_by}
use Rattle.type_table.specs.TypeRelations.Environment.{Environment, env_type}
use Rattle.type_words.specs.TypeText.{fields_text, types_text}

module _ (home : ℕ) (paths : List (List ℕ)) (e : Environment) where
  -- the text of fields by their rows
  abbrev pub field_rows : Bool → List Field → List ℕ
  field_rows later fields = fields_text home paths later (fields_by (env_type e) (map field_of fields))

  -- the text of types by their numbers
  abbrev pub type_rows : Bool → List TypeId → List ℕ
  type_rows later ts = types_text home paths later (types_by (env_type e) (map (λ t. t.0) ts))

  -- these fields are left to be written behind what is written of all
  pub record FieldsWritten (before now : List ℕ) (fields : List Field) (later : Bool) (left : List Field) : Type 0 where
    pub within : FieldsBelow (length e.rows) left
    pub text : now ++ field_rows later left ≡ before ++ field_rows false fields

  -- so for types
  pub record TypesWritten (before now : List ℕ) (ts : List TypeId) (later : Bool) (left : List TypeId) : Type 0 where
    pub within : IdsBelow (length e.rows) left
    pub text : now ++ type_rows later left ≡ before ++ type_rows false ts
