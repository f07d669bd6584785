-- What an environment's fields hold.
use Rattle.std.specs.Prelude.{ℕ, map}
use Rattle.type_table.specs.declared.nodes.TypeId.{TypeId}
use Rattle.type_table.specs.declared.type_relations.env.Env.TheInside.{Inside}
use Rattle.type_table.specs.TypeRelations.Environment.{Definition, Environment}

-- what a type is defined as
abbrev pub definition_of : ℕ × TypeId → Definition
definition_of d = record { type = d.0; under = d.1.0 }

-- the fields
abbrev pub seen : Inside → Environment
seen a =
    record {
      rows = a.types;
      defined = map definition_of a.unders.entries;
      methods = a.methods.entries;
    }
