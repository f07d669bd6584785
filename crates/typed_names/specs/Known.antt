-- Names whose types are in the table (Go specification, Declarations and scope).
use Rattle.std.specs.Prelude.{◌<◌, List, [], ◌∷◌, length}
use Rattle.type_table.specs.TypeRelations.Environment.{Environment}
use Rattle.type_table.specs.declared.operand_rules.values.ValueType.TheVariants.{Typed}
use Rattle.type_table.specs.OperandRules.Values.{IsType}
use Rattle.typed_names.specs.declared.entities.Entity.{Entity}
use Rattle.typed_names.specs.declared.entities.Entity.TheVariants.{Variable, Constant, TypeName, Function, Package}
use Rattle.typed_names.specs.declared.entities.Entity.TheVariants.{Predeclared, Refused}
use Rattle.typed_names.specs.declared.scopes.Scope.{Scope}
use Rattle.typed_names.specs.Meanings.{Names}

-- the types of an entity are in the table; that of a constant may be untyped
abbrev pub HasTypes : Environment → Entity → Type 0
HasTypes e (Variable t) = IsType e (Typed t)
HasTypes e (Constant t c) = IsType e t
HasTypes e (TypeName t) = IsType e (Typed t)
HasTypes e (Function ps rs) = (ps.0 < length e.rows) × (rs.0 < length e.rows)
HasTypes e (Package p) = Unit {0}
HasTypes e (Predeclared p) = Unit {0}
HasTypes e Refused = Unit {0}

-- so of all names
abbrev pub HaveTypes : Environment → Names → Type 0
HaveTypes e [] = Unit {0}
HaveTypes e (b ∷ bs) = HasTypes e b.1 × HaveTypes e bs

-- so of all package blocks
abbrev pub AllHaveTypes : Environment → List Names → Type 0
AllHaveTypes e [] = Unit {0}
AllHaveTypes e (b ∷ bs) = HaveTypes e b × AllHaveTypes e bs

-- so of all names at a place
pub record KnowsTypes (e : Environment) (bs : List Names) (s : Scope) : Type 0 where
  pub locals : HaveTypes e s.locals
  pub imports : HaveTypes e s.imports
  pub members : AllHaveTypes e bs
