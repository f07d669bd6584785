-- Values of the profile (Go specification, "Types", "Variables"): whole numbers with their kind, truth values, byte
-- strings, structs, nil, pointers, slices and maps; and what a panic carries (Go specification, "Handling panics",
-- "Run-time panics").
use Rattle.std.specs.Prelude.{ℕ, zero, suc, Bool, List, [], ◌∷◌, Option, Some, None, ℤ}
use Rattle.go_kernel.specs.Names.{Text, Name, ImportPath}

-- the whole-number types (Go specification, "Numeric types"); int and uint have 64 bits
pub data Kind : Type 0 where
  Int Int8 Int16 Int32 Int64 Uint Uint8 Uint16 Uint32 Uint64 : Kind

-- a variable that pointers may lead into: a numbered cell, or a package variable
pub data Base : Type 0 where
  Numbered : ℕ → Base
  Global : ImportPath → Name → Base

-- a struct is With its first field the rest, and ended by Empty. A slice has a cell, the place of its first element
-- there, a length and a capacity; a pointer has a base, and a path of fields and indices
pub data Value : Type 0 where
  Number : Kind → ℤ → Value
  Truth : Bool → Value
  Str : Text → Value
  Nil : Value
  Pointer : Base → List ℕ → Value
  Slice : ℕ → ℕ → ℕ → ℕ → Value
  Map : ℕ → Value
  Empty : Value
  With : Value → Value → Value

-- the struct of these fields
abbrev pub struct_of : List Value → Value
struct_of [] = Empty
struct_of (v ∷ vs) = With v (struct_of vs)

-- the field or element with this number
abbrev pub field : ℕ → Value → Option Value
field zero (With v vs) = Some v
field (suc i) (With v vs) = field i vs
field zero v = None
field (suc i) v = None

-- the value with another field or element of this number
abbrev pub with_field : ℕ → Value → Value → Value
with_field zero x (With v vs) = With x vs
with_field (suc i) x (With v vs) = With v (with_field i x vs)
with_field zero x v = v
with_field (suc i) x v = v

-- what stands at a path of fields, and a value with another there
abbrev pub at_path : List ℕ → Value → Option Value
at_path [] v = Some v
at_path (i ∷ is) v = elim (field i v) [ None ↦ None | Some w ↦ at_path is w ]

-- the value with another at a path of fields
abbrev pub with_path : List ℕ → Value → Value → Value
with_path [] x v = x
with_path (i ∷ is) x v = elim (field i v) [ None ↦ v | Some w ↦ with_field i (with_path is x w) v ]

-- the value, or nil where there is none
abbrev pub or_nil : Option Value → Value
or_nil None = Nil
or_nil (Some v) = v

-- the type with which a panic's value is reported (Go specification, "Handling panics"); run-time panics have a type of
-- their own
mutual
  -- a type, as it is reported
  pub data PanicType : Type 0 where
    RuntimeError BoolType StringType : PanicType
    NumberType : Kind → PanicType
    DefinedType : ImportPath → Name → PanicType
    PointerType SliceType : PanicType → PanicType
    MapType : PanicType → PanicType → PanicType
    StructType : FieldTypes → PanicType

  -- each field: its name, its package where the name is not exported, and its type
  pub data FieldTypes : Type 0 where
    NoField : FieldTypes
    AndField : Name → Option ImportPath → PanicType → FieldTypes → FieldTypes

-- why a program panics: a value and its type
pub record Reason : Type 0 where
  pub of : PanicType
  pub value : Value

-- a run-time panic says what went wrong in one word
abbrev pub runtime_error : Text → Reason
runtime_error word = record { of = RuntimeError; value = Str word }
