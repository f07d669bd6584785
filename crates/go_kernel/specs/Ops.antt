-- The primitives: what an operator, a conversion, a predeclared function or an access to a variable does once its
-- operands are evaluated (Go specification, "Expressions", "Built-in functions").
use Rattle.std.specs.Prelude.{ℕ, Bool, List}
use Rattle.go_kernel.specs.Names.{Name, ImportPath}
use Rattle.go_kernel.specs.Values.{Kind, Value, PanicType}

-- operators on whole numbers that can't fail
pub data Arithmetic : Type 0 where
  Add Sub Mul And Or Xor AndNot : Arithmetic

-- the operators `/` and `%`
pub data Division : Type 0 where
  Quotient Remainder : Division

-- the operators `<<` and `>>`
pub data Direction : Type 0 where
  Left Right : Direction

-- the comparison operators
pub data Comparison : Type 0 where
  Equal NotEqual Less LessOrEqual Greater GreaterOrEqual : Comparison

-- whether a primitive looks for a fault that would make it panic, or the program's text shows that there is none
pub data Check : Type 0 where
  Checked Unchecked : Check

-- the word of an event
pub data Printer : Type 0 where
  Print Println : Printer

-- the primitives
pub data Op : Type 0 where
  -- whole numbers of a kind. Division is unchecked by a constant that is not zero, a shift by a count of an unsigned
  -- type or a constant
  Arith : Arithmetic → Kind → Op
  Divide : Check → Division → Kind → Op
  Shift : Check → Direction → Kind → Op
  Negate Complement Convert : Kind → Op
  -- truth values
  Not : Op
  Compare : Comparison → Op
  -- strings
  Concat ByteAt BytesOfString StringOfBytes : Op
  -- structs: a field; the struct with another value at a path of fields; the zero value with operands in place of the
  -- fields with these numbers
  Field : ℕ → Op
  SetField : List ℕ → Op
  StructLit : Value → List ℕ → Op
  -- variables: a package variable's value and address; the value that a pointer leads to, and a store there; the
  -- address of the field at a path. Unchecked is an access to a variable, checked one through a pointer of the program,
  -- which may be nil
  ReadGlobal GlobalAddress : ImportPath → Name → Op
  Load Save : Check → Op
  Address : Check → List ℕ → Op
  -- a new variable with a value
  Alloc : Op
  -- slices, with the zero value of their elements; a slice literal has its operands at these indices
  SliceLit : Value → List ℕ → Op
  MakeSlice : Value → Op
  Element ElementAddress Len Cap Copy : Op
  Append : Value → Op
  -- slicing of slices and strings, with or without a low and a high bound
  Slicing : Bool → Bool → Op
  -- maps; a read has the zero value, which a missing key gives, and with MapTry whether the key is there. A map literal
  -- has keys and values in turn
  MapLit MakeMap MapLen MapSet MapDelete : Op
  MapGet MapTry : Value → Op
  -- a range over a map: what it remembers at first, and its next turn
  RangeMap RangeNext : Op
  -- 'print' and 'println', which are one event each, and 'panic' with an operand of this type
  Emit : Printer → Op
  Fail : PanicType → Op
