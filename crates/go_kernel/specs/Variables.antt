-- Structs, variables and pointers (Go specification, "Struct types", "Composite literals", "Selectors", "Address
-- operators", "Allocation", "Variables").
use Rattle.std.specs.Prelude.{ℕ, List, [], ◌∷◌, ◌++◌, length, Option, Some, None, codes}
use Rattle.go_kernel.specs.Names.{Name, ImportPath}
use Rattle.go_kernel.specs.Values.{Numbered, Value, Nil, Pointer, field, with_field, with_path, or_nil, runtime_error}
use Rattle.go_kernel.specs.Store.{Memory, Variable, global_in, allocated, at_pointer, written}
use Rattle.go_kernel.specs.Actions.{Attempt, Done, Panics, Change, Outcome, Changes, Refuses}

-- ---- structs

-- the primitive that reads a field of a struct
abbrev pub field_read : ℕ → List Value → List Value
field_read i (v ∷ []) = or_nil (field i v) ∷ []
field_read i _ = []

-- the struct with another value at a path of fields
abbrev pub field_set : List ℕ → List Value → List Value
field_set is (v ∷ x ∷ []) = with_path is x v ∷ []
field_set is _ = []

-- the struct with these values in place of the fields with these numbers
abbrev pub with_fields : List ℕ → List Value → Value → Value
with_fields (i ∷ is) (x ∷ xs) v = with_fields is xs (with_field i x v)
with_fields _ _ v = v

-- ---- pointers

-- the panic of a nil pointer
abbrev pub nil_pointer : Attempt
nil_pointer = Panics (runtime_error (codes "nil pointer"))

-- what was found behind a pointer, or the panic
abbrev pub found : Option Value → Attempt
found None = nil_pointer
found (Some v) = Done (v ∷ [])

-- the primitive that reads what a pointer leads to
abbrev pub load : List Value → Memory → Attempt
load (p ∷ []) c = found (at_pointer p c)
load _ c = Done []

-- the address of a field of the variable that a pointer leads to; without fields, that variable's own
abbrev pub address : List ℕ → List Value → Attempt
address path (Pointer b is ∷ []) = Done (Pointer b (is ++ path) ∷ [])
address path (Nil ∷ []) = nil_pointer
address path _ = Done []

-- a store to a variable; a package variable that was not set yet comes to be
abbrev pub assign : List Value → Memory → Change
assign (p ∷ v ∷ []) c = record { values = []; memory = written p v c; events = [] }
assign _ c = record { values = []; memory = c; events = [] }

-- a store through a pointer that leads somewhere, or the panic
abbrev pub save_found : List Value → Memory → Option Value → Outcome
save_found vs c None = Refuses (runtime_error (codes "nil pointer"))
save_found vs c (Some old) = Changes (assign vs c)

-- a store through a pointer of the program, which may be nil
abbrev pub save : List Value → Memory → Outcome
save (p ∷ v ∷ []) c = save_found (p ∷ v ∷ []) c (at_pointer p c)
save vs c = Changes (assign vs c)

-- the primitive that reads a package variable
abbrev pub read_global : ImportPath → Name → Memory → List Value
read_global p n c = or_nil (global_in p n c.globals) ∷ []

-- ---- new variables

-- the first value
abbrev pub first : List Value → Value
first [] = Nil
first (v ∷ vs) = v

-- the primitive that makes a new variable with a value
abbrev pub alloc : List Value → Memory → Change
alloc vs c =
    record {
      values = Pointer (Numbered (length c.cells)) [] ∷ [];
      memory = allocated (Variable (first vs)) c;
      events = [];
    }
