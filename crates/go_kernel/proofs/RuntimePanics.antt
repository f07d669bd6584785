-- Checks: each run-time panic has its word, the accesses at the edges have none, and what the table doesn't name never panics (Go specification, "Run-time panics" and the section of each operation).
use Rattle.std.proofs.Common.{◌≡◌, refl}
use Rattle.std.specs.Prelude.{ℕ, ◌^◌, List, [], ◌∷◌, true, false, pos, negsuc, codes}
use Rattle.go_kernel.specs.Kernel.{Int, Int8, Uint8, Uint64, Value, Number, Str, Nil, Pointer, Numbered, Slice, runtime_error, StringType, Store, Variable, Elements, Entries, Op, Divide, Quotient, Remainder, Shift, Left, Checked, Unchecked, ByteAt, Element, ElementAddress, Slicing, Load, Save, Address, MakeSlice, MapSet, MapGet, MapDelete, MapLen, Len, Fail, Arith, Add, Answer, Ok, Fails, prim}
use Rattle.go_kernel.proofs.Programs.{int, minus}

-- a slice of two of three elements, a variable, and a map
abbrev some_cells : Store
some_cells = record { memory = record { globals = []; cells = Elements (int 10 ∷ int 20 ∷ int 30 ∷ []) ∷ Variable (int 7) ∷ Entries ((int 1, int 5) ∷ []) ∷ [] }; choices = [] }

abbrev two : Value
two = Slice 0 0 2 3

abbrev on : Op → List Value → Answer
on o vs = prim o vs some_cells

abbrev gives : List Value → Answer
gives vs = Ok vs some_cells []

abbrev panics : List ℕ → Answer
panics word = Fails (runtime_error word)

-- ---- division and shifts

quotient_zero : on (Divide Checked Quotient Int) (int 1 ∷ int 0 ∷ []) ≡ panics (codes "divide")
unfolding prim
quotient_zero = refl

remainder_zero : on (Divide Checked Remainder Uint8) (Number Uint8 (pos 1) ∷ Number Uint8 (pos 0) ∷ []) ≡ panics (codes "divide")
unfolding prim
remainder_zero = refl

negative_count : on (Shift Checked Left Int) (int 1 ∷ minus 1 ∷ []) ≡ panics (codes "shift")
unfolding prim
negative_count = refl

-- ---- indices

element_last : on Element (two ∷ int 1 ∷ []) ≡ gives (int 20 ∷ [])
unfolding prim
element_last = refl

element_past : on Element (two ∷ int 2 ∷ []) ≡ panics (codes "index")
unfolding prim
element_past = refl

element_negative : on Element (two ∷ Number Int8 (negsuc 0) ∷ []) ≡ panics (codes "index")
unfolding prim
element_negative = refl

element_nil : on Element (Nil ∷ int 0 ∷ []) ≡ panics (codes "index")
unfolding prim
element_nil = refl

address_past : on ElementAddress (two ∷ int 2 ∷ []) ≡ panics (codes "index")
unfolding prim
address_past = refl

byte_last : on ByteAt (Str (codes "ab") ∷ int 1 ∷ []) ≡ gives (Number Uint8 (pos 98) ∷ [])
unfolding prim
byte_last = refl

byte_past : on ByteAt (Str (codes "ab") ∷ int 2 ∷ []) ≡ panics (codes "index")
unfolding prim
byte_past = refl

-- ---- bounds: 0 <= low <= high <= capacity of a slice, length of a string

to_capacity : on (Slicing false true) (two ∷ int 3 ∷ []) ≡ gives (Slice 0 0 3 3 ∷ [])
unfolding prim
to_capacity = refl

past_capacity : on (Slicing false true) (two ∷ int 4 ∷ []) ≡ panics (codes "bounds")
unfolding prim
past_capacity = refl

falling : on (Slicing true true) (two ∷ int 2 ∷ int 1 ∷ []) ≡ panics (codes "bounds")
unfolding prim
falling = refl

negative_bound : on (Slicing true false) (two ∷ minus 1 ∷ []) ≡ panics (codes "bounds")
unfolding prim
negative_bound = refl

-- a missing high bound is the length, also where the capacity is more
past_length : on (Slicing true false) (two ∷ int 3 ∷ []) ≡ panics (codes "bounds")
unfolding prim
past_length = refl

string_bounds : on (Slicing true true) (Str (codes "abc") ∷ int 1 ∷ int 4 ∷ []) ≡ panics (codes "bounds")
unfolding prim
string_bounds = refl

nil_slice : on (Slicing true true) (Nil ∷ int 0 ∷ int 0 ∷ []) ≡ gives (Nil ∷ [])
unfolding prim
nil_slice = refl

nil_bounds : on (Slicing true true) (Nil ∷ int 0 ∷ int 1 ∷ []) ≡ panics (codes "bounds")
unfolding prim
nil_bounds = refl

-- ---- pointers

load_nil : on (Load Checked) (Nil ∷ []) ≡ panics (codes "nil pointer")
unfolding prim
load_nil = refl

save_nil : on (Save Checked) (Nil ∷ int 1 ∷ []) ≡ panics (codes "nil pointer")
unfolding prim
save_nil = refl

-- &x.f and &*x panic where x is nil
field_of_nil : on (Address Checked (1 ∷ [])) (Nil ∷ []) ≡ panics (codes "nil pointer")
unfolding prim
field_of_nil = refl

target_of_nil : on (Address Checked []) (Nil ∷ []) ≡ panics (codes "nil pointer")
unfolding prim
target_of_nil = refl

load_there : on (Load Checked) (Pointer (Numbered 1) [] ∷ []) ≡ gives (int 7 ∷ [])
unfolding prim
load_there = refl

-- ---- maps: nil is read as an empty one, and only a write to it panics

set_nil : on MapSet (Nil ∷ int 1 ∷ int 2 ∷ []) ≡ panics (codes "nil map")
unfolding prim
set_nil = refl

get_nil : on (MapGet (int 0)) (Nil ∷ int 1 ∷ []) ≡ gives (int 0 ∷ [])
unfolding prim
get_nil = refl

delete_nil : on MapDelete (Nil ∷ int 1 ∷ []) ≡ gives []
unfolding prim
delete_nil = refl

len_nil : on MapLen (Nil ∷ []) ≡ gives (int 0 ∷ [])
unfolding prim
len_nil = refl

-- ---- sizes in 'make'

negative_size : on (MakeSlice (int 0)) (minus 1 ∷ []) ≡ panics (codes "size")
unfolding prim
negative_size = refl

above_capacity : on (MakeSlice (int 0)) (int 3 ∷ int 2 ∷ []) ≡ panics (codes "size")
unfolding prim
above_capacity = refl

no_int : on (MakeSlice (int 0)) (Number Uint64 (pos (2 ^ 63)) ∷ []) ≡ panics (codes "size")
unfolding prim
no_int = refl

-- ---- 'panic' has the type and value of its operand

own_panic : on (Fail StringType) (Str (codes "x") ∷ []) ≡ Fails (record { of = StringType; value = Str (codes "x") })
unfolding prim
own_panic = refl

-- ---- on values that no typed program gives them, primitives answer nil for what is missing

no_number : on (Arith Add Int) (Nil ∷ int 1 ∷ []) ≡ gives (Nil ∷ [])
unfolding prim
no_number = refl

no_operand : on Len [] ≡ gives (Nil ∷ [])
unfolding prim
no_operand = refl

unchecked_zero : on (Divide Unchecked Quotient Int) (int 1 ∷ int 0 ∷ []) ≡ gives (Nil ∷ [])
unfolding prim
unchecked_zero = refl

unchecked_nil : on (Load Unchecked) (Nil ∷ []) ≡ gives (Nil ∷ [])
unfolding prim
unchecked_nil = refl
