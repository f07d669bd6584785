-- What is stored to, or has an address: where it begins, and the fields from there (Go specification, "Address
-- operators", "Assignment statements", "IncDec statements", "Selectors").
use Rattle.std.specs.Prelude.{ℕ, zero, suc, ◌+◌, List, [], ◌∷◌, ◌++◌, length}
use Rattle.go_kernel.specs.Kernel.{Name, ImportPath, Value, temporary, Checked, Unchecked, Field, SetField, ReadGlobal}
use Rattle.go_kernel.specs.Kernel.{GlobalAddress, Load, Save, Address, ElementAddress, Element, MapGet, MapSet, Term}
use Rattle.go_kernel.specs.Kernel.{Local, Set, Both, Prim, Let}
use Rattle.go_translation.specs.Values.{nothing}

-- nothing, for `_`; a variable in the frame, in a cell, or of a package; what a pointer points to; an element of a
-- slice, by the slice and the index; an element of a map, by the map and the key, with the zero value that a missing
-- key gives
pub data Root : Type 0 where
  nowhere : Root
  in_frame in_cell : Name → Root
  in_package : ImportPath → Name → Root
  pointed at_index : Term → Root
  at_key : Value → Term → Root

-- and the numbers of the fields from there
pub record Place : Type 0 where
  pub root : Root
  pub path : List ℕ

-- the variable or element itself
abbrev pub from : Root → Place
from r = record { root = r; path = [] }

-- a field of the place
abbrev pub field_at : ℕ → Place → Place
field_at i p = record p { path = p.path ++ i ∷ [] }

-- ---- operands, which are evaluated before the place is used

-- what is evaluated before a place is stored to: a pointer, or a slice or map with its index or key
abbrev pub operands : Root → Term
operands (pointed p) = p
operands (at_index a) = a
operands (at_key z a) = a
operands _ = nothing

-- how many values those are
abbrev pub operand_count : Root → ℕ
operand_count (pointed p) = 1
operand_count (at_index a) = 2
operand_count (at_key z a) = 2
operand_count _ = 0

-- ---- with its operands at hand: read, stored to, and its address

-- the field of a value at a path
abbrev pub fields_of : List ℕ → Term → Term
fields_of [] v = v
fields_of (i ∷ is) v = fields_of is (Prim (Field i) v)

-- the address of a field of a variable, which is there
abbrev pub field_address : List ℕ → Term → Term
field_address [] p = p
field_address (i ∷ is) p = Prim (Address Unchecked (i ∷ is)) p

-- of what a pointer of the program points to, which may be nil
abbrev pub pointed_address : List ℕ → Term → Term
pointed_address is p = Prim (Address Checked is) p

-- a store to a variable in the frame, or to a field of it
abbrev pub stored_in_frame : Name → List ℕ → Term → Term
stored_in_frame x [] v = Set (x ∷ []) v
stored_in_frame x (i ∷ is) v = Set (x ∷ []) (Prim (SetField (i ∷ is)) (Both (Local x) v))

-- a store to what a pointer of the program points to, or to a field of it
abbrev pub stored_by_pointer : List ℕ → Term → Term → Term
stored_by_pointer [] p v = Prim (Save Checked) (Both p v)
stored_by_pointer (i ∷ is) p v = Prim (Save Unchecked) (Both (pointed_address (i ∷ is) p) v)

-- the value at a place, whose operands have these values
abbrev pub read_place : Root → List ℕ → Term → Term
read_place nowhere is a = nothing
read_place (in_frame x) is a = fields_of is (Local x)
read_place (in_cell x) is a = fields_of is (Prim (Load Unchecked) (Local x))
read_place (in_package p n) is a = fields_of is (Prim (ReadGlobal p n) nothing)
read_place (pointed e) is a = fields_of is (Prim (Load Checked) a)
read_place (at_index e) is a = fields_of is (Prim Element a)
read_place (at_key z e) is a = fields_of is (Prim (MapGet z) a)

-- a store of v at a place, whose operands have these values
abbrev pub store_at : Root → List ℕ → Term → Term → Term
store_at nowhere is a v = nothing
store_at (in_frame x) is a v = stored_in_frame x is v
store_at (in_cell x) is a v = Prim (Save Unchecked) (Both (field_address is (Local x)) v)
store_at (in_package p n) is a v = Prim (Save Unchecked) (Both (field_address is (Prim (GlobalAddress p n) nothing)) v)
store_at (pointed e) is a v = stored_by_pointer is a v
store_at (at_index e) is a v = Prim (Save Unchecked) (Both (field_address is (Prim ElementAddress a)) v)
store_at (at_key z e) is a v = Prim MapSet (Both a v)

-- `&`: the address of a variable in a cell or a package, of a field or element, or of what a pointer points to
abbrev pub address_of : Root → List ℕ → Term
address_of (in_cell x) is = field_address is (Local x)
address_of (in_package p n) is = field_address is (Prim (GlobalAddress p n) nothing)
address_of (pointed e) is = pointed_address is e
address_of (at_index e) is = field_address is (Prim ElementAddress e)
address_of r is = nothing

-- the address of a place
abbrev pub address_term : Place → Term
address_term p = address_of p.root p.path

-- ---- temporaries, which nest and hide each other

-- n temporaries from number k on
abbrev pub temporaries : ℕ → ℕ → List Name
temporaries k zero = []
temporaries k (suc n) = temporary k ∷ temporaries (suc k) n

-- the values of these locals
abbrev pub local_values : List Name → Term
local_values [] = nothing
local_values (x ∷ xs) = Both (Local x) (local_values xs)

-- how many operands the places have together
abbrev pub operand_counts : List Place → ℕ
operand_counts [] = 0
operand_counts (p ∷ ps) = operand_count p.root + operand_counts ps

-- the operands of the places, from left to right
abbrev pub all_operands : List Place → Term
all_operands [] = nothing
all_operands (p ∷ ps) = Both (operands p.root) (all_operands ps)

-- the checks and stores from left to right: operands stand from temporary k on, values from temporary j on
abbrev pub stores : ℕ → ℕ → List Place → Term
stores k j [] = nothing
stores k j (p ∷ ps) =
    Let [] (store_at p.root p.path (local_values (temporaries k (operand_count p.root))) (Local (temporary j)))
    (stores (k + operand_count p.root) (suc j) ps)

-- `ps = values`: the operands of the left sides, then the values, then the checks and stores; temporaries from k on
abbrev pub assignment : ℕ → List Place → Term → Term
assignment k ps values =
    let n : ℕ = operand_counts ps in
    Let (temporaries k n) (all_operands ps) (Let (temporaries (k + n) (length ps)) values (stores k (k + n) ps))

-- `p op= y`: the operands of p, p with its checks, then what f makes of it, then the store
abbrev pub update : Place → (Term → Term) → Term
update p f =
    let n : ℕ = operand_count p.root in
    Let (temporaries 0 n) (operands p.root)
    (Let (temporary n ∷ []) (f (read_place p.root p.path (local_values (temporaries 0 n)))) (stores 0 n (p ∷ [])))
