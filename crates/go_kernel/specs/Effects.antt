-- The table of primitives: whether each may panic, whether what it gives may depend on the store, whether it may change
-- the memory or print, and whether it takes choices. What is not said to panic never does, whatever its operands (Go
-- specification, "Run-time panics", "Order of evaluation").
use Rattle.std.specs.Prelude.{◌≡◌, ℕ, Bool, true, false, List, [], length}
use Rattle.go_kernel.specs.Values.{Value, Reason}
use Rattle.go_kernel.specs.Store.{Store, empty_store}
use Rattle.go_kernel.specs.Actions.{Event, Answer, Ok, Fails}
use Rattle.go_kernel.specs.Prims.{prim}
use Rattle.go_kernel.specs.Ops.{Check, Checked, Unchecked, Op, Arith, Divide, Shift, Negate, Complement, Convert, Not}
use Rattle.go_kernel.specs.Ops.{Compare, Concat, ByteAt, BytesOfString, StringOfBytes, Field, SetField, StructLit}
use Rattle.go_kernel.specs.Ops.{ReadGlobal, GlobalAddress, Load, Save, Address, Alloc, SliceLit, MakeSlice, Element}
use Rattle.go_kernel.specs.Ops.{ElementAddress, Len, Cap, Copy, Append, Slicing, MapLit, MakeMap, MapLen, MapSet}
use Rattle.go_kernel.specs.Ops.{MapDelete, MapGet, MapTry, RangeMap, RangeNext, Emit, Fail}

-- whether a primitive may panic, depends on the store, changes the memory or prints, and takes choices
pub record Effect : Type 0 where
  pub may_panic : Bool
  pub reads : Bool
  pub writes : Bool
  pub draws : Bool

-- depends on its operands alone
abbrev pub computes : Effect
computes = record { may_panic = false; reads = false; writes = false; draws = false }

-- reads the memory
abbrev pub looks : Effect
looks = record { may_panic = false; reads = true; writes = false; draws = false }

-- reads and changes the memory, or prints
abbrev pub changes : Effect
changes = record { may_panic = false; reads = true; writes = true; draws = false }

-- reads the memory and takes a choice
abbrev pub chooses : Effect
chooses = record { may_panic = false; reads = true; writes = false; draws = true }

-- the same, and it may panic
abbrev pub or_panics : Effect → Effect
or_panics e = record e { may_panic = true }

-- a primitive may panic where it looks for a fault
abbrev pub checked : Check → Effect → Effect
checked Checked e = or_panics e
checked Unchecked e = e

-- the effect of each primitive
abbrev pub effect : Op → Effect
effect (Arith o k) = computes
effect (Divide c o k) = checked c computes
effect (Shift c d k) = checked c computes
effect (Negate k) = computes
effect (Complement k) = computes
effect (Convert k) = computes
effect Not = computes
effect (Compare o) = computes
effect Concat = computes
effect ByteAt = or_panics computes
effect BytesOfString = changes
effect StringOfBytes = looks
effect (Field i) = computes
effect (SetField is) = computes
effect (StructLit z is) = computes
effect (ReadGlobal p n) = looks
effect (GlobalAddress p n) = computes
effect (Load c) = checked c looks
effect (Save c) = checked c changes
effect (Address c is) = checked c computes
effect Alloc = changes
effect (SliceLit z is) = changes
effect (MakeSlice z) = or_panics changes
effect Element = or_panics looks
effect ElementAddress = or_panics computes
effect Len = computes
effect Cap = computes
effect Copy = changes
effect (Append z) = changes
effect (Slicing low high) = or_panics computes
effect MapLit = changes
effect MakeMap = changes
effect MapLen = looks
effect MapSet = or_panics changes
effect MapDelete = changes
effect (MapGet z) = looks
effect (MapTry z) = looks
effect RangeMap = looks
effect RangeNext = chooses
effect (Emit p) = changes
effect (Fail t) = or_panics computes

-- ---- what the table says of the answers

-- the values of an answer; a panic has none
abbrev pub values_of : Answer → List Value
values_of (Ok vs c e) = vs
values_of (Fails p) = []

-- never panics, changes nothing, and gives the same values over each store
unfoldable pub IsPure : Op → Type 0
IsPure o = (vs : List Value) (c : Store) → prim o vs c ≡ Ok (values_of (prim o vs (empty_store []))) c []

-- never panics and changes nothing
unfoldable pub IsLook : Op → Type 0
IsLook o = (vs : List Value) (c : Store) → prim o vs c ≡ Ok (values_of (prim o vs c)) c []

-- gives the same values over each store with the same memory
unfoldable pub SeesMemory : Op → Type 0
SeesMemory o = (vs : List Value) (c d : Store) → c.memory ≡ d.memory → values_of (prim o vs c) ≡ values_of (prim o vs d)

-- never panics
unfoldable pub IsCalm : Op → Type 0
IsCalm o = (vs : List Value) (c : Store) (p : Reason) → prim o vs c ≡ Fails p → ⊥

-- changes no memory and prints nothing, whether it panics or not
unfoldable pub KeepsMemory : Op → Type 0
KeepsMemory o = (vs ws : List Value) (c d : Store) (e : List Event) → prim o vs c ≡ Ok ws d e →
    (d.memory ≡ c.memory) × (e ≡ [])

-- and takes no choice
unfoldable pub Keeps : Op → Type 0
Keeps o = (vs ws : List Value) (c d : Store) (e : List Event) → prim o vs c ≡ Ok ws d e → (d ≡ c) × (e ≡ [])

-- gives k values
unfoldable pub Makes : Op → ℕ → Type 0
Makes o k = (vs ws : List Value) (c d : Store) (e : List Event) → prim o vs c ≡ Ok ws d e → length ws ≡ k
