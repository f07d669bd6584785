-- What each primitive does with its operands and the store, and how many values it gives.
use Rattle.std.specs.Prelude.{ℕ, List, [], ◌∷◌}
use Rattle.go_kernel.specs.Values.{Value, Global, Pointer, PanicType}
use Rattle.go_kernel.specs.Store.{Memory, Store}
use Rattle.go_kernel.specs.Ops.{Check, Checked, Unchecked, Printer, Op, Arith, Divide, Shift, Negate, Complement}
use Rattle.go_kernel.specs.Ops.{Convert, Not, Compare, Concat, ByteAt, BytesOfString, StringOfBytes, Field, SetField}
use Rattle.go_kernel.specs.Ops.{StructLit, ReadGlobal, GlobalAddress, Load, Save, Address, Alloc, SliceLit, MakeSlice}
use Rattle.go_kernel.specs.Ops.{Element, ElementAddress, Len, Cap, Copy, Append, Slicing, MapLit, MakeMap, MapLen}
use Rattle.go_kernel.specs.Ops.{MapSet, MapDelete, MapGet, MapTry, RangeMap, RangeNext, Emit, Fail}
pub use Rattle.go_kernel.specs.Actions.{Event, Answer, Ok, Fails}
use Rattle.go_kernel.specs.Actions.{Attempt, Panics, Change, Action, Compute, Read, Try, TryRead, Write, TryWrite, Draw}
use Rattle.go_kernel.specs.Actions.{perform, try_if, try_read_if}
use Rattle.go_kernel.specs.Numbers.{arith, divide, shift, negate, complement, convert}
use Rattle.go_kernel.specs.Comparisons.{compare, negation}
use Rattle.go_kernel.specs.Variables.{field_read, field_set, with_fields, load, address, save, assign, read_global}
use Rattle.go_kernel.specs.Variables.{first, alloc}
use Rattle.go_kernel.specs.Slices.{concat, len, cap, element, element_address, byte_at, slicing, slice_lit, make_slice}
use Rattle.go_kernel.specs.Slices.{append, copy, string_of_bytes, bytes_of_string}
use Rattle.go_kernel.specs.Maps.{map_len, map_get, map_try, new_map, map_lit, map_set, map_delete, range_map}
use Rattle.go_kernel.specs.Maps.{range_next}

-- a store, which panics on nil where it goes through a pointer of the program
abbrev pub save_if : Check → Action
save_if Checked = TryWrite save
save_if Unchecked = Write assign

-- 'print' and 'println' (Go specification, "Bootstrapping")
abbrev pub emit : Printer → List Value → Memory → Change
emit p vs c = record { values = []; memory = c; events = record { printer = p; values = vs } ∷ [] }

-- 'panic' (Go specification, "Handling panics")
abbrev pub panic : PanicType → List Value → Attempt
panic t vs = Panics (record { of = t; value = first vs })

-- what each primitive does
abbrev pub action : Op → Action
action (Arith o k) = Compute (arith o k)
action (Divide c o k) = try_if c (divide o k)
action (Shift c d k) = try_if c (shift d k)
action (Negate k) = Compute (negate k)
action (Complement k) = Compute (complement k)
action (Convert k) = Compute (convert k)
action Not = Compute negation
action (Compare o) = Compute (compare o)
action Concat = Compute concat
action ByteAt = Try byte_at
action BytesOfString = Write bytes_of_string
action StringOfBytes = Read string_of_bytes
action (Field i) = Compute (field_read i)
action (SetField is) = Compute (field_set is)
action (StructLit z is) = Compute (λ vs. with_fields is vs z ∷ [])
action (ReadGlobal p n) = Read (λ vs c. read_global p n c)
action (GlobalAddress p n) = Compute (λ vs. Pointer (Global p n) [] ∷ [])
action (Load c) = try_read_if c load
action (Save c) = save_if c
action (Address c is) = try_if c (address is)
action Alloc = Write alloc
action (SliceLit z is) = Write (slice_lit z is)
action (MakeSlice z) = TryWrite (make_slice z)
action Element = TryRead element
action ElementAddress = Try element_address
action Len = Compute len
action Cap = Compute cap
action Copy = Write copy
action (Append z) = Write (append z)
action (Slicing low high) = Try (slicing low high)
action MapLit = Write map_lit
action MakeMap = Write (λ vs c. new_map [] c)
action MapLen = Read map_len
action MapSet = TryWrite map_set
action MapDelete = Write map_delete
action (MapGet z) = Read (map_get z)
action (MapTry z) = Read (map_try z)
action RangeMap = Read range_map
action RangeNext = Draw range_next
action (Emit p) = Write (emit p)
action (Fail t) = Try (panic t)

-- how many values each primitive gives
abbrev pub gives : Op → ℕ
gives (Save c) = 0
gives MapSet = 0
gives MapDelete = 0
gives (Emit p) = 0
gives (Fail t) = 0
gives (MapTry z) = 2
gives RangeNext = 4
gives _ = 1

-- the answer of a primitive on operands over a store
unfoldable pub prim : Op → List Value → Store → Answer
prim o vs c = perform (gives o) (action o) vs c
