-- The definitions that laws and translations name, in one place.
pub use Rattle.go_kernel.specs.Names.{Text, Name, ImportPath, same_text, temporary, named_result, result_name, spare}
pub use Rattle.go_kernel.specs.Names.{FuncName, same_receiver, same_func, Label, return_label, break_label}
pub use Rattle.go_kernel.specs.Names.{continue_label}
pub use Rattle.go_kernel.specs.Values.{Kind, Base, Value, struct_of, field, with_field, at_path, with_path, or_nil}
pub use Rattle.go_kernel.specs.Values.{PanicType, FieldTypes, Reason, runtime_error, Int, Int8, Int16, Int32, Int64}
pub use Rattle.go_kernel.specs.Values.{Uint, Uint8, Uint16, Uint32, Uint64, Numbered, Global, Number, Truth, Str, Nil}
pub use Rattle.go_kernel.specs.Values.{Pointer, Slice, Map, Empty, With, RuntimeError, BoolType, StringType, NumberType}
pub use Rattle.go_kernel.specs.Values.{DefinedType, PointerType, SliceType, MapType, StructType, NoField, AndField}
pub use Rattle.go_kernel.specs.Store.{Cell, GlobalVariable, Memory, Store, empty_store, value_at, Variable, Elements}
pub use Rattle.go_kernel.specs.Store.{Entries}
pub use Rattle.go_kernel.specs.Ops.{Arithmetic, Division, Direction, Comparison, Check, Printer, Op, Add, Sub, Mul, And}
pub use Rattle.go_kernel.specs.Ops.{Or, Xor, AndNot, Quotient, Remainder, Left, Right, Equal, NotEqual, Less}
pub use Rattle.go_kernel.specs.Ops.{LessOrEqual, Greater, GreaterOrEqual, Checked, Unchecked, Print, Println, Arith}
pub use Rattle.go_kernel.specs.Ops.{Divide, Shift, Negate, Complement, Convert, Not, Compare, Concat, ByteAt}
pub use Rattle.go_kernel.specs.Ops.{BytesOfString, StringOfBytes, Field, SetField, StructLit, ReadGlobal, GlobalAddress}
pub use Rattle.go_kernel.specs.Ops.{Load, Save, Address, Alloc, SliceLit, MakeSlice, Element, ElementAddress, Len, Cap}
pub use Rattle.go_kernel.specs.Ops.{Copy, Append, Slicing, MapLit, MakeMap, MapLen, MapSet, MapDelete, MapGet, MapTry}
pub use Rattle.go_kernel.specs.Ops.{RangeMap, RangeNext, Emit, Fail}
pub use Rattle.go_kernel.specs.Actions.{Event, Answer, Ok, Fails}
pub use Rattle.go_kernel.specs.Prims.{gives}
unfoldable pub use Rattle.go_kernel.specs.Prims.{prim}
pub use Rattle.go_kernel.specs.Effects.{Effect, computes, looks, changes, chooses, or_panics, checked, effect}
pub use Rattle.go_kernel.specs.Effects.{values_of}
unfoldable pub use Rattle.go_kernel.specs.Effects.{IsPure, IsLook, SeesMemory, IsCalm, KeepsMemory, Keeps, Makes}
pub use Rattle.go_kernel.specs.Terms.{Slot, Term, Func, code, Program, in_cells, no_func, declared, InFrame, InCell}
pub use Rattle.go_kernel.specs.Terms.{Vals, Local, Set, Both, Prim, If, Let, Loop, Leave, Catch, Within, Alone, Recover}
pub use Rattle.go_kernel.specs.Terms.{Call, Defer, DeferLit}
pub use Rattle.go_kernel.specs.State.{Frame, lookup, put, put_all, push, pop, Deferred, State, Exit, Result, Level}
pub use Rattle.go_kernel.specs.State.{Gone, Panic, Gives, Leaves, Cuts}
pub use Rattle.go_kernel.specs.Eval.{after, answered, on_truth, popped, caught_by, read_slot, read_slots, with_slots}
pub use Rattle.go_kernel.specs.Eval.{entered, back, called, ending, panic_of, run_one, unwind, resumed, unwound}
pub use Rattle.go_kernel.specs.Eval.{with_pending, is_pending, eval, cut, level, free_pick, picks, chain, free_level}
pub use Rattle.go_kernel.specs.Shows.{Shown, shown, start, shows, free_shows, Ext, Covers, Running, Ended, Panicked}
pub use Rattle.go_kernel.specs.Shows.{same, ended, panicked, running}
