-- What an evaluation goes through: the frame of local variables, the store, the pending panic, the deferred calls and
-- the events; and how a term ends (Go specification, "Blocks", "Defer statements", "Handling panics").
use Rattle.std.specs.Prelude.{List, [], ◌∷◌, if◌then◌else◌, Option, bytes_eq}
use Rattle.go_kernel.specs.Names.{Name, Label}
use Rattle.go_kernel.specs.Values.{Value, Nil, Reason}
use Rattle.go_kernel.specs.Store.{Store}
use Rattle.go_kernel.specs.Prims.{Event}
use Rattle.go_kernel.specs.Terms.{Term}

-- the local variables, the innermost first
abbrev pub Frame : Type 0
Frame = List (Name × Value)

-- the value of the innermost local with this name
abbrev pub lookup : Name → Frame → Value
lookup x [] = Nil
lookup x (b ∷ f) = if bytes_eq x b.0 then b.1 else lookup x f

-- the frame with another value of the innermost local with this name
abbrev pub put : Name → Value → Frame → Frame
put x v [] = []
put x v (b ∷ f) = if bytes_eq x b.0 then (b.0, v) ∷ f else b ∷ put x v f

-- the frame after an assignment of values to names
abbrev pub put_all : List Name → List Value → Frame → Frame
put_all [] vs f = f
put_all (x ∷ xs) [] f = f
put_all (x ∷ xs) (v ∷ vs) f = put_all xs vs (put x v f)

-- the frame with these locals added; one without a value has nil
abbrev pub push : List Name → List Value → Frame → Frame
push [] vs f = f
push (x ∷ xs) [] f = (x, Nil) ∷ push xs [] f
push (x ∷ xs) (v ∷ vs) f = (x, v) ∷ push xs vs f

-- the frame without as many of its innermost locals
abbrev pub pop : List Name → Frame → Frame
pop [] f = f
pop (x ∷ xs) [] = []
pop (x ∷ xs) (b ∷ f) = pop xs f

-- a deferred call: the frame with its arguments bound, and what is run in it
pub record Deferred : Type 0 where
  pub frame : Frame
  pub body : Term

-- the last added deferred call and the newest event stand first
pub record State : Type 0 where
  pub frame : Frame
  pub store : Store
  pub pending : Option Reason
  pub defers : List Deferred
  pub out : List Event

-- how a term leaves: to a label, or by a panic
pub data Exit : Type 0 where
  Gone : Label → Exit
  Panic : Reason → Exit

-- a term gives values, leaves, or is cut since the budget is gone
pub data Result : Type 0 where
  Gives : List Value → State → Result
  Leaves : Exit → State → Result
  Cuts : List Event → Result

-- how terms are run at some budget
abbrev pub Level : Type 0
Level = Term → State → Result
