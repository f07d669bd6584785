-- What a primitive may do, told by the kind of its definition: one that computes is handed no memory and one that reads
-- can't change it, so neither can be done by mistake.
use Rattle.std.specs.Prelude.{ℕ, zero, suc, List, [], ◌∷◌}
use Rattle.go_kernel.specs.Values.{Value, Nil, Reason}
use Rattle.go_kernel.specs.Store.{Memory, Store}
use Rattle.go_kernel.specs.Ops.{Check, Checked, Unchecked, Printer}

-- one 'print' or 'println' (Go specification, "Bootstrapping"); each value tells its kind
pub record Event : Type 0 where
  pub printer : Printer
  pub values : List Value

-- the answer of a primitive: values, the store and new events, or a panic, which changes nothing
pub data Answer : Type 0 where
  Ok : List Value → Store → List Event → Answer
  Fails : Reason → Answer

-- of a primitive that keeps the store: values or a panic
pub data Attempt : Type 0 where
  Done : List Value → Attempt
  Panics : Reason → Attempt

-- of a primitive that can't panic
pub record Change : Type 0 where
  pub values : List Value
  pub memory : Memory
  pub events : List Event

-- of a primitive that may do both
pub data Outcome : Type 0 where
  Changes : Change → Outcome
  Refuses : Reason → Outcome

-- of a primitive that takes choices
pub record Drawing : Type 0 where
  pub values : List Value
  pub choices : List ℕ

-- what a primitive does with its operands: it computes, reads the memory, writes it, or draws choices; with `Try` it
-- may panic
pub data Action : Type 0 where
  Compute : (List Value → List Value) → Action
  Read : (List Value → Memory → List Value) → Action
  Try : (List Value → Attempt) → Action
  TryRead : (List Value → Memory → Attempt) → Action
  Write : (List Value → Memory → Change) → Action
  TryWrite : (List Value → Memory → Outcome) → Action
  Draw : (List Value → Memory → List ℕ → Drawing) → Action

-- k values: the first of vs, and nil for each that it lacks, so that a primitive answers as many on values that no
-- typed program gives it
abbrev pub exactly : ℕ → List Value → List Value
exactly zero vs = []
exactly (suc k) [] = Nil ∷ exactly k []
exactly (suc k) (v ∷ vs) = v ∷ exactly k vs

-- ---- the answer of each, where k values are wanted

-- k values, over the same store
abbrev pub of_values : ℕ → List Value → Store → Answer
of_values k vs c = Ok (exactly k vs) c []

-- an attempt as an answer of k values
abbrev pub of_attempt : ℕ → Attempt → Store → Answer
of_attempt k (Done vs) c = of_values k vs c
of_attempt k (Panics p) c = Fails p

-- a change as an answer of k values, with the new memory and the new events
abbrev pub of_change : ℕ → Change → Store → Answer
of_change k r c = Ok (exactly k r.values) (record c { memory = r.memory }) r.events

-- a change or a panic as an answer
abbrev pub of_outcome : ℕ → Outcome → Store → Answer
of_outcome k (Changes r) c = of_change k r c
of_outcome k (Refuses p) c = Fails p

-- a drawing as an answer of k values, with the choices that are left
abbrev pub of_drawing : ℕ → Drawing → Store → Answer
of_drawing k r c = Ok (exactly k r.values) (record c { choices = r.choices }) []

-- the answer of an action of k values on operands over a store
abbrev pub perform : ℕ → Action → List Value → Store → Answer
perform k (Compute f) vs c = of_values k (f vs) c
perform k (Read f) vs c = of_values k (f vs c.memory) c
perform k (Try f) vs c = of_attempt k (f vs) c
perform k (TryRead f) vs c = of_attempt k (f vs c.memory) c
perform k (Write f) vs c = of_change k (f vs c.memory) c
perform k (TryWrite f) vs c = of_outcome k (f vs c.memory) c
perform k (Draw f) vs c = of_drawing k (f vs c.memory c.choices) c

-- ---- checked and unchecked

-- what an attempt gives where it is known not to panic
abbrev pub values_done : Attempt → List Value
values_done (Done vs) = vs
values_done (Panics p) = []

-- an attempt that is known not to panic computes
abbrev pub try_if : Check → (List Value → Attempt) → Action
try_if Checked f = Try f
try_if Unchecked f = Compute (λ vs. values_done (f vs))

-- an attempt on the memory that is known not to panic reads
abbrev pub try_read_if : Check → (List Value → Memory → Attempt) → Action
try_read_if Checked f = TryRead f
try_read_if Unchecked f = Read (λ vs c. values_done (f vs c))
