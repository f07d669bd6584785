-- The kernel language, into which Go's expressions and statements are translated. A term gives a list of values, so
-- that arguments, the results of a call and a call with several results as arguments are one thing (Go specification,
-- "Calls", "Assignment statements", "Return statements").
use Rattle.std.specs.Prelude.{List, [], ◌∷◌, if◌then◌else◌}
use Rattle.go_kernel.specs.Names.{Name, FuncName, same_func, Label}
use Rattle.go_kernel.specs.Values.{Value}
use Rattle.go_kernel.specs.Ops.{Op, Alloc}

-- where a result stands when a body ends: in the frame, or in the variable that a local of the frame points to
pub data Slot : Type 0 where
  InFrame InCell : Name → Slot

-- the terms of the kernel language
pub data Term : Type 0 where
  -- these values
  Vals : List Value → Term
  -- a local of the frame, and an assignment to some
  Local : Name → Term
  Set : List Name → Term → Term
  -- the values of both, in order
  Both : Term → Term → Term
  -- a primitive on values
  Prim : Op → Term → Term
  If : Term → Term → Term → Term
  -- locals with these values, for a term
  Let : List Name → Term → Term → Term
  Loop : Term → Term → Term
  -- 'break', 'continue' and 'return', and where they end
  Leave : Label → Term
  Catch : Label → Term → Term
  -- a body with deferred calls of its own, after which its result slots are read
  Within : Term → List Slot → Term
  -- a term without the panic that is pending around it
  Alone : Term → Term
  -- whether a panic is pending, which it is no more afterwards
  Recover : Term
  Call : FuncName → Term → Term
  Defer : FuncName → Term → Term
  -- a deferred literal with its parameters and arguments
  DeferLit : List Name → Term → Term → Term

-- a term after these locals were put into cells: each becomes the address of a new variable with its value. So begins
-- what follows the declaration of variables that pointers or deferred literals may reach, and a body whose parameters
-- or results are such, the parameters first
abbrev pub in_cells : List Name → Term → Term
in_cells [] t = t
in_cells (x ∷ xs) t = Let [] (Set (x ∷ []) (Prim Alloc (Local x))) (in_cells xs t)

-- a declared function: its parameters, the locals of its results with their zero values, its body, and where its
-- results stand when it ends
pub record Func : Type 0 where
  pub params : List Name
  pub slots : List Name
  pub zeros : List Value
  pub body : Term
  pub results : List Slot

-- what runs once the parameters are bound, for a declared function and for a literal alike
abbrev pub code : Func → Term
code f = Let f.slots (Vals f.zeros) (Within f.body f.results)

-- each function name's function
abbrev pub Program : Type 0
Program = FuncName → Func

-- a name without a declaration has a function that does nothing
abbrev pub no_func : Func
no_func = record { params = []; slots = []; zeros = []; body = Vals []; results = [] }

-- the program of these declarations; of several with one name the first counts
abbrev pub declared : List (FuncName × Func) → Program
declared [] f = no_func
declared (d ∷ ds) f = if same_func f d.0 then d.1 else declared ds f
