-- When two runs end alike, when two terms mean the same in place, and when a term is another but for parts that mean
-- the same. Deferred calls count as equal when they are equally many and run alike, one by one.
use Rattle.std.specs.Prelude.{◌≡◌, ℕ, ◌<◌, ◌≤◌, List, [], ◌∷◌, Bool, true, Option}
use Rattle.go_kernel.specs.Kernel.{Name, Label, FuncName, Value, Reason, Event, Op, Slot, Term, Vals, Local, Set, Both}
use Rattle.go_kernel.specs.Kernel.{Prim, If, Let, Loop, Leave, Catch, Within, Alone, Recover, Call, Defer, DeferLit}
use Rattle.go_kernel.specs.Kernel.{Store, Frame, Deferred, State, Exit, Result, Gives, Leaves, Cuts, after, run_one}
use Rattle.go_kernel.specs.Kernel.{Program, chain, free_level, Ext}

-- the events of a run
abbrev pub out_of : Result → List Event
out_of (Gives v s) = s.out
out_of (Leaves e s) = s.out
out_of (Cuts o) = o

-- a result with its frame changed
abbrev pub reframed : (Frame → Frame) → Result → Result
reframed q r =
    after r (λ v s. Gives v (record s { frame = q s.frame })) (λ e s. Leaves e (record s { frame = q s.frame }))

-- two lists of deferred calls, one by one
pub data Each (D : Deferred → Deferred → Type 0) : List Deferred → List Deferred → Type 0 where
  none : Each D [] []
  more : {d d' : Deferred} {ds ds' : List Deferred} → D d d' → Each D ds ds' → Each D (d ∷ ds) (d' ∷ ds')

-- states that differ in their deferred calls alone
pub data Near (D : Deferred → Deferred → Type 0) : State → State → Type 0 where
  near : {f : Frame} {c : Store} {p : Option Reason} {o : List Event} {ds ds' : List Deferred} → Each D ds ds' →
      Near D (record { frame = f; store = c; pending = p; defers = ds; out = o })
      (record { frame = f; store = c; pending = p; defers = ds'; out = o })

-- results of two runs from states with the events o; 'outruns' says whether the second may go on where the first is cut
pub data Covered (outruns : Type 0) (D : Deferred → Deferred → Type 0) (o : List Event) : Result → Result → Type 0 where
  gives : {v : List Value} {s s' : State} → Near D s s' → Ext o s.out → Covered outruns D o (Gives v s) (Gives v s')
  leaves : {e : Exit} {s s' : State} → Near D s s' → Ext o s.out → Covered outruns D o (Leaves e s) (Leaves e s')
  cuts : {o1 : List Event} → Ext o o1 → Covered outruns D o (Cuts o1) (Cuts o1)
  outrun : {o1 : List Event} {r : Result} → outruns → Ext o o1 → Ext o1 (out_of r) → Covered outruns D o (Cuts o1) r

module _ (P : Program) (free : FuncName → Bool) (A : ℕ) where
  -- deferred calls that run alike at each budget
  abbrev pub RunAlike : Deferred → Deferred → Type 0
  RunAlike d d' = (n : ℕ) (e : Option Reason) (s : State) →
      run_one (free_level P free A n) d e s ≡ run_one (free_level P free A n) d' e s

  -- runs that end alike
  abbrev pub Alike : List Event → Result → Result → Type 0
  Alike o r r' = Covered ⊥ RunAlike o r r'

  -- terms that mean the same at each budget, in every state, wherever a chain of k more free calls is left
  abbrev pub MeanSame : ℕ → Term → Term → Type 0
  MeanSame k t t' = (n j : ℕ) → k ≤ j → (s : State) →
      Alike s.out (chain P free (free_level P free A n) j t s) (chain P free (free_level P free A n) j t' s)

-- the functions that a body of rank k may call: those that aren't free, and the free ones of lower rank
abbrev pub Below : (FuncName → Bool) → (FuncName → ℕ) → ℕ → FuncName → Type 0
Below free rank k f = free f ≡ true → rank f < k

-- terms that are alike but for parts between which E holds, and whose direct calls are of functions of which C holds
pub data Same (E : Term → Term → Type 0) (C : FuncName → Type 0) : Term → Term → Type 0 where
  vals : {v : List Value} → Same E C (Vals v) (Vals v)
  local : {x : Name} → Same E C (Local x) (Local x)
  set : {xs : List Name} {a a' : Term} → Same E C a a' → Same E C (Set xs a) (Set xs a')
  both : {a a' b b' : Term} → Same E C a a' → Same E C b b' → Same E C (Both a b) (Both a' b')
  prim' : {o : Op} {a a' : Term} → Same E C a a' → Same E C (Prim o a) (Prim o a')
  if' : {a a' b b' c c' : Term} → Same E C a a' → Same E C b b' → Same E C c c' → Same E C (If a b c) (If a' b' c')
  let' : {xs : List Name} {a a' b b' : Term} → Same E C a a' → Same E C b b' → Same E C (Let xs a b) (Let xs a' b')
  loop : {a a' b b' : Term} → Same E C a a' → Same E C b b' → Same E C (Loop a b) (Loop a' b')
  leave : {l : Label} → Same E C (Leave l) (Leave l)
  catch : {l : Label} {a a' : Term} → Same E C a a' → Same E C (Catch l a) (Catch l a')
  within : {a a' : Term} {rs : List Slot} → Same E C a a' → Same E C (Within a rs) (Within a' rs)
  alone : {a a' : Term} → Same E C a a' → Same E C (Alone a) (Alone a')
  recover : Same E C Recover Recover
  call : {f : FuncName} {a a' : Term} → C f → Same E C a a' → Same E C (Call f a) (Call f a')
  defer : {f : FuncName} {a a' : Term} → Same E C a a' → Same E C (Defer f a) (Defer f a')
  defer_lit : {xs : List Name} {a a' b b' : Term} → Same E C a a' → Same E C b b' →
      Same E C (DeferLit xs a b) (DeferLit xs a' b')
  swap : {a b c : Term} → Same E C a b → E b c → Same E C a c

-- C of each function that a term calls directly
abbrev pub Calls : (FuncName → Type 0) → Term → Type 0
Calls C (Vals v) = Unit {0}
Calls C (Local x) = Unit {0}
Calls C (Set xs a) = Calls C a
Calls C (Both a b) = Calls C a × Calls C b
Calls C (Prim o a) = Calls C a
Calls C (If a b c) = Calls C a × Calls C b × Calls C c
Calls C (Let xs a b) = Calls C a × Calls C b
Calls C (Loop a b) = Calls C a × Calls C b
Calls C (Leave l) = Unit {0}
Calls C (Catch l a) = Calls C a
Calls C (Within a rs) = Calls C a
Calls C (Alone a) = Calls C a
Calls C Recover = Unit {0}
Calls C (Call f a) = C f × Calls C a
Calls C (Defer f a) = Calls C a
Calls C (DeferLit xs a b) = Calls C a × Calls C b
