-- Evaluation of terms (Go specification, "Order of evaluation", "Calls", "Statements", "Handling panics"). A budget
-- bounds how deep calls nest and how many turns loops make, so that every evaluation ends: where it is gone, the run is
-- cut.
use Rattle.std.specs.Prelude.{ℕ, zero, suc, ◌++◌, List, [], ◌∷◌, Bool, true, false, bytes_eq}
use Rattle.std.specs.Prelude.{if◌then◌else◌, Option, Some, None}
use Rattle.go_kernel.specs.Names.{Name, Label, FuncName}
use Rattle.go_kernel.specs.Values.{Value, Truth, Reason, or_nil}
use Rattle.go_kernel.specs.Store.{Store, value_at}
use Rattle.go_kernel.specs.Prims.{Answer, Ok, Fails, prim}
use Rattle.go_kernel.specs.Terms.{Slot, InFrame, InCell, Term, Vals, Local, Set, Both, Prim, If, Let, Loop, Leave}
use Rattle.go_kernel.specs.Terms.{Catch, Within, Alone, Recover, Call, Defer, DeferLit, code, Program}
use Rattle.go_kernel.specs.State.{Frame, lookup, put_all, push, pop, Deferred, State, Exit, Gone, Panic, Result, Gives}
use Rattle.go_kernel.specs.State.{Leaves, Cuts, Level}

-- the one combinator: go on with values, or with an exit
abbrev pub after : Result → (List Value → State → Result) → (Exit → State → Result) → Result
after (Gives v s) k h = k v s
after (Leaves e s) k h = h e s
after (Cuts o) k h = Cuts o

-- the result of a primitive's answer: its values, or the panic
abbrev pub answered : Answer → State → Result
answered (Ok vs c e) s = Gives vs (record s { store = c; out = e ++ s.out })
answered (Fails p) s = Leaves (Panic p) s

-- the first where the condition is true, else the second
abbrev pub on_truth : List Value → Result → Result → Result
on_truth (Truth true ∷ []) a b = a
on_truth _ a b = b

-- the result without the locals that a term had bound
abbrev pub popped : List Name → Result → Result
popped xs r =
    after r (λ v s. Gives v (record s { frame = pop xs s.frame }))
    (λ e s. Leaves e (record s { frame = pop xs s.frame }))

-- an exit with this label ends here
abbrev pub caught_by : Label → Exit → State → Result
caught_by l (Gone m) s = if bytes_eq l m then Gives [] s else Leaves (Gone m) s
caught_by l (Panic p) s = Leaves (Panic p) s

-- ---- bodies

-- the value of a result slot, in the frame or in the variable that it points to
abbrev pub read_slot : Slot → Frame → Store → Value
read_slot (InFrame x) f c = lookup x f
read_slot (InCell x) f c = or_nil (value_at (lookup x f) c)

-- the values of result slots
abbrev pub read_slots : List Slot → Frame → Store → List Value
read_slots [] f c = []
read_slots (r ∷ rs) f c = read_slot r f c ∷ read_slots rs f c

-- a body that ends with values gives those of its result slots
abbrev pub with_slots : List Slot → Result → Result
with_slots rs r = after r (λ v s. Gives (read_slots rs s.frame s.store) s) Leaves

-- a called body sees its parameters and a pending panic alone, and leaves the store and the events
abbrev pub entered : Frame → Option Reason → State → State
entered f p s = record { frame = f; store = s.store; pending = p; defers = []; out = s.out }

-- the caller's state with the store and the events that the call left
abbrev pub back : State → State → State
back s s1 = record s { store = s1.store; out = s1.out }

-- the result of a call, back in the caller's frame
abbrev pub called : State → Result → Result
called s r = after r (λ v s1. Gives v (back s s1)) (λ e s1. Leaves e (back s s1))

-- how a body ends
abbrev pub ending : Option Reason → State → Result
ending None s = Gives [] s
ending (Some p) s = Leaves (Panic p) s

-- the panic after an exit
abbrev pub panic_of : Option Reason → Exit → Option Reason
panic_of e (Gone l) = e
panic_of e (Panic p) = Some p

-- one deferred call in a body that is ending with e. Of it only the store, the events and the panic then pending are
-- seen, which is the result's 'pending'
abbrev pub run_one : Level → Deferred → Option Reason → State → Result
run_one below d e s =
    after (below d.body (entered d.frame e s)) (λ v s1. Gives [] (record (back s s1) { pending = s1.pending }))
    (λ x s1. Gives [] (record (back s s1) { pending = panic_of s1.pending x }))

-- the deferred calls, the last added first
abbrev pub unwind : Level → List Deferred → Option Reason → State → Result
unwind below [] e s = ending e s
unwind below (d ∷ ds) e s =
    after (run_one below d e s) (λ v s1. unwind below ds s1.pending (record s1 { pending = s.pending })) Leaves

-- the state after a body with the deferred calls of the body around it
abbrev pub resumed : List Deferred → Result → Result
resumed ds r = after r (λ v s. Gives v (record s { defers = ds })) (λ e s. Leaves e (record s { defers = ds }))

-- a body's end, after which its deferred calls run
abbrev pub unwound : Level → Result → Result
unwound below r = after r (λ v s. unwind below s.defers None s) (λ e s. unwind below s.defers (panic_of None e) s)

-- with the pending panic that was there before
abbrev pub with_pending : Option Reason → Result → Result
with_pending p r = after r (λ v s. Gives v (record s { pending = p })) (λ e s. Leaves e (record s { pending = p }))

-- whether a panic is pending, as a truth value
abbrev pub is_pending : Option Reason → Value
is_pending None = Truth false
is_pending (Some p) = Truth true

-- ---- terms

-- a term where bodies of called functions run at 'pick', loop turns and deferred calls at 'below'
abbrev pub eval : Program → (FuncName → Level) → Level → Term → State → Result
eval P pick below (Vals vs) s = Gives vs s
eval P pick below (Local x) s = Gives (lookup x s.frame ∷ []) s
eval P pick below (Set xs a) s =
    after (eval P pick below a s) (λ v s. Gives [] (record s { frame = put_all xs v s.frame })) Leaves
eval P pick below (Both a b) s =
    after (eval P pick below a s) (λ v s. after (eval P pick below b s) (λ w s. Gives (v ++ w) s) Leaves) Leaves
eval P pick below (Prim o a) s = after (eval P pick below a s) (λ v s. answered (prim o v s.store) s) Leaves
eval P pick below (If c a b) s =
    after (eval P pick below c s) (λ v s. on_truth v (eval P pick below a s) (eval P pick below b s)) Leaves
eval P pick below (Let xs a b) s =
    after (eval P pick below a s)
    (λ v s. popped xs (eval P pick below b (record s { frame = push xs v s.frame }))) Leaves
eval P pick below (Loop c b) s =
    after (eval P pick below c s) (λ v s. on_truth v (below (Let [] b (Loop c b)) s) (Gives [] s)) Leaves
eval P pick below (Leave l) s = Leaves (Gone l) s
eval P pick below (Catch l a) s = after (eval P pick below a s) Gives (caught_by l)
eval P pick below (Within a rs) s =
    with_slots rs (resumed s.defers (unwound below (eval P pick below a (record s { defers = [] }))))
eval P pick below (Alone a) s = with_pending s.pending (eval P pick below a (record s { pending = None }))
eval P pick below Recover s = Gives (is_pending s.pending ∷ []) (record s { pending = None })
eval P pick below (Call f a) s =
    after (eval P pick below a s)
    (λ v s. called s (pick f (code (P f)) (entered (push (P f).params v []) None s))) Leaves
eval P pick below (Defer f a) s =
    after (eval P pick below a s)
    (λ v s. Gives []
    (record s { defers = (record { frame = push (P f).params v []; body = code (P f) }) ∷ s.defers })) Leaves
eval P pick below (DeferLit xs a b) s =
    after (eval P pick below a s)
    (λ v s. Gives [] (record s { defers = (record { frame = push xs v s.frame; body = b }) ∷ s.defers })) Leaves

-- ---- budgets

-- a budget that is gone
abbrev pub cut : Level
cut t s = Cuts s.out

-- level (suc n) is the meaning at budget n
abbrev pub level : Program → ℕ → Level
level P zero = cut
level P (suc n) = eval P (λ f. level P n) (level P n)

-- the same, where a chain of at most k calls of free functions costs nothing
abbrev pub free_pick : (FuncName → Bool) → Level → Level → FuncName → Level
free_pick free inner below f = if free f then inner else below

-- at which level each called function runs, where k free calls may still follow one another
abbrev pub picks : Program → (FuncName → Bool) → Level → ℕ → FuncName → Level
picks P free below zero = λ f. below
picks P free below (suc k) = free_pick free (eval P (picks P free below k) below) below

-- a term at that level
abbrev pub chain : Program → (FuncName → Bool) → Level → ℕ → Level
chain P free below k = eval P (picks P free below k) below

-- the meaning at a budget, under free prices
abbrev pub free_level : Program → (FuncName → Bool) → ℕ → ℕ → Level
free_level P free A zero = cut
free_level P free A (suc n) = chain P free (free_level P free A n) A
