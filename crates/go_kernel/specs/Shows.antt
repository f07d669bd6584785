-- What a run of a main package shows (Go specification, "Program initialization", "Program execution"), and when one
-- shows at least what another does.
use Rattle.std.specs.Prelude.{◌≡◌, ℕ, suc, ◌++◌, Bool, List, [], None}
use Rattle.go_kernel.specs.Names.{FuncName}
use Rattle.go_kernel.specs.Values.{Reason}
use Rattle.go_kernel.specs.Store.{empty_store}
use Rattle.go_kernel.specs.Prims.{Event}
use Rattle.go_kernel.specs.Terms.{Term, Let, code, Program}
use Rattle.go_kernel.specs.State.{State, Gone, Panic, Result, Gives, Leaves, Cuts}
use Rattle.go_kernel.specs.Eval.{level, free_level}

-- the events, the newest first, of a run that was cut, that ended or that panicked
pub data Shown : Type 0 where
  Running : List Event → Shown
  Ended : List Event → Shown
  Panicked : Reason → List Event → Shown

-- what a result shows
abbrev pub shown : Result → Shown
shown (Gives v s) = Ended s.out
shown (Leaves (Gone l) s) = Ended s.out
shown (Leaves (Panic p) s) = Panicked p s.out
shown (Cuts o) = Running o

-- the state before a run, with these choices
abbrev pub start : List ℕ → State
start choices = record { frame = []; store = empty_store choices; pending = None; defers = []; out = [] }

-- the package variables of all packages are set by 'init', and then main runs at this budget
abbrev pub shows : Program → Term → FuncName → List ℕ → ℕ → Shown
shows P init main choices n = shown (level P (suc n) (Let [] init (code (P main))) (start choices))

-- the same under free prices: a direct call of a free function costs nothing in a chain of at most A of them
abbrev pub free_shows : Program → (FuncName → Bool) → ℕ → Term → FuncName → List ℕ → ℕ → Shown
free_shows P free A init main choices n =
    shown (free_level P free A (suc n) (Let [] init (code (P main))) (start choices))

-- b's events are new ones upon a's
abbrev pub Ext : List Event → List Event → Type 0
Ext a b = (d : List Event) × (b ≡ d ++ a)

-- an end is covered by the same end alone, a cut run by each run whose events continue its own
pub data Covers : Shown → Shown → Type 0 where
  same : {a : Shown} → Covers a a
  ended : {o o' : List Event} → Ext o o' → Covers (Running o) (Ended o')
  panicked : {o o' : List Event} {p : Reason} → Ext o o' → Covers (Running o) (Panicked p o')
  running : {o o' : List Event} → Ext o o' → Covers (Running o) (Running o')
