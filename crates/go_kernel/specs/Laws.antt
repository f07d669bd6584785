-- The laws of meaning that know nothing of Go's types. Each is the contract of a function of this crate, and holds of
-- every program, whatever further functions it has.
use Rattle.std.specs.Prelude.{◌≡◌, ℕ, suc, ◌+◌, ◌*◌, ◌<◌, ◌≤◌, List, [], ◌++◌, Bool, true}
use Rattle.std.specs.Prelude.{false}
use Rattle.go_kernel.specs.Kernel.{FuncName, Term, Let, Alone, Call, code, Program, Frame, State, chain, free_level}
use Rattle.go_kernel.specs.Kernel.{shows, free_shows, Covers}
use Rattle.go_kernel.specs.Scope.{names, has, Free, Scoped}
use Rattle.go_kernel.specs.Alike.{reframed, Alike, MeanSame, Below, Same, Calls}

-- ---- budgets

-- what is shown at a budget is covered by what is shown at each larger one
abbrev pub LargerBudgetsCover : Type 0
LargerBudgetsCover = (P : Program) (init : Term) (main : FuncName) (choices : List ℕ) (n m : ℕ) → n ≤ m →
    Covers (shows P init main choices n) (shows P init main choices m)

-- what is shown at a budget is covered by what is shown there under free prices
abbrev pub FreePricesCover : Type 0
FreePricesCover =
    (P : Program) (free : FuncName → Bool) (A : ℕ) (init : Term) (main : FuncName) (choices : List ℕ) (n : ℕ) →
    Covers (shows P init main choices n) (free_shows P free A init main choices n)

-- and that by what is shown at a budget A + 1 times as large, where a chain of at most A free calls costs nothing
abbrev pub FreePricesAreCovered : Type 0
FreePricesAreCovered =
    (P : Program) (free : FuncName → Bool) (A : ℕ) (init : Term) (main : FuncName) (choices : List ℕ) (n : ℕ) →
    Covers (free_shows P free A init main choices n) (shows P init main choices ((A + 1) * (n + 1)))

-- two programs that show the same under free prices show the same but for budgets: what the one shows at a budget is
-- covered by what the other shows at one A + 1 times as large, and this holds of both
abbrev pub EqualFreeShowsCover : Type 0
EqualFreeShowsCover =
    (P P' : Program) (free : FuncName → Bool) (A : ℕ) (init init' : Term) (main : FuncName) (choices : List ℕ) (n : ℕ) →
    free_shows P free A init main choices n ≡ free_shows P' free A init' main choices n
    → Covers (shows P init main choices n) (shows P' init' main choices ((A + 1) * (n + 1)))
    × Covers (shows P' init' main choices n) (shows P init main choices ((A + 1) * (n + 1)))

-- ---- frames

-- a term whose free names stand in a front of the frame acts as in that front, and leaves the rest alone
abbrev pub ActsInFront : Type 0
ActsInFront = (P : Program) (free : FuncName → Bool) (A n j : ℕ) (t : Term) (s : State) (rest : Frame) →
    Scoped (names s.frame) t
    → Alike P free A s.out (chain P free (free_level P free A n) j t (record s { frame = s.frame ++ rest }))
    (reframed (λ f. f ++ rest) (chain P free (free_level P free A n) j t s))

-- a term acts behind names that it doesn't use as without them
abbrev pub ActsBehind : Type 0
ActsBehind = (P : Program) (free : FuncName → Bool) (A n j : ℕ) (t : Term) (s : State) (front : Frame) →
    Free (λ x. has x (names front) ≡ false) [] t
    → Alike P free A s.out (chain P free (free_level P free A n) j t (record s { frame = front ++ s.frame }))
    (reframed (λ f. front ++ f) (chain P free (free_level P free A n) j t s))

-- ---- replacing parts

-- the free functions have ranks along their calls: a free function calls free ones of lower rank alone
abbrev pub Ranked : Program → (FuncName → Bool) → (FuncName → ℕ) → Type 0
Ranked P free rank = (f : FuncName) → free f ≡ true → Calls (Below free rank (rank f)) (code (P f))

-- two programs that differ in parts of equal meaning: in the second, parts are replaced by parts that mean the same
-- there
abbrev pub SameButParts : Program → Program → (FuncName → Bool) → ℕ → (FuncName → ℕ) → Type 0
SameButParts P P' free A rank = (f : FuncName) →
    ((P f).params ≡ (P' f).params)
    × Same (MeanSame P' free A (rank f)) (Below free rank (rank f)) (code (P f)) (code (P' f))

-- then the two show the same under free prices
abbrev pub PartsMayBeReplaced : Type 0
PartsMayBeReplaced = (P P' : Program) (free : FuncName → Bool) (A : ℕ) (rank : FuncName → ℕ) →
    ((f : FuncName) → rank f ≤ A) → ((f : FuncName) → free f ≡ true → rank f < A) → SameButParts P P' free A rank
    → (init init' : Term) → Same (MeanSame P' free A A) (Below free rank A) init init' →
    (main : FuncName) (choices : List ℕ) (n : ℕ) →
    free_shows P free A init main choices n ≡ free_shows P' free A init' main choices n

-- ---- calls

-- a function's code names its parameters alone
abbrev pub AllScoped : Program → Type 0
AllScoped P = (f : FuncName) → Scoped (P f).params (code (P f))

-- under free prices a call of a free function is its called literal with all parameters bound
abbrev pub CallIsItsLiteral : Type 0
CallIsItsLiteral = (P : Program) (free : FuncName → Bool) (A : ℕ) (rank : FuncName → ℕ) → Ranked P free rank →
    AllScoped P → (f : FuncName) → free f ≡ true → (a : Term)
    → MeanSame P free A (suc (rank f)) (Call f a) (Let (P f).params a (Alone (code (P f))))
