-- The laws of moving arguments: what takes its parameter's place means the same. Each is the contract of a function of
-- this crate.
use Rattle.std.specs.Prelude.{◌≡◌, ◌⊎◌, ℕ, suc, List, [], ◌∷◌, Bool, true, false}
use Rattle.go_kernel.specs.Kernel.{Name, FuncName, Term, Let, Alone, Call, code, Program}
use Rattle.go_kernel.specs.Scope.{has_slots}
use Rattle.go_kernel.specs.Substitution.{sub}
use Rattle.go_kernel.specs.Alike.{MeanSame}
use Rattle.go_kernel.specs.Classes.{steady, looks}
use Rattle.go_kernel.specs.Items.{Item, items, uses, writes}
use Rattle.go_kernel.specs.Arguments.{Arg, arg, names_of, args_of, rest, chosen}
use Rattle.go_kernel.specs.Choosing.{Row, is_write, is_effect, uses_before, AsCareful, Safe, unassigned, uncaptured}
use Rattle.go_kernel.specs.Choosing.{names_only, AreRows, distinct, well_named, closed}
use Rattle.go_kernel.specs.Laws.{Ranked, AllScoped}

-- ---- one argument

-- a term b with one parameter x and its argument a, whose free names are among fr: b names x alone, doesn't assign it,
-- and captures none of fr where it uses x; a gives one value, assigns nothing that is free in it and doesn't recover
pub record Replaceable (P : Program) (x : Name) (a : Term) (fr : List Name) (b : Term) : Type 0 where
  pub named : well_named P (arg x a fr true ∷ []) ≡ true
  pub alone : closed (x ∷ []) [] b ≡ true
  pub kept : unassigned x [] b ≡ true
  pub apart : uncaptured x fr [] b ≡ true
  pub own : names_only false fr a ≡ true

-- the term with the argument in the parameter's place
abbrev pub placed : Name → Term → Term → Term
placed x a b = sub (chosen (arg x a [] true ∷ [])) [] b

-- a steady argument may stand wherever its parameter is used, in loops and deferred literals too
abbrev pub SteadyArgumentMoves : Type 0
SteadyArgumentMoves = (P : Program) (free : FuncName → Bool) (A : ℕ) (x : Name) (a : Term) (fr : List Name) (b : Term) →
    Replaceable P x a fr b → steady a ≡ true → MeanSame P free A 0 (Let (x ∷ []) a b) (placed x a b)

-- one that looks may where the body writes nothing, or all its uses are listed before any write
abbrev pub LookingArgumentMoves : Type 0
LookingArgumentMoves =
    (P : Program) (free : FuncName → Bool) (A : ℕ) (x : Name) (a : Term) (fr : List Name) (b : Term) →
    Replaceable P x a fr b → looks a ≡ true
    → (writes b ≡ false) ⊎ (uses_before is_write x (items [] b) ≡ uses x [] b) →
    MeanSame P free A 0 (Let (x ∷ []) a b) (placed x a b)

-- one that acts may where it is used once, and this use is listed before any read, failure or write
abbrev pub ActingArgumentMoves : Type 0
ActingArgumentMoves = (P : Program) (free : FuncName → Bool) (A : ℕ) (x : Name) (a : Term) (fr : List Name) (b : Term) →
    Replaceable P x a fr b
    → uses x [] b ≡ 1 → uses_before is_effect x (items [] b) ≡ 1 → MeanSame P free A 0 (Let (x ∷ []) a b) (placed x a b)

-- ---- a chosen set

-- any number of arguments at once: where the chosen set is safe, the chosen arguments in their parameters' places and
-- the others bound mean what all bound at once mean
abbrev pub SafeSetMoves : Type 0
SafeSetMoves = (P : Program) (free : FuncName → Bool) (A : ℕ) (b : Term) (os : List Arg) (rows : List Row) →
    well_named P os ≡ true → distinct os ≡ true → closed (names_of os) [] b ≡ true
    → AreRows os [] b os rows → Safe (items [] b) (writes b) rows os →
    MeanSame P free A 0 (Let (names_of os) (args_of os) b)
    (Let (names_of (rest os)) (args_of (rest os)) (sub (chosen os) [] b))

-- a set that is safe by a list as careful as the body's own is safe by this too
abbrev pub CarefulListServes : Type 0
CarefulListServes =
    (all : List Arg) (g : List Name) (b : Term) (os : List Arg) (rows : List Row) (I : List Item) (w : Bool) →
    AreRows all g b os rows → AsCareful I (items g b) → (w ≡ false → writes b ≡ false) → Safe I w rows os →
    Safe (items g b) (writes b) rows os

-- a function's parameters and results: the arguments' parameters in order, and result slots of its own
pub record Receives (P : Program) (f : FuncName) (os : List Arg) : Type 0 where
  pub params : (P f).params ≡ names_of os
  pub slots : has_slots (P f).results (P f).slots
  pub named : well_named P os ≡ true
  pub distinct' : distinct os ≡ true
  pub closed' : closed (names_of os) (P f).slots (P f).body ≡ true

-- a call of a free function is its called literal with the chosen arguments in place, where rows and items are those of
-- the function's body
abbrev pub CallMovesItsSafeSet : Type 0
CallMovesItsSafeSet = (P : Program) (free : FuncName → Bool) (A : ℕ) (rank : FuncName → ℕ) → Ranked P free rank →
    AllScoped P → (f : FuncName) → free f ≡ true → (os : List Arg) (rows : List Row) → Receives P f os
    → AreRows os (P f).slots (P f).body os rows → Safe (items (P f).slots (P f).body) (writes (P f).body) rows os
    → MeanSame P free A (suc (rank f)) (Call f (args_of os))
    (Let (names_of (rest os)) (args_of (rest os)) (sub (chosen os) [] (Alone (code (P f)))))
