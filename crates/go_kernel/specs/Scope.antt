-- The names of a frame, and the locals that a term names (Go specification, "Declarations and scope").
use Rattle.std.specs.Prelude.{bytes_eq, ◌≡◌, List, [], ◌∷◌, ◌++◌, Bool, true, false}
use Rattle.std.specs.Prelude.{if◌then◌else◌}
use Rattle.go_kernel.specs.Kernel.{Name, Term, Vals, Local, Set, Both, Prim, If, Let, Loop, Leave, Catch, Within, Alone}
use Rattle.go_kernel.specs.Kernel.{Recover, Call, Defer, DeferLit, Slot, InFrame, InCell, Frame}

-- the names of a frame's locals
abbrev pub names : Frame → List Name
names [] = []
names (b ∷ f) = b.0 ∷ names f

-- the name is among these
abbrev pub has : Name → List Name → Bool
has x [] = false
has x (y ∷ g) = if bytes_eq x y then true else has x g

-- all of these names are among those
abbrev pub has_all : List Name → List Name → Type 0
has_all [] g = Unit {0}
has_all (x ∷ xs) g = (has x g ≡ true) × has_all xs g

-- the local in which a result slot stands, or which points to it
abbrev pub slot_name : Slot → Name
slot_name (InFrame x) = x
slot_name (InCell x) = x

-- all of these slots' locals are among the names
abbrev pub has_slots : List Slot → List Name → Type 0
has_slots [] g = Unit {0}
has_slots (r ∷ rs) g = (has (slot_name r) g ≡ true) × has_slots rs g

-- Q of each of these names that isn't among g
abbrev pub FreeNames : (Name → Type 0) → List Name → List Name → Type 0
FreeNames Q g [] = Unit {0}
FreeNames Q g (x ∷ xs) = (has x g ≡ false → Q x) × FreeNames Q g xs

-- Q of each of these slots' locals that isn't among g
abbrev pub FreeSlots : (Name → Type 0) → List Name → List Slot → Type 0
FreeSlots Q g [] = Unit {0}
FreeSlots Q g (r ∷ rs) = (has (slot_name r) g ≡ false → Q (slot_name r)) × FreeSlots Q g rs

-- Q of each local that the term names, where neither g nor the term binds it
abbrev pub Free : (Name → Type 0) → List Name → Term → Type 0
Free Q g (Vals v) = Unit {0}
Free Q g (Local x) = has x g ≡ false → Q x
Free Q g (Set xs a) = FreeNames Q g xs × Free Q g a
Free Q g (Both a b) = Free Q g a × Free Q g b
Free Q g (Prim o a) = Free Q g a
Free Q g (If c a b) = Free Q g c × Free Q g a × Free Q g b
Free Q g (Let xs a b) = Free Q g a × Free Q (xs ++ g) b
Free Q g (Loop c b) = Free Q g c × Free Q g b
Free Q g (Leave l) = Unit {0}
Free Q g (Catch l a) = Free Q g a
Free Q g (Within a rs) = Free Q g a × FreeSlots Q g rs
Free Q g (Alone a) = Free Q g a
Free Q g Recover = Unit {0}
Free Q g (Call f a) = Free Q g a
Free Q g (Defer f a) = Free Q g a
Free Q g (DeferLit xs a b) = Free Q g a × Free Q (xs ++ g) b

-- all locals that the term names and does not bind are among g
abbrev pub Scoped : List Name → Term → Type 0
Scoped g t = Free (λ x. ⊥) g t
