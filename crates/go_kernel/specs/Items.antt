-- What a body does, in strict order of evaluation, as a list up to the first part that may not run or may run again;
-- and how often it uses a name (Go specification, "Order of evaluation").
use Rattle.std.specs.Prelude.{bytes_eq, ℕ, ◌+◌, List, [], ◌∷◌, ◌++◌, Bool, true, false}
use Rattle.std.specs.Prelude.{if◌then◌else◌}
use Rattle.go_kernel.specs.Kernel.{Name, Effect, effect, Term, Vals, Local, Set, Both, Prim, If, Let, Loop, Leave}
use Rattle.go_kernel.specs.Kernel.{Catch, Within, Alone, Recover, Call, Defer, DeferLit}
use Rattle.go_kernel.specs.Scope.{has}

-- a use of a parameter; a read of a cell, package variable or map; an operation that may panic; a store, an allocation,
-- a print, a call or a 'recover'; the end of what is listed
pub data Item : Type 0 where
  Param : Name → Item
  Read Fail Write Stop : Item

-- the end of what is listed
abbrev pub is_stop : Item → Bool
is_stop Stop = true
is_stop _ = false

-- one list after another, where the first does not end
abbrev pub join : List Item → List Item → List Item
join [] J = J
join (i ∷ I) J = if is_stop i then i ∷ [] else i ∷ join I J

-- the item of a primitive that writes or reads
abbrev pub change_items : Effect → List Item
change_items e = if e.writes then Write ∷ [] else if e.reads then Read ∷ [] else []

-- a primitive that may panic fails before it writes
abbrev pub effect_items : Effect → List Item
effect_items e = if e.may_panic then Fail ∷ change_items e else change_items e

-- the items of a term whose names g are bound in it. Nothing is listed from a condition, a loop, a 'return', a
-- literal's body or a 'defer' on; labels stand on loops and switches alone, which end the list
abbrev pub items : List Name → Term → List Item
items g (Vals v) = []
items g (Local x) = if has x g then [] else Param x ∷ []
items g (Set xs a) = items g a
items g (Both a b) = join (items g a) (items g b)
items g (Prim o a) = join (items g a) (effect_items (effect o))
items g (If c a b) = join (items g c) (Stop ∷ [])
items g (Let xs a b) = join (items g a) (items (xs ++ g) b)
items g (Loop a b) = Stop ∷ []
items g (Leave l) = Stop ∷ []
items g (Catch l a) = join (items g a) (Stop ∷ [])
items g (Within a rs) = Stop ∷ []
items g (Alone a) = Stop ∷ []
items g Recover = Write ∷ []
items g (Call f a) = join (items g a) (Write ∷ [])
items g (Defer f a) = Stop ∷ []
items g (DeferLit xs a b) = Stop ∷ []

-- how often a term uses a name, listed or not
abbrev pub uses : Name → List Name → Term → ℕ
uses x g (Vals v) = 0
uses x g (Local z) = if has z g then 0 else if bytes_eq z x then 1 else 0
uses x g (Set xs a) = uses x g a
uses x g (Both a b) = uses x g a + uses x g b
uses x g (Prim o a) = uses x g a
uses x g (If c a b) = uses x g c + (uses x g a + uses x g b)
uses x g (Let xs a b) = uses x g a + uses x (xs ++ g) b
uses x g (Loop a b) = uses x g a + uses x g b
uses x g (Leave l) = 0
uses x g (Catch l a) = uses x g a
uses x g (Within a rs) = uses x g a
uses x g (Alone a) = uses x g a
uses x g Recover = 0
uses x g (Call f a) = uses x g a
uses x g (Defer f a) = uses x g a
uses x g (DeferLit xs a b) = uses x g a + uses x (xs ++ g) b

-- whether any part of a term has a write
abbrev pub writes : Term → Bool
writes (Vals v) = false
writes (Local x) = false
writes (Set xs a) = writes a
writes (Both a b) = if writes a then true else writes b
writes (Prim o a) = if (effect o).writes then true else writes a
writes (If c a b) = if writes c then true else if writes a then true else writes b
writes (Let xs a b) = if writes a then true else writes b
writes (Loop c b) = if writes c then true else writes b
writes (Leave l) = false
writes (Catch l a) = writes a
writes (Within a rs) = writes a
writes (Alone a) = writes a
writes Recover = true
writes (Call f a) = true
writes (Defer f a) = true
writes (DeferLit xs a b) = true
