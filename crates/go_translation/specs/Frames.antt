-- Whether deferred literals may keep the frame as it stands when they are deferred: each local that one names from
-- outside is never assigned, but for the cell in which it lives (Go specification, "Defer statements", "Function
-- literals").
use Rattle.std.specs.Prelude.{Bool, true, not, ◌&&◌, List, [], ◌∷◌, ◌++◌, if◌then◌else◌}
use Rattle.std.specs.List.{list_all}
use Rattle.go_kernel.specs.Kernel.{Name, Slot, Alloc, code, Term, Vals, Local, Set, Both, Prim, If, Let, Loop, Leave}
use Rattle.go_kernel.specs.Kernel.{Catch, Within, Alone, Recover, Call, Defer, DeferLit}
use Rattle.go_kernel.specs.Scope.{has, slot_name}
use Rattle.go_translation.specs.Packages.{PackageCode, functions_of, initial_of}

-- a name that isn't bound within
abbrev pub from_outside : List Name → List Name → List Name
from_outside g [] = []
from_outside g (x ∷ xs) = if has x g then from_outside g xs else x ∷ from_outside g xs

-- the locals in which result slots stand, or which point to them
abbrev pub slot_names : List Slot → List Name
slot_names [] = []
slot_names (r ∷ rs) = slot_name r ∷ slot_names rs

-- the locals that a term names, g being bound within
abbrev pub named : List Name → Term → List Name
named g (Vals vs) = []
named g (Local x) = from_outside g (x ∷ [])
named g (Set xs a) = from_outside g xs ++ named g a
named g (Both a b) = named g a ++ named g b
named g (Prim o a) = named g a
named g (If a b c) = named g a ++ (named g b ++ named g c)
named g (Let xs a b) = named g a ++ named (xs ++ g) b
named g (Loop a b) = named g a ++ named g b
named g (Leave l) = []
named g (Catch l a) = named g a
named g (Within a rs) = from_outside g (slot_names rs) ++ named g a
named g (Alone a) = named g a
named g Recover = []
named g (Call f a) = named g a
named g (Defer f a) = named g a
named g (DeferLit xs a b) = named g a ++ named (xs ++ g) b

-- those that its deferred literals name
abbrev pub named_by_deferred : List Name → Term → List Name
named_by_deferred g (Vals vs) = []
named_by_deferred g (Local x) = []
named_by_deferred g (Set xs a) = named_by_deferred g a
named_by_deferred g (Both a b) = named_by_deferred g a ++ named_by_deferred g b
named_by_deferred g (Prim o a) = named_by_deferred g a
named_by_deferred g (If a b c) = named_by_deferred g a ++ (named_by_deferred g b ++ named_by_deferred g c)
named_by_deferred g (Let xs a b) = named_by_deferred g a ++ named_by_deferred (xs ++ g) b
named_by_deferred g (Loop a b) = named_by_deferred g a ++ named_by_deferred g b
named_by_deferred g (Leave l) = []
named_by_deferred g (Catch l a) = named_by_deferred g a
named_by_deferred g (Within a rs) = named_by_deferred g a
named_by_deferred g (Alone a) = named_by_deferred g a
named_by_deferred g Recover = []
named_by_deferred g (Call f a) = named_by_deferred g a
named_by_deferred g (Defer f a) = named_by_deferred g a
named_by_deferred g (DeferLit xs a b) = named_by_deferred g a ++ named (xs ++ g) b

-- those that it assigns; a local that becomes the address of a new variable is put into a cell
abbrev pub assigned : List Name → Term → List Name
assigned g (Vals vs) = []
assigned g (Local x) = []
assigned g (Set xs (Prim Alloc a)) = assigned g a
assigned g (Set xs a) = from_outside g xs ++ assigned g a
assigned g (Both a b) = assigned g a ++ assigned g b
assigned g (Prim o a) = assigned g a
assigned g (If a b c) = assigned g a ++ (assigned g b ++ assigned g c)
assigned g (Let xs a b) = assigned g a ++ assigned (xs ++ g) b
assigned g (Loop a b) = assigned g a ++ assigned g b
assigned g (Leave l) = []
assigned g (Catch l a) = assigned g a
assigned g (Within a rs) = assigned g a
assigned g (Alone a) = assigned g a
assigned g Recover = []
assigned g (Call f a) = assigned g a
assigned g (Defer f a) = assigned g a
assigned g (DeferLit xs a b) = assigned g a ++ assigned (xs ++ g) b

-- none of these locals, bound for the term, is both named by a deferred literal and assigned
abbrev pub keeps : List Name → Term → Bool
keeps xs b = list_all (λ x. not (has x (named_by_deferred [] b) && has x (assigned [] b))) xs

-- so wherever locals are bound within a term
abbrev pub all_keep : Term → Bool
all_keep (Vals vs) = true
all_keep (Local x) = true
all_keep (Set xs a) = all_keep a
all_keep (Both a b) = all_keep a && all_keep b
all_keep (Prim o a) = all_keep a
all_keep (If a b c) = all_keep a && (all_keep b && all_keep c)
all_keep (Let xs a b) = keeps xs b && (all_keep a && all_keep b)
all_keep (Loop a b) = all_keep a && all_keep b
all_keep (Leave l) = true
all_keep (Catch l a) = all_keep a
all_keep (Within a rs) = all_keep a
all_keep (Alone a) = all_keep a
all_keep Recover = true
all_keep (Call f a) = all_keep a
all_keep (Defer f a) = all_keep a
all_keep (DeferLit xs a b) = keeps xs b && (all_keep a && all_keep b)

-- The same of the parameters of all functions.
abbrev pub frames_are_kept : List PackageCode → Bool
frames_are_kept cs =
    all_keep (initial_of cs) && list_all (λ d. keeps d.1.params (code d.1) && all_keep (code d.1)) (functions_of cs)
