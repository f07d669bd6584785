-- Classes of arguments: what evaluating one may do (Go specification, "Order of evaluation", "Run-time panics").
use Rattle.std.specs.Prelude.{Bool, true, false, if◌then◌else◌}
use Rattle.go_kernel.specs.Kernel.{Effect, effect, Term, Vals, Local, Both, Prim, If}

-- Steady can't panic and looks at the frame alone; Looks can't panic and changes nothing; Acts is all else
pub data Class : Type 0 where
  Steady Looks Acts : Class

-- can't panic, changes nothing and takes no choice
abbrev pub only_looks : Effect → Bool
only_looks e = if e.may_panic then false else if e.writes then false else if e.draws then false else true

-- and doesn't look at the store either
abbrev pub only_computes : Effect → Bool
only_computes e = if e.reads then false else only_looks e

-- primitives that can't panic and change nothing, on values, locals and each other, and choices among them
abbrev pub looks : Term → Bool
looks (Vals v) = true
looks (Local y) = true
looks (Both a b) = if looks a then looks b else false
looks (Prim o a) = if only_looks (effect o) then looks a else false
looks (If c a b) = if looks c then (if looks a then looks b else false) else false
looks _ = false

-- the same with primitives that don't look at the store either
abbrev pub steady : Term → Bool
steady (Vals v) = true
steady (Local y) = true
steady (Both a b) = if steady a then steady b else false
steady (Prim o a) = if only_computes (effect o) then steady a else false
steady (If c a b) = if steady c then (if steady a then steady b else false) else false
steady _ = false

-- the narrowest class of a term
abbrev pub class_of : Term → Class
class_of a = if steady a then Steady else if looks a then Looks else Acts

-- the class of terms that may do anything
abbrev pub is_acts : Class → Bool
is_acts Acts = true
is_acts _ = false

-- a class that allows all that another does
abbrev pub allows : Class → Class → Bool
allows Steady Steady = true
allows Steady c = false
allows Looks Acts = false
allows Looks c = true
allows Acts c = true

-- two arguments of which one acts and the other acts or looks keep their order
abbrev pub clash : Class → Class → Bool
clash Acts Acts = true
clash Acts Looks = true
clash Looks Acts = true
clash _ _ = false
