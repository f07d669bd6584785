-- Bodies and returns, as the forms of a call need them (Go specification, "Return statements", "Blocks", "Labeled
-- statements", "Defer statements").
use Rattle.std.specs.Prelude.{bytes_eq, nat_eq, ℕ, List, [], ◌∷◌, ◌++◌, length, Bool, true, false}
use Rattle.std.specs.Prelude.{if◌then◌else◌, Option, Some, None}
use Rattle.go_kernel.specs.Kernel.{Name, Label, return_label, Truth, Program, Fail, Save, Unchecked, Slot, InFrame}
use Rattle.go_kernel.specs.Kernel.{InCell, Term, Vals, Local, Set, Both, Prim, If, Let, Loop, Leave, Catch, Within}
use Rattle.go_kernel.specs.Kernel.{Alone, Recover, Call, Defer, DeferLit}
use Rattle.go_kernel.specs.Scope.{has, slot_name}
use Rattle.go_kernel.specs.Conditions.{width, each_free, none_in}

-- result slots in the frame
abbrev pub in_frames : List Name → List Slot
in_frames [] = []
in_frames (x ∷ xs) = InFrame x ∷ in_frames xs

-- sets result slots to what these variables hold
abbrev pub give_slots : List Slot → List Name → Term
give_slots (InFrame r ∷ rs) (t ∷ ts) = Both (Set (r ∷ []) (Local t)) (give_slots rs ts)
give_slots (InCell r ∷ rs) (t ∷ ts) = Both (Prim (Save Unchecked) (Both (Local r) (Local t))) (give_slots rs ts)
give_slots [] ts = Vals []
give_slots rs [] = Vals []

-- a 'return' where results stand in the frame, and one where they may live in variables that pointers lead to: its
-- operands are evaluated before any result is set
abbrev pub return_to : List Name → Term → Term
return_to ss e = Let [] (Set ss e) (Leave return_label)

-- a 'return' where a result may live in a variable that a pointer leads to
abbrev pub return_to_slots : List Slot → List Name → Term → Term
return_to_slots rs ts e = Let [] (Let ts e (give_slots rs ts)) (Leave return_label)

-- the locals in which result slots stand, or which point to them
abbrev pub slot_names : List Slot → List Name
slot_names [] = []
slot_names (r ∷ rs) = slot_name r ∷ slot_names rs

-- no name stands twice
abbrev pub distinct_names : List Name → Bool
distinct_names [] = true
distinct_names (x ∷ xs) = if has x xs then false else distinct_names xs

-- a term leaves by panics and to these labels alone, and defers nothing
abbrev pub tidy : List Label → Term → Bool
tidy ls (Vals v) = true
tidy ls (Local x) = true
tidy ls (Set xs a) = tidy ls a
tidy ls (Both a b) = if tidy ls a then tidy ls b else false
tidy ls (Prim o a) = tidy ls a
tidy ls (If a b c) = if tidy ls a then (if tidy ls b then tidy ls c else false) else false
tidy ls (Let xs a b) = if tidy ls a then tidy ls b else false
tidy ls (Loop a b) = if tidy ls a then tidy ls b else false
tidy ls (Leave l) = has l ls
tidy ls (Catch l a) = tidy (l ∷ ls) a
tidy ls (Within a rs) = true
tidy ls (Alone a) = tidy ls a
tidy ls Recover = true
tidy ls (Call f a) = tidy ls a
tidy ls (Defer f a) = false
tidy ls (DeferLit xs a b) = false

-- a term that never ends with values: what follows it never runs (Go specification, "Terminating statements")
abbrev pub never : Term → Bool
never (Leave l) = true
never (Prim (Fail t) a) = true
never (Both a b) = if never a then true else never b
never (Let xs a b) = if never a then true else never b
never (If c a b) = if never a then never b else false
never (Loop (Vals (Truth true ∷ [])) b) = true
never (Catch l a) = if bytes_eq l return_label then false else if never a then tidy (return_label ∷ []) a else false
never _ = false

-- ---- a body's returns turned to another way of returning

-- the same names in the same order
abbrev pub same_names : List Name → List Name → Bool
same_names [] [] = true
same_names (x ∷ xs) (y ∷ ys) = if bytes_eq x y then same_names xs ys else false
same_names _ _ = false

-- a jump to the end of the body
abbrev pub is_return : Term → Bool
is_return (Leave l) = bytes_eq l return_label
is_return _ = false

-- what an assignment to exactly these slots assigns
abbrev pub sets_slots : List Name → Term → Option Term
sets_slots ss (Set xs e) = if same_names xs ss then Some e else None
sets_slots ss _ = None

-- what 'Let xs a b' returns, where it is a return
abbrev pub returned : List Name → List Name → Term → Term → Option Term
returned ss [] a b = if is_return b then sets_slots ss a else None
returned ss (x ∷ xs) a b = None

-- a return of e made one that sets what 'sink e' sets; where it is none, the term
abbrev pub turned : (Term → Term) → Option Term → Term → Term
turned sink (Some e) t = Let [] (sink e) (Leave return_label)
turned sink None t = t

-- the body with each return of e into the slots ss made one that sets what 'sink e' sets
abbrev pub retarget : List Name → (Term → Term) → Term → Term
retarget ss sink (Let xs a b) = turned sink (returned ss xs a b) (Let xs (retarget ss sink a) (retarget ss sink b))
retarget ss sink (Both a b) = Both (retarget ss sink a) (retarget ss sink b)
retarget ss sink (If c a b) = If c (retarget ss sink a) (retarget ss sink b)
retarget ss sink (Loop c b) = Loop c (retarget ss sink b)
retarget ss sink (Catch l a) = Catch l (retarget ss sink a)
retarget ss sink t = t

-- the number of values is known, and is n
abbrev pub has_width : Option ℕ → ℕ → Bool
has_width (Some k) n = nat_eq k n
has_width None n = false

-- a body's parts that aren't returns name no slot, assign none but parameters ps and variables of their own, and are
-- tidy; its returns set all slots, in no scope of a variable that 'clear' refuses
module _ (P : Program) (ps ss : List Name) (clear : List Name → Bool) where
  -- a part that isn't a return names no slot
  abbrev pub may_read : List Name → Name → Bool
  may_read g x = if has x ss then false else true

  -- it assigns parameters alone, besides variables of its own
  abbrev pub may_set : List Name → Name → Bool
  may_set g x = if has x ss then false else has x ps

  -- a part that isn't a return: it keeps to those names and is tidy
  abbrev pub works : List Label → List Name → Term → Bool
  works ls g t = if each_free may_read may_set false g t then tidy ls t else false

  -- a return gives as many values as there are slots, names none of them, and is in no scope of a slot's name or of a
  -- name that 'clear' refuses
  abbrev pub returns : List Name → Term → Bool
  returns g e =
      if (if each_free may_read may_set false g e then has_width (width P e) (length ss) else false)
      then (if none_in ss g then clear g else false) else false

  -- the check of a return, or else that of another term
  abbrev pub returns_or : Option Term → List Name → Bool → Bool
  returns_or (Some e) g b = returns g e
  returns_or None g b = b

  -- a body each of whose parts is such
  abbrev pub turns : List Label → List Name → Term → Bool
  turns ls g (Let xs a b) = returns_or (returned ss xs a b) g (if turns ls g a then turns ls (xs ++ g) b else false)
  turns ls g (Both a b) = if turns ls g a then turns ls g b else false
  turns ls g (If c a b) = if works ls g c then (if turns ls g a then turns ls g b else false) else false
  turns ls g (Loop c b) = if works ls g c then turns ls g b else false
  turns ls g (Catch l a) = if bytes_eq l return_label then false else turns (l ∷ ls) g a
  turns ls g t = works ls g t
