-- Conditions on terms that are computed: how many values a term gives, and what holds of each name that is free in it.
use Rattle.std.specs.Prelude.{nat_eq, ℕ, zero, ◌+◌, List, [], ◌∷◌, ◌++◌, length, Bool, true, false}
use Rattle.std.specs.Prelude.{if◌then◌else◌, Option, Some, None}
use Rattle.go_kernel.specs.Kernel.{Name, gives, Slot, Term, Vals, Local, Set, Both, Prim, If, Let, Loop, Leave, Catch}
use Rattle.go_kernel.specs.Kernel.{Within, Alone, Recover, Call, Defer, DeferLit, Program}
use Rattle.go_kernel.specs.Scope.{has, slot_name}

-- the sum, where both are known
abbrev pub plus : Option ℕ → Option ℕ → Option ℕ
plus (Some i) (Some j) = Some (i + j)
plus _ _ = None

-- the second, where the first is known
abbrev pub then' : Option ℕ → Option ℕ → Option ℕ
then' (Some i) w = w
then' None w = None

-- the number, where both are known and equal
abbrev pub equal' : Option ℕ → Option ℕ → Option ℕ
equal' (Some i) (Some j) = if nat_eq i j then Some i else None
equal' _ _ = None

-- the number of values of an expression: of a term that ends by values or a panic, and defers nothing
module _ (P : Program) where
  -- how many values a term gives, where the text tells it
  abbrev pub width : Term → Option ℕ
  width (Vals v) = Some (length v)
  width (Local x) = Some 1
  width (Both a b) = plus (width a) (width b)
  width (Prim o a) = then' (width a) (Some (gives o))
  width (If c a b) = then' (width c) (equal' (width a) (width b))
  width (Let xs a b) = then' (width a) (width b)
  width (Within a rs) = Some (length rs)
  width (Alone a) = width a
  width Recover = Some 1
  width (Call f a) = then' (width a) (Some (length (P f).results))
  width _ = None

-- u of each use of a free name and s of each assignment to one, under the names that are bound there; the result slots
-- of literals are their own; and 'recover' stands in literals alone, or where r says that it may
module _ (u s : List Name → Name → Bool) where
  -- of each name that is assigned and not bound in the term, `s` holds
  abbrev pub each_set : List Name → List Name → Bool
  each_set g [] = true
  each_set g (x ∷ xs) = if (if has x g then true else s g x) then each_set g xs else false

  -- result slots that are bound in the term
  abbrev pub own_slots : List Slot → List Name → Bool
  own_slots [] g = true
  own_slots (r ∷ rs) g = if has (slot_name r) g then own_slots rs g else false

  -- `u` holds of each name that is used free in the term, and `s` of each that is assigned there; `r` allows 'recover'
  abbrev pub each_free : Bool → List Name → Term → Bool
  each_free r g (Vals v) = true
  each_free r g (Local x) = if has x g then true else u g x
  each_free r g (Set xs a) = if each_set g xs then each_free r g a else false
  each_free r g (Both a b) = if each_free r g a then each_free r g b else false
  each_free r g (Prim o a) = each_free r g a
  each_free r g (If a b c) = if each_free r g a then (if each_free r g b then each_free r g c else false) else false
  each_free r g (Let xs a b) = if each_free r g a then each_free r (xs ++ g) b else false
  each_free r g (Loop a b) = if each_free r g a then each_free r g b else false
  each_free r g (Leave l) = true
  each_free r g (Catch l a) = each_free r g a
  each_free r g (Within a rs) = if own_slots rs g then each_free r g a else false
  each_free r g (Alone a) = each_free true g a
  each_free r g Recover = r
  each_free r g (Call f a) = each_free r g a
  each_free r g (Defer f a) = each_free r g a
  each_free r g (DeferLit xs a b) = if each_free r g a then each_free true (xs ++ g) b else false

-- a name that the laws rename to
abbrev pub is_spare : Name → Bool
is_spare (zero ∷ k ∷ []) = true
is_spare _ = false

-- none of the names is one that the laws rename to
abbrev pub no_spares : List Name → Bool
no_spares [] = true
no_spares (x ∷ g) = if is_spare x then false else no_spares g

-- none of these names is among those
abbrev pub none_in : List Name → List Name → Bool
none_in [] g = true
none_in (x ∷ fr) g = if has x g then false else none_in fr g
