-- The items of a body, in the order of evaluation (Go specification, "Order of evaluation"), and where the uses of a
-- parameter stand among them.
use Rattle.std.specs.Prelude.{◌≡◌, ℕ, ◌<◌, Bool, true, false, IsTrue, nat_eq, List, Some, slice_get}
use Rattle.std.specs.List.{count_by}
use Rattle.order_hazards.specs.declared.facts.Item.{Item}
use Rattle.order_hazards.specs.declared.facts.Item.TheVariants.{Param, Read, Fail, Write, Stop}

-- a use of parameter i
abbrev pub is_use : ℕ → Item → Bool
is_use i (Param j) = nat_eq j i
is_use i Read = false
is_use i Fail = false
is_use i Write = false
is_use i Stop = false

-- an item that an argument which looks may not pass
abbrev pub is_write : Item → Bool
is_write (Param j) = false
is_write Read = false
is_write Fail = false
is_write Write = true
is_write Stop = false

-- an item that an acting argument may not pass
abbrev pub is_effect : Item → Bool
is_effect (Param j) = false
is_effect Read = true
is_effect Fail = true
is_effect Write = true
is_effect Stop = false

-- the list holds so many uses of parameter i
abbrev pub ListsUses : List Item → ℕ → ℕ → Type 0
ListsUses items i uses = count_by (is_use i) items ≡ uses

-- each listed use of parameter i stands before each item that passes the test
abbrev pub UsesAhead : List Item → ℕ → (Item → Bool) → Type 0
UsesAhead items i test =
    (k m : ℕ) (x : Item) → slice_get items k ≡ Some (Param i) → slice_get items m ≡ Some x → IsTrue (test x) → k < m

-- all uses of parameter i are listed, each of them before each use of parameter j
pub record IsBefore (items : List Item) (i uses j : ℕ) : Type 0 where
  pub all_listed : ListsUses items i uses
  pub ahead : UsesAhead items i (is_use j)
