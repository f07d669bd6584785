-- When an argument may take its parameter's place, as far as it alone tells: it is then evaluated as often as the
-- parameter is used, and where it is used (Go specification, "Calls", "Order of evaluation").
use Rattle.std.specs.Prelude.{◌≡◌, ◌≢◌, ℕ, ◌≤◌, Bool, false, IsTrue, List, ◌⊎◌}
use Rattle.order_hazards.specs.Items.{ListsUses, UsesAhead, is_write, is_effect}
use Rattle.order_hazards.specs.declared.facts.Item.{Item}
use Rattle.order_hazards.specs.declared.facts.Class.TheVariants.{Looks, Acts}
use Rattle.order_hazards.specs.declared.facts.ParamRow.{ParamRow}

-- nothing keeps the parameter bound
abbrev pub IsFree : ParamRow → Type 0
IsFree r = r.barred ≡ false

-- what is evaluated later than the call is a constant
abbrev pub IsConstantWhereDeferred : ParamRow → Type 0
IsConstantWhereDeferred r = IsTrue r.deferred_use → IsTrue r.constant

-- what is written twice or more may be
abbrev pub IsDuplicableWhereRepeated : ParamRow → Type 0
IsDuplicableWhereRepeated r = 2 ≤ r.uses → IsTrue r.duplicable

-- what is dropped does nothing, and leaves each variable that it names used elsewhere
pub record IsDroppable (r : ParamRow) : Type 0 where
  pub acts_not : r.class ≢ Acts
  pub address_not : r.address ≡ false
  pub held_not : r.names_held ≡ false
  pub last_not : r.last_use ≡ false

-- a parameter without uses may be dropped
abbrev pub IsDroppableWhereUnused : ParamRow → Type 0
IsDroppableWhereUnused r = r.uses ≡ 0 → IsDroppable r

-- what looks never comes after a write: the body has none, or all uses are listed before any
abbrev pub LooksBeforeWrites : ParamRow → ℕ → List Item → Bool → Type 0
LooksBeforeWrites r i items body_writes =
    r.class ≡ Looks → (body_writes ≡ false) ⊎ (ListsUses items i r.uses × UsesAhead items i is_write)

-- what acts does so once, and first: its one use is listed before any read, failure or write
abbrev pub ActsOnceAndFirst : ParamRow → ℕ → List Item → Type 0
ActsOnceAndFirst r i items =
    r.class ≡ Acts → (r.uses ≡ 1) × ListsUses items i 1 × UsesAhead items i is_effect

-- the argument of parameter i may take the parameter's place, as far as it alone tells
pub record IsSolo (r : ParamRow) (i : ℕ) (items : List Item) (body_writes : Bool) : Type 0 where
  pub free : IsFree r
  pub deferred : IsConstantWhereDeferred r
  pub repeated : IsDuplicableWhereRepeated r
  pub unused : IsDroppableWhereUnused r
  pub looking : LooksBeforeWrites r i items body_writes
  pub acting : ActsOnceAndFirst r i items
