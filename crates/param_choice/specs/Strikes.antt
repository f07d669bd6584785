-- What striking out keeps: each set that is left holds every safe set.
use Rattle.std.specs.Prelude.{◌≡◌, ◌≢◌, ℕ, ◌<◌, Bool, false, IsTrue, ◌⊎◌, List, length, Some}
use Rattle.std.specs.Prelude.{slice_get, Contains}
use Rattle.order_hazards.specs.Items.{IsBefore}
use Rattle.order_hazards.specs.Clash.{Clash}
use Rattle.order_hazards.specs.Solo.{IsSolo}
use Rattle.order_hazards.specs.declared.facts.ParamRow.{ParamRow}
use Rattle.param_choice.specs.Chosen.{has}
use Rattle.param_choice.specs.Safe.{IsSafe}
use Rattle.param_choice.specs.Greatest.{IsWithin}
use Rattle.param_choice.specs.declared.table.CallTable.{CallTable}

-- parameter i clashes with the later parameter j
pub record ClashNeeds (t : CallTable) (i j : ℕ) : Type 0 where
  pub later : i < j
  pub mine : ParamRow
  pub other : ParamRow
  pub at_mine : slice_get t.rows i ≡ Some mine
  pub at_other : slice_get t.rows j ≡ Some other
  pub clashes : Clash mine.class other.class

-- argument i names the other parameter j
pub record NameNeeds (t : CallTable) (i j : ℕ) : Type 0 where
  pub names : Contains t.names (i, j)
  pub others : j ≢ i

-- i is kept, and a parameter without which it may not be chosen is out
pub record Lacks (t : CallTable) (kept : List Bool) (i j : ℕ) : Type 0 where
  pub keeps : IsTrue (has kept i)
  pub out : has kept j ≡ false
  pub needs : ClashNeeds t i j ⊎ NameNeeds t i j

-- i is kept, and one that it needs in this way is out
abbrev pub LacksOne : (ℕ → ℕ → Type 0) → List Bool → ℕ → Type 0
LacksOne Needs kept i = IsTrue (has kept i) × (j : ℕ) × (has kept j ≡ false) × Needs i j

-- what a kept one needs in this way is kept
abbrev pub NoneLacks : (ℕ → ℕ → Type 0) → List Bool → Type 0
NoneLacks Needs kept = (i j : ℕ) → IsTrue (has kept i) → Needs i j → IsTrue (has kept j)

-- where i clashes with the later j, all its uses come before those of j
abbrev pub Precedes : CallTable → ℕ → ℕ → Type 0
Precedes t i j = (n : ClashNeeds t i j) → IsBefore t.items i n.mine.uses j

-- an argument is wanted, and may be moved as far as it alone tells
abbrev pub MovesAlone : CallTable → Bool → ℕ → ParamRow → Type 0
MovesAlone t constants i r = (constants ≡ false → r.constant ≡ false) × IsSolo r i t.items t.body_writes

-- parameter i may be chosen as far as no other has to be
pub record Fits (t : CallTable) (constants : Bool) (i : ℕ) : Type 0 where
  pub wanted : (r : ParamRow) → slice_get t.rows i ≡ Some r → constants ≡ false → r.constant ≡ false
  pub alone : (r : ParamRow) → slice_get t.rows i ≡ Some r → IsSolo r i t.items t.body_writes
  pub precedes : (j : ℕ) → Precedes t i j

-- each kept parameter fits, and each safe set is kept
pub record IsOpen (t : CallTable) (constants : Bool) (kept : List Bool) : Type 0 where
  pub len : length kept ≡ length t.rows
  pub fits : (i : ℕ) → IsTrue (has kept i) → Fits t constants i
  pub covers : (s : ℕ → Bool) → IsSafe t s → IsWithin t constants s → (i : ℕ) → IsTrue (s i) → IsTrue (has kept i)
