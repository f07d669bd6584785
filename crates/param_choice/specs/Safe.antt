-- When a set of arguments may take their parameters' places together: none passes another that it may not pass, and
-- none gets into the scope of a bound parameter that its names would mean (Go specification, "Order of evaluation",
-- "Declarations and scope"). A set is a test of the parameters' numbers.
use Rattle.std.specs.Prelude.{◌≡◌, ◌≢◌, ℕ, ◌<◌, Bool, ◌||◌, IsTrue, length, Some, slice_get}
use Rattle.std.specs.Prelude.{Contains}
use Rattle.order_hazards.specs.Items.{IsBefore}
use Rattle.order_hazards.specs.Clash.{Clash}
use Rattle.order_hazards.specs.Solo.{IsSolo}
use Rattle.order_hazards.specs.declared.facts.ParamRow.{ParamRow}
use Rattle.param_choice.specs.declared.table.CallTable.{CallTable}

-- The parameters of the set may be replaced by their arguments, all together.
pub record IsSafe (t : CallTable) (s : ℕ → Bool) : Type 0 where
  -- its members are parameters
  pub params : (i : ℕ) → IsTrue (s i) → i < length t.rows
  -- each may be moved as far as it alone tells
  pub alone : (i : ℕ) (r : ParamRow) → IsTrue (s i) → slice_get t.rows i ≡ Some r → IsSolo r i t.items t.body_writes
  -- a later one that it clashes with moves too, and its uses come after
  pub ordered : (i j : ℕ) (r q : ParamRow) → IsTrue (s i) → i < j → slice_get t.rows i ≡ Some r →
      slice_get t.rows j ≡ Some q
      → Clash r.class q.class → IsTrue (s j) × IsBefore t.items i r.uses j
  -- another parameter whose name is free in its argument moves too, so that nothing captures the name
  pub named : (i j : ℕ) → IsTrue (s i) → Contains t.names (i, j) → j ≢ i → IsTrue (s j)

-- the parameters of either set
abbrev pub union : (ℕ → Bool) → (ℕ → Bool) → ℕ → Bool
union s u i = s i || u i
