-- The chosen set of a call: the greatest safe one.
use Rattle.std.specs.Prelude.{◌≡◌, ℕ, Bool, false, IsTrue, Some, slice_get}
use Rattle.order_hazards.specs.declared.facts.ParamRow.{ParamRow}
use Rattle.param_choice.specs.Safe.{IsSafe}
use Rattle.param_choice.specs.declared.table.CallTable.{CallTable}

-- where constants are left out, no argument of the set is one (Go specification, "Constant expressions")
abbrev pub IsWithin : CallTable → Bool → (ℕ → Bool) → Type 0
IsWithin t constants s =
    constants ≡ false → (i : ℕ) (r : ParamRow) → IsTrue (s i) → slice_get t.rows i ≡ Some r → r.constant ≡ false

-- the set is safe, and every safe set lies in it
pub record IsGreatest (t : CallTable) (constants : Bool) (s : ℕ → Bool) : Type 0 where
  pub safe : IsSafe t s
  pub within : IsWithin t constants s
  pub greatest : (u : ℕ → Bool) → IsSafe t u → IsWithin t constants u → (i : ℕ) → IsTrue (u i) → IsTrue (s i)
