use Rattle.std.proofs.Common.{◌≡◌, Bool, length}
use Rattle.std.specs.List.{count_by}
use Rattle.param_choice.specs.Strikes.{IsOpen}
use Rattle.param_choice.proofs.choice.strike_out.Given as goal

abbrev pub invariant-loop-i : goal.invariant-loop-i
invariant-loop-i l =
    (length l.kept ≡ length l.t.rows) × ((constants : Bool) → IsOpen l.t constants l.initial.kept → IsOpen l.t constants l.kept)

-- how many are left
abbrev pub decreases-loop-i : goal.decreases-loop-i
decreases-loop-i l = count_by (λ b. b) l.kept
