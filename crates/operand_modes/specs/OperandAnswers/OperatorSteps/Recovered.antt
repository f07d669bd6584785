-- What `recover()` gives (Go specification, Handling panics).
use Rattle.std.specs.Prelude.{Bool, true, false}
use Rattle.operand_modes.specs.declared.modes.Operand.{Operand}
use Rattle.operand_modes.specs.declared.modes.Operand.TheVariants.{Recovered}

-- the operand is it
abbrev pub is_recovered : Operand → Bool
is_recovered Recovered = true
is_recovered o = false
