-- Uses with their flags as values without places in memory.
use Rattle.std.specs.Prelude.{Bool}
use Rattle.member_uses.specs.Uses.{Used}
use Rattle.member_uses.specs.Views.{used_of}
use Rattle.repeated_parts.specs.declared.uses_repeated.uses.FlaggedUse.{FlaggedUse}

-- a use with its flag as a value
abbrev pub flagged_of : FlaggedUse → Used × Bool
flagged_of u = (used_of u.of, u.repeated)
