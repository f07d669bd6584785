-- The numbers that a process ends with.
use Rattle.std.specs.Prelude.{ℕ}
use Rattle.fix_run.specs.declared.status.Status.{Status}
use Rattle.fix_run.specs.declared.status.Status.TheVariants.{Done, Found, Usage, NoMemory}

-- the number of each status
abbrev pub number_of : Status → ℕ
number_of Done = 0
number_of Found = 3
number_of Usage = 2
number_of NoMemory = 4
number_of _ = 1
