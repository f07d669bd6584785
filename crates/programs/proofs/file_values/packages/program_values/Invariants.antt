use Rattle.programs.proofs.FileValues.Filled.{HasPackages}
use Rattle.programs.proofs.file_values.packages.program_values.Given as goal

abbrev pub invariant-loop-number : goal.invariant-loop-number
invariant-loop-number l = HasPackages l.packages l.number l.values
