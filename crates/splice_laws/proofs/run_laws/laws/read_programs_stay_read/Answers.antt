use Rattle.splice_laws.proofs.RunLaws.RunsRead.{modules_read, steps_keep_reading}
use Rattle.splice_laws.proofs.RunLaws.PathsOwn.{paths_own}
use Rattle.splice_laws.proofs.run_laws.laws.read_programs_stay_read.Goals as goal

pub returns-clause-read : goal.returns-clause-read
returns-clause-read c = modules_read

pub returns-clause-paths : goal.returns-clause-paths
returns-clause-paths c = paths_own

pub returns-clause-stay : goal.returns-clause-stay
returns-clause-stay c = steps_keep_reading
