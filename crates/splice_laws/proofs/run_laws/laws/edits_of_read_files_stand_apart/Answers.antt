use Rattle.splice_laws.proofs.RunLaws.StepsApart.{edits_apart}
use Rattle.splice_laws.proofs.RunLaws.RunsRead.{run_edits_apart}
use Rattle.splice_laws.proofs.run_laws.laws.edits_of_read_files_stand_apart.Goals as goal

pub returns-clause-step : goal.returns-clause-step
returns-clause-step c = edits_apart

pub returns-clause-run : goal.returns-clause-run
returns-clause-run c = run_edits_apart
