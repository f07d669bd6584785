use Rattle.splice_laws.proofs.RunLaws.FilesKept.{runs_keep_files, runs_are_inlinings}
use Rattle.splice_laws.proofs.run_laws.laws.runs_keep_files.Goals as goal

pub returns-clause-keep : goal.returns-clause-keep
returns-clause-keep c = runs_keep_files

pub returns-clause-inlining : goal.returns-clause-inlining
returns-clause-inlining c = runs_are_inlinings
