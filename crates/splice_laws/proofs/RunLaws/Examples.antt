-- The laws, each applied to a run of one step over one file.
use Rattle.std.proofs.Common.{List, []}
use Rattle.pkg_graph.specs.Reads.{Source}
use Rattle.run_rules.specs.Marks.{marks_of}
use Rattle.run_rules.specs.Run.{Run, FilesKeep, bytes_of}
use Rattle.run_rules.specs.Inlining.{standing_as_read}
use Rattle.run_rules.proofs.ModulesRead.{folder, small_module}
use Rattle.run_rules.proofs.RunsOfConstants.{one_constant, one_constant_run}
use Rattle.splice_laws.specs.RunLaws.Reading.{ProgramReads, OnePathEach}
use Rattle.splice_laws.specs.RunLaws.Laws.{AllApart, OneTextEach}
use Rattle.splice_laws.proofs.RunLaws.PathsOwn.{paths_own}
use Rattle.splice_laws.proofs.RunLaws.RunsRead.{modules_read, run_edits_apart}
use Rattle.splice_laws.proofs.RunLaws.FilesKept.{runs_keep_files}

abbrev files : List Source
files = folder small_module one_constant.texts

the_run : Run (marks_of one_constant.packages one_constant.texts []) (standing_as_read one_constant.packages one_constant.texts) one_constant_run.log one_constant_run.last
the_run = one_constant_run.run

reads : ProgramReads (standing_as_read one_constant.packages one_constant.texts)
reads = modules_read files one_constant.packages one_constant.texts one_constant_run.read

own : OnePathEach one_constant.packages × OneTextEach one_constant.texts
own = paths_own files one_constant.packages one_constant.texts one_constant_run.read

apart : AllApart the_run
apart = run_edits_apart files one_constant.packages one_constant.texts (marks_of one_constant.packages one_constant.texts []) one_constant_run.last one_constant_run.log one_constant_run.read the_run

keeps : FilesKeep one_constant_run.log (bytes_of one_constant.texts) (bytes_of one_constant_run.last.texts)
keeps = runs_keep_files files one_constant.packages one_constant.texts (marks_of one_constant.packages one_constant.texts []) one_constant_run.last one_constant_run.log one_constant_run.read the_run
