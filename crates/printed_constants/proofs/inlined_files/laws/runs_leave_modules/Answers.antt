use Rattle.printed_constants.proofs.InlinedFiles.Kept.{runs_keep_folders}
use Rattle.printed_constants.proofs.InlinedFiles.Runs.{read_files_stay, modules_stand, runs_leave}
use Rattle.printed_constants.proofs.inlined_files.laws.runs_leave_modules.Goals as goal

pub returns-clause-files : goal.returns-clause-files
returns-clause-files c = read_files_stay

pub returns-clause-read : goal.returns-clause-read
returns-clause-read c = modules_stand

pub returns-clause-leave : goal.returns-clause-leave
returns-clause-leave c = runs_leave

pub returns-clause-keep : goal.returns-clause-keep
returns-clause-keep c = runs_keep_folders
