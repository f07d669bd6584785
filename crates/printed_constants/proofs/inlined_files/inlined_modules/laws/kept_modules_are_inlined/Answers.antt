use Rattle.printed_constants.proofs.InlinedFiles.InlinedModules.Runs.{kept_inlined}
use Rattle.printed_constants.proofs.inlined_files.inlined_modules.laws.kept_modules_are_inlined.Goals as goal

pub returns : goal.returns
returns c = kept_inlined
