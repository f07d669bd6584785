use Rattle.printed_constants.proofs.InlinedFiles.Allowed.{added_allowed}
use Rattle.printed_constants.proofs.inlined_files.laws.added_imports_are_allowed.Goals as goal

pub returns : goal.returns
returns c = λ marks st l after n path i. added_allowed marks st l after n path i
