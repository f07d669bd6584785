use Rattle.module_refusals.proofs.RangeLemmas.{internal_within, unnamed_within}
use Rattle.module_refusals.proofs.reasons.tell_module.Goals as goal

pub tell_import-requires-clause-within : goal.tell_import-requires-clause-within
tell_import-requires-clause-within c = unnamed_within c.args.files.now c.in-NoPackage.file c.in-NoPackage.at c.in-NoPackage.path (rw c.in-NoPackage.is at c.requires.fault)

pub tell_import-requires-in-Internal-clause-within : goal.tell_import-requires-in-Internal-clause-within
tell_import-requires-in-Internal-clause-within c = internal_within c.args.files.now c.in-Internal.file c.in-Internal.at c.in-Internal.path (rw c.in-Internal.is at c.requires.fault)
