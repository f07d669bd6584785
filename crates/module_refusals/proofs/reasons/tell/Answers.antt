use Rattle.module_refusals.proofs.RangeLemmas.{text_within}
use Rattle.module_refusals.proofs.reasons.tell.Goals as goal

pub tell_text-requires-clause-within : goal.tell_text-requires-clause-within
tell_text-requires-clause-within c = text_within c.args.files.now c.in-Text.file c.in-Text.fault (rw c.in-Text.is at c.requires.fault)
