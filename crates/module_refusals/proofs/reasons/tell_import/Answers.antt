use Rattle.module_refusals.proofs.ReasonLemmas.{small_file}
use Rattle.module_refusals.proofs.reasons.tell_import.Goals as goal

pub at_byte-requires : goal.at_byte-requires
at_byte-requires c = small_file c.args.files.now c.args.number c.go_file.result.now c.requires.small c.go_file.ensures
