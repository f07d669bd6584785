use Rattle.module_refusals.proofs.RangeLemmas.{mixed_within}
use Rattle.module_refusals.proofs.ReasonLemmas.{fault_source, small_file}
use Rattle.module_refusals.proofs.reasons.tell_mixed.Goals as goal

pub go_file-file-requires : goal.go_file-file-requires
go_file-file-requires c = mixed_within c.args.files.now c.args.number c.args.offset c.requires.fault

pub package_name-requires-clause-small : goal.package_name-requires-clause-small
package_name-requires-clause-small c = rw c.items.ensures (small_file c.args.files.now c.args.number c.go_file-file.result.now c.requires.small c.go_file-file.ensures)

pub package_name-requires-clause-source : goal.package_name-requires-clause-source
package_name-requires-clause-source c = rw c.items.ensures (fault_source c.args.files.now c.args.number c.args.offset c.go_file-file.result.now c.requires.fault c.go_file-file.ensures)

pub at_byte-requires : goal.at_byte-requires
at_byte-requires c = small_file c.args.files.now c.args.number c.go_file-file.result.now c.requires.small c.go_file-file.ensures
