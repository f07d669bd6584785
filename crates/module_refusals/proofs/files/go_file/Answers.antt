use Rattle.module_refusals.proofs.FileLemmas.{file_found}
use Rattle.module_refusals.proofs.files.go_file.Goals as goal

pub unreachable-requires : goal.unreachable-requires
unreachable-requires c = file_found c.args.files.now c.loop-file.file-index c.loop-file.left c.args.number c.loop-file-test.false c.requires c.loop-file.invariant
