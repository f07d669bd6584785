use Rattle.std.proofs.Common.{◌≡◌, length, arith}
use Rattle.text_edits.specs.Applied.{applied}
use Rattle.next_file.proofs.Made.{fault_told, within_limits}
use Rattle.next_file.proofs.file.new_file.Goals as goal

pub returns-in-Ok-read_again-clause-within : goal.returns-in-Ok-read_again-clause-within
returns-in-Ok-read_again-clause-within c =
    let size : c.len.result ≡ length c.in-Ok.new.items = omega arith in
    within_limits c.args.progress.now c.len.result c.in-Ok.new.items c.in-Ok-read_again.file c.in_default-first_passed.ensures.kept size c.in-Ok-read_again.ensures.read

pub returns-in-Err-clause-refused : goal.returns-in-Err-clause-refused
returns-in-Err-clause-refused c =
    let size : c.len.result ≡ length c.in-Ok.new.items = omega arith in
    fault_told c.args.progress.now c.len.result c.in-Ok.new.items (applied c.args.text.now c.args.edits.now) c.in-Err.fault c.in_default-first_passed.ensures.kept size c.in-Ok.ensures.applied c.in-Err.ensures.refused
