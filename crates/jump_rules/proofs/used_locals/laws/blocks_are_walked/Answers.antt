use Rattle.jump_rules.proofs.UsedLocals.ScopeLaws.{blocks_begin, blocks_end, parts_declare, parts_use}
use Rattle.jump_rules.proofs.used_locals.laws.blocks_are_walked.Goals as goal

pub returns : goal.returns
returns c = record { begin = blocks_begin; uses = parts_use; declares = parts_declare; end = blocks_end }
