use Rattle.std.proofs.Common.{arith}
use Rattle.exported_names.proofs.UpperLaws.{past_upper}
use Rattle.exported_names.proofs.exported.is_upper_letter.Goals as goal

pub returns-else-c-le-LAST : goal.returns-else-c-le-LAST
returns-else-c-le-LAST c = past_upper c.args.c (omega arith)
