use Rattle.std.proofs.Common.{arith, sym}
use Rattle.typed_names.proofs.TypeExprs.NewNames.{drop_all}
use Rattle.checked_modules.proofs.firsts.behind.Goals as goal

pub returns-else-count-bodies : goal.returns-else-count-bodies
returns-else-count-bodies c = sym (drop_all c.args.bodies.now c.args.count (omega arith))
