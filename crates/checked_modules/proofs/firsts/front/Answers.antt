use Rattle.std.proofs.Common.{arith, sym}
use Rattle.package_blocks.proofs.HeaderLemmas.{take_all}
use Rattle.checked_modules.proofs.firsts.front.Goals as goal

pub returns-else-count-bodies : goal.returns-else-count-bodies
returns-else-count-bodies c = sym (take_all c.args.bodies.now c.args.count (omega arith))
