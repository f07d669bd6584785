use Rattle.std.proofs.Common.{arith}
use Rattle.scope_tables.proofs.NamedLaws.{way_entry}
use Rattle.scope_tables.proofs.named.way_of.Goals as goal

pub returns-else-count-eq0 : goal.returns-else-count-eq0
returns-else-count-eq0 c = way_entry c.args.held.now c.args.count c.requires.linked (omega (arith, c.if-count-eq0.false)) c.requires.within
