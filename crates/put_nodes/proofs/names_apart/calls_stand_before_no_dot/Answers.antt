use Rattle.put_nodes.proofs.NamesApart.NoDots.{callee_undotted}
use Rattle.put_nodes.proofs.names_apart.calls_stand_before_no_dot.Goals as goal

pub returns : goal.returns
returns c = λ text tokens comments file new header e f scans spells undotted into. callee_undotted text tokens comments file new header e f scans spells undotted into
