use Rattle.std.proofs.Common.{sym}
use Rattle.package_blocks.proofs.NumberLemmas.{item_gone, item_there}
use Rattle.method_types.proofs.MethodSets.SetLemmas.{type_gone, type_there}
use Rattle.method_types.proofs.method_sets.sets.attached_at.Goals as goal

pub returns-in-Some : goal.returns-in-Some
returns-in-Some c =
    type_there c.args.types.now c.args.number c.in-Some.t.now
    (item_there c.args.types.now c.args.number c.in-Some.t.now c.in-Some.ensures.lookup.0 c.in-Some.ensures.lookup.1)

pub returns-in-None : goal.returns-in-None
returns-in-None c =
    sym (type_gone c.args.types.now c.args.number (item_gone c.args.types.now c.args.number c.in-None.ensures.lookup.0))
