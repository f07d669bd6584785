use Rattle.std.proofs.Common.{◌∙◌}
use Rattle.package_blocks.proofs.NumberLemmas.{item_gone, item_there}
use Rattle.method_types.proofs.TypeSteps.{attached_gone, attached_there}
use Rattle.method_types.proofs.headers.is_attached.Goals as goal

pub returns-in-Some : goal.returns-in-Some
returns-in-Some c =
    c.is_some.ensures
    ∙ attached_there c.args.types.now c.args.number c.in-Some.t.now
    (item_there c.args.types.now c.args.number c.in-Some.t.now c.in-Some.ensures.lookup.0 c.in-Some.ensures.lookup.1)

pub returns-in-None : goal.returns-in-None
returns-in-None c =
    attached_gone c.args.types.now c.args.number (item_gone c.args.types.now c.args.number c.in-None.ensures.lookup.0)
