use Rattle.std.proofs.Common.{◌+◌, arith, subst, sym}
use Rattle.control_steps.proofs.DeclarationSteps.BindLemmas.{SoMany, none_yet, one_more_yet, variables_bound, variables_there}
use Rattle.control_steps.proofs.declaration_steps.lists.zero_entities.Goals as goal

pub loop-added-init : goal.loop-added-init
loop-added-init c = subst (SoMany c.args.t 0) (sym c.new-entities.ensures.items) (none_yet c.args.t)

pub loop-added-preserved : goal.loop-added-preserved
loop-added-preserved c =
    subst (SoMany c.args.t (c.loop-added._added + 1)) (sym c.in_ok-push.ensures.items)
    (one_more_yet c.args.t c.loop-added._added c.loop-added.entities.items c.loop-added.invariant)

pub returns-clause-there : goal.returns-clause-there
returns-clause-there c =
    let k = c.args.tables.now in
    variables_there k.env k.consts c.args.t c.loop-added.entities.items c.loop-added.invariant.all
    (record { types = c.requires; value = tt })

pub returns-clause-is : goal.returns-clause-is
returns-clause-is c =
    λ ns l.
    let k = c.args.tables.now in
    let n = c.loop-added.invariant.count in
    variables_bound k.env k.consts c.args.t ns c.loop-added.entities.items (omega (arith, l, n))
    c.loop-added.invariant.all
