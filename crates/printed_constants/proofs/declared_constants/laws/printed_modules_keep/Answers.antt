use Rattle.printed_constants.proofs.declared_constants.laws.printed_modules_keep.Goals as goal

pub returns-clause-runs : goal.returns-clause-runs
returns-clause-runs c = λ files ps texts only last log r octets typed printed constants small run fits.
    c.printed_runs_keep.ensures.runs files ps texts only last log r octets typed printed constants (c.declared_constants_name_constants.ensures.read files ps texts only r octets typed printed constants) small run fits

pub returns-clause-inlinings : goal.returns-clause-inlinings
returns-clause-inlinings c = λ files ps texts only after report i octets typed printed constants small.
    c.printed_runs_keep.ensures.inlinings files ps texts only after report i octets typed printed constants (c.declared_constants_name_constants.ensures.read files ps texts only i.read octets typed printed constants) small
