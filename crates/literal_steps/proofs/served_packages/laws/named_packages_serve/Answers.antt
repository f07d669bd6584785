use Rattle.literal_steps.proofs.ServedPackages.Served.{types_served, body_served, types_away, packages_serve}
use Rattle.literal_steps.proofs.served_packages.laws.named_packages_serve.Goals as goal

pub returns-clause-served : goal.returns-clause-served
returns-clause-served g = λ same commented rs marks x u v ms l f c h.
    (types_served same commented rs marks x u v ms l f c h, body_served same commented rs marks x u v ms l f c h)

pub returns-clause-own : goal.returns-clause-own
returns-clause-own g = λ same commented rs marks x u v ms l f c h.
    (types_away same commented rs marks x u v ms l f c h, packages_serve same commented rs marks x u v ms l f c h)
