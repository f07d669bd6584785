use Rattle.literal_steps.proofs.CallMeant.{typed_alike, means_it, deferred_means_it}
use Rattle.literal_steps.proofs.ServedPackages.Served.{packages_serve}
use Rattle.literal_steps.proofs.served_packages.laws.served_calls_mean_their_literals.Goals as goal

pub returns-clause-typed : goal.returns-clause-typed
returns-clause-typed g = λ same commented rs marks x u v ms l f c h e q. typed_alike same commented rs marks x u v ms
    l c h (packages_serve same commented rs marks x u v ms l f c h) e q

pub returns-clause-meaning : goal.returns-clause-meaning
returns-clause-meaning g = λ same commented rs marks x u v ms l f c h e q free A rank ranked is_free t. means_it same
    commented rs marks x u v ms l c h (packages_serve same commented rs marks x u v ms l f c h) e q free A rank ranked
    is_free t

pub returns-clause-deferred : goal.returns-clause-deferred
returns-clause-deferred g = λ same commented rs marks x u v ms l f c h e q free A. deferred_means_it same commented rs
    marks x u v ms l c h (packages_serve same commented rs marks x u v ms l f c h) e q free A
