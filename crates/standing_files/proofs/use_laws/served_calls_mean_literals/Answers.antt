use Rattle.literal_steps.proofs.CallMeant.{typed_alike, means_it, deferred_means_it}
use Rattle.literal_steps.proofs.ServedPackages.Served.{packages_serve}
use Rattle.standing_files.proofs.UsesLinked.{use-linked}
use Rattle.standing_files.proofs.use_laws.served_calls_mean_literals.Goals as goal

pub returns-clause-typed : goal.returns-clause-typed
returns-clause-typed g = λ x v f c h e q.
    typed_alike x.same x.commented x.packages x.marks x.site x.becomes v x.members (use-linked x) c h
    (packages_serve x.same x.commented x.packages x.marks x.site x.becomes v x.members (use-linked x) f c h) e q

pub returns-clause-meaning : goal.returns-clause-meaning
returns-clause-meaning g = λ x v f c h e q free A rank ranked is_free t.
    means_it x.same x.commented x.packages x.marks x.site x.becomes v x.members (use-linked x) c h
    (packages_serve x.same x.commented x.packages x.marks x.site x.becomes v x.members (use-linked x) f c h) e q free
    A rank ranked is_free t

pub returns-clause-deferred : goal.returns-clause-deferred
returns-clause-deferred g = λ x v f c h e q free A.
    deferred_means_it x.same x.commented x.packages x.marks x.site x.becomes v x.members (use-linked x) c h
    (packages_serve x.same x.commented x.packages x.marks x.site x.becomes v x.members (use-linked x) f c h) e q free
    A
