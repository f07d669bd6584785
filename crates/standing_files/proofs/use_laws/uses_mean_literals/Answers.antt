use Rattle.literal_steps.proofs.RankedMarks.LiteralUses.{use-means}
use Rattle.literal_steps.proofs.ServedPackages.Served.{packages_serve}
use Rattle.standing_files.proofs.UsesLinked.{packages-translated, use-linked}
use Rattle.standing_files.proofs.use_laws.uses_mean_literals.Goals as goal

pub returns-clause-served : goal.returns-clause-served
returns-clause-served g = λ x v c h y e q plain A t.
    use-means x.same x.commented x.packages x.marks x.site x.becomes v x.members (use-linked x) c h y e q
    (packages-translated x.packages x.marks x.members x.typed) plain A t

pub returns-clause-home : goal.returns-clause-home
returns-clause-home g = λ x v f c h e q plain A t.
    use-means x.same x.commented x.packages x.marks x.site x.becomes v x.members (use-linked x) c h
    (packages_serve x.same x.commented x.packages x.marks x.site x.becomes v x.members (use-linked x) f c h) e q
    (packages-translated x.packages x.marks x.members x.typed) plain A t
