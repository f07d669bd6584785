use Rattle.literal_steps.proofs.AddedImports.MeantAfter.{typed_after, deferred_after}
use Rattle.literal_steps.proofs.AddedImports.RankedAfter.{ranked_after}
use Rattle.standing_files.proofs.UsesLinked.{packages-translated, use-linked}
use Rattle.standing_files.proofs.use_laws.calls_mean_literals_with_imports.Goals as goal

pub returns-clause-typed : goal.returns-clause-typed
returns-clause-typed g = λ x v f c d h a e q.
    typed_after x.same x.commented x.packages x.marks x.site x.becomes v x.members (use-linked x) f c d h a e q

pub returns-clause-meaning : goal.returns-clause-meaning
returns-clause-meaning g = λ x v f c d h a e q plain A t.
    ranked_after x.same x.commented x.packages x.marks x.site x.becomes v x.members (use-linked x) f c d h a e q
    (packages-translated x.packages x.marks x.members x.typed) plain A t

pub returns-clause-deferred : goal.returns-clause-deferred
returns-clause-deferred g = λ x v f c d h a e q free A.
    deferred_after x.same x.commented x.packages x.marks x.site x.becomes v x.members (use-linked x) f c d h a e q free
    A
