use Rattle.literal_steps.proofs.CallMeant.{typed_beside}
use Rattle.literal_steps.proofs.AddedImports.MeantAfter.{typed_after, means_after, deferred_after}
use Rattle.literal_steps.proofs.AddedImports.RankedAfter.{ranked_after}
use Rattle.literal_steps.proofs.added_imports.laws.calls_mean_literals_with_imports.Goals as goal

pub returns-clause-beside : goal.returns-clause-beside
returns-clause-beside g = λ same commented rs marks x u v ms l more d h y e q. typed_beside same commented rs marks x u v ms l more d h y e q

pub returns-clause-typed : goal.returns-clause-typed
returns-clause-typed g = λ same commented rs marks x u v ms l f c d h a e q. typed_after same commented rs marks x u v ms l f c d h a e q

pub returns-clause-meaning : goal.returns-clause-meaning
returns-clause-meaning g = λ same commented rs marks x u v ms l f c d h a e q free A rank ranked is_free t. means_after same commented rs marks x u v ms l f c d h a e q free A rank ranked is_free t

pub returns-clause-deferred : goal.returns-clause-deferred
returns-clause-deferred g = λ same commented rs marks x u v ms l f c d h a e q free A. deferred_after same commented rs marks x u v ms l f c d h a e q free A

pub returns-clause-ranked : goal.returns-clause-ranked
returns-clause-ranked g = λ same commented rs marks x u v ms l f c d h a e q all plain A t. ranked_after same commented rs marks x u v ms l f c d h a e q all plain A t
