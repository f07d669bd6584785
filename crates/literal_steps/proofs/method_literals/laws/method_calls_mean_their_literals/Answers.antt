use Rattle.literal_steps.proofs.MethodLiterals.CallMeant.{form_so, typed_alike, means_it, deferred_means_it}
use Rattle.literal_steps.proofs.method_literals.laws.method_calls_mean_their_literals.Goals as goal

pub returns-clause-form : goal.returns-clause-form
returns-clause-form c = λ same commented rs marks x u v ms l d h y o. form_so same commented rs marks x u v ms l d h y o

pub returns-clause-typed : goal.returns-clause-typed
returns-clause-typed c = λ same commented rs marks x u v ms l d h y o e q. typed_alike same commented rs marks x u v ms l d h y o e q

pub returns-clause-meaning : goal.returns-clause-meaning
returns-clause-meaning c = λ same commented rs marks x u v ms l d h y o e q free A rank ranked is_free t. means_it same commented rs marks x u v ms l d h y o e q free A rank ranked is_free t

pub returns-clause-deferred : goal.returns-clause-deferred
returns-clause-deferred c = λ same commented rs marks x u v ms l d h y o e q free A. deferred_means_it same commented rs marks x u v ms l d h y o e q free A
