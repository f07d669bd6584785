use Rattle.literal_steps.proofs.AddedImports.StatementsAfter.{statements_typed, statements_alike, deferred_typed, deferred_alike}
use Rattle.literal_steps.proofs.added_imports.laws.call_statements_mean_literals.Goals as goal

pub returns-clause-typed : goal.returns-clause-typed
returns-clause-typed g = λ same commented rs marks x u v ms l f c d h a e q k before s ss o. statements_typed same commented rs marks x u v ms l f c d h a ss o e q k before s

pub returns-clause-terms : goal.returns-clause-terms
returns-clause-terms g = λ same commented rs marks x u v ms l f c d h a e q s ss o free A rank ranked is_free j r y. statements_alike same commented rs marks x u v ms l f c d h a ss o e q s free A rank ranked is_free j r y

pub returns-clause-deferred : goal.returns-clause-deferred
returns-clause-deferred g = λ same commented rs marks x u v ms l f c d h a e q k before s ss o. deferred_typed same commented rs marks x u v ms l f c d h a ss o e q k before s

pub returns-clause-deferred_terms : goal.returns-clause-deferred_terms
returns-clause-deferred_terms g = λ same commented rs marks x u v ms l f c d h a e q s ss o free A rank j y. deferred_alike same commented rs marks x u v ms l f c d h a ss o e q s free A rank j y
