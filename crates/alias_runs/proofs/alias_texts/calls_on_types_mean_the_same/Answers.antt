use Rattle.alias_runs.proofs.AliasTexts.NewTypes.{call-on-type, new-same}
use Rattle.alias_runs.proofs.alias_texts.calls_on_types_mean_the_same.Goals as goal

pub returns-clause-typed : goal.returns-clause-typed
returns-clause-typed c = λ around a s b e f t z d k u. call-on-type around a s b e f t z d k u

pub returns-clause-terms : goal.returns-clause-terms
returns-clause-terms c = λ h want t s b e f n z m d k. new-same h want t s b e f n z m d k
